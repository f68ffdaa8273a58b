-- THE COST IS NEVER +0. A point's log density is never -0, so neither is its product with a count; the sum, which
-- starts at -0, is -0 only where nothing was added;
-- and cost refuses with 6 where nothing was recovered. (-0 does occur: where the log-likelihood is +0.) Assumes
-- nothing.
use Prim.Native.Nat.{ℕ, suc, ◌+◌, ◌≤◌, ◌<◌}
use mathlib.Core.Path.{◌≡◌, refl, sym, ap, ◌∙◌}
use mathlib.Core.Bool.{Bool, true, false, not, ◌&&◌, cond, true≢false}
use mathlib.Core.List.{List}
use native.Mathlib.Numerals.{add-one}
use native.Mathlib.Omega.{arith}
use borrow.Author.Tests.{eqb-false}
use lib.IntN.{ℤ, pos}
use lib.Dec.{T, eqb}
use lib.ListN.{length}
use lib.Ieee.{Float, nan, inf, fin, binary64, of_bits, of_int, round, neg, le, fits}
use lib.Ieee.Fits.{add-fits, sub-fits, mul-fits}
use lib.Ieee.Order.{round_mono}
use Rattle.meaning.specs.Fold.{fold}
use Rattle.meaning.specs.Reply.{give}
use Rattle.meaning.proofs.Folds.{fold_more, fold-keeps, fold-none}
use Rattle.meaning.proofs.Chains.{gave-passed}
use Rattle.meaning.proofs.Replies.{gave-answer}
use Rattle.routines.specs.Constants as constants
use Rattle.routines.specs.Ops.{◌⊕◌, of_count}
use Rattle.routines.proofs.Zeros.{sum-minus-zero, product-minus-zero}
use Rattle.helpers.proofs.LogLaws.{lse3-fits, lse3-not-minus-zero}
use Rattle.models.specs.Claims.{masses_at, total_at}
use Rattle.models.specs.Costs.{mode_held, likelihood_usable, cost_at, cost_of}
use Rattle.models.specs.Likelihoods.{point_with, point_term, likelihood_of}
use Rattle.models.specs.Masses.{masses_usable}
use Rattle.models.specs.Params.{params_of}
use Rattle.models.specs.Recovery.{used_scale_of}
use Rattle.models.specs.Refusals.{fit_tests}
use Rattle.models.specs.Spectra.{recovered_at, seen_term, observed_step, over_observed, all_step, all_of}
use Rattle.models.specs.Spectra.{none_recovered_of}
use Rattle.models.specs.Usable.{params_usable}
use Rattle.models.specs.declared.families.ErrorModel.{ErrorModel}
use Rattle.models.specs.declared.families.GenomeModel.{GenomeModel}
use Rattle.models.specs.declared.params.Params.{Params}
use Rattle.models.specs.declared.window_masses.WindowMasses.{WindowMasses}
use Rattle.models.proofs.Infinite.{costed, cost-is}
use Rattle.models.proofs.Passed.{passed}

-- an `f64` that is not -0
pub record Other (x : Float) : Type 0 where
  pub held : T (fits binary64 x)
  pub other : (g : ℤ) → x ≡ fin true 0 g → ⊥

-- ---- one point
point-other : (p : Params) (m : WindowMasses) (lobe second count : Float) (table : List Float) → Other (point_with p m lobe second count table)
unfolding point_with
point-other p m lobe second count table =
    record {
      held = lse3-fits _ _ _ (sub-fits binary64 _ _) (sub-fits binary64 _ _) (sub-fits binary64 _ _);
      other = lse3-not-minus-zero _ _ _ (sub-fits binary64 _ _) (sub-fits binary64 _ _) (sub-fits binary64 _ _);
    }

at_least_one : (n : ℕ) → 1 ≤ n → le constants.one (of_count n) ≡ true
unfolding of_int of_bits
at_least_one n h = is_true (le constants.one (of_count n)) (unfold round in round_mono binary64 1 1 n 1 (omega arith) (omega arith) (omega arith))
  where
    is_true : (b : Bool) → T b → b ≡ true
    is_true true t = refl
    is_true false t = absurd t

term-other : (p : Params) (m : WindowMasses) (table : List Float) (n i : ℕ) → 1 ≤ n → Other (point_term p m table n i)
term-other p m table n i h =
    let point = point-other p m _ _ (of_count (i + 1)) table in
    record {
      held = mul-fits binary64 _ _;
      other = λ (g : ℤ) (e : point_term p m table n i ≡ fin true 0 g). point.other (pos 0) (product-minus-zero (of_count n) _ g (at_least_one n h) point.held e);
    }

-- ---- the sum over the observed bins
module _ (bins : List ℕ) (scale : Float) (term : ℕ → ℕ → Float) (terms : (n i : ℕ) → 1 ≤ n → Other (term n i)) where
  abbrev empty : ℕ → Bool
  empty i = eqb (recovered_at bins scale i) 0

  -- a total that is -0 has seen empty bins alone
  record So (k : ℕ) (total : Float) : Type 0 where
    pub held : T (fits binary64 total)
    pub none : (g : ℤ) → total ≡ fin true 0 g → all_of empty k ≡ true

  one_more : (k : ℕ) → all_of empty (suc k) ≡ all_of empty k && empty k
  unfolding all_of
  one_more k = ap (λ (n : ℕ). fold (all_step empty) 0 n true) (sym (add-one k)) ∙ fold_more (all_step empty) 0 k true (omega arith)

  some : (n : ℕ) → eqb n 0 ≡ false → 1 ≤ n
  some n h = above n (eqb-false n 0 h)
    where
      above : (n : ℕ) → (n ≡ 0 → ⊥) → 1 ≤ n
      above n h = omega (arith, h)

  goes : (k : ℕ) (total : Float) → So k total → So (suc k) (observed_step bins scale term k total)
  unfolding seen_term
  goes k total so = go (empty k) refl
    where
      go : (b : Bool) → empty k ≡ b → So (suc k) (cond b total (total ⊕ term (recovered_at bins scale k) k))
      go true e = record {
        held = so.held;
        none = λ (g : ℤ) (z : total ≡ fin true 0 g). one_more k ∙ ap (λ (b : Bool). b && empty k) (so.none g z) ∙ e;
      }
      go false e =
          let t = terms (recovered_at bins scale k) k (some (recovered_at bins scale k) e) in
          record {
            held = add-fits binary64 _ _;
            none = λ (g : ℤ) (z : total ⊕ term (recovered_at bins scale k) k ≡ fin true 0 g). absurd (t.other (pos 0) (sum-minus-zero total _ g so.held t.held z).1);
          }

  minus-zero-none : (top : ℕ) (g : ℤ) → over_observed bins scale top term ≡ fin true 0 g → none_recovered_of bins scale top ≡ true
  unfolding over_observed
  minus-zero-none top = (fold-keeps (observed_step bins scale term) So 0 top (neg constants.zero) (omega arith) (λ (k : ℕ) (x : Float) (l : 0 ≤ k) (h : k < top). goes k x) begin).none
    where
      begin : So 0 (neg constants.zero)
      begin = record {
        held = unfold neg of_bits fits in tt;
        none = λ g z. unfold all_of in fold-none (all_step empty) 0 0 true (omega arith);
      }

-- ---- the cost
abbrev Plus : Float → Type 0
Plus x = (g : ℤ) → x ≡ fin false 0 g → ⊥

infinite : (s : Bool) → Plus (inf s)
infinite s g e = let z : ◌≡◌ {A = ℕ} 0 1 = cc in absurd (never z)
  where
    never : ◌≡◌ {A = ℕ} 0 1 → ⊥
    never z = omega arith

negated : (t : Float) → ((g : ℤ) → t ≡ fin true 0 g → ⊥) → Plus (neg t)
unfolding neg
negated nan h g e = let z : ◌≡◌ {A = ℕ} 0 1 = cc in absurd (never z)
  where
    never : ◌≡◌ {A = ℕ} 0 1 → ⊥
    never z = omega arith
negated (inf s) h g e = infinite (not s) g e
negated (fin s m d) h g e = h g (flip s m d e)
  where
    flip : (s : Bool) (m : ℕ) (d : ℤ) → neg (fin s m d) ≡ fin false 0 g → fin s m d ≡ fin true 0 g
    flip true m d e = cc
    flip false m d e = absurd (true≢false (sign e))
      where
        sign : fin true m d ≡ fin false 0 g → true ≡ false
        sign e = cc

module _ (bins : List ℕ) (scale : Float) (end : ℕ) (p : Params) (seen : none_recovered_of bins scale end ≡ false) where
  total-other : (g : ℤ) → total_at bins scale end p ≡ fin true 0 g → ⊥
  unfolding likelihood_of
  total-other g e = true≢false (sym (minus-zero-none bins scale _ (term-other p _ _) end g e) ∙ seen)

  not-plus : (a b c d : Bool) → Plus (costed bins scale end p a b c d)
  not-plus false b c d = infinite false
  not-plus true false c d = infinite false
  not-plus true true false d = infinite false
  not-plus true true true false = infinite false
  not-plus true true true true = negated (total_at bins scale end p) total-other

  cost-at-other : Plus (cost_at bins scale end p)
  cost-at-other g e = not-plus (params_usable p) (mode_held p) (masses_usable (masses_at end p)) (likelihood_usable (total_at bins scale end p)) g (sym (cost-is bins scale end p) ∙ e)

-- whatever the arguments, the cost that comes back is not +0
pub cost-not-plus-zero : (bins : List ℕ) (scale : Float) (end peak : ℕ) (error : ErrorModel) (genome : GenomeModel) (list : List Float) (room : ℕ) (v : Float)
    → cost_of bins scale end peak error genome list room ≡ give v → (g : ℤ) → v ≡ fin false 0 g → ⊥
unfolding cost_of
cost-not-plus-zero bins scale end peak error genome list room v gave g e =
    let p = params_of error genome (of_count peak) list in
    let cost = cost_at bins (used_scale_of scale) end p in
    let tests = fit_tests bins scale end peak error genome (length list) room in
    let all = passed bins scale end peak error genome (length list) room (gave-passed cost v tests gave) in
    cost-at-other bins (used_scale_of scale) end p all.spectrum.recovered g (gave-answer cost v tests gave ∙ e)
