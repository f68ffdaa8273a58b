-- The walk and the test of its probabilities, step by step: the laws that their loops cite. Assumes nothing.
use Prim.Native.Nat.{ℕ, zero, suc, ◌+◌, ◌-◌, ◌*◌, ◌≤◌, ◌<◌, max}
use mathlib.Core.Path.{◌≡◌, refl, sym, ap, ◌∙◌, fun_ext}
use mathlib.Core.Bool.{Bool, true, false, ◌&&◌, cond, true≢false, false≢true}
use mathlib.Core.Logic.{inl, inr}
use native.Mathlib.Nat.{eq-or-lt_of_le, le_of_suc-le-suc, not-suc-le-zero, zero-lt-suc}
use native.Mathlib.Numerals.{add-one}
use native.Mathlib.Omega.{arith}
use lib.Ieee.{Float, nan, inf, fin, up, down, of_bits, lt, le}
use lib.Ieee.Bits.{is_true}
use lib.Ieee.Fits.{down_pos}
use lib.Ieee.Order.{le_of_values}
use Rattle.routines.specs.Constants.{two, zero as nought}
use Rattle.routines.specs.Exp.{exp_of}
use Rattle.routines.specs.Ops.{◌⊕◌, of_count}
use Rattle.routines.specs.Signs.{sign_clear}
use Rattle.routines.proofs.AnnexF.{exp-clear}
use Rattle.helpers.specs.SingleCopies.{single_copy_of}
use Rattle.helpers.proofs.SingleCopies.{single-density-is}
use Rattle.models.specs.declared.fit.SpectrumFit.{SpectrumFit}
use Rattle.models.specs.Cutoffs.{probability_in}
use Rattle.models.specs.WalkHoists.{probability_of}
use Rattle.models.specs.Walk.{walk_from, walk_of, probable, all_probable}
use Rattle.std.specs.Prelude.{None, Some}

-- ---- the walk
one_left : (n c : ℕ) → c < n → n - c ≡ suc (n - (c + 1))
one_left n c h = omega arith

none_left : (n c : ℕ) → n ≤ c → n - c ≡ 0
none_left n c h = omega arith

module _ (p : ℕ → Float) (allowed : Float) (n : ℕ) where
  pub walk-starts : walk_of p allowed n ≡ walk_from p allowed (n - 1) 1 (p 0)
  unfolding walk_of
  walk-starts = refl

  module _ (c : ℕ) (cdf : Float) where
    pub walk_ends : n ≤ c → walk_from p allowed (n - c) c cdf ≡ None
    unfolding walk_from
    walk_ends h = ap (λ (k : ℕ). walk_from p allowed k c cdf) (none_left n c h)

    -- one step, by the test of the sum through c
    stepped : c < n → (b : Bool) → lt allowed (cdf ⊕ p c) ≡ b
        → walk_from p allowed (n - c) c cdf
        ≡ cond b (Some (max c 2)) (walk_from p allowed (n - (c + 1)) (c + 1) (cdf ⊕ p c))
    unfolding walk_from
    stepped h b t =
        ap (λ (k : ℕ). walk_from p allowed k c cdf) (one_left n c h)
        ∙ ap (λ (a : Bool). cond a (Some (max c 2)) (walk_from p allowed (n - (c + 1)) (suc c) (cdf ⊕ p c))) t
        ∙ ap (λ (k : ℕ). cond b (Some (max c 2)) (walk_from p allowed (n - (c + 1)) k (cdf ⊕ p c))) (sym (add-one c))

    pub walk-hits : c < n → lt allowed (cdf ⊕ p c) ≡ true → walk_from p allowed (n - c) c cdf ≡ Some (max c 2)
    walk-hits h t = stepped h true t

    pub walk-goes : c < n → lt allowed (cdf ⊕ p c) ≡ false
        → walk_from p allowed (n - c) c cdf ≡ walk_from p allowed (n - (c + 1)) (c + 1) (cdf ⊕ p c)
    walk-goes h t = stepped h false t

  -- ---- every cutoff is 2 at least, and the ceiling at most where that is 2 or more
  walk-range : (left c : ℕ) (cdf : Float) (r : ℕ) → walk_from p allowed left c cdf ≡ Some r
      → (2 ≤ r) × (r ≤ max (c + left) 2)
  unfolding walk_from
  walk-range zero c cdf r e = let z : ◌≡◌ {A = ℕ} 0 1 = cc in absurd (omega arith)
  walk-range (suc left) c cdf r e =
      go (lt allowed (cdf ⊕ p c)) (walk-range left (suc c) (cdf ⊕ p c) r) e
    where
      go : (b : Bool) → (walk_from p allowed left (suc c) (cdf ⊕ p c) ≡ Some r → (2 ≤ r) × (r ≤ max (suc c + left) 2))
          → cond b (Some (max c 2)) (walk_from p allowed left (suc c) (cdf ⊕ p c)) ≡ Some r
          → (2 ≤ r) × (r ≤ max (c + suc left) 2)
      go true w e = let same : max c 2 ≡ r = cc in (omega arith, omega arith)
      go false w e = ((w e).0, further (w e).1)
        where
          further : r ≤ max (suc c + left) 2 → r ≤ max (c + suc left) 2
          further h = omega arith

  pub answer-range : 2 ≤ n → (r : ℕ) → walk_of p allowed n ≡ Some r → (2 ≤ r) × (r ≤ n)
  answer-range h r e =
      let w = walk-range (n - 1) 1 (p 0) r (sym walk-starts ∙ e) in
      let l : r ≤ max (1 + (n - 1)) 2 = w.1 in
      (w.0, omega arith)

-- ---- the probabilities, with what does not change worked out before
pub probability-is : (fit : SpectrumFit)
    → probability_of (single_copy_of fit.mean fit.dispersion fit.shelf) ≡ probability_in fit
probability-is fit =
    fun_ext (λ (c : ℕ). ap exp_of (single-density-is (of_count c) fit.mean fit.dispersion fit.shelf))

-- ---- the test of the probabilities
-- what is not negative lies between 0 and 2 where it is at most 2
clear-probable : (x : Float) → sign_clear x ≡ true → probable x ≡ le x two
unfolding probable of_bits le
clear-probable nan h = refl
clear-probable (inf true) h = absurd (false≢true h)
clear-probable (inf false) h = refl
clear-probable (fin true m e) h = absurd (false≢true h)
clear-probable (fin false m e) h =
    ap (λ (b : Bool). b && le (fin false m e) two)
    (is_true (le nought (fin false m e))
    (le_of_values nought (fin false m e) 0 1 (m * up e) (down e) (zero-lt-suc 0) (down_pos e) (refl, refl) (refl, refl)
    (none-less (m * up e) (down e))))
  where
    none-less : (a d : ℕ) → 0 * d ≤ a * 1
    none-less a d = omega arith

pub exp-probable : (x : Float) → probable (exp_of x) ≡ le (exp_of x) two
exp-probable x = clear-probable (exp_of x) (exp-clear x)

module _ (p : ℕ → Float) where
  pub all-begins : all_probable p 0 ≡ true
  unfolding all_probable
  all-begins = refl

  pub all-last : (n : ℕ) → all_probable p n ≡ true → all_probable p (suc n) ≡ probable (p n)
  unfolding all_probable
  all-last n h = ap (λ (b : Bool). b && probable (p n)) h

  pub all-goes : (n : ℕ) → all_probable p n ≡ true → probable (p n) ≡ true → all_probable p (n + 1) ≡ true
  all-goes n h t = ap (all_probable p) (add-one n) ∙ all-last n h ∙ t

  pub all-stops : (n m : ℕ) → n < m → probable (p n) ≡ false → all_probable p m ≡ false
  unfolding all_probable
  all-stops n zero h t = absurd (not-suc-le-zero h)
  all-stops n (suc m) h t =
      elim (eq-or-lt_of_le (le_of_suc-le-suc h)) [
        | inl e ↦ here (all_probable p m) (ap (λ (k : ℕ). probable (p k)) (sym e) ∙ t)
        | inr l ↦ ap (λ (b : Bool). b && probable (p m)) (all-stops n m l t)
      ]
    where
      here : (a : Bool) → probable (p m) ≡ false → (a && probable (p m)) ≡ false
      here true e = e
      here false e = refl

  -- the test says what it is to say of each
  pub all-each : (n : ℕ) → all_probable p n ≡ true → (k : ℕ) → k < n → probable (p k) ≡ true
  all-each n h k l = go (probable (p k)) refl
    where
      go : (b : Bool) → probable (p k) ≡ b → probable (p k) ≡ true
      go true e = e
      go false e = absurd (true≢false (sym h ∙ all-stops k n l e))

  pub each_all : (n : ℕ) → ((k : ℕ) → k < n → probable (p k) ≡ true) → all_probable p n ≡ true
  each_all zero h = all-begins
  each_all (suc n) h = all-last n (each_all n (λ (k : ℕ) (l : k < n). h k (later k n l))) ∙ h n (here n)
    where
      later : (k n : ℕ) → k < n → k < suc n
      later k n l = omega arith

      here : (n : ℕ) → n < suc n
      here n = omega arith
