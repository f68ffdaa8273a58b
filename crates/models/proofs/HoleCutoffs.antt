-- DEMAND 3, of the call: `hole-cutoff-keeps`, to be read beside the owner's sentence with specs/ClaimsCutoff.antt. And
-- of `hole_cutoff_sure`: it tells the same cutoff (`told_same`), it is sure exactly where demand 3's premise holds
-- (`sure-supposed`, `supposed-sure`), and where it is sure demand 3 holds without a premise (`sure-keeps`).
-- Assumes nothing.
use Prim.Native.Nat.{ℕ, suc, ◌*◌, ◌^◌, ◌≤◌, suc-le-suc}
use mathlib.Core.Path.{◌≡◌, refl, sym, ap, ◌∙◌, subst}
use mathlib.Core.Bool.{Bool, true, false, ◌&&◌, cond}
use native.Mathlib.Nat.{le_trans, le_of_suc-le-suc}
use native.Mathlib.Omega.{arith}
use lib.Dec.{ltb, eqb}
use lib.Ieee.{Float, binary64}
use lib.Ieee.Bits.{is_true}
use lib.Ieee.Fits.{and_l, and_r, div-fits}
use lib.Ieee.Positive.{num, den}
use lib.Ieee.Scale.{finite}
use Rattle.meaning.specs.Reply.{give, first_of, unless}
use Rattle.meaning.specs.Rows.{most, window_tests}
use Rattle.meaning.proofs.Chains.{chain-passed, gave-passed}
use Rattle.meaning.proofs.Replies.{gave-answer}
use Rattle.meaning.proofs.Rows.{window-passed}
use Rattle.routines.specs.Units.{units_of}
use Rattle.routines.proofs.Shapes.{exp-fits}
use Rattle.routines.proofs.Tests.{yes}
use Rattle.routines.proofs.Values.{has-units}
use Rattle.models.specs.declared.fit.SpectrumFit.{SpectrumFit}
use Rattle.models.specs.ClaimsCutoff.{Supposed, Demanded, DemandedSure, told_of}
use Rattle.models.specs.Cutoffs.{probability_in, walk_starts, allowed_of, ceiling_of, hole_walk_of, hole_cutoff_of}
use Rattle.models.specs.Cutoffs.{sure_of, Sureness, sure, no_walk, sureness, hole_cutoff_sure_of}
use Rattle.models.specs.Walk.{all_probable}
use Rattle.models.proofs.Ceilings.{ceiling-two, ceiling-end}
use Rattle.models.proofs.Removed.{SumsKept, walk-keeps}
use Rattle.models.proofs.Walks.{answer-range, all-each, each_all}
use Rattle.std.specs.Prelude.{Option, None, Some}

module _ (fit : SpectrumFit) (budget : Float) where
  -- ---- the probabilities and the share are whole numbers of units: nothing is lost of num / den, their exact value
  pub probability-whole : (k : ℕ) → let p = probability_in fit k in
      finite p ≡ true → num p * 2 ^ 1074 ≡ units_of p * den p
  probability-whole k h = has-units binary64 (probability_in fit k) (exp-fits _) (yes h)

  pub share-whole : let s = allowed_of fit budget in finite s ≡ true → num s * 2 ^ 1074 ≡ units_of s * den s
  share-whole h = has-units binary64 (allowed_of fit budget) (div-fits binary64 _ _) (yes h)

  -- ---- where there is an answer, the ceiling is a count
  pub ceiling-most : (answer : Option ℕ) → hole_cutoff_of fit budget ≡ give answer → ceiling_of fit ≤ 65535
  unfolding hole_cutoff_of
  ceiling-most answer gave =
      let end = fit.fit_window_end in
      let walked = cond (walk_starts fit) (hole_walk_of fit budget) None in
      le_trans (ceiling-end fit) (window-passed end (gave-passed walked answer (window_tests end) gave)).0

  -- ---- THE THEOREM
  -- `hole_cutoff_of fit budget` is what `hole_cutoff(fit, budget)` answers, by its contract, which cites this too
  pub hole-cutoff-keeps : Demanded fit budget (hole_cutoff_of fit budget)
  unfolding hole_cutoff_of hole_walk_of
  hole-cutoff-keeps s answer gave =
      let p = probability_in fit in
      let allowed = allowed_of fit budget in
      let end = fit.fit_window_end in
      let found = hole_walk_of fit budget in
      let walked = cond (walk_starts fit) found None in
      let says : SumsKept p allowed (ceiling_of fit) found = walk-keeps p (λ (k : ℕ). exp-fits _) (ceiling_of fit)
      (ceiling-most answer gave) s.between allowed (div-fits binary64 _ _) (yes s.share)
      (ceiling-two fit s.starts) in
      let same : found ≡ answer = sym (ap (λ (b : Bool). cond b found None) s.starts)
      ∙ gave-answer walked answer (window_tests end) gave in
      record {
        removes = λ (c : ℕ) (e : answer ≡ Some c). (subst (SumsKept p allowed (ceiling_of fit)) (same ∙ e) says).0;
        reaches = λ (c : ℕ) (e : answer ≡ Some c). (subst (SumsKept p allowed (ceiling_of fit)) (same ∙ e) says).1;
        stays = λ (e : answer ≡ None). subst (SumsKept p allowed (ceiling_of fit)) (same ∙ e) says;
      }

  -- a cutoff is 2 at least, and the ceiling at most
  pub hole-cutoff-range : (c : ℕ) → hole_cutoff_of fit budget ≡ give (Some c) → (2 ≤ c) × (c ≤ ceiling_of fit)
  unfolding hole_cutoff_of hole_walk_of
  hole-cutoff-range c gave =
      go (walk_starts fit) refl
      (gave-answer (cond (walk_starts fit) (hole_walk_of fit budget) None) (Some c) (window_tests fit.fit_window_end)
      gave)
    where
      go : (b : Bool) → walk_starts fit ≡ b → cond b (hole_walk_of fit budget) None ≡ Some c
          → (2 ≤ c) × (c ≤ ceiling_of fit)
      go true e same =
          answer-range (probability_in fit) (allowed_of fit budget) (ceiling_of fit) (ceiling-two fit e) c same
      go false e same = let z : ◌≡◌ {A = ℕ} 0 1 = cc in absurd (omega arith)

  -- ---- the premise, tested
  abbrev answered : Bool → Bool → Sureness
  answered starts s = cond starts (sureness s (hole_walk_of fit budget)) no_walk

  abbrev walked : Bool → Option ℕ
  walked starts = cond starts (hole_walk_of fit budget) None

  -- the cutoff that it tells is the hole cutoff, whether sure or not, and a refusal is the same
  pub told_same : told_of (hole_cutoff_sure_of fit budget) ≡ hole_cutoff_of fit budget
  unfolding hole_cutoff_sure_of hole_cutoff_of
  told_same = go (ltb most fit.fit_window_end) (eqb fit.fit_window_end 0) (walk_starts fit) (sure_of fit budget)
    where
      go : (many None starts s : Bool)
          → told_of (unless many 2 (unless None 5 (give (answered starts s))))
          ≡ unless many 2 (unless None 5 (give (walked starts)))
      go true n b s = refl
      go false true b s = refl
      go false false true true = refl
      go false false true false = refl
      go false false false s = refl

  -- sure: the walk started, and the tests held
  tested : (starts s : Bool) (answer : Option ℕ) → answered starts s ≡ sure answer → (starts ≡ true) × (s ≡ true)
  tested true true answer e = (refl, refl)
  tested true false answer e = let z : ◌≡◌ {A = ℕ} 0 1 = cc in absurd (omega arith)
  tested false s answer e = let z : ◌≡◌ {A = ℕ} 0 1 = cc in absurd (omega arith)

  pub sure-supposed : (answer : Option ℕ) → hole_cutoff_sure_of fit budget ≡ give (sure answer) → Supposed fit budget
  unfolding hole_cutoff_sure_of sure_of
  sure-supposed answer gave =
      let end = fit.fit_window_end in
      let p = probability_in fit in
      let share = finite (allowed_of fit budget) in
      let all = all_probable p (suc (ceiling_of fit)) in
      let t = tested (walk_starts fit) (sure_of fit budget) answer
      (gave-answer (answered (walk_starts fit) (sure_of fit budget)) (sure answer) (window_tests end) gave) in
      record {
        starts = t.0;
        share = is_true share (and_l share all (yes t.1));
        between =
            λ (k : ℕ) (h : k ≤ ceiling_of fit). all-each p (suc (ceiling_of fit))
            (is_true all (and_r share all (yes t.1))) k (suc-le-suc h);
      }

  pub supposed-sure : Supposed fit budget → 0 ≡ first_of (window_tests fit.fit_window_end)
      → hole_cutoff_sure_of fit budget ≡ give (sure (hole_walk_of fit budget))
  unfolding hole_cutoff_sure_of sure_of
  supposed-sure s passed =
      let end = fit.fit_window_end in
      let p = probability_in fit in
      let all : all_probable p (suc (ceiling_of fit)) ≡ true = each_all p (suc (ceiling_of fit))
      (λ (k : ℕ) (h : suc k ≤ suc (ceiling_of fit)). s.between k (le_of_suc-le-suc h)) in
      chain-passed (give (answered (walk_starts fit) (sure_of fit budget))) (window_tests end) refl passed
      ∙ ap give (ap (λ (b : Bool). answered b (sure_of fit budget)) s.starts
      ∙ ap (λ (b : Bool). answered true b)
      (ap (λ (b : Bool). b && all_probable p (suc (ceiling_of fit))) s.share ∙ all))

  -- THE THEOREM, without a premise
  pub sure-keeps : DemandedSure fit budget (hole_cutoff_sure_of fit budget)
  sure-keeps answer gave =
      let same : hole_cutoff_of fit budget ≡ give answer = sym told_same ∙ ap told_of gave in
      (same, hole-cutoff-keeps (sure-supposed answer gave) answer same)
