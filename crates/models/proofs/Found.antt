-- WHAT THE WALK FINDS: the first count from 1 to ceiling - 1 whose f64 sum through it is above the allowed share, 2 at
-- least, and none exactly where there is no such count, over any probabilities, any share and any ceiling
-- (`walk-finds`, `walk-only`). And so of `hole_cutoff` where its walk starts (`hole-cutoff-finds`, `hole-cutoff-only`);
-- where none starts it answers none (`hole-cutoff-no-walk`). Assumes nothing.
use Prim.Native.Nat.{ℕ, zero, suc, ◌+◌, ◌-◌, ◌≤◌, ◌<◌, max}
use mathlib.Core.Path.{◌≡◌, refl, sym, ap, ◌∙◌, subst}
use mathlib.Core.Bool.{Bool, true, false, cond, true≢false}
use mathlib.Core.List.{List}
use mathlib.Core.Logic.{inl, inr}
use native.Mathlib.Nat.{eq-or-lt_of_le, le_of_suc-le-suc}
use native.Mathlib.Omega.{arith}
use lib.Ieee.{Float, lt}
use Rattle.meaning.specs.Reply.{give, Test, first_of}
use Rattle.meaning.specs.Rows.{window_tests}
use Rattle.meaning.proofs.Chains.{chain-passed}
use Rattle.meaning.proofs.Replies.{gave-answer}
use Rattle.models.specs.declared.fit.SpectrumFit.{SpectrumFit}
use Rattle.models.specs.ClaimsCutoff.{running, FirstAbove, Finds, HoleFinds}
use Rattle.models.specs.Cutoffs.{probability_in, walk_starts, allowed_of, ceiling_of, hole_walk_of, hole_cutoff_of}
use Rattle.models.specs.Walk.{walk_from, walk_of}
use Rattle.std.specs.Prelude.{Option, None, Some}

module _ (p : ℕ → Float) (allowed : Float) (ceiling : ℕ) where
  abbrev above : ℕ → Bool
  above c = lt allowed (running p c)

  -- no sum through 1 to k is above what is allowed
  abbrev Below : ℕ → Type 0
  Below k = (j : ℕ) → 1 ≤ j → j ≤ k → above j ≡ false

  one_more : (k : ℕ) → Below k → above (suc k) ≡ false → Below (suc k)
  one_more k b e j l m = elim (eq-or-lt_of_le m) [
    | inl same ↦ subst (λ (i : ℕ). above i ≡ false) (sym same) e
    | inr less ↦ b j l (le_of_suc-le-suc less)
  ]

  abbrev onward : ℕ → ℕ → Option ℕ
  onward left k = walk_from p allowed left (suc (suc k)) (running p (suc k))

  -- ---- from count k + 1 on, with `left` counts left
  walks : (left k : ℕ) → suc k + left ≡ ceiling → Below k
      → Finds p allowed ceiling (walk_from p allowed left (suc k) (running p k))
  unfolding walk_from running
  walks zero k e b = λ (j : ℕ) (l : 1 ≤ j) (m : j < ceiling). b j l (inside j k ceiling e m)
    where
      inside : (j k n : ℕ) → suc k + 0 ≡ n → j < n → j ≤ k
      inside j k n e m = omega arith
  walks (suc left) k e b =
      let on : suc (suc k) + left ≡ ceiling = omega arith in
      go (above (suc k)) refl (λ (f : above (suc k) ≡ false). walks left (suc k) on (one_more k b f))
    where
      go : (s : Bool) → above (suc k) ≡ s → (above (suc k) ≡ false → Finds p allowed ceiling (onward left k))
          → Finds p allowed ceiling (cond s (Some (max (suc k) 2)) (onward left k))
      go true t rest = (
        suc k,
        refl,
        record {
          first = omega arith;
          last = omega arith;
          there = t;
          earlier = λ (j : ℕ) (l : 1 ≤ j) (m : j < suc k). b j l (le_of_suc-le-suc m);
        },
      )
      go false t rest = rest t

-- ---- two answers that both say what is found are one
module _ (p : ℕ → Float) (allowed : Float) (ceiling : ℕ) where
  no_other : (c : ℕ) → FirstAbove p allowed ceiling c → Finds p allowed ceiling None → ⊥
  no_other c f never = true≢false (sym f.there ∙ never c f.first f.last)

  -- neither of two first counts comes before the other
  not-before : (c d : ℕ) → FirstAbove p allowed ceiling c → FirstAbove p allowed ceiling d → c < d → ⊥
  not-before c d f g l = true≢false (sym f.there ∙ g.earlier c f.first l)

  one-first : (c d : ℕ) → FirstAbove p allowed ceiling c → FirstAbove p allowed ceiling d → c ≡ d
  one-first c d f g = omega (arith, not-before c d f g, not-before d c g f)

  finds-one : (a b : Option ℕ) → Finds p allowed ceiling a → Finds p allowed ceiling b → a ≡ b
  finds-one None None f g = refl
  finds-one None (Some s) f g = absurd (no_other g.0 g.2 f)
  finds-one (Some r) None f g = absurd (no_other f.0 f.2 g)
  finds-one (Some r) (Some s) f g =
      ap Some (f.1 ∙ ap (λ (c : ℕ). max c 2) (one-first f.0 g.0 f.2 g.2) ∙ sym g.1)

-- ---- THE THEOREMS
module _ (p : ℕ → Float) (allowed : Float) where
  pub walk-finds : (ceiling : ℕ) → Finds p allowed ceiling (walk_of p allowed ceiling)
  unfolding walk_of walk_from running
  walk-finds zero = λ (j : ℕ) (l : 1 ≤ j) (m : j < 0). absurd (omega arith)
  walk-finds (suc n) =
      walks p allowed (suc n) (suc n - 1) 0 (all n) (λ (j : ℕ) (l : 1 ≤ j) (m : j ≤ 0). absurd (omega arith))
    where
      all : (n : ℕ) → 1 + (suc n - 1) ≡ suc n
      all n = omega arith

  pub walk-only : (ceiling : ℕ) (answer : Option ℕ) → Finds p allowed ceiling answer → walk_of p allowed ceiling ≡ answer
  walk-only ceiling answer f = finds-one p allowed ceiling (walk_of p allowed ceiling) answer (walk-finds ceiling) f

module _ (fit : SpectrumFit) (budget : Float) where
  abbrev walked : Bool → Option ℕ
  walked starts = cond starts (hole_walk_of fit budget) None

  abbrev tests : List Test
  tests = window_tests fit.fit_window_end

  -- what comes back where the window end is a count
  answered : (answer : Option ℕ) → hole_cutoff_of fit budget ≡ give answer → walked (walk_starts fit) ≡ answer
  unfolding hole_cutoff_of
  answered answer gave = gave-answer (walked (walk_starts fit)) answer tests gave

  hole-finds : HoleFinds fit budget (hole_walk_of fit budget)
  unfolding hole_walk_of
  hole-finds = walk-finds (probability_in fit) (allowed_of fit budget) (ceiling_of fit)

  hole-only : (answer : Option ℕ) → HoleFinds fit budget answer → hole_walk_of fit budget ≡ answer
  unfolding hole_walk_of
  hole-only answer f = walk-only (probability_in fit) (allowed_of fit budget) (ceiling_of fit) answer f

  pub hole-cutoff-finds : walk_starts fit ≡ true → (answer : Option ℕ) → hole_cutoff_of fit budget ≡ give answer
      → HoleFinds fit budget answer
  hole-cutoff-finds starts answer gave =
      subst (HoleFinds fit budget) (ap walked (sym starts) ∙ answered answer gave) hole-finds

  pub hole-cutoff-only : walk_starts fit ≡ true → 0 ≡ first_of tests → (answer : Option ℕ)
      → HoleFinds fit budget answer → hole_cutoff_of fit budget ≡ give answer
  unfolding hole_cutoff_of
  hole-cutoff-only starts passed answer f =
      chain-passed (give (walked (walk_starts fit))) tests refl passed
      ∙ ap give (ap walked starts ∙ hole-only answer f)

  pub hole-cutoff-no-walk : walk_starts fit ≡ false → (answer : Option ℕ) → hole_cutoff_of fit budget ≡ give answer
      → answer ≡ None
  hole-cutoff-no-walk stays answer gave = sym (answered answer gave) ∙ ap walked stays
