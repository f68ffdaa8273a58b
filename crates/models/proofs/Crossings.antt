-- WHAT `crossover` ANSWERS: the first count below the ceiling where the single copies stand above the errors, and none
-- exactly where there is no such count. Assumes nothing.
use Prim.Native.Nat.{ℕ, zero, suc, ◌+◌, ◌-◌, ◌≤◌, ◌<◌, max}
use mathlib.Core.Path.{◌≡◌, refl, sym, ap, ◌∙◌, subst}
use mathlib.Core.Bool.{Bool, true, false, cond}
use mathlib.Core.Logic.{inl, inr}
use native.Mathlib.Nat.{eq-or-lt_of_le}
use native.Mathlib.Omega.{arith}
use borrow.Author.Tests.{le-ltb, ne_eqb}
use lib.Dec.{eqb}
use Rattle.meaning.specs.Reply.{give}
use Rattle.meaning.specs.Rows.{window_tests}
use Rattle.meaning.proofs.Replies.{gave-answer}
use Rattle.models.specs.declared.fit.SpectrumFit.{SpectrumFit}
use Rattle.models.specs.declared.height_terms.Heights.{Heights}
use Rattle.models.specs.ClaimsHeights.{above, crossover_ceiling_of, Crossover}
use Rattle.models.specs.HeightCutoffs.{heights_in, outgrows, crossover_starts, crossing_from, crossing_of, crossover_of}
use Rattle.std.specs.Prelude.{Option, None, Some}

module _ (heights : ℕ → Heights) where
  -- ---- what a search over `left` counts from c on finds
  record Found (left c k : ℕ) : Type 0 where
    pub first : c ≤ k
    pub last : k < c + left
    pub there : outgrows heights k ≡ true
    pub earlier : (j : ℕ) → c ≤ j → j < k → outgrows heights j ≡ false

  found : (left c r : ℕ) → crossing_from heights left c ≡ Some r → (k : ℕ) × (r ≡ max k 2) × Found left c k
  unfolding crossing_from
  found zero c r e = let z : ◌≡◌ {A = ℕ} 0 1 = cc in absurd (omega arith)
  found (suc left) c r e = go (outgrows heights c) refl (found left (suc c) r) e
    where
      go : (b : Bool) → outgrows heights c ≡ b
          → (crossing_from heights left (suc c) ≡ Some r → (k : ℕ) × (r ≡ max k 2) × Found left (suc c) k)
          → cond b (Some (max c 2)) (crossing_from heights left (suc c)) ≡ Some r
          → (k : ℕ) × (r ≡ max k 2) × Found (suc left) c k
      go true t rest e =
          let same : r ≡ max c 2 = cc in (
            c,
            same,
            record {
              first = omega arith;
              last = omega arith;
              there = t;
              earlier = λ (j : ℕ) (l : c ≤ j) (m : j < c). absurd (omega arith);
            },
          )
      go false t rest e =
          let w = rest e in (
            w.0,
            w.1,
            record {
              first = lower c w.0 w.2.first;
              last = upper c left w.0 w.2.last;
              there = w.2.there;
              earlier = λ (j : ℕ) (l : c ≤ j) (m : j < w.0). elim (eq-or-lt_of_le l) [
                | inl same ↦ subst (λ (i : ℕ). outgrows heights i ≡ false) same t
                | inr less ↦ w.2.earlier j less m
              ];
            },
          )
        where
          lower : (c k : ℕ) → suc c ≤ k → c ≤ k
          lower c k h = omega arith

          upper : (c left k : ℕ) → k < suc c + left → k < c + suc left
          upper c left k h = omega arith

  none_found : (left c : ℕ) → crossing_from heights left c ≡ None → (k : ℕ) → c ≤ k → k < c + left
      → outgrows heights k ≡ false
  unfolding crossing_from
  none_found zero c e k l m = absurd (omega arith)
  none_found (suc left) c e k l m = go (outgrows heights c) refl (none_found left (suc c)) e
    where
      go : (b : Bool) → outgrows heights c ≡ b
          → (crossing_from heights left (suc c) ≡ None → (k : ℕ) → suc c ≤ k → k < suc c + left
          → outgrows heights k ≡ false)
          → cond b (Some (max c 2)) (crossing_from heights left (suc c)) ≡ None → outgrows heights k ≡ false
      go true t rest e = let z : ◌≡◌ {A = ℕ} 0 1 = cc in absurd (omega arith)
      go false t rest e = elim (eq-or-lt_of_le l) [
        | inl same ↦ subst (λ (i : ℕ). outgrows heights i ≡ false) same t
        | inr less ↦ rest e k less (upper c left k m)
      ]
        where
          upper : (c left k : ℕ) → k < c + suc left → k < suc c + left
          upper c left k h = omega arith

-- ---- THE THEOREMS
module _ (fit : SpectrumFit) where
  abbrev search : Option ℕ
  search = crossing_of (heights_in fit) (crossover_ceiling_of fit)

  answered : (r : Option ℕ) → crossover_of fit ≡ give r → cond (crossover_starts fit) search None ≡ r
  unfolding crossover_of
  answered r gave = gave-answer (cond (crossover_starts fit) search None) r (window_tests fit.fit_window_end) gave

  pub crossover-is : (c : ℕ) → crossover_of fit ≡ give (Some c) → (k : ℕ) × Crossover fit c k
  unfolding crossing_of
  crossover-is c gave = go (crossover_starts fit) (answered (Some c) gave)
    where
      go : (b : Bool) → cond b search None ≡ Some c → (k : ℕ) × Crossover fit c k
      go true e =
          let w = found (heights_in fit) (crossover_ceiling_of fit - 1) 1 c e in (
            w.0,
            record {
              answer = w.1;
              first = w.2.first;
              last = below (crossover_ceiling_of fit) w.0 w.2.first w.2.last;
              there = w.2.there;
              earlier = w.2.earlier;
            },
          )
        where
          below : (n k : ℕ) → 1 ≤ k → k < 1 + (n - 1) → k < n
          below n k l h = omega arith
      go false e = let z : ◌≡◌ {A = ℕ} 0 1 = cc in absurd (omega arith)

  -- where the search starts and nothing comes back, no count below the ceiling is one
  pub crossover-none : crossover_starts fit ≡ true → crossover_of fit ≡ give None → (k : ℕ) → 1 ≤ k
      → k < crossover_ceiling_of fit → above fit k ≡ false
  unfolding crossing_of
  crossover-none starts gave k l m =
      let found : search ≡ None = ap (λ (b : Bool). cond b search None) (sym starts) ∙ answered None gave in
      none_found (heights_in fit) (crossover_ceiling_of fit - 1) 1 found k l (inside (crossover_ceiling_of fit) k m)
    where
      inside : (n k : ℕ) → k < n → k < 1 + (n - 1)
      inside n k h = omega arith

  -- None, too, where it does not start; a window of counts always has an answer
  pub crossover-given : 1 ≤ fit.fit_window_end → fit.fit_window_end ≤ 65535
      → crossover_of fit ≡ give (cond (crossover_starts fit) search None)
  unfolding crossover_of
  crossover-given l few =
      let end = fit.fit_window_end in
      let not-zero : eqb end 0 ≡ false = ne_eqb end 0 (λ (z : end ≡ 0). absurd (omega arith)) in
      rw (le-ltb 65535 end few, not-zero)
