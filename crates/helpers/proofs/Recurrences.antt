-- The loops of the window masses, on the invariant of the loops over counts: one that adds up terms, each from the one
-- before, and one over the table's entries. Assumes nothing.
use mathlib.Core.Path.{◌≡◌, sym, ap, ◌∙◌}
use mathlib.Core.Bool.{true}
use Prim.Native.Nat.{ℕ, zero, suc, ◌+◌, ◌-◌, ◌≤◌, ◌<◌, min}
use native.Mathlib.Omega.{arith}
use mathlib.Core.List.{List}
use lib.ListN.{length, get_or}
use lib.Ieee.{Float, inf}
use Rattle.meaning.specs.Fold.{fold}
use Rattle.meaning.proofs.Folds.{fold_more, fold-none}
use Rattle.meaning.proofs.Loops.{Folded, begins, goes_on, ends}
use Rattle.meaning.proofs.Overs.{get_d_any}
use Rattle.routines.specs.Ops.{◌⊕◌}
use Rattle.helpers.specs.LogSums.{lse2_of}
use Rattle.helpers.specs.Masses.{recurrence_step, recurrence, shelf_step}

-- ---- the terms of the counts before `count` are added up, and `term` is the one at it
module _ (ratio : ℕ → Float) (first : Float) (top : ℕ) where
  abbrev pub Summed : Float → Float → ℕ → Type 0
  Summed total term count = Folded (recurrence_step ratio) (inf true, first) 1 (top + 1) (total, term) count

  pub sum-begins : (total term : Float) → total ≡ inf true → term ≡ first → Summed total term 1
  sum-begins total term p q = begins (recurrence_step ratio) (inf true, first) 1 (top + 1) (total, term) (omega arith) (rw (p, q))

  module _ {total term : Float} {count : ℕ} (s : Summed total term count) where
    pub sum-goes-on : (total' term' : Float) → count ≤ top → total' ≡ lse2_of total term → term' ≡ term ⊕ ratio count → Summed total' term' (count + 1)
    sum-goes-on total' term' h p q = goes_on (recurrence_step ratio) (inf true, first) 1 (top + 1) s (total', term') (omega arith) (rw (p, q))

    pub sum-ends : top < count → total ≡ (recurrence ratio first top).0
    sum-ends h = ap (λ (x : Float × Float). x.0) (ends (recurrence_step ratio) (inf true, first) 1 (top + 1) s (omega arith))

-- ---- the sum over the table's entries
pub shelf-begins : (table : List Float) → inf true ≡ fold (shelf_step table) 1 1 (inf true)
shelf-begins table = sym (fold-none (shelf_step table) 1 1 (inf true) (omega arith))

-- d is what stands past the end
pub shelf-more : (table : List Float) (i : ℕ) (total total' d : Float) → 1 ≤ i → i < length table → total ≡ fold (shelf_step table) 1 i (inf true) → total' ≡ lse2_of total (get_or table i d)
    → total' ≡ fold (shelf_step table) 1 (i + 1) (inf true)
shelf-more table i total total' d h l e p =
    p ∙ ap (lse2_of total) (get_d_any table i d (inf true) l) ∙ ap (λ (t : Float). lse2_of t (get_or table i (inf true))) e ∙ sym (fold_more (shelf_step table) 1 i (inf true) h)

-- as many turns as there are entries behind entry 0
pub shelf-ends : (table : List Float) (turns end : ℕ) → turns ≡ end - min end 1 → fold (shelf_step table) 1 (turns + 1) (inf true) ≡ fold (shelf_step table) 1 end (inf true)
shelf-ends table turns zero e = fold-none (shelf_step table) 1 (turns + 1) (inf true) (omega arith) ∙ sym (fold-none (shelf_step table) 1 0 (inf true) (omega arith))
shelf-ends table turns (suc n) e = ap (λ (k : ℕ). fold (shelf_step table) 1 k (inf true)) (omega arith)
