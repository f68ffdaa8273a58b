-- A run in parts: n turns and then m of them are n + m, at every n and m, an end that comes in between included; a run
-- that has ended stays as it is, and one that has not goes on by a turn. Assumes nothing.
use Prim.Native.Nat.{ℕ, zero, suc, ◌+◌, ◌-◌, ◌≤◌, ◌<◌}
use mathlib.Core.Path.{◌≡◌, refl, sym, ap, ◌∙◌}
use mathlib.Core.Bool.{true, false}
use mathlib.Core.List.{List}
use native.Mathlib.Nat.{zero-add, suc-add}
use native.Mathlib.Omega.{arith}
use lib.Ieee.{Float}
use Rattle.search.specs.Turns.{State, ended, next_of, turn_of, turns_of}

module _ (cost : List Float → Float) (cap : ℕ) where
  -- ---- THE THEOREM
  pub in_parts : (n m : ℕ) (s : State) → turns_of cost cap (n + m) s ≡ turns_of cost cap m (turns_of cost cap n s)
  unfolding turns_of
  in_parts zero m s = ap (λ (k : ℕ). turns_of cost cap k s) (zero-add m)
  in_parts (suc n) m s = ap (λ (k : ℕ). turns_of cost cap k s) (suc-add n m) ∙ in_parts n m (turn_of cost cap s)

  pub stays : (n : ℕ) (s : State) → ended cap s ≡ true → turns_of cost cap n s ≡ s
  unfolding turns_of turn_of
  stays zero s e = refl
  stays (suc n) s e = rw e (stays n s e)

  pub goes : (n : ℕ) (s : State) → ended cap s ≡ false → turns_of cost cap (suc n) s ≡ turns_of cost cap n (next_of cost s)
  unfolding turns_of turn_of
  goes n s e = rw e

  -- ---- a run, turn by turn
  pub one-made : (left : ℕ) (s t : State) → 0 < left → ended cap s ≡ false → t ≡ next_of cost s
      → turns_of cost cap (left - 1) t ≡ turns_of cost cap left s
  one-made left s t h e f =
      let m : suc (left - 1) ≡ left = omega arith in
      ap (turns_of cost cap (left - 1)) f ∙ sym (goes (left - 1) s e) ∙ ap (λ (n : ℕ). turns_of cost cap n s) m

  pub none_left : (left : ℕ) (s : State) → left ≤ 0 → s ≡ turns_of cost cap left s
  unfolding turns_of
  none_left left s h = let e : 0 ≡ left = omega arith in ap (λ (n : ℕ). turns_of cost cap n s) e
