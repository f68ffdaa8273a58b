-- A list's pieces, one behind the other, as `chunks_exact` has them: where the elements of the next one stand, what is left
-- behind it, and that it lies in the list. Assumes nothing.
use Prim.Native.Nat.{ℕ, ◌+◌, ◌-◌, ◌≤◌, ◌<◌}
use mathlib.Core.Path.{◌≡◌, sym, ap, ◌∙◌}
use mathlib.Core.List.{List, ◌++◌}
use native.Mathlib.Omega.{arith}
use lib.ListN.{length, drop, get_or, get_or-append, length-append, length-drop}
use lib.Seq.{drop_at, drop-drop, get_or-drop}

module _ {A : Type 0} (m s : ℕ) (xs piece rest : List A) (e : drop s xs ≡ piece ++ rest) (l : length piece ≡ m) where
  pub piece_at : (j : ℕ) (d : A) → j < m → get_or piece j d ≡ get_or xs (s + j) d
  piece_at j d h =
      sym (get_or-append piece rest d j (omega arith))
      ∙ sym (ap (λ (ys : List A). get_or ys j d) e)
      ∙ get_or-drop s xs j d

  pub behind_piece : drop (s + m) xs ≡ rest
  behind_piece = sym (drop-drop m s xs) ∙ ap (drop m) e ∙ drop_at piece rest m l

  pub piece_inside : 0 < m → s + m ≤ length xs
  piece_inside h =
      let n : length xs - s ≡ length piece + length rest = sym (length-drop s xs) ∙ ap length e ∙ length-append piece rest in
      omega arith
