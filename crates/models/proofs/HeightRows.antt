-- Rows of three heights, written one behind the other. Assumes nothing.
use Prim.Native.Nat.{ℕ, zero, suc, ◌+◌, ◌*◌, ◌≤◌}
use mathlib.Core.Path.{◌≡◌, refl, sym, ap, ◌∙◌}
use mathlib.Core.List.{List, [], ◌∷◌, ◌++◌, append_assoc}
use native.Mathlib.Numerals.{add-one}
use native.Mathlib.Omega.{arith}
use lib.Ieee.{Float}
use lib.ListN.{length, set, length-append}
use Rattle.meaning.specs.Over.{over}
use Rattle.meaning.proofs.Overs.{over-next}
use Rattle.models.specs.Heights.{height_row, height_rows}
use Rattle.models.specs.declared.height_terms.Heights.{Heights}

pub rows-length : (h : ℕ → Heights) (n : ℕ) → length (height_rows h n) ≡ 3 * n
unfolding height_rows
rows-length h zero = refl
rows-length h (suc n) =
    length-append (height_rows h n) (height_row (h (suc n))) ∙ ap (λ (k : ℕ). k + 3) (rows-length h n) ∙ three n
  where
    three : (n : ℕ) → 3 * n + 3 ≡ 3 * suc n
    three n = omega arith

-- three stores behind xs
stored : (xs b : List Float) (i : ℕ) (u v w : Float) → length xs ≡ i → i + 3 ≤ length b
    → set (set (set (over xs b) i u) (i + 1) v) (i + 2) w ≡ over (xs ++ (u ∷ v ∷ w ∷ [])) b
stored xs b i u v w e h =
    ap (λ (l : List Float). set (set l (i + 1) v) (i + 2) w) (over-next xs b i u e (omega arith))
    ∙ ap (λ (l : List Float). set l (i + 2) w) (over-next (xs ++ (u ∷ [])) b (i + 1) v one_more (omega arith))
    ∙ over-next ((xs ++ (u ∷ [])) ++ (v ∷ [])) b (i + 2) w two-more (omega arith)
    ∙ ap (λ (l : List Float). over l b) (simp append_assoc)
  where
    one_more : length (xs ++ (u ∷ [])) ≡ i + 1
    one_more = length-append xs (u ∷ []) ∙ ap (λ (k : ℕ). k + 1) e

    two-more : length ((xs ++ (u ∷ [])) ++ (v ∷ [])) ≡ i + 2
    two-more = length-append (xs ++ (u ∷ [])) (v ∷ []) ∙ ap (λ (k : ℕ). k + 1) one_more ∙ flat i
      where
        flat : (i : ℕ) → i + 1 + 1 ≡ i + 2
        flat i = omega arith

-- one more row
pub rows_more : (h : ℕ → Heights) (n : ℕ) (held now : List Float) (x : Heights) → now ≡ over (height_rows h n) held
    → 3 * n + 3 ≤ length held → x ≡ h (n + 1)
    → set (set (set now (3 * n) x.error) (3 * n + 1) x.single) (3 * n + 2) x.repeat
    ≡ over (height_rows h (n + 1)) held
unfolding height_rows
rows_more h n held now x p l e =
    ap (λ (b : List Float). set (set (set b (3 * n) x.error) (3 * n + 1) x.single) (3 * n + 2) x.repeat) p
    ∙ stored (height_rows h n) held (3 * n) x.error x.single x.repeat (rows-length h n) l
    ∙ ap (λ (y : Heights). over (height_rows h n ++ height_row y) held) (e ∙ ap h (add-one n))
    ∙ ap (λ (k : ℕ). over (height_rows h k) held) (sym (add-one n))
