-- Writing into the front of a buffer, one element behind the other. Assumes nothing.
use mathlib.Core.Path.{◌≡◌, refl, sym, ap, ◌∙◌}
use mathlib.Core.List.{List, [], ◌∷◌, ◌++◌}
use Prim.Native.Nat.{ℕ, zero, suc, ◌≤◌, ◌<◌}
use native.Mathlib.Nat.{not-suc-le-zero, le_of_suc-le-suc}
use native.Mathlib.Omega.{arith}
use native.Mathlib.Numerals.{add-one}
use lib.ListN.{length, drop, set, get_or, length-append, length-drop}
use lib.Seq.{drop-cons, set_at, append_snoc}
use Rattle.meaning.specs.Over.{over}

module _ {A : Type 0} where
  pub over-length : (xs b : List A) → length xs ≤ length b → length (over xs b) ≡ length b
  unfolding over
  over-length xs b h = simp (length-append, length-drop) (omega arith)

  pub over_none : (b : List A) → over [] b ≡ b
  unfolding over
  over_none b = refl

  -- a store behind what is written so far
  pub over-next : (xs b : List A) (i : ℕ) (v : A) → length xs ≡ i → i < length b → set (over xs b) i v ≡ over (xs ++ (v ∷ [])) b
  unfolding over
  over-next xs b i v e h =
      ap (λ (r : List A). set (xs ++ r) i v) (drop-cons b (length xs) v (rw e h))
      ∙ set_at xs (get_or b (length xs) v) (drop (suc (length xs)) b) v i e
      ∙ sym (append_snoc xs v (drop (suc (length xs)) b))
      ∙ ap (λ (n : ℕ). xs ++ (v ∷ []) ++ drop n b) (sym (length-append xs (v ∷ []) ∙ add-one (length xs)))

  -- what lies behind all that was written
  behind : (xs b : List A) (k : ℕ) → length xs ≤ k → drop k (xs ++ drop (length xs) b) ≡ drop k b
  behind [] b k h = refl
  behind (x ∷ xs) b zero h = absurd (not-suc-le-zero h)
  behind (x ∷ xs) [] (suc k) h =
      sym (ap (λ (ys : List A). drop k (xs ++ ys)) (none (length xs))) ∙ behind xs [] k (le_of_suc-le-suc h) ∙ none k
    where
      none : (n : ℕ) → ◌≡◌ {A = List A} (drop n []) []
      none zero = refl
      none (suc n) = refl
  behind (x ∷ xs) (y ∷ b) (suc k) h = behind xs b k (le_of_suc-le-suc h)

  pub over-stands : (xs b : List A) (k : ℕ) → length xs ≤ k → drop k (over xs b) ≡ drop k b
  unfolding over
  over-stands xs b k h = behind xs b k h

-- an element that is there does not turn on what stands past the end
pub get_d_any : {A : Type 0} (l : List A) (i : ℕ) (d e : A) → i < length l → get_or l i d ≡ get_or l i e
get_d_any [] i d e h = absurd (not-suc-le-zero h)
get_d_any (x ∷ xs) zero d e h = refl
get_d_any (x ∷ xs) (suc i) d e h = get_d_any xs i d e (le_of_suc-le-suc h)
