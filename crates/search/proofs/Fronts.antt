-- A list out of its entries: its length and each entry; and what a loop over the front of a slice leaves in it.
-- Assumes nothing.
use Prim.Native.Nat.{ℕ, zero, suc, ◌+◌, ◌-◌, ◌≤◌, ◌<◌, zero-le, suc-le-suc}
use mathlib.Core.Path.{◌≡◌, refl, sym, ap, ◌∙◌}
use mathlib.Core.List.{List, ◌∷◌, ◌++◌}
use mathlib.Core.Logic.{⊎_elim, ◌⊎◌, inl, inr}
use native.Mathlib.Nat.{not-suc-le-zero, le_of_suc-le-suc}
use native.Mathlib.Omega.{arith}
use lib.ListN.{length, drop, replicate, get_or, get_or-append}
use lib.Seq.{ext_get_or, get_or-append-add, get_or-drop}
use Rattle.meaning.specs.Over.{over}
use Rattle.meaning.proofs.Overs.{over-length}
use Rattle.search.specs.Lists.{list_of}
use Rattle.search.proofs.Elements.{Passed}

split : (a b : ℕ) → (a < b) ⊎ (b ≤ a)
split a zero = inr zero-le
split zero (suc b) = inl (suc-le-suc zero-le)
split (suc a) (suc b) = ⊎_elim (λ l. inl (suc-le-suc l)) (λ l. inr (suc-le-suc l)) (split a b)

pub list_length : {A : Type 0} (f : ℕ → A) (n : ℕ) → length (list_of f n) ≡ n
unfolding list_of
list_length f zero = refl
list_length f (suc n) = ap suc (list_length (λ (i : ℕ). f (suc i)) n)

pub list_at : {A : Type 0} (f : ℕ → A) (n i : ℕ) (d : A) → i < n → get_or (list_of f n) i d ≡ f i
unfolding list_of
list_at f zero i d h = absurd (not-suc-le-zero h)
list_at f (suc n) zero d h = refl
list_at f (suc n) (suc i) d h = list_at (λ (k : ℕ). f (suc k)) n i d (le_of_suc-le-suc h)

module _ {A : Type 0} (xs b : List A) (d : A) where
  pub over-front : (i : ℕ) → i < length xs → get_or (over xs b) i d ≡ get_or xs i d
  unfolding over
  over-front i h = get_or-append xs (drop (length xs) b) d i h

  over-rest : (i : ℕ) → length xs ≤ i → get_or (over xs b) i d ≡ get_or b i d
  unfolding over
  over-rest i h =
      let e : i ≡ length xs + (i - length xs) = omega arith in
      ap (λ (k : ℕ). get_or (xs ++ drop (length xs) b) k d) e
      ∙ get_or-append-add xs (drop (length xs) b) (i - length xs) d
      ∙ get_or-drop (length xs) b (i - length xs) d
      ∙ ap (λ (k : ℕ). get_or b k d) (sym e)

-- the first j of a slice are done, the rest are as found
pub done-front : {A : Type 0} (f : ℕ → A → A) (d : A) (found now : List A) (j : ℕ) → Passed f d found now j
    → now ≡ over (list_of (λ (i : ℕ). f i (get_or found i d)) j) found
done-front {A} f d found now j s =
    ext_get_or d now (over front found) (s.long ∙ sym (over-length front found few)) at
  where
    front : List A
    front = list_of (λ (i : ℕ). f i (get_or found i d)) j

    many : length front ≡ j
    many = list_length (λ (i : ℕ). f i (get_or found i d)) j

    few : length front ≤ length found
    few = let u : j ≤ length found = s.upto in let m : length front ≡ j = many in omega arith

    passed : (i : ℕ) → i < j → get_or now i d ≡ get_or (over front found) i d
    passed i h =
        let m : length front ≡ j = many in
        s.done i h ∙ sym (over-front front found d i (omega arith) ∙ list_at (λ (k : ℕ). f k (get_or found k d)) j i d h)

    left : (i : ℕ) → j ≤ i → get_or now i d ≡ get_or (over front found) i d
    left i h = let m : length front ≡ j = many in s.left i h ∙ sym (over-rest front found d i (omega arith))

    by : (i : ℕ) → (i < j) ⊎ (j ≤ i) → get_or now i d ≡ get_or (over front found) i d
    by i (inl h) = passed i h
    by i (inr h) = left i h

    at : (i : ℕ) → i < length now → get_or now i d ≡ get_or (over front found) i d
    at i h = by i (split i j)

-- a front that is filled with zeros
zeros-are : (n : ℕ) → list_of {A = ℕ} (λ (i : ℕ). 0) n ≡ replicate n 0
unfolding list_of
zeros-are zero = refl
zeros-are (suc n) = ap (λ (l : List ℕ). 0 ∷ l) (zeros-are n)

pub zeros-over : (n : ℕ) (held front : List ℕ) → n ≤ length held → front ≡ replicate n 0
    → front ++ drop n held ≡ over (list_of {A = ℕ} (λ (i : ℕ). 0) n) held
unfolding over
zeros-over n held front h e =
    ap (λ (l : List ℕ). l ++ drop n held) (e ∙ sym (zeros-are n))
    ∙ ap (λ (k : ℕ). list_of {A = ℕ} (λ (i : ℕ). 0) n ++ drop k held) (sym (list_length {A = ℕ} (λ (i : ℕ). 0) n))
