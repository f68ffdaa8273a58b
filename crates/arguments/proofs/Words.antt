-- A word around its first point: its place, and what lies on each side. Assumes nothing.
use Prim.Native.Nat.{ℕ, suc, ◌+◌, ◌-◌, ◌≤◌, ◌<◌}
use mathlib.Core.Path.{◌≡◌, refl, sym, ap, ◌∙◌}
use mathlib.Core.Bool.{Bool, true, false, cond}
use mathlib.Core.List.{List, [], ◌∷◌, ◌++◌}
use native.Mathlib.Omega.{arith}
use lib.Dec.{eqb}
use native.Mathlib.Nat.{add-zero}
use Rattle.std.specs.List.{position_from}
use Rattle.std.specs.Option.{unwrap_or}
use Rattle.std.specs.declared.option.Option.TheVariants.{Some}
use lib.ListN.{length, take, drop, length-drop}
use lib.Seq.{take_all, take_at, drop-append-add}
use borrow.Author.Tests.{eqb-true, ne_eqb}
use Rattle.listing.specs.Decimal.{Digits}
use Rattle.arguments.specs.Numbers.{point, before, behind}

-- ---- the search for the point, as std's `position` has it
pub first-point : (i : ℕ) (word : List ℕ) → unwrap_or (position_from (λ (b : ℕ). eqb b point) i word) (i + length word) ≡ i + length (before word)
unfolding before
first-point i [] = refl
first-point i (b ∷ bs) = sides (first-point (i + 1) bs) (eqb b point)
  where
    next : (i n : ℕ) → i + 1 + n ≡ i + suc n
    next i n = omega arith

    sides : unwrap_or (position_from (λ (b : ℕ). eqb b point) (i + 1) bs) (i + 1 + length bs) ≡ i + 1 + length (before bs)
        → (t : Bool) → unwrap_or (cond t (Some i) (position_from (λ (b : ℕ). eqb b point) (i + 1) bs)) (i + suc (length bs)) ≡ i + length (cond t [] (b ∷ before bs))
    sides later true = sym (add-zero i)
    sides later false = rw (← next i (length bs)) (later ∙ next i (length (before bs)))

-- ---- the two sides
pub pointed : (word : List ℕ) → length (before word) < length word → word ≡ before word ++ (point ∷ behind word)
unfolding before behind
pointed [] h = absurd (omega arith)
pointed (b ∷ bs) h = sides (pointed bs) (eqb b point) (eqb-true b point) h
  where
    sides : (length (before bs) < length bs → bs ≡ before bs ++ (point ∷ behind bs))
        → (t : Bool) → (t ≡ true → b ≡ point) → length (cond t [] (b ∷ before bs)) < suc (length bs)
        → b ∷ bs ≡ cond t [] (b ∷ before bs) ++ (point ∷ cond t bs (behind bs))
    sides later true e l = ap (λ (x : ℕ). x ∷ bs) (e refl)
    sides later false e l = ap (λ (xs : List ℕ). b ∷ xs) (later (omega arith))

pub plain : (word : List ℕ) → length word ≤ length (before word) → (before word ≡ word) × (behind word ≡ [])
unfolding before behind
plain [] h = (refl, refl)
plain (b ∷ bs) h = sides (plain bs) (eqb b point) h
  where
    sides : (length bs ≤ length (before bs) → (before bs ≡ bs) × (behind bs ≡ []))
        → (t : Bool) → suc (length bs) ≤ length (cond t [] (b ∷ before bs))
        → (cond t [] (b ∷ before bs) ≡ b ∷ bs) × (cond t bs (behind bs) ≡ [])
    sides later true l = absurd (omega arith)
    sides later false l =
        let rest = later (omega arith) in
        (ap (λ (xs : List ℕ). b ∷ xs) rest.0, rest.1)

-- no digit is a point
pub behind-digits : (a bs : List ℕ) → Digits a → (before (a ++ bs) ≡ a ++ before bs) × (behind (a ++ bs) ≡ behind bs)
unfolding before behind
behind-digits [] bs d = (refl, refl)
behind-digits (x ∷ a) bs d =
    let rest = behind-digits a bs d.2 in
    let not-point : x ≡ point → ⊥ = λ (e : x ≡ point). digit x d.0 e in
    rw (ne_eqb x point not-point) (ap (λ (xs : List ℕ). x ∷ xs) rest.0, rest.1)
  where
    digit : (x : ℕ) → 48 ≤ x → x ≡ point → ⊥
    digit x h e = omega arith

-- ---- as parts of a slice
module _ (word : List ℕ) (k : ℕ) (e : k ≡ length (before word)) where
  pub front : k < length word → take k word ≡ before word
  front h = ap (take k) (pointed word (omega arith)) ∙ take_at (before word) (point ∷ behind word) k (sym e)

  pub back : k < length word → drop (k + 1) word ≡ behind word
  back h =
      ap (λ (j : ℕ). drop (j + 1) word) e
      ∙ ap (drop (length (before word) + 1)) (pointed word (omega arith))
      ∙ drop-append-add (before word) (point ∷ behind word) 1

-- a slice from a place on
pub rest : (word : List ℕ) (k : ℕ) → take (length word - k) (drop k word) ≡ drop k word
rest word k = take_all (length word - k) (drop k word) (simp length-drop (omega arith))
