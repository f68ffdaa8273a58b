-- A listing tells what was read: no two histograms, and no two places, have the same. Assumes nothing.
use Prim.Native.Nat.{ℕ, suc, ◌<◌}
use mathlib.Core.Path.{◌≡◌, refl, sym, ap, ◌∙◌}
use mathlib.Core.List.{List, [], ◌∷◌, ◌++◌, append_assoc}
use native.Mathlib.Omega.{arith}
use lib.ListN.{length, drop, get_or}
use Rattle.listing.specs.Decimal.{decimal_of, value_of, Digits}
use Rattle.listing.specs.Listing.{ascii, line_of, row_of, rows_of, listing_of, refusal_of}
use Rattle.listing.proofs.Values.{value-back, are-digits}

-- ---- digits end at the first byte below them
ends : (c : ℕ) → c < 48 → (ds es r s : List ℕ) → Digits ds → Digits es → ds ++ (c ∷ r) ≡ es ++ (c ∷ s) → (ds ≡ es) × (r ≡ s)
ends c h [] [] r s a b e = (refl, (cc))
ends c h [] (x ∷ es) r s a b e = let q : c ≡ x = cc in let l = b.0 in absurd (omega arith)
ends c h (x ∷ ds) [] r s a b e = let q : x ≡ c = cc in let l = a.0 in absurd (omega arith)
ends c h (x ∷ ds) (y ∷ es) r s a b e =
    let q : x ≡ y = cc in
    let t : ds ++ (c ∷ r) ≡ es ++ (c ∷ s) = cc in
    let p = ends c h ds es r s a.2 b.2 t in
    let u : ds ≡ es = p.0 in
    (cc, p.1)

number-ends : (c : ℕ) → c < 48 → (m n : ℕ) (r s : List ℕ) → decimal_of m ++ (c ∷ r) ≡ decimal_of n ++ (c ∷ s) → (m ≡ n) × (r ≡ s)
number-ends c h m n r s e =
    let p = ends c h (decimal_of m) (decimal_of n) r s (are-digits m) (are-digits n) e in
    (sym (value-back m) ∙ ap (value_of 0) p.0 ∙ value-back n, p.1)

-- ---- line by line
line-parts : (word : List ℕ) (n : ℕ) (rest : List ℕ) → line_of word n ++ rest ≡ word ++ (decimal_of n ++ (10 ∷ rest))
unfolding line_of
line-parts word n rest = append_assoc word (decimal_of n ++ ascii "\n") rest ∙ ap (λ (l : List ℕ). word ++ l) (append_assoc (decimal_of n) (ascii "\n") rest)

row-parts : (count n : ℕ) (rest : List ℕ) → row_of count n ++ rest ≡ decimal_of count ++ (32 ∷ (decimal_of n ++ (10 ∷ rest)))
unfolding row_of
row-parts count n rest = append_assoc (decimal_of count) (line_of (ascii " ") n) rest ∙ ap (λ (l : List ℕ). decimal_of count ++ l) (line-parts (ascii " ") n rest)

rows_tell : (count : ℕ) (xs ys : List ℕ) → length xs ≡ length ys → rows_of count xs ≡ rows_of count ys → xs ≡ ys
unfolding rows_of
rows_tell count [] [] l e = refl
rows_tell count [] (y ∷ ys) l e = absurd (omega arith)
rows_tell count (x ∷ xs) [] l e = absurd (omega arith)
rows_tell count (x ∷ xs) (y ∷ ys) l e =
    let p = number-ends 32 (omega arith) count count (decimal_of x ++ (10 ∷ rows_of (suc count) xs)) (decimal_of y ++ (10 ∷ rows_of (suc count) ys)) (sym (row-parts count x (rows_of (suc count) xs)) ∙ e ∙ row-parts count y (rows_of (suc count) ys)) in
    let q = number-ends 10 (omega arith) x y (rows_of (suc count) xs) (rows_of (suc count) ys) p.1 in
    let same : x ≡ y = q.0 in
    let rest : xs ≡ ys = rows_tell (suc count) xs ys (omega arith) q.1 in
    cc

pub bins-tell : (xs ys : List ℕ) → listing_of xs ≡ listing_of ys → xs ≡ ys
unfolding listing_of
bins-tell xs ys e =
    let p = number-ends 10 (omega arith) (length xs) (length ys) (rows_of 1 xs) (rows_of 1 ys) (ap (drop 5) (sym (line-parts (ascii "bins ") (length xs) (rows_of 1 xs)) ∙ e ∙ line-parts (ascii "bins ") (length ys) (rows_of 1 ys))) in
    rows_tell 1 xs ys p.0 p.1

pub place-tells : (p q : ℕ) → refusal_of p ≡ refusal_of q → p ≡ q
unfolding refusal_of line_of
place-tells p q e = (number-ends 10 (omega arith) p q [] [] (ap (drop 13) e)).0

-- `b` is not `r`
pub no-bins : (xs : List ℕ) (place : ℕ) → listing_of xs ≡ refusal_of place → ⊥
unfolding listing_of refusal_of line_of
no-bins xs place e = let z : ◌≡◌ {A = ℕ} 98 114 = ap (λ (l : List ℕ). get_or l 0 0) e in omega arith
