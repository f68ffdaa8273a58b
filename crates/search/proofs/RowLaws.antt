-- Laws of the rows of a simplex in a slice: their number, where each lies, what stands in it, a row put in another's
-- place, and the rows laid out one behind the other. Assumes nothing.
use Prim.Native.Nat.{ℕ, zero, suc, ◌+◌, ◌-◌, ◌*◌, ◌≤◌, ◌<◌}
use mathlib.Core.Path.{◌≡◌, refl, sym, ap, ◌∙◌}
use mathlib.Core.List.{List, [], ◌∷◌, ◌++◌, append_assoc}
use native.Mathlib.Nat.{not-suc-le-zero, le_of_suc-le-suc, zero-mul, suc-mul, mul-le-mul_right, suc_inj, suc-ne-zero}
use native.Mathlib.Nat.{zero-lt-suc}
use native.Mathlib.Omega.{arith}
use lib.Ieee.{Float, nan}
use lib.ListN.{length, take, drop, get_or, set, length-drop}
use lib.Seq.{length-take-le, take-nil, take_at, drop_at, get_or-take, get_or-drop, drop-drop, take-add}
use Rattle.meaning.proofs.Overs.{get_d_any}
use Rattle.search.specs.Vertices.{Vertex, vertex_at, cost_in, point_in, rows_in, flat}

pub rows-length : (w n : ℕ) (xs : List Float) → length (rows_in w n xs) ≡ n
unfolding rows_in
rows-length w zero xs = refl
rows-length w (suc n) xs = ap suc (rows-length w n (drop w xs))

-- ---- where a row lies
pub row_fits : (i n w : ℕ) → i < n → i * w + w ≤ n * w
row_fits i n w h = let l : suc i * w ≤ n * w = mul-le-mul_right w h in omega (arith, suc-mul i w)

pub next_fits : (i n w : ℕ) → i + 1 < n → i * w + w + w ≤ n * w
next_fits i n w h = omega (arith, row_fits (i + 1) n w h)

-- the places of a row, counted from behind the first
next_row : (i w : ℕ) → suc i * w ≡ w + i * w
next_row i w = omega (arith, suc-mul i w)

pub row_at : (w n : ℕ) (xs : List Float) (i : ℕ) → i < n → vertex_at (rows_in w n xs) i ≡ take w (drop (i * w) xs)
unfolding rows_in
row_at w zero xs i h = absurd (not-suc-le-zero h)
row_at w (suc n) xs zero h = ap (λ (k : ℕ). take w (drop k xs)) (sym (zero-mul w))
row_at w (suc n) xs (suc i) h =
    row_at w n (drop w xs) i (le_of_suc-le-suc h)
    ∙ ap (take w) (drop-drop (i * w) w xs ∙ ap (λ (k : ℕ). drop k xs) (sym (next_row i w)))

module _ (w n : ℕ) (xs : List Float) (i : ℕ) where
  pub row-length : i < n → n * w ≤ length xs → length (vertex_at (rows_in w n xs) i) ≡ w
  row-length h f =
      let l = row_fits i n w h in
      ap length (row_at w n xs i h) ∙ length-take-le w (drop (i * w) xs) (rw length-drop (omega arith))

  -- ---- what stands in a row
  pub cost-at : (d : Float) → i < n → n * w ≤ length xs → 0 < w → cost_in (vertex_at (rows_in w n xs) i) ≡ get_or xs (i * w) d
  cost-at d h f p =
      let l = row_fits i n w h in
      let e : i * w + 0 ≡ i * w = omega arith in
      ap cost_in (row_at w n xs i h)
      ∙ get_or-take w (drop (i * w) xs) 0 nan p
      ∙ get_or-drop (i * w) xs 0 nan
      ∙ ap (λ (k : ℕ). get_or xs k nan) e
      ∙ get_d_any xs (i * w) nan d (omega arith)

  pub point_at : i < n → n * w ≤ length xs → 0 < w → point_in (vertex_at (rows_in w n xs) i) ≡ take (w - 1) (drop (i * w + 1) xs)
  point_at h f p =
      ap point_in (row_at w n xs i h) ∙ behind-first w (drop (i * w) xs) ∙ ap (take (w - 1)) (drop-drop 1 (i * w) xs)
    where
      behind-first : (m : ℕ) (l : List Float) → drop 1 (take m l) ≡ take (m - 1) (drop 1 l)
      behind-first zero l = refl
      behind-first (suc m) [] = sym (take-nil (suc m - 1))
      behind-first (suc m) (x ∷ xs) = let e : m ≡ suc m - 1 = omega arith in ap (λ (k : ℕ). take k xs) e

-- ---- a row in front of others
rows-front : (w n : ℕ) (r xs : List Float) → length r ≡ w → rows_in w (suc n) (r ++ xs) ≡ r ∷ rows_in w n xs
unfolding rows_in
rows-front w n r xs e = rw (take_at r xs w e, drop_at r xs w e)

pub row_put : (w n : ℕ) (xs r : List Float) (i : ℕ) → i < n → n * w ≤ length xs → length r ≡ w → rows_in w n (take (i * w) xs ++ (r ++ drop (i * w + w) xs)) ≡ set (rows_in w n xs) i r
unfolding rows_in
row_put w zero xs r i h f e = absurd (not-suc-le-zero h)
row_put w (suc n) xs r zero h f e =
    let z : 0 * w + w ≡ w = omega (arith, zero-mul w) in
    ap (λ (k : ℕ). rows_in w (suc n) (take k xs ++ (r ++ drop (0 * w + w) xs))) (zero-mul w)
    ∙ ap (λ (k : ℕ). rows_in w (suc n) (r ++ drop k xs)) z
    ∙ rows-front w n r (drop w xs) e
row_put w (suc n) xs r (suc i) h f e =
    let m : suc n * w ≡ n * w + w = suc-mul n w in
    let behind : suc i * w + w ≡ w + (i * w + w) = omega (arith, next_row i w) in
    ap (λ (k : ℕ). rows_in w (suc n) (take k xs ++ (r ++ drop (suc i * w + w) xs))) (next_row i w)
    ∙ ap (λ (l : List Float). rows_in w (suc n) (l ++ (r ++ drop (suc i * w + w) xs))) (take-add w (i * w) xs)
    ∙ ap (λ (k : ℕ). rows_in w (suc n) (take w xs ++ take (i * w) (drop w xs) ++ (r ++ drop k xs))) behind
    ∙ ap (λ (l : List Float). rows_in w (suc n) (take w xs ++ take (i * w) (drop w xs) ++ (r ++ l)))
    (sym (drop-drop (i * w + w) w xs))
    ∙ ap (rows_in w (suc n)) (append_assoc (take w xs) (take (i * w) (drop w xs)) _)
    ∙ rows-front w n (take w xs) _ (length-take-le w xs (omega arith))
    ∙ ap (λ (vs : List Vertex). take w xs ∷ vs)
    (row_put w n (drop w xs) r i (le_of_suc-le-suc h) (rw length-drop (omega arith)) e)

-- ---- the rows laid out
pub rows-flat : (w n : ℕ) (xs : List Float) → n * w ≤ length xs → flat (rows_in w n xs) ≡ take (n * w) xs
unfolding rows_in flat
rows-flat w zero xs f = ap (λ (k : ℕ). take k xs) (sym (zero-mul w))
rows-flat w (suc n) xs f =
    let m : suc n * w ≡ n * w + w = suc-mul n w in
    ap (λ (l : List Float). take w xs ++ l) (rows-flat w n (drop w xs) (rw length-drop (omega arith)))
    ∙ sym (ap (λ (k : ℕ). take k xs) (next_row n w) ∙ take-add w (n * w) xs)

pub rows_back : (w n : ℕ) (vs : List Vertex) → length vs ≡ n → ((i : ℕ) → i < n → length (vertex_at vs i) ≡ w) → rows_in w n (flat vs) ≡ vs
unfolding rows_in flat
rows_back w zero [] e all = refl
rows_back w zero (v ∷ vs) e all = absurd (suc-ne-zero (length vs) e)
rows_back w (suc n) [] e all = absurd (suc-ne-zero n (sym e))
rows_back w (suc n) (v ∷ vs) e all =
    rows-front w n v (flat vs) (all 0 (zero-lt-suc n))
    ∙ ap (λ (us : List Vertex). v ∷ us)
    (rows_back w n vs (suc_inj e) (λ (i : ℕ) (h : i < n). all (suc i) (omega arith)))
