-- Rows of a simplex that are lent as parts of the slice: what is lent, and the rows when the parts are back. Assumes
-- nothing.
use Prim.Native.Nat.{ℕ, ◌+◌, ◌-◌, ◌*◌, ◌≤◌, ◌<◌}
use mathlib.Core.Path.{◌≡◌, sym, ap, subst, ◌∙◌}
use mathlib.Core.List.{List, ◌∷◌, ◌++◌, append_assoc, append-nil}
use native.Mathlib.Numerals.{add-one}
use native.Mathlib.Omega.{arith}
use lib.Ieee.{Float}
use lib.ListN.{length, take, drop, set, length-append, length-take, length-drop, drop_of_length-le}
use lib.Seq.{take_at, drop_at, take_all, take-add, drop-drop, length-take-le, take-suc-set, append_snoc, drop-set-lt}
use borrow.Rule.Slice.PartMut.{mid_of, post_of, put_mid, Post-is}
use Rattle.search.specs.Vertices.{Vertex, vertex_at, rows_in}
use Rattle.search.proofs.RowLaws.{row_fits, next_fits, row_at, row-length, row_put}

-- ---- two parts side by side: the second part of the first one and the front of the second one change
module _ (u v p rest : List Float) (a w : ℕ) (lu : length u ≡ a) (lv : length v ≡ w) (lp : length p ≡ w) where
  end-written : (front : List Float) → front ≡ u ++ v → put_mid a (length front - a) front p ≡ u ++ p
  end-written front e = subst (λ (l : List Float). put_mid a (length l - a) l p ≡ u ++ p) (sym e) here
    where
      all : length (u ++ v) - a ≡ w
      all = omega (arith, length-append u v)

      here : put_mid a (length (u ++ v) - a) (u ++ v) p ≡ u ++ p
      here =
          ap (λ (l : List Float). l ++ (p ++ drop (length (u ++ v) - a) (drop a (u ++ v)))) (take_at u v a lu)
          ∙ ap (λ (l : List Float). u ++ (p ++ drop (length (u ++ v) - a) l)) (drop_at u v a lu)
          ∙ ap (λ (l : List Float). u ++ (p ++ l)) (drop_of_length-le v {i = length (u ++ v) - a} (omega (arith, all)))
          ∙ ap (λ (l : List Float). u ++ l) (append-nil p)

  both : length (u ++ p) ≡ a + w
  both = omega (arith, length-append u p)

  two-laid : (q : List Float) → take (a + w) (u ++ (p ++ rest)) ++ (q ++ drop (a + w + w) (u ++ (p ++ rest))) ≡ (u ++ p) ++ (q ++ drop w rest)
  two-laid q =
      ap (λ (l : List Float). take (a + w) l ++ (q ++ drop (a + w + w) l)) (sym (append_assoc u p rest))
      ∙ ap (λ (l : List Float). l ++ (q ++ drop (a + w + w) ((u ++ p) ++ rest))) (take_at (u ++ p) rest (a + w) both)
      ∙ ap (λ (l : List Float). (u ++ p) ++ (q ++ l)) (sym (drop-drop w (a + w) ((u ++ p) ++ rest)))
      ∙ ap (λ (l : List Float). (u ++ p) ++ (q ++ drop w l)) (drop_at (u ++ p) rest (a + w) both)

-- ---- the row that begins at a
module _ (w n : ℕ) (xs : List Float) (i a : ℕ) (e : a ≡ i * w) (h : i < n) where
  pub row-lent : mid_of a (a + w - a) xs ≡ vertex_at (rows_in w n xs) i
  row-lent =
      let k : a + w - a ≡ w = omega arith in
      ap (λ (m : ℕ). take m (drop a xs)) k ∙ ap (λ (b : ℕ). take w (drop b xs)) e ∙ sym (row_at w n xs i h)

  pub row_back : (r : List Float) → n * w ≤ length xs → length r ≡ w → rows_in w n (put_mid a (a + w - a) xs r) ≡ set (rows_in w n xs) i r
  row_back r f l =
      ap (λ (b : List Float). rows_in w n (take a xs ++ (r ++ b))) (Post-is a (a + w) xs (omega arith))
      ∙ ap (λ (b : ℕ). rows_in w n (take b xs ++ (r ++ drop (b + w) xs))) e
      ∙ row_put w n xs r i h f l

module _ (w n : ℕ) (xs : List Float) (i : ℕ) (f : n * w ≤ length xs) where
  -- ---- a row and the next one, which are lent as the end of one part and the front of another
  pub rows-swapped : i + 1 < n → (front back p q : List Float) → front ≡ take (i * w + w) xs → back ≡ drop (i * w + w) xs → p ≡ take w back → q ≡ take (length front - i * w) (drop (i * w) front) → rows_in w n (put_mid (i * w) (length front - i * w) front p ++ (q ++ drop w back)) ≡ set (set (rows_in w n xs) i (vertex_at (rows_in w n xs) (i + 1))) (i + 1) (vertex_at (rows_in w n xs) i)
  rows-swapped h front back p q ef eb ep eq =
      ap (rows_in w n) whole
      ∙ row_put w n once q (i + 1) h (rw same f) lq
      ∙ ap (λ (vs : List Vertex). set vs (i + 1) q) (row_put w n xs p i (omega arith) f lp)
      ∙ ap (λ (v : Vertex). set (set (rows_in w n xs) i v) (i + 1) q) vp
      ∙ ap (λ (v : Vertex). set (set (rows_in w n xs) i (vertex_at (rows_in w n xs) (i + 1))) (i + 1) v) vq
    where
      a : ℕ
      a = i * w

      once : List Float
      once = take a xs ++ (p ++ drop (a + w) xs)

      fits : a + w + w ≤ length xs
      fits = omega (arith, next_fits i n w h)

      next : (i + 1) * w ≡ a + w
      next = omega arith

      vp : p ≡ vertex_at (rows_in w n xs) (i + 1)
      vp = ep ∙ ap (take w) eb ∙ ap (λ (k : ℕ). take w (drop k xs)) (sym next) ∙ sym (row_at w n xs (i + 1) h)

      first : List Float
      first = take a xs

      last : List Float
      last = take w (drop a xs)

      lu : length first ≡ a
      lu = length-take-le a xs (omega (arith, fits))

      lv : length last ≡ w
      lv = length-take-le w (drop a xs) (rw length-drop (omega (arith, fits)))

      parts : front ≡ first ++ last
      parts = ef ∙ take-add a w xs

      lf : length front - a ≡ w
      lf = omega (arith, ap length parts, length-append first last, lu, lv)

      vq : q ≡ vertex_at (rows_in w n xs) i
      vq =
          eq
          ∙ ap (λ (k : ℕ). take k (drop a front)) lf
          ∙ ap (λ (l : List Float). take w (drop a l)) parts
          ∙ ap (take w) (drop_at first last a lu)
          ∙ take_all w last (omega (arith, lv))
          ∙ sym (row_at w n xs i (omega arith))

      lp : length p ≡ w
      lp = ap length vp ∙ row-length w n xs (i + 1) h f

      lq : length q ≡ w
      lq = ap length vq ∙ row-length w n xs i (omega arith) f

      same : length once ≡ length xs
      same = simp (length-append, length-take, length-drop) (omega (arith, fits, lp))

      whole : put_mid a (length front - a) front p ++ (q ++ drop w back) ≡ take ((i + 1) * w) once ++ (q ++ drop ((i + 1) * w + w) once)
      whole =
          ap (λ (l : List Float). l ++ (q ++ drop w back)) (end-written first last p (drop (a + w) xs) a w lu lv lp front parts)
          ∙ ap (λ (l : List Float). (first ++ p) ++ (q ++ drop w l)) eb
          ∙ sym (two-laid first last p (drop (a + w) xs) a w lu lv lp q)
          ∙ ap (λ (k : ℕ). take k once ++ (q ++ drop (k + w) once)) (sym next)

  -- ---- a cost and the coordinates behind it
  pub row_written : (c : Float) (p : List Float) → i < n → length p + 1 ≡ w → rows_in w n (put_mid (i * w + 1) (i * w + w - (i * w + 1)) (set xs (i * w) c) p) ≡ set (rows_in w n xs) i (c ∷ p)
  row_written c p h l = ap (rows_in w n) whole ∙ row_put w n xs (c ∷ p) i h f (omega arith)
    where
      fits : i * w + w ≤ length xs
      fits = omega (arith, row_fits i n w h)

      behind : post_of (i * w + 1) (i * w + w - (i * w + 1)) (set xs (i * w) c) ≡ drop (i * w + w) xs
      behind =
          Post-is (i * w + 1) (i * w + w) (set xs (i * w) c) (omega arith)
          ∙ drop-set-lt (i * w + w) xs (i * w) c (omega arith)

      whole : put_mid (i * w + 1) (i * w + w - (i * w + 1)) (set xs (i * w) c) p ≡ take (i * w) xs ++ ((c ∷ p) ++ drop (i * w + w) xs)
      whole =
          ap (λ (b : List Float). take (i * w + 1) (set xs (i * w) c) ++ (p ++ b)) behind
          ∙ ap (λ (k : ℕ). take k (set xs (i * w) c) ++ (p ++ drop (i * w + w) xs)) (add-one (i * w))
          ∙ ap (λ (b : List Float). b ++ (p ++ drop (i * w + w) xs)) (take-suc-set xs (i * w) c (omega (arith, fits)))
          ∙ append_snoc (take (i * w) xs) c (p ++ drop (i * w + w) xs)
