-- Equal blocks in the front of a slice, each lent to a call that writes it: the invariant of such a loop, and its laws,
-- one for each need of the loop. What lies behind the last block stays as it is. Assumes nothing.
use Prim.Native.Nat.{ℕ, ◌+◌, ◌-◌, ◌*◌, ◌≤◌, ◌<◌}
use mathlib.Core.Path.{◌≡◌, refl, sym, ap, subst, ◌∙◌}
use mathlib.Core.List.{List, [], ◌++◌, append_assoc}
use native.Mathlib.Omega.{arith}
use lib.Ieee.{Float}
use lib.ListN.{length, take, drop, length-append, take-append-drop}
use lib.Seq.{length-take-le, drop-append-add, drop-drop}
use borrow.Rule.Slice.PartMut.{mid_of, put_mid, Post-is, same_len_mid}
use Rattle.meaning.specs.Over.{over}
use Rattle.search.specs.Lists.{list_of}
use Rattle.search.specs.Vertices.{Vertex, vertex_at, rows_in, flat}
use Rattle.search.proofs.Elements as each
use Rattle.search.proofs.Fronts.{list_length, list_at}
use Rattle.search.proofs.RowLaws.{rows-length, row_fits, row-length, rows-flat}
use Rattle.search.proofs.RowParts.{row-lent, row_back}

-- behind a part that was put back
behind : (a s k : ℕ) (xs r : List Float) → length r ≡ s → a + s ≤ k → k ≤ length xs → drop k (put_mid a (a + s - a) xs r) ≡ drop k xs
behind a s k xs r l h m =
    let p = take a xs ++ r in
    let t : length (take a xs) ≡ a = length-take-le a xs (omega arith) in
    let n : length p ≡ a + s = length-append (take a xs) r ∙ ap (λ (x : ℕ). x + length r) t ∙ ap (λ (x : ℕ). a + x) l in
    let e : k ≡ length p + (k - (a + s)) = omega arith in
    let g : a + s + (k - (a + s)) ≡ k = omega arith in
    ap (λ (b : List Float). drop k (take a xs ++ (r ++ b))) (Post-is a (a + s) xs (omega arith))
    ∙ ap (drop k) (sym (append_assoc (take a xs) r (drop (a + s) xs)))
    ∙ ap (λ (x : ℕ). drop x (p ++ drop (a + s) xs)) e
    ∙ drop-append-add p (drop (a + s) xs) (k - (a + s))
    ∙ drop-drop (k - (a + s)) (a + s) xs
    ∙ ap (λ (x : ℕ). drop x xs) g

-- the first i of n blocks of s numbers are written: block j is f j
pub record Blocks (s n : ℕ) (f : ℕ → List Float) (found now : List Float) (i : ℕ) : Type 0 where
  pub done : each.Passed (λ (j : ℕ) (x : Vertex). f j) [] (rows_in s n found) (rows_in s n now) i
  pub long : length now ≡ length found
  pub rest : drop (n * s) now ≡ drop (n * s) found

module _ (s n : ℕ) (f : ℕ → List Float) (found : List Float) where
  pub begins : Blocks s n f found found 0
  begins = record { done = each.begins _ _ _; long = refl; rest = refl }

  module _ (now : List Float) (i : ℕ) (b : Blocks s n f found now i) where
    -- a block that is yet to be written is as found
    pub as-found : i < n → mid_of (i * s) (i * s + s - i * s) now ≡ vertex_at (rows_in s n found) i
    as-found h = row-lent s n now i (i * s) refl h ∙ b.done.left i (omega arith)

    pub upto : i ≤ n
    upto = let u = b.done.upto in let l = rows-length s n found in omega arith

    module _ (room : n * s ≤ length found) where
      pub ends : n ≤ i → now ≡ over (flat (list_of f n)) found
      unfolding over
      ends h =
          let l : length now ≡ length found = b.long in
          let r = rows-length s n found in
          let fits : n * s ≤ length now = omega arith in
          let all : rows_in s n now ≡ list_of f n =
          each.ends _ _ _ b.done (list_of f n) (omega arith) (list_length f n ∙ sym r)
          (λ (j : ℕ) (k : j < length (rows_in s n found)). list_at f n j [] (omega arith)) in
          let front : take (n * s) now ≡ flat (list_of f n) = sym (rows-flat s n now fits) ∙ ap flat all in
          let m : n * s ≡ length (flat (list_of f n)) = sym (length-take-le (n * s) now fits) ∙ ap length front in
          sym (take-append-drop (n * s) now)
          ∙ ap (λ (x : List Float). x ++ drop (n * s) now) front
          ∙ ap (λ (x : List Float). flat (list_of f n) ++ x) b.rest
          ∙ ap (λ (k : ℕ). flat (list_of f n) ++ drop k found) m

      module _ (h : i < n) where
        pub goes_on : (r : List Float) → length r ≡ s → r ≡ f i → Blocks s n f found (put_mid (i * s) (i * s + s - i * s) now r) (i + 1)
        goes_on r e g =
            let l : length now ≡ length found = b.long in
            let fits : n * s ≤ length now = omega arith in
            let len = rows-length s n found in
            let m : length (mid_of (i * s) (i * s + s - i * s) now) ≡ s =
            ap length (row-lent s n now i (i * s) refl h) ∙ row-length s n now i h fits in
            record {
              done =
                  subst (λ (vs : List Vertex). each.Passed (λ (j : ℕ) (x : Vertex). f j) [] (rows_in s n found) vs (i + 1))
                  (sym (row_back s n now i (i * s) refl h r fits e))
                  (each.goes_on _ _ _ b.done r (omega arith) g);
              long = same_len_mid (i * s) (i * s + s - i * s) now r (e ∙ sym m) ∙ l;
              rest = behind (i * s) s (n * s) now r e (row_fits i n s h) fits ∙ b.rest;
            }
