-- Lists that are written one behind the other into the front of a lent buffer, each by a writer that is lent the rest of
-- it. `Writing` is the invariant of such a loop, and begins, asks, stays-in, goes_on and ends are its laws, one for each
-- need of the loop. They hold at any element type and for lists of any lengths. Assumes nothing.
use mathlib.Core.Path.{◌≡◌, refl, sym, ◌∙◌, ap}
use mathlib.Core.List.{List, [], ◌++◌, append_assoc, append-nil}
use mathlib.Core.Logic.{⊎_elim}
use Prim.Native.Nat.{ℕ, zero, suc, ◌+◌, ◌-◌, ◌*◌, ◌≤◌, ◌<◌}
use native.Mathlib.Nat.{not-suc-le-zero, eq-or-lt_of_le, le_of_suc-le-suc, suc-mul, zero-mul}
use native.Mathlib.Omega.{arith}
use native.Mathlib.Numerals.{add-one}
use lib.ListN.{length, take, drop, length-append, length-take, length-drop, drop_of_length-le}
use lib.Seq.{take_at, drop_at, take_all, drop-drop}
use Rattle.meaning.specs.Over.{over}
use Rattle.meaning.proofs.Overs.{over-length}
use Rattle.fitter.specs.InTurn.{in_turn}

module _ {A : Type 0} where
  none : (f : ℕ → List A) (b : List A) → b ≡ over (in_turn f 0) b
  unfolding over in_turn
  none f b = refl

  more : (f : ℕ → List A) (i : ℕ) → length (in_turn f (i + 1)) ≡ length (in_turn f i) + length (f i)
  unfolding in_turn
  more f i = rw (add-one, length-append)

  -- a list that is yet to be written fits, where all do
  fits : (f : ℕ → List A) (i n : ℕ) → i < n → length (in_turn f i) + length (f i) ≤ length (in_turn f n)
  unfolding in_turn
  fits f i zero h = absurd (not-suc-le-zero h)
  fits f i (suc n) h =
      ⊎_elim (λ (e : i ≡ n). rw (e, length-append) (omega arith))
      (λ (l : i < n). let g = fits f i n l in simp length-append (omega arith))
      (eq-or-lt_of_le (le_of_suc-le-suc h))

  -- lists of one length
  pub turn-length : (f : ℕ → List A) (w : ℕ) → ((i : ℕ) → length (f i) ≡ w) → (n : ℕ) → length (in_turn f n) ≡ n * w
  unfolding in_turn
  turn-length f w h zero = sym (zero-mul w)
  turn-length f w h (suc n) = rw (length-append, h n, turn-length f w h n, suc-mul)

-- The turn of writer i: what it is lent, and what the buffer holds behind it.
module _ {A : Type 0} (f : ℕ → List A) (b buf : List A) (at i n : ℕ) (less : i < n) (ea : at ≡ length (in_turn f i))
    (le : length (in_turn f n) ≤ length b) (eb : buf ≡ over (in_turn f i) b) where
  fit : length (in_turn f i) + length (f i) ≤ length b
  fit = let g = fits f i n less in omega arith

  dropped : drop at buf ≡ drop at b
  unfolding over
  dropped =
      ap (drop at) eb
      ∙ drop_at (in_turn f i) (drop (length (in_turn f i)) b) at (sym ea)
      ∙ ap (λ (k : ℕ). drop k b) (sym ea)

  long : length (drop at b) ≤ length buf - at
  long = let g = fit in rw (eb, over-length (in_turn f i) b (omega arith)) (simp length-drop (omega arith))

  lent : take (length buf - at) (drop at buf) ≡ drop at b
  lent = rw dropped (take_all (length buf - at) (drop at b) long)

  room : length (f i) ≤ length (take (length buf - at) (drop at buf))
  room = let g = fit in rw lent (simp length-drop (omega arith))

  turn : (ys : List A) → ys ≡ over (f i) (take (length buf - at) (drop at buf))
      → take at buf ++ (ys ++ drop (length buf - at) (drop at buf)) ≡ over (in_turn f (i + 1)) b
  unfolding over in_turn
  turn ys ey =
      let t : take at buf ≡ in_turn f i =
      ap (take at) eb ∙ take_at (in_turn f i) (drop (length (in_turn f i)) b) at (sym ea) in
      let y : ys ≡ over (f i) (drop at b) = ey ∙ ap (over (f i)) lent in
      let e : drop (length buf - at) (drop at buf) ≡ [] = rw dropped (drop_of_length-le (drop at b) long) in
      rw (e, t, y, append-nil, drop-drop, add-one, length-append, ea, append_assoc)

-- The first i of n lists are written into rest, which held b; at is the place behind them.
pub record Writing {A : Type 0} (f : ℕ → List A) (n : ℕ) (b rest : List A) (at i : ℕ) : Type 0 where
  pub upto : i ≤ n
  pub behind : at ≡ length (in_turn f i)
  pub inside : at ≤ length rest
  pub same : length rest ≡ length b
  pub held : rest ≡ over (in_turn f i) b

module _ {A : Type 0} (f : ℕ → List A) (n : ℕ) (b : List A) where
  pub begins : Writing f n b b 0 0
  unfolding in_turn
  begins = record { upto = omega arith; behind = refl; inside = omega arith; same = refl; held = none f b }

  module _ (rest : List A) (at i : ℕ) (w : Writing f n b rest at i) where
    pub ends : n ≤ i → (at ≡ length (in_turn f n)) × (rest ≡ over (in_turn f n) b)
    ends h =
        let e : i ≡ n = omega arith in
        (w.behind ∙ ap (λ (k : ℕ). length (in_turn f k)) e, w.held ∙ ap (λ (k : ℕ). over (in_turn f k) b) e)

    -- the call writes xs, the next of the lists
    module _ (less : i < n) (le : length (in_turn f n) ≤ length b) (xs : List A) (e : xs ≡ f i) where
      pub asks : length xs ≤ length (take (length rest - at) (drop at rest))
      asks = rw e (room f b rest at i n less w.behind le w.held)

      -- the next place lies in the buffer
      pub stays-in : (k : ℕ) → k ≡ length xs → at + k ≤ length b
      stays-in k ek =
          let g : length (in_turn f i) + length (f i) ≤ length (in_turn f n) = fits f i n less in
          let m : length xs ≡ length (f i) = ap length e in
          omega arith

      pub goes_on : (ys : List A) (k : ℕ) → length ys ≡ length (take (length rest - at) (drop at rest))
          → (k ≡ length xs) × (ys ≡ over xs (take (length rest - at) (drop at rest)))
          → Writing f n b (take at rest ++ (ys ++ drop (length rest - at) (drop at rest))) (at + k) (i + 1)
      goes_on ys k el wrote =
          let s : length (take at rest ++ (ys ++ drop (length rest - at) (drop at rest))) ≡ length rest =
          simp (length-append, el, length-take, length-drop) (omega arith) in
          let m : length (in_turn f (i + 1)) ≡ length (in_turn f i) + length (f i) = more f i in
          let g : length (in_turn f i) + length (f i) ≤ length (in_turn f n) = fits f i n less in
          let ek : k ≡ length (f i) = wrote.0 ∙ ap length e in
          let ey : ys ≡ over (f i) (take (length rest - at) (drop at rest)) =
          wrote.1 ∙ ap (λ (zs : List A). over zs (take (length rest - at) (drop at rest))) e in
          record {
            upto = omega arith;
            behind = omega arith;
            inside = omega arith;
            same = s ∙ w.same;
            held = turn f b rest at i n less w.behind le w.held ys ey;
          }
