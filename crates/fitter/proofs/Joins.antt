-- A list written behind another by a writer that is lent the rest of the buffer. Assumes nothing.
use Prim.Native.Nat.{ℕ, zero, suc, ◌+◌, ◌-◌, ◌≤◌}
use mathlib.Core.Path.{◌≡◌, refl, ap, ◌∙◌}
use mathlib.Core.List.{List, ◌++◌}
use native.Mathlib.Omega.{arith}
use lib.ListN.{length, take, drop, length-append}
use Rattle.meaning.specs.Over.{over}
use Rattle.meaning.proofs.Overs.{over-length}
use Rattle.fitter.specs.InTurn.{in_turn}
use Rattle.fitter.proofs.Writing.{Writing, goes_on, ends}

module _ {A : Type 0} where
  abbrev two-lists : List A → List A → ℕ → List A
  two-lists xs ys zero = xs
  two-lists xs ys (suc i) = ys

  module _ (xs ys b : List A) (h : length (xs ++ ys) ≤ length b) where
    pub first_fits : length xs ≤ length b
    first_fits = let e = length-append xs ys in omega arith

    both-fit : length (in_turn (two-lists xs ys) 2) ≤ length b
    unfolding in_turn
    both-fit = h

    -- the first is written
    module _ (rest : List A) (k : ℕ) (ek : k ≡ length xs) (er : rest ≡ over xs b) where
      same : length rest ≡ length b
      same = ap length er ∙ over-length xs b first_fits

      half-way : Writing (two-lists xs ys) 2 b rest k 1
      unfolding in_turn
      half-way =
          let f = first_fits in
          let s = same in
          record { upto = omega arith; behind = ek; inside = omega arith; same = s; held = er }

      pub puts-rest : (zs : List A) (j : ℕ) → length zs ≡ length (take (length rest - k) (drop k rest))
          → (j ≡ length ys) × (zs ≡ over ys (take (length rest - k) (drop k rest)))
          → (k + j ≡ length (xs ++ ys)) × (take k rest ++ (zs ++ drop (length rest - k) (drop k rest)) ≡ over (xs ++ ys) b)
      unfolding in_turn
      puts-rest zs j el w =
          ends (two-lists xs ys) 2 b (take k rest ++ (zs ++ drop (length rest - k) (drop k rest))) (k + j) 2
          (goes_on (two-lists xs ys) 2 b rest k 1 half-way (omega arith) both-fit ys refl zs j el w) (omega arith)
