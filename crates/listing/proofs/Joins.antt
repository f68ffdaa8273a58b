-- Bytes put behind others that the whole of the lent memory was lent for. Assumes nothing.
use Prim.Native.Nat.{ℕ, ◌+◌, ◌-◌, ◌≤◌}
use mathlib.Core.Path.{◌≡◌, refl, sym, ap, ◌∙◌, subst}
use mathlib.Core.List.{List, [], ◌++◌, append-nil}
use native.Mathlib.Omega.{arith}
use lib.ListN.{length, take, drop, length-append}
use Rattle.meaning.specs.Over.{over}
use Rattle.meaning.proofs.Overs.{over-length}
use Rattle.histogram.proofs.Puts as Puts
use Rattle.histogram.proofs.Puts.{Putting}

module _ (xs rest b : List ℕ) (h : length (xs ++ rest) ≤ length b) where
  first_fits : length xs ≤ length b
  first_fits = let e = length-append xs rest in omega arith

  -- the first bytes are put
  module _ (out : List ℕ) (k : ℕ) (many : k ≡ length xs) (held : out ≡ over xs b) where
    pub starts : Putting (xs ++ rest) b out rest k
    starts = record {
      done = xs;
      behind = sym many;
      whole = refl;
      same = ap length held ∙ over-length xs b first_fits;
      held = held;
    }

    -- the rest is put by a writer that is lent the rest of the memory
    to-come : Putting (xs ++ rest) b out (rest ++ []) k
    to-come = subst (λ (ys : List ℕ). Putting (xs ++ rest) b out ys k) (sym (append-nil rest)) starts

    pub puts-rest : (ys : List ℕ) (j : ℕ) → j ≡ length rest → ys ≡ over rest (take (length out - k) (drop k out))
        → (k + j ≡ length (xs ++ rest)) × (take k out ++ (ys ++ drop (length out - k) (drop k out)) ≡ over (xs ++ rest) b)
    puts-rest ys j ej ey =
        Puts.ends (xs ++ rest) b (take k out ++ (ys ++ drop (length out - k) (drop k out))) (k + j)
        (Puts.puts-all (xs ++ rest) b out k rest [] to-come h ys j ej ey)
