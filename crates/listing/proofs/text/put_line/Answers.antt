-- `listing::text::put_line` meets its contract: the word, the digits and the end of the line are put one behind the
-- other. Assumes nothing.
use Prim.Native.Nat.{ℕ, ◌+◌, ◌-◌, ◌≤◌}
use mathlib.Core.Path.{◌≡◌}
use mathlib.Core.List.{List, [], ◌++◌}
use lib.ListN.{length, take, drop, set}
use Rattle.meaning.specs.Over.{over}
use Rattle.histogram.proofs.Puts.{Putting, puts, puts-all, ends}
use Rattle.listing.specs.Decimal.{decimal_of}
use Rattle.listing.specs.Listing.{ascii, line_of}
use Rattle.listing.proofs.Joins.{starts}
use Rattle.listing.proofs.text.put_line.Goals as goal

abbrev line : List ℕ → ℕ → List ℕ
line word n = word ++ (decimal_of n ++ ascii "\n")

-- the word is put
module _ (word b : List ℕ) (n : ℕ) (h : length (line word n) ≤ length b) (out : List ℕ) (k : ℕ) (ek : k ≡ length word) (ew : out ≡ over word b) where
  at-digits : Putting (line word n) b out (decimal_of n ++ ascii "\n") k
  at-digits = starts word (decimal_of n ++ ascii "\n") b h out k ek ew

  -- and the digits
  module _ (ys : List ℕ) (j : ℕ) (ej : j ≡ length (decimal_of n)) (ey : ys ≡ over (decimal_of n) (take (length out - k) (drop k out))) where
    abbrev numbered : List ℕ
    numbered = take k out ++ (ys ++ drop (length out - k) (drop k out))

    at-newline : Putting (line word n) b numbered (ascii "\n") (k + j)
    at-newline = puts-all (line word n) b out k (decimal_of n) (ascii "\n") at-digits h ys j ej ey

    at-end : Putting (line word n) b (set numbered (k + j) 10) [] (k + j + 1)
    at-end = puts (line word n) b numbered (k + j) 10 [] at-newline h

pub returns : goal.returns
unfolding line_of
returns c =
    let a = c.args in
    let w = c.put_word-first in
    let d = c.put_decimal in
    ends _ _ _ _ (at-end a.word.now a.out.now a.n c.requires w.new.out w.result w.ensures.0 w.ensures.1 d.new.out d.result d.ensures.0 d.ensures.1)
