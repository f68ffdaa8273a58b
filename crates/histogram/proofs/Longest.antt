-- The first bytes of a long file decide: one more than the longest accepted file has. Assumes nothing.
use Prim.Native.Nat.{ℕ, ◌≤◌, ◌<◌}
use mathlib.Core.Path.{◌≡◌, sym, ap, ◌∙◌, subst}
use mathlib.Core.List.{List, [], ◌++◌, append-nil}
use mathlib.Core.Logic.{⊎_elim}
use native.Mathlib.Omega.{arith}
use lib.ListN.{length, take, drop, length-append, take-append-drop}
use lib.Seq.{take_all, length-take-le}
use Rattle.meaning.specs.Reply.{give}
use Rattle.histogram.specs.File.{read_of, write_of}
use Rattle.histogram.specs.Claims.{Below, Histogram, longest_file, Continues, Stops}
use Rattle.histogram.proofs.Tests.{below_or}
use Rattle.histogram.proofs.Sizes.{file-within}
use Rattle.histogram.proofs.Lists.{below_left, below-append}
use Rattle.histogram.proofs.RoundTrip.{written_read}
use Rattle.histogram.proofs.Earliest.{continues-or-stops, stops-for-good}

-- ---- how long a file can be
pub file-short : (xs : List ℕ) → Histogram xs → length (write_of xs) ≤ longest_file
file-short xs h = let l = file-within xs h.most h.fit in omega (arith, h.most)

pub accepted-short : (file xs : List ℕ) → Below 256 file → read_of file ≡ give xs → length file ≤ longest_file
accepted-short file xs b e = let a = written_read file xs b e in let s = file-short xs a.holds in rw a.written s

-- ---- more bytes than that decide
pub first-bytes-decide : (file : List ℕ) → Below 256 file → (n : ℕ) → longest_file < n → read_of (take n file) ≡ read_of file
first-bytes-decide file b n h = ⊎_elim long (λ (l : length file ≤ n). ap read_of (take_all n file l)) (below_or n (length file))
  where
    split : take n file ++ drop n file ≡ file
    split = take-append-drop n file

    long : n < length file → read_of (take n file) ≡ read_of file
    long l = ⊎_elim goes_on stopped (continues-or-stops (take n file))
      where
        goes_on : Continues (take n file) → read_of (take n file) ≡ read_of file
        goes_on c =
            let a = written_read (take n file ++ c.bytes) c.xs (below-append 256 (take n file) c.bytes (below_left 256 (take n file) (drop n file) (subst (Below 256) (sym split) b)) c.are) c.accepted in
            let s = file-short c.xs a.holds in
            let w = ap length (sym a.written) ∙ length-append (take n file) c.bytes in
            let t = length-take-le n file (omega arith) in
            absurd (omega arith)

        stopped : Stops (take n file) → read_of (take n file) ≡ read_of file
        stopped s = ap read_of (sym (append-nil (take n file))) ∙ stops-for-good (take n file) [] s.place s.stops ∙ sym (stops-for-good (take n file) (drop n file) s.place s.stops) ∙ ap read_of split
