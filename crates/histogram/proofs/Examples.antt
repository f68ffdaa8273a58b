-- Document 01's example, and the cases beside each limit, as the checker computes them. Assumes nothing.
use mathlib.Core.Path.{◌≡◌, refl}
use mathlib.Core.List.{[], ◌∷◌}
use Prim.Native.Nat.{◌-◌, ◌^◌}
use lib.ListN.{replicate}
use Rattle.meaning.specs.Reply.{broken, give}
use Rattle.histogram.specs.Number.{groups_of, number_bytes, numbers_bytes, take_byte_of}
use Rattle.histogram.specs.File.{most_bins, range_of, next_of, step_of, steps_of, ends_of, read_of, write_of, reading}
use Rattle.histogram.specs.File.{stopped, bins, form}
use Rattle.histogram.specs.Claims.{Rows}

reads : Rows (
    (0x01 ∷ 0x03 ∷ 0xAC ∷ 0x02 ∷ 0x00 ∷ 0x05 ∷ [], give (300 ∷ 0 ∷ 5 ∷ [])) ∷
    -- a number missing, or cut short
    ([], broken 0) ∷
    (0x01 ∷ 0x80 ∷ [], broken 1) ∷
    (0x01 ∷ 0x02 ∷ 0x05 ∷ [], broken 3) ∷
    -- one too long: `80 00` for zero, and a form of two groups
    (0x01 ∷ 0x02 ∷ 0x05 ∷ 0x80 ∷ 0x00 ∷ [], broken 3) ∷
    (0x81 ∷ 0x00 ∷ [], broken 0) ∷
    -- 1 and 2,048 bins; 2,047 bins of which the first is missing
    (0x01 ∷ 0x01 ∷ 0x00 ∷ [], broken 1) ∷
    (0x01 ∷ 0x80 ∷ 0x10 ∷ [], broken 1) ∷
    (0x01 ∷ 0xFF ∷ 0x0F ∷ [], broken 3) ∷
    -- the largest bin, one above it, and six groups
    (0x01 ∷ 0x02 ∷ 0x00 ∷ 0xFF ∷ 0xFF ∷ 0xFF ∷ 0xFF ∷ 0x0F ∷ [], give (0 ∷ 4294967295 ∷ [])) ∷
    (0x01 ∷ 0x02 ∷ 0x00 ∷ 0x80 ∷ 0x80 ∷ 0x80 ∷ 0x80 ∷ 0x10 ∷ [], broken 3) ∷
    (0x01 ∷ 0x02 ∷ 0x00 ∷ 0x80 ∷ 0x80 ∷ 0x80 ∷ 0x80 ∷ 0x80 ∷ 0x01 ∷ [], broken 3) ∷
    -- a byte behind the last bin
    (0x01 ∷ 0x02 ∷ 0x00 ∷ 0x00 ∷ 0x00 ∷ [], broken 4) ∷ [])
unfolding most_bins take_byte_of range_of next_of step_of steps_of ends_of read_of
reads = (refl, (refl, (refl, (refl, (refl, (refl, (refl, (refl, (refl, (refl, (refl, (refl, (refl, tt)))))))))))))

-- 2,047 bins
most-bins : read_of (0x01 ∷ 0xFF ∷ 0x0F ∷ replicate 2047 0) ≡ give (replicate 2047 0)
unfolding most_bins take_byte_of range_of next_of step_of steps_of ends_of read_of
most-bins = refl

-- refused at the earliest byte, and not before
at_once : steps_of (reading form 0 0 0) (0x81 ∷ []) ≡ stopped 0
unfolding take_byte_of range_of step_of steps_of
at_once = refl

not_yet : steps_of (reading form 0 0 0) (0x01 ∷ 0x02 ∷ 0x80 ∷ []) ≡ reading (bins 2 []) 2 0 1
unfolding most_bins take_byte_of range_of next_of step_of steps_of
not_yet = refl

-- what the writer writes, and the longest number of 64 bits
writes : write_of (300 ∷ 0 ∷ 5 ∷ []) ≡ 0x01 ∷ 0x03 ∷ 0xAC ∷ 0x02 ∷ 0x00 ∷ 0x05 ∷ []
unfolding groups_of number_bytes numbers_bytes write_of
writes = refl

ten-groups : number_bytes (2 ^ 64 - 1) ≡ 0xFF ∷ 0xFF ∷ 0xFF ∷ 0xFF ∷ 0xFF ∷ 0xFF ∷ 0xFF ∷ 0xFF ∷ 0xFF ∷ 0x01 ∷ []
unfolding groups_of number_bytes
ten-groups = refl
