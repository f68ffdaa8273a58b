-- `histogram::number::tenth_byte` meets its contract. Assumes nothing.
use Prim.Native.Nat.{ℕ, ◌+◌, ◌^◌, ◌≤◌, ◌<◌}
use mathlib.Core.Path.{◌≡◌, sym, ◌∙◌, ap}
use mathlib.Core.Logic.{⊎_elim}
use native.Mathlib.Omega.{arith}
use Rattle.histogram.specs.declared.number.Taken.TheVariants as Taken
use Rattle.histogram.specs.Number.{between, with_group, take_byte_of}
use Rattle.histogram.proofs.Tests.{below_or}
use Rattle.histogram.proofs.Takes as takes
use Rattle.histogram.proofs.number.tenth_byte.Goals as goal

-- every byte but a 1 is wrong, of a number that fits a `u64`
only_one : (least most value byte : ℕ) → most < 2 ^ 64 → (byte ≡ 1 → most < value + 2 ^ 63) → take_byte_of (between least most) value 9 byte ≡ Taken.Wrong
only_one least most value byte f h = ⊎_elim last (λ (l : 128 ≤ byte). takes.goes-past (between least most) value 9 byte l (omega arith)) (below_or byte 128)
  where
    some : 0 < byte → byte < 128 → most < with_group value 9 byte
    some p l = ⊎_elim (λ (m : 1 < byte). omega arith) (λ (m : byte ≤ 1). let o : byte ≡ 1 = omega arith in let s = h o in omega arith) (below_or 1 byte)

    last : byte < 128 → take_byte_of (between least most) value 9 byte ≡ Taken.Wrong
    last l =
        ⊎_elim (λ (p : 0 < byte). takes.above-range (between least most) value 9 byte (some p l))
        (λ (z : byte ≤ 0). takes.zero-behind (between least most) value 9 byte (omega arith) (omega arith))
        (below_or 0 byte)

pub returns-then-most-lt-TOP : goal.returns-then-most-lt-TOP
returns-then-most-lt-TOP c = let a = c.args in sym (only_one a.least a.most a.value a.byte (omega arith) (λ (_ : a.byte ≡ 1). omega arith))

pub returns-then-byte-ne1 : goal.returns-then-byte-ne1
returns-then-byte-ne1 c =
    let a = c.args in sym (only_one a.least a.most a.value a.byte (omega arith)
    (λ (e : a.byte ≡ 1). absurd (c.if-byte-ne1.true e)))

pub returns-then-most-value-lt-TOP : goal.returns-then-most-value-lt-TOP
returns-then-most-value-lt-TOP c =
    let a = c.args in sym (only_one a.least a.most a.value a.byte (omega arith)
    (λ (_ : a.byte ≡ 1). omega arith))

-- ---- a 1
pub returns-then-value-least : goal.returns-then-value-least
returns-then-value-least c =
    let a = c.args in sym (takes.below-range (between a.least a.most) a.value 9 a.byte (omega arith)
    (omega arith))

pub returns : goal.returns
returns c =
    let a = c.args in
    let e : a.value + 2 ^ 63 ≡ with_group a.value 9 a.byte = omega arith in
    ap Taken.Whole e ∙ sym (takes.ends (between a.least a.most) a.value 9 a.byte (omega arith) (λ (z : a.byte ≡ 0) (_ : 0 < 9). omega arith) (omega arith) (omega arith))
