-- `histogram::number::number_at` meets its contract: at each turn what is left to read of the number is what the whole
-- is. Assumes nothing.
use Prim.Native.Nat.{ℕ, suc, ◌+◌, ◌*◌, ◌-◌, ◌^◌, ◌≤◌}
use mathlib.Core.Path.{◌≡◌, sym, ◌∙◌}
use native.Mathlib.Nat.{sub_self}
use native.Mathlib.Numerals.{add-one}
use native.Mathlib.Omega.{arith}
use lib.ListN.{get_or}
use Rattle.histogram.specs.declared.number.Taken.{Taken}
use Rattle.histogram.specs.Number.{between, number_at_of, take_byte_of}
use Rattle.histogram.proofs.Weights.{weight-suc}
use Rattle.histogram.proofs.Takes.{tells}
use Rattle.histogram.proofs.Numbers.{byte_more, no_more}
use Rattle.histogram.proofs.number.number_at.Goals as goal

-- where another group comes, what it counts fits
next : (least most value g weight byte v : ℕ) → weight ≡ 128 ^ g → take_byte_of (between least most) value g byte ≡ Taken.More v
    → (weight * 128 ≡ 128 ^ suc g) × (v + 128 ^ suc g ≤ most)
next least most value g weight byte v h e =
    let r = (tells (between least most) value g byte (Taken.More v) e).room in
    let w = weight-suc g in
    (omega arith, omega arith)

pub loop-i-init : goal.loop-i-init
unfolding number_at_of
loop-i-init c = (rw sub_self, omega arith, rw sub_self)

pub overflow_mul-weight : goal.overflow_mul-weight
overflow_mul-weight c =
    let a = c.args in
    let l = c.loop-i in
    let n = next a.least a.most l.value (l.i - a.start) l.weight (get_or a.file.now l.i 0) c.in-More.so_far l.invariant.0 (sym c.take_byte-taken.ensures ∙ c.in-More.is) in
    omega arith

pub loop-i-preserved : goal.loop-i-preserved
loop-i-preserved c =
    let a = c.args in
    let l = c.loop-i in
    let v = c.in-More.so_far in
    let g = l.i - a.start in
    let e : l.i + 1 - a.start ≡ suc (l.i - a.start) = omega arith in
    let n = next a.least a.most l.value g l.weight (get_or a.file.now l.i 0) v l.invariant.0 (sym c.take_byte-taken.ensures ∙ c.in-More.is) in (
      rw e n.0,
      omega arith,
      rw (e, add-one l.i)
          (l.invariant.2 ∙ byte_more (between a.least a.most) a.file.now a.start l.value g l.i (Taken.More v) c.loop-i-test.true (sym c.in-More.is ∙ c.take_byte-taken.ensures)),
    )

pub returns-in-Whole : goal.returns-in-Whole
returns-in-Whole c =
    let a = c.args in
    let l = c.loop-i in
    let e : l.i + 1 ≡ a.start + suc (l.i - a.start) = omega arith in
    rw e
    (sym (l.invariant.2 ∙ byte_more (between a.least a.most) a.file.now a.start l.value (l.i - a.start) l.i (Taken.Whole c.in-Whole.n) c.loop-i-test.true (sym c.in-Whole.is ∙ c.take_byte-taken.ensures)))

pub returns-in-Wrong : goal.returns-in-Wrong
returns-in-Wrong c =
    let a = c.args in
    let l = c.loop-i in
    sym (l.invariant.2 ∙ byte_more (between a.least a.most) a.file.now a.start l.value (l.i - a.start) l.i Taken.Wrong c.loop-i-test.true (sym c.in-Wrong.is ∙ c.take_byte-taken.ensures))

pub returns : goal.returns
returns c =
    let a = c.args in
    let l = c.loop-i in
    sym (l.invariant.2 ∙ no_more (between a.least a.most) a.file.now a.start l.value (l.i - a.start) l.i c.loop-i-test.false)
