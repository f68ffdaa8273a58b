-- `histogram::reader::read_bins` meets its contract. Assumes nothing.
use Prim.Native.Nat.{ℕ, ◌+◌, ◌-◌, ◌≤◌}
use mathlib.Core.Path.{◌≡◌, sym, ◌∙◌, ap}
use mathlib.Core.List.{List, []}
use native.Mathlib.Nat.{sub-zero}
use native.Mathlib.Numerals.{add-one}
use native.Mathlib.Omega.{arith}
use lib.ListN.{length, take, drop, set}
use lib.Seq.{take-suc-set, length-take-le, take-append-le}
use Rattle.histogram.specs.File.{bins, read_from}
use Rattle.histogram.proofs.Steps.{all_read, trailing}
use Rattle.histogram.proofs.Bins.{bin_fits, bin-read, bin-broken}
use Rattle.histogram.proofs.reader.read_bins.Goals as goal

pub loop-slot-init : goal.loop-slot-init
loop-slot-init c = rw sub-zero

pub returns-in_default : goal.returns-in_default
returns-in_default c =
    let l = c.loop-slot in
    let long : length (take c.args.n c.args.held.now) ≡ c.args.n = length-take-le c.args.n c.args.held.now c.requires in
    sym (l.invariant
    ∙ bin-broken c.args.n l.slot-index (omega arith) (take l.slot-index l.slot-items) c.args.file.now l.at l.at (sym c.in_default.ensures))

pub overflow_cast-slot : goal.overflow_cast-slot
overflow_cast-slot c =
    let l = c.loop-slot in
    let long : length (take c.args.n c.args.held.now) ≡ c.args.n = length-take-le c.args.n c.args.held.now c.requires in
    let h = bin_fits c.args.n l.slot-index (omega arith) [] c.args.file.now l.at _ (sym c.in-Some.ensures) in
    omega arith

pub loop-slot-preserved : goal.loop-slot-preserved
loop-slot-preserved c =
    let l = c.loop-slot in
    let long : length (take c.args.n c.args.held.now) ≡ c.args.n = length-take-le c.args.n c.args.held.now c.requires in
    let bin = c.in-Some.field-0 in
    let v = bin.value in
    l.invariant
    ∙ bin-read c.args.n l.slot-index (omega arith) (take l.slot-index l.slot-items) c.args.file.now l.at _ (sym c.in-Some.ensures)
    ∙ ap (λ (done : List ℕ). read_from (bins (c.args.n - (l.slot-index + 1)) done) c.args.file.now bin.next)
    (sym (take-suc-set l.slot-items l.slot-index v (omega arith)) ∙ ap (λ (j : ℕ). take j (set l.slot-items l.slot-index v)) (sym (add-one l.slot-index)))

-- the last bin is read
ended : (n k : ℕ) (held file : List ℕ) (at : ℕ) → n ≤ k → k ≤ n
    → read_from (bins (n - k) (take k held)) file at ≡ read_from (bins 0 (take n held)) file at
ended n k held file at h g =
    let e : k ≡ n = omega arith in
    let z : n - k ≡ 0 = omega arith in
    rw (z, e)

pub returns-then-at-file : goal.returns-then-at-file
returns-then-at-file c =
    let a = c.args in
    let l = c.loop-slot in
    let long : length (take c.args.n c.args.held.now) ≡ c.args.n = length-take-le c.args.n c.args.held.now c.requires in
    sym (l.invariant ∙ ended a.n l.slot-index l.slot-items a.file.now l.at (omega arith) (omega arith)
    ∙ trailing (take a.n l.slot-items) a.file.now l.at c.if-at-file.true)

pub returns : goal.returns
returns c =
    let a = c.args in
    let l = c.loop-slot in
    let long : length (take c.args.n c.args.held.now) ≡ c.args.n = length-take-le c.args.n c.args.held.now c.requires in
    rw (take-append-le a.n l.slot-items (drop a.n a.held.now) (omega arith))
    (sym (l.invariant ∙ ended a.n l.slot-index l.slot-items a.file.now l.at (omega arith) (omega arith)
    ∙ all_read (take a.n l.slot-items) a.file.now l.at c.if-at-file.false))
