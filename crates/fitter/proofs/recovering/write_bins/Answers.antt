-- `fitter::recovering::write_bins` meets its contract. The loop's invariant: the first i bins are written. Assumes nothing.
use Prim.Native.Nat.{ℕ}
use mathlib.Core.Path.{◌≡◌, ◌∙◌, ap}
use mathlib.Core.List.{List}
use native.Mathlib.Omega.{arith}
use lib.ListN.{length, take, set}
use lib.Seq.{take-length}
use Rattle.meaning.specs.Over.{over}
use Rattle.fitter.specs.Recovering.{recovered}
use Rattle.fitter.proofs.Recovered.{none_written, one_more}
use Rattle.fitter.proofs.recovering.write_bins.Goals as goal

pub loop-i-init : goal.loop-i-init
loop-i-init c = none_written c.args.used c.args.bins.now c.args.out.now

pub loop-i-preserved : goal.loop-i-preserved
loop-i-preserved c =
    let a = c.args in
    let i = c.loop-i.i in
    ap (λ (b : List ℕ). set b i c.rounded_quotient.result) c.loop-i.invariant
    ∙ ap (set (over (recovered a.used (take i a.bins.now)) a.out.now) i) c.rounded_quotient.ensures
    ∙ one_more a.used a.bins.now a.out.now i (omega arith) (omega arith)

pub returns : goal.returns
returns c =
    let a = c.args in
    let e : c.loop-i.i ≡ length a.bins.now = omega arith in
    c.loop-i.invariant
    ∙ ap (λ (j : ℕ). over (recovered a.used (take j a.bins.now)) a.out.now) e
    ∙ ap (λ (xs : List ℕ). over xs a.out.now) (ap (recovered a.used) (take-length a.bins.now))
