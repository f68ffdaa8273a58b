-- `fitter::shares::mass` meets its contract. The loop's end is its start where the range is inverted. Assumes nothing.
use mathlib.Core.Path.{◌≡◌, refl, sym, ap, ◌∙◌}
use Prim.Native.Nat.{ℕ, ◌+◌, ◌-◌, min}
use native.Mathlib.Omega.{arith}
use lib.ListN.{drop, get_or}
use lib.Seq.{get_or-take, get_or-drop}
use lib.Ieee.{Float, neg, of_bits}
use Rattle.routines.specs.Constants.{zero}
use Rattle.routines.specs.Ops.{◌⊕◌, of_count}
use Rattle.meaning.specs.Fold.{fold}
use Rattle.meaning.proofs.Folds.{fold-reach}
use Rattle.meaning.proofs.Loops.{begins, goes_on, ends}
use Rattle.models.specs.Recovery.{rounded_quotient_of}
use Rattle.fitter.specs.Recovering.{recovered}
use Rattle.fitter.specs.Shares.{mass_step, mass_of}
use Rattle.fitter.proofs.Recovered.{recovered-length, recovered-at}
use Rattle.fitter.proofs.shares.mass.Goals as goal

pub loop-bin-init : goal.loop-bin-init
unfolding neg of_bits
loop-bin-init c =
    let e : c.args.from - 1 + 0 ≡ c.args.from - 1 = omega arith in
    rw e (begins _ _ _ _ _ (omega arith) refl)

pub loop-bin-preserved : goal.loop-bin-preserved
loop-bin-preserved c =
    let a = c.args in
    let k = c.loop-bin.bin-index in
    let start = c.min-start.result in
    let e : a.from - 1 + (k + 1) ≡ a.from - 1 + k + 1 = omega arith in
    let j : start + k ≡ a.from - 1 + k = omega arith in
    let bin = get_or-take (c.min-end.result - start) (drop start a.bins.now) k 0 (omega arith)
    ∙ get_or-drop start a.bins.now k 0
    ∙ ap (λ (i : ℕ). get_or a.bins.now i 0) j in
    rw e
    (goes_on _ _ _ _ c.loop-bin.invariant _ (omega arith)
    (ap (λ (x : Float). c.loop-bin.total ⊕ x) c.from-total.ensures
    ∙ ap (λ (n : ℕ). c.loop-bin.total ⊕ of_count n)
    (c.rounded_quotient.ensures
    ∙ ap (λ (n : ℕ). rounded_quotient_of n a.used) bin
    ∙ recovered-at a.used a.bins.now (a.from - 1 + k) (omega arith))))

pub returns : goal.returns
unfolding mass_of
returns c =
    let a = c.args in
    let step = mass_step (recovered a.used a.bins.now) in
    let end = c.min-end.ensures ∙ ap (min a.to) (sym (recovered-length a.used a.bins.now)) in
    ends _ _ _ _ c.loop-bin.invariant (omega arith)
    ∙ fold-reach step (a.from - 1) c.min-end.result (neg zero)
    ∙ ap (λ (n : ℕ). fold step (a.from - 1) n (neg zero)) end
