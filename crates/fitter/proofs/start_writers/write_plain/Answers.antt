-- `fitter::start_writers::write_plain` meets its contract. Assumes nothing.
use mathlib.Core.Path.{sym, subst}
use mathlib.Core.List.{List}
use lib.Ieee.{Float, neg, of_bits}
use Rattle.fitter.specs.Starts.{plain_start, Wrote}
use Rattle.fitter.proofs.Parts.{weibull-start, pareto-start}
use Rattle.fitter.proofs.start_writers.write_plain.Goals as goal

pub put-requires : goal.put-requires
unfolding plain_start
put-requires c = rw c.in-FreeSingletonWeibull.is at c.requires

pub put-requires-in-SingletonPareto : goal.put-requires-in-SingletonPareto
unfolding plain_start
put-requires-in-SingletonPareto c = rw c.in-SingletonPareto.is at c.requires

pub returns-in-FreeSingletonWeibull : goal.returns-in-FreeSingletonWeibull
unfolding neg of_bits
returns-in-FreeSingletonWeibull c =
    let a = c.args in
    subst (λ (l : List Float). Wrote l c.put.result a.rest.now c.put.new.rest)
    (sym (weibull-start a.error a.seed a.start _ _ _ _ c.dispersion_start-dispersion.ensures c.ln-tail.ensures
    c.logit-single.ensures c.ratio_start-ratio.ensures c.in-FreeSingletonWeibull.is _ c.ln-shape.ensures))
    c.put.ensures

pub returns-in-SingletonPareto : goal.returns-in-SingletonPareto
unfolding neg of_bits
returns-in-SingletonPareto c =
    let a = c.args in
    let p = c.put-in-SingletonPareto in
    subst (λ (l : List Float). Wrote l p.result a.rest.now p.new.rest)
    (sym (pareto-start a.error a.seed a.start _ _ _ _ c.dispersion_start-dispersion.ensures c.ln-tail.ensures
    c.logit-single.ensures c.ratio_start-ratio.ensures c.in-SingletonPareto.is)) p.ensures
