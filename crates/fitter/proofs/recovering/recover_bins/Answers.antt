-- `fitter::recovering::recover_bins` meets its contract. Assumes nothing.
use mathlib.Core.Path.{sym, ap}
use lib.ListN.{length}
use Rattle.meaning.specs.Reply.{give}
use Rattle.fitter.proofs.Recovered.{recovered-length, recovers}
use Rattle.fitter.proofs.recovering.recover_bins.Goals as goal

pub returns-clause-result_value : goal.returns-clause-result_value
returns-clause-result_value c =
    let a = c.args in
    rw (recovers a.bins.now a.scale (length a.out.now) c.if-bins-lt2.false c.if-bins-gt-MOST.false c.if-out-bins.false)
    (ap give (sym (recovered-length _ a.bins.now)))
