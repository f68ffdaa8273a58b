-- `models::unpacking::fit_of` meets its contract: what each call answered, put into the fit's fields. Assumes nothing.
use lib.Ieee.{round, of_bits}
use Rattle.models.specs.Unpacking.{fit_with, fit_of}
use Rattle.models.proofs.unpacking.fit_of.Goals as goal

pub returns : goal.returns
unfolding fit_of fit_with round of_bits
returns c =
    rw c.conditional_deviance-deviance.ensures
    (rw (c.ln.ensures, c.list_length.ensures)
    (rw (c.exp-6.ensures, c.exp-5.ensures, c.exp-4.ensures)
    (rw (c.exp-3.ensures, c.exp-2.ensures, c.exp.ensures)
    (rw (c.log_total-total_repeat.ensures, c.log_total-total_single.ensures, c.log_total-total_error.ensures)
    (rw c.ln-ln_library.ensures)))))
