-- `record::attempt_lines::put_costs` meets its contract. Assumes nothing.
use mathlib.Core.Path.{ap, ◌∙◌}
use mir.Val.{bool_byte}
use Rattle.record.proofs.Flags.{flag_number}
use Rattle.std.specs.Prelude.{is_some}
use Rattle.record.proofs.attempt_lines.put_costs.Goals as goal

pub returns : goal.returns
returns c =
    let held = c.from-held.ensures ∙ ap bool_byte c.is_some.ensures ∙ flag_number (is_some c.args.a.candidate) in
    record { value = cc; out_after = cc }
