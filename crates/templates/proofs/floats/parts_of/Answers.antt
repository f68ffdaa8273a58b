-- `templates::floats::parts_of` meets its contract. Assumes nothing.
use Rattle.templates.proofs.Millionths.{carried, kept}
use Rattle.templates.proofs.floats.parts_of.Goals as goal

pub returns-then-rest : goal.returns-then-rest
returns-then-rest c =
    let r = carried _ _ _ c.floor-whole.ensures c.round-rest.ensures c.if-rest.true _ c.to_u64.ensures in
    record { whole_value = r.0; millionths_value = r.1 }

pub returns : goal.returns
returns c =
    let c = kept _ _ _ c.floor-whole.ensures c.round-rest.ensures c.if-rest.false _ _ c.to_u64-2.ensures c.to_u64-3.ensures in
    record { whole_value = c.0; millionths_value = c.1 }
