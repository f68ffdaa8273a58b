-- `helpers::shelves::last_entry` meets its contract: the second arm is never taken. Assumes nothing.
use mathlib.Core.Path.{◌≡◌}
use Prim.Native.Nat.{◌≤◌}
use native.Mathlib.Omega.{arith}
use Rattle.helpers.specs.Shelves.{last_of}
use Rattle.helpers.proofs.Tables.{last-few}
use Rattle.helpers.proofs.shelves.last_entry.Goals as goal

pub returns-else-n-top : goal.returns-else-n-top
unfolding last_of
returns-else-n-top c =
    let args = c.args in
    let few : last_of args.trials args.top ≤ args.top = last-few args.trials args.top (omega arith) in
    let cut : c.to_u64-n.result ≡ last_of args.trials args.top = rw (
      c.to_u64-n.ensures,
      c.min.ensures,
    ) in
    omega (arith, c.if-n-top.false)
