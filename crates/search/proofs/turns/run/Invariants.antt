-- The turns that are left come to the same from here as all of them from the start.
use Prim.Native.Nat.{◌-◌}
use mathlib.Core.Path.{◌≡◌}
use mathlib.Core.List.{List}
use lib.Ieee.{Float}
use Rattle.search.specs.Priced.{price_in, IsKept}
use Rattle.search.specs.Progress.{state_of}
use Rattle.search.specs.Simplex.{state_in, IsSame}
use Rattle.search.specs.Turns.{turns_of}
use Rattle.search.proofs.turns.run.Given as goal

abbrev pub invariant-loop : goal.invariant-loop
invariant-loop l =
    let cost : List Float → Float = price_in l.initial.prices in
    record {
      same : IsSame l.initial.simplex l.simplex;
      kept : IsKept l.initial.prices l.prices;
      state : turns_of cost l.cap (l.limit - l.counter) (state_in l.simplex l.now)
          ≡ turns_of cost l.cap l.limit (state_of l.w l.fn.rows l.initial.now);
    }
