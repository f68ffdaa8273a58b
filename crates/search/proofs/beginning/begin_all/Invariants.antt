-- The runs before i have begun, the others are as found.
use Prim.Native.Nat.{ℕ, ◌-◌, ◌*◌}
use Rattle.search.specs.Beginning.{start_at}
use Rattle.search.specs.Firsts.{first_simplex}
use Rattle.search.specs.Priced.{price_in, IsKept}
use Rattle.search.specs.Vertices.{flat}
use Rattle.search.proofs.Blocks.{Blocks}
use Rattle.search.proofs.beginning.begin_all.Given as goal

abbrev pub invariant-loop-i : goal.invariant-loop-i
invariant-loop-i l =
    record {
      kept : IsKept l.initial.prices l.prices;
      rows : Blocks (l.w * l.w) l.runs
          (λ (j : ℕ). flat (first_simplex (price_in l.initial.prices) (start_at (l.w - 1) l.starts l.runs j)))
          l.initial.simplexes l.simplexes l.i;
    }
