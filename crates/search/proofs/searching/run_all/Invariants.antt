-- The runs before i have gone on, the others are as found.
use Prim.Native.Nat.{ℕ, ◌*◌}
use Rattle.meaning.specs.Flags.{byte_of}
use Rattle.search.specs.Priced.{price_in, IsKept}
use Rattle.search.specs.Searches.{after_at}
use Rattle.search.specs.Turns.{State}
use Rattle.search.specs.Vertices.{flat}
use Rattle.search.proofs.Blocks.{Blocks}
use Rattle.search.proofs.Elements as each
use Rattle.search.proofs.searching.run_all.Given as goal

abbrev pub invariant-loop-i : goal.invariant-loop-i
invariant-loop-i l =
    let after : ℕ → State =
    after_at l.w l.initial.simplexes l.initial.iterations l.initial.stopped l.runs
    (price_in l.initial.prices) l.cap l.limit in
    record {
      kept : IsKept l.initial.prices l.prices;
      rows : Blocks (l.w * l.w) l.runs (λ (j : ℕ). flat (after j).vertices) l.initial.simplexes l.simplexes l.i;
      counts : each.Passed (λ (j x : ℕ). (after j).iterations) 0 l.initial.iterations l.iterations l.i;
      ends : each.Passed (λ (j x : ℕ). byte_of (after j).stopped) 0 l.initial.stopped l.stopped l.i;
    }
