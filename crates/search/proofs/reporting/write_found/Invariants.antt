-- Each column holds the first i runs.
use Prim.Native.Nat.{ℕ, ◌-◌, ◌≤◌}
use lib.Ieee.{Float, nan}
use Rattle.meaning.specs.Flags.{byte_of}
use Rattle.search.specs.Tables.{found_in, IsLent}
use Rattle.search.specs.declared.reporting.Found.{Found}
use Rattle.search.proofs.Elements.{Passed}
use Rattle.search.proofs.reporting.write_found.Given as goal

abbrev pub invariant-loop-i : goal.invariant-loop-i
invariant-loop-i l =
    let at : ℕ → Found = found_in l.w l.cap l.runs l.stored in
    let t = l.initial.table in
    record {
      upto : l.i ≤ l.runs;
      converged : Passed (λ (j x : ℕ). byte_of (at j).converged) 0 t.converged.now l.table.converged.now l.i;
      costs : Passed (λ (j : ℕ) (x : Float). (at j).cost) nan t.costs.now l.table.costs.now l.i;
      places : Passed (λ (j x : ℕ). (at j).place) 0 t.places.now l.table.places.now l.i;
      lengths : Passed (λ (j x : ℕ). l.w - 1) 0 t.lengths.now l.table.lengths.now l.i;
      caps : Passed (λ (j x : ℕ). byte_of (at j).hit_cap) 0 t.caps.now l.table.caps.now l.i;
      lent : IsLent t l.table;
    }
