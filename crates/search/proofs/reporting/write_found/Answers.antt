-- `search::reporting::write_found` meets its contract. Assumes nothing.
use Prim.Native.Nat.{ℕ, ◌*◌, ◌≤◌, ◌<◌}
use mathlib.Core.Path.{◌≡◌, refl, ap, ◌∙◌}
use mathlib.Core.List.{List}
use native.Mathlib.Omega.{arith}
use lib.ListN.{get_or}
use Rattle.meaning.specs.Flags.{byte_of}
use Rattle.meaning.specs.Over.{over}
use Rattle.search.specs.Lists.{list_of}
use Rattle.search.specs.Reporting.{found_of}
use Rattle.search.specs.Tables.{found_in}
use Rattle.search.specs.Vertices.{rows_in}
use Rattle.search.specs.declared.reporting.Found.{Found}
use Rattle.search.proofs.Elements.{Passed, goes_on}
use Rattle.search.proofs.Fronts.{done-front}
use Rattle.search.proofs.RowParts.{row-lent}
use Rattle.search.proofs.reporting.write_found.Goals as goal

pub loop-i-preserved : goal.loop-i-preserved
loop-i-preserved c =
    let a = c.args in
    let inv = c.loop-i.invariant in
    let i : ℕ = c.loop-i.i in
    let h : i < a.runs = omega arith in
    let square : ℕ = a.w * a.w in
    let rows = row-lent square a.runs a.stored.now.simplexes.now i (i * square) refl h in
    let stopped = c.is_set.ensures in
    let e : c.find-found.result ≡ found_in a.w a.cap a.runs a.stored.now i =
    c.find-found.ensures
    ∙ (λ j. found_of a.w a.cap (rows_in a.w a.w (rows j)) (i * square) (get_or a.stored.now.iterations.now i 0) (stopped j)) in
    record {
      upto = omega arith;
      converged = goes_on _ _ _ inv.converged _ (omega arith) (c.byte_of.ensures ∙ ap (λ (f : Found). byte_of f.converged) e);
      costs = goes_on _ _ _ inv.costs _ (omega arith) (ap (λ (f : Found). f.cost) e);
      places = goes_on _ _ _ inv.places _ (omega arith) (ap (λ (f : Found). f.place) e);
      lengths = goes_on _ _ _ inv.lengths _ (omega arith) refl;
      caps = goes_on _ _ _ inv.caps _ (omega arith) (c.byte_of-in-loop-i.ensures ∙ ap (λ (f : Found). byte_of f.hit_cap) e);
      lent = record {
        converged = inv.lent.converged;
        costs = inv.lent.costs;
        places = inv.lent.places;
        lengths = inv.lent.lengths;
        caps = inv.lent.caps;
      };
    }

-- the loop ends at the last run
whole : {A : Type 0} (f : ℕ → A) (d : A) (held now : List A) (i runs : ℕ) → i ≤ runs → runs ≤ i
    → Passed (λ (j : ℕ) (x : A). f j) d held now i → now ≡ over (list_of f runs) held
whole {A} f d held now i runs l m p =
    let e : i ≡ runs = omega arith in
    done-front (λ (j : ℕ) (x : A). f j) d held now i p ∙ ap (λ (n : ℕ). over (list_of f n) held) e

pub returns-clause-converged_after : goal.returns-clause-converged_after
returns-clause-converged_after c = whole _ _ _ _ _ _ c.loop-i.invariant.upto c.loop-i-test.false c.loop-i.invariant.converged

pub returns-clause-costs_after : goal.returns-clause-costs_after
returns-clause-costs_after c = whole _ _ _ _ _ _ c.loop-i.invariant.upto c.loop-i-test.false c.loop-i.invariant.costs

pub returns-clause-places_after : goal.returns-clause-places_after
returns-clause-places_after c = whole _ _ _ _ _ _ c.loop-i.invariant.upto c.loop-i-test.false c.loop-i.invariant.places

pub returns-clause-lengths_after : goal.returns-clause-lengths_after
returns-clause-lengths_after c = whole _ _ _ _ _ _ c.loop-i.invariant.upto c.loop-i-test.false c.loop-i.invariant.lengths

pub returns-clause-caps_after : goal.returns-clause-caps_after
returns-clause-caps_after c = whole _ _ _ _ _ _ c.loop-i.invariant.upto c.loop-i-test.false c.loop-i.invariant.caps
