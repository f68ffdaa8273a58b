-- `search::reporting::report_searches` meets its contract. Assumes nothing.
use borrow.Author.Rules.{rules}
use Prim.Native.Nat.{ℕ, ◌+◌, ◌≤◌}
use mathlib.Core.Path.{◌≡◌, refl, ap, ◌∙◌}
use native.Mathlib.Omega.{arith}
use Rattle.meaning.specs.Flags.{byte_of}
use Rattle.meaning.proofs.Says.{handed_on, refusal_numbered}
use Rattle.models.specs.Families.{list_length_of}
use Rattle.models.specs.declared.families.ErrorModel.{ErrorModel}
use Rattle.models.specs.declared.families.GenomeModel.{GenomeModel}
use Rattle.search.specs.Reporting.{columns_of}
use Rattle.search.specs.declared.reporting.Columns.{Columns}
use Rattle.search.specs.declared.reporting.Found.{Found}
use Rattle.search.proofs.LentBack.{back-is}
use Rattle.search.proofs.ReportSaid.{report-refused, report-given, stands, column-left, lengths-left}
use Rattle.search.proofs.ShortOnes.{ReportPassed, report-passed}
use Rattle.search.proofs.Widths.{few-wide}
use Rattle.search.proofs.reporting.report_searches.Goals as goal

-- ---- a row of a simplex
wide : (n : ℕ) (error : ErrorModel) (genome : GenomeModel) → n ≡ list_length_of error genome → n + 1 ≡ list_length_of error genome + 1
wide n error genome e = ap (λ (n : ℕ). n + 1) e

-- ---- a refusal
pub returns-in_err-report_refusal : goal.returns-in_err-report_refusal
returns-in_err-report_refusal c =
    let a = c.args in
    let columns : Columns = columns_of a.simplexes.now a.iterations.now a.stopped.now a.converged.now a.costs.now a.places.now a.lengths.now a.caps.now in
    let w : c.list_length-w.result + 1 ≡ list_length_of a.error a.genome + 1 = wide _ a.error a.genome c.list_length-w.ensures in
    let e = c.in_err-report_refusal.ensures in
    let h = refusal_numbered c.in_err-report_refusal.field-0.0 in
    record {
      result_value = handed_on _ _ c.from_residual.ensures.1 ∙ report-refused a.error a.genome a.runs _ w columns _ e h;
      converged_after = stands a.error a.genome a.runs _ w columns _ e _ _ h;
      costs_after = stands a.error a.genome a.runs _ w columns _ e _ _ h;
      places_after = stands a.error a.genome a.runs _ w columns _ e _ _ h;
      lengths_after = stands a.error a.genome a.runs _ w columns _ e _ _ h;
      caps_after = stands a.error a.genome a.runs _ w columns _ e _ _ h;
    }

-- ---- an answer
pub write_found-requires : goal.write_found-requires
write_found-requires c =
    let a = c.args in
    let columns : Columns = columns_of a.simplexes.now a.iterations.now a.stopped.now a.converged.now a.costs.now a.places.now a.lengths.now a.caps.now in
    let few : list_length_of a.error a.genome ≤ 11 = few-wide a.error a.genome in
    let length-is : c.list_length-w.result ≡ list_length_of a.error a.genome = c.list_length-w.ensures in
    let p : ReportPassed (c.list_length-w.result + 1) a.runs columns =
    report-passed (c.list_length-w.result + 1) a.runs columns c.in_ok-report_refusal.ensures in
    let each = p.each-room in
    record {
      w_nonzero = (omega arith, omega arith, p.runs-few);
      w_in_bounds = (p.simplexes-room, each.0, each.1.0);
      runs_in_bounds = (each.1.1.0, each.1.1.1.0, each.1.1.1.1.0, each.1.1.1.1.1.0, each.1.1.1.1.1.1.0);
    }

pub returns : goal.returns
returns c =
    let a = c.args in
    let columns : Columns = columns_of a.simplexes.now a.iterations.now a.stopped.now a.converged.now a.costs.now a.places.now a.lengths.now a.caps.now in
    let w : c.list_length-w.result + 1 ≡ list_length_of a.error a.genome + 1 = wide _ a.error a.genome c.list_length-w.ensures in
    let e = c.in_ok-report_refusal.ensures in
    let z = refl in
    let cap = c.iteration_cap-cap.ensures in
    let all = c.write_found.ensures in
    record {
      result_value = report-given a.error a.genome a.runs _ w columns _ e z;
      converged_after = column-left a.error a.genome a.runs _ w columns _ e _ cap a.simplexes.now a.iterations.now a.stopped.now
          (λ (x : Found). byte_of x.converged) a.converged.now _ z
          (search (rules, back-is all.lent.converged all.converged_after));
      costs_after = column-left a.error a.genome a.runs _ w columns _ e _ cap a.simplexes.now a.iterations.now a.stopped.now
          (λ (x : Found). x.cost) a.costs.now _ z
          (search (rules, back-is all.lent.costs all.costs_after));
      places_after = column-left a.error a.genome a.runs _ w columns _ e _ cap a.simplexes.now a.iterations.now a.stopped.now
          (λ (x : Found). x.place) a.places.now _ z
          (search (rules, back-is all.lent.places all.places_after));
      lengths_after = lengths-left a.error a.genome a.runs _ w columns _ e a.lengths.now _ z
          (search (rules, back-is all.lent.lengths all.lengths_after));
      caps_after = column-left a.error a.genome a.runs _ w columns _ e _ cap a.simplexes.now a.iterations.now a.stopped.now
          (λ (x : Found). byte_of x.hit_cap) a.caps.now _ z
          (search (rules, back-is all.lent.caps all.caps_after));
    }
