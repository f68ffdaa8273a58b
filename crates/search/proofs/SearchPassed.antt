-- What is known once no test of `search_tests` holds. Assumes nothing.
use Prim.Native.Nat.{ℕ, ◌*◌, ◌≤◌}
use mathlib.Core.Path.{◌≡◌, refl}
use mathlib.Core.Bool.{Bool, false}
use mathlib.Core.List.{List, [], ◌∷◌}
use native.Mathlib.Omega.{arith}
use lib.ListN.{length}
use Rattle.meaning.specs.Reply.{first_of}
use Rattle.meaning.specs.Rows.{most, in_order, below_two, above_most, too_short}
use Rattle.meaning.proofs.Chains.{parts}
use Rattle.meaning.proofs.Rows.{test-passed, above-most-passed, too-short-passed}
use Rattle.models.specs.Prepared.{ready_demand}
use Rattle.models.specs.Refusals.{spectrum_tests, table_demand, short_table}
use Rattle.models.proofs.Passed.{spectrum-passed}
use Rattle.search.specs.Prices.{width_of}
use Rattle.search.specs.Refusing.{wrong_starts, short_runs, search_tests}
use Rattle.models.specs.declared.problems.Problem.{Problem}
use Rattle.search.specs.declared.refusing.Lent.{Lent}

-- ---- the slices that every run has a part in
pub record RunsPassed (p : Problem) (runs : ℕ) (lent : Lent) : Type 0 where
  pub simplexes-room : runs * (width_of p * width_of p) ≤ lent.simplexes
  pub iterations-room : runs ≤ lent.iterations
  pub stopped-room : runs ≤ lent.stopped

pub runs-passed : (p : Problem) (runs : ℕ) (lent : Lent) → 0 ≡ first_of (short_runs p runs lent) → RunsPassed p runs lent
unfolding short_runs
runs-passed p runs lent z =
    let last = too_short lent.stopped runs ∷ [] in
    let next = too_short lent.iterations runs ∷ last in
    let one = parts (too_short lent.simplexes (runs * (width_of p * width_of p))) (in_order next) refl z in
    let two = parts (too_short lent.iterations runs) (in_order last) refl one.1 in
    record {
      simplexes-room = too-short-passed lent.simplexes (runs * (width_of p * width_of p)) one.0;
      iterations-room = too-short-passed lent.iterations runs two.0;
      stopped-room = too-short-passed lent.stopped runs two.1;
    }

pub record SearchPassed (bins : List ℕ) (p : Problem) (runs : ℕ) (wrong : Bool) (lent : Lent) : Type 0 where
  pub end-few : p.window_end ≤ most
  pub end-some : 1 ≤ p.window_end
  pub runs-few : runs ≤ most
  pub none-wrong : wrong ≡ false
  pub table-room : table_demand p.genome p.window_end ≤ lent.table
  pub ready-room : ready_demand p.window_end ≤ lent.ready
  pub each-run : RunsPassed p runs lent

pub search-passed : (bins : List ℕ) (p : Problem) (runs : ℕ) (wrong : Bool) (lent : Lent)
    → 0 ≡ first_of (search_tests bins p runs wrong lent) → SearchPassed bins p runs wrong lent
unfolding search_tests
search-passed bins p runs wrong lent z =
    let end = p.window_end in
    let lows = p.peak ∷ length bins ∷ [] in
    let highs = length bins ∷ p.peak ∷ end ∷ runs ∷ [] in
    let last = short_runs p runs lent ∷ [] in
    let ready = too_short lent.ready (ready_demand end) ∷ last in
    let table = short_table p.genome end lent.table ∷ ready in
    let wrongs = wrong_starts wrong ∷ table in
    let spectrum = spectrum_tests bins p.scale end ∷ wrongs in
    let fews = parts (below_two lows) (in_order (above_most highs ∷ spectrum)) refl z in
    let manys = parts (above_most highs) (in_order spectrum) refl fews.1 in
    let spectra = parts (spectrum_tests bins p.scale end) (in_order wrongs) (unfold spectrum_tests in refl) manys.1 in
    let starts = parts (wrong_starts wrong) (in_order table) refl spectra.1 in
    let tables = parts (short_table p.genome end lent.table) (in_order ready) refl starts.1 in
    let readies = parts (too_short lent.ready (ready_demand end)) (in_order last) refl tables.1 in
    let runs-only = parts (short_runs p runs lent) [] (unfold short_runs in refl) readies.1 in
    let (bins-most, (peak-most, (end-most, (runs-most, none)))) = above-most-passed highs manys.0 in
    record {
      end-few = end-most;
      end-some = (spectrum-passed bins p.scale end spectra.0).end-some;
      runs-few = runs-most;
      none-wrong = test-passed wrong 7 (omega arith) starts.0;
      table-room = too-short-passed lent.table (table_demand p.genome end) tables.0;
      ready-room = too-short-passed lent.ready (ready_demand end) readies.0;
      each-run = runs-passed p runs lent runs-only.0;
    }
