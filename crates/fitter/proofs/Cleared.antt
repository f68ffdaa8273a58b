-- What is known once no test of an attempt holds, row by row. Assumes nothing.
use Prim.Native.Nat.{ℕ, ◌≤◌}
use mathlib.Core.Path.{◌≡◌, refl, ◌∙◌}
use mathlib.Core.Bool.{Bool, true, false}
use mathlib.Core.List.{List, [], ◌∷◌}
use native.Mathlib.Omega.{arith}
use borrow.Author.Tests.{le-ltb}
use lib.ListN.{length}
use lib.Ieee.{Float}
use Rattle.meaning.specs.Reply.{first_of}
use Rattle.meaning.specs.Rows.{most, in_order, below_two, above_most}
use Rattle.meaning.proofs.Chains.{numbered, parts}
use Rattle.meaning.proofs.Rows.{Each, test-passed, above-most-passed, too-short-passed}
use Rattle.models.specs.Refusals.{table_demand, short_table, spectrum_tests, bins_tests}
use Rattle.fitter.specs.Attempting.{wrong_lists, wrong_costs, setup_tests}
use Rattle.fitter.specs.Candidates.{LongEnough}
use Rattle.fitter.specs.Validation.{outside_limit}
use Rattle.models.specs.declared.problems.Problem.{Problem}

pub record Clear (bins : List ℕ) (setup : Problem) (n : ℕ) (wrong bad : Bool) (room : ℕ) : Type 0 where
  pub peak-some : 0 ≡ first_of (below_two (setup.peak ∷ []))
  pub valley-some : 0 ≡ first_of (below_two (setup.valley ∷ []))
  pub bins-some : 0 ≡ first_of (below_two (length bins ∷ []))
  pub limits : Each (λ (k : ℕ). k ≤ most)
      (length bins ∷ setup.peak ∷ setup.valley ∷ setup.window_end ∷ n ∷ [])
  pub spectrum : 0 ≡ first_of (spectrum_tests bins setup.scale setup.window_end)
  pub right : wrong ≡ false
  pub good : bad ≡ false
  pub limited : 0 ≡ first_of (outside_limit setup.mass_limit)
  pub roomed : LongEnough setup room

pub setup-numbered : (bins : List ℕ) (setup : Problem) (n : ℕ) (wrong bad : Bool) (room : ℕ)
    → numbered (setup_tests bins setup n wrong bad room) ≡ true
unfolding setup_tests spectrum_tests
setup-numbered bins setup n wrong bad room = refl

-- where the bins and the window end are in their limits, their number is the spectrum's
pub spectrum-first : (bins : List ℕ) (scale : Float) (end n : ℕ) → 2 ≤ length bins → length bins ≤ most → end ≤ most
    → n ≡ first_of (bins_tests bins scale end) → n ≡ first_of (spectrum_tests bins scale end)
unfolding bins_tests spectrum_tests
spectrum-first bins scale end n few many window e =
    e ∙ simp (le-ltb (length bins) 2 few, le-ltb most (length bins) many, le-ltb most end window)

pub clear : (bins : List ℕ) (setup : Problem) (n : ℕ) (wrong bad : Bool) (room : ℕ)
    → 0 ≡ first_of (setup_tests bins setup n wrong bad room) → Clear bins setup n wrong bad room
unfolding setup_tests
clear bins setup n wrong bad room z =
    let table = short_table setup.genome setup.window_end room ∷ [] in
    let limit = outside_limit setup.mass_limit ∷ table in
    let costs = wrong_costs bad ∷ limit in
    let lists = wrong_lists wrong ∷ costs in
    let spectra = spectrum_tests bins setup.scale setup.window_end ∷ lists in
    let highs = length bins ∷ setup.peak ∷ setup.valley ∷ setup.window_end ∷ n ∷ [] in
    let above = above_most highs ∷ spectra in
    let peaks = parts (below_two (setup.peak ∷ []))
    (in_order (below_two (setup.valley ∷ length bins ∷ []) ∷ above)) refl z in
    let valleys = parts (below_two (setup.valley ∷ [])) (in_order (below_two (length bins ∷ []) ∷ above)) refl
    peaks.1 in
    let all = parts (below_two (length bins ∷ [])) (in_order above) refl valleys.1 in
    let manys = parts (above_most highs) (in_order spectra) refl all.1 in
    let window =
    parts (spectrum_tests bins setup.scale setup.window_end) (in_order lists) (unfold spectrum_tests in refl)
    manys.1 in
    let sevens = parts (wrong_lists wrong) (in_order costs) refl window.1 in
    let nines = parts (wrong_costs bad) (in_order limit) refl sevens.1 in
    let limits = parts (outside_limit setup.mass_limit) (in_order table) refl nines.1 in
    record {
      peak-some = peaks.0;
      valley-some = valleys.0;
      bins-some = all.0;
      limits = above-most-passed highs manys.0;
      spectrum = window.0;
      right = test-passed wrong 7 (omega arith) sevens.0;
      good = test-passed bad 9 (omega arith) nines.0;
      limited = limits.0;
      roomed = too-short-passed room (table_demand setup.genome setup.window_end) limits.1;
    }
