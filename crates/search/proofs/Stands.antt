-- What a cost leaves of the shelf's table: entries past the window end stand as found, and all of it where the family is
-- plain. Assumes nothing.
use Prim.Native.Nat.{ℕ, suc, ◌≤◌}
use mathlib.Core.Path.{◌≡◌, refl}
use mathlib.Core.Bool.{Bool, true, false, cond}
use mathlib.Core.List.{List, [], ◌∷◌}
use native.Mathlib.Omega.{arith}
use lib.ListN.{length, drop}
use lib.Ieee.{Float}
use Rattle.meaning.specs.Lent.{on_give}
use Rattle.meaning.specs.Over.{over}
use Rattle.meaning.specs.Reply.{Reply, refuse, broken, give}
use Rattle.meaning.specs.Rows.{most, too_short, in_order}
use Rattle.meaning.proofs.Overs.{over-stands}
use Rattle.meaning.proofs.Chains.{parts, gave-passed}
use Rattle.routines.specs.Ops.{of_count}
use Rattle.helpers.specs.Shelves.{shelf_trials_of, last_of}
use Rattle.helpers.proofs.Tables.{table-length, last-few}
use Rattle.models.specs.Costs.{table_at, started}
use Rattle.models.specs.Masses.{entries_of}
use Rattle.models.specs.Params.{shelf_part_of, params_of}
use Rattle.models.specs.Prepared.{prepared_tests, prepared_cost_of, prepared_cost_table, ready_demand}
use Rattle.models.specs.Refusals.{table_demand, spectrum_tests, fit_tests}
use Rattle.models.specs.declared.families.ErrorModel.{ErrorModel}
use Rattle.models.specs.declared.families.GenomeModel.{GenomeModel}
use Rattle.models.specs.declared.families.GenomeModel.TheVariants.{NegativeBinomial, ShelfNegativeBinomial}
use Rattle.models.specs.declared.params.Params.{Params}
use Rattle.models.proofs.Passed.{passed}

-- a shelf has at most window end + 1 entries, and a plain family none
part-few : (genome : GenomeModel) (a b c mean : Float) (end : ℕ) → end ≤ most
    → length (entries_of (shelf_part_of genome a b c) mean end) ≤ table_demand genome end
unfolding entries_of
part-few NegativeBinomial a b c mean end h = omega arith
part-few ShelfNegativeBinomial a b c mean end h =
    let l : last_of (shelf_trials_of mean) end ≤ end = last-few (shelf_trials_of mean) end h in
    rw (table-length (shelf_trials_of mean) _ _ (suc (last_of (shelf_trials_of mean) end))) (omega arith)

module _ (bins : List ℕ) (scale : Float) (end peak : ℕ) (error : ErrorModel) (genome : GenomeModel) (list ready : List Float) where
  abbrev p : Params
  p = params_of error genome (of_count peak) list

  few : end ≤ most → length (entries_of p.shelf p.mean end) ≤ table_demand genome end
  unfolding params_of
  few h = part-few genome _ _ _ _ end h

  written : end ≤ most → (held : List Float) → drop (table_demand genome end) (table_at end p held) ≡ drop (table_demand genome end) held
  unfolding table_at
  written h held = either (started p)
    where
      either : (b : Bool) → drop (table_demand genome end) (cond b (over (entries_of p.shelf p.mean end) held) held)
          ≡ drop (table_demand genome end) held
      either true = over-stands (entries_of p.shelf p.mean end) held (table_demand genome end) (few h)
      either false = refl

  inside : (room : ℕ) (v : Float) → prepared_cost_of bins scale end peak error genome list ready room ≡ give v → end ≤ most
  unfolding prepared_cost_of prepared_tests fit_tests spectrum_tests
  inside room v e =
      let z = gave-passed _ v (prepared_tests bins scale end peak error genome (length list) room (length ready)) e in
      let both =
      parts (fit_tests bins scale end peak error genome (length list) room)
      (in_order (too_short (length ready) (ready_demand end) ∷ [])) refl z in
      (passed bins scale end peak error genome (length list) room both.0).end-few

  pub prepared-stands : (held : List Float)
      → drop (table_demand genome end) (prepared_cost_table bins scale end peak error genome list ready held)
      ≡ drop (table_demand genome end) held
  unfolding prepared_cost_table
  prepared-stands held = by_answer (prepared_cost_of bins scale end peak error genome list ready (length held)) refl
    where
      by_answer : (r : Reply Float) → prepared_cost_of bins scale end peak error genome list ready (length held) ≡ r
          → drop (table_demand genome end) (on_give r (table_at end p held) held) ≡ drop (table_demand genome end) held
      by_answer (refuse n) e = refl
      by_answer (broken place) e = refl
      by_answer (give v) e = written (inside (length held) v e) held
