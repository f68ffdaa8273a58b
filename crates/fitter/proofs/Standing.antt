-- What stands in the shelf's table behind the entries that an unpacked run writes: the rest as found, and all of it
-- where the family is plain. Assumes nothing.
use Prim.Native.Nat.{ℕ, suc, ◌+◌, ◌≤◌}
use mathlib.Core.Path.{◌≡◌, refl, ap, ◌∙◌}
use mathlib.Core.List.{List}
use native.Mathlib.Omega.{arith}
use lib.ListN.{length, drop}
use lib.Ieee.{Float}
use Rattle.meaning.specs.Lent.{on_give}
use Rattle.meaning.specs.Over.{over}
use Rattle.meaning.specs.Reply.{Reply, refuse, broken, give}
use Rattle.meaning.specs.Rows.{most}
use Rattle.meaning.proofs.Chains.{gave-passed}
use Rattle.meaning.proofs.Overs.{over-stands}
use Rattle.routines.specs.Ops.{of_count}
use Rattle.helpers.specs.Shelves.{shelf_trials_of, last_of}
use Rattle.helpers.specs.declared.shelves.Shelf.{Shelf}
use Rattle.helpers.proofs.Tables.{table-length, last-few}
use Rattle.models.specs.Masses.{entries_of}
use Rattle.models.specs.Params.{shelf_part_of, params_of}
use Rattle.models.specs.Refusals.{table_demand, fit_tests}
use Rattle.models.specs.Spectra.{window_of}
use Rattle.models.specs.Unpacking.{fit_at, unpack_of, unpack_table}
use Rattle.models.specs.declared.families.ErrorModel.{ErrorModel}
use Rattle.models.specs.declared.families.GenomeModel.{GenomeModel}
use Rattle.models.specs.declared.families.GenomeModel.TheVariants.{NegativeBinomial, ShelfNegativeBinomial}
use Rattle.models.specs.declared.fit.SpectrumFit.{SpectrumFit}
use Rattle.models.proofs.Passed.{passed}
use Rattle.std.specs.Prelude.{Some}

-- ---- a shelf has at most window end + 1 entries
entries-window : (s : Shelf) (mean : Float) (top : ℕ) → top ≤ most → length (entries_of (Some s) mean top) ≤ top + 1
unfolding entries_of
entries-window s mean top k =
    let last = last_of (shelf_trials_of mean) top in
    let l : last_of (shelf_trials_of mean) top ≤ top = last-few (shelf_trials_of mean) top k in
    let e : length (entries_of (Some s) mean top) ≡ suc (last_of (shelf_trials_of mean) top) =
    table-length (shelf_trials_of mean) s.alpha s.beta (suc last) in
    omega arith

part-few : (genome : GenomeModel) (a b c mean : Float) (end : ℕ) → end ≤ most
    → length (entries_of (shelf_part_of genome a b c) mean end) ≤ table_demand genome end
part-few NegativeBinomial a b c mean end k = unfold entries_of in omega arith
part-few ShelfNegativeBinomial a b c mean end k = entries-window _ mean end k

module _ (bins : List ℕ) (scale : Float) (end peak : ℕ) (error : ErrorModel) (genome : GenomeModel) (list : List Float)
    (cost : Float) (iterations : ℕ) (held : List Float) where
  abbrev entries : List Float
  entries = let p = params_of error genome (of_count peak) list in entries_of p.shelf p.mean end

  entries-few : end ≤ most → length entries ≤ table_demand genome end
  unfolding params_of
  entries-few k = part-few genome _ _ _ _ end k

  by_answer : (r : Reply SpectrumFit) → unpack_of bins scale end peak error genome list cost iterations (length held) ≡ r
      → drop (table_demand genome end) (on_give r (over entries held) held) ≡ drop (table_demand genome end) held
  unfolding unpack_of
  by_answer (refuse n) g = refl
  by_answer (broken n) g = refl
  by_answer (give fit) g =
      over-stands entries held (table_demand genome end)
      (entries-few
      (passed bins scale end peak error genome (length list) (length held)
      (gave-passed
      (fit_at bins (window_of bins scale end) error genome (params_of error genome (of_count peak) list) entries cost
      iterations) fit (fit_tests bins scale end peak error genome (length list) (length held)) g)
      ).end-few)

  pub unpacked-stands : (now : List Float) → now ≡ unpack_table bins scale end peak error genome list cost iterations held
      → drop (table_demand genome end) now ≡ drop (table_demand genome end) held
  unfolding unpack_table
  unpacked-stands now e = ap (drop (table_demand genome end)) e ∙ by_answer _ refl
