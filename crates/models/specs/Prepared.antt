-- The cost over a slice in which ln n and lgamma(n + 1) stand ready, and how such a slice is filled. Over a slice as
-- `prepare_window` leaves it the cost is `cost_of` (`prepared-is-cost`, proofs/ReadyCost.antt); over another one it is
-- what stands here. Definitions only. Assumes nothing.
use Rattle.std.specs.Prelude.{ℕ, zero, suc, ◌+◌, ◌*◌, false, ◌&&◌, cond, List, [], ◌∷◌, ◌++◌, length, Float}
use Rattle.std.specs.Float.{inf}
use Rattle.std.specs.Float.Ieee.{neg}
use Rattle.meaning.specs.Lent.{on_give}
use Rattle.meaning.specs.Reply.{Reply, give, Test, chain}
use Rattle.meaning.specs.Rows.{in_order, too_short, window_tests}
use Rattle.routines.specs.Constants.{one}
use Rattle.routines.specs.Lgamma.{lgamma_of}
use Rattle.routines.specs.Ln.{ln_of}
use Rattle.routines.specs.Ops.{◌⊕◌, of_count}
use Rattle.models.specs.Costs.{started, likelihood_usable, table_at}
use Rattle.models.specs.Hoists.{steady_of, masses_at, likelihood_at}
use Rattle.models.specs.Masses.{entries_of, masses_usable}
use Rattle.models.specs.Params.{params_of}
use Rattle.models.specs.Recovery.{used_scale_of}
use Rattle.models.specs.Refusals.{fit_tests}
use Rattle.models.specs.declared.families.ErrorModel.{ErrorModel}
use Rattle.models.specs.declared.families.GenomeModel.{GenomeModel}
use Rattle.models.specs.declared.params.Params.{Params}

-- ---- filling the slice
-- ln n and lgamma(n + 1) for the first k numbers n, from 0 on
unfoldable pub ready_rows : ℕ → List Float
ready_rows zero = []
ready_rows (suc k) = ready_rows k ++ (ln_of (of_count k) ∷ lgamma_of (of_count k ⊕ one) ∷ [])

-- how many entries a window end needs: n goes to the window end and one beyond
abbrev pub ready_demand : ℕ → ℕ
ready_demand end = 2 * (end + 2)

-- what is written to the front of a slice of `room` entries
unfoldable pub prepare_of : ℕ → ℕ → Reply (List Float)
prepare_of end room = chain (window_tests end ++ too_short room (ready_demand end)) (give (ready_rows (end + 2)))

-- ---- the cost over a slice, whatever it holds
unfoldable pub evaluated_at : List ℕ → Float → ℕ → Params → List Float → List Float → Float
evaluated_at bins scale end p ready table =
    let s = steady_of p in
    let masses = masses_at p s ready table end in
    let total = likelihood_at bins scale end p masses s ready table in
    cond (masses_usable masses && likelihood_usable total) (neg total) (inf false)

-- the scale is the one in use
abbrev pub cost_ready : List ℕ → Float → ℕ → Params → List Float → List Float → Float
cost_ready bins scale end p ready entries = cond (started p) (evaluated_at bins scale end p ready entries) (inf false)

-- with all of the shelf's entries
unfoldable pub prepared_cost_at : List ℕ → Float → ℕ → Params → List Float → Float
prepared_cost_at bins scale end p ready = cost_ready bins scale end p ready (entries_of p.shelf p.mean end)

-- cost's tests, and 10 for a slice that is too short: `filled` is its length
unfoldable pub prepared_tests : List ℕ → Float → ℕ → ℕ → ErrorModel → GenomeModel → ℕ → ℕ → ℕ → List Test
prepared_tests bins scale end peak error genome listed room filled =
    in_order (fit_tests bins scale end peak error genome listed room ∷ too_short filled (ready_demand end) ∷ [])

unfoldable pub prepared_cost_of : List ℕ → Float → ℕ → ℕ → ErrorModel → GenomeModel → List Float → List Float → ℕ
    → Reply Float
prepared_cost_of bins scale end peak error genome list ready room =
    chain (prepared_tests bins scale end peak error genome (length list) room (length ready))
    (give (prepared_cost_at bins (used_scale_of scale) end (params_of error genome (of_count peak) list) ready))

unfoldable pub prepared_cost_table : List ℕ → Float → ℕ → ℕ → ErrorModel → GenomeModel → List Float → List Float
    → List Float → List Float
prepared_cost_table bins scale end peak error genome list ready held =
    on_give (prepared_cost_of bins scale end peak error genome list ready (length held))
    (table_at end (params_of error genome (of_count peak) list) held) held
