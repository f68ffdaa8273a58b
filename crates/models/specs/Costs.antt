-- The cost of a parameter list, as models.rs has it. Definitions only. Assumes nothing.
use Rattle.std.specs.Prelude.{ℕ, Bool, false, not, ◌&&◌, cond, List, length, Float}
use Rattle.std.specs.Float.{inf}
use Rattle.std.specs.Float.Ieee.{neg, lt, le}
use Rattle.std.specs.Float.Ieee.Scale.{finite}
use Rattle.meaning.specs.Over.{over}
use Rattle.meaning.specs.Reply.{Reply, give, chain}
use Rattle.meaning.specs.Lent.{on_give}
use Rattle.routines.specs.Constants.{zero, half}
use Rattle.routines.specs.Ops.{of_count}
use Rattle.models.specs.Fits.{roundtrip_of}
use Rattle.models.specs.Likelihoods.{likelihood_of}
use Rattle.models.specs.Masses.{entries_of, window_masses_of, masses_usable}
use Rattle.models.specs.Params.{params_of}
use Rattle.models.specs.Recovery.{used_scale_of}
use Rattle.models.specs.Refusals.{fit_tests}
use Rattle.models.specs.Usable.{params_usable}
use Rattle.models.specs.declared.families.ErrorModel.{ErrorModel}
use Rattle.models.specs.declared.families.GenomeModel.{GenomeModel}
use Rattle.models.specs.declared.params.Params.{Params}

-- the mode that the mean gives back is at most 0.5 off
unfoldable pub mode_held : Params → Bool
mode_held p = not (lt half (roundtrip_of p.mean p.dispersion p.target_mode))

-- what stops the cost before the table is written
unfoldable pub started : Params → Bool
started p = params_usable p && mode_held p

unfoldable pub likelihood_usable : Float → Bool
likelihood_usable total = finite total && le total zero

unfoldable pub evaluated_of : List ℕ → Float → ℕ → Params → List Float → Float
evaluated_of bins scale end p table =
    let masses = window_masses_of p table end in
    let total = likelihood_of bins scale end p masses table in
    cond (masses_usable masses && likelihood_usable total) (neg total) (inf false)

-- the scale is the one in use
abbrev pub cost_with : List ℕ → Float → ℕ → Params → List Float → Float
cost_with bins scale end p entries = cond (started p) (evaluated_of bins scale end p entries) (inf false)

-- what stands in the table afterwards
abbrev pub table_with : Params → List Float → List Float → List Float
table_with p entries held = cond (started p) (over entries held) held

-- ---- with all of the shelf's entries
unfoldable pub cost_at : List ℕ → Float → ℕ → Params → Float
cost_at bins scale end p = cost_with bins scale end p (entries_of p.shelf p.mean end)

unfoldable pub table_at : ℕ → Params → List Float → List Float
table_at end p held = table_with p (entries_of p.shelf p.mean end) held

-- `room` is the lent table's length: nothing else of it is read
unfoldable pub cost_of : List ℕ → Float → ℕ → ℕ → ErrorModel → GenomeModel → List Float → ℕ → Reply Float
cost_of bins scale end peak error genome list room =
    chain (fit_tests bins scale end peak error genome (length list) room)
    (give (cost_at bins (used_scale_of scale) end (params_of error genome (of_count peak) list)))

unfoldable pub cost_table : List ℕ → Float → ℕ → ℕ → ErrorModel → GenomeModel → List Float → List Float → List Float
cost_table bins scale end peak error genome list held =
    on_give (cost_of bins scale end peak error genome list (length held))
    (table_at end (params_of error genome (of_count peak) list) held) held
