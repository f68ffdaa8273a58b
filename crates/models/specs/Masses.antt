-- Each component's log mass inside the window, and the shelf's table, as models.rs has them.
-- Definitions only. Assumes nothing.
use Rattle.std.specs.Prelude.{ℕ, suc, Bool, not, ◌&&◌, List, [], Float, Option, None, Some}
use Rattle.std.specs.Float.Ieee.{lt}
use Rattle.std.specs.Float.Ieee.Scale.{finite}
use Rattle.routines.specs.Ops.{◌⊗◌}
use Rattle.routines.specs.Starts.{dec}
use Rattle.helpers.specs.Masses.{log_nb_mass_to, single_copy_mass_to}
use Rattle.helpers.specs.Shelves.{shelf_trials_of, table_of, last_of}
use Rattle.models.specs.Errors.{log_window_mass_to}
use Rattle.models.specs.declared.params.Params.{Params}
use Rattle.models.specs.declared.window_masses.WindowMasses.{WindowMasses}
use Rattle.helpers.specs.declared.shelves.Shelf.{Shelf}

-- the shelf's entries, min(trials, end) + 1 of them, and none without a shelf
unfoldable pub entries_of : Option Shelf → Float → ℕ → List Float
entries_of None mean end = []
entries_of (Some s) mean end =
    let trials = shelf_trials_of mean in table_of trials s.alpha s.beta (suc (last_of trials end))

unfoldable pub window_masses_of : Params → List Float → ℕ → WindowMasses
window_masses_of p table end =
    record {
      error = log_window_mass_to p.error_params end;
      single = single_copy_mass_to p.mean p.dispersion p.shelf table end;
      repeat = log_nb_mass_to (p.repeat_ratio ⊗ p.mean) p.dispersion end;
    }

abbrev pub mass_tolerance : Float
mass_tolerance = dec 1 1000000000000

unfoldable pub mass_usable : Float → Bool
mass_usable mass = finite mass && not (lt mass_tolerance mass)

unfoldable pub masses_usable : WindowMasses → Bool
masses_usable m = mass_usable m.error && mass_usable m.single && mass_usable m.repeat
