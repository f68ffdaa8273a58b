-- How C has a row of a table, three logs, a lobe and a shelf's logs. Definitions only. Assumes nothing.
use Rattle.std.specs.Prelude.{ℕ, List, get_or, Float}
use Rattle.meaning.specs.Flags.{is_set, byte_of}
use Rattle.routines.specs.Constants as constants
use Rattle.routines.specs.declared.tables.Power.{Power}
use Rattle.helpers.specs.declared.hoists.Lobe.{Lobe}
use Rattle.helpers.specs.declared.log_sums.Logs3.{Logs3}
use Rattle.helpers.specs.declared.shelves.ShelfLogs.{ShelfLogs}
use Rattle.probe.specs.declared.lobes.FlatLobe.{FlatLobe}
use Rattle.probe.specs.declared.log_sums.FlatLogs3.{FlatLogs3}
use Rattle.probe.specs.declared.tables.FlatPair.{FlatPair}

abbrev pub pair_of : Float × Float → FlatPair
pair_of (a, b) = record { first = a; second = b }

abbrev pub of_power : Power → FlatPair
of_power p = record { first = p.value; second = p.rest }

abbrev pub entry_or0 : List Float → ℕ → Float
entry_or0 xs i = get_or xs i constants.zero

abbrev pub of_logs3 : Logs3 → FlatLogs3
of_logs3 l = record { first = l.first; second = l.second; third = l.third }

abbrev pub of_lobe : Lobe → FlatLobe
of_lobe l = record {
  poisson = byte_of l.poisson;
  mean = l.mean;
  rate = l.rate;
  size = l.size;
  gamma = l.gamma;
  start = l.start;
  slope = l.slope;
}

abbrev pub to_lobe : FlatLobe → Lobe
to_lobe l = record {
  poisson = is_set l.poisson;
  mean = l.mean;
  rate = l.rate;
  size = l.size;
  gamma = l.gamma;
  start = l.start;
  slope = l.slope;
}

abbrev pub of_shelf_logs : ShelfLogs → FlatPair
of_shelf_logs l = record { first = l.rest; second = l.share }

abbrev pub to_shelf_logs : Float → Float → ShelfLogs
to_shelf_logs rest share = record { rest = rest; share = share }
