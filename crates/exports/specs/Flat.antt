-- How C has an answer and a shelf. Definitions only. Assumes nothing.
use Rattle.std.specs.Prelude.{ℕ, cond, eqb, Float, Option, None, Some, Result, Ok, Err}
use Rattle.meaning.specs.Numbers as number
use Rattle.meaning.specs.Reply.{Reply, refuse, broken, give}
use Rattle.routines.specs.Constants as constants
use Rattle.helpers.specs.declared.shelves.Shelf.{Shelf}
use Rattle.exports.specs.declared.answers.FlatCount.{FlatCount}
use Rattle.exports.specs.declared.answers.FlatNumber.{FlatNumber}
use Rattle.exports.specs.declared.answers.FlatWritten.{FlatWritten}
use Rattle.exports.specs.declared.shelf.FlatShelf.{FlatShelf}

-- an answer whose refusals are numbers
abbrev pub reply_in : {A : Type 0} → Result A ℕ → Reply A
reply_in (Ok answer) = give answer
reply_in (Err n) = refuse n

-- the number, 0 for an answer; the value, 0 for a refusal
abbrev pub say_number : Reply Float → FlatNumber
say_number (refuse n) = record { number = n; value = constants.zero }
say_number (broken place) = record { number = number.broken_file; value = constants.zero }
say_number (give x) = record { number = 0; value = x }

abbrev pub say_written : Reply ℕ → FlatWritten
say_written (refuse n) = record { number = n; items = 0 }
say_written (broken place) = record { number = number.broken_file; items = 0 }
say_written (give n) = record { number = 0; items = n }

abbrev pub say_count : Reply ℕ → FlatCount
say_count (refuse n) = record { number = n; count = 0 }
say_count (broken place) = record { number = number.broken_file; count = 0 }
say_count (give n) = record { number = 0; count = n }

abbrev pub shelf_of : FlatShelf → Shelf
shelf_of s = record { share = s.share; alpha = s.alpha; beta = s.beta }

-- 0: no shelf; any other number: this one
abbrev pub part_of : ℕ → FlatShelf → Option Shelf
part_of present s = cond (eqb present 0) None (Some (shelf_of s))
