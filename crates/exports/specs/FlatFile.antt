-- How C has what reading a file gives. Definitions only. Assumes nothing.
use Rattle.std.specs.Prelude.{ℕ, Result, Ok, Err}
use Rattle.meaning.specs.Answers.{number_of}
use Rattle.histogram.specs.declared.reader.ReadError.{ReadError}
use Rattle.histogram.specs.declared.reader.ReadError.TheVariants as read
use Rattle.exports.specs.declared.files.FileFault.{FileFault}
use Rattle.exports.specs.declared.files.FileFault.TheVariants.{Broken, Refused}
use Rattle.meaning.specs.Numbers as number
use Rattle.meaning.specs.Reply.{Reply, refuse, broken, give}
use Rattle.exports.specs.declared.files.FlatFile.{FlatFile}

-- the number, 0 for an answer; how many bins; the place of a fault
abbrev pub say_file : Reply ℕ → FlatFile
say_file (refuse n) = record { number = n; items = 0; place = 0 }
say_file (broken place) = record { number = number.broken_file; items = 0; place = place }
say_file (give n) = record { number = 0; items = n; place = 0 }

-- what a file is refused for, by its number
abbrev pub fault_of : ReadError → FileFault
fault_of (read.Broken place) = Broken place
fault_of (read.Refused refusal) = Refused (number_of refusal)

abbrev pub fault_says : Result ℕ FileFault → Reply ℕ
fault_says (Ok n) = give n
fault_says (Err (Broken place)) = broken place
fault_says (Err (Refused n)) = refuse n
