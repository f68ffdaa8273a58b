-- THE HISTOGRAM FILE, claim by claim, to be read beside document 01. `read_of` and `write_of` are what the reader's and
-- the writer's calls promise; a file is a list of bytes, which is what
-- `Below 256` says. Assumes nothing.
use Prim.Native.Nat.{ℕ, ◌≤◌, ◌<◌}
use mathlib.Core.Path.{◌≡◌, refl, ap}
use mathlib.Core.List.{List, ◌∷◌, ◌++◌}
use mathlib.Core.Logic.{◌⊎◌}
use lib.ListN.{length, take}
use Rattle.meaning.specs.Reply.{refuse, broken, give}
use Rattle.std.specs.Prelude.{Option, Some, None, Result, Ok, Err}
use Rattle.meaning.proofs.Replies.{same_answer, same_number}
use Rattle.meaning.proofs.Says.{refusal_same}
use Rattle.meaning.proofs.Unique.{once}
use Rattle.meaning.specs.declared.refusals.Refusal.{Refusal}
use Rattle.histogram.specs.declared.reader.ReadError.{ReadError}
use Rattle.histogram.specs.declared.reader.ReadError.TheVariants.{Broken, Refused}
use Rattle.histogram.specs.declared.number.Found.{Found}
use Rattle.histogram.specs.Number.{number_says, number_bytes, numbers_bytes}
use Rattle.histogram.specs.File.{State, form, range_of, reading, stopped, steps_of, read_of, write_of}
use Rattle.histogram.specs.Read.{file_says}
use Rattle.histogram.specs.Claims.{Below, Histogram, Continued, In, Allowed, behind, Complete, FirstFault}
use Rattle.histogram.specs.Claims.{longest_file, Continues, Stops}
use Rattle.histogram.proofs.Steps as steps
use Rattle.histogram.proofs.RoundTrip as round_trip
use Rattle.histogram.proofs.Places as places
use Rattle.histogram.proofs.Faults as faults
use Rattle.histogram.proofs.Earliest as earliest
use Rattle.histogram.proofs.Longest as longest

-- ---- reading what was written gives the histogram back
pub read-written : (xs : List ℕ) → Histogram xs → read_of (write_of xs) ≡ give xs
read-written = round_trip.read-written

-- ---- each accepted file is what the writer writes
pub written_read : (file xs : List ℕ) → Below 256 file → read_of file ≡ give xs → file ≡ write_of xs
written_read file xs b e = (round_trip.written_read file xs b e).written

-- and holds what the writer takes
pub accepted-holds : (file xs : List ℕ) → Below 256 file → read_of file ≡ give xs → Histogram xs
accepted-holds file xs b e = (round_trip.written_read file xs b e).holds

-- no two files mean the same histogram
pub one-file : (file other xs : List ℕ) → Below 256 file → Below 256 other → read_of file ≡ give xs → read_of other ≡ give xs → file ≡ other
one-file file other xs b c e f = once (written_read file xs b e) (written_read other xs c f)

-- ---- the place of a refusal is where the first number at fault starts, and a file without a fault is not refused
pub refused-fault : (file : List ℕ) (place : ℕ) → Below 256 file → read_of file ≡ broken place → FirstFault file place
refused-fault = places.refused-fault

pub fault-refused : (file : List ℕ) (place : ℕ) → Below 256 file → FirstFault file place → read_of file ≡ broken place
fault-refused = places.fault-refused

-- a file is accepted or refused with a place: no other number comes back
pub never-refused : (file : List ℕ) (n : ℕ) → read_of file ≡ refuse n → ⊥
unfolding read_of
never-refused file = steps.never-refused (steps_of (reading form 0 0 0) file)

-- ---- the kinds of fault, each behind numbers that may come: a number missing altogether, whose place is the file's length
pub missing : (ns : List ℕ) → Allowed form ns → (Complete (behind form ns) → ⊥) → read_of (numbers_bytes ns) ≡ broken (length (numbers_bytes ns))
missing = faults.missing

-- one cut short
pub cut_short : (ns : List ℕ) → Allowed form ns → (b : ℕ) (bytes : List ℕ) → Continued (b ∷ bytes) → read_of (numbers_bytes ns ++ (b ∷ bytes)) ≡ broken (length (numbers_bytes ns))
cut_short = faults.cut_short

-- one too long: a zero for its last group
pub too_long : (ns : List ℕ) → Allowed form ns → (b : ℕ) (bytes : List ℕ) → Continued (b ∷ bytes) → (rest : List ℕ) → Below 256 rest
    → read_of (numbers_bytes ns ++ ((b ∷ bytes) ++ (0 ∷ rest))) ≡ broken (length (numbers_bytes ns))
too_long = faults.too_long

-- one outside its range
pub outside : (ns : List ℕ) → Allowed form ns → (n : ℕ) (rest : List ℕ) → Below 256 rest → (In (range_of (behind form ns)) n → ⊥) → read_of (numbers_bytes ns ++ (number_bytes n ++ rest)) ≡ broken (length (numbers_bytes ns))
outside = faults.outside

-- bytes behind the last bin: the first of them
pub trailing : (xs : List ℕ) → Histogram xs → (b : ℕ) (rest : List ℕ) → Below 256 (b ∷ rest) → read_of (write_of xs ++ (b ∷ rest)) ≡ broken (length (write_of xs))
trailing = faults.trailing

-- ---- in parts: the state behind two parts is that of the second from that of the first
pub in_parts : (state : State) (xs ys : List ℕ) → steps_of state (xs ++ ys) ≡ steps_of (steps_of state xs) ys
in_parts = steps.steps-append

-- the reader stops at the earliest byte: until then some bytes more make a file that is accepted, and from then on
-- none do
pub continues-or-stops : (file : List ℕ) → Continues file ⊎ Stops file
continues-or-stops = earliest.continues-or-stops

pub stops-for-good : (file rest : List ℕ) (place : ℕ) → steps_of (reading form 0 0 0) file ≡ stopped place → read_of (file ++ rest) ≡ broken place
stops-for-good = earliest.stops-for-good

-- ---- a buffer of more bytes than the longest accepted file has decides
pub longest-file : (file xs : List ℕ) → Below 256 file → read_of file ≡ give xs → length file ≤ longest_file
longest-file file xs b e = longest.accepted-short file xs b e

pub first-bytes-decide : (file : List ℕ) → Below 256 file → (n : ℕ) → longest_file < n → read_of (take n file) ≡ read_of file
first-bytes-decide = longest.first-bytes-decide

-- ---- the calls' answers are told apart, so two programs that keep a promise give equal answers
pub file-says-injective : (a b : Result ℕ ReadError) → file_says a ≡ file_says b → a ≡ b
file-says-injective (Ok n) (Ok m) e = cc
file-says-injective (Ok n) (Err (Broken p)) e = cc
file-says-injective (Ok n) (Err (Refused k)) e = cc
file-says-injective (Err (Broken p)) (Ok m) e = cc
file-says-injective (Err (Broken p)) (Err (Broken q)) e = cc
file-says-injective (Err (Broken p)) (Err (Refused k)) e = cc
file-says-injective (Err (Refused k)) (Ok m) e = cc
file-says-injective (Err (Refused k)) (Err (Broken q)) e = cc
file-says-injective (Err (Refused k)) (Err (Refused l)) e =
    ap (λ (r : Refusal). Err (Refused r)) (refusal_same k l (same_number e))

pub number-says-injective : (start : ℕ) (a b : Option Found) → number_says start a ≡ number_says start b → a ≡ b
number-says-injective start (Some f) (Some g) e = ap Some (same_answer e)
number-says-injective start (Some f) None e = cc
number-says-injective start None (Some g) e = cc
number-says-injective start None None e = refl
