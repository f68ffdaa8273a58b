-- What the answer of a call that can refuse says: its value, or the number of its refusal. The map is injective
-- (proofs/Says.antt). Definitions only. Assumes nothing.
use Rattle.std.specs.Prelude.{ℕ, Result, Ok, Err}
use Rattle.meaning.specs.Numbers as number
use Rattle.meaning.specs.Onward.{number_said}
use Rattle.meaning.specs.Reply.{Reply, refuse, give}
use Rattle.meaning.specs.declared.refusals.Refusal.{Refusal}
use Rattle.meaning.specs.declared.refusals.Refusal.TheVariants.{TooSmall, TooLarge, BrokenFile, AllBinsZero, NoWindow, NothingRecovered, WrongLength, NanScanned, WrongLimitOrCost, TooShort}

abbrev pub number_of : Refusal → ℕ
number_of TooSmall = number.too_small
number_of TooLarge = number.too_large
number_of BrokenFile = number.broken_file
number_of AllBinsZero = number.all_bins_zero
number_of NoWindow = number.no_window
number_of NothingRecovered = number.nothing_recovered
number_of WrongLength = number.wrong_length
number_of NanScanned = number.nan_scanned
number_of WrongLimitOrCost = number.wrong_limit_or_cost
number_of TooShort = number.too_short

abbrev pub reply_of : {A : Type 0} → Result A Refusal → Reply A
reply_of (Ok answer) = give answer
reply_of (Err refusal) = refuse (number_of refusal)

-- what of an answer is told
abbrev pub reply_as : {A B : Type 0} → (A → B) → Result A Refusal → Reply B
reply_as tell (Ok answer) = give (tell answer)
reply_as tell (Err refusal) = refuse (number_of refusal)

-- the number alone, and 0 beside an answer
abbrev pub number_in : {A : Type 0} → Result A Refusal → ℕ
number_in r = number_said (reply_of r)
