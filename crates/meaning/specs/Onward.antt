-- What is made of a reply: its answer carried on, its number. Definitions only. Assumes nothing.
use Rattle.std.specs.Prelude.{ℕ}
use Rattle.meaning.specs.Numbers as number
use Rattle.meaning.specs.Reply.{Reply, refuse, broken, give}

-- a refusal stays as it is
abbrev pub onward : {A B : Type 0} → (A → B) → Reply A → Reply B
onward f (refuse n) = refuse n
onward f (broken place) = broken place
onward f (give a) = give (f a)

-- the number, and 0 for an answer
abbrev pub number_said : {A : Type 0} → Reply A → ℕ
number_said (refuse n) = n
number_said (broken place) = number.broken_file
number_said (give a) = 0
