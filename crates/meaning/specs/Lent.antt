-- What stands in lent memory after a call, and how many items it says it wrote. Definitions only. Assumes nothing.
use Rattle.std.specs.Prelude.{ℕ, List, length}
use Rattle.meaning.specs.Over.{over}
use Rattle.meaning.specs.Reply.{Reply, refuse, broken, give}

-- a refusal changes nothing; an answer a leaves `left a`
abbrev pub leaves : {A B : Type 0} → (A → B) → Reply A → B → B
leaves left (refuse n) held = held
leaves left (broken place) held = held
leaves left (give a) held = left a

-- an answer leaves x, whatever it says
abbrev pub on_give : {A B : Type 0} → Reply A → B → B → B
on_give {A} r x held = leaves (λ (a : A). x) r held

-- an answer is the list that is written to the front
abbrev pub laid : {A : Type 0} → Reply (List A) → List A → List A
laid {A} r held = leaves (λ (xs : List A). over xs held) r held

-- how many such a call writes
abbrev pub counted : {A : Type 0} → Reply (List A) → Reply ℕ
counted (refuse n) = refuse n
counted (broken place) = broken place
counted (give xs) = give (length xs)
