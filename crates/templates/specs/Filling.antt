-- What a template becomes. A byte of it stands for itself, but for five marks. Three of them take the next of the values:
--     #         the value in decimal
--     ~         the value as the pattern of a float
--     {a|b|c}   the part whose number, from 0, is the value
-- Braces do not nest, and a bar stands between braces alone. Marks in a part that is not shown take their values too, so
-- that each mark's value has its place. Behind the last value come zeros. Definitions only. Assumes nothing.
use Rattle.std.specs.Prelude.{ℕ, ◌-◌, ◌+◌, Bool, ◌||◌, cond, List, [], ◌∷◌, ◌++◌, eqb, ltb, length, get_or}
use Rattle.listing.specs.Decimal.{decimal_of}
use Rattle.templates.specs.Floats.{float_of}
use Rattle.templates.specs.declared.filling.State.{State}

-- the marks' codes
abbrev pub WHOLE : ℕ
WHOLE = 35

abbrev pub FLOAT : ℕ
FLOAT = 126

abbrev pub OPEN : ℕ
OPEN = 123

abbrev pub BAR : ℕ
BAR = 124

abbrev pub SHUT : ℕ
SHUT = 125

-- behind the part that is shown
abbrev pub PAST : ℕ
PAST = 18446744073709551615

-- at first all is shown, and the first value comes next
abbrev pub begun : State
begun = record { ahead = 0; next = 0 }

abbrev pub next_value : List ℕ → State → ℕ
next_value values s = get_or values s.next 0

unfoldable pub next_place : List ℕ → State → ℕ
next_place values s = cond (ltb s.next (length values)) (s.next + 1) s.next

-- how many bars are ahead of the part that is shown
unfoldable pub after_bar : ℕ → ℕ
after_bar ahead = cond (eqb ahead 0) PAST (ahead - 1)

unfoldable pub takes_value : ℕ → Bool
takes_value c = eqb c WHOLE || eqb c FLOAT

unfoldable pub is_bracket : ℕ → Bool
is_bracket c = eqb c OPEN || eqb c BAR || eqb c SHUT

-- ---- a byte of the template: what is known behind it, and what it shows
unfoldable pub after : List ℕ → State → ℕ → State
after values s c =
    cond (eqb c OPEN) (record { ahead = next_value values s; next = next_place values s })
    (cond (eqb c BAR) (record { ahead = after_bar s.ahead; next = s.next })
    (cond (eqb c SHUT) (record { ahead = 0; next = s.next })
    (cond (takes_value c) (record { ahead = s.ahead; next = next_place values s }) s)))

unfoldable pub piece_of : ℕ → ℕ → List ℕ
piece_of c value =
    cond (eqb c WHOLE) (decimal_of value)
    (cond (eqb c FLOAT) (float_of value) (cond (is_bracket c) [] (c ∷ [])))

unfoldable pub shown_of : List ℕ → State → ℕ → List ℕ
shown_of values s c = cond (eqb s.ahead 0) (piece_of c (next_value values s)) []

-- ---- the rest of a template
unfoldable pub text_from : List ℕ → State → List ℕ → List ℕ
text_from values s [] = []
text_from values s (c ∷ template) = shown_of values s c ++ text_from values (after values s c) template

unfoldable pub filled_of : List ℕ → List ℕ → List ℕ
filled_of template values = text_from values begun template
