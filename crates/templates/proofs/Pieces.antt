-- What a byte of a template shows, mark by mark, and the text from a byte on. Assumes nothing.
use Prim.Native.Nat.{ℕ}
use mathlib.Core.Path.{◌≡◌, refl}
use mathlib.Core.Bool.{true, false}
use mathlib.Core.List.{List, [], ◌∷◌, ◌++◌}
use borrow.Author.Tests.{eq-eqb, ne_eqb}
use Rattle.listing.specs.Decimal.{decimal_of}
use Rattle.templates.specs.Floats.{float_of}
use Rattle.templates.specs.Filling.{WHOLE, FLOAT, next_value, is_bracket, after, piece_of, shown_of, text_from}
use Rattle.templates.specs.declared.filling.State.{State}

module _ (c value : ℕ) where
  pub piece-whole : c ≡ WHOLE → piece_of c value ≡ decimal_of value
  unfolding piece_of
  piece-whole h = rw (eq-eqb c WHOLE h)

  module _ (other : c ≡ WHOLE → ⊥) where
    pub piece-float : c ≡ FLOAT → piece_of c value ≡ float_of value
    unfolding piece_of
    piece-float h = rw (ne_eqb c WHOLE other, eq-eqb c FLOAT h)

    module _ (neither : c ≡ FLOAT → ⊥) where
      pub piece-bracket : is_bracket c ≡ true → piece_of c value ≡ []
      unfolding piece_of
      piece-bracket h = rw (ne_eqb c WHOLE other, ne_eqb c FLOAT neither, h)

      pub piece_byte : is_bracket c ≡ false → piece_of c value ≡ c ∷ []
      unfolding piece_of
      piece_byte h = rw (ne_eqb c WHOLE other, ne_eqb c FLOAT neither, h)

module _ (values : List ℕ) (s : State) (c : ℕ) where
  pub hidden : (s.ahead ≡ 0 → ⊥) → shown_of values s c ≡ []
  unfolding shown_of
  hidden h = rw (ne_eqb s.ahead 0 h)

  pub shown : s.ahead ≡ 0 → shown_of values s c ≡ piece_of c (next_value values s)
  unfolding shown_of
  shown h = rw (eq-eqb s.ahead 0 h)

  pub text-more : (rest : List ℕ) → text_from values s (c ∷ rest) ≡ shown_of values s c ++ text_from values (after values s c) rest
  unfolding text_from
  text-more rest = refl

pub text-none : (values : List ℕ) (s : State) → text_from values s [] ≡ []
unfolding text_from
text-none values s = refl
