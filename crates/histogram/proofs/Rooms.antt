-- The answer of the reader's call, from the bins held and the room for them: 10 where they do not fit. Assumes nothing.
use Prim.Native.Nat.{ℕ, ◌≤◌, ◌<◌}
use mathlib.Core.Path.{◌≡◌, refl, ap}
use mathlib.Core.List.{List}
use lib.ListN.{length, take}
use lib.Seq.{length-take-le}
use borrow.Author.Tests.{lt-ltb, le-ltb}
use Rattle.std.specs.Prelude.{Result, Ok, Err, IsErrAnd}
use Rattle.meaning.specs.Reply.{refuse, give}
use Rattle.meaning.specs.Lent.{laid, counted}
use Rattle.histogram.specs.declared.reader.ReadError.{ReadError}
use Rattle.histogram.specs.declared.reader.ReadError.TheVariants.{Broken, Refused}
use Rattle.histogram.specs.Read.{fits_in, error_says, file_says}

module _ (room n : ℕ) (held : List ℕ) (h : n ≤ length held) where
  pub no_room : room < n → fits_in room (give (take n held)) ≡ refuse 10
  no_room l = rw (length-take-le n held h, lt-ltb room n l)

  pub has_room : n ≤ room → fits_in room (give (take n held)) ≡ give (take n held)
  has_room l = rw (length-take-le n held h, le-ltb room n l)

-- ---- an error of reading goes through, and writes nothing
pub error-handed : (r : Result ℕ ReadError) (error : ReadError) → IsErrAnd r (λ (e : ReadError). e ≡ error)
    → file_says r ≡ error_says error
error-handed (Ok n) error h = absurd h
error-handed (Err e) error h = ap (λ (x : ReadError). error_says x) h

module _ (room : ℕ) where
  pub error-counted : (error : ReadError) → counted (fits_in room (error_says error)) ≡ error_says error
  error-counted (Broken place) = refl
  error-counted (Refused refusal) = refl

  pub error-laid : (error : ReadError) (bins : List ℕ) → laid (fits_in room (error_says error)) bins ≡ bins
  error-laid (Broken place) bins = refl
  error-laid (Refused refusal) bins = refl
