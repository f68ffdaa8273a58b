-- Answers that say the same are the same: the maps of specs/Answers.antt are injective, and no refusal has the number
-- 0, which stands for none. Assumes nothing.
use mathlib.Core.Path.{◌≡◌, refl, sym, ap, ◌∙◌}
use native.Mathlib.Omega.{arith}
use Prim.Native.Nat.{ℕ, ◌<◌}
use mathlib.Core.List.{[], ◌∷◌}
use lib.ListN.{get_or}
use Rattle.std.specs.Prelude.{Result, Ok, Err, IsErrAnd}
use Rattle.meaning.specs.Answers.{number_of, reply_of, reply_as, number_in}
use Rattle.meaning.specs.Reply.{refuse}
use Rattle.meaning.specs.declared.refusals.Refusal.{Refusal}
use Rattle.meaning.specs.declared.refusals.Refusal.TheVariants.{TooSmall, TooLarge, BrokenFile, AllBinsZero, NoWindow}
use Rattle.meaning.specs.declared.refusals.Refusal.TheVariants.{NothingRecovered, WrongLength, NanScanned}
use Rattle.meaning.specs.declared.refusals.Refusal.TheVariants.{WrongLimitOrCost, TooShort}
use Rattle.meaning.proofs.Replies.{same_answer, same_number, answer-not-refused}

-- the refusal of a number
abbrev refusal_at : ℕ → Refusal
refusal_at n =
    get_or
    (TooSmall
    ∷ TooSmall
    ∷ TooLarge
    ∷ BrokenFile
    ∷ AllBinsZero
    ∷ NoWindow
    ∷ NothingRecovered
    ∷ WrongLength
    ∷ NanScanned
    ∷ WrongLimitOrCost
    ∷ TooShort
    ∷ [])
    n TooSmall

there_and_back : (r : Refusal) → refusal_at (number_of r) ≡ r
there_and_back TooSmall = refl
there_and_back TooLarge = refl
there_and_back BrokenFile = refl
there_and_back AllBinsZero = refl
there_and_back NoWindow = refl
there_and_back NothingRecovered = refl
there_and_back WrongLength = refl
there_and_back NanScanned = refl
there_and_back WrongLimitOrCost = refl
there_and_back TooShort = refl

pub refusal_same : (a b : Refusal) → number_of a ≡ number_of b → a ≡ b
refusal_same a b e = sym (there_and_back a) ∙ ap refusal_at e ∙ there_and_back b

pub refusal_numbered : (r : Refusal) → 0 < number_of r
refusal_numbered TooSmall = omega arith
refusal_numbered TooLarge = omega arith
refusal_numbered BrokenFile = omega arith
refusal_numbered AllBinsZero = omega arith
refusal_numbered NoWindow = omega arith
refusal_numbered NothingRecovered = omega arith
refusal_numbered WrongLength = omega arith
refusal_numbered NanScanned = omega arith
refusal_numbered WrongLimitOrCost = omega arith
refusal_numbered TooShort = omega arith

pub reply_same : {A : Type 0} (a b : Result A Refusal) → reply_of a ≡ reply_of b → a ≡ b
reply_same (Ok x) (Ok y) e = ap Ok (same_answer e)
reply_same (Ok x) (Err r) e = absurd (answer-not-refused e)
reply_same (Err r) (Ok x) e = absurd (answer-not-refused (sym e))
reply_same (Err r) (Err s) e = ap Err (refusal_same r s (same_number e))

-- and by what is told of an answer, where answers that tell the same are the same
pub reply_as_same : {A B : Type 0} (tell : A → B) → ((x y : A) → tell x ≡ tell y → x ≡ y) → (a b : Result A Refusal)
    → reply_as tell a ≡ reply_as tell b → a ≡ b
reply_as_same tell injective (Ok x) (Ok y) e = ap Ok (injective x y (same_answer e))
reply_as_same tell injective (Ok x) (Err r) e = absurd (answer-not-refused e)
reply_as_same tell injective (Err r) (Ok x) e = absurd (answer-not-refused (sym e))
reply_as_same tell injective (Err r) (Err s) e = ap Err (refusal_same r s (same_number e))

-- what comes back where nothing but a refusal can
pub number_same : (a b : Result (Unit {0}) Refusal) → number_in a ≡ number_in b → a ≡ b
number_same (Ok x) (Ok y) e = refl
number_same (Ok x) (Err r) e = let h = refusal_numbered r in absurd (omega arith)
number_same (Err r) (Ok x) e = let h = refusal_numbered r in absurd (omega arith)
number_same (Err r) (Err s) e = ap Err (refusal_same r s e)

-- ---- what a `?` hands on: the refusal that came
module _ {A : Type 0} where
  pub handed_on : (r : Result A Refusal) (refusal : Refusal) → IsErrAnd r (λ (e : Refusal). e ≡ refusal)
      → reply_of r ≡ refuse (number_of refusal)
  handed_on (Ok x) refusal h = absurd h
  handed_on (Err e) refusal h = ap (λ (x : Refusal). refuse (number_of x)) h

  pub handed_number : (r : Result A Refusal) (refusal : Refusal) → IsErrAnd r (λ (e : Refusal). e ≡ refusal)
      → number_in r ≡ number_of refusal
  handed_number (Ok x) refusal h = absurd h
  handed_number (Err e) refusal h = ap (λ (x : Refusal). number_of x) h

pub handed_as : {A B : Type 0} (tell : A → B) (r : Result A Refusal) (refusal : Refusal)
    → IsErrAnd r (λ (e : Refusal). e ≡ refusal) → reply_as tell r ≡ refuse (number_of refusal)
handed_as tell (Ok x) refusal h = absurd h
handed_as tell (Err e) refusal h = ap (λ (x : Refusal). refuse (number_of x)) h
