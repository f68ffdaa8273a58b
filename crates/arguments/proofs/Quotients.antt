-- A decimal's quotient: its tests in two parts, and that it is rounded once. Assumes nothing.
use Prim.Native.Nat.{ℕ, ◌+◌, ◌^◌, ◌≤◌, ◌<◌}
use mathlib.Core.Path.{◌≡◌, refl, sym, ap, ◌∙◌}
use mathlib.Core.Bool.{Bool, true, false, cond, ◌&&◌}
use mathlib.Core.List.{List, ◌++◌}
use native.Mathlib.Nat.{one-le-pow, zero-lt-suc}
use native.Mathlib.Omega.{arith}
use lib.Dec.{leb}
use lib.ListN.{length, length-append}
use lib.Ieee.{Float, binary64, round}
use borrow.Author.Tests.{leb-true, le-leb}
use Rattle.routines.specs.Ops.{◌⊘◌, of_count}
use Rattle.routines.proofs.Counts.{count-over}
use Rattle.listing.specs.Decimal.{value_of}
use Rattle.arguments.specs.Numbers.{few, is_number, all_digits, quotient_of, read_whole_of}
use Rattle.arguments.specs.Claims.{Number}
use Rattle.arguments.proofs.Values.{both, digits-join, value-join, are-digits, digits_are, value-small, power_small}
use Rattle.std.specs.Prelude.{None, Some}

pub number_is : (bytes : List ℕ) → is_number bytes ≡ true → Number bytes
number_is bytes e =
    let t = both (few (length bytes)) (all_digits bytes) e in
    let n = both (leb 1 (length bytes)) (leb (length bytes) 15) t.0 in
    record { digits = are-digits bytes t.1; one = leb-true 1 _ n.0; most = leb-true _ 15 n.1 }

pub is-number : (bytes : List ℕ) → Number bytes → is_number bytes ≡ true
is-number bytes n =
    rw (le-leb 1 (length bytes) n.one, le-leb (length bytes) 15 n.most) (digits_are bytes n.digits)

-- what is given behind a test
pub given : {A : Type 0} (t : Bool) (y x : A) → cond t (Some y) None ≡ Some x → (t ≡ true) × (y ≡ x)
given true y x e = (refl, cc)
given false y x e = absurd (let z : ◌≡◌ {A = ℕ} 0 1 = cc in omega arith)

-- 15 digits at most
pub small : (ds : List ℕ) → all_digits ds ≡ true → length ds ≤ 15 → value_of 0 ds < 10 ^ 15
small ds d l = value-small ds (are-digits ds d) l

pub small-behind : (a b : List ℕ) → all_digits a ≡ true → all_digits b ≡ true → length a + length b ≤ 15
    → value_of (value_of 0 a) b < 10 ^ 15
small-behind a b d e l = rw (← value-join 0 a b) (small (a ++ b) (rw (digits-join a b, d) e) (rw length-append l))

-- ---- a decimal in two parts
pub ruleset parts = (length-append, digits-join, value-join, small, small-behind)

module _ (a b : List ℕ) where
  -- its test, by the tests of the parts
  joined : {f d e : Bool} → few (length a + length b) ≡ f → all_digits a ≡ d → all_digits b ≡ e
      → is_number (a ++ b) ≡ (f && (d && e))
  joined p q r = rw (length-append a b, digits-join a b) (λ i. p i && (q i && r i))

  pub refused : {f d e : Bool} → few (length a + length b) ≡ f → all_digits a ≡ d → all_digits b ≡ e
      → (f && (d && e)) ≡ false → quotient_of a b ≡ None
  unfolding quotient_of
  refused p q r h = rw (joined p q r ∙ h)

  pub number_of : few (length a + length b) ≡ true → all_digits a ≡ true → all_digits b ≡ true → Number (a ++ b)
  number_of p q r = number_is (a ++ b) (joined p q r)

  module _ (n : Number (a ++ b)) where
    pub quotient_is : quotient_of a b ≡ Some (of_count (value_of 0 (a ++ b)) ⊘ of_count (10 ^ length b))
    unfolding quotient_of
    quotient_is = rw (is-number (a ++ b) n)

    -- both counts are exact, so the quotient is rounded once
    once : of_count (value_of 0 (a ++ b)) ⊘ of_count (10 ^ length b)
        ≡ round binary64 false (value_of 0 (a ++ b)) (10 ^ length b)
    once =
        let v = value-small (a ++ b) n.digits n.most in
        let l : length a + length b ≤ 15 = rw length-append at n.most in
        let p = power_small (length b) 15 (omega arith) in
        let one = one-le-pow (length b) 10 (zero-lt-suc 9) in
        count-over (value_of 0 (a ++ b)) (10 ^ length b) (omega arith) one (omega arith)

    pub rounded : quotient_of a b ≡ Some (round binary64 false (value_of 0 (a ++ b)) (10 ^ length b))
    rounded = quotient_is ∙ ap Some once

  pub given-quotient : (x : Float) → quotient_of a b ≡ Some x
      → Number (a ++ b) × (x ≡ round binary64 false (value_of 0 (a ++ b)) (10 ^ length b))
  unfolding quotient_of
  given-quotient x e =
      let t = given (is_number (a ++ b)) (of_count (value_of 0 (a ++ b)) ⊘ of_count (10 ^ length b)) x e in
      let n = number_is (a ++ b) t.0 in
      (n, sym t.1 ∙ once n)

-- ---- a whole number
pub whole_is : (word : List ℕ) → Number word → read_whole_of word ≡ Some (value_of 0 word)
unfolding read_whole_of
whole_is word n = rw (is-number word n)
