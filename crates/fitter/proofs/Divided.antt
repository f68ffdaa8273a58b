-- The room that is divided step by step is too short for a product exactly where the product exceeds it, over all whole
-- numbers: nothing can wrap. Assumes nothing.
use Prim.Native.Nat.{ℕ, ◌+◌, ◌*◌, ◌/◌, ◌≤◌, ◌<◌}
use mathlib.Core.Path.{◌≡◌, refl, sym, ◌∙◌, subst}
use mathlib.Core.Bool.{Bool, true, false}
use native.Mathlib.Nat.{div-lt_iff_lt-mul, le-div_iff_mul-le, mul_assoc, mul-zero, zero-mul}
use native.Mathlib.Omega.{arith}
use lib.Dec.{ltb, leb}
use borrow.Author.Tests.{lt-ltb, le-ltb, leb-true, leb-false}

-- nothing is needed
pub none-short : (room width rows seeds : ℕ) → ltb room ((seeds + 1) * (rows * (0 * width))) ≡ false
none-short room width rows seeds =
    let e : (seeds + 1) * (rows * (0 * width)) ≡ 0 = rw (zero-mul width, mul-zero rows, mul-zero (seeds + 1)) in
    le-ltb room ((seeds + 1) * (rows * (0 * width))) (omega (arith, e))

module _ (room width each rows seeds : ℕ) (hw : 0 < width) (he : 0 < each) (hr : 0 < rows) where
  abbrev quotient : ℕ
  quotient = room / width / each / rows

  abbrev needed : ℕ
  needed = (seeds + 1) * (rows * (each * width))

  joined : (seeds + 1) * rows * each * width ≡ needed
  joined = mul_assoc ((seeds + 1) * rows) each width ∙ mul_assoc (seeds + 1) rows (each * width)

  short : quotient ≤ seeds → room < needed
  short h =
      let l : quotient < seeds + 1 = omega arith in
      subst (λ (k : ℕ). room < k) joined
      ((div-lt_iff_lt-mul hw).0 ((div-lt_iff_lt-mul he).0 ((div-lt_iff_lt-mul hr).0 l)))

  enough : seeds < quotient → needed ≤ room
  enough h =
      let l : seeds + 1 ≤ quotient = omega arith in
      subst (λ (k : ℕ). k ≤ room) joined
      ((le-div_iff_mul-le hw).0 ((le-div_iff_mul-le he).0 ((le-div_iff_mul-le hr).0 l)))

  pub divided : leb quotient seeds ≡ ltb room needed
  divided = by (leb quotient seeds) refl
    where
      by : (t : Bool) → leb quotient seeds ≡ t → leb quotient seeds ≡ ltb room needed
      by true e = e ∙ sym (lt-ltb room needed (short (leb-true quotient seeds e)))
      by false e = e ∙ sym (le-ltb room needed (enough (leb-false quotient seeds e)))
