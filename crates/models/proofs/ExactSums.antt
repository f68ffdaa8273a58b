-- Exact sums of probabilities as whole numbers of units, and what a comparison of units says of the signed numbers that
-- demand 3 speaks of. Assumes nothing.
use Prim.Native.Nat.{ℕ, zero, suc, ◌+◌, ◌*◌, ◌^◌, ◌≤◌, ◌<◌, max, zero-le}
use mathlib.Core.Path.{◌≡◌, refl, sym, ap, ◌∙◌, subst}
use mathlib.Core.Bool.{Bool, true, false, not, false≢true}
use native.Mathlib.Nat.{le_trans, le_of_eq, le_of_lt, le_of_suc-le-suc, mul_assoc, mul-pos, zero-lt-suc}
use native.Mathlib.Omega.{arith}
use lib.IntN.{ℤ, pos, neg_ℤ, ◌+ℤ◌, ◌*ℤ◌, pos-+ℤ-pos, negsuc-*ℤ-pos}
use lib.Signed.{◌≤ℤ◌, ◌<ℤ◌}
use lib.Dec.{T, ltb→lt, lt→ltb, le→leb, nltb→le}
use lib.Pow.{pow_pos}
use lib.Ieee.{Float, nan, inf, fin, binary64, low, up, down, le, of_bits, fits}
use lib.Ieee.Fits.{and_l, and_r, up_pos, down_pos}
use lib.Ieee.Scale.{finite}
use Rattle.routines.specs.Constants.{two, zero as nought}
use Rattle.routines.specs.Units.{units_of, negative, NonNegative}
use Rattle.routines.proofs.Compared.{up-to-two, units-bounded}
use Rattle.routines.proofs.RunningSum.{more}
use Rattle.routines.proofs.Tests.{yes}
use Rattle.routines.proofs.Values.{has-units}
use Rattle.models.specs.ClaimsCutoff.{in_units, sum_below, AtMost, Exceeds}
use Rattle.models.specs.Walk.{probable}

-- ---- one value
-- a value from 0 to 2 is not negative
pub probable-held : (x : Float) → T (fits binary64 x) → probable x ≡ true → NonNegative binary64 x
unfolding probable of_bits
probable-held x F h =
    up-to-two binary64 x F (and_l (le nought x) (le x two) (yes h)) (and_r (le nought x) (le x two) (yes h))

pub probable-bounded : (x : Float) → T (fits binary64 x) → probable x ≡ true → units_of x ≤ 2 * 2 ^ low binary64
unfolding probable of_bits
probable-bounded x F h = units-bounded binary64 x (probable-held x F h) (and_r (le nought x) (le x two) (yes h))

no-units : (m : ℕ) (n u d : ℕ) → m ≤ 0 → 0 < d → m * n ≡ u * d → u ≡ 0
no-units m n zero d h D e = refl
no-units m n (suc u) d h D e =
    let z : m ≡ 0 = omega arith in
    let p : 0 < suc u * d = mul-pos (zero-lt-suc u) D in
    let q : 0 * n ≡ suc u * d = subst (λ (k : ℕ). k * n ≡ suc u * d) z e in
    absurd (omega arith)

some-units : (m u d : ℕ) → 0 < m → m ≡ u * d → 0 < u
some-units m zero d h e = absurd (omega arith)
some-units m (suc u) d h e = zero-lt-suc u

-- what is not negative is its units; -0 is 0
pub in-units : (x : Float) → NonNegative binary64 x → in_units x ≡ pos (units_of x)
unfolding in_units
in-units nan h = absurd h.known
in-units (inf s) h = absurd h.known
in-units (fin false m e) h = refl
in-units (fin true m e) h =
    let z : units_of (fin true m e) ≡ 0 = none m (up e) (2 ^ low binary64) (units_of (fin true m e)) (down e)
    (nltb→le 0 m h.sign) (down_pos e) (has-units binary64 (fin true m e) h.held tt) in
    ap (λ (u : ℕ). neg_ℤ (pos u)) z ∙ sym (ap pos z)
  where
    none : (m a L u d : ℕ) → m ≤ 0 → 0 < d → m * a * L ≡ u * d → u ≡ 0
    none m a L u d h D e = no-units m (a * L) u d h D (sym (mul_assoc m a L) ∙ e)

-- ---- whole numbers with a sign
pub pos-le : (a b : ℕ) → a ≤ b → pos a ≤ℤ pos b
pos-le a b h = record { le = le→leb a b h }

pos-lt : (a b : ℕ) → a < b → pos a <ℤ pos b
pos-lt a b h = record { lt = lt→ltb a b h }

below-zero : (u S : ℕ) → 0 < u → neg_ℤ (pos u) <ℤ pos S
below-zero zero S h = absurd (omega arith)
below-zero (suc u) S h = record { lt = tt }

negative-times : (u N S : ℕ) → 0 < u → 0 < N → (neg_ℤ (pos u) *ℤ pos N) <ℤ pos S
negative-times zero N S h k = absurd (omega arith)
negative-times (suc u) N S h k =
    subst (λ (z : ℤ). z <ℤ pos S) (sym (negsuc-*ℤ-pos u N)) (below-zero (suc u * N) S (mul-pos h k))

negative-below : (x : Float) (S : ℕ) → T (fits binary64 x) → T (finite x) → negative x ≡ true
    → (in_units x *ℤ pos (2 ^ 36)) <ℤ pos S
unfolding in_units
negative-below nan S F K e = absurd K
negative-below (inf s) S F K e = absurd K
negative-below (fin false m x) S F K e = absurd (false≢true e)
negative-below (fin true m x) S F K e =
    negative-times (units_of (fin true m x)) (2 ^ 36) S
    (some-units (m * up x * 2 ^ low binary64) (units_of (fin true m x)) (down x)
    (mul-pos (mul-pos (ltb→lt 0 m (yes e)) (up_pos x)) (pow_pos (low binary64)))
    (has-units binary64 (fin true m x) F tt)) (pow_pos 36)

-- ---- the sums
-- p 0 + .. + p (n - 1) in units
unfoldable pub units_below : (ℕ → Float) → ℕ → ℕ
units_below p zero = 0
units_below p (suc n) = units_below p n + units_of (p n)

pub below_suc : (p : ℕ → Float) (n : ℕ) → units_below p (suc n) ≡ units_below p n + units_of (p n)
unfolding units_below
below_suc p n = refl

pub below_one : (p : ℕ → Float) → units_below p 1 ≡ units_of (p 0)
unfolding units_below
below_one p = alone (units_of (p 0))
  where
    alone : (x : ℕ) → 0 + x ≡ x
    alone x = omega arith

-- a count of 1 is answered as 2, so one term more is counted
pub up-to-answer : (p : ℕ → Float) (c : ℕ) → 1 ≤ c → units_below p (suc c) ≤ units_below p (suc (max c 2))
up-to-answer p zero h = absurd (omega arith)
up-to-answer p (suc zero) h = le_trans (grows (units_below p 2) (units_of (p 2))) (le_of_eq (sym (below_suc p 2)))
  where
    grows : (x y : ℕ) → x ≤ x + y
    grows x y = omega arith
up-to-answer p (suc (suc c)) h = le_of_eq (ap (λ (n : ℕ). units_below p (suc n)) (same c))
  where
    same : (c : ℕ) → suc (suc c) ≡ max (suc (suc c)) 2
    same c = omega arith

module _ (p : ℕ → Float) (held : (k : ℕ) → T (fits binary64 (p k))) (ceiling : ℕ)
    (between : (k : ℕ) → k ≤ ceiling → probable (p k) ≡ true) where
  pub below-bounded : (n : ℕ) → n ≤ suc ceiling → units_below p n ≤ n * (2 * 2 ^ low binary64)
  unfolding units_below
  below-bounded zero h = zero-le
  below-bounded (suc n) h =
      more (units_below p n) n (units_of (p n)) (2 ^ low binary64) (below-bounded n (le_of_lt h))
      (probable-bounded (p n) (held n) (between n (le_of_suc-le-suc h)))

  pub signed : (n : ℕ) → n ≤ suc ceiling → sum_below p n ≡ pos (units_below p n)
  unfolding sum_below units_below
  signed zero h = refl
  signed (suc n) h =
      ap (λ (z : ℤ). z +ℤ in_units (p n)) (signed n (le_of_lt h))
      ∙ ap (λ (z : ℤ). pos (units_below p n) +ℤ z)
      (in-units (p n) (probable-held (p n) (held n) (between n (le_of_suc-le-suc h))))
      ∙ pos-+ℤ-pos (units_below p n) (units_of (p n))

  module _ (allowed : Float) (F : T (fits binary64 allowed)) (K : T (finite allowed)) (n : ℕ)
      (h : n ≤ suc ceiling) where
    pub at-most : T (not (negative allowed)) → units_below p n * 2 ^ 36 ≤ units_of allowed * (2 ^ 36 + 1)
        → AtMost (sum_below p n) (in_units allowed)
    at-most s l =
        rw (signed n h, in-units allowed (record { held = F; known = K; sign = s }))
        (pos-le (units_below p n * 2 ^ 36) (units_of allowed * (2 ^ 36 + 1)) l)

    pub exceeds : (T (not (negative allowed)) → units_of allowed * 2 ^ 36 < units_below p n * (2 ^ 36 + 1))
        → Exceeds (sum_below p n) (in_units allowed)
    exceeds l = go (negative allowed) refl
      where
        go : (b : Bool) → negative allowed ≡ b → Exceeds (sum_below p n) (in_units allowed)
        go false e =
            let s : T (not (negative allowed)) = subst (λ (b : Bool). T (not b)) (sym e) tt in
            rw (signed n h, in-units allowed (record { held = F; known = K; sign = s }))
            (pos-lt (units_of allowed * 2 ^ 36) (units_below p n * (2 ^ 36 + 1)) (l s))
        go true e = rw (signed n h) (negative-below allowed (units_below p n * (2 ^ 36 + 1)) F K e)
