-- Facts on binary64 values as exact fractions: which fractions are values of the format as they stand, what a cut or a
-- test says of one, and that a whole number's value is written in one way.
-- Assumes nothing.
use Rattle.std.proofs.Common.{◌≡◌, ℕ, zero, suc, ◌+◌, ◌-◌, ◌*◌, ◌/◌, ◌%◌, ◌^◌, ◌<◌, ◌≤◌, min, Bool, true, false, cond}
use Rattle.std.proofs.Common.{◌&&◌, T, eqb, ltb, leb, ℤ, pos, negsuc, sym, refl, ap, ◌∙◌, subst, true≢false, le_trans}
use Rattle.std.proofs.Common.{le_of_eq, lt_of_lt_of_le, lt_of_le_of_lt, le_of_lt, lt_irrefl, mul-le-mul_right, mod-lt}
use Rattle.std.proofs.Common.{zero-lt-suc, mul_assoc, mul_comm, div-lt_iff_lt-mul, add-mul, le_antisymm}
use Rattle.std.proofs.Common.{lt_of_mul-lt-mul_right, mul-lt-mul_of_pos_right, mul-pos, one-mul, pow-suc}
use Rattle.std.proofs.Common.{lt_of_not-le, div-add-mod', zero-mul, mul-one, mul_right_comm, div-mul-le_self}
use Rattle.std.proofs.Common.{mul_left_comm, arith, lit≤, eqb→eq, ltb→lt, lt→ltb, leb→le, pow_pos, pow_mono, pow-add}
use Rattle.std.proofs.Common.{ltb-false, ltb-true, le-ltb, lt-ltb}
use native.Mathlib.Nat.{eq_of_mul-eq-mul_right}
use native.Mathlib.Nat.{div-div-eq-div-mul, add-div_right}
use lib.Arith.{digits_div}
use lib.Pow.{pow-lt}
use lib.Ieee.{Float, nan, inf, fin, Format, binary64, prec, emax, low, up, down, odd, units, round, fits, neg, lt, mul}
use lib.Ieee.{of_bits, to_unsigned, of_int}
use lib.Ieee.Fits.{up_pos, down_pos, and_l, and_r, round_is, round-fits}
use lib.Ieee.Exact.{HasValue, round_exact}
use lib.Ieee.Back.{whole_unique, round_whole}
use lib.Ieee.Nearest.{div_same}
use lib.Ieee.Positive.{num, den, positive, den_pos, own_value}
use Rattle.routines.specs.Whole.{half_up, ceiling}

-- ---- what `fits` says
module _ (s : Bool) (m : ℕ) (e : ℤ) (F : T (fits binary64 (fin s (suc m) e))) where
  abbrev A : Bool
  A = eqb (suc m % 2) 1

  abbrev B : Bool
  B = ltb (suc m) (2 ^ 53)

  abbrev C : Bool
  C = leb (down e) (2 ^ 1074)

  abbrev D : Bool
  D = ltb (suc m * up e) (2 ^ 1024 * down e)

  digits_lt : suc m < 2 ^ 53
  unfolding fits
  digits_lt = ltb→lt (suc m) (2 ^ 53) (and_r A B (and_l (A && B) C (and_l (A && B && C) D F)))

  down_le : down e ≤ 2 ^ 1074
  unfolding fits
  down_le = leb→le (down e) (2 ^ 1074) (and_r (A && B) C (and_l (A && B && C) D F))

  size-lt : suc m * up e < 2 ^ 1024 * down e
  unfolding fits
  size-lt = ltb→lt (suc m * up e) (2 ^ 1024 * down e) (and_r (A && B && C) D F)

-- ---- a value in units of 2 ^ -1074, the format's smallest
pow_le_back : (i p : ℕ) → 2 ^ i ≤ 2 ^ p → i ≤ p
pow_le_back i p h = le-of-lt-suc i p (lt_of_not-le (λ (g : suc p ≤ i). lt_irrefl (2 ^ p) (lt_of_lt_of_le (pow-lt g) h)))
  where
    le-of-lt-suc : (a b : ℕ) → a < suc b → a ≤ b
    le-of-lt-suc a b k = omega arith

abbrev pub InUnits : ℕ → ℤ → Type 0
InUnits m e =
    (j : ℕ) × (m < 2 ^ 53) × (m * up e * 2 ^ 1074 ≡ m * 2 ^ j * down e) × (m * 2 ^ j < 2 ^
    (1074 + 1024)) × (down e ≤ 2 ^ 1074)

-- the exponent j of a binary digit in units
pub power : (m : ℕ) (e : ℤ) → down e ≤ 2 ^ 1074 → (j : ℕ) × (m * up e * 2 ^ 1074 ≡ m * 2 ^ j * down e)
power m (pos k) h = (
  k + 1074,
  mul_assoc m (2 ^ k) (2 ^ 1074) ∙ ap (λ (z : ℕ). m * z) (sym (pow-add 2 k 1074))
      ∙ sym (mul-one (m * 2 ^ (k + 1074))),
)
power m (negsuc k) h =
    let j = 1074 - suc k in
    let e : j + suc k ≡ 1074 = back (suc k) 1074 (pow_le_back (suc k) 1074 h) in (
      j,
      ap (λ (z : ℕ). z * 2 ^ 1074) (mul-one m) ∙ ap (λ (z : ℕ). m * 2 ^ z) (sym e)
          ∙ ap (λ (z : ℕ). m * z) (pow-add 2 j (suc k)) ∙ sym (mul_assoc m (2 ^ j) (2 ^ suc k)),
    )
  where
    back : (a b : ℕ) → a ≤ b → b - a + a ≡ b
    back a b h = omega arith

-- a / c and b / d are equal fractions, so what bounds one bounds the other
pub carry : (a c b d p : ℕ) → 0 < c → 0 < d → a * d ≡ b * c → a < p * c → b < p * d
carry a c b d p C D v h =
    lt_of_mul-lt-mul_right c
    (lt_of_le_of_lt (le_of_eq (sym v)) (lt_of_lt_of_le (mul-lt-mul_of_pos_right h D) (le_of_eq (mul_right_comm p c d))))

zero-down : (s : Bool) (e : ℤ) → T (fits binary64 (fin s zero e)) → down e ≤ 2 ^ 1074
unfolding fits
zero-down s e F =
    le_trans (le_trans (le_of_eq (sym (one-mul (down e)))) (mul-le-mul_right (down e) (up_pos e)))
    (le_trans (le_of_eq (eqb→eq (up e * down e) 1 F)) (pow_pos 1074))

pub in-units : (s : Bool) (m : ℕ) (e : ℤ) → T (fits binary64 (fin s m e)) → InUnits m e
in-units s zero e F = (
  0,
  pow_pos 53,
  zeros (up e) (2 ^ 1074) (2 ^ 0) (down e),
  subst (λ (z : ℕ). z < 2 ^ (1074 + 1024))
      (sym (zero-mul (2 ^ 0))) (pow_pos (1074 + 1024)),
  zero-down s e F,
)
  where
    zeros : (a b c d : ℕ) → 0 * a * b ≡ 0 * c * d
    zeros a b c d = omega arith
in-units s (suc m) e F =
    let r = power (suc m) e (down_le s m e F) in (
      r.0,
      digits_lt s m e F,
      r.1,
      subst (λ (z : ℕ). suc m * 2 ^ r.0 < z) (sym (pow-add 2 1024 1074))
          (carry (suc m * up e) (down e) (suc m * 2 ^ r.0) (2 ^ 1074) (2 ^ 1024) (down_pos e) (pow_pos 1074) r.1
          (size-lt s m e F)),
      down_le s m e F,
    )

-- ---- a whole number that the format holds, rounded to it, is that value
pub as-it-is : (s : Bool) (m : ℕ) (e : ℤ) (c : ℕ) → T (fits binary64 (fin s m e)) → m * up e ≡ c * down e
    → round binary64 s c 1 ≡ fin s m e
as-it-is s m e c F v =
    let u = in-units s m e F in
    let j = u.0 in
    let same : c * 2 ^ 1074 ≡ m * 2 ^ j * 1 =
    eq_of_mul-eq-mul_right (down e) (down_pos e) (c * 2 ^ 1074) (m * 2 ^ j * 1)
    (mul_right_comm c (2 ^ 1074) (down e) ∙ ap (λ (z : ℕ). z * 2 ^ 1074) (sym v) ∙ u.2
    ∙ ap (λ (z : ℕ). z * down e) (sym (mul-one (m * 2 ^ j)))) in
    whole_unique binary64 (round binary64 s c 1) (fin s m e) s c (round-fits binary64 s c 1) F
    (round_exact binary64 s c 1 m j (zero-lt-suc 0) u.1 u.3 same)
    (refl, mul-one (m * up e) ∙ v)

-- ---- from 2 ^ 52 on a value of the format is a whole number
no_fraction : (s : Bool) (m : ℕ) (k : ℕ) → T (fits binary64 (fin s m (negsuc k))) → 2 ^ 52 * 2 ^ suc k ≤ m * 1 → ⊥
no_fraction s m k F h =
    let u = in-units s m (negsuc k) F in
    lt_irrefl (2 ^ 53)
    (lt_of_le_of_lt
    (le_trans (pow_mono (more k)) (le_trans (le_of_eq (pow-add 2 52 (suc k))) (le_trans h (le_of_eq (mul-one m)))))
    u.1)
  where
    more : (k : ℕ) → 53 ≤ 52 + suc k
    more k = omega arith

pub large : (s : Bool) (m : ℕ) (e : ℤ) → T (fits binary64 (fin s m e)) → 2 ^ 52 * down e ≤ m * up e
    → (k : ℕ) × (e ≡ pos k)
large s m (pos k) F h = (k, refl)
large s m (negsuc k) F h = absurd (no_fraction s m k F h)

-- ---- what a cast to an integer needs, and gives, at a value that is a / c
pub cut_of : (y : Float) (a c : ℕ) → 0 < c → HasValue y false a c → (w : ℕ) → to_unsigned w y ≡ min (a / c) (2 ^ w - 1)
unfolding to_unsigned
cut_of nan a c C h w = absurd h
cut_of (inf s) a c C h w = absurd h
cut_of (fin true m e) a c C h w = absurd (true≢false h.0)
cut_of (fin false m e) a c C h w =
    ap (λ (k : ℕ). min k (2 ^ w - 1)) (div_same (m * up e) (down e) a c (down_pos e) C h.1)

some : (d n : ℕ) → 0 < d → 0 < 1 * d + n
some d n h = omega arith

pub over_minus_one : (y : Float) (a c : ℕ) → HasValue y false a c → T (lt (fin true 1 (pos 0)) y)
unfolding lt
over_minus_one nan a c h = absurd h
over_minus_one (inf s) a c h = absurd h
over_minus_one (fin true m e) a c h = absurd (true≢false h.0)
over_minus_one (fin false m e) a c h = lt→ltb 0 (1 * down e + m * up e * 1) (some (down e) (m * up e * 1) (down_pos e))

pub under_pow : (y : Float) (a c : ℕ) → 0 < c → HasValue y false a c → (w : ℕ) → a < 2 ^ w * c
    → T (lt y (fin false 1 (pos w)))
unfolding lt
under_pow nan a c C h w l = absurd h
under_pow (inf s) a c C h w l = absurd h
under_pow (fin true m e) a c C h w l = absurd (true≢false h.0)
under_pow (fin false m e) a c C h w l =
    lt→ltb (m * up e * 1) (1 * 2 ^ w * down e)
    (subst (λ (z : ℕ). z < 1 * 2 ^ w * down e) (sym (mul-one (m * up e)))
    (subst (λ (z : ℕ). m * up e < z * down e) (sym (one-mul (2 ^ w)))
    (carry a c (m * up e) (down e) (2 ^ w) C (down_pos e) (sym h.1) l)))

-- ---- twice a value below 2 ^ 52 is a value of the format
pub below-pow : (x : Float) (w : ℕ) → T (positive x) → T (lt x (fin false 1 (pos w))) → num x < 2 ^ w * den x
unfolding lt
below-pow nan w p h = absurd p
below-pow (inf s) w p h = absurd p
below-pow (fin true m e) w p h = absurd p
below-pow (fin false m e) w p h =
    subst (λ (z : ℕ). z < 2 ^ w * down e) (mul-one (m * up e))
    (subst (λ (z : ℕ). m * up e * 1 < z * down e) (one-mul (2 ^ w)) (ltb→lt (m * up e * 1) (1 * 2 ^ w * down e) h))

double-exact : (m : ℕ) (e : ℤ) → T (fits binary64 (fin false m e)) → m * up e < 2 ^ 52 * down e
    → HasValue (round binary64 false (m * up e * 2) (down e * 1)) false (m * up e * 2) (down e * 1)
double-exact m e F l =
    let u = in-units false m e F in
    let j = u.0 in
    let small : m * 2 ^ j < 2 ^ 52 * 2 ^ 1074 = carry (m * up e) (down e) (m * 2 ^ j) (2 ^ 1074) (2 ^ 52) (down_pos e)
    (pow_pos 1074) u.2 l in
    let twice : m * 2 ^ suc j ≡ m * 2 ^ j * 2 = ap (λ (z : ℕ). m * z) (pow-suc 2 j) ∙ sym (mul_assoc m (2 ^ j) 2) in
    round_exact binary64 false (m * up e * 2) (down e * 1) m (suc j) (mul-pos (down_pos e) (zero-lt-suc 0)) u.1
    (subst (λ (z : ℕ). z < 2 ^ (1074 + 1024)) (sym twice)
    (lt_of_lt_of_le (mul-lt-mul_of_pos_right small (zero-lt-suc 1)) (lit≤ tt)))
    (mul_right_comm (m * up e) 2 (2 ^ 1074) ∙ ap (λ (z : ℕ). z * 2) u.2 ∙ mul_right_comm (m * 2 ^ j) (down e) 2
    ∙ ap (λ (z : ℕ). z * down e) (sym twice) ∙ ap (λ (z : ℕ). m * 2 ^ suc j * z) (sym (mul-one (down e))))

pub double : (x : Float) → T (fits binary64 x) → T (positive x) → num x < 2 ^ 52 * den x
    → HasValue (mul binary64 x (of_bits binary64 0x4000_0000_0000_0000)) false (num x * 2) (den x * 1)
unfolding mul of_bits
double nan F p l = absurd p
double (inf s) F p l = absurd p
double (fin true m e) F p l = absurd p
double (fin false m e) F p l = double-exact m e F l

-- ---- the whole numbers
pub half-up-is : (a d : ℕ) → 0 < d → (a * 2 / (d * 1) + 1) / 2 ≡ half_up a d
unfolding half_up
half-up-is a d D =
    ap (λ (z : ℕ). (a * 2 / z + 1) / 2) (mul-one d)
    ∙ ap (λ (z : ℕ). z / 2) (sym (add-div_right (a * 2) D))
    ∙ div-div-eq-div-mul (a * 2 + d) d 2
    ∙ ap (λ (z : ℕ). (z + d) / (d * 2)) (mul_comm a 2)
    ∙ ap (λ (z : ℕ). (2 * a + d) / z) (mul_comm d 2)

pub half-up-whole : (c d : ℕ) → 0 < d → half_up (c * d) d ≡ c
unfolding half_up
half-up-whole c d D = ap (λ (z : ℕ). (z + d) / (2 * d)) (mul_left_comm 2 c d) ∙ digits_div c (half d D)
  where
    half : (d : ℕ) → 0 < d → d < 2 * d
    half d h = omega arith

pub ceiling-whole : (c d : ℕ) → 0 < d → ceiling (c * d) d ≡ c
unfolding ceiling
ceiling-whole c d D = digits_div c (less d D)
  where
    less : (d : ℕ) → 0 < d → d - 1 < d
    less d h = omega arith

pub ceiling-up : (a d : ℕ) → 0 < d → a / d * d < a → a / d + 1 ≡ ceiling a d
unfolding ceiling
ceiling-up a d D h =
    let n = a / d in
    let r = a % d in
    let s : n * d + r ≡ a = div-add-mod' a d in
    let t : (n + 1) * d ≡ n * d + d = add-mul n 1 d ∙ ap (λ (z : ℕ). n * d + z) (one-mul d) in
    let l : r < d = mod-lt a D in
    sym (ap (λ (z : ℕ). z / d) (regroup a d (n * d) r ((n + 1) * d) s t D h) ∙ digits_div (n + 1) (below r d l))
  where
    regroup : (a d nd r md : ℕ) → nd + r ≡ a → md ≡ nd + d → 0 < d → nd < a → a + (d - 1) ≡ md + (r - 1)
    regroup a d nd r md s t D h = omega arith

    below : (r d : ℕ) → r < d → r - 1 < d
    below r d h = omega arith

pub ceiling-exact : (a d : ℕ) → 0 < d → a ≤ a / d * d → a / d ≡ ceiling a d
ceiling-exact a d D h =
    sym (ap (λ (z : ℕ). ceiling z d) (le_antisymm h (div-mul-le_self a d)) ∙ ceiling-whole (a / d) d D)

-- ---- the sign
neg-odd : (d q k l : ℕ) → neg (odd d false q k l) ≡ odd d true q k l
unfolding neg odd
neg-odd d zero k l = refl
neg-odd d (suc q) k l = refl

neg-units : (f : Format) (q k : ℕ) → neg (units f false q k) ≡ units f true q k
unfolding units neg
neg-units f q k = go (ltb (q * 2 ^ k) (2 ^ (low f + suc (emax f))))
  where
    go : (b : Bool)
        → neg (cond b (odd (suc (prec f)) false q k (low f)) (inf false)) ≡ cond b (odd (suc (prec f)) true q k (low f)) (inf true)
    go true = neg-odd (suc (prec f)) q k (low f)
    go false = refl

pub neg-round : (f : Format) (a c : ℕ) → neg (round f false a c) ≡ round f true a c
neg-round f a c = ap neg (round_is f false a c) ∙ neg-units f _ _ ∙ sym (round_is f true a c)

-- ---- a way `g` to turn a size into a whole number, that keeps whole numbers, keeps a value whose size is whole
module _ (g : ℕ → ℕ → ℕ) (keeps : (c d : ℕ) → 0 < d → g (c * d) d ≡ c) (s : Bool) (m : ℕ) (e : ℤ) (F : T (fits binary64 (fin s m e))) where
  stays : (c : ℕ) → m * up e ≡ c * down e → fin s m e ≡ round binary64 s (g (m * up e) (down e)) 1
  stays c v =
      sym
      (ap (λ (z : ℕ). round binary64 s z 1) (ap (λ (z : ℕ). g z (down e)) v ∙ keeps c (down e) (down_pos e))
      ∙ as-it-is s m e c F v)

  pub zero-stays : m * up e ≡ 0 → fin s m e ≡ round binary64 s (g (m * up e) (down e)) 1
  zero-stays z = stays 0 (z ∙ sym (zero-mul (down e)))

  pub large-stays : 2 ^ 52 * down e ≤ m * up e → fin s m e ≡ round binary64 s (g (m * up e) (down e)) 1
  large-stays h =
      let k = large s m e F h in
      stays (m * 2 ^ k.0)
      (ap (λ (z : ℤ). m * up z) k.1 ∙ sym (mul-one (m * 2 ^ k.0))
      ∙ ap (λ (z : ℤ). m * 2 ^ k.0 * down z) (sym k.1))

-- ---- what the casts of `std` ask and give at a value a / c below 2 ^ 53
abbrev pub Cut : Float → ℕ → Type 0
Cut y n = T (lt (fin true 1 (pos 0)) y) × T (lt y (fin false 1 (pos 64))) × (to_unsigned 64 y ≡ n) × (n < 2 ^ 53)

pub cut : (y : Float) (a c : ℕ) → 0 < c → HasValue y false a c → a < 2 ^ 53 * c → Cut y (a / c)
cut y a c C v l =
    let n : a / c < 2 ^ 53 = (div-lt_iff_lt-mul C).1 l in (
      over_minus_one y a c v,
      under_pow y a c C v 64 (lt_of_lt_of_le l (mul-le-mul_right c (lit≤ tt))),
      cut_of y a c C v 64
          ∙ uncapped (a / c) n,
      n,
    )
  where
    uncapped : (n : ℕ) → n < 2 ^ 53 → min n (2 ^ 64 - 1) ≡ n
    uncapped n h = omega arith

pub cut-double : (x : Float) → T (fits binary64 x) → T (positive x) → T (lt x (fin false 1 (pos 52)))
    → Cut (mul binary64 x (of_bits binary64 0x4000_0000_0000_0000)) (num x * 2 / (den x * 1))
cut-double x F p h =
    let l = below-pow x 52 p h in
    cut (mul binary64 x (of_bits binary64 0x4000_0000_0000_0000)) (num x * 2) (den x * 1)
    (mul-pos (den_pos x) (zero-lt-suc 0)) (double x F p l) (twice (num x) (den x) l)
  where
    twice : (a d : ℕ) → a < 2 ^ 52 * d → a * 2 < 2 ^ 53 * (d * 1)
    twice a d h = omega arith

pub cut_small : (x : Float) → T (positive x) → T (lt x (fin false 1 (pos 52))) → Cut x (num x / den x)
cut_small x p h = cut x (num x) (den x) (den_pos x) (own_value x p) (wider (num x) (den x) (below-pow x 52 p h))
  where
    wider : (a d : ℕ) → a < 2 ^ 52 * d → a < 2 ^ 53 * d
    wider a d h = omega arith

-- ---- what a comparison of a whole number n with x says
less-is : (t x : Float) (n : ℕ) → HasValue t false n 1 → T (positive x) → lt t x ≡ ltb (n * den x) (num x)
unfolding lt
less-is nan x n v p = absurd v
less-is (inf s) x n v p = absurd v
less-is (fin true m e) x n v p = absurd (true≢false v.0)
less-is (fin false m e) nan n v p = absurd p
less-is (fin false m e) (inf s) n v p = absurd p
less-is (fin false m e) (fin true k d) n v p = absurd p
less-is (fin false m e) (fin false k d) n v p = scaled (m * up e) (down e) n (k * up d) (down d) (down_pos e) v.1
  where
    scaled : (a c n b d : ℕ) → 0 < c → a * 1 ≡ n * c → ltb (a * d) (b * c) ≡ ltb (n * d) b
    scaled a c n b d C v = go (ltb (n * d) b) refl
      where
        same : a * d ≡ n * d * c
        same = ap (λ (z : ℕ). z * d) (sym (mul-one a) ∙ v) ∙ mul_right_comm n c d

        go : (t : Bool) → ltb (n * d) b ≡ t → ltb (a * d) (b * c) ≡ t
        go true h =
            lt-ltb (a * d) (b * c) (lt_of_le_of_lt (le_of_eq same) (mul-lt-mul_of_pos_right (ltb-true (n * d) b h) C))
        go false h = le-ltb (a * d) (b * c) (le_trans (mul-le-mul_right c (ltb-false (n * d) b h)) (le_of_eq (sym same)))

-- n is the whole part of an x below 2 ^ 52, and t is n as a float
pub up_one : (x t : Float) (n : ℕ) → T (positive x) → n ≡ num x / den x → n < 2 ^ 53 → t ≡ round binary64 false n 1
    → lt t x ≡ true → n + 1 ≡ ceiling (num x) (den x)
up_one x t n p i l e h =
    let v : HasValue t false n 1 = subst (λ (z : Float). HasValue z false n 1) (sym e)
    (round_whole binary64 false n (le_of_lt l)) in
    let k : n * den x < num x = ltb-true (n * den x) (num x) (sym (less-is t x n v p) ∙ h) in
    ap (λ (z : ℕ). z + 1) i ∙ ceiling-up (num x) (den x) (den_pos x) (subst (λ (z : ℕ). z * den x < num x) i k)

pub as_is : (x t : Float) (n : ℕ) → T (positive x) → n ≡ num x / den x → n < 2 ^ 53 → t ≡ round binary64 false n 1
    → lt t x ≡ false → n ≡ ceiling (num x) (den x)
as_is x t n p i l e h =
    let v : HasValue t false n 1 = subst (λ (z : Float). HasValue z false n 1) (sym e)
    (round_whole binary64 false n (le_of_lt l)) in
    let k : num x ≤ n * den x = ltb-false (n * den x) (num x) (sym (less-is t x n v p) ∙ h) in
    i ∙ ceiling-exact (num x) (den x) (den_pos x) (subst (λ (z : ℕ). num x ≤ z * den x) i k)

pub of_int_is : (n : ℕ) → of_int binary64 (pos n) ≡ round binary64 false n 1
unfolding of_int
of_int_is n = refl
