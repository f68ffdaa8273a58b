-- Values of a format in units of its smallest value: a finite value that fits is exactly `units_in` of them, and a sum
-- of two that are not negative holds their units' sum, rounded once.
-- -0 holds 0 units. Assumes nothing.
use Rattle.std.proofs.Common.{◌≡◌, ℕ, zero, suc, ◌+◌, ◌-◌, ◌*◌, ◌/◌, ◌%◌, ◌^◌, ◌<◌, ◌≤◌, Bool, true, false, cond, not}
use Rattle.std.proofs.Common.{◌&&◌, T, eqb, ltb, leb, ℤ, pos, negsuc, sym, refl, ap, ◌∙◌, subst, le_trans, le_of_eq}
use Rattle.std.proofs.Common.{le_of_suc-le-suc, lt_of_le_of_lt, mul-le-mul_right, mul_assoc, mul-le-mul_left, mul-pos}
use Rattle.std.proofs.Common.{one-mul, lt_of_not-le, zero-mul, mul-one, not-le_of_lt, le_of_mul-le-mul_right}
use Rattle.std.proofs.Common.{mul-div_cancel, arith, eqb→eq, ltb→lt, leb→le, nltb→le, pow_pos, pow-add}
use native.Mathlib.Nat.{eq_of_mul-eq-mul_right}
use lib.Dec.{not_T}
use lib.Pow.{pow-lt}
use lib.Ieee.{Float, nan, inf, fin, Format, prec, emax, low, up, down, round, sum, add, fits}
use lib.Ieee.Digits.{back}
use lib.Ieee.Fits.{round_is, up_pos, down_pos, and_l, and_r}
use lib.Ieee.Exact.{HasValue, units_val}
use lib.Ieee.Order.{drop, kept}
use lib.Ieee.Scale.{finite, grid, overflow, round_same}
use lib.Ieee.Positive.{num, den, den_pos}
use Rattle.routines.specs.Units.{units_in, negative, NonNegative, Off}
use Rattle.routines.proofs.Rounding.{rounded, rounded-off}

-- x is a units: finite and not negative, but perhaps -0
pub record Holds (f : Format) (x : Float) (a : ℕ) : Type 0 where
  pub known : T (finite x)
  pub sign : T (not (negative x))
  pub value : num x * 2 ^ low f ≡ a * den x

-- ---- a finite value that fits is a whole number of units
pow_le_back : (i p : ℕ) → 2 ^ i ≤ 2 ^ p → i ≤ p
pow_le_back i p h = le_of_suc-le-suc (lt_of_not-le (λ (g : suc p ≤ i). not-le_of_lt (pow-lt g) h))

down_le : (f : Format) (s : Bool) (m : ℕ) (e : ℤ) → T (fits f (fin s m e)) → down e ≤ 2 ^ low f
unfolding fits
down_le f s zero e h =
    le_trans (le_trans (le_of_eq (sym (one-mul (down e)))) (mul-le-mul_right (down e) (up_pos e)))
    (le_trans (le_of_eq (eqb→eq (up e * down e) 1 h)) (pow_pos (low f)))
down_le f s (suc m) e h =
    let a : Bool = eqb (suc m % 2) 1 && ltb (suc m) (2 ^ prec f) in
    let b : Bool = leb (down e) (2 ^ low f) in
    leb→le (down e) (2 ^ low f) (and_r a b (and_l (a && b) (ltb (suc m * up e) (2 ^ suc (emax f) * down e)) h))

divides : (l : ℕ) (e : ℤ) → down e ≤ 2 ^ l → (q : ℕ) × (2 ^ l ≡ q * down e)
divides l (pos k) h = (2 ^ l, sym (mul-one (2 ^ l)))
divides l (negsuc k) h = (
  2 ^ (l - suc k),
  ap (λ (x : ℕ). 2 ^ x) (sym (back l (suc k) (pow_le_back (suc k) l h)))
      ∙ pow-add 2 (l - suc k) (suc k),
)

whole : (n L q d : ℕ) → 0 < d → L ≡ q * d → n * L ≡ n * L / d * d
whole n L q d D e = rw (e, ← mul_assoc, mul-div_cancel (n * q) D)

pub has-units : (f : Format) (x : Float) → T (fits f x) → T (finite x) → num x * 2 ^ low f ≡ units_in f x * den x
unfolding units_in
has-units f nan h k = absurd k
has-units f (inf s) h k = absurd k
has-units f (fin s m e) h k =
    let q = divides (low f) e (down_le f s m e h) in
    whole (m * up e) (2 ^ low f) q.0 (down e) (down_pos e) q.1

pub holds-units : (f : Format) (x : Float) → NonNegative f x → Holds f x (units_in f x)
holds-units f x h = record { known = h.known; sign = h.sign; value = has-units f x h.held h.known }

-- no other number of units
pub units-held : (f : Format) (x : Float) (a : ℕ) → Holds f x a → units_in f x ≡ a
unfolding units_in
units-held f x a h = ap (λ (n : ℕ). n / den x) h.value ∙ mul-div_cancel a (den_pos x)

-- ---- the exact sum
-- only -0 has the sign
pub signless : (s : Bool) (m : ℕ) (e : ℤ) (w : ℕ) → T (not (negative (fin s m e))) → T s → m * up e * w ≡ 0
signless false m e w n t = absurd t
signless true m e w n t = none m (up e) w (nltb→le 0 m n)
  where
    none : (m u w : ℕ) → m ≤ 0 → m * u * w ≡ 0
    none m u w h =
        let z : m ≡ 0 = omega arith in
        rw (z, zero-mul, zero-mul)

-- x is a fraction n / c rounded, with a sign that is set only where n is 0
abbrev Summed : Format → Float → ℕ → ℕ → Type 0
Summed f x n c = (r : Bool) × (x ≡ round f r n c) × (T r → n ≡ 0)

sum_is : (f : Format) (s : Bool) (A : ℕ) (t : Bool) (B c : ℕ) → (T s → A ≡ 0) → (T t → B ≡ 0)
    → Summed f (sum f s A t B c) (A + B) c
unfolding sum
sum_is f false A false B c h k = (false, refl, (λ (w : ⊥). absurd w))
sum_is f true A true B c h k = (true, refl, (λ w. omega (arith, h tt, k tt)))
sum_is f true A false B c h k = go (ltb A B) (nltb→le A B)
  where
    z : A ≡ 0
    z = h tt

    go : (b : Bool) → (T (not b) → B ≤ A)
        → Summed f (cond b (round f false (B - A) c) (round f (ltb B A) (A - B) c)) (A + B) c
    go true v = (false, ap (λ (n : ℕ). round f false n c) (omega (arith, z)), (λ (w : ⊥). absurd w))
    go false v = (ltb B A, ap (λ (n : ℕ). round f (ltb B A) n c) (omega (arith, z, v tt)), (λ w. omega (arith, z, v tt)))
sum_is f false A true B c h k = go (ltb A B) (ltb→lt A B)
  where
    z : B ≡ 0
    z = k tt

    go : (b : Bool) → (T b → A < B) → Summed f (cond b (round f true (B - A) c) (round f false (A - B) c)) (A + B) c
    go true u = absurd (omega (arith, z, u tt))
    go false u = (false, ap (λ (n : ℕ). round f false n c) (omega (arith, z)), (λ (w : ⊥). absurd w))

opened : (f : Format) (s : Bool) (m : ℕ) (e : ℤ) (t : Bool) (n : ℕ) (d : ℤ)
    → add f (fin s m e) (fin t n d) ≡ sum f s (m * up e * down d) t (n * up d * down e) (down e * down d)
unfolding add
opened f s m e t n d = refl

cross : (x y a b de dd L : ℕ) → x * L ≡ a * de → y * L ≡ b * dd → (x * dd + y * de) * L ≡ (a + b) * (de * dd)
cross x y a b de dd L h k =
    let h' : x * L * dd ≡ a * de * dd = ap (λ (z : ℕ). z * dd) h in
    let k' : y * L * de ≡ b * dd * de = ap (λ (z : ℕ). z * de) k in
    omega arith

zero_of : (x L a d : ℕ) → 0 < L → x * L ≡ a * d → a ≡ 0 → x ≡ 0
zero_of x L a d P h e = eq_of_mul-eq-mul_right L P x 0 (h ∙ rw (e, zero-mul d, zero-mul L))

add_is : (f : Format) (x y : Float) (a b : ℕ) → Holds f x a → Holds f y b → Summed f (add f x y) (a + b) (2 ^ low f)
add_is f nan y a b h k = absurd h.known
add_is f (inf s) y a b h k = absurd h.known
add_is f (fin s m e) nan a b h k = absurd k.known
add_is f (fin s m e) (inf t) a b h k = absurd k.known
add_is f (fin s m e) (fin t n d) a b h k =
    let L = 2 ^ low f in
    let N = m * up e * down d + n * up d * down e in
    let c = down e * down d in
    let q : N * L ≡ (a + b) * c = cross (m * up e) (n * up d) a b (down e) (down d) L h.value k.value in
    let C : 0 < c = mul-pos (down_pos e) (down_pos d) in
    let r = sum_is f s (m * up e * down d) t (n * up d * down e) c (signless s m e (down d) h.sign)
    (signless t n d (down e) k.sign) in (
      r.0,
      opened f s m e t n d ∙ r.1 ∙ round_same f r.0 N c (a + b) L C (pow_pos (low f)) q,
      (λ (w : T r.0). zero_of (a + b) c N L C (sym q) (r.2 w)),
    )

-- ---- the rounded sum
pub of-value : (f : Format) (x : Float) (s : Bool) (a : ℕ) → HasValue x s a (2 ^ low f) → (T s → a ≡ 0) → Holds f x a
of-value f nan s a h z = absurd h
of-value f (inf t) s a h z = absurd h
of-value f (fin false m e) s a h z = record { known = tt; sign = tt; value = h.1 }
of-value f (fin true m e) s a h z =
    let n : m * up e ≡ 0 = zero_of (m * up e) (2 ^ low f) a (down e) (pow_pos (low f)) h.1 (z (subst T h.0 tt)) in
    record {
      known = tt;
      sign = not_T (ltb 0 m) (λ (t : T (ltb 0 m)). some (m * up e) (mul-pos (ltb→lt 0 m t) (up_pos e)) n);
      value = h.1;
    }
  where
    some : (n : ℕ) → 0 < n → n ≡ 0 → ⊥
    some n h e = omega arith

round-has : (f : Format) (s : Bool) (n : ℕ) → rounded f n < overflow f
    → HasValue (round f s n (2 ^ low f)) s (rounded f n) (2 ^ low f)
unfolding rounded
round-has f s n h =
    let l = 2 ^ low f in
    subst (λ (z : Float). HasValue z s (grid f n l) l) (sym (round_is f s n l))
    (units_val f s (kept (prec f) (n * l) l) (drop (prec f) (n * l) l) h)

twice-at-most : (P g n : ℕ) → 0 < P → Off P g n → g ≤ n * 2
twice-at-most P g n p h =
    let k : n * 1 ≤ n * P = mul-le-mul_left n p in
    let l : g * P ≤ n * 2 * P = omega (arith, h.0) in
    le_of_mul-le-mul_right l p

rounded-twice : (f : Format) (n : ℕ) → rounded f n ≤ n * 2
rounded-twice f n = twice-at-most (2 ^ prec f) (rounded f n) n (pow_pos (prec f)) (rounded-off f n)

pub round-holds : (f : Format) (s : Bool) (n : ℕ) → n * 2 < overflow f → (T s → n ≡ 0)
    → Holds f (round f s n (2 ^ low f)) (rounded f n)
round-holds f s n o z =
    of-value f (round f s n (2 ^ low f)) s (rounded f n) (round-has f s n (lt_of_le_of_lt (rounded-twice f n) o))
    (λ (t : T s). none (rounded f n) n (rounded-twice f n) (z t))
  where
    none : (g n : ℕ) → g ≤ n * 2 → n ≡ 0 → g ≡ 0
    none g n l z = omega arith

-- THE ADDITION: a + b units that do not overflow are rounded once
pub add_holds : (f : Format) (x y : Float) (a b : ℕ) → Holds f x a → Holds f y b → (a + b) * 2 < overflow f
    → Holds f (add f x y) (rounded f (a + b))
add_holds f x y a b h k o =
    let r = add_is f x y a b h k in
    subst (λ (z : Float). Holds f z (rounded f (a + b))) (sym r.1) (round-holds f r.0 (a + b) o r.2)
