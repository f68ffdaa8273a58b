-- The order of values that are not negative is the order of their units, -0 being 0 units, and a negative value lies
-- below them all. And what a value from 0 to 2 holds.
-- Assumes nothing.
use Rattle.std.proofs.Common.{◌≡◌, ℕ, ◌+◌, ◌*◌, ◌^◌, ◌<◌, ◌≤◌, Bool, true, false, not, ◌||◌, T, eqb, ltb, ◌↔◌, pos}
use Rattle.std.proofs.Common.{sym, ◌∙◌, le_of_eq, le_of_suc-le-suc, le_of_lt, mul-le-mul_right, mul-pos, lt_of_not-le}
use Rattle.std.proofs.Common.{not-le_of_lt, le_of_mul-le-mul_right, arith, eqb→eq, ltb→lt, lt→ltb, T_not, pow_pos}
use mathlib.Core.Bool.{beq}
use lib.Dec.{not_T}
use lib.Ieee.{Float, nan, inf, fin, Format, low, up, down, below, level, lt, le, fits}
use lib.Ieee.Fits.{up_pos, down_pos, and_l, and_i, eq→eqb}
use lib.Ieee.Order.{transfer}
use lib.Ieee.Scale.{finite}
use Rattle.routines.specs.Units.{units_in, negative, NonNegative}
use Rattle.routines.proofs.Values.{Holds, signless, holds-units}

-- ---- `below` and `level`, of two sizes whose signs are set only at 0
below-is : (s : Bool) (a : ℕ) (t : Bool) (b : ℕ) → (T s → a ≡ 0) → (T t → b ≡ 0) → T (below s a t b) ↔ (a < b)
below-is false a false b h k = (ltb→lt a b, lt→ltb a b)
below-is false a true b h k = ((λ (w : ⊥). absurd w), (λ (l : a < b). absurd (omega (arith, k tt))))
below-is true a false b h k = (
  (λ (w : T (ltb 0 (a + b))). omega (arith, h tt, ltb→lt 0 (a + b) w)),
  (λ (l : a < b). lt→ltb 0 (a + b) (omega arith)),
)
below-is true a true b h k =
    ((λ (w : T (ltb b a)). absurd (omega (arith, h tt, ltb→lt b a w))), (λ (l : a < b). absurd (omega (arith, k tt))))

level-at : (s : Bool) (a : ℕ) (t : Bool) (b : ℕ) → (T s → a ≡ 0) → (T t → b ≡ 0) → a ≡ b → T (level s a t b)
level-at s a t b h k e = and_i (eqb a b) (beq s t || eqb a 0) (eq→eqb e) (go s t h k)
  where
    go : (s t : Bool) → (T s → a ≡ 0) → (T t → b ≡ 0) → T (beq s t || eqb a 0)
    go false false h k = tt
    go false true h k = eq→eqb (e ∙ k tt)
    go true false h k = eq→eqb (h tt)
    go true true h k = tt

at-most-is : (s : Bool) (a : ℕ) (t : Bool) (b : ℕ) → (T s → a ≡ 0) → (T t → b ≡ 0)
    → T (below s a t b || level s a t b) ↔ (a ≤ b)
at-most-is s a t b h k =
    let w = below-is s a t b h k in (
      to (below s a t b) (level s a t b) w.0
          (λ (v : T (level s a t b)). eqb→eq a b (and_l (eqb a b) (beq s t || eqb a 0) v)),
      (λ (l : a ≤ b). from (below s a t b) (level s a t b)
          (λ (n : T (not (below s a t b))). level-at s a t b h k
          (same l (λ (g : a < b). T_not (below s a t b) n (w.1 g))))),
    )
  where
    to : (p q : Bool) → (T p → a < b) → (T q → a ≡ b) → T (p || q) → a ≤ b
    to true q u v w = le_of_lt (u tt)
    to false q u v w = le_of_eq (v w)

    from : (p q : Bool) → (T (not p) → T q) → T (p || q)
    from true q v = tt
    from false q v = v tt

    same : a ≤ b → (a < b → ⊥) → a ≡ b
    same l n = omega arith

-- ---- two values that are not negative
-- X / c is a units and Y / d is b units
cross-le : (X Y c d a b L : ℕ) → 0 < c → 0 < d → 0 < L → X * L ≡ a * c → Y * L ≡ b * d → (X * d ≤ Y * c) ↔ (a ≤ b)
cross-le X Y c d a b L C D P h k = (
  (λ (l : X * d ≤ Y * c). le_of_mul-le-mul_right (transfer a b L L X Y c d C D (sym h) (sym k) l) P),
  (λ (l : a ≤ b). transfer X Y c d a b L L P P h k (mul-le-mul_right L l)),
)

pub lt-is : (f : Format) (x y : Float) (a b : ℕ) → Holds f x a → Holds f y b → T (lt x y) ↔ (a < b)
unfolding lt
lt-is f nan y a b h k = absurd h.known
lt-is f (inf s) y a b h k = absurd h.known
lt-is f (fin s m e) nan a b h k = absurd k.known
lt-is f (fin s m e) (inf t) a b h k = absurd k.known
lt-is f (fin s m e) (fin t n d) a b h k =
    let w = below-is s (m * up e * down d) t (n * up d * down e) (signless s m e (down d) h.sign)
    (signless t n d (down e) k.sign) in
    let z = cross-le (n * up d) (m * up e) (down d) (down e) b a (2 ^ low f) (down_pos d) (down_pos e) (pow_pos (low f))
    k.value h.value in (
      (λ (l : T (lt (fin s m e) (fin t n d))). lt_of_not-le (λ (g : b ≤ a). not-le_of_lt (w.0 l) (z.1 g))),
      (λ (l : a < b). w.1 (lt_of_not-le (λ (g : n * up d * down e ≤ m * up e * down d). not-le_of_lt l (z.0 g)))),
    )

pub le_is : (f : Format) (x y : Float) (a b : ℕ) → Holds f x a → Holds f y b → T (le x y) ↔ (a ≤ b)
unfolding le
le_is f nan y a b h k = absurd h.known
le_is f (inf s) y a b h k = absurd h.known
le_is f (fin s m e) nan a b h k = absurd k.known
le_is f (fin s m e) (inf t) a b h k = absurd k.known
le_is f (fin s m e) (fin t n d) a b h k =
    let w = at-most-is s (m * up e * down d) t (n * up d * down e) (signless s m e (down d) h.sign)
    (signless t n d (down e) k.sign) in
    let z = cross-le (m * up e) (n * up d) (down e) (down d) a b (2 ^ low f) (down_pos e) (down_pos d) (pow_pos (low f))
    h.value k.value in
    ((λ (l : T (le (fin s m e) (fin t n d))). z.0 (w.0 l)), (λ (l : a ≤ b). w.1 (z.1 l)))

-- ---- a finite x of either sign, against a y that holds b units
negative-lt : (f : Format) (x y : Float) (b : ℕ) → T (finite x) → T (negative x) → Holds f y b → T (lt x y)
unfolding lt
negative-lt f nan y b K g k = absurd K
negative-lt f (inf s) y b K g k = absurd K
negative-lt f (fin false m e) y b K g k = absurd g
negative-lt f (fin true m e) nan b K g k = absurd k.known
negative-lt f (fin true m e) (inf t) b K g k = absurd k.known
negative-lt f (fin true m e) (fin t n d) b K g k =
    go t (mul-pos (mul-pos (ltb→lt 0 m g) (up_pos e)) (down_pos d)) (signless t n d (down e) k.sign)
  where
    go : (t : Bool) → 0 < m * up e * down d → (T t → n * up d * down e ≡ 0)
        → T (below true (m * up e * down d) t (n * up d * down e))
    go false p z = lt→ltb 0 (m * up e * down d + n * up d * down e) (omega arith)
    go true p z = lt→ltb (n * up d * down e) (m * up e * down d) (omega (arith, z tt))

module _ (f : Format) (x y : Float) (b : ℕ) (F : T (fits f x)) (K : T (finite x)) (k : Holds f y b) where
  holds-where : T (not (negative x)) → Holds f x (units_in f x)
  holds-where n = holds-units f x (record { held = F; known = K; sign = n })

  pub lt-units : T (lt x y) → T (not (negative x)) → units_in f x < b
  lt-units t n = (lt-is f x y (units_in f x) b (holds-where n) k).0 t

  -- not x < y: x is not negative, and holds no less
  pub ge-units : T (not (lt x y)) → T (not (negative x)) × (b ≤ units_in f x)
  ge-units t =
      let n : T (not (negative x)) = not_T (negative x)
      (λ (g : T (negative x)). T_not (lt x y) t (negative-lt f x y b K g k)) in (
        n,
        le_of_suc-le-suc
            (lt_of_not-le (λ (g : units_in f x < b). T_not (lt x y) t ((lt-is f x y (units_in f x) b (holds-where n) k).1 g))),
      )

-- ---- a value from 0 to 2, such as a running sum's terms are
abbrev pub nought : Float
nought = fin false 0 (pos 0)

abbrev pub two : Float
two = fin false 1 (pos 1)

pub up-to-two : (f : Format) (x : Float) → T (fits f x) → T (le nought x) → T (le x two) → NonNegative f x
unfolding le
up-to-two f nan F h k = absurd h
up-to-two f (inf true) F h k = absurd h
up-to-two f (inf false) F h k = absurd k
up-to-two f (fin false m e) F h k = record { held = F; known = tt; sign = tt }
up-to-two f (fin true m e) F h k =
    let a = 0 * up (pos 0) * down e in
    let b = m * up e * down (pos 0) in
    let z : a ≡ b = eqb→eq a b (and_l (eqb a b) (eqb a 0) h) in
    record {
      held = F;
      known = tt;
      sign = not_T (ltb 0 m)
          (λ (t : T (ltb 0 m)). never (down e) (m * up e) (mul-pos (ltb→lt 0 m t) (up_pos e)) z);
    }
  where
    never : (d n : ℕ) → 0 < n → 0 * 1 * d ≡ n * 1 → ⊥
    never d n p z = omega arith

pub units-bounded : (f : Format) (x : Float) → NonNegative f x → T (le x two) → units_in f x ≤ 2 * 2 ^ low f
units-bounded f x h =
    (le_is f x two (units_in f x) (2 * 2 ^ low f) (holds-units f x h)
    (record { known = tt; sign = tt; value = twice (2 ^ low f) })).0
  where
    twice : (L : ℕ) → 2 * L ≡ 2 * L * 1
    twice L = omega arith
