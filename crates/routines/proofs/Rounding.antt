-- One rounding. A fraction rounded to a format is off by at most 1 / 2 ^ prec of it in the normal range, and by at most
-- half of the format's smallest value, a unit, below that range.
-- So n units, rounded, are off by at most n / 2 ^ prec, and by at most the result / 2 ^ prec: below the normal range a
-- whole number of units is exact.
-- Nothing here is about floats but the format's numbers. Assumes nothing.
use Rattle.std.proofs.Common.{◌≡◌, ℕ, suc, ◌+◌, ◌-◌, ◌*◌, ◌/◌, ◌%◌, ◌^◌, ◌<◌, ◌≤◌, not, T, eqb, sym, ap, ◌∙◌, subst}
use Rattle.std.proofs.Common.{inl, inr, le_trans, le_of_eq, mul-le-mul_right, mod-lt, mul_assoc, eq-zero-or-pos}
use Rattle.std.proofs.Common.{mul-pos, div-add-mod', le-div_iff_mul-le, mul-one, mul_right_comm}
use Rattle.std.proofs.Common.{le_of_mul-le-mul_right, arith, eqb→eq, leb→le, pow_pos, pow-add}
use Prim.Native.Nat.{compare, Ordering}
use native.Mathlib.Nat.{pow-succ'}
use lib.Dec.{is_le, compare_is_eq, nleb→lt, eqb_refl}
use lib.Arith.{lt_of_le-ne}
use lib.Ieee.{Format, prec, low, size, nearest}
use lib.Ieee.Digits.{size_reaches}
use lib.Ieee.Fits.{two}
use lib.Ieee.Nearest.{closest, nearest-ge}
use lib.Ieee.Order.{drop}
use lib.Ieee.Scale.{grid}
use Rattle.routines.specs.Units.{Off}

-- ---- what `compare` says (`lib.Ieee.Nearest` has the same, private)
abbrev Cmp : Ordering → ℕ → ℕ → Type 0
Cmp Ordering.lt a b = a < b
Cmp Ordering.eq a b = a ≡ b
Cmp Ordering.gt a b = b < a

cmp : (a b : ℕ) → Cmp (compare a b) a b
cmp a b =
    go (compare a b) (leb→le a b) (nleb→lt a b) (eqb→eq a b)
    (λ (e : a ≡ b). subst (λ (x : ℕ). T (eqb a x)) e (eqb_refl a))
  where
    go : (o : Ordering) → (T (is_le o) → a ≤ b) → (T (not (is_le o)) → b < a) → (T (compare_is_eq o) → a ≡ b)
        → (a ≡ b → T (compare_is_eq o)) → Cmp o a b
    go Ordering.lt h k e n = lt_of_le-ne (h tt) n
    go Ordering.eq h k e n = e tt
    go Ordering.gt h k e n = k tt

-- ---- the multiple of u that is nearest to n
-- g is n up to u / 2 either way
abbrev pub Half : ℕ → ℕ → ℕ → Type 0
Half g n u = (g * 2 ≤ n * 2 + u) × (n * 2 ≤ g * 2 + u)

tie : (q b r u : ℕ) → b ≤ 1 → r * 2 ≡ u → Half ((q + b) * u) (q * u + r) u
tie q b r u h e =
    let k : b * u ≤ 1 * u = mul-le-mul_right u h in
    omega arith

parity : (q : ℕ) → q % 2 ≤ 1
parity q = omega arith

near : (q r u : ℕ) (o : Ordering) → Cmp o (r * 2) u → r < u → Half (nearest q o * u) (q * u + r) u
near q r u Ordering.lt h l = omega arith
near q r u Ordering.eq h l = tie q (q % 2) r u (parity q) h
near q r u Ordering.gt h l = omega arith

closest-near : (n u : ℕ) → 0 < u → Half (closest n u * u) n u
closest-near n u h =
    subst (λ (x : ℕ). Half (closest n u * u) x u) (div-add-mod' n u)
    (near (n / u) (n % u) u (compare (n % u * 2) u) (cmp (n % u * 2) u) (mod-lt n h))

-- ---- a fraction a / c rounded: `grid f a c` units for a * 2 ^ low f / c
dropped : (P H g n u : ℕ) → P ≡ 2 * H → H * u ≤ n → Half g n u → Off P g n
dropped P H g n u e d h =
    let a : g * 2 * H ≤ (n * 2 + u) * H = mul-le-mul_right H h.0 in
    let b : n * 2 * H ≤ (g * 2 + u) * H = mul-le-mul_right H h.1 in
    subst (λ (x : ℕ). Off x g n) (sym e) (omega arith, omega arith)

pred-suc : (p : ℕ) → 2 ≤ p → p ≡ suc (p - 1)
pred-suc p h = omega arith

in_use : (z p : ℕ) → 2 ≤ p → p ≤ z → p - 1 + (z - p) < z
in_use z p P h = omega arith

none_dropped : (z p : ℕ) → z ≤ p → z - p ≡ 0
none_dropped z p h = omega arith

module _ (f : Format) (a c : ℕ) (C : 0 < c) where
  pub scaled : Half (grid f a c * c) (a * 2 ^ low f) (c * 2 ^ drop (prec f) (a * 2 ^ low f) c)
  scaled =
      let N = a * 2 ^ low f in
      let k = drop (prec f) N c in
      let u = c * 2 ^ k in
      let e : closest N u * u ≡ grid f a c * c = sym (mul_assoc (closest N u) c (2 ^ k))
      ∙ mul_right_comm (closest N u) c (2 ^ k) in
      subst (λ (x : ℕ). Half x N u) e (closest-near N u (mul-pos C (pow_pos k)))

  -- in the normal range (`lib.Ieee.Scale` has two ways to know it) the spacing is small against a / c, and against what
  -- it is rounded to
  spacing : prec f ≤ size (a * 2 ^ low f / c)
      → 2 ^ (prec f - 1) * (c * 2 ^ drop (prec f) (a * 2 ^ low f) c) ≤ a * 2 ^ low f
  spacing n =
      let p = prec f in
      let N = a * 2 ^ low f in
      let k = drop p N c in
      let w : 2 ^ (p - 1 + k) * c ≤ N = (le-div_iff_mul-le C).0
      (size_reaches (N / c) (p - 1 + k) (in_use (size (N / c)) p (two f) n)) in
      let e : 2 ^ (p - 1) * (c * 2 ^ k) ≡ 2 ^ (p - 1 + k) * c = sym (mul_assoc (2 ^ (p - 1)) c (2 ^ k))
      ∙ mul_right_comm (2 ^ (p - 1)) c (2 ^ k) ∙ ap (λ (x : ℕ). x * c) (sym (pow-add 2 (p - 1) k)) in
      le_trans (le_of_eq e) w

  spacing-back : prec f ≤ size (a * 2 ^ low f / c)
      → 2 ^ (prec f - 1) * (c * 2 ^ drop (prec f) (a * 2 ^ low f) c) ≤ grid f a c * c
  spacing-back n =
      let N = a * 2 ^ low f in
      let k = drop (prec f) N c in
      let u = c * 2 ^ k in
      let l : 2 ^ (prec f - 1) ≤ closest N u = le_trans ((le-div_iff_mul-le (mul-pos C (pow_pos k))).1 (spacing n))
      (nearest-ge (N / u) (compare (N % u * 2) u)) in
      le_trans (mul-le-mul_right u l)
      (le_of_eq (sym (mul_assoc (closest N u) c (2 ^ k)) ∙ mul_right_comm (closest N u) c (2 ^ k)))

  halved : 2 ^ prec f ≡ 2 * 2 ^ (prec f - 1)
  halved = ap (λ (x : ℕ). 2 ^ x) (pred-suc (prec f) (two f)) ∙ pow-succ' 2 (prec f - 1)

  pub grid-relative : prec f ≤ size (a * 2 ^ low f / c) → Off (2 ^ prec f) (grid f a c * c) (a * 2 ^ low f)
  grid-relative n =
      dropped (2 ^ prec f) (2 ^ (prec f - 1)) (grid f a c * c) (a * 2 ^ low f)
      (c * 2 ^ drop (prec f) (a * 2 ^ low f) c) halved (spacing n) scaled

  grid-back : prec f ≤ size (a * 2 ^ low f / c) → Off (2 ^ prec f) (a * 2 ^ low f) (grid f a c * c)
  grid-back n =
      dropped (2 ^ prec f) (2 ^ (prec f - 1)) (a * 2 ^ low f) (grid f a c * c)
      (c * 2 ^ drop (prec f) (a * 2 ^ low f) c) halved (spacing-back n) (scaled.1, scaled.0)

  -- below it
  pub grid-absolute : size (a * 2 ^ low f / c) ≤ prec f → Half (grid f a c * c) (a * 2 ^ low f) c
  grid-absolute n =
      subst (λ (u : ℕ). Half (grid f a c * c) (a * 2 ^ low f) u)
      (ap (λ (k : ℕ). c * 2 ^ k) (none_dropped (size (a * 2 ^ low f / c)) (prec f) n) ∙ mul-one c) scaled

-- ---- n units rounded
unfoldable pub rounded : Format → ℕ → ℕ
rounded f n = grid f n (2 ^ low f)

exact : (g n L : ℕ) → 0 < L → Half (g * L) (n * L) L → n ≡ g
exact g n L l h =
    let a : g * 2 * L ≤ (n * 2 + 1) * L = omega (arith, h.0) in
    let b : n * 2 * L ≤ (g * 2 + 1) * L = omega (arith, h.1) in
    same (le_of_mul-le-mul_right a l) (le_of_mul-le-mul_right b l)
  where
    same : g * 2 ≤ n * 2 + 1 → n * 2 ≤ g * 2 + 1 → n ≡ g
    same a b = omega arith

itself : (P n : ℕ) → Off P n n
itself P n = (omega arith, omega arith)

unscaled : (P g n L : ℕ) → 0 < L → Off P (g * L) (n * L) → Off P g n
unscaled P g n L l h =
    let a : g * P * L ≤ (n * P + n) * L = omega (arith, h.0) in
    let b : n * P * L ≤ (g * P + n) * L = omega (arith, h.1) in
    (le_of_mul-le-mul_right a l, le_of_mul-le-mul_right b l)

-- either a whole number of units is exact, or it is in the normal range
by-range : (f : Format) (n : ℕ) (A : Type 0) → (n ≡ rounded f n → A) → (prec f ≤ size (n * 2 ^ low f / 2 ^ low f) → A) → A
unfolding rounded
by-range f n A u v =
    let L = 2 ^ low f in
    let l : 0 < L = pow_pos (low f) in
    let z = size (n * L / L) in
    elim (eq-zero-or-pos (z - prec f)) [
      | inl e ↦ u (exact (grid f n L) n L l (grid-absolute f n L l (few z (prec f) e)))
      | inr g ↦ v (many z (prec f) g)
    ]
  where
    few : (z p : ℕ) → z - p ≡ 0 → z ≤ p
    few z p e = omega arith

    many : (z p : ℕ) → 0 < z - p → p ≤ z
    many z p g = omega arith

-- THE ROUNDING, off by a part of what is rounded, and by a part of the result
pub rounded-off : (f : Format) (n : ℕ) → Off (2 ^ prec f) (rounded f n) n
unfolding rounded
rounded-off f n =
    let L = 2 ^ low f in
    by-range f n (Off (2 ^ prec f) (rounded f n) n)
    (λ (e : n ≡ rounded f n). subst (λ (g : ℕ). Off (2 ^ prec f) g n) e (itself (2 ^ prec f) n))
    (λ (m : prec f ≤ size (n * L / L)). unscaled (2 ^ prec f) (rounded f n) n L (pow_pos (low f))
    (grid-relative f n L (pow_pos (low f)) m))

pub rounded-back : (f : Format) (n : ℕ) → Off (2 ^ prec f) n (rounded f n)
unfolding rounded
rounded-back f n =
    let L = 2 ^ low f in
    by-range f n (Off (2 ^ prec f) n (rounded f n))
    (λ (e : n ≡ rounded f n). subst (λ (g : ℕ). Off (2 ^ prec f) n g) e (itself (2 ^ prec f) n))
    (λ (m : prec f ≤ size (n * L / L)). unscaled (2 ^ prec f) n (rounded f n) L (pow_pos (low f))
    (grid-back f n L (pow_pos (low f)) m))
