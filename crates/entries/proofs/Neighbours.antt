-- `next_up` and `next_down` are the neighbours: no `f64` lies between a value and the next value up, nor between it and
-- the next value down. So what `nearest` says of two neighbours it says of every other value. Assumes nothing.
use mathlib.Core.Path.{◌≡◌, refl, sym, ap, subst}
use mathlib.Core.Bool.{Bool, true, false, not, cond}
use Prim.Native.Nat.{ℕ, zero, suc, ◌+◌, ◌-◌, ◌*◌, ◌%◌, ◌^◌, ◌≤◌, ◌<◌}
use native.Mathlib.Nat.{lt_of_not-le, not-le_of_lt, mul-lt-mul_of_pos_right, lt_of_mul-lt-mul_right}
use native.Mathlib.Omega.{arith}
use lib.Dec.{T, ltb, eqb, ltb→lt, lt→ltb, nltb→le, eqb→eq, T_not, lit<}
use lib.Pow.{pow_pos}
use lib.Ieee.{Float, nan, inf, fin, binary64, up, down, below, of_bits}
use lib.Ieee.Exact.{HasValue}
use Rattle.entries.specs.Fractions.{less, exactly, value_of, is_finite, next_up, next_down, NotBetween}
use Rattle.entries.proofs.Grows.{sign, rest, grid, has-grid, above_zero, below-zero, finite-rest, grid-grows}

-- ---- the order of two values is that of their units: x / d is a / l, and y / e is b / l
units_lt : (x y d e a b l : ℕ) → 0 < l → x * l ≡ a * d → y * l ≡ b * e → x * e < y * d → a < b
units_lt x y d e a b l L p q h =
    let m : x * e * l < y * d * l = mul-lt-mul_of_pos_right h L in
    let u : x * l * e ≡ a * d * e = ap (λ (z : ℕ). z * e) p in
    let v : y * l * d ≡ b * e * d = ap (λ (z : ℕ). z * d) q in
    let c : a * (d * e) < b * (d * e) = omega arith in
    lt_of_mul-lt-mul_right (d * e) c

units-pos : (x y d e a b l : ℕ) → 0 < l → x * l ≡ a * d → y * l ≡ b * e → 0 < x * e + y * d → 0 < a + b
units-pos x y d e a b l L p q h =
    let m : 0 * l < (x * e + y * d) * l = mul-lt-mul_of_pos_right h L in
    let u : x * l * e ≡ a * d * e = ap (λ (z : ℕ). z * e) p in
    let v : y * l * d ≡ b * e * d = ap (λ (z : ℕ). z * d) q in
    let c : 0 * (d * e) < (a + b) * (d * e) = omega arith in
    lt_of_mul-lt-mul_right (d * e) c

in-units : (x y : Float) (s t : Bool) (a b l : ℕ) → 0 < l → HasValue x s a l → HasValue y t b l
    → T (less (exactly x) (exactly y)) → T (below s a t b)
in-units nan y s t a b l L p q h = absurd p
in-units (inf r) y s t a b l L p q h = absurd p
in-units (fin r m e) nan s t a b l L p q h = absurd q
in-units (fin r m e) (inf w) s t a b l L p q h = absurd q
in-units (fin r m e) (fin w n d) s t a b l L p q h =
    subst (λ (z : Bool). T (below z a t b)) p.0 (subst (λ (z : Bool). T (below r a z b)) q.0 (go r w h))
  where
    go : (r w : Bool) → T (below r (m * up e * down d) w (n * up d * down e)) → T (below r a w b)
    go false false h =
        lt→ltb a b
        (units_lt (m * up e) (n * up d) (down e) (down d) a b l L p.1 q.1
        (ltb→lt (m * up e * down d) (n * up d * down e) h))
    go false true h = absurd h
    go true false h =
        lt→ltb 0 (a + b)
        (units-pos (m * up e) (n * up d) (down e) (down d) a b l L p.1 q.1
        (ltb→lt 0 (m * up e * down d + n * up d * down e) h))
    go true true h =
        lt→ltb b a
        (units_lt (n * up d) (m * up e) (down d) (down e) b a l L q.1 p.1
        (ltb→lt (n * up d * down e) (m * up e * down d) h))

-- ---- the size of a pattern without its sign
-- a lower size is a lower pattern
back : (m n : ℕ) → grid m < grid n → m < n
back m n h = lt_of_not-le (λ (g : n ≤ m). not-le_of_lt h (grid-grows n m g))

-- no size lies between those of r and r + 1
none : (r k : ℕ) → grid r < grid k → grid k < grid (suc r) → ⊥
none r k h t = not-le_of_lt t (grid-grows (suc r) k (back r k h))

-- ---- three kinds of neighbours, and a value with the sign t between them
over_zero : (r k : ℕ) (t : Bool) → T (below false (grid r) t (grid k)) → T (below t (grid k) false (grid (suc r))) → ⊥
over_zero r k true p q = absurd p
over_zero r k false p q = none r k (ltb→lt (grid r) (grid k) p) (ltb→lt (grid k) (grid (suc r)) q)

under-zero : (r k : ℕ) (t : Bool) → T (below true (grid (suc r)) t (grid k)) → T (below t (grid k) true (grid r)) → ⊥
under-zero r k false p q = absurd q
under-zero r k true p q = none r k (ltb→lt (grid r) (grid k) q) (ltb→lt (grid k) (grid (suc r)) p)

at_zero : (k : ℕ) (t : Bool) → T (below true (grid 1) t (grid k)) → T (below t (grid k) false (grid 0)) → ⊥
at_zero k false p q = no_lower k (back k 0 (ltb→lt (grid k) (grid 0) q))
  where
    no_lower : (k : ℕ) → k < 0 → ⊥
    no_lower k h = omega arith
at_zero k true p q =
    no_size (grid k) (ap grid (least k (back k 1 (ltb→lt (grid k) (grid 1) p)))) (ltb→lt 0 (grid k + grid 0) q)
  where
    least : (k : ℕ) → k < 1 → k ≡ 0
    least k h = omega arith

    no_size : (g : ℕ) → g ≡ 0 → 0 < g + 0 → ⊥
    no_size g e h = omega arith

-- ---- patterns
smaller : (r u : ℕ) → suc r < u → r < u
smaller r u h = omega arith

module _ (k : ℕ) (K : T (is_finite k)) where
  -- lo and hi, where they are g and h units
  between : (lo hi : ℕ) (s t : Bool) (g h : ℕ) → HasValue (of_bits binary64 lo) s g (2 ^ 1074)
      → HasValue (of_bits binary64 hi) t h (2 ^ 1074) → T (less (value_of lo) (value_of k)) → T (less (value_of k) (value_of hi))
      → T (below s g (sign k) (grid (rest k))) × T (below (sign k) (grid (rest k)) t h)
  between lo hi s t g h p q a b =
      let O : HasValue (of_bits binary64 k) (sign k) (grid (rest k)) (2 ^ 1074) = has-grid k (finite-rest k K) in
      let L : 0 < 2 ^ 1074 = pow_pos 1074 in (
        in-units (of_bits binary64 lo) (of_bits binary64 k) s (sign k) g (grid (rest k)) (2 ^ 1074) L p O a,
        in-units (of_bits binary64 k) (of_bits binary64 hi) (sign k) t (grid (rest k)) h (2 ^ 1074) L O q b,
      )

  over : (r : ℕ) → suc r < 2047 * 2 ^ 52 → NotBetween r k (suc r)
  over r h a b =
      let u =
      between r (suc r) false false (grid r) (grid (suc r)) (above_zero r (smaller r (2047 * 2 ^ 52) h))
      (above_zero (suc r) h) a b in
      over_zero r (rest k) (sign k) u.0 u.1

  under : (r : ℕ) → suc r < 2047 * 2 ^ 52 → NotBetween (2 ^ 63 + suc r) k (2 ^ 63 + r)
  under r h a b =
      let u =
      between (2 ^ 63 + suc r) (2 ^ 63 + r) true true (grid (suc r)) (grid r) (below-zero (suc r) h)
      (below-zero r (smaller r (2047 * 2 ^ 52) h)) a b in
      under-zero r (rest k) (sign k) u.0 u.1

  beside : NotBetween (2 ^ 63 + 1) k 0
  beside a b =
      let u = between (2 ^ 63 + 1) 0 true false (grid 1) (grid 0) (below-zero 1 (lit< tt)) (above_zero 0 (lit< tt)) a b in
      at_zero (rest k) (sign k) u.0 u.1

  -- ---- THE NEXT VALUE UP
  module _ (n : ℕ) (h : n < 2 ^ 64) (N : T (is_finite n)) where
    up_from : (b : Bool) → (T b → n < 2 ^ 63) → (T (not b) → 2 ^ 63 ≤ n) → T (is_finite (cond b (suc n) (n - 1)))
        → NotBetween n k (cond b (suc n) (n - 1))
    up_from true p q U = over n (small n (p tt) (finite-rest n N) (finite-rest (suc n) U))
      where
        small : (n : ℕ) → n < 2 ^ 63 → n % 2 ^ 63 < 2047 * 2 ^ 52 → suc n % 2 ^ 63 < 2047 * 2 ^ 52 → suc n < 2047 * 2 ^ 52
        small n h a b = omega arith
    up_from false p q U =
        let R = finite-rest (n - 1) U in
        subst (λ (x : ℕ). NotBetween x k (n - 1)) (sym (one_more n (q tt) R))
        (subst (λ (x : ℕ). NotBetween (2 ^ 63 + suc (n - 1 - 2 ^ 63)) k x) (sym (same n (q tt) R))
        (under (n - 1 - 2 ^ 63) (small n h (q tt) (finite-rest n N) R)))
      where
        one_more : (n : ℕ) → 2 ^ 63 ≤ n → (n - 1) % 2 ^ 63 < 2047 * 2 ^ 52 → n ≡ 2 ^ 63 + suc (n - 1 - 2 ^ 63)
        one_more n h b = omega arith

        same : (n : ℕ) → 2 ^ 63 ≤ n → (n - 1) % 2 ^ 63 < 2047 * 2 ^ 52 → n - 1 ≡ 2 ^ 63 + (n - 1 - 2 ^ 63)
        same n h b = omega arith

        small : (n : ℕ) → n < 2 ^ 64 → 2 ^ 63 ≤ n → n % 2 ^ 63 < 2047 * 2 ^ 52 → (n - 1) % 2 ^ 63 < 2047 * 2 ^ 52
            → suc (n - 1 - 2 ^ 63) < 2047 * 2 ^ 52
        small n h l a b = omega arith

    pub none_above : T (is_finite (next_up n)) → NotBetween n k (next_up n)
    none_above = up_from (ltb n (2 ^ 63)) (ltb→lt n (2 ^ 63)) (nltb→le n (2 ^ 63))

    -- ---- THE NEXT VALUE DOWN
    down-from : (b : Bool) → (n ≡ 0 → ⊥) → (T b → n < 2 ^ 63) → (T (not b) → 2 ^ 63 ≤ n)
        → T (is_finite (cond b (n - 1) (suc n))) → NotBetween (cond b (n - 1) (suc n)) k n
    down-from true z p q D =
        subst (λ (x : ℕ). NotBetween (n - 1) k x) (one_less n z) (over (n - 1) (small n (p tt) z (finite-rest n N)))
      where
        one_less : (n : ℕ) → (n ≡ 0 → ⊥) → suc (n - 1) ≡ n
        one_less zero z = absurd (z refl)
        one_less (suc r) z = less_one r
          where
            less_one : (r : ℕ) → suc (suc r - 1) ≡ suc r
            less_one r = omega arith

        small : (n : ℕ) → n < 2 ^ 63 → (n ≡ 0 → ⊥) → n % 2 ^ 63 < 2047 * 2 ^ 52 → suc (n - 1) < 2047 * 2 ^ 52
        small n h z a = rw (one_less n z) (plain n h a)
          where
            plain : (n : ℕ) → n < 2 ^ 63 → n % 2 ^ 63 < 2047 * 2 ^ 52 → n < 2047 * 2 ^ 52
            plain n h a = omega arith
    down-from false z p q D =
        subst (λ (x : ℕ). NotBetween x k n) (sym (one_more n (q tt)))
        (subst (λ (x : ℕ). NotBetween (2 ^ 63 + suc (n - 2 ^ 63)) k x) (sym (same n (q tt)))
        (under (n - 2 ^ 63) (small n h (q tt) (finite-rest n N) (finite-rest (suc n) D))))
      where
        one_more : (n : ℕ) → 2 ^ 63 ≤ n → suc n ≡ 2 ^ 63 + suc (n - 2 ^ 63)
        one_more n h = omega arith

        same : (n : ℕ) → 2 ^ 63 ≤ n → n ≡ 2 ^ 63 + (n - 2 ^ 63)
        same n h = omega arith

        small : (n : ℕ) → n < 2 ^ 64 → 2 ^ 63 ≤ n → n % 2 ^ 63 < 2047 * 2 ^ 52 → suc n % 2 ^ 63 < 2047 * 2 ^ 52
            → suc (n - 2 ^ 63) < 2047 * 2 ^ 52
        small n h l a b = omega arith

    from_zero : (b : Bool) → (T b → n ≡ 0) → (T (not b) → n ≡ 0 → ⊥)
        → T (is_finite (cond b (2 ^ 63 + 1) (cond (ltb n (2 ^ 63)) (n - 1) (suc n))))
        → NotBetween (cond b (2 ^ 63 + 1) (cond (ltb n (2 ^ 63)) (n - 1) (suc n))) k n
    from_zero true p q D = subst (λ (x : ℕ). NotBetween (2 ^ 63 + 1) k x) (sym (p tt)) beside
    from_zero false p q D = down-from (ltb n (2 ^ 63)) (q tt) (ltb→lt n (2 ^ 63)) (nltb→le n (2 ^ 63)) D

    pub none_below : T (is_finite (next_down n)) → NotBetween (next_down n) k n
    none_below = from_zero (eqb n 0) (eqb→eq n 0) (λ t z. T_not (eqb n 0) t (subst (λ (x : ℕ). T (eqb x 0)) (sym z) tt))
