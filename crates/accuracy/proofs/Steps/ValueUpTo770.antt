-- Steps 3 to 7 for |x| ≤ 770: step 7's value is N / L units rounded, N is M up to half a place, and M / L units are
-- e ^ x up to one part in `sharp`. Assumes nothing.
use Rattle.accuracy.proofs.Prelude.{◌≡◌, sym, ap, ◌∙◌, subst, Bool, false, not, ℕ, suc, ◌+◌, ◌-◌, ◌*◌, ◌/◌, ◌%◌}
use Rattle.accuracy.proofs.Prelude.{◌^◌, ◌≤◌, ◌<◌, arith, T, lit<, pow_pos, pow-add}
use native.Mathlib.Nat.{le_trans, le_of_eq, lt_of_lt_of_le, mul-pos, mul_assoc, mul-le-mul_right}
use native.Mathlib.Nat.{eq_of_mul-eq-mul_right, mul_left_comm}
use lib.Ieee.{Float, binary64, add, mul, of_bits, to_bits, fits, size}
use lib.Ieee.Fits.{add-fits}
use lib.Ieee.Positive.{num, den, den_pos, value→cross}
use Rattle.routines.specs.Tables.{value_in, rest_in}
use Rattle.routines.specs.Exp.{exp_tail, scaled_by, reduced}
use Rattle.accuracy.specs.Accuracy.{L, Is, ExpAtMost, ExpAtLeast}
use Rattle.routines.specs.Units.{Off}
use Rattle.routines.proofs.Rounding.{Half}
use Rattle.accuracy.proofs.Steps.PartsTogether.{sharp}
use Rattle.accuracy.proofs.Rounding.HalfPlace.{reaches}
use Rattle.accuracy.proofs.Steps.ScaledExact.{y-scaled}
use Rattle.accuracy.proofs.Rounding.PowersOfTwo.{power-bits}
use Rattle.accuracy.proofs.Steps.NearUpTo770.{tee, k_of, Computes, exp-computes}
use Rattle.accuracy.proofs.Rounding.TimesPowerOfTwo.{Product, last-product}
use Rattle.accuracy.proofs.Euler.AsClaimed.{reshape, most, least}
use Rattle.accuracy.proofs.Steps.TableNear.{row_at}

scaled_fits : (y d r h : Float) → T (fits binary64 (scaled_by y d r h))
unfolding scaled_by
scaled_fits y d r h = add-fits binary64 y (mul binary64 y (add binary64 (add binary64 d r) h))

-- ---- the powers of two: 2 ^ m 2 ^ 1022 2 ^ 1074 = 2 ^ (52 + b) 2 ^ (7 + z) 2 ^ 2046
meet : (m z b : ℕ) → m ≡ 9 + z + b → 2 ^ m * 2 ^ 1022 * L ≡ 2 ^ (52 + b) * 2 ^ (7 + z) * 2 ^ 2046
unfolding L
meet m z b q =
    ap (λ (x : ℕ). x * 2 ^ 1074) (sym (pow-add 2 m 1022)) ∙ sym (pow-add 2 (m + 1022) 1074)
    ∙ ap (λ (x : ℕ). 2 ^ x) (same m z b q) ∙ pow-add 2 (52 + b + (7 + z)) 2046 ∙ ap (λ (x : ℕ). x * 2 ^ 2046)
    (pow-add 2 (52 + b) (7 + z))
  where
    same : (m z b : ℕ) → m ≡ 9 + z + b → m + 1022 + 1074 ≡ 52 + b + (7 + z) + 2046
    same m z b q = omega arith

equal : (P n g L Q M S A U Y D d : ℕ) → P * A ≡ Q * M → n * L ≡ D * S * d → M * S * L ≡ U * Y * A
    → P * (n * g) * (L * L) * A ≡ g * U * (Q * (d * (D * Y))) * A
equal P n g L Q M S A U Y D d h k l = e1 P n g L A ∙ ap (λ (x : ℕ). x * (n * L) * (g * L)) h
    ∙ ap (λ (x : ℕ). Q * M * x * (g * L)) k ∙ e2 Q M D S d g L ∙ ap (λ (x : ℕ). x * (Q * D * d * g)) l
    ∙ e3 U Y A Q D d g
  where
    e1 : (P n g L A : ℕ) → P * (n * g) * (L * L) * A ≡ P * A * (n * L) * (g * L)
    e1 P n g L A = omega arith

    e2 : (Q M D S d g L : ℕ) → Q * M * (D * S * d) * (g * L) ≡ M * S * L * (Q * D * d * g)
    e2 Q M D S d g L = omega arith

    e3 : (U Y A Q D d g : ℕ) → U * Y * A * (Q * D * d * g) ≡ g * U * (Q * (d * (D * Y))) * A
    e3 U Y A Q D d g = omega arith

-- N / (L L) is P / Q, and so has P / Q's bounds
moved-most : (s : Bool) (X P Q N E : ℕ) → 0 < Q → P * (L * L) ≡ N * Q → ExpAtMost s X L (P * suc E) (Q * E)
    → ExpAtMost s X L (N * suc E) (L * L * E)
moved-most s X P Q N E hq q = reshape s X L (P * suc E) (Q * E) (N * suc E) (L * L * E) (L * L) Q hq
    (le_of_eq (mul_left_comm Q (L * L) E)) (le_trans (le_of_eq (b P (L * L) (suc E) ∙ ap (λ (z : ℕ). z * suc E) q))
    (le_of_eq (c N Q (suc E))))
  where
    b : (P l e : ℕ) → l * (P * e) ≡ P * l * e
    b P l e = omega arith

    c : (N Q e : ℕ) → N * Q * e ≡ Q * (N * e)
    c N Q e = omega arith

moved-least : (s : Bool) (X P Q N E : ℕ) → 0 < Q → P * (L * L) ≡ N * Q → ExpAtLeast s X L (P * E) (Q * suc E)
    → ExpAtLeast s X L (N * E) (L * L * suc E)
moved-least s X P Q N E hq q = reshape (not s) X L (Q * suc E) (P * E) (L * L * suc E) (N * E) (L * L) Q hq
    (le_trans (le_of_eq (c N Q E ∙ ap (λ (z : ℕ). z * E) (sym q))) (le_of_eq (b P (L * L) E)))
    (le_of_eq (mul_left_comm (L * L) Q (suc E)))
  where
    b : (P l e : ℕ) → P * l * e ≡ l * (P * e)
    b P l e = omega arith

    c : (N Q e : ℕ) → Q * (N * e) ≡ N * Q * e
    c N Q e = omega arith

-- ---- with a = 2 ^ (8 + z - 1023) and b = 2 ^ (1 + b - 1023)
abbrev y_of : ℕ → ℕ → Float
y_of i A = mul binary64 (value_in (row_at i)) (of_bits binary64 (A * 2 ^ 52))

abbrev v_of : Float → ℕ → ℕ → ℕ → Float
v_of x i A B = mul binary64 (scaled_by (y_of i A) (rest_in (row_at i)) (reduced x (k_of x)) (exp_tail (reduced x (k_of x))))
    (of_bits binary64 (B * 2 ^ 52))

pub record Valued (s : Bool) (X : ℕ) (w : Float) : Type 0 where
  -- the last product, exactly, over L
  pub N : ℕ
  pub product : Product w N
  -- the same with the last sum before its rounding, and a place of that
  pub M : ℕ
  pub j : ℕ
  pub off : Off (2 ^ 53) N M
  pub half : Half N M (2 ^ j)
  pub low : 2 ^ 52 * 2 ^ j ≤ N
  pub reach : 2 ^ 52 * 2 ^ j ≤ M
  pub up : ExpAtMost s X L (M * suc sharp) (L * L * sharp)
  pub down : ExpAtLeast s X L (M * sharp) (L * L * suc sharp)

-- all times 2 ^ u
off-times : (g n u : ℕ) → Off (2 ^ 53) g n → Off (2 ^ 53) (g * u) (n * u)
off-times g n u h = (a g n u (mul-le-mul_right u h.0), b g n u (mul-le-mul_right u h.1))
  where
    a : (g n u : ℕ) → g * 2 ^ 53 * u ≤ (n * 2 ^ 53 + n) * u → g * u * 2 ^ 53 ≤ n * u * 2 ^ 53 + n * u
    a g n u h = omega arith

    b : (g n u : ℕ) → n * 2 ^ 53 * u ≤ (g * 2 ^ 53 + n) * u → n * u * 2 ^ 53 ≤ g * u * 2 ^ 53 + n * u
    b g n u h = omega arith

half-times : (g n z u : ℕ) → Half g n z → Half (g * u) (n * u) (z * u)
half-times g n z u h = (a g n z u (mul-le-mul_right u h.0), a n g z u (mul-le-mul_right u h.1))
  where
    a : (g n z u : ℕ) → g * 2 * u ≤ (n * 2 + z) * u → g * u * 2 ≤ n * u * 2 + z * u
    a g n z u h = omega arith

value-at : (x : Float) (s : Bool) (X : ℕ) (c : Computes x s X) (z b : ℕ) → z ≤ 2000 → suc b < 2047
    → to_bits binary64 (tee x) / 32 % 4096 ≡ 9 + z + b → Valued s X (v_of x c.i (suc (7 + z)) (suc b))
value-at x s X c z b hz hb q =
    let y = y-scaled c.i z c.few hz in
    let t = value_in (row_at c.i) in
    let D = y.0 in
    let n = c.near (y_of c.i (suc (7 + z))) (D * 2 ^ (7 + z)) (2 ^ z) y.2 in
    let g = n.1.g in
    let P = c.P * (num t * n.0) in
    let Q = c.Q * (den t * (D * 2 ^ (7 + z))) in
    let u = 2 ^ (52 + b) in
    let k = size n.0 - 53 in
    let N = g * u in
    let M = n.0 * u in
    let place : 2 ^ k * u ≡ 2 ^ (k + (52 + b)) = sym (pow-add 2 k (52 + b)) in
    let hq : 0 < Q = mul-pos c.Q-pos
    (mul-pos (den_pos t) (lt_of_lt_of_le (mul-pos (lit< {m = 0} {n = 2 ^ 59} tt) y.2.pos) y.2.from)) in
    let e : P * (L * L) ≡ M * Q = eq_of_mul-eq-mul_right (2 ^ 2046) (pow_pos 2046) (P * (L * L)) (M * Q)
    (equal c.P (num t) n.0 L c.Q (2 ^ (to_bits binary64 (tee x) / 32 % 4096)) (2 ^ 1022) (2 ^ 2046)
    (2 ^ (52 + b)) (2 ^ (7 + z)) D (den t) c.power (value→cross t (D * 2 ^ 1022) L y.1)
    (meet (to_bits binary64 (tee x) / 32 % 4096) z b q)) in
    record {
      N = N;
      product = last-product (scaled_by (y_of c.i (suc (7 + z))) (rest_in (row_at c.i)) (reduced x (k_of x))
          (exp_tail (reduced x (k_of x)))) (of_bits binary64 (suc b * 2 ^ 52)) g (52 + b)
          (scaled_fits (y_of c.i (suc (7 + z))) (rest_in (row_at c.i)) (reduced x (k_of x))
          (exp_tail (reduced x (k_of x)))) n.1.is
          (subst (λ (v : ℕ). Is (of_bits binary64 (suc b * 2 ^ 52)) false v) (sym (pow-add 2 52 b)) (power-bits b hb));
      M = M;
      j = k + (52 + b);
      off = off-times g n.0 u n.1.off;
      half = subst (λ (v : ℕ). Half N M v) place (half-times g n.0 (2 ^ k) u n.1.half);
      low = subst (λ (v : ℕ). 2 ^ 52 * v ≤ N) place (le_trans (le_of_eq (sym (mul_assoc (2 ^ 52) (2 ^ k) u)))
          (mul-le-mul_right u n.1.low));
      reach = subst (λ (v : ℕ). 2 ^ 52 * v ≤ M) place (le_trans (le_of_eq (sym (mul_assoc (2 ^ 52) (2 ^ k) u)))
          (mul-le-mul_right u (reaches n.0 g n.1.half n.1.low)));
      up = moved-most s X P Q M sharp hq e (most s X L P Q sharp n.2);
      down = moved-least s X P Q M sharp hq e (least s X L P Q sharp n.2);
    }

-- STEP 7, with i and m of step 5
pub value-is : (x : Float) (s : Bool) (X : ℕ) → Is x s X → X ≤ 770 * L
    → Valued s X (v_of x (to_bits binary64 (tee x) % 32) (to_bits binary64 (tee x) / 32 % 4096 / 2)
    (to_bits binary64 (tee x) / 32 % 4096 - to_bits binary64 (tee x) / 32 % 4096 / 2))
value-is x s X hx range =
    let c = exp-computes x s X hx range in
    let m = to_bits binary64 (tee x) / 32 % 4096 in
    let z = m / 2 - 8 in
    let b = m - m / 2 - 1 in
    let f = c.octaves-few in
    subst (λ (i : ℕ). Valued s X (v_of x i (m / 2) (m - m / 2))) c.row
    (subst (λ (a : ℕ). Valued s X (v_of x c.i a (m - m / 2))) (first m f.0)
    (subst (λ (a : ℕ). Valued s X (v_of x c.i (suc (7 + z)) a)) (second m f.0)
    (value-at x s X c z b (less m f.1) (less' m f.1) (sum m f.0))))
  where
    first : (m : ℕ) → 900 ≤ m → suc (7 + (m / 2 - 8)) ≡ m / 2
    first m h = omega arith

    second : (m : ℕ) → 900 ≤ m → suc (m - m / 2 - 1) ≡ m - m / 2
    second m h = omega arith

    less : (m : ℕ) → m ≤ 3200 → m / 2 - 8 ≤ 2000
    less m h = omega arith

    less' : (m : ℕ) → m ≤ 3200 → suc (m - m / 2 - 1) < 2047
    less' m h = omega arith

    sum : (m : ℕ) → 900 ≤ m → m ≡ 9 + (m / 2 - 8) + (m - m / 2 - 1)
    sum m h = omega arith
