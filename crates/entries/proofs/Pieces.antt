-- For every z of a row of ln's table |B z - 1| < 1 / 200: z grows with its pattern, and B z with z, so that the
-- row's two ends are enough. Assumes nothing.
use mathlib.Core.Bool.{Bool, true, false, ◌&&◌, true≢false}
use Prim.Native.Nat.{ℕ, suc, ◌+◌, ◌*◌, ◌^◌, ◌≤◌, ◌<◌}
use native.Mathlib.Nat.{lt_of_le_of_lt, mul-le-mul_right, mul-lt-mul_of_pos_right, lt_of_mul-lt-mul_right}
use native.Mathlib.Omega.{arith}
use lib.Dec.{T, ltb→lt, lt→ltb}
use lib.ListN.{get_or}
use lib.Pow.{pow_pos}
use lib.Ieee.{Float, nan, inf, fin, binary64, up, down, of_bits}
use lib.Ieee.Exact.{HasValue}
use lib.Ieee.Fits.{and_i, and_l, and_r, down_pos}
use lib.Ieee.Order.{transfer}
use Rattle.entries.specs.Fractions.{Fraction, ratio, times, less, exactly, value_of}
use Rattle.entries.specs.LnTable.{Patterns, ln_rows, b_in}
use Rattle.entries.specs.Logs.{piece_start, short, close_at, close_at_ends, inverse_nearest, in_steps, log_nearest}
use Rattle.entries.specs.Logs.{ln_row_holds}
use Rattle.entries.proofs.Logs.{logs-nearest}
use Rattle.entries.proofs.Grows.{grid, above_zero, grid-grows}

-- ---- B u and B z, against a bound P / Q: B is n / d, u is nu / du, z is nz / dz
raise : (P Q n d nu du nz dz : ℕ) → 0 < dz → nu * dz ≤ nz * du → P * (d * du) < n * nu * Q → P * (d * dz) < n * nz * Q
raise P Q n d nu du nz dz D k h =
    let a : P * (d * du) * dz < n * nu * Q * dz = mul-lt-mul_of_pos_right h D in
    let b : nu * dz * (n * Q) ≤ nz * du * (n * Q) = mul-le-mul_right (n * Q) k in
    let c : P * (d * dz) * du < n * nz * Q * du = omega arith in
    lt_of_mul-lt-mul_right du c

fall : (P Q n d nu du nz dz : ℕ) → 0 < dz → nz * du ≤ nu * dz → n * nu * Q < P * (d * du) → n * nz * Q < P * (d * dz)
fall P Q n d nu du nz dz D k h =
    let a : n * nu * Q * dz < P * (d * du) * dz = mul-lt-mul_of_pos_right h D in
    let b : nz * du * (n * Q) ≤ nu * dz * (n * Q) = mul-le-mul_right (n * Q) k in
    let c : n * nz * Q * du < P * (d * dz) * du = omega arith in
    lt_of_mul-lt-mul_right du c

-- ---- the same of values: u is a units of 1 / l, and z is b units
module _ (a b l P Q : ℕ) (L : 0 < l) where
  rises : (u z : Float) (B : Fraction) → HasValue u false a l → HasValue z false b l → a ≤ b
      → T (less (ratio P Q) (times B (exactly u))) → T (less (ratio P Q) (times B (exactly z)))
  rises nan z B p q h t = absurd p
  rises (inf s) z B p q h t = absurd p
  rises (fin s m e) nan B p q h t = absurd q
  rises (fin s m e) (inf r) B p q h t = absurd q
  rises (fin true m e) (fin r k i) B p q h t = absurd (true≢false p.0)
  rises (fin false m e) (fin true k i) B p q h t = absurd (true≢false q.0)
  rises (fin false m e) (fin false k i) (true, n, d) p q h t = absurd t
  rises (fin false m e) (fin false k i) (false, n, d) p q h t =
      lt→ltb (P * (d * down i)) (n * (k * up i) * Q)
      (raise P Q n d (m * up e) (down e) (k * up i) (down i) (down_pos i)
      (transfer (m * up e) (k * up i) (down e) (down i) a b l l L L p.1 q.1 (mul-le-mul_right l h))
      (ltb→lt (P * (d * down e)) (n * (m * up e) * Q) t))

  -- a B below zero is told by the bound R / S from below
  falls : (u z : Float) (B : Fraction) (R S : ℕ) → HasValue u false a l → HasValue z false b l → b ≤ a
      → T (less (ratio R S) (times B (exactly z))) → T (less (times B (exactly u)) (ratio P Q))
      → T (less (times B (exactly z)) (ratio P Q))
  falls nan z B R S p q h o t = absurd p
  falls (inf s) z B R S p q h o t = absurd p
  falls (fin s m e) nan B R S p q h o t = absurd q
  falls (fin s m e) (inf r) B R S p q h o t = absurd q
  falls (fin true m e) (fin r k i) B R S p q h o t = absurd (true≢false p.0)
  falls (fin false m e) (fin true k i) B R S p q h o t = absurd (true≢false q.0)
  falls (fin false m e) (fin false k i) (true, n, d) R S p q h o t = absurd o
  falls (fin false m e) (fin false k i) (false, n, d) R S p q h o t =
      lt→ltb (n * (k * up i) * Q) (P * (d * down i))
      (fall P Q n d (m * up e) (down e) (k * up i) (down i) (down_pos i)
      (transfer (k * up i) (m * up e) (down i) (down e) b a l l L L q.1 p.1 (mul-le-mul_right l h))
      (ltb→lt (n * (m * up e) * Q) (P * (d * down e)) t))

-- ---- between two patterns of values above zero
module _ (b m z n : ℕ) (N : n < 2047 * 2 ^ 52) (h : m ≤ z) (k : z ≤ n) where
  abbrev over_low : ℕ → Bool
  over_low y = less (ratio 199 200) (times (value_of b) (value_of y))

  abbrev under_high : ℕ → Bool
  under_high y = less (times (value_of b) (value_of y)) (ratio 201 200)

  Z : z < 2047 * 2 ^ 52
  Z = lt_of_le_of_lt k N

  M : m < 2047 * 2 ^ 52
  M = lt_of_le_of_lt h Z

  above : T (over_low m) → T (over_low z)
  above =
      rises (grid m) (grid z) (2 ^ 1074) 199 200 (pow_pos 1074) (of_bits binary64 m) (of_bits binary64 z) (value_of b)
      (above_zero m M) (above_zero z Z) (grid-grows m z h)

  below : T (over_low z) → T (under_high n) → T (under_high z)
  below =
      falls (grid n) (grid z) (2 ^ 1074) 201 200 (pow_pos 1074) (of_bits binary64 n) (of_bits binary64 z) (value_of b) 199 200
      (above_zero n N) (above_zero z Z) (grid-grows z n k)

  close-between : T (close_at m b) → T (close_at n b) → T (close_at z b)
  close-between p q =
      let low : T (over_low z) = above (and_l (over_low m) (under_high m) p) in
      and_i (over_low z) (under_high z) low (below low (and_r (over_low n) (under_high n) q))

-- the row's two ends
ends : (i : ℕ) (r : Patterns) → T (ln_row_holds i r) → T (close_at_ends i (b_in r))
ends i (c, b, h, l) t =
    let S = short b && close_at_ends i b in
    let C = inverse_nearest c b in
    let H = in_steps h in
    and_r (short b) (close_at_ends i b) (and_l S C (and_l (S && C) H (and_l (S && C && H) (log_nearest c h l) t)))

-- THE RULE FOR EACH z, by its pattern n
pub pieces-close : (i : ℕ) → i < 128 → (n : ℕ) → piece_start i ≤ n → n ≤ piece_start (suc i)
    → T (close_at n (b_in (get_or ln_rows i (0, 0, 0, 0))))
pieces-close i h n l u =
    let b = b_in (get_or ln_rows i (0, 0, 0, 0)) in
    let e : T (close_at_ends i b) = ends i (get_or ln_rows i (0, 0, 0, 0)) (logs-nearest i h) in
    let E = close_at (piece_start i) b in
    let F = close_at (piece_start (suc i)) b in
    close-between b (piece_start i) n (piece_start (suc i)) (to i h) l u (and_l E F e) (and_r E F e)
  where
    to : (i : ℕ) → i < 128 → 0x3fe6b00000000000 + suc i * 2 ^ 45 < 2047 * 2 ^ 52
    to i h = omega arith
