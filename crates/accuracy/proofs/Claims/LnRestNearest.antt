-- In each row of ln's table e ^ (H + m) ≤ C ≤ e ^ (H + n), where m and n are the middles of L and its two neighbours:
-- the tests that compare e ^ t with a fraction by its series say what they are for. Assumes nothing.
use Rattle.accuracy.proofs.Prelude.{◌≡◌, sym, ap, ◌∙◌, subst, Bool, true, false, cond, ◌&&◌, Bool·beq, ℕ, zero}
use Rattle.accuracy.proofs.Prelude.{suc, ◌+◌, ◌-◌, ◌*◌, ◌^◌, ◌≤◌, ◌<◌, arith, T, leb, leb→le, ltb, ltb→lt}
use native.Mathlib.Nat.{le_trans, le_of_eq, le_of_lt, mul_comm, mul-le-mul_right, mul-pos, zero-lt-suc}
use lib.ListN.{get_or}
use lib.Ieee.{Float, nan, inf, fin, binary64, of_bits}
use lib.Ieee.Fits.{and_l, and_r, down_pos}
use Rattle.entries.specs.Fractions.{Fraction, sum_over, plus, half, exactly, value_of, is_finite, is_number, next_up}
use Rattle.entries.specs.Fractions.{next_down, middle, nearest}
use Rattle.entries.specs.Series.{terms, least, most, exp_less, exp_more}
use Rattle.entries.specs.Series as Entries
use Rattle.entries.specs.LnTable.{Patterns, ln_rows}
use Rattle.entries.specs.Logs.{short, close_at_ends, inverse_nearest, in_steps, log_nearest, ln_row_holds}
use Rattle.entries.proofs.Logs.{logs-nearest}
use Rattle.accuracy.specs.Accuracy.{ExpAtMost}
use Rattle.accuracy.specs.LnTable.{AtMost, AtLeast, LogNearest}
use Rattle.accuracy.proofs.Euler.Bounds.{Above, Below}
use Rattle.accuracy.proofs.Euler.PartialSums.{part, scale, over, part-suc, part-zero, scale-suc, scale-zero}
use Rattle.accuracy.proofs.Euler.PartialSums.{scale-pos, above-series, below-series}
use Rattle.accuracy.proofs.Euler.Weaker.{above-weaken, below-weaken}
use Rattle.accuracy.proofs.Euler.EveryN.{lowered}

-- ---- the sums of the tests are those of Euler/PartialSums.antt
same-terms : (k a c : ℕ) → terms k a c ≡ part k a c
same-terms zero a c = sym (part-zero a c)
same-terms (suc k) a c = ap (λ (x : ℕ). suc k * (c * x) + a ^ suc k) (same-terms k a c) ∙ sym (part-suc k a c)

same_scale : (k c : ℕ) → Entries.scale k c ≡ scale k c
same_scale zero c = sym (scale-zero c)
same_scale (suc k) c = ap (λ (x : ℕ). suc k * (c * x)) (same_scale k c) ∙ sym (scale-suc k c)

same_over : (k a c : ℕ) → terms (suc k) a c + a ^ suc k ≡ over k a c
unfolding over
same_over k a c = ap (λ (x : ℕ). x + a ^ suc k) (same-terms (suc k) a c)

-- ---- p / q from above, by a sum with its last term twice
from-above : (k a c p q : ℕ) → 0 < c → a ≤ c → over (suc k) a c * q < p * scale (suc (suc k)) c → Above a c p q
from-above k a c p q C h t =
    above-weaken a c (over (suc k) a c) (scale (suc (suc k)) c) p q (scale-pos (suc (suc k)) c C) (le_of_lt t)
    (above-series (suc k) a c (wide k a c h))
  where
    wide : (k a c : ℕ) → a ≤ c → 2 * a ≤ suc (suc k) * c
    wide k a c h =
        let m : 0 * c ≤ k * c = mul-le-mul_right c (none k) in
        omega arith
      where
        none : (k : ℕ) → 0 ≤ k
        none k = omega arith

-- ---- p / q from below, by a sum. What the test leaves over makes up for (1 + t / m), for a large m
from-below : (k a c p q : ℕ) → 0 < c → a ≤ c → p * scale k c < part k a c * q → Below a c p q
from-below k a c p q C h t =
    let m = suc (p * scale k c * a) in
    let M : 0 < m = zero-lt-suc (p * scale k c * a) in
    below-weaken a c (part k a c * (c * m)) (scale k c * (c * m + a)) p q
    (mul-pos (scale-pos k c C) (wide (c * m) a (mul-pos C M))) (room p q (part k a c) (scale k c) a c C t)
    (below-series k m a c M C h)
  where
    wide : (x y : ℕ) → 0 < x → 0 < x + y
    wide x y h = omega arith

    room : (p q X G a c : ℕ) → 0 < c → p * G < X * q → p * (G * (c * suc (p * G * a) + a)) ≤ X * (c * suc (p * G * a)) * q
    room p q X G a c C t = go p q X G a (c * suc (p * G * a)) t (large c (p * G * a) C)
      where
        large : (c x : ℕ) → 0 < c → x ≤ c * suc x
        large c x h =
            let m : 1 * suc x ≤ c * suc x = mul-le-mul_right (suc x) h in
            omega arith

        go : (p q X G a M : ℕ) → p * G < X * q → p * G * a ≤ M → p * (G * (M + a)) ≤ X * M * q
        go p q X G a M t l =
            let m : suc (p * G) * M ≤ X * q * M = mul-le-mul_right M t in
            omega arith

-- ---- what the bounds say in the words of specs/Accuracy.antt
back : (a b : ℕ) → a ≤ b → b - a + a ≡ b
back a b h = omega arith

-- e ^ (a / c) ≤ p / q, and e ^ (- a / c) ≤ q / p where p / q ≤ e ^ (a / c)
most-up : (a c p q : ℕ) → Above a c p q → ExpAtMost false a c p q
most-up a c p q h n hn r = h n hn

most-down : (a c p q : ℕ) → 0 < c → Below a c p q → ExpAtMost true a c q p
most-down a c p q C h n hn r =
    le_trans (le_of_eq (mul_comm ((c * n - a) ^ n) p)) (lowered a c p q n (c * n - a) C hn (back a (c * n) r) h)

-- ---- the tests
over-test : (a c x y : ℕ) → T (ltb (most a c * x) (y * Entries.scale 31 c)) → over 30 a c * x < y * scale 31 c
over-test a c x y t =
    subst (λ (z : ℕ). z * x < y * scale 31 c) (same_over 30 a c)
    (subst (λ (z : ℕ). most a c * x < y * z) (same_scale 31 c) (ltb→lt (most a c * x) (y * Entries.scale 31 c) t))

part-test : (a c x y : ℕ) → T (ltb (x * Entries.scale 31 c) (least a c * y)) → x * scale 31 c < part 31 a c * y
part-test a c x y t =
    subst (λ (z : ℕ). x * scale 31 c < z * y) (same-terms 31 a c)
    (subst (λ (z : ℕ). x * z < least a c * y) (same_scale 31 c) (ltb→lt (x * Entries.scale 31 c) (least a c * y) t))

abbrev Sound : Fraction → Type 0
Sound (s, a, c) = 0 < c

less-sound : (t x : Fraction) → Sound t → T (exp_less t x) → AtMost t x
less-sound t (true, p, q) C h = absurd h
less-sound (false, a, c) (false, p, q) C h =
    let S = leb a c in
    let M = ltb (most a c * q) (p * Entries.scale 31 c) in
    most-up a c p q (from-above 29 a c p q C (leb→le a c (and_l S M h)) (over-test a c q p (and_r S M h)))
less-sound (true, a, c) (false, p, q) C h =
    let S = leb a c in
    let M = ltb (q * Entries.scale 31 c) (least a c * p) in
    most-down a c q p C (from-below 31 a c q p C (leb→le a c (and_l S M h)) (part-test a c q p (and_r S M h)))

more-sound : (t x : Fraction) → Sound t → T (exp_more t x) → AtLeast t x
more-sound t (true, p, q) C h = absurd h
more-sound (false, a, c) (false, p, q) C h =
    let S = leb a c in
    let M = ltb (p * Entries.scale 31 c) (least a c * q) in
    most-down a c p q C (from-below 31 a c p q C (leb→le a c (and_l S M h)) (part-test a c p q (and_r S M h)))
more-sound (true, a, c) (false, p, q) C h =
    let S = leb a c in
    let M = ltb (most a c * p) (q * Entries.scale 31 c) in
    most-up a c q p (from-above 29 a c q p C (leb→le a c (and_l S M h)) (over-test a c p q (and_r S M h)))

-- ---- denominators are above 0
value-sound : (x : Float) → Sound (exactly x)
value-sound nan = zero-lt-suc 0
value-sound (inf s) = zero-lt-suc 0
value-sound (fin s m e) = down_pos e

sum-sound : (e : ℕ) (s : Bool) (a : ℕ) (t : Bool) (b : ℕ) → 0 < e → Sound (sum_over e s a t b)
sum-sound e s a t b h = go (Bool·beq s t) (ltb a b)
  where
    go : (u v : Bool) → Sound (cond u (s, a + b, e) (cond v (t, b - a, e) (s, a - b, e)))
    go true v = h
    go false true = h
    go false false = h

plus-sound : (x y : Fraction) → Sound x → Sound y → Sound (plus x y)
plus-sound (s, a, c) (t, b, d) p q = sum-sound (c * d) s (a * d) t (b * c) (mul-pos p q)

half-sound : (x : Fraction) → Sound x → Sound (half x)
half-sound (s, a, c) p = mul-pos (zero-lt-suc 1) p

at-sound : (h k l : ℕ) → Sound (plus (value_of h) (middle k l))
at-sound h k l =
    plus-sound (value_of h) (middle k l) (value-sound (of_bits binary64 h))
    (half-sound (plus (value_of k) (value_of l))
    (plus-sound (value_of k) (value_of l) (value-sound (of_bits binary64 k)) (value-sound (of_bits binary64 l))))

-- ---- a row
middles : (is_less is_more : Fraction → Bool) (l : ℕ) → T (nearest is_less is_more l)
    → T (is_less (middle (next_down l) l)) × T (is_more (middle l (next_up l)))
middles is_less is_more l t =
    let A = is_number l && is_finite (next_down l) && is_finite (next_up l) in
    let B = is_less (middle (next_down l) l) in
    let C = is_more (middle l (next_up l)) in
    (and_r A B (and_l (A && B) C t), and_r (A && B) C t)

row-sound : (i : ℕ) (r : Patterns) → T (ln_row_holds i r) → LogNearest r
row-sound i (c, b, h, l) t =
    let A = short b && close_at_ends i b && inverse_nearest c b && in_steps h in
    let below : Fraction → Bool = λ r. exp_less (plus (value_of h) r) (value_of c) in
    let above : Fraction → Bool = λ r. exp_more (plus (value_of h) r) (value_of c) in
    let m = middles below above l (and_r A (log_nearest c h l) t) in (
      less-sound (plus (value_of h) (middle (next_down l) l)) (value_of c) (at-sound h (next_down l) l) m.0,
      more-sound (plus (value_of h) (middle l (next_up l))) (value_of c) (at-sound h l (next_up l)) m.1,
    )

-- THE ROWS
pub rest-nearest : (i : ℕ) → i < 128 → LogNearest (get_or ln_rows i (0, 0, 0, 0))
rest-nearest i h = row-sound i (get_or ln_rows i (0, 0, 0, 0)) (logs-nearest i h)
