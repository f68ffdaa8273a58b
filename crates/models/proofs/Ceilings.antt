-- THE CEILING: where the walk starts it is the largest whole number that is at most the window end and at most the mean
-- and a half (`ceiling-is`), and 2 at least, so that one sum at least is compared (`ceiling-two`). No rounding and no
-- cast takes part in that: below 65,535 they lose nothing. Assumes nothing.
use Prim.Native.Nat.{ℕ, suc, ◌+◌, ◌-◌, ◌*◌, ◌/◌, ◌^◌, ◌≤◌, ◌<◌, min}
use mathlib.Core.Path.{◌≡◌, refl, sym, ap, ◌∙◌, subst}
use mathlib.Core.Bool.{Bool, true, false, not, ◌||◌, false≢true}
use native.Mathlib.Nat.{le_trans, le_of_eq, lt_of_lt_of_le, mul-pos, zero-lt-suc, le-div_iff_mul-le, div-lt_iff_lt-mul}
use native.Mathlib.Omega.{arith}
use borrow.Author.Tests.{ltb-false, ltb-true}
use lib.Dec.{T, ltb, lt→ltb, lit≤}
use lib.Ieee.{Float, nan, inf, fin, binary64, up, down, of_bits, lt, le, round, to_unsigned}
use lib.Ieee.Back.{round_whole}
use lib.Ieee.Exact.{HasValue}
use lib.Ieee.Fits.{down_pos}
use lib.Ieee.Order.{round_mono}
use lib.Ieee.Positive.{num, den, den_pos, positive, above, above_of_le, first_pos}
use lib.Ieee.Positive.{own_value, positive_of_value, values_of_le}
use lib.Ieee.Scale.{finite}
use Rattle.routines.specs.Constants.{two, zero as nought}
use Rattle.routines.specs.Whole.{round_of, half_up}
use Rattle.routines.proofs.Sizes.{cut_of}
use Rattle.models.specs.declared.fit.SpectrumFit.{SpectrumFit}
use Rattle.models.specs.ClaimsCutoff.{Ceiling}
use Rattle.models.specs.Cutoffs.{walk_starts, ceiling_of}

-- ---- the four tests
passed : (a b c d : Bool) → not (a || not b || c || d) ≡ true → (a ≡ false) × (b ≡ true) × (c ≡ false) × (d ≡ false)
passed true b c d h = absurd (false≢true h)
passed false false c d h = absurd (false≢true h)
passed false true true d h = absurd (false≢true h)
passed false true false true h = absurd (false≢true h)
passed false true false false h = (refl, refl, refl, refl)

-- ---- the smaller of two
smaller-left : (a b : ℕ) → min a b ≤ a
smaller-left a b = omega arith

smaller-right : (a b : ℕ) → min a b ≤ b
smaller-right a b = omega arith

is-left : (a b : ℕ) → min a b < b → min a b ≡ a
is-left a b h = omega arith

-- ---- what is k at least, and cut down to a whole number, is k at least
cut : (k : ℕ) (y : Float) → k ≤ 2 ^ 64 - 1 → T (above y) → (T (positive y) → k * den y ≤ num y * 1)
    → k ≤ to_unsigned 64 y
unfolding to_unsigned
cut k nan h a l = absurd a
cut k (inf true) h a l = absurd a
cut k (inf false) h a l = h
cut k (fin true m e) h a l = absurd a
cut k (fin false m e) h a l = both (m * up e / down e) ((le-div_iff_mul-le (down_pos e)).1 (once (m * up e) (l a)))
  where
    once : (n : ℕ) → k * down e ≤ n * 1 → k * down e ≤ n
    once n l = omega arith

    both : (q : ℕ) → k ≤ q → k ≤ min q (2 ^ 64 - 1)
    both q l = omega arith

-- and so of a whole number, rounded to the format first
cut-above : (k n : ℕ) → 0 < k → k ≤ 2 ^ 53 → k ≤ n → k ≤ to_unsigned 64 (round binary64 false n 1)
cut-above k n K few h =
    let x = round binary64 false k 1 in
    let y = round binary64 false n 1 in
    let v : HasValue x false k 1 = round_whole binary64 false k few in
    let p = positive_of_value x k 1 v K in
    let l : T (le x y) = round_mono binary64 k 1 n 1 (zero-lt-suc 0) (zero-lt-suc 0) (once k n h) in
    cut k y (le_trans few (lit≤ tt)) (above_of_le x y p l)
    (λ (q : T (positive y)). values_of_le x y k 1 (num y) (den y) p q v (own_value y q) l)
  where
    once : (k n : ℕ) → k ≤ n → k * 1 ≤ n * 1
    once k n h = omega arith

-- below 65,535 nothing is lost of it
cut-same : (n end : ℕ) → end ≤ 65535 → min (to_unsigned 64 (round binary64 false n 1)) end ≡ min n end
cut-same n end few = go (ltb (2 ^ 53) n) refl
  where
    go : (b : Bool) → ltb (2 ^ 53) n ≡ b → min (to_unsigned 64 (round binary64 false n 1)) end ≡ min n end
    go false e =
        let h : n ≤ 2 ^ 53 = ltb-false (2 ^ 53) n e in
        exact (to_unsigned 64 (round binary64 false n 1)) h
        (cut_of (round binary64 false n 1) n 1 (zero-lt-suc 0) (round_whole binary64 false n h) 64)
      where
        exact : (t : ℕ) → n ≤ 2 ^ 53 → t ≡ min (n / 1) (2 ^ 64 - 1) → min t end ≡ min n end
        exact t h e = omega arith
    go true e =
        let h : 2 ^ 53 < n = ltb-true (2 ^ 53) n e in
        far (to_unsigned 64 (round binary64 false n 1)) h (cut-above 65535 n (zero-lt-suc 65534) (lit≤ tt) (more h))
      where
        more : 2 ^ 53 < n → 65535 ≤ n
        more h = omega arith

        far : (t : ℕ) → 2 ^ 53 < n → 65535 ≤ t → min t end ≡ min n end
        far t h l = omega arith

-- ---- rounded first
half-up-two : (a d : ℕ) → 0 < d → 2 * d ≤ a → 2 ≤ half_up a d
unfolding half_up
half-up-two a d D h = (le-div_iff_mul-le (mul-pos (zero-lt-suc 1) D)).1 (more a d h)
  where
    more : (a d : ℕ) → 2 * d ≤ a → 2 * (2 * d) ≤ 2 * a + d
    more a d h = omega arith

-- no more than the half-up whole number is at most a half more, and one more than it is above that
half-more : (a d n : ℕ) → 0 < d → n ≤ half_up a d → 2 * n * d ≤ 2 * a + d
unfolding half_up
half-more a d n D h =
    let l : n * (2 * d) ≤ 2 * a + d = (le-div_iff_mul-le (mul-pos (zero-lt-suc 1) D)).0 h in
    omega arith

half-less : (a d n : ℕ) → 0 < d → n ≡ half_up a d → 2 * a + d < 2 * suc n * d
unfolding half_up
half-less a d n D e =
    let under : half_up a d < suc n = le_of_eq (ap suc (sym e)) in
    let l : 2 * a + d < suc n * (2 * d) = (div-lt_iff_lt-mul (mul-pos (zero-lt-suc 1) D)).0 under in
    omega arith

-- a finite value that is not below 2 is positive, and 2 at least
pub two-or-more : (x : Float) → finite x ≡ true → lt x two ≡ false → T (positive x) × (2 * den x ≤ num x)
unfolding lt of_bits
two-or-more nan f h = absurd (false≢true f)
two-or-more (inf s) f h = absurd (false≢true f)
two-or-more (fin true m e) f h =
    absurd (some (m * up e * 1) (down e) (down_pos e) (ltb-false 0 (m * up e * 1 + 1 * 2 * down e) h))
  where
    some : (n d : ℕ) → 0 < d → n + 1 * 2 * d ≤ 0 → ⊥
    some n d D h = omega arith
two-or-more (fin false m e) f h =
    let l = less (m * up e) (down e) (ltb-false (m * up e * 1) (1 * 2 * down e) h) in
    (lt→ltb 0 m (first_pos m (up e) (lt_of_lt_of_le (mul-pos (zero-lt-suc 1) (down_pos e)) l)), l)
  where
    less : (a d : ℕ) → 1 * 2 * d ≤ a * 1 → 2 * d ≤ a
    less a d h = omega arith

round-opened : (x : Float) → T (positive x) → round_of x ≡ round binary64 false (half_up (num x) (den x)) 1
unfolding round_of
round-opened nan p = absurd p
round-opened (inf s) p = absurd p
round-opened (fin true m e) p = absurd p
round-opened (fin false m e) p = refl

-- ---- THE CEILING
module _ (fit : SpectrumFit) where
  abbrev mean : Float
  mean = fit.mean

  abbrev end : ℕ
  end = fit.fit_window_end

  -- the mean as the whole number that the walk compares
  abbrev nearest : ℕ
  nearest = half_up (num mean) (den mean)

  module _ (starts : walk_starts fit ≡ true) where
    tested : (finite mean ≡ true) × (lt mean two ≡ false) × (2 ≤ end)
    unfolding walk_starts
    tested =
        let p = passed (le fit.genome_kmers nought) (finite mean) (lt mean two) (ltb end 2) starts in
        (p.1, p.2, ltb-false end 2 p.3)

    mean-two : T (positive mean) × (2 * den mean ≤ num mean)
    mean-two = two-or-more mean tested.0 tested.1

    -- the smaller of the window end and the mean to the nearest whole number
    ceiling-nearest : end ≤ 65535 → ceiling_of fit ≡ min nearest end
    ceiling-nearest few =
        ap (λ (x : Float). min (to_unsigned 64 x) end) (round-opened mean mean-two.0) ∙ cut-same nearest end few

    pub ceiling-is : end ≤ 65535 → Ceiling fit (ceiling_of fit)
    ceiling-is few = subst (Ceiling fit) (sym (ceiling-nearest few)) (record {
      window = smaller-right nearest end;
      rounded = half-more (num mean) (den mean) (min nearest end) (den_pos mean) (smaller-left nearest end);
      largest = λ (h : min nearest end < end). half-less (num mean) (den mean) (min nearest end) (den_pos mean)
          (is-left nearest end h);
    })

    rounds-to-two : 2 ≤ to_unsigned 64 (round_of mean)
    rounds-to-two =
        subst (λ (x : Float). 2 ≤ to_unsigned 64 x) (sym (round-opened mean mean-two.0))
        (cut-above 2 nearest (zero-lt-suc 1) (lit≤ tt) (half-up-two (num mean) (den mean) (den_pos mean) mean-two.1))

    pub ceiling-two : 2 ≤ ceiling_of fit
    ceiling-two = both (to_unsigned 64 (round_of mean)) end rounds-to-two tested.2
      where
        both : (a b : ℕ) → 2 ≤ a → 2 ≤ b → 2 ≤ min a b
        both a b h k = omega arith

  -- as it is computed: at most the window end, at most the rounded mean, and one of the two
  pub ceiling-end : ceiling_of fit ≤ end
  ceiling-end = smaller-right (to_unsigned 64 (round_of mean)) end

  pub ceiling-mean : ceiling_of fit ≤ to_unsigned 64 (round_of mean)
  ceiling-mean = smaller-left (to_unsigned 64 (round_of mean)) end

  pub ceiling-either : ceiling_of fit < end → ceiling_of fit ≡ to_unsigned 64 (round_of mean)
  ceiling-either h = is-left (to_unsigned 64 (round_of mean)) end h
