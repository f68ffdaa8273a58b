-- The corners of layer 2 that document 01 keeps. The one of a NaN beside -inf is stated here alone. Assumes nothing.
use mathlib.Core.Path.{◌≡◌, refl, sym, ap, ◌∙◌}
use mathlib.Core.Bool.{Bool, true, false, ◌&&◌, ◌||◌, cond, false≢true}
use Prim.Native.Nat.{ℕ, ◌*◌, ◌/◌, ◌^◌, ◌≤◌, ◌<◌, min}
use native.Mathlib.Nat.{le-div_iff_mul-le, mul-le-mul_right, le_trans}
use native.Mathlib.Omega.{arith}
use borrow.Author.Tests.{lt-ltb}
use lib.Dec.{T, eqb, eqb→eq, lit≤}
use lib.IntN.{ℤ}
use lib.Ieee.{Float, nan, inf, fin, binary64, up, down, of_bits, lt, le, eq, ne, to_unsigned, fits}
use lib.Ieee.Fits.{down_pos, and_r, sub-fits}
use lib.Ieee.Scale.{finite}
use Rattle.routines.specs.Constants.{zero, one}
use Rattle.routines.proofs.Ranges.{wide, floor-keeps}
use Rattle.helpers.specs.Lobes.{discrete_nb_mode_of, two64}
use Rattle.routines.specs.Ops.{◌⊖◌}
use Rattle.routines.specs.Pick.{max_of, min_of}
use Rattle.routines.specs.Whole.{round_of, floor_of}
use Rattle.routines.proofs.Products.{or-le}
use Rattle.routines.proofs.Tests.{yes}
use Rattle.helpers.specs.LogSums.{lse2_of, lse3_of, ln_sub_exp_of}
use Rattle.helpers.specs.Shelves.{shelf_trials_of}

-- ---- the maximum skips a NaN, and one that is not finite is the answer
pub lse2-not-finite : (a b : Float) → finite (max_of a b) ≡ false → lse2_of a b ≡ max_of a b
unfolding lse2_of
lse2-not-finite a b h = rw h

pub lse3-not-finite : (a b c : Float) → finite (max_of (max_of a b) c) ≡ false → lse3_of a b c ≡ max_of (max_of a b) c
unfolding lse3_of
lse3-not-finite a b c h = rw h

pub max-skips-first : (b : Float) → max_of nan b ≡ b
unfolding max_of
max-skips-first b = refl

pub max-skips-second : (a : Float) → max_of a nan ≡ a
unfolding max_of lt
max-skips-second nan = refl
max-skips-second (inf s) = refl
max-skips-second (fin s m e) = refl

-- ---- THE NaN CORNER: a NaN beside -inf is dropped
pub lse2-nan-first : lse2_of nan (inf true) ≡ inf true
lse2-nan-first = lse2-not-finite nan (inf true) (rw (max-skips-first (inf true))) ∙ max-skips-first (inf true)

pub lse2-nan-second : lse2_of (inf true) nan ≡ inf true
lse2-nan-second = lse2-not-finite (inf true) nan (rw (max-skips-second (inf true))) ∙ max-skips-second (inf true)

pub lse3-nan : lse3_of nan (inf true) (inf true) ≡ inf true
unfolding lse3_of max_of lt
lse3-nan = refl

pub lse3-nan-second : lse3_of (inf true) nan (inf true) ≡ inf true
unfolding lse3_of max_of lt
lse3-nan-second = refl

pub lse3-nan-third : lse3_of (inf true) (inf true) nan ≡ inf true
unfolding lse3_of max_of lt
lse3-nan-third = refl

-- ---- ln_sub_exp
pub sub-minus-inf : (low : Float) → ln_sub_exp_of (inf true) low ≡ inf true
unfolding ln_sub_exp_of eq
sub-minus-inf low = refl

pub sub-larger : (high low : Float) → eq high (inf true) ≡ false → lt high low ≡ true → ln_sub_exp_of high low ≡ nan
unfolding ln_sub_exp_of
sub-larger high low h l = rw (h, l)

either : (b : Bool) (y : Float) → cond (b || ne nan nan) nan y ≡ nan
unfolding ne eq
either true y = refl
either false y = refl

pub sub-nan : (high : Float) → eq high (inf true) ≡ false → ln_sub_exp_of high nan ≡ nan
unfolding ln_sub_exp_of
sub-nan high h = rw h (either (lt high nan) _)

-- ---- the trials of a NaN are 1
pub trials-nan : shelf_trials_of nan ≡ one
unfolding shelf_trials_of round_of max_of
trials-nan = refl

-- ---- a finite mode of 2^64 or more is 2^64-1
-- a size of 2^64 or more, cut to 64 bits
cut-full : (n d : ℕ) → 0 < d → 18446744073709551616 * d ≤ n → min (n / d) 18446744073709551615 ≡ 18446744073709551615
cut-full n d D h = full (n / d) ((le-div_iff_mul-le D).1 h)
  where
    full : (q : ℕ) → 18446744073709551616 ≤ q → min q 18446744073709551615 ≡ 18446744073709551615
    full q h = omega arith

large-mode : (m : ℕ) (e : ℤ) → T (fits binary64 (fin false m e)) → 18446744073709551616 * down e ≤ m * up e → to_unsigned 64 (min_of (floor_of (fin false m e)) two64) ≡ 18446744073709551615
unfolding min_of
large-mode m e F h =
    ap (λ (x : Float). to_unsigned 64 (min_of x two64)) (sym (floor-keeps F (wide false m e (le_trans (mul-le-mul_right (down e) (lit≤ tt)) h))))
    ∙ picked (lt two64 (fin false m e))
  where
    picked : (b : Bool) → to_unsigned 64 (cond b two64 (fin false m e)) ≡ 18446744073709551615
    picked true = unfold to_unsigned of_bits in refl
    picked false = unfold to_unsigned in cut-full (m * up e) (down e) (down_pos e) h

reaches : (m : ℕ) (e : ℤ) → le two64 (fin false m e) ≡ true → 18446744073709551616 * down e ≤ m * up e
unfolding le lt eq of_bits
reaches m e h = plain (m * up e) (down e) (or-le (1 * 2 ^ 64 * down e) (m * up e * 1) (yes h))
  where
    plain : (a d : ℕ) → 1 * 2 ^ 64 * d ≤ a * 1 → 18446744073709551616 * d ≤ a
    plain a d h = omega arith

above : (m : ℕ) (e : ℤ) → 18446744073709551616 * down e ≤ m * up e → lt zero (fin false m e) ≡ true
unfolding lt of_bits
above m e h = lt-ltb (0 * down e) (m * up e * 1) (some (m * up e) (down e) (down_pos e) h)
  where
    some : (a d : ℕ) → 0 < d → 18446744073709551616 * d ≤ a → 0 * d < a * 1
    some a d k h = omega arith

not_negative : (m : ℕ) (e : ℤ) → le two64 (fin true m e) ≡ true → ⊥
unfolding le lt eq of_bits
not_negative m e h = none (down e) (down_pos e) (eqb→eq (1 * 2 ^ 64 * down e) 0 (and_r (eqb (1 * 2 ^ 64 * down e) (m * up e * 1)) (eqb (1 * 2 ^ 64 * down e) 0) (yes h)))
  where
    none : (d : ℕ) → 0 < d → 1 * 2 ^ 64 * d ≡ 0 → ⊥
    none d k h = omega arith

pub mode-full : (mean dispersion : Float) → finite (mean ⊖ (dispersion ⊖ one)) ≡ true → le two64 (mean ⊖ (dispersion ⊖ one)) ≡ true → discrete_nb_mode_of mean dispersion ≡ 18446744073709551615
unfolding discrete_nb_mode_of
mode-full mean dispersion f h = at (mean ⊖ (dispersion ⊖ one)) (sub-fits binary64 mean (dispersion ⊖ one)) f h
  where
    at : (x : Float) → T (fits binary64 x) → finite x ≡ true → le two64 x ≡ true → cond (finite x && lt zero x) (to_unsigned 64 (min_of (floor_of x) two64)) 0 ≡ 18446744073709551615
    at nan F f h = absurd (false≢true f)
    at (inf s) F f h = absurd (false≢true f)
    at (fin true m e) F f h = absurd (not_negative m e h)
    at (fin false m e) F f h =
        let big : 18446744073709551616 * down e ≤ m * up e = reaches m e h in
        rw (above m e big) (large-mode m e F big)
