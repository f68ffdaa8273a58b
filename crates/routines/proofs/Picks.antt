-- What `max`, `min` and `is_finite` find by their tests, on plain values. Assumes nothing.
use Rattle.std.proofs.Common.{◌≡◌, ℕ, ◌*◌, ◌<◌, Bool, true, false, sym, refl, ap, ◌∙◌, true≢false, zero-lt-suc}
use Rattle.std.proofs.Common.{mul-pos, mul-zero, zero-mul}
use lib.Ieee.{Float, nan, inf, fin, binary64, up, down, unlike, of_bits, eq, is_nan, mul, round}
use lib.Ieee.Fits.{down_pos}
use lib.Ieee.Scale.{finite, round_same}
use Rattle.routines.specs.Pick.{skipping}

-- ---- the test for a NaN
pub skips : (a b r : Float) → is_nan a ≡ true → b ≡ skipping a b r
unfolding is_nan
skips nan b r h = refl
skips (inf s) b r h = absurd (true≢false (sym h))
skips (fin s m e) b r h = absurd (true≢false (sym h))

pub takes : (a b r : Float) → is_nan a ≡ false → r ≡ skipping a b r
unfolding is_nan
takes nan b r h = absurd (true≢false h)
takes (inf s) b r h = refl
takes (fin s m e) b r h = refl

-- ---- `is_finite`
zero-times : (s : Bool) (a d : ℕ) → 0 < d → round binary64 s (a * 0) (d * 1) ≡ round binary64 s 0 1
zero-times s a d D =
    round_same binary64 s (a * 0) (d * 1) 0 1 (mul-pos D (zero-lt-suc 0)) (zero-lt-suc 0)
    (ap (λ (z : ℕ). z * 1) (mul-zero a) ∙ sym (zero-mul (d * 1)))

zero-level : (s : Bool) → eq (round binary64 s 0 1) (of_bits binary64 0) ≡ true
unfolding eq round of_bits
zero-level true = refl
zero-level false = refl

pub finite-is : (x : Float) → eq (mul binary64 x (of_bits binary64 0)) (of_bits binary64 0) ≡ finite x
unfolding mul eq of_bits
finite-is nan = refl
finite-is (inf s) = refl
finite-is (fin s m e) =
    ap (λ (z : Float). eq z (of_bits binary64 0)) (zero-times (unlike s false) (m * up e) (down e) (down_pos e))
    ∙ zero-level (unlike s false)
