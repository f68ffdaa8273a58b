-- The rule of ln's table. Row i is for the z from the pattern `piece_start i` on, up to the next row's. In it
-- B is a whole number of 2 ^ -9, and |B z - 1| < 1 / 200 for each z of the row;
-- C is the `f64` nearest to 1 / B;
-- H is a whole number of 2 ^ -42;
-- L is the `f64` nearest to ln C - H. Definitions only. Assumes nothing.
use Rattle.std.specs.Prelude.{ℕ, suc, ◌+◌, ◌*◌, ◌^◌, Bool, ◌&&◌}
use Rattle.entries.specs.Fractions.{ratio, one, plus, times, less, whole_in, value_of, is_number, nearest}
use Rattle.entries.specs.Series.{exp_less, exp_more}
use Rattle.entries.specs.LnTable.{Patterns}

-- 0.708984375 = 363 / 512 for row 0, and twice that past row 127
abbrev pub piece_start : ℕ → ℕ
piece_start i = 0x3fe6b00000000000 + i * 2 ^ 45

-- ---- B
abbrev pub short : ℕ → Bool
short b = is_number b && whole_in 9 (value_of b)

-- 1 - 1 / 200 < B z < 1 + 1 / 200, at the z with this pattern
abbrev pub close_at : ℕ → ℕ → Bool
close_at z b = less (ratio 199 200) (times (value_of b) (value_of z)) && less (times (value_of b) (value_of z)) (ratio 201 200)

-- at the row's two ends, and so at each z between: `pieces-close` in proofs/Pieces.antt
abbrev pub close_at_ends : ℕ → ℕ → Bool
close_at_ends i b = close_at (piece_start i) b && close_at (piece_start (suc i)) b

-- ---- C: r < 1 / B says that r B < 1, since B is above 0
abbrev pub inverse_nearest : ℕ → ℕ → Bool
inverse_nearest c b = nearest (λ r. less (times r (value_of b)) one) (λ r. less one (times r (value_of b))) c

-- ---- H and L: r < ln C - H says that e ^ (H + r) < C
abbrev pub in_steps : ℕ → Bool
in_steps h = is_number h && whole_in 42 (value_of h)

abbrev pub log_nearest : ℕ → ℕ → ℕ → Bool
log_nearest c h l =
    nearest (λ r. exp_less (plus (value_of h) r) (value_of c)) (λ r. exp_more (plus (value_of h) r) (value_of c)) l

abbrev pub ln_row_holds : ℕ → Patterns → Bool
ln_row_holds i (c, b, h, l) = short b && close_at_ends i b && inverse_nearest c b && in_steps h && log_nearest c h l
