-- e ^ t against a fraction, by its series, for a t of size up to 1: e ^ |t| lies between the sum of the terms up to
-- |t| ^ 31 / 31! and that sum with its last term twice. That the tests say what they are for is a theorem of
-- crates/accuracy, in proofs/Claims/LnRestNearest.antt. Definitions only. Assumes nothing.
use Rattle.std.specs.Prelude.{ℕ, zero, suc, ◌+◌, ◌*◌, ◌^◌, Bool, true, false, ◌&&◌, leb, ltb}
use Rattle.entries.specs.Fractions.{Fraction}

-- 1 + a / c + .. + (a / c) ^ n / n! is `terms n a c` / `scale n c`
abbrev pub terms : ℕ → ℕ → ℕ → ℕ
terms zero a c = 1
terms (suc n) a c = suc n * (c * terms n a c) + a ^ suc n

abbrev pub scale : ℕ → ℕ → ℕ
scale zero c = 1
scale (suc n) c = suc n * (c * scale n c)

-- ---- e ^ (a / c), as a fraction over `scale 31 c`
abbrev pub least : ℕ → ℕ → ℕ
least a c = terms 31 a c

abbrev pub most : ℕ → ℕ → ℕ
most a c = terms 31 a c + a ^ 31

-- ---- the tests. They fail for a t of size above 1 and for an x that is negative
-- e ^ t < x
abbrev pub exp_less : Fraction → Fraction → Bool
exp_less t (true, p, q) = false
exp_less (false, a, c) (false, p, q) = leb a c && ltb (most a c * q) (p * scale 31 c)
exp_less (true, a, c) (false, p, q) = leb a c && ltb (q * scale 31 c) (least a c * p)

-- e ^ t > x
abbrev pub exp_more : Fraction → Fraction → Bool
exp_more t (true, p, q) = false
exp_more (false, a, c) (false, p, q) = leb a c && ltb (p * scale 31 c) (least a c * q)
exp_more (true, a, c) (false, p, q) = leb a c && ltb (most a c * p) (q * scale 31 c)
