-- lgamma from a logarithm at hand is lgamma. Assumes nothing.
use Rattle.std.proofs.Common.{◌≡◌, ℕ, ◌+◌, ◌*◌, ◌<◌, ◌≤◌, Bool, true, false, cond, ◌&&◌, eqb, ltb, sym, refl, ◌∙◌}
use Rattle.std.proofs.Common.{⊎_elim, le_of_eq, le_of_lt, arith, eqb→eq, ltb-true, lt-ltb}
use mathlib.Core.Bool.{false≢true}
use lib.Ieee.{Float, nan, inf, fin, up, down, of_bits, lt, le, eq}
use lib.Ieee.Fits.{down_pos, and_l}
use Rattle.routines.specs.Constants.{zero, four}
use Rattle.routines.specs.Hoists.{lgamma_with}
use Rattle.routines.specs.Lgamma.{lgamma_of, above_zero, below_zero, stirling_of}
use Rattle.routines.specs.Ln.{ln_of}
use Rattle.routines.proofs.Orders.{or_split}
use Rattle.routines.proofs.Tests.{yes}

-- what is not above zero is below four
under : (n d : ℕ) → 0 < d → n ≤ 0 * d → n < 4 * d
under n d p l = omega arith

some : (n d : ℕ) → 0 < d → 0 < n + 4 * d
some n d p = omega arith

pub below-four : (x : Float) → le x zero ≡ true → lt x four ≡ true
unfolding lt le eq of_bits
below-four nan h = absurd (false≢true h)
below-four (inf true) h = refl
below-four (inf false) h = absurd (false≢true h)
below-four (fin true m e) h = lt-ltb 0 (m * up e * 1 + 4 * down e) (some (m * up e * 1) (down e) (down_pos e))
below-four (fin false m e) h =
    lt-ltb (m * up e * 1) (4 * down e)
    (under (m * up e * 1) (down e) (down_pos e)
    (⊎_elim (λ l. le_of_lt (ltb-true (m * up e * 1) (0 * down e) l))
    (λ l. le_of_eq (eqb→eq (m * up e * 1) (0 * down e) (and_l (eqb (m * up e * 1) (0 * down e)) true (yes l))))
    (or_split (ltb (m * up e * 1) (0 * down e)) (eqb (m * up e * 1) (0 * down e) && true) h)))

pub lgamma-with-is : (x : Float) → lgamma_with x (ln_of x) ≡ lgamma_of x
unfolding lgamma_with lgamma_of above_zero
lgamma-with-is x = go (lt x four) (le x zero) refl refl
  where
    go : (b z : Bool) → lt x four ≡ b → le x zero ≡ z
        → cond b (cond z (below_zero x) (above_zero x)) (stirling_of x)
        ≡ cond z (below_zero x) (above_zero x)
    go true z p q = refl
    go false true p q = absurd (false≢true (sym p ∙ below-four x q))
    go false false p q = rw (p)
