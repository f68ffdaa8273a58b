-- Step 2 far out: where |x| is at least 1099 octaves, `beyond x` meets the claim. It is +0 for a negative x, and +inf
-- else. Assumes nothing.
use Rattle.accuracy.proofs.Prelude.{◌≡◌, refl, sym, ap, ◌∙◌, subst, ◌⊎◌, inl, inr, Bool, true, false, not, cond}
use Rattle.accuracy.proofs.Prelude.{ℕ, suc, ◌+◌, ◌-◌, ◌*◌, ◌^◌, ◌≤◌, ◌<◌, arith, T, lit≤, lit<}
use native.Mathlib.Nat.{le_refl, le_trans, le_of_eq, mul_comm, mul-le-mul_right, mul_assoc, mul-zero, one-mul}
use lib.Ieee.{Float, inf, binary64, lt, le}
use Rattle.routines.specs.Constants.{zero as nought}
use Rattle.routines.specs.Exp.{out_of_range}
use Rattle.routines.proofs.Compared.{le_is}
use Rattle.accuracy.specs.Accuracy.{L, Is, shifted, slack, ulp, of_small, hundredths, ExpAtMost, ExpAtLeast, Answers}
use Rattle.accuracy.proofs.Steps.ValueAnswers.{ulp-one, finite, infinite}
use Rattle.accuracy.proofs.Euler.AsClaimed.{reshape}
use Rattle.accuracy.proofs.Steps.BesideOneAnswers.{Near, Huge}
use Rattle.accuracy.proofs.Steps.Octaves.{octave, far-out}
use Rattle.accuracy.proofs.Rounding.InUnits.{zero_is, holds, below-zero, not-below}

far-number : (suc (2 ^ 80) * (2 * L) ≤ 2 ^ 1099 * 2 ^ 80) × (suc (2 ^ 80) * 2 ^ 1024 ≤ 2 ^ 1099 * 2 ^ 80)
unfolding L
far-number = (lit≤ tt, lit≤ tt)

pub octave-pos : 0 < octave
unfolding octave
octave-pos = lit< tt

-- e ^ x is at most half a unit
pub tiny : (X : ℕ) → 1099 * octave ≤ X → ExpAtMost true X L 1 (2 * L)
tiny X h = reshape true X L (1 * suc (2 ^ 80)) (2 ^ 1099 * 2 ^ 80) 1 (2 * L) 1 (suc (2 ^ 80)) (lit< tt)
    (le_trans far-number.0 (le_of_eq (sym (one-mul (2 ^ 1099 * 2 ^ 80))))) (le_of_eq (turn (suc (2 ^ 80))))
    (far-out X h)
  where
    turn : (x : ℕ) → 1 * (1 * x) ≡ x * 1
    turn x = omega arith

at-least-nothing : (s : Bool) (X P Q : ℕ) → P ≡ 0 → ExpAtLeast s X L P Q
at-least-nothing s X P Q q n hn r = le_trans (le_of_eq (ap (λ (z : ℕ). shifted (not s) (L * n) X ^ n * z) q
    ∙ mul-zero (shifted (not s) (L * n) X ^ n))) (nothing (Q * (L * n) ^ n))
  where
    nothing : (x : ℕ) → 0 ≤ x
    nothing x = omega arith

far-zero : (X : ℕ) → 1099 * octave ≤ X → Near true X 0
far-zero X h = (
  record {
    under = reshape true X L 1 (2 * L) ((2 * 0 + slack 0) * 2 ^ 52) (2 * L * (2 ^ 52 - 1)) (2 ^ 52) 1
        (le_refl 1) (a (2 * L)) (lit≤ tt) (tiny X h);
    over =
        at-least-nothing true X ((2 * 0 - slack 0) * 2 ^ 52) (2 * L * suc (2 ^ 52)) refl;
  },
  record {
    under = reshape true X L 1 (2 * L) (100 * 0 + hundredths 0 * ulp 0) (100 * L) 50 1 (le_refl 1)
        (le_of_eq (b L)) fifty (tiny X h);
    over =
        at-least-nothing true X (100 * 0 - hundredths 0 * ulp 0) (100 * L) none;
  },
)
  where
    a : (l : ℕ) → 1 * (l * (2 ^ 52 - 1)) ≤ 2 ^ 52 * l
    a l = omega arith

    b : (l : ℕ) → 1 * (100 * l) ≡ 50 * (2 * l)
    b l = omega arith

    fifty : 50 * 1 ≤ 1 * (100 * 0 + hundredths 0 * ulp 0)
    fifty = subst (λ (u : ℕ). 50 * 1 ≤ 1 * (100 * 0 + of_small * u)) (sym (ulp-one 0 (lit≤ tt))) (lit≤ tt)

    none : 100 * 0 - hundredths 0 * ulp 0 ≡ 0
    none = ap (λ (u : ℕ). 100 * 0 - of_small * u) (ulp-one 0 (lit≤ tt))

far-inf : (X : ℕ) → 1099 * octave ≤ X → Huge false X
far-inf X h = reshape true X L (1 * suc (2 ^ 80)) (2 ^ 1099 * 2 ^ 80) (suc (2 ^ 52)) (2 ^ 1024 * 2 ^ 52) (2 ^ 52)
    (suc (2 ^ 80)) (lit< tt)
    (le_trans (le_of_eq (sym (mul_assoc (suc (2 ^ 80)) (2 ^ 1024) (2 ^ 52))))
    (le_trans (mul-le-mul_right (2 ^ 52) far-number.1) (le_of_eq (mul_comm (2 ^ 1099 * 2 ^ 80) (2 ^ 52)))))
    (lit≤ tt) (far-out X h)

pub out_of_range-answers : (x : Float) (s : Bool) (X : ℕ) → Is x s X → 1099 * octave ≤ X → Answers s X (out_of_range x)
unfolding out_of_range
out_of_range-answers x s X hx h = go (lt x nought) (below-zero x s X hx) (not-below x s X hx)
  where
    never : (o X : ℕ) → 0 < o → 1099 * o ≤ X → X ≡ 0 → ⊥
    never o X p h q = omega arith

    at_least : (b : Bool) → T b → s ≡ false → Answers s X (cond b (inf false) x)
    at_least true t q = infinite refl (subst (λ (z : Bool). Huge z X) (sym q) (far-inf X h))
    at_least false t q = absurd t

    nothing : (X : ℕ) → 0 ≤ X
    nothing X = omega arith

    up : s ≡ false → Answers s X (cond (le nought x) (inf false) x)
    up q = at_least (le nought x) ((le_is binary64 nought x 0 X (holds nought 0 zero_is)
        (holds x X (subst (λ (z : Bool). Is x z X) q hx))).1 (nothing X)) q

    down : s ≡ true → Answers s X nought
    down q = subst (λ (z : Bool). Answers z X nought) (sym q) (finite 0 zero_is (far-zero X h))

    go : (b : Bool) → (T b → s ≡ true) → (T (not b) → (s ≡ false) ⊎ (X ≡ 0))
        → Answers s X (cond b nought (cond (le nought x) (inf false) x))
    go true u w = down (u tt)
    go false u w = elim (w tt) [
      | inl q ↦ up q
      | inr q ↦ absurd (never octave X octave-pos h q)
    ]
