-- Step 8: where v meets the claim, `beside_one x v` does too. It is v, or it is 1 and no further from e ^ x.
-- Assumes nothing.
use Rattle.accuracy.proofs.Prelude.{◌≡◌, refl, sym, ap, ◌∙◌, subst, ◌⊎◌, inl, inr, Bool, true, false, not, cond}
use Rattle.accuracy.proofs.Prelude.{true≢false, ℕ, suc, ◌+◌, ◌-◌, ◌*◌, ◌^◌, ◌≤◌, ◌<◌, arith, T, leb, leb→le}
use Rattle.accuracy.proofs.Prelude.{lit≤, lit<}
use native.Mathlib.Nat.{le_refl, le_trans, le_of_eq, le_of_lt, not-le_of_lt, mul-le-mul, mul-le-mul_left}
use native.Mathlib.Nat.{mul-le-mul_right, le-add_right, sub-le}
use lib.Ieee.{Float, inf, lt, of_bits, size}
use Rattle.routines.specs.Held.{at_least, at_most}
use Rattle.routines.specs.Constants.{zero as nought, one}
use Rattle.routines.specs.Exp.{beside_one}
use Rattle.accuracy.specs.Accuracy.{L, Is, slack, ulp, of_small, of_normal, hundredths, ExpAtMost, ExpAtLeast}
use Rattle.accuracy.specs.Accuracy.{Within, InUlps, Answers}
use Rattle.accuracy.proofs.Steps.ValueAnswers.{by_size, ulp-one, finite, infinite}
use Rattle.accuracy.proofs.Euler.AsClaimed.{reshape, below_one, at_zero}
use Rattle.accuracy.proofs.Rounding.Binary64.{place-low}
use Rattle.accuracy.proofs.Rounding.InUnits.{one-is, zero_is, not-less, below-zero, not-below}
use Rattle.accuracy.proofs.Rounding.Spacing.{ulp-mono}

-- ---- the answer 1
slack-L : slack L ≡ 0
unfolding L
slack-L = refl

L-large : 2 ^ 52 < L
unfolding L
L-large = lit< tt

slack-none : (W : ℕ) → L ≤ W → slack W ≡ 0
slack-none W h = go (leb W (2 ^ 52)) (leb→le W (2 ^ 52))
  where
    go : (b : Bool) → (T b → W ≤ 2 ^ 52) → ◌≡◌ {A = ℕ} (cond b 1 0) 0
    go true u = absurd (not-le_of_lt L-large (le_trans h (u tt)))
    go false u = refl

slack-fits : (W : ℕ) → W ≤ L → 2 * W + slack W ≤ 2 * L
slack-fits W h = go (leb W (2 ^ 52)) (leb→le W (2 ^ 52))
  where
    one_more : (W L : ℕ) → 2 ^ 52 < L → W ≤ 2 ^ 52 → 2 * W + 1 ≤ 2 * L
    one_more W L h k = omega arith

    plain : (W L : ℕ) → W ≤ L → 2 * W + 0 ≤ 2 * L
    plain W L h = omega arith

    go : (b : Bool) → (T b → W ≤ 2 ^ 52) → 2 * W + cond b 1 0 ≤ 2 * L
    go true u = one_more W L L-large (u tt)
    go false u = plain W L h

-- the two lower bounds of W's claims, and the two upper ones
abbrev Low : Bool → ℕ → ℕ → Type 0
Low s X W = ExpAtMost s X L ((2 * W + slack W) * 2 ^ 52) (2 * L * (2 ^ 52 - 1)) × ExpAtMost s X L
    (100 * W + hundredths W * ulp W) (100 * L)

abbrev High : Bool → ℕ → ℕ → Type 0
High s X W = ExpAtLeast s X L ((2 * W - slack W) * 2 ^ 52) (2 * L * suc (2 ^ 52)) × ExpAtLeast s X L
    (100 * W - hundredths W * ulp W) (100 * L)

abbrev pub Near : Bool → ℕ → ℕ → Type 0
Near s X W = Within s X W (2 ^ 52) × InUlps s X W

lows : (s : Bool) (X W : ℕ) → Near s X W → Low s X W
lows s X W k = (k.0.under, k.1.under)

highs : (s : Bool) (X W : ℕ) → Near s X W → High s X W
highs s X W k = (k.0.over, k.1.over)

near : (s : Bool) (X W : ℕ) → Low s X W → High s X W → Near s X W
near s X W a b = (record { under = a.0; over = b.0 }, record { under = a.1; over = b.1 })

-- from e ^ x ≤ P / Q to a larger one
larger : (s : Bool) (X P Q P' Q' : ℕ) → Q' ≤ Q → P ≤ P' → ExpAtMost s X L P Q → ExpAtMost s X L P' Q'
larger s X P Q P' Q' h k = reshape s X L P Q P' Q' 1 1 (le_refl 1) (mul-le-mul_left 1 h) (mul-le-mul_left 1 k)

-- from e ^ x ≤ 1
pub over-one : (s : Bool) (X P Q : ℕ) → Q ≤ P → ExpAtMost s X L 1 1 → ExpAtMost s X L P Q
over-one s X P Q h = reshape s X L 1 1 P Q Q 1 (le_refl 1) (le_of_eq (a Q))
    (le_trans (le_of_eq (sym (a' Q))) (mul-le-mul_left 1 h))
  where
    a : (x : ℕ) → 1 * x ≡ x * 1
    a x = omega arith

    a' : (x : ℕ) → 1 * x ≡ x * 1
    a' x = omega arith

low-one : (s : Bool) (X : ℕ) → ExpAtMost s X L 1 1 → Low s X L
low-one s X h = (
  over-one s X ((2 * L + slack L) * 2 ^ 52) (2 * L * (2 ^ 52 - 1))
      (mul-le-mul (le-add_right (2 * L) (slack L)) (lit≤ tt)) h,
  over-one s X (100 * L + hundredths L * ulp L) (100 * L) (le-add_right (100 * L) (hundredths L * ulp L)) h,
)

high_one : (s : Bool) (X : ℕ) → ExpAtLeast s X L 1 1 → High s X L
high_one s X h = (
  over-one (not s) X (2 * L * suc (2 ^ 52)) ((2 * L - slack L) * 2 ^ 52)
      (mul-le-mul (sub-le (2 * L) (slack L)) (lit≤ tt)) h,
  over-one (not s) X (100 * L) (100 * L - hundredths L * ulp L) (sub-le (100 * L) (hundredths L * ulp L)) h,
)

-- ---- the places of 1 and of W
pub ulp-L : 2 ^ 52 * ulp L ≡ L
unfolding L size
ulp-L = refl

hundredths-L : hundredths L ≡ of_normal
unfolding L
hundredths-L = refl

-- up to 1
to_one : (W : ℕ) → W ≤ L → 100 * W + hundredths W * ulp W ≤ 100 * L + hundredths L * ulp L
to_one W h = by_size W (λ (z : ℕ) (c : ℕ). 100 * W + c * ulp W ≤ 100 * L + hundredths L * ulp L)
    (λ (g : W ≤ 2 ^ 52). subst (λ (u : ℕ). 100 * W + of_small * u ≤ 100 * L + hundredths L * ulp L) (sym (ulp-one W g))
    (few W L (hundredths L * ulp L) L-large g))
    (λ (g : 2 ^ 52 < W). subst (λ (c : ℕ). 100 * W + of_normal * ulp W ≤ 100 * L + c * ulp L) (sym hundredths-L)
    (many W L (ulp W) (ulp L) h (ulp-mono W L h)))
  where
    few : (W L z : ℕ) → 2 ^ 52 < L → W ≤ 2 ^ 52 → 100 * W + of_small * 1 ≤ 100 * L + z
    few W L z h k = omega arith

    many : (W L u v : ℕ) → W ≤ L → u ≤ v → 100 * W + of_normal * u ≤ 100 * L + of_normal * v
    many W L u v h k = omega arith

-- from 1 on
from-one-on : (W : ℕ) → L ≤ W → 100 * L - hundredths L * ulp L ≤ 100 * W - hundredths W * ulp W
from-one-on W h = by_size W (λ (z : ℕ) (c : ℕ). 100 * L - hundredths L * ulp L ≤ 100 * W - c * ulp W)
    (λ (g : W ≤ 2 ^ 52). absurd (not-le_of_lt L-large (le_trans h g)))
    (λ (g : 2 ^ 52 < W). subst (λ (c : ℕ). 100 * L - c * ulp L ≤ 100 * W - of_normal * ulp W) (sym hundredths-L)
    (many W L (ulp W) (ulp L) (place-low W (le_of_lt g)) ulp-L (ulp-mono L W h)))
  where
    many : (W L u v : ℕ) → 2 ^ 52 * u ≤ W → 2 ^ 52 * v ≡ L → v ≤ u → 100 * L - of_normal * v ≤ 100 * W - of_normal * u
    many W L u v h e k = omega arith

low-from : (s : Bool) (X W : ℕ) → W ≤ L → Low s X W → Low s X L
low-from s X W h k = (
  larger s X ((2 * W + slack W) * 2 ^ 52) (2 * L * (2 ^ 52 - 1)) ((2 * L + slack L) * 2 ^ 52) (2 * L * (2 ^ 52 - 1))
      (le_refl (2 * L * (2 ^ 52 - 1)))
      (mul-le-mul_right (2 ^ 52) (le_trans (slack-fits W h) (le-add_right (2 * L) (slack L)))) k.0,
  larger s X (100 * W + hundredths W * ulp W) (100 * L) (100 * L + hundredths L * ulp L) (100 * L) (le_refl (100 * L))
      (to_one W h) k.1,
)

high-from : (s : Bool) (X W : ℕ) → L ≤ W → High s X W → High s X L
high-from s X W h k = (
  larger (not s) X (2 * L * suc (2 ^ 52)) ((2 * W - slack W) * 2 ^ 52) (2 * L * suc (2 ^ 52))
      ((2 * L - slack L) * 2 ^ 52)
      (mul-le-mul_right (2 ^ 52) (subst (λ (z : ℕ). 2 * L - slack L ≤ 2 * W - z) (sym (slack-none W h))
      (subst (λ (z : ℕ). 2 * L - z ≤ 2 * W - 0) (sym slack-L) (twice L W h)))) (le_refl (2 * L * suc (2 ^ 52)))
      k.0,
  larger (not s) X (100 * L) (100 * W - hundredths W * ulp W) (100 * L) (100 * L - hundredths L * ulp L)
      (from-one-on W h) (le_refl (100 * L)) k.1,
)
  where
    twice : (L W : ℕ) → L ≤ W → 2 * L - 0 ≤ 2 * W - 0
    twice L W h = omega arith

-- e ^ x (1 + 2 ^ -52) ≥ 2 ^ 1024
abbrev pub Huge : Bool → ℕ → Type 0
Huge s X = ExpAtLeast s X L (2 ^ 1024 * 2 ^ 52) (suc (2 ^ 52))

huge-one : (s : Bool) (X : ℕ) → Huge s X → ExpAtLeast s X L 1 1
huge-one s X h = reshape (not s) X L (suc (2 ^ 52)) (2 ^ 1024 * 2 ^ 52) 1 1 1 (suc (2 ^ 52)) (lit< tt) (lit≤ tt)
    (lit≤ tt) h

-- ---- step 8
-- x < 0: v held to 0 and above, and to 1 and below
floor-zero : (v : Float) (W : ℕ) → Is v false W → Is (at_least v nought) false W
unfolding at_least
floor-zero v W h = go (lt nought v) (not-less nought v 0 W zero_is h)
  where
    none : (W : ℕ) → W ≤ 0 → 0 ≡ W
    none W h = omega arith

    go : (b : Bool) → (T (not b) → W ≤ 0) → Is (cond b v nought) false W
    go true u = h
    go false u = subst (λ (z : ℕ). Is nought false z) (none W (u tt)) zero_is

held_down : (X W : ℕ) (v : Float) → Is v false W → Near true X W → Answers true X (at_most v one)
unfolding at_most
held_down X W v h k = go (lt v one) (not-less v one W L h one-is)
  where
    go : (b : Bool) → (T (not b) → L ≤ W) → Answers true X (cond b v one)
    go true u = finite W h k
    go false u = finite L one-is
        (near true X L (low-one true X (below_one X L)) (high-from true X W (u tt) (highs true X W k)))

inf-down : at_most (at_least (inf false) nought) one ≡ one
unfolding at_most at_least lt of_bits
inf-down = refl

-- otherwise: v held to 1 and above
held_up : (s : Bool) (X W : ℕ) (v : Float) → ExpAtLeast s X L 1 1 → Is v false W → Near s X W
    → Answers s X (at_least v one)
unfolding at_least
held_up s X W v l h k = go (lt one v) (not-less one v L W one-is h)
  where
    go : (b : Bool) → (T (not b) → W ≤ L) → Answers s X (cond b v one)
    go true u = finite W h k
    go false u = finite L one-is (near s X L (low-from s X W (u tt) (lows s X W k)) (high_one s X l))

pub inf-up : at_least (inf false) one ≡ inf false
unfolding at_least lt of_bits
inf-up = refl

pub from_one : (s : Bool) (X : ℕ) → (s ≡ false) ⊎ (X ≡ 0) → ExpAtLeast s X L 1 1
from_one false X h = below_one X L
from_one true X (inl q) = absurd (true≢false q)
from_one true X (inr q) = subst (λ (z : ℕ). ExpAtMost false z L 1 1) (sym q) (at_zero L)

on-the-left : (X : ℕ) (v : Float) → Answers true X v → Answers true X (at_most (at_least v nought) one)
on-the-left X v (inl a) = held_down X a.W (at_least v nought) (floor-zero v a.W a.is) (a.part, a.place)
on-the-left X v (inr a) =
    subst (λ (z : Float). Answers true X z)
    (sym (ap (λ (z : Float). at_most (at_least z nought) one) a.is ∙ inf-down))
    (finite L one-is (near true X L (low-one true X (below_one X L))
    (high_one true X (huge-one true X a.huge))))

on-the-right : (s : Bool) (X : ℕ) (v : Float) → ExpAtLeast s X L 1 1 → Answers s X v → Answers s X (at_least v one)
on-the-right s X v l (inl a) = held_up s X a.W v l a.is (a.part, a.place)
on-the-right s X v l (inr a) = infinite (ap (λ (z : Float). at_least z one) a.is ∙ inf-up) a.huge

-- THE STEP
pub beside-answers : (x : Float) (s : Bool) (X : ℕ) → Is x s X → (v : Float) → Answers s X v
    → Answers s X (beside_one x v)
unfolding beside_one
beside-answers x s X hx v a = go (lt x nought) (below-zero x s X hx) (not-below x s X hx)
  where
    left : s ≡ true → Answers s X (at_most (at_least v nought) one)
    left q = subst (λ (z : Bool). Answers z X (at_most (at_least v nought) one)) (sym q)
        (on-the-left X v (subst (λ (z : Bool). Answers z X v) q a))

    go : (b : Bool) → (T b → s ≡ true) → (T (not b) → (s ≡ false) ⊎ (X ≡ 0))
        → Answers s X (cond b (at_most (at_least v nought) one) (at_least v one))
    go true u w = left (u tt)
    go false u w = on-the-right s X v (from_one s X (w tt)) a
