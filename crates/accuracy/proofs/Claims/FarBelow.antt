-- Below -40 exp is at most 2 ^ -54, since e ^ 40 is more than 2 ^ 57. Assumes nothing.
use Rattle.accuracy.proofs.Prelude.{◌≡◌, refl, sym, ◌∙◌, subst, inl, inr, Bool, true, false, ℕ, suc, ◌-◌, ◌*◌}
use Rattle.accuracy.proofs.Prelude.{◌^◌, ◌≤◌, ◌<◌, arith, T, ltb→lt, lit≤, lit<}
use native.Mathlib.Nat.{sub-add_cancel, le_trans, le_of_eq, le_of_lt, lt_of_le_of_lt, lt_of_lt_of_le, mul_comm}
use native.Mathlib.Nat.{mul-le-mul_right}
use native.Mathlib.Nat.{le_of_mul-le-mul_left, lt_of_mul-lt-mul_right, mul-lt-mul_of_pos_right}
use lib.Ieee.{Float, nan, inf, fin, binary64, up, down, lt, le, of_bits, fits}
use lib.Ieee.Order.{le_of_values}
use Rattle.routines.specs.Exp.{exp_of}
use Rattle.routines.proofs.AnnexF.{exp-minus-inf}
use Rattle.accuracy.specs.Accuracy.{L, Is, ExpAtMost, ExpAtLeast, Within, Answers}
use Rattle.accuracy.specs.Far.{MINUS40, TINY}
use Rattle.accuracy.proofs.Euler.Bounds.{Below}
use Rattle.accuracy.proofs.Euler.EveryN.{lowered}
use Rattle.accuracy.proofs.Rounding.Binary64.{L-pos}
use Rattle.accuracy.proofs.Euler.AsClaimed.{below_one}
use Rattle.accuracy.proofs.Steps.ValueAnswers.{by_size}
use Rattle.accuracy.proofs.Claims.BoundsAgree.{bounds-agree}
use Rattle.accuracy.proofs.Claims.ExpAccurate.{exp-answers}
use Rattle.accuracy.proofs.Claims.StepEightChangesNothing.{no-infinity}
use Rattle.accuracy.proofs.Euler.Powers.{below-stretch}
use Rattle.accuracy.proofs.Euler.Weaker.{below_more}
use Rattle.accuracy.proofs.Rounding.InUnits.{units_of}

-- ---- e ^ 40 is more than 2 ^ 57: Euler's (1 + 40 / n) ^ n is, at n = 1700
abbrev top : ℕ
top = 2 ^ 57 * suc (2 ^ 50)

euler-40 : Below 40 1 top (2 ^ 50)
euler-40 = (1700, lit< tt, lit≤ tt)

-- e ^ x ≤ 2 ^ 50 / top for x = -X / L, from X = 40 L on
below-forty : (X : ℕ) → 40 * L ≤ X → ExpAtMost true X L (2 ^ 50) top
below-forty X h n hn r =
    let wide : Below (40 * L) (1 * L) top (2 ^ 50) = below-stretch 40 1 top (2 ^ 50) L euler-40 in
    let forty : Below (40 * L) L top (2 ^ 50) = subst (λ (c : ℕ). Below (40 * L) c top (2 ^ 50)) (once L) wide in
    le_trans (le_of_eq (mul_comm ((L * n - X) ^ n) top))
    (lowered X L top (2 ^ 50) n (L * n - X) L-pos hn (sub-add_cancel r) (below_more (40 * L) X L top (2 ^ 50) h forty))
  where
    once : (x : ℕ) → 1 * x ≡ x
    once x = omega arith

-- ---- x < -40
forty-is : (x : Float) (s : Bool) (X : ℕ) → Is x s X → T (lt x MINUS40) → (s ≡ true) × (40 * L < X)
unfolding lt of_bits
forty-is nan s X h t = absurd h
forty-is (inf u) s X h t = absurd h
forty-is (fin false m e) s X h t = absurd t
forty-is (fin true m e) s X h t =
    let l : 40 * down e < m * up e * 1 = ltb→lt (40 * down e) (m * up e * 1) t in
    let k : 40 * down e * L < X * down e =
    lt_of_lt_of_le (mul-lt-mul_of_pos_right l L-pos) (le_of_eq (once (m * up e) L ∙ h.1)) in
    (sym h.0, lt_of_mul-lt-mul_right (down e) (lt_of_le_of_lt (le_of_eq (swap L (down e))) k))
  where
    swap : (l d : ℕ) → 40 * l * d ≡ 40 * d * l
    swap l d = omega arith

    once : (x l : ℕ) → x * 1 * l ≡ x * l
    once x l = omega arith

-- ---- W units, 2 ^ -57 at most
L-wide : 2 ^ 52 * 2 ^ 57 ≤ L
unfolding L
L-wide = lit≤ tt

numbers : 2 * (suc (2 ^ 52) * 2 ^ 50) ≤ 2 * (2 ^ 52 * suc (2 ^ 50))
numbers = lit≤ tt

cancelled : (W L : ℕ) → (2 * W - 0) * 2 ^ 52 * top ≤ 2 * L * suc (2 ^ 52) * 2 ^ 50 → W * 2 ^ 57 ≤ L
cancelled W L h =
    let k : 2 * (2 ^ 52 * suc (2 ^ 50)) * (W * 2 ^ 57) ≤ 2 * (suc (2 ^ 52) * 2 ^ 50) * L =
    le_trans (le_of_eq (left W (2 ^ 52) (2 ^ 57) (suc (2 ^ 50))))
    (le_trans h (le_of_eq (right L (suc (2 ^ 52)) (2 ^ 50)))) in
    le_of_mul-le-mul_left (le_trans k (mul-le-mul_right L numbers)) (lit< {m = 0} {n = 2 * (2 ^ 52 * suc (2 ^ 50))} tt)
  where
    left : (W a b c : ℕ) → 2 * (a * c) * (W * b) ≡ (2 * W - 0) * a * (b * c)
    left W a b c = subst (λ (z : ℕ). 2 * (a * c) * (W * b) ≡ z * a * (b * c)) (plain (2 * W)) (moved W a b c)
      where
        plain : (x : ℕ) → x ≡ x - 0
        plain x = omega arith

        moved : (W a b c : ℕ) → 2 * (a * c) * (W * b) ≡ 2 * W * a * (b * c)
        moved W a b c = omega arith

    right : (L a b : ℕ) → 2 * L * a * b ≡ 2 * (a * b) * L
    right L a b = omega arith

small : (X W : ℕ) → 40 * L ≤ X → Within true X W (2 ^ 52) → W * 2 ^ 57 ≤ L
small X W h k = by_size W (λ (z : ℕ) (c : ℕ). Claim z → W * 2 ^ 57 ≤ L) few many k.over
  where
    Claim : ℕ → Type 0
    Claim z = ExpAtLeast true X L ((2 * W - z) * 2 ^ 52) (2 * L * suc (2 ^ 52))

    few : W ≤ 2 ^ 52 → Claim 1 → W * 2 ^ 57 ≤ L
    few g l = le_trans (mul-le-mul_right (2 ^ 57) g) L-wide

    many : 2 ^ 52 < W → Claim 0 → W * 2 ^ 57 ≤ L
    many g l =
        cancelled W L
        (bounds-agree true X L ((2 * W - 0) * 2 ^ 52) (2 * L * suc (2 ^ 52)) (2 ^ 50) top L-pos l (below-forty X h))

-- v is at most 2 ^ -57
abbrev pub Far : Float → Type 0
Far v = (W : ℕ) × Is v false W × (W * 2 ^ 57 ≤ L)

far-finite : (x : Float) (s : Bool) (X : ℕ) → Is x s X → T (lt x MINUS40) → Far (exp_of x)
far-finite x s X h t =
    let (q, l) = forty-is x s X h t in
    go (le_of_lt l) (subst (λ (z : Bool). Answers z X (exp_of x)) q (exp-answers x s X h))
  where
    go : 40 * L ≤ X → Answers true X (exp_of x) → Far (exp_of x)
    go l (inl a) = (a.W, a.is, small X a.W l a.part)
    go l (inr a) = absurd (no-infinity true X a.huge (below_one X L))

-- ---- every double below -40: -inf has the value 0
pub far-units : (x : Float) → T (fits binary64 x) → T (lt x MINUS40) → Far (exp_of x)
unfolding lt of_bits
far-units nan f t = absurd t
far-units (inf false) f t = absurd t
far-units (inf true) f t = (0, subst (λ (z : Float). Is z false 0) (sym exp-minus-inf) (refl, none L), nothing L)
  where
    none : (l : ℕ) → 0 * l ≡ 0
    none l = omega arith

    nothing : (l : ℕ) → 0 * 2 ^ 57 ≤ l
    nothing l = omega arith
far-units (fin s m e) f t = let (r, X, h) = units_of (fin s m e) f tt in far-finite (fin s m e) r X h t

-- ---- against 2 ^ -54
tiny-is : Is TINY false (2 ^ 1020)
unfolding L of_bits
tiny-is = (refl, refl)

L-tiny : L ≡ 2 ^ 1020 * 2 ^ 54
unfolding L
L-tiny = refl

-- THE BOUND, for every double below -40, -inf too
pub far-below : (x : Float) → T (fits binary64 x) → T (lt x MINUS40) → T (le (exp_of x) TINY)
far-below x f t =
    let (W, h, l) = far-units x f t in
    le_of_values (exp_of x) TINY W L (2 ^ 1020) L L-pos L-pos h tiny-is (mul-le-mul_right L (flat W (2 ^ 1020) L l L-tiny))
  where
    flat : (W t L : ℕ) → W * 2 ^ 57 ≤ L → L ≡ t * 2 ^ 54 → W ≤ t
    flat W t L h e = omega arith
