-- A double of 1 or more stays as it is when exp of less than -40 is added to it: that is less than half of its ulp.
-- Assumes nothing.
use Rattle.accuracy.proofs.Prelude.{◌≡◌, refl, sym, ap, ◌∙◌, subst, Bool, true, false, true≢false, ℕ, suc, ◌+◌}
use Rattle.accuracy.proofs.Prelude.{◌-◌, ◌*◌, ◌/◌, ◌^◌, ◌≤◌, ◌<◌, arith, T, lit<, pow_pos}
use native.Mathlib.Nat.{le_of_eq, le_trans, le_antisymm, lt_of_lt_of_le, lt_of_le_of_lt, le_of_mul-le-mul_left}
use native.Mathlib.Nat.{lt_of_mul-lt-mul_right}
use native.Mathlib.Nat.{mul-div_cancel, mul-pos}
use lib.IntN.{ℤ}
use lib.Ieee.{Float, nan, inf, fin, binary64, up, down, round, add, lt, le, of_bits, fits, size}
use lib.Ieee.Fits.{round-fits, down_pos}
use lib.Ieee.Digits.{size-lt, size-le}
use lib.Ieee.Order.{drop, kept}
use lib.Ieee.Positive.{positive, above_of_le}
use lib.Ieee.Scale.{grid, round_same as rounds-same, round_val}
use Rattle.routines.specs.Constants.{one}
use Rattle.routines.specs.Exp.{exp_of}
use Rattle.routines.specs.Units.{units_of}
use Rattle.routines.proofs.Rounding.{Half, scaled, rounded, rounded-off}
use Rattle.routines.proofs.Values.{has-units}
use Rattle.routines.proofs.Compared.{le_is}
use Rattle.routines.proofs.Commutes.{add_commutes}
use Rattle.accuracy.specs.Accuracy.{L, Is, ulp}
use Rattle.accuracy.specs.Faithful.{Double}
use Rattle.accuracy.specs.Far.{MINUS40}
use Rattle.accuracy.proofs.Rounding.AnyFormat.{Sg, add_is}
use Rattle.accuracy.proofs.Rounding.Binary64.{L-pos, pair_of}
use Rattle.accuracy.proofs.Rounding.TimesPowerOfTwo.{digits_of}
use Rattle.accuracy.proofs.Steps.BesideOneAnswers.{ulp-L}
use Rattle.accuracy.proofs.Rounding.Spacing.{Digits, Multiple, power-digits, multiple, gap-above, size_mono}
use Rattle.accuracy.proofs.Rounding.Spacing.{ulp-mono}
use Rattle.accuracy.proofs.Claims.StepEightChangesNothing.{same-double, one-fits}
use Rattle.accuracy.proofs.Claims.ExpFaithful.{under_top, top-power}
use Rattle.accuracy.proofs.Claims.FarBelow.{Far, far-units}
use Rattle.accuracy.proofs.Rounding.InUnits.{one-is, holds}

-- ---- S + W units, rounded, are S units, where W is less than half an ulp of S
-- S + W has as many digits as S
same_size : (S W : ℕ) → Digits S → W < ulp S → size (S + W) ≡ size S
same_size S W d h =
    let room : S + ulp S ≤ 2 ^ size S = gap-above S (2 ^ size S) d (power-digits (size S)) (size-lt S) in
    le_antisymm (size-le (S + W) (size S) (under S W (ulp S) (2 ^ size S) h room)) (size_mono S (S + W) (more S W))
  where
    under : (S W u p : ℕ) → W < u → S + u ≤ p → S + W < p
    under S W u p h k = omega arith

    more : (S W : ℕ) → S ≤ S + W
    more S W = omega arith

-- two multiples of u that are less than u apart
same-multiple : (k q u : ℕ) → k * u < q * u + u → q * u < k * u + u → k ≡ q
same-multiple k q u a b = le_antisymm (step k q u a) (step q k u b)
  where
    next : (b u : ℕ) → b * u + u ≡ suc b * u
    next b u = omega arith

    flat : (a b : ℕ) → a < suc b → a ≤ b
    flat a b h = omega arith

    step : (a b u : ℕ) → a * u < b * u + u → a ≤ b
    step a b u h = flat a b (lt_of_mul-lt-mul_right u (lt_of_lt_of_le h (le_of_eq (next b u))))

-- over L, as the rounding has it
unscaled : (x n u L : ℕ) → 0 < L → Half (x * L) (n * L) (L * u) → Half x n u
unscaled x n u L p h = (side x n u L p h.0, side n x u L p h.1)
  where
    flat : (x n u L : ℕ) → x * L * 2 ≤ n * L * 2 + L * u → L * (x * 2) ≤ L * (n * 2 + u)
    flat x n u L h = omega arith

    side : (x n u L : ℕ) → 0 < L → x * L * 2 ≤ n * L * 2 + L * u → x * 2 ≤ n * 2 + u
    side x n u L p h = le_of_mul-le-mul_left (flat x n u L h) p

-- the multiple of u that is nearest to S + W is S
nearest : (k u S W : ℕ) → Multiple u S → 2 * W < u → Half (k * u) (S + W) u → k * u ≡ S
nearest k u S W (q, e) l h =
    let a : k * u < q * u + u = low (k * u) (q * u) u S W e l h.0 in
    let b : q * u < k * u + u = high (k * u) (q * u) u S W e l h.1 in
    ap (λ (z : ℕ). z * u) (same-multiple k q u a b) ∙ sym e
  where
    low : (x y u S W : ℕ) → S ≡ y → 2 * W < u → x * 2 ≤ (S + W) * 2 + u → x < y + u
    low x y u S W e l h = omega arith

    high : (x y u S W : ℕ) → S ≡ y → 2 * W < u → (S + W) * 2 ≤ x * 2 + u → y < x + u
    high x y u S W e l h = omega arith

grid-same : (S W : ℕ) → Digits S → 2 * W < ulp S → grid binary64 (S + W) L ≡ S
unfolding L
grid-same S W d h =
    let n = (S + W) * L in
    let k = kept 53 n L in
    let digits : size (n / L) ≡ size S = ap size (mul-div_cancel (S + W) L-pos) ∙ same_size S W d (once W (ulp S) h) in
    let e : drop 53 n L ≡ size S - 53 = ap (λ (z : ℕ). z - 53) digits in
    let half : Half (k * ulp S * L) n (L * ulp S) =
    subst (λ (j : ℕ). Half (k * 2 ^ j * L) n (L * 2 ^ j)) e (scaled binary64 (S + W) L L-pos) in
    ap (λ (j : ℕ). k * 2 ^ j) e
    ∙ nearest k (ulp S) S W (multiple S d) h (unscaled (k * ulp S) (S + W) (ulp S) L L-pos half)
  where
    once : (W u : ℕ) → 2 * W < u → W < u
    once W u h = omega arith

-- ---- the sum of a double of S units, 1 or more, and of a value y of W units, 2 ^ -54 or less
small : (S W : ℕ) → L ≤ S → W * 2 ^ 54 ≤ L → 2 * W < ulp S
small S W h k = flat W L (ulp L) (ulp S) k ulp-L (pow_pos (size L - 53)) (ulp-mono L S h)
  where
    flat : (W L u v : ℕ) → W * 2 ^ 54 ≤ L → 2 ^ 52 * u ≡ L → 0 < u → u ≤ v → 2 * W < v
    flat W L u v k e p h = omega arith

round_same : (s : Float) (S W : ℕ) → Double s S → L ≤ S → W * 2 ^ 54 ≤ L → round binary64 false (S + W) L ≡ s
unfolding L
round_same s S W d l k =
    let r = round binary64 false (S + W) L in
    let g : grid binary64 (S + W) L ≡ S = grid-same S W (digits_of s S d.0 d.1) (small S W l k) in
    let top : S < 2 ^ 2098 = lt_of_lt_of_le (under_top s S d) (le_of_eq top-power) in
    let v : Is r false (grid binary64 (S + W) L) =
    round_val binary64 (S + W) L (subst (λ (z : ℕ). z < 2 ^ 2098) (sym g) top) in
    same-double r s S (round-fits binary64 false (S + W) L, subst (λ (z : ℕ). Is r false z) g v) d

add-finite : (s y : Float) (S W : ℕ) → Double s S → Is y false W → L ≤ S → W * 2 ^ 54 ≤ L → add binary64 s y ≡ s
unfolding L
add-finite s y S W d k l m =
    let (r, n, q, g) = add_is binary64 s y S 0 W 0 (pair_of s false S d.1) (pair_of y false W k) in
    q ∙ go r n g
  where
    only : (S W n : ℕ) → S + W ≡ 0 + 0 + n → n ≡ S + W
    only S W n e = omega arith

    never : (L S W n : ℕ) → 0 < L → L ≤ S → 0 + 0 ≡ S + W + n → ⊥
    never L S W n p l e = omega arith

    go : (r : Bool) (n : ℕ) → Sg r n (S + W) (0 + 0) → round binary64 r n L ≡ s
    go false n g = ap (λ (z : ℕ). round binary64 false z L) (only S W n g) ∙ round_same s S W d l m
    go true n g = absurd (never L S W n L-pos l g)

add-infinite : (y : Float) (W : ℕ) → Is y false W → add binary64 (inf false) y ≡ inf false
unfolding add
add-infinite nan W h = absurd h
add-infinite (inf t) W h = absurd h
add-infinite (fin t m e) W h = refl

-- ---- s is at least 1: +inf, or L units and more
one-positive : T (positive one)
unfolding of_bits
one-positive = tt

own : (m : ℕ) (e : ℤ) → T (fits binary64 (fin false m e)) → Is (fin false m e) false (units_of (fin false m e))
unfolding L
own m e f = (refl, has-units binary64 (fin false m e) f tt)

abbrev Slight : Float → Type 0
Slight v = (W : ℕ) × Is v false W × (W * 2 ^ 54 ≤ L)

far-slight : (v : Float) → Far v → Slight v
far-slight v (W, h, k) = (W, h, flat W L k)
  where
    flat : (W L : ℕ) → W * 2 ^ 57 ≤ L → W * 2 ^ 54 ≤ L
    flat W L h = omega arith

add_small : (s y : Float) → T (fits binary64 s) → T (le one s) → Slight y → add binary64 s y ≡ s
add_small nan y f l z = absurd (above_of_le one nan one-positive l)
add_small (inf true) y f l z = absurd (above_of_le one (inf true) one-positive l)
add_small (inf false) y f l (W, h, k) = add-infinite y W h
add_small (fin true m e) y f l z = absurd (above_of_le one (fin true m e) one-positive l)
add_small (fin false m e) y f l (W, h, k) =
    let s = fin false m e in
    let d : Double s (units_of s) = (f, own m e f) in
    let least : L ≤ units_of s =
    (le_is binary64 one s L (units_of s) (holds one L one-is) (holds s (units_of s) d.1)).0 l in
    add-finite s y (units_of s) W d h least k

-- THE LAW: for every double x below -40 and every double s of 1 or more, -inf and +inf too
pub absorbed : (x s : Float) → T (fits binary64 x) → T (fits binary64 s) → T (lt x MINUS40) → T (le one s)
    → add binary64 s (exp_of x) ≡ s
absorbed x s f g t l = add_small s (exp_of x) g l (far-slight (exp_of x) (far-units x f t))

-- and the other way round
pub absorbed-first : (x s : Float) → T (fits binary64 x) → T (fits binary64 s) → T (lt x MINUS40) → T (le one s)
    → add binary64 (exp_of x) s ≡ s
absorbed-first x s f g t l = add_commutes binary64 (exp_of x) s ∙ absorbed x s f g t l

-- ---- two of them, added to each other and then to 1
add-opened : (m : ℕ) (e : ℤ) (n : ℕ) (d : ℤ) → add binary64 (fin false m e) (fin false n d)
    ≡ round binary64 false (m * up e * down d + n * up d * down e) (down e * down d)
unfolding add
add-opened m e n d = refl

add-plain : (u v : Float) (A B : ℕ) → Is u false A → Is v false B → add binary64 u v ≡ round binary64 false (A + B) L
add-plain nan v A B h k = absurd h
add-plain (inf s) v A B h k = absurd h
add-plain (fin s m e) nan A B h k = absurd k
add-plain (fin s m e) (inf t) A B h k = absurd k
add-plain (fin true m e) (fin t n d) A B h k = absurd (true≢false h.0)
add-plain (fin false m e) (fin true n d) A B h k = absurd (true≢false k.0)
add-plain (fin false m e) (fin false n d) A B h k =
    add-opened m e n d
    ∙ rounds-same binary64 false (m * up e * down d + n * up d * down e) (down e * down d) (A + B) L
    (mul-pos (down_pos e) (down_pos d)) L-pos (turn (m * up e) (n * up d) (down e) (down d) A B L h.1 k.1)
  where
    turn : (x y u v A B L : ℕ) → x * L ≡ A * u → y * L ≡ B * v → (x * v + y * u) * L ≡ (A + B) * (u * v)
    turn x y u v A B L h k =
        let a : x * L * v ≡ A * u * v = ap (λ (z : ℕ). z * v) h in
        let b : y * L * u ≡ B * v * u = ap (λ (z : ℕ). z * u) k in
        omega arith

sum-slight : (u v : Float) → Far u → Far v → Slight (add binary64 u v)
unfolding L rounded
sum-slight u v (A, h, k) (B, i, l) =
    let n = A + B in
    let g = grid binary64 n L in
    let twice : g ≤ n * 2 = halved g n (rounded-off binary64 n).0 in
    let least : g * 2 ^ 54 ≤ L = few g A B L k l twice in
    let top : g < 2 ^ 2098 = lt_of_le_of_lt (le_trans (once g) least) (lit< tt) in
    (g, subst (λ (z : Float). Is z false g) (sym (add-plain u v A B h i)) (round_val binary64 n L top), least)
  where
    halved : (g n : ℕ) → g * 2 ^ 53 ≤ n * 2 ^ 53 + n → g ≤ n * 2
    halved g n h = omega arith

    few : (g A B L : ℕ) → A * 2 ^ 57 ≤ L → B * 2 ^ 57 ≤ L → g ≤ (A + B) * 2 → g * 2 ^ 54 ≤ L
    few g A B L k l h = omega arith

    once : (g : ℕ) → g ≤ g * 2 ^ 54
    once g = omega arith

one-reached : T (le one one)
unfolding le of_bits
one-reached = tt

-- for all doubles x and y below -40
pub absorbed-two : (x y : Float) → T (fits binary64 x) → T (fits binary64 y) → T (lt x MINUS40) → T (lt y MINUS40)
    → add binary64 (add binary64 (exp_of x) (exp_of y)) one ≡ one
absorbed-two x y f g t u =
    let both = add binary64 (exp_of x) (exp_of y) in
    add_commutes binary64 both one
    ∙ add_small one both one-fits one-reached (sum-slight (exp_of x) (exp_of y) (far-units x f t) (far-units y g u))
