-- A difference v - t with t not negative is not above v, rounding and all; and what is below it is below v.
-- Assumes nothing.
use Rattle.std.proofs.Common.{◌≡◌, ℕ, zero, suc, ◌+◌, ◌-◌, ◌*◌, ◌<◌, ◌≤◌, Bool, true, false, cond, T, ltb, ℤ, refl}
use Rattle.std.proofs.Common.{ap, ◌∙◌, subst, true≢false, mul-le-mul_right, zero-lt-suc, lt_of_mul-lt-mul_right}
use Rattle.std.proofs.Common.{mul-lt-mul_of_pos_right, mul-pos, zero-mul, arith, ltb-false, ltb-true, le-ltb, lt-ltb}
use mathlib.Core.Bool.{false≢true}
use lib.Ieee.{Float, nan, inf, fin, binary64, up, down, below, sum, neg, lt, le, add, sub, round, fits}
use lib.Ieee.Fits.{down_pos}
use lib.Ieee.Order.{round_mono}
use lib.Ieee.Positive.{first_pos}
use Rattle.routines.proofs.Patterns.{rounded-are}
use Rattle.routines.proofs.Products.{own-size, up_from, down_to, finite-below}
use Rattle.routines.proofs.Sizes.{neg-round}

-- ---- v - t against v
module _ (m : ℕ) (e : ℤ) (n : ℕ) (d : ℤ) where
  abbrev own : ℕ
  own = m * up e * down d

  abbrev less : ℕ
  less = n * up d * down e

  abbrev all : ℕ
  all = down e * down d

  abbrev x0 : Float
  x0 = round binary64 false (m * up e) (down e)

  all-pos : 0 < all
  all-pos = mul-pos (down_pos e) (down_pos d)

  -- a negative v goes further from 0
  from-below : T (fits binary64 (fin true m e)) → lt (fin true m e) (round binary64 true (own + less) all) ≡ false
  from-below F =
      subst (λ (r : Float). lt (fin true m e) r ≡ false) (neg-round binary64 (own + less) all) (at-neg further)
    where
      grows : (a b c k : ℕ) → a * (b * c) ≤ (a * c + k) * b
      grows a b c k = let h : a * (b * c) + k * b ≡ (a * c + k) * b = omega arith in omega arith

      further : T (le x0 (round binary64 false (own + less) all))
      further =
          round_mono binary64 (m * up e) (down e) (own + less) all (down_pos e) all-pos
          (grows (m * up e) (down e) (down d) less)

      at-neg : T (le x0 (round binary64 false (own + less) all))
          → lt (fin true m e) (neg (round binary64 false (own + less) all)) ≡ false
      at-neg =
          rounded-are binary64 false (own + less) all
          (λ (r : Float). T (le x0 r) → lt (fin true m e) (neg r) ≡ false)
          (λ t. unfold lt neg in refl)
          (λ (k : ℕ) (g : ℤ) (t : T (le x0 (fin false k g))). unfold lt neg in le-ltb (k * up g * down e)
          (m * up e * down g) (up_from m e x0 (own-size true m e F) (fin false k g) t k g refl))

  -- a positive v comes nearer to 0
  from-above : T (fits binary64 (fin false m e)) → lt (fin false m e) (round binary64 false (own - less) all) ≡ false
  from-above F = at_size nearer
    where
      shrinks : (a b c k : ℕ) → (a * c - k) * b ≤ a * (b * c)
      shrinks a b c k =
          let h : (a * c - k) * b ≤ a * c * b = mul-le-mul_right b (fewer (a * c) k) in
          let e : a * c * b ≡ a * (b * c) = omega arith in
          omega arith
        where
          fewer : (x y : ℕ) → x - y ≤ x
          fewer x y = omega arith

      nearer : T (le (round binary64 false (own - less) all) x0)
      nearer =
          round_mono binary64 (own - less) all (m * up e) (down e) all-pos (down_pos e)
          (shrinks (m * up e) (down e) (down d) less)

      at_size : T (le (round binary64 false (own - less) all) x0)
          → lt (fin false m e) (round binary64 false (own - less) all) ≡ false
      at_size =
          rounded-are binary64 false (own - less) all
          (λ (r : Float). T (le r x0) → lt (fin false m e) r ≡ false)
          (λ (t : T (le (inf false) x0)). absurd (finite-below m e x0 (own-size false m e F) (inf false) t refl))
          (λ (k : ℕ) (g : ℤ) (t : T (le (fin false k g) x0)). unfold lt in le-ltb (m * up e * down g)
          (k * up g * down e) (down_to m e x0 (own-size false m e F) (fin false k g) t k g refl))

  -- it passes 0
  past-zero : lt (fin false m e) (round binary64 true (less - own) all) ≡ false
  past-zero =
      rounded-are binary64 true (less - own) all (λ (r : Float). lt (fin false m e) r ≡ false) (unfold lt in refl)
      (λ (k : ℕ) (g : ℤ). unfold lt in refl)

  pub not-above : (s : Bool) → T (fits binary64 (fin s m e))
      → lt (fin s m e) (sub binary64 (fin s m e) (fin false n d)) ≡ false
  unfolding sub add neg sum
  not-above true F = from-below F
  not-above false F = go (ltb own less)
    where
      go : (b : Bool)
          → lt (fin false m e) (cond b (round binary64 true (less - own) all) (round binary64 false (own - less) all)) ≡ false
      go true = past-zero
      go false = from-above F

-- ---- x below r, and r not above y: x is below y
none : (a b : ℕ) → 0 < b → a * b ≤ 0 → a ≡ 0
none zero b B h = refl
none (suc a) b B h = absurd (let p : 0 < suc a * b = mul-pos (zero-lt-suc a) B in omega arith)

-- three fractions X / E, K / G and N / D
module _ (X E K G N D : ℕ) (HE : 0 < E) (HG : 0 < G) (HD : 0 < D) where
  upward : X * G < K * E → K * D ≤ N * G → X * D < N * E
  upward h k =
      let p : X * G * D < K * E * D = mul-lt-mul_of_pos_right h HD in
      let q : K * D * E ≤ N * G * E = mul-le-mul_right E k in
      let r : X * D * G < N * E * G = omega arith in
      lt_of_mul-lt-mul_right G r

  downward : K * E < X * G → N * G ≤ K * D → N * E < X * D
  downward h k =
      let p : K * E * D < X * G * D = mul-lt-mul_of_pos_right h HD in
      let q : N * G * E ≤ K * D * E = mul-le-mul_right E k in
      let r : N * E * G < X * D * G = omega arith in
      lt_of_mul-lt-mul_right G r

  both-none : N * G + K * D ≤ 0 → (N ≡ 0) × (K ≡ 0)
  both-none h = (none N G HG (omega arith), none K D HD (omega arith))

  some : 0 < X → 0 < X * D + N * E
  some h = let p : 0 < X * D = mul-pos h HD in omega arith

  across : 0 < X * G + K * E → K * D ≤ N * G → 0 < X * D + N * E
  across h k = go (X * G) refl
    where
      go : (n : ℕ) → X * G ≡ n → 0 < X * D + N * E
      go (suc n) e = some (first_pos X G (omega (arith, e)))
      go zero e =
          let K-pos : 0 < K = first_pos K E (omega (arith, e)) in
          let p : 0 < K * D = mul-pos K-pos HD in
          let N-pos : 0 < N = first_pos N G (omega arith) in
          let q : 0 < N * E = mul-pos N-pos HE in
          omega arith

  through : (s u t : Bool) → below s (X * G) u (K * E) ≡ true → below t (N * G) u (K * D) ≡ false
      → below s (X * D) t (N * E) ≡ true
  through false false false h k = lt-ltb _ _ (upward (ltb-true _ _ h) (ltb-false _ _ k))
  through false false true h k =
      let z : K ≡ 0 = (both-none (ltb-false _ _ k)).1 in
      let l : X * G < K * E = ltb-true _ _ h in
      let f : K * E ≡ 0 = ap (λ (n : ℕ). n * E) z ∙ zero-mul E in
      absurd (omega (arith, l, f))
  through false true t h k = absurd (false≢true h)
  through true false false h k = lt-ltb _ _ (across (ltb-true _ _ h) (ltb-false _ _ k))
  through true false true h k =
      let z = both-none (ltb-false _ _ k) in
      let l : 0 < X * G + K * E = ltb-true _ _ h in
      let f : K * E ≡ 0 = ap (λ (n : ℕ). n * E) z.1 ∙ zero-mul E in
      let g : N * E ≡ 0 = ap (λ (n : ℕ). n * E) z.0 ∙ zero-mul E in
      let X-pos : 0 < X = first_pos X G (omega (arith, l, f)) in
      let p : 0 < X * D = mul-pos X-pos HD in
      let q : N * E < X * D = omega (arith, p, g) in
      lt-ltb _ _ q
  through true true false h k =
      let l : K * E < X * G = ltb-true _ _ h in
      lt-ltb _ _ (some (first_pos X G (omega (arith, l))))
  through true true true h k = lt-ltb _ _ (downward (ltb-true _ _ h) (ltb-false _ _ k))

-- y is finite
pub lt-through : (x r : Float) (t : Bool) (n : ℕ) (d : ℤ) → lt x r ≡ true → lt (fin t n d) r ≡ false
    → lt x (fin t n d) ≡ true
unfolding lt
lt-through nan r t n d h k = absurd (false≢true h)
lt-through (inf true) r t n d h k = refl
lt-through (inf false) nan t n d h k = absurd (false≢true h)
lt-through (inf false) (inf u) t n d h k = absurd (false≢true h)
lt-through (inf false) (fin u a g) t n d h k = absurd (false≢true h)
lt-through (fin s m e) nan t n d h k = absurd (false≢true h)
lt-through (fin s m e) (inf true) t n d h k = absurd (false≢true h)
lt-through (fin s m e) (inf false) t n d h k = absurd (true≢false k)
lt-through (fin s m e) (fin u a g) t n d h k =
    through (m * up e) (down e) (a * up g) (down g) (n * up d) (down d) (down_pos e) (down_pos g) (down_pos d) s u t h k
