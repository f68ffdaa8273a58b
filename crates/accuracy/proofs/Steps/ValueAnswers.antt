-- Step 7's value meets the claim, before step 8: from `Valued` to `Answers`. Assumes nothing.
use Rattle.accuracy.proofs.Prelude.{◌≡◌, refl, sym, ap, ◌∙◌, subst, inl, inr, Bool, true, false, not, cond, ℕ}
use Rattle.accuracy.proofs.Prelude.{zero, suc, ◌+◌, ◌-◌, ◌*◌, ◌^◌, ◌≤◌, ◌<◌, arith, T, leb, leb→le, nleb→lt}
use Rattle.accuracy.proofs.Prelude.{lit≤, lit<, pow-add, pow_mono}
use native.Mathlib.Nat.{le_trans, le_of_eq, le_of_lt, lt_of_le_of_lt, lt_of_lt_of_le, not-le_of_lt, lt_of_not-le}
use native.Mathlib.Nat.{mul-pos, mul_comm, mul-le-mul, mul-le-mul_left, mul-le-mul_right, lt_of_mul-lt-mul_right}
use native.Mathlib.Nat.{le_of_mul-le-mul_right, mul-lt-mul_of_pos_right, add-sub_of_le, one-mul, sub-add_cancel}
use native.Mathlib.Nat.{zero-lt-suc, zero-mul}
use lib.Ieee.{Float, inf, size}
use lib.Ieee.Digits.{size-lt, size-le}
use Rattle.routines.specs.Units.{Off}
use Rattle.accuracy.specs.Accuracy.{L, Is, slack, ulp, of_small, of_normal, hundredths, ExpAtMost, ExpAtLeast, Within}
use Rattle.accuracy.specs.Accuracy.{InUlps, Answers}
use Rattle.accuracy.proofs.Rounding.Binary64.{L-pos, digits-53}
use Rattle.accuracy.proofs.Steps.PartsTogether.{sharp}
use Rattle.accuracy.proofs.Rounding.TimesPowerOfTwo.{L-pow, Exact, Small, Over}
use Rattle.accuracy.proofs.Steps.ValueUpTo770.{Valued}
use Rattle.accuracy.proofs.Euler.AsClaimed.{reshape}

-- ---- by cases of W up to the least normal double, or above
pub by_size : (W : ℕ) (P : ℕ → ℕ → Type 0) → (W ≤ 2 ^ 52 → P 1 of_small) → (2 ^ 52 < W → P 0 of_normal)
    → P (slack W) (hundredths W)
by_size W P h k = go (leb W (2 ^ 52)) (leb→le W (2 ^ 52)) (nleb→lt W (2 ^ 52))
  where
    go : (b : Bool) → (T b → W ≤ 2 ^ 52) → (T (not b) → 2 ^ 52 < W) → P (cond b 1 0) (cond b of_small of_normal)
    go true u w = h (u tt)
    go false u w = k (w tt)

-- ---- a difference
cut : (a b L N : ℕ) → a * L ≤ N + b * L → (a - b) * L ≤ N
cut a b L N h = go (leb b a) (leb→le b a) (nleb→lt b a)
  where
    less : (a b d L N : ℕ) → a ≡ d + b → a * L ≤ N + b * L → d * L ≤ N
    less a b d L N q h = flat d b L N (subst (λ (z : ℕ). z * L ≤ N + b * L) q h)
      where
        flat : (d b L N : ℕ) → (d + b) * L ≤ N + b * L → d * L ≤ N
        flat d b L N h = omega arith

    none : (a b L N : ℕ) → a < b → (a - b) * L ≤ N
    none a b L N h = subst (λ (z : ℕ). z * L ≤ N) (nil a b h) (le_trans (le_of_eq (zero-mul L)) (nothing N))
      where
        nil : (a b : ℕ) → a < b → 0 ≡ a - b
        nil a b h = omega arith

        nothing : (N : ℕ) → 0 ≤ N
        nothing N = omega arith

    go : (y : Bool) → (T y → b ≤ a) → (T (not y) → a < b) → (a - b) * L ≤ N
    go true u w = less a b (a - b) L N (sym (sub-add_cancel (u tt))) h
    go false u w = none a b L N (w tt)

-- ---- N for M: the last sum's rounding, as a part of N
up-number : 2 ^ 52 * suc sharp * 2 ^ 53 ≤ sharp * (2 ^ 53 - 1) * suc (2 ^ 52)
up-number = lit≤ tt

down-number : suc sharp * 2 ^ 52 * (2 ^ 53 + 1) ≤ suc (2 ^ 52) * 2 ^ 53 * sharp
down-number = lit≤ tt

out : (x y N : ℕ) → x * (N * y) ≡ x * y * N
out x y N = omega arith

up-rounded : (s : Bool) (X N M : ℕ) → Off (2 ^ 53) N M → ExpAtMost s X L (M * suc sharp) (L * L * sharp)
    → ExpAtMost s X L (N * suc (2 ^ 52)) (L * L * 2 ^ 52)
up-rounded s X N M o = reshape s X L (M * suc sharp) (L * L * sharp) (N * suc (2 ^ 52)) (L * L * 2 ^ 52)
    (2 ^ 52 * (2 ^ 53 - 1)) (sharp * (2 ^ 53 - 1)) (lit< tt)
    (le_of_eq (a sharp (2 ^ 53 - 1) (L * L) (2 ^ 52)))
    (le_trans (le_of_eq (b (2 ^ 52) (2 ^ 53 - 1) M (suc sharp)))
    (le_trans (mul-le-mul_left (2 ^ 52 * suc sharp) (less N M o.1))
    (le_trans (le_of_eq (out (2 ^ 52 * suc sharp) (2 ^ 53) N))
    (le_trans (mul-le-mul_right N up-number) (le_of_eq (sym (out (sharp * (2 ^ 53 - 1)) (suc (2 ^ 52)) N)))))))
  where
    a : (s c l E : ℕ) → s * c * (l * E) ≡ E * c * (l * s)
    a s c l E = omega arith

    b : (E c M f : ℕ) → E * c * (M * f) ≡ E * f * (M * c)
    b E c M f = omega arith

    less : (N M : ℕ) → M * 2 ^ 53 ≤ N * 2 ^ 53 + M → M * (2 ^ 53 - 1) ≤ N * 2 ^ 53
    less N M h = omega arith

down-rounded : (s : Bool) (X N M : ℕ) → Off (2 ^ 53) N M → ExpAtLeast s X L (M * sharp) (L * L * suc sharp)
    → ExpAtLeast s X L (N * 2 ^ 52) (L * L * suc (2 ^ 52))
down-rounded s X N M o = reshape (not s) X L (L * L * suc sharp) (M * sharp) (L * L * suc (2 ^ 52)) (N * 2 ^ 52)
    (suc (2 ^ 52) * 2 ^ 53) (suc sharp * 2 ^ 53) (lit< tt)
    (le_trans (le_of_eq (b (suc sharp) (2 ^ 53) N (2 ^ 52)))
    (le_trans (mul-le-mul_left (suc sharp * 2 ^ 52) (less N M o.0))
    (le_trans (le_of_eq (out (suc sharp * 2 ^ 52) (2 ^ 53 + 1) M))
    (le_trans (mul-le-mul_right M down-number) (le_of_eq (sym (out (suc (2 ^ 52) * 2 ^ 53) sharp M)))))))
    (le_of_eq (a (suc (2 ^ 52)) (2 ^ 53) (L * L) (suc sharp)))
  where
    a : (E c l s : ℕ) → E * c * (l * s) ≡ s * c * (l * E)
    a E c l s = omega arith

    b : (s c N E : ℕ) → s * c * (N * E) ≡ s * E * (N * c)
    b s c N E = omega arith

    less : (N M : ℕ) → N * 2 ^ 53 ≤ M * 2 ^ 53 + M → N * 2 ^ 53 ≤ M * (2 ^ 53 + 1)
    less N M h = omega arith

-- ---- relative
squared : (E : ℕ) → (E - 1) * suc E ≤ E * E
squared zero = lit≤ tt
squared (suc E) = flat E
  where
    flat : (E : ℕ) → (suc E - 1) * suc (suc E) ≤ suc E * suc E
    flat E = subst (λ (z : ℕ). z * suc (suc E) ≤ suc E * suc E) (sym (one_less E)) (go E)
      where
        one_less : (E : ℕ) → suc E - 1 ≡ E
        one_less E = omega arith

        go : (E : ℕ) → E * suc (suc E) ≤ suc E * suc E
        go E = omega arith

within : (s : Bool) (X W N E : ℕ) → 0 < E → 2 * W * L ≤ 2 * N + slack W * L → 2 * N ≤ 2 * W * L + slack W * L
    → ExpAtMost s X L (N * suc E) (L * L * E) → ExpAtLeast s X L (N * E) (L * L * suc E) → Within s X W E
within s X W N E h_e a b up down = record {
  under = reshape s X L (N * suc E) (L * L * E) ((2 * W + slack W) * E) (2 * L * (E - 1)) (2 * (E - 1)) (L * E)
      (mul-pos L-pos h_e) (le_of_eq (u1 L E (E - 1)))
      (le_trans (le_of_eq (u2 N (E - 1) (suc E)))
      (le_trans (mul-le-mul b (squared E)) (le_of_eq (u3 W (slack W) L E)))) up;
  over = reshape (not s) X L (L * L * suc E) (N * E) (2 * L * suc E) ((2 * W - slack W) * E) 2 L L-pos
      (le_trans (le_of_eq (o1 L (2 * W - slack W) E))
      (le_trans (mul-le-mul_right E (cut (2 * W) (slack W) L (2 * N) a)) (le_of_eq (o2 N E))))
      (le_of_eq (o3 L (suc E))) down;
}
  where
    u1 : (L E e : ℕ) → L * E * (2 * L * e) ≡ 2 * e * (L * L * E)
    u1 L E e = omega arith

    u2 : (N e f : ℕ) → 2 * e * (N * f) ≡ 2 * N * (e * f)
    u2 N e f = omega arith

    u3 : (W z L E : ℕ) → (2 * W * L + z * L) * (E * E) ≡ L * E * ((2 * W + z) * E)
    u3 W z L E = omega arith

    o1 : (L d E : ℕ) → L * (d * E) ≡ d * L * E
    o1 L d E = omega arith

    o2 : (N E : ℕ) → 2 * N * E ≡ 2 * (N * E)
    o2 N E = omega arith

    o3 : (L f : ℕ) → 2 * (L * L * f) ≡ L * (2 * L * f)
    o3 L f = omega arith

-- ---- in hundredths: 4 M is (4 W ± a) L
place_up : (s : Bool) (X M W a t E : ℕ) → 0 < E → 4 * M ≤ (4 * W + a) * L
    → 100 * (4 * W + a) + 100 * a * E ≤ 4 * t * E → ExpAtMost s X L (M * suc E) (L * L * E)
    → ExpAtMost s X L (100 * W + t) (100 * L)
place_up s X M W a t E h_e h k = reshape s X L (M * suc E) (L * L * E) (100 * W + t) (100 * L) 400 (4 * (L * E))
    (mul-pos (lit< {m = 0} {n = 4} tt) (mul-pos L-pos h_e)) (le_of_eq (one L E))
    (flat M W a t E L (mul-le-mul_right (suc E) h) (mul-le-mul_left L k))
  where
    one : (L E : ℕ) → 4 * (L * E) * (100 * L) ≡ 400 * (L * L * E)
    one L E = omega arith

    flat : (M W a t E L : ℕ) → 4 * M * suc E ≤ (4 * W + a) * L * suc E
        → L * (100 * (4 * W + a) + 100 * a * E) ≤ L * (4 * t * E) → 400 * (M * suc E) ≤ 4 * (L * E) * (100 * W + t)
    flat M W a t E L h k = omega arith

place_down : (s : Bool) (X M W a t E : ℕ) → 4 * W * L ≤ 4 * M + a * L → 400 * W + 100 * a * E ≤ 4 * t * E
    → ExpAtLeast s X L (M * E) (L * L * suc E) → ExpAtLeast s X L (100 * W - t) (100 * L)
place_down s X M W a t E h k = reshape (not s) X L (L * L * suc E) (M * E) (100 * L) (100 * W - t) 400
    (4 * (L * suc E)) (mul-pos (lit< {m = 0} {n = 4} tt) (mul-pos L-pos (zero-lt-suc E)))
    (le_trans (le_of_eq (mul_comm (4 * (L * suc E)) (100 * W - t))) (cut (100 * W) t (4 * (L * suc E)) (400 * (M * E))
    (flat M W a t E L (mul-le-mul_right E h) (mul-le-mul_left L k)))) (le_of_eq (one L (suc E)))
  where
    one : (L f : ℕ) → 400 * (L * L * f) ≡ 4 * (L * f) * (100 * L)
    one L f = omega arith

    flat : (M W a t E L : ℕ) → 4 * W * L * E ≤ (4 * M + a * L) * E → L * (400 * W + 100 * a * E) ≤ L * (4 * t * E)
        → 100 * W * (4 * (L * suc E)) ≤ 400 * (M * E) + t * (4 * (L * suc E))
    flat M W a t E L h k = omega arith

-- ---- a place, 2 ^ j / L units
pub pow_lt_back : (i j : ℕ) → 2 ^ i < 2 ^ j → i < j
pow_lt_back i j h = lt_of_not-le (λ (g : j ≤ i). not-le_of_lt h (pow_mono g))

-- of an exact product
ulp-above : (W : ℕ) → 2 ^ 52 ≤ W → W < 2 ^ 53 * ulp W
ulp-above W h = subst (λ (z : ℕ). W < z) (ap (λ (z : ℕ). 2 ^ z) (sym (add-sub_of_le (digits-53 W h)))
    ∙ pow-add 2 53 (size W - 53)) (size-lt W)

place-exact : (W N j : ℕ) → W * L ≡ N → 2 ^ 52 ≤ W → 2 ^ 52 * 2 ^ j ≤ N → 2 ^ j ≤ ulp W * L
place-exact W N j e h k =
    let a : 2 ^ (52 + j) < 2 ^ (size W + 1074) =
    lt_of_le_of_lt (le_trans (le_of_eq (pow-add 2 52 j)) (le_trans k (le_of_eq (sym e))))
    (lt_of_lt_of_le (mul-lt-mul_of_pos_right (size-lt W) L-pos)
    (le_of_eq (ap (λ (z : ℕ). 2 ^ size W * z) L-pow ∙ sym (pow-add 2 (size W) 1074)))) in
    le_trans (pow_mono (flat j (size W) (pow_lt_back (52 + j) (size W + 1074) a) (digits-53 W h)))
    (le_of_eq (pow-add 2 (size W - 53) 1074 ∙ ap (λ (z : ℕ). ulp W * z) (sym L-pow)))
  where
    flat : (j z : ℕ) → 52 + j < z + 1074 → 53 ≤ z → j ≤ z - 53 + 1074
    flat j z h k = omega arith

-- of a small one
place-small : (N j : ℕ) → N < 2 ^ 52 * L → 2 ^ 52 * 2 ^ j ≤ N → 2 * 2 ^ j ≤ L
place-small N j h k =
    let a : 2 ^ j < L = lt_of_mul-lt-mul_right (2 ^ 52) (lt_of_le_of_lt (le_of_eq (mul_comm (2 ^ j) (2 ^ 52)))
    (lt_of_le_of_lt k (lt_of_lt_of_le h (le_of_eq (mul_comm (2 ^ 52) L))))) in
    le_trans (le_of_eq (sym (pow-add 2 1 j)))
    (le_trans (pow_mono (flat j (pow_lt_back j 1074 (lt_of_lt_of_le a (le_of_eq L-pow))))) (le_of_eq (sym L-pow)))
  where
    flat : (j : ℕ) → j < 1074 → 1 + j ≤ 1074
    flat j h = omega arith

pub ulp-one : (W : ℕ) → W ≤ 2 ^ 52 → ulp W ≡ 1
ulp-one W h = ap (λ (z : ℕ). 2 ^ z) (none (size W) (size-le W 53 (lt_of_le_of_lt h (lit< tt))))
  where
    none : (z : ℕ) → z ≤ 53 → z - 53 ≡ 0
    none z h = omega arith

-- ---- an exact product
exact-numbers : (W u c : ℕ) → W ≤ 2 ^ 53 * u → of_normal * u ≤ c
    → (100 * (4 * W + 2 * u) + 100 * (2 * u) * sharp ≤ 4 * c * sharp)
    × (400 * W + 100 * (2 * u) * sharp ≤ 4 * c * sharp)
exact-numbers W u c h k = (a W u c h k, b W u c h k)
  where
    a : (W u c : ℕ) → W ≤ 2 ^ 53 * u → of_normal * u ≤ c
        → 100 * (4 * W + 2 * u) + 100 * (2 * u) * (81 * 2 ^ 49) ≤ 4 * c * (81 * 2 ^ 49)
    a W u c h k = omega arith

    b : (W u c : ℕ) → W ≤ 2 ^ 53 * u → of_normal * u ≤ c
        → 400 * W + 100 * (2 * u) * (81 * 2 ^ 49) ≤ 4 * c * (81 * 2 ^ 49)
    b W u c h k = omega arith

normal-least : (W : ℕ) → of_normal ≤ hundredths W
normal-least W = by_size W (λ (z : ℕ) (c : ℕ). of_normal ≤ c) (λ (h : W ≤ 2 ^ 52). lit≤ tt) (λ (h : 2 ^ 52 < W). lit≤ tt)

pub finite : {s : Bool} {X : ℕ} {v : Float} (W : ℕ) → Is v false W → Within s X W (2 ^ 52) × InUlps s X W
    → Answers s X v
finite W h k = inl (record { W = W; is = h; part = k.0; place = k.1 })

pub infinite : {s : Bool} {X : ℕ} {v : Float} → v ≡ inf false → ExpAtLeast s X L (2 ^ 1024 * 2 ^ 52) (suc (2 ^ 52))
    → Answers s X v
infinite e h = inr (record { is = e; huge = h })

module _ (s : Bool) (X : ℕ) (w : Float) (k : Valued s X w) where
  up-N : ExpAtMost s X L (k.N * suc (2 ^ 52)) (L * L * 2 ^ 52)
  up-N = up-rounded s X k.N k.M k.off k.up

  down-N : ExpAtLeast s X L (k.N * 2 ^ 52) (L * L * suc (2 ^ 52))
  down-N = down-rounded s X k.N k.M k.off k.down

  of-exact : Exact w k.N → Answers s X w
  of-exact (W, h, e, lo) =
      let f : 2 ^ 52 ≤ W = le_of_mul-le-mul_right (le_trans lo (le_of_eq (sym e))) L-pos in
      let p = place-exact W k.N k.j e f k.low in
      let n = exact-numbers W (ulp W) (hundredths W * ulp W) (le_of_lt (ulp-above W f))
      (mul-le-mul_right (ulp W) (normal-least W)) in
      finite W h (
        within s X W k.N (2 ^ 52) (lit< tt) (a W L k.N (slack W) e) (b W L k.N (slack W) e) up-N down-N,
        record {
          under = place_up s X k.M W (2 * ulp W) (hundredths W * ulp W) sharp (lit< tt)
              (c W L k.N k.M (2 ^ k.j) (ulp W) e p k.half.1) n.0 k.up;
          over = place_down s X k.M W (2 * ulp W) (hundredths W * ulp W) sharp
              (d W L k.N k.M (2 ^ k.j) (ulp W) e p k.half.0) n.1 k.down;
        },
      )
    where
      a : (W L N z : ℕ) → W * L ≡ N → 2 * W * L ≤ 2 * N + z * L
      a W L N z e = omega arith

      b : (W L N z : ℕ) → W * L ≡ N → 2 * N ≤ 2 * W * L + z * L
      b W L N z e = omega arith

      c : (W L N M p u : ℕ) → W * L ≡ N → p ≤ u * L → M * 2 ≤ N * 2 + p → 4 * M ≤ (4 * W + 2 * u) * L
      c W L N M p u e h k = omega arith

      d : (W L N M p u : ℕ) → W * L ≡ N → p ≤ u * L → N * 2 ≤ M * 2 + p → 4 * W * L ≤ 4 * M + 2 * u * L
      d W L N M p u e h k = omega arith

  of-small : Small w k.N → Answers s X w
  of-small (W, h, f, lo, a, b) =
      let p = place-small k.N k.j lo k.low in
      let n = numbers W f in
      finite W h (
        within s X W k.N (2 ^ 52) (lit< tt) (le_trans a (more (2 * k.N) L)) (le_trans b (more (2 * W * L) L)) up-N
            down-N,
        record {
          under = place_up s X k.M W 3 (hundredths W * ulp W) sharp (lit< tt)
              (c W L k.N k.M (2 ^ k.j) p b k.half.1) n.0 k.up;
          over = place_down s X k.M W 3 (hundredths W * ulp W) sharp
              (d W L k.N k.M (2 ^ k.j) p a k.half.0) n.1 k.down;
        },
      )
    where
      slack-one : slack W ≡ 1
      slack-one = by_size W (λ (z : ℕ) (c : ℕ). z ≡ 1) (λ (g : W ≤ 2 ^ 52). refl)
          (λ (g : 2 ^ 52 < W). absurd (not-le_of_lt g f))

      more : (x l : ℕ) → x + l ≤ x + slack W * l
      more x l = subst (λ (z : ℕ). x + l ≤ x + z * l) (sym slack-one) (once x l)
        where
          once : (x l : ℕ) → x + l ≤ x + 1 * l
          once x l = omega arith

      c : (W L N M p : ℕ) → 2 * p ≤ L → 2 * N ≤ 2 * W * L + L → M * 2 ≤ N * 2 + p → 4 * M ≤ (4 * W + 3) * L
      c W L N M p e h k = omega arith

      d : (W L N M p : ℕ) → 2 * p ≤ L → 2 * W * L ≤ 2 * N + L → N * 2 ≤ M * 2 + p → 4 * W * L ≤ 4 * M + 3 * L
      d W L N M p e h k = omega arith

      numbers : (W : ℕ) → W ≤ 2 ^ 52
          → (100 * (4 * W + 3) + 100 * 3 * sharp ≤ 4 * (hundredths W * ulp W) * sharp)
          × (400 * W + 100 * 3 * sharp ≤ 4 * (hundredths W * ulp W) * sharp)
      numbers W f = subst (λ (u : ℕ). (100 * (4 * W + 3) + 100 * 3 * sharp ≤ 4 * (hundredths W * u) * sharp)
          × (400 * W + 100 * 3 * sharp ≤ 4 * (hundredths W * u) * sharp)) (sym (ulp-one W f))
          (by_size W (λ (z : ℕ) (c : ℕ). (100 * (4 * W + 3) + 100 * 3 * sharp ≤ 4 * (c * 1) * sharp)
          × (400 * W + 100 * 3 * sharp ≤ 4 * (c * 1) * sharp)) (λ (g : W ≤ 2 ^ 52).
          (one W g, two W g)) (λ (g : 2 ^ 52 < W). absurd (not-le_of_lt g f)))
        where
          one : (W : ℕ) → W ≤ 2 ^ 52 → 100 * (4 * W + 3) + 100 * 3 * (81 * 2 ^ 49) ≤ 4 * (of_small * 1) * (81 * 2 ^ 49)
          one W h = omega arith

          two : (W : ℕ) → W ≤ 2 ^ 52 → 400 * W + 100 * 3 * (81 * 2 ^ 49) ≤ 4 * (of_small * 1) * (81 * 2 ^ 49)
          two W h = omega arith

  of-over : Over w k.N → Answers s X w
  of-over (e, big) = infinite e (reshape (not s) X L (L * L * suc (2 ^ 52)) (k.N * 2 ^ 52) (suc (2 ^ 52))
      (2 ^ 1024 * 2 ^ 52) 1 (L * L) (mul-pos L-pos L-pos)
      (le_trans (le_of_eq (a (L * L) (2 ^ 1024) (2 ^ 52)))
      (le_trans (mul-le-mul_right (2 ^ 52) big) (le_of_eq (sym (one-mul (k.N * 2 ^ 52))))))
      (le_of_eq (one-mul (L * L * suc (2 ^ 52)))) down-N)
    where
      a : (l t E : ℕ) → l * (t * E) ≡ t * l * E
      a l t E = omega arith

  -- STEP 7'S VALUE
  pub value-answers : Answers s X w
  value-answers = elim k.product [
    | inl x ↦ of-exact x
    | inr y ↦ elim y [ inl x ↦ of-small x | inr x ↦ of-over x ]
  ]
