-- Polynomials with whole coefficients at a fraction a / c, their sums and products, and a computed test that one is
-- at most another for every a / c up to 11 / 1000. Assumes nothing.
use Rattle.accuracy.proofs.Prelude.{◌≡◌, refl, sym, ap, ◌∙◌, subst, ℕ, zero, suc, ◌+◌, ◌-◌, ◌*◌, ◌/◌, ◌^◌, ◌≤◌}
use Rattle.accuracy.proofs.Prelude.{arith, pow-add}
use mathlib.Core.List.{List, [], ◌∷◌}
use native.Mathlib.Nat.{le_refl, le_trans, le_of_eq, pow-zero, pow-succ', mul-le-mul_right, mul-le-mul_left}
use native.Mathlib.Nat.{le_of_mul-le-mul_left, zero-lt-suc, add-zero, mul-zero, zero-add, zero-mul}
use lib.ListN.{length}
use Rattle.accuracy.proofs.Euler.PartialSums.{part, part-suc, part-zero}

-- p0 c^n + p1 a c^(n-1) + .. + pn a^n
unfoldable pub ev : ℕ → ℕ → ℕ → List ℕ → ℕ
ev a c n [] = 0
ev a c zero (p ∷ ps) = p
ev a c (suc n) (p ∷ ps) = p * c ^ suc n + a * ev a c n ps

unfoldable pub addl : List ℕ → List ℕ → List ℕ
addl [] q = q
addl (x ∷ p) [] = x ∷ p
addl (x ∷ p) (y ∷ q) = (x + y) ∷ addl p q

unfoldable pub smul : ℕ → List ℕ → List ℕ
smul k [] = []
smul k (x ∷ p) = k * x ∷ smul k p

unfoldable pub mulp : List ℕ → List ℕ → List ℕ
unfolding addl smul
mulp [] q = []
mulp (x ∷ p) q = addl (smul x q) (0 ∷ mulp p q)

unfoldable pub unit : ℕ → List ℕ
unit zero = 1 ∷ []
unit (suc j) = 0 ∷ unit j

-- the coefficients of K! S_K
unfoldable pub tay : ℕ → List ℕ
unfolding addl smul unit
tay zero = 1 ∷ []
tay (suc k) = addl (smul (suc k) (tay k)) (unit (suc k))

module _ (a c : ℕ) where
  pub ev-add : (n : ℕ) (p q : List ℕ) → ev a c n (addl p q) ≡ ev a c n p + ev a c n q
  unfolding ev addl
  ev-add n [] q = omega arith
  ev-add zero (x ∷ p) [] = omega arith
  ev-add (suc n) (x ∷ p) [] = omega arith
  ev-add zero (x ∷ p) (y ∷ q) = refl
  ev-add (suc n) (x ∷ p) (y ∷ q) = rw (ev-add n p q) (flat a x y (c ^ suc n) (ev a c n p) (ev a c n q))
    where
      flat : (a x y C u v : ℕ) → (x + y) * C + a * (u + v) ≡ x * C + a * u + (y * C + a * v)
      flat a x y C u v = omega arith

  pub ev-smul : (n k : ℕ) (p : List ℕ) → ev a c n (smul k p) ≡ k * ev a c n p
  unfolding ev smul
  ev-smul n k [] = omega arith
  ev-smul zero k (x ∷ p) = refl
  ev-smul (suc n) k (x ∷ p) = rw (ev-smul n k p) (flat a k x (c ^ suc n) (ev a c n p))
    where
      flat : (a k x C u : ℕ) → k * x * C + a * (k * u) ≡ k * (x * C + a * u)
      flat a k x C u = omega arith

  pub ev-lift : (n m : ℕ) (q : List ℕ) → length q ≤ suc m → ev a c (n + m) q ≡ c ^ n * ev a c m q
  unfolding ev
  ev-lift n m [] h = sym (mul-zero (c ^ n))
  ev-lift n zero (x ∷ []) h = subst (λ (z : ℕ). ev a c z (x ∷ []) ≡ c ^ n * x) (sym (add-zero n)) (at n)
    where
      flat : (x C a : ℕ) → x * C + a * 0 ≡ C * x
      flat x C a = omega arith

      at : (n : ℕ) → ev a c n (x ∷ []) ≡ c ^ n * x
      at zero = rw (pow-zero c) (omega arith)
      at (suc n) = flat x (c ^ suc n) a
  ev-lift n zero (x ∷ (y ∷ q)) h = absurd (never (length q) h)
    where
      never : (l : ℕ) → suc (suc l) ≤ 1 → ⊥
      never l h = omega arith
  ev-lift n (suc m) (x ∷ q) h =
      subst (λ (z : ℕ). ev a c z (x ∷ q) ≡ c ^ n * (x * c ^ suc m + a * ev a c m q)) (more n m)
      (rw (ev-lift n m q (less (length q) m h), sucs, pow-add c n (suc m)) (flat x a (c ^ n) (c ^ suc m) (ev a c m q)))
    where
      more : (n m : ℕ) → suc (n + m) ≡ n + suc m
      more n m = omega arith

      sucs : c ^ suc (n + m) ≡ c ^ (n + suc m)
      sucs = ap (λ (z : ℕ). c ^ z) (more n m)

      less : (l m : ℕ) → suc l ≤ suc (suc m) → l ≤ suc m
      less l m h = omega arith

      flat : (x a N M u : ℕ) → x * (N * M) + a * (N * u) ≡ N * (x * M + a * u)
      flat x a N M u = omega arith

  pub ev-mul : (n m : ℕ) (p q : List ℕ) → length p ≤ suc n → length q ≤ suc m
      → ev a c (n + m) (mulp p q) ≡ ev a c n p * ev a c m q
  unfolding ev mulp
  ev-mul n m [] q h k = sym (zero-mul (ev a c m q))
  ev-mul zero m (x ∷ []) q h k =
      ap (λ (z : ℕ). ev a c z (addl (smul x q) (0 ∷ []))) (zero-add m) ∙ ev-add m (smul x q) (0 ∷ [])
      ∙ ap (λ (z : ℕ). z + ev a c m (0 ∷ [])) (ev-smul m x q) ∙ ap (λ (z : ℕ). x * ev a c m q + z) (at m)
      ∙ flat x (ev a c m q)
    where
      zeros : (C a : ℕ) → 0 * C + a * 0 ≡ 0
      zeros C a = omega arith

      at : (m : ℕ) → ev a c m (0 ∷ []) ≡ 0
      at zero = refl
      at (suc m) = zeros (c ^ suc m) a

      flat : (x y : ℕ) → x * y + 0 ≡ x * y
      flat x y = omega arith
  ev-mul zero m (x ∷ (y ∷ p)) q h k = absurd (never (length p) h)
    where
      never : (l : ℕ) → suc (suc l) ≤ 1 → ⊥
      never l h = omega arith
  ev-mul (suc n) m (x ∷ p) q h k =
      ap (λ (z : ℕ). ev a c z (addl (smul x q) (0 ∷ mulp p q))) (out n m) ∙ ev-add (suc (n + m)) (smul x q)
      (0 ∷ mulp p q)
      ∙ ap (λ (z : ℕ). z + ev a c (suc (n + m)) (0 ∷ mulp p q)) (ev-smul (suc (n + m)) x q
      ∙ ap (λ (z : ℕ). x * ev a c z q) (sym (out n m)) ∙ ap (λ (z : ℕ). x * z) (ev-lift (suc n) m q k))
      ∙ ap (λ (z : ℕ). x * (c ^ suc n * ev a c m q) + (0 * c ^ suc (n + m) + a * z))
      (ev-mul n m p q (less (length p) n h) k)
      ∙ flat x a (c ^ suc n) (c ^ suc (n + m)) (ev a c n p) (ev a c m q)
    where
      out : (n m : ℕ) → suc n + m ≡ suc (n + m)
      out n m = omega arith

      less : (l m : ℕ) → suc l ≤ suc (suc m) → l ≤ suc m
      less l m h = omega arith

      flat : (x a C K u v : ℕ) → x * (C * v) + (0 * K + a * (u * v)) ≡ (x * C + a * u) * v
      flat x a C K u v = omega arith

  pub ev-unit : (j : ℕ) → ev a c j (unit j) ≡ a ^ j
  unfolding ev unit
  ev-unit zero = sym (pow-zero a)
  ev-unit (suc j) = rw (ev-unit j, pow-succ' a j) (flat (c ^ suc j) (a * a ^ j))
    where
      flat : (C x : ℕ) → 0 * C + x ≡ x
      flat C x = omega arith

-- how much p can be above q
unfoldable pub excess : List ℕ → List ℕ → ℕ
excess [] [] = 0
excess (x ∷ p) [] = x + (excess p [] * 11 + 999) / 1000
excess [] (y ∷ q) = (excess [] q * 11 + 999) / 1000 - y
excess (x ∷ p) (y ∷ q) = x + (excess p q * 11 + 999) / 1000 - y

unit-length : (j : ℕ) → length (unit j) ≡ suc j
unfolding unit
unit-length zero = refl
unit-length (suc j) = ap suc (unit-length j)

add-length : (n : ℕ) (p q : List ℕ) → length p ≤ n → length q ≤ n → length (addl p q) ≤ n
unfolding addl
add-length n [] q h k = k
add-length n (x ∷ p) [] h k = h
add-length zero (x ∷ p) (y ∷ q) h k = absurd (never (length p) h)
  where
    never : (l : ℕ) → suc l ≤ 0 → ⊥
    never l h = omega arith
add-length (suc n) (x ∷ p) (y ∷ q) h k =
    up (length (addl p q)) n (add-length n p q (down (length p) n h) (down (length q) n k))
  where
    down : (l n : ℕ) → suc l ≤ suc n → l ≤ n
    down l n h = omega arith

    up : (l n : ℕ) → l ≤ n → suc l ≤ suc n
    up l n h = omega arith

smul-length : (k : ℕ) (p : List ℕ) → length (smul k p) ≡ length p
unfolding smul
smul-length k [] = refl
smul-length k (x ∷ p) = ap suc (smul-length k p)

pub tay-length : (k : ℕ) → length (tay k) ≤ suc k
unfolding tay
tay-length zero = le_refl 1
tay-length (suc k) = add-length (suc (suc k)) (smul (suc k) (tay k)) (unit (suc k))
    (le_trans (le_of_eq (smul-length (suc k) (tay k))) (wide (length (tay k)) k (tay-length k)))
    (le_of_eq (unit-length (suc k)))
  where
    wide : (l k : ℕ) → l ≤ suc k → l ≤ suc (suc k)
    wide l k h = omega arith

-- a partial sum is a polynomial
pub part-tay : (a c k : ℕ) → part k a c ≡ ev a c k (tay k)
unfolding tay ev
part-tay a c zero = part-zero a c
part-tay a c (suc k) =
    part-suc k a c ∙ ap (λ (z : ℕ). suc k * (c * z) + a ^ suc k) (part-tay a c k)
    ∙ sym (ev-add a c (suc k) (smul (suc k) (tay k)) (unit (suc k))
    ∙ ap (λ (z : ℕ). z + ev a c (suc k) (unit (suc k))) (ev-smul a c (suc k) (suc k) (tay k)
    ∙ ap (λ (z : ℕ). suc k * z) lifted) ∙ ap (λ (z : ℕ). suc k * (c * ev a c k (tay k)) + z)
    (ev-unit a c (suc k)))
  where
    one : (k : ℕ) → suc k ≡ 1 + k
    one k = omega arith

    first : (c x : ℕ) → c * 1 * x ≡ c * x
    first c x = omega arith

    lifted : ev a c (suc k) (tay k) ≡ c * ev a c k (tay k)
    lifted = ap (λ (z : ℕ). ev a c z (tay k)) (one k) ∙ ev-lift a c 1 k (tay k) (tay-length k)
        ∙ ap (λ (z : ℕ). z * ev a c k (tay k)) (pow-succ' c 0 ∙ ap (λ (z : ℕ). c * z) (pow-zero c))
        ∙ first c (ev a c k (tay k))

gstep : (x y a c C D u v b g s : ℕ) → D ≡ c * C → u ≤ v + b * C → a * b ≤ g * c → x + g ≤ y + s
    → x * D + a * u ≤ y * D + a * v + s * D
gstep x y a c C D u v b g s e h k l =
    let m1 : a * u ≤ a * (v + b * C) = mul-le-mul_left a h in
    let m2 : a * b * C ≤ g * c * C = mul-le-mul_right C k in
    let m3 : (x + g) * D ≤ (y + s) * D = mul-le-mul_right D l in
    let m4 : g * D ≡ g * (c * C) = ap (λ (z : ℕ). g * z) e in
    last x y a c C D u v b g s m1 m2 m3 m4
  where
    last : (x y a c C D u v b g s : ℕ) → a * u ≤ a * (v + b * C) → a * b * C ≤ g * c * C → (x + g) * D ≤ (y + s) * D
        → g * D ≡ g * (c * C) → x * D + a * u ≤ y * D + a * v + s * D
    last x y a c C D u v b g s m1 m2 m3 m4 = omega arith

module _ (a c : ℕ) (small : 1000 * a ≤ 11 * c) where
  carry : (b : ℕ) → a * b ≤ (b * 11 + 999) / 1000 * c
  carry b =
      let g = (b * 11 + 999) / 1000 in
      let k : b * 11 ≤ g * 1000 = up b in
      let m : 1000 * a * b ≤ 11 * c * b = mul-le-mul_right b small in
      let n : b * 11 * c ≤ g * 1000 * c = mul-le-mul_right c k in
      le_of_mul-le-mul_left (flat a b c g m n) (zero-lt-suc 999)
    where
      up : (b : ℕ) → b * 11 ≤ (b * 11 + 999) / 1000 * 1000
      up b = omega arith

      flat : (a b c g : ℕ) → 1000 * a * b ≤ 11 * c * b → b * 11 * c ≤ g * 1000 * c → 1000 * (a * b) ≤ 1000 * (g * c)
      flat a b c g h k = omega arith

  excess-sound : (n : ℕ) (p q : List ℕ) → ev a c n p ≤ ev a c n q + excess p q * c ^ n
  unfolding ev excess
  excess-sound n [] [] = omega arith
  excess-sound zero [] (y ∷ q) = omega arith
  excess-sound zero (x ∷ p) [] = rw (pow-zero c) (omega arith)
  excess-sound zero (x ∷ p) (y ∷ q) = rw (pow-zero c) (omega arith)
  excess-sound (suc n) [] (y ∷ q) = omega arith
  excess-sound (suc n) (x ∷ p) [] =
      le_trans (gstep x 0 a c (c ^ n) (c ^ suc n) (ev a c n p) 0 (excess p []) ((excess p [] * 11 + 999) / 1000)
      (x + (excess p [] * 11 + 999) / 1000) (pow-succ' c n) (excess-sound n p []) (carry (excess p []))
      (bare x ((excess p [] * 11 + 999) / 1000)))
      (flat (c ^ suc n) a ((x + (excess p [] * 11 + 999) / 1000) * c ^ suc n))
    where
      bare : (x g : ℕ) → x + g ≤ 0 + (x + g)
      bare x g = omega arith

      flat : (D a z : ℕ) → 0 * D + a * 0 + z ≤ 0 + z
      flat D a z = omega arith
  excess-sound (suc n) (x ∷ p) (y ∷ q) =
      gstep x y a c (c ^ n) (c ^ suc n) (ev a c n p) (ev a c n q) (excess p q) ((excess p q * 11 + 999) / 1000)
      (x + (excess p q * 11 + 999) / 1000 - y) (pow-succ' c n) (excess-sound n p q) (carry (excess p q))
      (bare x y ((excess p q * 11 + 999) / 1000))
    where
      bare : (x y g : ℕ) → x + g ≤ y + (x + g - y)
      bare x y g = omega arith

  -- THE TEST
  pub at-most : (n : ℕ) (p q : List ℕ) → excess p q ≡ 0 → ev a c n p ≤ ev a c n q
  at-most n p q e = le_trans (excess-sound n p q)
      (le_of_eq (ap (λ (z : ℕ). ev a c n q + z * c ^ n) e ∙ flat (ev a c n q) (c ^ n)))
    where
      flat : (x y : ℕ) → x + 0 * y ≡ x
      flat x y = omega arith
