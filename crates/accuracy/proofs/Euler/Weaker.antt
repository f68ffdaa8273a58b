-- A bound of e ^ t gives every weaker one; and what it is that e ^ t is W / B up to one part in E. Assumes nothing.
use Rattle.accuracy.proofs.Prelude.{ℕ, suc, ◌+◌, ◌*◌, ◌^◌, ◌≤◌, ◌<◌, arith}
use native.Mathlib.Nat.{mul-le-mul_right, le_of_mul-le-mul_left, le_trans, mul-le-mul_left, pow-le-pow_left}
use Rattle.accuracy.proofs.Euler.Bounds.{Above, Below}

pub above-weaken : (a c P Q P' Q' : ℕ) → 0 < Q → P * Q' ≤ P' * Q → Above a c P Q → Above a c P' Q'
above-weaken a c P Q P' Q' z h k n hn = go ((c * n + a) ^ n) P Q P' Q' ((c * n) ^ n) z h (k n hn)
  where
    flat : (p P Q P' Q' u : ℕ) → P * Q' ≤ P' * Q → p * Q ≤ P * u → Q * (p * Q') ≤ Q * (P' * u)
    flat p P Q P' Q' u h k =
        let m : P * Q' * u ≤ P' * Q * u = mul-le-mul_right u h in
        let n : p * Q * Q' ≤ P * u * Q' = mul-le-mul_right Q' k in
        omega arith

    go : (p P Q P' Q' u : ℕ) → 0 < Q → P * Q' ≤ P' * Q → p * Q ≤ P * u → p * Q' ≤ P' * u
    go p P Q P' Q' u z h k = le_of_mul-le-mul_left (flat p P Q P' Q' u h k) z

pub below-weaken : (a c P Q P' Q' : ℕ) → 0 < Q → P' * Q ≤ P * Q' → Below a c P Q → Below a c P' Q'
below-weaken a c P Q P' Q' z h (n, hn, k) = (n, hn, go ((c * n + a) ^ n) P Q P' Q' ((c * n) ^ n) z h k)
  where
    flat : (p P Q P' Q' u : ℕ) → P' * Q ≤ P * Q' → P * u ≤ Q * p → Q * (P' * u) ≤ Q * (Q' * p)
    flat p P Q P' Q' u h k =
        let m : P' * Q * u ≤ P * Q' * u = mul-le-mul_right u h in
        let n : P * u * Q' ≤ Q * p * Q' = mul-le-mul_right Q' k in
        omega arith

    go : (p P Q P' Q' u : ℕ) → 0 < Q → P' * Q ≤ P * Q' → P * u ≤ Q * p → P' * u ≤ Q' * p
    go p P Q P' Q' u z h k = le_of_mul-le-mul_left (flat p P Q P' Q' u h k) z

-- e ^ t grows with t
pub below_more : (a a' c P Q : ℕ) → a ≤ a' → Below a c P Q → Below a' c P Q
below_more a a' c P Q h (n, hn, k) = (n, hn, le_trans k (mul-le-mul_left Q (pow-le-pow_left (more (c * n) a a' h) n)))
  where
    more : (x a b : ℕ) → a ≤ b → x + a ≤ x + b
    more x a b h = omega arith

-- e ^ (a / c) is W / B up to one part in E
pub record Near (a c W B E : ℕ) : Type 0 where
  pub above : Above a c (W * suc E) (B * E)
  pub below : Below a c (W * E) (B * suc E)
