-- Bounds of e ^ x as specs/Accuracy.antt has them: from the forms of Bounds.antt, made weaker, and against 1. Assumes
-- nothing.
use Rattle.accuracy.proofs.Prelude.{sym, ap, ◌∙◌, Bool, true, false, ℕ, suc, ◌+◌, ◌-◌, ◌*◌, ◌^◌, ◌≤◌, ◌<◌, arith}
use native.Mathlib.Nat.{le_trans, le_of_eq, mul_comm, mul-one, one-mul, mul-le-mul_left, mul-le-mul_right}
use native.Mathlib.Nat.{le_of_mul-le-mul_left, pow-le-pow_left, add-zero, sub-add_cancel, sub-le}
use Rattle.accuracy.specs.Accuracy.{shifted, ExpAtMost, ExpAtLeast}
use Rattle.accuracy.proofs.Euler.Bounds.{IsExp}

-- ---- made weaker
pub reshape : (s : Bool) (a c P Q P' Q' h k : ℕ) → 0 < k → k * Q' ≤ h * Q → h * P ≤ k * P' → ExpAtMost s a c P Q
    → ExpAtMost s a c P' Q'
reshape s a c P Q P' Q' h k hk x y e n hn r =
    le_of_mul-le-mul_left (flat (shifted s (c * n) a ^ n) P Q P' Q' ((c * n) ^ n) h k x y (e n hn r)) hk
  where
    flat : (p P Q P' Q' u h k : ℕ) → k * Q' ≤ h * Q → h * P ≤ k * P' → p * Q ≤ P * u → k * (p * Q') ≤ k * (P' * u)
    flat p P Q P' Q' u h k x y z =
        let a : p * (k * Q') ≤ p * (h * Q) = mul-le-mul_left p x in
        let b : h * (p * Q) ≤ h * (P * u) = mul-le-mul_left h z in
        let c : h * P * u ≤ k * P' * u = mul-le-mul_right u y in
        omega arith

-- ---- from the proofs' form
pub most : (s : Bool) (a c P Q E : ℕ) → IsExp s a c P Q E → ExpAtMost s a c (P * suc E) (Q * E)
most false a c P Q E h n hn r = (h n (c * n - a) hn (sub-add_cancel r)).0
most true a c P Q E h n hn r = (h n (c * n - a) hn (sub-add_cancel r)).0

pub least : (s : Bool) (a c P Q E : ℕ) → IsExp s a c P Q E → ExpAtLeast s a c (P * E) (Q * suc E)
least false a c P Q E h n hn r =
    le_trans (le_of_eq (mul_comm ((c * n - a) ^ n) (P * E))) (h n (c * n - a) hn (sub-add_cancel r)).1
least true a c P Q E h n hn r =
    le_trans (le_of_eq (mul_comm ((c * n + a) ^ n) (P * E))) (h n (c * n - a) hn (sub-add_cancel r)).1

-- ---- e ^ -|x| ≤ 1, and e ^ 0 ≤ 1
pub below_one : (a c : ℕ) → ExpAtMost true a c 1 1
below_one a c n hn r = le_trans (le_of_eq (mul-one ((c * n - a) ^ n)))
    (le_trans (pow-le-pow_left (sub-le (c * n) a) n) (le_of_eq (sym (one-mul ((c * n) ^ n)))))

pub at_zero : (c : ℕ) → ExpAtMost false 0 c 1 1
at_zero c n hn r = le_of_eq (mul-one ((c * n + 0) ^ n) ∙ ap (λ (z : ℕ). z ^ n) (add-zero (c * n))
    ∙ sym (one-mul ((c * n) ^ n)))
