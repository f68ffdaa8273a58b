-- The bytes of a number: one where it is below 128; otherwise its lowest group, with the top bit set, and then the
-- bytes of what is left. Assumes nothing.
use Prim.Native.Nat.{ℕ, zero, suc, ◌+◌, ◌/◌, ◌%◌, ◌^◌, ◌≤◌, ◌<◌}
use mathlib.Core.Path.{◌≡◌, refl, ap, ◌∙◌}
use mathlib.Core.Bool.{cond}
use mathlib.Core.List.{List, [], ◌∷◌}
use mathlib.Core.Logic.{⊎_elim}
use native.Mathlib.Omega.{arith}
use lib.Dec.{ltb}
use lib.ListN.{length}
use borrow.Author.Tests.{lt-ltb, le-ltb}
use Rattle.histogram.specs.Number.{groups_of, number_bytes}
use Rattle.histogram.proofs.Tests.{below_or}
use Rattle.histogram.proofs.Weights.{weight-pos, weight-suc}

-- ---- any allowance of groups that is enough gives the same
enough : (j k n : ℕ) → n ≤ j → n ≤ k → groups_of j n ≡ groups_of k n
unfolding groups_of
enough zero zero n h l = refl
enough zero (suc k) n h l = let s : n < 128 = omega arith in rw (lt-ltb n 128 s)
enough (suc j) zero n h l = let s : n < 128 = omega arith in rw (lt-ltb n 128 s)
enough (suc j) (suc k) n h l = ap (λ (rest : List ℕ). cond (ltb n 128) (n ∷ []) ((128 + n % 128) ∷ rest)) (enough j k (n / 128) (omega arith) (omega arith))

pub bytes-last : (n : ℕ) → n < 128 → number_bytes n ≡ n ∷ []
unfolding number_bytes groups_of
bytes-last zero h = refl
bytes-last (suc m) h = rw (lt-ltb (suc m) 128 h)

pub bytes-more : (n : ℕ) → 128 ≤ n → number_bytes n ≡ (128 + n % 128) ∷ number_bytes (n / 128)
unfolding number_bytes groups_of
bytes-more zero h = absurd (omega arith)
bytes-more (suc m) h = rw (le-ltb (suc m) 128 h) (ap (λ (rest : List ℕ). (128 + suc m % 128) ∷ rest) (enough m (suc m / 128) (suc m / 128) (omega arith) (omega arith)))

-- ---- what holds of one group, and of a number where it holds of what is left of it, holds of every number
module _ (P : ℕ → Type 0) (one : (n : ℕ) → n < 128 → P n) (more : (n : ℕ) → 128 ≤ n → P (n / 128) → P n) where
  within : (k n : ℕ) → n ≤ k → P n
  within zero n h = one n (omega arith)
  within (suc k) n h = ⊎_elim (one n) (λ (g : 128 ≤ n). more n g (within k (n / 128) (omega arith))) (below_or n 128)

  pub by-groups : (n : ℕ) → P n
  by-groups n = within n n (omega arith)

-- ---- how many there are
pub bytes-few : (k n : ℕ) → n < 128 ^ suc k → length (number_bytes n) ≤ suc k
bytes-few zero n h = let e = bytes-last n (small h) in rw e (omega arith)
  where
    small : n < 128 ^ 1 → n < 128
    small l = omega arith
bytes-few (suc k) n h = ⊎_elim (λ (l : n < 128). let e = bytes-last n l in rw e (omega arith)) (λ (g : 128 ≤ n). let f = bytes-few k (n / 128) (shrinks g) in rw (bytes-more n g) (omega arith)) (below_or n 128)
  where
    shrinks : 128 ≤ n → n / 128 < 128 ^ suc k
    shrinks g = let w = weight-suc (suc k) in omega arith

-- as many as the powers of 128 that it reaches, and one
pub bytes-many : (k n : ℕ) → 128 ^ k ≤ n → n < 128 ^ suc k → length (number_bytes n) ≡ suc k
bytes-many zero n l h = let e = bytes-last n (small h) in ap length e
  where
    small : n < 128 ^ 1 → n < 128
    small l = omega arith
bytes-many (suc k) n l h = ap length (bytes-more n (large l)) ∙ ap suc (bytes-many k (n / 128) (low l) (high h))
  where
    large : 128 ^ suc k ≤ n → 128 ≤ n
    large l = let w = weight-suc k in let p = weight-pos k in omega arith

    low : 128 ^ suc k ≤ n → 128 ^ k ≤ n / 128
    low l = let w = weight-suc k in omega arith

    high : n < 128 ^ suc (suc k) → n / 128 < 128 ^ suc k
    high h = let w = weight-suc (suc k) in omega arith

pub bytes-some : (n : ℕ) → 1 ≤ length (number_bytes n)
bytes-some = by-groups (λ (n : ℕ). 1 ≤ length (number_bytes n)) (λ (n : ℕ) (h : n < 128). rw (bytes-last n h) (omega arith)) (λ (n : ℕ) (h : 128 ≤ n) (_ : 1 ≤ length (number_bytes (n / 128))). rw (bytes-more n h) (omega arith))
