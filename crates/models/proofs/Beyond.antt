-- Where count 2 has a log probability, every count's is an `f64`, whatever Float the probability of count 1 is: above
-- the largest `f64`, taken from 1, it would be below 0, and the logarithm of that is NaN. Assumes nothing.
use Prim.Native.Nat.{ℕ, ◌+◌, ◌-◌, ◌*◌, ◌≤◌, ◌<◌}
use mathlib.Core.Path.{◌≡◌, refl, sym, ap, ◌∙◌, subst}
use mathlib.Core.Bool.{Bool, true, false, cond, true≢false, false≢true}
use native.Mathlib.Nat.{mul-le-mul_right}
use native.Mathlib.Omega.{arith}
use borrow.Author.Tests.{ltb-true, lt-ltb}
use lib.IntN.{ℤ}
use lib.Dec.{T, lit≤}
use lib.Ieee.{Float, nan, inf, fin, binary64, up, down, of_bits, neg, add, sub, sum, round, lt, le, eq, is_nan, fits}
use lib.Ieee.{of_int}
use lib.Ieee.Fits.{add-fits, cond-fits, inf-fits, nan-fits, down_pos}
use lib.Ieee.Order.{round_mono}
use Rattle.routines.specs.Constants.{one, zero as nought}
use Rattle.routines.specs.Ln.{ln_of, ln_core, beside_zero, not_above_zero, NORMAL, LARGEST, SCALE, OFFSET}
use Rattle.routines.specs.Ln.{SCALED_OFFSET}
use Rattle.routines.specs.Ops.{◌⊕◌, ◌⊖◌, ◌⊗◌, of_count}
use Rattle.routines.proofs.AnnexF.{ln-below-zero}
use Rattle.routines.proofs.Orders.{one-above-zero}
use Rattle.routines.proofs.Sizes.{neg-round}
use Rattle.models.specs.Claims.{log_at}
use Rattle.models.specs.Errors.{log_probability_of}
use Rattle.models.specs.declared.errors.ErrorParams.{ErrorParams}

-- ---- 1 - x for an x above the largest `f64`
opened : (n : ℕ) (d : ℤ) → one ⊖ fin false n d ≡ sum binary64 false (1 * 1 * down d) true (n * up d * 1) (1 * down d)
unfolding sub neg add of_bits
opened n d = refl

negative : (a b c : ℕ) → a < b → sum binary64 false a true b c ≡ round binary64 true (b - a) c
unfolding sum
negative a b c h = rw (lt-ltb a b h)

unit : round binary64 false 1 1 ≡ one
unfolding round of_bits
unit = refl

turned : (x : Float) → lt nought x ≡ true → lt (neg x) nought ≡ true
unfolding lt neg of_bits
turned nan h = absurd (false≢true h)
turned (inf true) h = absurd (false≢true h)
turned (inf false) h = refl
turned (fin true m e) h = absurd (false≢true h)
turned (fin false m e) h =
    lt-ltb 0 (m * up e * 1 + 0 * down e) (some (m * up e * 1) (down e) (ltb-true (0 * down e) (m * up e * 1) h))
  where
    some : (n d : ℕ) → 0 * d < n → 0 < n + 0 * d
    some n d h = omega arith

-- the size of 1 - x is 1 at least
below-zero : (a b c : ℕ) → 0 < c → a < b → 1 * c ≤ (b - a) * 1 → lt (sum binary64 false a true b c) nought ≡ true
below-zero a b c C h k =
    ap (λ (r : Float). lt r nought) (negative a b c h ∙ sym (neg-round binary64 (b - a) c))
    ∙ turned size (one-above-zero size (so (le one size) one-reached))
  where
    size : Float
    size = round binary64 false (b - a) c

    one-reached : T (le one size)
    one-reached = subst (λ (r : Float). T (le r size)) unit (round_mono binary64 1 1 (b - a) c (omega arith) C k)

    so : (b : Bool) → T b → b ≡ true
    so true t = refl
    so false t = absurd t

larger : (n : ℕ) (d : ℤ) → lt LARGEST (fin false n d) ≡ true → 2 * down d ≤ n * up d
unfolding lt of_bits
larger n d h = far _ (n * up d) (down d) (lit≤ tt) (ltb-true _ (n * up d * 1) h)
  where
    far : (M a d : ℕ) → 2 ≤ M → M * d < a * 1 → 2 * d ≤ a
    far M a d m h =
        let l : 2 * d ≤ M * d = mul-le-mul_right d m in
        omega arith

taken-from-one : (x : Float) → lt LARGEST x ≡ true → lt (one ⊖ x) nought ≡ true
taken-from-one nan h = absurd (false≢true (unfold lt of_bits in h))
taken-from-one (inf true) h = absurd (false≢true (unfold lt of_bits in h))
taken-from-one (inf false) h = unfold lt sub neg add of_bits in refl
taken-from-one (fin true n d) h = absurd (false≢true (unfold lt of_bits in h))
taken-from-one (fin false n d) h =
    ap (λ (r : Float). lt r nought) (opened n d) ∙ far (n * up d) (down d) (down_pos d) (larger n d h)
  where
    far : (a d : ℕ) → 0 < d → 2 * d ≤ a → lt (sum binary64 false (1 * 1 * d) true (a * 1) (1 * d)) nought ≡ true
    far a d k h = below-zero (1 * 1 * d) (a * 1) (1 * d) (omega arith) (omega arith) (omega arith)

-- ---- the logarithm of any other is an `f64`
beside-fits : (x v : Float) → T (fits binary64 v) → T (fits binary64 (beside_zero x v))
unfolding beside_zero
beside-fits x v h = cond-fits binary64 (lt v (v ⊗ x)) v nought h (unfold fits of_bits in tt)

ln-fits : (x : Float) → lt LARGEST x ≡ false → T (fits binary64 (ln_of x))
unfolding ln_of
ln-fits x h = go (le NORMAL x) (lt LARGEST x) h (lt nought x)
  where
    go : (a b : Bool) → b ≡ false → (c : Bool)
        → T (fits binary64 (cond a (cond b x (beside_zero x (ln_core x OFFSET)))
        (cond c (beside_zero x (ln_core (x ⊗ SCALE) SCALED_OFFSET)) (not_above_zero x))))
    go true true e c = absurd (true≢false e)
    go true false e c = beside-fits x (ln_core x OFFSET) (unfold ln_core in add-fits binary64 _ _)
    go false b e true = beside-fits x (ln_core (x ⊗ SCALE) SCALED_OFFSET) (unfold ln_core in add-fits binary64 _ _)
    go false b e false = cond-fits binary64 (eq x nought) (inf true) nan (inf-fits binary64 true) (nan-fits binary64)

-- ---- the log probabilities
nan-added : (x : Float) → is_nan (nan ⊕ x) ≡ true
unfolding add is_nan
nan-added x = refl

module _ (p : ErrorParams) where
  abbrev single : Float
  single = p.singleton_probability

  beyond-nan : lt LARGEST single ≡ true → is_nan (log_at p 2) ≡ true
  unfolding log_probability_of eq of_int of_bits
  beyond-nan h = rw (ln-below-zero (one ⊖ single) (taken-from-one single h)) (nan-added _)

  -- where count 2 has a log probability
  pub log-fits : is_nan (log_at p 2) ≡ false → (k : ℕ) → T (fits binary64 (log_at p k))
  unfolding log_probability_of
  log-fits n k =
      let count-one = ln-fits single (inside (lt LARGEST single) refl) in
      cond-fits binary64 (eq (of_count k) one) (ln_of single) _ count-one (add-fits binary64 _ _)
    where
      inside : (b : Bool) → lt LARGEST single ≡ b → b ≡ false
      inside true h = absurd (true≢false (sym (beyond-nan h) ∙ n))
      inside false h = refl
