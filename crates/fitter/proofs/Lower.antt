-- A replacement has a strictly lower BIC: what is taken off the best is never negative. Assumes nothing.
use Prim.Native.Nat.{ℕ, zero, suc, ◌+◌, ◌*◌, ◌≤◌}
use mathlib.Core.Path.{◌≡◌, refl, sym, ◌∙◌}
use mathlib.Core.Bool.{Bool, true, false, cond, ◌&&◌, ◌||◌, true≢false, false≢true}
use native.Mathlib.Omega.{arith}
use borrow.Author.Tests.{ltb-true, ltb-false}
use lib.IntN.{ℤ}
use lib.Dec.{T, ltb, eqb}
use lib.Ieee.{Float, nan, inf, fin, binary64, up, down, of_bits, round, neg, add, sub, mul, lt, eq, sum, fits}
use Rattle.routines.specs.Constants as float
use Rattle.routines.specs.Constants.{one}
use Rattle.routines.specs.Ops.{◌⊕◌, ◌⊖◌, ◌⊗◌}
use Rattle.routines.specs.Pick.{max_of}
use Rattle.routines.specs.Signs.{sign_clear}
use Rattle.routines.proofs.Differences.{not-above, lt-through}
use Rattle.routines.proofs.Patterns.{rounded-are}
use Rattle.models.specs.Fits.{abs_of}
use Rattle.fitter.specs.Selection.{tolerance, replaces_of}
use Rattle.fitter.proofs.Replaced.{below_nan, below_all, nan-stays, infinity-stays}

-- ---- signs
round-clear : (a d : ℕ) → sign_clear (round binary64 false a d) ≡ true
round-clear a d = rounded-are binary64 false a d (λ (x : Float). sign_clear x ≡ true) refl (λ m e. refl)

add-clear : (x y : Float) → sign_clear x ≡ true → sign_clear y ≡ true → sign_clear (x ⊕ y) ≡ true
unfolding add sum
add-clear nan y h k = refl
add-clear (inf true) y h k = absurd (false≢true h)
add-clear (inf false) nan h k = refl
add-clear (inf false) (inf true) h k = absurd (false≢true k)
add-clear (inf false) (inf false) h k = refl
add-clear (inf false) (fin t n d) h k = refl
add-clear (fin true m e) y h k = absurd (false≢true h)
add-clear (fin false m e) nan h k = refl
add-clear (fin false m e) (inf true) h k = absurd (false≢true k)
add-clear (fin false m e) (inf false) h k = refl
add-clear (fin false m e) (fin true n d) h k = absurd (false≢true k)
add-clear (fin false m e) (fin false n d) h k = round-clear (m * up e * down d + n * up d * down e) (down e * down d)

some-clear : (b : Bool) → sign_clear (cond b nan (inf false)) ≡ true
some-clear true = refl
some-clear false = refl

mul-clear : (x y : Float) → sign_clear x ≡ true → sign_clear y ≡ true → sign_clear (x ⊗ y) ≡ true
unfolding mul
mul-clear nan y h k = refl
mul-clear (inf true) y h k = absurd (false≢true h)
mul-clear (inf false) nan h k = refl
mul-clear (inf false) (inf true) h k = absurd (false≢true k)
mul-clear (inf false) (inf false) h k = refl
mul-clear (inf false) (fin true n d) h k = absurd (false≢true k)
mul-clear (inf false) (fin false n d) h k = some-clear (eqb n 0)
mul-clear (fin true m e) y h k = absurd (false≢true h)
mul-clear (fin false m e) nan h k = refl
mul-clear (fin false m e) (inf true) h k = absurd (false≢true k)
mul-clear (fin false m e) (inf false) h k = some-clear (eqb m 0)
mul-clear (fin false m e) (fin true n d) h k = absurd (false≢true k)
mul-clear (fin false m e) (fin false n d) h k = round-clear (m * up e * (n * up d)) (down e * down d)

max-clear : (x y : Float) → sign_clear x ≡ true → sign_clear y ≡ true → sign_clear (max_of x y) ≡ true
unfolding max_of
max-clear x y h k = go x (lt x y) h
  where
    either : (b : Bool) (x : Float) → sign_clear x ≡ true → sign_clear (cond b y x) ≡ true
    either true x h = k
    either false x h = h

    go : (x : Float) (b : Bool) → sign_clear x ≡ true → sign_clear (max_of x y) ≡ true
    go nan b h = k
    go (inf s) b h = either (lt (inf s) y) (inf s) h
    go (fin s m e) b h = either (lt (fin s m e) y) (fin s m e) h

-- ---- |x|
negated : (x : Float) → lt x float.zero ≡ true → sign_clear (neg x) ≡ true
unfolding lt neg of_bits
negated nan h = absurd (false≢true h)
negated (inf true) h = refl
negated (inf false) h = absurd (false≢true h)
negated (fin true m e) h = refl
negated (fin false m e) h = absurd (none (m * up e * 1) (0 * 1 * down e) h (omega arith))
  where
    none : (a b : ℕ) → ltb a b ≡ true → b ≡ 0 → ⊥
    none a b h z = let l = ltb-true a b h in omega (arith, l, z)

kept : (x : Float) → lt x float.zero ≡ false → eq x float.zero ≡ false → sign_clear x ≡ true
unfolding lt eq of_bits
kept nan h k = refl
kept (inf true) h k = absurd (true≢false h)
kept (inf false) h k = refl
kept (fin false m e) h k = refl
kept (fin true m e) h k = absurd (level-zero (m * up e * 1) (0 * 1 * down e) (ltb-false _ _ h) k)
  where
    level-zero : (a b : ℕ) → a + b ≤ 0 → (eqb a b && (false || eqb a 0)) ≡ false → ⊥
    level-zero zero zero h k = true≢false k
    level-zero zero (suc b) h k = omega arith
    level-zero (suc a) b h k = omega arith

abs-clear : (x : Float) → sign_clear (abs_of x) ≡ true
unfolding abs_of
abs-clear x = go (lt x float.zero) (eq x float.zero) refl refl
  where
    nought : sign_clear float.zero ≡ true
    nought = unfold of_bits in refl

    go : (l q : Bool) → lt x float.zero ≡ l → eq x float.zero ≡ q
        → sign_clear (cond l (neg x) (cond q float.zero x)) ≡ true
    go true q h k = negated x h
    go false true h k = nought
    go false false h k = kept x h k

-- ---- what is taken off
abbrev step : Float → Float → Float
step best next = tolerance ⊗ (one ⊕ max_of (abs_of best) (abs_of next))

step_clear : (best next : Float) → sign_clear (step best next) ≡ true
step_clear best next =
    mul-clear tolerance (one ⊕ max_of (abs_of best) (abs_of next)) (round-clear 1 1000000000)
    (add-clear one (max_of (abs_of best) (abs_of next)) one-clear
    (max-clear (abs_of best) (abs_of next) (abs-clear best) (abs-clear next)))
  where
    one-clear : sign_clear one ≡ true
    one-clear = unfold of_bits in refl

off : (s : Bool) (m : ℕ) (e : ℤ) (t next : Float) → T (fits binary64 (fin s m e)) → sign_clear t ≡ true
    → lt next (fin s m e ⊖ t) ≡ true → lt next (fin s m e) ≡ true
off s m e nan next F h l = absurd (false≢true (sym (below_nan next) ∙ (unfold sub add neg in l)))
off s m e (inf true) next F h l = absurd (false≢true h)
off s m e (inf false) next F h l = absurd (false≢true (sym (below_all next) ∙ (unfold sub add neg in l)))
off s m e (fin true n d) next F h l = absurd (false≢true h)
off s m e (fin false n d) next F h l = lt-through next (fin s m e ⊖ fin false n d) s m e l (not-above m e n d s F)

-- of every double: what replaces it is strictly below it
pub lower : (best next : Float) → T (fits binary64 best) → replaces_of best next ≡ true → lt next best ≡ true
lower nan next F h = absurd (false≢true (sym (nan-stays next) ∙ h))
lower (inf s) next F h = absurd (false≢true (sym (infinity-stays s next) ∙ h))
lower (fin s m e) next F h =
    off s m e (step (fin s m e) next) next F (step_clear (fin s m e) next) (unfold replaces_of in h)
