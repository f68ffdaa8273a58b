-- THE ACCURACY OF exp, for every finite double: exp's steps meet here. `Answers` and what it rests on are in
-- specs/Accuracy.antt, `exp_of` and its steps in specs/Exp.antt of the routines. Assumes nothing.
use Rattle.accuracy.proofs.Prelude.{Bool, true, false, cond, ℕ, ◌*◌, ◌≤◌, T}
use lib.Ieee.{Float, binary64, le, fits}
use lib.Ieee.Scale.{finite}
use Rattle.routines.specs.Exp.{exp_of, tee, scaled_up, beside_one, out_of_range, LEAST, MOST}
use Rattle.accuracy.specs.Accuracy.{L, Is, Answers}
use Rattle.accuracy.proofs.Steps.ValueUpTo770.{Valued, value-is}
use Rattle.accuracy.proofs.Steps.ValueAnswers.{value-answers}
use Rattle.accuracy.proofs.Steps.RangeTests.{passed, failed}
use Rattle.accuracy.proofs.Steps.BesideOneAnswers.{beside-answers}
use Rattle.accuracy.proofs.Steps.OutOfRangeAnswers.{out_of_range-answers}
use Rattle.accuracy.proofs.Rounding.InUnits.{units_of}

-- steps 3 to 7
pub scaled-valued : (x : Float) (s : Bool) (X : ℕ) → Is x s X → X ≤ 770 * L → Valued s X (scaled_up x (tee x))
unfolding scaled_up tee
scaled-valued x s X hx range = value-is x s X hx range

pub in-range : (x : Float) (s : Bool) (X : ℕ) → Is x s X → T (le LEAST (tee x)) → T (le (tee x) MOST) → X ≤ 770 * L
unfolding tee
in-range x s X hx a b = passed x s X hx a b

near : (x : Float) (s : Bool) (X : ℕ) → Is x s X → T (le LEAST (tee x)) → T (le (tee x) MOST)
    → Answers s X (beside_one x (scaled_up x (tee x)))
near x s X hx a b =
    beside-answers x s X hx (scaled_up x (tee x))
    (value-answers s X (scaled_up x (tee x)) (scaled-valued x s X hx (in-range x s X hx a b)))

far : (x : Float) (s : Bool) (X : ℕ) → Is x s X → (T (le LEAST (tee x)) → T (le (tee x) MOST) → ⊥)
    → Answers s X (out_of_range x)
unfolding tee
far x s X hx h = out_of_range-answers x s X hx (failed x s X hx h)

-- THE THEOREM
pub exp-answers : (x : Float) (s : Bool) (X : ℕ) → Is x s X → Answers s X (exp_of x)
unfolding exp_of
exp-answers x s X hx = go (le LEAST (tee x)) (le (tee x) MOST) (near x s X hx) (far x s X hx)
  where
    go : (a b : Bool) → (T a → T b → Answers s X (beside_one x (scaled_up x (tee x))))
        → ((T a → T b → ⊥) → Answers s X (out_of_range x))
        → Answers s X (cond a (cond b (beside_one x (scaled_up x (tee x))) (out_of_range x)) (out_of_range x))
    go true true h k = h tt tt
    go true false h k = k (λ (u : Unit {0}) (w : ⊥). w)
    go false b h k = k (λ (w : ⊥) (u : T b). w)

-- every finite double is such an x
pub exp-accurate : (x : Float) → T (fits binary64 x) → T (finite x)
    → (s : Bool) × (X : ℕ) × Is x s X × Answers s X (exp_of x)
exp-accurate x f k = let u = units_of x f k in (u.0, u.1, u.2, exp-answers x u.0 u.1 u.2)
