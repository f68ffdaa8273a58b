-- One attempt more makes one valid attempt more at most. Assumes nothing.
use Prim.Native.Nat.{ℕ, suc, ◌+◌, ◌≤◌, ◌<◌}
use mathlib.Core.Path.{◌≡◌, sym, subst, ap, ◌∙◌}
use mathlib.Core.List.{List}
use mathlib.Core.Bool.{Bool, true, false, cond}
use native.Mathlib.Omega.{arith}
use lib.Dec.{eqb}
use lib.Ieee.{Float}
use lib.ListN.{drop, get_or, length, drop_of_length-le}
use lib.Seq.{drop-cons}
use Rattle.fitter.specs.Attempts.{valid_of, candidate_in}
use Rattle.fitter.specs.declared.attempts.FitAttempt.{FitAttempt}
use Rattle.record.specs.Leaning.{vote_of, leant_on, lean_step, leaning_of, unleant}
use Rattle.record.specs.Values.{hole_of}
use Rattle.record.specs.declared.leaning.Leaning.{Leaning}

-- few attempts so far
abbrev pub Few : ℕ → Leaning → Type 0
Few n l = (l.valid ≤ n) × (l.same ≤ n)

on-few : (answer : ℕ) (l : Leaning) (h n : ℕ) → Few n l → Few (n + 1) (leant_on answer l h)
unfolding leant_on
on-few answer l h n f = (omega (arith, f.0), go (eqb h answer))
  where
    go : (b : Bool) → cond b (l.same + 1) l.same ≤ n + 1
    go true = omega (arith, f.1)
    go false = omega (arith, f.1)

step-few : (budget : Float) (answer : ℕ) (l : Leaning) (a : FitAttempt) (n : ℕ) → Few n l → Few (n + 1) (lean_step budget answer l a)
unfolding lean_step
step-few budget answer l a n f = go (valid_of a)
  where
    go : (b : Bool) → Few (n + 1) (cond b (leant_on answer l (vote_of (hole_of (candidate_in a) budget))) l)
    go true = on-few answer l (vote_of (hole_of (candidate_in a) budget)) n f
    go false = (omega (arith, f.0), omega (arith, f.1))

pub still-few : (budget : Float) (answer : ℕ) (l r : Leaning) (a : FitAttempt) (n : ℕ) → r ≡ lean_step budget answer l a → Few n l
    → Few (n + 1) r
still-few budget answer l r a n e f = subst (Few (n + 1)) (sym e) (step-few budget answer l a n f)

-- after i of the attempts: the rest leads to the same
pub record Leant (budget : Float) (answer : ℕ) (attempts : List FitAttempt) (l : Leaning) (i : ℕ) : Type 0 where
  pub said : leaning_of budget answer (drop i attempts) l ≡ leaning_of budget answer attempts unleant
  pub few : Few i l

pub leans : (budget : Float) (answer : ℕ) (attempts : List FitAttempt) (l r : Leaning) (i : ℕ) (d : FitAttempt) → i < length attempts
    → r ≡ lean_step budget answer l (get_or attempts i d) → Leant budget answer attempts l i → Leant budget answer attempts r (suc i)
unfolding leaning_of
leans budget answer attempts l r i d h e p =
    let rest = ap (λ (xs : List FitAttempt). leaning_of budget answer xs l) (sym (drop-cons attempts i d h)) in
    let f = still-few budget answer l r (get_or attempts i d) i e p.few in
    record {
      said = ap (leaning_of budget answer (drop (suc i) attempts)) e ∙ rest ∙ p.said;
      few = (omega (arith, f.0), omega (arith, f.1));
    }

pub leant : (budget : Float) (answer : ℕ) (attempts : List FitAttempt) (l : Leaning) (i : ℕ) → length attempts ≤ i
    → Leant budget answer attempts l i → l ≡ leaning_of budget answer attempts unleant
unfolding leaning_of
leant budget answer attempts l i h p =
    sym (ap (λ (xs : List FitAttempt). leaning_of budget answer xs l) (drop_of_length-le attempts h)) ∙ p.said
