-- Equal replies hold equal values, and an answer is no refusal: what a map from a call's answers into `Reply` needs in
-- order to be injective. Assumes nothing.
use Prim.Native.Nat.{ℕ}
use mathlib.Core.Path.{◌≡◌, sym}
use mathlib.Core.Bool.{true, false}
use mathlib.Core.List.{List, [], ◌∷◌}
use native.Mathlib.Omega.{arith}
use Rattle.meaning.specs.Reply.{Reply, refuse, broken, give, Test, test, chain}

module _ {A : Type 0} where
  pub same_answer : {a b : A} → give a ≡ give b → a ≡ b
  same_answer e = cc

  pub same_number : {m n : ℕ} → ◌≡◌ {A = Reply A} (refuse m) (refuse n) → m ≡ n
  same_number e = cc

  pub same_place : {p q : ℕ} → ◌≡◌ {A = Reply A} (broken p) (broken q) → p ≡ q
  same_place e = cc

  pub answer-not-refused : {a : A} {n : ℕ} → give a ≡ refuse n → ⊥
  answer-not-refused e = let z : ◌≡◌ {A = ℕ} 0 1 = cc in omega arith

  pub answer-not-broken : {a : A} {p : ℕ} → give a ≡ broken p → ⊥
  answer-not-broken e = let z : ◌≡◌ {A = ℕ} 0 1 = cc in omega arith

  pub refused-not-broken : {n p : ℕ} → ◌≡◌ {A = Reply A} (refuse n) (broken p) → ⊥
  refused-not-broken e = let z : ◌≡◌ {A = ℕ} 0 1 = cc in omega arith

module _ {A : Type 0} (a b : A) where
  -- where a chain lets through, the answer is the one behind it
  pub gave-answer : (ts : List Test) → chain ts (give a) ≡ give b → a ≡ b
  gave-answer [] e = same_answer e
  gave-answer (test true n ∷ ts) e = absurd (answer-not-refused (sym e))
  gave-answer (test false n ∷ ts) e = gave-answer ts e
