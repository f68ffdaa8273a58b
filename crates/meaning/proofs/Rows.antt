-- What a row of document 01's table knows of a call's arguments: each thing is in its limits where the row has no
-- number, and one of them is not where it has. Assumes nothing.
use Prim.Native.Nat.{ℕ, ◌≤◌, ◌<◌}
use mathlib.Core.Path.{◌≡◌, refl}
use mathlib.Core.Bool.{Bool, true, false}
use mathlib.Core.List.{List, [], ◌∷◌}
use mathlib.Core.Logic.{◌⊎◌, inl, inr}
use native.Mathlib.Omega.{arith}
use borrow.Author.Tests.{ltb-false, eqb-false, lt-ltb, le-ltb}
use lib.Dec.{ltb, eqb}
use Rattle.meaning.specs.Reply.{test, first_of}
use Rattle.meaning.specs.Rows.{most, below_two, above_most, no_window, outside, too_short, window_tests, in_order}
use Rattle.meaning.proofs.Chains.{parts}

-- a row of one test
pub test-passed : (b : Bool) (n : ℕ) → 0 < n → 0 ≡ first_of (test b n ∷ []) → b ≡ false
test-passed true n h e = absurd (omega arith)
test-passed false n h e = refl

-- a thing that a row names, and each of them
abbrev pub Some : (ℕ → Type 0) → List ℕ → Type 0
Some P [] = ⊥
Some P (n ∷ ns) = P n ⊎ Some P ns

abbrev pub Each : (ℕ → Type 0) → List ℕ → Type 0
Each P [] = Unit {0}
Each P (n ∷ ns) = P n × Each P ns

-- ---- 1
pub below-two-clear : (ns : List ℕ) → Each (λ (n : ℕ). 2 ≤ n) ns → 0 ≡ first_of (below_two ns)
below-two-clear [] h = refl
below-two-clear (n ∷ ns) h = rw (le-ltb n 2 h.0) (below-two-clear ns h.1)

pub below-two-found : (ns : List ℕ) → Some (λ (n : ℕ). n < 2) ns → 1 ≡ first_of (below_two ns)
below-two-found [] h = absurd h
below-two-found (n ∷ ns) (inl h) = rw (lt-ltb n 2 h)
below-two-found (n ∷ ns) (inr h) = either (ltb n 2) (below-two-found ns h)
  where
    either : (b : Bool) → 1 ≡ first_of (below_two ns) → 1 ≡ first_of (test b 1 ∷ below_two ns)
    either true e = refl
    either false e = e

-- ---- 2
pub above-most-passed : (ns : List ℕ) → 0 ≡ first_of (above_most ns) → Each (λ (n : ℕ). n ≤ most) ns
above-most-passed [] e = tt
above-most-passed (n ∷ ns) e =
    let both = parts (test (ltb most n) 2 ∷ []) (above_most ns) refl e in
    (ltb-false most n (test-passed (ltb most n) 2 (omega arith) both.0), above-most-passed ns both.1)

pub above-most-clear : (ns : List ℕ) → Each (λ (n : ℕ). n ≤ most) ns → 0 ≡ first_of (above_most ns)
above-most-clear [] h = refl
above-most-clear (n ∷ ns) h = rw (le-ltb most n h.0) (above-most-clear ns h.1)

pub above-most-found : (ns : List ℕ) → Some (λ (n : ℕ). most < n) ns → 2 ≡ first_of (above_most ns)
above-most-found [] h = absurd h
above-most-found (n ∷ ns) (inl h) = rw (lt-ltb most n h)
above-most-found (n ∷ ns) (inr h) = either (ltb most n) (above-most-found ns h)
  where
    either : (b : Bool) → 2 ≡ first_of (above_most ns) → 2 ≡ first_of (test b 2 ∷ above_most ns)
    either true e = refl
    either false e = e

-- ---- 5
pub no-window-passed : (end : ℕ) → 0 ≡ first_of (no_window end) → 1 ≤ end
no-window-passed end e = some (eqb-false end 0 (test-passed (eqb end 0) 5 (omega arith) e))
  where
    some : (end ≡ 0 → ⊥) → 1 ≤ end
    some h = omega (arith, h)

pub outside-passed : (end bins : ℕ) → 0 ≡ first_of (outside end bins) → (1 ≤ end) × (end ≤ bins)
outside-passed end bins e =
    let both = parts (no_window end) (test (ltb bins end) 5 ∷ []) refl e in
    (no-window-passed end both.0, ltb-false bins end (test-passed (ltb bins end) 5 (omega arith) both.1))

-- ---- 10
pub too-short-passed : (room need : ℕ) → 0 ≡ first_of (too_short room need) → need ≤ room
too-short-passed room need e = ltb-false room need (test-passed (ltb room need) 10 (omega arith) e)

-- ---- 2 and 5
pub window-passed : (end : ℕ) → 0 ≡ first_of (window_tests end) → (end ≤ most) × (1 ≤ end)
window-passed end e =
    let both = parts (above_most (end ∷ [])) (in_order (no_window end ∷ [])) refl e in
    ((above-most-passed (end ∷ []) both.0).0, no-window-passed end both.1)
