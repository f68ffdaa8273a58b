-- A total that stops at a top: each sum may stop, or the whole once. And the folds of specs/Runs.antt, one run more.
-- Assumes nothing.
use Prim.Native.Nat.{ℕ, ◌+◌, ◌≤◌, ◌<◌, min, zero-le}
use mathlib.Core.Path.{◌≡◌, refl, sym, ap, ◌∙◌}
use mathlib.Core.Bool.{Bool, true, false, cond}
use native.Mathlib.Numerals.{add-one}
use native.Mathlib.Omega.{arith}
use borrow.Author.Tests.{le-ltb, ltb-true, ltb-false}
use lib.Dec.{ltb}
use Rattle.meaning.specs.Fold.{fold}
use Rattle.meaning.proofs.Folds.{fold-none, fold_more, fold-keeps}
use Rattle.fitter.specs.Runs.{at_most, sum_of}

module _ (top n : ℕ) where
  pub within : n ≤ top → n ≡ at_most top n
  unfolding at_most
  within h = rw (le-ltb top n h)

  pub beyond : top ≤ n → top ≡ at_most top n
  unfolding at_most
  beyond h = go (ltb top n) refl
    where
      go : (b : Bool) → ltb top n ≡ b → top ≡ cond b top n
      go true e = refl
      go false e = let l : n ≤ top = ltb-false top n e in omega arith

  -- what `saturating_add` gives
  pub stopped : min n top ≡ at_most top n
  unfolding at_most
  stopped = go (ltb top n) refl
    where
      go : (b : Bool) → ltb top n ≡ b → min n top ≡ cond b top n
      go true e = let l : top < n = ltb-true top n e in omega arith
      go false e = let l : n ≤ top = ltb-false top n e in omega arith

-- to stop early is to stop at the end
pub stops-once : (top a b : ℕ) → at_most top (at_most top a + b) ≡ at_most top (a + b)
stops-once top a b = go (ltb top a) refl
  where
    go : (so : Bool) → ltb top a ≡ so → at_most top (at_most top a + b) ≡ at_most top (a + b)
    go true e =
        let l : top < a = ltb-true top a e in
        ap (λ (n : ℕ). at_most top (n + b)) (sym (beyond top a (omega arith)))
        ∙ sym (beyond top (top + b) (omega arith)) ∙ beyond top (a + b) (omega arith)
    go false e =
        let l : a ≤ top = ltb-false top a e in
        ap (λ (n : ℕ). at_most top (n + b)) (sym (within top a l))

-- a sum that stops at each step
pub stopping : (top : ℕ) (term : ℕ → ℕ) (n : ℕ)
    → fold (λ (i total : ℕ). at_most top (total + term i)) 0 n 0 ≡ at_most top (sum_of term n)
unfolding sum_of
stopping top term n =
    fold-keeps (λ (i total : ℕ). at_most top (total + term i))
    (λ (k total : ℕ). total ≡ at_most top (fold (λ (i sum : ℕ). sum + term i) 0 k 0)) 0 n 0 zero-le
    (λ (k total : ℕ) (l : 0 ≤ k) (m : k < n) (p : total ≡ at_most top (fold (λ (i sum : ℕ). sum + term i) 0 k 0)).
    ap (λ (t : ℕ). at_most top (t + term k)) p
    ∙ stops-once top (fold (λ (i sum : ℕ). sum + term i) 0 k 0) (term k)
    ∙ ap (at_most top)
    (sym
    (ap (λ (j : ℕ). fold (λ (i sum : ℕ). sum + term i) 0 j 0) (sym (add-one k))
    ∙ fold_more (λ (i sum : ℕ). sum + term i) 0 k 0 l)))
    (within top 0 zero-le ∙ ap (at_most top) (sym (fold-none (λ (i sum : ℕ). sum + term i) 0 0 0 zero-le)))
