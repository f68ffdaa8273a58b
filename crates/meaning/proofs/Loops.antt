-- A loop over a range of counts: its invariant, that so far it equals the fold, and its laws, one for each need of the
-- loop. Assumes nothing.
use Prim.Native.Nat.{ℕ, ◌+◌, ◌≤◌, ◌<◌}
use mathlib.Core.Path.{◌≡◌, sym, ap, ◌∙◌}
use native.Mathlib.Omega.{arith}
use Rattle.meaning.specs.Fold.{fold}
use Rattle.meaning.proofs.Folds.{fold-none, fold_more}

-- x is what the steps at the counts from `first` to i - 1 made of z; the last count is end - 1
pub record Folded {A : Type 0} (f : ℕ → A → A) (z : A) (first end : ℕ) (x : A) (i : ℕ) : Type 0 where
  pub from : first ≤ i
  pub upto : i ≤ end
  pub state : x ≡ fold f first i z

module _ {A : Type 0} (f : ℕ → A → A) (z : A) (first end : ℕ) where
  pub begins : (x : A) → first ≤ end → x ≡ z → Folded f z first end x first
  begins x h e = record { from = omega arith; upto = h; state = e ∙ sym (fold-none f first first z (omega arith)) }

  module _ {x : A} {i : ℕ} (s : Folded f z first end x i) where
    pub goes_on : (y : A) → i < end → y ≡ f i x → Folded f z first end y (i + 1)
    goes_on y h e =
        let l : first ≤ i = s.from in
        record { from = omega arith; upto = omega arith; state = e ∙ ap (f i) s.state ∙ sym (fold_more f first i z l) }

    pub ends : end ≤ i → x ≡ fold f first end z
    ends h =
        let k : i ≤ end = s.upto in
        let e : i ≡ end = omega arith in
        s.state ∙ ap (λ (n : ℕ). fold f first n z) e
