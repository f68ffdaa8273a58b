-- `routines::ln::ln` meets its contract: each arm returns what the definition picks where the tests are as the arm
-- found them. Assumes nothing.
use Rattle.std.proofs.Common.{◌≡◌, ℕ, ◌≤◌, not, T, sym, subst, lit≤}
use lib.Ieee.{Float, is_nan}
use Rattle.routines.specs.Ln.{OFFSET}
use Rattle.routines.proofs.Patterns.{least-no-nan, positive-times}
use Rattle.routines.proofs.ln.ln.Goals as goal
use Rattle.routines.proofs.ln.ln.Goals.{then-x+else-x-2, else-x+then-x-3}

-- what `core` asks of a value and an offset that are known
few-of : {y : Float} {k : ℕ} (v : Float) (o : ℕ) → v ≡ y → o ≡ k → T (not (is_nan y)) → k ≤ OFFSET
    → record { fact_1 : T (not (is_nan v)); fact_2 : o ≤ OFFSET }
few-of v o p q n l = record {
  fact_1 = subst (λ (x : Float). T (not (is_nan x))) (sym p) n;
  fact_2 = subst (λ (x : ℕ). x ≤ OFFSET) (sym q) l;
}

pub core-requires : goal.core-requires
core-requires c =
    elim c.if-x.branch [
      | then-x+else-x-2 w ↦ few-of _ _ w.w-is w.offset-is (least-no-nan _ _ w.if-x.true) (lit≤ tt)
      | else-x+then-x-3 w ↦ few-of _ _ w.w-is w.offset-is (positive-times _ w.if-x-3.true) (lit≤ tt)
    ]
