-- WHICH OF THE DOUBLES AROUND e ^ x exp IS. Definitions only. Assumes nothing.
use Rattle.std.specs.Prelude.{ℕ, Bool, false, T, Float}
use Rattle.std.specs.Float.{binary64}
use Rattle.std.specs.Float.Ieee.{lt, fits}
use Rattle.accuracy.specs.Accuracy.{L, Is, ExpAtMost, ExpAtLeast}

-- w is a finite double of Y units, with the sign clear
abbrev pub Double : Float → ℕ → Type 0
Double w Y = T (fits binary64 w) × Is w false Y

-- e ^ x < Y units: it is at most Y units, and Y units are not at most e ^ x
pub record Over (s : Bool) (X Y : ℕ) : Type 0 where
  pub bound : ExpAtMost s X L Y L
  pub strict : ExpAtLeast s X L Y L → ⊥

-- Y units < e ^ x: they are at most e ^ x, and e ^ x is not at most Y units
pub record Under (s : Bool) (X Y : ℕ) : Type 0 where
  pub bound : ExpAtLeast s X L Y L
  pub strict : ExpAtMost s X L Y L → ⊥

-- v is one of the two doubles around e ^ x, where x = ± X units: no double lies between v and e ^ x.
-- +inf counts as the double above the largest finite one
pub record Faithful (s : Bool) (X : ℕ) (v : Float) : Type 0 where
  pub double : T (fits binary64 v)
  -- each double above v is above e ^ x
  pub above : (w : Float) (Y : ℕ) → Double w Y → T (lt v w) → Over s X Y
  -- each double below v is below e ^ x
  pub below : (w : Float) (Y : ℕ) → Double w Y → T (lt w v) → Under s X Y
