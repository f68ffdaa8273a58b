-- A finite double is one number of units, and doubles are compared as these numbers are. Assumes nothing.
use Rattle.accuracy.proofs.Prelude.{◌≡◌, refl, sym, ap, ◌∙◌, ◌⊎◌, inl, inr, Bool, true, false, not, true≢false}
use Rattle.accuracy.proofs.Prelude.{ℕ, suc, ◌+◌, ◌*◌, ◌≤◌, ◌<◌, arith, T, T_not, nltb→le}
use native.Mathlib.Nat.{lt_of_not-le, le_of_suc-le-suc, eq_of_mul-eq-mul_right}
use lib.Ieee.{Float, nan, inf, fin, binary64, up, down, lt, of_bits, fits}
use lib.Ieee.Exact.{HasValue}
use lib.Ieee.Fits.{down_pos}
use lib.Ieee.Scale.{finite}
use Rattle.routines.specs.Constants.{zero as nought, one}
use Rattle.routines.specs.Units.{units_in}
use Rattle.routines.proofs.Values.{Holds, has-units}
use Rattle.routines.proofs.Compared.{lt-is}
use Rattle.accuracy.specs.Accuracy.{L, Is}

-- ---- every finite double is a number of units
pub units_of : (x : Float) → T (fits binary64 x) → T (finite x) → (s : Bool) × (X : ℕ) × Is x s X
unfolding L
units_of nan f k = absurd k
units_of (inf s) f k = absurd k
units_of (fin s m e) f k = (s, units_in binary64 (fin s m e), (refl, has-units binary64 (fin s m e) f k))

pub unique : (x : Float) (s s' : Bool) (a b c : ℕ) → 0 < c → HasValue x s a c → HasValue x s' b c → (s ≡ s') × (a ≡ b)
unique nan s s' a b c h v w = absurd v
unique (inf t) s s' a b c h v w = absurd v
unique (fin t m e) s s' a b c h v w =
    (sym v.0 ∙ w.0, eq_of_mul-eq-mul_right (down e) (down_pos e) a b (sym v.1 ∙ w.1))

-- ---- 0 and 1
pub one-is : Is one false L
unfolding L of_bits
one-is = (refl, refl)

pub zero_is : Is nought false 0
unfolding L of_bits
zero_is = (refl, refl)

-- ---- the tests
pub holds : (x : Float) (a : ℕ) → Is x false a → Holds binary64 x a
unfolding L
holds nan a h = absurd h
holds (inf s) a h = absurd h
holds (fin true m e) a h = absurd (true≢false h.0)
holds (fin false m e) a h = record { known = tt; sign = tt; value = h.1 }

pub less-is : (x y : Float) (a b : ℕ) → Is x false a → Is y false b → T (lt x y) → a < b
less-is x y a b h k t = (lt-is binary64 x y a b (holds x a h) (holds y b k)).0 t

pub not-less : (x y : Float) (a b : ℕ) → Is x false a → Is y false b → T (not (lt x y)) → b ≤ a
not-less x y a b h k t = le_of_suc-le-suc
    (lt_of_not-le (λ (g : suc a ≤ b). T_not (lt x y) t ((lt-is binary64 x y a b (holds x a h) (holds y b k)).1 g)))

-- x < 0 is a sign and a size
pub below-zero : (x : Float) (s : Bool) (X : ℕ) → Is x s X → T (lt x nought) → s ≡ true
below-zero x true X h t = refl
below-zero x false X h t = absurd (never X (less-is x nought X 0 h zero_is t))
  where
    never : (X : ℕ) → X < 0 → ⊥
    never X h = omega arith

pub not-below : (x : Float) (s : Bool) (X : ℕ) → Is x s X → T (not (lt x nought)) → (s ≡ false) ⊎ (X ≡ 0)
unfolding lt of_bits
not-below x false X h t = inl refl
not-below nan true X h t = absurd h
not-below (inf u) true X h t = absurd h
not-below (fin false m e) true X h t = inl (sym (absurd (true≢false (sym h.0))))
not-below (fin true m e) true X h t = inr
    (eq_of_mul-eq-mul_right (down e) (down_pos e) X 0
    (sym h.1 ∙ ap (λ (z : ℕ). z * L) (nil (m * up e) (down e) (nltb→le 0 (m * up e * 1 + 0 * 1 * down e) t))
    ∙ none L (down e)))
  where
    nil : (a d : ℕ) → a * 1 + 0 * 1 * d ≤ 0 → a ≡ 0
    nil a d h = omega arith

    none : (l d : ℕ) → 0 * l ≡ 0 * d
    none l d = omega arith
