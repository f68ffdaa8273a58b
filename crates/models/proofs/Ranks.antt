-- THE ORDER OF HEIGHTS. Every `f64` but NaN has a rank: its value's place in the order of numbers, with -0 one below
-- +0. `later_wins` is that order: the later height wins where its rank is no lower.
-- Assumes nothing.
use Prim.Native.Nat.{ℕ, zero, suc, ◌+◌, ◌-◌, ◌*◌, ◌^◌, ◌≤◌, ◌<◌, zero-le}
use mathlib.Core.Path.{◌≡◌, refl, sym, ap, ◌∙◌, subst}
use mathlib.Core.Bool.{Bool, true, false, not, ◌&&◌, ◌||◌, cond, true≢false, false≢true}
use native.Mathlib.Nat.{zero-lt-suc, le_refl, le_trans, le_of_lt, mul-le-mul_right, le_of_mul-le-mul_right, mul-pos}
use native.Mathlib.Nat.{mul_comm, mul_assoc, mul_right_comm, lt_of_mul-lt-mul_right, eq_of_mul-eq-mul_right}
use native.Mathlib.Nat.{mul-lt-mul_of_pos_right, lt_of_le_of_lt, lt_of_lt_of_le, le_of_eq}
use native.Mathlib.Omega.{arith}
use borrow.Author.Tests.{ltb-true, ltb-false, eqb-true, eqb-false, le-ltb, ne_eqb}
use lib.IntN.{ℤ}
use lib.Dec.{T, ltb, eqb}
use lib.Arith.{lt_of_le-ne}
use lib.Pow.{pow_pos}
use lib.Ieee.{Float, nan, inf, fin, binary64, up, down, unlike, of_bits, div, lt, eq, is_nan, fits}
use lib.Ieee.Fits.{up_pos, down_pos}
use lib.Ieee.Scale.{round_same}
use Rattle.routines.specs.Constants.{one}
use Rattle.routines.specs.Ops.{◌⊘◌}
use Rattle.routines.specs.Units.{units_of}
use Rattle.routines.proofs.Sizes.{in-units}
use Rattle.routines.proofs.Values.{has-units}
use Rattle.models.specs.Claims.{middle, rank}
use Rattle.models.specs.Modes.{later_wins}

units-few : (s : Bool) (m : ℕ) (e : ℤ) → T (fits binary64 (fin s m e)) → units_of (fin s m e) < middle
units-few s m e F =
    let u = in-units s m e F in
    let same = eq_of_mul-eq-mul_right (down e) (down_pos e) (units_of (fin s m e)) (m * 2 ^ u.0)
    (sym (has-units binary64 (fin s m e) F tt) ∙ u.2) in
    subst (λ (n : ℕ). n < middle) (sym same) u.3

abbrev pub Ranked : Bool → ℕ → ℕ → Type 0
Ranked true a b = a ≤ b
Ranked false a b = b < a

-- ---- a / c and b / c, p and q units of c
module _ (a b c p q : ℕ) (C : 0 < c) (P : a * 2 ^ 1074 ≡ p * c) (Q : b * 2 ^ 1074 ≡ q * c) where
  less : a < b → p < q
  less h =
      lt_of_mul-lt-mul_right c
      (lt_of_le_of_lt (le_of_eq (sym P)) (lt_of_lt_of_le (mul-lt-mul_of_pos_right h (pow_pos 1074)) (le_of_eq Q)))

  less-or-level : a ≤ b → p ≤ q
  less-or-level h =
      le_of_mul-le-mul_right (le_trans (le_of_eq (sym P)) (le_trans (mul-le-mul_right (2 ^ 1074) h) (le_of_eq Q))) C

-- ---- what a comparison by `<` and by `==` says
ordered : (a b : ℕ) (q : Bool) → (q ≡ true → a ≡ b) → (q ≡ false → a ≡ b → ⊥) → (r : Bool)
    → cond (ltb a b) true (q && true && true) ≡ r → Ranked r a b
ordered a b q same apart = go (ltb a b) refl q refl
  where
    go : (l : Bool) → ltb a b ≡ l → (c : Bool) → q ≡ c → (r : Bool) → cond l true (c && true && true) ≡ r → Ranked r a b
    go true h c k true i = le_of_lt (ltb-true a b h)
    go true h c k false i = absurd (true≢false i)
    go false h true k true i = le_of_eq (same k)
    go false h true k false i = absurd (true≢false i)
    go false h false k true i = absurd (false≢true i)
    go false h false k false i = lt_of_le-ne (ltb-false a b h) (λ (z : b ≡ a). apart k (sym z))

-- ---- two finite heights x and y, of the signs s and t
less-self : (x : Float) → lt x x ≡ false
unfolding lt
less-self nan = refl
less-self (inf true) = refl
less-self (inf false) = refl
less-self (fin true m e) = le-ltb (m * up e * down e) (m * up e * down e) (le_refl (m * up e * down e))
less-self (fin false m e) = le-ltb (m * up e * down e) (m * up e * down e) (le_refl (m * up e * down e))

-- one over each of two level values of one sign is the same
reciprocal : (s : Bool) (m : ℕ) (e : ℤ) (n : ℕ) (d : ℤ) → m * up e * down d ≡ n * up d * down e
    → one ⊘ fin s n d ≡ one ⊘ fin s m e
unfolding div of_bits
reciprocal s zero e zero d h = refl
reciprocal s zero e (suc n) d h =
    absurd (clash (up e) (down d) (suc n * up d * down e) h (mul-pos (mul-pos (omega arith) (up_pos d)) (down_pos e)))
  where
    clash : (a b c : ℕ) → 0 * a * b ≡ c → 0 < c → ⊥
    clash a b c h k = omega arith
reciprocal s (suc m) e zero d h =
    absurd (clash (up d) (down e) (suc m * up e * down d) h (mul-pos (mul-pos (omega arith) (up_pos e)) (down_pos d)))
  where
    clash : (a b c : ℕ) → c ≡ 0 * a * b → 0 < c → ⊥
    clash a b c h k = omega arith
reciprocal s (suc m) e (suc n) d h =
    rw (some n, some m)
    (round_same binary64 (unlike false s) (1 * 1 * down d) (suc n * up d * 1) (1 * 1 * down e) (suc m * up e * 1)
    (mul-pos (mul-pos (omega arith) (up_pos d)) (omega arith)) (mul-pos (mul-pos (omega arith) (up_pos e)) (omega arith))
    (across (suc m * up e) (down e) (suc n * up d) (down d) h))
  where
    some : (k : ℕ) → eqb (suc k) 0 ≡ false
    some k = ne_eqb (suc k) 0 (λ (z : suc k ≡ 0). absurd (none k z))
      where
        none : (k : ℕ) → suc k ≡ 0 → ⊥
        none k z = omega arith

    across : (a c b k : ℕ) → a * k ≡ b * c → 1 * 1 * k * (a * 1) ≡ 1 * 1 * c * (b * 1)
    across a c b k h =
        let p : k * a ≡ a * k = mul_comm k a in
        let q : c * b ≡ b * c = mul_comm c b in
        omega arith

module _ (m : ℕ) (e : ℤ) (n : ℕ) (d : ℤ) where
  abbrev first : ℕ
  first = m * up e * down d

  abbrev second : ℕ
  second = n * up d * down e

  over : (s t : Bool) → T (fits binary64 (fin s m e)) → T (fits binary64 (fin t n d))
      → (0 < down e * down d) × (first * 2 ^ 1074 ≡ units_of (fin s m e) * (down e * down d)) ×
      (second * 2 ^ 1074 ≡ units_of (fin t n d) * (down e * down d))
  over s t X Y = (
    mul-pos (down_pos e) (down_pos d),
    spread (m * up e) (down d) (units_of (fin s m e)) (down e) (has-units binary64 (fin s m e) X tt),
    spread (n * up d) (down e) (units_of (fin t n d)) (down d) (has-units binary64 (fin t n d) Y tt)
        ∙ ap (λ (c : ℕ). units_of (fin t n d) * c) (mul_comm (down d) (down e)),
  )
    where
      spread : (a k u c : ℕ) → a * 2 ^ 1074 ≡ u * c → a * k * 2 ^ 1074 ≡ u * (c * k)
      spread a k u c h = mul_right_comm a k (2 ^ 1074) ∙ ap (λ (x : ℕ). x * k) h ∙ mul_assoc u c k

  -- of one sign; of two negative heights the larger size is the lower
  upward : (r : Bool) → T (fits binary64 (fin false m e)) → T (fits binary64 (fin false n d)) → Ranked r first second
      → Ranked r (rank (fin false m e)) (rank (fin false n d))
  unfolding rank
  upward true X Y h =
      let o = over false false X Y in
      more _ _ middle (less-or-level first second (down e * down d) _ _ o.0 o.1 o.2 h)
    where
      more : (u v k : ℕ) → u ≤ v → k + 1 + u ≤ k + 1 + v
      more u v k h = omega arith
  upward false X Y h =
      let o = over false false X Y in more _ _ middle (less second first (down e * down d) _ _ o.0 o.2 o.1 h)
    where
      more : (u v k : ℕ) → u < v → k + 1 + u < k + 1 + v
      more u v k h = omega arith

  downward : (r : Bool) → T (fits binary64 (fin true m e)) → T (fits binary64 (fin true n d)) → Ranked r second first
      → Ranked r (rank (fin true m e)) (rank (fin true n d))
  unfolding rank
  downward true X Y h =
      let o = over true true X Y in
      more _ _ middle (less-or-level second first (down e * down d) _ _ o.0 o.2 o.1 h)
    where
      more : (u v k : ℕ) → u ≤ v → k - v ≤ k - u
      more u v k h = omega arith
  downward false X Y h =
      let o = over true true X Y in
      more _ _ middle (units-few true n d Y) (less first second (down e * down d) _ _ o.0 o.1 o.2 h)
    where
      more : (u v k : ℕ) → v < k → u < v → k - v < k - u
      more u v k l h = omega arith

  tie : (s : Bool) → first ≡ second → lt (one ⊘ fin s n d) (one ⊘ fin s m e) ≡ false
  tie s h = ap (λ (x : Float). lt x (one ⊘ fin s m e)) (reciprocal s m e n d h) ∙ less-self (one ⊘ fin s m e)

  flat-tie : (s q : Bool) → eqb first second ≡ q
      → (q && true && not (lt (one ⊘ fin s n d) (one ⊘ fin s m e))) ≡ (q && true && true)
  flat-tie s true h = ap not (tie s (eqb-true first second h))
  flat-tie s false h = refl

  same_sign : (s : Bool) → T (fits binary64 (fin s m e)) → T (fits binary64 (fin s n d)) → (r : Bool)
      → later_wins (fin s m e) (fin s n d) ≡ r → Ranked r (rank (fin s m e)) (rank (fin s n d))
  unfolding later_wins lt eq
  same_sign true X Y r i =
      downward r X Y
      (ordered second first (eqb first second)
      (λ (h : eqb first second ≡ true). sym (eqb-true first second h))
      (λ (h : eqb first second ≡ false) (k : second ≡ first). eqb-false first second h (sym k)) r
      (ap (cond (ltb second first) true) (sym (flat-tie true (eqb first second) refl)) ∙ i))
  same_sign false X Y r i =
      upward r X Y
      (ordered first second (eqb first second) (eqb-true first second) (eqb-false first second) r
      (ap (cond (ltb first second) true) (sym (flat-tie false (eqb first second) refl)) ∙ i))

  -- of two zeros the one with the sign is the lower
  no_size : (k n : ℕ) (d : ℤ) → 0 < k → n * up d * k ≡ 0 → n ≡ 0
  no_size k zero d K h = refl
  no_size k (suc n) d K h = absurd (clash (suc n * up d * k) h (mul-pos (mul-pos (omega arith) (up_pos d)) K))
    where
      clash : (a : ℕ) → a ≡ 0 → 0 < a → ⊥
      clash a h l = omega arith

  infinite : (s : Bool) (n : ℕ) (d : ℤ) → n ≡ 0 → one ⊘ fin s n d ≡ inf s
  unfolding div of_bits
  infinite true n d h = rw h
  infinite false n d h = rw h

  -- where both sizes are zero
  apart-zeros : (s t : Bool) → first ≡ 0 → second ≡ 0
      → (eqb first second && (false || eqb first 0) && not (lt (one ⊘ fin t n d) (one ⊘ fin s m e)))
      ≡ not (lt (inf t) (inf s))
  apart-zeros s t h k =
      let n-none = no_size (down e) n d (down_pos e) k in
      let m-none = no_size (down d) m e (down_pos d) h in
      rw (h, k, infinite t n d n-none, infinite s m e m-none)

  minus_plus : later_wins (fin true m e) (fin false n d) ≡ true
  unfolding later_wins lt eq
  minus_plus = go (ltb 0 (first + second)) refl
    where
      none : (a b : ℕ) → a + b ≤ 0 → (a ≡ 0) × (b ≡ 0)
      none a b h = (omega arith, omega arith)

      go : (l : Bool) → ltb 0 (first + second) ≡ l
          → cond l true
          (eqb first second && (false || eqb first 0) && not (lt (one ⊘ fin false n d) (one ⊘ fin true m e))) ≡ true
      go true h = refl
      go false h = let z = none first second (ltb-false 0 (first + second) h) in apart-zeros true false z.0 z.1

  plus-minus : later_wins (fin false m e) (fin true n d) ≡ false
  unfolding later_wins lt eq
  plus-minus = go (eqb first second) refl (eqb first 0) refl
    where
      go : (p : Bool) → eqb first second ≡ p → (q : Bool) → eqb first 0 ≡ q
          → (eqb first second && (false || eqb first 0) && not (lt (one ⊘ fin true n d) (one ⊘ fin false m e))) ≡ false
      go true h true k =
          apart-zeros false true (eqb-true first 0 k) (sym (eqb-true first second h) ∙ eqb-true first 0 k)
      go true h false k = rw (h, k)
      go false h q k = rw h

-- ---- THE ORDER
-- a finite value lies between the infinities
between : (s : Bool) (m : ℕ) (e : ℤ) → T (fits binary64 (fin s m e))
    → (0 < rank (fin s m e)) × (rank (fin s m e) < middle + middle + 2)
unfolding rank
between true m e F = low _ middle (units-few true m e F)
  where
    low : (u k : ℕ) → u < k → (0 < k - u) × (k - u < k + k + 2)
    low u k h = (omega arith, omega arith)
between false m e F = high _ middle (units-few false m e F)
  where
    high : (u k : ℕ) → u < k → (0 < k + 1 + u) × (k + 1 + u < k + k + 2)
    high u k h = (omega arith, omega arith)

decided : (x y : Float) (v : Bool) → later_wins x y ≡ v → Ranked v (rank x) (rank y) → (r : Bool) → later_wins x y ≡ r
    → Ranked r (rank x) (rank y)
decided x y v h k r i = subst (λ (c : Bool). Ranked c (rank x) (rank y)) (sym h ∙ i) k

-- the later height wins where its rank is no lower
pub ranked : (x y : Float) → T (fits binary64 x) → T (fits binary64 y) → is_nan x ≡ false → is_nan y ≡ false → (r : Bool)
    → later_wins x y ≡ r → Ranked r (rank x) (rank y)
unfolding is_nan
ranked nan y X Y p q r i = absurd (true≢false p)
ranked (inf s) nan X Y p q r i = absurd (true≢false q)
ranked (fin s m e) nan X Y p q r i = absurd (true≢false q)
ranked (inf true) (inf true) X Y p q r i =
    decided (inf true) (inf true) true (unfold later_wins lt eq div of_bits in refl) (unfold rank in le_refl 0) r i
ranked (inf true) (inf false) X Y p q r i =
    decided (inf true) (inf false) true (unfold later_wins lt in refl) (unfold rank in zero-le) r i
ranked (inf false) (inf true) X Y p q r i =
    decided (inf false) (inf true) false (unfold later_wins lt eq in refl)
    (unfold rank in zero-lt-suc (middle + middle + 1)) r i
ranked (inf false) (inf false) X Y p q r i =
    decided (inf false) (inf false) true (unfold later_wins lt eq div of_bits in refl) (le_refl (rank (inf false))) r i
ranked (inf true) (fin t n d) X Y p q r i =
    decided (inf true) (fin t n d) true (unfold later_wins lt in refl) (unfold rank in zero-le) r i
ranked (inf false) (fin t n d) X Y p q r i =
    decided (inf false) (fin t n d) false (unfold later_wins lt eq in refl) (unfold rank in (between t n d Y).1) r i
ranked (fin s m e) (inf true) X Y p q r i =
    decided (fin s m e) (inf true) false (unfold later_wins lt eq in refl) (unfold rank in (between s m e X).0) r i
ranked (fin s m e) (inf false) X Y p q r i =
    decided (fin s m e) (inf false) true (unfold later_wins lt in refl)
    (unfold rank in le_of_lt (between s m e X).1) r i
ranked (fin true m e) (fin true n d) X Y p q r i = same_sign m e n d true X Y r i
ranked (fin false m e) (fin false n d) X Y p q r i = same_sign m e n d false X Y r i
ranked (fin true m e) (fin false n d) X Y p q r i =
    decided (fin true m e) (fin false n d) true (minus_plus m e n d)
    (unfold rank in under middle (units_of (fin true m e)) (units_of (fin false n d))) r i
  where
    under : (k u v : ℕ) → k - u ≤ k + 1 + v
    under k u v = omega arith
ranked (fin false m e) (fin true n d) X Y p q r i =
    decided (fin false m e) (fin true n d) false (plus-minus m e n d)
    (unfold rank in under middle (units_of (fin false m e)) (units_of (fin true n d))) r i
  where
    under : (k u v : ℕ) → k - v < k + 1 + u
    under k u v = omega arith
