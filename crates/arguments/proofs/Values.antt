-- Digits and their value: byte by byte, in two parts, and how large it is. Assumes nothing.
use Prim.Native.Nat.{ℕ, suc, ◌+◌, ◌*◌, ◌-◌, ◌^◌, ◌≤◌, ◌<◌}
use mathlib.Core.Path.{◌≡◌, refl, sym, ap, ◌∙◌, subst}
use mathlib.Core.Bool.{Bool, true, false, ◌&&◌, true≢false, and_assoc}
use mathlib.Core.List.{List, [], ◌∷◌, ◌++◌}
use native.Mathlib.Nat.{pow-suc, pow-le-pow_right, zero-lt-suc, lt_of_lt_of_le}
use native.Mathlib.Omega.{arith}
use lib.Dec.{leb}
use lib.ListN.{length, drop, get_or}
use lib.Seq.{drop-cons}
use borrow.Author.Tests.{leb-true, le-leb}
use Rattle.std.specs.List.{list_all}
use Rattle.listing.specs.Decimal.{value_of, Digits}
use Rattle.arguments.specs.Numbers.{is_digit, all_digits}

-- both of two tests
pub both : (a b : Bool) → (a && b) ≡ true → (a ≡ true) × (b ≡ true)
both true b e = (refl, e)
both false b e = absurd (true≢false (sym e))

pub in-range : (b : ℕ) → is_digit b ≡ true → (48 ≤ b) × (b ≤ 57)
in-range b e = let t = both (leb 48 b) (leb b 57) e in (leb-true 48 b t.0, leb-true b 57 t.1)

-- ---- byte by byte
module _ (word : List ℕ) (k : ℕ) (h : k < length word) where
  pub digits-at : all_digits (drop k word) ≡ (is_digit (get_or word k 0) && all_digits (drop (suc k) word))
  unfolding all_digits
  digits-at = rw (drop-cons word k 0 h)

  pub value-at : (v : ℕ) → value_of v (drop k word) ≡ value_of (v * 10 + (get_or word k 0 - 48)) (drop (suc k) word)
  value-at v = rw (drop-cons word k 0 h)

  pub digit-here : all_digits (drop k word) ≡ true → (48 ≤ get_or word k 0) × (all_digits (drop (suc k) word) ≡ true)
  digit-here e =
      let t = both (is_digit (get_or word k 0)) (all_digits (drop (suc k) word)) (sym digits-at ∙ e) in
      ((in-range (get_or word k 0) t.0).0, t.1)

-- the test as std's `all` has it
pub digits-all : (word : List ℕ) → list_all is_digit word ≡ all_digits word
unfolding all_digits
digits-all [] = refl
digits-all (d ∷ ds) = ap (λ (t : Bool). is_digit d && t) (digits-all ds)

-- ---- in two parts
pub digits-join : (a b : List ℕ) → all_digits (a ++ b) ≡ (all_digits a && all_digits b)
unfolding all_digits
digits-join [] b = refl
digits-join (x ∷ a) b =
    ap (λ (t : Bool). is_digit x && t) (digits-join a b) ∙ sym (and_assoc (is_digit x) (all_digits a) (all_digits b))

pub value-join : (v : ℕ) (a b : List ℕ) → value_of v (a ++ b) ≡ value_of (value_of v a) b
value-join v [] b = refl
value-join v (x ∷ a) b = value-join (v * 10 + (x - 48)) a b

-- ---- the tests, and what listing says by `Digits`
pub are-digits : (ds : List ℕ) → all_digits ds ≡ true → Digits ds
unfolding all_digits
are-digits [] e = tt
are-digits (d ∷ ds) e =
    let t = both (is_digit d) (all_digits ds) e in
    let r = in-range d t.0 in
    (r.0, r.1, are-digits ds t.1)

pub digits_are : (ds : List ℕ) → Digits ds → all_digits ds ≡ true
unfolding all_digits
digits_are [] a = refl
digits_are (d ∷ ds) a = rw (le-leb 48 d a.0, le-leb d 57 a.1) (digits_are ds a.2)

pub digits-front : (a b : List ℕ) → Digits (a ++ b) → Digits a
digits-front [] b d = tt
digits-front (x ∷ a) b d = (d.0, d.1, digits-front a b d.2)

-- ---- how large it is
value_grows : (v : ℕ) (ds : List ℕ) → v ≤ value_of v ds
value_grows v [] = omega arith
value_grows v (d ∷ ds) = let g = value_grows (v * 10 + (d - 48)) ds in omega arith

pub value-next : (word : List ℕ) (k v : ℕ) → k < length word → v * 10 + (get_or word k 0 - 48) ≤ value_of v (drop k word)
value-next word k v h = rw (value-at word k h v) (value_grows (v * 10 + (get_or word k 0 - 48)) (drop (suc k) word))

value-below : (j v : ℕ) (ds : List ℕ) → Digits ds → v < 10 ^ j → value_of v ds < 10 ^ (length ds + j)
value-below j v [] a h = rw (zero-plus j) h
  where
    zero-plus : (n : ℕ) → 0 + n ≡ n
    zero-plus n = omega arith
value-below j v (d ∷ ds) a h =
    let e : length ds + suc j ≡ suc (length ds) + j = omega arith in
    subst (λ (n : ℕ). value_of (v * 10 + (d - 48)) ds < 10 ^ n) e
    (value-below (suc j) (v * 10 + (d - 48)) ds a.2 (rw pow-suc (next (10 ^ j) a.1 h)))
  where
    next : (p : ℕ) → d ≤ 57 → v < p → v * 10 + (d - 48) < p * 10
    next p l g = omega arith

pub power_small : (k j : ℕ) → k ≤ j → 10 ^ k ≤ 10 ^ j
power_small k j h = pow-le-pow_right (zero-lt-suc 9) h

pub value-small : (ds : List ℕ) → Digits ds → length ds ≤ 15 → value_of 0 ds < 10 ^ 15
value-small ds a h =
    lt_of_lt_of_le (value-below 0 0 ds a (zero-lt-suc 0)) (power_small (length ds + 0) 15 (omega arith))
