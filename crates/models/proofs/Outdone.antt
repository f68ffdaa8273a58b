-- A count that can't be the highest: where the tail's log and the step of the survivals are not above 0, its log
-- probability is below whatever its survival is below. Assumes nothing.
use Prim.Native.Nat.{ℕ, ◌+◌, ◌-◌, ◌*◌, ◌≤◌, ◌<◌}
use mathlib.Core.Path.{◌≡◌, refl, sym, ap, ◌∙◌, subst}
use mathlib.Core.Bool.{Bool, true, false, not, ◌&&◌, ◌||◌, beq, cond, or-false, true≢false, false≢true}
use mathlib.Core.Logic.{⊎_elim}
use native.Mathlib.Nat.{mul-pos, add_comm, zero-mul, le_of_lt, eq_of_mul-eq-mul_right}
use native.Mathlib.Omega.{arith}
use borrow.Author.Tests.{ltb-true, ltb-false, lt-ltb, le-ltb, eq-eqb, ne_eqb}
use lib.Dec.{T, ltb, eqb, eqb→eq}
use lib.IntN.{ℤ, pos}
use lib.Ieee.{Float, nan, inf, fin, binary64, up, down, below, level, sum, neg, lt, le, eq, ne, is_nan, of_bits, add}
use lib.Ieee.{sub, round, fits}
use lib.Ieee.Compare.{differs_from_itself}
use lib.Ieee.Fits.{down_pos, add-fits, and_l}
use Rattle.routines.specs.Constants.{one, minus_one, zero as nought}
use Rattle.routines.specs.Expm1.{expm1_of}
use Rattle.routines.specs.Ln.{ln_of, NORMAL}
use Rattle.routines.specs.Ops.{◌⊕◌, ◌⊖◌}
use Rattle.routines.proofs.AnnexF.{ln-at-most-zero, expm1-at-most-zero, expm1-at-least-minus-one}
use Rattle.routines.proofs.Commutes.{add_commutes}
use Rattle.routines.proofs.Differences.{not-above, lt-through}
use Rattle.routines.proofs.Orders.{or_split, less-le}
use Rattle.routines.proofs.Patterns.{round-no-nan}
use Rattle.routines.proofs.Products.{or-le, zero-rounds}
use Rattle.routines.proofs.Tests.{yes}
use Rattle.helpers.specs.LogSums.{ln_sub_exp_of}
use Rattle.models.specs.Modes.{later_wins, with_nan, stands, higher_with}
use Rattle.models.specs.declared.modes.Standing.{Standing}

-- ---- what is not above y is below what y is below
turned : (s : Bool) (m : ℕ) (e : ℤ) (t : Bool) (n : ℕ) (d : ℤ)
    → lt (fin s m e) (fin t n d) ≡ lt (fin (not t) n d) (fin (not s) m e)
unfolding lt
turned false m e false n d = refl
turned false m e true n d = refl
turned true m e false n d = ap (ltb 0) (add_comm (m * up e * down d) (n * up d * down e))
turned true m e true n d = refl

pub under : (y x b : Float) → lt y b ≡ true → lt y x ≡ false → is_nan x ≡ false → lt x b ≡ true
unfolding lt is_nan
under nan x b h k l = absurd (false≢true h)
under (inf false) x nan h k l = absurd (false≢true h)
under (inf false) x (inf t) h k l = absurd (false≢true h)
under (inf false) x (fin t n d) h k l = absurd (false≢true h)
under (inf true) nan b h k l = absurd (true≢false l)
under (inf true) (inf true) b h k l = h
under (inf true) (inf false) b h k l = absurd (true≢false k)
under (inf true) (fin s m e) b h k l = absurd (true≢false k)
under (fin u a g) nan b h k l = absurd (true≢false l)
under (fin u a g) (inf true) nan h k l = absurd (false≢true h)
under (fin u a g) (inf true) (inf true) h k l = absurd (false≢true h)
under (fin u a g) (inf true) (inf false) h k l = refl
under (fin u a g) (inf true) (fin t n d) h k l = refl
under (fin u a g) (inf false) b h k l = absurd (true≢false k)
under (fin u a g) (fin s m e) nan h k l = absurd (false≢true h)
under (fin u a g) (fin s m e) (inf true) h k l = absurd (false≢true h)
under (fin u a g) (fin s m e) (inf false) h k l = refl
under (fin u a g) (fin s m e) (fin t n d) h k l =
    turned s m e t n d
    ∙ lt-through (fin (not t) n d) (fin (not u) a g) (not s) m e (sym (turned u a g t n d) ∙ h)
    (sym (turned u a g s m e) ∙ k)

-- ---- adding what is not above 0
rounded : (s : Bool) (a : ℕ) (t : Bool) (b c : ℕ) → is_nan (sum binary64 s a t b c) ≡ false
unfolding sum
rounded s a t b c = go (beq s t) (ltb a b)
  where
    clear : (b : Bool) → T (not b) → b ≡ false
    clear true h = absurd h
    clear false h = refl

    go : (p q : Bool)
        → is_nan (cond p (round binary64 s (a + b) c) (cond q (round binary64 t (b - a) c) (round binary64 (s && ltb b a) (a - b) c))) ≡ false
    go true q = clear _ (round-no-nan binary64 s (a + b) c)
    go false true = clear _ (round-no-nan binary64 t (b - a) c)
    go false false = clear _ (round-no-nan binary64 (s && ltb b a) (a - b) c)

number : (s : Bool) (m : ℕ) (e : ℤ) (t : Bool) (n : ℕ) (d : ℤ) → is_nan (fin s m e ⊕ fin t n d) ≡ false
unfolding add
number s m e t n d = rounded s (m * up e * down d) t (n * up d * down e) (down e * down d)

flat : (w g : ℕ) → w * 1 ≤ 0 * g → w ≡ 0
flat w g h = omega arith

-- a number of either sign, less what is not negative
opened : (m : ℕ) (e : ℤ) (n : ℕ) (d : ℤ) (s : Bool) → T (fits binary64 (fin s m e))
    → lt (fin s m e) (fin s m e ⊕ fin true n d) ≡ false
unfolding sub neg
opened m e n d s F = not-above m e n d s F

zeros-level : (m : ℕ) (e : ℤ) → m * up e ≡ 0 → lt (fin true m e) (fin false 0 (pos 0)) ≡ false
unfolding lt
zeros-level m e h = le-ltb 0 (m * up e * 1 + 0 * 1 * down e) (empty (m * up e) (down e) h)
  where
    empty : (w g : ℕ) → w ≡ 0 → w * 1 + 0 * 1 * g ≤ 0
    empty w g h = omega arith

-- a zero without a sign adds what one with a sign adds, but for the sign of a zero
module _ (m : ℕ) (e : ℤ) (n : ℕ) (d : ℤ) (h : n * up d ≡ 0) where
  abbrev own : ℕ
  own = m * up e * down d

  abbrev more : ℕ
  more = n * up d * down e

  abbrev all : ℕ
  all = down e * down d

  nothing : more ≡ 0
  nothing = ap (λ (z : ℕ). z * down e) h ∙ zero-mul (down e)

  same : own + more ≡ own - more
  same = alike own more nothing
    where
      alike : (a b : ℕ) → b ≡ 0 → a + b ≡ a - b
      alike a b h = omega arith

  not-less : ltb own more ≡ false
  not-less = le-ltb own more (at-most own more nothing)
    where
      at-most : (a b : ℕ) → b ≡ 0 → b ≤ a
      at-most a b h = omega arith

  zero-added : (s : Bool) → T (fits binary64 (fin s m e)) → lt (fin s m e) (fin s m e ⊕ fin false n d) ≡ false
  unfolding add sum
  zero-added false F =
      subst (λ (k : ℕ). lt (fin false m e) (round binary64 false k all) ≡ false) (sym same) (rw not-less at (opened m e n d false F))
  zero-added true F = rw not-less (go (ltb more own) refl)
    where
      no_more : (a b : ℕ) → a ≤ b → b ≡ 0 → a ≡ 0
      no_more a b h k = omega arith

      gone : (a b : ℕ) → a ≡ 0 → a - b ≡ 0
      gone a b h = omega arith

      go : (b : Bool) → ltb more own ≡ b → lt (fin true m e) (round binary64 b (own - more) all) ≡ false
      go true q = subst (λ (k : ℕ). lt (fin true m e) (round binary64 true k all) ≡ false) same (opened m e n d true F)
      go false q =
          let void : own ≡ 0 = no_more own more (ltb-false more own q) nothing in
          subst (λ (r : Float). lt (fin true m e) r ≡ false)
          (sym (zero-rounds false (own - more) all (mul-pos (down_pos e) (down_pos d)) (gone own more void)))
          (zeros-level m e (eq_of_mul-eq-mul_right (down d) (down_pos d) (m * up e) 0 (void ∙ sym (zero-mul (down d)))))

falls : (b x y : Float) → T (fits binary64 x) → lt x b ≡ true → le y nought ≡ true → lt (x ⊕ y) b ≡ true
unfolding lt le eq of_bits add is_nan
falls b nan y F h k = absurd (false≢true h)
falls nan (inf false) y F h k = absurd (false≢true h)
falls (inf t) (inf false) y F h k = absurd (false≢true h)
falls (fin t n d) (inf false) y F h k = absurd (false≢true h)
falls b (inf true) nan F h k = absurd (false≢true k)
falls b (inf true) (inf true) F h k = h
falls b (inf true) (inf false) F h k = absurd (false≢true k)
falls b (inf true) (fin t n d) F h k = h
falls b (fin s m e) nan F h k = absurd (false≢true k)
falls b (fin s m e) (inf true) F h k = under (fin s m e) (inf true) b h refl refl
falls b (fin s m e) (inf false) F h k = absurd (false≢true k)
falls b (fin s m e) (fin true n d) F h k =
    under (fin s m e) (fin s m e ⊕ fin true n d) b h (opened m e n d s F) (number s m e true n d)
falls b (fin s m e) (fin false n d) F h k =
    under (fin s m e) (fin s m e ⊕ fin false n d) b h
    (zero-added m e n d (flat (n * up d) (down d) (or-le (n * up d * 1) (0 * down d) (yes k))) s F) (number s m e false n d)

-- ---- ln(-expm1(x)) for x not above 0
module _ (s : Bool) (m : ℕ) (e : ℤ) (h : m * up e ≡ 0) where
  times : (k : ℕ) → m * up e * k ≡ 0
  times k = ap (λ (z : ℕ). z * k) h ∙ zero-mul k

  not-normal : le NORMAL (fin s m e) ≡ false
  unfolding le lt eq of_bits
  not-normal = small s _ _ (size (down e) (down_pos e)) (times _)
    where
      size : (d : ℕ) → 0 < d → 0 < 1 * 1 * d
      size d h = omega arith

      small : (s : Bool) (a b : ℕ) → 0 < a → b ≡ 0 → (below false a s b || level false a s b) ≡ false
      small false a b p q = rw (le-ltb a b (omega arith), ne_eqb a b (λ (z : a ≡ b). absurd (omega arith)))
      small true a b p q = rw (ne_eqb a b (λ (z : a ≡ b). absurd (omega arith)))

  not-positive : lt nought (fin s m e) ≡ false
  unfolding lt of_bits
  not-positive = flat s _ _ (times 1)
    where
      flat : (s : Bool) (a b : ℕ) → b ≡ 0 → below false a s b ≡ false
      flat false a b q = le-ltb a b (omega arith)
      flat true a b q = refl

  is_zero : eq (fin s m e) nought ≡ true
  unfolding eq of_bits
  is_zero = even s _ _ (times 1) (zero-mul (down e))
    where
      even : (s : Bool) (a b : ℕ) → a ≡ 0 → b ≡ 0 → level s a false b ≡ true
      even false a b p q = rw (eq-eqb a b (p ∙ sym q))
      even true a b p q = rw (eq-eqb a b (p ∙ sym q), eq-eqb a 0 p)

  zero-log : ln_of (fin s m e) ≡ inf true
  unfolding ln_of
  zero-log = rw (not-normal, not-positive, is_zero)

-- what is -1 has the size 1
minus-one-size : (m : ℕ) (e : ℤ) → eq minus_one (fin true m e) ≡ true → m * up e * 1 ≡ 1 * 1 * down e
unfolding eq of_bits neg
minus-one-size m e l = sym (eqb→eq (1 * 1 * down e) (m * up e * 1) (and_l (eqb (1 * 1 * down e) (m * up e * 1)) true (yes l)))

log-falls : (y : Float) → le y nought ≡ true → le minus_one y ≡ true → le (ln_of (neg y)) nought ≡ true
unfolding le lt eq of_bits neg
log-falls nan h k = absurd (false≢true h)
log-falls (inf true) h k = absurd (false≢true k)
log-falls (inf false) h k = absurd (false≢true h)
log-falls (fin s m e) h k = go (lt nought (fin (not s) m e)) refl
  where
    to_one : (s : Bool) → le minus_one (fin s m e) ≡ true → le (fin (not s) m e) one ≡ true
    to_one false k = less-le (fin true m e) one (lt-ltb 0 _ (some (m * up e) (down e) (down_pos e)))
      where
        some : (w g : ℕ) → 0 < g → 0 < w * 1 + 1 * 1 * g
        some w g G = omega arith
    to_one true k =
        ⊎_elim (λ l. less-le (fin false m e) one l)
        (λ l. rw (eq-eqb (m * up e * 1) (1 * 1 * down e) (minus-one-size m e l)) (last (ltb (m * up e * 1) (1 * 1 * down e))))
        (or_split _ _ k)
      where
        last : (b : Bool) → (b || true) ≡ true
        last true = refl
        last false = refl

    void : (s : Bool) → le (fin s m e) nought ≡ true → lt nought (fin (not s) m e) ≡ false → m * up e ≡ 0
    void false h l = flat (m * up e) (down e) (or-le (m * up e * 1) (0 * down e) (yes h))
    void true h l = flat (m * up e) (down e) (ltb-false (0 * down e) (m * up e * 1) l)

    go : (b : Bool) → lt nought (fin (not s) m e) ≡ b → le (ln_of (fin (not s) m e)) nought ≡ true
    go true l = ln-at-most-zero (fin (not s) m e) l (to_one s k)
    go false l = subst (λ (z : Float). le z nought ≡ true) (sym (zero-log (not s) m e (void s h l))) refl

-- ---- THE LAW
step-number : (high low : Float) → le (low ⊖ high) nought ≡ true → ne low low ≡ false
unfolding le lt eq sub add
step-number high low s = go (ne low low) refl
  where
    go : (c : Bool) → ne low low ≡ c → c ≡ false
    go false e = refl
    go true e =
        absurd (false≢true (sym (ap (λ (z : Float). le (z ⊖ high) nought) (differs_from_itself low (yes e))) ∙ s))

pub outdone : (tail high low b : Float) → T (fits binary64 high) → le tail nought ≡ true → lt high b ≡ true
    → lt high low ≡ false → le (low ⊖ high) nought ≡ true → lt (tail ⊕ ln_sub_exp_of high low) b ≡ true
unfolding ln_sub_exp_of
outdone tail high low b F t h l s =
    subst (λ (z : Float). lt z b ≡ true) (add_commutes binary64 _ tail) (rw (l, step-number high low s) (go (eq high (inf true))))
  where
    log : Float
    log = ln_of (neg (expm1_of (low ⊖ high)))

    low-log : le log nought ≡ true
    low-log = log-falls _ (expm1-at-most-zero (low ⊖ high) s) (expm1-at-least-minus-one (low ⊖ high) s)

    go : (c : Bool) → lt (cond c high (high ⊕ log) ⊕ tail) b ≡ true
    go true = falls b high tail F h t
    go false = falls b (high ⊕ log) tail (add-fits binary64 high log) (falls b high log F h low-log) t

-- ---- what is below the best leaves it as it is
pub asymmetric : (x y : Float) → lt x y ≡ true → (lt y x ≡ false) × (eq y x ≡ false)
unfolding lt eq
asymmetric nan y h = absurd (false≢true h)
asymmetric (inf true) nan h = absurd (false≢true h)
asymmetric (inf true) (inf true) h = absurd (false≢true h)
asymmetric (inf true) (inf false) h = (refl, refl)
asymmetric (inf true) (fin t n d) h = (refl, refl)
asymmetric (inf false) nan h = absurd (false≢true h)
asymmetric (inf false) (inf t) h = absurd (false≢true h)
asymmetric (inf false) (fin t n d) h = absurd (false≢true h)
asymmetric (fin s m e) nan h = absurd (false≢true h)
asymmetric (fin s m e) (inf true) h = absurd (false≢true h)
asymmetric (fin s m e) (inf false) h = (refl, refl)
asymmetric (fin s m e) (fin t n d) h = go s t _ _ h
  where
    go : (s t : Bool) (a b : ℕ) → below s a t b ≡ true → (below t b s a ≡ false) × (level t b s a ≡ false)
    go false false a b h =
        let p : a < b = ltb-true a b h in
        (le-ltb b a (le_of_lt p), rw (ne_eqb b a (λ (z : b ≡ a). absurd (omega arith))))
    go false true a b h = absurd (false≢true h)
    go true false a b h =
        let p : 0 < a + b = ltb-true 0 (a + b) h in
        (refl, apart (eqb b a) refl p)
      where
        apart : (c : Bool) → eqb b a ≡ c → 0 < a + b → (c && eqb b 0) ≡ false
        apart false e p = refl
        apart true e p =
            let q : b ≡ a = eqb→eq b a (yes e) in
            ne_eqb b 0 (λ (z : b ≡ 0). absurd (omega arith))
    go true true a b h =
        let p : b < a = ltb-true b a h in
        (le-ltb a b (le_of_lt p), rw (ne_eqb b a (λ (z : b ≡ a). absurd (omega arith))))

number-self : (x b : Float) → lt x b ≡ true → ne x x ≡ false
unfolding lt
number-self x b h = go (ne x x) refl
  where
    go : (c : Bool) → ne x x ≡ c → c ≡ false
    go false e = refl
    go true e = absurd (false≢true (sym (ap (λ (z : Float). lt z b) (differs_from_itself x (yes e))) ∙ h))

pub unmoved : (best : Standing) (count : ℕ) (here : Float) → lt here best.log ≡ true
    → best ≡ higher_with here count best
unfolding higher_with later_wins with_nan
unmoved best count here h =
    let apart = asymmetric here best.log h in
    rw (apart.0, apart.1, number-self here best.log h)
    (ap (stands best.count best.log) (sym (or-false best.nan)))
