-- What a byte makes of a number, by cases: the laws of `take_byte_of`, one for each way that it can go, and what is
-- known where a number goes on or ends.
-- Assumes nothing.
use Prim.Native.Nat.{ℕ, zero, suc, ◌+◌, ◌%◌, ◌^◌, ◌≤◌, ◌<◌}
use mathlib.Core.Path.{◌≡◌, refl, sym, ap, subst}
use mathlib.Core.Bool.{Bool, true, false, ◌||◌, ◌&&◌}
use mathlib.Core.Logic.{⊎_elim}
use native.Mathlib.Omega.{arith}
use lib.Dec.{ltb, eqb}
use borrow.Author.Tests.{lt-ltb, le-ltb, eq-eqb, ne_eqb}
use Rattle.histogram.proofs.Tests.{below_or}
use Rattle.histogram.proofs.Weights.{weight-pos, weight-suc, ten-groups, group-fits}
use Rattle.histogram.specs.declared.number.Taken.{Taken}
use Rattle.histogram.specs.declared.number.Taken.TheVariants.{More, Whole, Wrong}
use Rattle.histogram.specs.Number.{Range, between, with_group, take_byte_of}

-- a last byte is its group
pub last-low : (byte : ℕ) → byte < 128 → byte % 128 ≡ byte
last-low byte h = omega arith

or-true : (a : Bool) → a || true ≡ true
or-true true = refl
or-true false = refl

no_zero : (byte groups : ℕ) → (byte ≡ 0 → 0 < groups → ⊥) → (eqb byte 0 && ltb 0 groups) ≡ false
no_zero zero groups z = le-ltb 0 groups (none groups (λ (h : 0 < groups). z refl h))
  where
    none : (g : ℕ) → (0 < g → ⊥) → g ≤ 0
    none g n = ⊎_elim (λ (h : 0 < g). absurd (n h)) (λ (h : g ≤ 0). h) (below_or 0 g)
no_zero (suc b) groups z = ap (λ (t : Bool). t && ltb 0 groups) (ne_eqb (suc b) 0 (never b))
  where
    never : (b : ℕ) → suc b ≡ 0 → ⊥
    never b e = omega arith

module _ (range : Range) (value groups byte : ℕ) where
  -- ---- a last group
  pub zero-behind : byte ≡ 0 → 0 < groups → take_byte_of range value groups byte ≡ Wrong
  unfolding take_byte_of
  zero-behind e h = let l : byte < 128 = omega arith in rw (lt-ltb byte 128 l, eq-eqb byte 0 e, lt-ltb 0 groups h)

  pub below-range : byte < 128 → with_group value groups byte < range.least → take_byte_of range value groups byte ≡ Wrong
  unfolding take_byte_of
  below-range l h = rw (lt-ltb byte 128 l, lt-ltb (with_group value groups byte) range.least h, or-true)

  pub ends : byte < 128 → (byte ≡ 0 → 0 < groups → ⊥) → range.least ≤ with_group value groups byte → with_group value groups byte ≤ range.most
      → take_byte_of range value groups byte ≡ Whole (with_group value groups byte)
  unfolding take_byte_of
  ends l z a b = rw (lt-ltb byte 128 l, no_zero byte groups z, le-ltb (with_group value groups byte) range.least a, le-ltb range.most (with_group value groups byte) b)

  -- ---- another to come
  pub goes-past : 128 ≤ byte → range.most < with_group value groups byte + 128 ^ suc groups → take_byte_of range value groups byte ≡ Wrong
  unfolding take_byte_of
  goes-past l h = rw (le-ltb byte 128 l, lt-ltb range.most (with_group value groups byte + 128 ^ suc groups) h)

  pub goes_on : 128 ≤ byte → with_group value groups byte + 128 ^ suc groups ≤ range.most → take_byte_of range value groups byte ≡ More (with_group value groups byte)
  unfolding take_byte_of
  goes_on l h = rw (le-ltb byte 128 l, le-ltb range.most (with_group value groups byte + 128 ^ suc groups) h)

  -- ---- either
  pub above-range : range.most < with_group value groups byte → take_byte_of range value groups byte ≡ Wrong
  unfolding take_byte_of
  above-range h = ⊎_elim (λ (l : byte < 128). rw (lt-ltb byte 128 l, lt-ltb range.most (with_group value groups byte) h, or-true)) (λ (g : 128 ≤ byte). goes-past g (omega arith)) (below_or byte 128)

pub ruleset laws = (zero-behind, below-range, ends, goes-past, goes_on, above-range, weight-suc, ten-groups, group-fits)

-- where no number may come, every byte is wrong
pub none-comes : (value groups byte : ℕ) → take_byte_of (between 1 0) value groups byte ≡ Wrong
none-comes value groups byte = ⊎_elim last (λ (g : 128 ≤ byte). goes-past (between 1 0) value groups byte g (let w = weight-pos (suc groups) in omega arith)) (below_or byte 128)
  where
    last : byte < 128 → take_byte_of (between 1 0) value groups byte ≡ Wrong
    last l = ⊎_elim (above-range (between 1 0) value groups byte) (λ (h : with_group value groups byte ≤ 0). below-range (between 1 0) value groups byte l (omega arith)) (below_or 0 (with_group value groups byte))

-- ---- the other way round: what is known where a byte ends a number, or goes on
pub record Ends (range : Range) (value groups byte n : ℕ) : Type 0 where
  pub last : byte < 128
  pub shortest : byte ≡ 0 → 0 < groups → ⊥
  pub sum : n ≡ with_group value groups byte
  pub low : range.least ≤ n
  pub high : n ≤ range.most

pub record GoesOn (range : Range) (value groups byte so_far : ℕ) : Type 0 where
  pub follows : 128 ≤ byte
  pub sum : so_far ≡ with_group value groups byte
  pub room : so_far + 128 ^ suc groups ≤ range.most

module _ (range : Range) (value groups byte : ℕ) where
  abbrev pub Told : Taken → Type 0
  Told (More v) = GoesOn range value groups byte v
  Told (Whole n) = Ends range value groups byte n
  Told Wrong = Unit {0}

  abbrev sum : ℕ
  sum = with_group value groups byte

  whole : byte < 128 → (byte ≡ 0 → 0 < groups → ⊥) → range.least ≤ sum → sum ≤ range.most → Told (take_byte_of range value groups byte)
  whole l z a b = subst Told (sym (ends range value groups byte l z a b)) (record { last = l; shortest = z; sum = refl; low = a; high = b })

  last-told : byte < 128 → range.least ≤ sum → sum ≤ range.most → Told (take_byte_of range value groups byte)
  last-told l a b =
      ⊎_elim (λ (p : 0 < byte). whole l (λ (z : byte ≡ 0) (g : 0 < groups). omega arith) a b)
      (λ (p : byte ≤ 0). ⊎_elim (λ (g : 0 < groups). subst Told (sym (zero-behind range value groups byte (omega arith) g)) tt) (λ (g : groups ≤ 0). whole l (λ (z : byte ≡ 0) (h : 0 < groups). omega arith) a b) (below_or 0 groups))
      (below_or 0 byte)

  in-range-told : byte < 128 → sum ≤ range.most → Told (take_byte_of range value groups byte)
  in-range-told l b = ⊎_elim (λ (h : sum < range.least). subst Told (sym (below-range range value groups byte l h)) tt) (λ (a : range.least ≤ sum). last-told l a b) (below_or sum range.least)

  follows-told : 128 ≤ byte → Told (take_byte_of range value groups byte)
  follows-told g =
      ⊎_elim (λ (h : range.most < sum + 128 ^ suc groups). subst Told (sym (goes-past range value groups byte g h)) tt)
      (λ (h : sum + 128 ^ suc groups ≤ range.most). subst Told (sym (goes_on range value groups byte g h)) (record { follows = g; sum = refl; room = h }))
      (below_or range.most (sum + 128 ^ suc groups))

  told : Told (take_byte_of range value groups byte)
  told =
      ⊎_elim (λ (h : range.most < sum). subst Told (sym (above-range range value groups byte h)) tt)
      (λ (b : sum ≤ range.most). ⊎_elim (λ (l : byte < 128). in-range-told l b) follows-told (below_or byte 128))
      (below_or range.most sum)

  -- THE LAW: what an answer tells
  pub tells : (t : Taken) → take_byte_of range value groups byte ≡ t → Told t
  tells t e = subst Told e told
