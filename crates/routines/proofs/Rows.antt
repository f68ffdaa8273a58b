-- A `match` on a row's number as a table: what its last arm, with no key, tells, and the pattern of a row's number below
-- zero. Assumes nothing.
use Rattle.std.proofs.Common.{◌≡◌, ℕ, zero, suc, ◌<◌, ◌≤◌, sym, ap, zero-le, arith}
use mathlib.Core.Path.{refl}
use mathlib.Core.Bool.{Bool, true, false, cond}
use Prim.Native.Nat.{◌+◌, ◌%◌, ◌/◌, ◌^◌}
use lib.Dec.{eqb}
use borrow.Author.Tests.{le-leb, lt-leb}
use lib.Ieee.{nan, inf, binary64, neg, of_bits, of_fields, odd, low, hid, ones}

-- n is none of the keys 0 to k - 1, in the order in which the arms were passed
abbrev pub Passed : ℕ → ℕ → Type 0
Passed zero n = Unit {0}
Passed (suc k) n = Passed k n × (n ≡ k → ⊥)

pub passed : (k n : ℕ) → Passed k n → k ≤ n
passed zero n p = zero-le
passed (suc k) n p = further k n (passed k n p.0) p.1
  where
    further : (k n : ℕ) → k ≤ n → (n ≡ k → ⊥) → suc k ≤ n
    further k n h e = omega arith

-- of k + 1 rows the last is left
pub last_row : {A : Type 0} (g : ℕ → A) (k n : ℕ) → n < suc k → Passed k n → g k ≡ g n
last_row g k n h p = ap g (ends k n h (passed k n p))
  where
    ends : (k n : ℕ) → n < suc k → k ≤ n → k ≡ n
    ends k n h l = omega arith

-- ---- a row's number below zero: its pattern has the sign's bit set
odd-turned : (d q k l : ℕ) → odd d true q k l ≡ neg (odd d false q k l)
unfolding odd neg
odd-turned d zero k l = refl
odd-turned d (suc q) k l = refl

fields-turned : (x t : ℕ) → of_fields binary64 true x t ≡ neg (of_fields binary64 false x t)
unfolding of_fields neg
fields-turned zero t = odd-turned 53 t 0 (low binary64)
fields-turned (suc x) t = go (eqb (suc x) (ones binary64)) (eqb t 0)
  where
    go : (b z : Bool) → cond b (cond z (inf true) nan) (odd 53 true (hid binary64 + t) x (low binary64)) ≡ neg (cond b (cond z (inf false) nan) (odd 53 false (hid binary64 + t) x (low binary64)))
    go true true = refl
    go true false = refl
    go false z = odd-turned 53 (hid binary64 + t) x (low binary64)

pub negative : (p : ℕ) → p < 2 ^ 63 → neg (of_bits binary64 p) ≡ of_bits binary64 (p + 2 ^ 63)
unfolding of_bits
negative p h =
    let set = le-leb (2 ^ 63) (p + 2 ^ 63) (omega arith) in
    let clear = lt-leb (2 ^ 63) p h in
    let same_field : (p + 2 ^ 63) % 2 ^ 63 / 2 ^ 52 ≡ p % 2 ^ 63 / 2 ^ 52 = ap (λ (n : ℕ). n / 2 ^ 52) (omega arith) in
    let same_digits : (p + 2 ^ 63) % 2 ^ 52 ≡ p % 2 ^ 52 = omega arith in
    rw (set, clear, same_field, same_digits) (sym (fields-turned (p % 2 ^ 63 / 2 ^ 52) (p % 2 ^ 52)))
