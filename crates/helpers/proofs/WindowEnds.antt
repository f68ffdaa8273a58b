-- A call that asks for a window end before anything else answers as its chain says: the number is the window end's, and
-- a count that comes back is the one asked for. Assumes nothing.
use Prim.Native.Nat.{ℕ, ◌≤◌}
use mathlib.Core.Path.{◌≡◌, refl, sym, ap, subst}
use mathlib.Core.List.{List, [], ◌∷◌, ◌++◌}
use mathlib.Core.Bool.{true, false}
use native.Mathlib.Omega.{arith}
use borrow.Author.Tests.{le-ltb, ne_eqb}
use Rattle.std.proofs.Math.Bridge.{le_prop}
use Rattle.meaning.specs.Reply.{Reply, refuse, give, Test, test, chain, first_of}
use Rattle.meaning.specs.Rows.{most, window_tests}
use Rattle.meaning.proofs.Chains.{gave-passed}
use Rattle.meaning.proofs.Replies.{gave-answer, answer-not-refused, same_number}
use Rattle.meaning.proofs.Rows.{window-passed}
use Rattle.helpers.specs.WindowEnds.{window_end_of}
use Rattle.helpers.specs.declared.window_ends.WindowEnd.{WindowEnd}

-- window ends of the same count are the same: a ghost field is no part that could differ
ends-same : (m n : ℕ) → m ≡ n → (p : 1 ≤ m) (q : 1 ≤ n)
    → ◌≡◌ {A = WindowEnd} (record { count = m; some = p }) (record { count = n; some = q })
ends-same m n e p =
    subst (λ (k : ℕ). (q : 1 ≤ k) → ◌≡◌ {A = WindowEnd} (record { count = m; some = p }) (record { count = k; some = q }))
    e (λ (q : 1 ≤ m). ap (λ (h : 1 ≤ m). record { count = m; some = h }) (le_prop p q))

pub count_same : (a b : WindowEnd) → a.count ≡ b.count → a ≡ b
count_same a b e = ends-same a.count b.count e a.some b.some

pub window-end-is : (count : ℕ) → 1 ≤ count → count ≤ most → window_end_of count ≡ give count
unfolding window_end_of
window-end-is count h k =
    simp (le-ltb most count k, ne_eqb count 0 (λ (e : count ≡ 0). omega arith))

module _ {A : Type 0} (r : Reply A) (behind : List Test) where
  refused-through : (ts : List Test) (m n : ℕ) → refuse n ≡ chain ts (give m) → refuse n ≡ chain (ts ++ behind) r
  refused-through [] m n e = absurd (answer-not-refused (sym e))
  refused-through (test true k ∷ ts) m n e = cc
  refused-through (test false k ∷ ts) m n e = refused-through ts m n e

  given-through : (ts : List Test) (m n : ℕ) → give n ≡ chain ts (give m) → chain behind r ≡ chain (ts ++ behind) r
  given-through [] m n e = refl
  given-through (test true k ∷ ts) m n e = absurd (answer-not-refused e)
  given-through (test false k ∷ ts) m n e = given-through ts m n e

  -- the window's tests in front of others
  pub window_refused : (end n : ℕ) → refuse n ≡ window_end_of end → refuse n ≡ chain (window_tests end ++ behind) r
  unfolding window_end_of
  window_refused end n e = refused-through (window_tests end) end n e

  pub window_given : (end n : ℕ) → give n ≡ window_end_of end → chain behind r ≡ chain (window_tests end ++ behind) r
  unfolding window_end_of
  window_given end n e = given-through (window_tests end) end n e

pub window_count : (end n : ℕ) → give n ≡ window_end_of end → n ≡ end
unfolding window_end_of
window_count end n e = sym (gave-answer end n (window_tests end) (sym e))

pub window_in : (end n : ℕ) → give n ≡ window_end_of end → (end ≤ most) × (1 ≤ end)
unfolding window_end_of
window_in end n e = window-passed end (gave-passed end n (window_tests end) (sym e))

-- ---- by the number alone
module _ (behind : List Test) where
  number-through : (ts : List Test) (m n : ℕ) → refuse n ≡ chain ts (give m) → n ≡ first_of (ts ++ behind)
  number-through [] m n e = absurd (answer-not-refused (sym e))
  number-through (test true k ∷ ts) m n e = same_number e
  number-through (test false k ∷ ts) m n e = number-through ts m n e

  none-through : (ts : List Test) (m n : ℕ) → give n ≡ chain ts (give m) → first_of behind ≡ first_of (ts ++ behind)
  none-through [] m n e = refl
  none-through (test true k ∷ ts) m n e = absurd (answer-not-refused e)
  none-through (test false k ∷ ts) m n e = none-through ts m n e

  pub window_number : (end n : ℕ) → refuse n ≡ window_end_of end → n ≡ first_of (window_tests end ++ behind)
  unfolding window_end_of
  window_number end n e = number-through (window_tests end) end n e

  pub window_none : (end n : ℕ) → give n ≡ window_end_of end → first_of behind ≡ first_of (window_tests end ++ behind)
  unfolding window_end_of
  window_none end n e = none-through (window_tests end) end n e
