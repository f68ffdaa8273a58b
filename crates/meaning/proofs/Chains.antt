-- A chain that is put together from segments: the first segment that has a number decides, and one that has none is
-- passed over. So each proof about a chain goes from segment to segment and counts no places. Assumes nothing.
use Prim.Native.Nat.{ℕ, zero, suc, ◌<◌}
use mathlib.Core.Path.{◌≡◌, refl, sym, ap, ◌∙◌}
use mathlib.Core.Bool.{Bool, true, false, true≢false}
use mathlib.Core.List.{List, [], ◌∷◌, ◌++◌}
use native.Mathlib.Omega.{arith}
use Rattle.meaning.specs.Reply.{Reply, refuse, give, Test, test, chain, first_of}
use Rattle.meaning.proofs.Replies.{answer-not-refused}

-- no test has the number 0, which stands for none
abbrev pub numbered : List Test → Bool
numbered [] = true
numbered (test b zero ∷ ts) = false
numbered (test b (suc n) ∷ ts) = numbered ts

not-suc : (m : ℕ) → 0 ≡ suc m → ⊥
not-suc m e = omega arith

-- ---- one segment in front of the rest
module _ (xs ys : List Test) where
  pub stops : (n : ℕ) → n ≡ first_of xs → 0 < n → n ≡ first_of (xs ++ ys)
  stops = go xs
    where
      go : (xs : List Test) (n : ℕ) → n ≡ first_of xs → 0 < n → n ≡ first_of (xs ++ ys)
      go [] n e h = absurd (omega arith)
      go (test true m ∷ ts) n e h = e
      go (test false m ∷ ts) n e h = go ts n e h

  pub goes_on : numbered xs ≡ true → 0 ≡ first_of xs → (n : ℕ) → n ≡ first_of ys → n ≡ first_of (xs ++ ys)
  goes_on p e n h = h ∙ sym (go xs p e)
    where
      go : (xs : List Test) → numbered xs ≡ true → 0 ≡ first_of xs → first_of (xs ++ ys) ≡ first_of ys
      go [] p e = refl
      go (test true zero ∷ ts) p e = absurd (true≢false (sym p))
      go (test true (suc m) ∷ ts) p e = absurd (not-suc m e)
      go (test false zero ∷ ts) p e = absurd (true≢false (sym p))
      go (test false (suc m) ∷ ts) p e = go ts p e

  -- where the whole has no number, neither has a part
  pub parts : numbered xs ≡ true → 0 ≡ first_of (xs ++ ys) → (0 ≡ first_of xs) × (0 ≡ first_of ys)
  parts = go xs
    where
      go : (xs : List Test) → numbered xs ≡ true → 0 ≡ first_of (xs ++ ys) → (0 ≡ first_of xs) × (0 ≡ first_of ys)
      go [] p e = (refl, e)
      go (test true zero ∷ ts) p e = absurd (true≢false (sym p))
      go (test true (suc m) ∷ ts) p e = absurd (not-suc m e)
      go (test false zero ∷ ts) p e = absurd (true≢false (sym p))
      go (test false (suc m) ∷ ts) p e = go ts p e

-- ---- what a call answers by its chain's number
module _ {A : Type 0} (r : Reply A) where
  pub chain-refused : (ts : List Test) (n : ℕ) → n ≡ first_of ts → 0 < n → chain ts r ≡ refuse n
  chain-refused [] n e h = let z : n ≡ 0 = e in absurd (omega arith)
  chain-refused (test true m ∷ ts) n e h = ap refuse (sym e)
  chain-refused (test false m ∷ ts) n e h = chain-refused ts n e h

  pub chain-passed : (ts : List Test) → numbered ts ≡ true → 0 ≡ first_of ts → chain ts r ≡ r
  chain-passed [] p e = refl
  chain-passed (test true zero ∷ ts) p e = absurd (true≢false (sym p))
  chain-passed (test true (suc m) ∷ ts) p e = absurd (not-suc m e)
  chain-passed (test false zero ∷ ts) p e = absurd (true≢false (sym p))
  chain-passed (test false (suc m) ∷ ts) p e = chain-passed ts p e

-- where there is an answer, the chain has no number
pub gave-passed : {A : Type 0} (a b : A) (ts : List Test) → chain ts (give a) ≡ give b → 0 ≡ first_of ts
gave-passed a b [] e = refl
gave-passed a b (test true n ∷ ts) e = absurd (answer-not-refused (sym e))
gave-passed a b (test false n ∷ ts) e = gave-passed a b ts e
