-- Where no row of a table breaks its rule, each row keeps it. Assumes nothing.
use mathlib.Core.Path.{◌≡◌, sym, ◌∙◌, subst}
use mathlib.Core.Bool.{Bool, true, false}
use mathlib.Core.List.{List, [], ◌∷◌}
use Prim.Native.Nat.{ℕ, zero, suc, ◌+◌, ◌<◌}
use native.Mathlib.Nat.{add-zero, zero-add, add-suc, suc-add, le_of_suc-le-suc, not-suc-le-zero}
use native.Mathlib.Omega.{arith}
use lib.Dec.{T}
use lib.ListN.{length, get_or}
use Rattle.meaning.specs.Table.{keep_if, wrong}

first_holds : (b : Bool) (i : ℕ) (is : List ℕ) → keep_if b i is ≡ [] → T b
first_holds true i is e = tt
first_holds false i is e = let z : ◌≡◌ {A = ℕ} 0 1 = cc in absurd (never z)
  where
    never : ◌≡◌ {A = ℕ} 0 1 → ⊥
    never z = omega arith

rest-holds : (b : Bool) (i : ℕ) (is : List ℕ) → keep_if b i is ≡ [] → is ≡ []
rest-holds true i is e = e
rest-holds false i is e = cc

module _ {A : Type 0} (rule : ℕ → A → Bool) (other : A) where
  from : (xs : List A) (i : ℕ) → wrong rule i xs ≡ [] → (k : ℕ) → k < length xs → T (rule (i + k) (get_or xs k other))
  from [] i t k h = absurd (not-suc-le-zero h)
  from (x ∷ xs) i t zero h = subst (λ (m : ℕ). T (rule m x)) (sym (add-zero i)) (first_holds (rule i x) i (wrong rule (suc i) xs) t)
  from (x ∷ xs) i t (suc k) h =
      subst (λ (m : ℕ). T (rule m (get_or xs k other))) (suc-add i k ∙ sym (add-suc i k)) (from xs (suc i) (rest-holds (rule i x) i (wrong rule (suc i) xs) t) k (le_of_suc-le-suc h))

  -- `other` is what stands past the end, and is never met
  pub each : (xs : List A) → wrong rule 0 xs ≡ [] → (k : ℕ) → k < length xs → T (rule k (get_or xs k other))
  each xs t k h = subst (λ (m : ℕ). T (rule m (get_or xs k other))) (zero-add k) (from xs 0 t k h)
