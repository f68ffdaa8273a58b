-- A loop that goes once over a slice and makes of each element something of what stood there: its invariant, and its
-- laws, one for each need of the loop. Assumes nothing.
use Prim.Native.Nat.{ℕ, ◌+◌, ◌≤◌, ◌<◌, zero-le, zero, suc}
use mathlib.Core.Path.{◌≡◌, refl, sym, ap, ◌∙◌}
use mathlib.Core.Logic.{⊎_elim}
use mathlib.Core.List.{List, [], ◌∷◌, map}
use native.Mathlib.Omega.{arith}
use native.Mathlib.Nat.{eq-or-lt_of_le, not-suc-le-zero, le_of_suc-le-suc}
use lib.ListN.{length, get_or, set, length-set}
use lib.Seq.{get_or-set_same, get_or-set_other, ext_get_or}

-- f i x is what becomes of the element x at i. Those below j are done, and the rest are as found; d stands past the end
pub record Passed {A : Type 0} (f : ℕ → A → A) (d : A) (found now : List A) (j : ℕ) : Type 0 where
  pub upto : j ≤ length found
  pub long : length now ≡ length found
  pub done : (i : ℕ) → i < j → get_or now i d ≡ f i (get_or found i d)
  pub left : (i : ℕ) → j ≤ i → get_or now i d ≡ get_or found i d

module _ {A : Type 0} (f : ℕ → A → A) (d : A) (found : List A) where
  pub begins : Passed f d found found 0
  begins =
      record {
        upto = zero-le;
        long = refl;
        done = λ (i : ℕ) (h : i < 0). absurd (omega arith);
        left = λ (i : ℕ) (h : 0 ≤ i). refl;
      }

  module _ {now : List A} {j : ℕ} (s : Passed f d found now j) where
    pub goes_on : (v : A) → j < length found → v ≡ f j (get_or now j d) → Passed f d found (set now j v) (j + 1)
    goes_on v h e =
        let l : length now ≡ length found = s.long in
        record {
          upto = omega arith;
          long = length-set now j v ∙ s.long;
          done = λ (i : ℕ) (k : i < j + 1). ⊎_elim (at-hand i) (passed i) (eq-or-lt_of_le (omega arith));
          left =
              λ (i : ℕ) (k : j + 1 ≤ i).
              get_or-set_other now j i v d (λ (p : i ≡ j). omega arith) ∙ s.left i (omega arith);
        }
      where
        at-hand : (i : ℕ) → i ≡ j → get_or (set now j v) i d ≡ f i (get_or found i d)
        at-hand i p =
            let l : length now ≡ length found = s.long in
            rw p (get_or-set_same now j v d (omega arith) ∙ e ∙ ap (f j) (s.left j (omega arith)))

        passed : (i : ℕ) → i < j → get_or (set now j v) i d ≡ f i (get_or found i d)
        passed i k = get_or-set_other now j i v d (λ (p : i ≡ j). omega arith) ∙ s.done i k

    pub ends : (all : List A) → length found ≤ j → length all ≡ length found → ((i : ℕ) → i < length found → get_or all i d ≡ f i (get_or found i d)) → now ≡ all
    ends all h l e =
        let m : length now ≡ length found = s.long in
        ext_get_or d now all (s.long ∙ sym l) (λ (i : ℕ) (k : i < length now). s.done i (omega arith) ∙ sym (e i (omega arith)))

-- an element of a list that each element is made of
pub map_at : {A : Type 0} (f : A → A) (d : A) (l : List A) (i : ℕ) → i < length l → get_or (map f l) i d ≡ f (get_or l i d)
map_at f d [] i h = absurd (not-suc-le-zero h)
map_at f d (x ∷ xs) zero h = refl
map_at f d (x ∷ xs) (suc i) h = map_at f d xs i (le_of_suc-le-suc h)
