-- The laws of `fold`, which every loop over counts cites: none, one more at the end, one less at the start, a split,
-- two steps that agree, and what each step keeps.
-- Assumes nothing.
use Prim.Native.Nat.{ℕ, zero, suc, ◌+◌, ◌-◌, ◌≤◌, ◌<◌}
use mathlib.Core.Path.{◌≡◌, sym, ap, ◌∙◌, subst}
use native.Mathlib.Nat.{zero-add, add-zero, suc-add, add-suc}
use native.Mathlib.Numerals.{add-one}
use native.Mathlib.Omega.{arith}
use Rattle.meaning.specs.Fold.{steps, fold}

none_left : (a b : ℕ) → b ≤ a → b - a ≡ 0
none_left a b h = omega arith

one_left : (a b : ℕ) → a < b → b - a ≡ suc (b - suc a)
one_left a b h = omega arith

module _ {A : Type 0} (f : ℕ → A → A) where
  -- ---- over a number of counts
  steps-split : (a m n : ℕ) (z : A) → steps f a (m + n) z ≡ steps f (a + m) n (steps f a m z)
  unfolding steps
  steps-split a zero n z = rw (zero-add, add-zero)
  steps-split a (suc m) n z = rw (suc-add, add-suc) (rw (← suc-add a m) (steps-split (suc a) m n (f a z)))

  -- ---- over a range
  pub fold-none : (a b : ℕ) (z : A) → b ≤ a → fold f a b z ≡ z
  unfolding fold steps
  fold-none a b z h = ap (λ (k : ℕ). steps f a k z) (none_left a b h)

  pub fold-first : (a b : ℕ) (z : A) → a < b → fold f a b z ≡ fold f (suc a) b (f a z)
  unfolding fold steps
  fold-first a b z h = ap (λ (k : ℕ). steps f a k z) (one_left a b h)

  pub fold-split : (a b c : ℕ) (z : A) → a ≤ b → b ≤ c → fold f a c z ≡ fold f b c (fold f a b z)
  unfolding fold
  fold-split a b c z h k =
      ap (λ (n : ℕ). steps f a n z) (parts a b c h k)
      ∙ steps-split a (b - a) (c - b) z
      ∙ ap (λ (n : ℕ). steps f n (c - b) (steps f a (b - a) z)) (reach a b h)
    where
      parts : (a b c : ℕ) → a ≤ b → b ≤ c → c - a ≡ b - a + (c - b)
      parts a b c h k = omega arith

      reach : (a b : ℕ) → a ≤ b → a + (b - a) ≡ b
      reach a b h = omega arith

  -- the count b is the last: what a loop's turn adds
  pub fold_more : (a b : ℕ) (z : A) → a ≤ b → fold f a (b + 1) z ≡ f b (fold f a b z)
  fold_more a b z h =
      fold-split a b (b + 1) z h (more b) ∙ fold-first b (b + 1) (fold f a b z) (next b) ∙ fold-none (suc b) (b + 1) (f b (fold f a b z)) (last b)
    where
      more : (b : ℕ) → b ≤ b + 1
      more b = omega arith

      next : (b : ℕ) → b < b + 1
      next b = omega arith

      last : (b : ℕ) → b + 1 ≤ suc b
      last b = omega arith

  -- a range that may be inverted: it ends where it starts, or at its end
  pub fold-reach : (a b : ℕ) (z : A) → fold f a (a + (b - a)) z ≡ fold f a b z
  unfolding fold
  fold-reach a b z = ap (λ (n : ℕ). steps f a n z) (reach-length a b)
    where
      reach-length : (a b : ℕ) → a + (b - a) - a ≡ b - a
      reach-length a b = omega arith

  -- what holds at the start, and is kept by each step, holds at the end
  steps-keep : (P : ℕ → A → Type 0) (a n b : ℕ) (z : A) → a + n ≡ b → ((k : ℕ) (x : A) → a ≤ k → k < b → P k x → P (suc k) (f k x)) → P a z → P b (steps f a n z)
  unfolding steps
  steps-keep P a zero b z e s p = subst (λ (k : ℕ). P k z) (flat a b e) p
    where
      flat : (a b : ℕ) → a + 0 ≡ b → a ≡ b
      flat a b e = omega arith
  steps-keep P a (suc n) b z e s p =
      steps-keep P (suc a) n b (f a z) (moved a n b e) (λ (k : ℕ) (x : A) (h : suc a ≤ k) (l : k < b). s k x (less a k h) l) (s a z (same a) (below a n b e) p)
    where
      moved : (a n b : ℕ) → a + suc n ≡ b → suc a + n ≡ b
      moved a n b e = omega arith

      less : (a k : ℕ) → suc a ≤ k → a ≤ k
      less a k h = omega arith

      same : (a : ℕ) → a ≤ a
      same a = omega arith

      below : (a n b : ℕ) → a + suc n ≡ b → a < b
      below a n b e = omega arith

  pub fold-keeps : (P : ℕ → A → Type 0) (a b : ℕ) (z : A) → a ≤ b → ((k : ℕ) (x : A) → a ≤ k → k < b → P k x → P (suc k) (f k x)) → P a z → P b (fold f a b z)
  unfolding fold
  fold-keeps P a b z h s p = steps-keep P a (b - a) b z (reach a b h) s p
    where
      reach : (a b : ℕ) → a ≤ b → a + (b - a) ≡ b
      reach a b h = omega arith

-- two steps that agree at each count of the range work out the same
pub fold_same : {A : Type 0} (f g : ℕ → A → A) (a b : ℕ) (z : A) → a ≤ b → ((k : ℕ) (x : A) → a ≤ k → k < b → f k x ≡ g k x) → fold f a b z ≡ fold g a b z
fold_same {A} f g a b z h e =
    fold-keeps f (λ (k : ℕ) (x : A). x ≡ fold g a k z) a b z h
    (λ (k : ℕ) (x : A) (l : a ≤ k) (m : k < b) (p : x ≡ fold g a k z). e k x l m ∙ ap (g k) p ∙ sym (ap (λ (n : ℕ). fold g a n z) (sym (add-one k)) ∙ fold_more g a k z l))
    (sym (fold-none g a a z (same a)))
  where
    same : (a : ℕ) → a ≤ a
    same a = omega arith
