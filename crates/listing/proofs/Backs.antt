-- Bytes put into the front of lent memory from the last one back: what is still to come, and what is written, make up
-- the whole. Assumes nothing.
use Prim.Native.Nat.{ℕ, suc, ◌+◌, ◌-◌, ◌≤◌}
use mathlib.Core.Path.{◌≡◌, refl, sym, ap, ◌∙◌}
use mathlib.Core.List.{List, [], ◌∷◌, ◌++◌, append-nil}
use native.Mathlib.Omega.{arith}
use lib.ListN.{length, get_or, take, drop, set, length-append, length-drop, take-append-drop}
use lib.Seq.{take-suc, length-take-le, append_snoc, set_at}
use Rattle.meaning.specs.Over.{over}

-- out, which held b, has the last of the bytes, from the place at on; those in front are to come
pub record Backing (bytes b out front : List ℕ) (at : ℕ) : Type 0 where
  pub done : List ℕ
  pub ahead : length front ≡ at
  pub whole : bytes ≡ front ++ done
  pub held : out ≡ take at b ++ (done ++ drop (length bytes) b)

module _ (bytes b : List ℕ) (h : length bytes ≤ length b) where
  pub begins : Backing bytes b b bytes (length bytes)
  begins = record {
    done = [];
    ahead = refl;
    whole = sym (append-nil bytes);
    held = sym (take-append-drop (length bytes) b);
  }

  module _ (out : List ℕ) (at : ℕ) where
    -- what is to come lies in front
    pub within : (front : List ℕ) → Backing bytes b out front at → at ≤ length bytes
    within front p = let e : length bytes ≡ length front + length p.done = ap length p.whole ∙ length-append front p.done in omega (arith, p.ahead)

    pub same : (front : List ℕ) → Backing bytes b out front at → length out ≡ length b
    same front p =
        let e : length bytes ≡ length front + length p.done = ap length p.whole ∙ length-append front p.done in
        let t = length-take-le at b (omega (arith, p.ahead)) in
        let l : length out ≡ length (take at b) + (length p.done + (length b - length bytes)) = ap length p.held ∙ simp (length-append, length-drop) in
        omega (arith, p.ahead)

    pub ends : Backing bytes b out [] at → out ≡ over bytes b
    unfolding over
    ends p = p.held ∙ ap (λ (n : ℕ). take n b ++ (p.done ++ drop (length bytes) b)) (sym p.ahead) ∙ ap (λ (l : List ℕ). l ++ drop (length bytes) b) (sym p.whole)

    -- one byte, at the place before
    pub puts : (x : ℕ) (front : List ℕ) (i : ℕ) → at ≡ suc i → Backing bytes b out (front ++ (x ∷ [])) at → Backing bytes b (set out i x) front i
    puts x front i e p =
        let w = within (front ++ (x ∷ [])) p in
        let l : length front + 1 ≡ at = sym (length-append front (x ∷ [])) ∙ p.ahead in
        let rest = p.done ++ drop (length bytes) b in
        let held : out ≡ take i b ++ (get_or b i 0 ∷ rest) = p.held ∙ ap (λ (n : ℕ). take n b ++ rest) e ∙ ap (λ (l : List ℕ). l ++ rest) (take-suc b i 0 (omega arith)) ∙ append_snoc (take i b) (get_or b i 0) rest in
        record {
          done = x ∷ p.done;
          ahead = omega arith;
          whole = p.whole ∙ append_snoc front x p.done;
          held = ap (λ (l : List ℕ). set l i x) held ∙ set_at (take i b) (get_or b i 0) rest x i (length-take-le i b (omega arith));
        }
