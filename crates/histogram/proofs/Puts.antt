-- Bytes put one behind the other into the front of lent memory: what is written so far, and what is still to come,
-- make up the whole.
-- A turn puts one byte, or lends the rest of the memory to the writer of the next bytes. Assumes nothing.
use Prim.Native.Nat.{ℕ, ◌+◌, ◌-◌, ◌≤◌}
use mathlib.Core.Path.{◌≡◌, refl, sym, ap, ◌∙◌}
use mathlib.Core.List.{List, [], ◌∷◌, ◌++◌, append_assoc, append-nil}
use native.Mathlib.Omega.{arith}
use lib.ListN.{length, take, drop, set, length-append, length-drop, length-set, drop_of_length-le}
use lib.Seq.{take_at, drop_at, take_all, drop-drop}
use Rattle.meaning.specs.Over.{over}
use Rattle.meaning.proofs.Overs.{over_none, over-next, over-length}

-- out, which held b, has the first of the bytes, up to the place at; the rest is to come
pub record Putting (bytes b out rest : List ℕ) (at : ℕ) : Type 0 where
  pub done : List ℕ
  pub behind : length done ≡ at
  pub whole : bytes ≡ done ++ rest
  pub same : length out ≡ length b
  pub held : out ≡ over done b

module _ (bytes b : List ℕ) where
  pub begins : Putting bytes b b bytes 0
  begins = record { done = []; behind = refl; whole = refl; same = refl; held = sym (over_none b) }

  module _ (out : List ℕ) (at : ℕ) where
    pub ends : Putting bytes b out [] at → (at ≡ length bytes) × (out ≡ over bytes b)
    ends p =
        let e : bytes ≡ p.done = p.whole ∙ append-nil p.done in
        (sym p.behind ∙ ap length (sym e), p.held ∙ ap (λ (xs : List ℕ). over xs b) (sym e))

    -- what is yet to be written fits
    pub fits : (xs rest : List ℕ) → Putting bytes b out (xs ++ rest) at → length bytes ≤ length b → at + length xs ≤ length out
    fits xs rest p h = let e : length bytes ≡ length p.done + (length xs + length rest) = ap length p.whole ∙ simp length-append in omega (arith, p.behind, p.same)

    -- one byte
    pub puts : (x : ℕ) (rest : List ℕ) → Putting bytes b out (x ∷ rest) at → length bytes ≤ length b → Putting bytes b (set out at x) rest (at + 1)
    puts x rest p h =
        let f : at + 1 ≤ length out = fits (x ∷ []) rest p h in
        record {
          done = p.done ++ (x ∷ []);
          behind = length-append p.done (x ∷ []) ∙ ap (λ (n : ℕ). n + 1) p.behind;
          whole = p.whole ∙ sym (append_assoc p.done (x ∷ []) rest);
          same = length-set out at x ∙ p.same;
          held = ap (λ (l : List ℕ). set l at x) p.held ∙ over-next p.done b at x p.behind (omega (arith, p.same));
        }

    -- ---- the bytes xs, by a writer that is lent the rest of the memory
    module _ (xs rest : List ℕ) (p : Putting bytes b out (xs ++ rest) at) (h : length bytes ≤ length b) where
      dropped : drop at out ≡ drop at b
      unfolding over
      dropped = ap (drop at) p.held ∙ drop_at p.done (drop (length p.done) b) at p.behind ∙ ap (λ (n : ℕ). drop n b) p.behind

      taken : take at out ≡ p.done
      unfolding over
      taken = ap (take at) p.held ∙ take_at p.done (drop (length p.done) b) at p.behind

      long : length (drop at b) ≤ length out - at
      long = simp length-drop (omega (arith, p.same))

      lent : take (length out - at) (drop at out) ≡ drop at b
      lent = rw dropped (take_all (length out - at) (drop at b) long)

      pub room : length xs ≤ length (take (length out - at) (drop at out))
      room = let f = fits xs rest p h in rw lent (simp length-drop (omega (arith, p.same)))

      turn : (ys : List ℕ) → ys ≡ over xs (take (length out - at) (drop at out)) → take at out ++ (ys ++ drop (length out - at) (drop at out)) ≡ over (p.done ++ xs) b
      unfolding over
      turn ys ey =
          let y : ys ≡ over xs (drop at b) = ey ∙ ap (over xs) lent in
          let e : drop (length out - at) (drop at out) ≡ [] = rw dropped (drop_of_length-le (drop at b) long) in
          rw (e, taken, y, append-nil, drop-drop, length-append, p.behind, append_assoc)

      pub puts-all : (ys : List ℕ) (k : ℕ) → k ≡ length xs → ys ≡ over xs (take (length out - at) (drop at out)) → Putting bytes b (take at out ++ (ys ++ drop (length out - at) (drop at out))) rest (at + k)
      puts-all ys k ek ey =
          let f = fits xs rest p h in
          let l : length (p.done ++ xs) ≡ at + k = length-append p.done xs ∙ rw (p.behind, ek) in
          record {
            done = p.done ++ xs;
            behind = l;
            whole = p.whole ∙ sym (append_assoc p.done xs rest);
            same = ap length (turn ys ey) ∙ over-length (p.done ++ xs) b (omega (arith, p.same));
            held = turn ys ey;
          }
