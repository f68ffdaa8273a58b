-- Text put behind text: both together. Assumes nothing.
use Prim.Native.Nat.{ℕ, suc, ◌≤◌, ◌<◌}
use mathlib.Core.Path.{◌≡◌, refl, sym, ap, ◌∙◌, subst}
use mathlib.Core.List.{List, [], ◌∷◌, ◌++◌}
use mathlib.Core.Logic.{⊎_elim}
use lib.ListN.{length, set, length-set}
use borrow.Author.Tests.{lt-ltb, le-ltb}
use Rattle.histogram.proofs.Tests.{below_or}
use Rattle.templates.specs.Cut.{put_at, end_at}

-- ---- a byte that fits, and one that does not
pub put-more : (at b : ℕ) (text out : List ℕ) → at < length out → put_at at (b ∷ text) out ≡ put_at (suc at) text (set out at b)
unfolding put_at
put-more at b text out h = rw (lt-ltb at (length out) h)

pub put_full : (at : ℕ) (text out : List ℕ) → length out ≤ at → put_at at text out ≡ out
unfolding put_at
put_full at [] out h = refl
put_full at (b ∷ text) out h = rw (le-ltb at (length out) h)

pub end_more : (at b : ℕ) (text : List ℕ) (room : ℕ) → at < room → end_at at (b ∷ text) room ≡ end_at (suc at) text room
unfolding end_at
end_more at b text room h = rw (lt-ltb at room h)

pub end-full : (at : ℕ) (text : List ℕ) (room : ℕ) → room ≤ at → end_at at text room ≡ at
unfolding end_at
end-full at [] room h = refl
end-full at (b ∷ text) room h = rw (le-ltb at room h)

-- ---- no text
pub put-none : (at : ℕ) (out : List ℕ) → put_at at [] out ≡ out
unfolding put_at
put-none at out = refl

pub end_none : (at room : ℕ) → end_at at [] room ≡ at
unfolding end_at
end_none at room = refl

-- ---- the lent bytes stay as many
pub put-length : (at : ℕ) (text out : List ℕ) → length (put_at at text out) ≡ length out
put-length at [] out = ap length (put-none at out)
put-length at (b ∷ text) out =
    ⊎_elim
    (λ (h : at < length out). ap length (put-more at b text out h) ∙ put-length (suc at) text (set out at b) ∙ length-set out at b)
    (λ (h : length out ≤ at). ap length (put_full at (b ∷ text) out h))
    (below_or at (length out))

-- ---- one text behind another
pub end-join : (at : ℕ) (xs ys : List ℕ) (room : ℕ) → end_at at (xs ++ ys) room ≡ end_at (end_at at xs room) ys room
end-join at [] ys room = rw (end_none at room)
end-join at (x ∷ xs) ys room =
    ⊎_elim
    (λ (h : at < room). end_more at x (xs ++ ys) room h ∙ end-join (suc at) xs ys room ∙ sym (ap (λ (e : ℕ). end_at e ys room) (end_more at x xs room h)))
    (λ (h : room ≤ at). end-full at (x ∷ xs ++ ys) room h ∙ sym (ap (λ (e : ℕ). end_at e ys room) (end-full at (x ∷ xs) room h) ∙ end-full at ys room h))
    (below_or at room)

pub put-join : (at : ℕ) (xs ys out : List ℕ) → put_at at (xs ++ ys) out ≡ put_at (end_at at xs (length out)) ys (put_at at xs out)
put-join at [] ys out = rw (end_none at (length out), put-none at out)
put-join at (x ∷ xs) ys out =
    ⊎_elim
    (λ (h : at < length out).
    put-more at x (xs ++ ys) out h
    ∙ put-join (suc at) xs ys (set out at x)
    ∙ ap (λ (n : ℕ). put_at (end_at (suc at) xs n) ys (put_at (suc at) xs (set out at x))) (length-set out at x)
    ∙ sym (ap (λ (e : ℕ). put_at e ys (put_at at (x ∷ xs) out)) (end_more at x xs (length out) h)
    ∙ ap (λ (o : List ℕ). put_at (end_at (suc at) xs (length out)) ys o) (put-more at x xs out h)))
    (λ (h : length out ≤ at).
    put_full at (x ∷ xs ++ ys) out h
    ∙ sym (ap (λ (o : List ℕ). put_at (end_at at (x ∷ xs) (length out)) ys o) (put_full at (x ∷ xs) out h)
    ∙ ap (λ (e : ℕ). put_at e ys out) (end-full at (x ∷ xs) (length out) h)
    ∙ put_full at ys out h))
    (below_or at (length out))

-- ---- some text is put, and some is to come
pub record Putting (at : ℕ) (text out₀ : List ℕ) (end : ℕ) (rest out : List ℕ) : Type 0 where
  pub same : length out ≡ length out₀
  pub behind : end_at end rest (length out₀) ≡ end_at at text (length out₀)
  pub held : put_at end rest out ≡ put_at at text out₀

module _ (at : ℕ) (text out₀ : List ℕ) where
  pub begins : Putting at text out₀ at text out₀
  begins = record { same = refl; behind = refl; held = refl }

  module _ (end : ℕ) (out : List ℕ) where
    -- nothing more fits
    pub fills : (rest : List ℕ) → length out ≤ end → Putting at text out₀ end rest out
        → (end ≡ end_at at text (length out₀)) × (out ≡ put_at at text out₀)
    fills rest h p =
        (sym (end-full end rest (length out₀) (rw p.same at h)) ∙ p.behind, sym (put_full end rest out h) ∙ p.held)

    -- one byte more
    pub goes_on : (b : ℕ) (rest : List ℕ) → end < length out → Putting at text out₀ end (b ∷ rest) out
        → Putting at text out₀ (suc end) rest (set out end b)
    goes_on b rest h p =
        record {
          same = length-set out end b ∙ p.same;
          behind = sym (end_more end b rest (length out₀) (rw p.same at h)) ∙ p.behind;
          held = sym (put-more end b rest out h) ∙ p.held;
        }

    pub ends : Putting at text out₀ end [] out → (end ≡ end_at at text (length out₀)) × (out ≡ put_at at text out₀)
    ends p = (sym (end_none end (length out₀)) ∙ p.behind, sym (put-none end out) ∙ p.held)

-- ---- what a writer leaves: the place behind the text, and the lent bytes
abbrev pub Put : ℕ → List ℕ → List ℕ → ℕ → List ℕ → Type 0
Put at text out end out' = (end ≡ end_at at text (length out)) × (out' ≡ put_at at text out)

pub no_text : (at : ℕ) (out : List ℕ) → Put at [] out at out
no_text at out = (sym (end_none at (length out)), sym (put-none at out))

pub put_same : (at end : ℕ) (a b out out' : List ℕ) → a ≡ b → Put at a out end out' → Put at b out end out'
put_same at end a b out out' e p = subst (λ (text : List ℕ). Put at text out end out') e p

-- a second writer goes on behind the first
pub joined : (at one two : ℕ) (a b out out₁ out₂ : List ℕ) → Put at a out one out₁ → Put one b out₁ two out₂
    → Put at (a ++ b) out two out₂
joined at one two a b out out₁ out₂ p q = (
  q.0
      ∙ ap (λ (n : ℕ). end_at one b n) (ap length p.1 ∙ put-length at a out)
      ∙ ap (λ (e : ℕ). end_at e b (length out)) p.0
      ∙ sym (end-join at a b (length out)),
  q.1
      ∙ ap (λ (o : List ℕ). put_at one b o) p.1
      ∙ ap (λ (e : ℕ). put_at e b (put_at at a out)) p.0
      ∙ sym (put-join at a b out),
)

-- some text is put, and a writer puts what comes next
pub goes_by : (at : ℕ) (text out₀ : List ℕ) (end : ℕ) (out piece rest : List ℕ) (end' : ℕ) (out' : List ℕ)
    → Putting at text out₀ end (piece ++ rest) out → Put end piece out end' out' → Putting at text out₀ end' rest out'
goes_by at text out₀ end out piece rest end' out' p q =
    record {
      same = ap length q.1 ∙ put-length end piece out ∙ p.same;
      behind =
          ap (λ (e : ℕ). end_at e rest (length out₀)) (q.0 ∙ ap (end_at end piece) p.same)
          ∙ sym (end-join end piece rest (length out₀))
          ∙ p.behind;
      held =
          ap (λ (e : ℕ). put_at e rest out') q.0
          ∙ ap (put_at (end_at end piece (length out)) rest) q.1
          ∙ sym (put-join end piece rest out)
          ∙ p.held;
    }
