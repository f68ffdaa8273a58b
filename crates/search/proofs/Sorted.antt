-- What ordering gives: vertices in order, whatever they cost; the same vertices, those of one cost in the order that they
-- had; and, where no cost is a NaN, one that costs least in front. Assumes nothing.
use Prim.Native.Nat.{ℕ, zero, suc, ◌<◌, suc-le-suc, zero-le}
use mathlib.Core.Path.{◌≡◌, refl, sym, ap, ◌∙◌, subst}
use mathlib.Core.Bool.{Bool, true, false, not, ◌&&◌, cond, true≢false}
use mathlib.Core.List.{List, [], ◌∷◌}
use native.Mathlib.Nat.{le_of_suc-le-suc, not-suc-le-zero, zero-lt-suc, lt_of_le_of_lt}
use lib.ListN.{length}
use lib.Ieee.{Float, lt, is_nan}
use Rattle.models.proofs.Outdone.{under, asymmetric}
use Rattle.search.specs.Order.{insert, ordered}
use Rattle.search.specs.Ordered.{InOrder, Costed, those, ties}
use Rattle.search.specs.Vertices.{Vertex, vertex_at, cost_in}
use Rattle.search.proofs.Ordering.{insert-stays, insert-goes, ordered-length}

-- ---- the comparison: nothing is below itself, and what is not below y is not below what y is not below
lt_back : (x y : Float) → lt x y ≡ true → lt y x ≡ false
lt_back x y h = (asymmetric x y h).0

pub lt-itself : (x : Float) → lt x x ≡ false
lt-itself x = go (lt x x) refl
  where
    go : (b : Bool) → lt x x ≡ b → b ≡ false
    go false e = refl
    go true e = sym e ∙ lt_back x x e

pub not_through : (x y z : Float) → is_nan y ≡ false → lt x y ≡ false → lt y z ≡ false → lt x z ≡ false
not_through x y z N h k = go (lt x z) refl
  where
    go : (b : Bool) → lt x z ≡ b → b ≡ false
    go false e = refl
    go true e = sym (under x y z e h N) ∙ k

-- ---- in order
none-in-order : InOrder []
none-in-order i h = absurd (not-suc-le-zero h)

rest-in-order : (v : Vertex) (vs : List Vertex) → InOrder (v ∷ vs) → InOrder vs
rest-in-order v vs o i h = o (suc i) (suc-le-suc h)

-- a vertex that costs no more than the first stands before vertices in order
put-before : (v : Vertex) (vs : List Vertex) → (0 < length vs → lt (cost_in (vertex_at vs 0)) (cost_in v) ≡ false)
    → InOrder vs → InOrder (v ∷ vs)
put-before v vs f o zero h = f (le_of_suc-le-suc h)
put-before v vs f o (suc i) h = o i (le_of_suc-le-suc h)

-- the first of an insertion is the vertex put in, or the first that there was
first-costs : (u v : Vertex) (us : List Vertex) → lt (cost_in v) (cost_in u) ≡ false
    → (0 < length us → lt (cost_in (vertex_at us 0)) (cost_in u) ≡ false)
    → lt (cost_in (vertex_at (insert v us) 0)) (cost_in u) ≡ false
unfolding insert
first-costs u v [] e f = e
first-costs u v (x ∷ xs) e f = go (lt (cost_in x) (cost_in v))
  where
    go : (b : Bool) → lt (cost_in (vertex_at (cond b (x ∷ insert v xs) (v ∷ x ∷ xs)) 0)) (cost_in u) ≡ false
    go true = f (zero-lt-suc (length xs))
    go false = e

insert-in-order : (v : Vertex) (us : List Vertex) → InOrder us → InOrder (insert v us)
insert-in-order v [] o = unfold insert in put-before v [] (λ (h : 0 < 0). absurd (not-suc-le-zero h)) o
insert-in-order v (u ∷ us) o = go (insert-in-order v us (rest-in-order u us o)) (lt (cost_in u) (cost_in v)) refl
  where
    go : InOrder (insert v us) → (b : Bool) → lt (cost_in u) (cost_in v) ≡ b → InOrder (insert v (u ∷ us))
    go r true e =
        subst InOrder (sym (insert-goes v u us e))
        (put-before u (insert v us)
        (λ (_ : 0 < length (insert v us)).
        first-costs u v us (lt_back (cost_in u) (cost_in v) e) (λ (h : 0 < length us). o 0 (suc-le-suc h)))
        r)
    go r false e = subst InOrder (sym (insert-stays v u us e)) (put-before v (u ∷ us) (λ (_ : 0 < suc (length us)). e) o)

pub ordered-in-order : (vs : List Vertex) → InOrder (ordered vs)
unfolding ordered
ordered-in-order [] = none-in-order
ordered-in-order (v ∷ vs) = insert-in-order v (ordered vs) (ordered-in-order vs)

-- ---- vertices in order stay as they are
front-stays : (v : Vertex) (vs : List Vertex) → InOrder (v ∷ vs) → insert v vs ≡ v ∷ vs
unfolding insert
front-stays v [] o = refl
front-stays v (u ∷ us) o = insert-stays v u us (o 0 (suc-le-suc (zero-lt-suc (length us))))

pub ordered-again : (vs : List Vertex) → InOrder vs → ordered vs ≡ vs
unfolding ordered
ordered-again [] o = refl
ordered-again (v ∷ vs) o = ap (insert v) (ordered-again vs (rest-in-order v vs o)) ∙ front-stays v vs o

pub ordered-twice : (vs : List Vertex) → ordered (ordered vs) ≡ ordered vs
ordered-twice vs = ordered-again (ordered vs) (ordered-in-order vs)

-- ---- the same vertices: as many pass any test
abbrev one_more : ℕ → Bool → ℕ
one_more n b = cond b (suc n) n

swap-counts : (a b : Bool) (n : ℕ) → one_more (one_more n b) a ≡ one_more (one_more n a) b
swap-counts true true n = refl
swap-counts true false n = refl
swap-counts false true n = refl
swap-counts false false n = refl

module _ (p : Vertex → Bool) where
  those-length : (v : Vertex) (vs : List Vertex) → length (those p (v ∷ vs)) ≡ one_more (length (those p vs)) (p v)
  unfolding those
  those-length v vs = go (p v)
    where
      go : (b : Bool) → length (cond b (v ∷ those p vs) (those p vs)) ≡ one_more (length (those p vs)) b
      go true = refl
      go false = refl

  insert-keeps : (v : Vertex) (us : List Vertex) → length (those p (insert v us)) ≡ length (those p (v ∷ us))
  insert-keeps v [] = unfold insert in refl
  insert-keeps v (u ∷ us) = go (insert-keeps v us) (lt (cost_in u) (cost_in v)) refl
    where
      go : length (those p (insert v us)) ≡ length (those p (v ∷ us)) → (b : Bool) → lt (cost_in u) (cost_in v) ≡ b
          → length (those p (insert v (u ∷ us))) ≡ length (those p (v ∷ u ∷ us))
      go r false e = ap (λ (l : List Vertex). length (those p l)) (insert-stays v u us e)
      go r true e =
          ap (λ (l : List Vertex). length (those p l)) (insert-goes v u us e)
          ∙ those-length u (insert v us)
          ∙ ap (λ (n : ℕ). one_more n (p u)) (r ∙ those-length v us)
          ∙ swap-counts (p u) (p v) (length (those p us))
          ∙ sym (those-length v (u ∷ us) ∙ ap (λ (n : ℕ). one_more n (p v)) (those-length u us))

  pub ordered_keeps : (vs : List Vertex) → length (those p (ordered vs)) ≡ length (those p vs)
  unfolding ordered
  ordered_keeps [] = refl
  ordered_keeps (v ∷ vs) =
      insert-keeps v (ordered vs)
      ∙ those-length v (ordered vs)
      ∙ ap (λ (n : ℕ). one_more n (p v)) (ordered_keeps vs)
      ∙ sym (those-length v vs)

-- ---- those of one cost keep their order
swap-those : (a b : Bool) (u v : Vertex) (r : List Vertex) → (a && b) ≡ false
    → cond a (u ∷ cond b (v ∷ r) r) (cond b (v ∷ r) r) ≡ cond b (v ∷ cond a (u ∷ r) r) (cond a (u ∷ r) r)
swap-those true true u v r h = absurd (true≢false h)
swap-those true false u v r h = refl
swap-those false true u v r h = refl
swap-those false false u v r h = refl

module _ (c : Float) (N : is_nan c ≡ false) where
  -- of two that differ, not both tie with c
  one-ties : (u v : Vertex) → lt (cost_in u) (cost_in v) ≡ true → (ties c u && ties c v) ≡ false
  one-ties u v e = go (lt (cost_in u) c) (lt c (cost_in v)) refl refl
    where
      last : (a b : Bool) → (not a && (not b && false)) ≡ false
      last true b = refl
      last false true = refl
      last false false = refl

      go : (a b : Bool) → lt (cost_in u) c ≡ a → lt c (cost_in v) ≡ b
          → ((not a && not (lt c (cost_in u))) && (not (lt (cost_in v) c) && not b)) ≡ false
      go true b h k = refl
      go false true h k = last (lt c (cost_in u)) (lt (cost_in v) c)
      go false false h k = absurd (true≢false (sym (under (cost_in u) c (cost_in v) e h N) ∙ k))

  insert-stable : (v : Vertex) (us : List Vertex) → those (ties c) (insert v us) ≡ those (ties c) (v ∷ us)
  unfolding those
  insert-stable v [] = unfold insert in refl
  insert-stable v (u ∷ us) = go (insert-stable v us) (lt (cost_in u) (cost_in v)) refl
    where
      go : those (ties c) (insert v us) ≡ those (ties c) (v ∷ us) → (b : Bool) → lt (cost_in u) (cost_in v) ≡ b
          → those (ties c) (insert v (u ∷ us)) ≡ those (ties c) (v ∷ u ∷ us)
      go r false e = ap (those (ties c)) (insert-stays v u us e)
      go r true e =
          ap (those (ties c)) (insert-goes v u us e)
          ∙ ap (λ (l : List Vertex). cond (ties c u) (u ∷ l) l) r
          ∙ swap-those (ties c u) (ties c v) u v (those (ties c) us) (one-ties u v e)

  pub stable : (vs : List Vertex) → those (ties c) (ordered vs) ≡ those (ties c) vs
  unfolding ordered those
  stable [] = refl
  stable (v ∷ vs) =
      insert-stable v (ordered vs) ∙ ap (λ (l : List Vertex). cond (ties c v) (v ∷ l) l) (stable vs)

-- ---- where no cost is a NaN, none costs less than the first
rest-costed : (v : Vertex) (vs : List Vertex) → Costed (v ∷ vs) → Costed vs
rest-costed v vs N i h = N (suc i) (suc-le-suc h)

pub record Least (x : Float) (vs : List Vertex) : Type 0 where
  pub number : is_nan x ≡ false
  pub least : (i : ℕ) → i < length vs → lt (cost_in (vertex_at vs i)) x ≡ false

insert-least : (v : Vertex) (us vs : List Vertex) → is_nan (cost_in v) ≡ false
    → Least (cost_in (vertex_at us 0)) vs → 0 < length us → Least (cost_in (vertex_at (insert v us) 0)) (v ∷ vs)
insert-least v [] vs N l h = absurd (not-suc-le-zero h)
insert-least v (u ∷ us) vs N l h = go (lt (cost_in u) (cost_in v)) refl
  where
    behind : lt (cost_in u) (cost_in v) ≡ true → (i : ℕ) → i < suc (length vs)
        → lt (cost_in (vertex_at (v ∷ vs) i)) (cost_in u) ≡ false
    behind e zero k = lt_back (cost_in u) (cost_in v) e
    behind e (suc i) k = l.least i (le_of_suc-le-suc k)

    before : lt (cost_in u) (cost_in v) ≡ false → (i : ℕ) → i < suc (length vs)
        → lt (cost_in (vertex_at (v ∷ vs) i)) (cost_in v) ≡ false
    before e zero k = lt-itself (cost_in v)
    before e (suc i) k =
        not_through (cost_in (vertex_at vs i)) (cost_in u) (cost_in v) l.number (l.least i (le_of_suc-le-suc k)) e

    go : (b : Bool) → lt (cost_in u) (cost_in v) ≡ b → Least (cost_in (vertex_at (insert v (u ∷ us)) 0)) (v ∷ vs)
    go true e =
        subst (λ (r : List Vertex). Least (cost_in (vertex_at r 0)) (v ∷ vs)) (sym (insert-goes v u us e))
        (record { number = l.number; least = behind e })
    go false e =
        subst (λ (r : List Vertex). Least (cost_in (vertex_at r 0)) (v ∷ vs)) (sym (insert-stays v u us e))
        (record { number = N; least = before e })

first-least : (vs : List Vertex) → Costed vs → 0 < length vs → Least (cost_in (vertex_at (ordered vs) 0)) vs
unfolding ordered insert
first-least [] N h = absurd (not-suc-le-zero h)
first-least (v ∷ []) N h = record { number = N 0 h; least = alone }
  where
    alone : (i : ℕ) → i < 1 → lt (cost_in (vertex_at (v ∷ []) i)) (cost_in v) ≡ false
    alone zero k = lt-itself (cost_in v)
    alone (suc i) k = absurd (not-suc-le-zero (le_of_suc-le-suc k))
first-least (v ∷ u ∷ us) N h =
    insert-least v (ordered (u ∷ us)) (u ∷ us) (N 0 h)
    (first-least (u ∷ us) (rest-costed v (u ∷ us) N) (zero-lt-suc (length us)))
    (subst (λ (n : ℕ). 0 < n) (sym (ordered-length (u ∷ us))) (zero-lt-suc (length us)))

pub best-first : (vs : List Vertex) → Costed vs → (i : ℕ) → i < length vs
    → lt (cost_in (vertex_at vs i)) (cost_in (vertex_at (ordered vs) 0)) ≡ false
best-first vs N i h = (first-least vs N (lt_of_le_of_lt zero-le h)).least i h
