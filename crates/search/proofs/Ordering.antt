-- The laws of `insert` and `ordered` that the loops which order the rows cite: the length, a row that sinks by one place,
-- and one row more that is in order. Assumes nothing.
use Prim.Native.Nat.{ℕ, zero, suc, ◌+◌, ◌≤◌, ◌<◌}
use mathlib.Core.Path.{◌≡◌, refl, sym, ap, ◌∙◌}
use mathlib.Core.Bool.{Bool, true, false, cond}
use mathlib.Core.List.{List, [], ◌∷◌, ◌++◌, append-nil}
use native.Mathlib.Nat.{le_of_suc-le-suc, not-suc-le-zero}
use native.Mathlib.Numerals.{add-one}
use lib.ListN.{length, take, drop, set, drop_of_length-le}
use lib.Seq.{take_all}
use lib.Ieee.{lt}
use Rattle.search.specs.Order.{insert, ordered}
use Rattle.search.specs.Vertices.{Vertex, vertex_at, cost_in}

-- ---- a vertex in front of others: it stays, or it goes behind the first
pub insert-stays : (v u : Vertex) (us : List Vertex) → lt (cost_in u) (cost_in v) ≡ false
    → insert v (u ∷ us) ≡ v ∷ u ∷ us
unfolding insert
insert-stays v u us e = rw e

pub insert-goes : (v u : Vertex) (us : List Vertex) → lt (cost_in u) (cost_in v) ≡ true
    → insert v (u ∷ us) ≡ u ∷ insert v us
unfolding insert
insert-goes v u us e = rw e

-- ---- the length
pub insert-length : (v : Vertex) (us : List Vertex) → length (insert v us) ≡ suc (length us)
unfolding insert
insert-length v [] = refl
insert-length v (u ∷ us) = go (insert-length v us) (lt (cost_in u) (cost_in v))
  where
    go : length (insert v us) ≡ suc (length us) → (b : Bool)
        → length (cond b (u ∷ insert v us) (v ∷ u ∷ us)) ≡ suc (suc (length us))
    go e true = ap suc e
    go e false = refl

pub ordered-length : (vs : List Vertex) → length (ordered vs) ≡ length vs
unfolding ordered
ordered-length [] = refl
ordered-length (v ∷ vs) = insert-length v (ordered vs) ∙ ap suc (ordered-length vs)

-- ---- the vertex at k sinks into its place among those behind it
unfoldable pub sunk : List Vertex → ℕ → List Vertex
sunk vs k = take k vs ++ insert (vertex_at vs k) (drop (suc k) vs)

-- two neighbours change places
abbrev pub swapped : List Vertex → ℕ → List Vertex
swapped vs k = set (set vs k (vertex_at vs (k + 1))) (k + 1) (vertex_at vs k)

-- it is the last
pub sunk-last : (vs : List Vertex) (k : ℕ) → k < length vs → length vs ≤ k + 1 → sunk vs k ≡ vs
unfolding sunk insert
sunk-last vs k h l = go vs k h (rw add-one at l)
  where
    go : (vs : List Vertex) (k : ℕ) → k < length vs → length vs ≤ suc k
        → take k vs ++ insert (vertex_at vs k) (drop (suc k) vs) ≡ vs
    go [] k h l = absurd (not-suc-le-zero h)
    go (v ∷ []) zero h l = refl
    go (v ∷ u ∷ us) zero h l = absurd (not-suc-le-zero (le_of_suc-le-suc l))
    go (v ∷ vs) (suc k) h l = ap (λ (r : List Vertex). v ∷ r) (go vs k (le_of_suc-le-suc h) (le_of_suc-le-suc l))

-- the next costs no less
pub sunk-stays : (vs : List Vertex) (k : ℕ) → k + 1 < length vs
    → lt (cost_in (vertex_at vs (k + 1))) (cost_in (vertex_at vs k)) ≡ false → sunk vs k ≡ vs
unfolding sunk
sunk-stays vs k h e = go vs k (rw add-one at h) (rw add-one at e)
  where
    go : (vs : List Vertex) (k : ℕ) → suc k < length vs
        → lt (cost_in (vertex_at vs (suc k))) (cost_in (vertex_at vs k)) ≡ false
        → take k vs ++ insert (vertex_at vs k) (drop (suc k) vs) ≡ vs
    go [] k h e = absurd (not-suc-le-zero h)
    go (v ∷ []) k h e = absurd (not-suc-le-zero (le_of_suc-le-suc h))
    go (v ∷ u ∷ us) zero h e = insert-stays v u us e
    go (v ∷ u ∷ us) (suc k) h e = ap (λ (r : List Vertex). v ∷ r) (go (u ∷ us) k (le_of_suc-le-suc h) e)

-- the next costs less: the two change places
pub sunk-goes : (vs : List Vertex) (k : ℕ) → k + 1 < length vs
    → lt (cost_in (vertex_at vs (k + 1))) (cost_in (vertex_at vs k)) ≡ true → sunk vs k ≡ sunk (swapped vs k) (k + 1)
unfolding sunk
sunk-goes vs k h e = rw add-one (go vs k (rw add-one at h) (rw add-one at e))
  where
    go : (vs : List Vertex) (k : ℕ) → suc k < length vs
        → lt (cost_in (vertex_at vs (suc k))) (cost_in (vertex_at vs k)) ≡ true
        → sunk vs k ≡ sunk (set (set vs k (vertex_at vs (suc k))) (suc k) (vertex_at vs k)) (suc k)
    go [] k h e = absurd (not-suc-le-zero h)
    go (v ∷ []) k h e = absurd (not-suc-le-zero (le_of_suc-le-suc h))
    go (v ∷ u ∷ us) zero h e = insert-goes v u us e
    go (v ∷ u ∷ us) (suc k) h e = ap (λ (r : List Vertex). v ∷ r) (go (u ∷ us) k (le_of_suc-le-suc h) e)

-- ---- the vertices from i on are in order
unfoldable pub ordered_from : List Vertex → ℕ → List Vertex
ordered_from vs i = take i vs ++ ordered (drop i vs)

pub none-ordered : (vs : List Vertex) (i : ℕ) → length vs ≤ i → vs ≡ ordered_from vs i
unfolding ordered_from ordered
none-ordered vs i h =
    sym
    (ap (λ (r : List Vertex). take i vs ++ ordered r) (drop_of_length-le vs {i = i} h)
    ∙ append-nil (take i vs)
    ∙ take_all i vs h)

pub one-more-ordered : (vs : List Vertex) (i : ℕ) → i < length vs
    → sunk (ordered_from vs (i + 1)) i ≡ ordered_from vs i
unfolding sunk ordered_from ordered
one-more-ordered vs i h = rw add-one (go vs i h)
  where
    go : (vs : List Vertex) (i : ℕ) → i < length vs → sunk (ordered_from vs (suc i)) i ≡ ordered_from vs i
    go [] i h = absurd (not-suc-le-zero h)
    go (v ∷ vs) zero h = refl
    go (v ∷ vs) (suc i) h = ap (λ (r : List Vertex). v ∷ r) (go vs i (le_of_suc-le-suc h))

pub all-ordered : (vs : List Vertex) → ordered_from vs 0 ≡ ordered vs
unfolding ordered_from
all-ordered vs = refl
