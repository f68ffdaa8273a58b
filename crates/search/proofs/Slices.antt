-- Many runs in parts: a call that goes on with each for n turns, and then one for m turns over what stands in the slices
-- afterwards, leave what one call for n + m turns leaves, behind the last run too. Assumes nothing.
use Prim.Native.Nat.{ℕ, zero, suc, ◌+◌, ◌*◌, ◌≤◌, ◌<◌, suc-le-suc}
use mathlib.Core.Path.{◌≡◌, refl, sym, ap, ◌∙◌, subst}
use mathlib.Core.List.{List, [], ◌∷◌, ◌++◌}
use native.Mathlib.Nat.{zero-lt-suc, zero-mul, suc-mul}
use native.Mathlib.Omega.{arith}
use lib.Ieee.{Float}
use lib.ListN.{length, take, drop, get_or, length-append, length-drop}
use lib.Seq.{drop_at, take-append-le, drop-append-le}
use Rattle.meaning.specs.Flags.{is_set, byte_of}
use Rattle.meaning.specs.Over.{over}
use Rattle.meaning.proofs.Flagged.{set_back}
use Rattle.search.specs.Claims.{Sized}
use Rattle.search.specs.Lists.{list_of}
use Rattle.search.specs.Searches.{state_at, after_at, simplexes_after, iterations_after, stopped_after}
use Rattle.search.specs.Turns.{State, turns_of}
use Rattle.search.specs.Vertices.{Vertex, vertex_at, rows_in, block_at, flat}
use Rattle.search.proofs.Fronts.{list_length, list_at, over-front}
use Rattle.search.proofs.Parts.{in_parts}
use Rattle.search.proofs.RowLaws.{rows-length, row_fits, row_at, row-length, rows_back}
use Rattle.search.proofs.Simplexes.{same_number, sized, laid_out}

-- ---- lists out of their entries, and what is written over what was written
list_same : {A : Type 0} (f g : ℕ → A) (n : ℕ) → ((i : ℕ) → i < n → f i ≡ g i) → list_of f n ≡ list_of g n
unfolding list_of
list_same f g zero e = refl
list_same {A} f g (suc n) e =
    ap (λ (x : A). x ∷ list_of (λ (i : ℕ). f (suc i)) n) (e 0 (zero-lt-suc n))
    ∙ ap (λ (l : List A). g 0 ∷ l)
    (list_same (λ (i : ℕ). f (suc i)) (λ (i : ℕ). g (suc i)) n (λ (i : ℕ) (h : i < n). e (suc i) (suc-le-suc h)))

over-over : {A : Type 0} (ys xs b : List A) → length xs ≡ length ys → over ys (over xs b) ≡ over ys b
unfolding over
over-over {A} ys xs b e =
    ap (λ (l : List A). ys ++ l) (drop_at xs (drop (length xs) b) (length ys) e)
    ∙ ap (λ (n : ℕ). ys ++ drop n b) e

over-list : {A : Type 0} (f : ℕ → A) (n : ℕ) (b : List A) (d : A) (i : ℕ) → i < n → get_or (over (list_of f n) b) i d ≡ f i
over-list f n b d i h =
    over-front (list_of f n) b d i (subst (λ (m : ℕ). i < m) (sym (list_length f n)) h) ∙ list_at f n i d h

-- ---- rows laid out
flat-length : (w : ℕ) (vs : List Vertex) → Sized w vs → length (flat vs) ≡ length vs * w
unfolding flat
flat-length w [] p = sym (zero-mul w)
flat-length w (v ∷ vs) p =
    let a : length v ≡ w = p 0 (zero-lt-suc (length vs)) in
    let b : length (flat vs) ≡ length vs * w = flat-length w vs (λ (i : ℕ) (h : i < length vs). p (suc i) (suc-le-suc h)) in
    let c : suc (length vs) * w ≡ length vs * w + w = suc-mul (length vs) w in
    length-append v (flat vs) ∙ omega arith

-- row i does not turn on what lies behind the rows
row_before : (s n : ℕ) (xs ys : List Float) (i : ℕ) → i < n → n * s ≤ length xs
    → vertex_at (rows_in s n (xs ++ ys)) i ≡ vertex_at (rows_in s n xs) i
row_before s n xs ys i h f =
    let l = row_fits i n s h in
    row_at s n (xs ++ ys) i h
    ∙ ap (take s) (drop-append-le (i * s) xs ys (omega arith))
    ∙ take-append-le s (drop (i * s) xs) ys (rw length-drop (omega arith))
    ∙ sym (row_at s n xs i h)

-- n blocks of s numbers, written over the front of a slice
module _ (s n : ℕ) (f : ℕ → List Float) (long : (i : ℕ) → i < n → length (f i) ≡ s) where
  block-long : (i : ℕ) → i < n → length (vertex_at (list_of f n) i) ≡ s
  block-long i h = ap length (list_at f n i [] h) ∙ long i h

  blocks-length : length (flat (list_of f n)) ≡ n * s
  blocks-length =
      flat-length s (list_of f n)
      (λ (i : ℕ) (h : i < length (list_of f n)). block-long i (subst (λ (m : ℕ). i < m) (list_length f n) h))
      ∙ ap (λ (m : ℕ). m * s) (list_length f n)

  block_written : (b : List Float) (i : ℕ) → i < n → vertex_at (rows_in s n (over (flat (list_of f n)) b)) i ≡ f i
  unfolding over
  block_written b i h =
      let l : length (flat (list_of f n)) ≡ n * s = blocks-length in
      row_before s n (flat (list_of f n)) (drop (length (flat (list_of f n))) b) i h (omega arith)
      ∙ ap (λ (vs : List Vertex). vertex_at vs i) (rows_back s n (list_of f n) (list_length f n) block-long)
      ∙ list_at f n i [] h

-- ---- the slices: w numbers a row, and w rows a run
module _ (w : ℕ) (wide : 1 < w) (runs : ℕ) (simplexes : List Float) (iterations stopped : List ℕ)
    (fits : runs * (w * w) ≤ length simplexes) (cost : List Float → Float) (cap : ℕ) where
  abbrev start : ℕ → State
  start i = state_at w simplexes iterations stopped runs i

  -- run i after n turns
  abbrev after : ℕ → ℕ → State
  after n i = after_at w simplexes iterations stopped runs cost cap n i

  module _ (n i : ℕ) (h : i < runs) where
    many : length (start i).vertices ≡ w
    unfolding state_at
    many = rows-length w w (vertex_at (rows_in (w * w) runs simplexes) i)

    whole : Sized w (start i).vertices
    unfolding state_at
    whole j k =
        let block : List Float = vertex_at (rows_in (w * w) runs simplexes) i in
        let l : length block ≡ w * w = row-length (w * w) runs simplexes i h fits in
        let m : length (rows_in w w block) ≡ w = rows-length w w block in
        row-length w w block j (omega arith) (omega arith)

    after-many : length (after n i).vertices ≡ w
    unfolding after_at
    after-many = same_number cost cap n (start i) (omega (arith, many)) ∙ many

    after-whole : Sized w (after n i).vertices
    unfolding after_at
    after-whole = sized cost w (omega arith) cap n (start i) (omega (arith, many)) whole

    after-long : length (flat (after n i).vertices) ≡ w * w
    after-long = flat-length w (after n i).vertices after-whole ∙ ap (λ (m : ℕ). m * w) after-many

    after-laid : rows_in w w (flat (after n i).vertices) ≡ (after n i).vertices
    unfolding after_at
    after-laid = laid_out cost w cap n (start i) wide many whole

  -- the rows of all runs
  abbrev rows_of : (ℕ → State) → List Float
  rows_of run = flat (list_of (λ (i : ℕ). flat (run i).vertices) runs)

  rows_long : (n : ℕ) → length (rows_of (after n)) ≡ runs * (w * w)
  rows_long n = blocks-length (w * w) runs (λ (i : ℕ). flat (after n i).vertices) (after-long n)

  module _ (n : ℕ) where
    abbrev simplexes_then : List Float
    simplexes_then = simplexes_after w simplexes iterations stopped runs cost cap n

    abbrev iterations_then : List ℕ
    iterations_then = iterations_after w simplexes iterations stopped runs cost cap n

    abbrev stopped_then : List ℕ
    stopped_then = stopped_after w simplexes iterations stopped runs cost cap n

    -- ---- what stands there for run i after the first call is the run after n turns
    pub stands-for : (i : ℕ) → i < runs → state_at w simplexes_then iterations_then stopped_then runs i ≡ after n i
    unfolding state_at simplexes_after iterations_after stopped_after
    stands-for i h =
        let block : vertex_at (rows_in (w * w) runs simplexes_then) i ≡ flat (after n i).vertices =
        block_written (w * w) runs (λ (j : ℕ). flat (after n j).vertices) (after-long n) simplexes i h in
        let ev : block_at w simplexes_then runs i ≡ (after n i).vertices = ap (rows_in w w) block ∙ after-laid n i h in
        let ei : get_or iterations_then i 0 ≡ (after n i).iterations =
        over-list (λ (j : ℕ). (after n j).iterations) runs iterations 0 i h in
        let es : is_set (get_or stopped_then i 0) ≡ (after n i).stopped =
        ap is_set (over-list (λ (j : ℕ). byte_of (after n j).stopped) runs stopped 0 i h) ∙ set_back (after n i).stopped in
        λ t. record { vertices = ev t; iterations = ei t; stopped = es t }

    module _ (m : ℕ) where
      -- run i after the second call
      abbrev later : ℕ → State
      later i = after_at w simplexes_then iterations_then stopped_then runs cost cap m i

      later-is : (i : ℕ) → i < runs → later i ≡ after (n + m) i
      unfolding after_at
      later-is i h = ap (turns_of cost cap m) (stands-for i h) ∙ sym (in_parts cost cap n m (start i))

      -- the same rows are written over the same places
      rows-in-parts : (b : List Float) → over (rows_of later) (over (rows_of (after n)) b) ≡ over (rows_of (after (n + m))) b
      rows-in-parts b =
          ap (λ (l : List (List Float)). over (flat l) (over (rows_of (after n)) b))
          (list_same (λ (i : ℕ). flat (later i).vertices) (λ (i : ℕ). flat (after (n + m) i).vertices) runs
          (λ (i : ℕ) (h : i < runs). ap (λ (s : State). flat s.vertices) (later-is i h)))
          ∙ over-over (rows_of (after (n + m))) (rows_of (after n)) b (rows_long n ∙ sym (rows_long (n + m)))

      -- and the same column: g is what it holds of a run
      column-in-parts : {A : Type 0} (g : State → A) (b : List A)
          → over (list_of (λ (i : ℕ). g (later i)) runs) (over (list_of (λ (i : ℕ). g (after n i)) runs) b)
          ≡ over (list_of (λ (i : ℕ). g (after (n + m) i)) runs) b
      column-in-parts {A} g b =
          ap (λ (l : List A). over l (over (list_of (λ (i : ℕ). g (after n i)) runs) b))
          (list_same (λ (i : ℕ). g (later i)) (λ (i : ℕ). g (after (n + m) i)) runs
          (λ (i : ℕ) (h : i < runs). ap g (later-is i h)))
          ∙ over-over (list_of (λ (i : ℕ). g (after (n + m) i)) runs) (list_of (λ (i : ℕ). g (after n i)) runs) b
          (list_length (λ (i : ℕ). g (after n i)) runs ∙ sym (list_length (λ (i : ℕ). g (after (n + m) i)) runs))

      -- ---- THE THEOREM
      pub slices-in-parts : (simplexes_after w simplexes_then iterations_then stopped_then runs cost cap m
          ≡ simplexes_after w simplexes iterations stopped runs cost cap (n + m))
          × (iterations_after w simplexes_then iterations_then stopped_then runs cost cap m
          ≡ iterations_after w simplexes iterations stopped runs cost cap (n + m))
          × (stopped_after w simplexes_then iterations_then stopped_then runs cost cap m
          ≡ stopped_after w simplexes iterations stopped runs cost cap (n + m))
      unfolding simplexes_after iterations_after stopped_after
      slices-in-parts = (
        rows-in-parts simplexes,
        column-in-parts (λ (s : State). s.iterations) iterations,
        column-in-parts (λ (s : State). byte_of s.stopped) stopped,
      )
