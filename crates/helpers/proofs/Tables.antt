-- Laws of the shelf table: its length, one more entry, and that its last entry lies in the window. Assumes nothing.
use mathlib.Core.Path.{◌≡◌, refl, sym, ap, ◌∙◌}
use mathlib.Core.Bool.{Bool, true, false, cond, true≢false}
use mathlib.Core.List.{List, [], ◌∷◌, ◌++◌}
use Prim.Native.Nat.{ℕ, zero, suc, ◌+◌, ◌-◌, ◌*◌, ◌/◌, ◌^◌, ◌≤◌, ◌<◌, min, zero-le}
use native.Mathlib.Nat.{le_trans, le_of_eq, mul-one, mul_right_comm, le_of_mul-le-mul_right, div-lt_iff_lt-mul}
use native.Mathlib.Numerals.{add-one}
use native.Mathlib.Omega.{arith}
use borrow.Author.Tests.{ltb-false, le-ltb}
use lib.ListN.{length, set, length-append}
use lib.Ieee.{Float, nan, inf, fin, up, down, lt, to_unsigned}
use lib.Ieee.Exact.{HasValue}
use lib.Ieee.Fits.{down_pos}
use Rattle.meaning.specs.Over.{over}
use Rattle.meaning.specs.Reply.{Reply, refuse, give, chain}
use Rattle.meaning.specs.Rows.{too_short}
use Rattle.meaning.proofs.Folds.{fold_more, fold-none}
use Rattle.meaning.proofs.Overs.{over-next, over_none}
use Rattle.routines.specs.Ops.{◌⊕◌, of_count}
use Rattle.routines.specs.Pick.{min_of}
use Rattle.routines.proofs.Counts.{count-is}
use Rattle.helpers.specs.Shelves.{table_start, table_step, table_of, entry_of, next_entry, last_of, shelf_trials_of}
use Rattle.helpers.specs.Shelves.{shelf_log_table_of, table_after}
use Rattle.helpers.specs.WindowEnds.{window_end_of}
use Rattle.helpers.specs.declared.shelves.Shelf.{Shelf}
use Rattle.helpers.proofs.WindowEnds.{window_refused, window_given, window_count}

-- ---- how many entries
pub table-length : (n a b : Float) (k : ℕ) → length (table_of n a b k) ≡ k
unfolding table_of
table-length n a b zero = refl
table-length n a b (suc k) = length-append (table_of n a b k) (entry_of n a b k ∷ []) ∙ ap (λ (z : ℕ). z + 1) (table-length n a b k) ∙ add-one k

-- ---- one more
pub entry_more : (n a b : Float) (k : ℕ) → entry_of n a b k ⊕ table_step n a b (of_count k) ≡ entry_of n a b (k + 1)
entry_more n a b k = sym (fold_more (next_entry n a b) 0 k (table_start n a b) zero-le)

pub entry_first : (n a b : Float) → table_start n a b ≡ entry_of n a b 0
entry_first n a b = sym (fold-none (next_entry n a b) 0 0 (table_start n a b) zero-le)

pub table_none : (n a b : Float) (held : List Float) → held ≡ over (table_of n a b 0) held
unfolding table_of
table_none n a b held = sym (over_none held)

pub table_more : (n a b : Float) (k : ℕ) (held now : List Float) (v : Float) → now ≡ over (table_of n a b k) held → k < length held → v ≡ entry_of n a b k
    → set now k v ≡ over (table_of n a b (k + 1)) held
unfolding table_of
table_more n a b k held now v p h e =
    ap (λ (x : List Float). set x k v) p
    ∙ over-next (table_of n a b k) held k v (table-length n a b k) h
    ∙ ap (λ (x : Float). over (table_of n a b k ++ (x ∷ [])) held) e
    ∙ ap (λ (i : ℕ). over (table_of n a b i) held) (sym (add-one k))

-- ---- the last entry lies in the window
-- what is not above a whole number is cut to one that is not above it either
not-above : (x t : Float) (n : ℕ) → HasValue x false n 1 → lt x t ≡ false → to_unsigned 64 t ≤ n
unfolding lt to_unsigned
not-above nan t n v h = absurd v
not-above (inf s) t n v h = absurd v
not-above (fin true m e) t n v h = absurd (true≢false v.0)
not-above (fin false m e) nan n v h = zero-le
not-above (fin false m e) (inf true) n v h = zero-le
not-above (fin false m e) (inf false) n v h = absurd (true≢false h)
not-above (fin false m e) (fin true k g) n v h = zero-le
not-above (fin false m e) (fin false k g) n v h =
    le_trans (least (k * up g / down g) (2 ^ 64 - 1)) (quotient (k * up g) (down g) n (down_pos g) (scaled (m * up e) (down e) n (k * up g) (down g) (down_pos e) v.1 (ltb-false (m * up e * down g) (k * up g * down e) h)))
  where
    least : (a b : ℕ) → min a b ≤ a
    least a b = omega arith

    quotient : (a d n : ℕ) → 0 < d → a ≤ n * d → a / d ≤ n
    quotient a d n D h = under (a / d) n ((div-lt_iff_lt-mul D).1 (more a d n D h))
      where
        more : (a d n : ℕ) → 0 < d → a ≤ n * d → a < suc n * d
        more a d n D h = omega arith

        under : (q n : ℕ) → q < suc n → q ≤ n
        under q n h = omega arith

    -- x is a / c, and is n
    scaled : (a c n b d : ℕ) → 0 < c → a * 1 ≡ n * c → b * c ≤ a * d → b ≤ n * d
    scaled a c n b d C v h =
        let e : a * d ≡ n * d * c = ap (λ (z : ℕ). z * d) (sym (mul-one a) ∙ v) ∙ mul_right_comm n c d in
        le_of_mul-le-mul_right (le_trans h (le_of_eq e)) C

of-count : (x : Float) (n : ℕ) → HasValue x false n 1 → to_unsigned 64 x ≤ n
of-count x n v = not-above x x n v (itself x n v)
  where
    itself : (x : Float) (n : ℕ) → HasValue x false n 1 → lt x x ≡ false
    itself nan n v = absurd v
    itself (inf s) n v = absurd v
    itself (fin true m e) n v = absurd (true≢false v.0)
    itself (fin false m e) n v = unfold lt in le-ltb (m * up e * down e) (m * up e * down e) (le_of_eq refl)

wide : (n : ℕ) → n ≤ 65535 → n ≤ 2 ^ 53
wide n h = omega arith

-- whichever of the two is the smaller
picked : (t : Float) (top : ℕ) → top ≤ 65535 → to_unsigned 64 (cond (lt (of_count top) t) (of_count top) t) ≤ top
picked t top h = go (lt (of_count top) t) refl
  where
    go : (b : Bool) → lt (of_count top) t ≡ b → to_unsigned 64 (cond b (of_count top) t) ≤ top
    go true e = of-count (of_count top) top (count-is top (wide top h))
    go false e = not-above (of_count top) t top (count-is top (wide top h)) e

pub last-few : (trials : Float) (top : ℕ) → top ≤ 65535 → last_of trials top ≤ top
unfolding last_of min_of
last-few nan top h = of-count (of_count top) top (count-is top (wide top h))
last-few (inf s) top h = picked (inf s) top h
last-few (fin s m e) top h = picked (fin s m e) top h

-- ---- what stands in the slice, by the answer
pub table-refused : (mean : Float) (shelf : Shelf) (top : ℕ) (held : List Float) (n : ℕ) → refuse n ≡ shelf_log_table_of mean top (length held) → held ≡ table_after mean shelf top held
unfolding table_after
table-refused mean shelf top held n h = rw (sym h)

pub table-given : (mean : Float) (shelf : Shelf) (top : ℕ) (held : List Float) (k : ℕ) → give k ≡ shelf_log_table_of mean top (length held)
    → over (table_of (shelf_trials_of mean) shelf.alpha shelf.beta (last_of (shelf_trials_of mean) top + 1)) held ≡ table_after mean shelf top held
unfolding table_after
table-given mean shelf top held k h = rw (sym h, add-one)

-- ---- the answer of the call, by its window end
pub table-unwindowed : (mean : Float) (top room n : ℕ) → refuse n ≡ window_end_of top → refuse n ≡ shelf_log_table_of mean top room
unfolding shelf_log_table_of
table-unwindowed mean top room n e =
    let last = last_of (shelf_trials_of mean) top in
    window_refused (give (suc last)) (too_short room (suc last)) top n e

pub table-behind : (mean : Float) (top room end last : ℕ) (trials : Float) (reply : Reply ℕ) → give end ≡ window_end_of top
    → trials ≡ shelf_trials_of mean → last ≡ last_of trials end
    → reply ≡ chain (too_short room (suc last)) (give (suc last)) → reply ≡ shelf_log_table_of mean top room
unfolding shelf_log_table_of
table-behind mean top room end last trials reply given t l e =
    let there : last ≡ last_of (shelf_trials_of mean) top = l ∙ (λ j. last_of (t j) (window_count top end given j)) in
    e ∙ ap (λ (k : ℕ). chain (too_short room (suc k)) (give (suc k))) there
    ∙ window_given (give (suc (last_of (shelf_trials_of mean) top))) (too_short room (suc (last_of (shelf_trials_of mean) top))) top end given
