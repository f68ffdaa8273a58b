-- What a shelf's table is once it is written into a lent slice: the entries that the slice holds, the rest as found;
-- and where the refusals were gone through, these are all of the shelf's entries. Assumes nothing.
use Prim.Native.Nat.{ℕ, suc, ◌-◌, ◌≤◌, ◌<◌}
use mathlib.Core.Path.{◌≡◌, refl, sym, ap, ◌∙◌}
use mathlib.Core.Bool.{Bool, true, false}
use mathlib.Core.List.{List, [], ◌∷◌, ◌++◌}
use native.Mathlib.Omega.{arith}
use borrow.Author.Tests.{ltb-false, le-ltb, ne_eqb}
use lib.Dec.{ltb, eqb}
use lib.ListN.{length, take, drop}
use lib.Ieee.{Float}
use store.Seg.{take-pre}
use Rattle.meaning.specs.Over.{over}
use Rattle.meaning.specs.Reply.{Reply, refuse, broken, give, test, chain}
use Rattle.meaning.specs.Lent.{on_give}
use Rattle.meaning.specs.Rows.{most, too_short, window_tests}
use Rattle.meaning.proofs.Overs.{over_none, over-length}
use Rattle.meaning.proofs.Replies.{gave-answer}
use Rattle.helpers.specs.Shelves.{shelf_trials_of, last_of, shelf_log_table_of, table_after}
use Rattle.helpers.specs.declared.shelves.Shelf.{Shelf}
use Rattle.helpers.proofs.Tables.{table-length, last-few}
use Rattle.models.specs.Masses.{entries_of}
use Rattle.models.specs.Params.{shelf_part_of, params_of}
use Rattle.models.specs.Refusals.{table_demand}
use Rattle.models.specs.Tables.{entries_in}
use Rattle.models.specs.declared.families.ErrorModel.{ErrorModel}
use Rattle.models.specs.declared.families.GenomeModel.{GenomeModel}
use Rattle.models.specs.declared.families.GenomeModel.TheVariants.{NegativeBinomial, ShelfNegativeBinomial}
use Rattle.meaning.specs.Answers.{reply_of}
use Rattle.std.specs.Result.{result_unwrap_or}
use Rattle.std.specs.Prelude.{Result, Ok, Err, Option, None, Some}
use Rattle.meaning.specs.declared.refusals.Refusal.{Refusal}

-- ---- what the writer of the table answers
given-over : (r : Reply ℕ) (xs held : List Float) → on_give r (over xs held) held ≡ over (on_give r xs []) held
given-over (refuse n) xs held = sym (over_none held)
given-over (broken place) xs held = sym (over_none held)
given-over (give n) xs held = refl

-- how many entries a shelf has
abbrev items : Float → ℕ → ℕ
items mean top = suc (last_of (shelf_trials_of mean) top)

all-entries : (s : Shelf) (mean : Float) (top : ℕ) → length (entries_of (Some s) mean top) ≡ items mean top
unfolding entries_of
all-entries s mean top = table-length (shelf_trials_of mean) s.alpha s.beta (items mean top)

items-are : (mean : Float) (top room n : ℕ) → shelf_log_table_of mean top room ≡ give n → items mean top ≡ n
unfolding shelf_log_table_of
items-are mean top room n g = gave-answer (items mean top) n (window_tests top ++ too_short room (items mean top)) g

module _ (mean : Float) (top : ℕ) (held : List Float) (shelf : Option Shelf) (s : Shelf) (p : shelf ≡ Some s) where
  abbrev entries : List Float
  entries = entries_in shelf mean top (length held)

  pub filled-items : (w : Result ℕ Refusal) → reply_of w ≡ shelf_log_table_of mean top (length held)
      → result_unwrap_or w 0 ≡ length entries
  unfolding entries_in
  filled-items (Ok n) given = rw (p, sym given) (sym (items-are mean top (length held) n (sym given)) ∙ sym (all-entries s mean top))
  filled-items (Err r) refused = rw (p, sym refused)

  pub filled-table : (now : List Float) → now ≡ table_after mean s top held → now ≡ over entries held
  unfolding entries_in entries_of table_after
  filled-table now e = rw p (e ∙ given-over (shelf_log_table_of mean top (length held)) _ held)

-- ---- the part of the slice that holds the entries
module _ (entries held t : List Float) (n : ℕ) (e : n ≡ length entries) (o : t ≡ over entries held) where
  pub front-is : take (n - 0) (drop 0 t) ≡ entries
  unfolding over
  front-is =
      let z : n - 0 ≡ length entries = omega arith in
      rw (z, o) (take-pre entries (drop (length entries) held))

  pub front-room : length entries ≤ length held → n ≤ length t
  front-room f =
      let l : length t ≡ length held = ap (λ (x : List Float). length x) o ∙ over-length entries held f in
      omega arith

pub entries-few : (shelf : Option Shelf) (mean : Float) (top room : ℕ) → length (entries_in shelf mean top room) ≤ room
unfolding entries_in shelf_log_table_of
entries-few None mean top room = omega arith
entries-few (Some s) mean top room = few (ltb most top) (eqb top 0) _ _ (entries_of (Some s) mean top) fits
  where
    fits : ltb room (items mean top) ≡ false → length (entries_of (Some s) mean top) ≤ room
    fits h =
        let l : items mean top ≤ room = ltb-false room (items mean top) h in
        let e : length (entries_of (Some s) mean top) ≡ items mean top = all-entries s mean top in
        omega arith

    few : (a b c : Bool) (n : ℕ) (xs : List Float) → (c ≡ false → length xs ≤ room)
        → length (on_give (chain (test a 2 ∷ test b 5 ∷ test c 10 ∷ []) (give n)) xs []) ≤ room
    few true b c n xs h = omega arith
    few false true c n xs h = omega arith
    few false false true n xs h = omega arith
    few false false false n xs h = h refl

-- ---- where 5 and 10 do not apply, all entries are there
written : (mean : Float) (top room : ℕ) → top < room → 1 ≤ top → top ≤ most
    → shelf_log_table_of mean top room ≡ give (items mean top)
unfolding shelf_log_table_of
written mean top room b h k =
    let l : last_of (shelf_trials_of mean) top ≤ top = last-few (shelf_trials_of mean) top k in
    simp (le-ltb most top k, ne_eqb top 0 (λ (e : top ≡ 0). omega arith), le-ltb room (items mean top) (omega arith))

module _ (genome : GenomeModel) (end room : ℕ) (h : 1 ≤ end) (k : end ≤ most) (r : table_demand genome end ≤ room) where
  part-fits : (a b c mean : Float)
      → entries_in (shelf_part_of genome a b c) mean end room ≡ entries_of (shelf_part_of genome a b c) mean end
  part-fits = go genome r
    where
      go : (genome : GenomeModel) → table_demand genome end ≤ room → (a b c mean : Float)
          → entries_in (shelf_part_of genome a b c) mean end room ≡ entries_of (shelf_part_of genome a b c) mean end
      go NegativeBinomial r a b c mean = unfold entries_in entries_of in refl
      go ShelfNegativeBinomial r a b c mean = unfold entries_in in rw (written mean end room (omega (arith, r)) h k)

  pub entries_fit : (error : ErrorModel) (x : Float) (list : List Float)
      → let p = params_of error genome x list in entries_in p.shelf p.mean end room ≡ entries_of p.shelf p.mean end
  unfolding params_of
  entries_fit error x list = part-fits _ _ _ _
