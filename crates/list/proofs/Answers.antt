-- From the answer of the reader's call to the file's listing. Assumes nothing.
use Prim.Native.Nat.{ℕ, ◌^◌, ◌≤◌, ◌<◌}
use mathlib.Core.Path.{◌≡◌, refl, sym, ap, ◌∙◌}
use mathlib.Core.Bool.{Bool, true, false}
use mathlib.Core.List.{List}
use native.Mathlib.Omega.{arith}
use lib.Dec.{ltb}
use lib.ListN.{length, take, drop}
use lib.Seq.{take_at, length-take-le}
use borrow.Author.Tests.{le-ltb}
use Rattle.std.specs.Counts.{IsPrefixLen}
use Rattle.meaning.specs.Reply.{Reply, refuse, broken, give, unless}
use Rattle.meaning.proofs.Replies.{same_answer, same_place, answer-not-refused, answer-not-broken, refused-not-broken}
use Rattle.histogram.specs.Claims.{Below, Histogram}
use Rattle.histogram.specs.File.{most_bins, read_of}
use Rattle.meaning.specs.Over.{over}
use Rattle.meaning.specs.Lent.{laid, counted}
use Rattle.histogram.specs.Read.{fits_in, read_histogram_of}
use Rattle.meaning.proofs.Overs.{over-length}
use Rattle.histogram.proofs.Theorems.{accepted-holds, never-refused}
use Rattle.listing.specs.Listing.{listed_of, list_of, listing_of, refusal_of, list_histogram_of, list_refusal_of}
use Rattle.listing.specs.Listing.{longest_listing}
use Rattle.listing.proofs.Longest.{listing-fits, refusal-fits}
use Rattle.listing.proofs.Refusals.{lists, line-written}
use Rattle.std.specs.Result.{result_unwrap_or}
use Rattle.std.specs.Prelude.{Result, Ok, Err}
use Rattle.meaning.specs.declared.refusals.Refusal.{Refusal}
use Rattle.meaning.specs.Answers.{reply_of}

-- ---- what the reader's answer tells of the file
-- n bins
pub record Read (x : Reply (List ℕ)) (room n : ℕ) : Type 0 where
  pub xs : List ℕ
  pub is : x ≡ give xs
  pub many : length xs ≡ n
  pub fitted : fits_in room x ≡ give xs

bins-fit : (room n : ℕ) (x : Reply (List ℕ)) → give n ≡ counted (fits_in room x) → Read x room n
bins-fit room n (refuse k) e = absurd (answer-not-refused e)
bins-fit room n (broken place) e = absurd (answer-not-broken e)
bins-fit room n (give ys) e = tested (ltb room (length ys)) refl e
  where
    tested : (t : Bool) → ltb room (length ys) ≡ t → give n ≡ counted (unless t 10 (give ys)) → Read (give ys) room n
    tested true q h = absurd (answer-not-refused h)
    tested false q h = record {
      xs = ys;
      is = refl;
      many = sym (same_answer h);
      fitted = ap (λ (t : Bool). unless t 10 (give ys)) q;
    }

place-fits : (room place : ℕ) (x : Reply (List ℕ)) → broken place ≡ counted (fits_in room x) → x ≡ broken place
place-fits room place (refuse k) e = absurd (refused-not-broken (sym e))
place-fits room place (broken p) e = ap broken (sym (same_place e))
place-fits room place (give ys) e = tested (ltb room (length ys)) e
  where
    tested : (t : Bool) → broken place ≡ counted (unless t 10 (give ys)) → give ys ≡ broken place
    tested true h = absurd (refused-not-broken (sym h))
    tested false h = absurd (answer-not-broken (sym h))

module _ (file : List ℕ) (bytes : Below 256 file) where
  pub bins-read : (n : ℕ) → give n ≡ counted (read_histogram_of file most_bins) → Read (read_of file) most_bins n
  unfolding read_histogram_of
  bins-read n e = bins-fit most_bins n (read_of file) e

  pub place_read : (place : ℕ) → broken place ≡ counted (read_histogram_of file most_bins) → read_of file ≡ broken place
  unfolding read_histogram_of
  place_read place e = place-fits most_bins place (read_of file) e

  -- there is room for every file's bins
  pub never_other : (k : ℕ) → refuse k ≡ counted (read_histogram_of file most_bins) → ⊥
  unfolding read_histogram_of
  never_other k e = read (read_of file) refl e
    where
      read : (x : Reply (List ℕ)) → read_of file ≡ x → refuse k ≡ counted (fits_in most_bins x) → ⊥
      read (refuse m) q h = never-refused file m q
      read (broken place) q h = refused-not-broken h
      read (give ys) q h =
          let l = (accepted-holds file ys bytes q).most in
          answer-not-refused (sym (h ∙ ap (λ (t : Bool). counted (unless t 10 (give ys))) (le-ltb most_bins (length ys) l)))

-- the bins stand in the front of the lent ones
pub front : (file b out : List ℕ) (room n : ℕ) (x : Read (read_of file) room n) → length x.xs ≤ length b → out ≡ laid (read_histogram_of file room) b → (n ≤ length out) × (take n out ≡ x.xs)
unfolding read_histogram_of over
front file b out room n x h e =
    let o : out ≡ over x.xs b = e ∙ ap (λ (y : Reply (List ℕ)). laid y b) x.fitted in
    let l : length out ≡ length b = ap length o ∙ over-length x.xs b h in
    (omega (arith, x.many), ap (take n) o ∙ take_at x.xs (drop (length x.xs) b) n x.many)

-- ---- what is written
module _ (answer : List ℕ) (b out : List ℕ) (w : Result ℕ Refusal) (fit : length answer ≤ length b) (says : reply_of w ≡ give (length answer)) (held : out ≡ over answer b) where
  many : result_unwrap_or w 0 ≡ length answer
  many = told w says
    where
      told : (v : Result ℕ Refusal) → reply_of v ≡ give (length answer) → result_unwrap_or v 0 ≡ length answer
      told (Ok n) e = same_answer e
      told (Err n) e = absurd (answer-not-refused (sym e))

  pub written : (r : ℕ) → r ≡ result_unwrap_or w 0 → IsPrefixLen r out × (take r out ≡ answer)
  unfolding over
  written r e =
      let l : r ≡ length answer = e ∙ many in
      let s : length out ≡ length b = ap length held ∙ over-length answer b fit in
      let h : r ≤ length out = omega arith in
      ((h, sym (length-take-le r out h)), ap (take r) held ∙ take_at answer (drop (length answer) b) r (sym l))

-- ---- from what the two calls answer to what the program writes
module _ (file b out : List ℕ) (w : Result ℕ Refusal) (long : longest_listing ≤ length b) (r : ℕ)
    (e : r ≡ result_unwrap_or w 0) where
  pub lists-bins : (part xs : List ℕ) → part ≡ xs → read_of file ≡ give xs → Histogram xs
      → reply_of w ≡ counted (list_histogram_of part (length b)) → out ≡ laid (list_histogram_of part (length b)) b → IsPrefixLen r out × (take r out ≡ list_of file)
  unfolding most_bins
  lists-bins part xs p q h says held =
      let f = listing-fits xs h in
      let l : length (listing_of xs) ≤ length b = omega arith in
      let g : list_histogram_of part (length b) ≡ give (listing_of xs) = ap (λ (l : List ℕ). list_histogram_of l (length b)) p ∙ lists xs (length b) h.two (omega (arith, h.most)) l in
      let t = written (listing_of xs) b out w l (says ∙ ap counted g) (held ∙ ap (λ (x : Reply (List ℕ)). laid x b) g) r e in
      (t.0, t.1 ∙ sym (ap listed_of q))

  pub lists-place : (place : ℕ) → place < 2 ^ 64 → read_of file ≡ broken place
      → reply_of w ≡ counted (list_refusal_of place (length b)) → out ≡ laid (list_refusal_of place (length b)) b → IsPrefixLen r out × (take r out ≡ list_of file)
  lists-place place h q says held =
      let f = refusal-fits place h in
      let l : length (refusal_of place) ≤ length b = omega arith in
      let g = line-written place (length b) l in
      let t = written (refusal_of place) b out w l (says ∙ ap counted g) (held ∙ ap (λ (x : Reply (List ℕ)). laid x b) g) r e in
      (t.0, t.1 ∙ sym (ap listed_of q))
