-- What is read is the file's bins or its place, and there is room for the listing of either. Assumes nothing.
use Rattle.std.proofs.Common.{rules, arith, ◌≡◌, ◌≤◌, le_refl, length, take, ℕ, List, sym, ap, ◌∙◌, length-take-le}
use Rattle.std.specs.Counts.{IsPrefixLen}
use Rattle.meaning.specs.Reply.{give}
use Rattle.meaning.specs.Lent.{laid, counted}
use Rattle.histogram.specs.Claims.{Below, Histogram}
use Rattle.histogram.specs.File.{most_bins, read_of}
use Rattle.histogram.specs.Read.{error_says, file_says, read_histogram_of}
use Rattle.histogram.proofs.Lists.{below_each}
use Rattle.histogram.proofs.Theorems.{accepted-holds}
use Rattle.listing.specs.Listing.{list_of}
use Rattle.list.proofs.Answers.{Read, front, bins-read, place_read, never_other, lists-bins, lists-place}
use Rattle.list.proofs.list.Goals as goal

-- ---- the bins of an accepted file
module _ (file b out : List ℕ) (bytes : Below 256 file) (n : ℕ) (e : give n ≡ counted (read_histogram_of file most_bins)) (many : most_bins ≤ length b) (held : out ≡ laid (read_histogram_of file most_bins) b) where
  read : Read (read_of file) most_bins n
  read = bins-read file bytes n e

  holds : Histogram read.xs
  holds = accepted-holds file read.xs bytes read.is

  part : (n ≤ length out) × (take n out ≡ read.xs)
  part = front file b out most_bins n read (omega (arith, holds.most)) held

-- ---- an accepted file
pub slice_bounds-bins-end : goal.slice_bounds-bins-end
unfolding most_bins
slice_bounds-bins-end c =
    let file = c.args.file.now in
    let bytes = below_each 256 file (λ i l. (c.type_inv.file i).fits) in
    let e = c.in-Ok.ensures.result_value in
    (part file _ c.read_histogram-read.new.bins bytes c.in-Ok.n e (le_refl most_bins)
    c.read_histogram-read.ensures.bins_after).0

pub slice_bounds-list_histogram-end : goal.slice_bounds-list_histogram-end
unfolding most_bins
slice_bounds-list_histogram-end c =
    let file = c.args.file.now in
    let bytes = below_each 256 file (λ i l. (c.type_inv.file i).fits) in
    let n = c.in-Ok.n in
    let filled = c.read_histogram-read.new.bins in
    let e = c.in-Ok.ensures.result_value in
    sym (length-take-le n filled (part file _ filled bytes n e (le_refl most_bins) c.read_histogram-read.ensures.bins_after).0)

listed : (c : goal.After-unwrap_or)
    → IsPrefixLen c.unwrap_or.result c.list_histogram.new.out
    × (take c.unwrap_or.result c.list_histogram.new.out ≡ list_of c.args.file.now)
unfolding most_bins
listed c =
    let file = c.args.file.now in
    let bytes = below_each 256 file (λ i l. (c.type_inv.file i).fits) in
    let n = c.in-Ok.n in
    let filled = c.read_histogram-read.new.bins in
    let e = c.in-Ok.ensures.result_value in
    let held = c.read_histogram-read.ensures.bins_after in
    let r = read file _ filled bytes n e (le_refl most_bins) held in
    lists-bins file c.args.text.now c.list_histogram.new.out c.list_histogram.result c.requires
    c.unwrap_or.result c.unwrap_or.ensures
    (take n filled) r.xs (part file _ filled bytes n e (le_refl most_bins) held).1 r.is
    (holds file _ filled bytes n e (le_refl most_bins) held)
    c.list_histogram.ensures.result_value c.list_histogram.ensures.out_after

pub returns-in-Ok-clause-prefix_len : goal.returns-in-Ok-clause-prefix_len
returns-in-Ok-clause-prefix_len c = (listed c).0

pub returns-in-Ok-clause-text_after : goal.returns-in-Ok-clause-text_after
returns-in-Ok-clause-text_after c = (listed c).1

-- ---- a refused one
refused : (c : goal.After-unwrap_or-in-Err-Broken)
    → IsPrefixLen c.unwrap_or-in-Err-Broken.result c.list_refusal.new.out
    × (take c.unwrap_or-in-Err-Broken.result c.list_refusal.new.out ≡ list_of c.args.file.now)
unfolding most_bins
refused c =
    let file = c.args.file.now in
    let bytes = below_each 256 file (λ i l. (c.type_inv.file i).fits) in
    let place = c.in-Err-Broken.place in
    let said = ap file_says c.in-Err-Broken.is ∙ ap error_says (rw c.in-Err-Broken.is at c.in-Err-Broken.field-0-is) in
    let e = place_read file bytes place (sym said ∙ c.read_histogram-read.ensures.result_value) in
    lists-place file c.args.text.now c.list_refusal.new.out c.list_refusal.result c.requires
    c.unwrap_or-in-Err-Broken.result c.unwrap_or-in-Err-Broken.ensures place (search rules) e c.list_refusal.ensures.result_value c.list_refusal.ensures.out_after

pub returns-in-Err-Broken-clause-prefix_len : goal.returns-in-Err-Broken-clause-prefix_len
returns-in-Err-Broken-clause-prefix_len c = (refused c).0

pub returns-in-Err-Broken-clause-text_after : goal.returns-in-Err-Broken-clause-text_after
returns-in-Err-Broken-clause-text_after c = (refused c).1

-- ---- there is room for every file's bins
pub returns-in-Err-Refused-clause-text_after : goal.returns-in-Err-Refused-clause-text_after
unfolding most_bins
returns-in-Err-Refused-clause-text_after c =
    let file = c.args.file.now in
    let bytes = below_each 256 file (λ i l. (c.type_inv.file i).fits) in
    let said = ap file_says c.in-Err-Refused.is ∙ ap error_says (rw c.in-Err-Refused.is at c.in-Err-Refused.field-0-is) in
    absurd (never_other file bytes _ (sym said ∙ c.read_histogram-read.ensures.result_value))
