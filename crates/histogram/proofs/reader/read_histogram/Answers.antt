-- `histogram::reader::read_histogram` meets its contract: its two numbers are read here, and `hand_over` reads the
-- rest. Assumes nothing.
use Prim.Native.Nat.{ℕ}
use mathlib.Core.Path.{◌≡◌, sym, ◌∙◌, ap}
use mathlib.Core.List.{List}
use lib.ListN.{length}
use Rattle.meaning.specs.Reply.{Reply}
use Rattle.meaning.specs.Lent.{laid, counted}
use Rattle.histogram.specs.File.{most_bins, read_of}
use Rattle.histogram.specs.Read.{fits_in, read_histogram_of}
use Rattle.histogram.proofs.Bins.{form-read, form-broken, count_fits, count-read, count-broken}
use Rattle.histogram.proofs.reader.read_histogram.Goals as goal

-- by what the file reads as
module _ (file : List ℕ) (held : List ℕ) {x : Reply (List ℕ)} (e : read_of file ≡ x) where
  said : counted (fits_in (length held) x) ≡ counted (read_histogram_of file (length held))
  unfolding read_histogram_of
  said = ap (λ (y : Reply (List ℕ)). counted (fits_in (length held) y)) (sym e)

  stands : laid (fits_in (length held) x) held ≡ laid (read_histogram_of file (length held)) held
  unfolding read_histogram_of
  stands = ap (λ (y : Reply (List ℕ)). laid (fits_in (length held) y) held) (sym e)

pub returns-in_default : goal.returns-in_default
returns-in_default c =
    let a = c.args in
    let e = form-broken a.file.now 0 (sym c.in_default.ensures) in record {
      result_value = said a.file.now a.bins.now e;
      bins_after = stands a.file.now a.bins.now e;
    }

pub returns-in_default-number_at : goal.returns-in_default-number_at
unfolding most_bins
returns-in_default-number_at c =
    let a = c.args in
    let e = form-read a.file.now c.in-Some.form (sym c.in-Some.ensures)
    ∙ count-broken a.file.now c.in-Some.form.next c.in-Some.form.next (sym c.in_default-number_at.ensures) in record {
      result_value = said a.file.now a.bins.now e;
      bins_after = stands a.file.now a.bins.now e;
    }

pub returns-then-n-le-FEW_BINS : goal.returns-then-n-le-FEW_BINS
unfolding most_bins
returns-then-n-le-FEW_BINS c =
    let a = c.args in
    let e = form-read a.file.now c.in-Some.form (sym c.in-Some.ensures)
    ∙ count-read a.file.now c.in-Some.form.next c.in-Some-number_at.count (sym c.in-Some-number_at.ensures) in record {
      result_value = c.hand_over.ensures.result_value ∙ said a.file.now a.bins.now e;
      bins_after = c.hand_over.ensures.bins_after ∙ stands a.file.now a.bins.now e;
    }

pub hand_over-requires-2 : goal.hand_over-requires-2
unfolding most_bins
hand_over-requires-2 c =
    count_fits c.args.file.now c.in-Some.form.next c.in-Some-number_at.count (sym c.in-Some-number_at.ensures)

pub returns : goal.returns
unfolding most_bins
returns c =
    let a = c.args in
    let e = form-read a.file.now c.in-Some.form (sym c.in-Some.ensures)
    ∙ count-read a.file.now c.in-Some.form.next c.in-Some-number_at.count (sym c.in-Some-number_at.ensures) in record {
      result_value = c.hand_over-2.ensures.result_value ∙ said a.file.now a.bins.now e;
      bins_after = c.hand_over-2.ensures.bins_after ∙ stands a.file.now a.bins.now e;
    }
