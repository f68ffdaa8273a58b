-- `models::heights::component_heights_to` meets its contract. Assumes nothing.
use Prim.Native.Nat.{ℕ}
use mathlib.Core.Path.{◌≡◌, sym, ap, ◌∙◌, fun_ext}
use mathlib.Core.List.{List}
use borrow.Author.Tests.{lt-ltb, le-ltb}
use lib.Ieee.{Float}
use Rattle.meaning.specs.Over.{over}
use Rattle.meaning.specs.Reply.{give}
use Rattle.routines.specs.Ops.{of_count}
use Rattle.models.specs.Heights.{heights_at, height_rows, heights_to_of}
use Rattle.models.specs.HeightTerms.{height_terms_of, heights_of}
use Rattle.models.specs.declared.fit.SpectrumFit.{SpectrumFit}
use Rattle.models.specs.declared.height_terms.HeightTerms.{HeightTerms}
use Rattle.models.specs.declared.height_terms.Heights.{Heights}
use Rattle.models.proofs.HeightRows.{rows-length}
use Rattle.models.proofs.HeightTerms.{terms-heights}
use Rattle.models.proofs.heights.component_heights_to.Goals as goal

-- the rows from the terms of a fit are the fit's
rows_of : (fit : SpectrumFit) (t : HeightTerms) → t ≡ height_terms_of fit → (n : ℕ)
    → height_rows (λ (k : ℕ). heights_of t (of_count k)) n ≡ height_rows (λ (k : ℕ). heights_at fit (of_count k)) n
rows_of fit t e n =
    ap (λ (f : ℕ → Heights). height_rows f n) (fun_ext (λ (k : ℕ). rw (e) (terms-heights fit (of_count k))))

pub returns-then-last-gt-MOST : goal.returns-then-last-gt-MOST
unfolding heights_to_of
returns-then-last-gt-MOST c =
    let h = lt-ltb _ _ c.if-last-gt-MOST.true in
    record { result_value = simp h; out_after = simp h }

pub returns-then-out-items : goal.returns-then-out-items
unfolding heights_to_of
returns-then-out-items c =
    let h = le-ltb _ _ c.if-last-gt-MOST.false in
    let k = lt-ltb _ _ c.if-out-items.true in
    record { result_value = simp (h, k); out_after = simp (h, k) }

pub returns : goal.returns
unfolding heights_to_of
returns c =
    let h = le-ltb _ _ c.if-last-gt-MOST.false in
    let k = le-ltb _ _ c.if-out-items.false in
    let a = c.args in
    let same = rows_of a.fit _ c.height_terms.ensures a.last in record {
      result_value = simp (h, k) (ap give (sym (rows-length (λ (n : ℕ). heights_at a.fit (of_count n)) a.last)));
      out_after = simp (h, k) (c.write_heights.ensures ∙ ap (λ (l : List Float). over l a.out.now) same);
    }
