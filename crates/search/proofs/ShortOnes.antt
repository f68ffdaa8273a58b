-- The row of slices that each hold one number for a run: each is long enough where the row has no number; and what is
-- known once no test of `report_tests` holds. Assumes nothing.
use Prim.Native.Nat.{ℕ, ◌*◌, ◌≤◌}
use mathlib.Core.Path.{◌≡◌, refl}
use mathlib.Core.List.{List, [], ◌∷◌}
use native.Mathlib.Omega.{arith}
use borrow.Author.Tests.{ltb-false}
use lib.Dec.{ltb}
use Rattle.meaning.specs.Reply.{test, first_of}
use Rattle.meaning.specs.Rows.{most, in_order, above_most, too_short}
use Rattle.meaning.proofs.Chains.{parts}
use Rattle.meaning.proofs.Rows.{Each, test-passed, above-most-passed, too-short-passed}
use Rattle.search.specs.Reporting.{short_ones, report_tests}
use Rattle.search.specs.declared.reporting.Columns.{Columns}

module _ (need : ℕ) where
  ones-passed : (rooms : List ℕ) → 0 ≡ first_of (short_ones rooms need) → Each (λ (room : ℕ). need ≤ room) rooms
  ones-passed [] e = tt
  ones-passed (room ∷ rooms) e =
      let both = parts (test (ltb room need) 10 ∷ []) (short_ones rooms need) refl e in (
        ltb-false room need (test-passed (ltb room need) 10 (omega arith) both.0),
        ones-passed rooms both.1,
      )

-- the slices in the order of their test
abbrev pub rooms : Columns → List ℕ
rooms c = c.iterations ∷ c.stopped ∷ c.converged ∷ c.costs ∷ c.places ∷ c.lengths ∷ c.caps ∷ []

pub record ReportPassed (w runs : ℕ) (c : Columns) : Type 0 where
  pub runs-few : runs ≤ most
  pub simplexes-room : runs * (w * w) ≤ c.simplexes
  pub each-room : Each (λ (room : ℕ). runs ≤ room) (rooms c)

pub report-passed : (w runs : ℕ) (c : Columns) → 0 ≡ first_of (report_tests w runs c) → ReportPassed w runs c
unfolding report_tests
report-passed w runs c z =
    let last = short_ones (rooms c) runs ∷ [] in
    let manys = parts (above_most (runs ∷ [])) (in_order (too_short c.simplexes (runs * (w * w)) ∷ last)) refl z in
    let wide = parts (too_short c.simplexes (runs * (w * w))) (in_order last) refl manys.1 in
    record {
      runs-few = (above-most-passed (runs ∷ []) manys.0).0;
      simplexes-room = too-short-passed c.simplexes (runs * (w * w)) wide.0;
      each-room = ones-passed runs (rooms c) wide.1;
    }
