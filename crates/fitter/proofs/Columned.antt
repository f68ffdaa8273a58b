-- The shorter of two lengths, and the columns of a run table: their runs are the table's. Assumes nothing.
use Prim.Native.Nat.{ℕ, ◌≤◌, ◌<◌, min}
use mathlib.Core.Path.{◌≡◌, refl, ap, ◌∙◌}
use mathlib.Core.Bool.{Bool, true, false, cond}
use mathlib.Core.List.{List, map}
use native.Mathlib.Omega.{arith}
use native.Mathlib.Nat.{le_refl}
use borrow.Author.Tests.{ltb-true, ltb-false, le-ltb}
use lib.Dec.{ltb}
use lib.ListN.{length, length-map, get_or-map}
use lib.Ieee.{Float}
use Rattle.meaning.specs.Flags.{is_set}
use Rattle.fitter.specs.Attempting.{attempt_from}
use Rattle.fitter.specs.Columns.{shorter, shortest, count_of_runs, run_of, past_lent, run_in}
use Rattle.fitter.specs.declared.runs.LentRun.{LentRun}
use Rattle.models.specs.declared.problems.Problem.{Problem}

-- what the code takes for the shorter of two
pub min_shorter : (a b : ℕ) → min a b ≡ shorter a b
min_shorter a b = go (ltb b a) refl
  where
    go : (l : Bool) → ltb b a ≡ l → min a b ≡ cond l b a
    go true e = let k : b < a = ltb-true b a e in omega arith
    go false e = let k : a ≤ b = ltb-false b a e in omega arith

-- ---- the columns of a table
same-shorter : (n : ℕ) → shorter n n ≡ n
same-shorter n = rw (le-ltb n n (le_refl n))

module _ (runs : List LentRun) where
  abbrev converged-of : List ℕ
  converged-of = map (λ (run : LentRun). run.converged) runs

  abbrev costs-of : List Float
  costs-of = map (λ (run : LentRun). run.cost) runs

  abbrev places_of : List ℕ
  places_of = map (λ (run : LentRun). run.place) runs

  abbrev lengths-of : List ℕ
  lengths-of = map (λ (run : LentRun). run.length) runs

  abbrev iterations-of : List ℕ
  iterations-of = map (λ (run : LentRun). run.iterations) runs

  abbrev caps-of : List ℕ
  caps-of = map (λ (run : LentRun). run.hit_cap) runs

  pub columns-run : run_of converged-of costs-of places_of lengths-of iterations-of caps-of ≡ run_in runs
  unfolding run_of run_in
  columns-run j i = record {
    converged = is_set (get_or-map (λ (run : LentRun). run.converged) runs i past_lent j);
    cost = get_or-map (λ (run : LentRun). run.cost) runs i past_lent j;
    place = get_or-map (λ (run : LentRun). run.place) runs i past_lent j;
    length = get_or-map (λ (run : LentRun). run.length) runs i past_lent j;
    iterations = get_or-map (λ (run : LentRun). run.iterations) runs i past_lent j;
    hit_cap = is_set (get_or-map (λ (run : LentRun). run.hit_cap) runs i past_lent j);
  }

  all_same : (a b c d e f n : ℕ) → a ≡ n → b ≡ n → c ≡ n → d ≡ n → e ≡ n → f ≡ n → shortest a b c d e f ≡ n
  all_same a b c d e f n ea eb ec ed ee ef =
      (λ j. shortest (ea j) (eb j) (ec j) (ed j) (ee j) (ef j))
      ∙ ap (λ (m : ℕ). shorter (shorter m m) m) (same-shorter n)
      ∙ ap (λ (m : ℕ). shorter m n) (same-shorter n)
      ∙ same-shorter n

  pub columns-count : count_of_runs converged-of costs-of places_of lengths-of iterations-of caps-of ≡ length runs
  unfolding count_of_runs
  columns-count =
      all_same _ _ _ _ _ _ (length runs) (length-map runs _) (length-map runs _) (length-map runs _) (length-map runs _)
      (length-map runs _) (length-map runs _)

  -- THE THEOREM: over the columns of a table the attempt is that over the table
  pub columns-agree : (bins : List ℕ) (setup : Problem) (lists : List Float) (room : ℕ)
      → attempt_from bins setup lists room (run_of converged-of costs-of places_of lengths-of iterations-of caps-of)
      (count_of_runs converged-of costs-of places_of lengths-of iterations-of caps-of)
      ≡ attempt_from bins setup lists room (run_in runs) (length runs)
  columns-agree bins setup lists room j = attempt_from bins setup lists room (columns-run j) (columns-count j)
