-- Where no test of an attempt holds, each converged run of the table is unpacked as `unpack` does, whatever table is
-- lent, if it is long enough, and judged as `validate_fit` does. Assumes nothing.
use Prim.Native.Nat.{ℕ, ◌+◌, ◌≤◌}
use mathlib.Core.Path.{◌≡◌, refl, sym, ap, ◌∙◌, subst}
use mathlib.Core.Bool.{Bool, true, false, not, ◌&&◌, ◌||◌, true≢false}
use mathlib.Core.List.{List, [], ◌∷◌}
use native.Mathlib.Omega.{arith}
use borrow.Author.Tests.{ltb-false, eqb-true, eq-eqb, ne_eqb, le-ltb, not-false}
use lib.Dec.{ltb, eqb}
use lib.ListN.{length, length-take, length-drop}
use lib.Ieee.{Float}
use Rattle.meaning.specs.Reply.{give, first_of}
use Rattle.meaning.specs.Rows.{most, in_order, below_two, above_most, no_window}
use Rattle.meaning.proofs.Chains.{goes_on, chain-passed}
use Rattle.meaning.proofs.Rows.{above-most-clear}
use Rattle.routines.specs.Ops.{of_count}
use Rattle.models.specs.Families.{list_length_of}
use Rattle.models.specs.Masses.{entries_of}
use Rattle.models.specs.Params.{params_of}
use Rattle.models.specs.Refusals.{table_demand, wrong_list, short_table, spectrum_tests, fit_tests}
use Rattle.models.specs.Spectra.{window_of}
use Rattle.models.specs.Unpacking.{fit_with, fit_of, fit_at, fit_in, unpack_of}
use Rattle.models.specs.declared.fit.SpectrumFit.{SpectrumFit}
use Rattle.models.specs.declared.params.Params.{Params}
use Rattle.models.proofs.Passed.{spectrum-passed}
use Rattle.fitter.specs.Candidates.{LongEnough, list_of, unpack_run, RunFit}
use Rattle.fitter.specs.Judging.{fit_of_run, judged_fit_of}
use Rattle.fitter.specs.Runs.{wrong_place, has_wrong_list, list_at}
use Rattle.fitter.specs.Validation.{outside_limit, validate_tests, validate_of, verdict_of}
use Rattle.fitter.specs.declared.runs.Run.{Run}
use Rattle.models.specs.declared.problems.Problem.{Problem}
use Rattle.fitter.proofs.Cleared.{Clear}

-- ---- a run whose list is not wrong
or-none : (a b : Bool) → (a || b) ≡ false → (a ≡ false) × (b ≡ false)
or-none true b e = absurd (true≢false e)
or-none false b e = (refl, e)

module _ (lists : List Float) (wanted : ℕ) (run : Run) (converged : run.converged ≡ true)
    (right : has_wrong_list (length lists) wanted run ≡ false) where
  tested : (eqb run.length wanted ≡ true) × (ltb (length lists) (run.place + run.length) ≡ false)
  unfolding has_wrong_list wrong_place
  tested =
      let both =
      or-none (not (eqb run.length wanted)) (ltb (length lists) (run.place + run.length))
      (sym (ap (λ (b : Bool). b && wrong_place run.place run.length (length lists) wanted) converged) ∙ right) in
      (not-false (eqb run.length wanted) both.0, both.1)

  in-lists : run.place + run.length ≤ length lists
  in-lists = ltb-false (length lists) (run.place + run.length) tested.1

  list-is : list_at lists run.place run.length ≡ list_of lists run
  unfolding list_at
  list-is = rw tested.1

  list-long : length (list_of lists run) ≡ wanted
  list-long =
      let h : run.place + run.length ≤ length lists = in-lists in
      let e : run.length ≡ wanted = eqb-true run.length wanted tested.0 in
      simp (length-take, length-drop) (omega arith)

module _ (bins : List ℕ) (setup : Problem) where
  abbrev end : ℕ
  end = setup.window_end

  abbrev p : List Float → Params
  p list = params_of setup.error setup.genome (of_count setup.peak) list

  -- the fit of a list, with all of the shelf's entries
  abbrev pub whole : List Float → Float → ℕ → SpectrumFit
  whole list cost iterations =
      fit_at bins (window_of bins setup.scale end) setup.error setup.genome (p list)
      (entries_of (p list).shelf (p list).mean end) cost iterations

  module _ (n : ℕ) (wrong bad : Bool) (room : ℕ) (all : Clear bins setup n wrong bad room) where
    end-some : 1 ≤ end
    end-some = (spectrum-passed bins setup.scale end all.spectrum).end-some

    end-few : end ≤ most
    end-few = all.limits.1.1.1.0

    -- ---- what `unpack` and `validate_fit` test
    unpack-passes : (listed other : ℕ) → listed ≡ list_length_of setup.error setup.genome → LongEnough setup other
        → 0 ≡ first_of (fit_tests bins setup.scale end setup.peak setup.error setup.genome listed other)
    unfolding fit_tests
    unpack-passes listed other e h =
        let table = short_table setup.genome end other ∷ [] in
        let list = wrong_list listed setup.error setup.genome ∷ table in
        let spectrum = spectrum_tests bins setup.scale end in
        let highs = length bins ∷ setup.peak ∷ end ∷ [] in
        let above = above_most highs ∷ spectrum ∷ list in
        goes_on (below_two (setup.peak ∷ [])) (in_order (below_two (length bins ∷ []) ∷ above)) refl all.peak-some 0
        (goes_on (below_two (length bins ∷ [])) (in_order above) refl all.bins-some 0
        (goes_on (above_most highs) (in_order (spectrum ∷ list)) refl
        (above-most-clear highs (all.limits.0, (all.limits.1.0, (end-few, tt)))) 0
        (goes_on spectrum (in_order list) (unfold spectrum_tests in refl) all.spectrum 0
        (goes_on (wrong_list listed setup.error setup.genome) (in_order table) refl
        (rw (eq-eqb listed (list_length_of setup.error setup.genome) e)) 0
        (rw (le-ltb other (table_demand setup.genome end) h))))))

    validate-passes : 0 ≡ first_of (validate_tests end setup.valley setup.peak setup.mass_limit)
    unfolding validate_tests
    validate-passes =
        let limit = outside_limit setup.mass_limit ∷ [] in
        let highs = setup.valley ∷ setup.peak ∷ end ∷ [] in
        let above = above_most highs ∷ no_window end ∷ limit in
        let some : 1 ≤ end = end-some in
        goes_on (below_two (setup.valley ∷ [])) (in_order (below_two (setup.peak ∷ []) ∷ above)) refl
        all.valley-some 0
        (goes_on (below_two (setup.peak ∷ [])) (in_order above) refl all.peak-some 0
        (goes_on (above_most highs) (in_order (no_window end ∷ limit)) refl
        (above-most-clear highs (all.limits.1.1.0, (all.limits.1.0, (end-few, tt)))) 0
        (goes_on (no_window end) (in_order limit) refl (rw (ne_eqb end 0 (λ (e : end ≡ 0). omega arith))) 0
        all.limited)))

    -- what `unpack` answers for a list of the right length, whatever the table's
    unpacked : (list : List Float) (cost : Float) (iterations other : ℕ)
        → length list ≡ list_length_of setup.error setup.genome → LongEnough setup other
        → unpack_of bins setup.scale end setup.peak setup.error setup.genome list cost iterations other
        ≡ give (whole list cost iterations)
    unfolding unpack_of
    unpacked list cost iterations other e h =
        chain-passed (give (whole list cost iterations))
        (fit_tests bins setup.scale end setup.peak setup.error setup.genome (length list) other)
        (unfold fit_tests spectrum_tests in refl) (unpack-passes (length list) other e h)

    module _ (lists : List Float) (run : Run) (converged : run.converged ≡ true)
        (right : has_wrong_list (length lists) (list_length_of setup.error setup.genome) run ≡ false) where
      abbrev wanted : ℕ
      wanted = list_length_of setup.error setup.genome

      abbrev fit : SpectrumFit
      fit = fit_of_run bins setup lists room run

      abbrev list : List Float
      list = list_of lists run

      unpack-run : (other : ℕ) → LongEnough setup other
          → unpack_run bins setup lists run other ≡ give (whole list run.cost run.iterations)
      unpack-run other = unpacked list run.cost run.iterations other (list-long lists wanted run converged right)

      fit-whole : fit ≡ whole list run.cost run.iterations
      unfolding fit_of_run
      fit-whole =
          ap (λ (l : List Float).
          fit_in
          (unpack_of bins setup.scale end setup.peak setup.error setup.genome l run.cost run.iterations
          room))
          (list-is lists wanted run converged right)
          ∙ ap fit_in (unpack-run room all.roomed)

      unpack-is : (other : ℕ) → LongEnough setup other → unpack_run bins setup lists run other ≡ give fit
      unpack-is other h = unpack-run other h ∙ ap give (sym fit-whole)

      fit-end : fit.fit_window_end ≡ end
      unfolding fit_at fit_of fit_with
      fit-end = ap (λ (f : SpectrumFit). f.fit_window_end) fit-whole

      validate-is : validate_of fit setup.valley setup.peak setup.mass_limit
          ≡ give (verdict_of fit setup.valley setup.peak setup.mass_limit)
      unfolding validate_of
      validate-is =
          chain-passed (give (verdict_of fit setup.valley setup.peak setup.mass_limit))
          (validate_tests fit.fit_window_end setup.valley setup.peak setup.mass_limit)
          (unfold validate_tests in refl)
          (subst
          (λ (top : ℕ). 0 ≡ first_of (validate_tests top setup.valley setup.peak setup.mass_limit))
          (sym fit-end) validate-passes)

      pub run-fit : let judged = judged_fit_of bins setup lists room run in
          RunFit bins setup lists run judged.fit judged.rejection
      unfolding judged_fit_of
      run-fit = record {
        inside = in-lists lists wanted run converged right;
        unpacked = unpack-is;
        verdict = verdict_of fit setup.valley setup.peak setup.mass_limit;
        validated = validate-is;
        said = refl;
      }
