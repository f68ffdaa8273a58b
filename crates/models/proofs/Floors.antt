-- WHAT `error_floor_cutoff` ANSWERS: one past the last count of the window where the errors reach the height of the
-- single copies at their mode, wherever that mode lies, from 2 to 65,535 (`error-floor-is`); no other number is that
-- (`error-floor-only`). And the corners that document 01 keeps. Assumes nothing.
use Prim.Native.Nat.{ℕ, suc, ◌+◌, ◌-◌, ◌≤◌, ◌<◌}
use mathlib.Core.Path.{◌≡◌, refl, sym, ap, ◌∙◌, subst}
use mathlib.Core.Bool.{Bool, true, false, cond, true≢false, false≢true}
use mathlib.Core.Logic.{◌⊎◌, inl, inr}
use native.Mathlib.Nat.{le_of_suc-le-suc, eq-or-lt_of_le, le_refl, le-suc, lt_of_lt_of_le}
use native.Mathlib.Numerals.{add-one}
use native.Mathlib.Omega.{arith}
use borrow.Author.Tests.{le-ltb, ne_eqb}
use lib.Dec.{eqb}
use lib.Ieee.{Float, nan, le, lt, eq, of_bits, of_int}
use lib.Ieee.Scale.{finite}
use Rattle.meaning.specs.Reply.{give}
use Rattle.meaning.specs.Rows.{window_tests}
use Rattle.meaning.proofs.Chains.{gave-passed}
use Rattle.meaning.proofs.Folds.{fold-keeps}
use Rattle.meaning.proofs.Replies.{gave-answer}
use Rattle.meaning.proofs.Rows.{window-passed}
use Rattle.routines.specs.Constants.{one}
use Rattle.routines.specs.Ops.{◌⊖◌, of_count}
use Rattle.helpers.specs.Lobes.{two64}
use Rattle.models.specs.Heights.{heights_at}
use Rattle.models.specs.declared.fit.SpectrumFit.{SpectrumFit}
use Rattle.models.proofs.Corners.{primary-mode-full}
use Rattle.models.specs.ClaimsHeights.{bad, BadAt, ErrorFloor}
use Rattle.models.specs.HeightCutoffs.{errors_in, reference_of, later_bad, last_bad_of, floor_behind_of, error_floor_of}

-- ---- the last bad count before n
module _ (errors : ℕ → Float) (reference : Float) where
  record LastBad (n last : ℕ) : Type 0 where
    pub low : last < n
    pub found : 1 ≤ last → le reference (errors last) ≡ true
    pub clear : (j : ℕ) → last < j → j < n → le reference (errors j) ≡ false

  step : (k last : ℕ) → 1 ≤ k → LastBad k last → LastBad (suc k) (later_bad reference (errors k) k last)
  unfolding later_bad
  step k last h so = go (le reference (errors k)) refl
    where
      go : (b : Bool) → le reference (errors k) ≡ b → LastBad (suc k) (cond b k last)
      go true e = record {
        low = le_refl (suc k);
        found = λ (l : 1 ≤ k). e;
        clear = λ (j : ℕ) (l : k < j) (m : j < suc k). absurd (omega arith);
      }
      go false e = record {
        low = lt_of_lt_of_le so.low (le-suc k);
        found = so.found;
        clear = λ (j : ℕ) (l : last < j) (m : j < suc k). elim (eq-or-lt_of_le (le_of_suc-le-suc m)) [
          | inl same ↦ subst (λ (i : ℕ). le reference (errors i) ≡ false) (sym same) e
          | inr less ↦ so.clear j l less
        ];
      }

  last-bad : (top : ℕ) → LastBad (top + 1) (last_bad_of errors reference top)
  unfolding last_bad_of
  last-bad top =
      fold-keeps (λ (k : ℕ). later_bad reference (errors k) k) LastBad 1 (top + 1) 0 (omega arith)
      (λ (k last : ℕ) (l : 1 ≤ k) (m : k < top + 1). step k last l)
      (record {
        low = omega arith;
        found = λ (l : 1 ≤ 0). absurd (omega arith);
        clear = λ (j : ℕ) (l : 0 < j) (m : j < 1). absurd (omega arith);
      })

-- ---- THE THEOREMS
module _ (fit : SpectrumFit) where
  abbrev end : ℕ
  end = fit.fit_window_end

  abbrev last : ℕ
  last = last_bad_of (errors_in fit) (reference_of fit) end

  so : LastBad (errors_in fit) (reference_of fit) (end + 1) last
  so = last-bad (errors_in fit) (reference_of fit) end

  -- the last bad count, where there is one, is a count of the window
  last-is-bad : 1 ≤ last → BadAt fit last
  last-is-bad h = (le_of_suc-le-suc (subst (λ (n : ℕ). last < n) (add-one end) so.low), so.found h)

  bad-is : (k : ℕ) → 1 ≤ last → last ≡ k → BadAt fit k
  bad-is k h e = subst (BadAt fit) e (last-is-bad h)

  pub error-floor-is : (c : ℕ) → error_floor_of fit ≡ give c → ErrorFloor fit c
  unfolding error_floor_of
  error-floor-is c gave =
      let few : end ≤ 65535 = (window-passed end (gave-passed (floor_behind_of last) c (window_tests end) gave)).0 in
      let same : floor_behind_of last ≡ c = gave-answer (floor_behind_of last) c (window_tests end) gave in
      let low : last < end + 1 = so.low in
      record {
        least = omega arith;
        most = omega arith;
        behind =
            λ (n : c < 65535) (k : ℕ) (l : c ≤ k) (m : k ≤ end). so.clear k (behind-last last c k same l n)
            (inside k end m);
        before =
            λ (n : c < 65535) (m : 2 < c) (k : ℕ) (l : k + 1 ≡ c). bad-is k (some last c same m)
            (the_last last c k same l m n);
        highest = λ (full : c ≡ 65535). top (some last c same (large c full)) (one_of last end c same low few full);
      }
    where
      inside : (k e : ℕ) → k ≤ e → k < e + 1
      inside k e h = omega arith

      behind-last : (a c k : ℕ) → floor_behind_of a ≡ c → c ≤ k → c < 65535 → a < k
      behind-last a c k e l n = omega arith

      the_last : (a c k : ℕ) → floor_behind_of a ≡ c → k + 1 ≡ c → 2 < c → c < 65535 → a ≡ k
      the_last a c k e l m n = omega arith

      some : (a c : ℕ) → floor_behind_of a ≡ c → 2 < c → 1 ≤ a
      some a c e m = omega arith

      large : (c : ℕ) → c ≡ 65535 → 2 < c
      large c e = omega arith

      one_of : (a n c : ℕ) → floor_behind_of a ≡ c → a < n + 1 → n ≤ 65535 → c ≡ 65535 → (a ≡ 65534) ⊎ (a ≡ 65535)
      one_of a n c e l m f =
          let h : 65534 ≤ a = omega arith in
          elim (eq-or-lt_of_le h) [ inl low ↦ inl (sym low) | inr more ↦ inr (omega arith) ]

      top : 1 ≤ last → (last ≡ 65534) ⊎ (last ≡ 65535) → BadAt fit 65534 ⊎ BadAt fit 65535
      top h (inl e) = inl (bad-is 65534 h e)
      top h (inr e) = inr (bad-is 65535 h e)

  -- ---- and no other number is one
  not_behind : (c k : ℕ) → ErrorFloor fit c → c < 65535 → c ≤ k → BadAt fit k → ⊥
  not_behind c k f n l b = true≢false (sym b.1 ∙ f.behind n k l b.0)

  not_lower : (c d : ℕ) → ErrorFloor fit c → ErrorFloor fit d → c < d → ⊥
  not_lower c d f g l = elim (eq-or-lt_of_le g.most) [
    | inl full ↦ elim (g.highest full) [
      | inl b ↦ not_behind c 65534 f (omega arith) (omega arith) b
      | inr b ↦ not_behind c 65535 f (omega arith) (omega arith) b
    ]
    | inr n ↦ not_behind c (d - 1) f (omega arith) (omega arith)
        (g.before n (above f.least l) (d - 1) (omega arith))
  ]
    where
      above : 2 ≤ c → c < d → 2 < d
      above h l = omega arith

  one-floor : (c d : ℕ) → ErrorFloor fit c → ErrorFloor fit d → c ≡ d
  one-floor c d f g = omega (arith, not_lower c d f g, not_lower d c g f)

  -- a window of counts has a floor, wherever the mode lies: nobody gave it as a count
  module _ (some : 1 ≤ end) (few : end ≤ 65535) where
    pub error-floor-given : error_floor_of fit ≡ give (floor_behind_of last)
    unfolding error_floor_of
    error-floor-given =
        let not-zero : eqb end 0 ≡ false = ne_eqb end 0 (λ (z : end ≡ 0). absurd (omega arith)) in
        rw (le-ltb 65535 end few, not-zero)

    pub error-floor-only : (c : ℕ) → ErrorFloor fit c → error_floor_of fit ≡ give c
    error-floor-only c f =
        let floor = floor_behind_of last in
        error-floor-given ∙ ap give (one-floor floor c (error-floor-is floor error-floor-given) f)

    -- a NaN reference height gives 2
    pub floor-of-nan : reference_of fit ≡ nan → error_floor_of fit ≡ give 2
    floor-of-nan e = error-floor-given ∙ ap give (two last (λ (h : 1 ≤ last). false≢true (sym (never (so.found h)))))
      where
        never : le (reference_of fit) (errors_in fit last) ≡ true → true ≡ false
        never h = sym h ∙ ap (λ (x : Float). le x (errors_in fit last)) e ∙ unfold le lt eq in refl

        two : (a : ℕ) → (1 ≤ a → ⊥) → floor_behind_of a ≡ 2
        two a h = omega (arith, h)

    -- a last bad count of 65,535 gives 65,535
    pub floor-full : end ≡ 65535 → bad fit 65535 ≡ true → error_floor_of fit ≡ give 65535
    floor-full e b =
        error-floor-given
        ∙ ap give
        (full last end so.low e (λ (h : last < 65535). true≢false (sym b ∙ so.clear 65535 h (reached end e))))
      where
        reached : (n : ℕ) → n ≡ 65535 → 65535 < n + 1
        reached n e = omega arith

        full : (a n : ℕ) → a < n + 1 → n ≡ 65535 → (a < 65535 → ⊥) → floor_behind_of a ≡ 65535
        full a n l e h = omega (arith, h)

  -- a finite mode of 2^64 or more is evaluated at 2^64
  pub reference-at-full : finite (fit.mean ⊖ (fit.dispersion ⊖ one)) ≡ true
      → le two64 (fit.mean ⊖ (fit.dispersion ⊖ one)) ≡ true → reference_of fit ≡ (heights_at fit two64).single
  unfolding reference_of
  reference-at-full f h =
      ap (λ (n : ℕ). (heights_at fit (of_count n)).single) (primary-mode-full fit f h)
      ∙ ap (λ (x : Float). (heights_at fit x).single) nearest
    where
      nearest : of_count 18446744073709551615 ≡ two64
      nearest = unfold of_int of_bits in refl
