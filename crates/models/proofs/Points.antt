-- The masses and the log-likelihood, with what does not change worked out before, with what one count leaves ready for
-- the next, and over a slice that holds what its entries stand for, are those of their definitions. Assumes nothing.
use Prim.Native.Nat.{ℕ, ◌+◌, ◌^◌, ◌≤◌, ◌<◌, zero-le}
use mathlib.Core.Path.{◌≡◌, refl, sym, ap, ◌∙◌}
use mathlib.Core.List.{List, []}
use native.Mathlib.Omega.{arith}
use lib.Ieee.{Float, neg}
use Rattle.meaning.proofs.Folds.{fold_same}
use Rattle.routines.specs.Constants.{zero, one}
use Rattle.routines.specs.Expm1.{expm1_of}
use Rattle.routines.specs.Ln.{ln_of}
use Rattle.routines.specs.Ops.{◌⊕◌, ◌⊖◌, ◌⊗◌, of_count}
use Rattle.routines.proofs.Counts.{count-more, count_less}
use Rattle.helpers.specs.Hoists.{lobe_of, density_with}
use Rattle.helpers.specs.Lobes.{ln_dnbinom_of}
use Rattle.helpers.specs.Prepared.{ln_at, gamma_at, gamma_with}
use Rattle.helpers.proofs.Densities.{density-is}
use Rattle.helpers.proofs.Ready.{Ready, nothing-ready, gamma-with-is, density-with-is}
use Rattle.helpers.proofs.Ready.{lobe-mass-is, mix-at-is, mix-mass-is}
use Rattle.models.specs.Errors.{survival_of, ln_tail_of, log_probability_of, log_window_mass_to}
use Rattle.models.specs.Hoists.{survival_with, log_probability_between, window_mass_with, steady_of, masses_at}
use Rattle.models.specs.Hoists.{ahead_of}
use Rattle.models.specs.Hoists.{after_of, point_from, point_at, point_term_at, likelihood_at}
use Rattle.models.specs.Likelihoods.{point_with, point_of, point_term, likelihood_of}
use Rattle.models.specs.Masses.{window_masses_of}
use Rattle.models.specs.Spectra.{recovered_at, seen_term, observed_step, over_observed}
use Rattle.models.specs.declared.errors.ErrorParams.{ErrorParams}
use Rattle.models.specs.declared.likelihoods.Ahead.{Ahead}
use Rattle.models.specs.declared.params.Params.{Params}
use Rattle.models.specs.declared.steady.Steady.{Steady}
use Rattle.models.specs.declared.window_masses.WindowMasses.{WindowMasses}

-- ---- a count's neighbours
wide : (n : ℕ) → n ≤ 65536 → n ≤ 2 ^ 53
wide n h = omega arith

up-and-down : (n : ℕ) → n ≤ 65535 → of_count n ⊕ one ⊖ one ≡ of_count n
up-and-down n h =
    ap (λ (x : Float). x ⊖ one) (count-more n (wide n (omega arith))) ∙ count_less n (wide (n + 1) (omega arith))

-- ---- what one count leaves ready for the next
module _ (e : ErrorParams) (ready : List Float) where
  pub standing : {i : ℕ} {a : Ahead} → a ≡ ahead_of e ready i → a ≡ ahead_of e ready a.bin
  standing h = h ∙ ap (ahead_of e ready) (sym (ap (λ (a : Ahead). a.bin) h))

  module _ (i : ℕ) (here next : Ahead) (h : here ≡ ahead_of e ready i) (k : next ≡ after_of here.log e ready i) where
    pub next-stands : next ≡ ahead_of e ready next.bin
    next-stands = standing (k ∙ ap (λ (x : Float). after_of x e ready i) (ap (λ (a : Ahead). a.log) h))

pub step_is : (p : Params) (m : WindowMasses) (s : Steady) (ready table : List Float) (i : ℕ) (here next : Ahead)
    (gamma : Float) → i ≤ 65535 → here ≡ ahead_of p.error_params ready i → next ≡ after_of here.log p.error_params ready i
    → gamma ≡ gamma_with ready (i + 1) next.log
    → point_from p m s table (i + 1) here.survival next.survival gamma ≡ point_at p m s ready table i
step_is p m s ready table i here next gamma few h k g =
    let e = p.error_params in
    let log : here.log ≡ ln_at ready (i + 1) = ap (λ (a : Ahead). a.log) h in
    let high : here.survival ≡ survival_with e (ln_at ready i) = ap (λ (a : Ahead). a.survival) h in
    let low : next.survival ≡ survival_with e (ln_at ready (i + 1)) =
    ap (λ (a : Ahead). a.survival) k ∙ ap (survival_with e) log in
    let gammas : gamma ≡ gamma_at ready (i + 1) =
    g ∙ gamma-with-is ready (i + 1) next.log (wide (i + 1) (omega arith)) (ap (λ (a : Ahead). a.log) k) in
    ap (λ (x : Float). point_from p m s table (i + 1) x next.survival gamma) high
    ∙ ap (λ (x : Float). point_from p m s table (i + 1) (survival_with e (ln_at ready i)) x gamma) low
    ∙ ap (point_from p m s table (i + 1) (survival_with e (ln_at ready i)) (survival_with e (ln_at ready (i + 1)))) gammas

-- ---- the error component
survival-is : (e : ErrorParams) (x : Float) → survival_with e (ln_of (x ⊖ one)) ≡ survival_of e x
unfolding survival_with survival_of
survival-is e x = refl

module _ (ready : List Float) (end : ℕ) (few : end ≤ 65535) (held : Ready ready (end + 1)) where
  -- the survival from a count, by the log of the count before
  from-log : (e : ErrorParams) (n : ℕ) (x : Float) → n ≤ end → x ⊖ one ≡ of_count n
      → survival_with e (ln_at ready n) ≡ survival_of e x
  from-log e n x h down = ap (survival_with e) (held.logs n (omega arith) ∙ ap ln_of (sym down)) ∙ survival-is e x

  window-mass-is : (e : ErrorParams) → window_mass_with e (ln_tail_of e) (ln_at ready end) ≡ log_window_mass_to e end
  unfolding window_mass_with log_window_mass_to
  window-mass-is e =
      ap (λ (s : Float). ln_of (neg (expm1_of (ln_tail_of e ⊕ s))))
      (from-log e end (of_count end ⊕ one) (omega arith) (up-and-down end few))

  probability-is : (e : ErrorParams) (i : ℕ) → i < end
      → log_probability_between e (ln_tail_of e) (of_count (i + 1)) (survival_with e (ln_at ready i)) (survival_with e (ln_at ready (i + 1)))
      ≡ log_probability_of e (of_count (i + 1))
  unfolding log_probability_between log_probability_of
  probability-is e i h =
      let here = from-log e i (of_count (i + 1)) (omega arith) (count_less i (wide (i + 1) (omega arith))) in
      let next = from-log e (i + 1) (of_count (i + 1) ⊕ one) (omega arith) (up-and-down (i + 1) (omega arith)) in
      rw (here, next)

  -- ---- the masses
  pub masses-are : (p : Params) (table : List Float)
      → masses_at p (steady_of p) ready table end ≡ window_masses_of p table end
  unfolding masses_at window_masses_of
  masses-are p table =
      let lobe = lobe-mass-is ready end held p.mean p.dispersion in
      let second = lobe-mass-is ready end held (p.repeat_ratio ⊗ p.mean) p.dispersion in
      let single = mix-mass-is p.shelf table p.mean p.dispersion _ end lobe in
      rw (window-mass-is p.error_params, single, second)

  -- ---- the log-likelihood
  module _ (p : Params) (m : WindowMasses) (table : List Float) where
    density-at : (mean : Float) (i : ℕ) → i < end
        → density_with (lobe_of mean p.dispersion) (of_count (i + 1)) (gamma_at ready (i + 1))
        ≡ ln_dnbinom_of (of_count (i + 1)) mean p.dispersion
    density-at mean i h =
        ap (density_with (lobe_of mean p.dispersion) (of_count (i + 1))) (held.gammas (i + 1) (omega arith))
        ∙ density-with-is (lobe_of mean p.dispersion) (of_count (i + 1))
        ∙ density-is (of_count (i + 1)) mean p.dispersion

    point-is : (i : ℕ) → i < end → point_at p m (steady_of p) ready table i ≡ point_of p m table (of_count (i + 1))
    unfolding point_from point_with
    point-is i h =
        let lobe = density-at p.mean i h in
        let second = density-at (p.repeat_ratio ⊗ p.mean) i h in
        let mixed = mix-at-is p.shelf table (ln_dnbinom_of (of_count (i + 1)) p.mean p.dispersion) (i + 1)
        (wide (i + 1) (omega arith)) in
        rw (probability-is p.error_params i h, lobe, second, mixed)

    pub likelihood-is : (bins : List ℕ) (scale : Float)
        → likelihood_at bins scale end p m (steady_of p) ready table ≡ likelihood_of bins scale end p m table
    unfolding likelihood_at likelihood_of over_observed
    likelihood-is bins scale =
        fold_same (observed_step bins scale (point_term_at p m (steady_of p) ready table))
        (observed_step bins scale (point_term p m table)) 0 end (neg zero) zero-le
        (λ (i : ℕ) (total : Float) (l : 0 ≤ i) (h : i < end).
        ap (λ (x : Float). let n = recovered_at bins scale i in seen_term n total (of_count n ⊗ x)) (point-is i h))

-- nothing ready
pub plain-masses : (p : Params) (s : Steady) (table : List Float) (end : ℕ) → end ≤ 65535 → s ≡ steady_of p
    → masses_at p s [] table end ≡ window_masses_of p table end
plain-masses p s table end few e =
    ap (λ (k : Steady). masses_at p k [] table end) e ∙ masses-are [] end few (nothing-ready (end + 1)) p table
