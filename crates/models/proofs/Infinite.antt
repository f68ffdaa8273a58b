-- The cost is +inf for exactly what is turned away: one of four tests. It is never NaN. Assumes nothing.
use Prim.Native.Nat.{ℕ}
use mathlib.Core.Path.{◌≡◌, refl, sym, ap, ◌∙◌}
use mathlib.Core.Bool.{Bool, true, false, ◌&&◌, cond, true≢false}
use mathlib.Core.List.{List}
use mathlib.Core.Logic.{◌↔◌}
use lib.ListN.{length}
use lib.Ieee.{Float, nan, inf, fin, neg, is_nan}
use lib.Ieee.Scale.{finite}
use Rattle.meaning.specs.Reply.{give}
use Rattle.meaning.proofs.Replies.{gave-answer}
use Rattle.routines.specs.Ops.{of_count}
use Rattle.models.specs.Claims.{masses_at, total_at, TurnedAway, parameters, round_trip, window_mass, log_likelihood}
use Rattle.models.specs.Costs.{mode_held, started, likelihood_usable, evaluated_of, cost_at, cost_of}
use Rattle.models.specs.Masses.{masses_usable}
use Rattle.models.specs.Params.{params_of}
use Rattle.models.specs.Recovery.{used_scale_of}
use Rattle.models.specs.Refusals.{fit_tests}
use Rattle.models.specs.Usable.{params_usable}
use Rattle.models.specs.declared.families.ErrorModel.{ErrorModel}
use Rattle.models.specs.declared.families.GenomeModel.{GenomeModel}
use Rattle.models.specs.declared.params.Params.{Params}

-- a log-likelihood that can be used is finite, and so is its negative
finite-total : (t : Float) → likelihood_usable t ≡ true → neg t ≡ inf false → ⊥
unfolding likelihood_usable neg
finite-total nan h e = absurd (true≢false (sym h))
finite-total (inf s) h e = absurd (true≢false (sym h))
finite-total (fin s m k) h e = absurd (true≢false (ap finite e))

not-nan : (t : Float) → likelihood_usable t ≡ true → is_nan (neg t) ≡ false
unfolding likelihood_usable neg is_nan
not-nan nan h = absurd (true≢false (sym h))
not-nan (inf s) h = refl
not-nan (fin s m k) h = refl

module _ (bins : List ℕ) (scale : Float) (end : ℕ) (p : Params) where
  abbrev masses-held : Bool
  masses-held = masses_usable (masses_at end p)

  abbrev total-held : Bool
  total-held = likelihood_usable (total_at bins scale end p)

  -- the cost by its four tests
  abbrev pub costed : Bool → Bool → Bool → Bool → Float
  costed a b c d = cond (a && b) (cond (c && d) (neg (total_at bins scale end p)) (inf false)) (inf false)

  pub cost-is : cost_at bins scale end p ≡ costed (params_usable p) (mode_held p) masses-held total-held
  unfolding cost_at started evaluated_of
  cost-is = refl

  which : (a b c d : Bool) → params_usable p ≡ a → mode_held p ≡ b → masses-held ≡ c → total-held ≡ d
      → costed a b c d ≡ inf false → TurnedAway bins scale end p
  which false b c d h k m t e = parameters h
  which true false c d h k m t e = round_trip k
  which true true false d h k m t e = window_mass m
  which true true true false h k m t e = log_likelihood t
  which true true true true h k m t e = absurd (finite-total (total_at bins scale end p) t e)

  pub infinite-turned-away : cost_at bins scale end p ≡ inf false → TurnedAway bins scale end p
  infinite-turned-away e = which _ _ _ _ refl refl refl refl (sym cost-is ∙ e)

  never : (a b c d : Bool) → total-held ≡ d → is_nan (costed a b c d) ≡ false
  unfolding is_nan
  never false b c d t = refl
  never true false c d t = refl
  never true true false d t = refl
  never true true true false t = refl
  never true true true true t = not-nan (total_at bins scale end p) t

  pub cost-not-nan : is_nan (cost_at bins scale end p) ≡ false
  cost-not-nan = ap is_nan cost-is ∙ never (params_usable p) (mode_held p) masses-held total-held refl

  last-false : (a b c : Bool) → costed a b c false ≡ inf false
  last-false false b c = refl
  last-false true false c = refl
  last-false true true false = refl
  last-false true true true = refl

  third-false : (a b d : Bool) → costed a b false d ≡ inf false
  third-false false b d = refl
  third-false true false d = refl
  third-false true true d = refl

  second-false : (a c d : Bool) → costed a false c d ≡ inf false
  second-false false c d = refl
  second-false true c d = refl

  pub turned-away-infinite : TurnedAway bins scale end p → cost_at bins scale end p ≡ inf false
  turned-away-infinite (parameters h) = cost-is ∙ ap (λ (a : Bool). costed a (mode_held p) masses-held total-held) h
  turned-away-infinite (round_trip h) =
      cost-is
      ∙ ap (λ (b : Bool). costed (params_usable p) b masses-held total-held) h
      ∙ second-false (params_usable p) masses-held total-held
  turned-away-infinite (window_mass h) =
      cost-is
      ∙ ap (λ (c : Bool). costed (params_usable p) (mode_held p) c total-held) h
      ∙ third-false (params_usable p) (mode_held p) total-held
  turned-away-infinite (log_likelihood h) =
      cost-is
      ∙ ap (costed (params_usable p) (mode_held p) masses-held) h
      ∙ last-false (params_usable p) (mode_held p) masses-held

-- ---- the same of the call: where it gives a cost
module _ (bins : List ℕ) (scale : Float) (end peak : ℕ) (error : ErrorModel) (genome : GenomeModel) (list : List Float)
    (room : ℕ) (v : Float) (gave : cost_of bins scale end peak error genome list room ≡ give v) where
  abbrev p : Params
  p = params_of error genome (of_count peak) list

  given : cost_at bins (used_scale_of scale) end p ≡ v
  unfolding cost_of
  given =
      gave-answer (cost_at bins (used_scale_of scale) end p) v
      (fit_tests bins scale end peak error genome (length list) room) gave

  pub cost-infinite-iff : (v ≡ inf false) ↔ TurnedAway bins (used_scale_of scale) end p
  cost-infinite-iff = (
    λ (e : v ≡ inf false). infinite-turned-away bins (used_scale_of scale) end p (given ∙ e),
    λ (t : TurnedAway bins (used_scale_of scale) end p). sym given ∙ turned-away-infinite bins (used_scale_of scale) end p t,
  )

  pub cost-never-nan : is_nan v ≡ false
  cost-never-nan = ap is_nan (sym given) ∙ cost-not-nan bins (used_scale_of scale) end p
