-- The hole cutoff of a fit, as models.rs has it, and whether demand 3's premise holds of it. Definitions only. Assumes
-- nothing.
use Rattle.std.specs.Prelude.{ℕ, suc, min, Bool, not, ◌&&◌, ◌||◌, cond, ltb, Float, Option, None}
use Rattle.std.specs.Float.Ieee.{lt, le, to_unsigned}
use Rattle.std.specs.Float.Ieee.Scale.{finite}
use Rattle.meaning.specs.Reply.{Reply, give, chain}
use Rattle.meaning.specs.Rows.{window_tests}
use Rattle.routines.specs.Constants.{two, zero as nought}
use Rattle.routines.specs.Exp.{exp_of}
use Rattle.routines.specs.Ops.{◌⊘◌, of_count}
use Rattle.routines.specs.Whole.{round_of}
use Rattle.helpers.specs.Shelves.{ln_single_copy_of}
use Rattle.models.specs.declared.fit.SpectrumFit.{SpectrumFit}
use Rattle.models.specs.Walk.{walk_of, all_probable}
use Rattle.models.specs.declared.cutoffs.SureCutoff.{SureCutoff}
use Rattle.models.specs.declared.cutoffs.SureCutoff.TheVariants as surely

-- ---- what the walk is made of
-- the probability of a count in the single-copy component
abbrev pub probability_in : SpectrumFit → ℕ → Float
probability_in fit c = exp_of (ln_single_copy_of (of_count c) fit.mean fit.dispersion fit.shelf)

unfoldable pub walk_starts : SpectrumFit → Bool
walk_starts fit =
    not
    (le fit.genome_kmers nought || not (finite fit.mean) || lt fit.mean two || ltb fit.fit_window_end 2)

abbrev pub allowed_of : SpectrumFit → Float → Float
allowed_of fit budget = budget ⊘ fit.genome_kmers

abbrev pub hole_ceiling : Float → ℕ → ℕ
hole_ceiling mean end = min (to_unsigned 64 (round_of mean)) end

abbrev pub ceiling_of : SpectrumFit → ℕ
ceiling_of fit = hole_ceiling fit.mean fit.fit_window_end

unfoldable pub hole_walk_of : SpectrumFit → Float → Option ℕ
hole_walk_of fit budget = walk_of (probability_in fit) (allowed_of fit budget) (ceiling_of fit)

-- ---- 2, 5, then none or the walk
unfoldable pub hole_cutoff_of : SpectrumFit → Float → Reply (Option ℕ)
hole_cutoff_of fit budget =
    chain (window_tests fit.fit_window_end) (give (cond (walk_starts fit) (hole_walk_of fit budget) None))

-- ---- the premise of demand 3, tested: 2, 5, then no walk, or the same cutoff, sure or not
-- the allowed share is finite, and each probability from count 0 to the ceiling lies between 0 and 2
unfoldable pub sure_of : SpectrumFit → Float → Bool
sure_of fit budget = finite (allowed_of fit budget) && all_probable (probability_in fit) (suc (ceiling_of fit))

pub data Sureness : Type 0 where
  sure : Option ℕ → Sureness
  not_sure : Option ℕ → Sureness
  no_walk : Sureness

abbrev pub sure_says : SureCutoff → Sureness
sure_says (surely.Sure c) = sure c
sure_says (surely.NotSure c) = not_sure c
sure_says surely.NoWalk = no_walk

abbrev pub sureness : Bool → Option ℕ → Sureness
sureness s found = cond s (sure found) (not_sure found)

unfoldable pub hole_cutoff_sure_of : SpectrumFit → Float → Reply Sureness
hole_cutoff_sure_of fit budget =
    chain (window_tests fit.fit_window_end)
    (give (cond (walk_starts fit) (sureness (sure_of fit budget) (hole_walk_of fit budget)) no_walk))
