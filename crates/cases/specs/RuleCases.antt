-- The validator's ten rules beside their limits: for each rule fits on either side, for each rule and the next a fit that
-- breaks both, and the numbers that come back instead. Definitions only. Assumes nothing.
use Rattle.std.specs.Prelude.{ℕ, List, [], ◌∷◌, ◌≡◌, Bool, true, false, Float, Some}
use Rattle.std.specs.Float.{binary64, nan, inf}
use Rattle.std.specs.Float.Ieee.{neg, of_bits}
use Rattle.meaning.specs.Reply.{refuse, give}
use Rattle.routines.specs.Constants.{zero, half, one, two, three}
use Rattle.routines.specs.Starts.{dec}
use Rattle.fitter.specs.Validation.{primary_mode_outside_band, judgement_in}
use Rattle.fitter.specs.declared.rejections.FitRejection.{FitRejection}
use Rattle.fitter.specs.declared.rejections.FitRejection.TheVariants as reason
use Rattle.cases.specs.Cases.{Each}
use Rattle.cases.specs.RuleFits.{Change, set, count, weibull, shelved, fit_from, Case, passes, breaks, Answers}
use Rattle.cases.specs.RuleFits.{outward, inward, least, largest}
use Rattle.cases.specs.RuleFits.{w_error, w_single, w_repeat, mean, dispersion, target, singleton, tail, ratio}
use Rattle.cases.specs.RuleFits.{likelihood, bic, deviance, mass_error, mass_single, mass_repeat}
use Rattle.cases.specs.RuleFits.{total_error, total_single, total_repeat, full, limit, end, valley, peak}

abbrev pub infinite : Float
infinite = inf false

abbrev pub minus_infinite : Float
minus_infinite = inf true

-- ---- 1: log-likelihood, BIC or deviance not finite
abbrev pub rule1 : List Case
rule1 =
    ([], passes)
    ∷ (set likelihood nan ∷ [], breaks 1)
    ∷ (set likelihood infinite ∷ [], breaks 1)
    ∷ (set likelihood minus_infinite ∷ [], breaks 1)
    ∷ (set likelihood (neg largest) ∷ [], passes)
    ∷ (set bic nan ∷ [], breaks 1)
    ∷ (set bic infinite ∷ [], breaks 1)
    ∷ (set bic minus_infinite ∷ [], breaks 1)
    ∷ (set bic largest ∷ [], passes)
    ∷ (set bic (neg largest) ∷ [], passes)
    ∷ (set deviance nan ∷ [], breaks 1)
    ∷ (set deviance infinite ∷ [], breaks 1)
    ∷ (set deviance minus_infinite ∷ [], breaks 1)
    ∷ (set deviance largest ∷ [], passes)
    ∷ (set deviance (neg largest) ∷ [], passes)
    ∷ []

-- ---- 2: a weight outside 0 to 1 (both allowed) or NaN
abbrev pub weights : Float → Float → Float → List Change
weights e s r = set w_error e ∷ set w_single s ∷ set w_repeat r ∷ []

abbrev pub rule2_weights : List Case
rule2_weights =
    (weights zero zero zero, passes)
    ∷ (weights (neg zero) (neg zero) (neg zero), passes)
    ∷ (weights one one one, passes)
    ∷ (weights (neg least) zero one, breaks 2)
    ∷ (weights zero (neg least) one, breaks 2)
    ∷ (weights zero one (neg least), breaks 2)
    ∷ (weights (outward one) zero one, breaks 2)
    ∷ (weights zero (outward one) one, breaks 2)
    ∷ (weights zero one (outward one), breaks 2)
    ∷ (weights nan zero one, breaks 2)
    ∷ (weights zero nan one, breaks 2)
    ∷ (weights zero one nan, breaks 2)
    ∷ []

-- mean not finite or ≤ 0; the least and the largest pass this rule, and their mode is 0 or far above the window
abbrev pub rule2_mean : List Case
rule2_mean =
    (set mean zero ∷ set target zero ∷ [], breaks 2)
    ∷ (set mean (neg zero) ∷ set target zero ∷ [], breaks 2)
    ∷ (set mean (neg least) ∷ set target zero ∷ [], breaks 2)
    ∷ (set mean least ∷ set target zero ∷ [], breaks 6)
    ∷ (set mean largest ∷ set target largest ∷ [], breaks 6)
    ∷ (set mean infinite ∷ set target largest ∷ [], breaks 2)
    ∷ (set mean minus_infinite ∷ [], breaks 2)
    ∷ (set mean nan ∷ [], breaks 2)
    ∷ []

-- dispersion not finite or below 1
abbrev pub rule2_dispersion : List Case
rule2_dispersion =
    (set dispersion one ∷ [], passes)
    ∷ (set dispersion (outward one) ∷ [], passes)
    ∷ (set dispersion (inward one) ∷ [], breaks 2)
    ∷ (set dispersion zero ∷ [], breaks 2)
    ∷ (set dispersion largest ∷ set target (neg largest) ∷ [], breaks 6)
    ∷ (set dispersion infinite ∷ [], breaks 2)
    ∷ (set dispersion minus_infinite ∷ [], breaks 2)
    ∷ (set dispersion nan ∷ [], breaks 2)
    ∷ []

-- invalid shelf: a share outside 0 to 0.5 (neither allowed); alpha below 1 - 1e-9; beta not above 0; a retained part below
-- 0.3 - 1e-9; a concentration above 20 + 1e-9; any not finite
abbrev pub rule2_shelf : List Case
rule2_shelf =
    (shelved (dec 1 4) one one ∷ [], passes)
    ∷ (shelved zero one one ∷ [], breaks 2)
    ∷ (shelved least one one ∷ [], passes)
    ∷ (shelved (inward half) one one ∷ [], passes)
    ∷ (shelved half one one ∷ [], breaks 2)
    ∷ (shelved nan one one ∷ [], breaks 2)
    ∷ (shelved (dec 1 4) (dec 999999999 1000000000) one ∷ [], passes)
    ∷ (shelved (dec 1 4) (inward (dec 999999999 1000000000)) one ∷ [], breaks 2)
    ∷ (shelved (dec 1 4) infinite one ∷ [], breaks 2)
    ∷ (shelved (dec 1 4) nan one ∷ [], breaks 2)
    ∷ (shelved (dec 1 4) one least ∷ [], passes)
    ∷ (shelved (dec 1 4) one zero ∷ [], breaks 2)
    ∷ (shelved (dec 1 4) one infinite ∷ [], breaks 2)
    ∷ (shelved (dec 1 4) one nan ∷ [], breaks 2)
    -- 2.99999999 and 7.00000001: the quotient is 0.3 - 1e-9
    ∷ (shelved (dec 1 4) (of_bits binary64 0x4007fffffea86711) (of_bits binary64 0x401c000000abcc78) ∷ [], passes)
    ∷ (shelved (dec 1 4) (of_bits binary64 0x4007fffffea86710) (of_bits binary64 0x401c000000abcc78) ∷ [], breaks 2)
    ∷ (shelved (dec 1 4) (dec 10 1) (dec 10000000001 1000000000) ∷ [], passes)
    ∷ (shelved (dec 1 4) (dec 10 1) (outward (dec 10000000001 1000000000)) ∷ [], breaks 2)
    ∷ []

-- ---- 3: a log mass not finite or above 1e-12
abbrev pub masses : Float → Float → Float → List Change
masses e s r = set mass_error e ∷ set mass_single s ∷ set mass_repeat r ∷ []

abbrev pub rule3 : List Case
rule3 =
    (masses (dec 1 1000000000000) (dec 1 1000000000000) (dec 1 1000000000000), passes)
    ∷ (masses (outward (dec 1 1000000000000)) zero zero, breaks 3)
    ∷ (masses zero (outward (dec 1 1000000000000)) zero, breaks 3)
    ∷ (masses zero zero (outward (dec 1 1000000000000)), breaks 3)
    ∷ (masses (neg largest) (neg largest) (neg largest), passes)
    ∷ (masses minus_infinite zero zero, breaks 3)
    ∷ (masses zero minus_infinite zero, breaks 3)
    ∷ (masses zero zero minus_infinite, breaks 3)
    ∷ (masses infinite zero zero, breaks 3)
    ∷ (masses zero infinite zero, breaks 3)
    ∷ (masses zero zero infinite, breaks 3)
    ∷ (masses nan zero zero, breaks 3)
    ∷ (masses zero nan zero, breaks 3)
    ∷ (masses zero zero nan, breaks 3)
    ∷ []

-- ---- 4: log sum of the totals minus ln of the full total is above ln of the mass limit, or NaN
abbrev pub totals : Float → Float → Float → Float → Float → List Change
totals e s r all most = set total_error e ∷ set total_single s ∷ set total_repeat r ∷ set full all ∷ set limit most ∷ []

-- 0.6931471805599453
abbrev pub ln2 : Float
ln2 = of_bits binary64 0x3fe62e42fefa39ef

abbrev pub rule4 : List Case
rule4 =
    (totals zero minus_infinite minus_infinite one one, passes)
    ∷ (totals least minus_infinite minus_infinite one one, breaks 4)
    ∷ (totals ln2 minus_infinite minus_infinite one two, passes)
    ∷ (totals (outward ln2) minus_infinite minus_infinite one two, breaks 4)
    ∷ (totals minus_infinite ln2 minus_infinite one two, passes)
    ∷ (totals minus_infinite (outward ln2) minus_infinite one two, breaks 4)
    ∷ (totals minus_infinite minus_infinite ln2 one two, passes)
    ∷ (totals minus_infinite minus_infinite (outward ln2) one two, breaks 4)
    -- all three are added up, and each alone would pass
    ∷ (totals zero zero zero one three, passes)
    ∷ (totals zero zero zero one (dec 2999999999999999 1000000000000000), breaks 4)
    -- the full total divides
    ∷ (totals zero minus_infinite minus_infinite half two, passes)
    ∷ (totals zero minus_infinite minus_infinite (dec 4999999999999999 10000000000000000) two, breaks 4)
    ∷ (totals zero zero zero infinite two, passes)
    ∷ (totals zero zero zero zero two, breaks 4)
    ∷ (totals zero zero zero (neg one) two, breaks 4)
    ∷ (totals zero zero zero nan two, breaks 4)
    -- a NaN, but for one that the log sum skips
    ∷ (totals minus_infinite minus_infinite minus_infinite one one, passes)
    ∷ (totals minus_infinite minus_infinite minus_infinite zero one, breaks 4)
    ∷ (totals nan zero zero three two, breaks 4)
    ∷ (totals zero nan zero three two, breaks 4)
    ∷ (totals zero zero nan three two, breaks 4)
    ∷ (totals nan minus_infinite minus_infinite one one, passes)
    ∷ (totals infinite zero zero three largest, breaks 4)
    ∷ []

-- ---- 5: round trip off by more than 0.5, or NaN
abbrev pub lobe : Float → Float → Float → List Change
lobe m d t = set mean m ∷ set dispersion d ∷ set target t ∷ []

abbrev pub rule5 : List Case
rule5 =
    (set target (dec 25 10) ∷ [], passes)
    ∷ (set target (outward (dec 25 10)) ∷ [], breaks 5)
    ∷ (set target (dec 15 10) ∷ [], passes)
    ∷ (set target (inward (dec 15 10)) ∷ [], breaks 5)
    ∷ (set target infinite ∷ [], breaks 5)
    ∷ (set target minus_infinite ∷ [], breaks 5)
    ∷ (set target nan ∷ [], breaks 5)
    -- the mean less the dispersion's part above 1
    ∷ (lobe three two (dec 25 10), passes)
    ∷ (lobe three two (outward (dec 25 10)), breaks 5)
    ∷ (lobe three two (dec 15 10), passes)
    ∷ (lobe three two (inward (dec 15 10)), breaks 5)
    ∷ []

-- ---- 6: primary mode 0 or above the window end
abbrev pub rule6 : List Case
rule6 =
    (count end 3 ∷ [], passes)
    ∷ (count end 2 ∷ [], passes)
    ∷ (count end 1 ∷ [], breaks 6)
    ∷ (set ratio two ∷ lobe one one one, passes)
    ∷ (set ratio two ∷ lobe (inward one) one one, breaks 6)
    ∷ (lobe two two one, passes)
    ∷ (lobe two (outward two) one, breaks 6)
    ∷ (lobe one three (neg one), breaks 6)
    ∷ []

-- ---- 7: error mode above the valley, or a NaN in its scan
-- errors that are most frequent at 3, in a window up to e
abbrev pub late : ℕ → ℕ → List Change
late e v = set singleton (dec 1 100) ∷ set tail (dec 1 10) ∷ weibull three ∷ count end e ∷ count valley v ∷ []

-- a window up to e around a lobe of mode 1
abbrev pub narrow : ℕ → List Change
narrow e = count end e ∷ set ratio two ∷ lobe one one one

abbrev pub rule7 : List Case
rule7 =
    (set singleton (dec 1 10) ∷ [], passes)
    ∷ (late 3 2, breaks 7)
    ∷ (late 3 3, passes)
    ∷ (late 2 2, passes)
    -- a NaN at 1; from 2 on; from 2 on, where the window ends at 1 or at 2
    ∷ (set singleton (neg one) ∷ [], breaks 7)
    ∷ (set singleton two ∷ [], breaks 7)
    ∷ (set singleton two ∷ narrow 1, passes)
    ∷ (set singleton two ∷ narrow 2, breaks 7)
    ∷ (set singleton nan ∷ [], breaks 7)
    ∷ (set tail nan ∷ [], breaks 7)
    ∷ (set tail (neg one) ∷ [], breaks 7)
    -- a log probability of -inf is no NaN
    ∷ (set singleton zero ∷ [], passes)
    ∷ (set singleton one ∷ [], passes)
    ∷ (set tail zero ∷ [], passes)
    ∷ []

-- ---- 8: mode+1 < 0.75·peak, or mode > (0.75+0.58)·peak
-- a lobe of this mode, at the window's end
abbrev pub mode_at : ℕ → ℕ → List Change
mode_at m p = set mean (dec m 1) ∷ set target (dec m 1) ∷ count end m ∷ count peak p ∷ []

abbrev pub rule8 : List Case
rule8 =
    (mode_at 2 4, passes)
    ∷ (mode_at 2 5, breaks 8)
    ∷ (mode_at 4 6, passes)
    ∷ (mode_at 4 7, breaks 8)
    ∷ (mode_at 3 3, passes)
    ∷ (mode_at 4 3, breaks 8)
    ∷ (mode_at 2 2, passes)
    ∷ (mode_at 3 2, breaks 8)
    ∷ []

-- at the limits themselves, 75 and 133: by the rule alone, since the rule before would go through 133 counts
abbrev pub Bands : ℕ × ℕ × Bool → Type 0
Bands row = primary_mode_outside_band (fit_from (mode_at row.0 row.1)) row.1 ≡ row.2

abbrev pub rule8_far : List (ℕ × ℕ × Bool)
rule8_far = (74, 100, false) ∷ (73, 100, true) ∷ (133, 100, false) ∷ (134, 100, true) ∷ []

-- ---- 9: repeat mode not above the primary one
abbrev pub rule9 : List Case
rule9 =
    (set ratio (dec 15 10) ∷ [], passes)
    ∷ (set ratio (inward (dec 15 10)) ∷ [], breaks 9)
    ∷ (set ratio one ∷ [], breaks 9)
    ∷ (set ratio (inward one) ∷ [], breaks 9)
    ∷ (set ratio (outward two) ∷ [], passes)
    ∷ (set ratio largest ∷ [], breaks 9)
    ∷ (set ratio infinite ∷ [], breaks 9)
    ∷ (set ratio nan ∷ [], breaks 9)
    -- 1.25·4 less 2 is 3
    ∷ (set ratio (dec 125 100) ∷ lobe (dec 4 1) three two, passes)
    ∷ (set ratio (inward (dec 125 100)) ∷ lobe (dec 4 1) three two, breaks 9)
    ∷ []

-- ---- 10: log-likelihood above 0
abbrev pub rule10 : List Case
rule10 =
    (set likelihood zero ∷ [], passes)
    ∷ (set likelihood (neg zero) ∷ [], passes)
    ∷ (set likelihood (neg least) ∷ [], passes)
    ∷ (set likelihood least ∷ [], breaks 10)
    ∷ (set likelihood largest ∷ [], breaks 10)
    ∷ []

-- ---- a rule and the next broken: the earlier is the answer. The last breaks all ten.
abbrev pub everything : List Change
everything =
    set bic nan
    ∷ set w_error nan
    ∷ set mass_error nan
    ∷ set full zero
    ∷ set target nan
    ∷ set mean (dec 4 1)
    ∷ count peak 8
    ∷ set ratio one
    ∷ set likelihood least
    ∷ late 3 2

abbrev pub both_broken : List Case
both_broken =
    (set bic nan ∷ set w_error nan ∷ [], breaks 1)
    ∷ (set w_error nan ∷ set mass_error nan ∷ [], breaks 2)
    ∷ (set mass_error nan ∷ set full zero ∷ [], breaks 3)
    ∷ (set full zero ∷ set target nan ∷ [], breaks 4)
    ∷ (set target nan ∷ count end 1 ∷ [], breaks 5)
    ∷ (set mean (dec 4 1) ∷ set target (dec 4 1) ∷ late 3 2, breaks 6)
    ∷ (count peak 5 ∷ late 3 2, breaks 7)
    ∷ (count peak 5 ∷ set ratio one ∷ [], breaks 8)
    ∷ (set ratio one ∷ set likelihood least ∷ [], breaks 9)
    ∷ (everything, breaks 1)
    ∷ []

-- ---- the numbers that come back instead, the lowest first, and before every rule
abbrev pub refused : List Case
refused =
    (count valley 1 ∷ [], refuse 1)
    ∷ (count valley 2 ∷ [], passes)
    ∷ (count valley 65535 ∷ [], passes)
    ∷ (count valley 65536 ∷ [], refuse 2)
    ∷ (count peak 1 ∷ [], refuse 1)
    ∷ (count peak 2 ∷ [], passes)
    ∷ (count peak 65535 ∷ [], breaks 8)
    ∷ (count peak 65536 ∷ [], refuse 2)
    ∷ (count end 0 ∷ [], refuse 5)
    ∷ (count end 65536 ∷ [], refuse 2)
    ∷ (set limit one ∷ set full three ∷ [], passes)
    ∷ (set limit (inward one) ∷ [], refuse 9)
    ∷ (set limit largest ∷ [], passes)
    ∷ (set limit infinite ∷ [], refuse 9)
    ∷ (set limit minus_infinite ∷ [], refuse 9)
    ∷ (set limit nan ∷ [], refuse 9)
    ∷ (count valley 1 ∷ count peak 65536 ∷ [], refuse 1)
    ∷ (count valley 65536 ∷ count end 0 ∷ [], refuse 2)
    ∷ (count end 0 ∷ set limit nan ∷ [], refuse 5)
    ∷ (set limit nan ∷ set bic nan ∷ [], refuse 9)
    ∷ []

-- ---- the reasons by their names
abbrev pub Named : FitRejection × ℕ → Type 0
Named row = give (judgement_in (Some row.0)) ≡ breaks row.1

abbrev pub reasons : List (FitRejection × ℕ)
reasons =
    (reason.NonFiniteLikelihood, 1)
    ∷ (reason.InvalidComponents, 2)
    ∷ (reason.InvalidWindowMass, 3)
    ∷ (reason.ComponentMassExceeded, 4)
    ∷ (reason.UnstableModeParameterisation, 5)
    ∷ (reason.GenomeLobeOutsideFitWindow, 6)
    ∷ (reason.ErrorModePastValley, 7)
    ∷ (reason.PrimaryModeOutsideBand, 8)
    ∷ (reason.RepeatModeTooEarly, 9)
    ∷ (reason.PositiveLogLikelihood, 10)
    ∷ []

-- ---- all of them
abbrev pub Rules1To3 : Type 0
Rules1To3 =
    Each Answers rule1
    × Each Answers rule2_weights
    × Each Answers rule2_mean
    × Each Answers rule2_dispersion
    × Each Answers rule2_shelf
    × Each Answers rule3

abbrev pub Rules4To6 : Type 0
Rules4To6 = Each Answers rule4 × Each Answers rule5 × Each Answers rule6

abbrev pub Rules7To10 : Type 0
Rules7To10 = Each Answers rule7 × Each Answers rule8 × Each Answers rule9 × Each Answers rule10

abbrev pub RulesInOrder : Type 0
RulesInOrder = Each Answers both_broken × Each Answers refused

abbrev pub RuleTable : Type 0
RuleTable = Rules1To3 × Rules4To6 × Rules7To10 × Each Bands rule8_far × RulesInOrder × Each Named reasons
