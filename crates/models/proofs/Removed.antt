-- What a walk over probabilities from 0 to 2 answers, against their exact sums (`walk-keeps`), by the sharper bound on
-- the f64 sum (`running-near`): after k additions it is off by at most k / 2 ^ 53 of itself. Assumes nothing.
use Prim.Native.Nat.{ℕ, zero, suc, ◌+◌, ◌-◌, ◌*◌, ◌^◌, ◌≤◌, ◌<◌, max, suc-le-suc}
use mathlib.Core.Path.{◌≡◌, sym, subst}
use mathlib.Core.Bool.{Bool, true, false, not, cond}
use native.Mathlib.Nat.{le_trans, le_of_eq, le_of_lt, le-suc, lt_of_lt_of_le, mul-le-mul_right}
use native.Mathlib.Omega.{arith}
use lib.Dec.{T, lit≤}
use lib.Pow.{pow_pos}
use lib.Ieee.{Float, binary64, low, lt, fits}
use lib.Ieee.Scale.{finite, overflow}
use Rattle.routines.specs.Ops.{◌⊕◌}
use Rattle.routines.specs.Units.{units_of, negative, NonNegative, Near}
use Rattle.routines.proofs.Compared.{lt-units, ge-units}
use Rattle.routines.proofs.RunningSum.{near-start, near_step, near_within, near-beyond, near-room}
use Rattle.routines.proofs.Sums.{sum-within, sum-grows}
use Rattle.routines.proofs.Values.{holds-units}
use Rattle.models.specs.ClaimsCutoff.{in_units, sum_below, running, Sharp, AtMost, Exceeds}
use Rattle.models.specs.Walk.{walk_from, walk_of, probable}
use Rattle.models.proofs.ExactSums.{probable-held, probable-bounded, in-units, pos-le, units_below, below_suc}
use Rattle.models.proofs.ExactSums.{below_one, up-to-answer, below-bounded, signed, at-most, exceeds}
use Rattle.std.specs.Prelude.{Option, None, Some}

roomy : 2 ^ 20 * 2 ^ low binary64 ≤ overflow binary64
roomy = lit≤ tt

at_least : (c : ℕ) → 3 ≤ max c 2 → (c ≡ max c 2) × (3 ≤ c)
at_least c h = (omega arith, omega arith)

-- what a walk's answer says of the exact sums: `Keeps` of specs/ClaimsCutoff.antt, over any probabilities
abbrev pub SumsKept : (ℕ → Float) → Float → ℕ → Option ℕ → Type 0
SumsKept p allowed ceiling None = AtMost (sum_below p ceiling) (in_units allowed)
SumsKept p allowed ceiling (Some c) =
    (3 ≤ c → AtMost (sum_below p c) (in_units allowed)) × Exceeds (sum_below p (suc c)) (in_units allowed)

module _ (p : ℕ → Float) (held : (k : ℕ) → T (fits binary64 (p k))) (ceiling : ℕ) (top : ceiling ≤ 65535)
    (between : (k : ℕ) → k ≤ ceiling → probable (p k) ≡ true) where
  -- ---- the f64 sum of p 0 to p k, after k additions
  record Summed (k : ℕ) (cdf : Float) : Type 0 where
    value : NonNegative binary64 cdf
    near : Near k (units_of cdf) (units_below p (suc k))

  module _ (k : ℕ) (cdf : Float) (h : suc k ≤ ceiling) (s : Summed k cdf) where
    term : NonNegative binary64 (p (suc k))
    term = probable-held (p (suc k)) (held (suc k)) (between (suc k) h)

    space : (units_of cdf + units_of (p (suc k))) * 2 < overflow binary64
    space =
        lt_of_lt_of_le
        (near-room k (units_of cdf) (units_below p (suc k)) (units_of (p (suc k))) (2 ^ low binary64) (le_trans h top)
        s.near (pow_pos (low binary64)) (below-bounded p held ceiling between (suc k) (le_trans h (le-suc ceiling)))
        (probable-bounded (p (suc k)) (held (suc k)) (between (suc k) h)))
        roomy

    sum_step : Summed (suc k) (cdf ⊕ p (suc k))
    sum_step =
        let w = sum-within cdf (p (suc k)) s.value term space in
        record {
          value = w.value;
          near =
              subst (Near (suc k) (units_of (cdf ⊕ p (suc k)))) (sym (below_suc p (suc k)))
              (near_step k (units_of cdf) (units_below p (suc k)) (units_of (p (suc k))) (units_of (cdf ⊕ p (suc k)))
              s.near (sum-grows cdf (p (suc k)) s.value term space) (w.under, w.over));
        }

  sum-start : Summed 0 (p 0)
  sum-start = record {
    value = probable-held (p 0) (held 0) (between 0 (omega arith));
    near = subst (Near 0 (units_of (p 0))) (sym (below_one p)) (near-start (units_of (p 0)));
  }

  sums : (k : ℕ) → k ≤ ceiling → Summed k (running p k)
  unfolding running
  sums zero h = sum-start
  sums (suc k) h = sum_step k (running p k) h (sums k (le_of_lt h))

  -- THE SHARPER BOUND
  pub running-near : (k : ℕ) → k ≤ ceiling → Sharp p k
  running-near k h =
      let s = sums k h in
      let u = units_of (running p k) in
      let S = units_below p (suc k) in
      let e = in-units (running p k) s.value in
      let f = signed p held ceiling between (suc k) (suc-le-suc h) in
      record {
        over = rw (e, f) (pos-le (u * 2 ^ 53) (S * 2 ^ 53 + k * u) s.near.over);
        under = rw (e, f) (pos-le (S * 2 ^ 53) (u * 2 ^ 53 + k * u) s.near.under);
      }

  -- ---- the walk
  module _ (allowed : Float) (F : T (fits binary64 allowed)) (K : T (finite allowed)) where
    -- where the walk is at count k + 1: the sum of those below was not above what is allowed, once one was compared
    record Reached (k : ℕ) (cdf : Float) : Type 0 where
      sum : Summed k cdf
      passed : 1 ≤ k → T (not (negative allowed)) × (units_of cdf ≤ units_of allowed)

    within : (k : ℕ) (cdf : Float) → suc k ≤ ceiling → 1 ≤ k → Reached k cdf
        → AtMost (sum_below p (suc k)) (in_units allowed)
    within k cdf h one r =
        at-most p held ceiling between allowed F K (suc k) (le_trans h (le-suc ceiling)) (r.passed one).0
        (near_within k (units_of cdf) (units_below p (suc k)) (units_of allowed) (le_trans (le_of_lt h) top) r.sum.near
        (r.passed one).1)

    module _ (k : ℕ) (cdf : Float) (h : suc k < ceiling) (r : Reached k cdf) where
      summed : Summed (suc k) (cdf ⊕ p (suc k))
      summed = sum_step k cdf (le_of_lt h) r.sum

      -- the sum through k + 1 is above what is allowed
      hit : T (lt allowed (cdf ⊕ p (suc k))) → SumsKept p allowed ceiling (Some (max (suc k) 2))
      hit t = (
        (λ (three : 3 ≤ max (suc k) 2). let e = at_least (suc k) three in
            subst (λ (n : ℕ). AtMost (sum_below p n) (in_units allowed)) e.0
            (within k cdf (le_of_lt h) (past k e.1) r)),
        exceeds p held ceiling between allowed F K (suc (max (suc k) 2)) (answer k ceiling h)
            (λ (s : T (not (negative allowed))). lt_of_lt_of_le
            (near-beyond (suc k) (units_of (cdf ⊕ p (suc k))) (units_below p (suc (suc k))) (units_of allowed)
            (le_trans (le_of_lt h) top) summed.near
            (lt-units binary64 allowed (cdf ⊕ p (suc k)) (units_of (cdf ⊕ p (suc k))) F K
            (holds-units binary64 (cdf ⊕ p (suc k)) summed.value) t s))
            (mul-le-mul_right (2 ^ 36 + 1) (up-to-answer p (suc k) (first k)))),
      )
        where
          past : (k : ℕ) → 3 ≤ suc k → 1 ≤ k
          past k l = omega arith

          answer : (k n : ℕ) → suc k < n → suc (max (suc k) 2) ≤ suc n
          answer k n l = omega arith

          first : (k : ℕ) → 1 ≤ suc k
          first k = omega arith

      -- it is not
      miss : T (not (lt allowed (cdf ⊕ p (suc k)))) → Reached (suc k) (cdf ⊕ p (suc k))
      miss t = record {
        sum = summed;
        passed = λ (one : 1 ≤ suc k). ge-units binary64 allowed (cdf ⊕ p (suc k)) (units_of (cdf ⊕ p (suc k))) F K
            (holds-units binary64 (cdf ⊕ p (suc k)) summed.value) t;
      }

    walks : (left k : ℕ) (cdf : Float) → 2 ≤ ceiling → suc k + left ≡ ceiling → Reached k cdf
        → SumsKept p allowed ceiling (walk_from p allowed left (suc k) cdf)
    unfolding walk_from
    walks zero k cdf two e r =
        let q : suc k ≡ ceiling = omega arith in
        let one : 1 ≤ k = omega arith in
        subst (λ (n : ℕ). AtMost (sum_below p n) (in_units allowed)) q (within k cdf (le_of_eq q) one r)
    walks (suc left) k cdf two e r =
        let h : suc k < ceiling = omega arith in
        let on : suc (suc k) + left ≡ ceiling = omega arith in
        go (lt allowed (cdf ⊕ p (suc k))) (hit k cdf h r)
        (λ (t : T (not (lt allowed (cdf ⊕ p (suc k))))). walks left (suc k) (cdf ⊕ p (suc k)) two on (miss k cdf h r t))
      where
        go : (b : Bool) → (T b → SumsKept p allowed ceiling (Some (max (suc k) 2)))
            → (T (not b) → SumsKept p allowed ceiling (walk_from p allowed left (suc (suc k)) (cdf ⊕ p (suc k))))
            → SumsKept p allowed ceiling
            (cond b (Some (max (suc k) 2)) (walk_from p allowed left (suc (suc k)) (cdf ⊕ p (suc k))))
        go true u v = u tt
        go false u v = v tt

    -- ---- one comparison: the f64 sum through count k against the share, and the exact sum
    pub above-exceeds : (k : ℕ) → k ≤ ceiling → T (lt allowed (running p k))
        → Exceeds (sum_below p (suc k)) (in_units allowed)
    above-exceeds k h t =
        let s = sums k h in
        exceeds p held ceiling between allowed F K (suc k) (suc-le-suc h)
        (λ (n : T (not (negative allowed))). near-beyond k (units_of (running p k)) (units_below p (suc k))
        (units_of allowed) (le_trans h top) s.near
        (lt-units binary64 allowed (running p k) (units_of (running p k)) F K
        (holds-units binary64 (running p k) s.value) t n))

    pub within-keeps : (k : ℕ) → k ≤ ceiling → T (not (lt allowed (running p k)))
        → AtMost (sum_below p (suc k)) (in_units allowed)
    within-keeps k h t =
        let s = sums k h in
        let u = units_of (running p k) in
        let g = ge-units binary64 allowed (running p k) u F K (holds-units binary64 (running p k) s.value) t in
        at-most p held ceiling between allowed F K (suc k) (suc-le-suc h) g.0
        (near_within k u (units_below p (suc k)) (units_of allowed) (le_trans h top) s.near g.1)

    pub walk-keeps : 2 ≤ ceiling → SumsKept p allowed ceiling (walk_of p allowed ceiling)
    unfolding walk_of
    walk-keeps two =
        walks (ceiling - 1) 0 (p 0) two (all ceiling two)
        (record { sum = sum-start; passed = λ (one : 1 ≤ 0). absurd (never one) })
      where
        all : (n : ℕ) → 2 ≤ n → 1 + (n - 1) ≡ n
        all n h = omega arith

        never : 1 ≤ 0 → ⊥
        never h = omega arith
