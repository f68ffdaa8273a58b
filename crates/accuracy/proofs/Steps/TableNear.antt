-- The step Λ = STEP_HIGH + STEP_LOW, which exp uses for ln 2 / 32, and the table: T[i] (1 + D[i]) is e ^ (i Λ), and 2
-- is e ^ (32 Λ), up to one part in 2 ^ 92. Computed by partial sums. Assumes nothing.
use Rattle.accuracy.proofs.Prelude.{◌≡◌, refl, sym, subst, Bool, cond, ◌&&◌, ℕ, suc, ◌+◌, ◌-◌, ◌*◌, ◌^◌, ◌<◌}
use Rattle.accuracy.proofs.Prelude.{arith, T, leb, leb→le, lit<}
use mathlib.Core.List.{[]}
use native.Mathlib.Nat.{mul-pos}
use lib.ListN.{get_or, length}
use lib.Ieee.{Float, nan, inf, fin, of_bits, up, down}
use lib.Ieee.Fits.{and_l, and_r}
use lib.Ieee.Positive.{num, den}
use Rattle.routines.specs.Tables.{rows, value_in, rest_in}
use Rattle.accuracy.proofs.Euler.PartialSums.{part, scale, over, scale-pos, above-series, below-series}
use Rattle.accuracy.proofs.Euler.Weaker.{Near, above-weaken, below-weaken}
use Rattle.meaning.specs.Table.{wrong}
use Rattle.meaning.proofs.Rules.{each}

-- Λ = A / C
abbrev pub A : ℕ
A = 1716149295865858542223170973

abbrev pub C : ℕ
C = 2 ^ 96

abbrev pub good : ℕ
good = 2 ^ 92

abbrev pub terms : ℕ
terms = 28

abbrev pub signed : Float → ℕ
signed nan = 0
signed (inf s) = 0
signed (fin s m e) = cond s (down e - m * up e) (down e + m * up e)

-- T (1 + D) as a fraction
abbrev pub top : ℕ × ℕ → ℕ
top r = num (value_in r) * signed (rest_in r)

abbrev pub bottom : ℕ × ℕ → ℕ
bottom r = den (value_in r) * den (rest_in r)

test : ℕ → ℕ → ℕ → Bool
unfolding part scale over
test a W B =
    leb (2 * a) (suc terms * C) && (leb a C && (leb (over terms a C * (B * good)) (W * suc good * scale (suc terms) C)
    && leb (W * good * (scale terms C * (C * C + a))) (part terms a C * (C * C) * (B * suc good))))

C-pos : 0 < C
C-pos = lit< tt

plus-pos : (x a : ℕ) → 0 < x → 0 < x + a
plus-pos x a h = omega arith

test-sound : (a W B : ℕ) → T (test a W B) → Near a C W B good
unfolding test
test-sound a W B t =
    let t3 = leb (W * good * (scale terms C * (C * C + a))) (part terms a C * (C * C) * (B * suc good)) in
    let t2 = leb (over terms a C * (B * good)) (W * suc good * scale (suc terms) C) in
    let r1 = and_r (leb (2 * a) (suc terms * C)) (leb a C && (t2 && t3)) t in
    let r2 = and_r (leb a C) (t2 && t3) r1 in
    record {
      above = above-weaken a C (over terms a C) (scale (suc terms) C) (W * suc good) (B * good)
          (scale-pos (suc terms) C C-pos)
          (leb→le (over terms a C * (B * good)) (W * suc good * scale (suc terms) C) (and_l t2 t3 r2))
          (above-series terms a C
          (leb→le (2 * a) (suc terms * C) (and_l (leb (2 * a) (suc terms * C)) (leb a C && (t2 && t3)) t)));
      below = below-weaken a C (part terms a C * (C * C)) (scale terms C * (C * C + a)) (W * good) (B * suc good)
          (mul-pos (scale-pos terms C C-pos) (plus-pos (C * C) a (mul-pos C-pos C-pos)))
          (leb→le (W * good * (scale terms C * (C * C + a))) (part terms a C * (C * C) * (B * suc good))
          (and_r t2 t3 r2))
          (below-series terms C a C C-pos C-pos (leb→le a C (and_l (leb a C) (t2 && t3) r1)));
    }

-- ---- row i of the table
abbrev pub row_at : ℕ → ℕ × ℕ
row_at i = get_or rows i (0, 0)

count : length rows ≡ 32
unfolding rows
count = refl

-- a rule that no row breaks, computed, holds of row i
pub each_row : (rule : ℕ → ℕ × ℕ → Bool) → wrong rule 0 rows ≡ [] → (i : ℕ) → i < 32 → T (rule i (row_at i))
each_row rule t i h = each rule (0, 0) rows t i (subst (λ (n : ℕ). i < n) (sym count) h)

near-row : ℕ → ℕ × ℕ → Bool
unfolding test
near-row i r = test (i * A) (top r) (bottom r)

none-far : wrong near-row 0 rows ≡ []
unfolding near-row test rows part scale over of_bits
none-far = refl

-- THE TABLES
pub table-near : (i : ℕ) → i < 32 → Near (i * A) C (top (row_at i)) (bottom (row_at i)) good
unfolding near-row
table-near i h = test-sound (i * A) (top (row_at i)) (bottom (row_at i)) (each_row near-row none-far i h)

-- THE LOGARITHM OF 2
pub two-near : Near (32 * A) C 2 1 good
unfolding test part scale over
two-near = test-sound (32 * A) 2 1 pass
  where
    pass : T (test (32 * A) 2 1)
    pass = tt
