-- Steps 4 and 7 at every x: with a whole k such that x is k Λ up to 0.0109, and a row of the table, step 7's value
-- before its last rounding and its exact scaling is e ^ x up to 0.1976 * 2 ^ -53. Assumes nothing.
use Rattle.accuracy.proofs.Prelude.{◌≡◌, Bool, true, false, ℕ, ◌+◌, ◌*◌, ◌^◌, ◌≤◌, ◌<◌, arith}
use native.Mathlib.Nat.{le_trans, mul-pos, mul-le-mul_left}
use lib.Ieee.{Float}
use Rattle.routines.specs.Exp.{exp_tail, scaled_by, reduced}
use Rattle.accuracy.proofs.Rounding.AnyFormat.{plus, less-of, plus-le, less-le}
use Rattle.accuracy.proofs.Rounding.Binary64.{L, Is, Pair, Power, pair_of}
use Rattle.accuracy.proofs.Steps.TableNear.{good}
use Rattle.accuracy.proofs.Euler.AnySign.{Nearly}
use Rattle.accuracy.proofs.Steps.SumRounded.{Rounded, Seventh, sum-rounded}
use Rattle.accuracy.proofs.Steps.TailNear.{Poly, poly-plus-all, poly-minus-all}
use Rattle.accuracy.proofs.Steps.SumNear.{last, sum_near}
use Rattle.accuracy.proofs.Steps.Reduction.{hi, lo, Reduced, reduced-is}
use Rattle.accuracy.proofs.Steps.PartsTogether.{sharp, together}

-- a row of the table: the value T = tn / td and the correction d, with T (1 + d) = W / B near e ^ sp
pub record Row (d : Float) (dp dm tn td sp : ℕ) : Type 0 where
  pub held : Pair d dp dm
  pub small : (2 ^ 53 * dp ≤ L) × (2 ^ 53 * dm ≤ L)
  pub D : ℕ
  pub sum : D + dm ≡ L + dp
  pub W : ℕ
  pub B : ℕ
  pub is : W * td * L ≡ B * tn * D
  pub W-pos : 0 < W
  pub B-pos : 0 < B
  pub tn-pos : 0 < tn
  pub td-pos : 0 < td
  pub near : Nearly sp 0 L W B good

-- a value y of 53 digits at most, in a binade of 2 ^ 59 w
pub record Scaled (y : Float) (Y w : ℕ) : Type 0 where
  pub is : Is y false Y
  pub power : Power w
  pub from : 2 ^ 59 * w ≤ Y
  pub to : Y ≤ 2 ^ 60 * w
  pub pos : 0 < w
  pub top : Y * 4 < 2 ^ 2098

poly : (r : Float) (t : Bool) (R : ℕ) → Is r t R → 1000 * R ≤ 11 * L → Poly (exp_tail r) (plus t R) (less-of t R)
poly r false R h k = poly-plus-all r R h k
poly r true R h k = poly-minus-all r R h k

module _ (x k y d : Float) (xp xm : ℕ) (s : Bool) (K b : ℕ) (hx : Pair x xp xm) (hk : Is k s (K * L))
    (small : K ≤ 65536) (b-small : 10000 * b ≤ 109 * L)
    (near1 : xp + less-of s (K * hi + K * lo) ≤ xm + plus s (K * hi + K * lo) + b)
    (near2 : xm + plus s (K * hi + K * lo) ≤ xp + less-of s (K * hi + K * lo) + b)
    (dp dm tn td sp Y w : ℕ) (row : Row d dp dm tn td sp) (sc : Scaled y Y w)
    (tp tm P Q : ℕ) (P_pos : 0 < P) (Q-pos : 0 < Q) (two : Nearly tp tm L P Q (2 ^ 80))
    (bal : tp + sp + less-of s (K * hi + K * lo) ≡ tm + plus s (K * hi + K * lo)) where
  rd : Reduced (reduced x k) xp xm (plus s (K * hi + K * lo)) (less-of s (K * hi + K * lo))
  rd = reduced-is x k xp xm s K b hx hk small b-small near1 near2

  -- r is rp - rm units
  abbrev r : Float
  r = reduced x k

  abbrev rp : ℕ
  rp = plus rd.sign rd.R

  abbrev rm : ℕ
  rm = less-of rd.sign rd.R

  r_small : (1000 * rp ≤ 11 * L) × (1000 * rm ≤ 11 * L)
  r_small = (
    le_trans (mul-le-mul_left 1000 (plus-le rd.sign rd.R)) rd.small,
    le_trans (mul-le-mul_left 1000 (less-le rd.sign rd.R)) rd.small,
  )

  po : Poly (exp_tail r) rp rm
  po = poly r rd.sign rd.R rd.is rd.small

  sev : Seventh (scaled_by y d r (exp_tail r)) Y dp dm rp rm po.H w
  sev = sum-rounded y d r (exp_tail r) Y dp dm rp rm po.H w sc.power sc.is row.held
      (pair_of r rd.sign rd.R rd.is) po.is sc.from sc.to sc.pos sc.top
      (less dp L row.small.0, less dm L row.small.1) r_small po.small
    where
      less : (d L : ℕ) → 2 ^ 53 * d ≤ L → 2 ^ 20 * d ≤ L
      less d L h = omega arith

  cr : Nearly (sp + rp) (0 + rm) L (tn * sev.n) (td * Y) last × (0 < sev.n)
  cr = sum_near (scaled_by y d r (exp_tail r)) (exp_tail r) Y dp dm rp rm w row.D row.W row.B tn td sp po sev
      sc.from sc.pos row.small row.sum r_small row.is row.W-pos row.B-pos row.tn-pos
      row.td-pos row.near

  -- THE THEOREM: step 7's value is n units, rounded, and with 2 ^ M = P / Q: e ^ x is 2 ^ M T n / y up to 1 / sharp
  pub near-for-index : (n : ℕ) × Rounded (scaled_by y d (reduced x k) (exp_tail (reduced x k))) n
      × Nearly xp xm L (P * (tn * n)) (Q * (td * Y)) sharp
  near-for-index =
      let Pp = plus s (K * hi + K * lo) in
      let Mm = less-of s (K * hi + K * lo) in (
        sev.n,
        sev.rounds,
        together tp tm (sp + rp) (0 + rm) (xp + Mm + rm) (rp + (xm + Pp)) xp xm P Q (tn * sev.n) (td * Y) P_pos Q-pos
            (mul-pos row.tn-pos cr.1) (mul-pos row.td-pos (y-pos Y w sc.pos sc.from)) two cr.0
            rd.near.1 rd.near.0 (flat tp tm sp rp rm xp xm Pp Mm bal),
      )
    where
      y-pos : (Y w : ℕ) → 0 < w → 2 ^ 59 * w ≤ Y → 0 < Y
      y-pos Y w h k = omega arith

      flat : (tp tm sp rp rm xp xm P M : ℕ) → tp + sp + M ≡ tm + P
          → tp + (sp + rp) + (xp + M + rm) + xm ≡ xp + (tm + (0 + rm) + (rp + (xm + P)))
      flat tp tm sp rp rm xp xm P M h = omega arith
