-- Laws of the recovered bins: as many as the bins, each one by its place, one more written, and the answer where no
-- test is met. Assumes nothing.
use Prim.Native.Nat.{ℕ, ◌+◌, ◌≤◌, ◌<◌}
use mathlib.Core.Path.{◌≡◌, refl, sym, ap, ◌∙◌, subst}
use mathlib.Core.List.{List, [], ◌∷◌, map, map-append}
use native.Mathlib.Nat.{le_of_lt}
use native.Mathlib.Numerals.{add-one}
use borrow.Author.Tests.{le-ltb}
use lib.ListN.{length, take, get_or, set, length-map, get_or-map}
use lib.Seq.{take-suc, length-take-le}
use lib.Ieee.{Float}
use Rattle.meaning.specs.Over.{over}
use Rattle.meaning.specs.Reply.{give}
use Rattle.meaning.specs.Rows.{most}
use Rattle.meaning.proofs.Overs.{over-next, get_d_any}
use Rattle.models.specs.Recovery.{used_scale_of, rounded_quotient_of}
use Rattle.fitter.specs.Recovering.{recovered, recover_bins_of}

module _ (used : Float) where
  abbrev f : ℕ → ℕ
  f n = rounded_quotient_of n used

  pub recovered-length : (bins : List ℕ) → length (recovered used bins) ≡ length bins
  unfolding recovered
  recovered-length bins = length-map bins f

  pub recovered-at : (bins : List ℕ) (i : ℕ) → i < length bins
      → rounded_quotient_of (get_or bins i 0) used ≡ get_or (recovered used bins) i 0
  unfolding recovered
  recovered-at bins i h =
      sym (get_d_any (map f bins) i 0 (f 0) (subst (λ (n : ℕ). i < n) (sym (length-map bins f)) h)
      ∙ get_or-map f bins i 0)

  -- ---- written one behind the other
  pub none_written : (bins out : List ℕ) → out ≡ over (recovered used (take 0 bins)) out
  unfolding recovered over
  none_written bins out = refl

  pub one_more : (bins out : List ℕ) (i : ℕ) → i < length bins → i < length out
      → set (over (recovered used (take i bins)) out) i (rounded_quotient_of (get_or bins i 0) used)
      ≡ over (recovered used (take (i + 1) bins)) out
  unfolding recovered
  one_more bins out i h k =
      over-next (map f (take i bins)) out i (f (get_or bins i 0))
      (length-map (take i bins) f ∙ length-take-le i bins (le_of_lt h)) k
      ∙ ap (λ (xs : List ℕ). over xs out)
      (sym (map-append f (take i bins) (get_or bins i 0 ∷ []))
      ∙ ap (map f) (sym (take-suc bins i 0 h) ∙ ap (λ (j : ℕ). take j bins) (sym (add-one i))))

-- ---- the answer
pub recovers : (bins : List ℕ) (scale : Float) (room : ℕ) → 2 ≤ length bins → length bins ≤ most → length bins ≤ room
    → recover_bins_of bins scale room ≡ give (recovered (used_scale_of scale) bins)
unfolding recover_bins_of
recovers bins scale room two limit fits =
    rw (le-ltb (length bins) 2 two, le-ltb most (length bins) limit, le-ltb room (length bins) fits)
