-- What a run has come to: the loop that looks for the cheapest row, and where that row lies. Assumes nothing.
use Prim.Native.Nat.{ℕ, ◌+◌, ◌*◌, ◌≤◌, ◌<◌}
use mathlib.Core.Path.{◌≡◌, sym, ap, ◌∙◌}
use mathlib.Core.Bool.{Bool, true, false, cond}
use mathlib.Core.List.{List}
use native.Mathlib.Omega.{arith}
use lib.Ieee.{Float, nan, lt}
use lib.ListN.{length, get_or}
use Rattle.meaning.specs.Fold.{fold}
use Rattle.meaning.proofs.Folds.{fold-keeps}
use Rattle.search.specs.Reporting.{least_place, converged_at, capped_at, found_of}
use Rattle.search.specs.Vertices.{Vertex, vertex_at, cost_in, rows_in}
use Rattle.search.specs.declared.reporting.Found.{Found}
use Rattle.search.proofs.Costs.{cost-in}
use Rattle.search.proofs.RowLaws.{rows-length}

-- ---- a turn of the loop
abbrev pub lesser : List Vertex → ℕ → ℕ → ℕ
lesser vs i least = cond (lt (cost_in (vertex_at vs i)) (cost_in (vertex_at vs least))) i least

pub least_fits : (vs : List Vertex) → 0 < length vs → least_place vs < length vs
unfolding least_place
least_fits vs h = fold-keeps (lesser vs) (λ (k x : ℕ). x < length vs) 1 (length vs) 0 h keeps h
  where
    either : (b : Bool) (k x : ℕ) → k < length vs → x < length vs → cond b k x < length vs
    either true k x m p = m
    either false k x m p = p

    keeps : (k x : ℕ) → 1 ≤ k → k < length vs → x < length vs → lesser vs k x < length vs
    keeps k x l m p = either (lt (cost_in (vertex_at vs k)) (cost_in (vertex_at vs x))) k x m p

module _ (w : ℕ) (xs : List Float) where
  pub least-is : least_place (rows_in w w xs) ≡ fold (lesser (rows_in w w xs)) 1 w 0
  unfolding least_place
  least-is = ap (λ (n : ℕ). fold (lesser (rows_in w w xs)) 1 n 0) (rows-length w w xs)

  pub least-in : 0 < w → least_place (rows_in w w xs) < w
  least-in h =
      let e : length (rows_in w w xs) ≡ w = rows-length w w xs in
      let f : least_place (rows_in w w xs) < length (rows_in w w xs) = least_fits (rows_in w w xs) (omega arith) in
      omega arith

  module _ (fits : length xs ≡ w * w) where
    pub chosen : (i least : ℕ) → i < w → least < w → (b : Bool)
        → lt (get_or xs (i * w) nan) (get_or xs (least * w) nan) ≡ b → cond b i least ≡ lesser (rows_in w w xs) i least
    chosen i least h k b e =
        ap (λ (t : Bool). cond t i least) (sym e)
        ∙ ap (λ (x : Float). cond (lt x (get_or xs (least * w) nan)) i least) (sym (cost-in w xs fits i h))
        ∙ ap (λ (x : Float). cond (lt (cost_in (vertex_at (rows_in w w xs) i)) x) i least) (sym (cost-in w xs fits least k))

-- ---- out of what stands in the slice: k is the cheapest row
module _ (w cap : ℕ) (xs : List Float) (fits : length xs ≡ w * w) (some : 0 < w) (from iterations : ℕ) (stopped : Bool) (k : ℕ)
    (e : k ≡ least_place (rows_in w w xs)) where
  abbrev made : Float → ℕ → Found
  made cost k = record {
    converged = converged_at stopped cost;
    cost = cost;
    place = from + k * w + 1;
    hit_cap = capped_at cap iterations stopped;
  }

  pub found-is : (a b : Bool) → a ≡ converged_at stopped (get_or xs (k * w) nan) → b ≡ capped_at cap iterations stopped
      → record { converged = a; cost = get_or xs (k * w) nan; place = from + k * w + 1; hit_cap = b }
      ≡ found_of w cap (rows_in w w xs) from iterations stopped
  unfolding found_of
  found-is a b ea eb =
      let l : least_place (rows_in w w xs) < w = least-in w xs some in
      rw (ea, eb)
      (ap (λ (x : Float). made x k) (sym (cost-in w xs fits k (omega arith)))
      ∙ ap (λ (j : ℕ). made (cost_in (vertex_at (rows_in w w xs) j)) j) e)
