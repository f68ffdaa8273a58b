-- What stands ready changes no number: the cost over no slice, and over a slice as `prepare_window` leaves it, is the
-- cost. Assumes nothing.
use Prim.Native.Nat.{ℕ, zero, suc, ◌+◌, ◌*◌, ◌≤◌, ◌<◌}
use mathlib.Core.Path.{◌≡◌, refl, sym, ap, ◌∙◌, subst}
use mathlib.Core.Bool.{Bool, true, false, cond}
use mathlib.Core.List.{List, [], ◌∷◌, ◌++◌}
use mathlib.Core.Logic.{◌⊎◌, inl, inr}
use native.Mathlib.Nat.{eq-or-lt_of_le}
use native.Mathlib.Numerals.{add-one}
use native.Mathlib.Omega.{arith}
use borrow.Author.Tests.{lt-ltb, le-ltb}
use lib.Dec.{ltb}
use lib.ListN.{length, get_or, drop, set, length-append, get_or-append}
use lib.Seq.{get_or-append-add, append_snoc}
use lib.Ieee.{Float, inf}
use Rattle.meaning.specs.Lent.{on_give, laid}
use Rattle.meaning.specs.Over.{over}
use Rattle.meaning.specs.Reply.{Reply, refuse, give, Test, test, chain, first_of}
use Rattle.meaning.specs.Rows.{most, too_short, window_tests}
use Rattle.meaning.proofs.Chains.{parts, gave-passed}
use Rattle.meaning.proofs.Overs.{over_none, over-length, over-next}
use Rattle.meaning.proofs.Replies.{gave-answer}
use Rattle.meaning.proofs.Rows.{window-passed, too-short-passed}
use Rattle.routines.specs.Constants.{one}
use Rattle.routines.specs.Lgamma.{lgamma_of}
use Rattle.routines.specs.Ln.{ln_of}
use Rattle.routines.specs.Ops.{◌⊕◌, of_count}
use Rattle.helpers.specs.Prepared.{ln_at, gamma_at}
use Rattle.helpers.proofs.Ready.{Ready, nothing-ready}
use Rattle.models.specs.Costs.{started, evaluated_of, cost_with, table_with, cost_at, table_at, cost_of, cost_table}
use Rattle.models.specs.Masses.{entries_of, window_masses_of}
use Rattle.models.specs.Params.{params_of}
use Rattle.models.specs.Prepared.{ready_rows, ready_demand, prepare_of, evaluated_at, cost_ready, prepared_cost_at}
use Rattle.models.specs.Prepared.{prepared_tests, prepared_cost_of, prepared_cost_table}
use Rattle.models.specs.Recovery.{used_scale_of}
use Rattle.models.specs.Refusals.{fit_tests}
use Rattle.models.specs.Tables.{entries_in}
use Rattle.models.specs.declared.families.ErrorModel.{ErrorModel}
use Rattle.models.specs.declared.families.GenomeModel.{GenomeModel}
use Rattle.models.specs.declared.params.Params.{Params}
use Rattle.models.proofs.Passed.{tests-refused, tests-passed, entries-all}
use Rattle.models.proofs.Points.{masses-are, likelihood-is}

-- ---- over a slice that holds what its entries stand for
module _ (bins : List ℕ) (scale : Float) (end : ℕ) (p : Params) (ready : List Float) (few : end ≤ most)
    (held : Ready ready (end + 1)) where
  evaluated-is : (table : List Float) → evaluated_at bins scale end p ready table ≡ evaluated_of bins scale end p table
  unfolding evaluated_at evaluated_of
  evaluated-is table =
      let masses = window_masses_of p table end in
      rw (masses-are ready end few held p table, likelihood-is ready end few held p masses table bins scale)

  pub cost-ready-is : (entries : List Float)
      → cost_ready bins scale end p ready entries ≡ cost_with bins scale end p entries
  cost-ready-is entries = ap (λ (x : Float). cond (started p) x (inf false)) (evaluated-is entries)

-- nothing ready
pub cost-unprepared : (bins : List ℕ) (scale : Float) (end : ℕ) (p : Params) (entries : List Float) → end ≤ most
    → cost_ready bins scale end p [] entries ≡ cost_with bins scale end p entries
cost-unprepared bins scale end p entries few = cost-ready-is bins scale end p [] few (nothing-ready (end + 1)) entries

-- ---- the entries
pub rows-length : (k : ℕ) → length (ready_rows k) ≡ 2 * k
unfolding ready_rows
rows-length zero = refl
rows-length (suc k) =
    let shorter : length (ready_rows k) ≡ 2 * k = rows-length k in
    length-append (ready_rows k) (ln_of (of_count k) ∷ lgamma_of (of_count k ⊕ one) ∷ []) ∙ omega arith

-- entry j of row n: 0 for the log, 1 for the lgamma
abbrev cell : ℕ → ℕ → Float
cell n j = get_or (ln_of (of_count n) ∷ lgamma_of (of_count n ⊕ one) ∷ []) j (ln_of (of_count n))

row_at : (k n j : ℕ) (d : Float) → n < k → j < 2 → get_or (ready_rows k) (2 * n + j) d ≡ cell n j
unfolding ready_rows
row_at zero n j d h l = absurd (omega arith)
row_at (suc k) n j d h l = go (λ (m : n < k). row_at k n j d m l) (eq-or-lt_of_le (below n k h))
  where
    below : (n k : ℕ) → n < suc k → n ≤ k
    below n k h = omega arith

    inside : (j : ℕ) → j < 2 → get_or (ln_of (of_count k) ∷ lgamma_of (of_count k ⊕ one) ∷ []) j d ≡ cell k j
    inside zero l = refl
    inside (suc zero) l = refl
    inside (suc (suc j)) l = absurd (omega arith)

    go : (n < k → get_or (ready_rows k) (2 * n + j) d ≡ cell n j) → (n ≡ k) ⊎ (n < k)
        → get_or (ready_rows (suc k)) (2 * n + j) d ≡ cell n j
    go again (inr m) =
        let shorter : length (ready_rows k) ≡ 2 * k = rows-length k in
        get_or-append (ready_rows k) _ d (2 * n + j) (omega arith) ∙ again m
    go again (inl e) =
        let shorter : length (ready_rows k) ≡ 2 * k = rows-length k in
        let place : 2 * n + j ≡ length (ready_rows k) + j = omega (arith, e) in
        ap (λ (z : ℕ). get_or (ready_rows (suc k)) z d) place
        ∙ get_or-append-add (ready_rows k) _ j d
        ∙ inside j l
        ∙ ap (λ (z : ℕ). cell z j) (sym e)

-- behind them lies what the slice held
in-front : (end n j : ℕ) (held : List Float) (d : Float) → n ≤ end + 1 → j < 2
    → get_or (ready_rows (end + 2) ++ drop (length (ready_rows (end + 2))) held) (2 * n + j) d ≡ cell n j
in-front end n j held d h k =
    let l : length (ready_rows (end + 2)) ≡ 2 * (end + 2) = rows-length (end + 2) in
    get_or-append (ready_rows (end + 2)) _ d (2 * n + j) (omega arith) ∙ row_at (end + 2) n j d (omega arith) k

pub rows-ready : (end : ℕ) (held : List Float) → Ready (over (ready_rows (end + 2)) held) (end + 1)
unfolding ln_at gamma_at over
rows-ready end held = record {
  logs = λ (n : ℕ) (h : n ≤ end + 1).
      let first : 2 * n ≡ 2 * n + 0 = omega arith in
      ap (λ (i : ℕ). get_or (ready_rows (end + 2) ++ drop (length (ready_rows (end + 2))) held) i (ln_of (of_count n))) first
      ∙ in-front end n 0 held (ln_of (of_count n)) h (omega arith);
  gammas = λ (n : ℕ) (h : n ≤ end + 1). in-front end n 1 held (lgamma_of (of_count n ⊕ one)) h (omega arith);
}

-- ---- writing them, one row behind the other
pub rows_none : (held : List Float) → held ≡ over (ready_rows 0) held
unfolding ready_rows
rows_none held = sym (over_none held)

pub rows_more : (held now : List Float) (n : ℕ) (x y : Float) → now ≡ over (ready_rows n) held → 2 * n + 1 < length held
    → x ≡ ln_of (of_count n) → y ≡ lgamma_of (of_count n ⊕ one)
    → set (set now (2 * n) x) (2 * n + 1) y ≡ over (ready_rows (n + 1)) held
unfolding ready_rows
rows_more held now n x y e h p q =
    let l : length (ready_rows n) ≡ 2 * n = rows-length n in
    let longer : length (ready_rows n ++ (x ∷ [])) ≡ 2 * n + 1 =
    length-append (ready_rows n) (x ∷ []) ∙ ap (λ (z : ℕ). z + 1) l in
    ap (λ (z : List Float). set (set z (2 * n) x) (2 * n + 1) y) e
    ∙ ap (λ (z : List Float). set z (2 * n + 1) y) (over-next (ready_rows n) held (2 * n) x l (omega arith))
    ∙ over-next (ready_rows n ++ (x ∷ [])) held (2 * n + 1) y longer h
    ∙ ap (λ (z : List Float). over z held) (append_snoc (ready_rows n) x (y ∷ []))
    ∙ ap (λ (z : Float). over (ready_rows n ++ (z ∷ y ∷ [])) held) p
    ∙ ap (λ (z : Float). over (ready_rows n ++ (ln_of (of_count n) ∷ z ∷ [])) held) q
    ∙ ap (λ (z : ℕ). over (ready_rows z) held) (sym (add-one n))

-- ---- a slice that was filled
pub record Filled (end : ℕ) (ready : List Float) : Type 0 where
  pub end-few : end ≤ most
  pub long : ready_demand end ≤ length ready
  pub held : Ready ready (end + 1)

module _ (end : ℕ) (held xs : List Float) (e : prepare_of end (length held) ≡ give xs) where
  pub filled : Filled end (laid (prepare_of end (length held)) held)
  unfolding prepare_of
  filled =
      let rows = ready_rows (end + 2) in
      let tests = window_tests end ++ too_short (length held) (ready_demand end) in
      let both = parts (window_tests end) (too_short (length held) (ready_demand end)) refl
      (gave-passed rows xs tests e) in
      let room : 2 * (end + 2) ≤ length held = too-short-passed (length held) (ready_demand end) both.1 in
      let same : give xs ≡ give rows = ap give (sym (gave-answer rows xs tests e)) in
      let l : length rows ≡ 2 * (end + 2) = rows-length (end + 2) in
      let k : length (over rows held) ≡ length held = over-length rows held (omega arith) in
      subst (λ (r : Reply (List Float)). Filled end (laid r held)) (sym (e ∙ same)) record {
        end-few = (window-passed end both.0).0;
        long = omega arith;
        held = rows-ready end held;
      }

-- ---- the chain of cost, and the slice's test behind it
chain-split : {A : Type 0} (ts us : List Test) (r : Reply A) → chain (ts ++ us) r ≡ chain ts (chain us r)
chain-split [] us r = refl
chain-split (test true n ∷ ts) us r = refl
chain-split (test false n ∷ ts) us r = chain-split ts us r

module _ (bins : List ℕ) (scale : Float) (end peak : ℕ) (error : ErrorModel) (genome : GenomeModel)
    (list : List Float) where
  abbrev tests : ℕ → List Test
  tests room = fit_tests bins scale end peak error genome (length list) room

  abbrev p : Params
  p = params_of error genome (of_count peak) list

  abbrev entries : List Float
  entries = entries_of p.shelf p.mean end

  module _ (ready : List Float) where
    abbrev answer : ℕ → Reply Float
    answer room = prepared_cost_of bins scale end peak error genome list ready room

    abbrev value : Float
    value = prepared_cost_at bins (used_scale_of scale) end p ready

    -- cost's tests, then whether the slice is too short
    answer-is : (room : ℕ) (b : Bool) → ltb (length ready) (ready_demand end) ≡ b
        → answer room ≡ chain (tests room) (chain (test b 10 ∷ []) (give value))
    unfolding prepared_cost_of prepared_tests
    answer-is room b h =
        chain-split (tests room) (too_short (length ready) (ready_demand end)) (give value)
        ∙ ap (λ (t : Bool). chain (tests room) (chain (test t 10 ∷ []) (give value))) h

    -- ---- what cost_prepared answers
    module _ (room n : ℕ) (e : n ≡ first_of (tests room)) where
      pub prepared-refused : 0 < n → refuse n ≡ answer room
      prepared-refused h = tests-refused bins scale end peak error genome list room n e _ h ∙ sym (answer-is room _ refl)

      pub prepared-short : n ≡ 0 → length ready < ready_demand end → refuse 10 ≡ answer room
      prepared-short z h =
          tests-passed bins scale end peak error genome list room n e (refuse 10) z
          ∙ sym (answer-is room true (lt-ltb (length ready) (ready_demand end) h))

      pub prepared-given : (top : ℕ) (v used : Float) (q : Params) → n ≡ 0 → ready_demand end ≤ length ready → top ≡ end
          → used ≡ used_scale_of scale → q ≡ p
          → v ≡ cost_ready bins used top q ready (entries_in q.shelf q.mean top room)
          → give v ≡ answer room
      unfolding prepared_cost_at
      prepared-given top v used q z l s u d h =
          let all = entries-all bins scale end peak error genome list room n e z in
          let same : v ≡ value = h ∙ rw (s, u, d) (ap (cost_ready bins (used_scale_of scale) end p ready) all) in
          ap give same
          ∙ tests-passed bins scale end peak error genome list room n e (give value) z
          ∙ sym (answer-is room false (le-ltb (length ready) (ready_demand end) l))

    module _ (held : List Float) where
      abbrev stands : List Float
      stands = prepared_cost_table bins scale end peak error genome list ready held

      pub prepared-kept : (n : ℕ) → refuse n ≡ answer (length held) → held ≡ stands
      unfolding prepared_cost_table
      prepared-kept n r = rw (sym r)

      pub prepared-table : (n : ℕ) (e : n ≡ first_of (tests (length held))) (top : ℕ) (t : List Float) (q : Params)
          (v : Float) → n ≡ 0 → give v ≡ answer (length held) → top ≡ end → q ≡ p
          → t ≡ table_with q (entries_in q.shelf q.mean top (length held)) held → t ≡ stands
      unfolding prepared_cost_table table_at
      prepared-table n e top t q v z r s d o =
          let all = entries-all bins scale end peak error genome list (length held) n e z in
          rw (sym r) (o ∙ rw (s, d) (ap (λ (x : List Float). table_with p x held) all))

  -- ---- THE THEOREM: over a slice as `prepare_window` leaves it, whatever it held before
  module _ (held xs : List Float) (e : prepare_of end (length held) ≡ give xs) where
    abbrev ready : List Float
    ready = laid (prepare_of end (length held)) held

    pub prepared-is-cost : (room : ℕ)
        → prepared_cost_of bins scale end peak error genome list ready room
        ≡ cost_of bins scale end peak error genome list room
    unfolding prepared_cost_at cost_of cost_at
    prepared-is-cost room =
        let f = filled end held xs e in
        answer-is ready room false (le-ltb (length ready) (ready_demand end) f.long)
        ∙ ap (λ (x : Float). chain (tests room) (give x))
        (cost-ready-is bins (used_scale_of scale) end p ready f.end-few f.held entries)

    pub prepared-table-is-cost's : (table : List Float)
        → prepared_cost_table bins scale end peak error genome list ready table
        ≡ cost_table bins scale end peak error genome list table
    unfolding prepared_cost_table cost_table
    prepared-table-is-cost's table =
        ap (λ (r : Reply Float). on_give r (table_at end p table) table) (prepared-is-cost (length table))
