-- A lent table has no part in the answer of `cost` and of `unpack`, whatever it holds and however long it is: two
-- tables, neither of them refused with 10, get the same answer and the same entries written in front. Assumes nothing.
use Prim.Native.Nat.{ℕ, ◌≤◌, zero-le}
use mathlib.Core.Path.{◌≡◌, refl, sym, ap, ◌∙◌, subst}
use mathlib.Core.Bool.{Bool, true, false, cond}
use mathlib.Core.List.{List, [], ◌∷◌}
use borrow.Author.Tests.{eqb-true}
use lib.Dec.{eqb}
use lib.ListN.{length}
use lib.Ieee.{Float}
use Rattle.meaning.specs.Over.{over}
use Rattle.meaning.specs.Reply.{Reply, refuse, broken, give, Test, test, chain}
use Rattle.meaning.specs.Lent.{on_give}
use Rattle.meaning.proofs.Chains.{gave-passed}
use Rattle.meaning.proofs.Overs.{over_none}
use Rattle.routines.specs.Ops.{of_count}
use Rattle.models.specs.Claims.{Writes}
use Rattle.models.specs.Costs.{started, cost_at, table_at, cost_of, cost_table}
use Rattle.models.specs.Masses.{entries_of}
use Rattle.models.specs.Params.{params_of}
use Rattle.models.specs.Recovery.{used_scale_of}
use Rattle.models.specs.Refusals.{spectrum_tests, fit_tests}
use Rattle.models.specs.Spectra.{window_of}
use Rattle.models.specs.Unpacking.{fit_at, unpack_of, unpack_table}
use Rattle.models.specs.declared.families.ErrorModel.{ErrorModel}
use Rattle.models.specs.declared.families.GenomeModel.{GenomeModel}
use Rattle.models.specs.declared.fit.SpectrumFit.{SpectrumFit}
use Rattle.models.specs.declared.params.Params.{Params}
use Rattle.models.proofs.Filled.{entries-few, entries_fit}
use Rattle.models.proofs.Passed.{passed}

-- ---- a chain that does not refuse with a number has no use for the tests of that number
abbrev without : ℕ → List Test → List Test
without n [] = []
without n (test b k ∷ ts) = cond (eqb k n) (without n ts) (test b k ∷ without n ts)

module _ {A : Type 0} (n : ℕ) (r : Reply A) where
  chain-without : (ts : List Test) → (chain ts r ≡ refuse n → ⊥) → chain ts r ≡ chain (without n ts) r
  chain-without [] h = refl
  chain-without (test true k ∷ ts) h = held (eqb k n) refl
    where
      held : (c : Bool) → eqb k n ≡ c → refuse k ≡ chain (cond c (without n ts) (test true k ∷ without n ts)) r
      held true e = absurd (h (ap refuse (eqb-true k n e)))
      held false e = refl
  chain-without (test false k ∷ ts) h = next (eqb k n) (chain-without ts h)
    where
      next : (c : Bool) → chain ts r ≡ chain (without n ts) r
          → chain ts r ≡ chain (cond c (without n ts) (test false k ∷ without n ts)) r
      next true e = e
      next false e = e

module _ (bins : List ℕ) (scale : Float) (end peak : ℕ) (error : ErrorModel) (genome : GenomeModel)
    (list : List Float) where
  abbrev p : Params
  p = params_of error genome (of_count peak) list

  abbrev entries : List Float
  entries = entries_of p.shelf p.mean end

  abbrev tests : ℕ → List Test
  tests room = fit_tests bins scale end peak error genome (length list) room

  -- the table's length is read by no other test
  same_tests : (room other : ℕ) → without 10 (tests room) ≡ without 10 (tests other)
  unfolding fit_tests spectrum_tests
  same_tests room other = refl

  any-table : {A : Type 0} (r : Reply A) (room other : ℕ) → (chain (tests room) r ≡ refuse 10 → ⊥)
      → (chain (tests other) r ≡ refuse 10 → ⊥) → chain (tests room) r ≡ chain (tests other) r
  any-table r room other h k =
      chain-without 10 r (tests room) h
      ∙ ap (λ (ts : List Test). chain ts r) (same_tests room other)
      ∙ sym (chain-without 10 r (tests other) k)

  -- there is room for the entries where an answer comes back
  entries-room : {A : Type 0} (a b : A) (room : ℕ) → chain (tests room) (give a) ≡ give b → length entries ≤ room
  entries-room a b room e =
      let none = gave-passed a b (tests room) e in
      let all = passed bins scale end peak error genome (length list) room none in
      let held = entries_fit genome end room all.spectrum.end-some all.end-few all.roomed error (of_count peak) list in
      subst (λ (xs : List Float). length xs ≤ room) held (entries-few p.shelf p.mean end room)

  -- ---- cost
  abbrev costed : ℕ → Reply Float
  costed room = cost_of bins scale end peak error genome list room

  pub cost-of-any-table : (room other : ℕ) → (costed room ≡ refuse 10 → ⊥) → (costed other ≡ refuse 10 → ⊥)
      → costed room ≡ costed other
  unfolding cost_of
  cost-of-any-table room other = any-table (give (cost_at bins (used_scale_of scale) end p)) room other

  -- what is written by a reply
  abbrev written : Reply Float → List Float
  written r = on_give r (cond (started p) entries []) []

  cost-writes : (held : List Float) (r : Reply Float) → costed (length held) ≡ r
      → Writes (written r) held (on_give r (table_at end p held) held)
  unfolding cost_of table_at
  cost-writes held (refuse n) e = record { room = zero-le; stands = sym (over_none held) }
  cost-writes held (broken n) e = record { room = zero-le; stands = sym (over_none held) }
  cost-writes held (give v) e = go (started p)
    where
      go : (b : Bool) → Writes (cond b entries []) held (cond b (over entries held) held)
      go true = record { room = entries-room _ v (length held) e; stands = refl }
      go false = record { room = zero-le; stands = sym (over_none held) }

  abbrev cost-table : List Float → List Float
  cost-table held = cost_table bins scale end peak error genome list held

  pub cost-writes-alike : (held other : List Float) → (costed (length held) ≡ refuse 10 → ⊥)
      → (costed (length other) ≡ refuse 10 → ⊥)
      → (w : List Float) × Writes w held (cost-table held) × Writes w other (cost-table other)
  unfolding cost_table
  cost-writes-alike held other h k =
      let answer = costed (length held) in
      let same = cost-of-any-table (length held) (length other) h k in (
        written answer,
        cost-writes held answer refl,
        subst (λ (r : Reply Float). Writes (written answer) other (on_give r (table_at end p other) other)) same
            (cost-writes other answer (sym same)),
      )

  -- ---- unpack
  module _ (cost : Float) (iterations : ℕ) where
    abbrev unpacked : ℕ → Reply SpectrumFit
    unpacked room = unpack_of bins scale end peak error genome list cost iterations room

    abbrev fit : SpectrumFit
    fit = fit_at bins (window_of bins scale end) error genome p entries cost iterations

    pub unpack-of-any-table : (room other : ℕ) → (unpacked room ≡ refuse 10 → ⊥) → (unpacked other ≡ refuse 10 → ⊥)
        → unpacked room ≡ unpacked other
    unfolding unpack_of
    unpack-of-any-table room other = any-table (give fit) room other

    unpack-writes : (held : List Float) (r : Reply SpectrumFit) → unpacked (length held) ≡ r
        → Writes (on_give r entries []) held (on_give r (over entries held) held)
    unfolding unpack_of
    unpack-writes held (refuse n) e = record { room = zero-le; stands = sym (over_none held) }
    unpack-writes held (broken n) e = record { room = zero-le; stands = sym (over_none held) }
    unpack-writes held (give v) e = record { room = entries-room fit v (length held) e; stands = refl }

    abbrev unpack-table : List Float → List Float
    unpack-table held = unpack_table bins scale end peak error genome list cost iterations held

    pub unpack-writes-alike : (held other : List Float) → (unpacked (length held) ≡ refuse 10 → ⊥)
        → (unpacked (length other) ≡ refuse 10 → ⊥)
        → (w : List Float) × Writes w held (unpack-table held) × Writes w other (unpack-table other)
    unfolding unpack_table
    unpack-writes-alike held other h k =
        let answer = unpacked (length held) in
        let same = unpack-of-any-table (length held) (length other) h k in
        let written = on_give answer entries [] in (
          written,
          unpack-writes held answer refl,
          subst (λ (r : Reply SpectrumFit). Writes written other (on_give r (over entries other) other)) same
              (unpack-writes other answer (sym same)),
        )
