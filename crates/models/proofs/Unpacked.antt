-- The steps of unpacking, put together. Assumes nothing.
use Prim.Native.Nat.{ℕ, ◌<◌}
use mathlib.Core.Path.{◌≡◌, sym, ap, ◌∙◌}
use mathlib.Core.List.{List}
use lib.ListN.{length}
use lib.Ieee.{Float}
use Rattle.meaning.specs.Over.{over}
use Rattle.meaning.specs.Reply.{Reply, refuse, give, first_of}
use Rattle.routines.specs.Ops.{of_count}
use Rattle.models.specs.Masses.{entries_of, window_masses_of}
use Rattle.models.specs.Params.{params_of}
use Rattle.models.specs.Refusals.{fit_tests}
use Rattle.models.specs.Spectra.{window_of}
use Rattle.models.specs.Tables.{entries_in}
use Rattle.models.specs.Unpacking.{fit_of, fit_at, unpack_of, unpack_table}
use Rattle.models.specs.declared.families.ErrorModel.{ErrorModel}
use Rattle.models.specs.declared.families.GenomeModel.{GenomeModel}
use Rattle.models.specs.declared.fit.SpectrumFit.{SpectrumFit}
use Rattle.models.specs.declared.params.Params.{Params}
use Rattle.models.specs.declared.spectra.Window.{Window}
use Rattle.models.specs.declared.window_masses.WindowMasses.{WindowMasses}
use Rattle.models.proofs.Passed.{tests-refused, tests-passed, entries-all}

-- ---- what unpack answers
module _ (bins : List ℕ) (scale : Float) (end peak : ℕ) (error : ErrorModel) (genome : GenomeModel) (list : List Float)
    (held : List Float) (n : ℕ) (e : n ≡ first_of (fit_tests bins scale end peak error genome (length list) (length held)))
    (cost : Float) (iterations : ℕ) where
  abbrev unpacked : Reply SpectrumFit
  unpacked = unpack_of bins scale end peak error genome list cost iterations (length held)

  abbrev after : List Float
  after = unpack_table bins scale end peak error genome list cost iterations held

  module _ (h : 0 < n) where
    pub unpack-refused : refuse n ≡ unpacked
    unfolding unpack_of
    unpack-refused = tests-refused bins scale end peak error genome list (length held) n e _ h

    pub refused-table : held ≡ after
    unfolding unpack_table
    refused-table = rw (sym unpack-refused)

  -- `top` is the window end that came back, `k` its count
  module _ (z : n ≡ 0) (top k : ℕ) (s : top ≡ end) (c : k ≡ end) (window : Window) (w : window ≡ window_of bins scale k)
      (q : Params) (d : q ≡ params_of error genome (of_count peak) list) where
    abbrev p : Params
    p = params_of error genome (of_count peak) list

    all : entries_in q.shelf q.mean top (length held) ≡ entries_of p.shelf p.mean end
    all = rw (d, s) (entries-all bins scale end peak error genome list (length held) n e z)

    module _ (fit : SpectrumFit) (table : List Float) (t : table ≡ entries_in q.shelf q.mean top (length held))
        (m : WindowMasses) (o : m ≡ window_masses_of q table top)
        (f : fit ≡ fit_of bins window error genome q m cost iterations) where
      made : fit ≡ fit_at bins (window_of bins scale end) error genome p (entries_of p.shelf p.mean end) cost iterations
      unfolding fit_at
      made = f ∙ rw (o, t, all, w, d, s, c)

      pub unpack-given : give fit ≡ unpacked
      unfolding unpack_of
      unpack-given = ap give made ∙ tests-passed bins scale end peak error genome list (length held) n e _ z

      pub given-table : (now : List Float) → now ≡ over (entries_in q.shelf q.mean top (length held)) held → now ≡ after
      unfolding unpack_table
      given-table now h = rw (sym unpack-given) (h ∙ ap (λ (x : List Float). over x held) all)
