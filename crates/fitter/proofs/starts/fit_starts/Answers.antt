-- `fitter::starts::fit_starts` meets its contract. Assumes nothing.
use Prim.Native.Nat.{ℕ}
use mathlib.Core.Path.{◌≡◌, ap, ◌∙◌}
use mathlib.Core.List.{List}
use lib.Ieee.{Float}
use lib.ListN.{length}
use Rattle.meaning.specs.Lent.{counted, laid}
use Rattle.meaning.specs.Reply.{Reply}
use Rattle.routines.specs.Starts.{pareto_starts, weibull_starts}
use Rattle.models.specs.declared.families.ErrorModel.{ErrorModel}
use Rattle.models.specs.declared.families.GenomeModel.{GenomeModel}
use Rattle.fitter.specs.Starts.{starts_of}
use Rattle.fitter.proofs.starts.fit_starts.Goals as goal

-- the same tables have the same starts
fixed : (error : ErrorModel) (genome : GenomeModel) (p w seeds : List Float) (hint share : Float) (shapes : List Float) (room : ℕ)
    → p ≡ pareto_starts → w ≡ weibull_starts
    → starts_of error genome p w seeds hint share shapes room
    ≡ starts_of error genome pareto_starts weibull_starts seeds hint share shapes room
fixed error genome p w seeds hint share shapes room ep ew = rw (ep, ew)

pub returns : goal.returns
returns c =
    let a = c.args in
    let e = fixed a.error a.genome c.pareto_starts-pareto.result c.weibull_starts-weibull.result a.seeds.now a.hint a.share
    a.shapes.now (length a.out.now) c.pareto_starts-pareto.ensures c.weibull_starts-weibull.ensures in record {
      result_value = c.fit_starts_lent.ensures.result_value ∙ ap (λ (r : Reply (List Float)). counted r) e;
      out_after = c.fit_starts_lent.ensures.out_after ∙ ap (λ (r : Reply (List Float)). laid r a.out.now) e;
    }
