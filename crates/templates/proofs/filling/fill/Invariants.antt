-- `templates::filling::fill` meets its contract. Assumes nothing.
use Prim.Native.Nat.{ℕ}
use mathlib.Core.List.{List}
use lib.ListN.{drop}
use Rattle.templates.specs.Filling.{text_from, filled_of}
use Rattle.templates.specs.declared.filling.State.{State}
use Rattle.templates.proofs.Cuts.{Putting}
use Rattle.templates.proofs.filling.fill.Given as goal

-- a run of the template is to come
abbrev pub ToCome : (at : ℕ) (template values out₀ : List ℕ) (end : ℕ) (s : State) (rest out : List ℕ) → Type 0
ToCome at template values out₀ end s rest out = Putting at (filled_of template values) out₀ end (text_from values s rest) out

abbrev pub invariant-loop-c : goal.invariant-loop-c
invariant-loop-c l =
    ToCome l.at l.template l.values l.initial.out l.end l.s (drop l.c-index l.template) l.out
