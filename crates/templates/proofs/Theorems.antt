-- Where the place behind a text lies below the end of the lent bytes, all of the text is there, from the first byte on.
-- Assumes nothing.
use Prim.Native.Nat.{ℕ, suc, ◌≤◌, ◌<◌}
use mathlib.Core.Path.{◌≡◌, sym, ap, ◌∙◌}
use mathlib.Core.List.{List, [], ◌∷◌, ◌++◌, append-nil}
use mathlib.Core.Logic.{⊎_elim}
use native.Mathlib.Nat.{lt_irrefl, lt_of_lt_of_le}
use lib.ListN.{length, take, set, length-set}
use lib.Seq.{take-suc-set, append_snoc}
use Rattle.histogram.proofs.Tests.{below_or}
use Rattle.templates.specs.Cut.{put_at, end_at}
use Rattle.templates.proofs.Cuts.{put-more, put-none, end_more, end-full, end_none}

-- what stood in front stays in front
from : (at : ℕ) (text out : List ℕ) → end_at at text (length out) < length out
    → take (end_at at text (length out)) (put_at at text out) ≡ take at out ++ text
from at [] out h =
    ap (λ (e : ℕ). take e (put_at at [] out)) (end_none at (length out))
    ∙ ap (take at) (put-none at out)
    ∙ sym (append-nil (take at out))
from at (b ∷ text) out h =
    ⊎_elim
    (λ (l : at < length out).
    let e = end_more at b text (length out) l in
    let same = length-set out at b in
    ap (λ (n : ℕ). take n (put_at at (b ∷ text) out)) e
    ∙ ap (take (end_at (suc at) text (length out))) (put-more at b text out l)
    ∙ ap (λ (n : ℕ). take (end_at (suc at) text n) (put_at (suc at) text (set out at b))) (sym same)
    ∙ from (suc at) text (set out at b) (rw same (rw e at h))
    ∙ ap (λ (xs : List ℕ). xs ++ text) (take-suc-set out at b l)
    ∙ append_snoc (take at out) b text)
    (λ (l : length out ≤ at). absurd (lt_irrefl at (lt_of_lt_of_le (rw (end-full at (b ∷ text) (length out) l) at h) l)))
    (below_or at (length out))

pub whole-text : (text out : List ℕ) → end_at 0 text (length out) < length out
    → take (end_at 0 text (length out)) (put_at 0 text out) ≡ text
whole-text text out h = from 0 text out h
