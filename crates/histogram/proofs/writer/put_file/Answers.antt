-- `histogram::writer::put_file` meets its contract: the form, the bin count and the bins are put one behind the other.
-- Assumes nothing.
use Prim.Native.Nat.{ℕ, ◌+◌, ◌-◌, ◌≤◌}
use mathlib.Core.Path.{◌≡◌, sym, subst}
use mathlib.Core.List.{List, [], ◌++◌, append-nil}
use lib.ListN.{length, take, drop, set}
use Rattle.histogram.specs.Number.{number_bytes, numbers_bytes}
use Rattle.histogram.specs.File.{write_of}
use Rattle.meaning.specs.Over.{over}
use Rattle.histogram.proofs.Puts.{Putting, begins, puts, puts-all, ends}
use Rattle.histogram.proofs.Sizes.{file-bytes}
use Rattle.histogram.proofs.writer.put_file.Goals as goal

module _ (xs b : List ℕ) (h : length (write_of xs) ≤ length b) where
  abbrev formed : List ℕ
  formed = set b 0 1

  -- the form is put
  at-count : Putting (write_of xs) b formed (number_bytes (length xs) ++ numbers_bytes xs) 1
  at-count =
      puts _ _ _ _ 1 _
      (subst (λ (rest : List ℕ). Putting (write_of xs) b b rest 0) (file-bytes xs) (begins (write_of xs) b)) h

  -- and the bin count
  module _ (ys : List ℕ) (k : ℕ) (ek : k ≡ length (number_bytes (length xs))) (ey : ys ≡ over (number_bytes (length xs)) (take (length formed - 1) (drop 1 formed))) where
    abbrev counted : List ℕ
    counted = take 1 formed ++ (ys ++ drop (length formed - 1) (drop 1 formed))

    at-bins : Putting (write_of xs) b counted (numbers_bytes xs ++ []) (1 + k)
    at-bins =
        subst (λ (rest : List ℕ). Putting (write_of xs) b counted rest (1 + k)) (sym (append-nil (numbers_bytes xs)))
        (puts-all _ _ _ _ _ _ at-count h ys k ek ey)

pub returns : goal.returns
returns c =
    let a = c.args in
    let p = c.put_number-head in
    let q = c.put_bins in
    ends _ _ _ _
    (puts-all _ _ _ _ _ _ (at-bins a.bins.now a.out.now c.requires p.new.out p.result p.ensures.0 p.ensures.1) c.requires q.new.out q.result q.ensures.0 q.ensures.1)
