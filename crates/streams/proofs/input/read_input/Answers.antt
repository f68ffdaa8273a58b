-- What a turn reads is the next bytes. Assumes nothing.
use Rattle.std.proofs.Common.{◌≡◌, ℕ, ◌+◌, ◌-◌, ◌≤◌, List, ◌++◌, rules, arith, length, take, slice_range, sym, ap}
use Rattle.std.proofs.Common.{◌∙◌, subst, le_refl, drop_at, length-take-le, take-add}
use Rattle.std.proofs.lemmas.Slice.{take-put_mid_below}
use Rattle.std.specs.Io.KnownBytes.{Consumes}
use Rattle.std.proofs.KnownBytes.{Consumes-trans, Consumes-kept}
use borrow.Rule.Slice.PartMut.{put_mid, post_of}
use lib.Seq.{take-append-le}
use Rattle.streams.proofs.input.read_input.Goals as goal
use Rattle.streams.proofs.input.read_input.Goals.{in-Ok, in-Err+else-ne}

take_split : (a b : ℕ) (old new : List ℕ) → a ≤ b → take a new ≡ take a old → take a old ++ slice_range new a b ≡ take b new
take_split a b old new h front =
    let same : a + (b - a) ≡ b = omega arith in
    ap (λ l. l ++ slice_range new a b) (sym front) ∙ sym (take-add a (b - a) new) ∙ ap (λ n. take n new) same

slice_range-put_mid : (a k n : ℕ) (xs ys : List ℕ) → a ≤ length xs → n ≤ length ys → slice_range (put_mid a k xs ys) a (a + n) ≡ take n ys
slice_range-put_mid a k n xs ys within fits =
    let same : (a + n) - a ≡ n = omega arith in
    let after = post_of a k xs in
    ap (take ((a + n) - a)) (drop_at (take a xs) (ys ++ after) a (length-take-le a xs within)) ∙ ap (λ m. take m (ys ++ after)) same ∙ take-append-le n ys after fits

pub loop-preserved : goal.loop-preserved
loop-preserved g c =
    let done = c.loop.done in
    let bytes = c.loop.bytes in
    let room = length bytes - done in
    let within = c.loop.invariant.1 in
    let new = put_mid done room bytes c.read.new.buf in
    let front = take-put_mid_below done room bytes c.read.new.buf done (le_refl _) within in
    elim c.match-read.branch [
      | in-Ok w ↦
          let n = w.in-Ok.n in
          let part = slice_range-put_mid done room n bytes c.read.new.buf within w.in-Ok.ensures.bound.0 in
          let joined = take_split done (done + n) bytes new (omega arith) front in
          let whole = ap (λ l. take done bytes ++ l) (sym part) ∙ joined ∙ ap (λ k. take k new) (sym w.done-is) in
          (search rules, search rules, subst (Consumes _ _) whole (Consumes-trans _ _ _ _ _ c.loop.invariant.2 w.in-Ok.ensures.bytes.0))
      | in-Err+else-ne w ↦
          let whole = sym front ∙ ap (λ k. take k new) (sym w.done-is) in
          (search rules, search rules, subst (Consumes _ _) whole (Consumes-kept _ _ _ _ c.loop.invariant.2 w.in-Err.ensures.bytes))
    ]
