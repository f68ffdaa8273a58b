-- What a turn writes is the next bytes. Assumes nothing.
use Rattle.std.proofs.Common.{◌≡◌, ◌-◌, ◌≤◌, ◌<◌, ◌++◌, length, take, drop, arith, sym, ap, ◌∙◌, subst, take-add}
use Rattle.std.proofs.Common.{take-take}
use Rattle.std.specs.Io.KnownBytes.{Appends}
use Rattle.std.proofs.KnownBytes.{Appends-trans, Appends-kept}
use Rattle.streams.proofs.output.write_output.Goals as goal
use Rattle.streams.proofs.output.write_output.Goals.{in-Ok, in-Err+else-ne}

pub loop-preserved : goal.loop-preserved
loop-preserved g c =
    let all = c.args.bytes.now in
    let done = c.loop.done in
    let there : done < length all = omega arith in
    elim c.match-write.branch [
      | in-Ok w ↦
          let n = w.in-Ok.n in
          let fits : n ≤ length all - done = omega (arith, w.in-Ok.ensures.bound) in
          let part : take n (take (length all - done) (drop done all)) ≡ take n (drop done all) = take-take n (length all - done) (drop done all) fits in
          let joined : take done all ++ take n (take (length all - done) (drop done all)) ≡ take c.match-write.done all =
          ap (λ l. take done all ++ l) part ∙ sym (take-add done n all) ∙ ap (λ k. take k all) (sym w.done-is) in
          (omega arith, λ h. omega arith, subst (Appends _ _) joined (Appends-trans _ _ _ _ _ c.loop.invariant.2 w.in-Ok.ensures.bytes))
      | in-Err+else-ne w ↦
          (omega arith, λ h. omega arith, subst (Appends _ _) (ap (λ k. take k all) (sym w.done-is)) (Appends-kept _ _ _ _ c.loop.invariant.2 w.in-Err.ensures.bytes))
    ]
