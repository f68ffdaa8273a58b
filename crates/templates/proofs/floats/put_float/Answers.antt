-- `templates::floats::put_float` meets its contract. Assumes nothing.
use Prim.Native.Nat.{ℕ}
use mathlib.Core.Path.{ap, ◌∙◌}
use Rattle.io.specs.Digits.{last_digits}
use Rattle.templates.specs.Floats.{eyes_of, float_of}
use Rattle.templates.proofs.Cuts.{put_same, joined}
use Rattle.templates.proofs.Numerals.{sixteen}
use borrow.Author.Rules.{rules}
use Rattle.templates.proofs.floats.put_float.Goals as goal

pub returns : goal.returns
unfolding float_of
returns c =
    let bits = c.args.bits in
    let r = joined _ _ _ _ _ _ _ _
    (put_same _ _ _ _ _ _
    (c.hex-n.ensures.digits ∙ ap (λ (k : ℕ). last_digits 16 k bits) (sixteen _ bits (search rules) c.hex-n.ensures.len))
    (c.put_text-space.ensures.value, c.put_text-space.ensures.out_after))
    (joined _ _ _ _ _ _ _ _ (c.put_text-behind.ensures.value, c.put_text-behind.ensures.out_after)
    (put_same _ _ _ _ _ _ (ap eyes_of c.float.ensures) (c.put_eyes.ensures.value, c.put_eyes.ensures.out_after))) in
    record { value = r.0; out_after = r.1 }
