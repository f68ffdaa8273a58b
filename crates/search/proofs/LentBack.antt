-- A slice that was lent to a struct, once it is no longer lent: it holds what the struct's field held last. Assumes
-- nothing.
use Prim.Native.Nat.{ℕ}
use mathlib.Core.Path.{◌≡◌, sym, ◌∙◌}
use mathlib.Core.List.{List}

pub back-is : {A : Type 0} {before after : ℕ} {held all : List A} → after ≡ before → held ≡ all → (last : List A) (name : ℕ)
    → name ≡ before → (name ≡ after → last ≡ held) → last ≡ all
back-is same e last name en back = back (en ∙ sym same) ∙ e
