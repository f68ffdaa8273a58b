-- What most files here use of the kit: equality, either of two, Bool, whole numbers and their tests, powers. Assumes
-- nothing.
pub use mathlib.Core.Path.{◌≡◌, refl, sym, ap, ◌∙◌, subst}
pub use mathlib.Core.Logic.{◌⊎◌, inl, inr}
pub use mathlib.Core.Bool.{Bool, true, false, not, cond, ◌&&◌, true≢false, beq as Bool·beq}
pub use Prim.Native.Nat.{ℕ, zero, suc, ◌+◌, ◌-◌, ◌*◌, ◌/◌, ◌%◌, ◌^◌, ◌≤◌, ◌<◌, compare}
pub use native.Mathlib.Omega.{arith}
pub use lib.Dec.{T, T_not, leb, leb→le, nleb→lt, ltb, ltb→lt, nltb→le, eqb, eqb→eq, lit≤, lit<}
pub use lib.Pow.{pow_pos, pow-add, pow_mono, pow-lt, shl_lt}
