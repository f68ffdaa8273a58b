-- `add` gives the same for x and y as for y and x, at every value: a NaN, the infinities and both zeros too. Assumes
-- nothing.
use Rattle.std.proofs.Common.{◌≡◌, ℕ, ◌-◌, ◌*◌, ◌<◌, ◌≤◌, Bool, true, false, cond, not, T, ltb, sym, refl, ap, ◌∙◌}
use Rattle.std.proofs.Common.{mul_comm, add_comm, arith, ltb→lt, nltb→le}
use lib.Ieee.{Float, nan, inf, fin, Format, up, down, round, sum, add}

-- ---- `sum`
-- a - b, and -b + a
opposite : (f : Format) (a b c : ℕ) → sum f false a true b c ≡ sum f true b false a c
unfolding sum
opposite f a b c = go (ltb a b) (ltb b a) (ltb→lt a b) (nltb→le a b) (ltb→lt b a) (nltb→le b a)
  where
    go : (p q : Bool) → (T p → a < b) → (T (not p) → b ≤ a) → (T q → b < a) → (T (not q) → a ≤ b)
        → cond p (round f true (b - a) c) (round f false (a - b) c) ≡ cond q (round f false (a - b) c) (round f p (b - a) c)
    go true true u v w z = absurd (omega (arith, u tt, w tt))
    go true false u v w z = refl
    go false true u v w z = refl
    go false false u v w z = ap (λ (n : ℕ). round f false n c) (omega (arith, v tt, z tt))

sum-commutes : (f : Format) (s : Bool) (a : ℕ) (t : Bool) (b c : ℕ) → sum f s a t b c ≡ sum f t b s a c
unfolding sum
sum-commutes f true a true b c = ap (λ (n : ℕ). round f true n c) (add_comm a b)
sum-commutes f true a false b c = sym (opposite f b a c)
sum-commutes f false a true b c = opposite f a b c
sum-commutes f false a false b c = ap (λ (n : ℕ). round f false n c) (add_comm a b)

-- ---- THE STATEMENT
pub add_commutes : (f : Format) (x y : Float) → add f x y ≡ add f y x
unfolding add
add_commutes f nan nan = refl
add_commutes f nan (inf t) = refl
add_commutes f nan (fin t n d) = refl
add_commutes f (inf s) nan = refl
add_commutes f (inf true) (inf true) = refl
add_commutes f (inf true) (inf false) = refl
add_commutes f (inf false) (inf true) = refl
add_commutes f (inf false) (inf false) = refl
add_commutes f (inf s) (fin t n d) = refl
add_commutes f (fin s m e) nan = refl
add_commutes f (fin s m e) (inf t) = refl
add_commutes f (fin s m e) (fin t n d) =
    let a = m * up e * down d in
    let b = n * up d * down e in
    sum-commutes f s a t b (down e * down d) ∙ ap (λ (c : ℕ). sum f t b s a c) (mul_comm (down e) (down d))
