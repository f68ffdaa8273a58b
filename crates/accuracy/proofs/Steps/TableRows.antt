-- Every row of exp's table is a `Row`, as NearForIndex wants it: the facts on numbers are computed. Assumes nothing.
use Rattle.accuracy.proofs.Prelude.{◌≡◌, refl, subst, Bool, true, false, ◌&&◌, ℕ, ◌+◌, ◌-◌, ◌*◌, ◌/◌, ◌^◌, ◌<◌}
use Rattle.accuracy.proofs.Prelude.{T, leb, leb→le, ltb, ltb→lt, eqb, eqb→eq}
use mathlib.Core.List.{List, [], ◌∷◌}
use lib.Ieee.{Float, nan, inf, fin, of_bits}
use lib.Ieee.Fits.{and_l, and_r}
use lib.Ieee.Positive.{num, den}
use Rattle.routines.specs.Tables.{rows, value_in, rest_in}
use Rattle.accuracy.proofs.Rounding.AnyFormat.{plus, less-of}
use Rattle.accuracy.proofs.Rounding.Binary64.{L, L-pos, Is, pair_of}
use Rattle.accuracy.proofs.Euler.Weaker.{Near}
use Rattle.accuracy.proofs.Steps.TableNear.{A, C, good, top, bottom, table-near, row_at, each_row}
use Rattle.accuracy.proofs.Euler.AnySign.{Nearly, nearly-plus}
use Rattle.accuracy.proofs.Steps.NearForIndex.{Row}
use Rattle.meaning.specs.Table.{wrong}
use Rattle.accuracy.proofs.Euler.Powers.{near-stretch}
use Rattle.accuracy.proofs.Steps.Octaves.{stretch_l}

sign : Float → Bool
sign nan = false
sign (inf s) = s
sign (fin s m e) = s

finite : Float → Bool
finite nan = false
finite (inf s) = false
finite (fin s m e) = true

-- a value's size in units
size : Float → ℕ
unfolding L
size x = num x * L / den x

value-of : (x : Float) → T (finite x) → num x * L ≡ size x * den x → Is x (sign x) (size x)
unfolding finite sign
value-of nan t h = absurd t
value-of (inf s) t h = absurd t
value-of (fin s m e) t h = (refl, h)

facts : ℕ × ℕ → List Bool
unfolding size sign finite
facts r =
    let d = rest_in r in
    let n = size d in
    let p = plus (sign d) n in
    let m = less-of (sign d) n in
    let t = value_in r in
    finite d ∷ eqb (num d * L) (n * den d) ∷ leb (2 ^ 53 * p) L ∷ leb (2 ^ 53 * m) L ∷ eqb (L + p - m + m)
    (L + p) ∷ eqb (top r * den t * L) (bottom r * num t * (L + p - m)) ∷ ltb 0 (top r) ∷ ltb 0 (bottom r) ∷ ltb 0
    (num t) ∷ ltb 0 (den t) ∷ []

abbrev all : List Bool → Bool
all [] = true
all (c ∷ cs) = c && all cs

abbrev All : List Bool → Type 0
All [] = Unit {0}
All (c ∷ cs) = T c × All cs

all→ : (cs : List Bool) → T (all cs) → All cs
all→ [] t = tt
all→ (c ∷ cs) t = (and_l c (all cs) t, all→ cs (and_r c (all cs) t))

holds : ℕ → ℕ × ℕ → Bool
unfolding facts
holds i r = all (facts r)

row_of : (i : ℕ) (r : ℕ × ℕ) (sp : ℕ) → T (holds i r) → Nearly sp 0 L (top r) (bottom r) good
    → Row (rest_in r) (plus (sign (rest_in r)) (size (rest_in r))) (less-of (sign (rest_in r)) (size (rest_in r)))
    (num (value_in r)) (den (value_in r)) sp
unfolding facts holds
row_of i r sp t near =
    let d = rest_in r in
    let n = size d in
    let p = plus (sign d) n in
    let m = less-of (sign d) n in
    let c = all→ (facts r) t in
    let c3 = c.1.1.1 in
    let c6 = c3.1.1.1 in
    record {
      held = pair_of d (sign d) n (value-of d c.0 (eqb→eq (num d * L) (n * den d) c.1.0));
      small = (leb→le (2 ^ 53 * p) L c.1.1.0, leb→le (2 ^ 53 * m) L c3.0);
      D = L + p - m;
      sum = eqb→eq (L + p - m + m) (L + p) c3.1.0;
      W = top r;
      B = bottom r;
      is = eqb→eq (top r * den (value_in r) * L) (bottom r * num (value_in r) * (L + p - m)) c3.1.1.0;
      W-pos = ltb→lt 0 (top r) c6.0;
      B-pos = ltb→lt 0 (bottom r) c6.1.0;
      tn-pos = ltb→lt 0 (num (value_in r)) c6.1.1.0;
      td-pos = ltb→lt 0 (den (value_in r)) c6.1.1.1.0;
      near = near;
    }

none-broken : wrong holds 0 rows ≡ []
unfolding holds facts rows of_bits L size sign finite
none-broken = refl

-- row i is near e ^ (i steps)
near-L : (i : ℕ) → i < 32 → Nearly (i * A * 2 ^ 978) 0 L (top (row_at i)) (bottom (row_at i)) good
near-L i h = nearly-plus (i * A * 2 ^ 978) L (top (row_at i)) (bottom (row_at i)) good L-pos
    (subst (λ (x : ℕ). Near (i * A * 2 ^ 978) x (top (row_at i)) (bottom (row_at i)) good) stretch_l
    (near-stretch (i * A) C (top (row_at i)) (bottom (row_at i)) good (2 ^ 978) (table-near i h)))

-- THE ROWS
pub row_is : (i : ℕ) → i < 32
    → (dp : ℕ) × (dm : ℕ)
    × Row (rest_in (row_at i)) dp dm (num (value_in (row_at i))) (den (value_in (row_at i))) (i * A * 2 ^ 978)
row_is i h =
    let r = row_at i in (
      plus (sign (rest_in r)) (size (rest_in r)),
      less-of (sign (rest_in r)) (size (rest_in r)),
      row_of i r (i * A * 2 ^ 978) (each_row holds none-broken i h) (near-L i h),
    )
