-- Steps 1, 3, 4, 5 and 7 put together, for every finite x with |x| ≤ 770: step 7's value, scaled back, is e ^ x up to
-- 0.1976 * 2 ^ -53 before its last rounding. Assumes nothing.
use Rattle.accuracy.proofs.Prelude.{◌≡◌, refl, sym, ap, ◌∙◌, subst, Bool, true, false, not, ℕ, ◌+◌, ◌-◌, ◌*◌}
use Rattle.accuracy.proofs.Prelude.{◌/◌, ◌%◌, ◌^◌, ◌≤◌, ◌<◌, arith, T, ltb, ltb→lt, nltb→le, lit≤, pow_pos}
use Rattle.accuracy.proofs.Prelude.{pow-add}
use native.Mathlib.Nat.{le_refl, le_trans, mul_assoc, one-mul}
use lib.Ieee.{Float, binary64, add, sub, mul, to_bits}
use lib.Ieee.Positive.{num, den}
use Rattle.accuracy.proofs.Euler.Bounds.{IsExp}
use Rattle.routines.specs.Tables.{value_in, rest_in}
use Rattle.routines.specs.Exp.{exp_tail, scaled_by, reduced, PER_STEP, SHIFT}
use Rattle.accuracy.proofs.Rounding.AnyFormat.{Sg, plus, less-of}
use Rattle.accuracy.proofs.Rounding.Binary64.{L, L-pos, Is, pair_of}
use Rattle.accuracy.proofs.Steps.TableNear.{A, row_at}
use Rattle.accuracy.proofs.Euler.AnySign.{Nearly}
use Rattle.accuracy.proofs.Steps.PartsTogether.{sharp}
use Rattle.accuracy.proofs.Steps.Reduction.{hi, lo}
use Rattle.accuracy.proofs.Steps.SumRounded.{Rounded}
use Rattle.accuracy.proofs.Steps.NearForIndex.{Scaled, near-for-index}
use Rattle.accuracy.proofs.Steps.TableRows.{row_is}
use Rattle.accuracy.proofs.Steps.IndexExact.{N0, gap, gap-small, whole_is}
use Rattle.accuracy.proofs.Steps.IndexBits.{bits_are, row_number, octave-number}
use Rattle.accuracy.proofs.Euler.EveryN.{said-plus, said-minus}
use Rattle.accuracy.proofs.Steps.Octaves.{octave, two_up}

lam : hi + lo ≡ A * 2 ^ 978
unfolding hi lo
lam = refl

pub octave-is : octave ≡ 32 * (hi + lo)
unfolding octave hi lo
octave-is = refl

steps-is : (i : ℕ) → i * A * 2 ^ 978 ≡ i * (hi + lo)
steps-is i = mul_assoc i A (2 ^ 978) ∙ ap (λ (z : ℕ). i * z) (sym lam)

-- k and what is known of it, in the form that `near-for-index` wants
near-a : (r : Bool) (K N z h l xp xm g : ℕ) → Sg r K N z → xp + z * (h + l) ≤ xm + N * (h + l) + g
    → xp + less-of r (K * h + K * l) ≤ xm + plus r (K * h + K * l) + g
near-a false K N z h l xp xm g q c = go K z h l xp xm g (subst (λ (n : ℕ). xp + z * (h + l) ≤ xm + n * (h + l) + g) q c)
  where
    go : (K z h l xp xm g : ℕ) → xp + z * (h + l) ≤ xm + (z + K) * (h + l) + g → xp + 0 ≤ xm + (K * h + K * l) + g
    go K z h l xp xm g c = omega arith
near-a true K N z h l xp xm g q c = go K N h l xp xm g (subst (λ (n : ℕ). xp + n * (h + l) ≤ xm + N * (h + l) + g) q c)
  where
    go : (K N h l xp xm g : ℕ) → xp + (N + K) * (h + l) ≤ xm + N * (h + l) + g → xp + (K * h + K * l) ≤ xm + 0 + g
    go K N h l xp xm g c = omega arith

near-b : (r : Bool) (K N z h l xp xm g : ℕ) → Sg r K N z → xm + N * (h + l) ≤ xp + z * (h + l) + g
    → xm + plus r (K * h + K * l) ≤ xp + less-of r (K * h + K * l) + g
near-b false K N z h l xp xm g q c = go K z h l xp xm g (subst (λ (n : ℕ). xm + n * (h + l) ≤ xp + z * (h + l) + g) q c)
  where
    go : (K z h l xp xm g : ℕ) → xm + (z + K) * (h + l) ≤ xp + z * (h + l) + g → xm + (K * h + K * l) ≤ xp + 0 + g
    go K z h l xp xm g c = omega arith
near-b true K N z h l xp xm g q c = go K N h l xp xm g (subst (λ (n : ℕ). xm + N * (h + l) ≤ xp + n * (h + l) + g) q c)
  where
    go : (K N h l xp xm g : ℕ) → xm + N * (h + l) ≤ xp + (N + K) * (h + l) + g → xm + 0 ≤ xp + (K * h + K * l) + g
    go K N h l xp xm g c = omega arith

-- N - N0 = 32 M + i: M up or down
pub record Octaves (r : Bool) (K i m : ℕ) : Type 0 where
  pub tp : ℕ
  pub tm : ℕ
  pub P : ℕ
  pub Q : ℕ
  pub P_pos : 0 < P
  pub Q-pos : 0 < Q
  pub two : Nearly tp tm L P Q (2 ^ 80)
  pub power : P * 2 ^ 2046 ≡ Q * 2 ^ m
  pub bal : tp + i * A * 2 ^ 978 + less-of r (K * hi + K * lo) ≡ tm + plus r (K * hi + K * lo)

plus-of : (r : Bool) (K h l : ℕ) → plus r (K * h + K * l) ≡ plus r K * (h + l)
plus-of false K h l = omega arith
plus-of true K h l = omega arith

less-is : (r : Bool) (K h l : ℕ) → less-of r (K * h + K * l) ≡ less-of r K * (h + l)
less-is false K h l = omega arith
less-is true K h l = omega arith

up-octaves : (r : Bool) (K i M m : ℕ) → M ≤ 2000 → m ≡ M + 2046 → 32 * M + i + less-of r K ≡ plus r K → Octaves r K i m
up-octaves r K i M m h hm q = record {
  tp = M * octave;
  tm = M * 0;
  P = 2 ^ M;
  Q = 1;
  P_pos = pow_pos M;
  Q-pos = le_refl 1;
  two = two_up M h;
  power = sym (pow-add 2 M 2046) ∙ ap (λ (z : ℕ). 2 ^ z) (sym hm) ∙ sym (one-mul (2 ^ m));
  bal = rw (steps-is i, octave-is, plus-of r K hi lo, less-is r K hi lo)
      (flat M i (less-of r K) (plus r K) (hi + lo) (ap (λ (z : ℕ). z * (hi + lo)) q));
}
  where
    flat : (M i m p l : ℕ) → (32 * M + i + m) * l ≡ p * l → M * (32 * l) + i * l + m * l ≡ M * 0 + p * l
    flat M i m p l h = omega arith

down-octaves : (r : Bool) (K i M m : ℕ) → M ≤ 2000 → 2046 ≡ M + m → i + less-of r K ≡ 32 * M + plus r K
    → Octaves r K i m
down-octaves r K i M m h hm q = record {
  tp = M * 0;
  tm = M * octave;
  P = 1;
  Q = 2 ^ M;
  P_pos = le_refl 1;
  Q-pos = pow_pos M;
  two = record { above = (two_up M h).below; below = (two_up M h).above };
  power = one-mul (2 ^ 2046) ∙ ap (λ (z : ℕ). 2 ^ z) hm ∙ pow-add 2 M m;
  bal = rw (steps-is i, octave-is, plus-of r K hi lo, less-is r K hi lo)
      (flat M i (less-of r K) (plus r K) (hi + lo) (ap (λ (z : ℕ). z * (hi + lo)) q));
}
  where
    flat : (M i m p l : ℕ) → (i + m) * l ≡ (32 * M + p) * l → M * 0 + i * l + m * l ≡ M * (32 * l) + p * l
    flat M i m p l h = omega arith

octaves : (r : Bool) (K N : ℕ) → Sg r K N N0 → K ≤ 36192 → Octaves r K (N % 32) (N / 32 % 4096)
octaves r K N g h = go (ltb (N / 32) (N0 / 32)) (ltb→lt (N / 32) (N0 / 32)) (nltb→le (N / 32) (N0 / 32))
  where
    a1 : (r : Bool) → Sg r K N N0 → N0 / 32 ≤ N / 32
        → (32 * (N / 32 - N0 / 32) + N % 32 + less-of r K ≡ plus r K) × (N / 32 - N0 / 32 ≤ 2000)
        × (N / 32 % 4096 ≡ N / 32 - N0 / 32 + 2046)
    a1 false g l = (omega arith, omega arith, omega arith)
    a1 true g l = (omega arith, omega arith, omega arith)

    a2 : (r : Bool) → Sg r K N N0 → N / 32 < N0 / 32
        → (N % 32 + less-of r K ≡ 32 * (N0 / 32 - N / 32) + plus r K) × (N0 / 32 - N / 32 ≤ 2000)
        × (2046 ≡ N0 / 32 - N / 32 + N / 32 % 4096)
    a2 false g l = (omega arith, omega arith, omega arith)
    a2 true g l = (omega arith, omega arith, omega arith)

    go : (b : Bool) → (T b → N / 32 < N0 / 32) → (T (not b) → N0 / 32 ≤ N / 32) → Octaves r K (N % 32) (N / 32 % 4096)
    go true u v =
        let q = a2 r g (u tt) in
        down-octaves r K (N % 32) (N0 / 32 - N / 32) (N / 32 % 4096) q.1 q.2 q.0
    go false u v =
        let q = a1 r g (v tt) in
        up-octaves r K (N % 32) (N / 32 - N0 / 32) (N / 32 % 4096) q.1 q.2 q.0

-- exp's t and k
abbrev pub tee : Float → Float
tee x = add binary64 (mul binary64 x PER_STEP) SHIFT

abbrev pub k_of : Float → Float
k_of x = sub binary64 (add binary64 (mul binary64 x PER_STEP) SHIFT) SHIFT

-- THE THEOREM: for every finite x with |x| ≤ 770 there are a row i of the table and a power of two P / Q, such that
-- for every y = T[i] 2^j of the right size, y + y ((D[i] + r) + exp_tail(r)) is n units, rounded, and
-- P / Q * T[i] * n / y is e ^ x up to one part in `sharp`.
pub record Computes (x : Float) (s : Bool) (X : ℕ) : Type 0 where
  pub i : ℕ
  pub few : i < 32
  pub row : i ≡ to_bits binary64 (tee x) % 32
  pub P : ℕ
  pub Q : ℕ
  pub Q-pos : 0 < Q
  pub power : P * 2 ^ 2046 ≡ Q * 2 ^ (to_bits binary64 (tee x) / 32 % 4096)
  pub octaves-few : (900 ≤ to_bits binary64 (tee x) / 32 % 4096) × (to_bits binary64 (tee x) / 32 % 4096 ≤ 3200)
  pub near : (y : Float) (Y w : ℕ) → Scaled y Y w
      → (n : ℕ) × Rounded (scaled_by y (rest_in (row_at i)) (reduced x (k_of x)) (exp_tail (reduced x (k_of x)))) n
      × IsExp s X L (P * (num (value_in (row_at i)) * n)) (Q * (den (value_in (row_at i)) * Y)) sharp

said : (s : Bool) (X P Q : ℕ) → Nearly (plus s X) (less-of s X) L P Q sharp → IsExp s X L P Q sharp
said false X P Q h = said-plus X L P Q sharp L-pos h
said true X P Q h = said-minus X L P Q sharp L-pos h

pub exp-computes : (x : Float) (s : Bool) (X : ℕ) → Is x s X → X ≤ 770 * L → Computes x s X
exp-computes x s X hx range =
    let k = whole_is x s X hx range in
    let o = octaves k.sign k.K k.N k.pair k.few in
    let i = k.N % 32 in
    let fi = under k.N in
    let r = row_is i fi in
    let bits : to_bits binary64 (tee x) ≡ 1074 * 2 ^ 52 + k.N = bits_are (tee x) k.N k.t-is
    (from k.sign k.K k.N k.few k.pair) (to k.sign k.K k.N k.few k.pair) in
    record {
      i = i;
      few = fi;
      row = sym (row_number k.N) ∙ ap (λ (u : ℕ). u % 32) (sym bits);
      P = o.P;
      Q = o.Q;
      Q-pos = o.Q-pos;
      power = o.power ∙ ap (λ (u : ℕ). o.Q * 2 ^ u) (sym (octave-number k.N) ∙ ap (λ (u : ℕ). u / 32 % 4096)
          (sym bits));
      octaves-few = subst (λ (u : ℕ). (900 ≤ u) × (u ≤ 3200)) (sym (octave-number k.N)
          ∙ ap (λ (u : ℕ). u / 32 % 4096) (sym bits)) (middle k.sign k.K k.N k.few k.pair);
      near = λ (y : Float) (Y w : ℕ) (sc : Scaled y Y w).
          let m = near-for-index x (k_of x) y (rest_in (row_at i)) (plus s X) (less-of s X) k.sign k.K gap
          (pair_of x s X hx) k.is (le_trans k.few (lit≤ tt)) gap-small
          (near-a k.sign k.K k.N N0 hi lo (plus s X) (less-of s X) gap k.pair k.near1)
          (near-b k.sign k.K k.N N0 hi lo (plus s X) (less-of s X) gap k.pair k.near2)
          r.0 r.1 (num (value_in (row_at i))) (den (value_in (row_at i))) (i * A * 2 ^ 978) Y w r.2 sc o.tp
          o.tm o.P o.Q o.P_pos o.Q-pos o.two o.bal in (
            m.0,
            m.1,
            said s X (o.P * (num (value_in (row_at i)) * m.0)) (o.Q * (den (value_in (row_at i)) * Y))
                m.2,
          );
    }
  where
    under : (n : ℕ) → n % 32 < 32
    under n = omega arith

    from : (r : Bool) (K N : ℕ) → K ≤ 36192 → Sg r K N N0 → 2 ^ 52 ≤ N
    from false K N h g = omega arith
    from true K N h g = omega arith

    to : (r : Bool) (K N : ℕ) → K ≤ 36192 → Sg r K N N0 → N < 2 ^ 53
    to false K N h g = omega arith
    to true K N h g = omega arith

    middle : (r : Bool) (K N : ℕ) → K ≤ 36192 → Sg r K N N0 → (900 ≤ N / 32 % 4096) × (N / 32 % 4096 ≤ 3200)
    middle false K N h g = (omega arith, omega arith)
    middle true K N h g = (omega arith, omega arith)
