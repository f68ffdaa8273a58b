-- From what is written to what is read: the bytes of a number of the range take the reader behind them with the number
-- read, and so do those of several. Assumes nothing.
use Prim.Native.Nat.{ℕ, suc, ◌+◌, ◌*◌, ◌/◌, ◌%◌, ◌^◌, ◌≤◌, ◌<◌}
use mathlib.Core.Path.{◌≡◌, sym, ap, ◌∙◌, subst}
use mathlib.Core.List.{List, [], ◌∷◌, ◌++◌, append_assoc}
use native.Mathlib.Nat.{add-zero, mul-le-mul_right}
use native.Mathlib.Omega.{arith}
use lib.ListN.{length, length-append}
use Rattle.histogram.specs.declared.number.Taken.TheVariants.{More, Whole}
use Rattle.histogram.specs.Number.{with_group, take_byte_of, number_bytes, numbers_bytes}
use Rattle.histogram.specs.File.{Stage, range_of, next_of, reading, steps_of}
use Rattle.histogram.specs.Claims.{In, Allowed, behind}
use Rattle.histogram.proofs.Weights.{weight-suc}
use Rattle.histogram.proofs.Takes as takes
use Rattle.histogram.proofs.Groups.{bytes-last, bytes-more, by-groups}
use Rattle.histogram.proofs.Steps.{one-step}

-- ---- the value of a number by its first group and the rest
low-group : (r v w : ℕ) → v + r * w ≡ v + r % 128 * w + r / 128 * (128 * w)
low-group r v w =
    let e : r ≡ r % 128 + 128 * (r / 128) = omega arith in
    let p : r * w ≡ (r % 128 + 128 * (r / 128)) * w = ap (λ (k : ℕ). k * w) e in
    omega arith

-- ---- a number, from behind its first groups on
module _ (stage : Stage) (start : ℕ) where
  abbrev Reads : ℕ → Type 0
  Reads r =
      (v g : ℕ) (rest : List ℕ) → (0 < g → 0 < r) → In (range_of stage) (v + r * 128 ^ g)
      → steps_of (reading stage start v g) (number_bytes r ++ rest) ≡ steps_of (reading (next_of stage (v + r * 128 ^ g)) (start + g + length (number_bytes r)) 0 0) rest

  reads-last : (r : ℕ) → r < 128 → Reads r
  reads-last r l v g rest z i =
      let e : with_group v g r ≡ v + r * 128 ^ g = ap (λ (k : ℕ). v + k * 128 ^ g) (takes.last-low r l) in
      let t : take_byte_of (range_of stage) v g r ≡ Whole (with_group v g r) = takes.ends (range_of stage) v g r l (λ (y : r ≡ 0) (h : 0 < g). zero-not y (z h)) (rw e i.0) (rw e i.1) in
      rw (bytes-last r l) (one-step stage start v g r rest (Whole (with_group v g r)) t ∙ rw (e, one))
    where
      zero-not : r ≡ 0 → 0 < r → ⊥
      zero-not y p = omega arith

      one : start + suc g ≡ start + g + 1
      one = omega arith

  reads_more : (r : ℕ) → 128 ≤ r → Reads (r / 128) → Reads r
  reads_more r h ih v g rest z i =
      let b = 128 + r % 128 in
      let e : with_group v g b ≡ v + r % 128 * 128 ^ g = ap (λ (k : ℕ). v + k * 128 ^ g) (low r) in
      let w : v + r * 128 ^ g ≡ with_group v g b + r / 128 * 128 ^ suc g = low-group r v (128 ^ g) ∙ rw (weight-suc g, e) in
      let m : 1 * 128 ^ suc g ≤ r / 128 * 128 ^ suc g = mul-le-mul_right (128 ^ suc g) (some r h) in
      let t : take_byte_of (range_of stage) v g b ≡ More (with_group v g b) = takes.goes_on (range_of stage) v g b (omega arith) (omega (arith, i.1)) in
      let s = one-step stage start v g b (number_bytes (r / 128) ++ rest) (More (with_group v g b)) t in
      let k = ih (with_group v g b) (suc g) rest (λ (_ : 0 < suc g). some r h) (subst (In (range_of stage)) w i) in
      rw (bytes-more r h, w) (s ∙ k ∙ ap (λ (p : ℕ). steps_of (reading (next_of stage (with_group v g b + r / 128 * 128 ^ suc g)) p 0 0) rest) (moved (length (number_bytes (r / 128)))))
    where
      low : (r : ℕ) → (128 + r % 128) % 128 ≡ r % 128
      low r = omega arith

      some : (r : ℕ) → 128 ≤ r → 1 ≤ r / 128
      some r h = omega arith

      moved : (k : ℕ) → start + suc g + k ≡ start + g + suc k
      moved k = omega arith

  pub number-reads : (r : ℕ) → Reads r
  number-reads = by-groups Reads reads-last reads_more

-- ---- one number, from its start on
pub first-value : (n : ℕ) → 0 + n * 128 ^ 0 ≡ n
first-value n = omega arith

pub number_read : (stage : Stage) (start n : ℕ) (rest : List ℕ) → In (range_of stage) n → steps_of (reading stage start 0 0) (number_bytes n ++ rest) ≡ steps_of (reading (next_of stage n) (start + length (number_bytes n)) 0 0) rest
number_read stage start n rest i =
    number-reads stage start n 0 0 rest (λ (h : 0 < 0). absurd (omega arith)) (rw first-value i)
    ∙ rw (first-value, add-zero)

-- ---- several numbers
pub numbers-read : (stage : Stage) (start : ℕ) (ns rest : List ℕ) → Allowed stage ns
    → steps_of (reading stage start 0 0) (numbers_bytes ns ++ rest) ≡ steps_of (reading (behind stage ns) (start + length (numbers_bytes ns)) 0 0) rest
unfolding numbers_bytes
numbers-read stage start [] rest a = ap (λ (p : ℕ). steps_of (reading stage p 0 0) rest) (sym (add-zero start))
numbers-read stage start (n ∷ ns) rest a =
    ap (steps_of (reading stage start 0 0)) (append_assoc (number_bytes n) (numbers_bytes ns) rest)
    ∙ number_read stage start n (numbers_bytes ns ++ rest) a.0
    ∙ numbers-read (next_of stage n) (start + length (number_bytes n)) ns rest a.1
    ∙ ap (λ (p : ℕ). steps_of (reading (behind (next_of stage n) ns) p 0 0) rest) (placed start (number_bytes n) (numbers_bytes ns))
  where
    placed : (s : ℕ) (xs ys : List ℕ) → s + length xs + length ys ≡ s + length (xs ++ ys)
    placed s xs ys = let l = length-append xs ys in omega arith
