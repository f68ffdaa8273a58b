-- The kinds of fault, and the place of each: a number cut short, one that is too long, one outside its range, one that
-- is missing, and bytes behind the last bin. Assumes nothing.
use Prim.Native.Nat.{ℕ, suc, ◌+◌, ◌/◌, ◌%◌, ◌≤◌, ◌<◌}
use mathlib.Core.Path.{◌≡◌, refl, sym, ap, ◌∙◌, subst}
use mathlib.Core.List.{List, [], ◌∷◌, ◌++◌, append-nil}
use mathlib.Core.Logic.{⊎_elim}
use native.Mathlib.Omega.{arith}
use lib.ListN.{length, length-append}
use Rattle.meaning.specs.Reply.{broken}
use Rattle.histogram.specs.Number.{number_bytes, numbers_bytes}
use Rattle.histogram.specs.File.{form, bins, range_of, read_of, write_of}
use Rattle.histogram.specs.Claims.{Below, Histogram, Continued, In, Allowed, behind, Complete, None}
use Rattle.histogram.proofs.Tests.{below_or}
use Rattle.histogram.proofs.Groups.{bytes-last, bytes-more, bytes-some, by-groups}
use Rattle.histogram.proofs.Lists.{below-append, number-below, bytes_below, file-allowed, file-behind}
use Rattle.histogram.proofs.Places.{fault-refused}

-- ---- lists
head-eq : {x y : ℕ} {xs ys : List ℕ} → x ∷ xs ≡ y ∷ ys → x ≡ y
head-eq e = cc

tail-eq : {x y : ℕ} {xs ys : List ℕ} → x ∷ xs ≡ y ∷ ys → xs ≡ ys
tail-eq e = cc

not-empty : (x : ℕ) (xs : List ℕ) → x ∷ xs ≡ [] → ⊥
not-empty x xs e = let n : suc (length xs) ≡ 0 = ap length e in omega arith

-- ---- where no number stands
no_bytes : (n : ℕ) (rest : List ℕ) → [] ≡ number_bytes n ++ rest → ⊥
no_bytes n rest e = let l : 0 ≡ length (number_bytes n) + length rest = ap length e ∙ length-append (number_bytes n) rest in let s = bytes-some n in omega arith

-- all bytes have the top bit set
endless : (n : ℕ) (bytes rest : List ℕ) → Continued bytes → bytes ≡ number_bytes n ++ rest → ⊥
endless = by-groups (λ (n : ℕ). (bytes rest : List ℕ) → Continued bytes → bytes ≡ number_bytes n ++ rest → ⊥) last more
  where
    last : (n : ℕ) → n < 128 → (bytes rest : List ℕ) → Continued bytes → bytes ≡ number_bytes n ++ rest → ⊥
    last n h [] rest c e = no_bytes n rest e
    last n h (x ∷ bytes) rest c e = let q : x ≡ n = head-eq (rw (bytes-last n h) at e) in let l = c.0 in omega arith

    more : (n : ℕ) → 128 ≤ n → ((bytes rest : List ℕ) → Continued bytes → bytes ≡ number_bytes (n / 128) ++ rest → ⊥) → (bytes rest : List ℕ) → Continued bytes → bytes ≡ number_bytes n ++ rest → ⊥
    more n h ih [] rest c e = no_bytes n rest e
    more n h ih (x ∷ bytes) rest c e = ih bytes rest c.2 (tail-eq (rw (bytes-more n h) at e))

-- a zero behind bytes with the top bit set
padded : (n : ℕ) (bytes tail rest : List ℕ) → Continued bytes → (bytes ≡ [] → 0 < n) → bytes ++ (0 ∷ tail) ≡ number_bytes n ++ rest → ⊥
padded = by-groups (λ (n : ℕ). (bytes tail rest : List ℕ) → Continued bytes → (bytes ≡ [] → 0 < n) → bytes ++ (0 ∷ tail) ≡ number_bytes n ++ rest → ⊥) last more
  where
    last : (n : ℕ) → n < 128 → (bytes tail rest : List ℕ) → Continued bytes → (bytes ≡ [] → 0 < n) → bytes ++ (0 ∷ tail) ≡ number_bytes n ++ rest → ⊥
    last n h [] tail rest c p e = let q : 0 ≡ n = head-eq (rw (bytes-last n h) at e) in let z = p refl in omega arith
    last n h (x ∷ bytes) tail rest c p e = let q : x ≡ n = head-eq (rw (bytes-last n h) at e) in let l = c.0 in omega arith

    more : (n : ℕ) → 128 ≤ n → ((bytes tail rest : List ℕ) → Continued bytes → (bytes ≡ [] → 0 < n / 128) → bytes ++ (0 ∷ tail) ≡ number_bytes (n / 128) ++ rest → ⊥)
        → (bytes tail rest : List ℕ) → Continued bytes → (bytes ≡ [] → 0 < n) → bytes ++ (0 ∷ tail) ≡ number_bytes n ++ rest → ⊥
    more n h ih [] tail rest c p e = let q : 0 ≡ 128 + n % 128 = head-eq (rw (bytes-more n h) at e) in omega arith
    more n h ih (x ∷ bytes) tail rest c p e = ih bytes tail rest c.2 (λ (_ : bytes ≡ []). omega arith) (tail-eq (rw (bytes-more n h) at e))

-- two numbers at the front of the same bytes are one
same-front : (n m : ℕ) (xs ys : List ℕ) → number_bytes n ++ xs ≡ number_bytes m ++ ys → n ≡ m
same-front = by-groups (λ (n : ℕ). (m : ℕ) (xs ys : List ℕ) → number_bytes n ++ xs ≡ number_bytes m ++ ys → n ≡ m) last more
  where
    last : (n : ℕ) → n < 128 → (m : ℕ) (xs ys : List ℕ) → number_bytes n ++ xs ≡ number_bytes m ++ ys → n ≡ m
    last n h m xs ys e =
        ⊎_elim (λ (l : m < 128). head-eq (rw (bytes-last n h, bytes-last m l) at e)) (λ (g : 128 ≤ m). let q : n ≡ 128 + m % 128 = head-eq (rw (bytes-last n h, bytes-more m g) at e) in absurd (omega arith)) (below_or m 128)

    more : (n : ℕ) → 128 ≤ n → ((m : ℕ) (xs ys : List ℕ) → number_bytes (n / 128) ++ xs ≡ number_bytes m ++ ys → n / 128 ≡ m) → (m : ℕ) (xs ys : List ℕ) → number_bytes n ++ xs ≡ number_bytes m ++ ys → n ≡ m
    more n h ih m xs ys e =
        ⊎_elim (λ (l : m < 128). let q : 128 + n % 128 ≡ m = head-eq (rw (bytes-more n h, bytes-last m l) at e) in absurd (omega arith))
        (λ (g : 128 ≤ m).
        let d : (128 + n % 128) ∷ (number_bytes (n / 128) ++ xs) ≡ (128 + m % 128) ∷ (number_bytes (m / 128) ++ ys) = rw (bytes-more n h, bytes-more m g) at e in
        let q = head-eq d in
        let t = ih (m / 128) xs ys (tail-eq d) in
        omega arith)
        (below_or m 128)

-- ---- behind some numbers that are as they must be
module _ (ns : List ℕ) (allowed : Allowed form ns) where
  fault : (rest : List ℕ) → Below 256 rest → None (range_of (behind form ns)) rest → (rest ≡ [] → Complete (behind form ns) → ⊥) → read_of (numbers_bytes ns ++ rest) ≡ broken (length (numbers_bytes ns))
  fault rest b none more =
      fault-refused (numbers_bytes ns ++ rest) (length (numbers_bytes ns)) (below-append 256 (numbers_bytes ns) rest (bytes_below ns) b)
      (record { numbers = ns; rest = rest; parts = refl; allowed = allowed; start = refl; none = none; more = more })

  pub missing : (Complete (behind form ns) → ⊥) → read_of (numbers_bytes ns) ≡ broken (length (numbers_bytes ns))
  missing h = rw append-nil at (fault [] tt (λ (n : ℕ) (rest : List ℕ) (_ : In (range_of (behind form ns)) n). no_bytes n rest) (λ _. h))

  continued-below : (bytes : List ℕ) → Continued bytes → Below 256 bytes
  continued-below [] c = tt
  continued-below (b ∷ bytes) c = (c.1, continued-below bytes c.2)

  module _ (b : ℕ) (bytes : List ℕ) (c : Continued (b ∷ bytes)) where
    pub cut_short : read_of (numbers_bytes ns ++ (b ∷ bytes)) ≡ broken (length (numbers_bytes ns))
    cut_short = fault (b ∷ bytes) (continued-below (b ∷ bytes) c) (λ (n : ℕ) (rest : List ℕ) (_ : In (range_of (behind form ns)) n). endless n (b ∷ bytes) rest c) (λ (e : b ∷ bytes ≡ []) (_ : Complete (behind form ns)). not-empty b bytes e)

    pub too_long : (rest : List ℕ) → Below 256 rest → read_of (numbers_bytes ns ++ ((b ∷ bytes) ++ (0 ∷ rest))) ≡ broken (length (numbers_bytes ns))
    too_long rest f =
        fault ((b ∷ bytes) ++ (0 ∷ rest)) (below-append 256 (b ∷ bytes) (0 ∷ rest) (continued-below (b ∷ bytes) c) (omega arith, f))
        (λ (n : ℕ) (tail : List ℕ) (_ : In (range_of (behind form ns)) n). padded n (b ∷ bytes) rest tail c (λ (e : b ∷ bytes ≡ []). absurd (not-empty b bytes e)))
        (λ (e : (b ∷ bytes) ++ (0 ∷ rest) ≡ []) (_ : Complete (behind form ns)). not-empty b (bytes ++ (0 ∷ rest)) e)

  pub outside : (n : ℕ) (rest : List ℕ) → Below 256 rest → (In (range_of (behind form ns)) n → ⊥) → read_of (numbers_bytes ns ++ (number_bytes n ++ rest)) ≡ broken (length (numbers_bytes ns))
  outside n rest f out =
      fault (number_bytes n ++ rest) (below-append 256 (number_bytes n) rest (number-below n) f)
      (λ (m : ℕ) (tail : List ℕ) (i : In (range_of (behind form ns)) m) (e : number_bytes n ++ rest ≡ number_bytes m ++ tail). out (subst (In (range_of (behind form ns))) (sym (same-front n m rest tail e)) i))
      (λ (e : number_bytes n ++ rest ≡ []) (_ : Complete (behind form ns)). no_bytes n rest (sym e))

-- ---- behind the last bin
pub trailing : (xs : List ℕ) → Histogram xs → (b : ℕ) (rest : List ℕ) → Below 256 (b ∷ rest) → read_of (write_of xs ++ (b ∷ rest)) ≡ broken (length (write_of xs))
unfolding write_of range_of
trailing xs h b rest f =
    fault (1 ∷ length xs ∷ xs) (file-allowed xs h) (b ∷ rest) f (rw (file-behind xs) none) (λ (e : b ∷ rest ≡ []) (_ : Complete (behind form (1 ∷ length xs ∷ xs))). not-empty b rest e)
  where
    none : None (range_of (bins 0 xs)) (b ∷ rest)
    none n tail i e = let l = i.0 in let h = i.1 in omega arith
