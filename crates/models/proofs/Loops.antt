-- A test of each of the first n counts, as a test of each element of a list. Assumes nothing.
use Prim.Native.Nat.{ℕ, ◌≤◌, ◌<◌}
use mathlib.Core.Path.{◌≡◌, refl, sym, ap, ◌∙◌}
use mathlib.Core.Bool.{Bool, true, ◌&&◌}
use mathlib.Core.List.{List}
use native.Mathlib.Numerals.{add-one}
use native.Mathlib.Omega.{arith}
use lib.ListN.{length, get_or, take}
use lib.Seq.{take-length}
use Rattle.std.specs.List.{list_all, range_with_len}
use Rattle.std.proofs.lemmas.List.Folds.{list_all_more}
use Rattle.std.proofs.lemmas.List.FromFn.{length-range_with_len, get_or-range_with_len}
use Rattle.meaning.proofs.Folds.{fold-keeps}
use Rattle.models.specs.Spectra.{all_step, all_of}

all-same : (p q : ℕ → Bool) (xs : List ℕ) (n : ℕ) → length xs ≡ n → ((k : ℕ) → k < n → p (get_or xs k 0) ≡ q k)
    → list_all p xs ≡ all_of q n
unfolding all_of
all-same p q xs n l e =
    sym
    (fold-keeps (all_step q) (λ (k : ℕ) (so : Bool). so ≡ list_all p (take k xs)) 0 n true (omega arith)
    (λ (k : ℕ) (so : Bool) (a : 0 ≤ k) (h : k < n) (w : so ≡ list_all p (take k xs)).
    ap (λ (b : Bool). b && q k) w
    ∙ ap (λ (b : Bool). list_all p (take k xs) && b) (sym (e k h))
    ∙ sym (list_all_more p xs k 0 (omega arith))
    ∙ ap (λ (j : ℕ). list_all p (take j xs)) (add-one k))
    refl
    ∙ ap (λ (j : ℕ). list_all p (take j xs)) (sym l)
    ∙ ap (list_all p) (take-length xs))

pub all-elements : (p : ℕ → Bool) (xs : List ℕ) → list_all p xs ≡ all_of (λ (i : ℕ). p (get_or xs i 0)) (length xs)
all-elements p xs = all-same p (λ (i : ℕ). p (get_or xs i 0)) xs (length xs) refl (λ k h. refl)

pub all-counts : (p : ℕ → Bool) (n : ℕ) → list_all p (range_with_len 0 n) ≡ all_of p n
all-counts p n =
    all-same p p (range_with_len 0 n) n (length-range_with_len 0 n)
    (λ (k : ℕ) (h : k < n). ap p (get_or-range_with_len 0 n k 0 h ∙ omega arith))
