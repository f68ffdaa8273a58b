-- The sums of weights under `lse2` and `lse3`: what their code leaves out changes none. Assumes nothing.
use mathlib.Core.Path.{◌≡◌, refl, sym, ap, ◌∙◌, subst}
use mathlib.Core.Logic.{◌⊎◌, inl, inr}
use mathlib.Core.Bool.{Bool, true, false, ◌||◌, beq, not, cond, true≢false, false≢true}
use Prim.Native.Nat.{ℕ, ◌+◌, ◌*◌, ◌<◌, ◌≤◌}
use native.Mathlib.Omega.{arith}
use lib.IntN.{ℤ}
use lib.Dec.{T, eqb, eqb→eq}
use lib.Ieee.{Float, nan, inf, fin, binary64, up, down, round, add, sub, neg, lt, le, eq, ne, of_bits, fits}
use lib.Ieee.Back.{whole_unique}
use lib.Ieee.Compare.{differs_from_itself}
use lib.Ieee.Fits.{down_pos, and_l, and_r}
use lib.Ieee.Order.{round_mono}
use lib.Ieee.Scale.{finite}
use Rattle.routines.specs.Constants.{one, zero as nought}
use Rattle.routines.specs.Exp.{exp_of}
use Rattle.routines.specs.Ln.{ln_of}
use Rattle.routines.specs.Ops.{◌⊕◌, ◌⊖◌}
use Rattle.routines.specs.Pick.{max_of}
use Rattle.routines.specs.Signs.{sign_clear}
use Rattle.routines.proofs.AnnexF.{exp-clear, exp-nan, ln-one}
use Rattle.routines.proofs.Commutes.{add_commutes}
use Rattle.routines.proofs.Levels.{exp-level}
use Rattle.routines.proofs.Tests.{yes}
use Rattle.accuracy.specs.Far.{MINUS40}
use Rattle.accuracy.proofs.Claims.Absorbed.{absorbed, absorbed-two}
use Rattle.helpers.specs.LogSums.{weight_of}

-- ---- a sum of 1 has the logarithm +0
level-one : (x : Float) → T (fits binary64 x) → eq x one ≡ true → x ≡ one
unfolding eq of_bits fits
level-one nan F h = absurd (false≢true h)
level-one (inf s) F h = absurd (false≢true h)
level-one (fin s m e) F h =
    let n = m * up e * 1 in
    let d = 1 * 1 * down e in
    let size : n ≡ d = eqb→eq n d (and_l (eqb n d) (beq s false || eqb n 0) (yes h)) in
    whole_unique binary64 (fin s m e) one false 1 F tt (
      clear s n (and_r (eqb n d) (beq s false || eqb n 0) (yes h)) (some n (down e) (down_pos e) size),
      flat (m * up e) (down e) size,
    ) (refl, refl)
  where
    some : (n d : ℕ) → 0 < d → n ≡ 1 * 1 * d → 0 < n
    some n d D h = omega arith

    flat : (n d : ℕ) → n * 1 ≡ 1 * 1 * d → n * 1 ≡ 1 * d
    flat n d h = omega arith

    clear : (s : Bool) (n : ℕ) → T (beq s false || eqb n 0) → 0 < n → s ≡ false
    clear false n h N = refl
    clear true n h N = absurd (none n (eqb→eq n 0 h) N)
      where
        none : (n : ℕ) → n ≡ 0 → 0 < n → ⊥
        none n e N = omega arith

pub log-of-one : (m s : Float) → T (fits binary64 s) → eq s one ≡ true → m ⊕ nought ≡ m ⊕ ln_of s
unfolding of_bits
log-of-one m s F h = ap (λ (z : Float). m ⊕ z) (sym (ap ln_of (level-one s F h) ∙ ln-one))

-- ---- what is added to 1 or more
abbrev pub Least : Float → Type 0
Least s = (s ≡ nan) ⊎ T (le one s)

nan-first : (y : Float) → nan ⊕ y ≡ nan
unfolding add
nan-first y = refl

pub absorbs : (s d : Float) → T (fits binary64 s) → T (fits binary64 d) → lt d MINUS40 ≡ true → Least s → s ≡ s ⊕ exp_of d
absorbs s d S D h (inl e) = e ∙ sym (ap (λ (z : Float). z ⊕ exp_of d) e ∙ nan-first (exp_of d))
absorbs s d S D h (inr l) = sym (absorbed d s D S (yes h) l)

pub absorbs-two : (x y : Float) → T (fits binary64 x) → T (fits binary64 y) → lt x MINUS40 ≡ true → lt y MINUS40 ≡ true
    → one ≡ exp_of x ⊕ exp_of y ⊕ one
absorbs-two x y X Y h k = sym (absorbed-two x y X Y (yes h) (yes k))

unit : round binary64 false 1 1 ≡ one
unfolding round of_bits
unit = refl

opened : (m : ℕ) (e : ℤ) → one ⊕ fin false m e ≡ round binary64 false (1 * 1 * down e + m * up e * 1) (1 * down e)
unfolding add of_bits
opened m e = refl

more : (v : Float) → sign_clear v ≡ true → Least (one ⊕ v)
more nan h = inl (unfold add of_bits in refl)
more (inf true) h = absurd (false≢true h)
more (inf false) h = inr (unfold add le of_bits in tt)
more (fin true m e) h = absurd (false≢true h)
more (fin false m e) h =
    let n = 1 * 1 * down e + m * up e * 1 in
    let r = round binary64 false n (1 * down e) in
    let reached : T (le (round binary64 false 1 1) r) =
    round_mono binary64 1 1 n (1 * down e) (omega arith) (some (down e) (down_pos e)) (least (down e) (m * up e)) in
    inr (subst (λ (x : Float). T (le one x)) (sym (opened m e)) (subst (λ (x : Float). T (le x r)) unit reached))
  where
    some : (d : ℕ) → 0 < d → 0 < 1 * d
    some d D = omega arith

    least : (d n : ℕ) → 1 * (1 * d) ≤ (1 * 1 * d + n * 1) * 1
    least d n = omega arith

-- ---- two weights under their maximum
level-self : (x : Float) → finite x ≡ true → eq x x ≡ true
level-self x h = go (eq x x) refl
  where
    go : (b : Bool) → eq x x ≡ b → b ≡ true
    go true e = refl
    go false e = absurd (false≢true (sym (ap finite (differs_from_itself x (unfold ne in yes (ap not e)))) ∙ h))

one_of : (m x : Float) → finite m ≡ true → one ⊕ exp_of (x ⊖ m) ≡ weight_of m m ⊕ weight_of x m
one_of m x h = ap (λ (z : Float). z ⊕ exp_of (x ⊖ m)) (exp-level m m (level-self m h) h)

max-second : (a b : Float) → lt a b ≡ true → max_of a b ≡ b
unfolding max_of
max-second nan b h = refl
max-second (inf s) b h = rw h
max-second (fin s m e) b h = rw h

max-first : (a b : Float) → lt a b ≡ false → (a ≡ nan) ⊎ (max_of a b ≡ a)
unfolding max_of
max-first nan b h = inl refl
max-first (inf s) b h = inr (rw h)
max-first (fin s m e) b h = inr (rw h)

pub second-weight : (a b : Float) → finite (max_of a b) ≡ true → lt a b ≡ true
    → one ⊕ exp_of (a ⊖ b) ≡ weight_of a (max_of a b) ⊕ weight_of b (max_of a b)
second-weight a b f h =
    let M = max-second a b h in
    subst (λ (m : Float). one ⊕ exp_of (a ⊖ b) ≡ weight_of a m ⊕ weight_of b m) (sym M)
    (one_of b a (sym (ap finite M) ∙ f) ∙ add_commutes binary64 (weight_of b b) (weight_of a b))

-- a NaN's weight is a NaN
nan-of : (b : Float) → nan ⊖ b ≡ nan
unfolding sub add
nan-of b = refl

nan-taken : (b : Float) → b ⊖ nan ≡ nan
unfolding sub neg add
nan-taken nan = refl
nan-taken (inf s) = refl
nan-taken (fin s m e) = refl

nan-weights : (b m : Float) → one ⊕ exp_of (b ⊖ nan) ≡ weight_of nan m ⊕ weight_of b m
nan-weights b m =
    let one_side = ap (λ (z : Float). one ⊕ exp_of z) (nan-taken b) ∙ ap (λ (z : Float). one ⊕ z) exp-nan in
    let other = ap (λ (z : Float). exp_of z ⊕ weight_of b m) (nan-of m) ∙ ap (λ (z : Float). z ⊕ weight_of b m) exp-nan in
    one_side ∙ add_commutes binary64 one nan ∙ nan-first one ∙ sym (other ∙ nan-first (weight_of b m))

pub first-weight : (a b : Float) → finite (max_of a b) ≡ true → lt a b ≡ false
    → one ⊕ exp_of (b ⊖ a) ≡ weight_of a (max_of a b) ⊕ weight_of b (max_of a b)
first-weight a b f h = go (max-first a b h)
  where
    go : (a ≡ nan) ⊎ (max_of a b ≡ a) → one ⊕ exp_of (b ⊖ a) ≡ weight_of a (max_of a b) ⊕ weight_of b (max_of a b)
    go (inl e) = subst (λ (z : Float). one ⊕ exp_of (b ⊖ z) ≡ weight_of z (max_of a b) ⊕ weight_of b (max_of a b)) (sym e)
        (nan-weights b (max_of a b))
    go (inr M) = subst (λ (m : Float). one ⊕ exp_of (b ⊖ a) ≡ weight_of a m ⊕ weight_of b m) (sym M)
        (one_of a b (sym (ap finite M) ∙ f))

-- they are 1 or more together
pub weights-least : (a b : Float) → finite (max_of a b) ≡ true → Least (weight_of a (max_of a b) ⊕ weight_of b (max_of a b))
weights-least a b f = go (lt a b) refl
  where
    go : (t : Bool) → lt a b ≡ t → Least (weight_of a (max_of a b) ⊕ weight_of b (max_of a b))
    go true h = subst Least (second-weight a b f h) (more (exp_of (a ⊖ b)) (exp-clear (a ⊖ b)))
    go false h = subst Least (first-weight a b f h) (more (exp_of (b ⊖ a)) (exp-clear (b ⊖ a)))

-- ---- a third term c that is not level with the maximum m is not m
picked : (t : Bool) (p c : Float) → finite (cond t c p) ≡ true → eq c (cond t c p) ≡ false → cond t c p ≡ p
picked true p c f h = absurd (true≢false (sym (level-self c f) ∙ h))
picked false p c f h = refl

not_third : (p c : Float) → finite (max_of p c) ≡ true → eq c (max_of p c) ≡ false → max_of p c ≡ p
unfolding max_of
not_third nan c f h = absurd (true≢false (sym (level-self c f) ∙ h))
not_third (inf s) c f h = picked (lt (inf s) c) (inf s) c f h
not_third (fin s m e) c f h = picked (lt (fin s m e) c) (fin s m e) c f h

pub max-of-two : (a b c p m : Float) → p ≡ max_of a b → m ≡ max_of p c → finite m ≡ true → eq c m ≡ false → m ≡ max_of a b
max-of-two a b c p m h k f l =
    k ∙ not_third p c (sym (ap finite k) ∙ f) (sym (ap (λ (z : Float). eq c z) k) ∙ l) ∙ h
