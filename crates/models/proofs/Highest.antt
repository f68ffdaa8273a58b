-- WHAT `error_mode` ANSWERS: 8 exactly where a log probability among the counts 1 to the window end is NaN; otherwise
-- the count whose log probability ranks highest, and of equals the last. There is one such count. Assumes nothing.
use Prim.Native.Nat.{ℕ, suc, ◌+◌, ◌*◌, ◌≤◌, ◌<◌}
use mathlib.Core.Path.{◌≡◌, refl, sym, ap, ◌∙◌, subst}
use mathlib.Core.Bool.{Bool, true, false, not, ◌&&◌, ◌||◌, beq, cond, or-true, true≢false, false≢true}
use mathlib.Core.List.{[], ◌∷◌, ◌++◌}
use mathlib.Core.Logic.{◌⊎◌, inl, inr}
use native.Mathlib.Nat.{le_trans, le_refl, lt_of_le_of_lt, le-suc, le_of_suc-le-suc, eq-or-lt_of_le, lt_of_lt_of_le}
use native.Mathlib.Nat.{le_of_lt, le_of_eq}
use native.Mathlib.Omega.{arith}
use borrow.Author.Tests.{le-ltb, eq-eqb, ne_eqb, ltb-true, ltb-false, eqb-false}
use lib.Dec.{T, ltb, eqb, lit≤}
use lib.Ieee.{Float, nan, inf, fin, binary64, up, down, of_bits, div, lt, eq, ne, is_nan, fits}
use Rattle.meaning.specs.Reply.{Reply, refuse, give, chain, test}
use Rattle.meaning.proofs.Folds.{fold-first, fold-keeps}
use Rattle.meaning.specs.Rows.{window_tests}
use Rattle.meaning.proofs.Chains.{parts, gave-passed}
use Rattle.meaning.proofs.Replies.{answer-not-refused, same_number, gave-answer}
use Rattle.meaning.proofs.Rows.{test-passed, window-passed}
use Rattle.models.specs.Claims.{rank, log_at, ErrorMode}
use Rattle.models.specs.Modes.{later_wins, with_nan, stands, higher_with, higher_of, highest_of, scanned, error_mode_of}
use Rattle.models.specs.declared.errors.ErrorParams.{ErrorParams}
use Rattle.models.specs.declared.fit.SpectrumFit.{SpectrumFit}
use Rattle.models.specs.declared.modes.Standing.{Standing}
use Rattle.models.proofs.Beyond.{log-fits}
use Rattle.models.proofs.Ranks.{Ranked, ranked}

-- ---- NaN is what is not equal to itself
unequal-self : (x : Float) → ne x x ≡ is_nan x
unfolding ne eq is_nan
unequal-self nan = refl
unequal-self (inf true) = refl
unequal-self (inf false) = refl
unequal-self (fin s m e) = level s
  where
    level : (s : Bool)
        → not (eqb (m * up e * down e) (m * up e * down e) && (beq s s || eqb (m * up e * down e) 0)) ≡ false
    level true = rw (eq-eqb (m * up e * down e) (m * up e * down e) refl)
    level false = rw (eq-eqb (m * up e * down e) (m * up e * down e) refl)

-- what is not NaN beats -inf
starts : (x : Float) → is_nan x ≡ false → later_wins (inf true) x ≡ true
unfolding later_wins lt eq div of_bits is_nan
starts nan h = absurd (true≢false h)
starts (inf true) h = refl
starts (inf false) h = refl
starts (fin s m e) h = refl

module _ (p : ErrorParams) where
  -- a step's flag does not depend on who wins
  flag : (k : ℕ) (s : Standing) → (higher_of p k s).nan ≡ (s.nan || is_nan (log_at p k))
  unfolding higher_of higher_with with_nan
  flag k s = go (later_wins s.log (log_at p k)) ∙ ap (λ (b : Bool). s.nan || b) (unequal-self (log_at p k))
    where
      set : Bool
      set = s.nan || ne (log_at p k) (log_at p k)

      go : (b : Bool) → (cond b (stands k (log_at p k) set) (stands s.count s.log set)).nan ≡ set
      go true = refl
      go false = refl

  -- ---- the flag says whether a NaN was among the counts before k
  record Flagged (k : ℕ) (s : Standing) : Type 0 where
    pub set : (j : ℕ) → 1 ≤ j → j < k → is_nan (log_at p j) ≡ true → s.nan ≡ true
    pub found : s.nan ≡ true → (j : ℕ) × (1 ≤ j) × (j < k) × (is_nan (log_at p j) ≡ true)

  flagged : (k : ℕ) (s : Standing) → 1 ≤ k → Flagged k s → Flagged (suc k) (higher_of p k s)
  flagged k s h so = record {
    set =
        λ (j : ℕ) (l : 1 ≤ j) (m : j < suc k) (n : is_nan (log_at p j) ≡ true). flag k s
        ∙ earlier j l (eq-or-lt_of_le (le_of_suc-le-suc m)) n;
    found = λ (e : (higher_of p k s).nan ≡ true). which s.nan refl (is_nan (log_at p k)) refl (sym (flag k s) ∙ e);
  }
    where
      earlier : (j : ℕ) → 1 ≤ j → (j ≡ k) ⊎ (j < k) → is_nan (log_at p j) ≡ true → (s.nan || is_nan (log_at p k)) ≡ true
      earlier j l (inr m) n = ap (λ (b : Bool). b || is_nan (log_at p k)) (so.set j l m n)
      earlier j l (inl e) n =
          ap (λ (b : Bool). s.nan || b) (sym (ap (λ (i : ℕ). is_nan (log_at p i)) e) ∙ n) ∙ or-true s.nan

      which : (a : Bool) → s.nan ≡ a → (b : Bool) → is_nan (log_at p k) ≡ b → (s.nan || is_nan (log_at p k)) ≡ true
          → (j : ℕ) × (1 ≤ j) × (j < suc k) × (is_nan (log_at p j) ≡ true)
      which true e b f i = let r = so.found e in (r.0, r.1, lt_of_lt_of_le r.2 (le-suc k), r.3)
      which false e true f i = (k, h, le_refl (suc k), f)
      which false e false f i = absurd (false≢true (sym (ap (λ (b : Bool). b || is_nan (log_at p k)) e ∙ f) ∙ i))

  highest-flagged : (top : ℕ) → 1 ≤ top → Flagged (top + 1) (highest_of p top)
  unfolding highest_of
  highest-flagged top h =
      fold-keeps (higher_of p) Flagged 1 (top + 1) (stands 1 (inf true) false) (omega arith)
      (λ (k : ℕ) (s : Standing) (l : 1 ≤ k) (m : k < top + 1). flagged k s l)
      (record {
        set = λ (j : ℕ) (l : 1 ≤ j) (m : j < 1) (n : is_nan (log_at p j) ≡ true). absurd (omega arith);
        found = λ (e : false ≡ true). absurd (false≢true e);
      })

  -- ---- the highest so far
  record Highest (k : ℕ) (s : Standing) : Type 0 where
    pub first : 1 ≤ s.count
    pub last : s.count < k
    pub log : s.log ≡ log_at p s.count
    pub earlier : (j : ℕ) → 1 ≤ j → j ≤ s.count → rank (log_at p j) ≤ rank s.log
    pub later : (j : ℕ) → s.count < j → j < k → rank (log_at p j) < rank s.log

  -- among the counts before `end` there is no NaN
  module _ (end : ℕ) (known : (j : ℕ) → 1 ≤ j → j < end → is_nan (log_at p j) ≡ false) where
    higher : (k : ℕ) (s : Standing) → 2 ≤ k → k < end → Highest k s → Highest (suc k) (higher_of p k s)
    unfolding higher_of higher_with
    higher k s h l so = go (later_wins s.log (log_at p k)) (order (later_wins s.log (log_at p k)) refl)
      where
        fitting : (j : ℕ) → T (fits binary64 (log_at p j))
        fitting = log-fits p (known 2 (lit≤ tt) (lt_of_le_of_lt h l))

        order : (r : Bool) → later_wins s.log (log_at p k) ≡ r → Ranked r (rank s.log) (rank (log_at p k))
        order =
            ranked s.log (log_at p k)
            (subst (λ (x : Float). T (fits binary64 x)) (sym so.log) (fitting s.count)) (fitting k)
            (ap is_nan so.log ∙ known s.count so.first (lt_of_lt_of_le so.last (le_of_lt l)))
            (known k (le_of_lt h) l)

        all : (j : ℕ) → 1 ≤ j → j < k → rank (log_at p j) ≤ rank s.log
        all j m n = side (ltb s.count j) refl
          where
            side : (b : Bool) → ltb s.count j ≡ b → rank (log_at p j) ≤ rank s.log
            side true c = le_of_lt (so.later j (ltb-true s.count j c) n)
            side false c = so.earlier j m (ltb-false s.count j c)

        nan-so-far : Bool
        nan-so-far = with_nan s.nan (log_at p k)

        go : (r : Bool) → Ranked r (rank s.log) (rank (log_at p k))
            → Highest (suc k) (cond r (stands k (log_at p k) nan-so-far) (stands s.count s.log nan-so-far))
        go true o = record {
          first = le_of_lt h;
          last = le_refl (suc k);
          log = refl;
          earlier = λ (j : ℕ) (m : 1 ≤ j) (n : j ≤ k). elim (eq-or-lt_of_le n) [
            | inl e ↦ le_of_eq (ap (λ (i : ℕ). rank (log_at p i)) e)
            | inr c ↦ le_trans (all j m c) o
          ];
          later = λ (j : ℕ) (m : k < j) (n : j < suc k). absurd (omega arith);
        }
        go false o = record {
          first = so.first;
          last = lt_of_lt_of_le so.last (le-suc k);
          log = so.log;
          earlier = so.earlier;
          later = λ (j : ℕ) (m : s.count < j) (n : j < suc k). elim (eq-or-lt_of_le (le_of_suc-le-suc n)) [
            | inl e ↦ subst (λ (i : ℕ). rank (log_at p i) < rank s.log) (sym e) o
            | inr c ↦ so.later j m c
          ];
        }

    -- the first count beats what the loop starts with
    begins : 1 < end → Highest 2 (higher_of p 1 (stands 1 (inf true) false))
    unfolding higher_of higher_with
    begins l =
        let nan = with_nan false (log_at p 1) in
        let wins = sym (starts (log_at p 1) (known 1 (le_refl 1) l)) in
        subst (λ (r : Bool). Highest 2 (cond r (stands 1 (log_at p 1) nan) (stands 1 (inf true) nan))) wins
        (record {
          first = le_refl 1;
          last = le_refl 2;
          log = refl;
          earlier = λ (j : ℕ) (m : 1 ≤ j) (n : j ≤ 1). le_of_eq (ap (λ (i : ℕ). rank (log_at p i)) (one-alone j m n));
          later = λ (j : ℕ) (m : 1 < j) (n : j < 2). absurd (omega arith);
        })
      where
        one-alone : (j : ℕ) → 1 ≤ j → j ≤ 1 → j ≡ 1
        one-alone j m n = omega arith

    highest : (top : ℕ) → 1 ≤ top → top + 1 ≡ end → Highest (top + 1) (highest_of p top)
    unfolding highest_of
    highest top h e =
        subst (Highest (top + 1)) (sym (fold-first (higher_of p) 1 (top + 1) (stands 1 (inf true) false) (omega arith)))
        (fold-keeps (higher_of p) Highest 2 (top + 1) (higher_of p 1 (stands 1 (inf true) false)) (omega arith)
        (λ (k : ℕ) (s : Standing) (l : 2 ≤ k) (m : k < top + 1). higher k s l (lt_of_lt_of_le m (le_of_eq e)))
        (begins (lt_of_lt_of_le (more top h) (le_of_eq e))))
      where
        more : (t : ℕ) → 1 ≤ t → 1 < t + 1
        more t h = omega arith

-- ---- THE THEOREMS
module _ (fit : SpectrumFit) where
  abbrev p : ErrorParams
  p = fit.error_params

  abbrev top : ℕ
  top = fit.fit_window_end

  some : (n : ℕ) → eqb n 0 ≡ false → 1 ≤ n
  some n h = above n (eqb-false n 0 h)
    where
      above : (n : ℕ) → (n ≡ 0 → ⊥) → 1 ≤ n
      above n h = omega (arith, h)

  pub error-mode-is : (c : ℕ) → error_mode_of fit ≡ give c → ErrorMode p top c
  unfolding error_mode_of
  error-mode-is c gave =
      let best = highest_of p top in
      let tests = window_tests top ++ scanned best.nan in
      let rows = parts (window_tests top) (scanned best.nan) refl (gave-passed best.count c tests gave) in
      let H1 = (window-passed top rows.0).1 in
      let clear = test-passed best.nan 8 (omega arith) rows.1 in
      let known : (j : ℕ) → 1 ≤ j → j < top + 1 → is_nan (log_at p j) ≡ false =
      λ (j : ℕ) (l : 1 ≤ j) (m : j < top + 1). not-true (is_nan (log_at p j))
      (λ (n : is_nan (log_at p j) ≡ true). true≢false (sym ((highest-flagged p top H1).set j l m n) ∙ clear)) in
      subst (ErrorMode p top) (gave-answer best.count c tests gave)
      (shown best (highest p (top + 1) known top H1 refl))
    where
      not-true : (b : Bool) → (b ≡ true → ⊥) → b ≡ false
      not-true true h = absurd (h refl)
      not-true false h = refl

      up_to : (a b : ℕ) → a < b + 1 → a ≤ b
      up_to a b h = omega arith

      below : (a b : ℕ) → a ≤ b → a < b + 1
      below a b h = omega arith

      shown : (s : Standing) → Highest p (top + 1) s → ErrorMode p top s.count
      shown s h = record {
        first = h.first;
        last = up_to s.count top h.last;
        earlier =
            λ (k : ℕ) (l : 1 ≤ k) (m : k ≤ s.count). subst (λ (x : Float). rank (log_at p k) ≤ rank x) h.log
            (h.earlier k l m);
        later =
            λ (k : ℕ) (l : s.count < k) (m : k ≤ top). subst (λ (x : Float). rank (log_at p k) < rank x) h.log
            (h.later k l (below k top m));
      }

  -- ---- one count is the highest
  apart : (c d : ℕ) → ErrorMode p top c → ErrorMode p top d → c < d → ⊥
  apart c d h k l =
      let below : rank (log_at p d) < rank (log_at p c) = h.later d l k.last in
      let above : rank (log_at p c) ≤ rank (log_at p d) = k.earlier c h.first (le_of_lt l) in
      not-both _ _ below above
    where
      not-both : (a b : ℕ) → a < b → b ≤ a → ⊥
      not-both a b h k = omega arith

  pub error-mode-unique : (c d : ℕ) → ErrorMode p top c → ErrorMode p top d → c ≡ d
  error-mode-unique c d h k = level c d (apart c d h k) (apart d c k h)
    where
      level : (c d : ℕ) → (c < d → ⊥) → (d < c → ⊥) → c ≡ d
      level c d h k = omega (arith, h, k)

  -- ---- 8 for a NaN, and for nothing else
  pub nan-refused : (k : ℕ) → top ≤ 65535 → 1 ≤ k → k ≤ top → is_nan (log_at p k) ≡ true → error_mode_of fit ≡ refuse 8
  unfolding error_mode_of
  nan-refused k few l m n =
      let not-zero : eqb top 0 ≡ false = ne_eqb top 0 (λ (z : top ≡ 0). absurd (omega arith)) in
      rw (le-ltb 65535 top few, not-zero, (highest-flagged p top (le_trans l m)).set k l (below k top m) n)
    where
      below : (a b : ℕ) → a ≤ b → a < b + 1
      below a b h = omega arith

  -- a window of counts without a NaN has an error mode
  pub error-mode-given : 1 ≤ top → top ≤ 65535 → ((k : ℕ) → 1 ≤ k → k ≤ top → is_nan (log_at p k) ≡ false)
      → (c : ℕ) × (error_mode_of fit ≡ give c)
  unfolding error_mode_of
  error-mode-given some few none =
      let not-zero : eqb top 0 ≡ false = ne_eqb top 0 (λ (z : top ≡ 0). absurd (omega arith)) in
      ((highest_of p top).count, rw (le-ltb 65535 top few, not-zero, unset (highest_of p top).nan refl))
    where
      up_to : (a b : ℕ) → a < b + 1 → a ≤ b
      up_to a b h = omega arith

      unset : (b : Bool) → (highest_of p top).nan ≡ b → (highest_of p top).nan ≡ false
      unset true e =
          let r = (highest-flagged p top some).found e in
          absurd (true≢false (sym r.3 ∙ none r.0 r.1 (up_to r.0 top r.2)))
      unset false e = e

  pub refused-nan : error_mode_of fit ≡ refuse 8 → (k : ℕ) × (1 ≤ k) × (k ≤ top) × (is_nan (log_at p k) ≡ true)
  unfolding error_mode_of
  refused-nan = go (ltb 65535 top) (eqb top 0) refl (highest_of p top).nan refl
    where
      up_to : (a b : ℕ) → a < b + 1 → a ≤ b
      up_to a b h = omega arith

      Found : Type 0
      Found = (k : ℕ) × (1 ≤ k) × (k ≤ top) × (is_nan (log_at p k) ≡ true)

      wrong : (n : ℕ) → n < 8 → ◌≡◌ {A = Reply ℕ} (refuse n) (refuse 8) → Found
      wrong n h e = let z : n ≡ 8 = same_number e in absurd (omega arith)

      go : (a b : Bool) → eqb top 0 ≡ b → (c : Bool) → (highest_of p top).nan ≡ c
          → chain (test a 2 ∷ test b 5 ∷ test c 8 ∷ []) (give (highest_of p top).count) ≡ refuse 8 → Found
      go true b h c k e = wrong 2 (omega arith) e
      go false true h c k e = wrong 5 (omega arith) e
      go false false h true k e =
          let r = (highest-flagged p top (some top h)).found k in (r.0, r.1, up_to r.0 top r.2, r.3)
      go false false h false k e = absurd (answer-not-refused e)
