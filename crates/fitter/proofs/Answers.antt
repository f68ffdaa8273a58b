-- What the call that writes all starts answers, by its tests: each refusal, and the starts. Assumes nothing.
use Prim.Native.Nat.{ℕ, ◌+◌, ◌*◌, ◌/◌, ◌%◌, ◌<◌}
use mathlib.Core.Path.{◌≡◌, refl, sym, ap, ◌∙◌}
use mathlib.Core.Bool.{Bool, true, false, true≢false}
use mathlib.Core.List.{List, [], ◌∷◌, ◌++◌}
use mathlib.Core.Logic.{◌⊎◌, inl, inr, ⊎_elim}
use native.Mathlib.Omega.{arith}
use borrow.Author.Tests.{eq-eqb, ne_eqb, eqb-true, eqb-false}
use lib.Dec.{ltb, eqb}
use lib.ListN.{length, length-append}
use lib.Ieee.{Float}
use Rattle.meaning.specs.Reply.{Test, test, first_of, refuse, give}
use Rattle.meaning.specs.Rows.{in_order, too_short}
use Rattle.meaning.proofs.Chains.{stops, goes_on, parts, chain-refused, chain-passed}
use Rattle.meaning.proofs.Rows.{test-passed}
use Rattle.models.specs.Families.{list_length_of}
use Rattle.models.specs.declared.families.ErrorModel.{ErrorModel}
use Rattle.models.specs.declared.families.ErrorModel.TheVariants.{FreeSingletonWeibull, SingletonPareto}
use Rattle.models.specs.declared.families.GenomeModel.{GenomeModel}
use Rattle.fitter.specs.StartTables.{table_of, not_rows, wrong_tables, part_says, start_table_of}
use Rattle.fitter.specs.Starts.{hint_of, per_row, all_starts, odd_shapes, starts_of}
use Rattle.fitter.proofs.Parts.{all-length}

-- ---- the tables
-- what is read of the one that is chosen is chosen of what is read
pub chosen : {T S : Type 0} (f : T → S) (error : ErrorModel) (p w : T) → f (table_of error p w) ≡ table_of error (f p) (f w)
chosen f FreeSingletonWeibull p w = refl
chosen f SingletonPareto p w = refl

-- the number is 0 or 7
pub number : (p w : ℕ) → (0 ≡ first_of (wrong_tables p w)) ⊎ (7 ≡ first_of (wrong_tables p w))
number p w = by (not_rows p) (not_rows w)
  where
    by : (a b : Bool) → (0 ≡ first_of (test a 7 ∷ test b 7 ∷ [])) ⊎ (7 ≡ first_of (test a 7 ∷ test b 7 ∷ []))
    by true b = inr refl
    by false true = inr refl
    by false false = inl refl

rows-some : (n : ℕ) → not_rows n ≡ false → 0 < n / 3
rows-some n e = by (eqb n 0) (eqb (n % 3) 0) refl refl e
  where
    by : (a b : Bool) → eqb n 0 ≡ a → eqb (n % 3) 0 ≡ b → not_rows n ≡ false → 0 < n / 3
    by true b ea eb e = absurd (true≢false (rw ea at e))
    by false true ea eb e =
        let z : (n ≡ 0 → ⊥) = eqb-false n 0 ea in
        let m : n % 3 ≡ 0 = eqb-true (n % 3) 0 eb in
        omega (arith, z, m)
    by false false ea eb e = absurd (true≢false (rw (ea, eb) at e))

module _ (error : ErrorModel) (pareto weibull : List Float) (fine : 0 ≡ first_of (wrong_tables (length pareto) (length weibull))) where
  pub table-some : 0 < length (table_of error pareto weibull) / 3
  table-some = by error
    where
      both : (not_rows (length pareto) ≡ false) × (not_rows (length weibull) ≡ false)
      both =
          let two = parts (test (not_rows (length pareto)) 7 ∷ []) (test (not_rows (length weibull)) 7 ∷ []) refl fine in
          (test-passed _ 7 (omega arith) two.0, test-passed _ 7 (omega arith) two.1)

      by : (error : ErrorModel) → 0 < length (table_of error pareto weibull) / 3
      by FreeSingletonWeibull = rows-some (length weibull) both.1
      by SingletonPareto = rows-some (length pareto) both.0

-- what an empty part and another tell of the number
module _ (error : ErrorModel) (pareto weibull r : List Float)
    (took : 0 ≡ first_of (wrong_tables (length pareto) (length weibull)) → r ≡ table_of error pareto weibull)
    (none : 7 ≡ first_of (wrong_tables (length pareto) (length weibull)) → r ≡ []) where
  pub empty-refused : length r ≡ 0 → 7 ≡ first_of (wrong_tables (length pareto) (length weibull))
  empty-refused h =
      ⊎_elim (λ e. absurd (never (took e) (table-some error pareto weibull e))) (λ e. e) (number (length pareto) (length weibull))
    where
      never : r ≡ table_of error pareto weibull → 0 < length (table_of error pareto weibull) / 3 → ⊥
      never e s = let z : length (table_of error pareto weibull) ≡ 0 = sym (ap length e) ∙ h in omega arith

  pub some-fine : (length r ≡ 0 → ⊥) → 0 ≡ first_of (wrong_tables (length pareto) (length weibull))
  some-fine h = ⊎_elim (λ e. e) (λ e. absurd (h (ap length (none e)))) (number (length pareto) (length weibull))

  -- so what the part says is the reply: 7, or the table
  pub says : part_says r ≡ start_table_of error pareto weibull
  unfolding start_table_of
  says = ⊎_elim fine refused (number (length pareto) (length weibull))
    where
      filled : (l : List Float) → 0 < length l / 3 → part_says l ≡ give l
      filled [] h = absurd (omega arith)
      filled (x ∷ l) h = refl

      fine : 0 ≡ first_of (wrong_tables (length pareto) (length weibull)) → part_says r ≡ start_table_of error pareto weibull
      fine e =
          ap part_says (took e) ∙ filled (table_of error pareto weibull) (table-some error pareto weibull e)
          ∙ sym (chain-passed (give (table_of error pareto weibull)) (wrong_tables (length pareto) (length weibull)) refl e)

      refused : 7 ≡ first_of (wrong_tables (length pareto) (length weibull)) → part_says r ≡ start_table_of error pareto weibull
      refused e =
          ap part_says (none e)
          ∙ sym (chain-refused (give (table_of error pareto weibull)) (wrong_tables (length pareto) (length weibull)) 7 e (omega arith))

-- ---- the answer
module _ (error : ErrorModel) (genome : GenomeModel) (pareto weibull seeds : List Float) (hint share : Float)
    (shapes : List Float) (room : ℕ) where
  abbrev pub all : List Float
  all = all_starts error genome (seeds ++ (hint_of hint ∷ [])) (table_of error pareto weibull) share shapes

  abbrev tables : List Test
  tables = wrong_tables (length pareto) (length weibull)

  abbrev pairs : List Test
  pairs = odd_shapes (length shapes)

  abbrev rooms : List Test
  rooms = in_order (too_short room (length all) ∷ [])

  pub tables-refused : 7 ≡ first_of tables → starts_of error genome pareto weibull seeds hint share shapes room ≡ refuse 7
  unfolding starts_of
  tables-refused e =
      chain-refused (give all) (tables ++ (pairs ++ rooms)) 7 (stops tables (pairs ++ rooms) 7 e (omega arith)) (omega arith)

  module _ (fine : 0 ≡ first_of tables) where
    pub shapes-refused : (length shapes % 2 ≡ 0 → ⊥)
        → starts_of error genome pareto weibull seeds hint share shapes room ≡ refuse 7
    unfolding starts_of
    shapes-refused h =
        let odd : 7 ≡ first_of pairs = rw (ne_eqb (length shapes % 2) 0 h) in
        chain-refused (give all) (tables ++ (pairs ++ rooms)) 7
        (goes_on tables (pairs ++ rooms) refl fine 7 (stops pairs rooms 7 odd (omega arith))) (omega arith)

    module _ (even : length shapes % 2 ≡ 0) where
      none-odd : 0 ≡ first_of pairs
      none-odd = rw (eq-eqb (length shapes % 2) 0 even)

      pub room-refused : ltb room (length all) ≡ true
          → starts_of error genome pareto weibull seeds hint share shapes room ≡ refuse 10
      unfolding starts_of
      room-refused h =
          let less : 10 ≡ first_of rooms = rw h in
          chain-refused (give all) (tables ++ (pairs ++ rooms)) 10
          (goes_on tables (pairs ++ rooms) refl fine 10 (goes_on pairs rooms refl none-odd 10 less)) (omega arith)

      pub given : ltb room (length all) ≡ false
          → starts_of error genome pareto weibull seeds hint share shapes room ≡ give all
      unfolding starts_of
      given h =
          let enough : 0 ≡ first_of rooms = rw h in
          chain-passed (give all) (tables ++ (pairs ++ rooms)) refl
          (goes_on tables (pairs ++ rooms) refl fine 0 (goes_on pairs rooms refl none-odd 0 enough))

  -- what the code works out, from its own table, width and hint
  module _ (r : List Float) (er : r ≡ table_of error pareto weibull) where
    pub needed : (width each : ℕ) → width ≡ list_length_of error genome → each ≡ per_row genome (length shapes)
        → (length seeds + 1) * (length r / 3 * (each * width)) ≡ length all
    needed width each ew ee =
        let l : length (seeds ++ (hint_of hint ∷ [])) ≡ length seeds + 1 = length-append seeds (hint_of hint ∷ []) in
        rw (ew, ee, er, sym l)
        (sym (all-length error genome (seeds ++ (hint_of hint ∷ [])) (table_of error pareto weibull) share shapes))

    pub starts-are : (used : Float) → used ≡ hint_of hint → all_starts error genome (seeds ++ (used ∷ [])) r share shapes ≡ all
    starts-are used eu = rw (eu, er)
