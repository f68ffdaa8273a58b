-- `models::prepared::prepare_window` meets its contract. Assumes nothing.
use Prim.Native.Nat.{ℕ, ◌+◌, ◌*◌}
use mathlib.Core.Path.{◌≡◌, sym, ap, ◌∙◌}
use mathlib.Core.List.{List}
use native.Mathlib.Omega.{arith}
use borrow.Author.Tests.{lt-ltb, le-ltb}
use lib.ListN.{length}
use lib.Ieee.{Float}
use Rattle.meaning.specs.Lent.{counted, laid}
use Rattle.meaning.specs.Over.{over}
use Rattle.meaning.specs.Reply.{Reply, refuse, give, chain}
use Rattle.meaning.specs.Rows.{too_short}
use Rattle.meaning.proofs.Says.{handed_on}
use Rattle.helpers.specs.WindowEnds.{window_end_of}
use Rattle.helpers.proofs.WindowEnds.{window_refused, window_given, window_count}
use Rattle.models.specs.Prepared.{ready_demand, ready_rows, prepare_of}
use Rattle.models.proofs.ReadyCost.{rows-length}
use Rattle.models.proofs.prepared.prepare_window.Goals as goal

-- a refusal leaves the slice as it is
kept : (n end : ℕ) (held : List Float) → refuse n ≡ prepare_of end (length held)
    → record {
      result_value : refuse n ≡ counted (prepare_of end (length held));
      out_after : held ≡ laid (prepare_of end (length held)) held;
    }
kept n end held e = record {
  result_value = ap counted e;
  out_after = ap (λ (r : Reply (List Float)). laid r held) e;
}

-- what stands behind the window's tests
behind : (end n room : ℕ) (reply : Reply (List Float)) → give n ≡ window_end_of end
    → reply ≡ chain (too_short room (ready_demand end)) (give (ready_rows (end + 2))) → reply ≡ prepare_of end room
unfolding prepare_of
behind end n room reply given e = e ∙ window_given (give (ready_rows (end + 2))) (too_short room (ready_demand end)) end n given

pub returns-in_err-end : goal.returns-in_err-end
unfolding prepare_of
returns-in_err-end c =
    let a = c.args in
    let said = kept _ a.window_end a.out.now
    (window_refused _ (too_short (length a.out.now) (ready_demand a.window_end)) _ _ c.in_err-end.ensures) in
    record { result_value = handed_on _ _ c.from_residual.ensures.1 ∙ said.result_value; out_after = said.out_after }

pub returns-then-out-items : goal.returns-then-out-items
returns-then-out-items c =
    let a = c.args in
    let top = window_count _ _ c.in_ok-end.ensures in
    kept 10 a.window_end a.out.now
    (behind a.window_end _ (length a.out.now) _ c.in_ok-end.ensures
    (rw (lt-ltb (length a.out.now) (ready_demand a.window_end) (omega (arith, c.if-out-items.true, c.from-rows.ensures, c.count.ensures, top)))))

pub returns : goal.returns
returns c =
    let a = c.args in
    let top = window_count _ _ c.in_ok-end.ensures in
    let e = behind a.window_end _ (length a.out.now) (give (ready_rows (a.window_end + 2))) c.in_ok-end.ensures
    (rw (le-ltb (length a.out.now) (ready_demand a.window_end) (omega (arith, c.if-out-items.false, c.from-rows.ensures, c.count.ensures, top)))) in
    let rows : c.from-rows.result + 2 ≡ a.window_end + 2 =
    ap (λ (n : ℕ). n + 2) (c.from-rows.ensures ∙ c.count.ensures ∙ top) in record {
      result_value =
          ap (λ (n : ℕ). give (2 * n)) rows ∙ ap give (sym (rows-length (a.window_end + 2))) ∙ ap counted e;
      out_after =
          c.write_rows.ensures ∙ ap (λ (n : ℕ). over (ready_rows n) a.out.now) rows
          ∙ ap (λ (r : Reply (List Float)). laid r a.out.now) e;
    }
