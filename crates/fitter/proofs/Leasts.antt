-- The least of some runs that has a further property is the least of those with both; and where there is none of the
-- first, there is none of the second. Assumes nothing.
use Prim.Native.Nat.{ℕ, suc, ◌≤◌, ◌<◌, zero-le}
use mathlib.Core.Path.{◌≡◌, refl, sym, ap, ◌∙◌, subst}
use mathlib.Core.Bool.{Bool, true, false, cond, true≢false, false≢true}
use native.Mathlib.Numerals.{add-one}
use lib.Ieee.{Float, lt}
use Rattle.meaning.specs.Fold.{fold}
use Rattle.meaning.proofs.Folds.{fold-none, fold_more, fold-keeps}
use Rattle.fitter.specs.Runs.{bad_cost}
use Rattle.fitter.specs.Surveys.{no_best, best_of, beats, lesser, least_step, least_of}
use Rattle.fitter.specs.declared.runs.Run.{Run}
use Rattle.fitter.specs.declared.surveys.Best.{Best}
use Rattle.fitter.proofs.Prices.{Plain, plain-cost, below-those, not-both, not_itself}

-- ---- one run more
pub least-next : (at : ℕ → Run) (p : Run → Bool) (k : ℕ) → least_of at p (suc k) ≡ least_step at p k (least_of at p k)
unfolding least_of
least-next at p k =
    ap (λ (j : ℕ). fold (least_step at p) 0 j no_best) (sym (add-one k)) ∙ fold_more (least_step at p) 0 k no_best zero-le

pub least-none : (at : ℕ → Run) (p : Run → Bool) → least_of at p 0 ≡ no_best
unfolding least_of
least-none at p = fold-none (least_step at p) 0 0 no_best zero-le

module _ (cost : Float) (best : Best) where
  pub beats-some : best.run.converged ≡ true → beats cost best ≡ lt cost best.run.cost
  unfolding beats
  beats-some e = rw e

  pub beats-none : best.run.converged ≡ false → beats cost best ≡ true
  unfolding beats
  beats-none e = rw e

  -- what does not beat the best leaves one
  some-best : beats cost best ≡ false → best.run.converged ≡ true
  some-best h = go best.run.converged refl
    where
      go : (c : Bool) → best.run.converged ≡ c → c ≡ true
      go true e = refl
      go false e = absurd (true≢false (sym (beats-none e) ∙ h))

-- ---- two properties, the second within the first
pub record Agree (q : Run → Bool) (b c : Best) : Type 0 where
  pub plain-b : b.run.converged ≡ true → Plain b.run.cost
  pub plain-c : c.run.converged ≡ true → Plain c.run.cost
  pub has : c.run.converged ≡ true → b.run.converged ≡ true
  pub ahead : c.run.converged ≡ true → lt c.run.cost b.run.cost ≡ false
  pub same : b.run.converged ≡ true → q b.run ≡ true → c ≡ b

module _ (at : ℕ → Run) (p q : Run → Bool) (within : (r : Run) → q r ≡ true → p r ≡ true)
    (converged : (r : Run) → p r ≡ true → r.converged ≡ true) where
  nothing_yet : Agree q no_best no_best
  nothing_yet = record {
    plain-b = λ (e : false ≡ true). absurd (false≢true e);
    plain-c = λ (e : false ≡ true). absurd (false≢true e);
    has = λ (e : false ≡ true). e;
    ahead = λ (e : false ≡ true). absurd (false≢true e);
    same = λ (e : false ≡ true). absurd (false≢true e);
  }

  module _ (k : ℕ) (x : Run) (P : p x ≡ true → Plain x.cost) (b c : Best) (h : Agree q b c) where
    abbrev new : Best
    new = best_of k x

    -- one that beats the first beats the second
    beats-both : p x ≡ true → beats x.cost b ≡ true → beats x.cost c ≡ true
    beats-both px w = go c.run.converged refl
      where
        go : (d : Bool) → c.run.converged ≡ d → beats x.cost c ≡ true
        go false e = beats-none x.cost c e
        go true e =
            let f = h.has e in
            beats-some x.cost c e
            ∙ below-those (P px) (h.plain-b f) (h.plain-c e) (sym (beats-some x.cost b f) ∙ w) (h.ahead e)

    both-new : p x ≡ true → Agree q new new
    both-new px = record {
      plain-b = λ (e : x.converged ≡ true). P px;
      plain-c = λ (e : x.converged ≡ true). P px;
      has = λ (e : x.converged ≡ true). e;
      ahead = λ (e : x.converged ≡ true). not_itself (P px);
      same = λ (e : x.converged ≡ true) (i : q x ≡ true). refl;
    }

    first-new : p x ≡ true → q x ≡ false → beats x.cost b ≡ true → Agree q new c
    first-new px qx w = record {
      plain-b = λ (e : x.converged ≡ true). P px;
      plain-c = h.plain-c;
      has = λ (e : c.run.converged ≡ true). converged x px;
      ahead = λ (e : c.run.converged ≡ true).
          not-both (P px) (h.plain-c e) (sym (beats-some x.cost c e) ∙ beats-both px w);
      same = λ (e : x.converged ≡ true) (i : q x ≡ true). absurd (true≢false (sym i ∙ qx));
    }

    second-new : p x ≡ true → beats x.cost b ≡ false → beats x.cost c ≡ true → Agree q b new
    second-new px w v = record {
      plain-b = h.plain-b;
      plain-c = λ (e : x.converged ≡ true). P px;
      has = λ (e : x.converged ≡ true). some-best x.cost b w;
      ahead = λ (e : x.converged ≡ true). sym (beats-some x.cost b (some-best x.cost b w)) ∙ w;
      same = λ (e : b.run.converged ≡ true) (i : q b.run ≡ true).
          absurd (true≢false (sym v ∙ ap (beats x.cost) (h.same e i) ∙ w));
    }

    more : (bp bq w v : Bool) → p x ≡ bp → q x ≡ bq → beats x.cost b ≡ w → beats x.cost c ≡ v
        → Agree q (cond bp (cond w new b) b) (cond bq (cond v new c) c)
    more false false w v ep eq ew ev = h
    more false true w v ep eq ew ev = absurd (true≢false (sym (within x eq) ∙ ep))
    more true true true true ep eq ew ev = both-new ep
    more true true true false ep eq ew ev = absurd (true≢false (sym (beats-both ep ew) ∙ ev))
    more true true false true ep eq ew ev = second-new ep ew ev
    more true true false false ep eq ew ev = h
    more true false true v ep eq ew ev = first-new ep eq ew
    more true false false v ep eq ew ev = h

  pub agree : (n : ℕ) → ((i : ℕ) → i < n → p (at i) ≡ true → bad_cost (at i).cost ≡ false)
      → Agree q (least_of at p n) (least_of at q n)
  unfolding least_of least_step lesser
  agree n good =
      fold-keeps (least_step at p) (λ (k : ℕ) (b : Best). Agree q b (least_of at q k)) 0 n no_best zero-le
      (λ (k : ℕ) (b : Best) (l : 0 ≤ k) (m : k < n) (h : Agree q b (least_of at q k)).
      subst (Agree q (least_step at p k b)) (sym (least-next at q k))
      (more k (at k) (λ (e : p (at k) ≡ true). plain-cost (at k).cost (good k m e)) b (least_of at q k) h
      (p (at k)) (q (at k)) (beats (at k).cost b) (beats (at k).cost (least_of at q k)) refl refl refl refl))
      (subst (Agree q no_best) (sym (least-none at q)) nothing_yet)
