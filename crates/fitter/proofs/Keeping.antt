-- Which run is kept: the one of least cost where it is valid; else what a second pass over the table finds, which
-- unpacks only what could win. Assumes nothing.
use Prim.Native.Nat.{ℕ, suc, ◌≤◌, ◌<◌, zero-le}
use mathlib.Core.Path.{◌≡◌, refl, sym, ap, ◌∙◌, subst}
use mathlib.Core.Bool.{Bool, true, false, cond, ◌&&◌, true≢false, false≢true}
use mathlib.Core.List.{List}
use lib.Ieee.{Float, lt}
use Rattle.meaning.proofs.Folds.{fold-keeps}
use Rattle.fitter.specs.Attempts.{unrejected}
use Rattle.fitter.specs.Runs.{bad_cost}
use Rattle.fitter.specs.Surveys.{best_of, beats, lesser, least_step, least_of}
use Rattle.fitter.specs.Judging.{judged_fit_of, valid_run, kept_best}
use Rattle.fitter.specs.Retrying.{could_win, held_of, retry_step, retried_of}
use Rattle.models.specs.declared.problems.Problem.{Problem}
use Rattle.fitter.specs.declared.judging.Held.{Held}
use Rattle.fitter.specs.declared.runs.Run.{Run}
use Rattle.fitter.specs.declared.surveys.Best.{Best}
use Rattle.fitter.proofs.Leasts.{Agree, agree, least-next, least-none, beats-some, beats-none}

and_first : (a b : Bool) → (a && b) ≡ true → a ≡ true
and_first true b h = refl
and_first false b h = absurd (false≢true h)

module _ (bins : List ℕ) (setup : Problem) (lists : List Float) (room : ℕ) where
  abbrev valid : Run → Bool
  valid = valid_run bins setup lists room

  abbrev fine : Run → Bool
  fine run = unrejected (judged_fit_of bins setup lists room run).rejection

  abbrev held : Best → Held
  held = held_of bins setup lists room

  abbrev all : Run → Bool
  all run = run.converged

  pub valid-converged : (r : Run) → valid r ≡ true → r.converged ≡ true
  unfolding valid_run
  valid-converged r h = and_first r.converged (fine r) h

  valid-by : (r : Run) (a b : Bool) → r.converged ≡ a → fine r ≡ b → valid r ≡ (a && b)
  unfolding valid_run
  valid-by r a b e f = ap (λ (x : Bool). x && fine r) e ∙ ap (λ (x : Bool). a && x) f

  module _ (at : ℕ → Run) (n : ℕ) (good : (i : ℕ) → i < n → (at i).converged ≡ true → bad_cost (at i).cost ≡ false) where
    abbrev least : Best
    least = least_of at all n

    abbrev best : Best
    best = least_of at valid n

    both : Agree valid least best
    both = agree at all valid valid-converged (λ (r : Run) (e : r.converged ≡ true). e) n good

    -- ---- where none converged, none is valid
    pub kept-none : least.run.converged ≡ false → kept_best bins setup lists room at n ≡ least
    unfolding kept_best
    kept-none e = go best.run.converged refl
      where
        go : (b : Bool) → best.run.converged ≡ b → cond b best least ≡ least
        go true f = absurd (true≢false (sym (both.has f) ∙ e))
        go false f = refl

    -- ---- where the least is valid it is kept
    pub kept-least : least.run.converged ≡ true → fine least.run ≡ true → kept_best bins setup lists room at n
        ≡ least
    unfolding kept_best
    kept-least e f =
        let s : best ≡ least = both.same e (valid-by least.run true true e f) in
        go best.run.converged s
      where
        go : (b : Bool) → best ≡ least → cond b best least ≡ least
        go true s = s
        go false s = refl

    pub kept-converged : least.run.converged ≡ true → (kept_best bins setup lists room at n).run.converged ≡ true
    unfolding kept_best
    kept-converged e = go best.run.converged refl
      where
        go : (b : Bool) → best.run.converged ≡ b → (cond b best least).run.converged ≡ true
        go true f = f
        go false f = e

    -- ---- else a second pass
    module _ (rejected : fine least.run ≡ false) where
      -- the best valid one so far, and the least where there is none
      abbrev so_far : Best → Held
      so_far v = cond v.run.converged (held v) (held least)

      record Past (k : ℕ) (h : Held) : Type 0 where
        pub is : h ≡ so_far (least_of at valid k)
        pub sound : (least_of at valid k).run.converged ≡ true → fine (least_of at valid k).run ≡ true

      module _ (k : ℕ) (v : Best) (sound : v.run.converged ≡ true → fine v.run ≡ true) where
        abbrev x : Run
        x = at k

        abbrev next : Best
        next = least_step at valid k v

        abbrev retried : Held
        retried = retry_step bins setup lists room k x (so_far v)

        retry-is : (h : Held) (a w u : Bool) → x.converged ≡ a → could_win h x.cost ≡ w → fine x ≡ u
            → retry_step bins setup lists room k x h ≡ cond (a && w && u) (held (best_of k x)) h
        unfolding retry_step
        retry-is h a w u e f g =
            ap (λ (b : Bool). cond b (held (best_of k x)) h)
            (ap (λ (b : Bool). b && could_win h x.cost && fine x) e
            ∙ ap (λ (b : Bool). a && b && fine x) f
            ∙ ap (λ (b : Bool). a && w && b) g)

        next-is : (b : Bool) → valid x ≡ b → next ≡ cond b (lesser x.cost k x v) v
        unfolding least_step
        next-is b e = ap (λ (c : Bool). cond c (lesser x.cost k x v) v) e

        lesser-is : (b : Bool) → beats x.cost v ≡ b → lesser x.cost k x v ≡ cond b (best_of k x) v
        unfolding lesser
        lesser-is b e = ap (λ (c : Bool). cond c (best_of k x) v) e

        far : (w : Bool) → v.run.converged ≡ w → so_far v ≡ cond w (held v) (held least)
        far w e = ap (λ (b : Bool). cond b (held v) (held least)) e

        -- over none every one could win, over the best so far a lower cost
        could-none : v.run.converged ≡ false → could_win (so_far v) x.cost ≡ true
        unfolding could_win
        could-none w =
            ap (λ (h : Held). could_win h x.cost) (far false w)
            ∙ ap (λ (b : Bool). cond b (lt x.cost least.run.cost) true) rejected

        could-some : v.run.converged ≡ true → could_win (so_far v) x.cost ≡ lt x.cost v.run.cost
        unfolding could_win
        could-some w =
            ap (λ (h : Held). could_win h x.cost) (far true w)
            ∙ ap (λ (b : Bool). cond b (lt x.cost v.run.cost) true) (sound w)

        -- not valid: nothing changes
        not_last : (a w u : Bool) → (a && u) ≡ false → (a && w && u) ≡ false
        not_last false w u z = refl
        not_last true w true z = absurd (true≢false z)
        not_last true true false z = refl
        not_last true false false z = refl

        passed_over : (a b : Bool) → x.converged ≡ a → fine x ≡ b → (a && b) ≡ false
            → (next ≡ v) × (retried ≡ so_far v)
        passed_over a b e f z = (
          next-is false (valid-by x a b e f ∙ z),
          retry-is (so_far v) a (could_win (so_far v) x.cost) b e refl f
              ∙ ap (λ (c : Bool). cond c (held (best_of k x)) (so_far v))
              (not_last a (could_win (so_far v) x.cost) b z),
        )

        -- valid, where there was none
        the-first : x.converged ≡ true → fine x ≡ true → v.run.converged ≡ false
            → (next ≡ best_of k x) × (retried ≡ held (best_of k x))
        the-first e f w = (
          next-is true (valid-by x true true e f) ∙ lesser-is true (beats-none x.cost v w),
          retry-is (so_far v) true true true e (could-none w) f,
        )

        -- valid, against the best so far
        against : (b : Bool) → x.converged ≡ true → fine x ≡ true → v.run.converged ≡ true
            → lt x.cost v.run.cost ≡ b
            → (next ≡ cond b (best_of k x) v) × (retried ≡ cond (b && true) (held (best_of k x)) (so_far v))
        against b e f w l = (
          next-is true (valid-by x true true e f) ∙ lesser-is b (beats-some x.cost v w ∙ l),
          retry-is (so_far v) true b true e (could-some w ∙ l) f,
        )

        abbrev Kept : Type 0
        Kept = (next.run.converged ≡ true → fine next.run ≡ true) × (retried ≡ so_far next)

        stays : next ≡ v → retried ≡ so_far v → Kept
        stays e f = (
          subst (λ (u : Best). u.run.converged ≡ true → fine u.run ≡ true) (sym e) sound,
          f ∙ ap so_far (sym e),
        )

        new-so-far : x.converged ≡ true → so_far (best_of k x) ≡ held (best_of k x)
        new-so-far e = rw e

        takes : x.converged ≡ true → fine x ≡ true → next ≡ best_of k x → retried ≡ held (best_of k x) → Kept
        takes c f e g = (
          subst (λ (u : Best). u.run.converged ≡ true → fine u.run ≡ true) (sym e)
              (λ (z : x.converged ≡ true). f),
          g ∙ sym (new-so-far c) ∙ ap so_far (sym e),
        )

        step : (a b w l : Bool) → x.converged ≡ a → fine x ≡ b → v.run.converged ≡ w
            → lt x.cost v.run.cost ≡ l → Kept
        step false b w l ea eb ew el = let s = passed_over false b ea eb refl in stays s.0 s.1
        step true false w l ea eb ew el = let s = passed_over true false ea eb refl in stays s.0 s.1
        step true true false l ea eb ew el = let s = the-first ea eb ew in takes ea eb s.0 s.1
        step true true true true ea eb ew el = let s = against true ea eb ew el in takes ea eb s.0 s.1
        step true true true false ea eb ew el = let s = against false ea eb ew el in stays s.0 s.1

      past_next : (k : ℕ) (h : Held) → Past k h → Past (suc k) (retry_step bins setup lists room k (at k) h)
      past_next k h p =
          let v = least_of at valid k in
          let s = step k v p.sound (at k).converged (fine (at k)) v.run.converged
          (lt (at k).cost v.run.cost) refl refl refl refl in
          record {
            is =
                ap (retry_step bins setup lists room k (at k)) p.is
                ∙ s.1 ∙ ap so_far (sym (least-next at valid k));
            sound =
                subst (λ (u : Best). u.run.converged ≡ true → fine u.run ≡ true) (sym (least-next at valid k))
                s.0;
          }

      past-none : Past 0 (held least)
      past-none = record {
        is = sym (ap so_far (least-none at valid));
        sound =
            subst (λ (u : Best). u.run.converged ≡ true → fine u.run ≡ true) (sym (least-none at valid))
            (λ (z : false ≡ true). absurd (false≢true z));
      }

      pub kept-retried : retried_of bins setup lists room at n (held least) ≡ held (kept_best bins setup lists room at n)
      unfolding retried_of kept_best
      kept-retried =
          let p =
          fold-keeps (λ (k : ℕ) (h : Held). retry_step bins setup lists room k (at k) h) Past 0 n (held least)
          zero-le
          (λ (k : ℕ) (h : Held) (l : 0 ≤ k) (m : k < n) (p : Past k h). past_next k h p) past-none in
          p.is ∙ out best.run.converged
        where
          out : (b : Bool) → cond b (held best) (held least) ≡ held (cond b best least)
          out true = refl
          out false = refl
