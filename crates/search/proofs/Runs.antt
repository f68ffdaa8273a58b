-- What is so of every run, at every number of turns: it makes at most an iteration a turn, never goes past its cap, ends
-- within as many turns as the cap, and its vertices are those of the iterations that it reports. Assumes nothing.
use Prim.Native.Nat.{ℕ, zero, suc, ◌+◌, ◌≤◌}
use mathlib.Core.Path.{◌≡◌, refl, sym, ap, ◌∙◌, subst}
use mathlib.Core.Bool.{Bool, true, false, cond, ◌||◌}
use mathlib.Core.List.{List}
use native.Mathlib.Omega.{arith}
use lib.Ieee.{Float}
use borrow.Author.Tests.{le-leb}
use Rattle.search.specs.Claims.{steps_of}
use Rattle.search.specs.Order.{ordered}
use Rattle.search.specs.Rule.{stepped}
use Rattle.search.specs.Spread.{settled}
use Rattle.search.specs.Turns.{State, ended, next_of, turns_of}
use Rattle.search.specs.Vertices.{Vertex}
use Rattle.search.proofs.Parts.{stays, goes}
use Rattle.search.proofs.Turned.{settles, steps, below-cap}

abbrev pub stopped_at : State → State
stopped_at s = record { vertices = ordered s.vertices; iterations = s.iterations; stopped = true }

module _ (cost : List Float → Float) where
  abbrev pub stepped_at : State → State
  stepped_at s =
      record { vertices = stepped cost (ordered s.vertices); iterations = suc s.iterations; stopped = false }

  module _ (cap : ℕ) where
    -- ---- by turns: P n s e says something of n turns that bring s to e. It holds where there are none, where the run
    -- has ended, where a turn stops it, and of a turn that steps where it holds of the turns after it
    module _ (P : ℕ → State → State → Type 0) (none : (s : State) → P zero s s)
        (over : (n : ℕ) (s : State) → ended cap s ≡ true → P n s s)
        (stops : (n : ℕ) (s : State) → ended cap s ≡ false → P (suc n) s (stopped_at s))
        (goes_on : (n : ℕ) (s e : State) → ended cap s ≡ false → P n (stepped_at s) e → P (suc n) s e) where
      pub by-turns : (n : ℕ) (s : State) → P n s (turns_of cost cap n s)
      by-turns zero s = unfold turns_of in none s
      by-turns (suc n) s = go (by-turns n (stepped_at s)) (ended cap s) refl
        where
          test : P n (stepped_at s) (turns_of cost cap n (stepped_at s)) → ended cap s ≡ false
              → (b : Bool) → settled (ordered s.vertices) ≡ b → P (suc n) s (turns_of cost cap n (next_of cost s))
          test r e true t =
              subst (P (suc n) s)
              (sym (stays cost cap n (stopped_at s) refl)
              ∙ ap (turns_of cost cap n) (settles cost s (ordered s.vertices) refl t))
              (stops n s e)
          test r e false t =
              subst (λ (x : State). P (suc n) s (turns_of cost cap n x))
              (ap (λ (k : ℕ). record { vertices = stepped cost (ordered s.vertices); iterations = k; stopped = false }) (omega arith)
              ∙ steps cost s (ordered s.vertices) refl _ t refl)
              (goes_on n s _ e r)

          go : P n (stepped_at s) (turns_of cost cap n (stepped_at s)) → (b : Bool) → ended cap s ≡ b
              → P (suc n) s (turns_of cost cap (suc n) s)
          go r true e = subst (P (suc n) s) (sym (stays cost cap (suc n) s e)) (over (suc n) s e)
          go r false e = subst (P (suc n) s) (sym (goes cost cap n s e)) (test r e (settled (ordered s.vertices)) refl)

    -- ---- THE THEOREMS
    pub within-limit : (n : ℕ) (s : State) → (turns_of cost cap n s).iterations ≤ s.iterations + n
    within-limit =
        by-turns (λ (n : ℕ) (s e : State). e.iterations ≤ s.iterations + n)
        (λ (s : State). omega arith)
        (λ (n : ℕ) (s : State) (_ : ended cap s ≡ true). omega arith)
        (λ (n : ℕ) (s : State) (_ : ended cap s ≡ false). omega arith)
        (λ (n : ℕ) (s e : State) (_ : ended cap s ≡ false) (h : e.iterations ≤ suc s.iterations + n). omega arith)

    pub within_cap : (n : ℕ) (s : State) → s.iterations ≤ cap → (turns_of cost cap n s).iterations ≤ cap
    within_cap =
        by-turns (λ (n : ℕ) (s e : State). s.iterations ≤ cap → e.iterations ≤ cap)
        (λ (s : State) (l : s.iterations ≤ cap). l)
        (λ (n : ℕ) (s : State) (_ : ended cap s ≡ true) (l : s.iterations ≤ cap). l)
        (λ (n : ℕ) (s : State) (_ : ended cap s ≡ false) (l : s.iterations ≤ cap). l)
        (λ (n : ℕ) (s e : State) (t : ended cap s ≡ false) (h : suc s.iterations ≤ cap → e.iterations ≤ cap)
        (l : s.iterations ≤ cap). h (below-cap cap s t))

    ends : (n : ℕ) (s : State) → cap ≤ s.iterations + n → ended cap (turns_of cost cap n s) ≡ true
    ends =
        by-turns (λ (n : ℕ) (s e : State). cap ≤ s.iterations + n → ended cap e ≡ true)
        (λ (s : State) (l : cap ≤ s.iterations + 0). either s.stopped _ (le-leb cap s.iterations (omega arith)))
        (λ (n : ℕ) (s : State) (t : ended cap s ≡ true) (_ : cap ≤ s.iterations + n). t)
        (λ (n : ℕ) (s : State) (_ : ended cap s ≡ false) (_ : cap ≤ s.iterations + suc n). refl)
        (λ (n : ℕ) (s e : State) (_ : ended cap s ≡ false) (h : cap ≤ suc s.iterations + n → ended cap e ≡ true)
        (l : cap ≤ s.iterations + suc n). h (omega arith))
      where
        either : (a b : Bool) → b ≡ true → (a || b) ≡ true
        either true b h = refl
        either false b h = h

    pub ends-within-cap : (s : State) → ended cap (turns_of cost cap cap s) ≡ true
    ends-within-cap s = ends cap s (omega arith)

    -- ---- the iterations reported are those made: k of them bring s to e, which is put in order where the test stopped it
    pub record Made (s e : State) : Type 0 where
      pub made : ℕ
      pub count : e.iterations ≡ s.iterations + made
      pub reached : e.vertices
          ≡ cond e.stopped (ordered (steps_of cost made s.vertices)) (steps_of cost made s.vertices)

    pub all_made : (n : ℕ) (s : State) → s.stopped ≡ false → Made s (turns_of cost cap n s)
    unfolding steps_of
    all_made =
        by-turns (λ (n : ℕ) (s e : State). s.stopped ≡ false → Made s e)
        (λ (s : State) (t : s.stopped ≡ false). none_made s t)
        (λ (n : ℕ) (s : State) (_ : ended cap s ≡ true) (t : s.stopped ≡ false). none_made s t)
        (λ (n : ℕ) (s : State) (_ : ended cap s ≡ false) (t : s.stopped ≡ false).
        record { made = 0; count = omega arith; reached = refl })
        (λ (n : ℕ) (s e : State) (_ : ended cap s ≡ false) (h : false ≡ false → Made (stepped_at s) e) (t : s.stopped ≡ false).
        let m = h refl in
        let l : e.iterations ≡ suc s.iterations + m.made = m.count in
        record { made = suc m.made; count = omega arith; reached = m.reached })
      where
        none_made : (s : State) → s.stopped ≡ false → Made s s
        none_made s t = record { made = 0; count = omega arith; reached = rw t }

    pub count-is-steps : (n : ℕ) (s : State) → s.iterations ≡ 0 → s.stopped ≡ false
        → let e = turns_of cost cap n s in
        let vs = steps_of cost e.iterations s.vertices in e.vertices ≡ cond e.stopped (ordered vs) vs
    count-is-steps n s z t =
        let e = turns_of cost cap n s in
        let m = all_made n s t in
        let l : e.iterations ≡ s.iterations + m.made = m.count in
        let k : m.made ≡ e.iterations = omega arith in
        m.reached
        ∙ ap (λ (i : ℕ). cond e.stopped (ordered (steps_of cost i s.vertices)) (steps_of cost i s.vertices)) k

    -- ---- what ordering and an iteration keep, a run keeps
    pub turns-keep : (K : List Vertex → Type 0) → ((vs : List Vertex) → K vs → K (ordered vs))
        → ((vs : List Vertex) → K vs → K (stepped cost vs)) → (n : ℕ) (s : State)
        → K s.vertices → K (turns_of cost cap n s).vertices
    turns-keep K o t =
        by-turns (λ (n : ℕ) (s e : State). K s.vertices → K e.vertices)
        (λ (s : State) (k : K s.vertices). k)
        (λ (n : ℕ) (s : State) (_ : ended cap s ≡ true) (k : K s.vertices). k)
        (λ (n : ℕ) (s : State) (_ : ended cap s ≡ false) (k : K s.vertices). o s.vertices k)
        (λ (n : ℕ) (s e : State) (_ : ended cap s ≡ false) (h : K (stepped cost (ordered s.vertices)) → K e.vertices)
        (k : K s.vertices). h (t (ordered s.vertices) (o s.vertices k)))
