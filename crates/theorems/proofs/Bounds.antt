-- Whatever grammar, templates and value say: the walk writes no more bytes than it has room for, and counts no more steps than it has fuel;
-- and where one of the limits 10 to 12 ends it, that limit was met.
-- Goes on from specs/Bounds.antt: what rests on definitions that a must-fail edit changes.
use Rattle.std.specs.Prelude.{◌≡◌, ℕ, ◌≤◌, length}
use Rattle.std.proofs.Common.{subst, arith, length-append}
use Rattle.rules.specs.Walk.{Input, State, start, Limit, too_deep, End, ended, counted, walk}
use Rattle.theorems.specs.Visits.{InStep}
use Rattle.theorems.proofs.Visits.{walk_both}
use Rattle.theorems.specs.Bounds.{StateOf, when_done, when_ended, Leaves, at_done, at_limit, at_stuck, then_leaves, write_leaves, reached_leaves, Within, Struck, all_used, at_201, passes}

-- how a walk ends: within its limits, and by none that it did not meet
abbrev Bounded : Input → End → Type 0
Bounded i = Leaves (Within i) (λ l p s. Within i s × Struck i p s l)

bounded_kept : (i : Input) → InStep i i.fuel i.room (λ s e e'. Within i s → Bounded i e)
unfolding counted
bounded_kept i = record {
  nothing = λ s w. at_done s w;
  no_way = λ s w. at_stuck;
  one_then = λ next next' h k w. then_leaves next (h w) k;
  writing = λ {d} {p} {a} {env} x at shallow piece s w.
      write_leaves i.room p x s
      (λ fits. record { few_steps = w.few_steps; few_bytes = rw length-append fits })
      (λ past. (w, passes d a env x at shallow piece past));
  reaching = λ {d} {p} {a} {env} next next' at shallow k s w.
      reached_leaves i.fuel p next s
      (λ left. k _ (record { few_steps = left; few_bytes = w.few_bytes }))
      (λ used. (w, all_used d a env at shallow (let few = w.few_steps in omega arith)));
  deep = λ {p} {a} {env} at s w. at_limit too_deep p s (w, at_201 a env at);
}

walk_bounded : (i : Input) → Bounded i (walk i)
unfolding start
walk_bounded i = walk_both i i.fuel i.room _ (bounded_kept i) (record { few_steps = omega arith; few_bytes = omega arith })

left_within : {i : Input} {s : State} {e : End} → Bounded i e → StateOf s e → Within i s
left_within (at_done s w) when_done = w
left_within {i = i} {s = s} at_stuck x3 = elim x3 [ ]
left_within (at_limit l p s h) (when_ended l' p') = h.0

-- "One that passes the end of the output is 12."
pub written_fits : (i : Input) (s : State) → StateOf s (walk i) → length s.text ≤ i.room
written_fits i s h = (left_within (walk_bounded i) h).few_bytes

pub steps_fit : (i : Input) (s : State) → StateOf s (walk i) → s.steps ≤ i.fuel
steps_fit i s h = (left_within (walk_bounded i) h).few_steps

left_struck : {i : Input} {l : Limit} {p : ℕ} {s : State} → Bounded i (ended l p s) → Struck i p s l
left_struck (at_limit l p s h) = h.1

-- A limit ends a walk only where it is met. (Where the walk then is, with which text and steps: `limits_find` of `LimitsFind`.)
pub limits_bind : (i : Input) (l : Limit) (p : ℕ) (s : State) → walk i ≡ ended l p s → Struck i p s l
limits_bind i l p s e = left_struck (subst (Bounded i) e (walk_bounded i))
