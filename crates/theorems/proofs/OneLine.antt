-- Two walks of one set and value are on one line: fuel and room only say where a walk stops, never where it goes.
-- Goes on from specs/OneLine.antt: what rests on definitions that a must-fail edit changes.
use Rattle.std.specs.Prelude.{◌≡◌, ◌⊎◌, ℕ, ◌+◌, ◌≤◌, List, Bool, cond}
use Rattle.std.proofs.Math.Path.{refl}
use Rattle.std.proofs.Common.{subst, inl, inr, arith, leb-true, leb-false, ltb-true, ltb-false}
use Rattle.std.proofs.Math.Bool.{true, false}
use Rattle.std.proofs.Math.ListN.{length}
use Rattle.std.proofs.Math.Dec.{leb, ltb}
use Rattle.rules.specs.Walk.{Input, State, Limit, fuel_spent, too_deep, output_full, End, done, ended, stuck, and_then, write, counted, Asked, reached, walk}
use Rattle.theorems.specs.Begins.{Begins, begins_itself, begins_then, begins_written, begins_counted, written}
use Rattle.theorems.specs.Visits.{limited_by, LevelsOf, WritesOf, InStep}
use Rattle.theorems.proofs.Visits.{walk_both}
use Rattle.theorems.specs.Bounds.{StateOf, when_done, when_ended, Leaves, at_done, at_limit, at_stuck, then_leaves, write_leaves, reached_leaves}
use Rattle.theorems.specs.OneLine.{Further, counts, writes, Onward, ends_alike, goes_on, OneLine}

-- whatever state an end has, s begins it
abbrev Past : State → End → Type 0
Past s = Leaves (Begins s) (λ l p. Begins s)

past_more : {s s' : State} {e : End} → Begins s s' → Past s' e → Past s e
past_more b (at_done s₁ c) = at_done s₁ (begins_then b c)
past_more b (at_limit l p s₁ c) = at_limit l p s₁ (begins_then b c)
past_more b at_stuck = at_stuck

past_then : {s : State} {e : End} (next : State → End) → Past s e → ((s₁ : State) → Past s₁ (next s₁)) → Past s (and_then e next)
past_then next h k = then_leaves next h (λ s₁ b. past_more b (k s₁))

further_begins : {i : Input} {fuel room fuel' room' p : ℕ} {s s₁ : State} {l : Limit} → Further i fuel room fuel' room' p s l s₁ → Begins s s₁
further_begins {s} (counts d q env at a b) = begins_counted s
further_begins {s} (writes d q env x at w a b) = begins_written s x

-- who has at least as much does not stop first
not_less : {i : Input} {fuel room fuel' room' p : ℕ} {s s₁ : State} {l : Limit} → fuel' ≤ fuel → room' ≤ room
    → Further i fuel room fuel' room' p s l s₁ → ⊥
not_less f r (counts d q env at a b) = omega arith
not_less f r (writes d q env x at w a b) = omega arith

module _ (i : Input) (fuel room : ℕ) where
  -- Both walks come to the same end; or the one has stopped, and the other goes further.
  data Line : End → End → Type 0 where
    alike : (e : End) → Line e e
    first_stops : (l : Limit) (p : ℕ) (s s₁ : State) (e : End) → Further i i.fuel i.room fuel room p s l s₁ → Past s₁ e → Line (ended l p s) e
    second_stops : (l : Limit) (p : ℕ) (s s₁ : State) (e : End) → Further i fuel room i.fuel i.room p s l s₁ → Past s₁ e → Line e (ended l p s)

  record OnLine (s : State) (e e' : End) : Type 0 where
    line : Line e e'
    first_past : Past s e
    second_past : Past s e'

  then_line : {e e' : End} (next next' : State → End) → Line e e' → ((s : State) → OnLine s (next s) (next' s)) → Line (and_then e next) (and_then e' next')
  unfolding and_then
  then_line next next' (alike (done s)) k = (k s).line
  then_line next next' (alike (ended l p s)) k = alike _
  then_line next next' (alike stuck) k = alike _
  then_line next next' (first_stops l p s s₁ e f b) k = first_stops l p s s₁ _ f (past_then next' b (λ s₂. (k s₂).second_past))
  then_line next next' (second_stops l p s s₁ e f b) k = second_stops l p s s₁ _ f (past_then next b (λ s₂. (k s₂).first_past))

  write_past : (room p : ℕ) (x : List ℕ) (s : State) → Past s (write room p x s)
  write_past room p x s = write_leaves room p x s (λ fits. begins_written s x) (λ past. begins_itself s)

  write_line : {d p : ℕ} {a : Asked} {env : List ℕ} (x : List ℕ) → LevelsOf i d a p env → WritesOf i a p env x → (s : State) → Line (write i.room p x s) (write room p x s)
  unfolding write
  write_line {d} {p} {a} {env} x at w s = go (leb (length s.text + length x) i.room) (leb (length s.text + length x) room) refl refl
    where
      go : (b b' : Bool) → leb (length s.text + length x) i.room ≡ b → leb (length s.text + length x) room ≡ b'
          → Line (cond b (done (written s x)) (ended output_full p s)) (cond b' (done (written s x)) (ended output_full p s))
      go true true e e' = alike _
      go true false e e' =
          second_stops output_full p s _ _ (writes d a env x at w (leb-false _ _ e') (leb-true _ _ e)) (at_done _ (begins_itself (written s x)))
      go false true e e' =
          first_stops output_full p s _ _ (writes d a env x at w (leb-false _ _ e) (leb-true _ _ e')) (at_done _ (begins_itself (written s x)))
      go false false e e' = alike _

  reached_past : (fuel p : ℕ) (next : State → End) → ((s : State) → Past s (next s)) → (s : State) → Past s (reached (ltb s.steps fuel) p next s)
  reached_past fuel p next k s = reached_leaves fuel p next s (λ left. past_more (begins_counted s) (k (counted s))) (λ used. begins_itself s)

  reached_line : {d p : ℕ} {a : Asked} {env : List ℕ} (next next' : State → End) → LevelsOf i d a p env → ((s : State) → OnLine s (next s) (next' s)) → (s : State)
      → Line (reached (ltb s.steps i.fuel) p next s) (reached (ltb s.steps fuel) p next' s)
  unfolding reached
  reached_line {d} {p} {a} {env} next next' at k s = go (ltb s.steps i.fuel) (ltb s.steps fuel) refl refl
    where
      go : (b b' : Bool) → ltb s.steps i.fuel ≡ b → ltb s.steps fuel ≡ b' → Line (reached b p next s) (reached b' p next' s)
      go true true e e' = (k (counted s)).line
      go true false e e' = second_stops fuel_spent p s _ _ (counts d a env at (ltb-false _ _ e') (ltb-true _ _ e)) (k (counted s)).first_past
      go false true e e' = first_stops fuel_spent p s _ _ (counts d a env at (ltb-false _ _ e) (ltb-true _ _ e')) (k (counted s)).second_past
      go false false e e' = alike _

  line_kept : InStep i fuel room OnLine
  line_kept = record {
    nothing = λ s. record { line = alike _; first_past = at_done s (begins_itself s); second_past = at_done s (begins_itself s) };
    no_way = λ s. record { line = alike _; first_past = at_stuck; second_past = at_stuck };
    one_then = λ next next' h k. record {
      line = then_line next next' h.line k;
      first_past = past_then next h.first_past (λ s₁. (k s₁).first_past);
      second_past = past_then next' h.second_past (λ s₁. (k s₁).second_past);
    };
    writing = λ {d} {p} x at shallow piece s.
        record { line = write_line x at piece s; first_past = write_past i.room p x s; second_past = write_past room p x s };
    reaching = λ {d} {p} next next' at shallow k s. record {
      line = reached_line next next' at k s;
      first_past = reached_past i.fuel p next (λ s₁. (k s₁).first_past) s;
      second_past = reached_past fuel p next' (λ s₁. (k s₁).second_past) s;
    };
    deep = λ {p} at s. let h = at_limit too_deep p s (begins_itself s) in record { line = alike _; first_past = h; second_past = h };
  }

  walks_line : Line (walk i) (walk (limited_by i fuel room))
  walks_line = (walk_both i fuel room OnLine line_kept).line

past_begins : {s s' : State} {e : End} → Past s e → StateOf s' e → Begins s s'
past_begins {s = s} at_stuck x3 = elim x3 [ ]
past_begins (at_done s b) when_done = b
past_begins (at_limit l p s b) (when_ended l' p') = b

same_end : {s s' : State} {e : End} → StateOf s e → StateOf s' e → Begins s s'
same_end {s} when_done when_done = begins_itself s
same_end {s} (when_ended l p) (when_ended l' p') = begins_itself s

module _ {i : Input} {fuel room : ℕ} where
  line_begins : {s s' : State} {e e' : End} → Line i fuel room e e' → StateOf s e → StateOf s' e' → Begins s s' ⊎ Begins s' s
  line_begins (alike e) a b = inl (same_end a b)
  line_begins (first_stops l p s s₁ e f h) (when_ended l' p') b = inl (begins_then (further_begins f) (past_begins h b))
  line_begins (second_stops l p s s₁ e f h) a (when_ended l' p') = inr (begins_then (further_begins f) (past_begins h a))

  line_finishes : {s : State} {e' : End} → i.fuel ≤ fuel → i.room ≤ room → Line i fuel room (done s) e' → e' ≡ done s
  line_finishes f r (alike e) = refl
  line_finishes f r (second_stops l p s s₁ e less h) = absurd (not_less f r less)

  line_further : {l : Limit} {p : ℕ} {s : State} {e' : End} → i.fuel ≤ fuel → i.room ≤ room → Line i fuel room (ended l p s) e' → Onward i fuel room l p s e'
  line_further f r (alike e) = ends_alike
  line_further f r (first_stops l p s s₁ e more h) = goes_on s₁ e more (λ s' b. past_begins h b)
  line_further f r (second_stops l p s s₁ e less h) = absurd (not_less f r less)

pub one_line : (i : Input) (fuel room : ℕ) → OneLine i fuel room
one_line i fuel room = record {
  one_begins = λ s s' a b. line_begins (walks_line i fuel room) a b;
  finishes_alike = λ f r s e. line_finishes f r (from_first e);
  goes_further = λ f r l p s e. line_further f r (from_first e);
}
  where
    from_first : {e : End} → walk i ≡ e → Line i fuel room e (walk (limited_by i fuel room))
    from_first h = subst (λ (x : End). Line i fuel room x (walk (limited_by i fuel room))) h (walks_line i fuel room)
