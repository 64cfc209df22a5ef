-- Laws of runs: the ends that they stand for, what a write leaves, what grows, and loops of visits. Assumes nothing.
use Prim.Native.Nat.{ℕ, ◌+◌, ◌-◌, ◌≤◌, ◌<◌}
use mathlib.Core.Path.{◌≡◌, refl, sym, ap, ◌∙◌}
use mathlib.Core.List.{List, ◌++◌, append_assoc}
use mathlib.Core.Bool.{Bool, true, false, cond}
use native.Mathlib.Omega.{arith}
use native.Mathlib.Nat.{le_refl, le_trans}
use lib.ListN.{length, take, drop, length-append, length-take, length-drop, take-append-drop}
use lib.Seq.{take_at, drop_at, drop-drop, length-take-le}
use lib.Dec.{eqb, ltb}
use borrow.Author.Tests.{eq-eqb, ne_eqb, le-leb, lt-leb, ltb-true, ltb-false}
use borrow.Rule.Slice.PartMut.{put_mid}
use Rattle.rules.specs.Walk.{State, fuel_spent, too_deep, output_full, End, done, ended, stuck, and_then, write}
use Rattle.stream.specs.Text.{with_text, Copied}
use Rattle.stream.proofs.TextCopyLaws.{lent_rest}
use Rattle.walk.specs.declared.at.At.{At}
use Rattle.walk.specs.declared.state.Progress.{Progress}
use Rattle.walk.specs.declared.state.Run.{Run}
use Rattle.walk.specs.declared.state.Why.{Why}
use Rattle.walk.specs.declared.state.Why.TheVariants.{FuelSpent, TooDeep, OutputFull, Stuck}
use Rattle.walk.specs.Run.{number_of, going_of, state_of, run_of, end_numbered, view, Grown, Ran, Visited, RanFrom, VisitedFrom}
use Rattle.walk.specs.Nodes.{progress_at, after_at, ended_at, write_at, written_at}

-- the ends that runs stand for

pub view_going : (r : Run) (out : List ℕ) → r.number ≡ 0 → view r out ≡ done (state_of r.steps r.bytes out)
unfolding view end_numbered
view_going r out e = rw (eq-eqb _ _ e)

numbered_ends : (n p : ℕ) (s : State) (next : State → End) → (n ≡ 0 → ⊥) → and_then (end_numbered n p s) next ≡ end_numbered n p s
unfolding end_numbered and_then
numbered_ends n p s next h = rw (ne_eqb n 0 h) (go (eqb n 10) (eqb n 11) (eqb n 12))
  where
    go : (a b c : Bool)
        → and_then (cond a (ended fuel_spent p s) (cond b (ended too_deep p s) (cond c (ended output_full p s) stuck))) next
        ≡ cond a (ended fuel_spent p s) (cond b (ended too_deep p s) (cond c (ended output_full p s) stuck))
    go true b c = refl
    go false true c = refl
    go false false true = refl
    go false false false = refl

pub view_ends : (r : Run) (out : List ℕ) (next : State → End) → (r.number ≡ 0 → ⊥) → and_then (view r out) next ≡ view r out
unfolding view
view_ends r out next h = numbered_ends r.number r.place _ next h

-- what grows

drop_more : (m n : ℕ) (a b : List ℕ) → m ≤ n → drop m a ≡ drop m b → drop n a ≡ drop n b
drop_more m n a b h e =
    let k : n ≡ m + (n - m) = omega arith in
    ap (λ (j : ℕ). drop j a) k ∙ sym (drop-drop (n - m) m a) ∙ ap (drop (n - m)) e ∙ drop-drop (n - m) m b ∙ ap (λ (j : ℕ). drop j b) (sym k)

-- first to r, and from there to u
grown_more : (steps bytes : ℕ) (r u : Run) (a b d : List ℕ) → length b ≡ length a → Grown steps bytes r a b → Grown r.steps r.bytes u b d → Grown steps bytes u a d
grown_more steps bytes r u a b d e g h = record {
  steps_grow = le_trans g.steps_grow h.steps_grow;
  bytes_grow = le_trans g.bytes_grow h.bytes_grow;
  inside = omega (arith, h.inside);
  rest = h.rest ∙ drop_more r.bytes u.bytes b a h.bytes_grow g.rest;
}

-- the same end under another name
pub ran_is : {A B : End} {steps bytes : ℕ} {r : Run} {out out' : List ℕ} → A ≡ B → Ran A steps bytes r out out' → Ran B steps bytes r out out'
ran_is e g = record { meets = g.meets ∙ e; grown = g.grown }

pub visited_is : {A B : End} {steps bytes : ℕ} {r : Run} {out out' : List ℕ} {keep : ℕ} {s s' : List ℕ} → A ≡ B → Visited A steps bytes r out out' keep s s' → Visited B steps bytes r out out' keep s s'
visited_is e g = record { ran = ran_is e g.ran; kept = g.kept }

pub visited_ran : {e : End} {steps bytes : ℕ} {r : Run} {out out' : List ℕ} (keep : ℕ) (s : List ℕ) → Ran e steps bytes r out out' → Visited e steps bytes r out out' keep s s
visited_ran keep s g = record { ran = g; kept = refl }

-- a run that ends where it is
pub ran_ended : (number : ℕ) (at : At) (steps : ℕ) {r : Run} {out : List ℕ} {e : End} → at.bytes ≤ length out → steps ≤ at.steps → r ≡ ended_at number at
    → end_numbered number at.node (state_of at.steps at.bytes out) ≡ e → Ran e steps at.bytes r out out
unfolding view
ran_ended number at steps b h w e =
    rw w (record { meets = e; grown = record { steps_grow = h; bytes_grow = le_refl _; inside = b; rest = refl } })

pub ran_stuck : (at : At) {r : Run} {out : List ℕ} {e : End} → at.bytes ≤ length out → r ≡ ended_at 99 at → e ≡ stuck → RanFrom e at r out out
unfolding end_numbered
ran_stuck at b w e = ran_ended 99 at at.steps b (le_refl _) w (sym e)

pub visited_stuck : (at : At) {r : Run} {out s : List ℕ} {e : End} → at.bytes ≤ length out → r ≡ ended_at 99 at → e ≡ stuck → VisitedFrom e at r out out s s
visited_stuck at {s = s} b w e = visited_ran _ s (ran_stuck at b w e)

-- what is shown from one step more
pub ran_counted : {e : End} {steps bytes : ℕ} {r : Run} {out out' : List ℕ} → Ran e (steps + 1) bytes r out out' → Ran e steps bytes r out out'
ran_counted g = record { meets = g.meets; grown = record { steps_grow = omega (arith, g.grown.steps_grow); bytes_grow = g.grown.bytes_grow; inside = g.grown.inside; rest = g.grown.rest } }

pub visited_counted : {e : End} {steps bytes : ℕ} {r : Run} {out out' : List ℕ} {keep : ℕ} {s s' : List ℕ} → Visited e (steps + 1) bytes r out out' keep s s' → Visited e steps bytes r out out' keep s s'
visited_counted g = record { ran = ran_counted g.ran; kept = g.kept }

-- a text put into the output after its first b bytes

module _ (out x : List ℕ) (b : ℕ) (fits : b + length x ≤ length out) where
  put_length : length (take b out ++ x) ≡ b + length x
  put_length = simp (length-append, length-take) (omega arith)

  put_take : take (b + length x) (take b out ++ (x ++ drop (b + length x) out)) ≡ take b out ++ x
  put_take = rw (← append_assoc (take b out) x _) (take_at (take b out ++ x) (drop (b + length x) out) (b + length x) put_length)

  put_drop : drop (b + length x) (take b out ++ (x ++ drop (b + length x) out)) ≡ drop (b + length x) out
  put_drop = rw (← append_assoc (take b out) x _) (drop_at (take b out ++ x) (drop (b + length x) out) (b + length x) put_length)

-- what a write leaves, whose text was copied to the beginning of what is left of the output, if it fits there

module _ (x out last : List ℕ) (at : At) (bytes n : ℕ) {text : List ℕ} (same : text ≡ x) (is : bytes ≡ at.bytes) (room : at.bytes ≤ length out)
    (copied : Copied text (take (length out - bytes) (drop bytes out)) last n) where
  c : Copied x (take (length out - bytes) (drop bytes out)) last n
  c = rw same at copied

  longer : length (take bytes out) + length x ≡ bytes + n
  longer = rw (length-take-le bytes out (omega arith), ← c.long)

  put_none : length out - bytes < n → put_mid bytes (length out - bytes) out last ≡ out
  unfolding with_text
  put_none h =
      let l : length (drop bytes out) < length x = simp length-drop (omega (arith, c.long)) in
      lent_rest x out last bytes n c ∙ rw (lt-leb (length x) (length (drop bytes out)) l) (take-append-drop bytes out)

  put_whole : n ≤ length out - bytes → put_mid bytes (length out - bytes) out last ≡ take bytes out ++ (x ++ drop (bytes + length x) out)
  unfolding with_text
  put_whole h =
      let l : length x ≤ length (drop bytes out) = simp length-drop (omega (arith, c.long)) in
      lent_rest x out last bytes n c ∙ rw (le-leb (length x) (length (drop bytes out)) l, drop-drop)

  pub wrote_none : length out - bytes < n → (r : Run) → r ≡ ended_at 12 at → RanFrom (write_at at x out) at r out (put_mid bytes (length out - bytes) out last)
  unfolding write end_numbered
  wrote_none h r w =
      let l : length out < length (take at.bytes out) + length x = rw (← is) (omega (arith, longer)) in
      rw (put_none h, lt-leb _ _ l) (ran_ended 12 at at.steps room (le_refl _) w refl)

  pub wrote_whole : n ≤ length out - bytes → (r : Run) → r ≡ run_of 0 0 at.steps (bytes + n) → RanFrom (write_at at x out) at r out (put_mid bytes (length out - bytes) out last)
  unfolding write view end_numbered
  wrote_whole h r w =
      let l : length (take bytes out) + length x ≤ length out = omega (arith, longer) in
      let f : bytes + length x ≤ length out = omega (arith, c.long) in
      let e : bytes + n ≡ bytes + length x = ap (λ (m : ℕ). bytes + m) c.long in
      rw (put_whole h, ← is, le-leb _ _ l, w, e) (record {
        meets = ap (λ (y : List ℕ). done (record { steps = at.steps; text = y })) (put_take out x bytes f);
        grown = record { steps_grow = le_refl _; bytes_grow = omega arith; inside = f; rest = put_drop out x bytes f };
      })

  -- either way
  pub wrote : (r : Run) → r ≡ written_at at (length out - bytes) n → RanFrom (write_at at x out) at r out (put_mid bytes (length out - bytes) out last)
  unfolding written_at
  wrote r w = go (ltb (length out - bytes) n) refl w
    where
      go : (b : Bool) → ltb (length out - bytes) n ≡ b → r ≡ cond b (ended_at 12 at) (run_of 0 0 at.steps (at.bytes + n))
          → RanFrom (write_at at x out) at r out (put_mid bytes (length out - bytes) out last)
      go true e w = wrote_none (ltb-true _ _ e) r w
      go false e w = wrote_whole (ltb-false _ _ e) r (w ∙ ap (λ (m : ℕ). run_of 0 0 at.steps (m + n)) (sym is))

-- loops of visits: what is left to do from here on comes to the whole's end

pub record Going (rest : State → End) (whole : End) (at : At) (out₀ s₀ : List ℕ) (r : Run) (out s : List ℕ) : Type 0 where
  pub goes : r.number ≡ 0
  pub same : rest (state_of r.steps r.bytes out) ≡ whole
  pub grown : Grown at.steps at.bytes r out₀ out
  pub kept : take (at.frame.base + at.frame.vars) s ≡ take (at.frame.base + at.frame.vars) s₀
  pub len : length out ≡ length out₀
  pub lens : length s ≡ length s₀

module _ {rest : State → End} {whole : End} {at : At} {out₀ s₀ : List ℕ} where
  pub going_start : {r : Run} → r ≡ ended_at 0 at → at.bytes ≤ length out₀ → rest (state_of at.steps at.bytes out₀) ≡ whole → Going rest whole at out₀ s₀ r out₀ s₀
  going_start w b e = rw w (record {
    goes = refl;
    same = e;
    grown = record { steps_grow = le_refl _; bytes_grow = le_refl _; inside = b; rest = refl };
    kept = refl;
    len = refl;
    lens = refl;
  })

  module _ {r : Run} {out s : List ℕ} (inv : Going rest whole at out₀ s₀ r out s) where
    pub going_end : ((x : State) → rest x ≡ done x) → VisitedFrom whole at r out₀ out s₀ s
    going_end d = record {
      ran = record { meets = view_going r out inv.goes ∙ sym (d _) ∙ inv.same; grown = inv.grown };
      kept = inv.kept;
    }

    module _ {e : End} (next : State → End) (more : rest (state_of r.steps r.bytes out) ≡ and_then e next) {u : Run} {out' s' : List ℕ}
        (v : Visited e r.steps r.bytes u out out' (at.frame.base + at.frame.vars) s s') (len' : length out' ≡ length out) where
      pub going_stop : (u.number ≡ 0 → ⊥) → VisitedFrom whole at u out₀ out' s₀ s'
      going_stop z = record {
        ran = record {
          meets = sym (view_ends u out' next z) ∙ ap (λ (x : End). and_then x next) v.ran.meets ∙ sym more ∙ inv.same;
          grown = grown_more at.steps at.bytes r u out₀ out out' inv.len inv.grown v.ran.grown;
        };
        kept = v.kept ∙ inv.kept;
      }

      pub going_next : u.number ≡ 0 → length s' ≡ length s → Going next whole at out₀ s₀ u out' s'
      unfolding and_then
      going_next z lens' = record {
        goes = z;
        same = ap (λ (x : End). and_then x next) (sym (view_going u out' z) ∙ v.ran.meets) ∙ sym more ∙ inv.same;
        grown = grown_more at.steps at.bytes r u out₀ out out' inv.len inv.grown v.ran.grown;
        kept = v.kept ∙ inv.kept;
        len = len' ∙ inv.len;
        lens = lens' ∙ inv.lens;
      }

-- the node after a run that goes on, which stands for the run from there on: a loop that carries it carries no run

pub after_after : (at here : At) (u : Run) {there : At} → here ≡ after_at at (ended_at 0 here) → there ≡ after_at here u → there ≡ after_at at (ended_at 0 there)
after_after at here u e₁ e₂ = rw e₂ (ap (λ (y : At). after_at y u) e₁)

pub ran_there : {e : End} {steps bytes : ℕ} (here : At) {u : Run} {out out' : List ℕ} → Ran e steps bytes u out out' → u.number ≡ 0 → {there : At} → there ≡ after_at here u
    → Ran e steps bytes (ended_at 0 there) out out'
unfolding view end_numbered
ran_there here {u} {out} {out'} v z e = rw e (record {
  meets = sym (view_going u out' z) ∙ v.meets;
  grown = record { steps_grow = v.grown.steps_grow; bytes_grow = v.grown.bytes_grow; inside = v.grown.inside; rest = v.grown.rest };
})

pub going_there : {rest : State → End} {whole : End} {at : At} {out₀ s₀ : List ℕ} (here : At) {u : Run} {out s : List ℕ} → Going rest whole at out₀ s₀ u out s → {there : At} → there ≡ after_at here u
    → Going rest whole at out₀ s₀ (ended_at 0 there) out s
going_there here g e = rw e (record {
  goes = refl;
  same = g.same;
  grown = record { steps_grow = g.grown.steps_grow; bytes_grow = g.grown.bytes_grow; inside = g.grown.inside; rest = g.grown.rest };
  kept = g.kept;
  len = g.len;
  lens = g.lens;
})

-- a run that goes on from a node stands for its progress, whatever its place
pub ended_going : {e : End} {steps bytes : ℕ} (here : At) {p : Progress} {out out' : List ℕ} {keep : ℕ} {s s' : List ℕ} → p ≡ progress_at here
    → Visited e steps bytes (ended_at 0 here) out out' keep s s' → Visited e steps bytes (going_of p) out out' keep s s'
unfolding view end_numbered
ended_going here w v = rw w (record {
  ran = record {
    meets = v.ran.meets;
    grown = record { steps_grow = v.ran.grown.steps_grow; bytes_grow = v.ran.grown.bytes_grow; inside = v.ran.grown.inside; rest = v.ran.grown.rest };
  };
  kept = v.kept;
})

-- what stops a run has a number that says so
pub stops : (why : Why) → number_of why ≡ 0 → ⊥
stops FuelSpent z = omega arith
stops TooDeep z = omega arith
stops OutputFull z = omega arith
stops Stuck z = omega arith
