-- Laws of a node and of what stands below it, in step with the code. Assumes nothing.
use Prim.Native.Nat.{ℕ, ◌+◌, ◌-◌, ◌*◌, ◌≤◌, ◌<◌}
use mathlib.Core.Path.{◌≡◌, refl, sym, ap, ◌∙◌}
use mathlib.Core.List.{List, [], ◌∷◌, ◌++◌, append-nil}
use mathlib.Core.Bool.{false}
use mathlib.Core.Option.{Option, none, some, some-ne-none, none-ne-some}
use native.Mathlib.Omega.{arith}
use native.Mathlib.Nat.{add-zero}
use lib.ListN.{length, get_or, take, set, length-set}
use lib.Seq.{length-take-le, take-append-le, take-take}
use Rattle.std.specs.Prelude.{Result, Ok, Err}
use Rattle.rules.specs.Faults.{every}
use Rattle.rules.specs.Records.{field_b, field_c}
use Rattle.rules.specs.Templates.{form_of}
use Rattle.rules.specs.Typing.{Site, site, suits, suits_form, sites_below, misfit}
use Rattle.rules.specs.declared.Position.{Position}
use Rattle.laws.specs.Faults.{every_next, every_stop, every_end, tree_deep, tree_wrong, tree_right}
use Rattle.typing.specs.Answers.{site_of, row_of, position_in, entry_of, brings_of, brought, bindings, site_in, sites_in, Bound, FrameIn, Suited, judged, Offence, offence, Checked}
use Rattle.typing.specs.Asked.{position_at}
use Rattle.typing.specs.Asks.{FrameReady, RowLimits, RowReady, Scope}
use Rattle.typing.specs.declared.Below.{Below}
use Rattle.typing.specs.declared.Frame.{Frame}
use Rattle.typing.specs.declared.Brings.{Brings}
use Rattle.typing.specs.declared.Brings.TheVariants.{Nothing, Item, Contents}
use Rattle.typing.specs.declared.Positions.{Positions}
use Rattle.typing.specs.declared.Positions.TheVariants.{Alike, Asked}
use Rattle.typing.specs.declared.Misfit.{Misfit}
use Rattle.typing.proofs.AnswerLaws.{fine, wrong, one_more}
use Rattle.typing.proofs.LimitLaws.{limits_start, row_ready, row_next, row_room}
use Rattle.typing.proofs.RowLaws.{turns_start, turns_done, turns_more}

-- what offends, with its position

offence_none : (o : Option Site) → offence o ≡ none → o ≡ none
unfolding offence
offence_none none e = refl
offence_none (some x) e = absurd (some-ne-none _ e)

offence_some : (o : Option Site) (q : Offence) → offence o ≡ some q → (x : Site) × (o ≡ some x)
unfolding offence
offence_some none q e = absurd (none-ne-some q e)
offence_some (some x) q e = (x, refl)

-- a node

module _ (g t : List ℕ) (left : ℕ) (x : Site) where
  pub misfit_deep : left ≡ 0 → some (x.node, x.position) ≡ offence (misfit g t left x)
  unfolding misfit offence
  misfit_deep h = ap offence (sym (tree_deep (suits g t) (sites_below g t) left x h))

  module _ (deep : left ≡ 0 → ⊥) where
    pub misfit_own : suits_form g t (form_of t x.node) x ≡ false → some (x.node, x.position) ≡ offence (misfit g t left x)
    unfolding misfit suits offence
    misfit_own h = ap offence (sym (tree_wrong (suits g t) (sites_below g t) left x (omega (arith, deep)) h))

    pub misfit_below : {asked : List ℕ} {b : Below} → Suited g t asked x (form_of t x.node) b
        → every (misfit g t (left - 1)) (sites_in g t asked x.vars b) ≡ misfit g t left x
    unfolding misfit suits sites_below
    misfit_below s = sym (tree_right (suits g t) (sites_below g t) left x (omega (arith, deep)) s.own ∙ rw s.sites_are)

-- what is bound

as_many : (t : List ℕ) (brings : Brings) (i : ℕ) → length (bindings t brings i) ≡ brought brings
unfolding bindings brought
as_many t Nothing i = refl
as_many t (Item ty) i = refl
as_many t (Contents h) i = refl

bound_one : (scope : List ℕ) (count ty : ℕ) → Scope scope (count + 1) → Bound scope count (ty ∷ []) (set scope count ty) (count + 1)
bound_one scope count ty s = record {
  count_is = refl;
  vars_are = one_more scope count ty (omega (arith, s.few, s.full));
  full = rw length-set s.full;
}

bound_none : (scope : List ℕ) (count : ℕ) → length scope ≡ 24 → Bound scope count [] scope count
bound_none scope count full = record { count_is = sym (add-zero count); vars_are = sym (append-nil (take count scope)); full = full }

module _ (scope : List ℕ) (count : ℕ) (brings : Brings) (s : Scope scope (count + brought brings)) where
  item_scope : {ty : ℕ} → brings ≡ Item ty → Scope scope (count + 1)
  unfolding brought
  item_scope e = rw e at s

  content_scope : {h : ℕ} → brings ≡ Contents h → Scope scope (count + 1)
  unfolding brought
  content_scope e = rw e at s

  pub item_room : {ty : ℕ} → brings ≡ Item ty → count < 24
  item_room e = omega (arith, (item_scope e).few)

  pub content_room : {h : ℕ} → brings ≡ Contents h → count < 24
  content_room e = omega (arith, (content_scope e).few)

module _ (t scope : List ℕ) (count : ℕ) (brings : Brings) (i : ℕ) (s : Scope scope (count + brought brings)) where
  pub bound_item : {ty : ℕ} → brings ≡ Item ty → Bound scope count (bindings t brings i) (set scope count ty) (count + 1)
  unfolding bindings
  bound_item {ty} e = rw e (bound_one scope count ty (item_scope scope count brings s e))

  pub bound_content : {h b : ℕ} → brings ≡ Contents h → b ≡ field_b t (h + 1 + i) → Bound scope count (bindings t brings i) (set scope count b) (count + 1)
  unfolding bindings
  bound_content {h} {b} e k = rw (e, ← k) (bound_one scope count b (content_scope scope count brings s e))

  pub bound_nothing : brings ≡ Nothing → Bound scope count (bindings t brings i) scope count
  unfolding bindings
  bound_nothing e = rw e (bound_none scope count s.full)

-- the frame of node i of a row

pub entry_asked : {positions : Positions} (i : ℕ) {q : ℕ} → positions ≡ Asked q → entry_of positions i ≡ q + 1 + i
unfolding entry_of
entry_asked i e = rw e

pub alike_room : {scope : List ℕ} (count : ℕ) {positions : Positions} {position : Position} {brings : Brings} → positions ≡ Alike position brings
    → Scope scope (count + brought (brings_of positions)) → Scope scope (count + brought brings)
unfolding brings_of
alike_room count e s = rw e at s

module _ (g t asked : List ℕ) {scope : List ℕ} {count : ℕ} {positions : Positions} (at i : ℕ) where
  pub frame_alike : {position : Position} {brings : Brings} → positions ≡ Alike position brings → {scope' : List ℕ} {seen : ℕ} → Bound scope count (bindings t brings i) scope' seen
      → FrameIn g t asked scope count positions at i scope' (record { node = at; position = position; count = seen })
  unfolding position_in brings_of
  frame_alike e b = record { node_is = refl; position_is = sym (rw e); bound = rw e b }

  pub frame_asked : {q : ℕ} → positions ≡ Asked q → {position : Position} → position ≡ position_at g (get_or asked (q + 1 + i) 0) → length scope ≡ 24
      → FrameIn g t asked scope count positions at i scope (record { node = at; position = position; count = count })
  unfolding position_in brings_of bindings
  frame_asked e h full = record { node_is = refl; position_is = h ∙ sym (rw e); bound = rw e (bound_none scope count full) }

-- its own variables are as they were, whatever was bound behind them
kept_back : (scope scope' : List ℕ) (n count : ℕ) (bs : List ℕ) → n ≤ length scope → count ≡ n + length bs → take count scope' ≡ take n scope ++ bs → take n scope' ≡ take n scope
kept_back scope scope' n count bs l e k =
    sym (take-take n count scope' (omega (arith, e)))
    ∙ ap (take n) k
    ∙ take-append-le n (take n scope) bs (omega (arith, length-take-le n scope l))
    ∙ take-take n n scope (omega arith)

-- the check of a row, turn by turn: the first `count` numbers of `scope` are as they were when it began

pub record Turn (g t asked : List ℕ) (left : ℕ) (b : Below) (count : ℕ) (scope₀ scope : List ℕ) (i at : ℕ) : Type 0 where
  pub here : at ≤ b.first + i * 65535
  pub kept : take count scope ≡ take count scope₀
  pub full : length scope ≡ 24
  pub limits : RowLimits left t (count + brought (brings_of b.positions)) (b.count - i) at
  pub rest : every (misfit g t left) (row_of (site_in g t asked (take count scope₀) b.positions) (field_c t) (b.count - i) i at)
      ≡ every (misfit g t left) (sites_in g t asked (take count scope₀) b)

pub turn_start : (g t asked : List ℕ) {left : ℕ} {b : Below} {count : ℕ} {scope : List ℕ} → RowReady left t b count → length scope ≡ 24 → Turn g t asked left b count scope scope 0 b.first
turn_start g t asked {left} R full = record {
  here = omega arith;
  kept = refl;
  full = full;
  limits = limits_start R.limits;
  rest = turns_start _ _ (every (misfit g t left)) _ _;
}

module _ {g t asked : List ℕ} {left : ℕ} {b : Below} {count : ℕ} {scope₀ scope : List ℕ} {i at : ℕ} (T : Turn g t asked left b count scope₀ scope i at) where
  pub turn_end : b.count ≤ i → Checked (every (misfit g t left) (sites_in g t asked (take count scope₀) b)) count scope₀ scope (Ok tt)
  unfolding offence
  turn_end h = record { says = ap offence (every_end _ T.rest (turns_done _ _ _ _ _ h)); kept = T.kept; full = T.full }

  pub turn_room : i < b.count → Scope scope (count + brought (brings_of b.positions))
  turn_room more = record { full = T.full; few = row_room more T.limits }

  module _ (more : i < b.count) {scope₁ : List ℕ} {f : Frame} (framed : FrameIn g t asked scope count b.positions at i scope₁ f) where
    seen_is : f.count ≡ count + brought (brings_of b.positions)
    seen_is = framed.bound.count_is ∙ ap (λ (n : ℕ). count + n) (as_many t (brings_of b.positions) i)

    pub turn_ready : RowReady left t b count → FrameReady left t f
    turn_ready R = row_ready more T.limits framed.node_is seen_is (omega (arith, R.near, T.here, more))

    module _ {scope' : List ℕ} (one : Result Unit Misfit) (checked : Checked (misfit g t left (site_of scope₁ f)) f.count scope₁ scope' one) where
      vars_here : take f.count scope₁ ≡ take count scope₀ ++ bindings t (brings_of b.positions) i
      vars_here = framed.bound.vars_are ∙ ap (λ (vars : List ℕ). vars ++ bindings t (brings_of b.positions) i) T.kept

      checked_here : judged one ≡ offence (misfit g t left (site_in g t asked (take count scope₀) b.positions i at))
      unfolding site_in site
      checked_here = checked.says ∙ rw (framed.node_is, framed.position_is, vars_here)

      kept_here : take count scope' ≡ take count scope₀
      kept_here =
          kept_back scope scope' count f.count _ (let r = turn_room more in omega (arith, r.few, r.full)) framed.bound.count_is (checked.kept ∙ framed.bound.vars_are) ∙ T.kept

      pub turn_stop : {m : Misfit} → one ≡ Err m → Checked (every (misfit g t left) (sites_in g t asked (take count scope₀) b)) count scope₀ scope' (Err m)
      turn_stop h =
          let w = wrong checked_here h in
          let x = offence_some _ _ w in
          record {
            says = sym w ∙ ap offence (x.1 ∙ every_stop _ T.rest (turns_more _ _ _ _ _ more _ refl) x.1);
            kept = kept_here;
            full = checked.full;
          }

      pub turn_next : {u : Unit} → one ≡ Ok u → (c : ℕ) → c ≡ field_c t f.node → c < 65536 → Turn g t asked left b count scope₀ scope' (i + 1) (at + c)
      turn_next h c e small = let size : c ≡ field_c t at = e ∙ ap (field_c t) framed.node_is in record {
        here = omega (arith, T.here, small);
        kept = kept_here;
        full = checked.full;
        limits = row_next more T.limits c size;
        rest = every_next _ T.rest (turns_more _ _ _ _ _ more c size) (offence_none _ (fine checked_here h));
      }

-- the check of a node

pub checked_own : {o : Option Site} {count : ℕ} {scope : List ℕ} (r : Result Unit Misfit) → length scope ≡ 24 → judged r ≡ offence o → Checked o count scope scope r
checked_own r full e = record { says = e; kept = refl; full = full }

pub checked_below : (g t asked : List ℕ) {left : ℕ} {f : Frame} {scope scope' : List ℕ} {b : Below} {r : Result Unit Misfit} → (left ≡ 0 → ⊥)
    → Suited g t asked (site_of scope f) (form_of t f.node) b
    → Checked (every (misfit g t (left - 1)) (sites_in g t asked (take f.count scope) b)) f.count scope scope' r
    → Checked (misfit g t left (site_of scope f)) f.count scope scope' r
checked_below g t asked {left} {f} {scope} deep s c = record {
  says = c.says ∙ ap offence (misfit_below g t left (site_of scope f) deep s);
  kept = c.kept;
  full = c.full;
}
