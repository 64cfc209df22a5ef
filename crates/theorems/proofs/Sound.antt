-- Soundness: where the typing finds no fault and the value is of its declared type, the walk is never stuck, and a finished text is derived.
-- Goes on from specs/Sound.antt: what rests on definitions that a must-fail edit changes.
use Rattle.std.specs.Prelude.{◌≡◌, refl, Bool, true, false, cond}
use Rattle.std.proofs.Common.{sym, add-zero}
use Prim.Native.Nat.{ℕ, zero, suc, ◌+◌}
use mathlib.Core.List.{List, [], ◌∷◌, ◌++◌, append_assoc, append-nil}
use Rattle.std.proofs.Math.Option.{some}
use native.Mathlib.Omega.{arith}
use Rattle.std.proofs.Math.ListN.{length}
use Rattle.rules.specs.Faults.{on_found}
use Rattle.rules.specs.Records.{field_b}
use Rattle.rules.specs.Grammar.{Element, lexeme, nonterminal}
use Rattle.rules.specs.Templates.{text, yes_no, list, cases, template, parameters, body, form_of, is_for}
use Rattle.rules.specs.Limits.{deepest}
use Rattle.rules.specs.Typing.{site, body_site, templates_typing, typed, value_typing}
use Rattle.rules.specs.Walk.{Input, State, start, too_deep, End, done, stuck, and_then, write, with_child, pieces}
use Rattle.rules.specs.Walk.{Filled, Asked, piece, items, filled_by, separate, visit_item, in_order, listed, items_of, visit_in, visit_form, counted, visit, walk}
use Rattle.rules.specs.Derivation.{Derives, produced, Pieces, no_element, one_piece, Piece, own_bytes, derived, repeated}
use Rattle.rules.specs.declared.Form.TheVariants.{For}
use Rattle.rules.specs.declared.Position.{Position}
use Rattle.rules.specs.declared.Position.TheVariants.{Nonterminal, Item}
use Rattle.laws.specs.Faults.{both_none, nth_in, every_in, on_found_none, at_none}
use Rattle.theorems.specs.Ends.{Ends, finished, limited, ends_map, then_ends, found_ends, reached_ends, write_ends, ends_done}
use Rattle.theorems.proofs.Lexemes.{piece_exactly}
use Rattle.theorems.specs.Children.{Asks, asks_a_class, asks_a_nonterminal, asks_a_repetition}
use Rattle.theorems.specs.Levels.{filling}
use Rattle.theorems.specs.Handed.{pieces_child, IsFor, a_for, no_for, is_for_lem, for_visited, item_visited, one_brought}
use Rattle.theorems.specs.Evaluation.{BeforeItem, the_first, another}
use Rattle.theorems.specs.Neighbours.{Further, no_more, further_one, further_append, further_row}
use Rattle.theorems.specs.Judgement.{a_field}
use Rattle.theorems.specs.Places.{place_lexeme}
use Rattle.theorems.proofs.Places.{place_text}
use Rattle.theorems.specs.Judgement.{Suits, by_build, by_literal, by_place, by_expand, by_if, by_for, by_sequence, as_item, by_match}
use Rattle.theorems.specs.Judgement.{Fills, all_filled, no_child, a_child, Items, no_item, an_item}
use Rattle.theorems.specs.Judgement.{AllOf, none_left, one_of, EachOf, no_field}
use Rattle.theorems.specs.TypingExactly.{declared_exactly}
use Rattle.theorems.proofs.TypingExactly.{misfit_suits}
use Rattle.theorems.proofs.ValueExactly.{mistyped_of}
use Rattle.theorems.specs.Sound.{shaped, each_more, path_of, arguments_of, arm_there, WellTyped}

-- the text of s is what stood before, and then a text of P
record Wrote (P : List ℕ → Type 0) (before : List ℕ) (s : State) : Type 0 where
  added : List ℕ
  text_is : s.text ≡ before ++ added
  right : P added

writes_none : {P : List ℕ → Type 0} (s : State) → P [] → Ends (Wrote P s.text) (done s)
writes_none s h = finished s (record { added = []; text_is = sym (append-nil s.text); right = h })

-- "written whole or not at all"
writes_whole : {P : List ℕ → Type 0} (room p : ℕ) (x : List ℕ) (s : State) → P x → Ends (Wrote P s.text) (write room p x s)
writes_whole room p x s h = ends_map (write_ends room p x s) λ s' e. record { added = x; text_is = e; right = h }

writes_map : {P Q : List ℕ → Type 0} {before : List ℕ} {e : End} → ((x : List ℕ) → P x → Q x) → Ends (Wrote P before) e → Ends (Wrote Q before) e
writes_map f h = ends_map h λ s w. record { added = w.added; text_is = w.text_is; right = f w.added w.right }

-- one text and then another, with nothing between
writes_then : {P Q R : List ℕ → Type 0} {before : List ℕ} {e : End} (next : State → End) → ((x y : List ℕ) → P x → Q y → R (x ++ y))
    → Ends (Wrote P before) e → ((s : State) → Ends (Wrote Q s.text) (next s)) → Ends (Wrote R before) (and_then e next)
writes_then {before} next join h k =
    then_ends next h λ s a. ends_map (k s) λ s' b.
    record { added = a.added ++ b.added; text_is = cc (append_assoc before a.added b.added); right = join a.added b.added a.right b.right }

either_suits : {g t vars : List ℕ} {p q : ℕ} {at : Position} (b : Bool) → Suits g t vars p at → Suits g t vars q at → Suits g t vars (cond b p q) at
either_suits true h k = h
either_suits false h k = k

-- A visit of a node that suits its position, with values of its variables' types, writes what the position asks for, unless a limit ends it. That is a piece
-- of its element; of a for it is further items of the repetition f.
record Sound (i : Input) (visited : Asked → ℕ → List ℕ → State → End) : Type 0 where
  writes : {vars env : List ℕ} {p : ℕ} {e : Element} {at : Position} → Suits i.grammar i.templates vars p at → Asks e at
      → EachOf i.grammar i.templates i.value vars env → (s : State) → Ends (Wrote (Piece i.grammar e) s.text) (visited (piece e) p env s)
  turns : {vars env : List ℕ} {p : ℕ} (f : Filled) (k : ℕ) → form_of i.templates p ≡ For → Suits i.grammar i.templates vars p (Item f.nonterminal)
      → EachOf i.grammar i.templates i.value vars env → (s : State)
      → Ends (Wrote (Further i.grammar f.nonterminal f.separator k (k + items_of i env p)) s.text) (visited (items f k) p env s)

-- "A body's position is its template's nonterminal."
abbrev BodiesSuit : List ℕ → List ℕ → Type 0
BodiesSuit g t = (n q : ℕ) → template t n ≡ some q → Suits g t (parameters t q) (body t q) (Nonterminal (field_b t q))

piece_derived : {g x : List ℕ} {n : ℕ} → Piece g (nonterminal n) x → Derives g n x
piece_derived (derived n x d) = d

-- a for suits an item's position only; an item that is no for suits its nonterminal's
no_for_there : {g t vars : List ℕ} {p n : ℕ} → Suits g t vars p (Nonterminal n) → form_of t p ≡ For → ⊥
no_for_there (by_build vars p n q f e b fs) h = let z : ◌≡◌ {A = ℕ} 0 1 = cc in omega arith
no_for_there (by_expand vars p n q f e b as') h = let z : ◌≡◌ {A = ℕ} 0 1 = cc in omega arith
no_for_there (by_if vars p n ty f e b su su') h = let z : ◌≡◌ {A = ℕ} 0 1 = cc in omega arith
no_for_there (by_match vars p n ty tys f e b as') h = let z : ◌≡◌ {A = ℕ} 0 1 = cc in omega arith

no_for_suits : {g t vars : List ℕ} {p n : ℕ} → Suits g t vars p (Item n) → (form_of t p ≡ For → ⊥) → Suits g t vars p (Nonterminal n)
no_for_suits (by_for vars p n ty item f e b su) h = absurd (h f)
no_for_suits (as_item vars p n su) h = su

-- The visits one deeper being sound, so is what a form does with them.
module _ (i : Input) (below : Asked → ℕ → List ℕ → State → End) (sound : Sound i below) where
  open i use {grammar as g, templates as t, value as v, room}

  fills_sound : {vars env : List ℕ} {es : List Element} {cs : List ℕ} (p : ℕ) → Fills g t vars es cs → EachOf g t v vars env
      → (s : State) → Ends (Wrote (Pieces g es) s.text) (pieces (write room p) (λ e c. below (piece e) c env) es cs s)
  unfolding pieces with_child
  fills_sound p (all_filled vars) h s = writes_none s no_element
  fills_sound p (no_child vars x es cs fs) h s = writes_then _ (one_piece _ es) (writes_whole _ p x s (own_bytes x)) (fills_sound p fs h)
  fills_sound p (a_child vars e at q es cs a su fs) h s =
      rw (pieces_child _ _ es _ s a) (writes_then _ (one_piece e es) (sound.writes su a h s) (fills_sound p fs h))

  separate_sound : (f : Filled) (k : ℕ) (s : State) → Ends (Wrote (BeforeItem f.separator k) s.text) (separate room f k s)
  unfolding separate
  separate_sound f zero s = writes_none s the_first
  separate_sound f (suc k) s = writes_whole room _ _ s another

  item_sound : {vars env : List ℕ} {c : ℕ} (f : Filled) (k : ℕ) → Suits g t vars c (Nonterminal f.nonterminal) → EachOf g t v vars env
      → (s : State) → Ends (Wrote (Further g f.nonterminal f.separator k (k + 1)) s.text) (visit_item room below f k c env s)
  unfolding visit_item
  item_sound f k su h s =
      writes_then _ (λ z x b d. further_one x b (piece_derived d)) (separate_sound f k s) (sound.writes su (asks_a_nonterminal _) h)

  node_sound : {vars env : List ℕ} {c : ℕ} (f : Filled) (k : ℕ) → Suits g t vars c (Item f.nonterminal) → EachOf g t v vars env
      → (s : State) → Ends (Wrote (Further g f.nonterminal f.separator k (k + items_of i env c)) s.text) (visit_in i below f env k c s)
  node_sound {env = env} {c} f k su h s = go _ (is_for_lem (form_of t c))
    where
      go : (b : Bool) → IsFor (form_of t c) b → Ends (Wrote (Further g f.nonterminal f.separator k (k + items_of i env c)) s.text) (visit_in i below f env k c s)
      go true (a_for e) = rw (for_visited i env c below f k e) (sound.turns f k e su h s)
      go false (no_for e) = rw (item_visited i env c below f k e, one_brought i env c e) (item_sound f k (no_for_suits su e) h s)

  items_sound : {vars env : List ℕ} {n : ℕ} {cs between : List ℕ} (q k : ℕ) → Items g t vars n cs → EachOf g t v vars env
      → (s : State) → Ends (Wrote (λ x. (l : ℕ) × Further g n between k l x) s.text) (in_order (items_of i env) (visit_in i below (filling q n between) env) k cs s)
  unfolding in_order
  items_sound q k (no_item vars n) h s = writes_none s (k, no_more)
  items_sound {env = env} {between = between} q k (an_item vars n c cs su is) h s =
      writes_then _ (λ x y a b. (b.0, further_append a b.1)) (node_sound (filling q n between) k su h s) (items_sound q (k + items_of i env c) is h)

  loop_sound : {vars env ws : List ℕ} {p item : ℕ} (f : Filled) (k : ℕ) → AllOf g t v item ws → Suits g t (vars ++ item ∷ []) p (Nonterminal f.nonterminal)
      → EachOf g t v vars env → (s : State)
      → Ends (Wrote (Further g f.nonterminal f.separator k (k + length ws)) s.text)
      (in_order (λ w. 1) (λ m w. visit_item room below f m p (env ++ w ∷ [])) k ws s)
  unfolding in_order
  loop_sound f k (none_left item) su h s = writes_none s (rw (add-zero k) no_more)
  loop_sound f k (one_of item w ws o os) su h s =
      rw (let e : k + suc (length ws) ≡ k + 1 + length ws = omega arith in e)
      (writes_then _ (λ x y. further_append) (item_sound f k su (each_more h o) s) (loop_sound f (k + 1) os su h))

  -- one node, by the rule that it suits its position by
  form_sound : BodiesSuit g t → {vars env : List ℕ} {p : ℕ} {e : Element} {at : Position} → Suits g t vars p at → Asks e at → EachOf g t v vars env
      → (s : State) → Ends (Wrote (Piece g e) s.text) (visit_form i (form_of t p) below (piece e) p env s)
  unfolding visit_form filled_by on_found
  form_sound bodies (by_build vars p n q f e b fs) (asks_a_nonterminal n') h s =
      rw f (found_ends _ e (writes_map (λ x ps. derived n x (produced n (field_b t p) q x e b ps)) (fills_sound p fs h s)))
  form_sound bodies (by_literal vars p c f e) (asks_a_class c') h s = rw f (writes_whole room p _ s ((piece_exactly g c _).1 e))
  form_sound bodies (by_place vars p c d ty f e b k) (asks_a_class c') h s =
      let w = path_of e h in
      let x = shaped (text d) w.2 b in
      rw f (found_ends _ w.1 (found_ends _ x.1 (writes_whole room p _ s ((piece_exactly g c _).1 (place_lexeme k x.2 (place_text g (lexeme c) refl))))))
  form_sound bodies (by_expand vars p n q f e b as') (asks_a_nonterminal n') h s =
      let ws = arguments_of as' h in
      rw (f, ← b) (found_ends _ e (found_ends _ ws.1 (sound.writes (bodies _ q e) (asks_a_nonterminal _) ws.2 s)))
  form_sound bodies (by_if vars p n ty f e b su su') a h s =
      let w = path_of e h in
      let y = shaped yes_no w.2 b in
      rw f (found_ends _ w.1 (found_ends _ y.1 (sound.writes (either_suits y.0 su su') a h s)))
  form_sound bodies (by_match vars p n ty tys f e b as') a h s =
      let w = path_of e h in
      let (c, is, to, there, o) = shaped (cases tys) w.2 b in
      let (arm, y, su) = arm_there c.number to as' there in
      rw f (found_ends _ w.1 (found_ends _ is (found_ends _ y (sound.writes su a (each_more h o) s))))
  form_sound bodies {vars = vars} {env = env} {p = p} {e = e} (by_for _ _ n ty item _ _ _ _) a h s = elim a [ ]
  form_sound bodies {vars = vars} {env = env} {p = p} {e = e} (as_item _ _ n _) a h s = elim a [ ]
  form_sound bodies (by_sequence vars p n f is) (asks_a_repetition n' x) h s =
      rw f (writes_map (λ y r. repeated n x y (further_row r.1 refl)) (items_sound p 0 is h s))

  for_sound : {vars env : List ℕ} {p : ℕ} (f : Filled) (k : ℕ) → form_of t p ≡ For → Suits g t vars p (Item f.nonterminal) → EachOf g t v vars env
      → (s : State) → Ends (Wrote (Further g f.nonterminal f.separator k (k + items_of i env p)) s.text) (visit_form i (form_of t p) below (items f k) p env s)
  unfolding visit_form listed items_of is_for on_found
  for_sound f k q (by_for vars p n ty item f' e b su) h s =
      let w = path_of e h in
      let ws = shaped (list item) w.2 b in
      rw (q, w.1, ws.1) (loop_sound f k ws.2 su h s)
  for_sound f k q (as_item vars p n su) h s = absurd (no_for_there su q)

module _ (i : Input) (h : WellTyped i) where
  open i use {grammar as g, templates as t, value as v}

  bodies_suit : BodiesSuit g t
  unfolding templates_typing template body_site site
  bodies_suit n q e = misfit_suits g t deepest (body_site t q) ((at_none _ _).0 (every_in _ (both_none _ _ h.set_typed).1 (nth_in _ n q e)))

  visit_sound : (k : ℕ) → Sound i (visit i k)
  unfolding visit counted
  visit_sound zero = record {
    writes = λ su a vs s. reached_ends _ _ _ s (limited too_deep _ _);
    turns = λ f k q su vs s. reached_ends _ _ _ s (limited too_deep _ _);
  }
  visit_sound (suc k) = record {
    writes = λ su a vs s. reached_ends _ _ _ s (form_sound i (visit i k) (visit_sound k) bodies_suit su a vs (counted s));
    turns = λ f j q su vs s. reached_ends _ _ _ s (for_sound i (visit i k) (visit_sound k) f j q su vs (counted s));
  }

  -- "The walk starts with template 0's body and the value as its one variable."
  root_typed : (q : ℕ) × (template t 0 ≡ some q) × EachOf g t v (parameters t q) (0 ∷ [])
  unfolding value_typing typed
  root_typed =
      let a = (on_found_none {B = ℕ} _ 0 _).0 h.value_typed in
      let d = (declared_exactly t a.0).0 a.1 in
      (d.root, d.root_there, rw d.one_parameter (a_field a.0 0 [] [] (mistyped_of g t v deepest _ ((at_none _ _).0 a.2)) no_field))

  walk_sound : (q : ℕ) × (template t 0 ≡ some q) × Ends (Wrote (Derives g (field_b t q)) []) (walk i)
  unfolding walk start
  walk_sound =
      let r = root_typed in (
        r.0,
        r.1,
        found_ends _ r.1
            (writes_map (λ x. piece_derived) ((visit_sound deepest).writes (bodies_suit 0 r.0 r.1) (asks_a_nonterminal _) r.2 start)),
      )

ends_not_stuck : {Q : State → Type 0} {e : End} → Ends Q e → e ≡ stuck → ⊥
ends_not_stuck (finished s q) e = let z : ◌≡◌ {A = ℕ} 0 1 = cc in omega arith
ends_not_stuck (limited l p s) e = let z : ◌≡◌ {A = ℕ} 0 1 = cc in omega arith

-- Where the checks accept, the records give every visit something to go by.
pub never_stuck : (i : Input) → WellTyped i → walk i ≡ stuck → ⊥
never_stuck i h e = ends_not_stuck (walk_sound i h).2 e

-- The derivation that the walk of a finished text gives, from the nonterminal of template 0.
pub finished_derived : (i : Input) → WellTyped i → (s : State) → walk i ≡ done s
    → (q : ℕ) × (template i.templates 0 ≡ some q) × Derives i.grammar (field_b i.templates q) s.text
finished_derived i h s e =
    let r = walk_sound i h in
    let w = ends_done s r.2 e in
    (r.0, r.1, rw w.text_is w.right)
