-- Two grammars in which the rules read the same classes, productions, elements and lexemes: they derive the same texts, and of one set and value the rules
-- of naming and typing, the walk and the evaluation rules say the same by both.
-- Goes on from specs/ReadAlike.antt: what rests on definitions that a must-fail edit changes.
use Rattle.std.specs.Prelude.{◌≡◌, Bool, true, ◌&&◌, length, ltb}
use Rattle.std.proofs.Math.Path.{refl, ap}
use Rattle.std.proofs.Common.{sym, ◌∙◌, subst}
use Prim.Native.Nat.{ℕ, zero, suc}
use mathlib.Core.List.{List, [], ◌∷◌}
use Rattle.std.proofs.Math.Bool.{false, cond}
use Rattle.std.proofs.Math.Option.{none, some}
use Rattle.std.proofs.Math.Dec.{eqb}
use Rattle.rules.specs.Faults.{need, both, every, tree, on_found, only_if, exists, at}
use Rattle.rules.specs.Records.{field_b, field_d, text_of, numbered}
use Rattle.rules.specs.Grammar.{plain_class, escaped_class, plain_of, production, Element, keyword, lexeme, nonterminal, repetition, unknown}
use Rattle.rules.specs.Templates.{TypeForm, text, yes_no, list, fields, cases, no_type, type, type_at, type_of, types, field_heads, template, templates, parameter_heads, body, form_of, nodes, nodes_below, path}
use Rattle.rules.specs.Value.{as_text}
use Rattle.rules.specs.Answers.{input}
use Rattle.rules.specs.Escape.{escape, unescaped}
use Rattle.rules.specs.Lexeme.{is_plain_lexeme, is_lexeme}
use Rattle.rules.specs.Limits.{deepest}
use Rattle.rules.specs.Names.{type_named, type_names, form_named, node_named, template_names, templates_names}
use Rattle.rules.specs.Typing.{positions, asks_nonterminal, asks_class, text_class, path_type, Site, suits_form, suits, sites, sites_of, sites_below, misfit, body_site, declared_type, templates_typing}
use Rattle.rules.specs.Typing.{typed, has_form, has_type, typed_below, mistyped, value_typing}
use Rattle.rules.specs.Walk.{State, start, End, stuck, path_value, pieces, write, Asked, piece, items, written_for, listed, items_of, visit_in, visit_form, reached, visit, walk}
use Rattle.rules.specs.Derivation.{Derives, produced, Pieces, no_element, one_piece, Piece, own_bytes, a_lexeme, an_escaped_lexeme, derived, repeated}
use Rattle.rules.specs.Derivation.{Row, no_text, some_texts, Texts, last_text, next_text}
use Rattle.rules.specs.declared.Form.{Form}
use Rattle.rules.specs.declared.Form.TheVariants.{Build, Literal, Place, Expand, If, For, Sequence, Match, Unknown}
use Rattle.laws.specs.Sorts.{escaped_class_iff}
use Rattle.theorems.specs.Places.{PlaceWrites}
use Rattle.theorems.proofs.Places.{place_exactly}
use Rattle.theorems.specs.Evaluation.{Evaluates, build, literal, place, expand, then, else, sequence, Builds, own_bytes as own-bytes-built, no_element as nothing-built, next_child, match}
use Rattle.theorems.specs.Evaluation.{Items, no_item, one_item, for, Loops, no_turn, one_turn, EvaluatesSet}
use Rattle.theorems.specs.ReadAlike.{ReadAlike, found_same}

module _ (g g' : List ℕ) (r : ReadAlike g g') where
  there : (n p : ℕ) → production g n ≡ some p → production g' n ≡ some p
  there n p e = sym (r.same_production n) ∙ e

  -- plain and escaped classes
  pub plain_alike : (n : ℕ) → plain_class g n ≡ plain_class g' n
  unfolding plain_class
  plain_alike n = found_same _ _ none _ _ (r.same_class n) (λ p e. λ j. only_if (eqb (r.same_kind n p e j) 1) p)

  escaped_alike : (n : ℕ) → escaped_class g n ≡ escaped_class g' n
  unfolding escaped_class
  escaped_alike n = found_same _ _ none _ _ (r.same_class n) (λ p e. λ j. only_if (eqb (r.same_kind n p e j) 5) p)

  named_by_escaped : (n p : ℕ) → escaped_class g n ≡ some p → field_b g p ≡ field_b g' p
  named_by_escaped n p e = r.same_named n p ((escaped_class_iff g n p).0 e).0

  plain_of_alike : (c : ℕ) → plain_of g c ≡ plain_of g' c
  unfolding plain_of
  plain_of_alike c = found_same _ _ c _ _ (escaped_alike c) (named_by_escaped c)

  lexeme_alike : (c : ℕ) (x : List ℕ) → is_lexeme g c x ≡ is_lexeme g' c x
  unfolding is_lexeme
  lexeme_alike c x =
      ap (λ (b : Bool). on_found (escaped_class g c) b (λ p. on_found (unescaped x) false (is_plain_lexeme g (field_b g p)))) (r.same_lexemes c x)
      ∙ found_same _ _ (is_plain_lexeme g' c x) _ _ (escaped_alike c)
      (λ p e. ap (on_found (unescaped x) false) (λ j y. r.same_lexemes (named_by_escaped c p e j) y j))

  position_alike : (a : Asked) (x : List ℕ) → written_for g a x ≡ written_for g' a x
  unfolding written_for
  position_alike (piece (keyword y)) x = refl
  position_alike (piece (lexeme c)) x = λ j. cond (exists (escaped_alike c j)) (escape x) x
  position_alike (piece (nonterminal n)) x = refl
  position_alike (piece (repetition n y)) x = refl
  position_alike (piece unknown) x = refl
  position_alike (items f n) x = refl

  place_alike : {e : Element} {x y : List ℕ} → PlaceWrites g e x y → PlaceWrites g' e x y
  place_alike {e} {x} {y} h = (place_exactly g' e x y).0 (sym (position_alike (piece e) x) ∙ (place_exactly g e x y).1 h)

  pub derives_alike : {n : ℕ} {x : List ℕ} → Derives g n x → Derives g' n x
  derives_alike d = elim d as
      (λ n x d. Derives g' n x) (λ es x d. Pieces g' es x) (λ e x d. Piece g' e x) (λ n between x d. Row g' n between x) (λ n between x d. Texts g' n between x) [
        | produced n k p x e f (ps → h) ↦
            produced n k p x (there k p e) (sym (r.same_nonterminal k p e) ∙ f) (subst (λ (es : List Element). Pieces g' es x) (r.same_elements k p e) h)
        | no_element ↦ no_element
        | one_piece e es x rest (p → h) (ps → k) ↦ one_piece e es x rest h k
        | own_bytes x ↦ own_bytes x
        | a_lexeme c x e ↦ a_lexeme c x (sym (r.same_lexemes c x) ∙ e)
        | an_escaped_lexeme c p x k e ↦
            an_escaped_lexeme c p x (sym (escaped_alike c) ∙ k)
            (subst (λ (d : ℕ). is_plain_lexeme g' d x ≡ true) (named_by_escaped c p k) (sym (r.same_lexemes (field_b g p) x) ∙ e))
        | derived n x (d → h) ↦ derived n x h
        | repeated n between x (d → h) ↦ repeated n between x h
        | no_text n between ↦ no_text n between
        | some_texts n between x (d → h) ↦ some_texts n between x h
        | last_text n between x (d → h) ↦ last_text n between x h
        | next_text n between x rest (d → h) (ts → k) ↦ next_text n between x rest h k
      ]

  module _ (t v : List ℕ) where
    evaluates_alike : {env : List ℕ} {e : Element} {p n : ℕ} {x : List ℕ} → Evaluates g t v env e p x n → Evaluates g' t v env e p x n
    evaluates_alike d = elim d as
        (λ env e p x n d. Evaluates g' t v env e p x n) (λ env es cs x n d. Builds g' t v env es cs x n)
        (λ env m between k cs x n d. Items g' t v env m between k cs x n) (λ env m between k p ws x n d. Loops g' t v env m between k p ws x n) [
          | build {env} {p = p} {x = x} {n} f e (b → h) ↦
              build f (there _ _ e) (subst (λ (es : List Element). Builds g' t v env es (nodes t p) x n) (r.same_elements _ _ e) h)
          | literal f ↦ literal f
          | place f w k h ↦ place f w k (place_alike h)
          | expand f q ws (b → h) ↦ expand f q ws h
          | then f w k y (b → h) ↦ then f w k y h
          | else f w k y (b → h) ↦ else f w k y h
          | sequence f (b → h) ↦ sequence f h
          | match f w k a (b → e) ↦ match f w k a e
          | nothing-built ↦ nothing-built
          | own-bytes-built (b → h) ↦ own-bytes-built h
          | next_child a (b → e) (c → h) ↦ next_child a e h
          | no_item ↦ no_item
          | one_item f z (a → e) (b → h) ↦ one_item f z e h
          | for f w k (a → e) (b → h) ↦ for f w k e h
          | no_turn ↦ no_turn
          | one_turn z (a → e) (b → h) ↦ one_turn z e h
        ]

    pub evaluates_set_alike : {x : List ℕ} {n : ℕ} → EvaluatesSet g t v x n → EvaluatesSet g' t v x n
    evaluates_set_alike h = record { head = h.head; template_0 = h.template_0; evaluates = evaluates_alike h.evaluates }

  -- 5, of the templates
  module _ (t : List ℕ) where
    type_named_alike : (f : TypeForm) → type_named g t f ≡ type_named g' t f
    unfolding type_named
    type_named_alike (text c) = ap exists (plain_alike c)
    type_named_alike yes_no = refl
    type_named_alike (list n) = refl
    type_named_alike (fields ns) = refl
    type_named_alike (cases ns) = refl
    type_named_alike no_type = refl

    form_named_alike : (f : Form) (n : ℕ) → form_named g t f n ≡ form_named g' t f n
    unfolding form_named
    form_named_alike Build n = ap exists (r.same_production n)
    form_named_alike Literal n = refl
    form_named_alike Place n = refl
    form_named_alike Expand n = refl
    form_named_alike If n = refl
    form_named_alike For n = refl
    form_named_alike Sequence n = refl
    form_named_alike Match n = refl
    form_named_alike Unknown n = refl

    template_names_alike : (p : ℕ) → template_names g t p ≡ template_names g' t p
    unfolding template_names node_named
    template_names_alike p = λ j.
        both (need (r.same_existence (field_b t p) j) p)
        (both (every (λ a. need (exists (type t (field_b t a))) a) (parameter_heads t p))
        (tree (λ q. form_named_alike (form_of t q) (field_b t q) j) (nodes_below t) deepest (body t p)))

    pub names_alike : templates_names g t ≡ templates_names g' t
    unfolding templates_names type_names
    names_alike = λ j.
        both
        (every (λ x. both (need (type_named_alike (type_at t x.1) j) x.1) (every (λ f. need (ltb (field_b t f) x.0) f) (field_heads t x.1))) (numbered 0 (types t)))
        (every (λ p. template_names_alike p j) (templates t))

    -- 7 and 8
    suits_alike : (f : Form) (x : Site) → suits_form g t f x ≡ suits_form g' t f x
    unfolding suits_form
    suits_alike Build x = ap (on_found (asks_nonterminal x.position) false) λ j n.
        found_same _ _ false _ _ (r.same_production (field_b t x.node))
        (λ q e. λ k. eqb (r.same_nonterminal _ q e k) n && eqb (length (positions (r.same_elements _ q e k))) (field_d t x.node)) j
    suits_alike Literal x = ap (on_found (asks_class x.position) false) λ j c. lexeme_alike c (text_of t (field_b t x.node) x.node) j
    suits_alike Place x = ap (on_found (asks_class x.position) false) λ j c.
        on_found (path_type t x.vars (path x.node)) false λ ty. on_found (text_class (type_of t ty)) false (eqb (plain_of_alike c j))
    suits_alike Expand x = refl
    suits_alike If x = refl
    suits_alike For x = refl
    suits_alike Sequence x = refl
    suits_alike Match x = refl
    suits_alike Unknown x = refl

    sites_alike : (f : Form) (x : Site) → sites_of g t f x ≡ sites_of g' t f x
    unfolding sites_of
    sites_alike Build x =
        found_same _ _ [] _ _ (r.same_production (field_b t x.node))
        λ q e. λ j. sites x.vars (positions (r.same_elements _ q e j)) (nodes t x.node)
    sites_alike Literal x = refl
    sites_alike Place x = refl
    sites_alike Expand x = refl
    sites_alike If x = refl
    sites_alike For x = refl
    sites_alike Sequence x = refl
    sites_alike Match x = refl
    sites_alike Unknown x = refl

    pub typing_alike : templates_typing g t ≡ templates_typing g' t
    unfolding templates_typing misfit suits sites_below
    typing_alike = λ j.
        both (need (exists (declared_type t)) 0)
        (every (λ p. at (λ x. x.node) (tree (λ x. suits_alike (form_of t x.node) x j) (λ x. sites_alike (form_of t x.node) x j) deepest (body_site t p))) (templates t))

    form_alike : (v : List ℕ) (f : TypeForm) (w : ℕ) → has_form g v f w ≡ has_form g' v f w
    unfolding has_form
    form_alike v (text c) w = ap (on_found (as_text v w) false) λ j x. r.same_lexemes c x j
    form_alike v yes_no w = refl
    form_alike v (list ty) w = refl
    form_alike v (fields tys) w = refl
    form_alike v (cases tys) w = refl
    form_alike v no_type w = refl

    pub value_alike : (v : List ℕ) → value_typing g t v ≡ value_typing g' t v
    unfolding value_typing mistyped has_type
    value_alike v = ap (on_found (declared_type t) (some 0)) λ j ty.
        at (λ x. x.value) (tree (λ x. form_alike v (type_of t x.type) x.value j) (typed_below t v) deepest (typed ty 0))

  -- the walk
  module _ (t v : List ℕ) (fuel : ℕ) (out : List ℕ) where
    form_walked : (f : Form) (go : Asked → ℕ → List ℕ → State → End) (a : Asked) (p : ℕ) (env : List ℕ) (s : State)
        → visit_form (input g t v fuel out) f go a p env s ≡ visit_form (input g' t v fuel out) f go a p env s
    unfolding visit_form input listed items_of visit_in
    form_walked Build go a p env s =
        found_same _ _ stuck _ _ (r.same_production (field_b t p))
        λ q e. ap (λ (es : List Element). pieces (write (length out) p) (λ e c. go (piece e) c env) es (nodes t p) s) (r.same_elements _ q e)
    form_walked Literal go a p env s = refl
    form_walked Place go a p env s = ap (on_found (path_value t v env (path p)) stuck) λ j w.
        on_found (as_text v w) stuck λ x. write (length out) p (position_alike a x j) s
    form_walked Expand go a p env s = refl
    form_walked If go a p env s = refl
    form_walked For go (piece e) p env s = refl
    form_walked For go (items f n) p env s = refl
    form_walked Sequence go a p env s = refl
    form_walked Match go a p env s = refl
    form_walked Unknown go a p env s = refl

    visit_alike : (k : ℕ) (a : Asked) (p : ℕ) (env : List ℕ) (s : State) → visit (input g t v fuel out) k a p env s ≡ visit (input g' t v fuel out) k a p env s
    unfolding visit input
    visit_alike zero a p env s = refl
    visit_alike (suc k) a p env s = ap (λ (next : State → End). reached (ltb s.steps fuel) p next s) λ j s₁.
        (form_walked (form_of t p) (visit (input g t v fuel out) k) a p env s₁
        ∙ ap (λ (go : Asked → ℕ → List ℕ → State → End). visit_form (input g' t v fuel out) (form_of t p) go a p env s₁) (λ i a p env s. visit_alike k a p env s i)) j

    pub walk_alike : walk (input g t v fuel out) ≡ walk (input g' t v fuel out)
    unfolding walk input
    walk_alike = ap (on_found (template t 0) stuck) λ j q. visit_alike deepest (piece (nonterminal (field_b t q))) (body t q) (0 ∷ []) start j
