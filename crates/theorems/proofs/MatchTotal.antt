-- 02 g, of matches: each takes one arm, that of its case; it stands where an if may stand; and a missing or extra arm fails typing.
-- Goes on from specs/MatchTotal.antt: what rests on definitions that a must-fail edit changes.
use Rattle.std.specs.Prelude.{◌≡◌, ℕ, suc, List, [], ◌∷◌, ◌++◌, Bool, ltb}
use Rattle.std.proofs.Math.Path.{refl}
use Rattle.std.proofs.Common.{sym, ◌∙◌, ap, subst, arith}
use Rattle.std.proofs.Math.Bool.{true, false}
use Rattle.std.proofs.Math.Option.{some, some-injective}
use Rattle.rules.specs.Faults.{on_found}
use Rattle.rules.specs.Records.{kind_of, field_a, field_b, nth}
use Rattle.rules.specs.Grammar.{production, Element, elements}
use Rattle.rules.specs.Templates.{list, cases, type_of, template, templates, parameters, body, form_of, nodes, paths, path, first, second, arms}
use Rattle.rules.specs.Value.{children, content, Case}
use Rattle.rules.specs.Answers.{answer, check}
use Rattle.rules.specs.Walk.{Input, State, End, Asked, visit_form, counted, reached, visit}
use Rattle.rules.specs.declared.Form.{Form}
use Rattle.rules.specs.declared.Form.TheVariants.{Build, Literal, Place, Expand, If, For, Sequence, Match, Unknown}
use Rattle.rules.specs.declared.Position.{Position}
use Rattle.rules.specs.declared.Position.TheVariants.{Nonterminal, Item}
use Rattle.laws.specs.Faults.{In, here, later, nth_in}
use Rattle.theorems.specs.Children.{ChildFor, this_child, past_keyword, past_child}
use Rattle.theorems.specs.Finds.{Finds, FindsAll, list_is, case_is, finds_exactly, path_found, paths_found}
use Rattle.theorems.specs.Judgement.{PathTyped, Arguments, Suits, by_build, by_literal, by_place, by_expand, by_if, by_for, by_sequence, as_item, by_match}
use Rattle.theorems.specs.Judgement.{Fills, all_filled, no_child, a_child, Items, no_item, an_item, Arms, OfType, AllOf, none_left, one_of, EachOf, no_field, a_field}
use Rattle.theorems.specs.TypingExactly.{SetTyped}
use Rattle.theorems.specs.ValueExactly.{ValueTyped}
use Rattle.theorems.proofs.Accepted.{accepted_exactly}
use Rattle.theorems.specs.Levels.{Under, a_turn, an_arm, Levels, root_body, one_deeper}
use Rattle.theorems.specs.Levels as levels
use Rattle.theorems.specs.Visits.{node_in}
use Rattle.theorems.specs.Sound.{shaped, each_more, path_of, arguments_of, arm_there}
use Rattle.theorems.specs.MatchTotal.{TypedThere, TakesOneArm}

-- What a node that suits its position has below it, by its form
abbrev BelowIt : List ℕ → List ℕ → List ℕ → ℕ → Form → Type 0
BelowIt g t vars p Build = (q : ℕ) × (production g (field_b t p) ≡ some q) × Fills g t vars (elements g q) (nodes t p)
BelowIt g t vars p Literal = Unit {0}
BelowIt g t vars p Place = Unit {0}
BelowIt g t vars p Expand = (q : ℕ) × (template t (field_b t p) ≡ some q) × Arguments t vars (paths t p) (parameters t q)
BelowIt g t vars p If = (n : ℕ) × Suits g t vars (first p) (Nonterminal n) × Suits g t vars (second t p) (Nonterminal n)
BelowIt g t vars p For = (n ty item : ℕ) × PathTyped t vars (path p) ty × (type_of t ty ≡ list item) × Suits g t (vars ++ item ∷ []) (first p) (Nonterminal n)
BelowIt g t vars p Sequence = (n : ℕ) × Items g t vars n (nodes t p)
BelowIt g t vars p Match = (n ty : ℕ) × (tys : List ℕ) × PathTyped t vars (path p) ty × (type_of t ty ≡ cases tys) × Arms g t vars n tys (arms t p)
BelowIt g t vars p Unknown = Unit {0}

below_it : {g t vars : List ℕ} {p : ℕ} {at : Position} → Suits g t vars p at → BelowIt g t vars p (form_of t p)
below_it (by_build vars p n q f e b fs) = rw f (q, e, fs)
below_it (by_literal vars p c f l) = rw f tt
below_it (by_place vars p c d ty f h e k) = rw f tt
below_it (by_expand vars p n q f e b as') = rw f (q, e, as')
below_it (by_if vars p n ty f h e su su') = rw f (n, su, su')
below_it (by_for vars p n ty item f h e su) = rw f (n, ty, item, h, e, su)
below_it (by_sequence vars p n f is) = rw f (n, is)
below_it (as_item vars p n su) = below_it su
below_it (by_match vars p n ty tys f h e as') = rw f (n, ty, tys, h, e, as')

by_form : {g t v env : List ℕ} {p : ℕ} {f : Form} (h : TypedThere g t v p env) → form_of t p ≡ f → BelowIt g t h.vars p f
by_form {g} {t} {p = p} h e = subst (BelowIt g t h.vars p) e (below_it h.suits)

found_typed : {g t v vars env : List ℕ} {p ty w : ℕ} → PathTyped t vars p ty → EachOf g t v vars env → Finds t v env p w → OfType g t v ty w
found_typed {g} {t} {v} {ty = ty} {w} e h f =
    let (u, x, o) = path_of e h in subst (OfType g t v ty) (some-injective u w (sym x ∙ path_found f)) o

all_typed : {g t v vars env ps tys ws : List ℕ} → Arguments t vars ps tys → EachOf g t v vars env → FindsAll t v env ps ws → EachOf g t v tys ws
all_typed {g} {t} {v} {tys = tys} {ws} as' h f =
    let (us, x, os) = arguments_of as' h in subst (EachOf g t v tys) (some-injective us ws (sym x ∙ paths_found f)) os

all_of : {g t v ws : List ℕ} {ty u : ℕ} → AllOf g t v ty ws → In u ws → OfType g t v ty u
all_of (none_left ty) i = elim i [ ]
all_of (one_of ty w ws o os) (here vs) = o
all_of (one_of ty w ws o os) (later v vs i) = all_of os i

item_typed : {g t v : List ℕ} {ty item w u : ℕ} → OfType g t v ty w → type_of t ty ≡ list item → kind_of v w ≡ 3 → In u (children v w) → OfType g t v item u
item_typed {v = v} {item = item} {w} {u} o e k i =
    let (ws, is, os) = shaped (list item) o e in
    all_of os (subst (In u) ((list_is v w ws).0 is).1 i)

child_suits : {g t vars : List ℕ} {es : List Element} {cs : List ℕ} {e : Element} {c : ℕ} → Fills g t vars es cs → ChildFor es cs e c → (at : Position) × Suits g t vars c at
child_suits {g = g} {t = t} {e = e} {c = c} (all_filled vars) x5 = elim x5 [ ]
child_suits (no_child vars x es cs fs) (past_keyword y e c es' cs' k) = child_suits fs k
child_suits (no_child vars x es cs fs) (this_child e at c es' cs' a) = elim a [ ]
child_suits (no_child vars x es cs fs) (past_child e e' at c c' es' cs' a k) = elim a [ ]
child_suits (a_child vars e at p es cs a su fs) (this_child e' at' c es' cs' b) = (at, su)
child_suits (a_child vars e at p es cs a su fs) (past_keyword y e' c es' cs' k) = elim a [ ]
child_suits (a_child vars e at p es cs a su fs) (past_child e' e'' at' c c' es' cs' b k) = child_suits fs k

item_suits : {g t vars : List ℕ} {n c : ℕ} {cs : List ℕ} → Items g t vars n cs → In c cs → Suits g t vars c (Item n)
item_suits (no_item vars n) i = elim i [ ]
item_suits (an_item vars n p ps su is) (here qs) = su
item_suits (an_item vars n p ps su is) (later q qs i) = item_suits is i

module _ {g t v : List ℕ} (set : SetTyped g t) where
  body_there : (n : ℕ) {q : ℕ} {env : List ℕ} → template t n ≡ some q → EachOf g t v (parameters t q) env → TypedThere g t v (body t q) env
  unfolding template
  body_there n {q} e h = record { vars = parameters t q; position = _; suits = set.bodies q (nth_in (templates t) n q e); typed = h }

  -- of such a node: what its visit visits suits a position too, with values of its variables' types
  under_typed : {a a' : Asked} {p q : ℕ} {env env' : List ℕ} → TypedThere g t v p env → Under g t v a p env a' q env' → TypedThere g t v q env'
  under_typed {p = p} h (levels.a_child q c e f there k) =
      let (q', x, fs) = by_form h f in
      let z : q' ≡ q = some-injective q' q (sym x ∙ there) in
      let (at, su) = child_suits (subst (λ (y : ℕ). Fills g t h.vars (elements g y) (nodes t p)) z fs) k in
      record { vars = h.vars; position = at; suits = su; typed = h.typed }
  under_typed {p = p} h (levels.a_body q ws f there finds) =
      let (q', x, as') = by_form h f in
      let z : q' ≡ q = some-injective q' q (sym x ∙ there) in
      body_there _ there (all_typed (subst (λ (y : ℕ). Arguments t h.vars (paths t p) (parameters t y)) z as') h.typed finds)
  under_typed h (levels.on_yes w f finds k y) =
      let (n, su, su') = by_form h f in record { vars = h.vars; position = _; suits = su; typed = h.typed }
  under_typed h (levels.on_no w f finds k y) =
      let (n, su, su') = by_form h f in record { vars = h.vars; position = _; suits = su'; typed = h.typed }
  under_typed h (a_turn f n w item is e finds k i) =
      let (m, ty, to, x, y, su) = by_form h is in
      record { vars = h.vars ++ to ∷ []; position = _; suits = su; typed = each_more h.typed (item_typed (found_typed x h.typed finds) y k i) }
  under_typed h (levels.an_item n c x f e i k) =
      let (m, is) = by_form h f in record { vars = h.vars; position = _; suits = item_suits is i; typed = h.typed }
  under_typed h (levels.a_for n c m x f e b is) =
      let (l, is') = by_form h f in record { vars = h.vars; position = _; suits = item_suits is' (node_in b); typed = h.typed }
  under_typed {p = p} h (an_arm w c f finds k y) =
      let (n, ty, tys, x, e, as') = by_form h f in
      let (case, is, to, there, o) = shaped (cases tys) (found_typed x h.typed finds) e in
      let z = ((case_is v w case).0 is).1 in
      let (arm, l, su) = arm_there case.number to as' there in
      let m : arm ≡ c = some-injective arm c (sym l ∙ ap (λ (u : Case). nth (arms t p) u.number) (sym z) ∙ y) in
      record {
        vars = h.vars ++ to ∷ [];
        position = _;
        suits = subst (λ (u : ℕ). Suits g t (h.vars ++ to ∷ []) u (Nonterminal n)) m su;
        typed = each_more h.typed (subst (λ (u : Case). OfType g t v to u.inside) (sym z) o);
      }

  -- and so does every node that a walk comes to
  levels_typed : ValueTyped g t v → {d p : ℕ} {a : Asked} {env : List ℕ} → Levels g t v d a p env → TypedThere g t v p env
  levels_typed value (root_body q e) =
      let z : value.declares.root ≡ q = some-injective _ q (sym value.declares.root_there ∙ e) in
      body_there 0 e (rw (← z, value.declares.one_parameter) (a_field value.type 0 [] [] value.of_type no_field))
  levels_typed value (one_deeper d p q a a' env env' l u) = under_typed (levels_typed value l) u

module _ (i : Input) (a : Asked) (p : ℕ) (env : List ℕ) (m : form_of i.templates p ≡ Match) where
  open i use {grammar as g, templates as t, value as v}

  only_arm : {w arm q : ℕ} {a' : Asked} {env' : List ℕ} → Finds t v env (path p) w → nth (arms t p) (field_a v w) ≡ some arm → Under g t v a p env a' q env'
      → (a' ≡ a) × (q ≡ arm) × (env' ≡ env ++ content w ∷ [])
  only_arm finds y (levels.a_child q c e f there k) = absurd (let z : ◌≡◌ {A = ℕ} 0 1 = cc in omega arith)
  only_arm finds y (levels.a_body q ws f there k) = absurd (let z : ◌≡◌ {A = ℕ} 0 1 = cc in omega arith)
  only_arm finds y (levels.on_yes w f k x z) = absurd (let z : ◌≡◌ {A = ℕ} 0 1 = cc in omega arith)
  only_arm finds y (levels.on_no w f k x z) = absurd (let z : ◌≡◌ {A = ℕ} 0 1 = cc in omega arith)
  only_arm finds y (a_turn f n w item is e k x z) = absurd (let z : ◌≡◌ {A = ℕ} 0 1 = cc in omega arith)
  only_arm finds y (levels.an_item n c x f e k z) = absurd (let z : ◌≡◌ {A = ℕ} 0 1 = cc in omega arith)
  only_arm finds y (levels.a_for n c l x f e k z) = absurd (let z : ◌≡◌ {A = ℕ} 0 1 = cc in omega arith)
  only_arm {w} {arm} finds y (an_arm u c f k x z) =
      let e : u ≡ w = some-injective u w (sym (path_found k) ∙ path_found finds) in
      (refl, some-injective c arm (sym z ∙ ap (λ (n : ℕ). nth (arms t p) (field_a v n)) e ∙ y), ap (λ (n : ℕ). env ++ content n ∷ []) e)

  module _ {w arm : ℕ} (finds : Finds t v env (path p) w) (k : kind_of v w ≡ 5) (y : nth (arms t p) (field_a v w) ≡ some arm) where
    arm_visited : (self : Asked → ℕ → List ℕ → State → End) (s : State) → visit_form i Match self a p env s ≡ self a arm (env ++ content w ∷ []) s
    unfolding visit_form on_found
    arm_visited self s = rw (path_found finds, (case_is v w _).1 (k, refl), y)

    match_visited : (j : ℕ) (s : State) → visit i (suc j) a p env s ≡ reached (ltb s.steps i.fuel) p (visit i j a arm (env ++ content w ∷ [])) s
    unfolding visit reached
    match_visited j s = rw m (go (ltb s.steps i.fuel))
      where
        go : (b : Bool) → reached b p (visit_form i Match (visit i j) a p env) s ≡ reached b p (visit i j a arm (env ++ content w ∷ [])) s
        go true = arm_visited (visit i j) (counted s)
        go false = refl

  one_arm : TypedThere g t v p env → TakesOneArm i a p env
  one_arm h =
      let (n, ty, tys, x, e, as') = by_form h m in
      let (w, found, o) = path_of x h.typed in
      let (case, is, to, there, inside) = shaped (cases tys) o e in
      let (k, z) = (case_is v w case).0 is in
      let (arm, y, su) = arm_there case.number to as' there in
      let f : Finds t v env (path p) w = (finds_exactly t v env (path p) w).0 found in
      let l : nth (arms t p) (field_a v w) ≡ some arm = ap (λ (u : Case). nth (arms t p) u.number) z ∙ y in
      record {
        value = w;
        arm = arm;
        finds = f;
        a_case = k;
        of_its_number = l;
        visited = match_visited f k l;
        no_other = only_arm f l;
      }

-- Of an accepted set and a value of its type, a match that is visited takes exactly one arm, and it is that of the case's number.
pub match_total : (i : Input) → check i.grammar i.templates ≡ answer 0 0 0 0 0 → ValueTyped i.grammar i.templates i.value
    → {d p : ℕ} {a : Asked} {env : List ℕ} → Levels i.grammar i.templates i.value d a p env → form_of i.templates p ≡ Match → TakesOneArm i a p env
match_total i accepted value {p = p} {a} {env} l m = one_arm i a p env m (levels_typed ((accepted_exactly i.grammar i.templates).0 accepted).typed value l)
