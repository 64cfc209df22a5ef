-- A node's own rule and its children, exactly: the test of `rules` passes where the node fits its position, and what it looks at below are the node's children.
-- (Goes on in proofs/OwnRuleExactly.antt.)
use Rattle.std.specs.Prelude.{◌≡◌, refl, ◌↔◌, ℕ, zero, suc, List, [], ◌∷◌, ◌++◌, true}
use Rattle.std.proofs.Common.{sym, subst}
use Rattle.std.proofs.Math.Option.{some, none-ne-some, some-injective}
use Rattle.rules.specs.Faults.{on_found}
use Rattle.rules.specs.Records.{field_b, nth}
use Rattle.rules.specs.Grammar.{production, Element, keyword, lexeme, nonterminal, repetition, unknown}
use Rattle.rules.specs.Templates.{type_of, template, parameters, form_of, nodes, paths, path, first, arms}
use Rattle.rules.specs.Typing.{asks_nonterminal, asks_repetition, asks_item, positions, item_type, path_type, Site, site, suits_form, sites, sites_of, sites_below, body_site, case_types, arm_sites}
use Rattle.rules.specs.declared.Form.{Form}
use Rattle.rules.specs.declared.Form.TheVariants.{Build, Literal, Place, Expand, If, For, Sequence, Match, Unknown}
use Rattle.rules.specs.declared.Position.{Position}
use Rattle.rules.specs.declared.Position.TheVariants.{Nonterminal, Item}
use Rattle.laws.specs.Faults.{In, here, later, in_map, on_found_true, and_iff, Below, itself, under}
use Rattle.theorems.specs.Children.{Asks, asks_a_class, asks_a_nonterminal, asks_a_repetition, asks_nothing, ChildFor, this_child, past_keyword, past_child}
use Rattle.theorems.specs.Judgement.{Arguments}
use Rattle.theorems.specs.OwnRule.{AsksText, Fits, ChildNode, build_child, first_branch, second_branch, loop_body, sequence_item, Stands, the_body, below, match_arm}
use Rattle.theorems.specs.HeadByHead.{in_cons, map_in, found_in, below_more}
use Rattle.theorems.specs.Lookups.{item_type_lem, path_exactly, arguments_found, asked_text, asked_same, text_asked, case_types_lem}
use Rattle.theorems.specs.Lookups.{asked_repetition, asked_item}

-- The positions of a production's elements, one for each element that is no keyword
pub data Positions : List Element → List Position → Type 0 where
  no_position : Positions [] []
  no_position_for : (x : List ℕ) (es : List Element) (as' : List Position) → Positions es as' → Positions (keyword x ∷ es) as'
  one_position_for : (e : Element) (at : Position) (es : List Element) (as' : List Position) → Asks e at → Positions es as' → Positions (e ∷ es) (at ∷ as')

pub positions_of : (es : List Element) → Positions es (positions es)
unfolding positions
positions_of [] = no_position
positions_of (keyword x ∷ es) = no_position_for x es _ (positions_of es)
positions_of (lexeme c ∷ es) = one_position_for _ _ es _ (asks_a_class c) (positions_of es)
positions_of (nonterminal n ∷ es) = one_position_for _ _ es _ (asks_a_nonterminal n) (positions_of es)
positions_of (repetition n x ∷ es) = one_position_for _ _ es _ (asks_a_repetition n x) (positions_of es)
positions_of (unknown ∷ es) = one_position_for _ _ es _ asks_nothing (positions_of es)

pub position_of : {e : Element} {at : Position} (es : List Element) → Asks e at → positions (e ∷ es) ≡ at ∷ positions es
unfolding positions
position_of es (asks_a_class c) = refl
position_of es (asks_a_nonterminal n) = refl
position_of es (asks_a_repetition n x) = refl
position_of es asks_nothing = refl

-- The own rule, by the node's form
abbrev pub FitsAt : List ℕ → List ℕ → Site → Type 0
FitsAt g t x = Fits g t x.vars x.node x.position

pub expand_right : (g t : List ℕ) (x : Site) → suits_form g t Expand x ≡ true
    → (q : ℕ) × (template t (field_b t x.node) ≡ some q) × AsksText x.position (field_b t q) × Arguments t x.vars (paths t x.node) (parameters t q)
unfolding suits_form
expand_right g t x e =
    let (n, asked, h) = (on_found_true (asks_nonterminal x.position) _).0 e in
    let (q, there, r) = (on_found_true (template t (field_b t x.node)) _).0 h in
    let (same, as') = (and_iff _ _).0 r in
    (q, there, asked_same x.position (field_b t q) n asked same, arguments_found t x.vars _ _ as')

-- The children, by the node's form
abbrev pub ChildAt : List ℕ → List ℕ → Site → Site → Type 0
ChildAt g t x y = ChildNode g t x.vars x.node x.position y.vars y.node y.position

in_sites : (P : Site → Type 0) (vars : List ℕ) {es : List Element} {as' : List Position} (cs : List ℕ) {y : Site} → Positions es as'
    → ((e : Element) (at : Position) (c : ℕ) → ChildFor es cs e c → Asks e at → P (site vars at c)) → In y (sites vars as' cs) → P y
unfolding sites
in_sites P vars cs no_position h i = elim i [ ]
in_sites P vars cs (no_position_for x es as' ps) h i = in_sites P vars cs ps (λ e at c k. h e at c (past_keyword x e c es cs k)) i
in_sites P vars [] (one_position_for e at es as' a ps) h i = elim i [ ]
in_sites P vars (c ∷ cs) (one_position_for e at es as' a ps) h i =
    in_cons P (h e at c (this_child e at c es cs a) a) (λ z j. in_sites P vars cs ps (λ e' at' d k. h e' at' d (past_child e' e at d c es cs a k)) j) i

sites_in : (vars : List ℕ) {es : List Element} {cs : List ℕ} {e : Element} {at : Position} {c : ℕ} → ChildFor es cs e c → Asks e at
    → In (site vars at c) (sites vars (positions es) cs)
unfolding sites positions
sites_in vars (this_child e at c es cs b) a = rw (position_of es a) (here _)
sites_in vars (past_keyword x e c es cs k) a = sites_in vars k a
sites_in vars (past_child e e' at c c' es cs b k) a = rw (position_of es b) (later _ _ (sites_in vars k a))

in_arms : (P : Site → Type 0) (vars : List ℕ) (at : Position) (tys ps : List ℕ) {y : Site}
    → ((j to c : ℕ) → nth tys j ≡ some to → nth ps j ≡ some c → P (site (vars ++ to ∷ []) at c)) → In y (arm_sites vars at tys ps) → P y
unfolding arm_sites nth
in_arms P vars at [] ps h i = elim i [ ]
in_arms P vars at (ty ∷ tys) [] h i = elim i [ ]
in_arms P vars at (ty ∷ tys) (p ∷ ps) h i = in_cons P (h 0 ty p refl refl) (λ z k. in_arms P vars at tys ps (λ j. h (suc j)) k) i

arms_in : (vars : List ℕ) (at : Position) (tys ps : List ℕ) (j to c : ℕ) → nth tys j ≡ some to → nth ps j ≡ some c
    → In (site (vars ++ to ∷ []) at c) (arm_sites vars at tys ps)
unfolding arm_sites nth
arms_in vars at [] ps j to c e f = absurd (none-ne-some to e)
arms_in vars at (ty ∷ tys) [] j to c e f = absurd (none-ne-some c f)
arms_in vars at (ty ∷ tys) (p ∷ ps) zero to c e f = rw (some-injective ty to e, some-injective p c f) (here _)
arms_in vars at (ty ∷ tys) (p ∷ ps) (suc j) to c e f = later _ _ (arms_in vars at tys ps j to c e f)

form_child : (g t : List ℕ) (f : Form) (x : Site) {y : Site} → form_of t x.node ≡ f → In y (sites_of g t f x) → ChildAt g t x y
unfolding sites_of site
form_child g t Build x f i =
    let (q, there, j) = found_in (production g (field_b t x.node)) _ i in
    in_sites (ChildAt g t x) x.vars _ (positions_of _) (λ e at c. build_child x.position at e q c f there) j
form_child g t Literal x f i = elim i [ ]
form_child g t Place x f i = elim i [ ]
form_child g t Expand x f i = elim i [ ]
form_child g t If x f i =
    let (n, asked, j) = found_in (asks_nonterminal x.position) _ i in
    let a = asked_text x.position n asked in
    in_cons (ChildAt g t x) (first_branch x.position n f a)
    (λ z. in_cons (ChildAt g t x) (second_branch x.position n f a) (λ w k. elim k [ ])) j
form_child g t For x f i =
    let (n, asked, j) = found_in (asks_item x.position) _ i in
    let (ty, h, k) = found_in (path_type t x.vars (path x.node)) _ j in
    let (item, is, l) = found_in (item_type (type_of t ty)) _ k in
    in_cons (ChildAt g t x)
    (subst (λ (at : Position). ChildNode g t x.vars x.node at (x.vars ++ item ∷ []) (first x.node) (Nonterminal n))
    (sym (asked_item x.position n asked)) (loop_body n ty item f ((path_exactly t _ _ ty).0 h) (item_type_lem _ item is)))
    (λ z m. elim m [ ]) l
form_child g t Sequence x f i =
    let (n, asked, j) = found_in (asks_repetition x.position) _ i in
    map_in (ChildAt g t x) (site x.vars (Item n)) (nodes t x.node)
    (λ c k. subst (λ (at : Position). ChildNode g t x.vars x.node at x.vars c (Item n)) (sym (asked_repetition x.position n asked))
    (sequence_item n c f k)) j
form_child g t Match x f i =
    let (n, asked, j) = found_in (asks_nonterminal x.position) _ i in
    let (ty, h, k) = found_in (path_type t x.vars (path x.node)) _ j in
    let (tys, is, l) = found_in (case_types (type_of t ty)) _ k in
    in_arms (ChildAt g t x) x.vars (Nonterminal n) tys (arms t x.node)
    (λ m to c. match_arm x.position n ty m to c tys f (asked_text x.position n asked) ((path_exactly t _ _ ty).0 h) (case_types_lem _ tys is)) l
form_child g t Unknown x f i = elim i [ ]

child_form : {g t vars vars' : List ℕ} {p c : ℕ} {at at' : Position} → ChildNode g t vars p at vars' c at'
    → In (site vars' at' c) (sites_below g t (site vars at p))
unfolding sites_below sites_of site asks_item asks_repetition item_type case_types on_found
child_form {vars = vars} (build_child at at' el q c f e k a) = rw (f, e) (sites_in vars k a)
child_form (first_branch at n f a) = rw (f, text_asked a) (here _)
child_form (second_branch at n f a) = rw (f, text_asked a) (later _ _ (here _))
child_form {t = t} {vars} {p = p} (loop_body n ty item f h e) = rw (f, (path_exactly t vars (path p) ty).1 h, e) (here _)
child_form {vars = vars} (sequence_item n c f i) = rw f (in_map (site vars (Item n)) i)
child_form {t = t} {vars} {p = p} (match_arm at n ty j to c tys f a h e k l) =
    rw (f, text_asked a, (path_exactly t vars (path p) ty).1 h, e) (arms_in vars (Nonterminal n) tys (arms t p) j to c k l)

pub child_exactly : (g t : List ℕ) (x y : Site) → In y (sites_below g t x) ↔ ChildAt g t x y
unfolding sites_below site
child_exactly g t x y = (form_child g t (form_of t x.node) x refl, child_form)

-- where the nodes of a template stand
below_stands : {g t : List ℕ} {p d : ℕ} {x y : Site} → Stands g t p x.vars x.node x.position → Below (sites_below g t) x d y
    → Stands g t p y.vars y.node y.position
below_stands s (itself x) = s
below_stands {g} {t} s (under x c y d i b) = below_stands (below _ _ _ _ _ _ s ((child_exactly g t x c).0 i)) b

stands_below : {g t vars : List ℕ} {p q : ℕ} {at : Position} → Stands g t p vars q at → (d : ℕ) × Below (sites_below g t) (body_site t p) d (site vars at q)
unfolding body_site
stands_below s = go s
  where
    go : {g t : List ℕ} {p : ℕ} {vars : List ℕ} {q : ℕ} {at : Position} → Stands g t p vars q at
        → (d : ℕ) × Below (sites_below g t) (body_site t p) d (site vars at q)
    go the_body = (0, itself _)
    go (below vars vars' q c at at' s k) = let (d, b) = go s in (suc d, below_more b (child_form k))

pub stands_exactly : (g t : List ℕ) (p : ℕ) (x : Site) → ((d : ℕ) × Below (sites_below g t) (body_site t p) d x) ↔ Stands g t p x.vars x.node x.position
unfolding body_site site
stands_exactly g t p x = (λ b. below_stands the_body b.1, stands_below)
