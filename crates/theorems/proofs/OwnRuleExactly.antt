-- A node's own rule and its children, exactly: the test of `rules` passes where the node fits its position, and what it looks at below are the node's children.
-- Goes on from specs/OwnRuleExactly.antt: what rests on definitions that a must-fail edit changes.
use Rattle.std.specs.Prelude.{◌≡◌, refl, ◌↔◌, ℕ, suc, ◌+◌, List, [], ◌∷◌, Bool, true, false, length}
use Rattle.std.proofs.Common.{sym, ◌∙◌, ap, arith}
use Rattle.std.proofs.lemmas.Bool.{false≢true}
use Rattle.rules.specs.Faults.{on_found, exists}
use Rattle.rules.specs.Records.{field_b, field_c, field_d}
use Rattle.rules.specs.Grammar.{plain_of, production, Element}
use Rattle.rules.specs.Templates.{type_of, form_of, nodes, path, first, arms}
use Rattle.rules.specs.Typing.{asks_class, asks_nonterminal, asks_repetition, asks_item, positions, text_class, is_yes_no, item_type, path_type, Site, site, suits_form, suits, case_types}
use Rattle.rules.specs.declared.Form.{Form}
use Rattle.rules.specs.declared.Form.TheVariants.{Build, Literal, Place, Expand, If, For, Sequence, Match, Unknown}
use Rattle.rules.specs.declared.Position.{Position}
use Rattle.laws.specs.Faults.{exists_iff, on_found_true, and_iff, eqb_iff}
use Rattle.laws.specs.Rows.{length_heads}
use Rattle.theorems.specs.Readings.{takes_is}
use Rattle.theorems.proofs.Lexemes.{lexeme_exactly}
use Rattle.theorems.specs.Children.{OneEach, nothing_left, no_child_for, one_child_for}
use Rattle.theorems.specs.Judgement.{PathTyped}
use Rattle.theorems.specs.OwnRule.{Fits, a_build, a_literal, a_place, an_expand, an_if, a_for, a_sequence, a_match}
use Rattle.theorems.specs.Lookups.{text_class_lem, yes_no_is, item_type_lem, path_exactly, found_arguments, asked_text, asked_same, text_asked, case_types_lem}
use Rattle.theorems.specs.Lookups.{asked_class, asked_repetition, asked_item}
use Rattle.theorems.specs.OwnRuleExactly.{Positions, no_position, no_position_for, one_position_for, positions_of, position_of, FitsAt, expand_right}

each_one : {es : List Element} {as' : List Position} (cs : List ℕ) → Positions es as' → length as' ≡ length cs → OneEach es cs
each_one [] no_position l = nothing_left
each_one (c ∷ cs) no_position l = absurd (omega arith)
each_one cs (no_position_for x es as' h) l = no_child_for x es cs (each_one cs h l)
each_one [] (one_position_for e at es as' a h) l = absurd (omega arith)
each_one (c ∷ cs) (one_position_for e at es as' a h) l = one_child_for e at c es cs a (each_one cs h (omega arith))

one_each : {es : List Element} {cs : List ℕ} → OneEach es cs → length (positions es) ≡ length cs
unfolding positions
one_each nothing_left = refl
one_each (no_child_for x es cs h) = one_each h
one_each (one_child_for e at c es cs a h) = rw (position_of es a) (ap suc (one_each h))

length_nodes : (t : List ℕ) (p : ℕ) → length (nodes t p) ≡ field_d t p
unfolding nodes
length_nodes t p = length_heads (field_c t) (field_d t p) (p + 1)

length_arms : (t : List ℕ) (p : ℕ) → length (arms t p) ≡ field_d t p
unfolding arms
length_arms t p = length_heads (field_c t) (field_d t p) (first p)

path_right : (t vars : List ℕ) (p : ℕ) (f : ℕ → Bool) → on_found (path_type t vars p) false f ≡ true → (ty : ℕ) × PathTyped t vars p ty × (f ty ≡ true)
path_right t vars p f e = let (ty, h, r) = (on_found_true (path_type t vars p) f).0 e in (ty, (path_exactly t vars p ty).0 h, r)

form_fits : (g t : List ℕ) (f : Form) (x : Site) → form_of t x.node ≡ f → suits_form g t f x ≡ true → FitsAt g t x
unfolding suits_form
form_fits g t Build x f e =
    let (n, asked, h) = (on_found_true (asks_nonterminal x.position) _).0 e in
    let (q, there, r) = (on_found_true (production g (field_b t x.node)) _).0 h in
    let (same, l) = (and_iff _ _).0 r in
    a_build x.position q f there (asked_same x.position (field_b g q) n asked same)
    (each_one _ (positions_of _) ((eqb_iff _ _).0 l ∙ sym (length_nodes t x.node)))
form_fits g t Literal x f e =
    let (c, asked, l) = (on_found_true (asks_class x.position) _).0 e in
    rw (asked_class x.position c asked) (a_literal c f ((lexeme_exactly g c _).0 l))
form_fits g t Place x f e =
    let (c, asked, h) = (on_found_true (asks_class x.position) _).0 e in
    let (ty, k, r) = path_right t x.vars (path x.node) _ h in
    let (d, is, same) = (on_found_true (text_class (type_of t ty)) _).0 r in
    rw (asked_class x.position c asked) (a_place c d ty f k (text_class_lem _ d is) ((takes_is g c d).0 ((eqb_iff (plain_of g c) d).0 same)))
form_fits g t Expand x f e = let (q, there, a, as') = expand_right g t x e in an_expand x.position q f there a as'
form_fits g t If x f e =
    let (n, asked, h) = (on_found_true (asks_nonterminal x.position) _).0 e in
    let (ty, k, r) = path_right t x.vars (path x.node) _ h in
    an_if x.position n ty f (asked_text x.position n asked) k (yes_no_is _ r)
form_fits g t For x f e =
    let (n, asked, h) = (on_found_true (asks_item x.position) _).0 e in
    let (ty, k, r) = path_right t x.vars (path x.node) _ h in
    let (item, is) = (exists_iff (item_type (type_of t ty))).0 r in
    rw (asked_item x.position n asked) (a_for n ty item f k (item_type_lem _ item is))
form_fits g t Sequence x f e = let (n, asked) = (exists_iff (asks_repetition x.position)).0 e in rw (asked_repetition x.position n asked) (a_sequence n f)
form_fits g t Match x f e =
    let (n, asked, h) = (on_found_true (asks_nonterminal x.position) _).0 e in
    let (ty, k, r) = path_right t x.vars (path x.node) _ h in
    let (tys, is, l) = (on_found_true (case_types (type_of t ty)) _).0 r in
    a_match x.position n ty tys f (asked_text x.position n asked) k (case_types_lem _ tys is) (length_arms t x.node ∙ sym ((eqb_iff _ _).0 l))
form_fits g t Unknown x f e = absurd (false≢true e)

fits_form : {g t vars : List ℕ} {p : ℕ} {at : Position} → Fits g t vars p at → suits g t (site vars at p) ≡ true
unfolding suits suits_form site asks_class asks_item asks_repetition text_class is_yes_no item_type case_types on_found exists
fits_form {t = t} {p = p} (a_build at q f e a o) = rw (f, text_asked a, e, (eqb_iff _ _).1 refl) ((eqb_iff _ _).1 (one_each o ∙ length_nodes t p))
fits_form {g = g} (a_literal c f l) = rw f ((lexeme_exactly g c _).1 l)
fits_form {g} {t} {vars} {p} (a_place c d ty f h e k) = rw (f, (path_exactly t vars (path p) ty).1 h, e) ((eqb_iff (plain_of g c) d).1 ((takes_is g c d).1 k))
fits_form (an_expand at q f e a as') = rw (f, text_asked a, e, (eqb_iff _ _).1 refl) (found_arguments as')
fits_form {t = t} {vars} {p} (an_if at n ty f a h e) = rw (f, text_asked a, (path_exactly t vars (path p) ty).1 h, e)
fits_form {t = t} {vars} {p} (a_for n ty item f h e) = rw (f, (path_exactly t vars (path p) ty).1 h, e)
fits_form (a_sequence n f) = rw f
fits_form {t = t} {vars} {p} (a_match at n ty tys f a h e l) =
    rw (f, text_asked a, (path_exactly t vars (path p) ty).1 h, e) ((eqb_iff _ _).1 (sym l ∙ length_arms t p))

pub fits_exactly : (g t : List ℕ) (x : Site) → (suits g t x ≡ true) ↔ FitsAt g t x
unfolding suits site
fits_exactly g t x = (form_fits g t (form_of t x.node) x refl, fits_form)
