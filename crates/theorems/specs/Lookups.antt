-- What a type, a path and a position give, exactly: the lookups of `rules` find what the judgements say.
use Rattle.std.specs.Prelude.{◌≡◌, refl, ◌↔◌, ℕ, List, [], ◌∷◌, true, eqb}
use Rattle.std.proofs.Common.{sym, ◌∙◌, ap, subst}
use Rattle.std.proofs.lemmas.Bool.{false≢true}
use Rattle.std.proofs.Math.Option.{Option, some, none-ne-some, some-injective}
use Rattle.rules.specs.Faults.{on_found}
use Rattle.rules.specs.Records.{nth}
use Rattle.rules.specs.Templates.{TypeForm, text, yes_no, list, fields, cases, no_type, type_of, variable, field_numbers}
use Rattle.rules.specs.Typing.{asks_class, asks_nonterminal, asks_repetition, asks_item, text_class, is_yes_no, item_type, field_types, type_along, path_type, arguments_fit, case_types}
use Rattle.rules.specs.declared.Position.{Position}
use Rattle.rules.specs.declared.Position.TheVariants.{Class, Nonterminal, Repetition, Item, Nothing}
use Rattle.laws.specs.Faults.{on_found_true, on_found_some, and_iff, eqb_iff}
use Rattle.theorems.specs.Judgement.{Along, arrived, a_field, PathTyped, Arguments, no_argument, an_argument}
use Rattle.theorems.specs.OwnRule.{AsksText, in_its_position, in_a_sequence}

-- what a type is, from what it gives
pub text_class_lem : (f : TypeForm) (c : ℕ) → text_class f ≡ some c → f ≡ text c
unfolding text_class
text_class_lem (text d) c e = ap text (some-injective d c e)
text_class_lem yes_no c e = absurd (none-ne-some c e)
text_class_lem (list n) c e = absurd (none-ne-some c e)
text_class_lem (fields ns) c e = absurd (none-ne-some c e)
text_class_lem (cases ns) c e = absurd (none-ne-some c e)
text_class_lem no_type c e = absurd (none-ne-some c e)

pub yes_no_is : (f : TypeForm) → is_yes_no f ≡ true → f ≡ yes_no
unfolding is_yes_no
yes_no_is (text d) e = absurd (false≢true e)
yes_no_is yes_no e = refl
yes_no_is (list n) e = absurd (false≢true e)
yes_no_is (fields ns) e = absurd (false≢true e)
yes_no_is (cases ns) e = absurd (false≢true e)
yes_no_is no_type e = absurd (false≢true e)

pub item_type_lem : (f : TypeForm) (n : ℕ) → item_type f ≡ some n → f ≡ list n
unfolding item_type
item_type_lem (text d) n e = absurd (none-ne-some n e)
item_type_lem yes_no n e = absurd (none-ne-some n e)
item_type_lem (list m) n e = ap list (some-injective m n e)
item_type_lem (fields ns) n e = absurd (none-ne-some n e)
item_type_lem (cases ns) n e = absurd (none-ne-some n e)
item_type_lem no_type n e = absurd (none-ne-some n e)

field_types_lem : (f : TypeForm) (ns : List ℕ) → field_types f ≡ some ns → f ≡ fields ns
unfolding field_types
field_types_lem (text d) ns e = absurd (none-ne-some ns e)
field_types_lem yes_no ns e = absurd (none-ne-some ns e)
field_types_lem (list n) ns e = absurd (none-ne-some ns e)
field_types_lem (fields ms) ns e = ap fields (some-injective ms ns e)
field_types_lem (cases ms) ns e = absurd (none-ne-some ns e)
field_types_lem no_type ns e = absurd (none-ne-some ns e)

pub case_types_lem : (f : TypeForm) (ns : List ℕ) → case_types f ≡ some ns → f ≡ cases ns
unfolding case_types
case_types_lem (text d) ns e = absurd (none-ne-some ns e)
case_types_lem yes_no ns e = absurd (none-ne-some ns e)
case_types_lem (list n) ns e = absurd (none-ne-some ns e)
case_types_lem (fields ms) ns e = absurd (none-ne-some ns e)
case_types_lem (cases ms) ns e = ap cases (some-injective ms ns e)
case_types_lem no_type ns e = absurd (none-ne-some ns e)

-- paths
along_found : (t js : List ℕ) (ty to : ℕ) → type_along t js ty ≡ some to → Along t js ty to
unfolding type_along
along_found t [] ty to e = subst (λ (x : ℕ). Along t [] ty x) (some-injective ty to e) (arrived ty)
along_found t (j ∷ js) ty to e =
    let a = on_found_some (field_types (type_of t ty)) _ to e in
    let b = on_found_some (nth a.0 j) _ to a.2 in
    a_field j ty b.0 to js a.0 (field_types_lem _ a.0 a.1) b.1 (along_found t js b.0 to b.2)

found_along : {t js : List ℕ} {ty to : ℕ} → Along t js ty to → type_along t js ty ≡ some to
unfolding type_along field_types on_found
found_along (arrived ty) = refl
found_along (a_field j ty next to js tys e f h) = rw (e, f) (found_along h)

pub path_exactly : (t vars : List ℕ) (p ty : ℕ) → (path_type t vars p ≡ some ty) ↔ PathTyped t vars p ty
unfolding path_type on_found
path_exactly t vars p ty = (
  λ e. let a = on_found_some (nth vars (variable t p)) (type_along t (field_numbers t p)) ty e in
      record { from = a.0; variable_there = a.1; along = along_found t _ a.0 ty a.2 },
  λ h. rw h.variable_there (found_along h.along),
)

pub arguments_found : (t vars ps tys : List ℕ) → arguments_fit t vars ps tys ≡ true → Arguments t vars ps tys
unfolding arguments_fit
arguments_found t vars [] [] e = no_argument
arguments_found t vars [] (ty ∷ tys) e = absurd (false≢true e)
arguments_found t vars (p ∷ ps) [] e = absurd (false≢true e)
arguments_found t vars (p ∷ ps) (ty ∷ tys) e =
    let a = (and_iff _ _).0 e in
    let b = (on_found_true (path_type t vars p) (eqb ty)).0 a.0 in
    an_argument p ty ps tys ((path_exactly t vars p ty).0 (b.1 ∙ ap {B = Option ℕ} some (sym ((eqb_iff ty b.0).0 b.2)))) (arguments_found t vars ps tys a.1)

pub found_arguments : {t vars ps tys : List ℕ} → Arguments t vars ps tys → arguments_fit t vars ps tys ≡ true
unfolding arguments_fit
found_arguments no_argument = refl
found_arguments {t} {vars} (an_argument p ty ps tys h r) =
    (and_iff _ _).1 ((on_found_true (path_type t vars p) (eqb ty)).1 (ty, (path_exactly t vars p ty).1 h, (eqb_iff ty ty).1 refl), found_arguments r)

-- what a position asks for
pub asked_text : (at : Position) (n : ℕ) → asks_nonterminal at ≡ some n → AsksText at n
unfolding asks_nonterminal
asked_text (Class c) n e = absurd (none-ne-some n e)
asked_text (Nonterminal m) n e = rw (some-injective m n e) (in_its_position n)
asked_text (Repetition m) n e = absurd (none-ne-some n e)
asked_text (Item m) n e = rw (some-injective m n e) (in_a_sequence n)
asked_text Nothing n e = absurd (none-ne-some n e)

-- the very nonterminal
pub asked_same : (at : Position) (m n : ℕ) → asks_nonterminal at ≡ some n → eqb m n ≡ true → AsksText at m
asked_same at m n e h = asked_text at m (e ∙ ap {B = Option ℕ} some (sym ((eqb_iff m n).0 h)))

pub text_asked : {at : Position} {n : ℕ} → AsksText at n → asks_nonterminal at ≡ some n
unfolding asks_nonterminal
text_asked (in_its_position n) = refl
text_asked (in_a_sequence n) = refl

pub asked_class : (at : Position) (c : ℕ) → asks_class at ≡ some c → at ≡ Class c
unfolding asks_class
asked_class (Class d) c e = ap Class (some-injective d c e)
asked_class (Nonterminal n) c e = absurd (none-ne-some c e)
asked_class (Repetition n) c e = absurd (none-ne-some c e)
asked_class (Item n) c e = absurd (none-ne-some c e)
asked_class Nothing c e = absurd (none-ne-some c e)

pub asked_repetition : (at : Position) (n : ℕ) → asks_repetition at ≡ some n → at ≡ Repetition n
unfolding asks_repetition
asked_repetition (Class d) n e = absurd (none-ne-some n e)
asked_repetition (Nonterminal m) n e = absurd (none-ne-some n e)
asked_repetition (Repetition m) n e = ap Repetition (some-injective m n e)
asked_repetition (Item m) n e = absurd (none-ne-some n e)
asked_repetition Nothing n e = absurd (none-ne-some n e)

pub asked_item : (at : Position) (n : ℕ) → asks_item at ≡ some n → at ≡ Item n
unfolding asks_item
asked_item (Class d) n e = absurd (none-ne-some n e)
asked_item (Nonterminal m) n e = absurd (none-ne-some n e)
asked_item (Repetition m) n e = absurd (none-ne-some n e)
asked_item (Item m) n e = ap Item (some-injective m n e)
asked_item Nothing n e = absurd (none-ne-some n e)
