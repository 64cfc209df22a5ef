-- Refusal 8 exactly, of a value at most 200 deep: the check finds no fault where the value is of its declared type, and nowhere else; and it is of it where every
-- value in it is, by its own rule, of the type that it should be of.
-- Goes on from specs/ValueExactly.antt: what rests on definitions that a must-fail edit changes.
use Rattle.std.specs.Prelude.{◌≡◌, refl, ◌↔◌, ℕ, suc, List, [], ◌∷◌, map, true, length}
use Rattle.std.proofs.Common.{ap, ◌∙◌, arith}
use Rattle.std.proofs.lemmas.Bool.{false≢true}
use Rattle.std.proofs.Math.Option.{none, some}
use Rattle.rules.specs.Faults.{on_found, exists}
use Rattle.rules.specs.Records.{field_b, text_of, nth}
use Rattle.rules.specs.Templates.{TypeForm, text, yes_no, list, fields, cases, no_type, type_of}
use Rattle.rules.specs.Value.{children, as_text, as_yes_no, as_list, as_record, Case, as_case}
use Rattle.rules.specs.Limits.{deepest, value_limits}
use Rattle.rules.specs.Typing.{Typed, typed, has_form, has_type, paired, typed_of, typed_below, mistyped, declared_type, value_typing}
use Rattle.laws.specs.Faults.{In, here, later, exists_iff, on_found_true, on_found_none, eqb_iff, at_none, Below}
use Rattle.theorems.proofs.Lexemes.{plain_lexeme_exactly}
use Rattle.theorems.specs.Finds.{of_kind_lem, kind_of_lem}
use Rattle.theorems.specs.Judgement.{OfType, of_text, of_yes_no, of_list, of_record, AllOf, none_left, one_of, EachOf, no_field, a_field, of_case}
use Rattle.theorems.specs.OwnRule.{OfForm, a_text, a_yes_no, a_list, a_record, ChildValue, list_item, record_field, a_case, case_content}
use Rattle.theorems.specs.HeadByHead.{in_cons, tree_judged, judged_exactly, each_exactly}
use Rattle.theorems.specs.TypingExactly.{declared_exactly}
use Rattle.theorems.specs.Least.{in_none}
use Rattle.theorems.specs.ValueExactly.{case_at, child_value_exactly, should_exactly, OfTypeAt, values_shallow, ValueTyped, EachOfForm}

-- The own rule, by the type's form
form_right : (g t v : List ℕ) (f : TypeForm) (ty w : ℕ) → type_of t ty ≡ f → has_form g v f w ≡ true → OfForm g t v ty w
unfolding has_form as_text as_yes_no as_list as_record as_case
form_right g t v (text c) ty w f e =
    let a = (on_found_true (as_text v w) _).0 e in
    let k = of_kind_lem v w 1 (text_of v (field_b v w) w) a.0 a.1 in
    a_text c f k.0 (rw k.1 ((plain_lexeme_exactly g c a.0).0 a.2))
form_right g t v yes_no ty w f e = let a = (exists_iff (as_yes_no v w)).0 e in a_yes_no f (of_kind_lem v w 2 _ a.0 a.1).0
form_right g t v (list item) ty w f e = let a = (exists_iff (as_list v w)).0 e in a_list item f (of_kind_lem v w 3 _ a.0 a.1).0
form_right g t v (fields tys) ty w f e =
    let a = (on_found_true (as_record v w) _).0 e in
    let k = of_kind_lem v w 4 (children v w) a.0 a.1 in
    a_record tys f k.0 (rw k.1 ((eqb_iff _ _).0 a.2))
form_right g t v (cases tys) ty w f e =
    let (c, a, h) = (on_found_true (as_case v w) _).0 e in
    let (k, is) = of_kind_lem v w 5 (case_at v w) c a in
    let (to, there) = (exists_iff (nth tys c.number)).0 h in
    a_case to tys f k (ap (λ (x : Case). nth tys x.number) is ∙ there)
form_right g t v no_type ty w f e = absurd (false≢true e)

right_form : {g t v : List ℕ} {ty w : ℕ} → OfForm g t v ty w → has_type g t v (typed ty w) ≡ true
unfolding has_type has_form typed as_text as_yes_no as_list as_record as_case on_found exists
right_form {g} {v = v} {w = w} (a_text c f k l) = rw (f, kind_of_lem v w 1 (text_of v (field_b v w) w) k) ((plain_lexeme_exactly g c _).1 l)
right_form {v = v} {w = w} (a_yes_no f k) = rw (f, kind_of_lem v w 2 _ k)
right_form {v = v} {w = w} (a_list item f k) = rw (f, kind_of_lem v w 3 (children v w) k)
right_form {v = v} {w = w} (a_record tys f k l) = rw (f, kind_of_lem v w 4 (children v w) k) ((eqb_iff _ _).1 l)
right_form {v = v} {w = w} (a_case to tys f k e) = rw (f, kind_of_lem v w 5 (case_at v w) k, e)

pub form_exactly : (g t v : List ℕ) (x : Typed) → (has_type g t v x ≡ true) ↔ OfForm g t v x.type x.value
unfolding has_type typed
form_exactly g t v x = (form_right g t v (type_of t x.type) x.type x.value refl, right_form)

length_each : {g t v tys ws : List ℕ} → EachOf g t v tys ws → length ws ≡ length tys
length_each no_field = refl
length_each (a_field ty w tys ws o h) = ap suc (length_each h)

type_form : {g t v : List ℕ} {ty w : ℕ} → OfType g t v ty w → OfForm g t v ty w
type_form (of_text ty w c f k l) = a_text c f k l
type_form (of_yes_no ty w f k) = a_yes_no f k
type_form (of_list ty w item f k os) = a_list item f k
type_form (of_record ty w tys f k os) = a_record tys f k (length_each os)
type_form (of_case ty w to tys f k e o) = a_case to tys f k e

all_in : {g t v : List ℕ} {ty : ℕ} {ws : List ℕ} → AllOf g t v ty ws → (y : Typed) → In y (map (typed ty) ws) → OfTypeAt g t v y
unfolding typed
all_in (none_left ty) y i = elim i [ ]
all_in {g} {t} {v} (one_of ty w ws o os) y i = in_cons (OfTypeAt g t v) o (all_in os) i

each_in : {g t v tys ws : List ℕ} → EachOf g t v tys ws → (y : Typed) → In y (paired tys ws) → OfTypeAt g t v y
unfolding paired typed
each_in no_field y i = elim i [ ]
each_in {g} {t} {v} (a_field ty w tys ws o os) y i = in_cons (OfTypeAt g t v) o (each_in os) i

type_below : {g t v : List ℕ} {ty w : ℕ} → OfType g t v ty w → (y : Typed) → In y (typed_below t v (typed ty w)) → OfTypeAt g t v y
unfolding typed_below typed_of typed as_list as_record as_case on_found
type_below (of_text ty w c f k l) y i = absurd (in_none (rw f at i))
type_below (of_yes_no ty w f k) y i = absurd (in_none (rw f at i))
type_below {v = v} (of_list ty w item f k os) y i = all_in os y (rw (f, kind_of_lem v w 3 (children v w) k) at i)
type_below {v = v} (of_record ty w tys f k os) y i = each_in os y (rw (f, kind_of_lem v w 4 (children v w) k) at i)
type_below {g} {t} {v} (of_case ty w to tys f k e o) y i = in_cons (OfTypeAt g t v) o (λ z j. elim j [ ]) (rw (f, kind_of_lem v w 5 (case_at v w) k, e) at i)

in_all : {g t v : List ℕ} (ty : ℕ) (ws : List ℕ) → ((w : ℕ) → In w ws → OfType g t v ty w) → AllOf g t v ty ws
in_all ty [] h = none_left ty
in_all ty (w ∷ ws) h = one_of ty w ws (h w (here ws)) (in_all ty ws (λ u i. h u (later w ws i)))

in_each : {g t v : List ℕ} (tys ws : List ℕ) → length ws ≡ length tys → ((j ty w : ℕ) → nth tys j ≡ some ty → nth ws j ≡ some w → OfType g t v ty w)
    → EachOf g t v tys ws
unfolding nth
in_each [] [] l h = no_field
in_each [] (w ∷ ws) l h = absurd (omega arith)
in_each (ty ∷ tys) [] l h = absurd (omega arith)
in_each (ty ∷ tys) (w ∷ ws) l h = a_field ty w tys ws (h 0 ty w refl refl) (in_each tys ws (omega arith) (λ j. h (suc j)))

form_type : {g t v : List ℕ} {ty w : ℕ} → OfForm g t v ty w → ((to u : ℕ) → ChildValue t v ty w to u → OfType g t v to u) → OfType g t v ty w
form_type {ty = ty} {w} (a_text c f k l) h = of_text ty w c f k l
form_type {ty = ty} {w} (a_yes_no f k) h = of_yes_no ty w f k
form_type {ty = ty} {w} (a_list item f k) h = of_list ty w item f k (in_all item _ (λ u i. h item u (list_item item u f k i)))
form_type {ty = ty} {w} (a_record tys f k l) h = of_record ty w tys f k (in_each tys _ l (λ j to u a b. h to u (record_field tys j to u f k a b)))
form_type {ty = ty} {w} (a_case to tys f k e) h = of_case ty w to tys f k e (h to _ (case_content to tys f k e))

type_by_parts : (g t v : List ℕ) (x : Typed) → OfTypeAt g t v x ↔ ((has_type g t v x ≡ true) × ((y : Typed) → In y (typed_below t v x) → OfTypeAt g t v y))
unfolding typed
type_by_parts g t v x = (
  λ o. ((form_exactly g t v x).1 (type_form o), type_below o),
  λ r. form_type ((form_exactly g t v x).0 r.0) (λ to u k. r.1 (typed to u) ((child_value_exactly t v x (typed to u)).1 k)),
)

pub mistyped_of : (g t v : List ℕ) (k : ℕ) (x : Typed) → mistyped g t v k x ≡ none → OfTypeAt g t v x
unfolding mistyped
mistyped_of g t v = tree_judged (has_type g t v) (typed_below t v) (OfTypeAt g t v) (type_by_parts g t v)

pub value_typed_exactly : (g t v : List ℕ) → value_limits v ≡ none → (value_typing g t v ≡ none) ↔ ValueTyped g t v
unfolding value_typing mistyped typed
value_typed_exactly g t v shallow = (
  λ e. let (ty, d, h) = (on_found_none {B = ℕ} (declared_type t) 0 _).0 e in
      record { type = ty; declares = (declared_exactly t ty).0 d; of_type = (whole ty).0 ((at_none _ _).0 h) },
  λ h. (on_found_none {B = ℕ} (declared_type t) 0 _).1 (h.type, (declared_exactly t h.type).1 h.declares, (at_none _ _).1 ((whole h.type).1 h.of_type)),
)
  where
    whole : (ty : ℕ) → (mistyped g t v deepest (typed ty 0) ≡ none) ↔ OfType g t v ty 0
    whole ty = judged_exactly (has_type g t v) (typed_below t v) (OfTypeAt g t v) (type_by_parts g t v) deepest (typed ty 0) (values_shallow t v ty shallow)

pub judged_value_by_value : (g t v : List ℕ) → value_limits v ≡ none → ValueTyped g t v ↔ EachOfForm g t v
unfolding typed
judged_value_by_value g t v shallow = (
  λ h. record {
    type = h.type;
    declares = h.declares;
    of_form = λ ty w s. let (d, b) = (should_exactly t v h.type (typed ty w) h.declares).1 s in
        (form_exactly g t v (typed ty w)).0 ((each h.type).0 h.of_type d (typed ty w) b);
  },
  λ h. record {
    type = h.type;
    declares = h.declares;
    of_type = (each h.type).1 (λ d y b. (form_exactly g t v y).1 (h.of_form y.type y.value ((should_exactly t v h.type y h.declares).0 (d, b))));
  },
)
  where
    each : (ty : ℕ) → OfType g t v ty 0 ↔ ((d : ℕ) (y : Typed) → Below (typed_below t v) (typed ty 0) d y → has_type g t v y ≡ true)
    each ty = each_exactly (has_type g t v) (typed_below t v) (OfTypeAt g t v) (type_by_parts g t v) deepest (typed ty 0) (values_shallow t v ty shallow)
