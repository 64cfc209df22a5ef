-- What a path finds in a value, and what a value is, by its records alone; and that the walk's lookups find exactly that.
use Rattle.std.specs.Prelude.{◌≡◌, refl, ◌↔◌, ℕ, List, [], ◌∷◌, true, false, eqb}
use Rattle.std.proofs.Common.{◌∙◌, ap, subst, ne_eqb}
use Rattle.std.proofs.Math.Option.{some, some-injective}
use Rattle.std.proofs.lemmas.Bool.{eqb-false}
use Rattle.rules.specs.Faults.{on_found, only_if}
use Rattle.rules.specs.Records.{kind_of, field_a, field_b, text_of, nth}
use Rattle.rules.specs.Templates.{variable, field_numbers}
use Rattle.rules.specs.Value.{children, Case, content, as_text, as_yes_no, as_list, as_record, as_case}
use Rattle.rules.specs.Walk.{value_along, path_value, path_values}
use Rattle.laws.specs.Faults.{on_found_some, only_if_iff, eqb_iff}

-- "the variable, then field by field": from the value at w, each step goes to that field of a record, which is a 4
pub data FieldByField (v : List ℕ) : List ℕ → ℕ → ℕ → Type 0 where
  arrived : {w : ℕ} → FieldByField v [] w w
  a_field : {j w u to : ℕ} {js : List ℕ} → kind_of v w ≡ 4 → nth (children v w) j ≡ some u → FieldByField v js u to → FieldByField v (j ∷ js) w to

-- the path at p, of the templates t, finds the value at w
pub record Finds (t v env : List ℕ) (p w : ℕ) : Type 0 where
  pub from : ℕ
  pub variable_there : nth env (variable t p) ≡ some from
  pub along : FieldByField v (field_numbers t p) from w

-- paths in a row find values in a row
pub data FindsAll (t v env : List ℕ) : List ℕ → List ℕ → Type 0 where
  no_path : FindsAll t v env [] []
  one_path : {p w : ℕ} {ps ws : List ℕ} → Finds t v env p w → FindsAll t v env ps ws → FindsAll t v env (p ∷ ps) (w ∷ ws)

-- a value of a kind is what it is: a text's bytes, whether a yes/no is yes, the items of a list, the fields of a record, a case
pub of_kind_lem : {A : Type 0} (v : List ℕ) (w kind : ℕ) (a x : A) → only_if (eqb (kind_of v w) kind) a ≡ some x → (kind_of v w ≡ kind) × (a ≡ x)
of_kind_lem v w kind a x e = let r = (only_if_iff _ a x).0 e in ((eqb_iff _ _).0 r.0, r.1)

pub kind_of_lem : {A : Type 0} (v : List ℕ) (w kind : ℕ) (a : A) → kind_of v w ≡ kind → only_if (eqb (kind_of v w) kind) a ≡ some a
unfolding only_if
kind_of_lem v w kind a e = rw ((eqb_iff _ _).1 e)

kind_exactly : {A : Type 0} (v : List ℕ) (w kind : ℕ) (a x : A) → (only_if (eqb (kind_of v w) kind) a ≡ some x) ↔ ((kind_of v w ≡ kind) × (a ≡ x))
kind_exactly v w kind a x = (of_kind_lem v w kind a x, λ h. kind_of_lem v w kind a h.0 ∙ ap some h.1)

eqb_fails : (a b : ℕ) → (eqb a b ≡ false) ↔ (a ≡ b → ⊥)
eqb_fails a b = (eqb-false a b, ne_eqb a b)

module _ (v : List ℕ) (w : ℕ) where
  pub text_is : (x : List ℕ) → (as_text v w ≡ some x) ↔ ((kind_of v w ≡ 1) × (text_of v (field_b v w) w ≡ x))
  unfolding as_text
  text_is x = kind_exactly v w 1 (text_of v (field_b v w) w) x

  pub yes_is : (as_yes_no v w ≡ some true) ↔ ((kind_of v w ≡ 2) × (field_a v w ≡ 1))
  unfolding as_yes_no
  yes_is = (
    λ e. let r = (kind_exactly v w 2 _ true).0 e in (r.0, (eqb_iff _ _).0 r.1),
    λ h. (kind_exactly v w 2 _ true).1 (h.0, (eqb_iff _ _).1 h.1),
  )

  pub no_is : (as_yes_no v w ≡ some false) ↔ ((kind_of v w ≡ 2) × (field_a v w ≡ 1 → ⊥))
  unfolding as_yes_no
  no_is = (
    λ e. let r = (kind_exactly v w 2 _ false).0 e in (r.0, (eqb_fails _ _).0 r.1),
    λ h. (kind_exactly v w 2 _ false).1 (h.0, (eqb_fails _ _).1 h.1),
  )

  pub list_is : (ws : List ℕ) → (as_list v w ≡ some ws) ↔ ((kind_of v w ≡ 3) × (children v w ≡ ws))
  unfolding as_list
  list_is ws = kind_exactly v w 3 (children v w) ws

  record_is : (ws : List ℕ) → (as_record v w ≡ some ws) ↔ ((kind_of v w ≡ 4) × (children v w ≡ ws))
  unfolding as_record
  record_is ws = kind_exactly v w 4 (children v w) ws

  -- a case is of its number, and its content is its one child
  pub case_is : (c : Case) → (as_case v w ≡ some c) ↔ ((kind_of v w ≡ 5) × (record { number = field_a v w; inside = content w } ≡ c))
  unfolding as_case
  case_is c = kind_exactly v w 5 _ c

-- paths
found_along : (v js : List ℕ) (w to : ℕ) → value_along v js w ≡ some to → FieldByField v js w to
unfolding value_along
found_along v [] w to e = subst (FieldByField v [] w) (some-injective w to e) arrived
found_along v (j ∷ js) w to e =
    let a = on_found_some (as_record v w) _ to e in
    let k = (record_is v w a.0).0 a.1 in
    let b = on_found_some (nth a.0 j) _ to a.2 in
    a_field k.0 (ap (λ (ws : List ℕ). nth ws j) k.1 ∙ b.1) (found_along v js b.0 to b.2)

along_found : {v js : List ℕ} {w to : ℕ} → FieldByField v js w to → value_along v js w ≡ some to
unfolding value_along on_found
along_found arrived = refl
along_found {v} {w = w} (a_field k e h) = rw ((record_is v w _).1 (k, refl), e) (along_found h)

pub finds_exactly : (t v env : List ℕ) (p w : ℕ) → (path_value t v env p ≡ some w) ↔ Finds t v env p w
unfolding path_value on_found
finds_exactly t v env p w = (
  λ e. let a = on_found_some (nth env (variable t p)) _ w e in record { from = a.0; variable_there = a.1; along = found_along v _ a.0 w a.2 },
  λ h. rw h.variable_there (along_found h.along),
)

pub path_found : {t v env : List ℕ} {p w : ℕ} → Finds t v env p w → path_value t v env p ≡ some w
path_found {t} {v} {env} {p} {w} h = (finds_exactly t v env p w).1 h

all_found : (t v env ps ws : List ℕ) → path_values t v env ps ≡ some ws → FindsAll t v env ps ws
unfolding path_values
all_found t v env [] ws e = subst (FindsAll t v env []) (some-injective [] ws e) no_path
all_found t v env (p ∷ ps) ws e =
    let a = on_found_some (path_value t v env p) _ ws e in
    let b = on_found_some (path_values t v env ps) _ ws a.2 in
    subst (FindsAll t v env (p ∷ ps)) (some-injective _ ws b.2)
    (one_path ((finds_exactly t v env p a.0).0 a.1) (all_found t v env ps b.0 b.1))

pub paths_found : {t v env ps ws : List ℕ} → FindsAll t v env ps ws → path_values t v env ps ≡ some ws
unfolding path_values on_found
paths_found no_path = refl
paths_found (one_path h hs) = rw (path_found h, paths_found hs)

pub finds_all_exactly : (t v env ps ws : List ℕ) → (path_values t v env ps ≡ some ws) ↔ FindsAll t v env ps ws
finds_all_exactly t v env ps ws = (all_found t v env ps ws, paths_found)
