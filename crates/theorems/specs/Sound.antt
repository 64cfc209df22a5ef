-- Soundness: where the typing finds no fault and the value is of its declared type, the walk is never stuck, and a finished text is derived.
-- (Goes on in proofs/Sound.antt.)
use Rattle.std.specs.Prelude.{◌≡◌, refl, Bool}
use Rattle.std.proofs.Common.{subst}
use Prim.Native.Nat.{ℕ, zero, suc}
use mathlib.Core.List.{List, [], ◌∷◌, ◌++◌}
use Rattle.std.proofs.Math.Option.{none, some, none-ne-some, some-injective}
use Rattle.rules.specs.Faults.{on_found}
use Rattle.rules.specs.Records.{nth}
use Rattle.rules.specs.Templates.{TypeForm, text, yes_no, list, fields, cases, no_type, type_of}
use Rattle.rules.specs.Value.{as_text, as_yes_no, as_list, as_record, as_case, Case}
use Rattle.rules.specs.Typing.{templates_typing, value_typing}
use Rattle.rules.specs.Walk.{Input, value_along, path_value, path_values}
use Rattle.rules.specs.declared.Position.TheVariants.{Nonterminal}
use Rattle.theorems.specs.Lexemes.{PlainLexeme}
use Rattle.theorems.specs.Judgement.{Along, arrived, a_field, PathTyped, Arguments, no_argument, an_argument}
use Rattle.theorems.specs.Judgement.{Suits}
use Rattle.theorems.specs.Judgement.{Arms, no_arm, an_arm}
use Rattle.theorems.specs.Judgement.{OfType, of_text, of_yes_no, of_list, of_record, of_case, AllOf, EachOf, no_field}
use Rattle.theorems.specs.Finds.{kind_of_lem}

-- What the walk finds at a value of a type, by the type's form
abbrev Shaped : List ℕ → List ℕ → List ℕ → ℕ → TypeForm → Type 0
Shaped g t v w (text c) = (x : List ℕ) × (as_text v w ≡ some x) × PlainLexeme g c x
Shaped g t v w yes_no = (yes? : Bool) × (as_yes_no v w ≡ some yes?)
Shaped g t v w (list ty) = (ws : List ℕ) × (as_list v w ≡ some ws) × AllOf g t v ty ws
Shaped g t v w (fields tys) = (ws : List ℕ) × (as_record v w ≡ some ws) × EachOf g t v tys ws
Shaped g t v w (cases tys) = (c : Case) × (as_case v w ≡ some c) × (to : ℕ) × (nth tys c.number ≡ some to) × OfType g t v to c.inside
Shaped g t v w no_type = ⊥

of_form : {g t v : List ℕ} {ty w : ℕ} → OfType g t v ty w → Shaped g t v w (type_of t ty)
unfolding as_text as_yes_no as_list as_record as_case
of_form {v} (of_text ty w c f k e) = rw f (_, kind_of_lem v w 1 _ k, e)
of_form {v} (of_yes_no ty w f k) = rw f (_, kind_of_lem v w 2 _ k)
of_form {v} (of_list ty w item f k e) = rw f (_, kind_of_lem v w 3 _ k, e)
of_form {v} (of_record ty w tys f k e) = rw f (_, kind_of_lem v w 4 _ k, e)
of_form {v} (of_case ty w to tys f k e o) = rw f (_, kind_of_lem v w 5 _ k, to, e, o)

pub shaped : {g t v : List ℕ} {ty w : ℕ} (f : TypeForm) → OfType g t v ty w → type_of t ty ≡ f → Shaped g t v w f
shaped {g} {t} {v} {w = w} f o e = subst (Shaped g t v w) e (of_form o)

-- the variables' values are of the variables' types, one by one; a loop's item or a case's content is one more
each_nth : {g t v tys ws : List ℕ} (j ty : ℕ) → EachOf g t v tys ws → nth tys j ≡ some ty → (w : ℕ) × (nth ws j ≡ some w) × OfType g t v ty w
unfolding nth
each_nth j ty no_field e = absurd (none-ne-some ty e)
each_nth {g} {t} {v} zero ty (a_field ty' w tys ws o h) e = (w, refl, subst (λ x. OfType g t v x w) (some-injective ty' ty e) o)
each_nth (suc j) ty (a_field ty' w tys ws o h) e = each_nth j ty h e

pub each_more : {g t v tys ws : List ℕ} {ty w : ℕ} → EachOf g t v tys ws → OfType g t v ty w → EachOf g t v (tys ++ ty ∷ []) (ws ++ w ∷ [])
each_more {ty} {w} no_field o = a_field ty w [] [] o no_field
each_more (a_field ty w tys ws o h) o' = a_field ty w _ _ o (each_more h o')

-- a path finds a value of the type that it finds
along_of : {g t v js : List ℕ} {ty to w : ℕ} → Along t js ty to → OfType g t v ty w → (u : ℕ) × (value_along v js w ≡ some u) × OfType g t v to u
unfolding value_along on_found
along_of {w} (arrived ty) o = (w, refl, o)
along_of (a_field j ty next to js tys f e h) o =
    let r = shaped (fields tys) o f in
    let c = each_nth j next r.2 e in
    let u = along_of h c.2 in
    (u.0, rw (r.1, c.1) u.1, u.2)

pub path_of : {g t v vars env : List ℕ} {p ty : ℕ} → PathTyped t vars p ty → EachOf g t v vars env → (w : ℕ) × (path_value t v env p ≡ some w) × OfType g t v ty w
unfolding path_value on_found
path_of e h =
    let c = each_nth _ _ h e.variable_there in
    let u = along_of e.along c.2 in
    (u.0, rw c.1 u.1, u.2)

pub arguments_of : {g t v vars env ps tys : List ℕ} → Arguments t vars ps tys → EachOf g t v vars env
    → (ws : List ℕ) × (path_values t v env ps ≡ some ws) × EachOf g t v tys ws
unfolding path_values on_found
arguments_of no_argument h = ([], refl, no_field)
arguments_of (an_argument p ty ps tys e es) h =
    let w = path_of e h in
    let ws = arguments_of es h in
    (w.0 ∷ ws.0, rw (w.1, ws.1), a_field ty w.0 tys ws.0 w.2 ws.2)

-- there is an arm for each case, and it suits its position with that case's content as one variable more
pub arm_there : {g t vars tys ps : List ℕ} {n : ℕ} (j to : ℕ) → Arms g t vars n tys ps → nth tys j ≡ some to
    → (arm : ℕ) × (nth ps j ≡ some arm) × Suits g t (vars ++ to ∷ []) arm (Nonterminal n)
unfolding nth
arm_there j to (no_arm vars n) e = absurd (none-ne-some to e)
arm_there {g} {t} zero to (an_arm vars n ty p tys ps su as') e =
    (p, refl, subst (λ (x : ℕ). Suits g t (vars ++ x ∷ []) p (Nonterminal n)) (some-injective ty to e) su)
arm_there (suc j) to (an_arm vars n ty p tys ps su as') e = arm_there j to as' e

-- the check of typing accepts, and the value is of its declared type
pub record WellTyped (i : Input) : Type 0 where
  pub set_typed : templates_typing i.grammar i.templates ≡ none
  pub value_typed : value_typing i.grammar i.templates i.value ≡ none
