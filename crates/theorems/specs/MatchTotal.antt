-- 02 g, of matches: each takes one arm, that of its case; it stands where an if may stand; and a missing or extra arm fails typing.
-- (Goes on in proofs/MatchTotal.antt.)
use Rattle.std.specs.Prelude.{◌≡◌, ℕ, suc, List, [], ◌∷◌, ◌++◌, length, ltb}
use Rattle.std.proofs.Common.{sym, ◌∙◌, ap, arith}
use Rattle.std.proofs.Math.Option.{some, some-injective}
use Rattle.rules.specs.Records.{kind_of, field_a, nth}
use Rattle.rules.specs.Templates.{yes_no, cases, type_of, templates, form_of, path, arms}
use Rattle.rules.specs.Value.{content}
use Rattle.rules.specs.Walk.{Input, State, Asked, reached, visit}
use Rattle.rules.specs.declared.Form.TheVariants.{If, Match}
use Rattle.rules.specs.declared.Position.{Position}
use Rattle.laws.specs.Faults.{In}
use Rattle.theorems.specs.Finds.{Finds}
use Rattle.theorems.specs.Judgement.{PathTyped, Suits}
use Rattle.theorems.specs.Judgement.{EachOf}
use Rattle.theorems.specs.OwnRule.{AsksText, Fits, a_build, a_literal, a_place, an_expand, an_if, a_for, a_sequence, a_match, Stands}
use Rattle.theorems.specs.Lookups.{path_exactly}
use Rattle.theorems.specs.Offences.{Misfit, unsuited}
use Rattle.theorems.specs.Levels.{Under}

-- the node p suits a position, with values of its variables' types
pub record TypedThere (g t v : List ℕ) (p : ℕ) (env : List ℕ) : Type 0 where
  pub vars : List ℕ
  pub position : Position
  pub suits : Suits g t vars p position
  pub typed : EachOf g t v vars env

-- the match p, visited with the variables env, takes one arm: that of the number of the case that its path finds, with "the case's content" as "one more
-- variable"; "its step count is one plus the arm taken"
pub record TakesOneArm (i : Input) (a : Asked) (p : ℕ) (env : List ℕ) : Type 0 where
  pub value : ℕ
  pub arm : ℕ
  pub finds : Finds i.templates i.value env (path p) value
  pub a_case : kind_of i.value value ≡ 5
  pub of_its_number : nth (arms i.templates p) (field_a i.value value) ≡ some arm
  pub visited : (k : ℕ) (s : State)
      → visit i (suc k) a p env s ≡ reached (ltb s.steps i.fuel) p (visit i k a arm (env ++ content value ∷ [])) s
  pub no_other : {a' : Asked} {q : ℕ} {env' : List ℕ} → Under i.grammar i.templates i.value a p env a' q env'
      → (a' ≡ a) × (q ≡ arm) × (env' ≡ env ++ content value ∷ [])

-- an if that fits: its position asks for a text
if_fits : {g t vars : List ℕ} {p : ℕ} {at : Position} → Fits g t vars p at → form_of t p ≡ If → (n : ℕ) × AsksText at n
if_fits (a_build at q f e a o) m = absurd (let z : ◌≡◌ {A = ℕ} 0 1 = cc in omega arith)
if_fits (a_literal c f x) m = absurd (let z : ◌≡◌ {A = ℕ} 0 1 = cc in omega arith)
if_fits (a_place c d ty f x e k) m = absurd (let z : ◌≡◌ {A = ℕ} 0 1 = cc in omega arith)
if_fits (an_expand at q f e a as') m = absurd (let z : ◌≡◌ {A = ℕ} 0 1 = cc in omega arith)
if_fits (an_if at n ty f a x e) m = (n, a)
if_fits (a_for n ty item f x e) m = absurd (let z : ◌≡◌ {A = ℕ} 0 1 = cc in omega arith)
if_fits (a_sequence n f) m = absurd (let z : ◌≡◌ {A = ℕ} 0 1 = cc in omega arith)
if_fits (a_match at n ty tys f a x e k) m = absurd (let z : ◌≡◌ {A = ℕ} 0 1 = cc in omega arith)

-- "A match stands where an if may stand": in the position of an if that fits, a match on a variant fits, with an arm for each case; and in that of a match
-- that fits, an if on a yes/no.
pub match_where_if : {g t vars tys : List ℕ} {p q ty : ℕ} {at : Position} → Fits g t vars p at → form_of t p ≡ If
    → form_of t q ≡ Match → PathTyped t vars (path q) ty → type_of t ty ≡ cases tys → length (arms t q) ≡ length tys → Fits g t vars q at
match_where_if {tys = tys} {at = at} fits m f h e l = let (n, a) = if_fits fits m in a_match at n _ tys f a h e l

-- a match that fits, on the variant that its path finds: its position asks for a text, and it has an arm for each case
match_fits : {g t vars : List ℕ} {p : ℕ} {at : Position} → Fits g t vars p at → form_of t p ≡ Match
    → (n ty : ℕ) × (tys : List ℕ) × AsksText at n × PathTyped t vars (path p) ty × (type_of t ty ≡ cases tys) × (length (arms t p) ≡ length tys)
match_fits (a_build at q f e a o) m = absurd (let z : ◌≡◌ {A = ℕ} 0 1 = cc in omega arith)
match_fits (a_literal c f x) m = absurd (let z : ◌≡◌ {A = ℕ} 0 1 = cc in omega arith)
match_fits (a_place c d ty f x e k) m = absurd (let z : ◌≡◌ {A = ℕ} 0 1 = cc in omega arith)
match_fits (an_expand at q f e a as') m = absurd (let z : ◌≡◌ {A = ℕ} 0 1 = cc in omega arith)
match_fits (an_if at n ty f a x e) m = absurd (let z : ◌≡◌ {A = ℕ} 0 1 = cc in omega arith)
match_fits (a_for n ty item f x e) m = absurd (let z : ◌≡◌ {A = ℕ} 0 1 = cc in omega arith)
match_fits (a_sequence n f) m = absurd (let z : ◌≡◌ {A = ℕ} 0 1 = cc in omega arith)
match_fits (a_match at n ty tys f a x e k) m = (n, ty, tys, a, x, e, k)

pub if_where_match : {g t vars : List ℕ} {p q ty : ℕ} {at : Position} → Fits g t vars p at → form_of t p ≡ Match
    → form_of t q ≡ If → PathTyped t vars (path q) ty → type_of t ty ≡ yes_no → Fits g t vars q at
if_where_match {at = at} fits m f h e = let (n, ty, tys, a, x, y, l) = match_fits fits m in an_if at n _ f a h e

-- "A missing or extra arm fails typing": wherever such a match stands in a template, it offends; `check_in_order` makes 7 the answer where nothing comes first.
pub missing_or_extra_arm : (g t : List ℕ) (p q : ℕ) (vars : List ℕ) (at : Position) → In p (templates t) → Stands g t p vars q at → form_of t q ≡ Match
    → (ty : ℕ) (tys : List ℕ) → PathTyped t vars (path q) ty → type_of t ty ≡ cases tys → (length (arms t q) ≡ length tys → ⊥) → Misfit g t q
missing_or_extra_arm g t p q vars at i s m ty tys h e n = unsuited p q vars at i s λ fits.
    let (k, to, us, a, h', e', l) = match_fits fits m in
    let x : ty ≡ to = some-injective ty to (sym ((path_exactly t vars (path q) ty).1 h) ∙ (path_exactly t vars (path q) to).1 h') in
    let y : cases us ≡ cases tys = sym e' ∙ ap (type_of t) (sym x) ∙ e in
    let z : us ≡ tys = cc in
    n (l ∙ ap length z)
