-- Refusal 8 exactly, of a value at most 200 deep: the check finds no fault where the value is of its declared type, and nowhere else; and it is of it where every
-- value in it is, by its own rule, of the type that it should be of.
-- (Goes on in proofs/ValueExactly.antt.)
use Rattle.std.specs.Prelude.{◌≡◌, refl, ◌↔◌, ℕ, zero, suc, ◌<◌, List, [], ◌∷◌, eqb}
use Rattle.std.proofs.Common.{sym, ◌∙◌}
use Rattle.std.proofs.Math.Option.{none, some, none-ne-some, some-injective}
use Rattle.rules.specs.Faults.{on_found, only_if}
use Rattle.rules.specs.Records.{kind_of, nth, field_a}
use Rattle.rules.specs.Templates.{TypeForm, text, yes_no, list, fields, cases, no_type, type_of}
use Rattle.rules.specs.Value.{children, as_list, as_record, values_below, Case, content, as_case}
use Rattle.rules.specs.Limits.{deepest, value_limits}
use Rattle.rules.specs.Typing.{Typed, typed, paired, typed_of, typed_below}
use Rattle.laws.specs.Faults.{In, here, later, in_map, Below, itself, under, tree_in}
use Rattle.theorems.specs.Finds.{of_kind_lem, kind_of_lem}
use Rattle.theorems.specs.Judgement.{OfType, Declared}
use Rattle.theorems.specs.OwnRule.{OfForm, ChildValue, list_item, record_field, ShouldBe, the_whole, inside, case_content}
use Rattle.theorems.specs.HeadByHead.{in_cons, map_in, found_in, below_more}
use Rattle.theorems.specs.TypingExactly.{declared_exactly}
use Rattle.theorems.specs.Ranges.{below_leading, typed_leading}

kind_in : {A B : Type 0} (v : List ℕ) (w kind : ℕ) (a : A) (f : A → List B) {y : B} → In y (on_found (only_if (eqb (kind_of v w) kind) a) [] f)
    → (kind_of v w ≡ kind) × In y (f a)
kind_in v w kind a f i = let (x, e, j) = found_in _ f i in let (k, l) = of_kind_lem v w kind a x e in (k, rw l j)

-- what a case is, by its record
abbrev pub case_at : List ℕ → ℕ → Case
case_at v w = record { number = field_a v w; inside = content w }

-- The children, by the type's form
abbrev Paired : List ℕ → List ℕ → Typed → Type 0
Paired tys ws y = (j : ℕ) × (nth tys j ≡ some y.type) × (nth ws j ≡ some y.value)

in_paired : (tys ws : List ℕ) {y : Typed} → In y (paired tys ws) → Paired tys ws y
unfolding paired typed nth
in_paired [] ws i = elim i [ ]
in_paired (ty ∷ tys) [] i = elim i [ ]
in_paired (ty ∷ tys) (w ∷ ws) i = in_cons (Paired (ty ∷ tys) (w ∷ ws)) (0, refl, refl) (λ z k. let (j, e, f) = in_paired tys ws k in (suc j, e, f)) i

paired_in : (tys ws : List ℕ) (j ty w : ℕ) → nth tys j ≡ some ty → nth ws j ≡ some w → In (typed ty w) (paired tys ws)
unfolding paired nth
paired_in [] ws j ty w e f = absurd (none-ne-some ty e)
paired_in (a ∷ tys) [] j ty w e f = absurd (none-ne-some w f)
paired_in (a ∷ tys) (b ∷ ws) zero ty w e f = rw (some-injective a ty e, some-injective b w f) (here _)
paired_in (a ∷ tys) (b ∷ ws) (suc j) ty w e f = later _ _ (paired_in tys ws j ty w e f)

abbrev ChildOf : List ℕ → List ℕ → ℕ → ℕ → Typed → Type 0
ChildOf t v ty w y = ChildValue t v ty w y.type y.value

form_child : (t v : List ℕ) (f : TypeForm) (ty w : ℕ) {y : Typed} → type_of t ty ≡ f → In y (typed_of v f w) → ChildOf t v ty w y
unfolding typed_of typed as_list as_record as_case
form_child t v (text c) ty w f i = elim i [ ]
form_child t v yes_no ty w f i = elim i [ ]
form_child t v (list item) ty w f i =
    let (k, j) = kind_in v w 3 (children v w) _ i in
    map_in (ChildOf t v ty w) (typed item) (children v w) (λ u l. list_item item u f k l) j
form_child t v (fields tys) ty w {y} f i =
    let (k, j) = kind_in v w 4 (children v w) _ i in
    let (n, a, b) = in_paired tys (children v w) j in
    record_field tys n y.type y.value f k a b
form_child t v (cases tys) ty w f i =
    let (k, j) = kind_in v w 5 (case_at v w) _ i in
    let (to, e, l) = found_in (nth tys (field_a v w)) _ j in
    in_cons (ChildOf t v ty w) (case_content to tys f k e) (λ z m. elim m [ ]) l
form_child t v no_type ty w f i = elim i [ ]

child_form : {t v : List ℕ} {ty w to u : ℕ} → ChildValue t v ty w to u → In (typed to u) (typed_below t v (typed ty w))
unfolding typed_below typed_of typed as_list as_record as_case on_found
child_form {v = v} {w = w} (list_item item u f k i) = rw (f, kind_of_lem v w 3 (children v w) k) (in_map (typed item) i)
child_form {v = v} {w = w} (record_field tys j to u f k a b) = rw (f, kind_of_lem v w 4 (children v w) k) (paired_in tys (children v w) j to u a b)
child_form {v = v} {w = w} (case_content to tys f k e) = rw (f, kind_of_lem v w 5 (case_at v w) k, e) (here _)

pub child_value_exactly : (t v : List ℕ) (x y : Typed) → In y (typed_below t v x) ↔ ChildOf t v x.type x.value y
unfolding typed_below typed
child_value_exactly t v x y = (form_child t v (type_of t x.type) x.type x.value refl, child_form)

-- the type that each value should be of, from the declared one
declared_one : (t : List ℕ) {ty to : ℕ} → Declared t ty → Declared t to → ty ≡ to
declared_one t {ty} {to} a b = some-injective ty to (sym ((declared_exactly t ty).1 a) ∙ (declared_exactly t to).1 b)

below_should : {t v : List ℕ} {d : ℕ} {x y : Typed} → ShouldBe t v x.type x.value → Below (typed_below t v) x d y → ShouldBe t v y.type y.value
below_should s (itself x) = s
below_should {t} {v} s (under x c y d i b) = below_should (inside _ _ _ _ s ((child_value_exactly t v x c).0 i)) b

should_below : {t v : List ℕ} {whole ty w : ℕ} → Declared t whole → ShouldBe t v ty w → (d : ℕ) × Below (typed_below t v) (typed whole 0) d (typed ty w)
should_below {t} h (the_whole ty k) = rw (declared_one t h k) (0, itself _)
should_below h (inside ty w to u s k) = let (d, b) = should_below h s in (suc d, below_more b (child_form k))

pub should_exactly : (t v : List ℕ) (ty : ℕ) (x : Typed) → Declared t ty
    → ((d : ℕ) × Below (typed_below t v) (typed ty 0) d x) ↔ ShouldBe t v x.type x.value
unfolding typed
should_exactly t v ty x h = (λ b. below_should (the_whole ty h) b.1, should_below h)

-- A value is of a type exactly where it is so by its own rule and its children are of theirs.
abbrev pub OfTypeAt : List ℕ → List ℕ → List ℕ → Typed → Type 0
OfTypeAt g t v x = OfType g t v x.type x.value

-- of a value at most 200 deep
pub values_shallow : (t v : List ℕ) (ty : ℕ) → value_limits v ≡ none → (d : ℕ) (x : Typed) → Below (typed_below t v) (typed ty 0) d x → d < deepest
unfolding value_limits typed
values_shallow t v ty l d x b = (tree_in _ _ deepest l (below_leading (λ x. x.value) (typed_below t v) (values_below v) (typed_leading t v) b)).0

-- the value is of its declared type
pub record ValueTyped (g t v : List ℕ) : Type 0 where
  pub type : ℕ
  pub declares : Declared t type
  pub of_type : OfType g t v type 0

-- The same value by value: a type is declared, and each value is by its own rule of the type that it should be of.
pub record EachOfForm (g t v : List ℕ) : Type 0 where
  pub type : ℕ
  pub declares : Declared t type
  pub of_form : (ty w : ℕ) → ShouldBe t v ty w → OfForm g t v ty w
