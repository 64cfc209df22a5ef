-- 02 g, sentence by sentence, of variants, cases and arms: how many cases, of which types, which case a value is, what an arm counts as, and the steps of a match.
use Rattle.std.specs.Prelude.{◌≡◌, refl, ℕ, suc, ◌≤◌, List, [], ◌∷◌, ◌++◌}
use Rattle.std.proofs.Common.{sym, ◌∙◌, ap, subst, arith}
use Rattle.std.proofs.Math.Option.{some, none, some-injective, none-ne-some}
use Rattle.rules.specs.Records.{kind_of, field_a, field_b, field_d, nth}
use Rattle.rules.specs.Grammar.{Element}
use Rattle.rules.specs.Templates.{cases, types, type, type_of, field_heads, templates, body, form_of, nodes_below, path, arms}
use Rattle.rules.specs.Value.{content}
use Rattle.rules.specs.Layout.{layout_fault, templates_layout}
use Rattle.rules.specs.Answers
use Rattle.rules.specs.declared.Form.TheVariants.{Match}
use Rattle.laws.specs.Faults.{In, here, later, nth_in, need_some}
use Rattle.theorems.specs.Streams.{WellSized}
use Rattle.theorems.specs.LaidOut
use Rattle.theorems.specs.LaidOut.{TypeAt}
use Rattle.theorems.specs.LayoutExactly.{templates_laid_exactly}
use Rattle.theorems.specs.Follows.{HeadsOf, no_head, one_head, templates_follow}
use Rattle.theorems.specs.Finds.{Finds, path_found}
use Rattle.theorems.specs.OwnRule.{OfForm, a_text, a_yes_no, a_list, a_record, a_case, ShouldBe}
use Rattle.theorems.specs.Around.{Around, in_an_arm}
use Rattle.theorems.specs.Offences.{TemplatesUnnamed, in_type, by_field, Mistyped, not_of_type, OverLimits, a_template, over_16_loops}
use Rattle.theorems.specs.Evaluation.{Evaluates, build, literal, place, expand, then, else, sequence, match}

-- a type that is laid out, of form 4
few_cases : {t : List ℕ} {p q : ℕ} → TypeAt t p q → field_a t p ≡ 4 → (1 ≤ field_d t p) × (field_d t p ≤ 256)
few_cases (LaidOut.a_text p k a c d) v = absurd (omega (arith, a, v))
few_cases (LaidOut.a_yes_no p k a b c d) v = absurd (omega (arith, a, v))
few_cases (LaidOut.a_list p k a c d) v = absurd (omega (arith, a, v))
few_cases (LaidOut.a_record p q k a b c fs) v = absurd (omega (arith, a, v))
few_cases (LaidOut.a_variant p q k a b c l m fs) v = (l, m)

head_in : {Thing : ℕ → ℕ → Type 0} {p q r : ℕ} {ps : List ℕ} → HeadsOf Thing ps p q → In r ps → (s : ℕ) × Thing r s
head_in (no_head p) i = elim i [ ]
head_in (one_head p q r ps x xs) (here qs) = (q, x)
head_in (one_head p q r ps x xs) (later u us i) = head_in xs i

-- "Type form 4 is a variant with d cases (1 to 256, else 3)": type n of form 4, whose head is at p
pub no_such_number_of_cases : (t : List ℕ) → WellSized t → (n p : ℕ) → type t n ≡ some p → field_a t p ≡ 4
    → ((1 ≤ field_d t p) × (field_d t p ≤ 256) → ⊥) → templates_layout t ≡ some 0
unfolding templates_layout layout_fault type
no_such_number_of_cases t w n p e v h =
    need_some _ 0 λ z. let f = templates_follow t w ((templates_laid_exactly t w).0 z) in h (few_cases (head_in f.all_types (nth_in (types t) n p e)).1 v)

-- "one field record each, every case an earlier type": 5 is met at the case that names no earlier one, as at a record's field
pub case_of_no_earlier_type : (g t : List ℕ) (n p c : ℕ) → type t n ≡ some p → In c (field_heads t p) → n ≤ field_b t c → TemplatesUnnamed g t c
case_of_no_earlier_type g t n p c e i l = in_type n p c e (by_field c i l)

-- "it is of the variant if there is such a case": where there is none, or the value is no case at all, 8 is met at it
no_case : {g t v tys : List ℕ} {ty w : ℕ} → type_of t ty ≡ cases tys → OfForm g t v ty w → (kind_of v w ≡ 5) × (nth tys (field_a v w) ≡ none → ⊥)
no_case is (a_text c e k l) = absurd (let z : ◌≡◌ {A = ℕ} 0 1 = cc in omega arith)
no_case is (a_yes_no e k) = absurd (let z : ◌≡◌ {A = ℕ} 0 1 = cc in omega arith)
no_case is (a_list item e k) = absurd (let z : ◌≡◌ {A = ℕ} 0 1 = cc in omega arith)
no_case is (a_record us e k l) = absurd (let z : ◌≡◌ {A = ℕ} 0 1 = cc in omega arith)
no_case {v = v} {tys} {w = w} is (a_case to us e k l) = let z : us ≡ tys = cc in
    (k, λ h. none-ne-some to (sym h ∙ ap (λ (ts : List ℕ). nth ts (field_a v w)) (sym z) ∙ l))

pub no_such_case : (g t v : List ℕ) (ty w : ℕ) (tys : List ℕ) → ShouldBe t v ty w → type_of t ty ≡ cases tys → nth tys (field_a v w) ≡ none → Mistyped g t v w
no_such_case g t v ty w tys s e h = not_of_type ty w s λ o. (no_case e o).1 h

pub no_case_at_all : (g t v : List ℕ) (ty w : ℕ) (tys : List ℕ) → ShouldBe t v ty w → type_of t ty ≡ cases tys → (kind_of v w ≡ 5 → ⊥) → Mistyped g t v w
no_case_at_all g t v ty w tys s e h = not_of_type ty w s λ o. h (no_case e o).0

-- "An arm counts as a loop toward the limit of 16": where 16 stand around a match, 4 is met at its arms
pub seventeenth_arm : (t : List ℕ) (p n q c : ℕ) → In p (templates t) → Around t (body t p) n q → 16 ≤ n → form_of t q ≡ Match → In c (nodes_below t q)
    → OverLimits (Answers.templates t) c
seventeenth_arm t p n q c i a l m b = a_template t p c i (over_16_loops (suc n) c (in_an_arm n q c a m b) (omega arith))

-- "its step count is one plus the arm taken": and its text is the arm's
pub match_steps : {g t v env : List ℕ} {e : Element} {p w arm : ℕ} {x : List ℕ} {n : ℕ} → form_of t p ≡ Match → Finds t v env (path p) w
    → nth (arms t p) (field_a v w) ≡ some arm → Evaluates g t v env e p x n → (m : ℕ) × (n ≡ suc m) × Evaluates g t v (env ++ content w ∷ []) e arm x m
match_steps m h y (build f q b) = absurd (let z : ◌≡◌ {A = ℕ} 0 1 = cc in omega arith)
match_steps m h y (literal f) = absurd (let z : ◌≡◌ {A = ℕ} 0 1 = cc in omega arith)
match_steps m h y (place f k l o) = absurd (let z : ◌≡◌ {A = ℕ} 0 1 = cc in omega arith)
match_steps m h y (expand f q k o) = absurd (let z : ◌≡◌ {A = ℕ} 0 1 = cc in omega arith)
match_steps m h y (then f k l a o) = absurd (let z : ◌≡◌ {A = ℕ} 0 1 = cc in omega arith)
match_steps m h y (else f k l a o) = absurd (let z : ◌≡◌ {A = ℕ} 0 1 = cc in omega arith)
match_steps m h y (sequence f is) = absurd (let z : ◌≡◌ {A = ℕ} 0 1 = cc in omega arith)
match_steps {g} {t} {v} {env} {e} {p} {w} {arm} {x} m h y (match {w = u} {arm = c} {n = k} f j l z o) =
    let same : u ≡ w = some-injective u w (sym (path_found j) ∙ path_found h) in
    let taken : c ≡ arm = some-injective c arm (sym z ∙ ap (λ (i : ℕ). nth (arms t p) (field_a v i)) same ∙ y) in
    (k, refl, subst (λ (i : ℕ). Evaluates g t v (env ++ content i ∷ []) e arm x k) same (subst (λ (i : ℕ). Evaluates g t v (env ++ content u ∷ []) e i x k) taken o))
