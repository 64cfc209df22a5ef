-- "Places are record indexes of the first offending head": each rule's check answers the first place that offends, and none before it does.
-- Goes on from specs/FirstOffending.antt: what rests on definitions that a must-fail edit changes.
use Rattle.std.specs.Prelude.{◌≡◌, refl, ◌↔◌, ◌⊎◌, ℕ, zero, suc, ◌+◌, ◌/◌, ◌<◌, List, Bool, true, false, ◌&&◌, length, leb}
use Rattle.std.proofs.Common.{sym, ◌∙◌, subst, inl, inr, true≢false, arith, leb-false}
use Rattle.std.proofs.lemmas.Bool.{lt-leb}
use Rattle.std.proofs.Math.Option.{none}
use Rattle.rules.specs.Faults.{need, every, tree, on_found, exists, at}
use Rattle.rules.specs.Records.{field_a, field_b, field_c, row}
use Rattle.rules.specs.Blocks.{block_right, stream_blocks}
use Rattle.rules.specs.Lexeme.{lowest, highest, ranges}
use Rattle.rules.specs.Grammar.{classes}
use Rattle.rules.specs.Templates.{templates, body, nodes_below}
use Rattle.rules.specs.Value.{values_below}
use Rattle.rules.specs.Limits.{deepest, looped, looped_below, few_loops, template_limits, templates_limits, value_limits}
use Rattle.rules.specs.Classes.{range_right, class_bounds, bounds_right, grammar_classes}
use Rattle.rules.specs.Typing.{site, suits, sites_below, misfit, body_site, declared_type, templates_typing, typed, has_type, typed_below, mistyped, value_typing}
use Rattle.rules.specs.Answers
use Rattle.rules.specs.Answers.{Stream, bytes_of, layout_of, limits_of}
use Rattle.laws.specs.Faults.{In, Below, exists_iff}
use Rattle.theorems.specs.Streams.{WellSized, block_exactly, row_in, in_row}
use Rattle.theorems.specs.LaidOut.{InRow, no_thing, one_thing, GrammarLaid, TemplateAt, TemplatesLaid, ValueLaid}
use Rattle.theorems.specs.Sizes.{ranges_row}
use Rattle.theorems.specs.Heads.{class_spans}
use Rattle.theorems.proofs.Around.{around_exactly}
use Rattle.theorems.specs.LimitsExactly.{looped_below_lem, below_looped, not_deep}
use Rattle.theorems.proofs.LimitsExactly.{limits_exactly}
use Rattle.theorems.specs.ClassesExactly.{plain_bounds, escaped_bounds, class_in}
use Rattle.theorems.specs.Judgement.{Declared}
use Rattle.theorems.specs.OwnRuleExactly.{stands_exactly}
use Rattle.theorems.proofs.OwnRuleExactly.{fits_exactly}
use Rattle.theorems.specs.TypingExactly.{sites_shallow, declared_exactly}
use Rattle.theorems.specs.ValueExactly.{should_exactly, values_shallow}
use Rattle.theorems.proofs.ValueExactly.{form_exactly}
use Rattle.theorems.specs.Least.{First, Least, first_same, first_need, first_none, first_both, least_same, least_wide, least_need, rows_heads, Some, Offends, too_deep, fails, Fails, failing}
use Rattle.theorems.proofs.Least.{least_both, least_heads, least_tests, least_tree, least_shallow}
use Rattle.theorems.specs.Ranges.{AnyClass, class_rows, template_rows, standing_leading, nodes_standing, values_standing, looped_leading, sites_leading, typed_leading}
use Rattle.theorems.specs.Offences.{WrongBlock, Laid, TemplateOver, over_8_parameters, over_200_deep, over_16_loops, OverLimits, a_template, a_value, WrongClass, least_above_most, lowest_above_highest, past_unicode, Misfit, undeclared, unsuited, Mistyped, not_of_type}
use Rattle.theorems.specs.FirstOffending.{fails_iff, at_itself, PlainWrong}

-- 2
ones : (n p : ℕ) → InRow (λ p q. q ≡ p + 1) n p (p + n)
ones zero p = subst (InRow (λ p q. q ≡ p + 1) 0 p) (let z : p ≡ p + 0 = omega arith in z) (no_thing p)
ones (suc n) p =
    one_thing n p (p + 1) (p + suc n) refl
    (subst (InRow (λ p q. q ≡ p + 1) n (p + 1)) (let z : p + 1 + n ≡ p + suc n = omega arith in z) (ones n (p + 1)))

-- a test of every record in a row
pub least_row : {Thing : ℕ → ℕ → Type 0} {n p q : ℕ} → ((p q : ℕ) → Thing p q → q ≡ p + 1) → (b : ℕ → Bool) → InRow Thing n p q
    → Least (λ x. In x (row n p) × (b x ≡ false)) p q (every (λ x. need (b x) x) (row n p))
unfolding row
least_row h b r = least_tests (λ p q a. let e = h p q a in omega arith) b (rows_heads (λ q. 1) h r)

wrong_block : (kind : ℕ) (s : List ℕ) (n : ℕ) → (In n (row (length s / 512) 0) × (block_right kind s n ≡ false)) ↔ WrongBlock kind s n
wrong_block kind s n = (
  λ o. record { a_block = let r = in_row (length s / 512) 0 o.0 in omega arith; wrong = (fails_iff _ (block_exactly kind s n)).0 o.1 },
  λ w. (row_in (length s / 512) 0 n (omega arith) (let l = w.a_block in omega arith), (fails_iff _ (block_exactly kind s n)).1 w.wrong),
)

pub first_block : (kind : ℕ) (s : List ℕ) → First (WrongBlock kind s) (stream_blocks kind s)
unfolding stream_blocks
first_block kind s = first_same (wrong_block kind s) (least_row (λ p q e. e) (block_right kind s) (ones (length s / 512) 0)).first

-- 4. Of a template: its own test, and then the tree of its body
abbrev OverIn : List ℕ → ℕ → ℕ → Type 0
OverIn t p q = ((q ≡ p) × (leb (field_a t p) 8 ≡ false)) ⊎ Offends few_loops (looped_below t) (λ x. x.node) deepest (looped 0 (body t p)) q

template_over : (t : List ℕ) (p q : ℕ) → OverIn t p q → TemplateOver t p q
unfolding deepest few_loops looped
template_over t p q (inl (e, b)) = subst (TemplateOver t p) (sym e) (over_8_parameters (leb-false _ _ b))
template_over t p q (inr (too_deep d x b l)) = over_200_deep d x.node (below_looped t b) l
template_over t p q (inr (fails d x b e)) = over_16_loops x.loops x.node ((around_exactly t (body t p) x).0 (d, b)) (leb-false _ _ e)

over_template : (t : List ℕ) (p q : ℕ) → TemplateOver t p q → OverIn t p q
unfolding deepest few_loops looped
over_template t p q (over_8_parameters l) = inl (refl, lt-leb _ _ l)
over_template t p q (over_200_deep d r b l) = let (m, k) = looped_below_lem t 0 b in inr (too_deep d (looped m r) k l)
over_template t p q (over_16_loops n r a l) = let (d, b) = (around_exactly t (body t p) (looped n r)).1 a in inr (fails d (looped n r) b (lt-leb _ _ l))

least_over : (t : List ℕ) (p q : ℕ) → TemplateAt t p q → Least (TemplateOver t p) p q (template_limits t p)
unfolding template_limits body looped
least_over t p q a =
    least_same (λ q. (template_over t p q, over_template t p q))
    (least_both (least_wide (omega arith) (omega arith) (least_need _ p))
    (least_tree (standing_leading (λ x. x.node) (looped_below t) (nodes_below t) (looped_leading t) (nodes_standing t))
    few_loops deepest (looped 0 (body t p)) (p + 1 + field_a t p) q (refl, a.body)))

templates_over : (t : List ℕ) (q : ℕ) → OverLimits (Answers.templates t) q → Some (templates t) (TemplateOver t) q
templates_over t q (a_template u p x i o) = (p, i, o)

-- of a value: its tree
value_over : (v : List ℕ) (q : ℕ) → Offends (λ w. true) (values_below v) (λ w. w) deepest 0 q → OverLimits (Answers.value v) q
unfolding deepest
value_over v q (too_deep d w b l) = a_value v d w b l
value_over v q (fails d w b e) = absurd (true≢false e)

over_value : (v : List ℕ) (q : ℕ) → OverLimits (Answers.value v) q → Offends (λ w. true) (values_below v) (λ w. w) deepest 0 q
unfolding deepest
over_value v q (a_value u d w b l) = too_deep d w b l

grammar_over : (g : List ℕ) (q : ℕ) → OverLimits (Answers.grammar g) q → ⊥
grammar_over g q = elim [ ]

pub first_over : (s : Stream) → WellSized (bytes_of s) → Laid s → First (OverLimits s) (limits_of s)
unfolding bytes_of limits_of templates_limits value_limits
first_over (Answers.grammar g) w h = first_none (grammar_over g)
first_over (Answers.templates t) w h =
    first_same (λ q. (λ o. a_template t o.0 q o.1 o.2, templates_over t q))
    (least_heads (TemplateOver t) (template_limits t) (λ p q i. least_over t p q) (template_rows w h)).first
first_over (Answers.value v) w h =
    rw (← at_itself (tree (λ w. true) (values_below v) deepest 0))
    (first_same (λ q. (value_over v q, over_value v q)) (least_tree (values_standing v) (λ w. true) deepest 0 0 h.end (refl, h.value)).first)

-- after it no node is over 200 deep
pub node_shallow : (t : List ℕ) → templates_limits t ≡ none → (p : ℕ) → In p (templates t) → (d q : ℕ) → Below (nodes_below t) (body t p) d q → d < deepest
node_shallow t l p i = not_deep t p ((limits_exactly t).0 l p i)

-- 6. Of a class: its own test, and then its ranges'
abbrev ClassIn : List ℕ → ℕ → ℕ → Type 0
ClassIn g p q = ((q ≡ p) × (leb (field_b g p) (field_c g p) ≡ false)) ⊎ (In q (ranges g p) × (range_right g q ≡ false))

and_no : (b : Bool) → (b && false) ≡ false
and_no true = refl
and_no false = refl

wrong_range : (g : List ℕ) (p r : ℕ) → In r (ranges g p) → (a b : Bool) → leb (lowest g r) (highest g r) ≡ a → leb (highest g r) 0x10ffff ≡ b
    → (a && b) ≡ false → WrongClass g p r
wrong_range g p r i true b k l e = past_unicode r i (leb-false _ _ (l ∙ e))
wrong_range g p r i false b k l e = lowest_above_highest r i (leb-false _ _ k)

wrong_class : (g : List ℕ) (p q : ℕ) → ClassIn g p q → WrongClass g p q
unfolding range_right
wrong_class g p q (inl (e, b)) = subst (WrongClass g p) (sym e) (least_above_most (leb-false _ _ b))
wrong_class g p q (inr (i, b)) = wrong_range g p q i _ _ refl refl b

class_wrong : (g : List ℕ) (p q : ℕ) → WrongClass g p q → ClassIn g p q
unfolding range_right
class_wrong g p q (least_above_most l) = inl (refl, lt-leb _ _ l)
class_wrong g p q (lowest_above_highest r i l) = inr (i, rw (lt-leb (lowest g r) (highest g r) l))
class_wrong g p q (past_unicode r i l) = inr (i, rw (lt-leb (highest g r) 0x10ffff l) (and_no (leb (lowest g r) (highest g r))))

least_class : (g : List ℕ) (p q : ℕ) → AnyClass g p q → Least (WrongClass g p) p q (class_bounds g p)
unfolding class_bounds ranges
least_class g p q (n, a) =
    least_same (λ q. (wrong_class g p q, class_wrong g p q)) (least_both (least_need _ p) (least_row (λ p q r. r.end) (range_right g) (ranges_row a)))

least_plain : (g : List ℕ) (p q : ℕ) → In p (classes g) → AnyClass g p q → Least (PlainWrong g p) p q (bounds_right g p)
least_plain g p q i a = elim (class_in g i) [
  | inl k ↦ rw (plain_bounds g p k) (least_same (λ q. (λ o. (k, o), λ o. o.1)) (least_class g p q a))
  | inr k ↦ rw (escaped_bounds g p k) (record {
    ordered = let l = (class_spans a.1).grows in omega arith;
    inside = λ q o. absurd (let z = o.0 in omega arith);
    first = first_none (λ q o. let z = o.0 in omega arith);
  })
]

pub first_class : (g : List ℕ) → WellSized g → GrammarLaid g → First (Some (classes g) (PlainWrong g)) (grammar_classes g)
unfolding grammar_classes
first_class g w h = (least_heads (PlainWrong g) (bounds_right g) (least_plain g) (class_rows w h)).first

-- 7. That a type is declared, and then each template's tree
abbrev MisfitIn : List ℕ → List ℕ → ℕ → Type 0
MisfitIn g t q =
    ((q ≡ 0) × (exists (declared_type t) ≡ false)) ⊎ Some (templates t) (λ p. Fails (suits g t) (sites_below g t) (λ x. x.node) (body_site t p)) q

declared_iff : (t : List ℕ) → (exists (declared_type t) ≡ true) ↔ ((ty : ℕ) × Declared t ty)
declared_iff t = (
  λ e. let a = (exists_iff (declared_type t)).0 e in (a.0, (declared_exactly t a.0).0 a.1),
  λ d. (exists_iff (declared_type t)).1 (d.0, (declared_exactly t d.0).1 d.1),
)

misfit_to : (g t : List ℕ) (q : ℕ) → MisfitIn g t q → Misfit g t q
misfit_to g t q (inl (e, b)) = subst (Misfit g t) (sym e) (undeclared (λ ty d. (fails_iff _ (declared_iff t)).0 b (ty, d)))
misfit_to g t q (inr (p, i, failing d x b e)) =
    unsuited p x.node x.vars x.position i ((stands_exactly g t p x).0 (d, b)) ((fails_iff _ (fits_exactly g t x)).0 e)

misfit_from : (g t : List ℕ) (q : ℕ) → Misfit g t q → MisfitIn g t q
unfolding site
misfit_from g t q (undeclared n) = inl (refl, (fails_iff _ (declared_iff t)).1 (λ d. n d.0 d.1))
misfit_from g t q (unsuited p r vars at i s n) =
    let x = site vars at r in
    let (d, b) = (stands_exactly g t p x).1 s in
    inr (p, i, failing d x b ((fails_iff _ (fits_exactly g t x)).1 n))

least_unsuited : (g t : List ℕ) → templates_limits t ≡ none → (p q : ℕ) → In p (templates t) → TemplateAt t p q
    → Least (Fails (suits g t) (sites_below g t) (λ x. x.node) (body_site t p)) p q (at (λ x. x.node) (misfit g t deepest (body_site t p)))
unfolding misfit body_site site body
least_unsuited g t l p q i a =
    least_wide (omega arith) (omega arith)
    (least_shallow (standing_leading (λ x. x.node) (sites_below g t) (nodes_below t) (sites_leading g t) (nodes_standing t))
    (suits g t) deepest (body_site t p) (p + 1 + field_a t p) q (refl, a.body) (sites_shallow g t p ((limits_exactly t).0 l p i)))

pub first_misfit : (g t : List ℕ) → WellSized t → TemplatesLaid t → templates_limits t ≡ none → First (Misfit g t) (templates_typing g t)
unfolding templates_typing
first_misfit g t w h l =
    first_same (λ q. (misfit_to g t q, misfit_from g t q))
    (first_both _ _ (λ p q a b l. let e : p ≡ 0 = a.0 in omega arith) (first_need _ 0) (least_heads _ _ (least_unsuited g t l) (template_rows w h)).first)

-- 8
mistyped_to : (g t v : List ℕ) (ty : ℕ) → Declared t ty → (q : ℕ) → Fails (has_type g t v) (typed_below t v) (λ x. x.value) (typed ty 0) q → Mistyped g t v q
mistyped_to g t v ty e q (failing d x b f) =
    not_of_type x.type x.value ((should_exactly t v ty x e).0 (d, b)) ((fails_iff _ (form_exactly g t v x)).0 f)

mistyped_from : (g t v : List ℕ) (ty : ℕ) → Declared t ty → (q : ℕ) → Mistyped g t v q → Fails (has_type g t v) (typed_below t v) (λ x. x.value) (typed ty 0) q
unfolding typed
mistyped_from g t v ty e q (not_of_type to w s n) =
    let (d, b) = (should_exactly t v ty (typed to w) e).1 s in
    failing d (typed to w) b ((fails_iff _ (form_exactly g t v (typed to w))).1 n)

pub first_mistyped : (g t v : List ℕ) (ty : ℕ) → Declared t ty → ValueLaid v → value_limits v ≡ none → First (Mistyped g t v) (value_typing g t v)
unfolding value_typing mistyped on_found typed
first_mistyped g t v ty e h l =
    rw ((declared_exactly t ty).1 e)
    (first_same (λ q. (mistyped_to g t v ty e q, mistyped_from g t v ty e q))
    (least_shallow (standing_leading (λ x. x.value) (typed_below t v) (values_below v) (typed_leading t v) (values_standing v))
    (has_type g t v) deepest (typed ty 0) 0 h.end (refl, h.value) (values_shallow t v ty l)).first)
