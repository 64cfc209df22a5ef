-- Why "24 for each depth" is enough: in templates that meet neither 4 nor 7 an expand has at most 8 paths, one for each parameter.
-- (In proofs/, as it rests on definitions that a must-fail edit changes.)
use Rattle.std.specs.Prelude.{◌≡◌, refl, ℕ, suc, ◌+◌, ◌≤◌, List, [], ◌∷◌, true, length}
use Rattle.std.proofs.Common.{subst, ap, ◌∙◌, arith}
use Rattle.std.proofs.Math.Option.{none, some}
use Rattle.rules.specs.Records.{field_a, field_b, field_d, row, nth}
use Rattle.rules.specs.Grammar.{Element}
use Rattle.rules.specs.Templates.{template, templates, parameters, parameter_heads, body, form_of, nodes_of, nodes_below, paths, arms}
use Rattle.rules.specs.Limits.{templates_limits}
use Rattle.rules.specs.Typing.{Site, site, suits, suits_form, templates_typing}
use Rattle.rules.specs.declared.Form.{Form}
use Rattle.rules.specs.declared.Form.TheVariants.{Expand}
use Rattle.rules.specs.declared.Position.{Position}
use Rattle.laws.specs.Faults.{In, here, later, nth_in, Below, itself, under}
use Rattle.laws.specs.Lists.{length_map}
use Rattle.laws.specs.Rows.{length_heads}
use Rattle.theorems.specs.LimitsExactly.{TemplateWithin}
use Rattle.theorems.proofs.LimitsExactly.{limits_exactly}
use Rattle.theorems.specs.Children.{Asks, OneEach, nothing_left, no_child_for, one_child_for, ChildFor, this_child, past_keyword, past_child}
use Rattle.theorems.specs.Judgement.{Arguments, no_argument, an_argument}
use Rattle.theorems.specs.OwnRule.{Fits, a_build, a_literal, a_place, an_expand, an_if, a_for, a_sequence, ChildNode, build_child, first_branch, second_branch, loop_body, sequence_item, Stands, the_body, below, a_match, match_arm}
use Rattle.theorems.specs.HeadByHead.{in_cons}
use Rattle.theorems.specs.OwnRuleExactly.{FitsAt, expand_right}
use Rattle.theorems.proofs.OwnRuleExactly.{fits_exactly}
use Rattle.theorems.specs.TypingExactly.{EachFits}
use Rattle.theorems.proofs.TypingExactly.{typing_exactly, judged_node_by_node}
use Rattle.theorems.specs.Least.{in_none}

-- Where a node fits, each node directly below it is a child with variables and a position
abbrev ChildSomehow : List ℕ → List ℕ → List ℕ → ℕ → Position → ℕ → Type 0
ChildSomehow g t vars p at c = (vars' : List ℕ) × (at' : Position) × ChildNode g t vars p at vars' c at'

each_child : {es : List Element} {cs : List ℕ} {c : ℕ} → OneEach es cs → In c cs → (e : Element) × (at : Position) × ChildFor es cs e c × Asks e at
each_child nothing_left i = elim i [ ]
each_child (no_child_for x es cs o) i = let (e, at, k, a) = each_child o i in (e, at, past_keyword x e _ es cs k, a)
each_child (one_child_for e at c es cs a o) (here ds) = (e, at, this_child e at c es cs a, a)
each_child (one_child_for e at c es cs a o) (later d ds i) = let (e', at', k, b) = each_child o i in (e', at', past_child e' e at _ c es cs a k, b)

each_case : {c : ℕ} (tys ps : List ℕ) → length ps ≡ length tys → In c ps → (j to : ℕ) × (nth tys j ≡ some to) × (nth ps j ≡ some c)
unfolding nth
each_case [] [] l i = elim i [ ]
each_case [] (p ∷ ps) l i = absurd (omega arith)
each_case (ty ∷ tys) [] l i = elim i [ ]
each_case (ty ∷ tys) (p ∷ ps) l (here qs) = (0, ty, refl, refl)
each_case (ty ∷ tys) (p ∷ ps) l (later q qs i) = let (j, to, x, y) = each_case tys ps (omega arith) i in (suc j, to, x, y)

fits_below : {g t vars : List ℕ} {p c : ℕ} {at : Position} → Fits g t vars p at → In c (nodes_below t p) → ChildSomehow g t vars p at c
unfolding nodes_below nodes_of
fits_below {vars = vars} (a_build at q f e a o) i = let (el, at', k, b) = each_child o (rw f at i) in (vars, at', build_child at at' el q _ f e k b)
fits_below (a_literal c f l) i = absurd (in_none (rw f at i))
fits_below (a_place c d ty f h e k) i = absurd (in_none (rw f at i))
fits_below (an_expand at q f e a as') i = absurd (in_none (rw f at i))
fits_below {g} {t} {vars} {p} (an_if at n ty f a h e) i =
    in_cons (ChildSomehow g t vars p at) (vars, _, first_branch at n f a)
    (λ c. in_cons (ChildSomehow g t vars p at) (vars, _, second_branch at n f a) (λ d j. elim j [ ])) (rw f at i)
fits_below {g} {t} {vars} {p} {at = at} (a_for n ty item f h e) i =
    in_cons (ChildSomehow g t vars p at) (_, _, loop_body n ty item f h e) (λ c j. elim j [ ]) (rw f at i)
fits_below {vars = vars} (a_sequence n f) i = (vars, _, sequence_item n _ f (rw f at i))
fits_below {t = t} {p = p} {c = c} (a_match at n ty tys f a h e l) i =
    let (j, to, x, y) = each_case tys (arms t p) l (rw f at i) in (_, _, match_arm at n ty j to c tys f a h e x y)

-- so every node stands somewhere, and fits there
node_fits : {g t : List ℕ} {p q c d : ℕ} {vars : List ℕ} {at : Position} → EachFits g t → In p (templates t) → Stands g t p vars q at
    → Below (nodes_below t) q d c → (vars' : List ℕ) × (at' : Position) × Fits g t vars' c at'
node_fits h i s (itself q) = (_, _, h.fits _ _ _ _ i s)
node_fits h i s (under q c r d j b) = let (vars', at', k) = fits_below (h.fits _ _ _ _ i s) j in node_fits h i (below _ _ _ _ _ _ s k) b

-- one path for each parameter
arguments_length : {t vars ps tys : List ℕ} → Arguments t vars ps tys → length ps ≡ length tys
arguments_length no_argument = refl
arguments_length (an_argument p ty ps tys h as') = ap suc (arguments_length as')

paths_length : (t : List ℕ) (p : ℕ) → length (paths t p) ≡ field_d t p
unfolding paths row
paths_length t p = length_heads (λ x. 1) (field_d t p) (p + 1)

parameters_length : (t : List ℕ) (q : ℕ) → length (parameters t q) ≡ field_a t q
unfolding parameters parameter_heads row
parameters_length t q = length_map (field_b t) (parameter_heads t q) ∙ length_heads (λ x. 1) (field_a t q) (q + 1)

-- an expand that fits, of templates within the limits
few_paths : (g t : List ℕ) (x : Site) → ((q : ℕ) → In q (templates t) → TemplateWithin t q) → FitsAt g t x → form_of t x.node ≡ Expand → field_d t x.node ≤ 8
unfolding template suits
few_paths g t x within h e =
    let (q, there, a, as') = expand_right g t x (subst (λ (f : Form). suits_form g t f x ≡ true) e ((fits_exactly g t x).1 h)) in
    let l = (within q (nth_in (templates t) _ q there)).parameters_few in
    let k = arguments_length as' in
    let m = paths_length t x.node in
    let o = parameters_length t q in
    omega arith

pub paths_few : (g t : List ℕ) → templates_limits t ≡ none → templates_typing g t ≡ none → (p d q : ℕ) → In p (templates t)
    → Below (nodes_below t) (body t p) d q → form_of t q ≡ Expand → field_d t q ≤ 8
unfolding site
paths_few g t e h p d q i b x =
    let within = (limits_exactly t).0 e in
    let (vars, at, f) = node_fits ((judged_node_by_node g t within).0 ((typing_exactly g t within).0 h)) i the_body b in
    few_paths g t (site vars at q) within f x
