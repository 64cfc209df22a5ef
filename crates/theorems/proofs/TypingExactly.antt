-- Refusal 7 exactly, of templates within the limits: the check finds no fault where the judgements hold, and nowhere else; and these hold where every node fits
-- by its own rule.
-- Goes on from specs/TypingExactly.antt: what rests on definitions that a must-fail edit changes.
use Rattle.std.specs.Prelude.{◌≡◌, refl, ◌↔◌, ℕ, suc, List, [], ◌∷◌, ◌++◌, map, true, length}
use Rattle.std.proofs.Common.{ap, arith}
use Rattle.std.proofs.Math.Option.{none, some}
use Rattle.rules.specs.Faults.{on_found}
use Rattle.rules.specs.Records.{nth}
use Rattle.rules.specs.Grammar.{Element}
use Rattle.rules.specs.Templates.{templates, path}
use Rattle.rules.specs.Limits.{deepest}
use Rattle.rules.specs.Typing.{asks_nonterminal, asks_item, asks_repetition, positions, item_type, Site, site, suits, sites, sites_of, sites_below, misfit, body_site, declared_type, templates_typing, arm_sites, case_types}
use Rattle.rules.specs.declared.Position.{Position}
use Rattle.rules.specs.declared.Position.TheVariants.{Nonterminal, Item}
use Rattle.laws.specs.Faults.{need_none, need_iff, both_none, both_iff, In, here, later, every_in, in_every, exists_iff, at_none, Below}
use Rattle.theorems.specs.LimitsExactly.{TemplateWithin}
use Rattle.theorems.specs.Children.{Asks, OneEach, nothing_left, no_child_for, one_child_for, ChildFor, this_child, past_keyword, past_child}
use Rattle.theorems.specs.Judgement.{Suits, by_build, by_literal, by_place, by_expand, by_if, by_for, by_sequence, as_item, Fills, all_filled, no_child, a_child, Items, no_item, an_item, by_match, Arms, no_arm, an_arm}
use Rattle.theorems.specs.OwnRule.{AsksText, in_its_position, in_a_sequence, Fits, a_build, a_literal, a_place, an_expand, an_if, a_for, a_sequence, ChildNode, build_child, first_branch, second_branch, loop_body, sequence_item, a_match, match_arm}
use Rattle.theorems.specs.HeadByHead.{in_cons, tree_judged, judged_exactly, each_exactly}
use Rattle.theorems.specs.Lookups.{path_exactly}
use Rattle.theorems.specs.OwnRuleExactly.{position_of, child_exactly, stands_exactly}
use Rattle.theorems.proofs.OwnRuleExactly.{fits_exactly}
use Rattle.theorems.specs.Least.{in_none}
use Rattle.theorems.specs.TypingExactly.{SuitsAt, sites_shallow, declared_exactly, SetTyped, EachFits}

item_asked : {m n : ℕ} → AsksText (Nonterminal n) m → AsksText (Item n) m
item_asked (in_its_position n) = in_a_sequence n

-- so it fits
item_fits : {g t vars : List ℕ} {p n : ℕ} → Fits g t vars p (Nonterminal n) → Fits g t vars p (Item n)
item_fits (a_build at q f e a o) = a_build _ q f e (item_asked a) o
item_fits (an_expand at q f e a as') = an_expand _ q f e (item_asked a) as'
item_fits (an_if at n ty f a h e) = an_if _ n ty f (item_asked a) h e
item_fits (a_match at n ty tys f a h e l) = a_match _ n ty tys f (item_asked a) h e l

fills_one_each : {g t vars : List ℕ} {es : List Element} {cs : List ℕ} → Fills g t vars es cs → OneEach es cs
fills_one_each (all_filled vars) = nothing_left
fills_one_each (no_child vars x es cs fs) = no_child_for x es cs (fills_one_each fs)
fills_one_each (a_child vars e at c es cs a s fs) = one_child_for e at c es cs a (fills_one_each fs)

arms_length : {g t vars tys ps : List ℕ} {n : ℕ} → Arms g t vars n tys ps → length ps ≡ length tys
arms_length (no_arm vars n) = refl
arms_length (an_arm vars n ty p tys ps s as') = ap suc (arms_length as')

suits_fits : {g t vars : List ℕ} {p : ℕ} {at : Position} → Suits g t vars p at → Fits g t vars p at
suits_fits (by_build vars p n q f e b fs) = a_build (Nonterminal n) q f e (rw b (in_its_position n)) (fills_one_each fs)
suits_fits (by_literal vars p c f l) = a_literal c f l
suits_fits (by_place vars p c d ty f h e k) = a_place c d ty f h e k
suits_fits (by_expand vars p n q f e b as') = an_expand (Nonterminal n) q f e (rw b (in_its_position n)) as'
suits_fits (by_if vars p n ty f h e s₁ s₂) = an_if (Nonterminal n) n ty f (in_its_position n) h e
suits_fits (by_for vars p n ty item f h e s) = a_for n ty item f h e
suits_fits (by_sequence vars p n f is) = a_sequence n f
suits_fits (as_item vars p n s) = item_fits (suits_fits s)
suits_fits (by_match vars p n ty tys f h e as') = a_match (Nonterminal n) n ty tys f (in_its_position n) h e (arms_length as')

-- and all directly below it suits
fills_in : {g t vars : List ℕ} {es : List Element} {cs : List ℕ} → Fills g t vars es cs → (y : Site) → In y (sites vars (positions es) cs) → SuitsAt g t y
unfolding positions sites site
fills_in (all_filled vars) y i = elim i [ ]
fills_in (no_child vars x es cs fs) y i = fills_in fs y i
fills_in {g} {t} (a_child vars e at c es cs a s fs) y i = in_cons (SuitsAt g t) s (fills_in fs) (rw (position_of es a) at i)

items_in : {g t vars : List ℕ} {n : ℕ} {cs : List ℕ} → Items g t vars n cs → (y : Site) → In y (map (site vars (Item n)) cs) → SuitsAt g t y
unfolding site
items_in (no_item vars n) y i = elim i [ ]
items_in {g} {t} (an_item vars n c cs s is) y i = in_cons (SuitsAt g t) s (items_in is) i

arms_suit : {g t vars tys ps : List ℕ} {n : ℕ} → Arms g t vars n tys ps → (y : Site) → In y (arm_sites vars (Nonterminal n) tys ps) → SuitsAt g t y
unfolding arm_sites site
arms_suit (no_arm vars n) y i = elim i [ ]
arms_suit {g} {t} (an_arm vars n ty p tys ps s as') y i = in_cons (SuitsAt g t) s (arms_suit as') i

item_same : {g t vars : List ℕ} {p n : ℕ} → Suits g t vars p (Nonterminal n) → sites_below g t (site vars (Item n) p) ≡ sites_below g t (site vars (Nonterminal n) p)
unfolding sites_below sites_of site asks_nonterminal
item_same (by_build vars p n q f e b fs) = rw f
item_same (by_expand vars p n q f e b as') = rw f
item_same (by_if vars p n ty f h e s₁ s₂) = rw f
item_same (by_match vars p n ty tys f h e as') = rw f

suits_below : {g t vars : List ℕ} {p : ℕ} {at : Position} → Suits g t vars p at → (y : Site) → In y (sites_below g t (site vars at p)) → SuitsAt g t y
unfolding sites_below sites_of site asks_nonterminal asks_item asks_repetition item_type case_types on_found
suits_below (by_build vars p n q f e b fs) y i = fills_in fs y (rw (f, e) at i)
suits_below (by_literal vars p c f l) y i = absurd (in_none (rw f at i))
suits_below (by_place vars p c d ty f h e k) y i = absurd (in_none (rw f at i))
suits_below (by_expand vars p n q f e b as') y i = absurd (in_none (rw f at i))
suits_below {g} {t} (by_if vars p n ty f h e s₁ s₂) y i = in_cons (SuitsAt g t) s₁ (λ z. in_cons (SuitsAt g t) s₂ (λ w j. elim j [ ])) (rw f at i)
suits_below {g} {t} (by_for vars p n ty item f h e s) y i = in_cons (SuitsAt g t) s (λ z j. elim j [ ]) (rw (f, (path_exactly t vars (path p) ty).1 h, e) at i)
suits_below (by_sequence vars p n f is) y i = items_in is y (rw f at i)
suits_below (as_item vars p n s) y i = suits_below s y (rw (item_same s) at i)
suits_below {t = t} (by_match vars p n ty tys f h e as') y i = arms_suit as' y (rw (f, (path_exactly t vars (path p) ty).1 h, e) at i)

-- and these two are enough
text_suits : {g t vars : List ℕ} {p n : ℕ} {at : Position} → AsksText at n → Suits g t vars p (Nonterminal n) → Suits g t vars p at
text_suits (in_its_position n) s = s
text_suits {vars = vars} {p} (in_a_sequence n) s = as_item vars p n s

children_fill : {g t : List ℕ} (vars : List ℕ) {es : List Element} {cs : List ℕ} → OneEach es cs
    → ((e : Element) (at : Position) (c : ℕ) → ChildFor es cs e c → Asks e at → Suits g t vars c at) → Fills g t vars es cs
children_fill vars nothing_left h = all_filled vars
children_fill vars (no_child_for x es cs o) h = no_child vars x es cs (children_fill vars o (λ e at c k. h e at c (past_keyword x e c es cs k)))
children_fill vars (one_child_for e at c es cs a o) h =
    a_child vars e at c es cs a (h e at c (this_child e at c es cs a) a) (children_fill vars o (λ e' at' c' k. h e' at' c' (past_child e' e at c' c es cs a k)))

each_item : {g t : List ℕ} (vars : List ℕ) (n : ℕ) (cs : List ℕ) → ((c : ℕ) → In c cs → Suits g t vars c (Item n)) → Items g t vars n cs
each_item vars n [] h = no_item vars n
each_item vars n (c ∷ cs) h = an_item vars n c cs (h c (here cs)) (each_item vars n cs (λ d i. h d (later c cs i)))

each_arm : {g t : List ℕ} (vars : List ℕ) (n : ℕ) (tys ps : List ℕ) → length ps ≡ length tys
    → ((j to c : ℕ) → nth tys j ≡ some to → nth ps j ≡ some c → Suits g t (vars ++ to ∷ []) c (Nonterminal n)) → Arms g t vars n tys ps
unfolding nth
each_arm vars n [] [] l h = no_arm vars n
each_arm vars n [] (p ∷ ps) l h = absurd (omega arith)
each_arm vars n (ty ∷ tys) [] l h = absurd (omega arith)
each_arm vars n (ty ∷ tys) (p ∷ ps) l h = an_arm vars n ty p tys ps (h 0 ty p refl refl) (each_arm vars n tys ps (omega arith) (λ j. h (suc j)))

fits_suits : {g t vars : List ℕ} {p : ℕ} {at : Position} → Fits g t vars p at
    → ((vars' : List ℕ) (c : ℕ) (at' : Position) → ChildNode g t vars p at vars' c at' → Suits g t vars' c at') → Suits g t vars p at
fits_suits {vars = vars} {p} (a_build at q f e a o) h =
    text_suits a (by_build vars p _ q f e refl (children_fill vars o (λ el at' c k b. h vars c at' (build_child at at' el q c f e k b))))
fits_suits {vars = vars} {p} (a_literal c f l) h = by_literal vars p c f l
fits_suits {vars = vars} {p} (a_place c d ty f k e l) h = by_place vars p c d ty f k e l
fits_suits {vars = vars} {p} (an_expand at q f e a as') h = text_suits a (by_expand vars p _ q f e refl as')
fits_suits {vars = vars} {p} (an_if at n ty f a k e) h = text_suits a (by_if vars p n ty f k e (h _ _ _ (first_branch at n f a)) (h _ _ _ (second_branch at n f a)))
fits_suits {vars = vars} {p} (a_for n ty item f k e) h = by_for vars p n ty item f k e (h _ _ _ (loop_body n ty item f k e))
fits_suits {vars = vars} {p} (a_sequence n f) h = by_sequence vars p n f (each_item vars n _ (λ c i. h _ _ _ (sequence_item n c f i)))
fits_suits {vars = vars} {p} (a_match at n ty tys f a k e l) h =
    text_suits a (by_match vars p n ty tys f k e (each_arm vars n tys _ l (λ j to c x y. h _ _ _ (match_arm at n ty j to c tys f a k e x y))))

suits_by_parts : (g t : List ℕ) (x : Site) → SuitsAt g t x ↔ ((suits g t x ≡ true) × ((y : Site) → In y (sites_below g t x) → SuitsAt g t y))
unfolding site
suits_by_parts g t x = (
  λ s. ((fits_exactly g t x).1 (suits_fits s), suits_below s),
  λ r. fits_suits ((fits_exactly g t x).0 r.0) (λ vars c at k. r.1 (site vars at c) ((child_exactly g t x (site vars at c)).1 k)),
)

pub misfit_suits : (g t : List ℕ) (k : ℕ) (x : Site) → misfit g t k x ≡ none → SuitsAt g t x
unfolding misfit
misfit_suits g t = tree_judged (suits g t) (sites_below g t) (SuitsAt g t) (suits_by_parts g t)

pub typing_exactly : (g t : List ℕ) → ((p : ℕ) → In p (templates t) → TemplateWithin t p) → (templates_typing g t ≡ none) ↔ SetTyped g t
unfolding templates_typing misfit body_site site
typing_exactly g t within = (
  λ e. let a = both_none _ _ e in
      let d = (exists_iff (declared_type t)).0 (need_none {A = ℕ} _ 0 a.0) in
      record { type = d.0; declares = (declared_exactly t d.0).0 d.1; bodies = λ p i. (body-judged p i).0 ((at_none _ _).0 (every_in _ a.1 i)) },
  λ h. (both_iff _ _).1 (
    (need_iff {A = ℕ} _ 0).1 ((exists_iff (declared_type t)).1 (h.type, (declared_exactly t h.type).1 h.declares)),
    in_every _ _ λ p i. (at_none _ _).1 ((body-judged p i).1 (h.bodies p i)),
  ),
)
  where
    body-judged : (p : ℕ) → In p (templates t) → (misfit g t deepest (body_site t p) ≡ none) ↔ SuitsAt g t (body_site t p)
    body-judged p i = judged_exactly (suits g t) (sites_below g t) (SuitsAt g t) (suits_by_parts g t) deepest (body_site t p) (sites_shallow g t p (within p i))

pub judged_node_by_node : (g t : List ℕ) → ((p : ℕ) → In p (templates t) → TemplateWithin t p) → SetTyped g t ↔ EachFits g t
unfolding body_site site
judged_node_by_node g t within = (
  λ h. record {
    type = h.type;
    declares = h.declares;
    fits = λ p q vars at i s. let b = (stands_exactly g t p (site vars at q)).1 s in
        (fits_exactly g t (site vars at q)).0 ((each p i).0 (h.bodies p i) b.0 (site vars at q) b.1);
  },
  λ h. record {
    type = h.type;
    declares = h.declares;
    bodies = λ p i. (each p i).1 (λ d y b. (fits_exactly g t y).1 (h.fits p y.node y.vars y.position i ((stands_exactly g t p y).0 (d, b))));
  },
)
  where
    each : (p : ℕ) → In p (templates t) → SuitsAt g t (body_site t p) ↔ ((d : ℕ) (y : Site) → Below (sites_below g t) (body_site t p) d y → suits g t y ≡ true)
    each p i = each_exactly (suits g t) (sites_below g t) (SuitsAt g t) (suits_by_parts g t) deepest (body_site t p) (sites_shallow g t p (within p i))
