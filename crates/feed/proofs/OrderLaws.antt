-- The order of the checks, in the parts that the code makes of it: 1 to 3, then 4 to 7, then 8 and 9.
use Prim.Native.Nat.{ℕ, ◌≤◌, ◌<◌}
use mathlib.Core.Path.{◌≡◌, refl, sym, ap, ◌∙◌}
use mathlib.Core.List.{List, [], ◌∷◌}
use mathlib.Core.Bool.{Bool, true}
use mathlib.Core.Option.{Option, none, some, some-ne-none}
use lib.ListN.{length}
use lib.Dec.{leb}
use borrow.Author.Tests.{le-leb, lt-leb}
use Rattle.rules.specs.Faults.{need, both, every, on_found}
use Rattle.rules.specs.Blocks.{stream_length, stream_blocks}
use Rattle.rules.specs.Layout.{grammar_layout, templates_layout, value_layout}
use Rattle.rules.specs.Limits.{deepest, templates_limits, value_limits}
use Rattle.rules.specs.Names.{grammar_names, templates_names}
use Rattle.rules.specs.Typing.{templates_typing, value_typing}
use Rattle.rules.specs.Answers
use Rattle.rules.specs.Answers.{answer, Stream, stream_kind, bytes_of, layout_of, limits_of, placed, over, try, accept, set_refusal, check_refusal, scratch_needed, evaluate_refusal, check, kept, unless_refused, evaluate, Outcome}
use Rattle.rules.specs.declared.Answer.{Answer}
use Rattle.laws.specs.Faults.{need_none, both_nil, both_iff, placed_iff, try_iff}
use Rattle.records.specs.Children.{Children}
use Rattle.layout.specs.Heads.{LaidGrammar, LaidTemplates}
use Rattle.std.specs.Prelude.{Option as Maybe, Some, None, Result, Ok, Err}
use Rattle.std.specs.Result.{IsErrAnd, MatchResult}
use Rattle.std.proofs.lemmas.Result.{err_from_is_err_and}
use Rattle.walk.specs.declared.state.Run.{Run}
use Rattle.stream.specs.Fault.{fault_of}
use Rattle.stream.specs.Whole.{Whole}
use Rattle.feed.specs.declared.verdict.Kind.{Kind}
use Rattle.feed.specs.declared.verdict.Refusal.{Refusal}
use Rattle.feed.specs.declared.verdict.Rule.{Rule}
use Rattle.lexeme.specs.Sets.{LexemesReady}
use Rattle.feed.specs.declared.set.Heads.{Heads}
use Rattle.feed.specs.Asks.{AllJudged, SetJudged, HeadsFilled, HeadsJudged}
use Rattle.feed.specs.Verdict.{rule_number, kind_number, refusal_answer, verdict_of, first_of, streams_refusal, set_judgement, depth_of, typing_of, judgement, evaluate_answer, outcome}

-- what a `?` hands on
pub handed : {T : Type 0} (r : Result T Refusal) (x : Refusal) {o : Option Answer} → IsErrAnd r (λ y. y ≡ x) → some (refusal_answer x) ≡ o → verdict_of r ≡ o
handed r x h e = let p = err_from_is_err_and r h in rw (p.1, p.2) e

-- one rule against one stream
pub against_said : (rule : Rule) (kind : Kind) (judged : Result (Unit {0}) ℕ) (r : Result (Unit {0}) Refusal) (Known : ℕ → Refusal → Type 0)
    → MatchResult judged (λ x. r ≡ Ok x) (λ place. IsErrAnd r (Known place)) → ((place : ℕ) (y : Refusal) → Known place y → y ≡ record { rule = rule; kind = kind; place = place })
    → verdict_of r ≡ try (rule_number rule) (placed (kind_number kind) (fault_of judged)) accept
unfolding try placed accept
against_said rule kind (Ok x) r Known h k = rw h
against_said rule kind (Err place) r Known h k =
    let p = err_from_is_err_and r h in
    let q : p.0 ≡ record { rule = rule; kind = kind; place = place } = k place p.0 p.2 in
    rw (p.1, q)

-- One rule, and then others against the same
pub first_refuses : (number : ℕ) (x y : Option (ℕ × ℕ)) {a : Answer} → some a ≡ try number x accept → some a ≡ try number (both x y) accept
unfolding try accept both
first_refuses number none y e = absurd (some-ne-none _ e)
first_refuses number (some p) y e = e

pub first_passes : (number : ℕ) (x y : Option (ℕ × ℕ)) {o : Option Answer} → none ≡ try number x accept → o ≡ try number y accept → o ≡ try number (both x y) accept
unfolding try accept both
first_passes number none y e h = h
first_passes number (some (kind, place)) y e h = absurd (some-ne-none _ (sym e))

-- One rule: it refuses, or leaves the word to what is tried next
pub tried : (number : ℕ) (x y : Option (ℕ × ℕ)) (next : Unit {0} → Option Answer) {a : Answer} → some a ≡ try number x accept → x ≡ y → some a ≡ try number y next
unfolding try accept
tried number none y next e h = absurd (some-ne-none _ e)
tried number (some (kind, place)) y next e h = e ∙ rw (← h)

pub went_on : (number : ℕ) (x y : Option (ℕ × ℕ)) (next : Unit {0} → Option Answer) → none ≡ try number x accept → x ≡ y → next tt ≡ try number y next
unfolding try accept
went_on number none y next e h = rw (← h)
went_on number (some (kind, place)) y next e h = absurd (some-ne-none _ (sym e))

pub last_said : (number : ℕ) (x y : Option (ℕ × ℕ)) {o : Option Answer} → o ≡ try number x accept → x ≡ y → o ≡ try number y accept
last_said number x y e h = e ∙ ap (λ (z : Option (ℕ × ℕ)). try number z accept) h

pub passed : (number : ℕ) (x y : Option (ℕ × ℕ)) → none ≡ try number x accept → x ≡ y → y ≡ none
passed number x y e h = sym h ∙ ((try_iff number x accept).0 (sym e)).0

-- "each over grammar, templates, value before the next"
abbrev pub two : List ℕ → List ℕ → List Stream
two g t = Answers.grammar g ∷ Answers.templates t ∷ []

abbrev pub three : List ℕ → List ℕ → List ℕ → List Stream
three g t v = Answers.grammar g ∷ Answers.templates t ∷ Answers.value v ∷ []

over_two : (f : Stream → Option ℕ) (g t : List ℕ) → first_of (f (Answers.grammar g)) (f (Answers.templates t)) none ≡ over f (two g t)
unfolding first_of over every stream_kind placed
over_two f g t = refl

over_three : (f : Stream → Option ℕ) (g t v : List ℕ)
    → first_of (f (Answers.grammar g)) (f (Answers.templates t)) (f (Answers.value v)) ≡ over f (three g t v)
unfolding first_of over every stream_kind
over_three f g t v = rw (both_nil (placed 3 (f (Answers.value v))))

pub lengths_two : (a b : Option ℕ) (g t : List ℕ) → a ≡ stream_length g → b ≡ stream_length t
    → first_of a b none ≡ over (λ s. stream_length (bytes_of s)) (two g t)
unfolding bytes_of
lengths_two a b g t ea eb = rw (ea, eb) (over_two (λ s. stream_length (bytes_of s)) g t)

pub lengths_three : (a b c : Option ℕ) (g t v : List ℕ) → a ≡ stream_length g → b ≡ stream_length t → c ≡ stream_length v
    → first_of a b c ≡ over (λ s. stream_length (bytes_of s)) (three g t v)
unfolding bytes_of
lengths_three a b c g t v ea eb ec = rw (ea, eb, ec) (over_three (λ s. stream_length (bytes_of s)) g t v)

-- 1 lets whole streams through
pub whole_two : (p q g t : List ℕ) (next : Unit {0} → Option Answer) → p ≡ g → q ≡ t → Whole p → Whole q
    → next tt ≡ try 1 (over (λ s. stream_length (bytes_of s)) (two g t)) next
unfolding first_of both placed try accept
whole_two p q g t next eg et p_whole q_whole =
    went_on 1 (first_of none none none) _ next refl (lengths_two none none g t (rw (← eg) (sym p_whole.sized)) (rw (← et) (sym q_whole.sized)))

pub whole_three : (p q r g t v : List ℕ) (next : Unit {0} → Option Answer) → p ≡ g → q ≡ t → r ≡ v → Whole p → Whole q → Whole r
    → next tt ≡ try 1 (over (λ s. stream_length (bytes_of s)) (three g t v)) next
unfolding first_of both placed try accept
whole_three p q r g t v next eg et ev p_whole q_whole r_whole =
    went_on 1 (first_of none none none) _ next refl
    (lengths_three none none none g t v (rw (← eg) (sym p_whole.sized)) (rw (← et) (sym q_whole.sized)) (rw (← ev) (sym r_whole.sized)))

pub blocks_two : (a b : Option ℕ) (p q g t : List ℕ) → p ≡ g → q ≡ t → a ≡ stream_blocks 1 p → b ≡ stream_blocks 2 q
    → first_of a b none ≡ over (λ s. stream_blocks (stream_kind s) (bytes_of s)) (two g t)
unfolding bytes_of stream_kind
blocks_two a b p q g t eg et ea eb = rw (ea, eb, eg, et) (over_two (λ s. stream_blocks (stream_kind s) (bytes_of s)) g t)

pub blocks_three : (a b c : Option ℕ) (p q r g t v : List ℕ) → p ≡ g → q ≡ t → r ≡ v → a ≡ stream_blocks 1 p → b ≡ stream_blocks 2 q → c ≡ stream_blocks 3 r
    → first_of a b c ≡ over (λ s. stream_blocks (stream_kind s) (bytes_of s)) (three g t v)
unfolding bytes_of stream_kind
blocks_three a b c p q r g t v eg et ev ea eb ec = rw (ea, eb, ec, eg, et, ev) (over_three (λ s. stream_blocks (stream_kind s) (bytes_of s)) g t v)

pub layouts_two : (a b : Option ℕ) (g t : List ℕ) → a ≡ grammar_layout g → b ≡ templates_layout t → first_of a b none ≡ over layout_of (two g t)
unfolding layout_of
layouts_two a b g t ea eb = rw (ea, eb) (over_two layout_of g t)

pub layouts_three : (a b c : Option ℕ) (g t v : List ℕ) → a ≡ grammar_layout g → b ≡ templates_layout t → c ≡ value_layout v
    → first_of a b c ≡ over layout_of (three g t v)
unfolding layout_of
layouts_three a b c g t v ea eb ec = rw (ea, eb, ec) (over_three layout_of g t v)

-- A part of the order, whatever is tried after it: it refuses by itself, or leaves the word to what comes next
abbrev Then : ((Unit {0} → Option Answer) → Option Answer) → Type 0
Then part = (next : Unit {0} → Option Answer) → part next ≡ on_found (part accept) (next tt) some

try_last : (number : ℕ) (o : Option (ℕ × ℕ)) → Then (try number o)
unfolding try on_found accept
try_last number none next = refl
try_last number (some (kind, place)) next = refl

try_then : (number : ℕ) (o : Option (ℕ × ℕ)) (part : (Unit {0} → Option Answer) → Option Answer) → Then part → Then (λ next. try number o (λ _. part next))
unfolding try on_found
try_then number none part h next = h next
try_then number (some (kind, place)) part h next = refl

streams_then : (ss : List Stream) → Then (streams_refusal ss)
unfolding streams_refusal
streams_then ss = try_then 1 _ _ (try_then 2 _ _ (try_last 3 _))

judgement_then : (g t : List ℕ) (value : Option ℕ) → Then (set_judgement g t value)
unfolding set_judgement
judgement_then g t value = try_then 4 _ _ (try_then 5 _ _ (try_then 6 _ _ (try_last 7 _)))

-- and a part that goes on with another
judgement_then_then : (g t : List ℕ) (value : Option ℕ) (part : (Unit {0} → Option Answer) → Option Answer) → Then part → (next : Unit {0} → Option Answer)
    → set_judgement g t value (λ _. part next) ≡ on_found (set_judgement g t value (λ _. part accept)) (next tt) some
unfolding set_judgement
judgement_then_then g t value part h next = try_then 4 _ (λ n. try 5 _ (λ _. try 6 _ (λ _. try 7 _ (λ _. part n)))) (try_then 5 _ (λ n. try 6 _ (λ _. try 7 _ (λ _. part n))) (try_then 6 _ (λ n. try 7 _ (λ _. part n)) (try_then 7 _ part h))) next

limits_two : (g t : List ℕ) → over limits_of (two g t) ≡ first_of none (templates_limits t) none
unfolding limits_of
limits_two g t = sym (over_two limits_of g t)

limits_three : (g t v : List ℕ) → over limits_of (three g t v) ≡ first_of none (templates_limits t) (value_limits v)
unfolding limits_of
limits_three g t v = sym (over_three limits_of g t v)

first_two : (a b : Option ℕ) → both (placed 1 a) (placed 2 b) ≡ first_of a b none
unfolding first_of placed
first_two a b = ap (both (placed 1 a)) (sym (both_nil (placed 2 b)))

split_two : (g t : List ℕ) (next : Unit {0} → Option Answer)
    → set_refusal g t [] next ≡ streams_refusal (two g t) (λ _. set_judgement g t none next)
unfolding set_refusal streams_refusal set_judgement
split_two g t next = rw (limits_two g t, first_two (grammar_names g) (templates_names g t))

split_three : (g t v : List ℕ) (next : Unit {0} → Option Answer)
    → set_refusal g t (Answers.value v ∷ []) next ≡ streams_refusal (three g t v) (λ _. set_judgement g t (value_limits v) next)
unfolding set_refusal streams_refusal set_judgement
split_three g t v next = rw (limits_three g t v, first_two (grammar_names g) (templates_names g t))

pub firsts : (a b c x y z : Option ℕ) → a ≡ x → b ≡ y → c ≡ z → first_of a b c ≡ first_of x y z
firsts a b c x y z ea eb ec = rw (ea, eb, ec)

-- What the parts leave for those after them
pub first_none : (a b c : Option ℕ) → first_of a b c ≡ none → (a ≡ none) × (b ≡ none) × (c ≡ none)
unfolding first_of
first_none a b c e =
    let x = (both_iff _ _).0 e in
    let y = (both_iff _ _).0 x.1 in
    ((placed_iff 1 a).0 x.0, (placed_iff 2 b).0 y.0, (placed_iff 3 c).0 y.1)

pub two_sized : (a b : Option ℕ) (g t : List ℕ) → none ≡ try 1 (first_of a b none) accept → a ≡ stream_length g → b ≡ stream_length t
    → (stream_length g ≡ none) × (stream_length t ≡ none)
two_sized a b g t e ea eb = let l = first_none a b none (passed 1 _ _ e refl) in (sym ea ∙ l.0, sym eb ∙ l.1)

pub three_sized : (a b c : Option ℕ) (g t v : List ℕ) → none ≡ try 1 (first_of a b c) accept → a ≡ stream_length g → b ≡ stream_length t → c ≡ stream_length v
    → (stream_length g ≡ none) × (stream_length t ≡ none) × (stream_length v ≡ none)
three_sized a b c g t v e ea eb ec = let l = first_none a b c (passed 1 _ _ e refl) in (sym ea ∙ l.0, sym eb ∙ l.1, sym ec ∙ l.2)

pub two_laid : (g t : List ℕ) → streams_refusal (two g t) accept ≡ none → LaidGrammar g × LaidTemplates t
unfolding streams_refusal bytes_of layout_of
two_laid g t e =
    let a = (try_iff 1 _ _).0 e in
    let b = (try_iff 2 _ _).0 a.1 in
    let c = (try_iff 3 _ _).0 b.1 in
    let l = first_none _ _ _ (over_two (λ s. stream_length (bytes_of s)) g t ∙ a.0) in
    let m = first_none _ _ _ (over_two layout_of g t ∙ c.0) in
    (record { length_right = l.0; laid_out = m.0 }, record { length_right = l.1; laid_out = m.1 })

pub three_laid : (g t v : List ℕ) → streams_refusal (three g t v) accept ≡ none
    → LaidGrammar g × LaidTemplates t × (stream_length v ≡ none) × (value_layout v ≡ none)
unfolding streams_refusal bytes_of layout_of
three_laid g t v e =
    let a = (try_iff 1 _ _).0 e in
    let b = (try_iff 2 _ _).0 a.1 in
    let c = (try_iff 3 _ _).0 b.1 in
    let l = first_none _ _ _ (over_three (λ s. stream_length (bytes_of s)) g t v ∙ a.0) in
    let m = first_none _ _ _ (over_three layout_of g t v ∙ c.0) in
    (record { length_right = l.0; laid_out = m.0 }, record { length_right = l.1; laid_out = m.1 }, l.2, m.2)

-- 1 to 3 of all three streams, with the table of the value's children
pub all_refused : (g t v firsts places : List ℕ) (r : Result (Unit {0}) Refusal) (x : Refusal) → IsErrAnd r (λ y. y ≡ x)
    → some (refusal_answer x) ≡ streams_refusal (three g t v) accept → AllJudged g t v firsts places r
all_refused g t v firsts places r x h e = let p = err_from_is_err_and r h in rw (p.1, p.2) (record { is = e; children = tt })

pub all_judged : (g t v firsts places : List ℕ) (r : Result (Unit {0}) Refusal) → verdict_of r ≡ streams_refusal (three g t v) accept → {right : Bool}
    → (need {A = ℕ} right 0 ≡ value_layout v) × (right ≡ true → Children v firsts places) → AllJudged g t v firsts places r
all_judged g t v firsts places (Ok x) e {right} h = record { is = e; children = h.1 (need_none right 0 (h.0 ∙ (three_laid g t v (sym e)).3)) }
all_judged g t v firsts places (Err x) e h = record { is = e; children = tt }

pub set_passed : (g t : List ℕ) (value : Option ℕ) → set_judgement g t value accept ≡ none → (templates_limits t ≡ none) × (templates_typing g t ≡ none)
unfolding set_judgement
set_passed g t value e =
    let a = (try_iff 4 _ _).0 e in
    let b = (try_iff 5 _ _).0 a.1 in
    let c = (try_iff 6 _ _).0 b.1 in
    let d = (try_iff 7 _ _).0 c.1 in
    ((first_none _ _ _ a.0).1, (placed_iff 2 _).0 d.0)

-- with the sets of the grammar's classes
pub set_refused : (g t : List ℕ) (value : Option ℕ) (cs sets : List ℕ) (r : Result (Unit {0}) Refusal) (x : Refusal) → IsErrAnd r (λ y. y ≡ x)
    → some (refusal_answer x) ≡ set_judgement g t value accept → SetJudged g t value cs sets r
set_refused g t value cs sets r x h e = let p = err_from_is_err_and r h in rw (p.1, p.2) (record { is = e; compiled = tt })

pub set_judged : (g t : List ℕ) (value : Option ℕ) (cs sets : List ℕ) (r : Result (Unit {0}) Refusal) → verdict_of r ≡ set_judgement g t value accept
    → LexemesReady g cs sets → SetJudged g t value cs sets r
set_judged g t value cs sets (Ok x) e l = record { is = e; compiled = l }
set_judged g t value cs sets (Err x) e l = record { is = e; compiled = tt }

-- 4 to 8, with a value or without
module _ (g t : List ℕ) where
  judgement_is : (value : Maybe (List ℕ)) → judgement g t value ≡ on_found (set_judgement g t (depth_of value) accept) (typing_of g t value) some
  unfolding judgement
  judgement_is value = judgement_then g t (depth_of value) _

  -- the set is refused, or it passed and its value is judged, if one came
  pub set_refuses : (value : Maybe (List ℕ)) {deep : Option ℕ} {a : Answer} → deep ≡ depth_of value → some a ≡ set_judgement g t deep accept → some a ≡ judgement g t value
  unfolding on_found
  set_refuses value h e = rw (judgement_is value, ← h, ← e)

  pub set_passes : (value : Maybe (List ℕ)) {deep : Option ℕ} {o : Option Answer} → deep ≡ depth_of value → none ≡ set_judgement g t deep accept → o ≡ typing_of g t value
      → o ≡ judgement g t value
  unfolding on_found
  set_passes value h e l = rw (judgement_is value, ← h, ← e) l

  set_within : (o last : Option Answer) → none ≡ on_found o last some → (o ≡ none) × (last ≡ none)
  unfolding on_found
  set_within none last e = (refl, sym e)
  set_within (some a) last e = absurd (some-ne-none a (sym e))

  pub judged_set : (value : Maybe (List ℕ)) → none ≡ judgement g t value → (templates_limits t ≡ none) × (templates_typing g t ≡ none)
  judged_set value e = set_passed g t (depth_of value) (set_within _ _ (e ∙ judgement_is value)).0

-- with the tables of heads
pub heads_refused : (g t : List ℕ) (value : Maybe (List ℕ)) (of-g of-t : List ℕ) (r : Result Heads Refusal) (x : Refusal) → IsErrAnd r (λ y. y ≡ x)
    → some (refusal_answer x) ≡ judgement g t value → (heads : Heads) → HeadsFilled g t of-g of-t heads → HeadsJudged g t value of-g of-t r
heads_refused g t value of-g of-t r x h e heads f = let p = err_from_is_err_and r h in rw (p.1, p.2) (record { is = e; filled = tt; heads = heads; tables = f })

-- the check call
module _ (g t : List ℕ) where
  refusal_of_check : check_refusal g t ≡ on_found (streams_refusal (two g t) accept) (judgement g t None) some
  unfolding check_refusal judgement accept
  refusal_of_check = split_two g t accept ∙ streams_then (two g t) (λ _. set_judgement g t none accept)

  pub check_streams : {a : Answer} → some a ≡ streams_refusal (two g t) accept → some a ≡ check_refusal g t
  unfolding on_found
  check_streams e = rw (refusal_of_check, ← e)

  pub check_judged : {o : Option Answer} → none ≡ streams_refusal (two g t) accept → o ≡ judgement g t None → o ≡ check_refusal g t
  unfolding on_found
  check_judged e h = rw (refusal_of_check, ← e) h

  pub check_refused : {a : Answer} → some a ≡ check_refusal g t → a ≡ check g t
  unfolding on_found check
  check_refused e = rw (← e)

  pub check_accepts : none ≡ check_refusal g t → answer 0 0 0 0 0 ≡ check g t
  unfolding on_found check
  check_accepts e = rw (← e)

-- the evaluate call
module _ (g t v scratch : List ℕ) where
  last : Option Answer
  last = try 9 (placed 0 (need (leb scratch_needed (length scratch)) 0)) accept

  value_then : (next : Unit {0} → Option Answer) → set_judgement g t (value_limits v) (λ _. try 8 (placed 3 (value_typing g t v)) next)
      ≡ on_found (judgement g t (Some v)) (next tt) some
  unfolding judgement
  value_then next = judgement_then_then g t (value_limits v) (try 8 (placed 3 (value_typing g t v))) (try_last 8 _) next

  refusal_is : evaluate_refusal g t v scratch ≡ on_found (streams_refusal (three g t v) accept) (on_found (judgement g t (Some v)) last some) some
  unfolding evaluate_refusal last
  refusal_is = split_three g t v _ ∙ streams_then (three g t v) _ ∙ ap (λ (x : Option Answer). on_found (streams_refusal (three g t v) accept) x some) (value_then _)

  pub none_refuses : streams_refusal (three g t v) accept ≡ none → none ≡ judgement g t (Some v) → 4800 ≤ length scratch → evaluate_refusal g t v scratch ≡ none
  unfolding on_found last placed try need scratch_needed deepest accept
  none_refuses e h l = rw (refusal_is, e, ← h, le-leb 4800 (length scratch) l)

pub evaluate_handed : (out scratch : List ℕ) (r : Result Run Refusal) (x : Refusal) {o : Outcome} → IsErrAnd r (λ y. y ≡ x) → outcome (refusal_answer x) out scratch ≡ o
    → outcome (evaluate_answer r) out scratch ≡ o
evaluate_handed out scratch r x h e = let p = err_from_is_err_and r h in rw (p.1, p.2) e

module _ (g t v : List ℕ) (fuel : ℕ) (out scratch : List ℕ) where
  keeps : (a : Answer) → evaluate_refusal g t v scratch ≡ some a → outcome a out scratch ≡ evaluate g t v fuel out scratch
  unfolding evaluate unless_refused kept
  keeps a e = rw e

  pub evaluate_streams : {a : Answer} → some a ≡ streams_refusal (three g t v) accept → outcome a out scratch ≡ evaluate g t v fuel out scratch
  unfolding on_found
  evaluate_streams {a} e = keeps a (rw (refusal_is g t v scratch, ← e))

  pub evaluate_refused : {a : Answer} → streams_refusal (three g t v) accept ≡ none → some a ≡ judgement g t (Some v)
      → outcome a out scratch ≡ evaluate g t v fuel out scratch
  unfolding on_found
  evaluate_refused {a} e h = keeps a (rw (refusal_is g t v scratch, e, ← h))

  pub evaluate_scratch : streams_refusal (three g t v) accept ≡ none → none ≡ judgement g t (Some v) → length scratch < 4800
      → outcome (answer 9 0 0 0 0) out scratch ≡ evaluate g t v fuel out scratch
  unfolding on_found last placed try need scratch_needed deepest
  evaluate_scratch e h l = keeps (answer 9 0 0 0 0) (rw (refusal_is g t v scratch, e, ← h, lt-leb 4800 (length scratch) l))
