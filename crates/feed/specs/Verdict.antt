-- What the code's verdicts and answers stand for, in the terms of crate rules.
use Rattle.std.specs.Prelude.{ℕ, ◌≡◌, List, [], ◌∷◌, cond, eqb, Result, Ok, Err, Option as Maybe, Some, None}
use Rattle.std.proofs.Math.Option.{Option, none, some}
use Rattle.rules.specs.Faults.{both}
use Rattle.rules.specs.Blocks.{stream_length, stream_blocks}
use Rattle.rules.specs.Limits.{templates_limits, value_limits}
use Rattle.rules.specs.Names.{grammar_names, templates_names}
use Rattle.rules.specs.Classes.{grammar_classes}
use Rattle.rules.specs.Typing.{templates_typing, value_typing}
use Rattle.rules.specs.Answers
use Rattle.rules.specs.Answers.{answer, Stream, stream_kind, bytes_of, layout_of, placed, over, try, accept, Outcome, Written}
use Rattle.rules.specs.declared.Answer.{Answer}
use Rattle.walk.specs.declared.state.Run.{Run}
use Rattle.feed.specs.declared.verdict.Rule.{Rule}
use Rattle.feed.specs.declared.verdict.Rule.TheVariants.{Length, Blocks, Layout, Limits, Names, Classes, TemplatesTyping, ValueTyping, Scratch}
use Rattle.feed.specs.declared.verdict.Kind.{Kind}
use Rattle.feed.specs.declared.verdict.Kind.TheVariants.{NoStream, Grammar, Templates, Value}
use Rattle.feed.specs.declared.verdict.Refusal.{Refusal}

-- a rule by its number, and a kind by its number
abbrev pub rule_number : Rule → ℕ
rule_number Length = 1
rule_number Blocks = 2
rule_number Layout = 3
rule_number Limits = 4
rule_number Names = 5
rule_number Classes = 6
rule_number TemplatesTyping = 7
rule_number ValueTyping = 8
rule_number Scratch = 9

abbrev pub kind_number : Kind → ℕ
kind_number NoStream = 0
kind_number Grammar = 1
kind_number Templates = 2
kind_number Value = 3

abbrev pub refusal_answer : Refusal → Answer
refusal_answer r = answer (rule_number r.rule) (kind_number r.kind) r.place 0 0

-- what several rules say, one after the other
abbrev pub verdict_of : {T : Type 0} → Result T Refusal → Option Answer
verdict_of (Ok _) = none
verdict_of (Err r) = some (refusal_answer r)

-- the first of three faults, with the kind of its stream
unfoldable pub first_of : Option ℕ → Option ℕ → Option ℕ → Option (ℕ × ℕ)
first_of g t v = both (placed 1 g) (both (placed 2 t) (placed 3 v))

-- refusals 1 to 3 of some streams, and what is tried next
unfoldable pub streams_refusal : List Stream → (Unit {0} → Option Answer) → Option Answer
streams_refusal streams next =
    try 1 (over (λ s. stream_length (bytes_of s)) streams) λ _.
    try 2 (over (λ s. stream_blocks (stream_kind s) (bytes_of s)) streams) λ _.
    try 3 (over layout_of streams) next

-- refusals 1 to 3 of a grammar and a template set let them through
abbrev pub SetLaid : List ℕ → List ℕ → Type 0
SetLaid g t = streams_refusal (Answers.grammar g ∷ Answers.templates t ∷ []) accept ≡ none

-- refusals 4 to 7 of a set that comes with a value of which refusal 4 says this, and what is tried next
unfoldable pub set_judgement : List ℕ → List ℕ → Option ℕ → (Unit {0} → Option Answer) → Option Answer
set_judgement g t value next =
    try 4 (first_of none (templates_limits t) value) λ _.
    try 5 (first_of (grammar_names g) (templates_names g t) none) λ _.
    try 6 (placed 1 (grammar_classes g)) λ _.
    try 7 (placed 2 (templates_typing g t)) next

-- refusals 4 and 8 of a value, if one comes with the set
abbrev pub depth_of : Maybe (List ℕ) → Option ℕ
depth_of None = none
depth_of (Some v) = value_limits v

abbrev pub typing_of : List ℕ → List ℕ → Maybe (List ℕ) → Option Answer
typing_of g t None = none
typing_of g t (Some v) = try 8 (placed 3 (value_typing g t v)) accept

-- refusals 4 to 7 of a set, and 4 and 8 of a value if one comes with it
unfoldable pub judgement : List ℕ → List ℕ → Maybe (List ℕ) → Option Answer
judgement g t value = set_judgement g t (depth_of value) (λ _. typing_of g t value)

-- the answer of a run: "kind and place are 0 when finished"
unfoldable pub run_answer : Run → Answer
run_answer r =
    cond (eqb r.number 0)
    (answer 0 0 0 r.steps r.bytes)
    (answer r.number 2 r.place r.steps r.bytes)

-- the answer of an evaluate call: that of its run, or its refusal
abbrev pub evaluate_answer : Result Run Refusal → Answer
evaluate_answer (Ok r) = run_answer r
evaluate_answer (Err r) = refusal_answer r

-- what a call leaves
abbrev pub outcome : Answer → List ℕ → List ℕ → Outcome
outcome a out scratch = record { result = a; output = out; scratch = scratch }

-- the same for other languages: the answer as five numbers
unfoldable pub five_of : Answer → List ℕ
five_of a = a.number ∷ a.kind ∷ a.place ∷ a.steps ∷ a.bytes ∷ []

pub record Left (five out scratch : List ℕ) (o : Outcome) : Type 0 where
  pub result : five ≡ five_of o.result
  pub output : out ≡ o.output
  pub kept_or_zero : scratch ≡ o.scratch

pub record Filled (five out : List ℕ) (o : Written) : Type 0 where
  pub result : five ≡ five_of o.result
  pub output : out ≡ o.output
