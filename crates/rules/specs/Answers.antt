-- Answers, section "What stops a run": the five fields, the order of the checks, and one definition for each call.
use Rattle.std.specs.Prelude.{ℕ, ◌*◌, List, [], ◌∷◌, ◌++◌, length, drop, replicate, leb}
use Rattle.std.proofs.Math.Option.{Option, none, some}
use Rattle.rules.specs.Faults.{need, both, every, on_found, only_if, exists}
use Rattle.rules.specs.Blocks.{is_kind, stream_length, stream_blocks, payload_length, packed, unpacked}
use Rattle.rules.specs.Layout.{grammar_layout, templates_layout, value_layout}
use Rattle.rules.specs.Limits.{deepest, templates_limits, value_limits}
use Rattle.rules.specs.Names.{grammar_names, templates_names}
use Rattle.rules.specs.Classes.{grammar_classes}
use Rattle.rules.specs.Escape.{unescaped}
use Rattle.rules.specs.Lexeme.{characters_of}
use Rattle.rules.specs.Typing.{templates_typing, value_typing}
use Rattle.rules.specs.Walk.{Input, Limit, fuel_spent, too_deep, output_full, End, done, ended, stuck, walk}
use Rattle.rules.specs.declared.Answer.{Answer}

-- "An answer is a number (0 finished), stream kind, place, steps, bytes written."
unfoldable pub answer : ℕ → ℕ → ℕ → ℕ → ℕ → Answer
answer number kind place steps bytes = record { number = number; kind = kind; place = place; steps = steps; bytes = bytes }

-- the streams that a call is lent
pub data Stream : Type 0 where
  grammar templates value : List ℕ → Stream

unfoldable pub stream_kind : Stream → ℕ
stream_kind (grammar g) = 1
stream_kind (templates t) = 2
stream_kind (value v) = 3

unfoldable pub bytes_of : Stream → List ℕ
bytes_of (grammar g) = g
bytes_of (templates t) = t
bytes_of (value v) = v

unfoldable pub layout_of : Stream → Option ℕ
layout_of (grammar g) = grammar_layout g
layout_of (templates t) = templates_layout t
layout_of (value v) = value_layout v

unfoldable pub limits_of : Stream → Option ℕ
limits_of (grammar g) = none
limits_of (templates t) = templates_limits t
limits_of (value v) = value_limits v

-- a place in a stream of a kind; "each over grammar, templates, value before the next"
unfoldable pub placed : ℕ → Option ℕ → Option (ℕ × ℕ)
placed kind none = none
placed kind (some place) = some (kind, place)

unfoldable pub over : (Stream → Option ℕ) → List Stream → Option (ℕ × ℕ)
over fault = every (λ s. placed (stream_kind s) (fault s))

-- a refusal by its number, "For 1 to 9 steps and bytes are 0"; where there is none, what is tried next. (It is a function of nothing, so
-- that antt computes it only where it is tried.)
unfoldable pub try : ℕ → Option (ℕ × ℕ) → (Unit {0} → Option Answer) → Option Answer
try number none next = next tt
try number (some (kind, place)) next = some (answer number kind place 0 0)

unfoldable pub accept : Unit {0} → Option Answer
accept _ = none

-- The order of the checks. 1 to 7, of a grammar and a template set; 1 to 4 also of the streams that come with them:
unfoldable pub set_refusal : List ℕ → List ℕ → List Stream → (Unit {0} → Option Answer) → Option Answer
set_refusal g t more next =
    let streams = grammar g ∷ templates t ∷ more in
    try 1 (over (λ s. stream_length (bytes_of s)) streams) λ _.
    try 2 (over (λ s. stream_blocks (stream_kind s) (bytes_of s)) streams) λ _.
    try 3 (over layout_of streams) λ _.
    try 4 (over limits_of streams) λ _.
    try 5 (both (placed 1 (grammar_names g)) (placed 2 (templates_names g t))) λ _.
    try 6 (placed 1 (grammar_classes g)) λ _.
    try 7 (placed 2 (templates_typing g t)) next

-- "The check call tries 1 to 7 on grammar and templates"
unfoldable pub check_refusal : List ℕ → List ℕ → Option Answer
check_refusal g t = set_refusal g t [] accept

-- "9. The scratch has fewer than 4,800 16-bit numbers, 24 for each depth."
unfoldable pub scratch_needed : ℕ
scratch_needed = 24 * deepest

-- "the evaluate call all, in this order"; "9 has kind and place 0"
unfoldable pub evaluate_refusal : List ℕ → List ℕ → List ℕ → List ℕ → Option Answer
evaluate_refusal g t v scratch =
    set_refusal g t (value v ∷ []) λ _.
    try 8 (placed 3 (value_typing g t v)) λ _.
    try 9 (placed 0 (need (leb scratch_needed (length scratch)) 0)) accept

-- 10 to 12 are the walk's
unfoldable pub limit_number : Limit → ℕ
limit_number fuel_spent = 10
limit_number too_deep = 11
limit_number output_full = 12

-- "five zeros mean accepted"
unfoldable pub check : List ℕ → List ℕ → Answer
check g t = on_found (check_refusal g t) (answer 0 0 0 0 0) (λ a. a)

-- what a call leaves: its answer, and the contents of what it was lent to write into
pub record Outcome : Type 0 where
  pub result : Answer
  pub output : List ℕ
  pub scratch : List ℕ

-- "the first written bytes are what the walk produced, the rest of the output is untouched, and all of the lent scratch becomes zero"
unfoldable pub left : Answer → List ℕ → List ℕ → List ℕ → Outcome
left a text out scratch =
    record { result = a; output = text ++ drop (length text) out; scratch = replicate (length scratch) 0 }

-- "output and scratch keep their bytes"
unfoldable pub kept : Answer → List ℕ → List ℕ → Outcome
kept a out scratch = record { result = a; output = out; scratch = scratch }

-- "kind and place are 0 when finished"; 10 to 12 have the node's place, "with kind 2". That a walk is stuck is never answered (`never_stuck`
-- of crate theorems); it would be refused by 99, which is no number of the paper.
unfoldable pub walked : End → List ℕ → List ℕ → Outcome
walked (done s) out scratch = left (answer 0 0 0 s.steps (length s.text)) s.text out scratch
walked (ended l p s) out scratch = left (answer (limit_number l) 2 p s.steps (length s.text)) s.text out scratch
walked stuck out scratch = kept (answer 99 2 0 0 0) out scratch

unfoldable pub unless_refused : Option Answer → (Unit {0} → End) → List ℕ → List ℕ → Outcome
unless_refused none run out scratch = walked (run tt) out scratch
unless_refused (some a) run out scratch = kept a out scratch

unfoldable pub input : List ℕ → List ℕ → List ℕ → ℕ → List ℕ → Input
input g t v fuel out = record { grammar = g; templates = t; value = v; fuel = fuel; room = length out }

unfoldable pub evaluate : List ℕ → List ℕ → List ℕ → ℕ → List ℕ → List ℕ → Outcome
evaluate g t v fuel out scratch = unless_refused (evaluate_refusal g t v scratch) (λ _. walk (input g t v fuel out)) out scratch

-- "Packing tries 1 (payload length), 2 (kind outside 1 to 3, place 0), then 12 if the blocks don't fit"
unfoldable pub pack_refusal : ℕ → List ℕ → List ℕ → Option Answer
pack_refusal kind payload out =
    try 1 (placed 0 (payload_length payload)) λ _.
    try 2 (placed 0 (need (is_kind kind) 0)) λ _.
    try 12 (placed 0 (need (leb (length (packed kind payload)) (length out)) 0)) accept

-- "unpacking, told the kind to expect, 1, 2, 12", with "place 0 but for the block of a 2"
unfoldable pub unpack_refusal : ℕ → List ℕ → List ℕ → Option Answer
unpack_refusal kind s out =
    try 1 (placed 0 (stream_length s)) λ _.
    try 2 (placed 0 (both (need (is_kind kind) 0) (stream_blocks kind s))) λ _.
    try 12 (placed 0 (need (leb (length (unpacked s)) (length out)) 0)) accept

-- "refused, they write nothing, else only the bytes counted"
pub record Written : Type 0 where
  pub result : Answer
  pub output : List ℕ

unfoldable pub written : Option Answer → (Unit {0} → List ℕ) → List ℕ → Written
written none bytes out =
    let x = bytes tt in
    record { result = answer 0 0 0 0 (length x); output = x ++ drop (length x) out }
written (some a) bytes out = record { result = a; output = out }

unfoldable pub pack : ℕ → List ℕ → List ℕ → Written
pack kind payload out = written (pack_refusal kind payload out) (λ _. packed kind payload) out

unfoldable pub unpack : ℕ → List ℕ → List ℕ → Written
unpack kind s out = written (unpack_refusal kind s out) (λ _. unpacked s) out

-- 02 c: "A call gives the editor the inverse: the plain text, or refusal 8 for any text that escaping makes of no well-formed UTF-8 .., then 12 if the
-- plain text doesn't fit; kind, place and steps are 0, and refused, it writes nothing."
unfoldable pub well_formed : List ℕ → Option (List ℕ)
well_formed x = only_if (exists (characters_of x)) x

unfoldable pub plain_text : List ℕ → Option (List ℕ)
plain_text text = on_found (unescaped text) none well_formed

unfoldable pub unescape : List ℕ → List ℕ → Written
unescape text out =
    on_found (plain_text text) (record { result = answer 8 0 0 0 0; output = out }) λ x.
    written (try 12 (placed 0 (need (leb (length x) (length out)) 0)) accept) (λ _. x) out
