-- The texts of 02 c, computed: what escaping makes of a title, and what the unescape call answers, all five fields, and leaves of the output.
use Rattle.std.specs.Prelude.{◌≡◌, refl, ℕ, List}
use Rattle.rules.specs.Faults.{need, on_found, only_if, exists}
use Rattle.rules.specs.Escape.{entity, escape, begins, first_of, plain_byte, unescaped_after, unescaped}
use Rattle.rules.specs.Lexeme.{between, first_byte, next_byte, decode, decoded, characters_of}
use Rattle.rules.specs.Answers.{answer, placed, try, accept, Written, written, well_formed, plain_text, unescape}
use Rattle.rules.specs.declared.Answer.{Answer}
use Rattle.theorems.specs.Entities.{spelt}

-- a call's answer, and what it leaves of the output
abbrev pub leaves : Answer → List ℕ → Written
leaves a out = record { result = a; output = out }

-- "Hosts type "Salt & Rope".": its escaped form; the call gives the title back and leaves the rest of the output as it was; with a byte too little it is 12
pub salt_and_rope : (escape (spelt "Salt & Rope") ≡ spelt "Salt &amp; Rope")
    × (unescape (spelt "Salt &amp; Rope") (spelt ".............") ≡ leaves (answer 0 0 0 0 11) (spelt "Salt & Rope.."))
    × (unescape (spelt "Salt &amp; Rope") (spelt "..........") ≡ leaves (answer 12 0 0 0 0) (spelt ".........."))
unfolding spelt escape entity begins first_of plain_byte unescaped_after unescaped on_found only_if exists
    between first_byte next_byte decode decoded characters_of need placed try accept written well_formed plain_text unescape
salt_and_rope = (refl, refl, refl)

-- "refusal 8 .., such as a bare & or a numeric reference", whatever the room: & alone and in the title as typed, a numeric reference, amp without its
-- semicolon, a tag
pub refused_texts : (out : List ℕ) → (unescape (spelt "&") out ≡ leaves (answer 8 0 0 0 0) out)
    × (unescape (spelt "Salt & Rope") out ≡ leaves (answer 8 0 0 0 0) out)
    × (unescape (spelt "&#38;") out ≡ leaves (answer 8 0 0 0 0) out)
    × (unescape (spelt "&amp") out ≡ leaves (answer 8 0 0 0 0) out)
    × (unescape (spelt "<b>") out ≡ leaves (answer 8 0 0 0 0) out)
unfolding spelt entity begins first_of plain_byte unescaped_after unescaped on_found plain_text unescape
refused_texts out = (refl, refl, refl, refl, refl)
