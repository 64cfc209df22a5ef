-- The check call accepts a grammar and template set exactly when the written rules of blocks, layout, limits, names, classes and typing hold.
-- (Goes on in proofs/Accepted.antt.)
use Rattle.std.specs.Prelude.{◌≡◌, refl, ◌↔◌, ℕ, ◌+◌, ◌/◌, ◌<◌, ◌≤◌, List, ◌∷◌, length}
use Rattle.std.proofs.Common.{ap, arith}
use Rattle.std.proofs.Math.Option.{Option, none, some, some-ne-none}
use Rattle.rules.specs.Faults.{on_found}
use Rattle.rules.specs.Blocks.{stream_length, stream_blocks}
use Rattle.rules.specs.Records.{kind_of}
use Rattle.rules.specs.Grammar.{classes}
use Rattle.rules.specs.Templates.{templates}
use Rattle.rules.specs.Names.{grammar_names, templates_names}
use Rattle.rules.specs.Classes.{grammar_classes}
use Rattle.rules.specs.Typing.{templates_typing}
use Rattle.rules.specs.Value.{values_below}
use Rattle.rules.specs.Answers
use Rattle.rules.specs.Answers.{answer, Stream, stream_kind, bytes_of, layout_of, limits_of, over, accept, set_refusal, check_refusal, scratch_needed, evaluate_refusal, check}
use Rattle.rules.specs.declared.Answer.{Answer}
use Rattle.laws.specs.Faults.{both_none, both_iff, In, placed_iff, try_iff, Below}
use Rattle.theorems.specs.Refusals.{Refuses}
use Rattle.theorems.specs.Streams.{WellSized, RightBlock}
use Rattle.theorems.specs.LaidOut.{GrammarLaid, TemplatesLaid, ValueLaid}
use Rattle.theorems.specs.LimitsExactly.{TemplateWithin, GrammarNamed, TemplatesNamed}
use Rattle.theorems.specs.ClassesExactly.{ClassRight}
use Rattle.theorems.specs.TypingExactly.{SetTyped}
use Rattle.theorems.specs.ValueExactly.{ValueTyped}

-- every block of a stream is right
abbrev pub RightBlocks : ℕ → List ℕ → Type 0
RightBlocks kind s = (n : ℕ) → n < length s / 512 → RightBlock kind s n

-- 1 to 7, of a grammar and a template set
pub record Accepted (g t : List ℕ) : Type 0 where
  pub grammar_sized : WellSized g
  pub templates_sized : WellSized t
  pub grammar_blocks : RightBlocks 1 g
  pub templates_blocks : RightBlocks 2 t
  pub grammar_laid : GrammarLaid g
  pub templates_laid : TemplatesLaid t
  pub within_limits : (p : ℕ) → In p (templates t) → TemplateWithin t p
  pub grammar_named : GrammarNamed g
  pub templates_named : TemplatesNamed g t
  pub classes_right : (p : ℕ) → In p (classes g) → kind_of g p ≡ 1 → ClassRight g p
  pub typed : SetTyped g t

-- "It is well-formed if its stream meets none of 1 to 3"; and at most 200 deep
pub record WellFormed (v : List ℕ) : Type 0 where
  pub sized : WellSized v
  pub blocks : RightBlocks 3 v
  pub laid : ValueLaid v

abbrev pub AtMost200Deep : List ℕ → Type 0
AtMost200Deep v = (d w : ℕ) → Below (values_below v) 0 d w → d + 1 ≤ 200

pub record NoRefusal (g t : List ℕ) (more : List Stream) : Type 0 where
  pub lengths : over (λ s. stream_length (bytes_of s)) (Answers.grammar g ∷ Answers.templates t ∷ more) ≡ none
  pub blocks : over (λ s. stream_blocks (stream_kind s) (bytes_of s)) (Answers.grammar g ∷ Answers.templates t ∷ more) ≡ none
  pub layouts : over layout_of (Answers.grammar g ∷ Answers.templates t ∷ more) ≡ none
  pub limits : over limits_of (Answers.grammar g ∷ Answers.templates t ∷ more) ≡ none
  pub names_g : grammar_names g ≡ none
  pub names_t : templates_names g t ≡ none
  pub class_tables : grammar_classes g ≡ none
  pub typing : templates_typing g t ≡ none

pub set_none : (g t : List ℕ) (more : List Stream) (next : Unit {0} → Option Answer) → (set_refusal g t more next ≡ none) ↔ (NoRefusal g t more × (next tt ≡ none))
unfolding set_refusal
set_none g t more next = (
  λ e. let a = (try_iff 1 _ _).0 e in let b = (try_iff 2 _ _).0 a.1 in let c = (try_iff 3 _ _).0 b.1 in let d = (try_iff 4 _ _).0 c.1 in
      let f = (try_iff 5 _ _).0 d.1 in let h = (try_iff 6 _ _).0 f.1 in let k = (try_iff 7 _ _).0 h.1 in let n = both_none _ _ f.0 in (
        record {
          lengths = a.0;
          blocks = b.0;
          layouts = c.0;
          limits = d.0;
          names_g = (placed_iff _ _).0 n.0;
          names_t = (placed_iff _ _).0 n.1;
          class_tables = (placed_iff _ _).0 h.0;
          typing = (placed_iff _ _).0 k.0;
        },
        k.1,
      ),
  λ r. let n = r.0 in
      (try_iff 1 _ _).1 (
        n.lengths,
        (try_iff 2 _ _).1 (
          n.blocks,
          (try_iff 3 _ _).1 (
            n.layouts,
            (try_iff 4 _ _).1 (
              n.limits,
              (try_iff 5 _ _).1 (
                (both_iff _ _).1 ((placed_iff _ _).1 n.names_g, (placed_iff _ _).1 n.names_t),
                (try_iff 6 _ _).1 ((placed_iff _ _).1 n.class_tables, (try_iff 7 _ _).1 ((placed_iff _ _).1 n.typing, r.1)),
              ),
            ),
          ),
        ),
      ),
)

-- no refusal has number 0, so five zeros are no refusal
pub zeros_none : (o : Option Answer) → Refuses o → (on_found o (answer 0 0 0 0 0) (λ a. a) ≡ answer 0 0 0 0 0) ↔ (o ≡ none)
unfolding on_found answer
zeros_none none r = (λ e. refl, λ e. refl)
zeros_none (some a) r =
    (λ e. absurd (let z : a.number ≡ 0 = ap (λ (x : Answer). x.number) e in let l = (r a refl).from_1 in omega arith), λ e. absurd (some-ne-none a e))

-- 1 to 9: an evaluate call comes to its walk exactly when the set is accepted, the value is well-formed, at most 200 deep and of the declared type, and the scratch is long enough
pub record Admitted (g t v scratch : List ℕ) : Type 0 where
  pub accepted : Accepted g t
  pub well_formed : WellFormed v
  pub shallow : AtMost200Deep v
  pub of_declared_type : ValueTyped g t v
  pub scratch_enough : 4800 ≤ length scratch
