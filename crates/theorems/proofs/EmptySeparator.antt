-- An empty separator is none: two grammars that differ only in element 3 against element 4 with an empty separator derive, evaluate and answer alike.
-- Goes on from specs/EmptySeparator.antt: what rests on definitions that a must-fail edit changes.
use Rattle.std.specs.Prelude.{◌≡◌, ℕ, ◌%◌, Bool, ◌&&◌, length, ltb}
use Rattle.std.proofs.Math.Path.{refl, ap, ap₂}
use Rattle.std.proofs.Common.{sym, ◌∙◌}
use mathlib.Core.List.{List, [], ◌∷◌}
use Rattle.std.proofs.Math.Bool.{true, cond}
use Rattle.std.proofs.Math.Option.{Option, none}
use Rattle.std.proofs.Math.Dec.{eqb, leb}
use Rattle.rules.specs.Faults.{need, both, every, on_found, exists}
use Rattle.rules.specs.Records.{numbered}
use Rattle.rules.specs.Blocks.{stream_length, stream_blocks}
use Rattle.rules.specs.Grammar.{classes, productions, Element, keyword, lexeme, nonterminal, repetition, unknown, element_at, element_heads}
use Rattle.rules.specs.Lexeme.{ranges}
use Rattle.rules.specs.Names.{element_named, class_named, grammar_names}
use Rattle.rules.specs.Classes.{range_right, class_bounds, bounds_right, grammar_classes}
use Rattle.rules.specs.Answers.{Stream, grammar, templates, value, stream_kind, bytes_of, layout_of, limits_of, placed, over, try, accept, set_refusal, check_refusal}
use Rattle.rules.specs.Answers.{scratch_needed, evaluate_refusal, answer, check, unless_refused, evaluate}
use Rattle.rules.specs.declared.Answer.{Answer}
use Rattle.laws.specs.Faults.{In, here, later}
use Rattle.theorems.specs.Streams.{blocks_exactly}
use Rattle.theorems.specs.ReadAlike.{ReadAlike}
use Rattle.theorems.proofs.ReadAlike.{plain_alike, derives_alike, evaluates_set_alike, names_alike, typing_alike, value_alike, walk_alike}
use Rattle.theorems.specs.Unseparated.{DifferInForm}
use Rattle.theorems.proofs.Unseparated.{the_other_way, read_alike, same_element, same_elements}
use Rattle.theorems.proofs.Unseparated.{same_kind, same_b, same_c, same_classes, same_productions, same_heads, same_bounds, same_ranges}
use Rattle.theorems.proofs.UnseparatedLaid.{layout_alike}
use Rattle.theorems.specs.EmptySeparator.{RightBy2, AnswerAlike}

every_same : {B : Type 0} {f f' : ℕ → Option B} (xs : List ℕ) → ((x : ℕ) → In x xs → f x ≡ f' x) → every f xs ≡ every f' xs
unfolding every
every_same [] h = refl
every_same (x ∷ xs) h = ap₂ both (h x (here xs)) (every_same xs (λ y i. h y (later x xs i)))

module _ (g g' : List ℕ) (d : DifferInForm g g') where
  alike : ReadAlike g g'
  alike = read_alike g g' d

  -- 5, of the grammar
  named_alike : (e : Element) → element_named g e ≡ element_named g' e
  unfolding element_named
  named_alike (keyword x) = refl
  named_alike (lexeme c) = ap exists (alike.same_class c)
  named_alike (nonterminal n) = alike.same_existence n
  named_alike (repetition n x) = alike.same_existence n
  named_alike unknown = refl

  class_named_alike : (c : ℕ × ℕ) → class_named g c ≡ class_named g' c
  unfolding class_named
  class_named_alike (n, p) = λ j.
      cond (eqb (same_kind g g' d p j) 5) (ltb (same_b g g' d p j) n && exists (plain_alike g g' alike (same_b g g' d p j) j)) true

  grammar_names_alike : grammar_names g ≡ grammar_names g'
  unfolding grammar_names
  grammar_names_alike =
      ap₂ both (λ j. every (λ c. need (class_named_alike c j) c.1) (numbered 0 (same_classes g g' d j)))
      (every_same (productions g) (λ p i.
      every_same (element_heads g p) (λ e j. ap (λ (b : Bool). need b e)
      (named_alike (element_at g e) ∙ ap (element_named g') (same_element g g' d (record { head = p; a_production = i; its_element = j }))))
      ∙ ap (every (λ e. need (element_named g' (element_at g' e)) e)) (same_heads g g' d p))
      ∙ ap (every (λ p. every (λ e. need (element_named g' (element_at g' e)) e) (element_heads g' p))) (same_productions g g' d))

  -- 6
  range_alike : {p r : ℕ} → In p (classes g) → In r (ranges g p) → range_right g r ≡ range_right g' r
  unfolding range_right
  range_alike i k = let (a, b) = same_bounds g g' d i k in λ j. leb (a j) (b j) && leb (b j) 0x10ffff

  class_alike : (p : ℕ) → In p (classes g) → class_bounds g p ≡ class_bounds g' p
  unfolding class_bounds
  class_alike p i =
      ap₂ both (λ j. need (leb (same_b g g' d p j) (same_c g g' d p j)) p)
      (every_same (ranges g p) (λ r k. ap (λ (b : Bool). need b r) (range_alike i k)) ∙ ap (every (λ r. need (range_right g' r) r)) (same_ranges g g' d p))

  bounds_alike : (p : ℕ) → In p (classes g) → bounds_right g p ≡ bounds_right g' p
  unfolding bounds_right
  bounds_alike p i = λ j. cond (eqb (same_kind g g' d p j) 5) none (class_alike p i j)

  grammar_classes_alike : grammar_classes g ≡ grammar_classes g'
  unfolding grammar_classes
  grammar_classes_alike = every_same (classes g) bounds_alike ∙ ap (every (bounds_right g')) (same_classes g g' d)

module _ (g g' : List ℕ) (right : RightBy2 g) (right' : RightBy2 g') (d : DifferInForm g g') where
  blocks_alike : stream_blocks 1 g ≡ stream_blocks 1 g'
  blocks_alike = (blocks_exactly 1 g).1 right.blocks_right ∙ sym ((blocks_exactly 1 g').1 right'.blocks_right)

  length_alike : stream_length g ≡ stream_length g'
  unfolding stream_length
  length_alike = ap (λ (n : ℕ). need (leb 1 n && (leb n 65536 && eqb (n % 512) 0)) 0) d.same_length

  -- one check over the streams, and all of them in their order
  over_alike : (fault : Stream → Option ℕ) (more : List Stream) → fault (grammar g) ≡ fault (grammar g') → over fault (grammar g ∷ more) ≡ over fault (grammar g' ∷ more)
  unfolding over every stream_kind
  over_alike fault more e = ap (λ (o : Option ℕ). both (placed 1 o) (every (λ s. placed (stream_kind s) (fault s)) more)) e

  refusal_alike : (t : List ℕ) (more : List Stream) {next next' : Unit {0} → Option Answer} → next ≡ next' → set_refusal g t more next ≡ set_refusal g' t more next'
  unfolding set_refusal bytes_of stream_kind layout_of limits_of
  refusal_alike t more e = λ j.
      try 1 (over_alike (λ s. stream_length (bytes_of s)) (templates t ∷ more) length_alike j) λ _.
      try 2 (over_alike (λ s. stream_blocks (stream_kind s) (bytes_of s)) (templates t ∷ more) blocks_alike j) λ _.
      try 3 (over_alike layout_of (templates t ∷ more) (layout_alike g g' d right.well_sized) j) λ _.
      try 4 (over_alike limits_of (templates t ∷ more) refl j) λ _.
      try 5 (both (placed 1 (grammar_names_alike g g' d j)) (placed 2 (names_alike g g' (read_alike g g' d) t j))) λ _.
      try 6 (placed 1 (grammar_classes_alike g g' d j)) λ _.
      try 7 (placed 2 (typing_alike g g' (read_alike g g' d) t j)) (e j)

  check_alike : (t : List ℕ) → check g t ≡ check g' t
  unfolding check check_refusal
  check_alike t = ap (λ (o : Option Answer). on_found o (answer 0 0 0 0 0) (λ a. a)) (refusal_alike t [] refl)

  evaluated_alike : (t v : List ℕ) (fuel : ℕ) (out scratch : List ℕ) → evaluate g t v fuel out scratch ≡ evaluate g' t v fuel out scratch
  unfolding evaluate evaluate_refusal
  evaluated_alike t v fuel out scratch = λ j.
      unless_refused
      (refusal_alike t (value v ∷ [])
      (λ k _. try 8 (placed 3 (value_alike g g' (read_alike g g' d) t v k)) λ _. try 9 (placed 0 (need (leb scratch_needed (length scratch)) 0)) accept) j)
      (λ _. walk_alike g g' (read_alike g g' d) t v fuel out j) out scratch

pub empty_separator : (g g' : List ℕ) → RightBy2 g → RightBy2 g' → DifferInForm g g' → AnswerAlike g g'
empty_separator g g' right right' d =
    let r = read_alike g g' d in
    let r' = read_alike g' g (the_other_way g g' d) in
    record {
      same_elements = same_elements g g' d;
      derive_alike = λ n x. (derives_alike g g' r, derives_alike g' g r');
      evaluate_alike = λ t v x n. (evaluates_set_alike g g' r t v, evaluates_set_alike g' g r' t v);
      check_call = check_alike g g' right right' d;
      evaluate_call = evaluated_alike g g' right right' d;
    }
