-- What is promised of 02 h, "Grammars that can't finish": which nonterminals derive no text.
-- Goes on from specs/Finishing.antt: what rests on definitions that a must-fail edit changes.
use Rattle.std.specs.Prelude.{◌≡◌, refl, List, [], ◌∷◌, Bool, true, false, ◌&&◌}
use Rattle.std.proofs.Common.{sym, ◌∙◌, subst, true≢false}
use Prim.Native.Nat.{ℕ}
use Rattle.rules.specs.Records.{field_b}
use Rattle.rules.specs.Grammar.{Element, keyword, lexeme, nonterminal, repetition, unknown, elements, production, productions}
use Rattle.rules.specs.Derivation.{Derives, produced, Pieces, no_element, one_piece, Piece, own_bytes, a_lexeme, an_escaped_lexeme, derived, repeated, no_text, some_texts, last_text, next_text}
use Rattle.rules.specs.Finite.{derivable, all_derivable, is_one_of, finite, all_among, grammar_finite}
use Rattle.laws.specs.Faults.{In, here, later, in_nth, nth_in}
use Rattle.theorems.specs.HeadByHead.{in_cons}
use Rattle.theorems.proofs.Lexemes.{lexeme_exactly, piece_exactly}
use Rattle.theorems.proofs.LexemeExists.{lexeme_exists_exactly}
use Rattle.theorems.specs.Streams.{WellSized}
use Rattle.theorems.specs.LaidOut.{GrammarLaid}
use Rattle.theorems.specs.Heads.{production_spans}
use Rattle.theorems.specs.Least.{First, first_same}
use Rattle.theorems.proofs.Least.{least_tests}
use Rattle.theorems.specs.Ranges.{production_rows}
use Rattle.theorems.specs.Rounds.{finite_closed}
use Rattle.theorems.proofs.FiniteExactly.{found_exactly, not_found_exactly}
use Rattle.theorems.specs.Finishing.{Underivable, Waits, for_a_lexeme, for_one_of_them, of_no_form, SomeWaits, DerivesNothing}

-- "a repetition may always be empty": with a separator or without, whatever its nonterminal derives
pub repetition_may_be_empty : (g : List ℕ) (n : ℕ) (between : List ℕ) → Piece g (repetition n between) []
repetition_may_be_empty g n between = repeated n between [] (no_text n between)

-- a production of no elements derives the empty text
pub no_elements_derive : (g : List ℕ) (p : ℕ) → In p (productions g) → elements g p ≡ [] → Derives g (field_b g p) []
unfolding production
no_elements_derive g p i e = let (k, d) = in_nth i in produced (field_b g p) k p [] d refl (subst (λ (es : List Element). Pieces g es []) (sym e) no_element)

-- "A designer's nonterminal had one production, containing itself; no run could finish it." Where every production of some nonterminals has an element that waits
-- for one of these, or for a class with no lexeme, none of them derives a text.
module _ (g : List ℕ) (Among : ℕ → Type 0) where
  no_lexeme : {c : ℕ} {x : List ℕ} → Piece g (lexeme c) x → Waits g Among (lexeme c) → ⊥
  no_lexeme {x = x} p (for_a_lexeme c h) = h x ((lexeme_exactly g c x).1 ((piece_exactly g c x).0 p))

  no_nonterminal : {n : ℕ} → (Among n → ⊥) → Waits g Among (nonterminal n) → ⊥
  no_nonterminal h (for_one_of_them n a) = h a

  no_keyword : {x : List ℕ} → Waits g Among (keyword x) → ⊥
  no_keyword w = elim w [ ]

  no_repetition : {n : ℕ} {x : List ℕ} → Waits g Among (repetition n x) → ⊥
  no_repetition w = elim w [ ]

  pub circle_underivable : ((p : ℕ) → In p (productions g) → Among (field_b g p) → SomeWaits g Among (elements g p))
      → (n : ℕ) (x : List ℕ) → Among n → Derives g n x → ⊥
  unfolding production
  circle_underivable h n x a d = elim d as
      (λ n x d. Among n → ⊥) (λ es x d. (e : Element) → In e es → Waits g Among e → ⊥) (λ e x d. Waits g Among e → ⊥)
      (λ n between x d. Unit {0}) (λ n between x d. Unit {0}) [
        | produced n k p x e f (ps → none_waits) ↦ λ a. let (el, i, w) = h p (nth_in (productions g) k p e) (subst Among (sym f) a) in none_waits el i w
        | no_element ↦ λ e i. elim i [ ]
        | one_piece e es x rest (p → first) (ps → others) ↦ λ el i. in_cons (λ (y : Element). Waits g Among y → ⊥) first others i
        | own_bytes x ↦ no_keyword
        | a_lexeme c x l ↦ no_lexeme (a_lexeme c x l)
        | an_escaped_lexeme c p x k l ↦ no_lexeme (an_escaped_lexeme c p x k l)
        | derived n x (d → k) ↦ no_nonterminal k
        | repeated n between x (r → k) ↦ no_repetition
        | no_text n between ↦ tt
        | some_texts n between x (ts → k) ↦ tt
        | last_text n between x (d → k) ↦ tt
        | next_text n between x rest (d → k) (ts → k') ↦ tt
      ] a

-- And every production of a nonterminal that derives no text has such an element: one that waits for a class with no lexeme, or for a nonterminal that
-- derives no text either.
not_all : (g : List ℕ) (known : ℕ → Bool) (es : List Element) → all_derivable g known es ≡ false → (e : Element) × In e es × (derivable g known e ≡ false)
unfolding all_derivable
not_all g known [] h = absurd (true≢false h)
not_all g known (e ∷ es) h = go (derivable g known e) refl h (not_all g known es)
  where
    go : (b : Bool) → derivable g known e ≡ b → (b && all_derivable g known es) ≡ false
        → (all_derivable g known es ≡ false → (f : Element) × In f es × (derivable g known f ≡ false)) → (f : Element) × In f (e ∷ es) × (derivable g known f ≡ false)
    go true d h rest = let (f, i, k) = rest h in (f, later e es i, k)
    go false d h rest = (e, here es, d)

waits : (g : List ℕ) (e : Element) → derivable g (is_one_of (finite g)) e ≡ false → Waits g (DerivesNothing g) e
unfolding derivable
waits g (keyword x) d = absurd (true≢false d)
waits g (lexeme c) d = for_a_lexeme c (λ x l. true≢false (sym ((lexeme_exists_exactly g c).1 (x, l)) ∙ d))
waits g (nonterminal n) d = for_one_of_them n ((not_found_exactly g n).0 d)
waits g (repetition n x) d = absurd (true≢false d)
waits g unknown d = of_no_form

pub underivable_waits : (g : List ℕ) (p : ℕ) → Underivable g p → SomeWaits g (DerivesNothing g) (elements g p)
underivable_waits g p h = go (all_derivable g (is_one_of (finite g)) (elements g p)) refl
  where
    go : (b : Bool) → all_derivable g (is_one_of (finite g)) (elements g p) ≡ b → SomeWaits g (DerivesNothing g) (elements g p)
    go true e = let (x, d) = (found_exactly g (field_b g p)).0 (finite_closed g h.a_production e) in absurd (h.derives_nothing x d)
    go false e = let (f, i, d) = not_all g (is_one_of (finite g)) (elements g p) e in (f, i, waits g f d)

-- "place the first production of the first such nonterminal by record": where the grammar is laid out as layout wants it, that is the first of them all
pub first_underivable : (g : List ℕ) → WellSized g → GrammarLaid g → First (Underivable g) (grammar_finite g)
unfolding grammar_finite all_among
first_underivable g w h =
    first_same
    (λ p. (
      λ (i, e). record { a_production = i; derives_nothing = (not_found_exactly g (field_b g p)).0 e },
      λ o. (o.a_production, (not_found_exactly g (field_b g p)).1 o.derives_nothing),
    ))
    (least_tests (λ p q a. (production_spans a.1).grows) (λ p. is_one_of (finite g) (field_b g p)) (production_rows w h)).first
