-- Refusal 13 against the derivation, 02 h: "A nonterminal with no finite derivation is to be refused". The rounds of `Finite` find exactly the nonterminals
-- that derive a text, by the very derivation of `Derivation`.
-- Goes on from specs/FiniteExactly.antt: what rests on definitions that a must-fail edit changes.
use Rattle.std.specs.Prelude.{◌≡◌, refl, ◌↔◌, ℕ, zero, suc, Bool, true, false, length}
use Rattle.std.proofs.Common.{sym, ◌∙◌, subst, true≢false}
use mathlib.Core.List.{List, [], ◌∷◌, ◌++◌}
use Rattle.std.proofs.lemmas.Bool.{false≢true}
use Rattle.std.proofs.Math.Option.{none}
use Rattle.rules.specs.Records.{field_b}
use Rattle.rules.specs.Grammar.{Element, keyword, lexeme, nonterminal, repetition, unknown, elements, production, productions}
use Rattle.rules.specs.Derivation.{Derives, produced, Pieces, no_element, one_piece, Piece, own_bytes, a_lexeme, an_escaped_lexeme, derived, repeated, no_text, some_texts, last_text, next_text}
use Rattle.rules.specs.Escape.{escape}
use Rattle.rules.specs.Finite.{derivable, all_derivable, is_one_of, rounds, finite, all_among, grammar_finite}
use Rattle.laws.specs.Faults.{in_nth, nth_in, need_none, need_iff, every_in, in_every, and_iff}
use Rattle.theorems.proofs.Lexemes.{lexeme_exactly, piece_exactly}
use Rattle.theorems.proofs.LexemeExists.{lexeme_exists_exactly}
use Rattle.theorems.specs.LimitsExactly.{HasProduction}
use Rattle.theorems.specs.Rounds.{of_round, finite_closed}
use Rattle.theorems.specs.FiniteExactly.{DerivesSome}

-- What is found derives a text: each element by what was found before it
module _ (g : List ℕ) (known : ℕ → Bool) (h : (n : ℕ) → known n ≡ true → DerivesSome g n) where
  piece_of : (e : Element) → derivable g known e ≡ true → (x : List ℕ) × Piece g e x
  unfolding derivable
  piece_of (keyword x) d = (x, own_bytes x)
  piece_of (lexeme c) d = let (x, l) = (lexeme_exists_exactly g c).0 d in (x, (piece_exactly g c x).1 ((lexeme_exactly g c x).0 l))
  piece_of (nonterminal n) d = let (x, t) = h n d in (x, derived n x t)
  piece_of (repetition n between) d = ([], repeated n between [] (no_text n between))
  piece_of unknown d = absurd (false≢true d)

  pieces_of : (es : List Element) → all_derivable g known es ≡ true → (x : List ℕ) × Pieces g es x
  unfolding all_derivable
  pieces_of [] d = ([], no_element)
  pieces_of (e ∷ es) d =
      let (a, b) = (and_iff (derivable g known e) _).0 d in
      let (x, p) = piece_of e a in
      let (y, ps) = pieces_of es b in
      (x ++ y, one_piece e es x y p ps)

found_derives : (g : List ℕ) (k n : ℕ) → is_one_of (rounds g (productions g) k) n ≡ true → DerivesSome g n
unfolding rounds is_one_of production
found_derives g zero n e = absurd (false≢true e)
found_derives g (suc k) n e =
    let f = of_round g (productions g) (rounds g (productions g) k) n e in
    let (x, ps) = pieces_of g (is_one_of (rounds g (productions g) k)) (found_derives g k) (elements g f.head) f.elements_derive in
    let (i, d) = in_nth f.one_of_them in
    (x, produced n i f.head x d f.of_nonterminal ps)

-- What derives a text is found: what was found is closed
derives_found : {g x : List ℕ} {n : ℕ} → Derives g n x → is_one_of (finite g) n ≡ true
unfolding production derivable all_derivable
derives_found {g} d = elim d as
    (λ n x d. is_one_of (finite g) n ≡ true) (λ es x d. all_derivable g (is_one_of (finite g)) es ≡ true) (λ e x d. derivable g (is_one_of (finite g)) e ≡ true)
    (λ n between x d. Unit {0}) (λ n between x d. Unit {0}) [
      | produced n k p x e f (ps → h) ↦ subst (λ (m : ℕ). is_one_of (finite g) m ≡ true) f (finite_closed g (nth_in (productions g) k p e) h)
      | no_element ↦ refl
      | one_piece e es x rest (p → h) (ps → k) ↦ (and_iff _ _).1 (h, k)
      | own_bytes x ↦ refl
      | a_lexeme c x l ↦ (lexeme_exists_exactly g c).1 (x, (lexeme_exactly g c x).1 ((piece_exactly g c x).0 (a_lexeme c x l)))
      | an_escaped_lexeme c p x k l ↦
          (lexeme_exists_exactly g c).1 (escape x, (lexeme_exactly g c (escape x)).1 ((piece_exactly g c (escape x)).0 (an_escaped_lexeme c p x k l)))
      | derived n x (d → h) ↦ h
      | repeated n between x (r → h) ↦ refl
      | no_text n between ↦ tt
      | some_texts n between x (ts → h) ↦ tt
      | last_text n between x (d → h) ↦ tt
      | next_text n between x rest (d → h) (ts → k) ↦ tt
    ]

-- The nonterminals that the rounds find are exactly those that derive a text.
pub found_exactly : (g : List ℕ) (n : ℕ) → (is_one_of (finite g) n ≡ true) ↔ DerivesSome g n
unfolding finite
found_exactly g n = (found_derives g (length (productions g)) n, λ (x, d). derives_found d)

-- and those that they don't find derive none
pub not_found_exactly : (g : List ℕ) (n : ℕ) → (is_one_of (finite g) n ≡ false) ↔ ((x : List ℕ) → Derives g n x → ⊥)
not_found_exactly g n = (λ e x d. true≢false (sym (derives_found d) ∙ e), λ h. go (is_one_of (finite g) n) refl h)
  where
    go : (b : Bool) → is_one_of (finite g) n ≡ b → ((x : List ℕ) → Derives g n x → ⊥) → b ≡ false
    go true e h = absurd (let (x, d) = (found_exactly g n).0 e in h x d)
    go false e h = refl

-- "A nonterminal with no finite derivation is to be refused": 13 finds nothing exactly when every nonterminal that has a production derives a text.
pub finite_exactly : (g : List ℕ) → (grammar_finite g ≡ none) ↔ ((n : ℕ) → HasProduction g n → DerivesSome g n)
unfolding grammar_finite all_among
finite_exactly g = (
  λ e n (p, i, f). subst (DerivesSome g) f ((found_exactly g (field_b g p)).0 (need_none _ p (every_in _ e i))),
  λ h. in_every _ _ λ p i. (need_iff _ p).1 ((found_exactly g (field_b g p)).1 (h (field_b g p) (p, i, refl))),
)
