-- What a place writes of the text that its path finds, by what its position asks for.
-- Goes on from specs/Places.antt: what rests on definitions that a must-fail edit changes.
use Rattle.std.specs.Prelude.{◌≡◌, refl, ◌↔◌, ℕ, List, cond}
use Rattle.std.proofs.Common.{sym, ◌∙◌, subst}
use Rattle.std.proofs.Math.Option.{Option, none, some, some-ne-none}
use Rattle.rules.specs.Faults.{exists}
use Rattle.rules.specs.Grammar.{escaped_class, Element, keyword, lexeme, nonterminal, repetition, unknown}
use Rattle.rules.specs.Escape.{escape}
use Rattle.rules.specs.Walk.{piece, written_for}
use Rattle.theorems.specs.Readings.{escaped_is}
use Rattle.theorems.proofs.Entities.{escape_exactly}
use Rattle.theorems.specs.Places.{AsksEscaped, asks_escaped, PlaceWrites, as_found, with_entities}

place_of_lem : (g : List ℕ) (e : Element) (x : List ℕ) → PlaceWrites g e x (written_for g (piece e) x)
unfolding written_for exists
place_of_lem g (keyword y) x = as_found (elim [ ])
place_of_lem g (lexeme c) x = go (escaped_class g c) refl
  where
    no-escaped : escaped_class g c ≡ none → AsksEscaped g (lexeme c) → ⊥
    no-escaped h (asks_escaped d p k) = some-ne-none p (sym ((escaped_is g c p).1 k) ∙ h)

    go : (o : Option ℕ) → escaped_class g c ≡ o → PlaceWrites g (lexeme c) x (cond (exists o) (escape x) x)
    go none h = as_found (no-escaped h)
    go (some p) h = with_entities (escape x) (asks_escaped c p ((escaped_is g c p).0 h)) ((escape_exactly x (escape x)).0 refl)
place_of_lem g (nonterminal n) x = as_found (elim [ ])
place_of_lem g (repetition n y) x = as_found (elim [ ])
place_of_lem g unknown x = as_found (elim [ ])

-- a place writes one text
pub place_one : {g x y z : List ℕ} {e : Element} → PlaceWrites g e x y → PlaceWrites g e x z → y ≡ z
place_one (as_found n) (as_found m) = refl
place_one (as_found n) (with_entities y k f) = absurd (n k)
place_one (with_entities y k f) (as_found n) = absurd (n k)
place_one {x = x} (with_entities y k f) (with_entities z l h) = sym ((escape_exactly x y).1 f) ∙ (escape_exactly x z).1 h

pub place_exactly : (g : List ℕ) (e : Element) (x y : List ℕ) → (written_for g (piece e) x ≡ y) ↔ PlaceWrites g e x y
place_exactly g e x y = (λ h. subst (PlaceWrites g e x) h (place_of_lem g e x), λ p. place_one (place_of_lem g e x) p)

-- of the text that a path finds
pub place_text : (g : List ℕ) (e : Element) {x z : List ℕ} → z ≡ x → PlaceWrites g e z (written_for g (piece e) x)
place_text g e {x} h = rw h (place_of_lem g e x)
