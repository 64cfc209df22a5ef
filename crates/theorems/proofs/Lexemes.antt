-- A lexeme of a class, in the words of section "Typing", and that the test of `rules` passes exactly these.
-- Goes on from specs/Lexemes.antt: what rests on definitions that a must-fail edit changes.
use Rattle.std.specs.Prelude.{◌≡◌, refl, ◌↔◌, ℕ, ◌≤◌, List, [], ◌∷◌, true, false, length}
use Rattle.std.proofs.Common.{sym, ◌∙◌, subst, inl, inr}
use Rattle.std.proofs.lemmas.Bool.{false≢true}
use Rattle.std.proofs.Math.Option.{Option, none, some, some-ne-none, some-injective}
use Rattle.rules.specs.Records.{field_b, field_c}
use Rattle.rules.specs.Faults.{on_found}
use Rattle.rules.specs.Grammar.{lexeme, plain_class, escaped_class}
use Rattle.rules.specs.Escape.{escape, unescaped}
use Rattle.rules.specs.Lexeme.{within, characters_of, lowest, highest, ranges, in_some, is_xml_char, is_of_class, all_of_class, admits, is_plain_lexeme, is_lexeme}
use Rattle.rules.specs.Derivation.{Piece, a_lexeme, an_escaped_lexeme}
use Rattle.laws.specs.Faults.{In, here, later, on_found_true, and_iff, or_iff}
use Rattle.theorems.specs.Readings.{plain_is, escaped_is, not_both}
use Rattle.theorems.proofs.Entities.{escape_exactly, unescaped_exactly}
use Rattle.theorems.specs.XmlChars.{XmlChar, xml_char_exactly}
use Rattle.theorems.specs.Utf8.{within_iff, utf8_exactly}
use Rattle.theorems.specs.Lexemes.{InRange, PlainLexeme, Lexeme, a_plain, an_escaped}

found_range : (g rs : List ℕ) (x : ℕ) → in_some g rs x ≡ true → InRange g rs x
unfolding in_some
found_range g [] x e = absurd (false≢true e)
found_range g (r ∷ rs) x e = elim ((or_iff (within (lowest g r) (highest g r) x) (in_some g rs x)).0 e) [
  | inl h ↦ let w = (within_iff (lowest g r) (highest g r) x).0 h in (r, here rs, w.0, w.1)
  | inr h ↦ let i = found_range g rs x h in (i.0, later r rs i.1, i.2, i.3)
]

range_found : (g : List ℕ) {r : ℕ} {rs : List ℕ} (x : ℕ) → In r rs → lowest g r ≤ x → x ≤ highest g r → in_some g rs x ≡ true
unfolding in_some
range_found g {r} x (here rs) a b = (or_iff _ _).1 (inl ((within_iff (lowest g r) (highest g r) x).1 (a, b)))
range_found g x (later q rs i) a b = (or_iff (within (lowest g q) (highest g q) x) _).1 (inr (range_found g x i a b))

of_class_exactly : (g rs : List ℕ) (x : ℕ) → (is_of_class g rs x ≡ true) ↔ (InRange g rs x × XmlChar x)
unfolding is_of_class
of_class_exactly g rs x = (
  λ e. let (a, b) = (and_iff (is_xml_char x) (in_some g rs x)).0 e in (found_range g rs x b, (xml_char_exactly x).0 a),
  λ (i, a). (and_iff (is_xml_char x) (in_some g rs x)).1 ((xml_char_exactly x).1 a, range_found g x i.1 i.2 i.3),
)

each_of_class : (g rs : List ℕ) {x : ℕ} {cs : List ℕ} → all_of_class g rs cs ≡ true → In x cs → is_of_class g rs x ≡ true
unfolding all_of_class
each_of_class g rs e (here xs) = ((and_iff _ _).0 e).0
each_of_class g rs e (later y xs i) = each_of_class g rs ((and_iff (is_of_class g rs y) _).0 e).1 i

of_class_each : (g rs cs : List ℕ) → ((x : ℕ) → In x cs → is_of_class g rs x ≡ true) → all_of_class g rs cs ≡ true
unfolding all_of_class
of_class_each g rs [] h = refl
of_class_each g rs (x ∷ xs) h = (and_iff _ _).1 (h x (here xs), of_class_each g rs xs (λ y j. h y (later x xs j)))

pub plain_lexeme_exactly : (g : List ℕ) (c : ℕ) (text : List ℕ) → (is_plain_lexeme g c text ≡ true) ↔ PlainLexeme g c text
unfolding is_plain_lexeme admits
plain_lexeme_exactly g c text = (
  λ e.
      let k = (on_found_true (plain_class g c) _).0 e in
      let u = (on_found_true (characters_of text) _).0 k.2 in
      let s = (utf8_exactly text u.0).0 u.1 in
      let a = (and_iff _ _).0 u.2 in
      let n = (within_iff (field_b g k.0) (field_c g k.0) (length u.0)).0 a.0 in
      record {
        head = k.0;
        of_class = (plain_is g c k.0).0 k.1;
        characters = u.0;
        scalars = s.0;
        well_formed = s.1;
        least = n.0;
        most = n.1;
        in_some_range = λ x i. ((of_class_exactly g (ranges g k.0) x).0 (each_of_class g (ranges g k.0) a.1 i)).0;
        xml_chars = λ x i. ((of_class_exactly g (ranges g k.0) x).0 (each_of_class g (ranges g k.0) a.1 i)).1;
      },
  λ l.
      (on_found_true (plain_class g c) _).1 (
        l.head,
        (plain_is g c l.head).1 l.of_class,
        (on_found_true (characters_of text) _).1 (
          l.characters,
          (utf8_exactly text l.characters).1 (l.scalars, l.well_formed),
          (and_iff _ _).1 (
            (within_iff (field_b g l.head) (field_c g l.head) (length l.characters)).1 (l.least, l.most),
            of_class_each g (ranges g l.head) l.characters (λ x i. (of_class_exactly g (ranges g l.head) x).1 (l.in_some_range x i, l.xml_chars x i)),
          ),
        ),
      ),
)

found_lexeme : (g : List ℕ) (c : ℕ) (text : List ℕ) (o : Option ℕ) → escaped_class g c ≡ o
    → (on_found o (is_plain_lexeme g c text) (λ p. on_found (unescaped text) false (is_plain_lexeme g (field_b g p))) ≡ true) ↔ Lexeme g c text
unfolding on_found
found_lexeme g c text none e = (
  λ h. a_plain ((plain_lexeme_exactly g c text).0 h),
  λ l. elim l [
    | a_plain h ↦ (plain_lexeme_exactly g c text).1 h
    | an_escaped p x k h f ↦ absurd (some-ne-none p (sym ((escaped_is g c p).1 k) ∙ e))
  ],
)
found_lexeme g c text (some p) e = (
  λ h. let (x, u, l) = (on_found_true (unescaped text) _).0 h in
      an_escaped p x ((escaped_is g c p).0 e) ((plain_lexeme_exactly g (field_b g p) x).0 l) ((unescaped_exactly text x).0 u),
  λ l. elim l [
    | a_plain h ↦ absurd (not_both h.of_class ((escaped_is g c p).0 e))
    | an_escaped q x k h f ↦
        let z : q ≡ p = some-injective q p (sym ((escaped_is g c q).1 k) ∙ e) in
        (on_found_true (unescaped text) _).1 (x, (unescaped_exactly text x).1 f, rw (← z) ((plain_lexeme_exactly g (field_b g q) x).1 h))
  ],
)

pub lexeme_exactly : (g : List ℕ) (c : ℕ) (text : List ℕ) → (is_lexeme g c text ≡ true) ↔ Lexeme g c text
unfolding is_lexeme
lexeme_exactly g c text = found_lexeme g c text (escaped_class g c) refl

-- in the derivation, "for a class a lexeme of it", and nothing else
class_piece : {g x : List ℕ} {c : ℕ} → Piece g (lexeme c) x → Lexeme g c x
class_piece {g} (a_lexeme c x e) = a_plain ((plain_lexeme_exactly g c x).0 e)
class_piece {g} (an_escaped_lexeme c p x k e) =
    an_escaped p x ((escaped_is g c p).0 k) ((plain_lexeme_exactly g (field_b g p) x).0 e) ((escape_exactly x (escape x)).0 refl)

piece_class : {g x : List ℕ} {c : ℕ} → Lexeme g c x → Piece g (lexeme c) x
piece_class {g} {x} {c} (a_plain l) = a_lexeme c x ((plain_lexeme_exactly g c x).1 l)
piece_class {g} {x} {c} (an_escaped p y k l f) =
    subst (Piece g (lexeme c)) ((escape_exactly y x).1 f) (an_escaped_lexeme c p y ((escaped_is g c p).1 k) ((plain_lexeme_exactly g (field_b g p) y).1 l))

pub piece_exactly : (g : List ℕ) (c : ℕ) (x : List ℕ) → Piece g (lexeme c) x ↔ Lexeme g c x
piece_exactly g c x = (class_piece, piece_class)
