-- Which classes have a lexeme, for 02 h: "a class with no lexeme counts as underivable". The test goes by intervals, and passes exactly the classes of which
-- some text is a lexeme.
-- Goes on from specs/LexemeExists.antt: what rests on definitions that a must-fail edit changes.
use Rattle.std.specs.Prelude.{◌≡◌, refl, ◌↔◌, ℕ, zero, suc, ◌≤◌, List, [], ◌∷◌, Bool, true, false, length, replicate, eqb, leb}
use Rattle.std.proofs.Common.{sym, ◌∙◌, subst, inl, inr, arith, leb-true, leb-false}
use Rattle.std.proofs.lemmas.Bool.{false≢true}
use Rattle.std.proofs.Math.Option.{some-injective}
use Rattle.std.proofs.lemmas.List.{length-replicate}
use Rattle.rules.specs.Faults.{on_found}
use Rattle.rules.specs.Records.{field_b, field_c}
use Rattle.rules.specs.Grammar.{plain_class, plain_of}
use Rattle.rules.specs.Escape.{escape}
use Rattle.rules.specs.Lexeme.{lowest, highest, ranges, is_lexeme}
use Rattle.rules.specs.Finite.{overlap, overlap_some, xml_intervals, has_character, some_character, plain_has_lexeme, has_lexeme}
use Rattle.laws.specs.Faults.{In, here, later, on_found_true, and_iff, or_iff, eqb_iff, leb_iff}
use Rattle.theorems.specs.Utf8.{Scalar, encoded_all}
use Rattle.theorems.specs.XmlChars.{XmlChar, tab, line_feed, carriage_return, from_space, behind_surrogates, of_four_bytes}
use Rattle.theorems.proofs.Entities.{escape_exactly}
use Rattle.theorems.specs.Readings.{Plain, plain_is, Takes, of_itself, of_its_plain, takes_is, not_both, escaped_is}
use Rattle.theorems.specs.HeadByHead.{in_cons}
use Rattle.theorems.specs.Lexemes.{InRange, PlainLexeme, Lexeme, a_plain, an_escaped}
use Rattle.theorems.proofs.Lexemes.{lexeme_exactly}
use Rattle.theorems.specs.LexemeExists.{HasCharacter}

-- x is a number from low to high, and in an interval
record InBoth (low high : ℕ) (i : ℕ × ℕ) (x : ℕ) : Type 0 where
  from_low : low ≤ x
  to_high : x ≤ high
  from_first : i.0 ≤ x
  to_last : x ≤ i.1

abbrev Meet : ℕ → ℕ → ℕ × ℕ → Type 0
Meet low high i = (x : ℕ) × InBoth low high i x

meet_exactly : (low high : ℕ) (i : ℕ × ℕ) → low ≤ high → i.0 ≤ i.1 → (overlap low high i ≡ true) ↔ Meet low high i
unfolding overlap
meet_exactly low high (from, to) l m = (
  λ e. let (a, b) = (and_iff (leb low to) (leb from high)).0 e in go ((leb_iff low to).0 a) ((leb_iff from high).0 b) (leb low from) refl,
  λ (x, h).
      let a = h.from_low in let b = h.to_high in let c = h.from_first in let d = h.to_last in
      (and_iff (leb low to) (leb from high)).1 ((leb_iff low to).1 (omega arith), (leb_iff from high).1 (omega arith)),
)
  where
    go : low ≤ to → from ≤ high → (b : Bool) → leb low from ≡ b → Meet low high (from, to)
    go a b true e = (from, record { from_low = leb-true low from e; to_high = b; from_first = omega arith; to_last = m })
    go a b false e = let k = leb-false low from e in (low, record { from_low = omega arith; to_high = l; from_first = omega arith; to_last = a })

-- of several intervals, none of which is empty
abbrev NoneEmpty : List (ℕ × ℕ) → Type 0
NoneEmpty is = (i : ℕ × ℕ) → In i is → i.0 ≤ i.1

meets_some : (low high : ℕ) (is : List (ℕ × ℕ)) → low ≤ high → NoneEmpty is → overlap_some low high is ≡ true → (i : ℕ × ℕ) × In i is × Meet low high i
unfolding overlap_some
meets_some low high [] l h e = absurd (false≢true e)
meets_some low high (i ∷ is) l h e = elim ((or_iff (overlap low high i) (overlap_some low high is)).0 e) [
  | inl f ↦ (i, here is, (meet_exactly low high i l (h i (here is))).0 f)
  | inr f ↦ let (j, k, x) = meets_some low high is l (λ j k. h j (later i is k)) f in (j, later i is k, x)
]

some_meets : (low high : ℕ) {i : ℕ × ℕ} {is : List (ℕ × ℕ)} → low ≤ high → i.0 ≤ i.1 → In i is → Meet low high i → overlap_some low high is ≡ true
unfolding overlap_some
some_meets low high {i} l h (here is) m = (or_iff _ _).1 (inl ((meet_exactly low high i l h).1 m))
some_meets low high l h (later j is k) m = (or_iff (overlap low high j) _).1 (inr (some_meets low high l h k m))

-- the intervals are those of the characters that XML 1.0 admits
record OfXml (i : ℕ × ℕ) : Type 0 where
  not_empty : i.0 ≤ i.1
  admitted : (x : ℕ) → i.0 ≤ x → x ≤ i.1 → XmlChar x

of_xml : (i : ℕ × ℕ) → In i xml_intervals → OfXml i
unfolding xml_intervals
of_xml i =
    in_cons OfXml (record { not_empty = omega arith; admitted = λ x l m. tab (omega arith) }) λ _.
    in_cons OfXml (record { not_empty = omega arith; admitted = λ x l m. line_feed (omega arith) }) λ _.
    in_cons OfXml (record { not_empty = omega arith; admitted = λ x l m. carriage_return (omega arith) }) λ _.
    in_cons OfXml (record { not_empty = omega arith; admitted = λ x l m. from_space l m }) λ _.
    in_cons OfXml (record { not_empty = omega arith; admitted = λ x l m. behind_surrogates l m }) λ _.
    in_cons OfXml (record { not_empty = omega arith; admitted = λ x l m. of_four_bytes l m }) λ _ j. elim j [ ]

interval_of : {x : ℕ} → XmlChar x → (i : ℕ × ℕ) × In i xml_intervals × (i.0 ≤ x) × (x ≤ i.1)
unfolding xml_intervals
interval_of (tab e) = ((0x9, 0x9), here _, omega arith, omega arith)
interval_of (line_feed e) = ((0xa, 0xa), later _ _ (here _), omega arith, omega arith)
interval_of (carriage_return e) = ((0xd, 0xd), later _ _ (later _ _ (here _)), omega arith, omega arith)
interval_of (from_space l m) = ((0x20, 0xd7ff), later _ _ (later _ _ (later _ _ (here _))), l, m)
interval_of (behind_surrogates l m) = ((0xe000, 0xfffd), later _ _ (later _ _ (later _ _ (later _ _ (here _)))), l, m)
interval_of (of_four_bytes l m) = ((0x10000, 0x10ffff), later _ _ (later _ _ (later _ _ (later _ _ (later _ _ (here _))))), l, m)

pub character_exactly : (g : List ℕ) (r : ℕ) → (has_character g r ≡ true) ↔ HasCharacter g r
unfolding has_character
character_exactly g r = (
  λ e.
      let (a, b) = (and_iff (leb (lowest g r) (highest g r)) _).0 e in
      let (i, j, (x, h)) = meets_some _ _ xml_intervals ((leb_iff _ _).0 a) (λ i j. (of_xml i j).not_empty) b in
      (x, h.from_low, h.to_high, (of_xml i j).admitted x h.from_first h.to_last),
  λ (x, a, b, c).
      let (i, j, f, l) = interval_of c in
      let m : lowest g r ≤ highest g r = omega arith in
      (and_iff (leb (lowest g r) (highest g r)) _).1 (
        (leb_iff _ _).1 m,
        some_meets _ _ m (of_xml i j).not_empty j (x, record { from_low = a; to_high = b; from_first = f; to_last = l }),
      ),
)

some_character_lem : (g rs : List ℕ) → some_character g rs ≡ true → (r : ℕ) × In r rs × HasCharacter g r
unfolding some_character
some_character_lem g [] e = absurd (false≢true e)
some_character_lem g (r ∷ rs) e = elim ((or_iff (has_character g r) (some_character g rs)).0 e) [
  | inl h ↦ (r, here rs, (character_exactly g r).0 h)
  | inr h ↦ let (q, i, c) = some_character_lem g rs h in (q, later r rs i, c)
]

character_some : (g : List ℕ) {r : ℕ} {rs : List ℕ} → In r rs → HasCharacter g r → some_character g rs ≡ true
unfolding some_character
character_some g {r} (here rs) c = (or_iff _ _).1 (inl ((character_exactly g r).1 c))
character_some g (later q rs i) c = (or_iff (has_character g q) _).1 (inr (character_some g i c))

-- the empty text is a lexeme where the least is 0
pub empty_plain : {g : List ℕ} {c p : ℕ} → Plain g c p → field_b g p ≡ 0 → PlainLexeme g c []
unfolding encoded_all
empty_plain {p = p} k e = record {
  head = p;
  of_class = k;
  characters = [];
  scalars = λ x i. elim i [ ];
  well_formed = refl;
  least = omega arith;
  most = omega arith;
  in_some_range = λ x i. elim i [ ];
  xml_chars = λ x i. elim i [ ];
}

-- a text of so many times one character is a lexeme
xml_scalar : {x : ℕ} → XmlChar x → Scalar x
xml_scalar (tab e) = record { in_range = omega arith; no_surrogate = λ h. omega arith }
xml_scalar (line_feed e) = record { in_range = omega arith; no_surrogate = λ h. omega arith }
xml_scalar (carriage_return e) = record { in_range = omega arith; no_surrogate = λ h. omega arith }
xml_scalar (from_space l m) = record { in_range = omega arith; no_surrogate = λ h. omega (arith, h.0) }
xml_scalar (behind_surrogates l m) = record { in_range = omega arith; no_surrogate = λ h. omega (arith, h.1) }
xml_scalar (of_four_bytes l m) = record { in_range = omega arith; no_surrogate = λ h. omega (arith, h.1) }

in_replicate : {A : Type 0} (P : A → Type 0) (n : ℕ) (x : A) → P x → (y : A) → In y (replicate n x) → P y
in_replicate P zero x h y i = elim i [ ]
in_replicate P (suc n) x h y i = in_cons P h (in_replicate P n x h) i

repeated : {g : List ℕ} {c p : ℕ} (n x : ℕ) → Plain g c p → field_b g p ≤ n → n ≤ field_c g p → InRange g (ranges g p) x → XmlChar x
    → PlainLexeme g c (encoded_all (replicate n x))
repeated {g} {p = p} n x k l m i a = record {
  head = p;
  of_class = k;
  characters = replicate n x;
  scalars = in_replicate Scalar n x (xml_scalar a);
  well_formed = refl;
  least = rw (length-replicate n x) l;
  most = rw (length-replicate n x) m;
  in_some_range = in_replicate (InRange g (ranges g p)) n x i;
  xml_chars = in_replicate XmlChar n x a;
}

-- the plain class at p: the test passes exactly where it has a lexeme
plain_lexeme : {g : List ℕ} {c p : ℕ} → Plain g c p → plain_has_lexeme g p ≡ true → (x : List ℕ) × PlainLexeme g c x
unfolding plain_has_lexeme
plain_lexeme {g} {c} {p} k e =
    let (a, b) = (and_iff (leb (field_b g p) (field_c g p)) _).0 e in
    elim ((or_iff (eqb (field_b g p) 0) _).0 b) [
      | inl z ↦ ([], empty_plain k ((eqb_iff (field_b g p) 0).0 z))
      | inr s ↦ let (r, i, (x, l, m, h)) = some_character_lem g (ranges g p) s in (_, repeated (field_b g p) x k (omega arith) ((leb_iff _ _).0 a) (r, i, l, m) h)
    ]

lexeme_plain : {g x : List ℕ} {c p : ℕ} → Plain g c p → PlainLexeme g c x → plain_has_lexeme g p ≡ true
unfolding plain_has_lexeme
lexeme_plain {g} {c = c} {p} k l =
    let z : l.head ≡ p = some-injective l.head p (sym ((plain_is g c l.head).1 l.of_class) ∙ (plain_is g c p).1 k) in
    subst (λ (q : ℕ). plain_has_lexeme g q ≡ true) z (go l.characters l.least l.most l.in_some_range l.xml_chars)
  where
    go : (cs : List ℕ) → field_b g l.head ≤ length cs → length cs ≤ field_c g l.head → ((x : ℕ) → In x cs → InRange g (ranges g l.head) x)
        → ((x : ℕ) → In x cs → XmlChar x) → plain_has_lexeme g l.head ≡ true
    go [] least most i a = let m : field_b g l.head ≤ field_c g l.head = omega arith in (and_iff _ _).1 ((leb_iff _ _).1 m, (or_iff _ _).1 (inl ((eqb_iff (field_b g l.head) 0).1 (omega arith))))
    go (x ∷ xs) least most i a =
        let (r, j, f, t) = i x (here xs) in
        let m : field_b g l.head ≤ field_c g l.head = omega arith in
        (and_iff _ _).1 ((leb_iff _ _).1 m, (or_iff (eqb (field_b g l.head) 0) _).1 (inr (character_some g j (x, f, t, a x (here xs)))))

-- "a class with no lexeme": the test holds exactly when some text, of any bytes, is a lexeme of the class
pub lexeme_exists_exactly : (g : List ℕ) (c : ℕ) → (has_lexeme g c ≡ true) ↔ ((x : List ℕ) × (is_lexeme g c x ≡ true))
unfolding has_lexeme
lexeme_exists_exactly g c = (
  λ e. let (p, f, h) = (on_found_true (plain_class g (plain_of g c)) _).0 e in
      let (x, l) = plain_lexeme ((plain_is g (plain_of g c) p).0 f) h in
      taken ((takes_is g c (plain_of g c)).0 refl) l,
  λ (x, e). of_lexeme ((takes_is g c (plain_of g c)).0 refl) ((lexeme_exactly g c x).0 e),
)
  where
    taken : {d : ℕ} {x : List ℕ} → Takes g c d → PlainLexeme g d x → (y : List ℕ) × (is_lexeme g c y ≡ true)
    taken {x = x} (of_itself n) l = (x, (lexeme_exactly g c x).1 (a_plain l))
    taken {x = x} (of_its_plain p k) l = (escape x, (lexeme_exactly g c (escape x)).1 (an_escaped p x k l ((escape_exactly x (escape x)).0 refl)))

    found : {d : ℕ} {x : List ℕ} → PlainLexeme g d x → on_found (plain_class g d) false (plain_has_lexeme g) ≡ true
    found {d} l = (on_found_true (plain_class g d) _).1 (l.head, (plain_is g d l.head).1 l.of_class, lexeme_plain l.of_class l)

    of_lexeme : {d : ℕ} {x : List ℕ} → Takes g c d → Lexeme g c x → on_found (plain_class g d) false (plain_has_lexeme g) ≡ true
    of_lexeme (of_itself n) (a_plain l) = found l
    of_lexeme (of_itself n) (an_escaped p y k l f) = absurd (n p k)
    of_lexeme (of_its_plain p k) (a_plain l) = absurd (not_both l.of_class k)
    of_lexeme (of_its_plain p k) (an_escaped q y j l f) =
        let z : q ≡ p = some-injective q p (sym ((escaped_is g c q).1 j) ∙ (escaped_is g c p).1 k) in
        subst (λ (u : ℕ). on_found (plain_class g (field_b g u)) false (plain_has_lexeme g) ≡ true) z (found l)
