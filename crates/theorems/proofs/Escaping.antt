-- What is promised of escaping, 02 c: two texts never share an escaped form, an escaped form holds no markup, and the unescape call gives back the plain text.
-- Goes on from specs/Escaping.antt: what rests on definitions that a must-fail edit changes.
use Rattle.std.specs.Prelude.{◌≡◌, refl, ◌↔◌, ℕ, ◌≤◌, ◌<◌, List, length, take, drop, leb}
use Rattle.std.proofs.Common.{sym, ◌∙◌, ap, subst, arith, take_at, leb-true, leb-false}
use Rattle.std.proofs.Math.Option.{Option, none, some, some-ne-none}
use Rattle.rules.specs.Faults.{need, on_found, exists}
use Rattle.rules.specs.Escape.{escape, unescaped}
use Rattle.rules.specs.Lexeme.{characters_of}
use Rattle.rules.specs.Answers.{answer, placed, try, accept, Written, written, well_formed, plain_text, unescape}
use Rattle.laws.specs.Faults.{exists_iff, only_if_iff, on_found_some, on_some}
use Rattle.theorems.specs.Utf8.{utf8_exactly}
use Rattle.theorems.specs.Entities.{EscapedForm}
use Rattle.theorems.proofs.Entities.{escape_exactly, unescaped_exactly}
use Rattle.theorems.specs.PackCalls.{Refused, Wrote, try_need, refused_by, wrote_all}
use Rattle.theorems.specs.Escaping.{escape_injective, WellFormedUtf8, EscapedFrom, Unescapes, no_plain_text, no_room, unescapes, UnescapesExactly}

plain_text_exactly : (text x : List ℕ) → (plain_text text ≡ some x) ↔ EscapedFrom text x
unfolding plain_text well_formed
plain_text_exactly text x = (
  λ e.
      let (y, u, h) = on_found_some (unescaped text) _ x e in
      let (b, z) = (only_if_iff (exists (characters_of y)) y x).0 h in
      let (cs, c) = (exists_iff (characters_of y)).0 b in
      let (s, f) = (utf8_exactly y cs).0 c in
      record { well_formed = (cs, s, sym z ∙ f); escaped_form = subst (λ (v : List ℕ). EscapedForm v text) z ((unescaped_exactly text y).0 u) },
  λ h.
      let (cs, s, f) = h.well_formed in
      on_some none _ ((unescaped_exactly text x).1 h.escaped_form)
      ∙ (only_if_iff (exists (characters_of x)) x x).1 ((exists_iff (characters_of x)).1 (cs, (utf8_exactly x cs).1 (s, f)), refl),
)

-- where there is a plain text, its room decides
fits_or_not : (text x out : List ℕ) → EscapedFrom text x → Unescapes text out (written (try 12 (placed 0 (need (leb (length x) (length out)) 0)) accept) (λ _. x) out)
fits_or_not text x out h =
    try_need (Unescapes text out) 12 _ _ _ out
    (λ d. unescapes x h (leb-true _ _ d) (wrote_all (λ _. x) out))
    (λ d. no_room x h (leb-false _ _ d) (refused_by 12 0 out))

pub unescape_answers : (text out : List ℕ) → Unescapes text out (unescape text out)
unfolding unescape on_found
unescape_answers text out = go (plain_text text) refl
  where
    go : (o : Option (List ℕ)) → plain_text text ≡ o
        → Unescapes text out (on_found o (record { result = answer 8 0 0 0 0; output = out }) λ x.
        written (try 12 (placed 0 (need (leb (length x) (length out)) 0)) accept) (λ _. x) out)
    go none e = no_plain_text (λ x h. some-ne-none x (sym ((plain_text_exactly text x).1 h) ∙ e)) (refused_by 8 0 out)
    go (some x) e = fits_or_not text x out ((plain_text_exactly text x).0 e)

-- a text has one plain text
one_plain : {text x y : List ℕ} → EscapedFrom text x → EscapedFrom text y → x ≡ y
one_plain {text} {x} {y} a b = escape_injective x y ((escape_exactly x text).1 a.escaped_form ∙ sym ((escape_exactly y text).1 b.escaped_form))

-- a call has one answer
one_refusal : {m n : ℕ} {out : List ℕ} {w : Written} → Refused m 0 out w → Refused n 0 out w → m ≡ n
unfolding answer
one_refusal a b = ap (λ r. r.number) (sym a.refusal ∙ b.refusal)

wrote_refused : {n : ℕ} {x out : List ℕ} {w : Written} → Wrote x out w → Refused n 0 out w → 0 ≡ n
unfolding answer
wrote_refused a b = ap (λ r. r.number) (sym a.bytes_counted ∙ b.refusal)

wrote_one : {x y out : List ℕ} {w : Written} → Wrote x out w → Wrote y out w → x ≡ y
unfolding answer
wrote_one {x} {y} {out} a b =
    let l : length x ≡ length y = ap (λ r. r.bytes) (sym a.bytes_counted ∙ b.bytes_counted) in
    sym (take_at x (drop (length x) out) (length x) refl)
    ∙ ap (take (length x)) (sym a.only_these ∙ b.only_these)
    ∙ take_at y (drop (length y) out) (length x) (sym l)

module _ {text out : List ℕ} {w : Written} where
  gives_from : {x : List ℕ} → Unescapes text out w → Wrote x out w → EscapedFrom text x × (length x ≤ length out)
  gives_from (no_plain_text n r) h = absurd (let e = wrote_refused h r in omega arith)
  gives_from (no_room y k l r) h = absurd (let e = wrote_refused h r in omega arith)
  gives_from (unescapes y k l g) h = rw (wrote_one h g) (k, l)

  gives_to : {x : List ℕ} → Unescapes text out w → EscapedFrom text x → length x ≤ length out → Wrote x out w
  gives_to {x} (no_plain_text n r) h f = absurd (n x h)
  gives_to {x} (no_room y k l r) h f = absurd (let e : length y ≡ length x = ap length (one_plain k h) in omega arith)
  gives_to (unescapes y k l g) h f = rw (one_plain h k) g

  by_8_from : Unescapes text out w → Refused 8 0 out w → (x : List ℕ) → EscapedFrom text x → ⊥
  by_8_from (no_plain_text n r) h = n
  by_8_from (no_room y k l r) h = absurd (let e = one_refusal r h in omega arith)
  by_8_from (unescapes y k l g) h = absurd (let e = wrote_refused g h in omega arith)

  by_8_to : Unescapes text out w → ((x : List ℕ) → EscapedFrom text x → ⊥) → Refused 8 0 out w
  by_8_to (no_plain_text n r) h = r
  by_8_to (no_room y k l r) h = absurd (h y k)
  by_8_to (unescapes y k l g) h = absurd (h y k)

  by_12_from : Unescapes text out w → Refused 12 0 out w → (x : List ℕ) × EscapedFrom text x × (length out < length x)
  by_12_from (no_plain_text n r) h = absurd (let e = one_refusal r h in omega arith)
  by_12_from (no_room y k l r) h = (y, k, l)
  by_12_from (unescapes y k l g) h = absurd (let e = wrote_refused g h in omega arith)

  by_12_to : Unescapes text out w → (x : List ℕ) → EscapedFrom text x → length out < length x → Refused 12 0 out w
  by_12_to (no_plain_text n r) x h f = absurd (n x h)
  by_12_to (no_room y k l r) x h f = r
  by_12_to (unescapes y k l g) x h f = absurd (let e : length y ≡ length x = ap length (one_plain k h) in omega arith)

-- The call gives back any well-formed text that fits.
pub unescape_of_escape : (x out : List ℕ) → WellFormedUtf8 x → length x ≤ length out → Wrote x out (unescape (escape x) out)
unescape_of_escape x out u l =
    gives_to (unescape_answers (escape x) out) (record { well_formed = u; escaped_form = (escape_exactly x (escape x)).0 refl }) l

pub unescape_exactly : (text out : List ℕ) → UnescapesExactly text out
unescape_exactly text out =
    let a = unescape_answers text out in
    record {
      gives = λ x. (gives_from a, λ h. gives_to a h.0 h.1);
      by_8 = (by_8_from a, by_8_to a);
      by_12 = (by_12_from a, λ h. by_12_to a h.0 h.1 h.2);
    }
