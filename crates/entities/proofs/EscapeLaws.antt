-- Escaping in parts, and a text laid down piece by piece.
use Prim.Native.Nat.{ℕ, ◌+◌, ◌-◌, ◌*◌, ◌/◌, ◌≤◌, ◌<◌}
use mathlib.Core.Path.{◌≡◌, refl, ap, sym, ◌∙◌}
use mathlib.Core.Bool.{Bool, true, false, ◌&&◌, false≢true}
use Rattle.std.specs.List.{fold}
use Rattle.std.specs.Prelude.{Option as Maybe, Some, None, is_some, not}
use Rattle.std.specs.Borrow.{Bor}
use mathlib.Core.List.{List, [], ◌∷◌, ◌++◌, append_assoc, append-nil}
use native.Mathlib.Omega.{arith}
use native.Mathlib.Numerals.{add-one}
use native.Mathlib.Nat.{add-zero}
use lib.ListN.{length, take, drop, get_or, length-append, length-drop, take-append-drop}
use lib.Seq.{drop-drop, take-suc, take_at, drop_at}
use borrow.Author.Tests.{le-leb, ne_eqb}
use borrow.Rule.Slice.PartMut.{put_mid}
use Rattle.rules.specs.Escape.{entity, escape}
use Rattle.laws.specs.Escapes.{ampersand, less, greater, quote, apostrophe, itself, turned, entity_itself}
use Rattle.laws.specs.Writes.{take_rest, put_rest}
use Rattle.stream.specs.declared.text.Text.{Text}
use Rattle.stream.specs.Text.{text_in, part_of, Rest, with_text, Copied}
use Rattle.stream.proofs.TextLaws.{text_end_lem, text_length_lem}
use Rattle.entities.specs.Entity.{own, EntityOf}
use Rattle.entities.specs.Put.{Put}

-- Escaping, part by part

pub escape_append : (x y : List ℕ) → escape (x ++ y) ≡ escape x ++ escape y
unfolding escape
escape_append [] y = refl
escape_append (b ∷ bs) y = ap (λ (z : List ℕ). entity b ++ z) (escape_append bs y) ∙ sym (append_assoc (entity b) (escape bs) (escape y))

escape_one : (b : ℕ) → escape (b ∷ []) ≡ entity b
unfolding escape
escape_one b = append-nil (entity b)

-- one byte more of a part
pub escape_more : (part : List ℕ) (i : ℕ) → i < length part → escape (take (i + 1) part) ≡ escape (take i part) ++ entity (get_or part i 0)
escape_more part i l = rw (add-one, take-suc part i 0 l, escape_append, escape_one)

pub escape_long : (part : List ℕ) (i : ℕ) → i < length part → length (escape (take i part)) + length (entity (get_or part i 0)) ≤ length (escape part)
escape_long part i l =
    let e = ap length (sym (ap escape (take-append-drop (i + 1) part)) ∙ escape_append (take (i + 1) part) (drop (i + 1) part)) in
    let f = ap length (escape_more part i l) in
    omega (arith, simp length-append at e, simp length-append at f)

pub entity_short : (b : ℕ) → length (entity b) ≤ 6
unfolding entity
entity_short b = elim (turned b) [
  | ampersand i ↦ rw i (omega arith)
  | less i ↦ rw i (omega arith)
  | greater i ↦ rw i (omega arith)
  | quote i ↦ rw i (omega arith)
  | apostrophe i ↦ rw i (omega arith)
  | itself i j k l m ↦ rw (entity_itself b i j k l m) (omega arith)
]

pub escape_short : (x : List ℕ) → length (escape x) ≤ 6 * length x
unfolding escape
escape_short [] = omega arith
escape_short (b ∷ bs) = simp length-append (omega (arith, entity_short b, escape_short bs))

-- a byte that stands for itself, and a part of such bytes
pub own_entity : (b : ℕ) → own b ≡ true → entity b ≡ b ∷ []
unfolding own entity
own_entity b e = elim (turned b) [
  | ampersand i ↦ absurd (false≢true (rw i at e))
  | less i ↦ absurd (false≢true (rw i at e))
  | greater i ↦ absurd (false≢true (rw i at e))
  | quote i ↦ absurd (false≢true (rw i at e))
  | apostrophe i ↦ absurd (false≢true (rw i at e))
  | itself i j k l m ↦ entity_itself b i j k l m
]

none_own : (part : List ℕ) → fold (λ o b. o && own b) false part ≡ false
none_own [] = refl
none_own (b ∷ bs) = none_own bs

own_step : (b : ℕ) (bs : List ℕ) (t : Bool) → own b ≡ t → (fold (λ o c. o && own c) true bs ≡ true → escape bs ≡ bs)
    → fold (λ o c. o && own c) t bs ≡ true → entity b ++ escape bs ≡ b ∷ bs
own_step b bs true f h e = rw (own_entity b f, h e)
own_step b bs false f h e = absurd (false≢true (sym (none_own bs) ∙ e))

pub all_own : (part : List ℕ) → fold (λ o b. o && own b) true part ≡ true → escape part ≡ part
unfolding escape
all_own [] e = refl
all_own (b ∷ bs) e = own_step b bs (own b) refl (all_own bs) e

pub own_is : (b : ℕ) (o : Maybe (Bor (List ℕ))) (r : Bool) → EntityOf b o → is_some o ≡ not r → r ≡ own b
unfolding own
own_is b None true h e = rw h
own_is b None false h e = absurd (false≢true e)
own_is b (Some x) true h e = absurd (false≢true (sym e))
own_is b (Some x) false h e = rw (h.into, ne_eqb (length x.now) 1 (λ z. absurd (omega (arith, h.long))))

-- Texts in a stream

pub plain_end_lem : (s : List ℕ) (t : Text) → t.left ≤ 0 → escape (text_in s t) ≡ text_in s t
unfolding escape
plain_end_lem s t l = rw (text_end_lem s t l)

pub part_long : (s : List ℕ) (t r : Text) → Rest s t r → length (escape (part_of s t)) + length (escape (text_in s r)) ≡ length (escape (text_in s t))
part_long s t r h = sym (length-append (escape (part_of s t)) (escape (text_in s r))) ∙ ap length (sym (escape_append (part_of s t) (text_in s r)) ∙ ap escape (sym h.text))

pub plain_part : (part x : List ℕ) → part ≡ x → escape part ≡ part → escape x ≡ x
plain_part part x e h = rw (← e) h

pub plain_rest : (s : List ℕ) (t r : Text) → Rest s t r → escape (part_of s t) ≡ part_of s t → escape (text_in s r) ≡ text_in s r → escape (text_in s t) ≡ text_in s t
plain_rest s t r h p q = rw (h.text, escape_append, p, q)

-- A text laid down piece by piece

pub laid_none : (out : List ℕ) → Put [] out out 0
laid_none out = record { fits = omega arith; long = refl; written = refl }

module _ {text before after : List ℕ} {r : ℕ} (h : Put text before after r) where
  laid_front : take r after ≡ text
  laid_front = ap (take r) h.written ∙ take_at text (drop (length text) before) r (sym h.long)

  laid_behind : drop r after ≡ drop (length text) before
  laid_behind = ap (drop r) h.written ∙ drop_at text (drop (length text) before) r (sym h.long)

  -- what is left of the output behind it
  pub laid_room : length (take (length after - r) (drop r after)) ≡ length before - length text
  laid_room = rw (take_rest after r, laid_behind, length-drop)

  pub laid_more : {more last : List ℕ} {m : ℕ} → Put more (take (length after - r) (drop r after)) last m
      → Put (text ++ more) before (put_mid r (length after - r) after last) (r + m)
  laid_more {more} {last} {m} k = record {
    fits = rw length-append (omega (arith, h.fits, k.fits, laid_room));
    long = rw length-append (omega (arith, h.long, k.long));
    written =
        put_rest r after last
        ∙ rw (laid_front, k.written, take_rest after r, laid_behind, drop-drop (length more) (length text) before, ← append_assoc, length-append);
  }

-- whole or not at all
pub laid_copied : {text before after : List ℕ} {r : ℕ} → Put text before after r → Copied text before after r
unfolding with_text
laid_copied {text} {before} h = record { long = h.long; written = h.written ∙ sym (rw (le-leb (length text) (length before) h.fits)) }

-- What the writing of a text in parts keeps: its escaped form is laid down as far as it was read
pub record Writing (s : List ℕ) (t r : Text) (out₀ out : List ℕ) (done : ℕ) : Type 0 where
  pub so_far : List ℕ
  pub split : text_in s t ≡ so_far ++ text_in s r
  pub laid : Put (escape so_far) out₀ out done
  pub fits : length (escape (text_in s t)) ≤ length out₀

pub writing_start : (s : List ℕ) (t : Text) (out : List ℕ) → length (escape (text_in s t)) ≤ length out → Writing s t t out out 0
unfolding escape
writing_start s t out l = record { so_far = []; split = refl; laid = laid_none out; fits = l }

module _ {s : List ℕ} {t r q : Text} {out₀ out : List ℕ} {done : ℕ} (h : Writing s t r out₀ out done) (n : Rest s r q) where
  all_long : length (escape h.so_far) + length (escape (text_in s r)) ≡ length (escape (text_in s t))
  all_long = sym (length-append (escape h.so_far) (escape (text_in s r))) ∙ ap length (sym (escape_append h.so_far (text_in s r)) ∙ ap escape (sym h.split))

  pub writing_room : {part : List ℕ} → part ≡ part_of s r → length (escape part) ≤ length (take (length out - done) (drop done out))
  writing_room e = rw (e, laid_room h.laid) (omega (arith, all_long, part_long s r q n, h.fits))

  pub writing_next : {part last : List ℕ} {m : ℕ} → part ≡ part_of s r → Put (escape part) (take (length out - done) (drop done out)) last m
      → Writing s t q out₀ (put_mid done (length out - done) out last) (done + m)
  writing_next {part} {last} {m} e k = record {
    so_far = h.so_far ++ part_of s r;
    split = h.split ∙ ap (λ (x : List ℕ). h.so_far ++ x) n.text ∙ sym (append_assoc h.so_far (part_of s r) (text_in s q));
    laid = rw (escape_append h.so_far (part_of s r), ← e) (laid_more h.laid k);
    fits = h.fits;
  }

pub writing_end : {s : List ℕ} {t r : Text} {out₀ out : List ℕ} {done : ℕ} → Writing s t r out₀ out done → r.left ≤ 0
    → Put (escape (text_in s t)) out₀ out done
writing_end {s} {t} {r} {out₀} {out} {done} h l =
    let e : text_in s t ≡ h.so_far = h.split ∙ rw (text_end_lem s r l) (append-nil h.so_far) in
    rw e h.laid

-- The turns of the loops

module _ (part : List ℕ) (i : ℕ) (l : i < length part) where
  pub len_more : (n m : ℕ) → n ≡ length (escape (take i part)) → m ≡ length (entity (get_or part i 0)) → n + m ≡ length (escape (take (i + 1) part))
  len_more n m e f = sym (rw (escape_more part i l, length-append, e, f))

  pub len_small : (n m : ℕ) → n ≡ length (escape (take i part)) → m ≡ length (entity (get_or part i 0)) → length part ≤ 65535 → n + m ≤ 393210
  len_small n m e f k = omega (arith, escape_long part i l, escape_short part)

  pub put_room : {out₀ out : List ℕ} {done : ℕ} → Put (escape (take i part)) out₀ out done → length (escape part) ≤ length out₀
      → length (entity (get_or part i 0)) ≤ length (take (length out - done) (drop done out))
  put_room h k = rw (laid_room h) (omega (arith, escape_long part i l))

  pub put_more : {out₀ out last : List ℕ} {done m : ℕ} → Put (escape (take i part)) out₀ out done
      → Put (entity (get_or part i 0)) (take (length out - done) (drop done out)) last m
      → Put (escape (take (i + 1) part)) out₀ (put_mid done (length out - done) out last) (done + m)
  put_more h k = rw (escape_more part i l) (laid_more h k)

module _ (s : List ℕ) (t r : Text) (part : List ℕ) (h : Rest s t r) (e : part ≡ part_of s t) where
  -- the length of what is left, and of the part
  pub lengths_add : (n m whole : ℕ) → n + length (escape (text_in s t)) ≡ whole → m ≡ length (escape part) → n + m + length (escape (text_in s r)) ≡ whole
  lengths_add n m whole i f = omega (arith, part_long s t r h, ap (λ (x : List ℕ). length (escape x)) e)

pub lengths_end : (s : List ℕ) (t : Text) (n whole : ℕ) → t.left ≤ 0 → n + length (escape (text_in s t)) ≡ whole → n ≡ whole
unfolding escape
lengths_end s t n whole l e = sym (add-zero n) ∙ sym (ap (λ (x : List ℕ). n + length (escape x)) (text_end_lem s t l)) ∙ e

-- a text of at most 65,535 bytes has an escaped form of at most six times as many
pub surely_fits : (s : List ℕ) (t : Text) (room : ℕ) → t.left ≤ room / 6 → length (escape (text_in s t)) ≤ room
surely_fits s t room l = omega (arith, escape_short (text_in s t), text_length_lem s t)

pub escaped_small : (s : List ℕ) (t : Text) → t.left ≤ 65535 → length (escape (text_in s t)) ≤ 393210
escaped_small s t l = omega (arith, escape_short (text_in s t), text_length_lem s t)
