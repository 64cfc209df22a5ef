-- The copy of a text to the beginning of a lent output, part by part.
use Prim.Native.Nat.{ℕ, ◌+◌, ◌-◌, ◌≤◌, ◌<◌}
use mathlib.Core.Path.{◌≡◌, refl, ap, ap₂, sym, ◌∙◌}
use mathlib.Core.List.{List, [], ◌++◌, append_assoc, append-nil}
use native.Mathlib.Omega.{arith}
use native.Mathlib.Nat.{zero-add, add-zero, add_assoc}
use lib.ListN.{length, take, drop, length-append, length-take, length-drop, take-append-drop}
use lib.Seq.{drop-drop, take_at, drop_at}
use borrow.Author.Tests.{le-leb, lt-leb}
use borrow.Rule.Slice.PartMut.{put_mid}
use Rattle.laws.specs.Writes.{take_rest, put_rest}
use Rattle.stream.specs.declared.text.Text.{Text}
use Rattle.stream.specs.Text.{text_in, part_of, Rest, with_text, Copied}
use Rattle.stream.proofs.TextLaws.{part_length, text_end_lem}

-- a piece in a list from a place on
abbrev pub pasted : List ℕ → ℕ → List ℕ → List ℕ
pasted out at piece = take at out ++ piece ++ drop (at + length piece) out

-- what a lent rest holds after a piece was written to its beginning
paste_rest : (out piece last : List ℕ) (at : ℕ) → last ≡ piece ++ drop (length piece) (take (length out - at) (drop at out))
    → put_mid at (length out - at) out last ≡ pasted out at piece
paste_rest out piece last at e =
    put_rest at out last
    ∙ ap (λ (x : List ℕ). take at out ++ x) (e ∙ rw (take_rest out at, drop-drop (length piece) at out))
    ∙ sym (append_assoc (take at out) piece (drop (at + length piece) out))

module _ (out p : List ℕ) (at : ℕ) (l : at + length p ≤ length out) where
  paste_length : length (pasted out at p) ≡ length out
  paste_length = simp (length-append, length-take, length-drop) (omega arith)

  front : length (take at out ++ p) ≡ at + length p
  front = length-append (take at out) p ∙ simp length-take (omega arith)

  -- two pieces one after the other
  paste_paste : (q : List ℕ) → pasted (pasted out at p) (at + length p) q ≡ pasted out at (p ++ q)
  paste_paste q =
      ap₂ (λ (x y : List ℕ). x ++ q ++ y) (take_at (take at out ++ p) (drop (at + length p) out) (at + length p) front)
      (sym (drop-drop (length q) (at + length p) (pasted out at p)) ∙ ap (drop (length q)) (drop_at (take at out ++ p) (drop (at + length p) out) (at + length p) front) ∙ drop-drop (length q) (at + length p) out)
      ∙ rw (append_assoc (take at out) p q, length-append p q, add_assoc at (length p) (length q))

paste_none : (out : List ℕ) (at : ℕ) → pasted out at [] ≡ out
paste_none out at = rw (append-nil, add-zero) (take-append-drop at out)

paste_whole : (text out : List ℕ) → length text ≤ length out → pasted out 0 text ≡ with_text text out
unfolding with_text
paste_whole text out l = rw (le-leb (length text) (length out) l, zero-add)

-- What a copy of a text keeps from part to part: with what is left of it written at `done`, out is as it is to be in the end
pub record Copying (s : List ℕ) (t r : Text) (out₀ out : List ℕ) (done : ℕ) : Type 0 where
  pub same : pasted out done (text_in s r) ≡ pasted out₀ 0 (text_in s t)
  pub count : done + length (text_in s r) ≡ length (text_in s t)
  pub fits : length (text_in s t) ≤ length out₀
  pub long : length out ≡ length out₀

pub copying_start : (s : List ℕ) (t : Text) (out : List ℕ) → length (text_in s t) ≤ length out → Copying s t t out out 0
copying_start s t out l = record { same = refl; count = zero-add _; fits = l; long = refl }

-- a turn: there is room for the part, and then for what is left
pub copying_room : (s : List ℕ) (t r : Text) (out₀ out part : List ℕ) (done : ℕ) → Copying s t r out₀ out done → part ≡ part_of s r
    → length part ≤ length (take (length out - done) (drop done out))
copying_room s t r out₀ out part done c e = rw (take_rest out done, length-drop, e) (omega (arith, part_length s r, c.count, c.fits, c.long))

pub copying_next : (s : List ℕ) (t r q : Text) (out₀ out part last : List ℕ) (done : ℕ) → Copying s t r out₀ out done → part ≡ part_of s r
    → last ≡ part ++ drop (length part) (take (length out - done) (drop done out)) → Rest s r q
    → Copying s t q out₀ (put_mid done (length out - done) out last) (done + length part)
copying_next s t r q out₀ out part last done c e w n =
    let f : part ++ text_in s q ≡ text_in s r = rw e (sym n.text) in
    let k : done + length part + length (text_in s q) ≡ length (text_in s t) = omega (arith, c.count, simp length-append at (ap length f)) in
    let l : done + length part ≤ length out = omega (arith, c.fits, c.long) in
    rw (paste_rest out part last done w) (record {
      same = paste_paste out part done l (text_in s q) ∙ ap (pasted out done) f ∙ c.same;
      count = k;
      fits = c.fits;
      long = paste_length out part done l ∙ c.long;
    })

pub copying_end : (s : List ℕ) (t r : Text) (out₀ out : List ℕ) (done : ℕ) → Copying s t r out₀ out done → r.left ≤ 0
    → Copied (text_in s t) out₀ out done
copying_end s t r out₀ out done c l =
    let e : text_in s r ≡ [] = text_end_lem s r l in
    let f : pasted out done [] ≡ pasted out₀ 0 (text_in s t) = rw e at c.same in
    record { long = omega (arith, c.count, ap length e); written = sym (paste_none out done) ∙ f ∙ paste_whole (text_in s t) out₀ c.fits }

pub no_room : (text out : List ℕ) (r : ℕ) → r ≡ length text → length out < r → Copied text out out r
unfolding with_text
no_room text out r e l = record { long = e; written = rw (lt-leb (length text) (length out) (omega arith)) }

-- A text written to a lent rest: what the whole then holds
pub lent_rest : (text out last : List ℕ) (at r : ℕ) → Copied text (take (length out - at) (drop at out)) last r
    → put_mid at (length out - at) out last ≡ take at out ++ with_text text (drop at out)
lent_rest text out last at r c = put_rest at out last ∙ ap (λ (x : List ℕ). take at out ++ x) (c.written ∙ rw take_rest)
