-- An escaped text, byte by byte of the plain text, to the verdict.
use Prim.Native.Nat.{ℕ, zero, suc, ◌≤◌, ◌<◌}
use mathlib.Core.Path.{◌≡◌, refl, ap, sym, ◌∙◌}
use mathlib.Core.List.{List, [], ◌∷◌}
use mathlib.Core.Bool.{Bool, false}
use mathlib.Core.Option.{Option, none, some}
use native.Mathlib.Omega.{arith}
use lib.ListN.{length, get_or, drop, length-drop}
use lib.Dec.{eqb, leb}
use borrow.Author.Tests.{ne_eqb}
use Rattle.std.specs.Prelude.{Some, None, option_and_then}
use Rattle.rules.specs.Faults.{on_found}
use Rattle.rules.specs.Records.{kind_of, field_b, field_c}
use Rattle.rules.specs.Grammar.{class}
use Rattle.rules.specs.Escape.{unescaped, unescaped_after}
use Rattle.rules.specs.Lexeme.{ranges, is_plain_lexeme}
use Rattle.stream.specs.declared.text.Text.{Text}
use Rattle.stream.specs.Text.{text_in, Skips}
use Rattle.stream.proofs.TextLaws.{text_end_lem}
use Rattle.stream.proofs.SkipLaws.{text_cut}
use Rattle.entities.specs.Entity.{NoneIn, OneIn}
use Rattle.entities.specs.declared.entity.Plain.{Plain}
use Rattle.lexeme.specs.declared.scan.Scan.{Scan}
use Rattle.lexeme.specs.Scan.{clean, scanned, Tidy}
use Rattle.lexeme.proofs.ScanLaws.{passes, scanned_append, plain_scan, plain_other}
use Rattle.lexeme.proofs.PartLaws.{tidy_clean, tidy_scanned, passes_past}
use Rattle.lexeme.proofs.LexemeLaws.{ends_short, ends_whole}

-- what a scan from a state on says of a plain text, if there is one
unfoldable pub settles : List ℕ → ℕ → Scan → Option (List ℕ) → Bool
settles g p state o = on_found o false (λ x. passes g p (scanned g (ranges g p) state x))

-- the verdict on an escaped text is that on the plain text whose escaped form it is
abbrev verdict : List ℕ → ℕ → List ℕ → Text → Bool
verdict g p s t = settles g p (clean 0) (unescaped (text_in s t))

-- the text is read as far as the stream has it
pub by_unescaped : (g : List ℕ) (p : ℕ) (s : List ℕ) (t : Text) (n : ℕ) (r : Bool) → n ≡ length (text_in s t) → kind_of g p ≡ 1
    → r ≡ settles g p (clean 0) (unescaped (text_in s (record { at = t.at; left = n })))
    → (c : ℕ) → class g c ≡ some p → r ≡ on_found (unescaped (text_in s t)) false (is_plain_lexeme g c)
unfolding settles on_found
by_unescaped g p s t n r m k e c f = e ∙ ap (λ (x : List ℕ). settles g p (clean 0) (unescaped x)) (text_cut s t n m) ∙ go (unescaped (text_in s t))
  where
    go : (o : Option (List ℕ)) → settles g p (clean 0) o ≡ on_found o false (is_plain_lexeme g c)
    go none = refl
    go (some x) = sym (plain_scan g c p x f k)

-- a class that is not plain
pub by_kind_unescaped : (g : List ℕ) (p : ℕ) (text : List ℕ) → (kind_of g p ≡ 1 → ⊥) → (c : ℕ) → class g c ≡ some p
    → false ≡ on_found (unescaped text) false (is_plain_lexeme g c)
unfolding on_found
by_kind_unescaped g p text k c f = go (unescaped text)
  where
    go : (o : Option (List ℕ)) → false ≡ on_found o false (is_plain_lexeme g c)
    go none = refl
    go (some x) = sym (plain_other g c p x f k)

-- what no rest can mend, and the state at the end
settles_none : (g : List ℕ) (p : ℕ) (state : Scan) → settles g p state none ≡ false
unfolding settles on_found
settles_none g p state = refl

settles_past : (g : List ℕ) (p : ℕ) (state : Scan) (o : Option (List ℕ)) → field_c g p < state.count → settles g p state o ≡ false
unfolding settles on_found
settles_past g p state none l = refl
settles_past g p state (some x) l = passes_past g p (ranges g p) x state l

settles_end : (g : List ℕ) (p : ℕ) (state : Scan) → settles g p state (unescaped []) ≡ passes g p (Some state)
unfolding settles on_found unescaped unescaped_after scanned
settles_end g p state = refl

-- a plain byte more
settles_on : (g : List ℕ) (p : ℕ) (state next : Scan) (b : ℕ) (o : Option (List ℕ)) → Some next ≡ scanned g (ranges g p) state (b ∷ [])
    → settles g p state (on_found o none λ x. some (b ∷ x)) ≡ settles g p next o
unfolding settles on_found
settles_on g p state next b none f = refl
settles_on g p state next b (some x) f =
    ap (passes g p) (scanned_append g (ranges g p) state (b ∷ []) x ∙ ap (option_and_then (λ y. scanned g (ranges g p) y x)) (sym f))

settles_off : (g : List ℕ) (p : ℕ) (state : Scan) (b : ℕ) (o : Option (List ℕ)) → None ≡ scanned g (ranges g p) state (b ∷ [])
    → settles g p state (on_found o none λ x. some (b ∷ x)) ≡ false
unfolding settles on_found passes
settles_off g p state b none f = refl
settles_off g p state b (some x) f =
    ap (passes g p) (scanned_append g (ranges g p) state (b ∷ []) x ∙ ap (option_and_then (λ y. scanned g (ranges g p) y x)) (sym f))

one_byte : (b : ℕ) → b < 256 → (i : ℕ) → get_or (b ∷ []) i 0 < 256
one_byte b l zero = l
one_byte b l (suc i) = omega arith

-- What is left of an escaped text, all of which the stream has, and the state after what went before
pub record Unescaping (g : List ℕ) (p : ℕ) (s : List ℕ) (t : Text) (state : Scan) (rest : Text) : Type 0 where
  pub tidy : Tidy state
  pub most : state.count ≤ field_c g p
  pub there : length (text_in s rest) ≡ rest.left
  pub same : settles g p (clean 0) (unescaped (text_in s t)) ≡ settles g p state (unescaped (text_in s rest))

pub unescape_start : (g : List ℕ) (p : ℕ) (s : List ℕ) (t : Text) (n : ℕ) (state : Scan) → n ≡ length (text_in s t) → state ≡ clean 0
    → Unescaping g p s (record { at = t.at; left = n }) state (record { at = t.at; left = n })
unescape_start g p s t n state f e = rw e record { tidy = tidy_clean 0; most = omega arith; there = ap length (text_cut s t n f) ∙ sym f; same = refl }

-- no byte's escaped form
pub unescape_none : (g : List ℕ) (p : ℕ) (s : List ℕ) (t rest : Text) (state : Scan) → Unescaping g p s t state rest → NoneIn s rest → false ≡ verdict g p s t
unescape_none g p s t rest state h q = sym (h.same ∙ ap (settles g p state) q.plain ∙ settles_none g p state)

module _ (g : List ℕ) (p : ℕ) (s : List ℕ) (t rest : Text) (state : Scan) (r : Plain) (h : Unescaping g p s t state rest) (q : OneIn s rest r) where
  module _ (part : List ℕ) (rest' : Text) (k : Skips r.length rest rest') (y : part ≡ r.byte ∷ []) where
    skipped : text_in s rest' ≡ drop r.length (text_in s rest)
    skipped = k.text s q.plain.inside

    onward : settles g p (clean 0) (unescaped (text_in s t)) ≡ settles g p state (on_found (unescaped (text_in s rest')) none λ x. some (r.byte ∷ x))
    onward = h.same ∙ ap (settles g p state) (q.plain.one ∙ ap (λ (x : List ℕ). on_found (unescaped x) none λ x. some (r.byte ∷ x)) (sym skipped))

    pub unescape_bad : None ≡ scanned g (ranges g p) state part → false ≡ verdict g p s t
    unescape_bad f = sym (onward ∙ settles_off g p state r.byte (unescaped (text_in s rest')) (f ∙ ap (scanned g (ranges g p) state) y))

    module _ (next : Scan) (f : Some next ≡ scanned g (ranges g p) state part) where
      onto : settles g p (clean 0) (unescaped (text_in s t)) ≡ settles g p next (unescaped (text_in s rest'))
      onto = onward ∙ settles_on g p state next r.byte (unescaped (text_in s rest')) (f ∙ ap (scanned g (ranges g p) state) y)

      pub unescape_turn : r.byte < 256 → next.count ≤ field_c g p → Unescaping g p s t next rest'
      unescape_turn b m = record {
        tidy = tidy_scanned g (ranges g p) part state next h.tidy (rw y (one_byte r.byte b)) f;
        most = m;
        there = rw (skipped, length-drop) (omega (arith, h.there, k.left));
        same = onto;
      }

      pub unescape_past : field_c g p < next.count → false ≡ verdict g p s t
      unescape_past m = sym (onto ∙ settles_past g p next (unescaped (text_in s rest')) m)

-- at the end of the text
module _ (g : List ℕ) (p : ℕ) (s : List ℕ) (t : Text) (state : Scan) (rest : Text) (h : Unescaping g p s t state rest) (l : rest.left ≤ 0) where
  all_read : settles g p (clean 0) (unescaped (text_in s t)) ≡ passes g p (Some state)
  all_read = h.same ∙ ap (λ (x : List ℕ). settles g p state (unescaped x)) (text_end_lem s rest l) ∙ settles_end g p state

  pub unescape_short : (state.due ≡ 0 → ⊥) → eqb state.due 0 ≡ verdict g p s t
  unescape_short d = ne_eqb state.due 0 d ∙ sym (all_read ∙ ends_short g p state d)

  pub unescape_whole : state.due ≡ 0 → leb (field_b g p) state.count ≡ verdict g p s t
  unescape_whole d = sym (all_read ∙ ends_whole g p state h.most d)
