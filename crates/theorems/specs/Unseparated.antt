-- Grammars that differ only in element 3 against element 4 with an empty separator; and that the rules read the same in both, whatever else they hold.
-- (Goes on in proofs/Unseparated.antt.)
use Rattle.std.specs.Prelude.{◌≡◌, ◌⊎◌, length, get_or, drop}
use Rattle.std.proofs.Math.Path.{refl, sym, ap, ap₂}
use Rattle.std.proofs.Common.{◌∙◌, inl, inr, arith, add_assoc, get_or-take, get_or-drop}
use Prim.Native.Nat.{ℕ, zero, suc, ◌+◌, ◌*◌, ◌≤◌, ◌<◌}
use mathlib.Core.List.{List, ◌++◌, append-nil}
use Rattle.std.proofs.Math.ListN.{take}
use Rattle.rules.specs.Records.{base, byte_of, word, kind_of, field_a, field_b, field_c, field_d, records_from}
use Rattle.rules.specs.Grammar.{text_length, productions}
use Rattle.rules.specs.Grammar.{element_heads}
use Rattle.laws.specs.Faults.{In}
use Rattle.theorems.specs.Sizes.{name_text, separator_text}

-- the record e is an element of a production of g
pub record ElementOf (g : List ℕ) (e : ℕ) : Type 0 where
  pub head : ℕ
  pub a_production : In head (productions g)
  pub its_element : In e (element_heads g head)

-- "3 repetition of nonterminal b"; "4 is a repetition of nonterminal b with c bytes of separator text", where these are none
pub record Unseparated (g : List ℕ) (e : ℕ) : Type 0 where
  pub kind : kind_of g e ≡ 4
  pub form : (field_a g e ≡ 3) ⊎ (field_a g e ≡ 4)
  pub no_separator : field_c g e ≡ 0

-- record i of both: the same 8 bytes; or an element that in both repeats the same nonterminal without a separator
pub data AlikeAt (g g' : List ℕ) (i : ℕ) : Type 0 where
  same_bytes : records_from g 1 i ≡ records_from g' 1 i → AlikeAt g g' i
  three_or_four : ElementOf g i → Unseparated g i → Unseparated g' i → field_b g i ≡ field_b g' i → field_d g i ≡ field_d g' i → AlikeAt g g' i

-- two grammars that differ only in element 3 against element 4 with an empty separator, record by record
pub record DifferInForm (g g' : List ℕ) : Type 0 where
  pub same_length : length g ≡ length g'
  pub each_record : (i : ℕ) → AlikeAt g g' i

-- the bytes of a record
record_is : (s : List ℕ) (i : ℕ) → records_from s 1 i ≡ take 8 (drop (base i) s)
unfolding records_from
record_is s i = append-nil (take 8 (drop (base i) s))

byte_read : (s : List ℕ) (i j : ℕ) → j < 8 → byte_of s i j ≡ get_or (records_from s 1 i) j 0
unfolding byte_of
byte_read s i j l = sym (ap (λ (x : List ℕ). get_or x j 0) (record_is s i) ∙ get_or-take 8 (drop (base i) s) j 0 l ∙ get_or-drop (base i) s j 0)

word_read : (s : List ℕ) (i j : ℕ) → word s (base i + j) ≡ byte_of s i j + 256 * byte_of s i (j + 1)
unfolding word byte_of
word_read s i j = rw (add_assoc (base i) j 1)

-- a repetition without separator, whether of form 3 or of form 4
pub no_text : {g : List ℕ} {e : ℕ} → Unseparated g e → text_length g e ≡ 0
no_text {g} {e} u = elim u.form [ inl a ↦ name_text g e (omega arith) (omega arith) | inr a ↦ separator_text g e a ∙ u.no_separator ]

module _ (g g' : List ℕ) where
  pub same_byte : (i j : ℕ) → j < 8 → records_from g 1 i ≡ records_from g' 1 i → byte_of g i j ≡ byte_of g' i j
  same_byte i j l e = byte_read g i j l ∙ ap (λ (x : List ℕ). get_or x j 0) e ∙ sym (byte_read g' i j l)

  pub same_word : (i j : ℕ) → j + 1 < 8 → records_from g 1 i ≡ records_from g' 1 i → word g (base i + j) ≡ word g' (base i + j)
  same_word i j l e =
      word_read g i j ∙ ap₂ (λ (x y : ℕ). x + 256 * y) (same_byte i j (omega arith) e) (same_byte i (j + 1) l e) ∙ sym (word_read g' i j)

  -- records in a row
  pub same_run : (k i : ℕ) → ((j : ℕ) → i ≤ j → j < i + k → records_from g 1 j ≡ records_from g' 1 j) → records_from g k i ≡ records_from g' k i
  unfolding records_from
  same_run zero i h = refl
  same_run (suc k) i h =
      ap₂ ◌++◌ (sym (record_is g i) ∙ h i (omega arith) (omega arith) ∙ record_is g' i) (same_run k (suc i) (λ j a b. h j (omega arith) (omega arith)))
