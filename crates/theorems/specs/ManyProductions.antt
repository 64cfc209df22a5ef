-- "More than 256 productions" (02 f): what the number of a production means, and that "old grammars read as before".
use Rattle.std.specs.Prelude.{◌≡◌, refl, ◌↔◌, ℕ, suc, ◌+◌, ◌*◌, ◌≤◌, ◌<◌, List, [], ◌∷◌, Bool, true, false, ◌&&◌, length, get_or, eqb}
use Rattle.std.proofs.Common.{sym, ◌∙◌, ap, subst, arith, eqb-true, eq-eqb, ne_eqb}
use Rattle.std.proofs.Math.Option.{Option, none, some}
use Rattle.std.proofs.lemmas.Bool.{eqb-false}
use Rattle.rules.specs.Faults.{only_if}
use Rattle.rules.specs.Records.{record_count, base, byte_of, kind_of, field_a, field_c, field_d, of_kind, heads}
use Rattle.rules.specs.Grammar.{is_class, production_number, grammar_size, productions, production}
use Rattle.rules.specs.Layout.{then_read, in_row, while_is, class_end, element_end, production_end, layout_fault, grammar_layout}
use Rattle.laws.specs.Faults.{and_iff, eqb_iff, need_some, need_alike}
use Rattle.laws.specs.Rows.{length_heads}
use Rattle.theorems.specs.Streams.{WellSized}
use Rattle.theorems.specs.LaidOut.{Numbered, no_more, one_more, Tail, ClassAt, ProductionAt, GrammarLaid}
use Rattle.theorems.specs.Sizes.{production_size_lem}
use Rattle.theorems.specs.Heads.{grammar_sorts, class_spans, production_spans, productions_are}
use Rattle.theorems.specs.LayoutExactly.{only_if_then, class_from, class_to, elements_exactly, production_exactly, fault_iff, two_rows_from, two_rows_to, grammar_laid_exactly}
use Rattle.theorems.specs.Follows.{grammar_follows}

-- The rule before this request: "3 production: a number (from 0, consecutive, so at most 256 of them), b its nonterminal, d count of elements". c was
-- unused.
unfoldable pub old_production_end : List ℕ → ℕ → ℕ → Option ℕ
old_production_end g n p =
    then_read (only_if (eqb (field_a g p) n && eqb (field_c g p) 0) (p + 1)) (in_row (element_end g) (field_d g p))

unfoldable pub old_grammar_end : List ℕ → Option ℕ
old_grammar_end g =
    then_read (while_is (is_class g) (class_end g) (record_count g) 0 0)
    (while_is (of_kind g 3) (old_production_end g) (record_count g) 0)

unfoldable pub old_grammar_layout : List ℕ → Option ℕ
old_grammar_layout g = layout_fault g (old_grammar_end g)

-- the heads of the productions that the old rule reads one behind the other, numbered from n on, from p up to q
pub data OldProductions (g : List ℕ) : ℕ → List ℕ → ℕ → ℕ → Type 0 where
  no_production : (n p : ℕ) → OldProductions g n [] p p
  one_production : (n p q r : ℕ) (ps : List ℕ) → kind_of g p ≡ 3 → old_production_end g n p ≡ some q → OldProductions g (suc n) ps q r → OldProductions g n (p ∷ ps) p r

-- below 256 both rules ask the same of a and c
low_number : (a c n : ℕ) → n < 256 → eqb (a + 256 * c) n ≡ eqb a n && eqb c 0
low_number a c n l = go (eqb a n) refl (eqb c 0) refl
  where
    go : (x : Bool) → eqb a n ≡ x → (y : Bool) → eqb c 0 ≡ y → eqb (a + 256 * c) n ≡ x && y
    go true d true e = eq-eqb (a + 256 * c) n (omega (arith, eqb-true a n d, eqb-true c 0 e))
    go true d false e = ne_eqb (a + 256 * c) n (λ (z : a + 256 * c ≡ n). eqb-false c 0 e (omega arith))
    go false d y e = ne_eqb (a + 256 * c) n (λ (z : a + 256 * c ≡ n). eqb-false a n d (omega arith))

same_below : (g : List ℕ) (n p : ℕ) → n < 256 → production_end g n p ≡ old_production_end g n p
unfolding production_end old_production_end production_number
same_below g n p l = rw (low_number (field_a g p) (field_c g p) n l)

-- what the old rule reads as production n is production n still; a alone is its number
abbrev OldProduction : List ℕ → ℕ → ℕ → ℕ → Type 0
OldProduction g n p q = (field_a g p ≡ n) × ProductionAt g n p q

old_production : (g : List ℕ) (n p q : ℕ) → kind_of g p ≡ 3 → old_production_end g n p ≡ some q → OldProduction g n p q
unfolding old_production_end
old_production g n p q k e =
    let h = simp (only_if_then, and_iff, eqb_iff, elements_exactly) at e in
    let a = h.0.0 in
    let c = h.0.1 in
    (a, record { kind = k; number = omega arith; elements = h.1 })

-- productions with numbers below 256
abbrev LowProduction : List ℕ → ℕ → ℕ → ℕ → Type 0
LowProduction g n p q = (n < 256) × ProductionAt g n p q

low_read : {g : List ℕ} {n p q : ℕ} → LowProduction g n p q → old_production_end g n p ≡ some q
low_read {g} {n} {p} {q} x = sym (same_below g n p x.0) ∙ ((production_exactly g n p q).1 x.1).1

each_too : {A B : ℕ → ℕ → ℕ → Type 0} → ((n p q : ℕ) → A n p q → B n p q) → {n m p q : ℕ} → Numbered A n m p q → Numbered B n m p q
each_too f (no_more n p) = no_more n p
each_too f (one_more n m p q r x xs) = one_more n m p q r (f n p q x) (each_too f xs)

all_low : {g : List ℕ} {n m p q : ℕ} → Numbered (ProductionAt g) n m p q → n + m ≤ 256 → Numbered (LowProduction g) n m p q
all_low (no_more n p) l = no_more n p
all_low (one_more n m p q r x xs) l = one_more n m p q r (omega arith, x) (all_low xs (omega arith))

few_low : {g : List ℕ} {n m p q : ℕ} → Numbered (LowProduction g) n m p q → n ≤ 256 → n + m ≤ 256
few_low (no_more n p) l = omega arith
few_low (one_more n m p q r x xs) l = let a = x.0 in let b = few_low xs (omega arith) in omega arith

low_heads : {g : List ℕ} {n m p q : ℕ} → Numbered (LowProduction g) n m p q → OldProductions g n (heads (grammar_size g) m p) p q
unfolding heads
low_heads (no_more n p) = no_production n p
low_heads {g} (one_more n m p q r x xs) =
    one_production n p q r _ x.1.kind (low_read x)
    (subst (λ (z : ℕ). OldProductions g (suc n) (heads (grammar_size g) m z) q r) (production_size_lem x.1) (low_heads xs))

-- the rows that the old rule finds
record OldRows (g : List ℕ) : Type 0 where
  laid : GrammarLaid g
  old : Numbered (OldProduction g) 0 laid.production_count laid.middle laid.end

old_rows : (g : List ℕ) → old_grammar_layout g ≡ none → OldRows g
unfolding old_grammar_layout old_grammar_end
old_rows g e =
    let h = (fault_iff g _).0 e in
    let r = two_rows_from g (is_class g) (of_kind g 3) (class_end g) (old_production_end g)
    (class_from g) (λ n p q k. old_production g n p q (eqb-true _ 3 k)) h.0 h.1 in
    record {
      laid = record { class_count = r.0; production_count = r.1; middle = r.2; end = h.0; classes = r.3; productions = each_too (λ n p q x. x.1) r.4; tail = h.2 };
      old = r.4;
    }

-- the list has as many productions as are laid out
pub count_is : (g : List ℕ) → WellSized g → (h : GrammarLaid g) → length (productions g) ≡ h.production_count
count_is g w h = ap length (productions_are g w h) ∙ length_heads _ _ _

-- "Old grammars read as before": what the old rule lets through is let through.
pub old_grammars_stay : (g : List ℕ) → WellSized g → old_grammar_layout g ≡ none → grammar_layout g ≡ none
old_grammars_stay g w e = (grammar_laid_exactly g w).1 (old_rows g e).laid

few_laid : (g : List ℕ) → WellSized g → GrammarLaid g → length (productions g) ≤ 256 → old_grammar_layout g ≡ none
unfolding old_grammar_layout old_grammar_end
few_laid g w h l =
    let c = count_is g w h in
    let low = all_low h.productions (omega arith) in
    (fault_iff g _).1 (
      h.end,
      two_rows_to (class_end g) (old_production_end g) (grammar_sorts g) (λ n p q. class_spans) (λ n p q x. production_spans x.1)
          (λ n p q x l. class_to x) (λ n p q x l. low_read x) w h.tail h.classes low,
      h.tail,
    )

-- And of what is let through now the old rule let through just the grammars of at most 256 productions.
pub was_laid_out_exactly : (g : List ℕ) → WellSized g → ((i : ℕ) → get_or g i 0 < 256)
    → (old_grammar_layout g ≡ none) ↔ ((grammar_layout g ≡ none) × (length (productions g) ≤ 256))
unfolding field_a byte_of
was_laid_out_exactly g w small = (
  λ e. let r = old_rows g e in
      let c = count_is g w r.laid in
      let low = few_low (each_too {B = LowProduction g} (λ n p q x. (subst (λ (m : ℕ). m < 256) x.0 (small (base p + 1)), x.1)) r.old) (omega arith) in
      (old_grammars_stay g w e, omega arith),
  λ h. few_laid g w ((grammar_laid_exactly g w).0 h.0) h.1,
)

-- a grammar as the old rule lays it out, with this list of productions
pub record OldGrammarLaid (g ps : List ℕ) : Type 0 where
  pub class_count : ℕ
  pub middle : ℕ
  pub end : ℕ
  pub classes : Numbered (ClassAt g) 0 class_count 0 middle
  pub old_productions : OldProductions g 0 ps middle end
  pub tail : Tail g end

pub record AsBefore (g : List ℕ) : Type 0 where
  pub laid_out_alike : grammar_layout g ≡ old_grammar_layout g
  pub same_productions : grammar_layout g ≡ none → OldGrammarLaid g (productions g)

-- A grammar of at most 256 productions is laid out exactly when it was under the old rule, and its productions are the same list.
pub few_as_before : (g : List ℕ) → WellSized g → length (productions g) ≤ 256 → AsBefore g
unfolding grammar_layout old_grammar_layout layout_fault
few_as_before g w l = record {
  laid_out_alike = need_alike 0 _ _ (λ e. few_laid g w ((grammar_laid_exactly g w).0 e) l) (old_grammars_stay g w);
  same_productions = λ e.
      let h = (grammar_laid_exactly g w).0 e in
      let c = count_is g w h in
      record {
        class_count = h.class_count;
        middle = h.middle;
        end = h.end;
        classes = h.classes;
        old_productions = rw (productions_are g w h) (low_heads (all_low h.productions (omega arith)));
        tail = h.tail;
      };
}

-- "it meets a number out of sequence": the production in place n of the row, counted from 0, has the number n, or else 3 is met
pub out_of_sequence : (g : List ℕ) → WellSized g → (n p : ℕ) → production g n ≡ some p → (field_a g p + 256 * field_c g p ≡ n → ⊥) → grammar_layout g ≡ some 0
unfolding grammar_layout layout_fault
out_of_sequence g w n p e h = need_some _ 0 λ z. h ((grammar_follows g w ((grammar_laid_exactly g w).0 z)).production_numbered n p e)
