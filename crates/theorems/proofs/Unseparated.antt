-- Grammars that differ only in element 3 against element 4 with an empty separator; and that the rules read the same in both, whatever else they hold.
-- Goes on from specs/Unseparated.antt: what rests on definitions that a must-fail edit changes.
use Rattle.std.specs.Prelude.{◌≡◌, ◌||◌, length}
use Rattle.std.proofs.Math.Path.{refl, sym, ap, ap₂, subst}
use Rattle.std.proofs.Common.{◌∙◌, inl, inr, arith, eqb-true}
use Prim.Native.Nat.{ℕ, zero, suc, ◌+◌, ◌-◌, ◌*◌, ◌/◌, ◌≤◌, ◌<◌}
use mathlib.Core.List.{List, [], ◌∷◌, map}
use Rattle.std.proofs.Math.Bool.{true, false, cond, ◌&&◌}
use Rattle.std.proofs.lemmas.Bool.{false≢true}
use Rattle.std.proofs.Math.Option.{none}
use Rattle.std.proofs.Math.ListN.{take}
use Rattle.std.proofs.Math.Dec.{eqb, leb}
use Rattle.rules.specs.Faults.{on_found, only_if}
use Rattle.rules.specs.Records.{byte_of, kind_of, field_a, field_b, field_c, field_d, record_count, records_from, units, text_of, heads, after, row, things, those, of_kind, nth}
use Rattle.rules.specs.Grammar.{is_class, text_length, element_size, production_size, grammar_size, grammar_things, classes, productions, class, plain_class, production}
use Rattle.rules.specs.Grammar.{keyword, lexeme, nonterminal, repetition, element_numbered, element_at, element_heads, elements, has_production, nonterminal_exists}
use Rattle.rules.specs.Lexeme.{lowest, highest, ranges, in_some, is_xml_char, is_of_class, all_of_class, admits, characters_of, is_plain_lexeme}
use Rattle.laws.specs.Faults.{In, here, later, nth_in}
use Rattle.laws.specs.Sorts.{no_class, plain_class_iff}
use Rattle.theorems.specs.Streams.{in_row}
use Rattle.theorems.specs.Sizes.{keyword_text, separator_text}
use Rattle.theorems.specs.Apart.{one_thing, first_ends, second_ends, heads_within, heads_apart, things_apart, those_in}
use Rattle.theorems.specs.ReadAlike.{ReadAlike, found_same}
use Rattle.theorems.specs.Unseparated.{ElementOf, Unseparated, same_bytes, three_or_four, DifferInForm, no_text, same_byte, same_word, same_run}

is_repetition : {g : List ℕ} {e : ℕ} → Unseparated g e → element_at g e ≡ repetition (field_b g e) []
unfolding element_at element_numbered text_of
is_repetition {g} {e} u = elim u.form [ inl a ↦ rw a | inr a ↦ rw (a, u.no_separator) ]

map_same : {A : Type 0} {f f' : ℕ → A} (xs : List ℕ) → ((x : ℕ) → In x xs → f x ≡ f' x) → map f xs ≡ map f' xs
map_same [] h = refl
map_same (x ∷ xs) h = ap₂ ◌∷◌ (h x (here xs)) (map_same xs (λ y i. h y (later x xs i)))

-- Where an element stands: inside its production. So it stands in no other element's text, and among no class's ranges.
element_within : {g : List ℕ} {e : ℕ} (h : ElementOf g e) → (h.head < e) × (e + element_size g e ≤ h.head + grammar_size g h.head)
unfolding productions element_heads grammar_size production_size
element_within {g} {e} h =
    let k = eqb-true (kind_of g h.head) 3 (those_in (of_kind g 3) (grammar_things g) h.a_production).1 in
    let (a, b) = heads_within (element_size g) (field_d g h.head) (h.head + 1) h.its_element in
    (omega arith, rw (no_class g h.head (λ z. omega arith) (λ z. omega arith)) (omega arith))

in_no_text : {g : List ℕ} {e f : ℕ} → ElementOf g e → ElementOf g f → e < f → f < e + element_size g e → ⊥
unfolding productions grammar_things element_heads
in_no_text {g} {e} {f} a b l m =
    let (i, j) = element_within a in
    let (k, n) = element_within b in
    elim (things_apart (grammar_size g) g (record_count g) 0 (those_in (of_kind g 3) _ a.a_production).0 (those_in (of_kind g 3) _ b.a_production).0) [
      | first_ends h ↦ omega arith
      | second_ends h ↦ omega arith
      | one_thing h ↦
          elim (heads_apart (element_size g) (field_d g b.head) (b.head + 1) (subst (λ (p : ℕ). In e (element_heads g p)) h a.its_element) b.its_element) [
            | one_thing o ↦ omega arith
            | first_ends o ↦ omega arith
            | second_ends o ↦ omega arith
          ]
    ]

in_no_class : {g : List ℕ} {p f : ℕ} → In p (classes g) → ElementOf g f → p < f → f < p + 1 + field_d g p → ⊥
unfolding classes productions grammar_things grammar_size
in_no_class {g} {p} {f} a b l m =
    let (i, u) = those_in (is_class g) _ a in
    let (j, w) = those_in (of_kind g 3) _ b.a_production in
    let x = eqb-true (kind_of g b.head) 3 w in
    let (k, n) = element_within b in
    let z : grammar_size g p ≡ 1 + field_d g p = rw u in
    elim (things_apart (grammar_size g) g (record_count g) 0 i j) [
      | one_thing h ↦ false≢true (sym (no_class g b.head (λ z. omega arith) (λ z. omega arith)) ∙ ap (is_class g) (sym h) ∙ u)
      | first_ends h ↦ omega arith
      | second_ends h ↦ omega arith
    ]

module _ (g g' : List ℕ) (d : DifferInForm g g') where
  pub same_kind : (i : ℕ) → kind_of g i ≡ kind_of g' i
  unfolding kind_of
  same_kind i = elim (d.each_record i) [ same_bytes e ↦ same_byte g g' i 0 (omega arith) e | three_or_four a u u' b c ↦ u.kind ∙ sym u'.kind ]

  pub same_a : (i : ℕ) → records_from g 1 i ≡ records_from g' 1 i → field_a g i ≡ field_a g' i
  unfolding field_a
  same_a i e = same_byte g g' i 1 (omega arith) e

  things_same : (size : ℕ → ℕ) (n p : ℕ) → things g size n p ≡ things g' size n p
  unfolding things
  things_same size zero p = refl
  things_same size (suc n) p = λ j. elim (eqb (same_kind p j) 0) [ true ↦ [] | false ↦ p ∷ things_same size n (p + size p) j ]

  same_sort : is_class g ≡ is_class g'
  unfolding is_class
  same_sort = λ j p. eqb (same_kind p j) 1 || eqb (same_kind p j) 5

  pub same_b : (i : ℕ) → field_b g i ≡ field_b g' i
  unfolding field_b
  same_b i = elim (d.each_record i) [ same_bytes e ↦ same_word g g' i 2 (omega arith) e | three_or_four a u u' b c ↦ b ]

  pub same_c : (i : ℕ) → field_c g i ≡ field_c g' i
  unfolding field_c
  same_c i = elim (d.each_record i) [ same_bytes e ↦ same_word g g' i 4 (omega arith) e | three_or_four a u u' b c ↦ u.no_separator ∙ sym u'.no_separator ]

  pub same_d : (i : ℕ) → field_d g i ≡ field_d g' i
  unfolding field_d
  same_d i = elim (d.each_record i) [ same_bytes e ↦ same_word g g' i 6 (omega arith) e | three_or_four a u u' b c ↦ c ]

  -- so every thing has its size, and the heads are the same
  same_text_length : (e : ℕ) → text_length g e ≡ text_length g' e
  unfolding text_length
  same_text_length e = elim (d.each_record e) [
    | same_bytes h ↦ λ j. cond (eqb (same_a e h j) 0) (same_b e j) (cond (eqb (same_a e h j) 4) (same_c e j) 0)
    | three_or_four a u u' b c ↦ no_text u ∙ sym (no_text u')
  ]

  sizes : element_size g ≡ element_size g'
  unfolding element_size
  sizes = λ j e. 1 + units (same_text_length e j)

  grammar_sizes : grammar_size g ≡ grammar_size g'
  unfolding grammar_size production_size
  grammar_sizes = λ j p. cond (same_sort j p) (1 + same_d p j) (after (sizes j) (same_d p j) (p + 1) - p)

  same_things : grammar_things g ≡ grammar_things g'
  unfolding grammar_things record_count
  same_things = things_same (grammar_size g) _ 0 ∙ λ j. things g' (grammar_sizes j) (d.same_length j / 512 * 63) 0

  pub same_classes : classes g ≡ classes g'
  unfolding classes
  same_classes = λ j. those (same_sort j) (same_things j)

  pub same_productions : productions g ≡ productions g'
  unfolding productions
  same_productions = λ j. those (λ p. eqb (same_kind p j) 3) (same_things j)

  pub same_heads : (p : ℕ) → element_heads g p ≡ element_heads g' p
  unfolding element_heads
  same_heads p = λ j. heads (sizes j) (same_d p j) (p + 1)

  element_too : {e : ℕ} → ElementOf g e → ElementOf g' e
  element_too {e} h = record {
    head = h.head;
    a_production = subst (In h.head) same_productions h.a_production;
    its_element = subst (In e) (same_heads h.head) h.its_element;
  }

  pub the_other_way : DifferInForm g' g
  the_other_way = record {
    same_length = sym d.same_length;
    each_record = λ i. elim (d.each_record i) [
      | same_bytes e ↦ same_bytes (sym e)
      | three_or_four a u u' b c ↦ three_or_four (element_too a) u' u (sym b) (sym c)
    ];
  }

  -- the bytes of an element's text, and those of a class's ranges, are the same
  same_inside : {e : ℕ} → ElementOf g e → (i : ℕ) → e < i → i < e + element_size g e → records_from g 1 i ≡ records_from g' 1 i
  same_inside h i l m = elim (d.each_record i) [ same_bytes b ↦ b | three_or_four a u u' b c ↦ absurd (in_no_text h a l m) ]

  pub same_units : {e : ℕ} → ElementOf g e → records_from g (units (text_length g e)) (e + 1) ≡ records_from g' (units (text_length g e)) (e + 1)
  unfolding element_size
  same_units {e} h = same_run g g' (units (text_length g e)) (e + 1) (λ i l m. same_inside h i (omega arith) (omega arith))

  same_range : {p r : ℕ} → In p (classes g) → In r (ranges g p) → records_from g 1 r ≡ records_from g' 1 r
  unfolding ranges
  same_range {p} {r} a i =
      let (l, m) = in_row (field_d g p) (p + 1) i in
      elim (d.each_record r) [ same_bytes b ↦ b | three_or_four h u u' b c ↦ absurd (in_no_class a h (omega arith) (omega arith)) ]

  -- elements
  numbered_alike : {e : ℕ} (a : ℕ) → ElementOf g e → field_a g e ≡ a → element_numbered g a e ≡ element_numbered g' a e
  unfolding element_numbered text_of
  numbered_alike {e} zero h f =
      let k = subst (λ (n : ℕ). records_from g (units n) (e + 1) ≡ records_from g' (units n) (e + 1)) (keyword_text g e f) (same_units h) in
      ap keyword (ap (take (field_b g e)) k ∙ λ j. take (same_b e j) (records_from g' (units (same_b e j)) (e + 1)))
  numbered_alike {e} (suc zero) h f = ap lexeme (same_b e)
  numbered_alike {e} (suc (suc zero)) h f = ap nonterminal (same_b e)
  numbered_alike {e} (suc (suc (suc zero))) h f = ap (λ (n : ℕ). repetition n []) (same_b e)
  numbered_alike {e} (suc (suc (suc (suc zero)))) h f =
      let k = subst (λ (n : ℕ). records_from g (units n) (e + 1) ≡ records_from g' (units n) (e + 1)) (separator_text g e f) (same_units h) in
      ap₂ repetition (same_b e) (ap (take (field_c g e)) k ∙ λ j. take (same_c e j) (records_from g' (units (same_c e j)) (e + 1)))
  numbered_alike {e} (suc (suc (suc (suc (suc a))))) h f = refl

  pub same_element : {e : ℕ} → ElementOf g e → element_at g e ≡ element_at g' e
  unfolding element_at
  same_element {e} h = elim (d.each_record e) [
    | same_bytes b ↦ numbered_alike (field_a g e) h refl ∙ ap (λ (a : ℕ). element_numbered g' a e) (same_a e b)
    | three_or_four a u u' b c ↦ is_repetition u ∙ ap (λ (n : ℕ). repetition n []) b ∙ sym (is_repetition u')
  ]

  pub same_elements : (p : ℕ) → In p (productions g) → elements g p ≡ elements g' p
  unfolding elements
  same_elements p i =
      map_same (element_heads g p) (λ e j. same_element (record { head = p; a_production = i; its_element = j })) ∙ ap (map (element_at g')) (same_heads p)

  -- lexemes
  pub same_bounds : {p r : ℕ} → In p (classes g) → In r (ranges g p) → (lowest g r ≡ lowest g' r) × (highest g r ≡ highest g' r)
  unfolding lowest highest
  same_bounds {p} {r} a i =
      let b : (j : ℕ) → j < 8 → byte_of g r j ≡ byte_of g' r j = λ j l. same_byte g g' r j l (same_range a i) in (
        λ k. b 1 (omega arith) k + 256 * b 2 (omega arith) k + 65536 * b 3 (omega arith) k,
        λ k. b 4 (omega arith) k + 256 * b 5 (omega arith) k + 65536 * b 6 (omega arith) k,
      )

  in_some_alike : (rs : List ℕ) (x : ℕ) → ((r : ℕ) → In r rs → (lowest g r ≡ lowest g' r) × (highest g r ≡ highest g' r)) → in_some g rs x ≡ in_some g' rs x
  unfolding in_some
  in_some_alike [] x h = refl
  in_some_alike (r ∷ rs) x h =
      let (a, b) = h r (here rs) in
      λ j. (leb (a j) x && leb x (b j)) || in_some_alike rs x (λ q i. h q (later r rs i)) j

  all_of_class_alike : (rs xs : List ℕ) → ((r : ℕ) → In r rs → (lowest g r ≡ lowest g' r) × (highest g r ≡ highest g' r)) → all_of_class g rs xs ≡ all_of_class g' rs xs
  unfolding is_of_class all_of_class
  all_of_class_alike rs [] h = refl
  all_of_class_alike rs (x ∷ xs) h = λ j. (is_xml_char x && in_some_alike rs x h j) && all_of_class_alike rs xs h j

  pub same_ranges : (p : ℕ) → ranges g p ≡ ranges g' p
  unfolding ranges
  same_ranges p = λ j. row (same_d p j) (p + 1)

  same_admitted : {p : ℕ} (cs : List ℕ) → In p (classes g) → admits g p cs ≡ admits g' p cs
  unfolding admits
  same_admitted {p} cs i =
      ap₂ ◌&&◌ (λ j. leb (same_b p j) (length cs) && leb (length cs) (same_c p j))
      (all_of_class_alike (ranges g p) cs (λ r k. same_bounds i k) ∙ ap (λ (rs : List ℕ). all_of_class g' rs cs) (same_ranges p))

  exists_alike : (n : ℕ) (ps : List ℕ) → has_production g n ps ≡ has_production g' n ps
  unfolding has_production
  exists_alike n [] = refl
  exists_alike n (p ∷ ps) = λ j. eqb (same_b p j) n || exists_alike n ps j

  same_plain : (c : ℕ) → plain_class g c ≡ plain_class g' c
  unfolding plain_class class
  same_plain c = λ j. on_found (nth (same_classes j) c) none λ p. only_if (eqb (same_kind p j) 1) p

  pub read_alike : ReadAlike g g'
  unfolding class production nonterminal_exists is_plain_lexeme
  read_alike = record {
    same_class = λ n. ap (λ (xs : List ℕ). nth xs n) same_classes;
    same_kind = λ n p e. same_kind p;
    same_named = λ n p e. same_b p;
    same_production = λ n. ap (λ (xs : List ℕ). nth xs n) same_productions;
    same_existence = λ n. exists_alike n (productions g) ∙ ap (has_production g' n) same_productions;
    same_nonterminal = λ n p e. same_b p;
    same_elements = λ n p e. same_elements p (nth_in (productions g) n p e);
    same_lexemes = λ c x.
        found_same _ _ false _ _ (same_plain c)
        (λ p e. ap (on_found (characters_of x) false) (λ j cs. same_admitted cs (nth_in (classes g) c p ((plain_class_iff g c p).0 e).0) j));
  }
