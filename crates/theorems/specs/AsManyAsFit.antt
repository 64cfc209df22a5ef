-- "Refusal 3 no longer meets the 257th production" (02 f), nor any after it that a stream holds.
use Rattle.std.specs.Prelude.{◌≡◌, refl, ℕ, zero, suc, ◌+◌, ◌-◌, ◌*◌, ◌/◌, ◌%◌, ◌≤◌, ◌<◌, length, replicate}
use Rattle.std.proofs.Common.{sym, ◌∙◌, zero-add, length-append, get_or-append-add}
use Rattle.std.proofs.Math.Path.{ap, ap₂, subst}
use mathlib.Core.List.{List, [], ◌++◌, flatten}
use Rattle.std.proofs.Math.Option.{none}
use native.Mathlib.Omega.{arith}
use Rattle.std.proofs.Math.ListN.{get_or, get_or-append}
use Rattle.std.proofs.lemmas.List.{length-replicate, get_or-replicate}
use Rattle.rules.specs.Records.{record_count, field_a, field_c, field_d}
use Rattle.rules.specs.Grammar.{productions}
use Rattle.rules.specs.Blocks.{stream_length, stream_blocks, payload_length, packed, unpacked}
use Rattle.rules.specs.Layout.{grammar_layout}
use Rattle.rules.specs.Cases.{head, production}
use Rattle.laws.specs.Faults.{need_iff}
use Rattle.theorems.specs.Streams.{WellSized, length_exactly}
use Rattle.theorems.specs.LaidOut.{InRow, no_thing, Numbered, no_more, one_more, Tail, ElementAt, ProductionAt, GrammarLaid}
use Rattle.theorems.specs.LayoutExactly.{grammar_laid_exactly}
use Rattle.theorems.specs.ManyProductions.{count_is}
use Rattle.theorems.specs.Packing.{fill_count, fill_small, packed_meets_neither, unpacked_packed}
use Rattle.theorems.specs.PackCalls.{packable_test}
use Rattle.theorems.specs.Unpacked.{records_unpacked}

-- k productions of no element, each of a nonterminal of its own, numbered from n on; a grammar of n of them
unfoldable pub productions_from : ℕ → ℕ → List ℕ
productions_from zero n = []
productions_from (suc k) n = production n n [] ++ productions_from k (suc n)

unfoldable pub grammar_of : ℕ → List ℕ
grammar_of n = packed 1 (productions_from n 0)

one_record : (n : ℕ) → length (production n n []) ≡ 8
unfolding production head flatten
one_record n = refl

so_long : (k n : ℕ) → length (productions_from k n) ≡ 8 * k
unfolding productions_from
so_long zero n = refl
so_long (suc k) n = length-append (production n n []) (productions_from k (suc n)) ∙ (let a = one_record n in let b = so_long k (suc n) in omega arith)

-- byte j of the ith of them
its_byte : (k n i j : ℕ) → i < k → j < 8 → get_or (productions_from k n) (8 * i + j) 0 ≡ get_or (production (n + i) (n + i) []) j 0
unfolding productions_from
its_byte zero n i j l m = absurd (omega arith)
its_byte (suc k) n zero j l m =
    let a = one_record n in
    let e : n ≡ n + 0 = omega arith in
    rw (zero-add j) (get_or-append (production n n []) (productions_from k (suc n)) 0 j (omega arith) ∙ ap (λ (x : ℕ). get_or (production x x []) j 0) e)
its_byte (suc k) n (suc i) j l m =
    let a = one_record n in
    let e : 8 * suc i + j ≡ length (production n n []) + (8 * i + j) = omega arith in
    let f : suc n + i ≡ n + suc i = omega arith in
    ap (λ (x : ℕ). get_or (production n n [] ++ productions_from k (suc n)) x 0) e
    ∙ get_or-append-add (production n n []) (productions_from k (suc n)) (8 * i + j) 0
    ∙ its_byte k (suc n) i j (omega arith) m
    ∙ ap (λ (x : ℕ). get_or (production x x []) j 0) f

module _ (n : ℕ) (some-production : 1 ≤ n) (fits : n ≤ 8064) where
  abbrev payload : List ℕ
  payload = productions_from n 0

  packable : payload_length payload ≡ none
  unfolding payload_length
  packable =
      let l = so_long n 0 in
      (need_iff {A = ℕ} _ 0).1 ((packable_test payload).1 (record { at_least = omega arith; at_most = omega arith; whole_records = rw l (omega arith) }))

  meets_neither : (stream_length (grammar_of n) ≡ none) × (stream_blocks 1 (grammar_of n) ≡ none)
  unfolding grammar_of
  meets_neither = packed_meets_neither 1 payload packable

  sized : WellSized (grammar_of n)
  sized = (length_exactly (grammar_of n)).0 meets_neither.0

  bytes_are : unpacked (grammar_of n) ≡ payload ++ replicate (fill_count payload) 0
  unfolding grammar_of
  bytes_are = unpacked_packed 1 payload

  -- its records are n productions, and then zero records
  byte_of_lem : (i j : ℕ) → i < n → j < 8 → get_or (unpacked (grammar_of n)) (8 * i + j) 0 ≡ get_or (production i i []) j 0
  byte_of_lem i j l m =
      let a = so_long n 0 in
      ap (λ (u : List ℕ). get_or u (8 * i + j) 0) bytes_are
      ∙ get_or-append payload (replicate (fill_count payload) 0) 0 (8 * i + j) (omega arith)
      ∙ its_byte n 0 i j l m
      ∙ rw (zero-add i)

  a_production : (i : ℕ) → i < n → ProductionAt (grammar_of n) i i (i + 1)
  unfolding production head flatten
  a_production i l =
      let r = (records_unpacked (grammar_of n) sized).each i in
      let first : 8 * i ≡ 8 * i + 0 = omega arith in
      let a : field_a (grammar_of n) i ≡ i % 256 = r.a ∙ byte_of_lem i 1 l (omega arith) in
      let c : field_c (grammar_of n) i ≡ i / 256 % 256 + 256 * (i / 256 / 256) = r.c ∙ ap₂ (λ (x y : ℕ). x + 256 * y) (byte_of_lem i 4 l (omega arith)) (byte_of_lem i 5 l (omega arith)) in
      let d : field_d (grammar_of n) i ≡ 0 = r.d ∙ ap₂ (λ (x y : ℕ). x + 256 * y) (byte_of_lem i 6 l (omega arith)) (byte_of_lem i 7 l (omega arith)) in
      record {
        kind = r.kind ∙ ap (λ (x : ℕ). get_or (unpacked (grammar_of n)) x 0) first ∙ byte_of_lem i 0 l (omega arith);
        number = omega arith;
        elements = subst (λ (m : ℕ). InRow (ElementAt (grammar_of n)) m (i + 1) (i + 1)) (sym d) (no_thing (i + 1));
      }

  records_are : 8 * record_count (grammar_of n) ≡ 8 * n + fill_count payload
  records_are =
      let a = so_long n 0 in
      sym (records_unpacked (grammar_of n) sized).eight_each
      ∙ ap length bytes_are ∙ length-append payload (replicate (fill_count payload) 0) ∙ (let b = length-replicate {A = ℕ} (fill_count payload) 0 in omega arith)

  tail : Tail (grammar_of n) n
  tail =
      let a = so_long n 0 in
      let b = records_are in
      let c = fill_small payload in
      record {
        a_thing = some-production;
        inside = omega arith;
        few = omega arith;
        zero_records = λ i j l m k.
            let e : 8 * i + j ≡ length payload + (8 * (i - n) + j) = omega arith in
            ((records_unpacked (grammar_of n) sized).each i).bytes j k
            ∙ ap (λ (u : List ℕ). get_or u (8 * i + j) 0) bytes_are
            ∙ ap (λ (x : ℕ). get_or (payload ++ replicate (fill_count payload) 0) x 0) e
            ∙ get_or-append-add payload (replicate (fill_count payload) 0) (8 * (i - n) + j) 0
            ∙ get_or-replicate (fill_count payload) (8 * (i - n) + j) 0 0 (omega arith);
      }

  row : (k i : ℕ) → i + k ≡ n → Numbered (ProductionAt (grammar_of n)) i k i n
  row zero i e = let z : i ≡ n = omega arith in subst (λ (m : ℕ). Numbered (ProductionAt (grammar_of n)) i 0 i m) z (no_more i i)
  row (suc k) i e =
      let next : suc i ≡ i + 1 = omega arith in
      one_more i k i (i + 1) n (a_production i (omega arith)) (subst (λ (p : ℕ). Numbered (ProductionAt (grammar_of n)) (suc i) k p n) next (row k (suc i) (omega arith)))

  laid : GrammarLaid (grammar_of n)
  laid = record { class_count = 0; production_count = n; middle = 0; end = n; classes = no_more 0 0; productions = row n 0 (zero-add n); tail = tail }

  -- 128 blocks of 63 records hold 8,064 of these productions: for every n up to that the grammar of n meets none of 1 to 3
  pub as_many_as_fit : (stream_length (grammar_of n) ≡ none) × (stream_blocks 1 (grammar_of n) ≡ none) × (grammar_layout (grammar_of n) ≡ none)
      × (length (productions (grammar_of n)) ≡ n)
  unfolding laid
  as_many_as_fit = (meets_neither.0, meets_neither.1, (grammar_laid_exactly (grammar_of n) sized).1 laid, count_is (grammar_of n) sized laid)
