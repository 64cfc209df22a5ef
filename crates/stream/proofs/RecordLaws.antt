-- Records: the bytes of one from its fields, one past the end of the stream, and a carried place.
use Prim.Native.Nat.{ℕ, suc, ◌+◌, ◌-◌, ◌*◌, ◌/◌, ◌%◌, ◌≤◌, ◌<◌, ◌^◌}
use mathlib.Core.Path.{◌≡◌, refl, ap, sym, ◌∙◌}
use mathlib.Core.List.{List, [], ◌∷◌}
use mathlib.Core.Option.{none}
use native.Mathlib.Omega.{arith}
use native.Mathlib.Nat.{add_assoc, add-zero}
use lib.ListN.{length, get_or, take, drop, get_or-eq_default}
use lib.Seq.{drop-cons}
use Rattle.rules.specs.Blocks.{stream_length}
use Rattle.laws.specs.Reads.{whole_blocks}
use Rattle.rules.specs.Records.{base, word, byte_of, kind_of, field_a, field_b, field_c, field_d, record_count}
use Rattle.stream.specs.declared.record.Record.{Record}
use Rattle.stream.specs.declared.record.Place.{Place}
use Rattle.stream.specs.Record.{record_at, record_of, bytes_of, Fetched, EightBytes, place_of, Reach}

-- a word of two bytes in a row, as the code reads them
word_is : (s : List ℕ) (at k : ℕ) → word s (at + k) ≡ get_or s (at + k) 0 + 256 * get_or s (at + (k + 1)) 0
unfolding word
word_is s at k = rw (← add_assoc at k 1)

pub word_at : (s : List ℕ) (at k r : ℕ) → r ≡ get_or s (at + k) 0 + 256 * get_or s (at + (k + 1)) 0 → r ≡ word s (at + k)
word_at s at k r e = e ∙ sym (word_is s at k)

-- a record put together from its bytes
pub built : (s : List ℕ) (at b c d : ℕ) → b ≡ word s (at + 2) → c ≡ word s (at + 4) → d ≡ word s (at + 6)
    → record { kind = get_or s at 0; a = get_or s (at + 1) 0; b = b; c = c; d = d } ≡ record_at s at
unfolding record_at
built s at b c d eb ec ed = rw (eb, ec, ed)

-- a stream of bytes
abbrev pub Bytes : List ℕ → Type 0
Bytes s = (k : ℕ) → get_or s k 0 < 256

-- the two bytes of a word, from the word
low : (s : List ℕ) (at k : ℕ) → get_or s (at + k) 0 < 256 → get_or s (at + k) 0 ≡ word s (at + k) % 256
low s at k l = omega (arith, word_is s at k)

high : (s : List ℕ) (at k : ℕ) → get_or s (at + k) 0 < 256 → get_or s (at + (k + 1)) 0 ≡ word s (at + k) / 256
high s at k l = omega (arith, word_is s at k)

-- the 8 bytes from an address on, one by one, and from the record there
next : (s : List ℕ) (at k n : ℕ) → at + k < length s → take (suc n) (drop (at + k) s) ≡ get_or s (at + k) 0 ∷ take n (drop (at + (k + 1)) s)
next s at k n l = let e : suc (at + k) ≡ at + (k + 1) = omega arith in rw (drop-cons s (at + k) 0 l, e)

eight_from : (s : List ℕ) (at : ℕ) → at + 8 ≤ length s
    → take 8 (drop (at + 0) s) ≡ get_or s (at + 0) 0 ∷ get_or s (at + 1) 0 ∷ get_or s (at + 2) 0 ∷ get_or s (at + 3) 0 ∷ get_or s (at + 4) 0 ∷ get_or s (at + 5) 0 ∷ get_or s (at + 6) 0 ∷ get_or s (at + 7) 0 ∷ []
eight_from s at l =
    rw (
      next s at 0 7 (omega arith),
      next s at 1 6 (omega arith),
      next s at 2 5 (omega arith),
      next s at 3 4 (omega arith),
      next s at 4 3 (omega arith),
      next s at 5 2 (omega arith),
      next s at 6 1 (omega arith),
      next s at 7 0 (omega arith),
    )

bytes_at : (s : List ℕ) (at : ℕ) → Bytes s → at + 8 ≤ length s → bytes_of (record_at s at) ≡ take 8 (drop at s)
unfolding bytes_of record_at
bytes_at s at l m =
    rw (
      ← low s at 2 (l (at + 2)),
      ← high s at 2 (l (at + 2)),
      ← low s at 4 (l (at + 4)),
      ← high s at 4 (l (at + 4)),
      ← low s at 6 (l (at + 6)),
      ← high s at 6 (l (at + 6)),
    )
    (sym (rw add-zero at (eight_from s at m)))

-- a record that the stream has lies in it whole
lies_in : (s : List ℕ) (i : ℕ) → i < record_count s → base i + 8 ≤ length s
unfolding base record_count
lies_in s i l = omega arith

pub fetched : (s : List ℕ) (i : ℕ) (r : Record) → Bytes s → r ≡ record_at s (base i) → Fetched s i r
unfolding record_at kind_of field_a field_b field_c field_d byte_of
fetched s i r l e =
    rw e (record {
      kind = rw add-zero;
      a = refl;
      b = refl;
      c = refl;
      d = refl;
      small = λ j. l (base i + j);
      reads = λ k. unfold base in bytes_at s (base i) l (lies_in s i k);
    })

-- past the end all fields are 0
pub fetched_none : (s : List ℕ) (i : ℕ) (r : Record) → Bytes s → length s ≤ base i
    → (r.kind ≡ 0) × ((r.a ≡ 0) × ((r.b ≡ 0) × ((r.c ≡ 0) × (r.d ≡ 0)))) → Fetched s i r
unfolding kind_of field_a field_b field_c field_d byte_of word
fetched_none s i r l p z =
    let e : (j : ℕ) → get_or s (base i + j) 0 ≡ 0 = λ j. get_or-eq_default s 0 (omega arith) in
    record {
      kind = z.0 ∙ sym (e 0);
      a = z.1.0 ∙ sym (e 1);
      b = z.1.1.0 ∙ sym (rw (e 2, add_assoc (base i) 2 1, e 3));
      c = z.1.1.1.0 ∙ sym (rw (e 4, add_assoc (base i) 4 1, e 5));
      d = z.1.1.1.1 ∙ sym (rw (e 6, add_assoc (base i) 6 1, e 7));
      small = λ j. l (base i + j);
      reads = λ k. absurd (omega (arith, lies_in s i k));
    }

-- a place is an address and a slot
pub place_is : (p : Place) (i : ℕ) → p ≡ place_of i → (p.at ≡ base i) × (p.slot ≡ i % 63)
unfolding place_of
place_is p i e = (ap (λ (q : Place). q.at) e, ap (λ (q : Place). q.slot) e)

-- of whole blocks a record lies in the stream, or past its end
pub past_blocks : (s : List ℕ) (i : ℕ) → stream_length s ≡ none → length s / 512 ≤ i / 63 → length s ≤ base i
unfolding base
past_blocks s i w l = let h = whole_blocks s w in omega (arith, h.1)

pub past_place : (s : List ℕ) (p : Place) (i : ℕ) → stream_length s ≡ none → p ≡ place_of i → length s < p.at + 8 → length s ≤ base i
unfolding base
past_place s p i w e l = let h = whole_blocks s w in let q = place_is p i e in omega (arith, h.1, q.0)

-- a record that was fetched is the one record of its fields
pub fetched_is : (s : List ℕ) (i : ℕ) (r : Record) → Fetched s i r → r ≡ record_of s i
unfolding record_of
fetched_is s i r f = rw (← f.kind, ← f.a, ← f.b, ← f.c, ← f.d)

-- and has its 8 bytes
pub eight_bytes : (s : List ℕ) (i : ℕ) (r : Record) → Fetched s i r → EightBytes s i r
unfolding kind_of field_a field_b field_c field_d byte_of
eight_bytes s i r f = record {
  byte0 = sym f.kind;
  byte1 = sym f.a;
  byte2 = rw f.b (low s (base i) 2 (f.small 2));
  byte3 = rw f.b (high s (base i) 2 (f.small 2));
  byte4 = rw f.c (low s (base i) 4 (f.small 4));
  byte5 = rw f.c (high s (base i) 4 (f.small 4));
  byte6 = rw f.d (low s (base i) 6 (f.small 6));
  byte7 = rw f.d (high s (base i) 6 (f.small 6));
}

-- carried on: in its block, and past it
pub is_place : (i at slot : ℕ) → at ≡ base i → slot ≡ i % 63 → record { at = at; slot = slot } ≡ place_of i
unfolding place_of
is_place i at slot e f = rw (e, f)

pub forward_within : (p : Place) (i n : ℕ) → p ≡ place_of i → p.slot + n < 63 → record { at = p.at + 8 * n; slot = p.slot + n } ≡ place_of (i + n)
unfolding base
forward_within p i n e l = let w = place_is p i e in is_place (i + n) _ _ (omega arith) (omega arith)

pub forward_past : (p : Place) (i n blocks : ℕ) → p ≡ place_of i → blocks ≡ (p.slot + n) / 63
    → record { at = p.at + 8 * (n + blocks); slot = p.slot + n - 63 * blocks } ≡ place_of (i + n)
unfolding base
forward_past p i n blocks e f = let w = place_is p i e in is_place (i + n) _ _ (omega arith) (omega arith)

-- a carried place may go on as far as its index stays below 2^59
pub reach : (p : Place) (i n : ℕ) → p ≡ place_of i → i + n < 2 ^ 59 → Reach p n
unfolding base
reach p i n e l = let w = place_is p i e in record { reach = omega arith }

-- the record at a place
pub fetched_here : (s : List ℕ) (p : Place) (i : ℕ) (r : Record) → Bytes s → p ≡ place_of i → r ≡ record_at s p.at → Fetched s i r
fetched_here s p i r l e f = fetched s i r l (f ∙ ap (record_at s) (place_is p i e).0)
