-- The scan: it knows of a decoding what decides whether the text is a lexeme; and its steps, one law for each way through the code.
use Prim.Native.Nat.{ℕ, ◌+◌, ◌-◌, ◌*◌}
use mathlib.Core.Path.{◌≡◌, refl, ap, sym, ◌∙◌}
use mathlib.Core.List.{List, [], ◌∷◌, ◌++◌}
use mathlib.Core.Bool.{Bool, true, false, cond, not, ◌&&◌, and-true, and-false, and_assoc}
use mathlib.Core.Option.{none, some}
use native.Mathlib.Nat.{add-zero, zero-add, add_assoc}
use lib.ListN.{length, length-append}
use lib.Dec.{eqb, leb}
use borrow.Author.Tests.{ne_eqb}
use Rattle.std.specs.Prelude.{Option as Maybe, Some, None, option_and_then}
use Rattle.rules.specs.Faults.{on_found}
use Rattle.rules.specs.Records.{kind_of, field_b, field_c}
use Rattle.rules.specs.Grammar.{class, plain_class}
use Rattle.rules.specs.Lexeme.{Decoding, between, inside, broken, first_byte, later_byte, next_byte, decode, decoded, characters_of, is_of_class, all_of_class, admits, ranges, within, is_plain_lexeme}
use Rattle.laws.specs.Faults.{on_some, on_none, only_no}
use Rattle.laws.specs.Sorts.{plain_class_iff}
use Rattle.lexeme.specs.declared.scan.Scan.{Scan}
use Rattle.lexeme.specs.Scan.{midway, clean, judged, resumed, seen, scanned}

-- ways through a test
pub by_test : {A : Type 0} (P : A → Type 0) (b : Bool) {x y : A} → (b ≡ true → P x) → (b ≡ false → P y) → P (cond b x y)
by_test P true f g = f refl
by_test P false f g = g refl

same_test : {A B : Type 0} (f h : A → B) (b : Bool) {x x' y y' : A} → f x ≡ h x' → f y ≡ h y' → f (cond b x y) ≡ h (cond b x' y')
same_test f h true p q = p
same_test f h false p q = q

module _ (g rs : List ℕ) where
  all_append : (xs ys : List ℕ) → all_of_class g rs (xs ++ ys) ≡ (all_of_class g rs xs && all_of_class g rs ys)
  unfolding all_of_class
  all_append [] ys = refl
  all_append (x ∷ xs) ys = ap (λ (b : Bool). is_of_class g rs x && b) (all_append xs ys) ∙ sym (and_assoc (is_of_class g rs x) (all_of_class g rs xs) (all_of_class g rs ys))

  -- characters are judged once and need not be kept
  kept : List ℕ → ℕ → Decoding → Maybe Scan
  kept cs n d = cond (all_of_class g rs cs) (judged g rs (n + length cs) d) None

  judge_ended : (cs : List ℕ) (x n : ℕ) → judged g rs n (between (cs ++ x ∷ [])) ≡ kept cs n (between (x ∷ []))
  unfolding judged between kept
  judge_ended cs x n = rw (all_append cs (x ∷ []), length-append cs (x ∷ []), ← add_assoc n (length cs) 1) (go (all_of_class g rs cs))
    where
      go : (a : Bool)
          → ◌≡◌ {A = Maybe Scan} (cond (a && all_of_class g rs (x ∷ [])) (Some (midway (n + length cs + 1) 0 0 0 0)) None)
          (cond a (cond (all_of_class g rs (x ∷ [])) (Some (midway (n + length cs + 1) 0 0 0 0)) None) None)
      go true = refl
      go false = refl

  judge_inside : (cs : List ℕ) (due low high bits n : ℕ) → judged g rs n (inside cs due low high bits) ≡ kept cs n (inside [] due low high bits)
  unfolding judged inside kept all_of_class
  judge_inside cs due low high bits n = rw (add-zero (n + length cs))

  judge_broken : (cs : List ℕ) (n : ℕ) → judged g rs n broken ≡ kept cs n broken
  unfolding judged broken kept
  judge_broken cs n = go (all_of_class g rs cs)
    where
      go : (a : Bool) → ◌≡◌ {A = Maybe Scan} None (cond a None None)
      go true = refl
      go false = refl

  judge_first : (cs : List ℕ) (n b : ℕ) → judged g rs n (first_byte cs b) ≡ kept cs n (first_byte [] b)
  unfolding first_byte
  judge_first cs n b =
      let f : Decoding → Maybe Scan = judged g rs n in
      let h : Decoding → Maybe Scan = kept cs n in
      same_test f h (leb b 0x7f) (judge_ended cs b n)
      (same_test f h (within 0xc2 0xdf b) (judge_inside cs 1 0x80 0xbf (b - 0xc0) n)
      (same_test f h (eqb b 0xe0) (judge_inside cs 2 0xa0 0xbf (b - 0xe0) n)
      (same_test f h (within 0xe1 0xec b) (judge_inside cs 2 0x80 0xbf (b - 0xe0) n)
      (same_test f h (eqb b 0xed) (judge_inside cs 2 0x80 0x9f (b - 0xe0) n)
      (same_test f h (within 0xee 0xef b) (judge_inside cs 2 0x80 0xbf (b - 0xe0) n)
      (same_test f h (eqb b 0xf0) (judge_inside cs 3 0x90 0xbf (b - 0xf0) n)
      (same_test f h (within 0xf1 0xf3 b) (judge_inside cs 3 0x80 0xbf (b - 0xf0) n)
      (same_test f h (eqb b 0xf4) (judge_inside cs 3 0x80 0x8f (b - 0xf0) n) (judge_broken cs n)))))))))

  bare : Decoding → Decoding
  bare d = record { valid = d.valid; due = d.due; low = d.low; high = d.high; bits = d.bits; characters = [] }

  judge_later : (d : Decoding) (n b : ℕ) → judged g rs n (later_byte d b) ≡ kept d.characters n (later_byte (bare d) b)
  unfolding later_byte bare
  judge_later d n b =
      let cs : List ℕ = d.characters in
      let f : Decoding → Maybe Scan = judged g rs n in
      let h : Decoding → Maybe Scan = kept cs n in
      same_test f h (not (within d.low d.high b)) (judge_broken cs n)
      (same_test f h (eqb d.due 1) (judge_ended cs (d.bits * 64 + (b - 0x80)) n)
      (judge_inside cs (d.due - 1) 0x80 0xbf (d.bits * 64 + (b - 0x80)) n))

  judge_next : (d : Decoding) (n b : ℕ) → judged g rs n (next_byte d b) ≡ kept d.characters n (next_byte (bare d) b)
  unfolding next_byte bare
  judge_next d n b =
      let cs : List ℕ = d.characters in
      let f : Decoding → Maybe Scan = judged g rs n in
      let h : Decoding → Maybe Scan = kept cs n in
      same_test f h (not d.valid) (judge_broken cs n)
      (same_test f h (eqb d.due 0) (judge_first cs n b) (judge_later d n b))

  pub seen_midway : (n due low high bits b : ℕ) → seen g rs (midway n due low high bits) b ≡ judged g rs n (next_byte (inside [] due low high bits) b)
  unfolding seen resumed inside
  seen_midway n due low high bits b = refl

  -- a byte more of a decoding is a byte more of its scan
  live : (d : Decoding) → d.valid ≡ true → all_of_class g rs d.characters ≡ true
      → judged g rs 0 d ≡ Some (midway (length d.characters) d.due d.low d.high d.bits)
  unfolding judged
  live d e f = rw (e, f, zero-add)

  dead : (d : Decoding) → (d.valid && all_of_class g rs d.characters) ≡ false → judged g rs 0 d ≡ None
  unfolding judged
  dead d e = rw e

  bare_valid : (d : Decoding) → d.valid ≡ true → bare d ≡ inside [] d.due d.low d.high d.bits
  unfolding bare inside
  bare_valid d e = ap (λ (v : Bool). record { valid = v; due = d.due; low = d.low; high = d.high; bits = d.bits; characters = [] }) e

  kept_all : (cs : List ℕ) (d : Decoding) → all_of_class g rs cs ≡ true → kept cs 0 d ≡ judged g rs (length cs) d
  unfolding kept
  kept_all cs d e = rw (e, zero-add)

  kept_none : (cs : List ℕ) (d : Decoding) → all_of_class g rs cs ≡ false → kept cs 0 d ≡ None
  unfolding kept
  kept_none cs d e = rw e

  next_invalid : (d : Decoding) (b : ℕ) → d.valid ≡ false → judged g rs 0 (next_byte d b) ≡ None
  unfolding next_byte broken judged
  next_invalid d b e = rw e

  view_next : (d : Decoding) (b : ℕ) → judged g rs 0 (next_byte d b) ≡ option_and_then (λ s. seen g rs s b) (judged g rs 0 d)
  view_next d b = go d.valid refl (all_of_class g rs d.characters) refl
    where
      stop : (d.valid && all_of_class g rs d.characters) ≡ false → judged g rs 0 (next_byte d b) ≡ None → judged g rs 0 (next_byte d b) ≡ option_and_then (λ s. seen g rs s b) (judged g rs 0 d)
      stop e f = f ∙ sym (ap (option_and_then (λ s. seen g rs s b)) (dead d e))

      go : (v : Bool) → d.valid ≡ v → (a : Bool) → all_of_class g rs d.characters ≡ a → judged g rs 0 (next_byte d b) ≡ option_and_then (λ s. seen g rs s b) (judged g rs 0 d)
      go true e true f =
          judge_next d 0 b
          ∙ kept_all d.characters (next_byte (bare d) b) f
          ∙ ap (λ (x : Decoding). judged g rs (length d.characters) (next_byte x b)) (bare_valid d e)
          ∙ sym (ap (option_and_then (λ s. seen g rs s b)) (live d e f) ∙ seen_midway (length d.characters) d.due d.low d.high d.bits b)
      go true e false f = stop (rw (e, f)) (judge_next d 0 b ∙ kept_none d.characters (next_byte (bare d) b) f)
      go false e a f = stop (rw e) (next_invalid d b e)

  view_decode : (d : Decoding) (xs : List ℕ) → judged g rs 0 (decode d xs) ≡ option_and_then (λ s. scanned g rs s xs) (judged g rs 0 d)
  unfolding decode scanned
  view_decode d [] = go (judged g rs 0 d)
    where
      go : (o : Maybe Scan) → o ≡ option_and_then (λ s. Some s) o
      go None = refl
      go (Some s) = refl
  view_decode d (b ∷ bs) = view_decode (next_byte d b) bs ∙ ap (option_and_then (λ s. scanned g rs s bs)) (view_next d b) ∙ go (judged g rs 0 d)
    where
      go : (o : Maybe Scan) → option_and_then (λ s. scanned g rs s bs) (option_and_then (λ s. seen g rs s b) o) ≡ option_and_then (λ s. option_and_then (λ t. scanned g rs t bs) (seen g rs s b)) o
      go None = refl
      go (Some s) = refl

  view_start : judged g rs 0 (between []) ≡ Some (clean 0)
  unfolding judged between all_of_class
  view_start = refl

  pub scanned_append : (s : Scan) (xs ys : List ℕ) → scanned g rs s (xs ++ ys) ≡ option_and_then (λ t. scanned g rs t ys) (scanned g rs s xs)
  unfolding scanned
  scanned_append s [] ys = refl
  scanned_append s (x ∷ xs) ys = go (seen g rs s x) (λ t. scanned_append t xs ys)
    where
      go : (o : Maybe Scan) → ((t : Scan) → scanned g rs t (xs ++ ys) ≡ option_and_then (λ u. scanned g rs u ys) (scanned g rs t xs))
          → option_and_then (λ t. scanned g rs t (xs ++ ys)) o ≡ option_and_then (λ u. scanned g rs u ys) (option_and_then (λ t. scanned g rs t xs) o)
      go None h = refl
      go (Some t) h = h t

-- the scan of a whole text says that it is a lexeme of the class whose record is at p
unfoldable pub passes : List ℕ → ℕ → Maybe Scan → Bool
passes g p None = false
passes g p (Some s) = eqb s.due 0 && within (field_b g p) (field_c g p) s.count

judges : (g : List ℕ) (p : ℕ) (d : Decoding) → on_found (decoded d) false (admits g p) ≡ passes g p (judged g (ranges g p) 0 d)
unfolding decoded on_found admits passes judged
judges g p d = go d.valid refl (eqb d.due 0) refl (all_of_class g (ranges g p) d.characters) refl
  where
    go : (v : Bool) → d.valid ≡ v → (e : Bool) → eqb d.due 0 ≡ e → (a : Bool) → all_of_class g (ranges g p) d.characters ≡ a
        → on_found (decoded d) false (admits g p) ≡ passes g p (judged g (ranges g p) 0 d)
    go true ev true ee true ea = rw (ev, ee, ea, zero-add) (rw ee (and-true (within (field_b g p) (field_c g p) (length d.characters))))
    go true ev true ee false ea = rw (ev, ee, ea) (and-false (within (field_b g p) (field_c g p) (length d.characters)))
    go true ev false ee true ea = rw (ev, ee, ea) (rw ee)
    go true ev false ee false ea = rw (ev, ee, ea)
    go false ev e ee a ea = rw ev

-- which text is a lexeme of a plain class, by the class's record; a class that there isn't, and one that is not plain, has none
pub plain_scan : (g : List ℕ) (c p : ℕ) (text : List ℕ) → class g c ≡ some p → kind_of g p ≡ 1 → is_plain_lexeme g c text ≡ passes g p (scanned g (ranges g p) (clean 0) text)
unfolding is_plain_lexeme characters_of
plain_scan g c p text e k =
    on_some false _ ((plain_class_iff g c p).1 (e, k))
    ∙ judges g p (decode (between []) text)
    ∙ ap (passes g p) (view_decode g (ranges g p) (between []) text ∙ ap (option_and_then (λ s. scanned g (ranges g p) s text)) (view_start g (ranges g p)))

pub plain_other : (g : List ℕ) (c p : ℕ) (text : List ℕ) → class g c ≡ some p → (kind_of g p ≡ 1 → ⊥) → is_plain_lexeme g c text ≡ false
unfolding is_plain_lexeme plain_class
plain_other g c p text e k = on_none false _ (on_some none _ e ∙ only_no _ p (ne_eqb (kind_of g p) 1 k))

pub plain_none : (g : List ℕ) (c : ℕ) (text : List ℕ) → class g c ≡ none → is_plain_lexeme g c text ≡ false
unfolding is_plain_lexeme plain_class
plain_none g c text e = on_none false _ (on_none none _ e)
