-- The scan of a part: what its states are like, and one part behind another.
use Prim.Native.Nat.{ℕ, suc, ◌+◌, ◌-◌, ◌*◌, ◌≤◌, ◌<◌, ◌^◌}
use mathlib.Core.Path.{◌≡◌, refl, ap, sym, subst, ◌∙◌}
use mathlib.Core.List.{List, [], ◌∷◌}
use mathlib.Core.Logic.{◌⊎◌, inl, inr}
use mathlib.Core.Bool.{Bool, true, false, cond, not, ◌&&◌, and-false, true≢false}
use native.Mathlib.Omega.{arith}
use native.Mathlib.Numerals.{add-one}
use lib.ListN.{length, get_or, drop, drop_of_length-le}
use lib.Seq.{drop-cons}
use lib.Dec.{eqb, leb}
use lib.Pow.{pow-add}
use borrow.Author.Tests.{lt-leb, eqb-true, eqb-false, leb-true}
use Rattle.std.specs.Prelude.{Option as Maybe, Some, None, option_and_then}
use Rattle.rules.specs.Records.{field_b, field_c}
use Rattle.rules.specs.Lexeme.{Decoding, between, inside, broken, first_byte, later_byte, next_byte, is_of_class, all_of_class, within, ranges}
use Rattle.lexeme.specs.declared.scan.Scan.{Scan}
use Rattle.lexeme.specs.Sets.{ClassSet}
use Rattle.lexeme.specs.Scan.{midway, clean, judged, resumed, seen, scanned, Tidy}
use Rattle.lexeme.specs.Runs.{RunsTo}
use Rattle.lexeme.proofs.ScanLaws.{passes, by_test}
use Rattle.lexeme.proofs.StepLaws.{seen_first, seen_later, later_low, later_high, later_last, later_more, judge_stop, judge_char, judge_midway}

-- a decoding after one byte of a text whose characters were forgotten
record Whole (d : Decoding) : Type 0 where
  fresh : d.due ≡ 0 → (d.low ≡ 0) × (d.high ≡ 0) × (d.bits ≡ 0)
  from : 0 < d.due → 0x80 ≤ d.low
  to : 0 < d.due → d.high ≤ 0xbf
  short : d.due ≤ 3
  few : d.bits < 2 ^ (26 - 6 * d.due)
  single : length d.characters ≤ 1

whole_broken : Whole broken
unfolding broken
whole_broken = record { fresh = λ e. (refl, refl, refl); from = λ l. absurd (omega arith); to = λ l. absurd (omega arith); short = omega arith; few = omega arith; single = omega arith }

whole_ended : (x : ℕ) → Whole (between (x ∷ []))
unfolding between
whole_ended x = record { fresh = λ e. (refl, refl, refl); from = λ l. absurd (omega arith); to = λ l. absurd (omega arith); short = omega arith; few = omega arith; single = omega arith }

whole_inside : (due low high bits : ℕ) → 0 < due → due ≤ 3 → 0x80 ≤ low → high ≤ 0xbf → bits < 2 ^ (26 - 6 * due) → Whole (inside [] due low high bits)
unfolding inside
whole_inside due low high bits z s l h b = record { fresh = λ e. absurd (omega arith); from = λ q. l; to = λ q. h; short = s; few = b; single = omega arith }

whole_first : (b : ℕ) → b < 256 → Whole (first_byte [] b)
unfolding first_byte
whole_first b l =
    by_test Whole (leb b 0x7f) (λ e. whole_ended b) (λ e.
    by_test Whole (within 0xc2 0xdf b) (λ e. whole_inside 1 0x80 0xbf (b - 0xc0) (omega arith) (omega arith) (omega arith) (omega arith) (omega arith)) (λ e.
    by_test Whole (eqb b 0xe0) (λ e. whole_inside 2 0xa0 0xbf (b - 0xe0) (omega arith) (omega arith) (omega arith) (omega arith) (omega arith)) (λ e.
    by_test Whole (within 0xe1 0xec b) (λ e. whole_inside 2 0x80 0xbf (b - 0xe0) (omega arith) (omega arith) (omega arith) (omega arith) (omega arith)) (λ e.
    by_test Whole (eqb b 0xed) (λ e. whole_inside 2 0x80 0x9f (b - 0xe0) (omega arith) (omega arith) (omega arith) (omega arith) (omega arith)) (λ e.
    by_test Whole (within 0xee 0xef b) (λ e. whole_inside 2 0x80 0xbf (b - 0xe0) (omega arith) (omega arith) (omega arith) (omega arith) (omega arith)) (λ e.
    by_test Whole (eqb b 0xf0) (λ e. whole_inside 3 0x90 0xbf (b - 0xf0) (omega arith) (omega arith) (omega arith) (omega arith) (omega arith)) (λ e.
    by_test Whole (within 0xf1 0xf3 b) (λ e. whole_inside 3 0x80 0xbf (b - 0xf0) (omega arith) (omega arith) (omega arith) (omega arith) (omega arith)) (λ e.
    by_test Whole (eqb b 0xf4) (λ e. whole_inside 3 0x80 0x8f (b - 0xf0) (omega arith) (omega arith) (omega arith) (omega arith) (omega arith)) (λ e. whole_broken)))))))))

-- six bits more
six_more : (due bits x : ℕ) → 0 < due → due ≤ 3 → bits < 2 ^ (26 - 6 * due) → x < 64 → bits * 64 + x < 2 ^ (26 - 6 * (due - 1))
six_more due bits x z s b l =
    let e : 26 - 6 * (due - 1) ≡ 6 + (26 - 6 * due) = omega arith in
    rw e (omega (arith, pow-add 2 6 (26 - 6 * due)))

whole_later : (due low high bits b : ℕ) → 0 < due → due ≤ 3 → 0x80 ≤ low → high ≤ 0xbf → bits < 2 ^ (26 - 6 * due) → Whole (later_byte (inside [] due low high bits) b)
unfolding later_byte inside
whole_later due low high bits b z s l h f =
    by_test Whole (not (within low high b)) (λ e. whole_broken) (λ e.
    by_test Whole (eqb due 1) (λ e'. whole_ended (bits * 64 + (b - 0x80))) (λ e'.
    let n : due ≡ 1 → ⊥ = eqb-false due 1 e' in
    let m : b ≤ high = below (leb low b) (leb b high) refl e in
    whole_inside (due - 1) 0x80 0xbf (bits * 64 + (b - 0x80)) (omega arith) (omega arith) (omega arith) (omega arith) (six_more due bits (b - 0x80) z s f (omega arith))))
  where
    below : (x y : Bool) → leb b high ≡ y → not (x && y) ≡ false → b ≤ high
    below true true q e = leb-true b high q
    below true false q e = absurd (true≢false e)
    below false y q e = absurd (true≢false e)

-- a state after one byte, n characters having gone before
record After (n : ℕ) (t : Scan) : Type 0 where
  tidy : Tidy t
  few : t.count ≤ n + 1

module _ (g rs : List ℕ) (n : ℕ) (d : Decoding) where
  -- what it is, if it is one
  state : Scan
  state = midway (n + length d.characters) d.due d.low d.high d.bits

  of_judged : (P : Scan → Type 0) → P state → (t : Scan) → Some t ≡ judged g rs n d → P t
  unfolding judged state
  of_judged P h t = by_test (λ (o : Maybe Scan). Some t ≡ o → P t) (d.valid && all_of_class g rs d.characters) (λ e f. let q : state ≡ t = cc in subst P q h) (λ e f. cc)

  after_judged : Whole d → (t : Scan) → Some t ≡ judged g rs n d → After n t
  unfolding state
  after_judged w = of_judged (After n) record {
    tidy = record {
      fresh = λ z. let x = w.fresh z in rw (z, x.0, x.1, x.2);
      from = w.from;
      to = w.to;
      short = w.short;
      few = w.few;
    };
    few = omega (arith, w.single);
  }

  grow_judged : (t : Scan) → Some t ≡ judged g rs n d → n ≤ t.count
  unfolding state
  grow_judged = of_judged (λ t. n ≤ t.count) (omega arith)

-- the ways of a step
step_first : (g rs : List ℕ) (s : Scan) (b : ℕ) → Tidy s → s.due ≡ 0 → seen g rs s b ≡ judged g rs s.count (first_byte [] b)
step_first g rs s b t e = ap (λ (x : Scan). seen g rs x b) (t.fresh e) ∙ seen_first g rs s.count b

step_later : (g rs : List ℕ) (s : Scan) (b : ℕ) → Tidy s → 0 < s.due → seen g rs s b ≡ judged g rs s.count (later_byte (inside [] s.due s.low s.high s.bits) b)
step_later g rs s b t l = seen_later g rs s.count s.due s.low s.high s.bits b (λ e. absurd (omega arith))

-- after a byte
step_whole : (g rs : List ℕ) (s : Scan) (b : ℕ) → Tidy s → b < 256 → (d : Decoding) × (Whole d × (seen g rs s b ≡ judged g rs s.count d))
step_whole g rs s b t l = go (eqb s.due 0) refl
  where
    go : (x : Bool) → eqb s.due 0 ≡ x → (d : Decoding) × (Whole d × (seen g rs s b ≡ judged g rs s.count d))
    go true e = (first_byte [] b, (whole_first b l, step_first g rs s b t (eqb-true s.due 0 e)))
    go false e =
        let n : s.due ≡ 0 → ⊥ = eqb-false s.due 0 e in
        let z : 0 < s.due = omega arith in
        (later_byte (inside [] s.due s.low s.high s.bits) b, (whole_later s.due s.low s.high s.bits b z t.short (t.from z) (t.to z) t.few, step_later g rs s b t z))

module _ (g rs : List ℕ) (s : Scan) (b : ℕ) (t : Scan) (f : Some t ≡ seen g rs s b) where
  after_seen : Tidy s → b < 256 → After s.count t
  after_seen h l = let (d, (w, e)) = step_whole g rs s b h l in after_judged g rs s.count d w t (f ∙ e)

  grow_seen : s.count ≤ t.count
  unfolding seen
  grow_seen = grow_judged g rs s.count (next_byte (resumed s) b) t f

pub tidy_clean : (n : ℕ) → Tidy (clean n)
tidy_clean n = record { fresh = λ e. refl; from = λ l. absurd (omega arith); to = λ l. absurd (omega arith); short = omega arith; few = omega arith }

-- the bytes of a part before i are scanned
pub record Scanning (g rs part : List ℕ) (start s : Scan) (i : ℕ) : Type 0 where
  pub near : i ≤ length part
  pub state : Tidy s
  pub few : s.count ≤ start.count + i
  pub same : scanned g rs start part ≡ scanned g rs s (drop i part)

-- a run begins between two characters
pub scan_run : (g set part : List ℕ) (p i : ℕ) (start s : Scan) (at count : ℕ) → ClassSet g p set → Scanning g (ranges g p) part start s i → s.due ≡ 0
    → RunsTo set part i at count → Scanning g (ranges g p) part start (clean (s.count + count)) at
scan_run g set part p i start s at count c h e r = record {
  near = r.inside;
  state = tidy_clean (s.count + count);
  few = omega (arith, h.few, r.ahead);
  same = h.same ∙ ap (λ (x : Scan). scanned g (ranges g p) x (drop i part)) (h.state.fresh e) ∙ r.same g p c s.count;
}

module _ (g rs part : List ℕ) (start here : Scan) (at b : ℕ) (h : Scanning g rs part start here at) (l : at < length part) (e : b ≡ get_or part at 0) where
  one_on : scanned g rs start part ≡ option_and_then (λ t. scanned g rs t (drop (at + 1) part)) (seen g rs here b)
  unfolding scanned
  one_on = h.same ∙ rw (drop-cons part at 0 l, add-one at, e)

  pub scan_turn : (s : Scan) → b < 256 → Some s ≡ seen g rs here b → Scanning g rs part start s (at + 1)
  scan_turn s m f =
      let a = after_seen g rs here b s f h.state m in
      record {
        near = omega arith;
        state = a.tidy;
        few = omega (arith, a.few, h.few);
        same = one_on ∙ ap (option_and_then (λ t. scanned g rs t (drop (at + 1) part))) (sym f);
      }

  pub scan_stop : None ≡ seen g rs here b → None ≡ scanned g rs start part
  scan_stop f = sym (one_on ∙ ap (option_and_then (λ t. scanned g rs t (drop (at + 1) part))) (sym f))

pub scan_done : (g rs part : List ℕ) (start s : Scan) (i : ℕ) → Scanning g rs part start s i → length part ≤ i → Some s ≡ scanned g rs start part
unfolding scanned
scan_done g rs part start s i h l = sym (h.same ∙ rw (drop_of_length-le part l))

-- a tidy state stays tidy over a whole part
pub tidy_scanned : (g rs xs : List ℕ) (s t : Scan) → Tidy s → ((k : ℕ) → get_or xs k 0 < 256) → Some t ≡ scanned g rs s xs → Tidy t
unfolding scanned
tidy_scanned g rs [] s t h l e = let q : s ≡ t = cc in rw (← q) h
tidy_scanned g rs (b ∷ bs) s t h l e = go (seen g rs s b) refl (λ u f. tidy_scanned g rs bs u t (after_seen g rs s b u f h (l 0)).tidy (λ k. l (suc k))) e
  where
    go : (o : Maybe Scan) → o ≡ seen g rs s b → ((u : Scan) → Some u ≡ seen g rs s b → Some t ≡ scanned g rs u bs → Tidy t)
        → Some t ≡ option_and_then (λ u. scanned g rs u bs) o → Tidy t
    go None f k q = cc
    go (Some u) f k q = k u f q

-- a text that can't be a lexeme any more
past_most : (g : List ℕ) (p : ℕ) (s : Scan) → field_c g p < s.count → passes g p (Some s) ≡ false
unfolding passes
past_most g p s l = rw (lt-leb s.count (field_c g p) l, and-false (leb (field_b g p) s.count), and-false (eqb s.due 0))

pub passes_past : (g : List ℕ) (p : ℕ) (rs xs : List ℕ) (s : Scan) → field_c g p < s.count → passes g p (scanned g rs s xs) ≡ false
unfolding scanned passes
passes_past g p rs [] s l = past_most g p s l
passes_past g p rs (b ∷ bs) s l = go (seen g rs s b) refl (λ u. passes_past g p rs bs u)
  where
    go : (o : Maybe Scan) → o ≡ seen g rs s b → ((u : Scan) → field_c g p < u.count → passes g p (scanned g rs u bs) ≡ false)
        → passes g p (option_and_then (λ u. scanned g rs u bs) o) ≡ false
    go None f k = refl
    go (Some u) f k = k u (omega (arith, grow_seen g rs s b u f))

-- a later byte, as the code has it
module _ (g rs : List ℕ) (s : Scan) (b : ℕ) (t : Tidy s) (z : 0 < s.due) where
  pub later_none : (b < s.low) ⊎ ((s.low ≤ b) × (s.high < b)) → None ≡ seen g rs s b
  later_none (inl l) = sym (step_later g rs s b t z ∙ ap (judged g rs s.count) (later_low s.due s.low s.high s.bits b l) ∙ judge_stop g rs s.count)
  later_none (inr l) = sym (step_later g rs s b t z ∙ ap (judged g rs s.count) (later_high s.due s.low s.high s.bits b l.1) ∙ judge_stop g rs s.count)

  pub later_ends : (r : Maybe Scan) (x : ℕ) → s.low ≤ b → b ≤ s.high → s.due ≡ 1 → x ≡ s.bits * 64 + (b - 0x80) → (v : Bool) → v ≡ is_of_class g rs x
      → r ≡ cond v (Some (clean (s.count + 1))) None → r ≡ seen g rs s b
  later_ends r x l m d w v f e =
      e ∙ sym (step_later g rs s b t z ∙ ap (judged g rs s.count) (later_last s.due s.low s.high s.bits b l m d) ∙ judge_char g rs s.count (s.bits * 64 + (b - 0x80)) v (f ∙ ap (is_of_class g rs) w))

  pub later_goes : (r : Scan) (x : ℕ) → s.low ≤ b → b ≤ s.high → (s.due ≡ 1 → ⊥) → x ≡ s.bits * 64 + (b - 0x80) → r ≡ midway s.count (s.due - 1) 0x80 0xbf x → Some r ≡ seen g rs s b
  later_goes r x l m d w e =
      rw (e, w) (sym (step_later g rs s b t z ∙ ap (judged g rs s.count) (later_more s.due s.low s.high s.bits b l m d) ∙ judge_midway g rs s.count (s.due - 1) 0x80 0xbf (s.bits * 64 + (b - 0x80))))
