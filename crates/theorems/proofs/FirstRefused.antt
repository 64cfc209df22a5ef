-- The check call and the evaluate call refuse by the first offence of all: by the refusal's number, then by the stream, then by the place.
-- Goes on from specs/FirstRefused.antt: what rests on definitions that a must-fail edit changes.
use Rattle.std.specs.Prelude.{◌≡◌, refl, ◌↔◌, ◌⊎◌, ℕ, suc, ◌≤◌, ◌<◌, List, [], ◌∷◌, Bool, true, false, length, leb}
use Rattle.std.proofs.Common.{sym, ap, subst, inl, inr, arith, leb-true, leb-false}
use Rattle.std.proofs.Math.Option.{Option, none, some, some-ne-none, some-injective}
use Rattle.std.proofs.lemmas.Bool.{lt-leb}
use Rattle.rules.specs.Faults.{need, both, every}
use Rattle.rules.specs.Grammar.{classes}
use Rattle.rules.specs.Limits.{deepest, templates_limits}
use Rattle.rules.specs.Names.{grammar_names, templates_names}
use Rattle.rules.specs.Classes.{grammar_classes}
use Rattle.rules.specs.Typing.{declared_type, templates_typing, value_typing}
use Rattle.rules.specs.Answers
use Rattle.rules.specs.Answers.{answer, Stream, stream_kind, bytes_of, limits_of, placed, over, try, accept, set_refusal, check_refusal, scratch_needed, evaluate_refusal}
use Rattle.rules.specs.declared.Answer.{Answer}
use Rattle.laws.specs.Faults.{In, here, later, both_none, every_in, placed_iff, need_none, exists_iff}
use Rattle.theorems.specs.Streams.{WellSized, length_exactly}
use Rattle.theorems.specs.LaidOut.{GrammarLaid, TemplatesLaid}
use Rattle.theorems.specs.TypingExactly.{declared_exactly}
use Rattle.theorems.specs.Least.{FirstBy, First, first_same, first_none, first_need, first_both, Some, some_split, in_none}
use Rattle.theorems.specs.Offences.{WrongBlock, Laid, OverLimits, GrammarUnnamed, TemplatesUnnamed, Misfit, Mistyped, lent, Offence, wrong_length, wrong_block, wrong_layout, over_limits, grammar_unnamed, templates_unnamed, wrong_class, misfit, mistyped, short_scratch}
use Rattle.theorems.proofs.FirstUnnamed.{first_grammar_unnamed, first_templates_unnamed}
use Rattle.theorems.specs.FirstOffending.{first_length, laid_exactly, first_layout, PlainWrong}
use Rattle.theorems.proofs.FirstOffending.{first_block, first_over, first_class, first_misfit, first_mistyped}
use Rattle.theorems.specs.FirstRefused.{Earlier, Before, Names, to_7}

-- Of one stream: a place in it, by its kind
first_placed : {Off : ℕ → Type 0} (kind : ℕ) (f : Option ℕ) → First Off f → FirstBy Earlier (λ x. (x.0 ≡ kind) × Off x.1) (placed kind f)
unfolding placed
first_placed kind none h = first_none (λ x o. h.none_offends refl x.1 o.1)
first_placed kind (some p) h = record {
  none_offends = λ e. absurd (some-ne-none (kind, p) e);
  first_offends = λ x e.
      let i = some-injective (kind, p) x e in
      let k : kind ≡ x.0 = ap (λ (y : ℕ × ℕ). y.0) i in
      let r = h.first_offends x.1 (ap (λ (y : ℕ × ℕ). some y.1) i) in
      ((sym k, r.0), λ y b o. let z : y.0 ≡ kind = o.0 in elim b [ inl l ↦ omega arith | inr l ↦ r.1 y.1 l.1 o.1 ]);
}

later_kind : (x y : ℕ × ℕ) → x.0 < y.0 → Earlier y x → ⊥
later_kind x y l (inl m) = omega arith
later_kind x y l (inr m) = let e = m.0 in omega arith

-- Of the streams in the order of their kinds, all above n
data Ascending : ℕ → List Stream → Type 0 where
  no_stream : (n : ℕ) → Ascending n []
  one_stream : (n : ℕ) (s : Stream) (ss : List Stream) → n < stream_kind s → Ascending (stream_kind s) ss → Ascending n (s ∷ ss)

kind_above : {n : ℕ} {s : Stream} {ss : List Stream} → Ascending n ss → In s ss → n < stream_kind s
kind_above {s = s} (no_stream n) x4 = elim x4 [ ]
kind_above (one_stream n s ss l a) (here us) = l
kind_above (one_stream n s ss l a) (later u us i) = let m = kind_above a i in omega arith

abbrev InStream : (Stream → ℕ → Type 0) → ℕ → Stream → ℕ → Type 0
InStream Off kind s p = (kind ≡ stream_kind s) × Off s p

first_in_streams : (Off : Stream → ℕ → Type 0) (fault : Stream → Option ℕ) {n : ℕ} {ss : List Stream} → Ascending n ss
    → ((s : Stream) → In s ss → First (Off s) (fault s)) → FirstBy Earlier (λ x. Some ss (InStream Off x.0) x.1) (over fault ss)
unfolding over every
first_in_streams Off fault (no_stream n) h = first_none (λ x o. in_none o.1)
first_in_streams Off fault (one_stream n s ss l a) h =
    first_same (λ x. some_split (InStream Off x.0) s ss x.1)
    (first_both _ _ (λ x y o o'. later_kind x y (let e : x.0 ≡ stream_kind s = o.0 in let f = o'.2.0 in let m = kind_above a o'.1 in omega arith))
    (first_placed (stream_kind s) (fault s) (h s (here ss))) (first_in_streams Off fault a (λ u i. h u (later s ss i))))

-- Of the numbers from n on: a refusal by n, and then by those after it
abbrev FromNumber : ℕ → (ℕ → ℕ → ℕ → Type 0) → ℕ → ℕ → ℕ → Type 0
FromNumber n Off m k p = (n ≤ m) × Off m k p

at_or_past : (n m : ℕ) → n ≤ m → (m ≡ n) ⊎ (suc n ≤ m)
at_or_past n m l = go (leb (suc n) m) refl
  where
    go : (b : Bool) → leb (suc n) m ≡ b → (m ≡ n) ⊎ (suc n ≤ m)
    go true e = inr (leb-true _ _ e)
    go false e = inl (let k = leb-false (suc n) m e in omega arith)

first_try : (Off : ℕ → ℕ → ℕ → Type 0) (n : ℕ) (o : Option (ℕ × ℕ)) (next : Unit {0} → Option Answer) → FirstBy Earlier (λ x. Off n x.0 x.1) o
    → (o ≡ none → FirstBy Before (Names (FromNumber (suc n) Off)) (next tt)) → FirstBy Before (Names (FromNumber n Off)) (try n o next)
unfolding try answer
first_try Off n none next h k = record {
  none_offends = λ e b f. past b f.1 ((k refl).none_offends e b) (at_or_past n b.number f.0);
  first_offends = λ a e. let r = (k refl).first_offends a e in
      ((let l = r.0.0 in omega arith, r.0.1), λ b l f. past b f.1 (r.1 b l) (at_or_past n b.number f.0));
}
  where
    past : (b : Answer) → Names Off b → (Names (FromNumber (suc n) Off) b → ⊥) → (b.number ≡ n) ⊎ (suc n ≤ b.number) → ⊥
    past b f g (inl e) = h.none_offends refl (b.kind, b.place) (subst (λ (m : ℕ). Off m b.kind b.place) e f)
    past b f g (inr l) = g (l, f)
first_try Off n (some (kind, place)) next h k = record {
  none_offends = λ e. absurd (some-ne-none _ e);
  first_offends = λ a e. subst (λ (a : Answer). Names (FromNumber n Off) a × ((b : Answer) → Before b a → Names (FromNumber n Off) b → ⊥))
      (some-injective _ a e) ((omega arith, (h.first_offends (kind, place) refl).0), earlier);
}
  where
    earlier : (b : Answer) → Before b (answer n kind place 0 0) → Names (FromNumber n Off) b → ⊥
    earlier b (inl l) f = let z = f.0 in omega arith
    earlier b (inr (e, l)) f =
        (h.first_offends (kind, place) refl).1 (b.kind, b.place) l (subst (λ (m : ℕ). Off m b.kind b.place) e f.1)

-- The offences of each number, by the streams
module _ (g t : List ℕ) (more : List Stream) (scratch : Option (List ℕ)) where
  abbrev InSome : (Stream → ℕ → Type 0) → ℕ → ℕ → Type 0
  InSome Off k p = Some (lent g t more) (InStream Off k) p

  by_1 : (k p : ℕ) → InSome (λ s p. (p ≡ 0) × (WellSized (bytes_of s) → ⊥)) k p ↔ Offence g t more scratch 1 k p
  by_1 k p = (λ (s, i, (e, (z, n))). rw (e, z) (wrong_length s i n), from k p)
    where
      from : (k p : ℕ) → Offence g t more scratch 1 k p → InSome (λ s p. (p ≡ 0) × (WellSized (bytes_of s) → ⊥)) k p
      from k p (wrong_length s i n) = (s, i, (refl, (refl, n)))

  by_2 : (k p : ℕ) → InSome (λ s. WrongBlock (stream_kind s) (bytes_of s)) k p ↔ Offence g t more scratch 2 k p
  by_2 k p = (λ (s, i, (e, w)). rw e (wrong_block s p i w), from k p)
    where
      from : (k p : ℕ) → Offence g t more scratch 2 k p → InSome (λ s. WrongBlock (stream_kind s) (bytes_of s)) k p
      from k p (wrong_block s n i w) = (s, i, (refl, w))

  by_3 : (k p : ℕ) → InSome (λ s p. (p ≡ 0) × (Laid s → ⊥)) k p ↔ Offence g t more scratch 3 k p
  by_3 k p = (λ (s, i, (e, (z, n))). rw (e, z) (wrong_layout s i n), from k p)
    where
      from : (k p : ℕ) → Offence g t more scratch 3 k p → InSome (λ s p. (p ≡ 0) × (Laid s → ⊥)) k p
      from k p (wrong_layout s i n) = (s, i, (refl, (refl, n)))

  by_4 : (k p : ℕ) → InSome OverLimits k p ↔ Offence g t more scratch 4 k p
  by_4 k p = (λ (s, i, (e, o)). rw e (over_limits s p i o), from k p)
    where
      from : (k p : ℕ) → Offence g t more scratch 4 k p → InSome OverLimits k p
      from k p (over_limits s q i o) = (s, i, (refl, o))

  by_5 : (k p : ℕ) → (((k ≡ 1) × GrammarUnnamed g p) ⊎ ((k ≡ 2) × TemplatesUnnamed g t p)) ↔ Offence g t more scratch 5 k p
  by_5 k p = (elim [ inl o ↦ rw o.0 (grammar_unnamed p o.1) | inr o ↦ rw o.0 (templates_unnamed p o.1) ], from k p)
    where
      from : (k p : ℕ) → Offence g t more scratch 5 k p → ((k ≡ 1) × GrammarUnnamed g p) ⊎ ((k ≡ 2) × TemplatesUnnamed g t p)
      from k p (grammar_unnamed q o) = inl (refl, o)
      from k p (templates_unnamed q o) = inr (refl, o)

  by_6 : (k p : ℕ) → ((k ≡ 1) × Some (classes g) (PlainWrong g) p) ↔ Offence g t more scratch 6 k p
  by_6 k p = (λ (e, (c, i, o)). rw e (wrong_class c p i o.0 o.1), from k p)
    where
      from : (k p : ℕ) → Offence g t more scratch 6 k p → (k ≡ 1) × Some (classes g) (PlainWrong g) p
      from k p (wrong_class c q i k' o) = (refl, (c, i, (k', o)))

  by_7 : (k p : ℕ) → ((k ≡ 2) × Misfit g t p) ↔ Offence g t more scratch 7 k p
  by_7 k p = (λ (e, o). rw e (misfit p o), from k p)
    where
      from : (k p : ℕ) → Offence g t more scratch 7 k p → (k ≡ 2) × Misfit g t p
      from k p (misfit q o) = (refl, o)

  -- they have the numbers 1 to 9
  numbers : {n k p : ℕ} → Offence g t more scratch n k p → (1 ≤ n) × (n ≤ 9)
  numbers (wrong_length s i n) = (omega arith, omega arith)
  numbers (wrong_block s n i w) = (omega arith, omega arith)
  numbers (wrong_layout s i n) = (omega arith, omega arith)
  numbers (over_limits s q i o) = (omega arith, omega arith)
  numbers (grammar_unnamed q o) = (omega arith, omega arith)
  numbers (templates_unnamed q o) = (omega arith, omega arith)
  numbers (wrong_class p q i k o) = (omega arith, omega arith)
  numbers (misfit q o) = (omega arith, omega arith)
  numbers (mistyped v q i o) = (omega arith, omega arith)
  numbers (short_scratch xs e l) = (omega arith, omega arith)

  from_1 : {o : Option Answer} → FirstBy Before (Names (FromNumber 1 (Offence g t more scratch))) o → FirstBy Before (Names (Offence g t more scratch)) o
  from_1 = first_same (λ a. (λ o. o.1, λ o. ((numbers o).0, o)))

-- What holds of the streams where 1 to 7 have found nothing
record Passed (g t : List ℕ) (more : List Stream) : Type 0 where
  laid : (s : Stream) → In s (lent g t more) → Laid s
  limited : (s : Stream) → In s (lent g t more) → limits_of s ≡ none
  typing : templates_typing g t ≡ none

over_in : (fault : Stream → Option ℕ) {s : Stream} {ss : List Stream} → over fault ss ≡ none → In s ss → fault s ≡ none
unfolding over
over_in fault e i = (placed_iff _ _).0 (every_in _ e i)

-- 5 to 7, of a grammar and a template set that are laid out and within the limits, and what is tried next
first_of_names : (g t : List ℕ) (more : List Stream) (scratch : Option (List ℕ)) (next : Unit {0} → Option Answer)
    → WellSized g → WellSized t → GrammarLaid g → TemplatesLaid t → templates_limits t ≡ none
    → (templates_typing g t ≡ none → FirstBy Before (Names (FromNumber 8 (Offence g t more scratch))) (next tt))
    → FirstBy Before (Names (FromNumber 5 (Offence g t more scratch)))
    (try 5 (both (placed 1 (grammar_names g)) (placed 2 (templates_names g t))) λ _.
    try 6 (placed 1 (grammar_classes g)) λ _. try 7 (placed 2 (templates_typing g t)) next)
first_of_names g t more scratch next sg st lg lt within h =
    first_try Off 5 _ _
    (first_same (λ x. by_5 g t more scratch x.0 x.1)
    (first_both _ _ (λ x y o o'. later_kind x y (let e : x.0 ≡ 1 = o.0 in let f : y.0 ≡ 2 = o'.0 in omega arith))
    (first_placed 1 _ (first_grammar_unnamed g sg lg)) (first_placed 2 _ (first_templates_unnamed g t st lt within)))) λ e5.
    first_try Off 6 _ _ (first_same (λ x. by_6 g t more scratch x.0 x.1) (first_placed 1 _ (first_class g sg lg))) λ e6.
    first_try Off 7 _ _ (first_same (λ x. by_7 g t more scratch x.0 x.1) (first_placed 2 _ (first_misfit g t st lt within))) λ e7.
    h ((placed_iff _ _).0 e7)
  where
    Off : ℕ → ℕ → ℕ → Type 0
    Off = Offence g t more scratch

-- 1 to 7, and what is tried next
first_of_set : (g t : List ℕ) (more : List Stream) (scratch : Option (List ℕ)) (next : Unit {0} → Option Answer) → Ascending 0 (lent g t more)
    → (Passed g t more → FirstBy Before (Names (FromNumber 8 (Offence g t more scratch))) (next tt))
    → FirstBy Before (Names (FromNumber 1 (Offence g t more scratch))) (set_refusal g t more next)
unfolding set_refusal bytes_of limits_of
first_of_set g t more scratch next up h =
    first_try Off 1 _ _ (first_same (λ x. by_1 g t more scratch x.0 x.1) (first_in_streams _ _ up (λ s i. first_length (bytes_of s)))) λ e1.
    let sized : (s : Stream) → In s (lent g t more) → WellSized (bytes_of s) = λ s i. (length_exactly (bytes_of s)).0 (over_in _ e1 i) in
    first_try Off 2 _ _
    (first_same (λ x. by_2 g t more scratch x.0 x.1) (first_in_streams _ _ up (λ s i. first_block (stream_kind s) (bytes_of s)))) λ e2.
    first_try Off 3 _ _ (first_same (λ x. by_3 g t more scratch x.0 x.1) (first_in_streams _ _ up (λ s i. first_layout s (sized s i)))) λ e3.
    let laid : (s : Stream) → In s (lent g t more) → Laid s = λ s i. (laid_exactly s (sized s i)).0 (over_in _ e3 i) in
    first_try Off 4 _ _
    (first_same (λ x. by_4 g t more scratch x.0 x.1) (first_in_streams _ _ up (λ s i. first_over s (sized s i) (laid s i)))) λ e4.
    let a = here (Answers.templates t ∷ more) in
    let b = later (Answers.grammar g) (Answers.templates t ∷ more) (here more) in
    first_of_names g t more scratch next (sized (Answers.grammar g) a) (sized (Answers.templates t) b)
    (laid (Answers.grammar g) a) (laid (Answers.templates t) b) (over_in _ e4 b)
    (λ e7. h (record { laid = laid; limited = λ s i. over_in _ e4 i; typing = e7 }))
  where
    Off : ℕ → ℕ → ℕ → Type 0
    Off = Offence g t more scratch

ascending : (g t : List ℕ) (more : List Stream) → Ascending 2 more → Ascending 0 (lent g t more)
unfolding stream_kind
ascending g t more a =
    one_stream 0 (Answers.grammar g) (Answers.templates t ∷ more) (omega arith) (one_stream 1 (Answers.templates t) more (omega arith) a)

accept_first : {Off : Answer → Type 0} → ((a : Answer) → Off a → ⊥) → FirstBy Before Off (accept tt)
unfolding accept
accept_first h = first_none h

-- No offence comes before the one that is refused, by its number, then its stream, then its place; and where nothing is refused, nothing offends.
pub first_offending_check : (g t : List ℕ) → FirstBy Before (Names (Offence g t [] none)) (check_refusal g t)
unfolding check_refusal
first_offending_check g t =
    from_1 g t [] none (first_of_set g t [] none accept (ascending g t [] (no_stream 2))
    (λ h. accept_first (λ a o. let l = to_7 g t o.1 in let m = o.0 in omega arith)))

-- "the evaluate call all, in this order"
by_8 : (g t v : List ℕ) (scratch : Option (List ℕ)) (k p : ℕ) → ((k ≡ 3) × Mistyped g t v p) ↔ Offence g t (Answers.value v ∷ []) scratch 8 k p
by_8 g t v scratch k p = (λ (e, o). rw e (mistyped v p (here []) o), from k p)
  where
    the_value : (u : List ℕ) (q : ℕ) → In (Answers.value u) (Answers.value v ∷ []) → Mistyped g t u q → Mistyped g t v q
    the_value u q (here ss) o = o
    the_value u q (later x ss i) o = absurd (in_none i)

    from : (k p : ℕ) → Offence g t (Answers.value v ∷ []) scratch 8 k p → (k ≡ 3) × Mistyped g t v p
    from k p (mistyped u q i o) = (refl, the_value u q i o)

by_9 : (g t scratch : List ℕ) (more : List Stream) (k p : ℕ)
    → ((k ≡ 0) × ((p ≡ 0) × (leb 4800 (length scratch) ≡ false))) ↔ Offence g t more (some scratch) 9 k p
by_9 g t scratch more k p = (λ (e, (z, l)). rw (e, z) (short_scratch scratch refl (leb-false 4800 (length scratch) l)), from k p)
  where
    from : (k p : ℕ) → Offence g t more (some scratch) 9 k p → (k ≡ 0) × ((p ≡ 0) × (leb 4800 (length scratch) ≡ false))
    from k p (short_scratch xs e l) = (refl, (refl, lt-leb 4800 (length scratch) (rw (some-injective scratch xs e) l)))

first_of_value : (g t v scratch : List ℕ) → Passed g t (Answers.value v ∷ [])
    → FirstBy Before (Names (FromNumber 8 (Offence g t (Answers.value v ∷ []) (some scratch))))
    (try 8 (placed 3 (value_typing g t v)) λ _. try 9 (placed 0 (need (leb scratch_needed (length scratch)) 0)) accept)
unfolding limits_of scratch_needed deepest templates_typing
first_of_value g t v scratch h =
    let i = later (Answers.grammar g) _ (later (Answers.templates t) _ (here [])) in
    let d = (exists_iff (declared_type t)).0 (need_none {A = ℕ} _ 0 (both_none _ _ h.typing).0) in
    let m = first_mistyped g t v d.0 ((declared_exactly t d.0).0 d.1) (h.laid (Answers.value v) i) (h.limited (Answers.value v) i) in
    first_try Off 8 _ _ (first_same (λ x. by_8 g t v (some scratch) x.0 x.1) (first_placed 3 _ m)) λ e8.
    first_try Off 9 _ _ (first_same (λ x. by_9 g t scratch _ x.0 x.1) (first_placed 0 _ (first_need _ 0))) λ e9.
    accept_first (λ a o. let l = (numbers g t _ _ o.1).1 in let m = o.0 in omega arith)
  where
    Off : ℕ → ℕ → ℕ → Type 0
    Off = Offence g t (Answers.value v ∷ []) (some scratch)

value_ascending : (v : List ℕ) → Ascending 2 (Answers.value v ∷ [])
unfolding stream_kind
value_ascending v = one_stream 2 (Answers.value v) [] (omega arith) (no_stream 3)

pub first_offending_evaluate : (g t v scratch : List ℕ)
    → FirstBy Before (Names (Offence g t (Answers.value v ∷ []) (some scratch))) (evaluate_refusal g t v scratch)
unfolding evaluate_refusal
first_offending_evaluate g t v scratch =
    from_1 g t _ (some scratch) (first_of_set g t _ (some scratch) _ (ascending g t _ (value_ascending v)) (first_of_value g t v scratch))
