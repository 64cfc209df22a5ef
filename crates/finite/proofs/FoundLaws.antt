-- What is found, production by production and round by round.
use Prim.Native.Nat.{ℕ, suc, ◌+◌, ◌/◌, ◌≤◌, ◌<◌}
use mathlib.Core.Path.{◌≡◌, refl, sym, ap, ◌∙◌, subst}
use mathlib.Core.List.{List}
use mathlib.Core.Bool.{Bool, true, false, ◌||◌, false≢true, true≢false}
use mathlib.Core.Logic.{inl, inr}
use mathlib.Core.Option.{none, some, some-injective}
use native.Mathlib.Omega.{arith}
use native.Mathlib.Nat.{zero-div}
use lib.ListN.{length, get_or, replicate, get_or-eq_default, get_or-replicate, length-replicate}
use lib.Dec.{eqb, ltb}
use borrow.Author.Tests.{eqb-true, eqb-false, ltb-true, ltb-false}
use Rattle.std.specs.Prelude.{Result, Ok, Err}
use Rattle.std.specs.Result.{is_ok}
use Rattle.stream.specs.Fault.{fault_of}
use Rattle.rules.specs.Faults.{need, every}
use Rattle.rules.specs.Records.{field_b, nth}
use Rattle.rules.specs.Grammar.{productions, element_heads, elements}
use Rattle.rules.specs.Finite.{all_derivable, is_one_of, rounds, finite, all_among, grammar_finite}
use Rattle.stream.specs.declared.record.Record.{Record}
use Rattle.stream.specs.Record.{Fetched}
use Rattle.limits.specs.Bits.{is_marked, marked}
use Rattle.limits.proofs.BitLaws.{marked_is, marked_words}
use Rattle.laws.specs.Faults.{In, in_nth, nth_in, need_none, need_iff, every_in, in_every, or_iff, eqb_iff}
use Rattle.laws.specs.Lists.{nth_some, nth_within}
use Rattle.theorems.specs.Rounds.{Within, all_derivable_more, of_round, finite_closed, finite_least}
use Rattle.finite.specs.Found.{row_derivable, Sound, Grown, Tried, Rounded, AllFound, unfound, turned}

-- nothing is found at first
pub sound_start : (g : List ℕ) → Sound g (replicate 1024 0)
unfolding is_marked
sound_start g = record { words = refl; derives = λ n e. absurd (false≢true (sym (rw (zeros n (ltb (n / 64) 1024) refl, zero-div)) ∙ e)) }
  where
    zeros : (n : ℕ) (b : Bool) → ltb (n / 64) 1024 ≡ b → ◌≡◌ {A = ℕ} (get_or (replicate 1024 0) (n / 64) 0) 0
    zeros n true l = get_or-replicate {A = ℕ} 1024 (n / 64) 0 0 (ltb-true _ _ l)
    zeros n false l = get_or-eq_default (replicate 1024 0) 0 {n = n / 64} (rw (length-replicate {A = ℕ} 1024 0) (ltb-false (n / 64) 1024 l))

-- what is found grows
pub grown_start : (g found : List ℕ) → Sound g found → Grown g found found
grown_start g found s = record { sound = s; more = λ n e. e }

-- one more is marked
module _ (g found : List ℕ) (b : ℕ) (small : b < 65536) (s : Sound g found) where
  is_marked_lem : (n : ℕ) → is_marked (marked found b) n ≡ (eqb b n || is_marked found n)
  is_marked_lem = marked_is found b (omega (arith, s.words))

  marked_more : Within (is_marked found) (is_marked (marked found b))
  marked_more n e = is_marked_lem n ∙ (or_iff (eqb b n) _).1 (inr e)

  marked_now : is_marked (marked found b) b ≡ true
  marked_now = is_marked_lem b ∙ (or_iff (eqb b b) _).1 (inl ((eqb_iff b b).1 refl))

  marked_sound : is_one_of (finite g) b ≡ true → Sound g (marked found b)
  marked_sound h = record {
    words = marked_words found b ∙ s.words;
    derives = λ n e. elim ((or_iff (eqb b n) (is_marked found n)).0 (sym (is_marked_lem n) ∙ e)) [
      | inl d ↦ subst (λ (m : ℕ). is_one_of (finite g) m ≡ true) (eqb-true b n d) h
      | inr d ↦ s.derives n d
    ];
  }

-- the production at p, whose nonterminal is b: found already, waiting, or found now
module _ (g : List ℕ) (p : ℕ) (x : Record) (h : Fetched g p x) (found : List ℕ) (s : Sound g found) where
  row_is : row_derivable g found x.d (p + 1) ≡ all_derivable g (is_marked found) (elements g p)
  unfolding row_derivable elements element_heads
  row_is = rw h.d

  pub tried_known : {b : Bool} → b ≡ is_marked found x.b → b ≡ true → Tried g p found found false
  tried_known k e = record { grown = grown_start g found s; tried = λ d. rw (← h.b) (sym k ∙ e); same = λ f. refl }

  pub tried_waiting : row_derivable g found x.d (p + 1) ≡ false → Tried g p found found false
  tried_waiting w = record { grown = grown_start g found s; tried = λ d. absurd (true≢false (sym d ∙ sym row_is ∙ w)); same = λ f. refl }

  pub tried_found : {found' : List ℕ} → In p (productions g) → x.b < 65536 → row_derivable g found x.d (p + 1) ≡ true → found' ≡ marked found x.b
      → Tried g p found found' true
  tried_found i l w e = rw e (record {
    grown = record {
      sound = marked_sound g found x.b l s (rw h.b (finite_closed g i (all_derivable_more g s.derives (elements g p) (sym row_is ∙ w))));
      more = marked_more g found x.b l s;
    };
    tried = λ d. rw (← h.b) (marked_now g found x.b l s);
    same = λ f. absurd (true≢false f);
  })

-- an entry of a table is one of the productions
pub in_table : (g ps : List ℕ) (k : ℕ) → ps ≡ productions g → k < length ps → In (get_or ps k 0) (productions g)
in_table g ps k e l = rw (← e) (nth_in ps k (get_or ps k 0) (nth_some ps k l))

-- In a round: what the turns so far have tried, by what was found before the round
pub record Rounding (g ps found₀ : List ℕ) (back : Bool) (found : List ℕ) (more : Bool) (turn : ℕ) : Type 0 where
  pub sound : Sound g found
  pub within : Within (is_marked found₀) (is_marked found)
  pub so_far : (j : ℕ) → j < turn → let p = get_or ps (turned (length ps) back j) 0 in
      all_derivable g (is_marked found₀) (elements g p) ≡ true → is_marked found (field_b g p) ≡ true
  pub same : more ≡ false → found ≡ found₀

pub rounding_start : (g ps found : List ℕ) (back : Bool) → Sound g found → Rounding g ps found back found false 0
rounding_start g ps found back s = record { sound = s; within = λ n e. e; so_far = λ j l. absurd (omega arith); same = λ e. refl }

pub rounding_next : (g ps found₀ : List ℕ) (back : Bool) (found found' : List ℕ) (more r : Bool) (turn i : ℕ)
    → Rounding g ps found₀ back found more turn → i ≡ turned (length ps) back turn → Tried g (get_or ps i 0) found found' r
    → Rounding g ps found₀ back found' (more || r) (turn + 1)
rounding_next g ps found₀ back found found' more r turn i h k t = record {
  sound = t.grown.sound;
  within = λ n d. t.grown.more n (h.within n d);
  so_far = λ j q. go j q (eqb j turn) refl;
  same = λ f. let (a, b) = neither more r f in t.same b ∙ h.same a;
}
  where
    neither : (a b : Bool) → (a || b) ≡ false → (a ≡ false) × (b ≡ false)
    neither true b f = absurd (true≢false f)
    neither false b f = (refl, f)

    go : (j : ℕ) → j < turn + 1 → (b : Bool) → eqb j turn ≡ b
        → all_derivable g (is_marked found₀) (elements g (get_or ps (turned (length ps) back j) 0)) ≡ true
        → is_marked found' (field_b g (get_or ps (turned (length ps) back j) 0)) ≡ true
    go j q true d a =
        let z : turned (length ps) back j ≡ i = ap (turned (length ps) back) (eqb-true j turn d) ∙ sym k in
        subst (λ (y : ℕ). is_marked found' (field_b g (get_or ps y 0)) ≡ true) (sym z)
        (t.tried (all_derivable_more g h.within _ (subst (λ (y : ℕ). all_derivable g (is_marked found₀) (elements g (get_or ps y 0)) ≡ true) z a)))
    go j q false d a = let z = eqb-false j turn d in t.grown.more _ (h.so_far j (omega arith) a)

-- every production has a turn
turned_in : (n k : ℕ) (back : Bool) → k < n → turned n back k < n
unfolding turned
turned_in n k true l = omega arith
turned_in n k false l = l

turned_twice : (n k : ℕ) (back : Bool) → k < n → turned n back (turned n back k) ≡ k
unfolding turned
turned_twice n k true l = omega arith
turned_twice n k false l = refl

pub rounding_done : (g ps found₀ : List ℕ) (back : Bool) (found : List ℕ) (more : Bool) (turn : ℕ) → ps ≡ productions g
    → Rounding g ps found₀ back found more turn → length ps ≤ turn → Rounded g found₀ found more
rounding_done g ps found₀ back found more turn e h l = record { sound = h.sound; tried = λ p i. go p (in_nth i); same = h.same }
  where
    go : (p : ℕ) → (n : ℕ) × (nth (productions g) n ≡ some p) → all_derivable g (is_marked found₀) (elements g p) ≡ true → is_marked found (field_b g p) ≡ true
    go p (k, d) =
        let d' : nth ps k ≡ some p = rw e d in
        let m = nth_within ps k p d' in
        let z : get_or ps (turned (length ps) back (turned (length ps) back k)) 0 ≡ p =
        ap (λ (y : ℕ). get_or ps y 0) (turned_twice (length ps) k back m) ∙ some-injective _ p (sym (nth_some ps k m) ∙ d') in
        let q = turned_in (length ps) k back m in
        subst (λ (y : ℕ). all_derivable g (is_marked found₀) (elements g y) ≡ true → is_marked found (field_b g y) ≡ true) z
        (h.so_far (turned (length ps) back k) (omega arith))

-- Round after round: so many rounds have found what so many rounds of the definition find
pub record Rounds (g found : List ℕ) (k : ℕ) : Type 0 where
  pub sound : Sound g found
  pub within : Within (is_one_of (rounds g (productions g) k)) (is_marked found)

pub rounds_start : (g found : List ℕ) (k : ℕ) → k ≡ 0 → Sound g found → Rounds g found k
unfolding rounds is_one_of
rounds_start g found k e s = rw e (record { sound = s; within = λ n d. absurd (false≢true d) })

pub rounds_next : (g found found' found'' : List ℕ) (k k' : ℕ) (r : Bool) → Rounds g found k → Rounded g found found' r → Grown g found' found'' → k' ≡ suc k
    → Rounds g found'' k'
unfolding rounds
rounds_next g found found' found'' k k' r h t w e = rw e (record {
  sound = w.sound;
  within = λ n d.
      let f = of_round g (productions g) (rounds g (productions g) k) n d in
      w.more n (subst (λ (m : ℕ). is_marked found' m ≡ true) f.of_nonterminal
      (t.tried f.head f.one_of_them (all_derivable_more g h.within _ f.elements_derive)));
})

-- a round that finds nothing more, or as many rounds as there are productions
pub rounds_closed : (g found found' : List ℕ) (r : Bool) → Rounded g found found' r → r ≡ false → AllFound g found'
rounds_closed g found found' r t e = record {
  sound = t.sound;
  all = finite_least g (is_marked found') (λ p i d. t.tried p i (subst (λ (xs : List ℕ). all_derivable g (is_marked xs) (elements g p) ≡ true) (t.same e) d));
}

pub rounds_all : (g ps found : List ℕ) (k : ℕ) → ps ≡ productions g → Rounds g found k → k ≡ length ps → AllFound g found
unfolding finite
rounds_all g ps found k e h d = record {
  sound = h.sound;
  all = subst (λ (m : ℕ). Within (is_one_of (rounds g (productions g) m)) (is_marked found)) (d ∙ ap length e) h.within;
}

-- The productions whose nonterminals are not found are those whose nonterminals derive no text
both_same : (a b : Bool) → (a ≡ true → b ≡ true) → (b ≡ true → a ≡ true) → a ≡ b
both_same true b h k = sym (h refl)
both_same false true h k = k refl
both_same false false h k = refl

pub all_found : (g found : List ℕ) → AllFound g found → unfound g found ≡ grammar_finite g
unfolding unfound grammar_finite all_among
all_found g found h = λ j. every (λ p. need (both_same (is_marked found (field_b g p)) (is_one_of (finite g) (field_b g p)) (h.sound.derives _) (h.all _) j) p) (productions g)

none_found : {T : Type 0} (r : Result T ℕ) → is_ok r ≡ true → none ≡ fault_of r
none_found (Ok _) e = refl
none_found (Err _) e = absurd (false≢true e)

none_unfound : (g found : List ℕ) → Sound g found → unfound g found ≡ none → none ≡ grammar_finite g
unfolding unfound grammar_finite all_among
none_unfound g found s e = sym (in_every _ _ λ p i. (need_iff _ p).1 (s.derives (field_b g p) (need_none _ p (every_in _ e i))))

pub first_is_ok : (g found : List ℕ) {T : Type 0} (r : Result T ℕ) → Sound g found → fault_of r ≡ unfound g found → is_ok r ≡ true → none ≡ grammar_finite g
first_is_ok g found r s e k = none_unfound g found s (sym (none_found r k ∙ e))
