-- What the check call and the evaluate call answer, by the stated order of checks: the first offence of all, by the refusal's number, then by the stream,
-- then by the place.
-- Goes on from specs/InOrder.antt: what rests on definitions that a must-fail edit changes.
use Rattle.std.specs.Prelude.{◌≡◌, ◌↔◌, ◌⊎◌, List, [], ◌∷◌}
use Rattle.std.proofs.Math.Path.{refl, ap}
use Rattle.std.proofs.Common.{sym, ◌∙◌, inl, inr, arith}
use Prim.Native.Nat.{ℕ, ◌≤◌}
use Rattle.std.proofs.Math.Option.{Option, none, some, none-ne-some, some-ne-none, some-injective}
use Rattle.rules.specs.Faults.{on_found}
use Rattle.rules.specs.Answers
use Rattle.rules.specs.Answers.{answer, check_refusal, evaluate_refusal, kept, unless_refused, check, evaluate}
use Rattle.rules.specs.declared.Answer.{Answer}
use Rattle.laws.specs.Faults.{on_none, on_some}
use Rattle.laws.specs.Orders.{Order, less, same, more, order}
use Rattle.theorems.specs.Accepted.{zeros_none}
use Rattle.theorems.specs.Least.{FirstBy}
use Rattle.theorems.specs.Offences.{Offence}
use Rattle.theorems.specs.Refusals.{Refusal, Refuses, check_refuses, evaluate_refuses}
use Rattle.theorems.specs.FirstRefused.{Before, Names, to_7}
use Rattle.theorems.proofs.FirstRefused.{first_offending_check, first_offending_evaluate}
use Rattle.theorems.proofs.Kept.{unrefused_as_walked}
use Rattle.theorems.specs.EvaluateCall.{walked_number}
use Rattle.theorems.specs.InOrder.{Sooner, FirstOffence, CheckInOrder, EvaluateInOrder}

same_unless : (m j q n k p : ℕ) → (Sooner (m, j, q) (n, k, p) → ⊥) → (Sooner (n, k, p) (m, j, q) → ⊥) → (m ≡ n) × (j ≡ k) × (q ≡ p)
same_unless m j q n k p h h' = number (order m n)
  where
    place : m ≡ n → j ≡ k → Order q p → (m ≡ n) × (j ≡ k) × (q ≡ p)
    place e f (less l) = absurd (h (inr (e, inr (f, l))))
    place e f (same d) = (e, f, d)
    place e f (more l) = absurd (h' (inr (sym e, inr (sym f, l))))

    kind : m ≡ n → Order j k → (m ≡ n) × (j ≡ k) × (q ≡ p)
    kind e (less l) = absurd (h (inr (e, inl l)))
    kind e (same f) = place e f (order q p)
    kind e (more l) = absurd (h' (inr (sym e, inl l)))

    number : Order m n → (m ≡ n) × (j ≡ k) × (q ≡ p)
    number (less l) = absurd (h (inl l))
    number (same e) = kind e (order j k)
    number (more l) = absurd (h' (inl l))

-- a refusal is its number, kind and place
refusal_is : (a : Answer) → Refusal a → {n k p : ℕ} → a.number ≡ n → a.kind ≡ k → a.place ≡ p → a ≡ answer n k p 0 0
unfolding answer
refusal_is a r e f d = λ i. record { number = e i; kind = f i; place = d i; steps = r.no_steps i; bytes = r.no_bytes i }

-- What is refused is the first offence, and only that; and nothing is refused exactly where nothing offends.
module _ (Off : ℕ → ℕ → ℕ → Type 0) where
  refused_first : (f : Option Answer) → FirstBy Before (Names Off) f → (n k p : ℕ) → f ≡ some (answer n k p 0 0) → FirstOffence Off n k p
  unfolding answer
  refused_first f h n k p e =
      let r = h.first_offends (answer n k p 0 0) e in
      record { offends = r.0; none_sooner = λ m j q l o. r.1 (answer m j q 0 0) l o }

  first_refused : (f : Option Answer) → Refuses f → FirstBy Before (Names Off) f → (n k p : ℕ) → FirstOffence Off n k p → f ≡ some (answer n k p 0 0)
  unfolding answer
  first_refused none refuses h n k p o = absurd (h.none_offends refl (answer n k p 0 0) o.offends)
  first_refused (some a) refuses h n k p o =
      let r = h.first_offends a refl in
      let (e, f, d) = same_unless a.number a.kind a.place n k p
      (λ l. o.none_sooner a.number a.kind a.place l r.0) (λ l. r.1 (answer n k p 0 0) l o.offends) in
      ap some (refusal_is a (refuses a refl) e f d)

  first_exactly : (f : Option Answer) → Refuses f → FirstBy Before (Names Off) f → (n k p : ℕ) → (f ≡ some (answer n k p 0 0)) ↔ FirstOffence Off n k p
  first_exactly f refuses h n k p = (refused_first f h n k p, first_refused f refuses h n k p)

  none_exactly : (f : Option Answer) → FirstBy Before (Names Off) f → (f ≡ none) ↔ ((n k p : ℕ) → Off n k p → ⊥)
  unfolding answer
  none_exactly none h = (λ e n k p o. h.none_offends e (answer n k p 0 0) o, λ n. refl)
  none_exactly (some a) h = (λ e. absurd (some-ne-none a e), λ n. absurd (n a.number a.kind a.place (h.first_offends a refl).0))

-- a call answers the refusal b exactly when the order of the checks gives b, b not being what it answers otherwise
found_exactly : (o : Option Answer) (a b : Answer) → (a ≡ b → ⊥) → (on_found o a (λ x. x) ≡ b) ↔ (o ≡ some b)
unfolding on_found
found_exactly none a b n = (λ e. absurd (n e), λ e. absurd (none-ne-some b e))
found_exactly (some x) a b n = (ap some, some-injective x b)

zeros_apart : (n k p : ℕ) → 1 ≤ n → answer 0 0 0 0 0 ≡ answer n k p 0 0 → ⊥
unfolding answer
zeros_apart n k p l e = let z : 0 ≡ n = ap (λ (x : Answer). x.number) e in omega arith

iff_then : {A B C : Type 0} → A ↔ B → B ↔ C → A ↔ C
iff_then f g = (λ a. g.0 (f.0 a), λ c. f.1 (g.1 c))

pub check_in_order : (g t : List ℕ) → CheckInOrder g t
unfolding check
check_in_order g t = record {
  refused_exactly = λ n k p l.
      iff_then (found_exactly _ _ _ (zeros_apart n k p l)) (first_exactly Off _ (check_refuses g t) (first_offending_check g t) n k p);
  accepted_exactly = iff_then (zeros_none _ (check_refuses g t)) (none_exactly Off _ (first_offending_check g t));
  refused_or_accepted = go (check_refusal g t) refl;
}
  where
    Off : ℕ → ℕ → ℕ → Type 0
    Off = Offence g t [] none

    go : (o : Option Answer) → check_refusal g t ≡ o → (n k p : ℕ) × (on_found o (answer 0 0 0 0 0) (λ a. a) ≡ answer n k p 0 0) × (n ≤ 7)
    go none e = (0, 0, 0, on_none _ _ refl, omega arith)
    go (some a) e =
        let r = check_refuses g t a e in
        let o = ((first_offending_check g t).first_offends a e).0 in
        (a.number, a.kind, a.place, on_some _ _ refl ∙ refusal_is a r refl refl refl, to_7 g t o)

module _ (g t v : List ℕ) (fuel : ℕ) (out scratch : List ℕ) where
  -- what the order of the checks refuses by is what the call answers
  answers_refusal : (a : Answer) → evaluate_refusal g t v scratch ≡ some a → (evaluate g t v fuel out scratch).result ≡ a
  unfolding evaluate unless_refused kept
  answers_refusal a e = rw e

  refusal_answered : (a : Answer) → 1 ≤ a.number → a.number ≤ 9 → ((evaluate g t v fuel out scratch).result ≡ a) ↔ (evaluate_refusal g t v scratch ≡ some a)
  refusal_answered a l m = (go (evaluate_refusal g t v scratch) refl, answers_refusal a)
    where
      go : (o : Option Answer) → evaluate_refusal g t v scratch ≡ o → (evaluate g t v fuel out scratch).result ≡ a → evaluate_refusal g t v scratch ≡ some a
      go none e h =
          let z : (evaluate g t v fuel out scratch).result.number ≡ a.number = ap (λ (x : Answer). x.number) h in
          absurd (elim (walked_number (unrefused_as_walked g t v fuel out scratch e)) [ inl w ↦ omega arith | inr w ↦ omega arith ])
      go (some b) e h = e ∙ ap some (sym (answers_refusal b e) ∙ h)

  walked_unrefused : (((evaluate g t v fuel out scratch).result.number ≡ 0) ⊎ (10 ≤ (evaluate g t v fuel out scratch).result.number))
      ↔ (evaluate_refusal g t v scratch ≡ none)
  walked_unrefused = (λ h. go h (evaluate_refusal g t v scratch) refl, λ e. walked_number (unrefused_as_walked g t v fuel out scratch e))
    where
      go : ((evaluate g t v fuel out scratch).result.number ≡ 0) ⊎ (10 ≤ (evaluate g t v fuel out scratch).result.number)
          → (o : Option Answer) → evaluate_refusal g t v scratch ≡ o → evaluate_refusal g t v scratch ≡ none
      go h none e = e
      go h (some a) e =
          let r = evaluate_refuses g t v scratch a e in
          let l = r.from_1 in
          let m = r.to_9 in
          let z : (evaluate g t v fuel out scratch).result.number ≡ a.number = ap (λ (x : Answer). x.number) (answers_refusal a e) in
          absurd (elim h [ inl w ↦ omega arith | inr w ↦ omega arith ])

  pub evaluate_in_order : EvaluateInOrder g t v fuel out scratch
  unfolding answer
  evaluate_in_order = record {
    refused_exactly = λ n k p l m.
        iff_then (refusal_answered (answer n k p 0 0) l m) (first_exactly Off _ (evaluate_refuses g t v scratch) (first_offending_evaluate g t v scratch) n k p);
    walked_exactly = iff_then walked_unrefused (none_exactly Off _ (first_offending_evaluate g t v scratch));
  }
    where
      Off : ℕ → ℕ → ℕ → Type 0
      Off = Offence g t (Answers.value v ∷ []) (some scratch)
