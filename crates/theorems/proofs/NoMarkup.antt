-- An escaped form holds no markup: none of < > " ', and no & but where one of the five entities begins. So the unescape call refuses a text that does.
-- Goes on from specs/NoMarkup.antt: what rests on definitions that a must-fail edit changes.
use Rattle.std.specs.Prelude.{◌≡◌, refl, ◌⊎◌, ℕ, List, [], ◌∷◌, ◌++◌, Bool, true, not, ◌&&◌, eqb}
use Rattle.std.proofs.Common.{sym, ◌∙◌, ap, subst, inl, inr, eq-eqb}
use Rattle.std.proofs.lemmas.Bool.{false≢true}
use Rattle.rules.specs.Escape.{escape}
use Rattle.rules.specs.Answers.{unescape}
use Rattle.laws.specs.Faults.{In, here, later, in_append, and_iff}
use Rattle.theorems.specs.HeadByHead.{in_cons}
use Rattle.theorems.specs.Least.{in_none}
use Rattle.theorems.specs.Entities.{spelt, Entity, amp, lt, gt, quot, apos, stays, EscapedForm, of_nothing, of_byte}
use Rattle.theorems.proofs.Entities.{escape_exactly}
use Rattle.theorems.specs.PackCalls.{Refused}
use Rattle.theorems.proofs.Escaping.{unescape_exactly}
use Rattle.theorems.specs.NoMarkup.{five, HoldsNoMarkup}

-- lists that hold nothing in common, by a test
unfoldable without : List ℕ → ℕ → Bool
without [] b = true
without (x ∷ xs) b = not (eqb x b) && without xs b

unfoldable apart : List ℕ → List ℕ → Bool
apart xs [] = true
apart xs (y ∷ ys) = without xs y && apart xs ys

in_without : {b : ℕ} (xs : List ℕ) → without xs b ≡ true → In b xs → ⊥
unfolding without
in_without [] e i = in_none i
in_without {b} (x ∷ xs) e i =
    let (h, k) = (and_iff (not (eqb x b)) (without xs b)).0 e in
    in_cons (λ c. c ≡ b → ⊥) (λ z. false≢true (sym (ap not (eq-eqb x b z)) ∙ h)) (λ c j z. in_without xs k (subst (λ (y : ℕ). In y xs) z j)) i refl

in_apart : {b : ℕ} (xs ys : List ℕ) → apart xs ys ≡ true → In b ys → In b xs → ⊥
unfolding apart
in_apart xs [] e i j = in_none i
in_apart {b} xs (y ∷ ys) e i j =
    let (h, k) = (and_iff (without xs y) (apart xs ys)).0 e in
    in_cons (λ c. c ≡ b → ⊥) (λ z. in_without xs h (subst (λ (c : ℕ). In c xs) (sym z) j)) (λ c l z. in_apart xs ys k (subst (λ (d : ℕ). In d ys) z l) j) i refl

-- the bytes of an entity
entity_bytes : {c : ℕ} {e : List ℕ} → Entity c e → (b : ℕ) → In b (spelt "<>\"'") → In b e → ⊥
unfolding spelt apart without
entity_bytes amp b i j = in_apart (spelt "&amp;") (spelt "<>\"'") refl i j
entity_bytes lt b i j = in_apart (spelt "&lt;") (spelt "<>\"'") refl i j
entity_bytes gt b i j = in_apart (spelt "&gt;") (spelt "<>\"'") refl i j
entity_bytes quot b i j = in_apart (spelt "&quot;") (spelt "<>\"'") refl i j
entity_bytes apos b i j = in_apart (spelt "&apos;") (spelt "<>\"'") refl i j
entity_bytes (stays c n) b i j =
    in_cons (λ d. d ≡ b → ⊥) (λ z. n (later _ _ (subst (λ (d : ℕ). In d (spelt "<>\"'")) (sym z) i))) (λ d k z. in_none k) j refl

no_bytes : {x text : List ℕ} → EscapedForm x text → (b : ℕ) → In b (spelt "<>\"'") → In b text → ⊥
no_bytes of_nothing b i j = in_none j
no_bytes (of_byte c cs e text h r) b i j = elim (in_append e text j) [ inl k ↦ entity_bytes h b i k | inr k ↦ no_bytes r b i k ]

-- a byte b of two texts in a row stands in the second of them, or in the first
abbrev InSecond : List ℕ → List ℕ → List ℕ → ℕ → List ℕ → Type 0
InSecond e rest before b after = (mid : List ℕ) × (before ≡ e ++ mid) × (rest ≡ mid ++ b ∷ after)

abbrev InFirst : List ℕ → List ℕ → List ℕ → ℕ → List ℕ → Type 0
InFirst e rest before b after = (mid : List ℕ) × (e ≡ before ++ b ∷ mid) × (after ≡ mid ++ rest)

split : (e rest before : List ℕ) (b : ℕ) (after : List ℕ) → e ++ rest ≡ before ++ b ∷ after → InSecond e rest before b after ⊎ InFirst e rest before b after
split [] rest before b after h = inl (before, refl, h)
split (c ∷ cs) rest [] b after h =
    let i : c ≡ b = cc in
    let k : cs ++ rest ≡ after = cc in
    inr (cs, ap (λ (d : ℕ). d ∷ cs) i, sym k)
split (c ∷ cs) rest (d ∷ ds) b after h =
    let i : c ≡ d = cc in
    let k : cs ++ rest ≡ ds ++ b ∷ after = cc in
    elim (split cs rest ds b after k) [
      | inl (mid, x, y) ↦ inl (mid, cc (i, x), y)
      | inr (mid, x, y) ↦ inr (mid, cc (i, x), y)
    ]

in_middle : {b : ℕ} (xs ys zs : List ℕ) → zs ≡ xs ++ b ∷ ys → In b zs
in_middle {b} [] ys zs h = subst (In b) (sym h) (here ys)
in_middle {b} (x ∷ xs) ys zs h = subst (In b) (sym h) (later x _ (in_middle xs ys _ refl))

-- the entity that a text begins with
abbrev Begins : List ℕ → Type 0
Begins text = (e rest : List ℕ) × In e five × (text ≡ e ++ rest)

-- b stands in b ∷ tail at the beginning only
at_beginning : (b : ℕ) (tail before mid : List ℕ) → without tail b ≡ true → b ∷ tail ≡ before ++ b ∷ mid → before ≡ []
at_beginning b tail [] mid w h = refl
at_beginning b tail (c ∷ cs) mid w h = absurd (in_without tail w (in_middle cs mid tail cc))

begins_it : (b : ℕ) (tail rest before after : List ℕ) → In (b ∷ tail) five → without tail b ≡ true → InFirst (b ∷ tail) rest before b after → Begins (b ∷ after)
begins_it b tail rest before after i w (mid, h, a) =
    let z : before ≡ [] = at_beginning b tail before mid w h in
    let k : tail ≡ mid = cc in
    (b ∷ tail, rest, i, ap (λ (u : List ℕ). b ∷ u) (a ∙ ap (λ (u : List ℕ). u ++ rest) (sym k)))

-- an & stands in what a byte is turned into only where that is one of the five, at its beginning
entity_begins : {c : ℕ} {e : List ℕ} (rest before after : List ℕ) → Entity c e → InFirst e rest before 0x26 after → Begins (0x26 ∷ after)
unfolding spelt five without
entity_begins rest before after amp f = begins_it 0x26 _ rest before after (here _) refl f
entity_begins rest before after lt f = begins_it 0x26 _ rest before after (later _ _ (here _)) refl f
entity_begins rest before after gt f = begins_it 0x26 _ rest before after (later _ _ (later _ _ (here _))) refl f
entity_begins rest before after quot f = begins_it 0x26 _ rest before after (later _ _ (later _ _ (later _ _ (here _)))) refl f
entity_begins rest before after apos f = begins_it 0x26 _ rest before after (later _ _ (later _ _ (later _ _ (later _ _ (here _))))) refl f
entity_begins rest before after (stays c n) (mid, e, a) =
    absurd (in_cons (λ d. d ≡ 0x26 → ⊥) (λ z. n (rw z (here _))) (λ d k z. in_none k) (in_middle before mid (c ∷ []) e) refl)

form_begins : {x text : List ℕ} → EscapedForm x text → (before after : List ℕ) → text ≡ before ++ 0x26 ∷ after → Begins (0x26 ∷ after)
form_begins of_nothing before after h = absurd (in_none (in_middle before after [] h))
form_begins (of_byte b bs e text k r) before after h = elim (split e text before 0x26 after h) [
  | inl (mid, x, y) ↦ form_begins r mid after y
  | inr f ↦ entity_begins text before after k f
]

pub escaped_holds_no_markup : (x : List ℕ) → HoldsNoMarkup (escape x)
unfolding spelt
escaped_holds_no_markup x =
    let f = (escape_exactly x (escape x)).0 refl in
    record { none_of_these = no_bytes f; begins_an_entity = form_begins f }

-- "or refusal 8 for any text that escaping makes of no well-formed UTF-8, such as a bare & or a numeric reference": a text that has one of < > " ', or an &
-- that begins none of the five entities, is refused by 8, whatever the room
pub markup_refused : (text out : List ℕ) → (HoldsNoMarkup text → ⊥) → Refused 8 0 out (unescape text out)
markup_refused text out h =
    (unescape_exactly text out).by_8.1 λ x f. h (subst HoldsNoMarkup ((escape_exactly x text).1 f.escaped_form) (escaped_holds_no_markup x))
