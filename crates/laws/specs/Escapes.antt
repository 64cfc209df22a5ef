-- Escaping and its inverse: each undoes the other.
use Rattle.std.specs.Prelude.{ℕ, zero, suc, ◌-◌, ◌≤◌, ◌≡◌, refl, List, [], ◌∷◌, ◌++◌, Bool, true, false, cond, length, drop, eqb}
use Rattle.std.proofs.Common.{sym, ap, ◌∙◌, arith, le_of_suc-le-suc, not-suc-le-zero, eqb-true, eq-eqb, ne_eqb}
use Rattle.std.proofs.lemmas.Bool.{false≢true, eqb-false}
use Rattle.std.proofs.Math.Option.{some, none-ne-some, some-injective}
use Rattle.rules.specs.Faults.{on_found}
use Rattle.rules.specs.Escape.{entity, escape, begins, first_of, plain_byte, unescaped_after}
use Rattle.laws.specs.Faults.{and_iff, on_found_some}

-- a byte by what it is turned into: one of the five, or itself
pub data Turned (b : ℕ) : Type 0 where
  ampersand : b ≡ 0x26 → Turned b
  less : b ≡ 0x3c → Turned b
  greater : b ≡ 0x3e → Turned b
  quote : b ≡ 0x22 → Turned b
  apostrophe : b ≡ 0x27 → Turned b
  itself : (b ≡ 0x26 → ⊥) → (b ≡ 0x3c → ⊥) → (b ≡ 0x3e → ⊥) → (b ≡ 0x22 → ⊥) → (b ≡ 0x27 → ⊥) → Turned b

pub turned : (b : ℕ) → Turned b
turned b = go (eqb b 0x26) refl (eqb b 0x3c) refl (eqb b 0x3e) refl (eqb b 0x22) refl (eqb b 0x27) refl
  where
    go : (t : Bool) → eqb b 0x26 ≡ t → (u : Bool) → eqb b 0x3c ≡ u → (v : Bool) → eqb b 0x3e ≡ v → (w : Bool) → eqb b 0x22 ≡ w
        → (x : Bool) → eqb b 0x27 ≡ x → Turned b
    go true a u c v d w e x f = ampersand (eqb-true _ _ a)
    go false a true c v d w e x f = less (eqb-true _ _ c)
    go false a false c true d w e x f = greater (eqb-true _ _ d)
    go false a false c false d true e x f = quote (eqb-true _ _ e)
    go false a false c false d false e true f = apostrophe (eqb-true _ _ f)
    go false a false c false d false e false f =
        itself (eqb-false _ _ a) (eqb-false _ _ c) (eqb-false _ _ d) (eqb-false _ _ e) (eqb-false _ _ f)

pub entity_itself : (b : ℕ) → (b ≡ 0x26 → ⊥) → (b ≡ 0x3c → ⊥) → (b ≡ 0x3e → ⊥) → (b ≡ 0x22 → ⊥) → (b ≡ 0x27 → ⊥) → entity b ≡ b ∷ []
unfolding entity
entity_itself b i j k l m = rw (ne_eqb b _ i, ne_eqb b _ j, ne_eqb b _ k, ne_eqb b _ l, ne_eqb b _ m)

-- The inverse gives back what was escaped

-- a byte that stands for itself
pub plain_byte_itself : (b : ℕ) (bs : List ℕ) → (b ≡ 0x26 → ⊥) → (b ≡ 0x3c → ⊥) → (b ≡ 0x3e → ⊥) → (b ≡ 0x22 → ⊥) → (b ≡ 0x27 → ⊥) → plain_byte b bs ≡ some b
unfolding plain_byte first_of begins entity
plain_byte_itself b bs i j k l m =
    rw (ne_eqb 0x26 b (λ z. i (sym z)), entity_itself b i j k l m, eq-eqb b b refl)

-- the byte whose entity a text begins with
unescaped_entity : (b : ℕ) (text x : List ℕ) → unescaped_after 0 text ≡ some x → unescaped_after 0 (entity b ++ text) ≡ some (b ∷ x)
unfolding entity unescaped_after plain_byte first_of begins on_found
unescaped_entity b text x e = elim (turned b) [
  | ampersand i ↦ rw (i, e)
  | less i ↦ rw (i, e)
  | greater i ↦ rw (i, e)
  | quote i ↦ rw (i, e)
  | apostrophe i ↦ rw (i, e)
  | itself i j k l m ↦ rw (entity_itself b i j k l m, plain_byte_itself b text i j k l m, entity_itself b i j k l m, e)
]

pub unescaped_of_escape : (x : List ℕ) → unescaped_after 0 (escape x) ≡ some x
unfolding escape unescaped_after
unescaped_of_escape [] = refl
unescaped_of_escape (b ∷ bs) = unescaped_entity b (escape bs) bs (unescaped_of_escape bs)

-- What the inverse gives has the text as its escaped form

begun : (xs text : List ℕ) → begins xs text ≡ true → text ≡ xs ++ drop (length xs) text
unfolding begins
begun [] text e = refl
begun (x ∷ xs) [] e = absurd (false≢true e)
begun (x ∷ xs) (b ∷ bs) e =
    let h = (and_iff (eqb x b) (begins xs bs)).0 e in
    let i : x ≡ b = eqb-true x b h.0 in
    rw i (ap (λ ys. b ∷ ys) (begun xs bs h.1))

first_holds : (holds : ℕ → Bool) (cs : List ℕ) (c : ℕ) → first_of holds cs ≡ some c → holds c ≡ true
unfolding first_of
first_holds holds [] c e = absurd (none-ne-some c e)
first_holds holds (d ∷ ds) c e = go (holds d) refl e (first_holds holds ds c)
  where
    go : (b : Bool) → holds d ≡ b → cond b (some d) (first_of holds ds) ≡ some c → (first_of holds ds ≡ some c → holds c ≡ true) → holds c ≡ true
    go true a h rest = let z : d ≡ c = some-injective d c h in rw (← z) a
    go false a h rest = rest h

-- an entity is at least a byte
pub entity_some : (b : ℕ) → 1 ≤ length (entity b)
unfolding entity
entity_some b = elim (turned b) [
  | ampersand i ↦ rw i (omega arith)
  | less i ↦ rw i (omega arith)
  | greater i ↦ rw i (omega arith)
  | quote i ↦ rw i (omega arith)
  | apostrophe i ↦ rw i (omega arith)
  | itself i j k l m ↦ rw (entity_itself b i j k l m) (omega arith)
]

drop_later : (n b : ℕ) (bs : List ℕ) → 1 ≤ n → drop n (b ∷ bs) ≡ drop (n - 1) bs
drop_later zero b bs l = absurd (omega arith)
drop_later (suc n) b bs l = let z : suc n - 1 ≡ n = omega arith in rw z refl

pub plain_byte_begins : (b c : ℕ) (bs : List ℕ) → plain_byte b bs ≡ some c → b ∷ bs ≡ entity c ++ drop (length (entity c) - 1) bs
unfolding plain_byte
plain_byte_begins b c bs e =
    begun (entity c) (b ∷ bs) (first_holds _ _ c e) ∙ ap (λ ys. entity c ++ ys) (drop_later (length (entity c)) b bs (entity_some c))

pub escape_of_unescaped : (n : ℕ) (text x : List ℕ) → unescaped_after n text ≡ some x → escape x ≡ drop n text
unfolding unescaped_after escape
escape_of_unescaped zero [] x e = let z : [] ≡ x = some-injective [] x e in rw (← z) refl
escape_of_unescaped (suc n) [] x e = absurd (none-ne-some x e)
escape_of_unescaped (suc n) (b ∷ bs) x e = escape_of_unescaped n bs x e
escape_of_unescaped zero (b ∷ bs) x e =
    let (c, i, h) = on_found_some (plain_byte b bs) _ x e in
    let (y, j, k) = on_found_some (unescaped_after (length (entity c) - 1) bs) _ x h in
    let z : c ∷ y ≡ x = some-injective (c ∷ y) x k in
    rw (← z) (ap (λ ys. entity c ++ ys) (escape_of_unescaped (length (entity c) - 1) bs y j) ∙ sym (plain_byte_begins b c bs i))

pub unescaped_after_lem : (n : ℕ) (text : List ℕ) → n ≤ length text → unescaped_after n text ≡ unescaped_after 0 (drop n text)
unfolding unescaped_after
unescaped_after_lem zero text l = refl
unescaped_after_lem (suc n) [] l = absurd (not-suc-le-zero l)
unescaped_after_lem (suc n) (b ∷ bs) l = unescaped_after_lem n bs (le_of_suc-le-suc l)
