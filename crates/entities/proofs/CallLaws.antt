-- The unescape call, by what was measured.
use Prim.Native.Nat.{ℕ, ◌+◌, ◌≤◌, ◌<◌}
use mathlib.Core.Path.{◌≡◌, refl, ap, sym, ◌∙◌}
use mathlib.Core.List.{List, [], ◌++◌}
use mathlib.Core.Bool.{Bool, true, false}
use mathlib.Core.Option.{Option, none, some, none-ne-some, some-injective}
use Rattle.std.specs.Prelude.{Option as Maybe, Some}
use native.Mathlib.Omega.{arith}
use lib.ListN.{length, drop}
use borrow.Author.Tests.{le-leb, lt-leb}
use Rattle.rules.specs.Faults.{need, on_found, only_if, exists}
use Rattle.rules.specs.Escape.{unescaped}
use Rattle.rules.specs.Lexeme.{characters_of}
use Rattle.rules.specs.Answers.{answer, placed, try, accept, written, well_formed, plain_text, unescape}
use Rattle.rules.specs.declared.Answer.{Answer}
use Rattle.entities.specs.declared.utf8.Utf8.{Utf8}
use Rattle.entities.specs.Utf8.{calm, shapes, is_end}
use Rattle.entities.specs.Measured.{length_from, Plainly}
use Rattle.entities.proofs.Utf8Laws.{shape_between, ends_well}

-- The call

well_formed_lem : (x : List ℕ) → exists (characters_of x) ≡ is_end (shapes (Some calm) x)
well_formed_lem x = ends_well x ∙ ap (λ (u : Maybe Utf8). is_end (shapes u x)) (shape_between [])

only_none : {A : Type 0} (b : Bool) (a : A) → only_if b a ≡ none → b ≡ false
unfolding only_if
only_none true a e = absurd (none-ne-some a (sym e))
only_none false a e = refl

only_some : {A : Type 0} (b : Bool) (a c : A) → only_if b a ≡ some c → (b ≡ true) × (a ≡ c)
unfolding only_if
only_some true a c e = (refl, some-injective a c e)
only_some false a c e = absurd (none-ne-some c e)

none_plain : (o : Option (List ℕ)) → length_from (Some calm) 0 o ≡ none → on_found o none well_formed ≡ none
unfolding length_from on_found well_formed only_if
none_plain none e = refl
none_plain (some x) e = rw (well_formed_lem x, only_none (is_end (shapes (Some calm) x)) _ e)

one_plain : (o : Option (List ℕ)) (n : ℕ) → length_from (Some calm) 0 o ≡ some n → (x : List ℕ) × (o ≡ some x) × (on_found o none well_formed ≡ some x) × (n ≡ length x)
unfolding length_from on_found well_formed only_if
one_plain none n e = absurd (none-ne-some n e)
one_plain (some x) n e =
    let h = only_some (is_end (shapes (Some calm) x)) (0 + length x) n e in
    (x, refl, rw (well_formed_lem x, h.0), omega (arith, h.1))

module _ (text : List ℕ) where
  pub no_plain_lem : length_from (Some calm) 0 (unescaped text) ≡ none → plain_text text ≡ none
  unfolding plain_text
  no_plain_lem e = none_plain (unescaped text) e

  pub some_plain : (n : ℕ) → length_from (Some calm) 0 (unescaped text) ≡ some n
      → (x : List ℕ) × (unescaped text ≡ some x) × (plain_text text ≡ some x) × (n ≡ length x)
  unfolding plain_text
  some_plain n e = one_plain (unescaped text) n e

  pub answers_8 : (out : List ℕ) → plain_text text ≡ none → unescape text out ≡ record { result = answer 8 0 0 0 0; output = out }
  unfolding unescape on_found
  answers_8 out e = rw e

  pub answers_12 : (out x : List ℕ) → plain_text text ≡ some x → length out < length x
      → unescape text out ≡ record { result = answer 12 0 0 0 0; output = out }
  unfolding unescape on_found need placed try written
  answers_12 out x e l = rw (e, lt-leb (length x) (length out) l)

  pub answers_0 : (out x : List ℕ) → plain_text text ≡ some x → length x ≤ length out
      → unescape text out ≡ record { result = answer 0 0 0 0 (length x); output = x ++ drop (length x) out }
  unfolding unescape on_found need placed try accept written
  answers_0 out x e l = rw (e, le-leb (length x) (length out) l)

-- by what was measured
module _ (text out : List ℕ) where
  pub by_8 : none ≡ length_from (Some calm) 0 (unescaped text) → {a : Answer} → a ≡ answer 8 0 0 0 0
      → (a ≡ (unescape text out).result) × (out ≡ (unescape text out).output)
  by_8 e f = rw (answers_8 text out (no_plain_lem text (sym e))) (f, refl)

  module _ (n : ℕ) (e : some n ≡ length_from (Some calm) 0 (unescaped text)) where
    pub by_12 : length out < n → {a : Answer} → a ≡ answer 12 0 0 0 0 → (a ≡ (unescape text out).result) × (out ≡ (unescape text out).output)
    by_12 l f =
        let (x, i, j, k) = some_plain text n (sym e) in
        rw (answers_12 text out x j (omega arith)) (f, refl)

    pub long_is : (x : List ℕ) → unescaped text ≡ some x → n ≡ length x
    long_is y q =
        let (x, i, j, k) = some_plain text n (sym e) in
        k ∙ ap length (some-injective x y (sym i ∙ q))

    pub plainly : n ≤ length out → Plainly text (length out)
    plainly l = let (x, i, j, k) = some_plain text n (sym e) in record { plain = x; is = i; fits = omega arith }

    pub by_0 : n ≤ length out → {a : Answer} {last : List ℕ} → a ≡ answer 0 0 0 0 n
        → ((x : List ℕ) → unescaped text ≡ some x → last ≡ x ++ drop (length x) out) → (a ≡ (unescape text out).result) × (last ≡ (unescape text out).output)
    by_0 l f p =
        let (x, i, j, k) = some_plain text n (sym e) in
        rw (answers_0 text out x j (omega arith)) (f ∙ ap (answer 0 0 0 0) k, p x i)
