-- Names by number: what exists is below the length of its table.
use Prim.Native.Nat.{ℕ, zero, suc, ◌+◌, zero-le}
use mathlib.Core.Path.{◌≡◌, sym, ◌∙◌}
use mathlib.Core.List.{List, [], ◌∷◌}
use native.Mathlib.Omega.{arith}
use lib.ListN.{length}
use lib.Dec.{ltb, leb-suc-suc}
use borrow.Author.Tests.{lt-ltb, le-ltb}
use Rattle.limits.specs.Rows.{types_below}
use Rattle.rules.specs.Faults.{need, every, exists}
use Rattle.rules.specs.Records.{field_b, nth, row}
use Rattle.rules.specs.Grammar.{class, classes, production, productions}
use Rattle.rules.specs.Templates.{type, types, template, templates}

-- entry n of a list exists exactly if n is below its length
pub exists_nth : (xs : List ℕ) (n : ℕ) → exists (nth xs n) ≡ ltb n (length xs)
unfolding exists nth
exists_nth [] n = sym (le-ltb n 0 zero-le)
exists_nth (x ∷ xs) zero = sym (lt-ltb 0 (suc (length xs)) (omega arith))
exists_nth (x ∷ xs) (suc n) = exists_nth xs n ∙ sym (leb-suc-suc (suc n) (length xs))

-- in the code's terms: the number b against a count
pub class_there : (g : List ℕ) (b count : ℕ) → count ≡ length (classes g) → ltb b count ≡ exists (class g b)
unfolding class
class_there g b count h = sym (exists_nth (classes g) b ∙ rw h)

pub production_there : (g : List ℕ) (b count : ℕ) → count ≡ length (productions g) → ltb b count ≡ exists (production g b)
unfolding production
production_there g b count h = sym (exists_nth (productions g) b ∙ rw h)

pub type_there : (t : List ℕ) (b count : ℕ) → count ≡ length (types t) → ltb b count ≡ exists (type t b)
unfolding type
type_there t b count h = sym (exists_nth (types t) b ∙ rw h)

pub template_there : (t : List ℕ) (b count : ℕ) → count ≡ length (templates t) → ltb b count ≡ exists (template t b)
unfolding template
template_there t b count h = sym (exists_nth (templates t) b ∙ rw h)

-- so the types of parameters are those that there are
pub parameters_are : (t : List ℕ) (n count p : ℕ) → n ≡ length (types t) → types_below t n count p ≡ every (λ a. need (exists (type t (field_b t a))) a) (row count (p + 1))
unfolding types_below
parameters_are t n count p h = λ i. every (λ a. need (type_there t (field_b t a) n h i) a) (row count (p + 1))
