-- Texts in a row, "one separator between neighbours and none elsewhere": written one by one, each after its separator, they are a row of the derivation.
use Rattle.std.specs.Prelude.{◌≡◌, ℕ, ◌+◌, ◌≤◌, List, [], ◌++◌}
use Rattle.std.proofs.Common.{append_assoc, append-nil, arith}
use Rattle.rules.specs.Derivation.{Derives, Row, no_text, some_texts, Texts, last_text, next_text}
use Rattle.theorems.specs.Evaluation.{BeforeItem, the_first, another}

-- texts of nonterminal n in a row, with l items up to its end where k came before it, each after what is written before it
pub data Further (g : List ℕ) (n : ℕ) (between : List ℕ) : ℕ → ℕ → List ℕ → Type 0 where
  no_more : {k : ℕ} → Further g n between k k []
  one_more : {k l : ℕ} {z x y : List ℕ} → BeforeItem between k z → Derives g n x → Further g n between (k + 1) l y → Further g n between k l (z ++ x ++ y)

pub further_one : {g between : List ℕ} {n k : ℕ} {z : List ℕ} (x : List ℕ) → BeforeItem between k z → Derives g n x → Further g n between k (k + 1) (z ++ x)
further_one {z = z} x b d = rw (← append-nil (z ++ x)) (one_more b d no_more)

pub further_append : {g between x y : List ℕ} {n k l m : ℕ} → Further g n between k l x → Further g n between l m y → Further g n between k m (x ++ y)
further_append f h = go f h
  where
    go : {g between : List ℕ} {n k l : ℕ} {x : List ℕ} → Further g n between k l x → {y : List ℕ} {m : ℕ} → Further g n between l m y
        → Further g n between k m (x ++ y)
    go no_more h = h
    go (one_more {z = z} {x} {y = r} b d f) {y} h = rw (append_assoc (z ++ x) r y) (one_more b d (go f h))

-- "one separator between neighbours and none elsewhere": what follows an item is nothing, or a separator and then texts
data Onward (g : List ℕ) (n : ℕ) (between : List ℕ) : List ℕ → Type 0 where
  nothing_more : Onward g n between []
  texts_more : {x : List ℕ} → Texts g n between x → Onward g n between (between ++ x)

text_then : {g between y : List ℕ} {n : ℕ} (x : List ℕ) → Derives g n x → Onward g n between y → Texts g n between (x ++ y)
text_then {between} {n} x d nothing_more = rw (append-nil x) (last_text n between x d)
text_then {between} {n} x d (texts_more {x = y} h) = rw (← append_assoc x between y) (next_text n between x y d h)

further_onward : {g between y : List ℕ} {n k l : ℕ} → Further g n between k l y → 1 ≤ k → Onward g n between y
further_onward f h = go f h
  where
    go : {g between : List ℕ} {n k l : ℕ} {y : List ℕ} → Further g n between k l y → 1 ≤ k → Onward g n between y
    go no_more h = nothing_more
    go (one_more the_first d f) h = absurd (omega arith)
    go {between} (one_more {x} {y = y} another d f) h = rw (append_assoc between x y) (texts_more (text_then x d (go f (omega arith))))

pub further_row : {g between y : List ℕ} {n k l : ℕ} → Further g n between k l y → k ≡ 0 → Row g n between y
further_row {between} {n} no_more h = no_text n between
further_row {between} {n} (one_more {x} the_first d f) h = some_texts n between _ (text_then x d (further_onward f (omega arith)))
further_row (one_more another d f) h = absurd (omega arith)
