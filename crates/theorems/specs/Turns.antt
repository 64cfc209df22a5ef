-- The order in which the refusals are to be tried, with that of 02 h: "all, in this order"; of 13: "tried after 6 and before 7". (The calls don't try 13 yet.)
use Rattle.std.specs.Prelude.{◌≡◌, refl, ℕ, zero, suc, ◌<◌, List, [], ◌∷◌, Bool, true, false, cond, length, eqb}
use Rattle.std.proofs.Common.{sym, ◌∙◌, arith, eqb-true}

abbrev pub in_turn : List ℕ
in_turn = 1 ∷ 2 ∷ 3 ∷ 4 ∷ 5 ∷ 6 ∷ 13 ∷ 7 ∷ 8 ∷ 9 ∷ []

-- how many entries of a list come before n; how many refusals are tried before the one of number n
unfoldable pub before : List ℕ → ℕ → ℕ
before [] n = zero
before (m ∷ ms) n = cond (eqb m n) zero (suc (before ms n))

unfoldable pub turn : ℕ → ℕ
turn n = before in_turn n

-- no two refusals have one turn
before_one : (ms : List ℕ) (m n : ℕ) → before ms m ≡ before ms n → before ms n < length ms → m ≡ n
unfolding before
before_one [] m n e l = absurd (omega arith)
before_one (k ∷ ks) m n e l = go (eqb k m) (eqb k n) (eqb-true k m) (eqb-true k n) e l (before_one ks m n)
  where
    go : (b b' : Bool) → (b ≡ true → k ≡ m) → (b' ≡ true → k ≡ n) → cond b zero (suc (before ks m)) ≡ cond b' zero (suc (before ks n))
        → cond b' zero (suc (before ks n)) < suc (length ks) → (before ks m ≡ before ks n → before ks n < length ks → m ≡ n) → m ≡ n
    go true true h h' e l rest = sym (h refl) ∙ h' refl
    go true false h h' e l rest = absurd (omega arith)
    go false true h h' e l rest = absurd (omega arith)
    go false false h h' e l rest = rest (omega arith) (omega arith)

pub one_turn : (m n : ℕ) → turn m ≡ turn n → turn n < 10 → m ≡ n
unfolding turn
one_turn m n e l = before_one in_turn m n e l
