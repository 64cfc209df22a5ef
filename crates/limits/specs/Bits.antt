-- A set of nonterminals as 1,024 words of 64 bits.
use Rattle.std.specs.Prelude.{ℕ, ◌/◌, ◌%◌, ◌^◌, ◌<◌, ◌≡◌, List, Bool, get_or, eqb, set}
use Rattle.std.specs.Int.Bits.{bit_or}
use Rattle.rules.specs.Grammar.{nonterminal_exists}

-- bit n is 1
unfoldable pub is_marked : List ℕ → ℕ → Bool
is_marked bits n = eqb (get_or bits (n / 64) 0 / 2 ^ (n % 64) % 2) 1

-- a word with one more bit set
unfoldable pub with_bit : ℕ → ℕ → ℕ
with_bit word bit = bit_or word (2 ^ bit)

-- a set with bit n set
unfoldable pub marked : List ℕ → ℕ → List ℕ
marked bits n = set bits (n / 64) (with_bit (get_or bits (n / 64) 0) (n % 64))

-- bit n is 1 exactly where nonterminal n exists
pub record Nonterminals (g bits : List ℕ) : Type 0 where
  pub exactly : (n : ℕ) → n < 65536 → is_marked bits n ≡ nonterminal_exists g n
