-- A block judged against the check that it should have, and the checks of four blocks in a row.
use Rattle.std.specs.Prelude.{ℕ, ◌+◌, ◌≡◌, List, Bool, ◌&&◌, get_or, take, eqb}
use Rattle.rules.specs.Blocks.{fnv1a, check_of, block, start_of}
use Rattle.stream.specs.declared.fnv.Four.{Four}

-- its kind, byte 3 and check; it is `sound` from a start where the check in hand is made from there
abbrev pub sound_by : ℕ → ℕ → List ℕ → Bool
sound_by kind check b = eqb (get_or b 2 0) kind && (eqb (get_or b 3 0) 0 && eqb (check_of b) check)

-- the check that block n of a stream should have
abbrev pub check_due : List ℕ → ℕ → ℕ
check_due s n = fnv1a (start_of s n) (take 508 (block s n))

-- h has the starts of four blocks of a stream, from block n on
pub record Starts (s : List ℕ) (n : ℕ) (h : Four) : Type 0 where
  pub a : h.a ≡ start_of s n
  pub b : h.b ≡ start_of s (n + 1)
  pub c : h.c ≡ start_of s (n + 2)
  pub d : h.d ≡ start_of s (n + 3)

-- h has the checks that they should have
pub record Checks (s : List ℕ) (n : ℕ) (h : Four) : Type 0 where
  pub a : h.a ≡ check_due s n
  pub b : h.b ≡ check_due s (n + 1)
  pub c : h.c ≡ check_due s (n + 2)
  pub d : h.d ≡ check_due s (n + 3)
