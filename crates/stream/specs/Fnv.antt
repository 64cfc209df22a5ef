-- Four checks that are made at once.
use Rattle.std.specs.Prelude.{◌≡◌, ℕ, List}
use Rattle.rules.specs.Blocks.{fnv1a}
use Rattle.stream.specs.declared.fnv.Four.{Four}

-- h has the checks of four parts, each from its own start
pub record Hashed (starts : Four) (p q r s : List ℕ) (h : Four) : Type 0 where
  pub a : h.a ≡ fnv1a starts.a p
  pub b : h.b ≡ fnv1a starts.b q
  pub c : h.c ≡ fnv1a starts.c r
  pub d : h.d ≡ fnv1a starts.d s
