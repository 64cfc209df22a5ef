-- A text at the beginning of what is lent, which has room for it.
use Rattle.std.specs.Prelude.{ℕ, ◌≤◌, ◌≡◌, List, ◌++◌, length, drop}

-- r bytes, the text, and behind them what was there
pub record Put (text before after : List ℕ) (r : ℕ) : Type 0 where
  pub fits : length text ≤ length before
  pub long : r ≡ length text
  pub written : after ≡ text ++ drop (length text) before
