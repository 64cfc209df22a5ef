-- UTF-8 where no class is asked: a decoding without its characters and bits, if it is valid.
use Rattle.std.specs.Prelude.{ℕ, List, [], ◌∷◌, Bool, true, false, cond, eqb, Option as Maybe, Some, None, option_and_then}
use Rattle.rules.specs.Lexeme.{Decoding, next_byte}
use Rattle.entities.specs.declared.utf8.Utf8.{Utf8}

unfoldable pub shape : Decoding → Maybe Utf8
shape d = cond d.valid (Some (record { due = d.due; low = d.low; high = d.high })) None

-- between characters; inside one, so many bytes due, the next of them in low..high
abbrev pub calm : Utf8
calm = record { due = 0; low = 0; high = 0 }

abbrev pub due_in : ℕ → ℕ → ℕ → Utf8
due_in n low high = record { due = n; low = low; high = high }

abbrev pub resumed : Utf8 → Decoding
resumed u = record { valid = true; due = u.due; low = u.low; high = u.high; bits = 0; characters = [] }

-- a byte more; all bytes of a text
unfoldable pub next_shape : Utf8 → ℕ → Maybe Utf8
next_shape u b = shape (next_byte (resumed u) b)

unfoldable pub shapes : Maybe Utf8 → List ℕ → Maybe Utf8
shapes u [] = u
shapes u (b ∷ bs) = shapes (option_and_then (λ v. next_shape v b) u) bs

-- no byte is due
unfoldable pub is_end : Maybe Utf8 → Bool
is_end None = false
is_end (Some u) = eqb u.due 0
