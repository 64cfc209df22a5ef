-- A node's form, from its head.
use Prim.Native.Nat.{ℕ, zero, suc}
use mathlib.Core.Path.{◌≡◌, refl, ap, ◌∙◌}
use mathlib.Core.List.{List}
use Rattle.rules.specs.Templates.{form_numbered, form_of}
use Rattle.rules.specs.declared.Form.{Form}
use Rattle.rules.specs.declared.Form.TheVariants.{Unknown}
use Rattle.stream.specs.Record.{Fetched}
use Rattle.stream.specs.declared.record.Record.{Record}

pub form_unknown : (n : ℕ) → (n ≡ 0 → ⊥) → (n ≡ 1 → ⊥) → (n ≡ 2 → ⊥) → (n ≡ 3 → ⊥) → (n ≡ 4 → ⊥) → (n ≡ 5 → ⊥) → (n ≡ 6 → ⊥) → (n ≡ 7 → ⊥) → Unknown ≡ form_numbered n
unfolding form_numbered
form_unknown zero a b c d e f g h = absurd (a refl)
form_unknown (suc zero) a b c d e f g h = absurd (b refl)
form_unknown (suc (suc zero)) a b c d e f g h = absurd (c refl)
form_unknown (suc (suc (suc zero))) a b c d e f g h = absurd (d refl)
form_unknown (suc (suc (suc (suc zero)))) a b c d e f g h = absurd (e refl)
form_unknown (suc (suc (suc (suc (suc zero))))) a b c d e f g h = absurd (f refl)
form_unknown (suc (suc (suc (suc (suc (suc zero)))))) a b c d e f g h = absurd (g refl)
form_unknown (suc (suc (suc (suc (suc (suc (suc zero))))))) a b c d e f g h = absurd (h refl)
form_unknown (suc (suc (suc (suc (suc (suc (suc (suc n)))))))) a b c d e f g h = refl

-- what form_of answers of a head that was fetched
pub form_is : (t : List ℕ) (p : ℕ) (r : Record) → Fetched t p r → (f : Form) → f ≡ form_numbered r.a → f ≡ form_of t p
unfolding form_of
form_is t p r h f e = e ∙ ap form_numbered h.a
