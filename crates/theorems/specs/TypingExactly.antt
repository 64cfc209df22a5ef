-- Refusal 7 exactly, of templates within the limits: the check finds no fault where the judgements hold, and nowhere else; and these hold where every node fits
-- by its own rule.
-- (Goes on in proofs/TypingExactly.antt.)
use Rattle.std.specs.Prelude.{◌≡◌, ◌↔◌, ℕ, ◌<◌, List, [], ◌∷◌}
use Rattle.std.proofs.Common.{ap, arith}
use Rattle.std.proofs.Math.Option.{Option, some, none-ne-some, some-injective}
use Rattle.rules.specs.Faults.{on_found}
use Rattle.rules.specs.Records.{field_b}
use Rattle.rules.specs.Templates.{template, templates, parameters, body, nodes_below}
use Rattle.rules.specs.Limits.{deepest}
use Rattle.rules.specs.Typing.{Site, site, sites_below, body_site, only, declared_type}
use Rattle.rules.specs.declared.Position.{Position}
use Rattle.rules.specs.declared.Position.TheVariants.{Nonterminal}
use Rattle.laws.specs.Faults.{In, on_found_some, Below}
use Rattle.theorems.specs.LimitsExactly.{TemplateWithin, not_deep}
use Rattle.theorems.specs.Judgement.{Suits, Declared}
use Rattle.theorems.specs.OwnRule.{Fits, Stands}
use Rattle.theorems.specs.Ranges.{below_leading, sites_leading}

-- A node suits its position exactly where it fits it by its own rule and its children suit theirs.
abbrev pub SuitsAt : List ℕ → List ℕ → Site → Type 0
SuitsAt g t x = Suits g t x.vars x.node x.position

-- of a template within the limits
pub sites_shallow : (g t : List ℕ) (p : ℕ) → TemplateWithin t p → (d : ℕ) (x : Site) → Below (sites_below g t) (body_site t p) d x → d < deepest
unfolding body_site site
sites_shallow g t p w d x b = not_deep t p w d x.node (below_leading (λ x. x.node) (sites_below g t) (nodes_below t) (sites_leading g t) b)

only_iff : (xs : List ℕ) (x : ℕ) → (only xs ≡ some x) ↔ (xs ≡ x ∷ [])
unfolding only
only_iff [] x = (λ e. absurd (none-ne-some x e), λ e. absurd (let z : ◌≡◌ {A = ℕ} 0 1 = cc in omega arith))
only_iff (y ∷ []) x = (λ e. ap (λ (z : ℕ). z ∷ []) (some-injective y x e), λ e. let z : y ≡ x = cc in ap {B = Option ℕ} some z)
only_iff (y ∷ z ∷ zs) x = (λ e. absurd (none-ne-some x e), λ e. absurd (let z : ◌≡◌ {A = ℕ} 0 1 = cc in omega arith))

pub declared_exactly : (t : List ℕ) (ty : ℕ) → (declared_type t ≡ some ty) ↔ Declared t ty
unfolding declared_type on_found
declared_exactly t ty = (
  λ e. let a = on_found_some (template t 0) (λ p. only (parameters t p)) ty e in
      record { root = a.0; root_there = a.1; one_parameter = (only_iff _ ty).0 a.2 },
  λ h. rw h.root_there ((only_iff _ ty).1 h.one_parameter),
)

-- every body suits the position of its template's nonterminal, with the parameters as variables
pub record SetTyped (g t : List ℕ) : Type 0 where
  pub type : ℕ
  pub declares : Declared t type
  pub bodies : (p : ℕ) → In p (templates t) → Suits g t (parameters t p) (body t p) (Nonterminal (field_b t p))

-- The same node by node: a type is declared, and each node fits where it stands.
pub record EachFits (g t : List ℕ) : Type 0 where
  pub type : ℕ
  pub declares : Declared t type
  pub fits : (p q : ℕ) (vars : List ℕ) (at : Position) → In p (templates t) → Stands g t p vars q at → Fits g t vars q at
