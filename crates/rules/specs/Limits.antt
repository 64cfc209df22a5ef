-- Refusal 4: "A template node or value is over 200 deep (body and whole value count 1), or a template has over 8 parameters, or over 16 loops stand around a node."
use Rattle.std.specs.Prelude.{ℕ, suc, List, map, Bool, true, leb}
use Rattle.std.proofs.Math.Option.{Option}
use Rattle.rules.specs.Faults.{need, both, every, tree, at}
use Rattle.rules.specs.Records.{field_a}
use Rattle.rules.specs.Templates.{templates, body, form_of, nodes_below}
use Rattle.rules.specs.Value.{values_below}
use Rattle.rules.specs.declared.Form.{Form}
use Rattle.rules.specs.declared.Form.TheVariants.{Build, Literal, Place, Expand, If, For, Sequence, Match, Unknown}

-- the machine nests 200 levels deep
unfoldable pub deepest : ℕ
deepest = 200

-- a node, and how many loops stand around it
pub record Looped : Type 0 where
  pub node : ℕ
  pub loops : ℕ

unfoldable pub looped : ℕ → ℕ → Looped
looped loops p = record { node = p; loops = loops }

-- 02 g: "An arm counts as a loop toward the limit of 16."
unfoldable pub loops_below : Form → ℕ → ℕ
loops_below Build n = n
loops_below Literal n = n
loops_below Place n = n
loops_below Expand n = n
loops_below If n = n
loops_below For n = suc n
loops_below Sequence n = n
loops_below Match n = suc n
loops_below Unknown n = n

unfoldable pub looped_below : List ℕ → Looped → List Looped
looped_below t x = map (looped (loops_below (form_of t x.node) x.loops)) (nodes_below t x.node)

unfoldable pub few_loops : Looped → Bool
few_loops x = leb x.loops 16

unfoldable pub template_limits : List ℕ → ℕ → Option ℕ
template_limits t p =
    both (need (leb (field_a t p) 8) p) (at (λ x. x.node) (tree few_loops (looped_below t) deepest (looped 0 (body t p))))

unfoldable pub templates_limits : List ℕ → Option ℕ
templates_limits t = every (template_limits t) (templates t)

unfoldable pub value_limits : List ℕ → Option ℕ
value_limits v = tree (λ w. true) (values_below v) deepest 0
