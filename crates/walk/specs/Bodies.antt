-- The nodes of the templates' bodies.
use Rattle.std.specs.Prelude.{ℕ, ◌+◌, ◌≤◌, ◌≡◌, List}
use Rattle.rules.specs.Records.{field_d}
use Rattle.rules.specs.Templates.{templates, body, form_of, nodes_below}
use Rattle.rules.specs.declared.Form.TheVariants.{Expand}
use Rattle.laws.specs.Faults.{In, Below}

-- an expand has at most 8 paths: 7 asks for one for each parameter, and 4 for at most 8 of these
pub record FewPaths (t : List ℕ) : Type 0 where
  pub each : (p d node : ℕ) → In p (templates t) → Below (nodes_below t) (body t p) d node → form_of t node ≡ Expand → field_d t node ≤ 8

-- the node is the body of a template, or stands below one
pub record InBody (t : List ℕ) (node : ℕ) : Type 0 where
  pub template : ℕ
  pub depth : ℕ
  pub named : In template (templates t)
  pub stands : Below (nodes_below t) (body t template) depth node

-- the node stands directly below another, not further than 32 bits reach
pub record NodeBelow (t : List ℕ) (node child : ℕ) : Type 0 where
  pub stands : In child (nodes_below t node)
  pub near : child ≤ node + 4294967296
