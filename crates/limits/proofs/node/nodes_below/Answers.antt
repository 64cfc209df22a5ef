-- The nodes below a node, by its form.
use borrow.Author.Rules.{rules}
use Rattle.rules.specs.Records.{heads}
use Rattle.rules.specs.Templates.{nodes_below, nodes_of, nodes, arms, first, second}
use Rattle.limits.proofs.node.nodes_below.Goals as goal
use Rattle.limits.proofs.node.nodes_below.Goals.{in-Build, in-If, in-For, in-Match, in-Literal}

pub returns : goal.returns
unfolding nodes_below nodes_of nodes arms first second heads
returns c = elim c.match-form.branch [
  | in-Build w ↦ search rules
  | in-If w ↦ search rules
  | in-For w ↦ search rules
  | in-Match w ↦ search rules
  | in-Literal w ↦ search rules
]
