-- A template's limits: its parameters, then its body.
use borrow.Author.Rules.{rules}
use Rattle.laws.specs.Faults.{every_one}
use Rattle.rules.specs.Faults.{need, both}
use Rattle.rules.specs.Records.{heads}
use Rattle.rules.specs.Templates.{body}
use Rattle.rules.specs.Limits.{deepest, template_limits}
use Rattle.limits.specs.Rows.{node_within, nodes_within}
use Rattle.limits.proofs.templates.template_limits.Goals as goal

pub returns-then-head-gt-PARAMETERS : goal.returns-then-head-gt-PARAMETERS
unfolding template_limits both need
returns-then-head-gt-PARAMETERS c = search rules

pub returns : goal.returns
unfolding template_limits both need nodes_within deepest body node_within heads
returns c = search (rules, every_one)
