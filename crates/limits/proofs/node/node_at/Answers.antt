-- A node from its head.
use native.Mathlib.Omega.{arith}
use Rattle.records.proofs.NodeLaws.{form_is}
use Rattle.limits.proofs.node.node_at.Goals as goal

pub nodes_below-below-requires : goal.nodes_below-below-requires
nodes_below-below-requires c = record { near = c.requires; fetched = c.fetch-head.ensures; form_is = form_is _ _ _ c.fetch-head.ensures _ c.form_of-form.ensures }

pub returns : goal.returns
returns c = record {
  form = form_is _ _ _ c.fetch-head.ensures _ c.form_of-form.ensures;
  names = c.fetch-head.ensures.b;
  size = c.fetch-head.ensures.c;
  below = c.nodes_below-below.ensures;
  small = omega arith;
}
