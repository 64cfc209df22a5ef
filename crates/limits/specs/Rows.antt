-- What the checks of a row of things answer, and where such rows stand. (The definitions of crate rules are made of these.)
use Rattle.std.specs.Prelude.{ℕ, ◌+◌, ◌*◌, ◌^◌, ◌≤◌, ◌<◌, ◌≡◌, List, true, ltb}
use Rattle.std.proofs.Math.Option.{Option}
use Rattle.rules.specs.Faults.{need, every, tree, at}
use Rattle.rules.specs.Records.{field_b, field_c, heads, row, numbered}
use Rattle.rules.specs.Grammar.{element_at, element_heads}
use Rattle.rules.specs.Value.{value_size, values_below}
use Rattle.rules.specs.Templates.{form_of, nodes_below}
use Rattle.rules.specs.Limits.{looped, looped_below, few_loops}
use Rattle.rules.specs.Names.{class_named, element_named, type_names, node_named, template_names}
use Rattle.rules.specs.Classes.{range_right}
use Rattle.rules.specs.declared.Form.{Form}
use Rattle.stream.specs.declared.record.Record.{Record}
use Rattle.stream.specs.declared.record.Place.{Place}
use Rattle.stream.specs.Record.{Fetched, place_of}
use Rattle.limits.specs.Tables.{Nameable}
use Rattle.limits.specs.declared.node.Nodes.{Nodes}
use Rattle.limits.specs.declared.node.Node.{Node}

-- A row is near enough that the places of left levels below it are numbers of 64 bits: each level adds less than 2^32.
pub record RowNear (left first count : ℕ) : Type 0 where
  pub place : first + (left + 1) * 0x100000000 ≤ 0x10000000000
  pub few : count < 65536

-- a row of values, with the place of its first
pub record ValueRow (left first : ℕ) (from : Place) (count : ℕ) : Type 0 where
  pub near : RowNear left first count
  pub from_is : from ≡ place_of first

-- refusal 4 in a row of values, each at most left deep
unfoldable pub values_within : List ℕ → ℕ → ℕ → ℕ → Option ℕ
values_within v left count first = every (tree (λ w. true) (values_below v) left) (heads (value_size v) count first)

-- refusal 4 in a node at most left deep, with so many loops around it, and in a row of such nodes
unfoldable pub node_within : List ℕ → ℕ → ℕ → ℕ → Option ℕ
node_within t left loops q = at (λ x. x.node) (tree few_loops (looped_below t) left (looped loops q))

unfoldable pub nodes_within : List ℕ → ℕ → ℕ → ℕ → ℕ → Option ℕ
nodes_within t left loops count first = every (node_within t left loops) (heads (field_c t) count first)

-- refusal 5 in a row of nodes, each at most left deep
unfoldable pub nodes_named : List ℕ → List ℕ → ℕ → ℕ → ℕ → Option ℕ
nodes_named g t left count first = every (tree (node_named g t) (nodes_below t) left) (heads (field_c t) count first)

-- refusal 5 in classes by their numbers, in the elements of a production, in so many fields or parameters behind a head, each of which names a type
-- below a bound, in types by their numbers, in templates
unfoldable pub classes_named : List ℕ → List ℕ → Option ℕ
classes_named g cs = every (λ c. need (class_named g c) c.1) (numbered 0 cs)

unfoldable pub elements_named : List ℕ → ℕ → Option ℕ
elements_named g p = every (λ e. need (element_named g (element_at g e)) e) (element_heads g p)

unfoldable pub types_below : List ℕ → ℕ → ℕ → ℕ → Option ℕ
types_below t bound count p = every (λ r. need (ltb (field_b t r) bound) r) (row count (p + 1))

unfoldable pub types_named : List ℕ → List ℕ → List ℕ → Option ℕ
types_named g t us = every (type_names g t) (numbered 0 us)

unfoldable pub templates_named : List ℕ → List ℕ → List ℕ → Option ℕ
templates_named g t ts = every (template_names g t) ts

-- refusal 6 in so many ranges of a class
unfoldable pub ranges_right : List ℕ → ℕ → ℕ → Option ℕ
ranges_right g count p = every (λ r. need (range_right g r) r) (row count (p + 1))

-- the head of the node at p, and its form
pub record HeadIs (t : List ℕ) (p : ℕ) (head : Record) (form : Form) : Type 0 where
  pub near : p < 2 ^ 60
  pub fetched : Fetched t p head
  pub form_is : form ≡ form_of t p

-- r is the row of nodes directly below the node at p
pub record NodesBelow (t : List ℕ) (p : ℕ) (r : Nodes) : Type 0 where
  pub below : heads (field_c t) r.count r.first ≡ nodes_below t p
  pub near : r.first ≤ p + 2
  pub few : r.count < 65536

-- r is the node at p
pub record NodeIs (t : List ℕ) (p : ℕ) (r : Node) : Type 0 where
  pub form : r.form ≡ form_of t p
  pub names : r.names ≡ field_b t p
  pub size : r.size ≡ field_c t p
  pub below : NodesBelow t p r.below
  pub small : r.size < 65536

-- the element at e, with what it may name
pub record NamingElement (g : List ℕ) (e : ℕ) (element : Record) (classes : ℕ) (bits : List ℕ) : Type 0 where
  pub nameable : Nameable g classes bits
  pub fetched : Fetched g e element
