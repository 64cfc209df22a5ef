-- What the functions of the walk ask of their callers.
use Rattle.std.specs.Prelude.{ℕ, ◌+◌, ◌*◌, ◌≤◌, ◌≡◌, List, length}
use Rattle.std.proofs.Math.Option.{none, some}
use Rattle.rules.specs.Blocks.{stream_length}
use Rattle.rules.specs.Records.{kind_of, field_d}
use Rattle.rules.specs.Templates.{templates, form_of, path}
use Rattle.rules.specs.Walk.{path_value}
use Rattle.rules.specs.Answers.{scratch_needed}
use Rattle.rules.specs.declared.Form.{Form}
use Rattle.records.specs.Children.{Stands, Children}
use Rattle.walk.specs.declared.at.At.{At}
use Rattle.walk.specs.Frames.{frame, Held}
use Rattle.walk.specs.Marks.{ProductionHeads}
use Rattle.walk.specs.Bodies.{FewPaths, InBody}

-- what a walk reads: the three streams, and the tables of productions (with the marks of escaped classes), of templates, and of the value's children
pub record Sources : Type 0 where
  pub grammar : List ℕ
  pub templates : List ℕ
  pub value : List ℕ
  pub production_heads : List ℕ
  pub template_heads : List ℕ
  pub firsts : List ℕ
  pub places : List ℕ

abbrev pub sources : List ℕ → List ℕ → List ℕ → List ℕ → List ℕ → List ℕ → List ℕ → Sources
sources g t v ps ts firsts places =
    record { grammar = g; templates = t; value = v; production_heads = ps; template_heads = ts; firsts = firsts; places = places }

-- the value is whole blocks, and the table has its children
pub record ValueLent (v firsts places : List ℕ) : Type 0 where
  pub sized : stream_length v ≡ none
  pub children : Children v firsts places

-- the tables hold the heads by their numbers, all streams are whole blocks, no expand has too many paths
pub record WalkLent (s : Sources) : Type 0 where
  pub productions_are : ProductionHeads s.grammar s.production_heads
  pub templates_are : s.template_heads ≡ templates s.templates
  pub grammar_sized : stream_length s.grammar ≡ none
  pub templates_sized : stream_length s.templates ≡ none
  pub value_lent : ValueLent s.value s.firsts s.places
  pub few_paths : FewPaths s.templates

-- the whole walk: the scratch that 9 asks for
pub record Walkable (s : Sources) (scratch : List ℕ) : Type 0 where
  pub lent : WalkLent s
  pub scratch_lent : scratch_needed ≤ length scratch

-- The root brings one variable, and each level below it at most 8: an expand's paths, a loop's item or a case's content. So these are the most that may be
-- alive at depth 201; the last of them are never stored, since nothing is visited there.
abbrev pub most_alive : ℕ
most_alive = 1601

abbrev pub most_stored : ℕ
most_stored = 1600

-- the place is small enough that the places of so many levels below it are numbers of 64 bits
abbrev pub InReach : ℕ → ℕ → Type 0
InReach levels place = place + levels * 4294967296 ≤ 1099511627776

-- paths are followed: the templates in whole blocks, the variables in the scratch, each the place of a value
pub record Follows (t v firsts places : List ℕ) (base vars : ℕ) (scratch : List ℕ) : Type 0 where
  pub sized : stream_length t ≡ none
  pub value_lent : ValueLent v firsts places
  pub inside : base + vars ≤ length scratch
  pub held : Held v (frame base vars scratch)

abbrev pub FollowsIn : Sources → ℕ → ℕ → List ℕ → Type 0
FollowsIn s base vars scratch = Follows s.templates s.value s.firsts s.places base vars scratch

-- a node that may be visited: its variables, and those of the levels left, have their numbers in the scratch; with no level left none is read
pub record Visitable (s : Sources) (at : At) (out scratch : List ℕ) : Type 0 where
  pub lent : WalkLent s
  pub near : InReach at.left at.node
  pub in_body : InBody s.templates at.node
  pub alive : at.frame.base + at.frame.vars + 8 * at.left ≤ most_alive
  pub stored : most_stored ≤ length scratch
  pub held : 1 ≤ at.left → Held s.value (frame at.frame.base at.frame.vars scratch)
  pub room : at.bytes ≤ length out

-- the path of a for finds the list at w, which has so many items
pub record Listed (t v : List ℕ) (at : At) (scratch : List ℕ) (w count : ℕ) : Type 0 where
  pub found : path_value t v (frame at.frame.base at.frame.vars scratch) (path at.node) ≡ some w
  pub stands : Stands v w
  pub list : kind_of v w ≡ 3
  pub counted : count ≡ field_d v w
  pub few : count ≤ 65535

-- a node of a form, which a level is left for
pub record Formed (form : Form) (s : Sources) (at : At) (out scratch : List ℕ) : Type 0 where
  pub is : form_of s.templates at.node ≡ form
  pub level : 1 ≤ at.left
  pub visitable : Visitable s at out scratch
