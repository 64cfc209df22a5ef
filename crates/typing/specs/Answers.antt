-- What the answers of the checker's functions say, in the terms of crate rules.
use Rattle.std.specs.Prelude.{ℕ, zero, suc, ◌+◌, ◌≤◌, ◌<◌, ◌≡◌, List, [], ◌∷◌, ◌++◌, map, Bool, true, false, length, get_or, take, Option as Maybe, Some, None, Result, Ok, Err}
use Rattle.std.proofs.Math.Option.{Option, none, some}
use Rattle.rules.specs.Records.{field_b, field_c, heads, row}
use Rattle.rules.specs.Templates.{TypeForm, text, yes_no, list, fields, cases, no_type, nodes_of}
use Rattle.rules.specs.Typing.{Site, site, Typed, typed, suits_form, sites_of}
use Rattle.rules.specs.Limits.{loops_below}
use Rattle.rules.specs.declared.Form.{Form}
use Rattle.rules.specs.declared.Position.{Position}
use Rattle.typing.specs.Asked.{position_at}
use Rattle.typing.specs.declared.Kind.{Kind}
use Rattle.typing.specs.declared.Kind.TheVariants.{Text, YesNo, Items, Fields, Cases, Missing}
use Rattle.typing.specs.declared.Frame.{Frame}
use Rattle.typing.specs.declared.Positions.{Positions}
use Rattle.typing.specs.declared.Positions.TheVariants.{Alike, Asked}
use Rattle.typing.specs.declared.Brings.{Brings}
use Rattle.typing.specs.declared.Brings.TheVariants as brings
use Rattle.typing.specs.declared.Below.{Below}
use Rattle.typing.specs.declared.Misfit.{Misfit}

abbrev pub found : Maybe ℕ → Option ℕ
found (Some n) = some n
found None = none

abbrev pub kind_form : List ℕ → Kind → TypeForm
kind_form t (Text c) = text c
kind_form t YesNo = yes_no
kind_form t (Items ty) = list ty
kind_form t (Fields p n) = fields (map (field_b t) (row n (p + 1)))
kind_form t (Cases p n) = cases (map (field_b t) (row n (p + 1)))
kind_form t Missing = no_type

-- n things in a row from a place on, the first of them thing i, each of so many records
unfoldable pub row_of : {A : Type 0} → (ℕ → ℕ → A) → (ℕ → ℕ) → ℕ → ℕ → ℕ → List A
row_of make size zero i p = []
row_of make size (suc n) i p = make i p ∷ row_of make size n (i + 1) (p + size p)

-- a frame's site, where variables of these types are in scope; and where those are the first of so many numbers
abbrev pub site_at : List ℕ → Frame → Site
site_at vars f = record { node = f.node; position = f.position; vars = vars }

abbrev pub site_of : List ℕ → Frame → Site
site_of scope f = site_at (take f.count scope) f

-- the position of node i of a row, and the entry of the table of asked elements that it is read by
unfoldable pub position_in : List ℕ → List ℕ → Positions → ℕ → Position
position_in g asked (Alike position brings) i = position
position_in g asked (Asked q) i = position_at g (get_or asked (q + 1 + i) 0)

unfoldable pub entry_of : Positions → ℕ → ℕ
entry_of (Alike position brings) i = 0
entry_of (Asked q) i = q + 1 + i

-- what the nodes of a row have as one variable more: which, how many, and the type of that of node i
unfoldable pub brings_of : Positions → Brings
brings_of (Alike position brings) = brings
brings_of (Asked q) = brings.Nothing

unfoldable pub brought : Brings → ℕ
brought brings.Nothing = 0
brought (brings.Item ty) = 1
brought (brings.Contents h) = 1

unfoldable pub bindings : List ℕ → Brings → ℕ → List ℕ
bindings t brings.Nothing i = []
bindings t (brings.Item ty) i = ty ∷ []
bindings t (brings.Contents h) i = field_b t (h + 1 + i) ∷ []

-- such types were put behind the first `count` numbers
pub record Bound (before : List ℕ) (count : ℕ) (bs : List ℕ) (after : List ℕ) (r : ℕ) : Type 0 where
  pub count_is : r ≡ count + length bs
  pub vars_are : take r after ≡ take count before ++ bs
  pub full : length after ≡ 24

-- the frame of node i of a row, which is at a place
pub record FrameIn (g t asked before : List ℕ) (count : ℕ) (positions : Positions) (at i : ℕ) (after : List ℕ) (f : Frame) : Type 0 where
  pub node_is : f.node ≡ at
  pub position_is : f.position ≡ position_in g asked positions i
  pub bound : Bound before count (bindings t (brings_of positions) i) after f.count

-- the site of node i of a row, and those of a whole row
unfoldable pub site_in : List ℕ → List ℕ → List ℕ → List ℕ → Positions → ℕ → ℕ → Site
site_in g t asked vars positions i p = site (vars ++ bindings t (brings_of positions) i) (position_in g asked positions i) p

abbrev pub sites_in : List ℕ → List ℕ → List ℕ → List ℕ → Below → List Site
sites_in g t asked vars b = row_of (site_in g t asked vars b.positions) (field_c t) b.count 0 b.first

-- of a node that suits its position, and what stands below it
pub record Suited (g t asked : List ℕ) (x : Site) (form : Form) (b : Below) : Type 0 where
  pub own : suits_form g t form x ≡ true
  pub sites_are : sites_of g t form x ≡ sites_in g t asked x.vars b
  pub nodes_are : nodes_of t form x.node ≡ heads (field_c t) b.count b.first
  pub loops_are : (n : ℕ) → loops_below form n ≡ n + brought (brings_of b.positions)
  pub near : b.first ≤ x.node + 2
  pub few : b.count < 65536
  pub inside : (i : ℕ) → i < b.count → entry_of b.positions i < 8064

pub record Tests (g t asked : List ℕ) (x : Site) (form : Form) (r : Maybe Below) : Type 0 where
  pub fails : r ≡ None → suits_form g t form x ≡ false
  pub stands : (b : Below) → r ≡ Some b → Suited g t asked x form b

-- of a node that has nothing below it
unfoldable pub leaf_of : Bool → Maybe Below
leaf_of true = Some (record { first = 0; count = 0; positions = Asked 0 })
leaf_of false = None

-- a node's place, and the position that it does not suit
abbrev pub Offence : Type 0
Offence = ℕ × Position

abbrev pub judged : Result Unit Misfit → Option Offence
judged (Ok fine) = none
judged (Err m) = some (m.node, m.position)

unfoldable pub offence : Option Site → Option Offence
offence none = none
offence (some x) = some (x.node, x.position)

-- what a check says, and that the types of the first `count` variables are as they were
pub record Checked (o : Option Site) (count : ℕ) (before after : List ℕ) (r : Result Unit Misfit) : Type 0 where
  pub says : judged r ≡ offence o
  pub kept : take count after ≡ take count before
  pub full : length after ≡ 24

-- of a value whose type is of a kind: how many values are looked at below it, d of a list or a record; the kind by which they are typed, where the value
-- has the number a; and the type that child i of a kind should have
unfoldable pub child_count : Kind → ℕ → ℕ
child_count (Text c) d = 0
child_count YesNo d = 0
child_count (Items ty) d = d
child_count (Fields p n) d = d
child_count (Cases p n) d = 1
child_count Missing d = 0

unfoldable pub kind_below : List ℕ → Kind → ℕ → Kind
kind_below t (Text c) a = Text c
kind_below t YesNo a = YesNo
kind_below t (Items ty) a = Items ty
kind_below t (Fields p n) a = Fields p n
kind_below t (Cases p n) a = Items (field_b t (p + 1 + a))
kind_below t Missing a = Missing

unfoldable pub child_type : List ℕ → Kind → ℕ → ℕ
child_type t (Text c) i = 0
child_type t YesNo i = 0
child_type t (Items ty) i = ty
child_type t (Fields p n) i = field_b t (p + 1 + i)
child_type t (Cases p n) i = 0
child_type t Missing i = 0

-- child i of a value of a kind, with the type that it should have
unfoldable pub typed_in : List ℕ → Kind → ℕ → ℕ → Typed
typed_in t kind i p = typed (child_type t kind i) p
