-- Nodes to visit, as they are made from one another, and the ends that the definition's visits of them come to.
use Rattle.std.specs.Prelude.{ℕ, ◌+◌, ◌-◌, ◌≤◌, ◌<◌, ◌⊎◌, List, ◌≡◌, Bool, false, not, cond, length, eqb, ltb, Ok, Err}
use Rattle.std.specs.declared.result.Result.{Result}
use Rattle.rules.specs.Faults.{on_found}
use Rattle.rules.specs.Records.{field_b, text_of}
use Rattle.rules.specs.Grammar.{Element, nonterminal, element_at}
use Rattle.rules.specs.Templates.{path}
use Rattle.rules.specs.Value.{as_text}
use Rattle.rules.specs.Answers.{input}
use Rattle.rules.specs.Walk.{End, stuck, path_value, write, Filled, Asked, piece, items, separate, written_for, visit_form, visit}
use Rattle.rules.specs.declared.Form.{Form}
use Rattle.rules.specs.declared.Form.TheVariants.{For}
use Rattle.stream.specs.declared.record.Record.{Record}
use Rattle.records.specs.Sizes.{TextLength, repeats}
use Rattle.walk.specs.declared.at.At.{At}
use Rattle.walk.specs.declared.separator.Separator.{Separator}
use Rattle.walk.specs.declared.state.Progress.{Progress}
use Rattle.walk.specs.declared.state.Run.{Run}
use Rattle.walk.specs.declared.state.Stop.{Stop}
use Rattle.walk.specs.declared.state.Why.{Why}
use Rattle.walk.specs.declared.variables.Frame.{Frame}
use Rattle.walk.specs.declared.state.Why.TheVariants.{FuelSpent, TooDeep}
use Rattle.walk.specs.Run.{state_of, run_of}
use Rattle.walk.specs.Frames.{frame}

-- the node with its step counted; after a run; one below it, for an element; another one; with one variable more; with another frame; how the run
-- goes on from there, or stops there; the first of all
abbrev pub counted_at : At → At
counted_at at = record { node = at.node; element = at.element; frame = at.frame; left = at.left; fuel = at.fuel; steps = at.steps + 1; bytes = at.bytes }

abbrev pub after_at : At → Run → At
after_at at r = record { node = at.node; element = at.element; frame = at.frame; left = at.left; fuel = at.fuel; steps = r.steps; bytes = r.bytes }

abbrev pub below_at : At → ℕ → ℕ → At
below_at at node element = record { node = node; element = element; frame = at.frame; left = at.left - 1; fuel = at.fuel; steps = at.steps; bytes = at.bytes }

abbrev pub placed_at : At → ℕ → At
placed_at at node = record { node = node; element = at.element; frame = at.frame; left = at.left; fuel = at.fuel; steps = at.steps; bytes = at.bytes }

abbrev pub bound_at : At → At
bound_at at = record { node = at.node; element = at.element; frame = record { base = at.frame.base; vars = at.frame.vars + 1 }; left = at.left; fuel = at.fuel; steps = at.steps; bytes = at.bytes }

abbrev pub framed_at : At → Frame → At
framed_at at f = record { node = at.node; element = at.element; frame = f; left = at.left; fuel = at.fuel; steps = at.steps; bytes = at.bytes }

abbrev pub behind_of : Frame → ℕ → Frame
behind_of f vars = record { base = f.base + f.vars; vars = vars }

abbrev pub progress_at : At → Progress
progress_at at = record { bytes = at.bytes; steps = at.steps }

abbrev pub stopped_at : Why → At → Stop
stopped_at why at = record { place = at.node; bytes = at.bytes; steps = at.steps; why = why }

abbrev pub start_at : ℕ → ℕ → At
start_at node fuel = record { node = node; element = 0; frame = record { base = 0; vars = 1 }; left = 200; fuel = fuel; steps = 0; bytes = 0 }

-- a run that has this number at the node
abbrev pub ended_at : ℕ → At → Run
ended_at number at = run_of number at.node at.steps at.bytes

-- a node is entered: a step of the fuel and a level are left for it, or the one is missing, or the other
abbrev pub Entered : At → Result At Stop → Type 0
Entered at (Ok here) = (here ≡ counted_at at) × (at.steps < at.fuel) × (1 ≤ at.left)
Entered at (Err x) = ((x ≡ stopped_at FuelSpent at) × (at.fuel ≤ at.steps)) ⊎ ((x ≡ stopped_at TooDeep (counted_at at)) × (at.steps < at.fuel) × (at.left ≡ 0))

-- what the position of an element asks for; 0, which no element's record has, stands for a nonterminal, whose number no visit asks for
unfoldable pub element_for : List ℕ → ℕ → Element
element_for g e = cond (eqb e 0) (nonterminal 0) (element_at g e)

-- the definition's visit of a node, and what it does there by the node's form; `asked` is what its position asks for
abbrev pub asked_at : Asked → List ℕ → List ℕ → List ℕ → At → List ℕ → List ℕ → End
asked_at asked g t v at out scratch =
    visit (input g t v at.fuel out) at.left asked at.node (frame at.frame.base at.frame.vars scratch) (state_of at.steps at.bytes out)

abbrev pub visit_at : List ℕ → List ℕ → List ℕ → At → List ℕ → List ℕ → End
visit_at g t v at out scratch = asked_at (piece (element_for g at.element)) g t v at out scratch

abbrev pub form_asked_at : Form → Asked → List ℕ → List ℕ → List ℕ → At → List ℕ → List ℕ → End
form_asked_at form asked g t v at out scratch =
    let i = input g t v at.fuel out in
    visit_form i form (visit i (at.left - 1)) asked at.node (frame at.frame.base at.frame.vars scratch) (state_of at.steps at.bytes out)

abbrev pub form_at : Form → List ℕ → List ℕ → List ℕ → At → List ℕ → List ℕ → End
form_at form g t v at out scratch = form_asked_at form (piece (element_for g at.element)) g t v at out scratch

-- the repetition that a sequence fills, by its separator
unfoldable pub filled_at : List ℕ → Separator → Filled
filled_at g x = record { sequence = x.sequence; nonterminal = field_b g x.element; separator = text_of g x.length x.element }

-- an element's record asks for a repetition; a separator is the one of the sequence at a node, whose element has the record
unfoldable pub fills_at : ℕ → Record → Bool
fills_at element e = cond (eqb element 0) false (repeats e.a)

pub record Between (at : At) (e : Record) (x : Separator) : Type 0 where
  pub sequence : x.sequence ≡ at.node
  pub element : x.element ≡ at.element
  pub length : TextLength e x.length

-- a separator is due before an item that has so many before it: not before the first, and an empty one never
unfoldable pub due_at : Separator → ℕ → Bool
due_at x before = cond (eqb before 0) false (not (eqb x.length 0))

-- a separator written there, and what a for does there, which has so many items of its sequence before it
abbrev pub separate_at : List ℕ → Separator → ℕ → At → List ℕ → End
separate_at g x before at out = separate (length out) (filled_at g x) before (state_of at.steps at.bytes out)

abbrev pub turns_at : List ℕ → List ℕ → List ℕ → Separator → ℕ → At → List ℕ → List ℕ → End
turns_at g t v x before at out scratch = form_asked_at For (items (filled_at g x) before) g t v at out scratch

-- a text written there; the run after it, where so many bytes are left; what a place does
abbrev pub write_at : At → List ℕ → List ℕ → End
write_at at x out = write (length out) at.node x (state_of at.steps at.bytes out)

unfoldable pub written_at : At → ℕ → ℕ → Run
written_at at left long = cond (ltb left long) (ended_at 12 at) (run_of 0 0 at.steps (at.bytes + long))

unfoldable pub place_at : List ℕ → List ℕ → List ℕ → At → List ℕ → List ℕ → End
place_at g t v at out scratch =
    on_found (path_value t v (frame at.frame.base at.frame.vars scratch) (path at.node)) stuck λ w.
    on_found (as_text v w) stuck λ x.
    write_at at (written_for g (piece (element_for g at.element)) x) out
