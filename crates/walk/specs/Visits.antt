-- What the visits read, as the code is lent it, and what they come to.
use Rattle.std.specs.Prelude.{ℕ, List}
use Rattle.rules.specs.Walk.{End}
use Rattle.rules.specs.declared.Form.{Form}
use Rattle.walk.specs.declared.at.At.{At}
use Rattle.walk.specs.declared.separator.Separator.{Separator}
use Rattle.walk.specs.declared.sources.Sources as lent
use Rattle.walk.specs.Asks.{Sources, sources}
use Rattle.walk.specs.Nodes.{visit_at, form_at, turns_at}

abbrev pub sources_of : lent.Sources → Sources
sources_of s = sources s.grammar.now s.templates.now s.value.now s.production_heads.now s.template_heads.now s.firsts.now s.places.now

abbrev pub visit_end : Sources → At → List ℕ → List ℕ → End
visit_end s at out scratch = visit_at s.grammar s.templates s.value at out scratch

abbrev pub form_end : Form → Sources → At → List ℕ → List ℕ → End
form_end form s at out scratch = form_at form s.grammar s.templates s.value at out scratch

abbrev pub turns_end : Sources → Separator → ℕ → At → List ℕ → List ℕ → End
turns_end s x before at out scratch = turns_at s.grammar s.templates s.value x before at out scratch
