use Rattle.std.proofs.Common.{arith, sym, refl, ◌∙◌}
use Rattle.laws.specs.Reads.{few_records}
use Rattle.layout.proofs.GrammarLaws.{production_out, production_elements}
use Rattle.layout.proofs.grammar.ProductionsNumbered.end.Goals as goal

pub returns-then-number_of-n : goal.returns-then-number_of-n
returns-then-number_of-n c = sym (production_out c.requires.fetched c.number_of.ensures _ c.if-number_of-n.true)

pub overflow_add-p : goal.overflow_add-p
overflow_add-p c = omega (arith, c.requires.inside, few_records _ c.requires.sized)

pub returns : goal.returns
returns c = c.elements_end.ensures ∙ sym (production_elements c.requires.fetched c.number_of.ensures _ _ c.if-number_of-n.false refl)
