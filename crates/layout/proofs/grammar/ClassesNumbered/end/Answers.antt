use Rattle.std.proofs.Common.{arith, sym, ◌∙◌}
use Rattle.laws.specs.Reads.{few_records}
use Rattle.layout.proofs.GrammarLaws.{class_number, class_over, class_ranges}
use Rattle.layout.proofs.grammar.ClassesNumbered.end.Goals as goal
use Rattle.layout.proofs.grammar.ClassesNumbered.end.Goals.{then-r-n-via-then-r-n, then-r-n-via-else-r-n+then-not-is_laid}

pub returns-then-r-n : goal.returns-then-r-n
returns-then-r-n c =
    elim c.then-r-n.branch [
      | then-r-n-via-then-r-n w ↦ sym (class_number c.requires.fetched _ w.if-r-n.true)
      | then-r-n-via-else-r-n+then-not-is_laid w ↦ sym (class_over c.requires.fetched _ w.if-r-n.false (sym w.is_laid.ensures ∙ w.if-not-is_laid.true))
    ]

pub overflow_add-p : goal.overflow_add-p
overflow_add-p c = omega (arith, c.requires.inside, few_records _ c.requires.sized)

pub ranges_end-requires : goal.ranges_end-requires
ranges_end-requires c = omega (arith, c.requires.inside, few_records _ c.requires.sized)

pub returns : goal.returns
returns c = c.ranges_end.ensures ∙ sym (class_ranges c.requires.fetched _ c.if-r-n.false (sym c.is_laid.ensures ∙ c.if-not-is_laid.false))
