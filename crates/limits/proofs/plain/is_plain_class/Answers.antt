-- A class by its number: none, or the one to which the table points.
use borrow.Author.Rules.{rules}
use Rattle.laws.specs.Lists.{nth_some, nth_none}
use Rattle.rules.specs.Faults.{exists, on_found, only_if}
use Rattle.rules.specs.Grammar.{class, plain_class}
use Rattle.limits.proofs.plain.is_plain_class.Goals as goal

pub returns-then-n-classes : goal.returns-then-n-classes
unfolding plain_class class exists on_found only_if
returns-then-n-classes c = search (rules, nth_some, nth_none)

pub returns-else-n-classes : goal.returns-else-n-classes
unfolding plain_class class exists on_found only_if
returns-else-n-classes c = search (rules, nth_some, nth_none)
