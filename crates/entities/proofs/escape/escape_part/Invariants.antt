use lib.ListN.{take}
use Rattle.rules.specs.Escape.{escape}
use Rattle.entities.specs.Put.{Put}
use Rattle.entities.proofs.escape.escape_part.Given as goal

abbrev pub invariant-loop-b : goal.invariant-loop-b
invariant-loop-b l = Put (escape (take l.b-index l.part)) l.initial.out l.out l.done
