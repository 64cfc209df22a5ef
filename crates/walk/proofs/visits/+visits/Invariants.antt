-- The proof of the cycle of calls. The measure is twice the fuel that is left, and one more between a visit and the visits below it. Assumes nothing.
use Prim.Native.Nat.{◌+◌, ◌-◌, ◌*◌}
use Rattle.walk.specs.Visits.{sources_of}
use Rattle.walk.proofs.LoopLaws.{InSequence}
use Rattle.walk.proofs.ForLaws.{InFor}
use Rattle.walk.proofs.BuildLaws.{InBuild}
use Rattle.walk.proofs.visits.+visits.Given as goal

abbrev pub decreases-build_items : goal.decreases-build_items
decreases-build_items l = 2 * (l.at.fuel - l.at.steps) + 1

abbrev pub decreases-expand_body : goal.decreases-expand_body
decreases-expand_body l = 2 * (l.at.fuel - l.at.steps) + 1

abbrev pub decreases-for_items : goal.decreases-for_items
decreases-for_items l = 2 * (l.at.fuel - l.at.steps) + 1

abbrev pub decreases-for_node : goal.decreases-for_node
decreases-for_node l = 2 * (l.at.fuel - l.at.steps)

abbrev pub decreases-if_branch : goal.decreases-if_branch
decreases-if_branch l = 2 * (l.at.fuel - l.at.steps) + 1

abbrev pub decreases-match_arm : goal.decreases-match_arm
decreases-match_arm l = 2 * (l.at.fuel - l.at.steps) + 1

abbrev pub decreases-sequence_items : goal.decreases-sequence_items
decreases-sequence_items l = 2 * (l.at.fuel - l.at.steps) + 1

abbrev pub decreases-visit : goal.decreases-visit
decreases-visit l = 2 * (l.at.fuel - l.at.steps)

abbrev pub invariant-build_items-loop : goal.invariant-build_items-loop
invariant-build_items-loop l = InBuild (sources_of l.s) l.initial.here l.initial.out l.initial.scratch l.place l.count l.head.d l.out l.scratch l.element l.child l.used l.here l.counter

abbrev pub invariant-for_items-loop-done : goal.invariant-for_items-loop-done
invariant-for_items-loop-done l = InFor (sources_of l.s) l.at l.initial.out l.initial.scratch l.sep l.before l.w l.count l.out l.scratch l.here l.done

abbrev pub invariant-sequence_items-loop : goal.invariant-sequence_items-loop
invariant-sequence_items-loop l = InSequence (sources_of l.s) l.initial.here l.initial.out l.initial.scratch l.sep l.fn.head.d l.out l.scratch l.item l.n l.here l.counter
