use mathlib.Core.Path.{sym, ap}
use Rattle.walk.specs.Run.{stopped_of}
use Rattle.walk.proofs.RunLaws.{ran_is, ran_stuck}
use Rattle.walk.proofs.FormLaws.{place_lost, place_other, place_text, place_escaped}
use Rattle.walk.proofs.writer.place.Goals as goal

pub returns-in_default : goal.returns-in_default
returns-in_default c = ran_stuck c.args.at c.requires.2 (ap stopped_of c.stuck.ensures) (place_lost _ _ _ _ _ _ (sym c.in_default.ensures.is))

pub returns-then-head-ne1 : goal.returns-then-head-ne1
returns-then-head-ne1 c = ran_stuck c.args.at c.requires.2 (ap stopped_of c.stuck-then-head-ne1.ensures) (place_other _ _ _ _ _ _ _ (sym c.in-Some.ensures.is) _ (rw c.from-i.ensures at c.fetch-head.ensures).kind c.if-head-ne1.true)

pub as_it_stands-requires : goal.as_it_stands-requires
as_it_stands-requires c = (c.requires.3, c.requires.4)

pub write-requires : goal.write-requires
write-requires c = c.requires.2

pub returns-then-as_it_stands : goal.returns-then-as_it_stands
returns-then-as_it_stands c = ran_is (place_text _ _ _ _ _ _ _ (sym c.in-Some.ensures.is) _ (rw c.from-i.ensures at c.fetch-head.ensures).kind c.if-head-ne1.false _ (rw c.from-i.ensures at c.fetch-head.ensures).b (rw c.from-i.ensures at c.as_it_stands.ensures) c.if-as_it_stands.true) (rw c.from-i.ensures at c.write.ensures)

pub write_escaped-requires : goal.write_escaped-requires
write_escaped-requires c = c.requires.2

pub returns-else-as_it_stands : goal.returns-else-as_it_stands
returns-else-as_it_stands c = ran_is (place_escaped _ _ _ _ _ _ _ (sym c.in-Some.ensures.is) _ (rw c.from-i.ensures at c.fetch-head.ensures).kind c.if-head-ne1.false _ (rw c.from-i.ensures at c.fetch-head.ensures).b (rw c.from-i.ensures at c.as_it_stands.ensures) c.if-as_it_stands.false) (rw c.from-i.ensures at c.write_escaped.ensures)
