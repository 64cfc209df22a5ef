use native.Mathlib.Omega.{arith}
use mathlib.Core.Path.{sym}
use Rattle.rules.specs.Templates.{form_numbered}
use Rattle.records.proofs.NodeLaws.{form_unknown}
use Rattle.records.proofs.node.form_of.Goals as goal

pub returns-in-0 : goal.returns-in-0
unfolding form_numbered
returns-in-0 c = sym (rw c.in-0.is)

pub returns-in-1 : goal.returns-in-1
unfolding form_numbered
returns-in-1 c = sym (rw c.in-1.is)

pub returns-in-2 : goal.returns-in-2
unfolding form_numbered
returns-in-2 c = sym (rw c.in-2.is)

pub returns-in-3 : goal.returns-in-3
unfolding form_numbered
returns-in-3 c = sym (rw c.in-3.is)

pub returns-in-4 : goal.returns-in-4
unfolding form_numbered
returns-in-4 c = sym (rw c.in-4.is)

pub returns-in-5 : goal.returns-in-5
unfolding form_numbered
returns-in-5 c = sym (rw c.in-5.is)

pub returns-in-6 : goal.returns-in-6
unfolding form_numbered
returns-in-6 c = sym (rw c.in-6.is)

pub returns-in-7 : goal.returns-in-7
unfolding form_numbered
returns-in-7 c = sym (rw c.in-7.is)

pub returns-in_default : goal.returns-in_default
returns-in_default c = form_unknown _ (omega arith) (omega arith) (omega arith) (omega arith) (omega arith) (omega arith) (omega arith) (omega arith)
