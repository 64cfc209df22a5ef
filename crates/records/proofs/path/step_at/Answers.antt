use native.Mathlib.Omega.{arith}
use mathlib.Core.Path.{refl}
use Rattle.records.proofs.PathLaws.{step_bytes, step_number, step_last}
use Rattle.records.proofs.path.step_at.Goals as goal

pub returns-in-0 : goal.returns-in-0
unfolding step_bytes
returns-in-0 c = step_number _ _ 0 _ c.requires c.in-0.is refl

pub returns-in-1 : goal.returns-in-1
unfolding step_bytes
returns-in-1 c = step_number _ _ 1 _ c.requires c.in-1.is refl

pub returns-in-2 : goal.returns-in-2
unfolding step_bytes
returns-in-2 c = step_number _ _ 2 _ c.requires c.in-2.is refl

pub returns-in-3 : goal.returns-in-3
unfolding step_bytes
returns-in-3 c = step_number _ _ 3 _ c.requires c.in-3.is refl

pub returns-in_default : goal.returns-in_default
returns-in_default c = step_last _ _ _ c.requires (omega arith) (omega arith) (omega arith) (omega arith) refl
