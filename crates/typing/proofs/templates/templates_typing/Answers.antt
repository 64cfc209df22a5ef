-- What is wrong in the templates that are left is what is wrong in all of them. Assumes nothing.
use native.Mathlib.Omega.{arith}
use Rattle.laws.specs.Faults.{every_next, every_stop, every_end}
use Rattle.laws.specs.Lists.{drop_done, drop_more}
use Rattle.typing.proofs.AnswerLaws.{there, missing}
use Rattle.typing.proofs.TemplateLaws.{whole_missing, whole_is, body_right, body_wrong, few_parameters, body_ready}
use Rattle.typing.proofs.templates.templates_typing.Goals as goal

pub returns-then-is_none : goal.returns-then-is_none
returns-then-is_none c = whole_missing _ _ (missing _ c.declared_type.ensures c.if-is_none.ensures)

pub loop-q-init : goal.loop-q-init
loop-q-init c = whole_is _ _ _ c.requires.templates_are _ (there _ c.declared_type.ensures c.if-is_none.ensures).1

pub body_frame-f-requires : goal.body_frame-f-requires
body_frame-f-requires c = few_parameters _ _ c.requires.templates_are c.requires.limits _ c.loop-q-test.true

pub parameter_types-scope-requires : goal.parameter_types-scope-requires
parameter_types-scope-requires c = omega (arith, c.body_frame-f.ensures.count_is, few_parameters _ _ c.requires.templates_are c.requires.limits _ c.loop-q-test.true)

pub invariant_of-checker : goal.invariant_of-checker
invariant_of-checker c = record { ready = record { lexemes = c.requires.lexemes; builds = record { productions_are = c.requires.productions_are; filled = c.fill.ensures; sized = c.requires.sized_g }; types = record { types_are = c.requires.types_are; sized = c.requires.sized_t }; templates_are = c.requires.templates_are } }

pub check-requires : goal.check-requires
check-requires c = (body_ready _ _ c.requires.templates_are c.requires.limits _ c.loop-q-test.true _ c.body_frame-f.ensures, c.parameter_types-scope.ensures.1, c.fetch.ensures)

pub returns-in-Err : goal.returns-in-Err
returns-in-Err c = every_stop _ c.loop-q.invariant (drop_more _ _ c.loop-q-test.true) (body_wrong _ _ _ _ c.body_frame-f.ensures _ c.parameter_types-scope.ensures.0 _ c.check.ensures.says c.in-Err.is)

pub loop-q-preserved : goal.loop-q-preserved
loop-q-preserved c = every_next _ c.loop-q.invariant (drop_more _ _ c.loop-q-test.true) (body_right _ _ _ _ c.body_frame-f.ensures _ c.parameter_types-scope.ensures.0 _ c.check.ensures.says c.in_default.is)

pub returns : goal.returns
returns c = every_end _ c.loop-q.invariant (drop_done _ _ c.loop-q-test.false)
