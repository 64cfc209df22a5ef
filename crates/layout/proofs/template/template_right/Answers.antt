use Rattle.std.proofs.Common.{arith, rules, ◌≡◌, ◌≤◌, ◌+◌, sym, ◌∙◌}
use mathlib.Core.Bool.{false≢true}
use Rattle.rules.specs.Records.{record_count}
use Rattle.laws.specs.Reads.{few_records}
use Rattle.std.proofs.Common.{of_calls}
use Rattle.layout.proofs.TemplateHeads.{a_naming}
use Rattle.layout.proofs.TemplateLaws.{template_past, template_d, template_row, template_body}
use Rattle.layout.proofs.template.template_right.Goals as goal
use Rattle.layout.proofs.template.template_right.Goals.{then-r-eq0, else-r-eq0, then-e-record_count, else-e-record_count}

pub overflow_add-e : goal.overflow_add-e
overflow_add-e c = omega (arith, c.requires.inside, few_records _ c.requires.sized)

pub place_of-requires : goal.place_of-requires
place_of-requires c = omega (arith, c.requires.inside, few_records _ c.requires.sized)

pub in_row-requires-clause-counts_on : goal.in_row-requires-clause-counts_on
in_row-requires-clause-counts_on c = record { sized = c.requires.sized; index = c.args.p + 1; place_is = c.place_of.ensures; near = omega (arith, c.requires.inside, few_records _ c.requires.sized) }

pub overflow_add-p-then-in_row-2 : goal.overflow_add-p-then-in_row-2
overflow_add-p-then-in_row-2 c = omega (arith, c.requires.inside, few_records _ c.requires.sized)

pub one_node-requires : goal.one_node-requires
one_node-requires c = record { sized = c.requires.sized; near = omega (arith, c.requires.inside, few_records _ c.requires.sized); inside = search rules }

pub returns-then-in_row : goal.returns-then-in_row
returns-then-in_row c =
    let d : c.args.r.d ≡ 0 = search rules in
    let l : c.args.p + c.args.r.c ≤ record_count c.args.t.now = search rules in
    elim c.if-e-record_count.branch [
      | then-e-record_count w ↦ template_body _ _ _ c.requires.fetched d _ (rw w.from.ensures at w.in_row.ensures _ (λ q r b f h. a_naming _ q r f 4 b (search (rules, of_calls))) _ w.place_of.ensures) (sym w.value-is ∙ c.if-in_row.true) l _ c.one_node.ensures
      | else-e-record_count w ↦ absurd (false≢true (sym w.if-e-record_count.false ∙ sym w.value-is ∙ c.if-in_row.true))
    ]

pub returns-else-in_row : goal.returns-else-in_row
returns-else-in_row c =
    rw c.if-in_row.false
    (elim c.if-e-record_count.branch [
      | then-e-record_count w ↦
          let d : c.args.r.d ≡ 0 = search rules in
          template_row _ _ _ c.requires.fetched d _ (rw w.from.ensures at w.in_row.ensures _ (λ q r b f h. a_naming _ q r f 4 b (search (rules, of_calls))) _ w.place_of.ensures) (sym w.value-is ∙ c.if-in_row.false)
      | else-e-record_count w ↦ elim c.if-r-eq0.branch [
        | then-r-eq0 v ↦ template_past _ _ _ c.requires.fetched (search rules)
        | else-r-eq0 v ↦ template_d _ _ _ c.requires.fetched v.if-r-eq0.false
      ]
    ])
