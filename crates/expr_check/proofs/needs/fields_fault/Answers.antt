use Rattle.std.proofs.Common.{◌≡◌, Some, ap, ◌∙◌}
use Rattle.tuple_values.specs.Document.{ByteList}
use Rattle.expr_check.specs.Faults.{field_fault}
use Rattle.expr_check.proofs.NeedLemmas.{field_outside-same}
use Rattle.expr_check.proofs.needs.fields_fault.Goals as goal

pub returns-in-None : goal.returns-in-None
returns-in-None c =
    ap field_fault
    (c.in-None.ensures
    ∙ field_outside-same c.args.sort.now c.in_ok-among.among c.args.fl.now c.in_ok-among.ensures)

pub returns : goal.returns
returns c =
    ap field_fault
    (ap (λ (field : ByteList). Some field) c.in_ok-field-in-Some.ensures
    ∙ c.in-Some.ensures
    ∙ field_outside-same c.args.sort.now c.in_ok-among.among c.args.fl.now c.in_ok-among.ensures)
