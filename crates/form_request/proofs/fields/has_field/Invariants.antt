use Rattle.std.proofs.Common.{◌≡◌, drop}
use Rattle.form_request.specs.Fields.{fields_at, has}
use Rattle.form_request.proofs.fields.has_field.Given as goal

-- there is such a field where it is among those to come
abbrev pub invariant-loop-field : goal.invariant-loop-field
invariant-loop-field l =
    has l.name l.want (fields_at l.head l.fields)
    ≡ has l.name l.want (fields_at l.head (drop l.field-index l.fields))
