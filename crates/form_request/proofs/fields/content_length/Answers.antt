use Rattle.std.proofs.Common.{ap, sym, ◌∙◌, get_or}
use Rattle.httparse.specs.Spans.{header_bytes}
use Rattle.form_request.specs.Fields.{after_field}
use Rattle.form_request.proofs.LengthLemmas.{length_of-more, no_span}
use Rattle.form_request.proofs.fields.content_length.Goals as goal

pub loop-field-preserved : goal.loop-field-preserved
loop-field-preserved c =
    c.with_field-found.ensures
    ∙ ap (after_field (header_bytes c.args.head.now (get_or c.args.fields.now c.loop-field.field-index no_span))) c.loop-field.invariant
    ∙ sym (length_of-more c.args.head.now c.args.fields.now c.loop-field.field-index no_span c.loop-field-test.true)
