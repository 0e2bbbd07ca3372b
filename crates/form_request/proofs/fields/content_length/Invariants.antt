use Rattle.std.proofs.Common.{◌≡◌, take}
use Rattle.form_request.specs.Fields.{fields_at, length_of}
use Rattle.form_request.proofs.fields.content_length.Given as goal

-- the length is the one that the fields so far tell
abbrev pub invariant-loop-field : goal.invariant-loop-field
invariant-loop-field l = l.found ≡ length_of (fields_at l.head (take l.field-index l.fields))
