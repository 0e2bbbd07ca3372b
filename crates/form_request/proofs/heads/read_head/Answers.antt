use Rattle.std.proofs.Common.{ℕ, subst}
use Rattle.httparse.specs.Spans.{RequestOverflows}
use Rattle.form_request.proofs.HeadLemmas.{HasNoHead-longer, HasNoHead-overflow}
use Rattle.form_request.proofs.heads.read_head.Goals as goal

pub returns-in_default-clause-none : goal.returns-in_default-clause-none
returns-in_default-clause-none c =
    let found = rw c.in-Ok-Complete.field-0-is at c.in-Ok-Complete.ensures.complete in
    let within = rw c.in-Ok-Complete.field-0-is at c.in-Ok-Complete.ensures.within in
    HasNoHead-longer _ _ c.in-Ok-Complete.line found.0 found.1 within.section.len_fits c.if-line-head.false

pub returns-in_default-3-clause-none : goal.returns-in_default-3-clause-none
returns-in_default-3-clause-none c =
    let overflows = rw c.in_default.is at c.parse_request.ensures.no_room in
    let P : ℕ → Type 0 = λ room. RequestOverflows room c.args.head.now in
    HasNoHead-overflow c.args.head.now c.requires.lines (subst P c.requires.room overflows)
