use Rattle.expr_reader.proofs.ReadLemmas.{answers_ok, answers_limits, answers_only, answers_large}
use Rattle.expr_reader.proofs.ReadLemmas.{answers_refused, answers_place}
use Rattle.expr_reader.proofs.reader.read_expr.Goals as goal

pub returns-clause-ok : goal.returns-clause-ok
returns-clause-ok c = answers_ok c.args.bytes.now c.read.result c.read.ensures

pub returns-clause-limits : goal.returns-clause-limits
returns-clause-limits c = answers_limits c.args.bytes.now c.read.result c.read.ensures

pub returns-clause-only : goal.returns-clause-only
returns-clause-only c = answers_only c.args.bytes.now c.read.result c.read.ensures

pub returns-clause-too_large : goal.returns-clause-too_large
returns-clause-too_large c =
    answers_large c.args.bytes.now c.if-bytes-gt-BYTE_LIMIT.false c.read.result c.read.ensures

pub returns-clause-refused : goal.returns-clause-refused
returns-clause-refused c =
    answers_refused c.args.bytes.now c.if-bytes-gt-BYTE_LIMIT.false c.read.result c.read.ensures

pub returns-clause-place : goal.returns-clause-place
returns-clause-place c = answers_place c.args.bytes.now c.read.result c.read.ensures
