use Rattle.query_syntax.proofs.ReadLemmas.{answers_ok, answers_only, answers_bad, answers_place}
use Rattle.query_syntax.proofs.ReadLemmas.{answers_readable, answers_meaning}
use Rattle.query_syntax.proofs.ReadingLemmas.{answers_reading}
use Rattle.query_syntax.proofs.reader.read_query.Goals as goal

pub returns-clause-ok : goal.returns-clause-ok
returns-clause-ok c = answers_ok c.args.text.now c.read.result c.read.ensures.computed

pub returns-clause-only : goal.returns-clause-only
returns-clause-only c = answers_only c.args.text.now c.read.result c.read.ensures.computed

pub returns-clause-bad_query : goal.returns-clause-bad_query
returns-clause-bad_query c = answers_bad c.args.text.now c.read.result c.read.ensures.computed

pub returns-clause-place : goal.returns-clause-place
returns-clause-place c = answers_place c.args.text.now c.read.result c.read.ensures.place

pub returns-clause-readable : goal.returns-clause-readable
returns-clause-readable c = answers_readable c.args.text.now c.read.result c.read.ensures.computed

pub returns-clause-meaning : goal.returns-clause-meaning
returns-clause-meaning c = answers_meaning c.args.text.now c.read.result c.read.ensures.computed

pub returns-clause-reading : goal.returns-clause-reading
returns-clause-reading c =
    answers_reading c.args.text.now c.read.result c.read.ensures.computed c.read.ensures.place
