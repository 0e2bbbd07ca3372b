use Rattle.std.proofs.Common.{ap, ◌∙◌}
use Rattle.topic_book.specs.Books.{checkpoints}
use Rattle.running_site.proofs.writing.VisitTurns.checkpoint.Goals as goal

pub returns : goal.returns
returns g c = c.checkpoint.ensures ∙ ap (checkpoints c.args.key.now) c.book.ensures.seen
