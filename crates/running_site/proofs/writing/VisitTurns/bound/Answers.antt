use Rattle.std.proofs.Common.{ap, ◌∙◌}
use Rattle.topic_book.specs.Books.{binding_of}
use Rattle.running_site.proofs.writing.VisitTurns.bound.Goals as goal

pub returns : goal.returns
returns g c = c.bound.ensures ∙ ap (binding_of c.args.key.now) c.book.ensures.seen
