use Rattle.std.proofs.Common.{sym, ap, ◌∙◌}
use Rattle.topic_book.specs.Books.{raises}
use Rattle.site_laws.specs.SiteCells.{histories_in}
use Rattle.running_site.proofs.TopicLemmas.{of-topic}
use Rattle.turn_table.specs.Calls.{known}
use Rattle.running_site.proofs.writing.VisitTurns.raises.Goals as goal

pub is_raised-requires : goal.is_raised-requires
is_raised-requires g c =
    let v = c.args.self.now in
    of-topic v.site.now.names (histories_in v.site.now.names (known v.pass).seen)
    c.book.result.now.entries c.args.key.now c.args.upto.now c.requires.delivered
    (sym c.book.ensures.seen) c.book.ensures.counted

pub returns : goal.returns
returns g c =
    c.is_raised.ensures ∙ ap (λ b. raises c.args.key.now b c.args.upto.now) c.book.ensures.seen
