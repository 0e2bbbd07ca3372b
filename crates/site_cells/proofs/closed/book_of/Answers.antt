use Rattle.std.proofs.Common.{sym, ap, ◌∙◌}
use Rattle.exchange_rules.specs.Cells.{book_in}
use Rattle.site_cells.specs.Values.{log_in}
use Rattle.site_cells.proofs.CellLemmas.{book_in-log_of, book_in-log_of_book}
use Rattle.site_cells.proofs.closed.book_of.Goals as goal

pub returns-in-Shard : goal.returns-in-Shard
returns-in-Shard c =
    c.new.ensures
    ∙ sym (ap (λ v. book_in (log_in v)) c.in-Shard.is ∙ book_in-log_of c.in-Shard.field-0.entries)

pub returns : goal.returns
returns c =
    c.into_entries.ensures
    ∙ sym (ap (λ v. book_in (log_in v)) c.in-Book.is ∙ book_in-log_of_book c.in-Book.book.entries)
