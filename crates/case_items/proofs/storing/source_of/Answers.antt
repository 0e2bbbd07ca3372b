use Rattle.std.proofs.Common.{◌<◌, ◌^◌, sym, ap, subst, ◌∙◌}
use Rattle.std.specs.Prelude.{IfNone, IfOk, IfSome}
use Rattle.tuple_values.specs.Document.{ByteList}
use Rattle.topic_book.specs.Cells.{cells_in}
use Rattle.exchange_rules.specs.Bindings.{book_cell, book_seen}
use Rattle.exchange_rules.specs.Rows.{Layout}
use Rattle.case_items.specs.Stores.{IsBoundNowhere}
use Rattle.case_items.proofs.storing.source_of.Goals as goal

pub book_cell-book-requires : goal.book_cell-book-requires
book_cell-book-requires g c =
    subst (λ n. cells_in n < 2 ^ 32) (sym c.names.ensures.names) c.names.ensures.few

pub source_seen-requires : goal.source_seen-requires
source_seen-requires g c =
    subst (g.T.Turns.holds c.look.new.self)
    (c.book_cell-book.ensures
    ∙ (ap book_cell c.names.ensures.names
    ∙ ap (λ (x : Layout). book_cell x.names) (sym c.in-Ok.ensures.layout)))
    c.in-Ok.ensures.holds

pub returns-in-Ok-clause-found : goal.returns-in-Ok-clause-found
returns-in-Ok-clause-found g c =
    subst (λ (x : Layout). IfOk c.source_seen.result (λ source. IfSome source (λ src.
    IsBoundNowhere c.args.key.now src (book_seen x (g.T.Turns.writer c.look.new.self)))))
    c.in-Ok.ensures.layout c.source_seen.ensures.found

pub returns-in-Ok-clause-absent : goal.returns-in-Ok-clause-absent
returns-in-Ok-clause-absent g c =
    subst (λ (x : Layout). IfOk c.source_seen.result (λ source. IfNone source ((src : ByteList)
    → ¬ (IsBoundNowhere c.args.key.now src (book_seen x (g.T.Turns.writer c.look.new.self))))))
    c.in-Ok.ensures.layout c.source_seen.ensures.absent
