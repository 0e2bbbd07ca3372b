use Rattle.std.proofs.Common.{◌≡◌, ◌≢◌, ◌+◌, map, length, sym, ap, ◌∙◌, subst, arith}
use Rattle.std.specs.Prelude.{AllPairs, Contains}
use Rattle.topic_book.specs.Cells.{cells_in}
use Rattle.exchange_rules.specs.Cells.{author_of}
use Rattle.turn_table.specs.Calls.{table_of}
use Rattle.logged_cells.specs.Cells.{about_in, log_of_cell}
use Rattle.running_site.specs.Passes.{layout_in, new_writer, IsPassOf, TablePass}
use Rattle.running_site.specs.declared.pass.PassOf.{PassOf}
use Rattle.running_site.proofs.CloseLemmas.{all-of}
use Rattle.running_site.proofs.KnownLemmas.{each_of}
use Rattle.running_site.proofs.NumberLemmas.{numbers-differ}
use Rattle.running_site.proofs.SignedLemmas.{all-listed}
use Rattle.running_site.proofs.StartLemmas.{fresh-new, fresh-now, fresh-own, start-lawful, start-long, start-new}
use Rattle.running_site.proofs.opening.SiteOf+LoggedCell+D.start_with.Goals as goal

pub start-requires-clause-few : goal.start-requires-clause-few
start-requires-clause-few g c = omega (arith, c.len.ensures, c.if-len-ge-CELLS.false)

pub start-requires-clause-lawful : goal.start-requires-clause-lawful
start-requires-clause-lawful g c =
    start-lawful c.args.names c.args.limit c.args.cells c.requires.abouts
    c.requires.empty

pub start-requires-clause-differ : goal.start-requires-clause-differ
start-requires-clause-differ g c =
    subst (AllPairs (λ m n. m ≢ n)) (sym c.in_ok-numbers.ensures) (numbers-differ c.args.passes)

pub start-requires-clause-new : goal.start-requires-clause-new
start-requires-clause-new g c =
    start-new (λ entry. ¬ Contains c.in_ok-numbers.numbers (author_of entry))
    (cells_in c.args.names + 1) c.args.cells c.requires.empty

pub invariant_of-site : goal.invariant_of-site
invariant_of-site g c = record {
  sized = c.in_ok-table.ensures.cells
      ∙ start-long c.args.names c.args.cells c.requires.empty;
  some = c.requires.some;
  numbered = c.in_ok-table.ensures.opening.1 ∙ c.in_ok-numbers.ensures;
}

pub returns-clause-own : goal.returns-clause-own
returns-clause-own g c =
    let table = c.in_ok-table.table.board.shared.table_id in
    let key = c.in_ok-table.table.board.shared.key in
    let numbers = c.in_ok-numbers.numbers in
    all-of (IsPassOf table key (layout_in c.args.names c.args.limit)) c.in_ok-made.made
    (fresh-own g.row.D.Denot c.args.names c.args.limit (map about_in c.args.cells)
    (map log_of_cell c.args.cells) numbers (length c.args.cells)
    c.requires.abouts c.requires.empty table key numbers
    c.in_ok-table.inside c.in_ok-made.made
    (record {
      told = ap (map about_in) c.in_ok-table.ensures.opening.0 ∙ c.requires.abouts;
      empty = ap (map log_of_cell) c.in_ok-table.ensures.opening.0 ∙ c.requires.empty;
    })
    (sym c.in_ok-table.ensures.opening.1)
    (each_of (Contains numbers) numbers (all-listed numbers))
    c.in_ok-made.ensures c.in_ok-table.ensures.passes
    (each_of (λ (p : TablePass g.row.D.Denot). table_of p ≡ table) c.in_ok-table.inside
    c.in_ok-table.ensures.own))

pub returns-clause-new : goal.returns-clause-new
returns-clause-new g c =
    fresh-new g.row.D.Denot c.args.names c.args.limit (map about_in c.args.cells)
    (map log_of_cell c.args.cells) c.in_ok-numbers.numbers (length c.args.cells)
    c.requires.abouts c.requires.empty c.in_ok-numbers.numbers
    c.in_ok-table.inside c.in_ok-made.made
    (start-long c.args.names c.args.cells c.requires.empty)
    c.in_ok-made.ensures c.in_ok-table.ensures.passes
    ∙ ap (map (new_writer c.args.names)) c.in_ok-numbers.ensures

pub returns-clause-now : goal.returns-clause-now
returns-clause-now g c =
    all-of (λ (p : PassOf (TablePass g.row.D.Denot)). p.now ≡ 0) c.in_ok-made.made
    (fresh-now c.in_ok-table.inside c.in_ok-made.made c.in_ok-made.ensures)
