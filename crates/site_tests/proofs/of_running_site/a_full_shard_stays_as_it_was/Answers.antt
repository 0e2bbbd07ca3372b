use Rattle.std.proofs.Common.{◌∙◌, sym, subst}
use Rattle.running_site.specs.Passes.{IsPassIn}
use Rattle.running_site.specs.Sites.{layout_at}
use Rattle.site_tests.proofs.of_running_site.a_full_shard_stays_as_it_was.Goals as goal

pub entries_left-requires-clause-own : goal.entries_left-requires-clause-own
entries_left-requires-clause-own g c =
    let site = c.in_ok-site.site in
    subst (IsPassIn site.table.board.shared.table_id site.table.board.shared.key
    (layout_at site)) (sym c.take_record.ensures.pass) c.fills.ensures.own

pub entries_left-requires-clause-number : goal.entries_left-requires-clause-number
entries_left-requires-clause-number g c =
    c.take_record.ensures.number ∙ c.fills.ensures.number ∙ c.in_ok-site.ensures.number
