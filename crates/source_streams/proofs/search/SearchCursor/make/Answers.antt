use Rattle.std.proofs.Common.{◌∙◌}
use Rattle.expr_types.specs.Sources.{search_list, then_by_id}
use Rattle.source_streams.proofs.EarlyLemmas.{early_found}
use Rattle.source_streams.proofs.SearchLemmas.{searched-parts}
use Rattle.source_streams.specs.Cuts.{documents_of}
use Rattle.source_streams.specs.Parts.{keys_of}
use Rattle.source_streams.proofs.search.SearchCursor.make.Goals as goal

pub returns : goal.returns
unfolding search_list
returns g c =
    let s = c.in-Search in
    rw (c.over.ensures, c.in_ok-fl.ensures) (c.in_ok-others.ensures
    ∙ rw (
      s.is,
      searched-parts s.collection s.q s.fl s.sort s.rows s.partition_keys c.args.cut.now
          c.args.part,
      c.in_ok-by.ensures,
      c.as_slice.ensures,
      c.early_part.ensures.part,
      c.keys_or_none.ensures,
      c.as_ref.ensures.value,
    ) (early_found s.q.clauses s.fl (keys_of s.partition_keys) (then_by_id s.sort) c.args.part
    (documents_of s.collection c.args.cut.now) s.rows))
