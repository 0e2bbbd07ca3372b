use Rattle.std.proofs.Common.{map, ap}
use Rattle.expr_types.specs.Sources.{cut_to}
use Rattle.source_streams.proofs.SearchLemmas.{next_and_others}
use Rattle.source_streams.specs.Keeps.{given_doc}
use Rattle.source_streams.proofs.search.SearchCursor.over.Goals as goal

pub returns : goal.returns
returns c =
    ap (map (cut_to c.args.fl))
    (next_and_others given_doc c.next-first.result c.args.others c.next-first.new.self
    c.next-first.ensures.next c.next-first.ensures.end)
