use Rattle.std.proofs.Common.{◌∙◌}
use Rattle.stream_engine.proofs.Searches.{searched_in_part}
use Rattle.stream_engine.proofs.opening.open_search.Goals as goal

pub returns-clause-list : goal.returns-clause-list
returns-clause-list g c = λ lists.
    c.search.ensures.list ∙ c.in_ok-cursor.ensures
    ∙ searched_in_part c.args.search.now c.args.cut.now c.args.part lists c.requires.search
