use Rattle.stream_handler.proofs.BoardLemmas.{untold_same}
use Rattle.stream_handler.proofs.prepared.ask_start.Goals as goal

pub returns : goal.returns
returns g c =
    untold_same c.args.now c.args.daemon c.args.checked c.args.told _ _ c.start-answer.result
    c.pick.result c.pick.ensures c.start-answer.ensures.told c.start-answer.ensures.counted
