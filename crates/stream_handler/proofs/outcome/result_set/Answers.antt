use Rattle.json_text.proofs.PiecesLemmas.{concat-pieces_of}
use Rattle.stream_handler.proofs.outcome.result_set.Goals as goal

pub returns : goal.returns
returns c =
    rw (
      c.in_ok-push_rest.ensures,
      c.in_ok-push_head.ensures.ok,
      c.in_ok-push_head.ensures.anew,
      c.begin-pieces.ensures,
      c.new-out.ensures,
    ) (concat-pieces_of c.args.docs c.args.end.exception c.args.end.millis)
