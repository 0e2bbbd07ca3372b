use Rattle.std.proofs.Common.{append_assoc}
use Rattle.std.proofs.lemmas.Result.{IfOk-equal}
use Rattle.stream_handler.proofs.response.push_chunked_fields.Goals as goal

pub returns : goal.returns
returns c =
    IfOk-equal _ _ _ _ c.extend-2.ensures.ok
    (rw (c.in_ok-push_closing.ensures, c.in_ok-extend.ensures.ok) (simp append_assoc))
