use Rattle.std.proofs.Common.{append_assoc}
use Rattle.std.proofs.lemmas.Result.{IfOk-equal}
use Rattle.json_text.proofs.result_set.push_last.Goals as goal

pub returns : goal.returns
returns c =
    IfOk-equal _ _ _ _ c.extend-3.ensures.ok
    (rw (
      c.in_ok-push_count.ensures,
      c.in_ok-extend-2.ensures.ok,
      c.in_ok-push_exception.ensures,
      c.in_ok-extend.ensures.ok,
      c.in_ok-push_comma.ensures,
    ) (simp append_assoc))
