use Rattle.std.proofs.Common.{◌≡◌, ◌++◌, take, nat_lt}
use Rattle.serde_json.specs.Written.{comma_if}
use Rattle.json_text.specs.Replies.{docs_text}
use Rattle.json_text.specs.Pieces.{docs_opening}
use Rattle.json_text.proofs.result_set.result_set_text.Given as goal

-- the text so far, with the comma of what comes next, is the head and the tuples so far
abbrev pub invariant-loop-k : goal.invariant-loop-k
invariant-loop-k l = l.out ++ comma_if (nat_lt 0 l.k) ≡ docs_opening ++ docs_text (take l.k l.docs)
