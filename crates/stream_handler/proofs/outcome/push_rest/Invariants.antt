use Rattle.std.proofs.Common.{◌≡◌, ◌++◌, length}
use Rattle.std.specs.List.{concat}
use Rattle.json_text.specs.Pieces.{pieces_from}
use Rattle.stream_handler.proofs.outcome.push_rest.Given as goal

-- what was added and what is to be added is all, and the end tuple stays
abbrev pub invariant-loop-tuple : goal.invariant-loop-tuple
invariant-loop-tuple l = record {
  all :
      l.out
      ++ concat (pieces_from l.pieces.later l.docs l.pieces.exception l.pieces.millis)
      ≡ l.initial.out
      ++ concat (pieces_from l.initial.pieces.later l.initial.docs l.initial.pieces.exception
      l.initial.pieces.millis);
  exception : l.pieces.exception ≡ l.initial.pieces.exception;
  millis : l.pieces.millis ≡ l.initial.pieces.millis;
}

-- a tuple fewer is to come
abbrev pub decreases-loop-tuple : goal.decreases-loop-tuple
decreases-loop-tuple l = length l.docs
