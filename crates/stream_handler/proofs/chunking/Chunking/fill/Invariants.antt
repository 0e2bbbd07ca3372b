use Rattle.std.proofs.Common.{◌≡◌, length}
use Rattle.stream_handler.specs.Chunkings.{IsJoining, items_of, pieces_left}
use Rattle.stream_handler.proofs.chunking.Chunking.fill.Given as goal

-- what is given is the same, and pieces are joined still
abbrev pub invariant-loop-self : goal.invariant-loop-self
invariant-loop-self l = record {
  items : items_of l.initial.self ≡ items_of l.self;
  joining : IsJoining l.self.stage;
}

-- a piece fewer is left
abbrev pub decreases-loop-self : goal.decreases-loop-self
decreases-loop-self l = length (pieces_left l.self)
