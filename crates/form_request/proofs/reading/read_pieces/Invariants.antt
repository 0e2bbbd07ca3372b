use Rattle.std.proofs.Common.{ℕ, List, take}
use Rattle.std.specs.List.{flat_map}
use Rattle.form_request.specs.Readers.{HasRead}
use Rattle.form_request.proofs.reading.read_pieces.Given as goal

-- the pieces so far are read
abbrev pub invariant-loop-piece : goal.invariant-loop-piece
invariant-loop-piece l = HasRead l.names (flat_map (λ (p : List ℕ). p) (take l.piece-index l.pieces)) l.reader
