use Rattle.std.proofs.Common.{ℕ, List, subst, take_all, arith}
use Rattle.std.specs.List.{flat_map}
use Rattle.form_request.specs.Readers.{HasRead}
use Rattle.form_request.proofs.ReadingLemmas.{Reads-drained}
use Rattle.form_request.proofs.reading.read_pieces.Goals as goal

pub returns : goal.returns
returns c =
    let pieces = c.args.pieces.now in
    let P : List (List ℕ) → Type 0 = λ some. HasRead c.args.names.now (flat_map (λ (p : List ℕ). p) some) c.loop-piece.reader in
    Reads-drained c.args.names.now (flat_map (λ (p : List ℕ). p) pieces) c.loop-piece.reader c.drain.new.self c.in_ok-after.after
    (subst P (take_all c.loop-piece.piece-index pieces (omega (arith, c.loop-piece-test.false))) c.loop-piece.invariant)
    c.in_ok-after.ensures.leads c.in_ok-after.ensures.ends
