use Rattle.std.proofs.Common.{◌<◌, get_or, lit<}
use Rattle.std.proofs.lemmas.Str.{IsCharBoundary-after_ascii}
use Rattle.sort_spec.proofs.item.read_right.Goals as goal

pub range-requires-clause-start_boundary : goal.range-requires-clause-start_boundary
range-requires-clause-start_boundary c =
    let ascii : get_or c.args.piece.now c.args.sign 0 < 128 = rw c.requires.sign (lit< tt) in
    λ _.
    IsCharBoundary-after_ascii c.args.piece.now c.args.sign c.utf8.piece c.requires.within ascii
