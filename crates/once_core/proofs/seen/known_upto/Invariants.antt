use Rattle.std.proofs.Common.{◌≡◌, drop}
use Rattle.once_core.specs.Worlds.{known_upto}
use Rattle.once_core.proofs.seen.known_upto.Given as goal

-- what is known is to come
abbrev pub invariant-loop-part : goal.invariant-loop-part
invariant-loop-part l = known_upto l.actor l.cell l.known ≡ known_upto l.actor l.cell (drop l.part-index l.known)
