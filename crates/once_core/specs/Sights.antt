-- What an actor's view of a world stands for (own).
use Rattle.once_core.specs.Worlds.{seen_by}
use Rattle.once_core.specs.declared.seen.Seen.{Seen}
use Rattle.once_core.specs.declared.world.Histories.{Histories}

-- the histories as the actor has seen them
abbrev pub seen_of : Seen → Histories
seen_of seen = seen_by seen.actor seen.world.now
