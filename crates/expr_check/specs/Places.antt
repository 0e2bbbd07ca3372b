-- Where a call may stand in an expression (own, after Solr Reference Guide, "Stream Source
-- Reference", topic, and "Stream Decorator Reference", parallel, update, commit and daemon).
use Rattle.std.specs.Prelude.{Bool, true, false}
use Rattle.expr_check.specs.declared.roots.Place.{Place}
use Rattle.expr_check.specs.declared.roots.Roots.{Roots}
use Rattle.expr_check.specs.declared.roots.Roots.TheVariants.{Plain, All}
use Rattle.expr_check.specs.declared.roots.Round.{Round}
use Rattle.expr_check.specs.declared.roots.Round.TheVariants.{Nothing, Update, Commit, Daemon}
use Rattle.expr_check.specs.declared.roots.Round.TheVariants.{Other}

-- the place of the whole expression
abbrev pub at_root : Place
at_root = record { round = Nothing; in_parallel = false }

-- the place in such a call that stands at a place
abbrev pub within : Round → Place → Place
within round place = record { round = round; in_parallel = place.in_parallel }

-- the place in a parallel
abbrev pub in_a_parallel : Place
in_a_parallel = record { round = Other; in_parallel = true }

-- an expression may hold functions that don't only read
abbrev pub holds_effects : Roots → Bool
holds_effects Plain = false
holds_effects All = true

-- what only reads stands everywhere but as the input of a daemon
abbrev pub holds_reads : Round → Bool
holds_reads Nothing = true
holds_reads Update = true
holds_reads Commit = true
holds_reads Daemon = false
holds_reads Other = true

-- a topic stands at the root or in update
abbrev pub holds_topic : Round → Bool
holds_topic Nothing = true
holds_topic Update = true
holds_topic Commit = false
holds_topic Daemon = false
holds_topic Other = false

-- an update stands at the root, in commit or in daemon
abbrev pub holds_update : Round → Bool
holds_update Nothing = true
holds_update Update = false
holds_update Commit = true
holds_update Daemon = true
holds_update Other = false

-- a commit stands at the root or in daemon
abbrev pub holds_commit : Round → Bool
holds_commit Nothing = true
holds_commit Update = false
holds_commit Commit = false
holds_commit Daemon = true
holds_commit Other = false

-- a daemon stands at the root
abbrev pub holds_daemon : Round → Bool
holds_daemon Nothing = true
holds_daemon Update = false
holds_daemon Commit = false
holds_daemon Daemon = false
holds_daemon Other = false
