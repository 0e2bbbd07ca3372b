-- What belongs in the cells of a site, as steps are appended there.
use Rattle.std.proofs.Common.{◌≡◌, ℕ, List, [], ◌++◌, refl, ap, true}
use Rattle.std.specs.Prelude.{Option, Some, None}
use Rattle.tuple_values.specs.declared.names.NameShards.{NameShards}
use Rattle.shard_versions.specs.Deliveries.{admitted}
use Rattle.shard_versions.specs.Fitness.{is_fit, IsFit}
use Rattle.shard_versions.specs.declared.entry.Entry.{Entry}
use Rattle.shard_versions.proofs.DeliveryLemmas.{admitted-each}
use Rattle.topic_book.specs.Cells.{Place, place_of}
use Rattle.once_core.specs.Law.{IsFitAt, IsFitCell}
use Rattle.once_core.proofs.KeepingLemmas.{fit_append}

-- no entry may stand at each place
none-at : (place : Option Place) → IsFitAt place []
unfolding IsFit
none-at None = refl
none-at (Some place) = tt

-- and in each cell
pub none-fit : (names : List NameShards) (cell : ℕ) → IsFitCell names cell []
unfolding IsFitCell
none-fit names cell = none-at (place_of names cell)

-- what may stand in a cell may stand there behind what does
pub more-fit : (names : List NameShards) (cell : ℕ) (h step : List Entry)
    → IsFitCell names cell h → IsFitCell names cell step → IsFitCell names cell (h ++ step)
unfolding IsFitCell
more-fit names cell h step a b = fit_append (place_of names cell) h step a b

-- what is admitted of a step may stand where the step may
admitted-at : (place : Option Place) (h step : List Entry) → IsFitAt place step
    → IsFitAt place (admitted h step)
unfolding IsFit admitted
admitted-at None h step a = ap (admitted h) a
admitted-at (Some p) h step a =
    admitted-each (λ (e : Entry). is_fit p.shards p.shard e.kind ≡ true) h step a

pub admitted-fit : (names : List NameShards) (cell : ℕ) (h step : List Entry)
    → IsFitCell names cell step → IsFitCell names cell (admitted h step)
unfolding IsFitCell
admitted-fit names cell h step a = admitted-at (place_of names cell) h step a
