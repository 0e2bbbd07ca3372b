use Rattle.std.proofs.Common.{◌≡◌, ◌∙◌, [], get_or, refl, ap}
use Rattle.tuple_values.specs.Keys.{shard_of}
use Rattle.shard_versions.specs.Documents.{id_of}
use Rattle.shard_versions.specs.Histories.{slots, slots_after}
use Rattle.topic_book.specs.Fitness.{shards_of}
use Rattle.once_core.specs.Cells.{cell_of, home_history}
use Rattle.once_core.proofs.DispatchLemmas.{delivery-none}
use Rattle.law_checks.proofs.judging.is_delivery.Goals as goal

pub returns-in-Some : goal.returns-in-Some
returns-in-Some c = λ hs cell same.
    let at : c.in-Some.home.now ≡ home_history c.args.names.now hs c.args.src.now (id_of c.args.delivered.now) =
    c.in-Some.ensures
    ∙ (ap (λ i. get_or c.args.shards.now (cell_of c.args.names.now c.args.src.now (shard_of (shards_of c.args.names.now c.args.src.now) i)) []) c.id_of.ensures
    ∙ ap (λ s. get_or s (cell_of c.args.names.now c.args.src.now (shard_of (shards_of c.args.names.now c.args.src.now) (id_of c.args.delivered.now))) []) same) in
    c.is_delivery_of.ensures c.args.names.now hs cell at

pub returns-in-None : goal.returns-in-None
unfolding slots slots_after
returns-in-None c = λ hs cell same.
    let at : [] ≡ home_history c.args.names.now hs c.args.src.now (id_of c.args.delivered.now) =
    c.in-None.ensures
    ∙ (ap (λ i. get_or c.args.shards.now (cell_of c.args.names.now c.args.src.now (shard_of (shards_of c.args.names.now c.args.src.now) i)) []) c.id_of.ensures
    ∙ ap (λ s. get_or s (cell_of c.args.names.now c.args.src.now (shard_of (shards_of c.args.names.now c.args.src.now) (id_of c.args.delivered.now))) []) same) in
    delivery-none c.args.names.now hs cell c.args.src.now c.args.version c.args.delivered.now [] (id_of c.args.delivered.now) refl at refl
