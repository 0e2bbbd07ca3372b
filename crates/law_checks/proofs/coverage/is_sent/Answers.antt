use Rattle.std.proofs.Common.{◌∙◌, ap}
use Rattle.tuple_values.specs.Keys.{shard_of}
use Rattle.topic_book.specs.Fitness.{shards_of}
use Rattle.law_checks.proofs.CoverageLemmas.{at-shard, shown-sent, nowhere-sent}
use Rattle.std.proofs.Common.{[], refl}
use Rattle.law_checks.proofs.coverage.is_sent.Goals as goal

pub returns-in-Some : goal.returns-in-Some
returns-in-Some c = λ hs b same from.
    let names = c.args.against.names.now in
    let dest = c.args.dest.now in
    let id = c.id_of-id.result.now in
    shown-sent names hs b dest c.args.src.now id c.args.shown c.in-Some.home.now c.admits.result c.id_of-id.ensures from
    (at-shard names hs c.args.against.sights.now dest dest (shard_of (shards_of names dest) id) c.home_shard-shard.result c.in-Some.home.now same refl
    (c.home_shard-shard.ensures ∙ ap (λ n. shard_of n id) c.shards_of.ensures) c.in-Some.ensures)
    c.admits.ensures

pub returns-in-None : goal.returns-in-None
returns-in-None c = λ hs b same from.
    let names = c.args.against.names.now in
    let dest = c.args.dest.now in
    let id = c.id_of-id.result.now in
    nowhere-sent names hs b dest id c.args.shown c.id_of-id.ensures
    (at-shard names hs c.args.against.sights.now dest dest (shard_of (shards_of names dest) id) c.home_shard-shard.result [] same refl
    (c.home_shard-shard.ensures ∙ ap (λ n. shard_of n id) c.shards_of.ensures) c.in-None.ensures)
