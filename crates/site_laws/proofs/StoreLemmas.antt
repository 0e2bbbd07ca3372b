-- What a topic had stored is seen at its destination.
use Rattle.std.proofs.Common.{◌≡◌, ℕ, ◌<◌, List, [], ◌++◌, get_or, slice_index, Some, sym, ap, subst, ◌∙◌}
use Rattle.std.specs.List.{AllByRecursion}
use Rattle.tuple_values.specs.Document.{ByteList}
use Rattle.tuple_values.specs.declared.names.NameShards.{NameShards}
use Rattle.shard_versions.specs.Histories.{History, current}
use Rattle.topic_book.specs.Cells.{cells_in}
use Rattle.topic_book.specs.Fitness.{shards_of}
use Rattle.topic_book.specs.declared.topic.Binding.{Binding}
use Rattle.topic_book.specs.declared.topic.TopicKey.{TopicKey}
use Rattle.once_core.specs.Cells.{cell_of, history_at, shard_history}
use Rattle.exchange_rules.specs.Cells.{history_in}
use Rattle.site_laws.specs.Looks.{last_seen, upto_of, IsLater, IsSeenSent, IsSentTo, IsSource, Sight}
use Rattle.site_laws.specs.SiteCells.{histories_in, AreSeenOf}
use Rattle.site_laws.proofs.CellLemmas.{seen-grows, shard-at}
use Rattle.site_laws.proofs.CoverLemmas.{sent-after, sent-everywhere}

-- where the destination was looked at since, and the source wasn't
pub stores-seen : (names : List NameShards) (old new : Sight) → IsLater names old new
    → (key : TopicKey) (b : Binding) (shard cell : ℕ) (dest : ByteList)
    → AreSeenOf (last_seen new cell) new.seen
    → slice_index new.looks cell ≡ slice_index old.looks cell → 0 < slice_index old.looks cell
    → IsSource names (last_seen new cell) cell key b shard → b.dest ≡ Some dest
    → 0 < shards_of names dest
    → ((there : ℕ) → there < shards_of names dest → cell_of names dest there < cells_in names)
    → ((there : ℕ) → there < shards_of names dest
    → slice_index old.looks (cell_of names dest there)
    < slice_index new.looks (cell_of names dest there))
    → AllByRecursion (IsSeenSent names new.seen b dest (slice_index b.init shard)
    (upto_of names (last_seen new cell) key shard))
    (current (history_at (histories_in names new.seen) cell))
stores-seen names old new later key b shard cell dest since still looked from to some within rose =
    let seen = last_seen new cell in
    let low = slice_index b.init shard in
    let high = upto_of names seen key shard in
    let h = history_at (histories_in names seen) cell in
    let grown = (seen-grows names seen new.seen since).shards cell in
    sent-everywhere names b dest new.seen low high
    (current (history_at (histories_in names new.seen) cell)) some
    (λ there lt.
    let d = cell_of names dest there in
    let covered = later.covers cell d still looked (rose there lt) key b shard dest there from
    (record { to = to; in_range = within there lt; here = λ i. d }) in
    let g = history_in (get_or new.seen d []) in
    let after : AllByRecursion (IsSentTo names b dest there g low high)
    (current (h ++ grown.0)) =
    sent-after names b dest there h grown.0 g low high covered.bounded covered.sent in
    let here : g ≡ shard_history names (histories_in names new.seen) dest there =
    sym (shard-at (cells_in names) new.seen d (within there lt)) in
    subst (λ x. AllByRecursion (IsSentTo names b dest there x low high)
    (current (history_at (histories_in names new.seen) cell))) here
    (subst (λ x. AllByRecursion (IsSentTo names b dest there g low high) (current x))
    (sym grown.1) after))
