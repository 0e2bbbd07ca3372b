-- Where a call stands is a shard of its collection.
use Rattle.std.proofs.Common.{◌≡◌, ℕ, List, ap, ◌∙◌, subst}
use Rattle.tuple_values.specs.Document.{ByteList}
use Rattle.tuple_values.specs.declared.names.NameShards.{NameShards}
use Rattle.topic_book.specs.Cells.{cell_of}
use Rattle.exchange_rules.specs.Rows.{Layout}
use Rattle.exchange_rules.specs.declared.fault.SiteFault.{SiteFault}
use Rattle.exchange_rules.specs.declared.fault.SiteFault.TheVariants.{ShardFull}
use Rattle.stream_site.specs.Spots.{IsSpot, full_there}
use Rattle.stream_site.specs.declared.spot.Spot.{Spot}

-- a step's refusal there is that of the shard
full_here : (names : List NameShards) (c : ByteList) (s stand : ℕ) (at : Spot)
    → IsSpot names c s stand at → full_there at ≡ ShardFull c s stand
full_here names c s stand at i =
    ap (λ x. ShardFull x at.shard at.stand) i.collection_is
    ∙ (ap (λ x. ShardFull c x at.stand) i.shard_is ∙ ap (ShardFull c s) i.stand_is)

-- what is known where a call stands is known of the shard, as the call found it at first
pub at_spot : (P : (stand limit cell : ℕ) → SiteFault → Type 0) (l m : Layout) (c : ByteList)
    (s stand : ℕ) (at : Spot) → m ≡ l → IsSpot m.names c s stand at
    → P at.stand m.limit at.cell (full_there at)
    → P stand l.limit (cell_of l.names c s) (ShardFull c s stand)
at_spot P l m c s stand at e i p =
    let a = subst (λ x. P x m.limit at.cell (full_there at)) i.stand_is p in
    let b = subst (λ x. P stand m.limit x (full_there at)) i.cell_is a in
    let d = subst (P stand m.limit (cell_of m.names c s)) (full_here m.names c s stand at i) b in
    subst (λ (x : Layout). P stand x.limit (cell_of x.names c s) (ShardFull c s stand)) e d
