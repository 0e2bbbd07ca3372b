-- Which Sents break the law, and the first of them (own).
use Rattle.std.specs.Prelude.{ℕ, ◌+◌, ◌≡◌, ◌<◌, ◌⊎◌, false, List, take, drop, Option, Some, None}
use Rattle.std.specs.List.{AllByRecursion, slice_get}
use Rattle.tuple_values.specs.Document.{ByteList, Doc}
use Rattle.tuple_values.specs.declared.names.NameShards.{NameShards}
use Rattle.shard_versions.specs.Documents.{id_of}
use Rattle.shard_versions.specs.Histories.{History, has_mark}
use Rattle.shard_versions.specs.Deliveries.{sents, AreSentsSettled, IsRising}
use Rattle.shard_versions.specs.declared.entry.Kind.{Kind}
use Rattle.shard_versions.specs.declared.entry.Kind.TheVariants.{Put, Del, Sent, Mark}
use Rattle.shard_versions.specs.declared.entry.Entry.{Entry}
use Rattle.once_core.specs.Cells.{history_at}
use Rattle.once_core.specs.Law.{IsDelivery, AreTrue}
use Rattle.once_core.specs.declared.world.Histories.{Histories}

-- a Sent between these entries of the cell breaks the law: no Mark follows it, it isn't a delivery of
-- a committed write, or its version isn't above each that was sent before under its source and id
abbrev pub IsBadSent : List NameShards → Histories → ℕ → (before : History) → ByteList → ℕ → Doc
    → (later : History) → Type 0
IsBadSent names hs cell before src version doc later =
    (has_mark later ≡ false)
    ⊎ ((¬ (IsDelivery names hs cell src version doc))
    ⊎ (¬ (AllByRecursion (λ v. v < version) (sents src (id_of doc) before))))

-- the entry between these entries of the cell is a Sent that breaks the law
abbrev pub IsBadKind : List NameShards → Histories → ℕ → (before : History) → Kind
    → (later : History) → Type 0
IsBadKind names hs cell before (Put doc) later = ⊥
IsBadKind names hs cell before (Del id) later = ⊥
IsBadKind names hs cell before (Sent src version doc) later =
    IsBadSent names hs cell before src version doc later
IsBadKind names hs cell before Mark later = ⊥

-- there is an entry at this place of the cell's history, which is such a Sent
abbrev pub IsBadEntry : List NameShards → Histories → ℕ → History → ℕ → Option Entry → Type 0
IsBadEntry names hs cell h place None = ⊥
IsBadEntry names hs cell h place (Some e) =
    IsBadKind names hs cell (take place h) e.kind (drop (place + 1) h)

-- at this place of the cell there is a Sent that breaks the law
abbrev pub IsBadAt : List NameShards → Histories → ℕ → ℕ → Type 0
IsBadAt names hs cell place =
    IsBadEntry names hs cell (history_at hs cell) place (slice_get (history_at hs cell) place)

-- no Sent of any cell breaks the law
abbrev pub NoneIsBad : List NameShards → Histories → Type 0
NoneIsBad names hs = (cell place : ℕ) → ¬ (IsBadAt names hs cell place)

-- at this place of the cell there is a Sent that breaks the law, and none before it does, by cells
-- and then by places
pub record IsFirstBad (names : List NameShards) (hs : Histories) (cell place : ℕ) : Type 0 where
  pub bad : IsBadAt names hs cell place
  pub cells : (other at : ℕ) → other < cell → ¬ (IsBadAt names hs other at)
  pub places : (at : ℕ) → at < place → ¬ (IsBadAt names hs cell at)

-- what the law says of the Sents of all cells
pub record AreSentsRight (names : List NameShards) (hs : Histories) : Type 0 where
  pub settled : (cell : ℕ) → AreSentsSettled (history_at hs cell)
  pub true_sents : (cell : ℕ) → AreTrue names hs cell (history_at hs cell)
  pub rising : (cell : ℕ) (src id : ByteList) → IsRising (sents src id (history_at hs cell))

-- where the first Sent that breaks the law stands; none exactly where all are right
abbrev pub IsFirstBadSent : List NameShards → Histories → Option (ℕ × ℕ) → Type 0
IsFirstBadSent names hs None = AreSentsRight names hs
IsFirstBadSent names hs (Some at) = IsFirstBad names hs at.0 at.1
