-- Whether one Sent breaks the law, by what stands before and behind it (own).
use Rattle.std.specs.Prelude.{ℕ, ◌+◌, ◌≡◌, ◌<◌, nat_lt, Bool, true, false, List, take, drop, Option, Some, None}
use Rattle.std.specs.List.{AllByRecursion, slice_get}
use Rattle.tuple_values.specs.Document.{ByteList, Doc}
use Rattle.tuple_values.specs.declared.names.NameShards.{NameShards}
use Rattle.shard_versions.specs.Documents.{id_of}
use Rattle.shard_versions.specs.Histories.{History, has_mark}
use Rattle.shard_versions.specs.Deliveries.{sents}
use Rattle.shard_versions.specs.Indexes.{greatest}
use Rattle.shard_versions.specs.declared.entry.Kind.{Kind}
use Rattle.shard_versions.specs.declared.entry.Kind.TheVariants.{Put, Del, Sent, Mark}
use Rattle.shard_versions.specs.declared.entry.Entry.{Entry}
use Rattle.once_core.specs.Law.{IsDelivery}
use Rattle.once_core.specs.declared.world.Histories.{Histories}
use Rattle.law_checks.specs.Sents.{IsBadSent, IsBadKind, IsBadEntry}
use Rattle.law_checks.specs.Numbers.{number_at}
use Rattle.law_checks.specs.declared.greatest.Greatest.{Greatest}

-- a Sent between these entries of the cell keeps the law
pub record IsGoodSent (names : List NameShards) (hs : Histories) (cell : ℕ) (before : History)
    (src : ByteList) (version : ℕ) (doc : Doc) (later : History) : Type 0 where
  pub settled : has_mark later ≡ true
  pub delivery : IsDelivery names hs cell src version doc
  pub above : AllByRecursion (λ v. v < version) (sents src (id_of doc) before)

-- the entry between these entries of the cell keeps the law, where it is a Sent
abbrev pub IsGoodKind : List NameShards → Histories → ℕ → (before : History) → Kind
    → (later : History) → Type 0
IsGoodKind names hs cell before (Put doc) later = Unit {0}
IsGoodKind names hs cell before (Del id) later = Unit {0}
IsGoodKind names hs cell before (Sent src version doc) later =
    IsGoodSent names hs cell before src version doc later
IsGoodKind names hs cell before Mark later = Unit {0}

-- so does the entry at this place of the cell's history, where there is one
abbrev pub IsGoodEntry : List NameShards → Histories → ℕ → History → ℕ → Option Entry → Type 0
IsGoodEntry names hs cell h place None = Unit {0}
IsGoodEntry names hs cell h place (Some e) =
    IsGoodKind names hs cell (take place h) e.kind (drop (place + 1) h)

-- each Sent among the first so many entries of the cell's history keeps the law
abbrev pub AreGoodBelow : List NameShards → Histories → ℕ → History → ℕ → Type 0
AreGoodBelow names hs cell h count =
    (place : ℕ) → place < count → IsGoodEntry names hs cell h place (slice_get h place)

-- whether a Sent between these entries of the cell breaks the law
abbrev pub IsSentJudged : Bool → List NameShards → Histories → ℕ → (before : History) → ByteList → ℕ
    → Doc → (later : History) → Type 0
IsSentJudged true names hs cell before src version doc later =
    IsBadSent names hs cell before src version doc later
IsSentJudged false names hs cell before src version doc later =
    IsGoodSent names hs cell before src version doc later

-- whether the entry between these entries of the cell breaks the law
abbrev pub IsKindJudged : Bool → List NameShards → Histories → ℕ → (before : History) → Kind
    → (later : History) → Type 0
IsKindJudged true names hs cell before kind later = IsBadKind names hs cell before kind later
IsKindJudged false names hs cell before kind later = IsGoodKind names hs cell before kind later

-- the first entry of the cell's history that breaks the law, where one does
abbrev pub IsFirstIn : List NameShards → Histories → ℕ → History → Option ℕ → Type 0
IsFirstIn names hs cell h None =
    (place : ℕ) → IsGoodEntry names hs cell h place (slice_get h place)
IsFirstIn names hs cell h (Some at) =
    IsBadEntry names hs cell h at (slice_get h at) × AreGoodBelow names hs cell h at

-- the greatest versions that a history sent, by source and id
abbrev pub AreSentUpTo : Greatest → History → Type 0
AreSentUpTo g h = (src id : ByteList) → number_at g src id 0 ≡ greatest (sents src id h)

-- whether a version is above the greatest one, where there is one
abbrev pub is_over : ℕ → Option ℕ → Bool
is_over version None = true
is_over version (Some greatest) = nat_lt greatest version
