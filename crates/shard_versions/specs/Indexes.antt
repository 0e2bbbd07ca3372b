-- What a shard keeps beside its entries: the place of each next write of an id, and the greatest
-- version that was delivered so far (own).
use Rattle.std.specs.Prelude.{ℕ, zero, suc, nat_le, nat_lt, nat_eq, max, Bool, false, ◌&&◌, List, [], ◌∷◌, ◌++◌, slice_set, Option, Some, None, unwrap_or, bytes_eq, if◌then◌else◌}
use Rattle.tuple_values.specs.Document.{ByteList, Doc}
use Rattle.shard_versions.specs.Documents.{id_of}
use Rattle.shard_versions.specs.Histories.{History}
use Rattle.shard_versions.specs.Deliveries.{sents}
use Rattle.shard_versions.specs.Places.{last_where}
use Rattle.shard_versions.specs.declared.entry.Kind.{Kind}
use Rattle.shard_versions.specs.declared.entry.Kind.TheVariants.{Put, Del, Sent, Mark}

-- the id that the entry writes
abbrev pub written_id : Kind → Option ByteList
written_id (Put doc) = Some (id_of doc)
written_id (Del id) = Some id
written_id (Sent src version doc) = Some (id_of doc)
written_id Mark = None

-- whether this is the id
abbrev pub is_id : ByteList → Option ByteList → Bool
is_id id None = false
is_id id (Some other) = bytes_eq id other

-- whether the entry writes this id
abbrev pub is_write_of : ByteList → Kind → Bool
is_write_of id kind = is_id id (written_id kind)

-- whether the entry is a delivery from this source under this id
abbrev pub is_delivery : ByteList → ByteList → Kind → Bool
is_delivery src id (Put doc) = false
is_delivery src id (Del other) = false
is_delivery src id (Sent from version doc) = bytes_eq src from && bytes_eq id (id_of doc)
is_delivery src id Mark = false

-- one more than the place of the first write of the id, where the first entry has the place `at`
unfoldable pub first_place : ByteList → ℕ → History → ℕ
first_place id at [] = 0
first_place id at (e ∷ h) = if is_write_of id e.kind then suc at else first_place id (suc at) h

-- the same of an id that may be absent
abbrev pub next_of : Option ByteList → ℕ → History → ℕ
next_of None at h = 0
next_of (Some id) at h = first_place id at h

-- for each entry one more than the place of the next write of its id, and 0 where there is none
unfoldable pub nexts_of : ℕ → History → List ℕ
nexts_of at [] = []
nexts_of at (e ∷ h) = next_of (written_id e.kind) (suc at) h ∷ nexts_of (suc at) h

-- one more than the last place where the id is written
abbrev pub before_of : Option ByteList → History → ℕ
before_of None h = 0
before_of (Some id) h = last_where (λ e. is_write_of id e.kind) h

-- the list with the number at the place before this one, and as it is where that is none
abbrev pub relinked : ℕ → ℕ → List ℕ → List ℕ
relinked zero n ns = ns
relinked (suc k) n ns = slice_set ns k n

-- the greater of a version and one that there may be
abbrev pub greater : ℕ → Option ℕ → Option ℕ
greater v None = Some v
greater v (Some w) = Some (max v w)

-- the greatest of the versions, where there is one
abbrev pub greatest : List ℕ → Option ℕ
greatest [] = None
greatest (v ∷ vs) = greater v (greatest vs)

-- the greatest version of the entry's source and id with this entry, and 0 where it is no delivery
abbrev pub so_far : History → Kind → ℕ
so_far before (Put doc) = 0
so_far before (Del id) = 0
so_far before (Sent src version doc) =
    max version (unwrap_or (greatest (sents src (id_of doc) before)) 0)
so_far before Mark = 0

-- that of each entry, where these stand before them
unfoldable pub greatests_after : History → History → List ℕ
greatests_after before [] = []
greatests_after before (e ∷ h) = so_far before e.kind ∷ greatests_after (before ++ e ∷ []) h

-- the document that the entry leaves at its id
abbrev pub left_of : Kind → Option Doc
left_of (Put doc) = Some doc
left_of (Del id) = None
left_of (Sent src version doc) = Some doc
left_of Mark = None

-- whether each write is still current with one more entry, where this is the place of the write
-- before of its id
abbrev pub stays_current : Bool → ℕ → Kind → Bool
stays_current all_current before (Put doc) = all_current && nat_eq before 0
stays_current all_current before (Del id) = false
stays_current all_current before (Sent src version doc) = all_current && nat_eq before 0
stays_current all_current before Mark = all_current

-- the next write stands among the first so many entries
abbrev pub is_replaced : ℕ → ℕ → Bool
is_replaced next count = nat_lt 0 next && nat_le next count
