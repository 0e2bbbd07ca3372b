-- What is delivered to a shard, each version at most once and rising (own).
use Rattle.std.specs.Prelude.{◌≡◌, ℕ, ◌<◌, ◌≤◌, nat_lt, Bool, true, false, ◌&&◌, List, [], ◌∷◌, ◌++◌, bytes_eq, if◌then◌else◌, ◌⊎◌}
use Rattle.std.specs.List.{AllByRecursion}
use Rattle.tuple_values.specs.Document.{ByteList}
use Rattle.shard_versions.specs.Documents.{id_of}
use Rattle.shard_versions.specs.Histories.{History, has_mark}
use Rattle.shard_versions.specs.declared.entry.Kind.{Kind}
use Rattle.shard_versions.specs.declared.entry.Kind.TheVariants.{Put, Del, Sent, Mark}
use Rattle.shard_versions.specs.declared.entry.Entry.{Entry}

-- the version that the entry delivers from this source under this id
abbrev pub sent_version : ByteList → ByteList → Kind → List ℕ
sent_version src id (Put doc) = []
sent_version src id (Del other) = []
sent_version src id (Sent from version doc) =
    if bytes_eq src from && bytes_eq id (id_of doc) then version ∷ [] else []
sent_version src id Mark = []

-- the versions of the Sent entries of one source and id, in order
unfoldable pub sents : ByteList → ByteList → History → List ℕ
sents src id [] = []
sents src id (e ∷ h) = sent_version src id e.kind ++ sents src id h

-- each number is above those before it
abbrev pub IsRising : List ℕ → Type 0
IsRising [] = Unit {0}
IsRising (v ∷ vs) = AllByRecursion (λ w. v < w) vs × IsRising vs

-- the versions that are delivered from each source under each id rise
abbrev pub AreRising : History → Type 0
AreRising h = (src id : ByteList) → IsRising (sents src id h)

-- one of the versions is this one or a greater one
abbrev pub Reaches : ℕ → List ℕ → Type 0
Reaches version [] = ⊥
Reaches version (v ∷ vs) = (version ≤ v) ⊎ Reaches version vs

-- whether each of the versions is below this one
abbrev pub are_below : ℕ → List ℕ → Bool
are_below version [] = true
are_below version (v ∷ vs) = nat_lt v version && are_below version vs

-- whether no Sent of this source and id has this version or a greater one
unfoldable pub admits : History → ByteList → ByteList → ℕ → Bool
admits h src id version = are_below version (sents src id h)

-- whether the history admits the entry, which is a Sent
abbrev pub admits_kind : History → Kind → Bool
admits_kind h (Put doc) = false
admits_kind h (Del id) = false
admits_kind h (Sent src version doc) = admits h src (id_of doc) version
admits_kind h Mark = false

-- the items in order, without those that the history followed by the ones kept so far doesn't admit
unfoldable pub admitted : History → List Entry → List Entry
admitted h [] = []
admitted h (x ∷ xs) =
    if admits_kind h x.kind then x ∷ admitted (h ++ x ∷ []) xs else admitted h xs

-- the Mark of this writer
abbrev pub mark_by : ℕ → Entry
mark_by writer = record { by = writer; kind = Mark }

-- the entries and then a Mark of this writer, and nothing where there is no entry
abbrev pub marked : ℕ → List Entry → List Entry
marked writer [] = []
marked writer (e ∷ es) = (e ∷ es) ++ mark_by writer ∷ []

-- where the entry is a Sent, a Mark follows it
abbrev pub IsSettledKind : Kind → History → Type 0
IsSettledKind (Put doc) later = Unit {0}
IsSettledKind (Del id) later = Unit {0}
IsSettledKind (Sent src version doc) later = has_mark later ≡ true
IsSettledKind Mark later = Unit {0}

-- a Mark follows each Sent
unfoldable pub AreSentsSettled : History → Type 0
AreSentsSettled [] = Unit {0}
AreSentsSettled (e ∷ h) = IsSettledKind e.kind h × AreSentsSettled h

-- whether the entry delivers nothing
abbrev pub is_plain : Kind → Bool
is_plain (Put doc) = true
is_plain (Del id) = true
is_plain (Sent src version doc) = false
is_plain Mark = true

-- none of the entries is a Sent
unfoldable pub ArePlain : List Entry → Type 0
ArePlain es = AllByRecursion (λ e. is_plain e.kind ≡ true) es

-- whether the entry is a delivery from this source
abbrev pub is_sent_of : ByteList → Kind → Bool
is_sent_of src (Put doc) = false
is_sent_of src (Del id) = false
is_sent_of src (Sent from version doc) = bytes_eq src from
is_sent_of src Mark = false

-- each of the entries is a delivery from this source
unfoldable pub AreSentsOf : ByteList → List Entry → Type 0
AreSentsOf src es = AllByRecursion (λ e. is_sent_of src e.kind ≡ true) es
