-- Collections that are named by a list of words NAME=SHARDS (own).
use Rattle.std.specs.Prelude.{◌≡◌, ℕ, ◌≤◌, nat_le, List, [], ◌∷◌, ◌++◌, Bool, true, false, not}
use Rattle.std.specs.Prelude.{◌&&◌, ◌||◌, Option, Some, None, option_and_then, sum_by, bytes_eq}
use Rattle.std.specs.Prelude.{if◌then◌else◌}
use Rattle.std.specs.List.{AllByRecursion}
use Rattle.tuple_values.specs.Document.{ByteList}
use Rattle.tuple_values.specs.declared.names.NameShards.{NameShards}
use Rattle.command_words.specs.Words.{name_of}

-- how many shards there are, all together
abbrev pub shards_in : List NameShards → ℕ
shards_in names = sum_by (λ n. n.shards) names

-- one of the collections has this name
abbrev pub has_name : ByteList → List NameShards → Bool
has_name name [] = false
has_name name (n ∷ names) = bytes_eq n.name name || has_name name names

-- a word names a collection of this name
abbrev pub says_name : ByteList → Option NameShards → Bool
says_name name None = false
says_name name (Some n) = bytes_eq n.name name

-- one of the words does
abbrev pub is_said : ByteList → List ByteList → Bool
is_said name [] = false
is_said name (word ∷ words) = says_name name (name_of word) || is_said name words

-- no two have the same
abbrev pub differ : List NameShards → Bool
differ [] = true
differ (n ∷ names) = not (has_name n.name names) && differ names

-- the names differ, and all shards together are few
abbrev pub go_together : List NameShards → Bool
go_together names = differ names && nat_le (shards_in names) 16

-- a collection before others, where all are there
abbrev pub joined : Option NameShards → Option (List NameShards) → Option (List NameShards)
joined None names = None
joined (Some n) None = None
joined (Some n) (Some names) = Some (n ∷ names)

-- the collection that each word names, where each names one
abbrev pub each_of : List ByteList → Option (List NameShards)
each_of [] = Some []
each_of (word ∷ words) = joined (name_of word) (each_of words)

-- the collections, where they go together behind others
abbrev pub behind : List NameShards → Option (List NameShards) → Option (List NameShards)
behind before None = None
behind before (Some names) = if go_together (before ++ names) then Some (before ++ names) else None

-- the collections that the words name, where each names one and they go together
abbrev pub names_of : List ByteList → Option (List NameShards)
names_of words = behind [] (each_of words)

-- collections, where there is one at least
abbrev pub some_of : List NameShards → Option (List NameShards)
some_of [] = None
some_of (n ∷ names) = Some (n ∷ names)

-- the collections that the words name, where there is one at least
abbrev pub some_names_of : List ByteList → Option (List NameShards)
some_names_of words = option_and_then some_of (names_of words)

-- a collection may have so many shards
abbrev pub IsFit : NameShards → Type 0
IsFit n = (1 ≤ n.shards) × (n.shards ≤ 8)

-- collections as a command may name them
pub record AreFit (names : List NameShards) : Type 0 where
  pub each : AllByRecursion IsFit names
  pub apart : differ names ≡ true
  pub few : shards_in names ≤ 16
