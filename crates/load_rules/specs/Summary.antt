-- The summary of a load: of its histories, and by the numbers of its documents alone (own).
use Rattle.std.specs.Prelude.{ℕ, ◌+◌, ℤ, pos, Bool, List, ◌++◌, codes, filter, length, nat_le, sum_by, count_by, Option, Some, None}
use Rattle.std.specs.Fmt.{decimal}
use Rattle.tuple_values.specs.Document.{ByteList, Datum, Doc, long, text, group, value_at}
use Rattle.shard_versions.specs.Histories.{History, current, slots}
use Rattle.once_core.specs.Cells.{shard_history}
use Rattle.once_core.specs.declared.world.Histories.{Histories}
use Rattle.load_rules.specs.Documents.{amount_of, below, is_even}
use Rattle.load_rules.specs.Topic.{dest_name, load_names, src_name}

-- the number, and 0 where it is negative
abbrev pub natural_of : ℤ → ℕ
natural_of (pos n) = n
natural_of z = 0

-- the number that a field has, and 0 where it has none, or a negative one
abbrev pub counted : Option Datum → ℕ
counted None = 0
counted (Some (long z)) = natural_of z
counted (Some (text bytes)) = 0
counted (Some (group rows)) = 0

-- the number under a name
abbrev pub number_in : ByteList → Doc → ℕ
number_in name doc = counted (value_at name doc)

-- what is counted of a shard, or of several: current documents, writes, and the sums of two
-- fields over the current documents
pub record Tally : Type 0 where
  pub documents : ℕ
  pub writes : ℕ
  pub amounts : ℕ
  pub revisions : ℕ

-- of a shard with this history
unfoldable pub tally_of : History → Tally
tally_of h = record {
  documents = length (current h);
  writes = length (slots h);
  amounts = sum_by (λ p. number_in (codes "a_i") p.1) (current h);
  revisions = sum_by (λ p. number_in (codes "rev_i") p.1) (current h);
}

-- both together
abbrev pub plus : Tally → Tally → Tally
plus a b = record {
  documents = a.documents + b.documents;
  writes = a.writes + b.writes;
  amounts = a.amounts + b.amounts;
  revisions = a.revisions + b.revisions;
}

-- of the four shards of a collection
unfoldable pub tally_in : Histories → ByteList → Tally
tally_in hs collection =
    plus (plus (tally_of (shard_history load_names hs collection 0))
    (tally_of (shard_history load_names hs collection 1)))
    (plus (tally_of (shard_history load_names hs collection 2))
    (tally_of (shard_history load_names hs collection 3)))

-- the text of a summary: of the source its documents and writes, of the destination its documents
-- and the sums
abbrev pub summary : (documents writes delivered amounts revisions : ℕ) → ByteList
summary documents writes delivered amounts revisions =
    codes "src docs=" ++ decimal documents ++ codes " writes=" ++ decimal writes
    ++ codes "\ndest docs=" ++ decimal delivered ++ codes " sum_a=" ++ decimal amounts
    ++ codes " sum_rev=" ++ decimal revisions ++ codes "\n"

-- the summary of these histories
unfoldable pub summary_of : Histories → ByteList
summary_of hs =
    let src = tally_in hs src_name in
    let dest = tally_in hs dest_name in
    summary src.documents src.writes dest.documents dest.amounts dest.revisions

-- whether the topic takes the document of this number
abbrev pub is_taken : ℕ → Bool
is_taken i = nat_le (amount_of i) 499

-- the numbers, below this one, of the documents that the topic takes
abbrev pub taken_of : ℕ → List ℕ
taken_of n = filter is_taken (below n)

-- the summary of a load of so many documents: each is written, those with even numbers twice;
-- each that the topic takes is delivered in its last revision
unfoldable pub load_text : ℕ → ByteList
load_text n =
    summary n (n + count_by is_even (below n)) (length (taken_of n))
    (sum_by amount_of (taken_of n)) (count_by is_even (taken_of n))
