-- What a walk over a history from its end has counted (own).
use Rattle.std.specs.Prelude.{◌≡◌, ℕ, ◌+◌, ◌*◌, ◌^◌, ◌<◌, ◌≤◌, Bool, true, false, ◌||◌, List, [], Option, Some, None, bytes_eq, get_or, codes}
use Rattle.std.specs.List.{list_any}
use Rattle.std.specs.Ordering.{is_eq, nat_cmp}
use Rattle.std.specs.Cmp.Lexicographic.{slice_cmp}
use Rattle.std.specs.BTreeSet.{btree_set_len}
use Rattle.tuple_values.specs.Document.{ByteList, Doc}
use Rattle.shard_versions.specs.Histories.{History, has_mark, settled, slots, writes_id}
use Rattle.load_rules.specs.Summary.{Tally, number_in, plus, tally_of}
use Rattle.load_rules.specs.declared.counts.Counts.{Counts}
use Rattle.load_rules.specs.declared.walk.Walk.{Walk}

-- these are the counts
pub record IsCount (t : Tally) (c : Counts) : Type 0 where
  pub documents : c.documents ≡ t.documents
  pub writes : c.writes ≡ t.writes
  pub amounts : c.amounts ≡ t.amounts
  pub revisions : c.revisions ≡ t.revisions

-- each count is below the limit
pub record AreBelow (limit : ℕ) (c : Counts) : Type 0 where
  pub documents : c.documents < limit
  pub writes : c.writes < limit
  pub amounts : c.amounts < limit
  pub revisions : c.revisions < limit

-- of a shard with the history of this cell
abbrev pub tally_at : List History → ℕ → Tally
tally_at cells cell = tally_of (get_or cells cell [])

-- of the four shards whose cells begin with this one
abbrev pub tally_from : List History → ℕ → Tally
tally_from cells first =
    plus (plus (tally_at cells first) (tally_at cells (first + 1)))
    (plus (tally_at cells (first + 2)) (tally_at cells (first + 3)))

-- whether a walk came by this id
abbrev pub has_id : ByteList → Walk → Bool
has_id id w = list_any (λ k. is_eq (slice_cmp nat_cmp id k.now)) w.ids.keys

-- there are no more documents than ids, and each sum is at most 2^63 for each document
pub record IsLow (w : Walk) : Type 0 where
  pub documents : w.counts.documents ≤ btree_set_len w.ids
  pub amounts : w.counts.amounts ≤ w.counts.documents * 2 ^ 63
  pub revisions : w.counts.revisions ≤ w.counts.documents * 2 ^ 63

-- the counts with what a write left, unless a later one is of its id
abbrev pub counted_with : Bool → Option Doc → Counts → Counts
counted_with true left c = c
counted_with false None c = c
counted_with false (Some doc) c = record {
  documents = c.documents + 1;
  writes = c.writes;
  amounts = c.amounts + number_in (codes "a_i") doc;
  revisions = c.revisions + number_in (codes "rev_i") doc;
}

-- a walk that came by one more committed write, which left this document
pub record Notes (id : ByteList) (left : Option Doc) (old new : Walk) : Type 0 where
  pub marked : new.marked ≡ old.marked
  pub ids : (other : ByteList) → has_id other new ≡ (bytes_eq other id || has_id other old)
  pub counts : new.counts ≡ counted_with (has_id id old) left old.counts

-- a walk took these entries, the last ones of a history
pub record IsWalked (w : Walk) (h : History) : Type 0 where
  pub marked : w.marked ≡ has_mark h
  pub ids : (id : ByteList) → has_id id w ≡ writes_id id (slots (settled h))
  pub counts : IsCount (tally_of h) w.counts
