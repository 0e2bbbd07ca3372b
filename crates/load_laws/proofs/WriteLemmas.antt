-- The writes of a history, without its Marks: whose they are, and their slots.
use Rattle.std.proofs.Common.{◌≡◌, ℕ, zero, suc, ◌+◌, ◌<◌, ◌==◌, Bool, true, false, cond, not, [], ◌∷◌, ◌++◌, filter, map, refl, ap, ◌∙◌, arith, eq-eqb}
use Rattle.std.specs.List.{AllByRecursion}
use Rattle.shard_versions.specs.declared.entry.Kind.{Kind}
use Rattle.shard_versions.specs.declared.entry.Kind.TheVariants.{Put, Del, Sent, Mark}
use Rattle.shard_versions.specs.declared.entry.Entry.{Entry}
use Rattle.shard_versions.specs.Histories.{History, is_mark, slot_of, slots_after, version_after}
use Rattle.load_rules.specs.Loaded.{IsIndexerEntry, by_author, writes_in}
use Rattle.load_laws.proofs.ListLemmas.{each_passing, filter-filter, filter-map, IsInOne}
use Rattle.shard_versions.proofs.ListLemmas.{each_weaker}

-- whether the entry is a write
abbrev pub is_write : Entry → Bool
is_write e = not (is_mark e.kind)

-- the entries that are writes
abbrev pub written : History → History
written h = filter is_write h

-- whether the entry is by the writer whose number is one above the indexer's
abbrev pub is_by : ℕ → Entry → Bool
is_by indexer e = e.by == suc indexer

-- the kinds of a writer's writes are those of its entries among the writes
pub writes_in-by_author : (indexer : ℕ) (h : History)
    → writes_in (by_author (suc indexer) h)
    ≡ map (λ e. e.kind) (filter (is_by indexer) (written h))
writes_in-by_author indexer h =
    filter-map (λ k. not (is_mark k)) (λ (e : Entry). e.kind) (by_author (suc indexer) h)
    ∙ ap (map (λ (e : Entry). e.kind)) (filter-filter is_write (is_by indexer) h)

-- one of the four indexers wrote this entry
abbrev pub IsIndexed4 : Entry → Type 0
IsIndexed4 e = (indexer : ℕ) × (indexer < 4) × (e.by ≡ suc indexer)

-- each write is an indexer's, where each entry that is a write is
pub written-indexed : (h : History) → AllByRecursion IsIndexerEntry h
    → AllByRecursion IsIndexed4 (written h)
written-indexed h a =
    each_passing IsIndexed4 is_write h
    (each_weaker IsIndexerEntry (λ e. is_write e ≡ true → IsIndexed4 e)
    (λ e f t. f (unmarked (is_mark e.kind) t)) h a)
  where
    unmarked : (b : Bool) → not b ≡ true → b ≡ false
    unmarked true t = absurd (cc)
    unmarked false t = refl

-- the test of that indexer takes it
pub indexed-taken : (h : History) → AllByRecursion IsIndexed4 h
    → AllByRecursion (λ e. (k : ℕ) × (k < 4) × (is_by k e ≡ true)) h
indexed-taken h a =
    each_weaker IsIndexed4 (λ e. (k : ℕ) × (k < 4) × (is_by k e ≡ true))
    (λ e i. (i.0, i.1, eq-eqb e.by (suc i.0) i.2)) h a

-- and no other one
pub indexed-once : (h : History) → AllByRecursion IsIndexed4 h → AllByRecursion (IsInOne is_by) h
indexed-once h a =
    each_weaker IsIndexed4 (IsInOne is_by) (λ e i. one e.by i.0 i.1 i.2) h a
  where
    one : (by indexer : ℕ) → indexer < 4 → by ≡ suc indexer
        → cond (by == 1) 1 0 + cond (by == 2) 1 0 + cond (by == 3) 1 0 + cond (by == 4) 1 0 ≡ 1
    one by zero lt is = rw is refl
    one by (suc zero) lt is = rw is refl
    one by (suc (suc zero)) lt is = rw is refl
    one by (suc (suc (suc zero))) lt is = rw is refl
    one by (suc (suc (suc (suc indexer)))) lt is = absurd (omega arith)

-- the Marks of a history have no slots
pub slots-written : (last : ℕ) (h : History) → slots_after last h ≡ slots_after last (written h)
unfolding slots_after
slots-written last [] = refl
slots-written last (e ∷ h) = go e.kind refl (λ v. slots-written v h)
  where
    go : (k : Kind) → e.kind ≡ k → ((v : ℕ) → slots_after v h ≡ slots_after v (written h))
        → slot_of (version_after last e.kind) e.kind ++ slots_after (version_after last e.kind) h
        ≡ slots_after last (cond (not (is_mark e.kind)) (e ∷ written h) (written h))
    go (Put d) is later = rw is (ap (λ r. slot_of (last + 1) (Put d) ++ r) (later (last + 1)))
    go (Del i) is later = rw is (ap (λ r. slot_of (last + 1) (Del i) ++ r) (later (last + 1)))
    go (Sent s w d) is later =
        rw is (ap (λ r. slot_of (last + 1) (Sent s w d) ++ r) (later (last + 1)))
    go Mark is later = rw is (later last)
