-- What a load leaves at a shard of the source.
use Rattle.std.proofs.Common.{◌≡◌, ℕ, suc, ◌%◌, ◌^◌, ◌<◌, ◌≤◌, true, false, filter, map, take, Contains, Some, decimal, sym, ap, subst, ◌∙◌, arith, mod-lt}
use Rattle.std.specs.List.{AllByRecursion}
use Rattle.tuple_values.specs.Document.{Doc}
use Rattle.tuple_values.specs.Keys.{shard_of}
use Rattle.shard_versions.specs.Documents.{id_of, with_version}
use Rattle.shard_versions.specs.declared.entry.Kind.{Kind}
use Rattle.shard_versions.specs.declared.entry.Kind.TheVariants.{Put}
use Rattle.shard_versions.specs.declared.entry.Entry.{Entry}
use Rattle.shard_versions.specs.Histories.{History, Slot, committed, current, is_pending, last_version, latest, slots, slots_after, top, write_at, writes_id}
use Rattle.shard_versions.proofs.VersionLemmas.{slots_after-ascend}
use Rattle.topic_book.specs.Books.{checkpoint}
use Rattle.once_core.specs.Cells.{shard_history}
use Rattle.once_core.specs.declared.world.Histories.{Histories}
use Rattle.once_core.proofs.CurrentLemmas.{IsLast, current-last, id_with_version}
use Rattle.load_rules.specs.Documents.{load_document, revision_of}
use Rattle.load_rules.specs.Loaded.{IsIndexed, IsIndexerEntry, IsLoaded}
use Rattle.load_rules.specs.Topic.{load_key, load_names, src_name}
use Rattle.load_laws.proofs.Facts.{IsLoadCurrent, IsLoadSlot, IsSource}
use Rattle.load_laws.proofs.CountingLemmas.{Contains-filter, contained-each, decimal-one}
use Rattle.load_laws.proofs.ListLemmas.{Contains-unmap, Ends, each-parts, each_unmap, ends-parts, ends-unmap}
use Rattle.load_laws.proofs.WriteLemmas.{indexed-taken, is_by, slots-written, writes_in-by_author, written, written-indexed}
use Rattle.load_laws.proofs.SlotLemmas.{latest-found, latest-upto, slots-found, slots-upto}
use Rattle.load_laws.proofs.LoadLemmas.{IsFinalKind, IsLoadKind, id_of-load_document, indexed-ends, indexed-kinds, indexed-there, indexed_kinds, kind_id, latest-load, slots-load, slots-whole, writes_id-later}
use Rattle.load_laws.proofs.ReachLemmas.{current-whole, pending-none, settled-whole, some-last, top-upto}

-- a shard of the source with this history, in which each write is an indexer's, and each indexer
-- wrote its documents
module _ (n shard checkpoint : ℕ) (h : History) (alone : AllByRecursion IsIndexerEntry h)
    (indexed : (indexer : ℕ) → indexer < 4 → IsIndexed n indexer shard checkpoint h) where
  -- what an indexer wrote
  pub kinds-indexed : (k : ℕ) → k < 4
      → map (λ (e : Entry). e.kind) (filter (is_by k) (written h)) ≡ indexed_kinds n k shard
  kinds-indexed k lt = sym (writes_in-by_author k h) ∙ (indexed k lt).written

  -- each write is of the load
  pub written-load : AllByRecursion (λ e. IsLoadKind n shard e.kind) (written h)
  written-load =
      each-parts (λ (e : Entry). IsLoadKind n shard e.kind) is_by (written h)
      (indexed-taken (written h) (written-indexed h alone))
      (λ k lt. each_unmap (IsLoadKind n shard) (λ (e : Entry). e.kind)
      (filter (is_by k) (written h))
      (subst (AllByRecursion (IsLoadKind n shard)) (sym (kinds-indexed k lt))
      (indexed-kinds n k shard)))

  -- each behind which none of its id stands is in its last revision
  pub written-ends : Ends (λ (e : Entry). kind_id e.kind)
      (λ (e : Entry). IsFinalKind n shard e.kind) (written h)
  written-ends =
      ends-parts (λ (e : Entry). kind_id e.kind) (λ (e : Entry). IsFinalKind n shard e.kind) is_by
      (written h) (indexed-taken (written h) (written-indexed h alone))
      (λ k lt. ends-unmap kind_id (IsFinalKind n shard) (λ (e : Entry). e.kind)
      (filter (is_by k) (written h))
      (subst (Ends kind_id (IsFinalKind n shard)) (sym (kinds-indexed k lt))
      (indexed-ends n k shard)))

  -- no write is pending
  none-pending : is_pending h ≡ false
  none-pending = pending-none h alone (λ k lt. (indexed k lt).closed)

  -- the slots of the history
  pub slots-are : slots h ≡ slots_after 0 (written h)
  unfolding slots
  slots-are = slots-written 0 h

  -- its current documents
  pub current-are : current h ≡ latest (slots_after 0 (written h))
  current-are = current-whole h none-pending ∙ ap latest slots-are

  -- each slot is one of the load
  pub each-slot : (s : Slot) → Contains (slots h) s → IsLoadSlot n shard s
  each-slot s c =
      contained-each (IsLoadSlot n shard) (slots_after 0 (written h)) s
      (slots-load n shard 0 (written h) written-load)
      (subst (λ ss. Contains ss s) slots-are c)

  -- each current document is one of the load, in its last revision
  pub each-current : (p : ℕ × Doc) → Contains (current h) p → IsLoadCurrent n shard p
  each-current p c =
      contained-each (IsLoadCurrent n shard) (latest (slots_after 0 (written h))) p
      (latest-load n shard 0 (written h) written-load written-ends)
      (subst (λ ps. Contains ps p) current-are c)

  -- a number that routes to the shard is written there
  number-written : (number : ℕ) → number < n → shard_of 4 (decimal number) ≡ shard
      → writes_id (decimal number) (slots_after 0 (written h)) ≡ true
  number-written number lt routed =
      let k : ℕ = number % 4 in
      let few : k < 4 = mod-lt number (omega arith) in
      let first : Kind = Put (load_document number 0) in
      let e = Contains-unmap (λ (x : Entry). x.kind) (filter (is_by k) (written h)) first
      (subst (λ ks. Contains ks first) (sym (kinds-indexed k few))
      (indexed-there n number shard lt routed)) in
      let id : kind_id e.0.kind ≡ decimal number =
      ap kind_id e.2 ∙ id_of-load_document number 0 in
      subst (λ i. writes_id i (slots_after 0 (written h)) ≡ true) id
      (writes_id-later n shard 0 (written h) written-load e.0
      (Contains-filter (is_by k) (written h) e.0 e.1).0)

  -- the id of a current document of the load
  pub current-id : (p : ℕ × Doc) → (l : IsLoadCurrent n shard p) → id_of p.1 ≡ decimal l.number
  current-id p l =
      ap id_of l.is
      ∙ (id_with_version p.0 (load_document l.number (revision_of l.number))
      ∙ id_of-load_document l.number (revision_of l.number))

  -- so it is current there, where numbers are told by their digits
  pub number-current : n ≤ 10 ^ 64 → (number : ℕ) → number < n
      → shard_of 4 (decimal number) ≡ shard
      → (version : ℕ) × Contains (current h)
      (version, with_version version (load_document number (revision_of number)))
  number-current few number lt routed =
      let f = latest-found (decimal number) (slots_after 0 (written h))
      (slots-whole n shard 0 (written h) written-load) (number-written number lt routed) in
      let c : Contains (current h) f.0 = subst (λ ps. Contains ps f.0) (sym current-are) f.1 in
      let l : IsLoadCurrent n shard f.0 = each-current f.0 c in
      let one : l.number ≡ number =
      decimal-one l.number number (omega (arith, l.within)) (omega arith)
      (sym (current-id f.0 l) ∙ f.2) in
      let is : f.0.1 ≡ with_version f.0.0 (load_document number (revision_of number)) =
      l.is ∙ ap (λ i. with_version f.0.0 (load_document i (revision_of i))) one in
      (f.0.0, subst (λ doc. Contains (current h) (f.0.0, doc)) is c)

  -- no later write is of a current document's id
  pub none-later : (p : ℕ × Doc) → Contains (current h) p → (s : Slot) → Contains (slots h) s
      → s.id ≡ id_of p.1 → s.version ≤ p.0
  unfolding committed slots
  none-later p c s at same =
      let l : IsLast (committed h) p =
      contained-each (IsLast (committed h)) (current h) p (current-last h) c in
      let found : write_at s.version (slots h) ≡ Some s =
      contained-each (λ x. write_at x.version (slots h) ≡ Some x) (slots h) s
      (slots-found 0 (slots h) (slots_after-ascend 0 h)) at in
      let whole : slots h ≡ committed h = ap slots (sym (settled-whole h none-pending)) in
      l.last s.version s (subst (λ ss. write_at s.version ss ≡ Some s) whole found)
      (same ∙ (ap id_of l.is ∙ id_with_version p.0 l.doc))

  -- the checkpoint has reached each current document
  pub reached-current : (p : ℕ × Doc) → Contains (current h) p → p.0 ≤ checkpoint
  unfolding slots
  reached-current p c =
      let last = some-last h alone in
      let i = indexed last.0 last.1 in
      let end : top (take i.upto h) ≡ last_version 0 (slots h) =
      top-upto (suc last.0) h i.upto last.2 i.closed i.behind in
      let upto : p.0 ≤ last_version 0 (slots h) =
      contained-each (λ q. q.0 ≤ last_version 0 (slots h)) (latest (slots h)) p
      (latest-upto (last_version 0 (slots h)) (slots h)
      (slots-upto 0 (slots h) (slots_after-ascend 0 h)))
      (subst (λ ps. Contains ps p) (current-whole h none-pending) c) in
      omega (arith, end, upto, i.reached)

-- each shard of the source of a load
pub source-few : (n : ℕ) (hs : Histories) → n ≤ 10 ^ 64 → IsLoaded n hs → (shard : ℕ) → shard < 4
    → IsSource n shard (checkpoint load_key hs.book shard)
    (shard_history load_names hs src_name shard)
source-few n hs few load shard lt =
    let h : History = shard_history load_names hs src_name shard in
    let upto : ℕ = checkpoint load_key hs.book shard in
    let alone : AllByRecursion IsIndexerEntry h = load.alone shard lt in
    let indexed : (k : ℕ) → k < 4 → IsIndexed n k shard upto h =
    λ k less. load.indexed k shard less lt in
    record {
      written = each-slot n shard upto h alone indexed;
      last = each-current n shard upto h alone indexed;
      there = number-current n shard upto h alone indexed few;
      greatest = none-later n shard upto h alone indexed;
      reached = reached-current n shard upto h alone indexed;
    }
