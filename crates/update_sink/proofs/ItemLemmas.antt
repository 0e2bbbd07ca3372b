-- What a topic gives of a cut may be delivered by what was seen of its source.
use Rattle.std.proofs.Common.{◌≡◌, ℕ, ◌+◌, ◌<◌, ◌≤◌, ◌==◌, Bool, true, false, cond, List, [], ◌∷◌, ◌++◌, length, get_or, take, drop, map, slice_index, bytes_eq, eqb-true, refl, sym, ap, ◌∙◌, subst, arith, Option, Some, None}
use Rattle.std.specs.Prelude.{filter, if◌then◌else◌}
use Rattle.std.specs.List.{AllByRecursion}
use Rattle.tuple_values.specs.Document.{ByteList, Doc, Rises}
use Rattle.tuple_values.specs.Keys.{shard_of}
use Rattle.tuple_values.specs.declared.names.NameShards.{NameShards}
use Rattle.query_syntax.specs.Tree.{ClauseTree}
use Rattle.sort_spec.specs.Sorting.{insert, ins_from, ins_sort}
use Rattle.shard_versions.specs.Documents.{id_of, is_storable, with_version, IsFrom}
use Rattle.shard_versions.specs.Fitness.{is_fit, is_storable_kind, AreStorable, IsFit}
use Rattle.shard_versions.specs.Histories.{Ascend, History, Slot, committed, current, last_version, settled, slot_of, slots, slots_after, top, version_after, write_at}
use Rattle.shard_versions.specs.declared.cut.CutPart.{CutPart}
use Rattle.shard_versions.specs.declared.entry.Entry.{Entry}
use Rattle.shard_versions.specs.declared.entry.Kind.{Kind}
use Rattle.shard_versions.specs.declared.entry.Kind.TheVariants.{Put, Del, Sent, Mark}
use Rattle.shard_versions.proofs.FitLemmas.{fit-storable}
use Rattle.shard_versions.proofs.ListLemmas.{each_append, each_left, each_two, each_weaker}
use Rattle.shard_versions.proofs.VersionLemmas.{ascend_above, last_version-above, settled-begins, slots_after-ascend, top-grows, versioned, write-stays}
use Rattle.topic_book.specs.Cells.{cell_of, cells_in}
use Rattle.topic_book.specs.Fitness.{shards_of}
use Rattle.once_core.specs.Cells.{home_history, shard_history}
use Rattle.once_core.specs.Law.{IsFitAt, IsFitCell}
use Rattle.once_core.proofs.CurrentLemmas.{IsLast, current-last, id_with_version}
use Rattle.once_core.proofs.PlaceLemmas.{current-here}
use Rattle.exchange_rules.specs.Cells.{Log, history_in}
use Rattle.exchange_rules.specs.Following.{Grows}
use Rattle.exchange_rules.proofs.CellLemmas.{cell_of-within}
use Rattle.exchange_rules.proofs.GrowthLemmas.{grows_at}
use Rattle.site_laws.specs.Duties.{IsItem}
use Rattle.site_laws.specs.SiteCells.{histories_in, AreSeenOf}
use Rattle.site_laws.proofs.CellLemmas.{shard-at}
use Rattle.site_laws.proofs.DutyLemmas.{place-named}
use Rattle.source_streams.specs.Batches.{cut_item, given_names, is_before, is_new, item_of, items_in, items_of, new_items, topic_items, whole_batch}
use Rattle.source_streams.specs.declared.batch.TopicItem.{TopicItem}
use Rattle.expr_types.specs.ExprTree.{TopicParts}
use Rattle.expr_types.specs.Sources.{cut_to}
use Rattle.update_sink.specs.Given.{IsGiven}
use Rattle.update_sink.specs.Topics.{sent_document, sent_item}
use Rattle.update_sink.proofs.BeginLemmas.{AreSeenParts, IsSeenCut, IsSeenPart, history-front}
use Rattle.update_sink.proofs.ShapeLemmas.{sent-from, sent-storable}

-- what holds of all holds of those that pass
each-passing : {X : Type 0} (P : X → Type 0) (p : X → Bool) (xs : List X) → AllByRecursion P xs
    → AllByRecursion P (filter p xs)
each-passing P p [] a = tt
each-passing P p (x ∷ xs) a = go (p x) (each-passing P p xs a.1)
  where
    go : (b : Bool) → AllByRecursion P (filter p xs)
        → AllByRecursion P (cond b (x ∷ filter p xs) (filter p xs))
    go true more = (a.0, more)
    go false more = more

-- and of what a function makes of each
pub each-made : {X Y : Type 0} (P : Y → Type 0) (f : X → Y) (xs : List X)
    → AllByRecursion (λ x. P (f x)) xs → AllByRecursion P (map f xs)
each-made P f [] a = tt
each-made P f (x ∷ xs) a = (a.0, each-made P f xs a.1)

-- and of all in another order
each-inserted : {X : Type 0} (P : X → Type 0) (lt : X → X → Bool) (x : X) (ys : List X) → P x
    → AllByRecursion P ys → AllByRecursion P (insert lt x ys)
each-inserted P lt x [] p a = (p, tt)
each-inserted P lt x (y ∷ ys) p a = go (lt x y) (each-inserted P lt x ys p a.1)
  where
    go : (b : Bool) → AllByRecursion P (insert lt x ys)
        → AllByRecursion P (if b then x ∷ y ∷ ys else (y ∷ insert lt x ys))
    go true more = (p, a)
    go false more = (a.0, more)

each-from : {X : Type 0} (P : X → Type 0) (lt : X → X → Bool) (done xs : List X)
    → AllByRecursion P done → AllByRecursion P xs → AllByRecursion P (ins_from lt done xs)
each-from P lt done [] d a = d
each-from P lt done (x ∷ xs) d a =
    each-from P lt (insert lt x done) xs (each-inserted P lt x done a.0 d) a.1

pub each-sorted : {X : Type 0} (P : X → Type 0) (lt : X → X → Bool) (xs : List X)
    → AllByRecursion P xs → AllByRecursion P (ins_sort lt xs)
each-sorted P lt xs a = each-from P lt [] xs tt a

-- a write's version is at most the last one
write-last : (w last : ℕ) (s : Slot) (ss : List Slot) → Ascend last ss → write_at w ss ≡ Some s
    → w ≤ last_version last ss
write-last w last s [] a e = absurd (cc)
write-last w last s (x ∷ ss) a e =
    go (x.version == w) refl e (write-last w x.version s ss a.1)
  where
    go : (b : Bool) → (x.version == w) ≡ b → cond b (Some x) (write_at w ss) ≡ Some s
        → (write_at w ss ≡ Some s → w ≤ last_version x.version ss)
        → w ≤ last_version x.version ss
    go true is e more =
        let same : x.version ≡ w = eqb-true x.version w is in
        let above = ascend_above x.version x.version ss (omega arith) a.1 in
        let up = last_version-above x.version x.version ss (omega arith) above in
        omega (arith, same, up)
    go false is e more = more e

-- where a slot's document is there, it can be kept
abbrev IsStorableLeft : Option Doc → Type 0
IsStorableLeft None = Unit {0}
IsStorableLeft (Some doc) = is_storable doc ≡ true

-- those of entries that can be kept
slot-storable : (v : ℕ) (k : Kind) → is_storable_kind k ≡ true
    → AllByRecursion (λ (s : Slot). IsStorableLeft s.left) (slot_of v k)
slot-storable v (Put doc) e = (e, tt)
slot-storable v (Del id) e = (tt, tt)
slot-storable v (Sent src sent doc) e = (e, tt)
slot-storable v Mark e = tt

slots-storable : (last : ℕ) (h : History) → AreStorable h
    → AllByRecursion (λ (s : Slot). IsStorableLeft s.left) (slots_after last h)
unfolding slots_after AreStorable
slots-storable last [] a = tt
slots-storable last (e ∷ h) a =
    each_append (λ (s : Slot). IsStorableLeft s.left)
    (slot_of (version_after last e.kind) e.kind) (slots_after (version_after last e.kind) h)
    (slot-storable (version_after last e.kind) e.kind a.0)
    (slots-storable (version_after last e.kind) h a.1)

-- what holds of each write holds of the one of a version
write-each : (P : Slot → Type 0) (w : ℕ) (s : Slot) (ss : List Slot) → AllByRecursion P ss
    → write_at w ss ≡ Some s → P s
write-each P w s [] a e = absurd (cc)
write-each P w s (x ∷ ss) a e = go (x.version == w) e (write-each P w s ss a.1)
  where
    go : (b : Bool) → cond b (Some x) (write_at w ss) ≡ Some s
        → (write_at w ss ≡ Some s → P s) → P s
    go true e more = let same : x ≡ s = cc in subst P same a.0
    go false e more = more e

-- a current document: a committed write of a document that can be kept
record IsCurrent (shards shard : ℕ) (h : History) (p : ℕ × Doc) : Type 0 where
  doc : Doc
  is : p.1 ≡ with_version p.0 doc
  reached : p.0 ≤ top h
  written : write_at p.0 (slots h)
      ≡ Some (record { version = p.0; id = id_of doc; left = Some doc })
  storable : is_storable doc ≡ true
  here : shard_of shards (id_of doc) ≡ shard

-- by the last write of its id
current-of : (shards shard : ℕ) (h : History) → IsFit shards shard h → (p : ℕ × Doc)
    → IsLast (committed h) p → shard_of shards (id_of p.1) ≡ shard → IsCurrent shards shard h p
unfolding committed slots top
current-of shards shard h fit p l here =
    let front = settled-begins h in
    let s : Slot = record { version = p.0; id = id_of l.doc; left = Some l.doc } in
    let written : write_at p.0 (slots h) ≡ Some s =
    subst (λ (x : History). write_at p.0 (slots x) ≡ Some s) (sym front.1)
    (write-stays p.0 s (settled h) front.0 l.written) in
    record {
      doc = l.doc;
      is = l.is;
      reached = write-last p.0 0 s (slots_after 0 (settled h))
          (slots_after-ascend 0 (settled h)) l.written;
      written = written;
      storable = write-each (λ (s : Slot). IsStorableLeft s.left) p.0 s (slots_after 0 h)
          (slots-storable 0 h (fit-storable shards shard h fit)) written;
      here = ap (shard_of shards) (sym (ap id_of l.is ∙ id_with_version p.0 l.doc)) ∙ here;
    }

-- all of a shard's
currents : (shards shard : ℕ) (h : History) → IsFit shards shard h
    → AllByRecursion (IsCurrent shards shard h) (current h)
currents shards shard h fit =
    each_two (IsLast (committed h)) (λ (p : ℕ × Doc). shard_of shards (id_of p.1) ≡ shard)
    (IsCurrent shards shard h) (λ p l here. current-of shards shard h fit p l here) (current h)
    (current-last h) (current-here shards shard h fit)

-- what was seen of each shard of the source belongs there
pub record IsSourceFit (names : List NameShards) (seen : List Log) (src : ByteList)
    : Type 0 where
  pub each : (shard : ℕ) → shard < shards_of names src
      → IsFit (shards_of names src) shard
      (shard_history names (histories_in names seen) src shard)

-- by what is known of all cells
pub source-fit : (names : List NameShards) (seen : List Log) (src : ByteList)
    → ((cell : ℕ) → cell < cells_in names
    → IsFitCell names cell (history_in (get_or seen cell []))) → IsSourceFit names seen src
unfolding IsFitCell
source-fit names seen src fit = record {
  each = λ shard lt.
      let cell = cell_of names src shard in
      let within = cell_of-within names src shard lt in
      let h = history_in (get_or seen cell []) in
      let there : IsFitAt (Some (record {
        collection = src;
        shard = shard;
        shards = shards_of names src;
      })) h = subst (λ o. IsFitAt o h) (place-named names src shard lt) (fit cell within) in
      subst (IsFit (shards_of names src) shard) (sym (shard-at (cells_in names) seen cell within))
      there;
}

-- the front of what belongs at a shard belongs there
fit-front : (shards shard : ℕ) (front more : History) → IsFit shards shard (front ++ more)
    → IsFit shards shard front
unfolding IsFit
fit-front shards shard front more f =
    each_left (λ (e : Entry). is_fit shards shard e.kind ≡ true) front more f

module _ (names : List NameShards) (seen : List Log) (src : ByteList)
    (fit : IsSourceFit names seen src) where
  -- a current document of the front of a shard's history is given
  given-of : (shard : ℕ) → shard < shards_of names src → (front more : History)
      → shard_history names (histories_in names seen) src shard ≡ front ++ more → (p : ℕ × Doc)
      → IsCurrent (shards_of names src) shard front p
      → IsGiven names (histories_in names seen) src (λ d. d) (item_of shard p)
  given-of shard lt front more is p c =
      let hs = histories_in names seen in
      let home : home_history names hs src (id_of c.doc) ≡ front ++ more =
      ap (shard_history names hs src) c.here ∙ is in
      let s : Slot = record { version = p.0; id = id_of c.doc; left = Some c.doc } in
      let up = top-grows front more (versioned (front ++ more)) in
      record {
        doc = c.doc;
        is = c.is;
        reached = subst (λ h. p.0 ≤ top h) (sym home) (let low = c.reached in omega (arith, low, up));
        written = subst (λ h. write_at p.0 (slots h) ≡ Some s) (sym home)
            (write-stays p.0 s front more c.written);
        storable = c.storable;
      }

  -- the items of a part
  part-given : (q : List ClauseTree) (above : List ℕ) (shard : ℕ) (p : CutPart)
      → shard < shards_of names src → IsSeenPart names seen src shard p
      → AllByRecursion (IsGiven names (histories_in names seen) src (λ d. d))
      (items_in q src above p)
  part-given q above shard p lt s = go (bytes_eq p.collection src)
    where
      log : Log
      log = get_or seen (cell_of names src shard) []

      front : History
      front = history_in (take s.upto log)

      more : History
      more = history_in (drop s.upto log)

      whole : shard_history names (histories_in names seen) src shard ≡ front ++ more
      whole = history-front names seen src shard s.upto lt

      front-fit : IsFit (shards_of names src) shard front
      front-fit = fit-front (shards_of names src) shard front more
          (subst (IsFit (shards_of names src) shard) whole (fit.each shard lt))

      documents : p.snapshot.documents ≡ current front
      documents = ap (λ (x : CutPart). x.snapshot.documents) s.is

      low : ℕ
      low = slice_index above p.shard

      all : AllByRecursion (IsGiven names (histories_in names seen) src (λ d. d))
          (new_items q low p.shard p.snapshot.documents)
      all =
          subst (λ n. AllByRecursion (IsGiven names (histories_in names seen) src (λ d. d))
          (new_items q low n p.snapshot.documents))
          (sym (ap (λ (x : CutPart). x.shard) s.is))
          (subst (λ ds. AllByRecursion (IsGiven names (histories_in names seen) src (λ d. d))
          (new_items q low shard ds)) (sym documents)
          (each-made (IsGiven names (histories_in names seen) src (λ d. d)) (item_of shard)
          (filter (is_new q low) (current front))
          (each-passing
          (λ d. IsGiven names (histories_in names seen) src (λ d. d) (item_of shard d))
          (is_new q low) (current front)
          (each_weaker (IsCurrent (shards_of names src) shard front)
          (λ d. IsGiven names (histories_in names seen) src (λ d. d) (item_of shard d))
          (given-of shard lt front more whole) (current front)
          (currents (shards_of names src) shard front front-fit)))))

      go : (b : Bool) → AllByRecursion (IsGiven names (histories_in names seen) src (λ d. d))
          (if b then new_items q low p.shard p.snapshot.documents else [])
      go true = all
      go false = tt

  -- the items of parts
  parts-given : (q : List ClauseTree) (above : List ℕ) (shard : ℕ) (ps : List CutPart)
      → shard + length ps ≤ shards_of names src → AreSeenParts names seen src shard ps
      → AllByRecursion (IsGiven names (histories_in names seen) src (λ d. d))
      (items_of q src above ps)
  parts-given q above shard [] le a = tt
  parts-given q above shard (p ∷ ps) le a =
      each_append (IsGiven names (histories_in names seen) src (λ d. d)) (items_in q src above p)
      (items_of q src above ps)
      (part-given q above shard p (omega arith) a.0)
      (parts-given q above (shard + 1) ps (omega arith) a.1)

-- what a topic gives of a cut, each document cut to its fields
pub topic-given : (names : List NameShards) (seen : List Log) (p : TopicParts)
    (cut : List CutPart) (above : List ℕ) → IsSourceFit names seen p.collection
    → IsSeenCut names seen p.collection cut
    → AllByRecursion
    (IsGiven names (histories_in names seen) p.collection (cut_to (given_names p.fl)))
    (topic_items p cut above)
topic-given names seen p cut above fit c =
    let hs = histories_in names seen in
    let counted = c.counted in
    each-made (IsGiven names hs p.collection (cut_to (given_names p.fl)))
    (cut_item (given_names p.fl)) (whole_batch p.q p.collection above cut)
    (each_weaker (IsGiven names hs p.collection (λ d. d))
    (λ i. IsGiven names hs p.collection (cut_to (given_names p.fl))
    (cut_item (given_names p.fl) i))
    (λ i g. record {
      doc = g.doc;
      is = ap (cut_to (given_names p.fl)) g.is;
      reached = g.reached;
      written = g.written;
      storable = g.storable;
    })
    (whole_batch p.q p.collection above cut)
    (each-sorted (IsGiven names hs p.collection (λ d. d)) is_before
    (items_of p.q p.collection above cut)
    (parts-given names seen p.collection fit p.q above 0 cut (omega (arith, counted)) c.parts)))

-- what is of a document has its id
from-id : (sent : Doc) (src : ByteList) (v : ℕ) (doc : Doc) → IsFrom sent src v doc
    → id_of sent ≡ id_of doc
unfolding IsFrom
from-id sent src v doc f = f.same_id

-- an item that is given may be delivered
item-of : (names : List NameShards) (seen : List Log) (dest src : ByteList) (fl : List ByteList)
    (i : TopicItem)
    → IsGiven names (histories_in names seen) src (cut_to (given_names fl)) i
    → Rises i.document → IsItem names seen dest src (sent_item src i)
item-of names seen dest src fl i g rises =
    let hs = histories_in names seen in
    let from = sent-from src i.version fl g.doc i.document g.is rises in
    let id : id_of (sent_document src i.version i.document) ≡ id_of g.doc =
    from-id (sent_document src i.version i.document) src i.version g.doc from in
    record {
      storable = sent-storable src i.version fl g.doc i.document g.is rises g.storable;
      delivery = record {
        doc = g.doc;
        reached = subst (λ n. i.version ≤ top (home_history names hs src n)) (sym id) g.reached;
        written = subst (λ n. write_at i.version (slots (home_history names hs src n))
            ≡ Some (record { version = i.version; id = n; left = Some g.doc })) (sym id)
            g.written;
        is_from = from;
      };
    }

-- all of them
pub items-of : (names : List NameShards) (seen : List Log) (dest src : ByteList)
    (fl : List ByteList) (items : List TopicItem)
    → AllByRecursion (IsGiven names (histories_in names seen) src (cut_to (given_names fl))) items
    → AllByRecursion (λ (i : TopicItem). Rises i.document) items
    → AllByRecursion (IsItem names seen dest src) (map (sent_item src) items)
items-of names seen dest src fl items g rises =
    each-made (IsItem names seen dest src) (sent_item src) items
    (each_two (IsGiven names (histories_in names seen) src (cut_to (given_names fl)))
    (λ (i : TopicItem). Rises i.document)
    (λ i. IsItem names seen dest src (sent_item src i))
    (item-of names seen dest src fl) items g rises)

-- what was seen begins what was seen later
pub grown-of : (seen later : List Log) → Grows seen later → AreSeenOf seen later
grown-of seen later g cell = grows_at seen later g cell
