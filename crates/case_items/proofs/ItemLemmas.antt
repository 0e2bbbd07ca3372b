-- A current document that a snapshot shows is a committed write of its history.
use Rattle.std.proofs.Common.{◌≡◌, ℕ, ◌<◌, ◌≤◌, ◌++◌, true, List, [], Some, get_or, length, sym, ap, subst, ◌∙◌, arith}
use Rattle.tuple_values.specs.Document.{ByteList, Doc}
use Rattle.tuple_values.specs.Keys.{shard_of}
use Rattle.tuple_values.specs.declared.names.NameShards.{NameShards}
use Rattle.shard_versions.specs.Documents.{id_of, with_version, is_storable, IsFrom}
use Rattle.shard_versions.specs.Histories.{History, Slot, slots, write_at, settled, committed, current, top}
use Rattle.shard_versions.specs.Shards.{Shown}
use Rattle.shard_versions.proofs.ListLemmas.{each_at}
use Rattle.shard_versions.proofs.VersionLemmas.{settled-begins, top-grows, versioned, write-stays}
use Rattle.topic_book.specs.Fitness.{shards_of}
use Rattle.once_core.specs.Cells.{shard_history, home_history}
use Rattle.once_core.proofs.CurrentLemmas.{IsLast, current-last}
use Rattle.exchange_rules.specs.Cells.{Log}
use Rattle.site_laws.specs.Duties.{IsItem}
use Rattle.site_laws.specs.SiteCells.{histories_in}
use Rattle.case_items.specs.Items.{IsShown}

-- a committed write is one of the history's
committed-written : (h : History) (v : ℕ) (s : Slot) → write_at v (committed h) ≡ Some s
    → write_at v (slots h) ≡ Some s
unfolding committed
committed-written h v s w =
    let b = settled-begins h in
    subst (λ (x : History). write_at v (slots x) ≡ Some s) (sym b.1)
    (write-stays v s (settled h) b.0 w)

-- the shard to which the id routes, by what was computed
pub routed : (names found : List NameShards) (src name : ByteList) (document : Doc)
    (id : ByteList) (shards home shard : ℕ) → found ≡ names → name ≡ src → id ≡ id_of document
    → shards ≡ shards_of found name → home ≡ shard_of shards id → home ≡ shard
    → shard_of (shards_of names src) (id_of document) ≡ shard
routed names found src name document id shards home shard a b c d e f =
    ap (shard_of (shards_of names src)) (sym c)
    ∙ (ap (λ n. shard_of n id) (ap (shards_of names) (sym b)
    ∙ (ap (λ x. shards_of x name) (sym a) ∙ sym d))
    ∙ (sym e ∙ f))

-- what is known of the item that is made of the k-th document that a snapshot of this history shows
pub record IsMade (src : ByteList) (s : Shown) (k version : ℕ) (shown document : Doc)
    : Type 0 where
  pub in_range : k < length s.documents
  pub version_is : version ≡ (get_or s.documents k (0, [])).0
  pub shown_is : shown ≡ (get_or s.documents k (0, [])).1
  pub reached : version ≤ s.top
  pub from : (doc : Doc) → shown ≡ with_version version doc → IsFrom document src version doc

-- such an item is a delivery of a committed write, where the history is a front of what was seen of
-- the shard
pub item-is : (names : List NameShards) (seen : List Log) (dest src : ByteList)
    (shard k version : ℕ) (s : Shown) (shown document : Doc) → IsShown names seen src shard s
    → IsMade src s k version shown document
    → shard_of (shards_of names src) (id_of document) ≡ shard → is_storable document ≡ true
    → IsItem names seen dest src (record { version = version; document = document })
unfolding IsFrom
item-is names seen dest src shard k version s shown document there made routed storable =
    record {
      storable = storable;
      delivery = record {
        doc = last.doc;
        reached = subst (λ x. version ≤ top x) (sym home) (omega (arith, low, up));
        written = subst (λ x. write_at version (slots x) ≡ Some written) (sym home)
            (write-stays version written h there.more
            (committed-written h version written found));
        is_from = from;
      };
    }
  where
    h : History
    h = there.front

    p : ℕ × Doc
    p = get_or s.documents k (0, [])

    last : IsLast (committed h) p
    last =
        subst (λ (x : Shown). IsLast (committed h) (get_or x.documents k (0, []))) (sym there.is)
        (each_at (IsLast (committed h)) (current h) k (0, [])
        (subst (λ (x : Shown). k < length x.documents) there.is made.in_range) (current-last h))

    from : IsFrom document src version last.doc
    from =
        made.from last.doc (made.shown_is
        ∙ (last.is ∙ ap (λ v. with_version v last.doc) (sym made.version_is)))

    same_id : id_of document ≡ id_of last.doc
    same_id = from.same_id

    home : home_history names (histories_in names seen) src (id_of document) ≡ h ++ there.more
    home = ap (shard_history names (histories_in names seen) src) routed ∙ there.begins

    low : version ≤ top h
    low = subst (λ (x : Shown). version ≤ x.top) there.is made.reached

    up : top h ≤ top (h ++ there.more)
    up = top-grows h there.more (versioned (h ++ there.more))

    written : Slot
    written = record { version = version; id = id_of document; left = Some last.doc }

    found : write_at version (committed h) ≡ Some written
    found =
        subst (λ v. write_at v (committed h)
        ≡ Some (record { version = v; id = id_of document; left = Some last.doc }))
        (sym made.version_is)
        (last.written
        ∙ ap (λ i. Some (record { version = p.0; id = i; left = Some last.doc })) (sym same_id))
