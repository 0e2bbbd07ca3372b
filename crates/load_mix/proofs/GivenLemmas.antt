-- What a load's topic gives is delivered of what was seen of its source.
use Rattle.std.proofs.Common.{◌≡◌, ◌≢◌, ℕ, ◌+◌, ◌<◌, ◌≤◌, ◌&&◌, Bool, true, false, cond, List, [], ◌∷◌, ◌++◌, length, get_or, take, drop, slice_index, bytes_eq, refl, sym, ap, ◌∙◌, subst, arith}
use Rattle.std.specs.Prelude.{Contains, codes, filter, if◌then◌else◌, pos}
use Rattle.std.specs.List.{AllByRecursion}
use Rattle.std.specs.declared.cmp.Ordering.{Ordering}
use Rattle.std.specs.declared.cmp.Ordering.TheVariants.{Less, Equal}
use Rattle.std.proofs.Math.Seq.{take-append_seam}
use Rattle.std.proofs.lemmas.List.Elements.{Contains-append_right}
use Rattle.tuple_values.specs.Document.{ByteList, Doc, bytes_cmp, is_named, long, put, text, value_at, without}
use Rattle.tuple_values.proofs.MapLemmas.{value_cut, value_put_other, value_without_other}
use Rattle.query_syntax.specs.Matching.{matches}
use Rattle.query_syntax.specs.Meaning.{may_match, text_matches}
use Rattle.shard_versions.specs.Documents.{id_name, id_of, source_name, source_version_name, text_of, version_name}
use Rattle.shard_versions.specs.Histories.{History, current}
use Rattle.shard_versions.specs.declared.cut.CutPart.{CutPart}
use Rattle.shard_versions.proofs.ListLemmas.{each_append, each_weaker}
use Rattle.topic_book.specs.Cells.{cell_of}
use Rattle.once_core.specs.Cells.{shard_history}
use Rattle.once_core.specs.Law.{takes}
use Rattle.once_core.specs.declared.world.Histories.{Histories}
use Rattle.exchange_rules.specs.Cells.{Log, history_in}
use Rattle.site_laws.specs.SiteCells.{histories_in}
use Rattle.source_streams.specs.Batches.{cut_item, given_names, is_before, is_new, item_of, items_in, items_of, new_items, topic_items, whole_batch}
use Rattle.source_streams.specs.declared.batch.TopicItem.{TopicItem}
use Rattle.expr_types.specs.Sources.{cut_to}
use Rattle.update_sink.specs.Topics.{sent_document}
use Rattle.update_sink.proofs.BeginLemmas.{history-front}
use Rattle.update_sink.proofs.ItemLemmas.{each-made, each-sorted}
use Rattle.load_rules.specs.Loaded.{IsDelivered}
use Rattle.load_rules.specs.Topic.{load_fields, load_names, src_name}
use Rattle.load_mix.specs.Topic.{load_clauses, load_parts}
use Rattle.load_mix.proofs.CutLemmas.{AreSinceParts, IsSinceCut, IsSincePart}
use Rattle.load_rules.proofs.CellLemmas.{src-shards}
use Rattle.load_mix.proofs.TextLemmas.{load-clauses}

-- each element of a list is in it
each-inside : {X : Type 0} (xs : List X) → AllByRecursion (Contains xs) xs
each-inside [] = tt
each-inside (x ∷ xs) = (
  (0, omega arith, refl),
  each_weaker (Contains xs) (Contains (x ∷ xs)) (λ y c. Contains-append_right (x ∷ []) xs y c) xs
      (each-inside xs),
)

-- those that pass a test do, and are as all are
each-passed : {X : Type 0} (P : X → Type 0) (p : X → Bool) (xs : List X) → AllByRecursion P xs
    → AllByRecursion (λ x. P x × (p x ≡ true)) (filter p xs)
each-passed P p [] a = tt
each-passed P p (x ∷ xs) a = go (p x) refl (each-passed P p xs a.1)
  where
    go : (b : Bool) → p x ≡ b → AllByRecursion (λ x. P x × (p x ≡ true)) (filter p xs)
        → AllByRecursion (λ x. P x × (p x ≡ true)) (cond b (x ∷ filter p xs) (filter p xs))
    go true e more = ((a.0, e), more)
    go false e more = more

-- what a test with another one says
right-true : (a b : Bool) → (a && b) ≡ true → b ≡ true
right-true true b e = e
right-true false b e = absurd (cc)

-- the item is so made of a document that was current at some time in a shard of the source, and
-- that the topic takes
record IsGivenBy (hs : Histories) (made : Doc → Doc) (i : TopicItem) : Type 0 where
  shard : ℕ
  within : shard < 4
  upto : ℕ
  doc : Doc
  there : Contains (current (take upto (shard_history load_names hs src_name shard)))
      (i.version, doc)
  taken : matches load_clauses doc ≡ true
  is : i.document ≡ made doc

module _ (seen : List Log) (had above : List ℕ) where
  abbrev Hs : Histories
  Hs = histories_in load_names seen

  -- the items of a part
  part-given : (shard : ℕ) (p : CutPart) → shard < 4
      → IsSincePart load_names seen had src_name shard p
      → AllByRecursion (IsGivenBy Hs (λ d. d)) (items_in load_clauses src_name above p)
  part-given shard p lt s = go (bytes_eq p.collection src_name)
    where
      log : Log
      log = get_or seen (cell_of load_names src_name shard) []

      front : History
      front = history_in (take s.upto log)

      whole : shard_history load_names Hs src_name shard ≡ front ++ history_in (drop s.upto log)
      whole =
          let four = src-shards in
          history-front load_names seen src_name shard s.upto (omega (arith, four, lt))

      -- the front is a first part of the history
      first : take (length front) (shard_history load_names Hs src_name shard) ≡ front
      first =
          ap (take (length front)) whole ∙ take-append_seam front (history_in (drop s.upto log))

      documents : p.snapshot.documents ≡ current front
      documents = ap (λ (x : CutPart). x.snapshot.documents) s.is

      low : ℕ
      low = slice_index above p.shard

      test : ℕ × Doc → Bool
      test = is_new load_clauses low

      item : (d : ℕ × Doc) → Contains (current front) d × (test d ≡ true)
          → IsGivenBy Hs (λ d. d) (item_of p.shard d)
      item d c = record {
        shard = shard;
        within = lt;
        upto = length front;
        doc = d.1;
        there = subst (λ h. Contains (current h) d) (sym first) c.0;
        taken = right-true _ (matches load_clauses d.1) c.1;
        is = refl;
      }

      all : AllByRecursion (IsGivenBy Hs (λ d. d))
          (new_items load_clauses low p.shard p.snapshot.documents)
      all =
          subst (λ ds. AllByRecursion (IsGivenBy Hs (λ d. d))
          (new_items load_clauses low p.shard ds)) (sym documents)
          (each-made (IsGivenBy Hs (λ d. d)) (item_of p.shard) (filter test (current front))
          (each_weaker (λ d. Contains (current front) d × (test d ≡ true))
          (λ d. IsGivenBy Hs (λ d. d) (item_of p.shard d)) item (filter test (current front))
          (each-passed (Contains (current front)) test (current front)
          (each-inside (current front)))))

      go : (b : Bool) → AllByRecursion (IsGivenBy Hs (λ d. d))
          (if b then new_items load_clauses low p.shard p.snapshot.documents else [])
      go true = all
      go false = tt

  -- the items of parts
  parts-given : (shard : ℕ) (ps : List CutPart) → shard + length ps ≤ 4
      → AreSinceParts load_names seen had src_name shard ps
      → AllByRecursion (IsGivenBy Hs (λ d. d)) (items_of load_clauses src_name above ps)
  parts-given shard [] le a = tt
  parts-given shard (p ∷ ps) le a =
      each_append (IsGivenBy Hs (λ d. d)) (items_in load_clauses src_name above p)
      (items_of load_clauses src_name above ps) (part-given shard p (omega arith) a.0)
      (parts-given (shard + 1) ps (omega arith) a.1)

  -- what the topic gives of a cut
  items-given : (cut : List CutPart) → IsSinceCut load_names seen had src_name cut
      → AllByRecursion (IsGivenBy Hs (cut_to (given_names load_fields)))
      (topic_items load_parts cut above)
  items-given cut c =
      let names = given_names load_fields in
      let counted = c.counted in
      let four = src-shards in
      each-made (IsGivenBy Hs (cut_to names)) (cut_item names)
      (whole_batch load_clauses src_name above cut)
      (each_weaker (IsGivenBy Hs (λ d. d)) (λ i. IsGivenBy Hs (cut_to names) (cut_item names i))
      (λ i g. record {
        shard = g.shard;
        within = g.within;
        upto = g.upto;
        doc = g.doc;
        there = g.there;
        taken = g.taken;
        is = ap (cut_to names) g.is;
      })
      (whole_batch load_clauses src_name above cut)
      (each-sorted (IsGivenBy Hs (λ d. d)) is_before (items_of load_clauses src_name above cut)
      (parts-given 0 cut (omega (arith, counted, four)) c.parts)))

-- a name that is given, and that none of the three names is which a delivery sets or leaves out
record IsKeptName (name : ByteList) : Type 0 where
  given : is_named name (given_names load_fields) ≡ true
  version : bytes_cmp version_name name ≢ Equal
  source : bytes_cmp source_name name ≢ Equal
  source_version : bytes_cmp source_version_name name ≢ Equal

-- under such a name a delivery has what the document has
kept-value : (name : ByteList) (version : ℕ) (doc given : Doc) → IsKeptName name
    → given ≡ cut_to (given_names load_fields) doc
    → value_at name (sent_document src_name version given) ≡ value_at name doc
kept-value name version doc given k is =
    value_put_other name source_version_name (long (pos version))
    (put source_name (text src_name) (without version_name given)) k.source_version
    ∙ (value_put_other name source_name (text src_name) (without version_name given) k.source
    ∙ (value_without_other name version_name given k.version
    ∙ (ap (value_at name) is ∙ value_cut name (given_names load_fields) doc k.given)))

-- orders that differ
less-apart : (o : Ordering) → o ≡ Less → o ≢ Equal
less-apart o e same = let bad : Less ≡ Equal = sym e ∙ same in cc

-- the id, the amount and the revision are such names
id-kept : IsKeptName id_name
id-kept = record {
  given = refl;
  version = less-apart _ refl;
  source = less-apart _ refl;
  source_version = less-apart _ refl;
}

amount-kept : IsKeptName (codes "a_i")
amount-kept = record {
  given = refl;
  version = less-apart _ refl;
  source = less-apart _ refl;
  source_version = less-apart _ refl;
}

revision-kept : IsKeptName (codes "rev_i")
revision-kept = record {
  given = refl;
  version = less-apart _ refl;
  source = less-apart _ refl;
  source_version = less-apart _ refl;
}

-- an item that is given is delivered
delivered-of : (hs : Histories) (i : TopicItem)
    → IsGivenBy hs (cut_to (given_names load_fields)) i
    → IsDelivered hs i.version (sent_document src_name i.version i.document)
unfolding takes text_matches id_of
delivered-of hs i g = record {
  shard = g.shard;
  within = g.within;
  upto = g.upto;
  doc = g.doc;
  current = g.there;
  taken = ap (λ q. may_match q g.doc) load-clauses ∙ g.taken;
  same_id = ap text_of (kept-value id_name i.version g.doc i.document id-kept g.is);
  same_amount = kept-value (codes "a_i") i.version g.doc i.document amount-kept g.is;
  same_revision = kept-value (codes "rev_i") i.version g.doc i.document revision-kept g.is;
}

-- so is each that a load's topic gives of a cut
pub load-delivered : (seen : List Log) (had above : List ℕ) (cut : List CutPart)
    → IsSinceCut load_names seen had src_name cut
    → AllByRecursion (λ (i : TopicItem). IsDelivered (histories_in load_names seen) i.version
    (sent_document src_name i.version i.document)) (topic_items load_parts cut above)
load-delivered seen had above cut c =
    each_weaker (IsGivenBy (histories_in load_names seen) (cut_to (given_names load_fields)))
    (λ i. IsDelivered (histories_in load_names seen) i.version
    (sent_document src_name i.version i.document))
    (delivered-of (histories_in load_names seen)) (topic_items load_parts cut above)
    (items-given seen had above cut c)
