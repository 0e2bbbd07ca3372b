-- A topic's checkpoint may be stored once what it gives was delivered.
use Rattle.std.proofs.Common.{◌≡◌, ℕ, zero, suc, ◌+◌, ◌<◌, ◌≤◌, ◌&&◌, Bool, true, false, cond, List, [], ◌∷◌, ◌++◌, length, get_or, take, drop, map, slice_index, bytes_eq, refl, sym, ap, ◌∙◌, subst, arith, Some}
use Rattle.std.specs.Prelude.{filter, pos, if◌then◌else◌}
use Rattle.std.specs.List.{AllByRecursion}
use Rattle.std.specs.declared.cmp.Ordering.TheVariants.{Less, Equal}
use Rattle.std.proofs.lemmas.Bool.{lt-ltb}
use Rattle.std.proofs.lemmas.Slice.Eq.{bytes_eq-Decides}
use Rattle.tuple_values.specs.Document.{ByteList, Doc, long, put, text, without}
use Rattle.tuple_values.specs.declared.names.NameShards.{NameShards}
use Rattle.tuple_values.proofs.MapLemmas.{value_cut, value_put_other, value_without_other}
use Rattle.query_syntax.specs.Matching.{matches}
use Rattle.query_syntax.specs.Meaning.{may_match, text_matches}
use Rattle.query_syntax.specs.Reading.{query_of}
use Rattle.query_syntax.specs.Tree.{ClauseTree}
use Rattle.sort_spec.specs.Sorting.{insert, ins_from, ins_sort}
use Rattle.shard_versions.specs.Deliveries.{Reaches, sents}
use Rattle.shard_versions.specs.Documents.{id_name, id_of, source_name, source_version_name, text_of, version_name}
use Rattle.shard_versions.specs.Histories.{History, current, top}
use Rattle.shard_versions.specs.declared.cut.CutPart.{CutPart}
use Rattle.shard_versions.proofs.ListLemmas.{each_left, each_right, each_weaker}
use Rattle.shard_versions.proofs.VersionLemmas.{current-old, versioned}
use Rattle.topic_book.specs.Books.{checkpoint}
use Rattle.topic_book.specs.Cells.{cell_of}
use Rattle.topic_book.specs.Fitness.{shards_of}
use Rattle.topic_book.specs.declared.topic.Binding.{Binding}
use Rattle.once_core.specs.Allowed.{MayStore}
use Rattle.once_core.specs.Cells.{home_history, shard_history}
use Rattle.once_core.specs.Law.{AreSent, IsSent, IsSentIfTaken, takes}
use Rattle.exchange_rules.specs.Cells.{Log, history_in}
use Rattle.exchange_rules.specs.Topics.{tops_of}
use Rattle.site_laws.specs.SiteCells.{histories_in}
use Rattle.source_streams.specs.Batches.{cut_item, given_names, is_before, is_new, item_of, items_in, items_of, new_items, topic_items, whole_batch}
use Rattle.source_streams.specs.declared.batch.TopicItem.{TopicItem}
use Rattle.expr_types.specs.ExprTree.{TopicParts}
use Rattle.expr_types.specs.Sources.{cut_to}
use Rattle.update_sink.specs.Given.{AreThereNow, IsThereNow}
use Rattle.update_sink.specs.Topics.{asked_of, sent_document, sent_item}
use Rattle.update_sink.proofs.BeginLemmas.{AreSeenParts, HasBegun, IsSeenCut, IsSeenPart, cut-reached, history-front, tops-counted}
use Rattle.update_sink.proofs.ShapeLemmas.{id-given}

-- what holds of all that a function makes holds of what it makes of each
each-unmade : {X Y : Type 0} (P : Y → Type 0) (f : X → Y) (xs : List X)
    → AllByRecursion P (map f xs) → AllByRecursion (λ x. P (f x)) xs
each-unmade P f [] a = tt
each-unmade P f (x ∷ xs) a = (a.0, each-unmade P f xs a.1)

-- what holds of all that pass holds of each where it passes
each-unfiltered : {X : Type 0} (P : X → Type 0) (p : X → Bool) (xs : List X)
    → AllByRecursion P (filter p xs) → AllByRecursion (λ x. p x ≡ true → P x) xs
each-unfiltered P p [] a = tt
each-unfiltered P p (x ∷ xs) a = go (p x) refl a (each-unfiltered P p xs)
  where
    go : (b : Bool) → p x ≡ b → AllByRecursion P (cond b (x ∷ filter p xs) (filter p xs))
        → (AllByRecursion P (filter p xs) → AllByRecursion (λ x. p x ≡ true → P x) xs)
        → AllByRecursion (λ x. p x ≡ true → P x) (x ∷ xs)
    go true e a more = (λ t. a.0, more a.1)
    go false e a more = (λ t. absurd (let bad : false ≡ true = sym e ∙ t in cc), more a)

-- what holds of all in order holds of all
each-uninserted : {X : Type 0} (P : X → Type 0) (lt : X → X → Bool) (x : X) (ys : List X)
    → AllByRecursion P (insert lt x ys) → P x × AllByRecursion P ys
each-uninserted P lt x [] a = (a.0, tt)
each-uninserted P lt x (y ∷ ys) a = go (lt x y) a (each-uninserted P lt x ys)
  where
    go : (b : Bool)
        → AllByRecursion P (if b then x ∷ y ∷ ys else (y ∷ insert lt x ys))
        → (AllByRecursion P (insert lt x ys) → P x × AllByRecursion P ys)
        → P x × AllByRecursion P (y ∷ ys)
    go true a more = (a.0, a.1)
    go false a more = let both = more a.1 in (both.0, (a.0, both.1))

each-unsorted-from : {X : Type 0} (P : X → Type 0) (lt : X → X → Bool) (done xs : List X)
    → AllByRecursion P (ins_from lt done xs) → AllByRecursion P done × AllByRecursion P xs
each-unsorted-from P lt done [] a = (a, tt)
each-unsorted-from P lt done (x ∷ xs) a =
    let more = each-unsorted-from P lt (insert lt x done) xs a in
    let first = each-uninserted P lt x done more.0 in (first.1, (first.0, more.1))

each-unsorted : {X : Type 0} (P : X → Type 0) (lt : X → X → Bool) (xs : List X)
    → AllByRecursion P (ins_sort lt xs) → AllByRecursion P xs
each-unsorted P lt xs a = (each-unsorted-from P lt [] xs a).1

-- the id of what is delivered of a document that is given is the document's
sent-id : (src : ByteList) (version : ℕ) (fl : List ByteList) (doc : Doc)
    → id_of (sent_document src version (cut_to (given_names fl) doc)) ≡ id_of doc
unfolding id_of
sent-id src version fl doc =
    let given = cut_to (given_names fl) doc in
    ap text_of
    (value_put_other id_name source_version_name (long (pos version))
    (put source_name (text src) (without version_name given))
    (λ e. let bad : Less ≡ Equal = e in cc)
    ∙ (value_put_other id_name source_name (text src) (without version_name given)
    (λ e. let bad : Less ≡ Equal = e in cc)
    ∙ (value_without_other id_name version_name given
    (λ e. let bad : Less ≡ Equal = e in cc)
    ∙ value_cut id_name (given_names fl) doc (id-given fl))))

module _ (names : List NameShards) (seen : List Log) (dest src : ByteList) (fl : List ByteList)
    (q : List ClauseTree) (above : List ℕ) where
  -- this version of the document's id or a later one is there
  abbrev IsIn : ℕ × Doc → Type 0
  IsIn d = Reaches d.0 (sents src (id_of d.1)
      (home_history names (histories_in names seen) dest (id_of d.1)))

  -- the item is there
  abbrev IsItemIn : TopicItem → Type 0
  IsItemIn i = IsThereNow names seen dest src (sent_item src (cut_item (given_names fl) i))

  -- so is a document where its item is
  doc-in : (shard : ℕ) (d : ℕ × Doc) → IsItemIn (item_of shard d) → IsIn d
  doc-in shard d r =
      subst (λ n. Reaches d.0 (sents src n
      (home_history names (histories_in names seen) dest n))) (sent-id src d.0 fl d.1) r

  -- the documents of a part that the query takes above the checkpoint
  part-in : (shard : ℕ) (p : CutPart) → IsSeenPart names seen src shard p
      → AllByRecursion IsItemIn (items_in q src above p)
      → AllByRecursion (λ d. is_new q (slice_index above shard) d ≡ true → IsIn d)
      p.snapshot.documents
  part-in shard p s a =
      let collection : p.collection ≡ src = ap (λ (x : CutPart). x.collection) s.is in
      let there : p.shard ≡ shard = ap (λ (x : CutPart). x.shard) s.is in
      let here : bytes_eq p.collection src ≡ true =
      (bytes_eq-Decides p.collection src).1 collection in
      let taken : AllByRecursion IsItemIn
      (new_items q (slice_index above p.shard) p.shard p.snapshot.documents) =
      subst (λ b. AllByRecursion IsItemIn
      (if b then new_items q (slice_index above p.shard) p.shard p.snapshot.documents else []))
      here a in
      let moved : AllByRecursion IsItemIn
      (new_items q (slice_index above shard) shard p.snapshot.documents) =
      subst (λ n. AllByRecursion IsItemIn
      (new_items q (slice_index above n) n p.snapshot.documents)) there taken in
      each_weaker
      (λ (d : ℕ × Doc). is_new q (slice_index above shard) d ≡ true → IsItemIn (item_of shard d))
      (λ d. is_new q (slice_index above shard) d ≡ true → IsIn d)
      (λ d f t. doc-in shard d (f t)) p.snapshot.documents
      (each-unfiltered (λ d. IsItemIn (item_of shard d)) (is_new q (slice_index above shard))
      p.snapshot.documents
      (each-unmade IsItemIn (item_of shard)
      (filter (is_new q (slice_index above shard)) p.snapshot.documents) moved))

  -- the front of a shard's history that was cut, and that what the topic takes of it is there
  record IsFrontIn (shard upto : ℕ) : Type 0 where
    front : History
    more : History
    whole : shard_history names (histories_in names seen) src shard ≡ front ++ more
    reached : upto ≡ top front
    taken : AllByRecursion (λ d. is_new q (slice_index above shard) d ≡ true → IsIn d)
        (current front)

  -- of each shard, by its part
  parts-in : (first k : ℕ) (ps : List CutPart) → first + length ps ≤ shards_of names src
      → AreSeenParts names seen src first ps → AllByRecursion IsItemIn (items_of q src above ps)
      → k < length ps → IsFrontIn (first + k) (slice_index (tops_of ps) k)
  parts-in first k [] le s a lt = absurd (omega arith)
  parts-in first zero (p ∷ ps) le s a lt =
      let log = get_or seen (cell_of names src first) [] in
      let here : first < shards_of names src = omega arith in
      let e : first + 0 ≡ first = omega arith in
      let now : IsFrontIn first (slice_index (tops_of (p ∷ ps)) zero) = record {
        front = history_in (take s.0.upto log);
        more = history_in (drop s.0.upto log);
        whole = history-front names seen src first s.0.upto here;
        reached = ap (λ (x : CutPart). x.snapshot.top) s.0.is;
        taken = subst (AllByRecursion
            (λ d. is_new q (slice_index above first) d ≡ true → IsIn d))
            (ap (λ (x : CutPart). x.snapshot.documents) s.0.is)
            (part-in first p s.0 (each_left IsItemIn (items_in q src above p)
            (items_of q src above ps) a));
      } in
      subst (λ n. IsFrontIn n (slice_index (tops_of (p ∷ ps)) zero)) (sym e) now
  parts-in first (suc k) (p ∷ ps) le s a lt =
      let e : (first + 1) + k ≡ first + suc k = omega arith in
      subst (λ n. IsFrontIn n (slice_index (tops_of ps) k)) e
      (parts-in (first + 1) k ps (omega arith) s.1
      (each_right IsItemIn (items_in q src above p) (items_of q src above ps) a) (omega arith))

  -- what the topic takes of the shard's history, above its checkpoint and up to the cut's top
  front-sent : (b : Binding) (shard low upto : ℕ) → b.src ≡ src
      → ((doc : Doc) → takes b doc → matches q doc ≡ true) → slice_index above shard ≤ low
      → IsFrontIn shard upto
      → AreSent names (histories_in names seen) b dest
      (shard_history names (histories_in names seen) src shard) low upto
  unfolding AreSent
  front-sent b shard low upto same takes-so above_so f =
      let hs = histories_in names seen in
      let sent : AllByRecursion (λ (d : ℕ × Doc). takes b d.1 → low < d.0 → d.0 ≤ upto
      → IsSent names hs b dest d) (current f.front) =
      each_weaker (λ (d : ℕ × Doc). is_new q (slice_index above shard) d ≡ true → IsIn d)
      (λ d. takes b d.1 → low < d.0 → d.0 ≤ upto → IsSent names hs b dest d)
      (λ d k t above_low below.
      let lower : slice_index above shard < d.0 = omega (arith, above_so, above_low) in
      let new : is_new q (slice_index above shard) d ≡ true =
      ap (λ x. x && matches q d.1) (lt-ltb (slice_index above shard) d.0 lower)
      ∙ takes-so d.1 t in
      subst (λ s. Reaches d.0 (sents s (id_of d.1) (home_history names hs dest (id_of d.1))))
      (sym same) (k new))
      (current f.front) f.taken in
      let later = current-old
      (λ (d : ℕ × Doc). takes b d.1 → low < d.0 → d.0 ≤ upto → IsSent names hs b dest d)
      f.front f.more (versioned (f.front ++ f.more)) sent in
      let reached = f.reached in
      let all : AllByRecursion (IsSentIfTaken names hs b dest low upto)
      (current (f.front ++ f.more)) =
      each_weaker
      (λ (d : ℕ × Doc). d.0 ≤ top f.front → takes b d.1 → low < d.0 → d.0 ≤ upto
      → IsSent names hs b dest d)
      (IsSentIfTaken names hs b dest low upto)
      (λ d k t l u. k (omega (arith, reached, u)) t l u)
      (current (f.front ++ f.more)) later in
      subst (λ h. AllByRecursion (IsSentIfTaken names hs b dest low upto) (current h))
      (sym f.whole) all

-- the query of a topic takes what its text takes
takes-of : (words : ByteList) (clauses : List ClauseTree) (b : Binding)
    → query_of words ≡ Some clauses → b.q ≡ words → (doc : Doc) → takes b doc
    → matches clauses doc ≡ true
unfolding takes text_matches
takes-of words clauses b reads same doc t =
    let e : may_match (query_of b.q) doc ≡ may_match (Some clauses) doc =
    ap (λ x. may_match (query_of x) doc) same ∙ ap (λ o. may_match o doc) reads in
    sym e ∙ t

-- once all that a topic gives of a cut is there, the cut's tops may be stored
pub may-store : (names : List NameShards) (seen : List Log) (p : TopicParts) (dest : ByteList)
    (before : List ℕ) (cut : List CutPart) → query_of p.q_text ≡ Some p.q
    → HasBegun names seen (asked_of p (Some dest)) before
    → IsSeenCut names seen p.collection cut
    → AreThereNow names seen dest p.collection (topic_items p cut before)
    → MayStore names (histories_in names seen) (asked_of p (Some dest)).key (tops_of cut)
may-store names seen p dest before cut reads h c a =
    let begun = h.begun in
    let alike = begun.alike in
    let items : AllByRecursion (IsThereNow names seen dest p.collection)
    (map (sent_item p.collection) (topic_items p cut before)) = a in
    let whole = each-unsorted
    (λ i. IsThereNow names seen dest p.collection
    (sent_item p.collection (cut_item (given_names p.fl) i)))
    is_before (items_of p.q p.collection before cut)
    (each-unmade (λ i. IsThereNow names seen dest p.collection (sent_item p.collection i))
    (cut_item (given_names p.fl)) (whole_batch p.q p.collection before cut)
    (each-unmade (IsThereNow names seen dest p.collection) (sent_item p.collection)
    (topic_items p cut before) items)) in
    let there = subst (λ s. IsSeenCut names seen s cut) (sym alike.src) c in
    let counted = c.counted in
    record {
      binding = begun.kept;
      bound = begun.bound;
      counted = tops-counted names seen begun.kept.src cut there;
      reached = cut-reached names seen begun.kept.src cut there;
      sent = λ other to shard lt.
          let same : other ≡ dest =
          let e : Some other ≡ Some dest = sym to ∙ alike.dest in cc in
          let below : shard < shards_of names p.collection =
          subst (λ s. shard < shards_of names s) alike.src lt in
          let e : 0 + shard ≡ shard = omega arith in
          let front = subst (λ n. IsFrontIn names seen dest p.collection p.fl p.q before n
          (slice_index (tops_of cut) shard)) e
          (parts-in names seen dest p.collection p.fl p.q before 0 shard cut
          (omega (arith, counted)) c.parts whole (omega (arith, counted, below))) in
          let low = checkpoint (asked_of p (Some dest)).key (histories_in names seen).book shard in
          let sent = front-sent names seen dest p.collection p.fl p.q before begun.kept shard low
          (slice_index (tops_of cut) shard) alike.src
          (takes-of p.q_text p.q begun.kept reads alike.q) (begun.above shard) front in
          subst (λ d. AreSent names (histories_in names seen) begun.kept d
          (shard_history names (histories_in names seen) begun.kept.src shard) low
          (slice_index (tops_of cut) shard)) (sym same)
          (subst (λ s. AreSent names (histories_in names seen) begun.kept dest
          (shard_history names (histories_in names seen) s shard) low
          (slice_index (tops_of cut) shard)) (sym alike.src) sent);
    }
