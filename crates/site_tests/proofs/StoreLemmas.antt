-- Once the items of a cut are at the destination of a topic, the cut's tops may be stored.
use Rattle.std.proofs.Common.{◌≡◌, ℕ, zero, suc, ◌+◌, ◌<◌, ◌≤◌, List, [], ◌∷◌, ◌++◌, length, get_or, take, drop, map, slice_index, sym, ap, ◌∙◌, subst, arith, Some}
use Rattle.std.specs.Prelude.{pos}
use Rattle.std.specs.List.{AllByRecursion}
use Rattle.std.specs.declared.cmp.Ordering.TheVariants.{Less, Equal}
use Rattle.tuple_values.specs.Document.{ByteList, Doc, long, put, text, without}
use Rattle.tuple_values.specs.declared.names.NameShards.{NameShards}
use Rattle.tuple_values.proofs.MapLemmas.{value_put_other, value_without_other}
use Rattle.shard_versions.specs.Deliveries.{Reaches, sents}
use Rattle.shard_versions.specs.Documents.{id_name, id_of, source_name, source_version_name, text_of, version_name}
use Rattle.shard_versions.specs.Histories.{History, current, top}
use Rattle.shard_versions.specs.declared.cut.CutPart.{CutPart}
use Rattle.shard_versions.proofs.ListLemmas.{each_left, each_right, each_weaker}
use Rattle.shard_versions.proofs.VersionLemmas.{current-old, versioned}
use Rattle.topic_book.specs.Books.{checkpoint}
use Rattle.topic_book.specs.Cells.{cell_of}
use Rattle.topic_book.specs.Fitness.{shards_of}
use Rattle.topic_book.specs.declared.topic.Binding.{Binding}
use Rattle.topic_book.specs.declared.topic.TopicKey.{TopicKey}
use Rattle.once_core.specs.Allowed.{MayStore}
use Rattle.once_core.specs.Cells.{home_history, shard_history}
use Rattle.once_core.specs.Law.{AreSent, IsSent, IsSentIfTaken}
use Rattle.exchange_rules.specs.Cells.{Log, history_in}
use Rattle.exchange_rules.specs.Topics.{tops_of}
use Rattle.site_laws.specs.SiteCells.{histories_in}
use Rattle.case_items.specs.Items.{made_document, made_item, made_items}
use Rattle.update_sink.specs.Given.{IsThereNow}
use Rattle.update_sink.proofs.BeginLemmas.{AreSeenParts, IsSeenCut, cut-reached, history-front, tops-counted}
use Rattle.site_tests.specs.Sights.{IsCutOf, IsTopic}
use Rattle.site_tests.proofs.SightLemmas.{seen-cut}

-- the id of what is delivered of a document is the document's
made-id : (src : ByteList) (version : ℕ) (shown : Doc)
    → id_of (made_document src version shown) ≡ id_of shown
unfolding id_of
made-id src version shown =
    let rest = without version_name shown in
    ap text_of
    (value_put_other id_name source_version_name (long (pos version))
    (put source_name (text src) rest) (λ e. let bad : Less ≡ Equal = e in cc)
    ∙ (value_put_other id_name source_name (text src) rest
    (λ e. let bad : Less ≡ Equal = e in cc)
    ∙ value_without_other id_name version_name shown (λ e. let bad : Less ≡ Equal = e in cc)))

module _ (names : List NameShards) (seen : List Log) (dest src : ByteList) where
  -- this version of the document's id or a later one is there
  abbrev IsIn : ℕ × Doc → Type 0
  IsIn d = Reaches d.0 (sents src (id_of d.1)
      (home_history names (histories_in names seen) dest (id_of d.1)))

  -- so is each document whose item is
  documents-in : (ds : List (ℕ × Doc))
      → AllByRecursion (IsThereNow names seen dest src) (map (made_item src) ds)
      → AllByRecursion IsIn ds
  documents-in [] a = tt
  documents-in (d ∷ ds) a = (
    subst (λ n. Reaches d.0 (sents src n (home_history names (histories_in names seen) dest n)))
        (made-id src d.0 d.1) a.0,
    documents-in ds a.1,
  )

  -- the front of a shard's history that was cut up to this top, whose documents are there
  record IsFrontIn (shard upto : ℕ) : Type 0 where
    front : History
    more : History
    whole : shard_history names (histories_in names seen) src shard ≡ front ++ more
    reached : upto ≡ top front
    there : AllByRecursion IsIn (current front)

  -- of each shard, by its part
  parts-in : (first k : ℕ) (ps : List CutPart) → first + length ps ≤ shards_of names src
      → AreSeenParts names seen src first ps
      → AllByRecursion (IsThereNow names seen dest src) (made_items src ps)
      → k < length ps → IsFrontIn (first + k) (slice_index (tops_of ps) k)
  parts-in first k [] le s a lt = absurd (omega arith)
  parts-in first zero (p ∷ ps) le s a lt =
      let log = get_or seen (cell_of names src first) [] in
      let here : first < shards_of names src = omega arith in
      let e : first + 0 ≡ first = omega arith in
      let now : IsFrontIn first (slice_index (tops_of (p ∷ ps)) zero) = record {
        front = history_in (take s.0.upto log);
        more = history_in (drop s.0.upto log);
        whole = history-front names seen src first s.0.upto here;
        reached = ap (λ (x : CutPart). x.snapshot.top) s.0.is;
        there = subst (AllByRecursion IsIn)
            (ap (λ (x : CutPart). x.snapshot.documents) s.0.is)
            (documents-in p.snapshot.documents
            (each_left (IsThereNow names seen dest src)
            (map (made_item src) p.snapshot.documents) (made_items src ps) a));
      } in
      subst (λ n. IsFrontIn n (slice_index (tops_of (p ∷ ps)) zero)) (sym e) now
  parts-in first (suc k) (p ∷ ps) le s a lt =
      let e : (first + 1) + k ≡ first + suc k = omega arith in
      subst (λ n. IsFrontIn n (slice_index (tops_of ps) k)) e
      (parts-in (first + 1) k ps (omega arith) s.1
      (each_right (IsThereNow names seen dest src)
      (map (made_item src) p.snapshot.documents) (made_items src ps) a) (omega arith))

  -- what the topic takes of the shard's history up to the cut's top was sent
  front-sent : (b : Binding) (shard low upto : ℕ) → b.src ≡ src → IsFrontIn shard upto
      → AreSent names (histories_in names seen) b dest
      (shard_history names (histories_in names seen) src shard) low upto
  unfolding AreSent
  front-sent b shard low upto same f =
      let hs = histories_in names seen in
      let sent : AllByRecursion (IsSent names hs b dest) (current f.front) =
      each_weaker IsIn (IsSent names hs b dest)
      (λ d r. subst (λ s. Reaches d.0 (sents s (id_of d.1) (home_history names hs dest (id_of d.1))))
      (sym same) r) (current f.front) f.there in
      let later = current-old (IsSent names hs b dest) f.front f.more
      (versioned (f.front ++ f.more)) sent in
      let reached = f.reached in
      let all : AllByRecursion (IsSentIfTaken names hs b dest low upto)
      (current (f.front ++ f.more)) =
      each_weaker (λ (d : ℕ × Doc). d.0 ≤ top f.front → IsSent names hs b dest d)
      (IsSentIfTaken names hs b dest low upto)
      (λ d k t l u. k (omega (arith, reached, u))) (current (f.front ++ f.more)) later in
      subst (λ h. AllByRecursion (IsSentIfTaken names hs b dest low upto) (current h))
      (sym f.whole) all

-- a topic's checkpoint may be stored where the items of a cut of its source are at its destination
pub may-store : (names : List NameShards) (seen : List Log) (key : TopicKey)
    (src dest : ByteList) (cut : List CutPart) → IsTopic names seen key src dest
    → IsCutOf names seen src cut
    → AllByRecursion (IsThereNow names seen dest src) (made_items src cut)
    → MayStore names (histories_in names seen) key (tops_of cut)
may-store names seen key src dest cut t c a =
    let hs = histories_in names seen in
    let from = t.from in
    let s = seen-cut names seen src cut c in
    let counted = s.counted in
    let there = subst (λ x. IsSeenCut names seen x cut) (sym from) s in
    record {
      binding = t.binding;
      bound = t.bound;
      counted = tops-counted names seen t.binding.src cut there;
      reached = cut-reached names seen t.binding.src cut there;
      sent = λ other to shard lt.
          let same : other ≡ dest = let e : Some other ≡ Some dest = sym to ∙ t.to in cc in
          let below : shard < shards_of names src =
          subst (λ x. shard < shards_of names x) from lt in
          let e : 0 + shard ≡ shard = omega arith in
          let front = subst (λ n. IsFrontIn names seen dest src n
          (slice_index (tops_of cut) shard)) e
          (parts-in names seen dest src 0 shard cut (omega (arith, counted)) s.parts a
          (omega (arith, counted, below))) in
          let low = checkpoint key hs.book shard in
          let upto = slice_index (tops_of cut) shard in
          let sent = front-sent names seen dest src t.binding shard low upto from front in
          subst (λ d. AreSent names hs t.binding d
          (shard_history names hs t.binding.src shard) low upto) (sym same)
          (subst (λ x. AreSent names hs t.binding dest (shard_history names hs x shard) low upto)
          (sym from) sent);
    }
