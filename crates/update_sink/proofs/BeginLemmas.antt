-- What a writer has seen of a topic that it began, and of its source.
use Rattle.std.proofs.Common.{◌≡◌, ℕ, zero, suc, ◌+◌, ◌<◌, ◌≤◌, Bool, true, false, List, [], ◌∷◌, ◌++◌, length, get_or, set, take, drop, slice_index, refl, sym, ap, ◌∙◌, subst, arith, append_assoc, append-nil, Option, Some, None, Result, Ok, Err}
use Rattle.std.specs.Prelude.{nat_lt, if◌then◌else◌, option_map, unwrap_or}
use Rattle.tuple_values.specs.Document.{ByteList}
use Rattle.tuple_values.specs.declared.names.NameShards.{NameShards}
use Rattle.shard_versions.specs.Histories.{top}
use Rattle.shard_versions.specs.declared.cut.CutPart.{CutPart}
use Rattle.shard_versions.proofs.VersionLemmas.{top-grows, versioned}
use Rattle.topic_book.specs.Alike.{is_alike}
use Rattle.topic_book.specs.Books.{Book, binding_of, checkpoint, checkpoints, checkpoints_at, topics_in, values_from, IsAlike}
use Rattle.topic_book.specs.Cells.{cells_in, cell_of}
use Rattle.topic_book.specs.Fitness.{shards_of}
use Rattle.topic_book.specs.declared.topic.Binding.{Binding}
use Rattle.topic_book.specs.declared.topic.BookEntry.TheVariants as book
use Rattle.topic_book.specs.declared.topic.TopicKey.{TopicKey}
use Rattle.topic_book.proofs.AlikeLemmas.{alike_tells}
use Rattle.topic_book.proofs.BookLemmas.{binding-new, binding-stays, checkpoint-append}
use Rattle.topic_book.proofs.TopicLemmas.{same_key-self}
use Rattle.once_core.specs.Allowed.{AreReached, MayStore}
use Rattle.once_core.specs.Cells.{shard_history}
use Rattle.exchange_rules.specs.Accesses.{Access, at_mark}
use Rattle.exchange_rules.specs.Bindings.{bind_again, bind_course, bind_seen, book_cell, bound_checkpoint, checkpoint_in, topic_state_course}
use Rattle.exchange_rules.specs.Cells.{Log, bind, book_in, history_in, signed}
use Rattle.exchange_rules.specs.Courses.{Course, ends, makes, and_then}
use Rattle.exchange_rules.specs.Following.{Follows, Grows, Answers, Writer, counts}
use Rattle.exchange_rules.specs.Rows.{cut_course, cut_shards, part_of}
use Rattle.exchange_rules.specs.Topics.{Asked, begin_course, binding_for, init_course, source_course, tops_of}
use Rattle.exchange_rules.specs.declared.fault.SiteFault.{SiteFault}
use Rattle.exchange_rules.specs.declared.fault.SiteFault.TheVariants.{TopicBound, BookFull}
use Rattle.exchange_rules.proofs.BindingLemmas.{bound_by}
use Rattle.exchange_rules.proofs.CellLemmas.{cell_of-within}
use Rattle.exchange_rules.proofs.GrowthLemmas.{grows_at, length_still, take_still}
use Rattle.site_laws.specs.SiteCells.{histories_in}
use Rattle.site_laws.proofs.CellLemmas.{book-append, history-append, shard-at}
use Rattle.std.proofs.lemmas.List.{length-map, take-append-drop}
use Rattle.update_sink.proofs.PartLemmas.{Looked, ended-of, look-begins, looked-of, made-of, parted-of, step-behind}

-- in the book that was seen the topic is bound alike, and these versions are at most its checkpoint
pub record IsBegun (names : List NameShards) (seen : List Log) (key : TopicKey) (b : Binding)
    (before : List ℕ) : Type 0 where
  pub kept : Binding
  pub bound : binding_of key (histories_in names seen).book ≡ Some kept
  pub alike : IsAlike kept b
  pub above : (shard : ℕ)
      → slice_index before shard ≤ checkpoint key (histories_in names seen).book shard

-- the value at a place is at most the function's there
values-below : (f : ℕ → ℕ) (first count k : ℕ)
    → slice_index (values_from f first count) k ≤ f (first + k)
values-below f first zero k = omega arith
values-below f first (suc count) zero =
    let e : first + 0 ≡ first = omega arith in
    subst (λ n. f first ≤ f n) (sym e) (omega arith)
values-below f first (suc count) (suc k) =
    let e : (first + 1) + k ≡ first + suc k = omega arith in
    subst (λ n. slice_index (values_from f (first + 1) count) k ≤ f n) e
    (values-below f (first + 1) count k)

-- so is a checkpoint
checkpoint-below : (key : TopicKey) (b : Book) (shard : ℕ)
    → slice_index (checkpoint_in key b) shard ≤ checkpoint key b shard
unfolding checkpoints checkpoints_at
checkpoint-below key b shard = go (binding_of key b)
  where
    go : (o : Option Binding)
        → slice_index (unwrap_or (option_map (λ (c : Binding).
        values_from (checkpoint key b) 0 (length c.init)) o) []) shard
        ≤ checkpoint key b shard
    go None = omega arith
    go (Some c) =
        let e : 0 + shard ≡ shard = omega arith in
        subst (λ n. slice_index (values_from (checkpoint key b) 0 (length c.init)) shard
        ≤ checkpoint key b n) e (values-below (checkpoint key b) 0 (length c.init) shard)

-- an only Bind of a topic binds it
bound-alone : (me : ℕ) (key : TopicKey) (b : Binding) (more : Book)
    → binding_of key (book.Bind me key b ∷ more) ≡ Some b
unfolding binding_of
bound-alone me key b more =
    ap (λ t. if t then Some b else binding_of key more) (same_key-self key)

module _ (names : List NameShards) (seen : List Log) (key : TopicKey) (b : Binding)
    (before : List ℕ) where
  -- by the front of the book
  from-front : (front more : Book) (kept : Binding)
      → (histories_in names seen).book ≡ front ++ more → binding_of key front ≡ Some kept
      → IsAlike kept b → before ≡ checkpoint_in key front → IsBegun names seen key b before
  from-front front more kept is bound alike upto = record {
    kept = kept;
    bound = ap (binding_of key) is ∙ binding-stays key kept front more bound;
    alike = alike;
    above = λ shard.
        let low : slice_index before shard ≤ checkpoint key front shard =
        subst (λ l. slice_index l shard ≤ checkpoint key front shard) (sym upto)
        (checkpoint-below key front shard) in
        let up = checkpoint-append key front more shard in
        subst (λ x. slice_index before shard ≤ checkpoint key x shard) (sym is)
        (omega (arith, low, up));
  }

  -- where it was bound alike
  was-bound : (me : ℕ) (had : List ℕ) (front more : Book) (kept : Binding)
      (accesses : List Access) (end : List ℕ)
      → (histories_in names seen).book ≡ front ++ more → binding_of key front ≡ Some kept
      → Follows me seen had (bind_again key b front kept) accesses (ends (Ok before)) end
      → IsBegun names seen key b before
  was-bound me had front more kept accesses end is bound f = go (is_alike kept b) refl f
    where
      go : (t : Bool) → is_alike kept b ≡ t
          → Follows me seen had
          (if t then ends (Ok (checkpoint_in key front)) else ends (Err (TopicBound kept)))
          accesses (ends (Ok before)) end
          → IsBegun names seen key b before
      go true e f =
          let same : Ok before ≡ Ok (checkpoint_in key front) =
          ended-of me seen had (Ok (checkpoint_in key front)) accesses (Ok before) end f in
          let upto : before ≡ checkpoint_in key front = cc in
          from-front front more kept is bound ((alike_tells kept b).0 e) upto
      go false e f =
          let same : Ok before ≡ Err (TopicBound kept) =
          ended-of me seen had (Err (TopicBound kept)) accesses (Ok before) end f in
          absurd (cc)

  -- where it is bound by this writer
  is-bound : (me : ℕ) (front more : Book) → binding_of key front ≡ None
      → (histories_in names seen).book ≡ front ++ (book.Bind me key b ∷ more)
      → before ≡ bound_checkpoint key front b → IsBegun names seen key b before
  is-bound me front more none is upto =
      let mine = front ++ book.Bind me key b ∷ [] in
      from-front mine more b
      (is ∙ sym (append_assoc front (book.Bind me key b ∷ []) more))
      (binding-new key front (book.Bind me key b ∷ []) none ∙ bound-alone me key b [])
      (record { src = refl; q = refl; fields = refl; dest = refl })
      (upto ∙ sym (bound_by me key b front))

-- after a Bind that was answered
pub begun-of : (me : ℕ) (seen : List Log) (had : List ℕ) (names : List NameShards)
    (key : TopicKey) (b : Binding) (before : List ℕ) (accesses : List Access) (end : List ℕ)
    → Follows me seen had (bind_course names key b) accesses (ends (Ok before)) end
    → IsBegun names seen key b before
begun-of me seen had names key b before accesses end f =
    go (binding_of key front) refl l.went_on
  where
    n : ℕ
    n = book_cell names

    see : Log → Course (Result (List ℕ) SiteFault)
    see log = bind_seen names key b (book_in log) (binding_of key (book_in log))

    l : Looked me seen had n see (Ok before) end
    l = looked-of me seen had n see accesses (Ok before) end f

    front : Book
    front = book_in (at_mark seen l.mark)

    after : List ℕ
    after = set had l.mark.cell l.mark.upto

    go : (o : Option Binding) → binding_of key front ≡ o
        → Follows me seen after (bind_seen names key b front o) l.later (ends (Ok before)) end
        → IsBegun names seen key b before
    go (Some kept) e f =
        let whole = look-begins me seen had n l.mark l.look in
        was-bound names seen key b before me after front
        (book_in (drop l.mark.upto (get_or seen n []))) kept l.later end
        (ap book_in whole
        ∙ book-append (at_mark seen l.mark) (drop l.mark.upto (get_or seen n [])))
        e f
    go None e f = few (nat_lt (topics_in front) 1000) f
      where
        few : (t : Bool)
            → Follows me seen after
            (if t
            then makes n (bind key b ∷ []) (ends (Ok (bound_checkpoint key front b)))
            else ends (Err (BookFull (topics_in front)))) l.later (ends (Ok before)) end
            → IsBegun names seen key b before
        few true f =
            let m = made-of me seen after n (bind key b ∷ [])
            (ends (Ok (bound_checkpoint key front b))) l.later (Ok before) end f in
            let whole = step-behind me seen had n l.mark l.look (bind key b ∷ []) m.mark m.own in
            let rest = drop m.mark.count (drop l.mark.upto (get_or seen n [])) in
            let same : Ok before ≡ Ok (bound_checkpoint key front b) =
            ended-of me seen _ (Ok (bound_checkpoint key front b)) m.later (Ok before) end
            m.went_on in
            let upto : before ≡ bound_checkpoint key front b = cc in
            is-bound names seen key b before me front (book_in rest) e
            (ap book_in whole
            ∙ book-append (at_mark seen l.mark) (signed me (bind key b ∷ []) ++ rest))
            upto
        few false f =
            let same : Ok before ≡ Err (BookFull (topics_in front)) =
            ended-of me seen after (Err (BookFull (topics_in front))) l.later (Ok before) end f in
            absurd (cc)

-- the topic was begun, from some versions on
pub record HasBegun (names : List NameShards) (seen : List Log) (t : Asked) (before : List ℕ)
    : Type 0 where
  pub init : List ℕ
  pub begun : IsBegun names seen t.key (binding_for t init) before

-- after it was begun
pub has-begun : (old new : Writer) (names : List NameShards) (t : Asked) (before : List ℕ)
    → Answers old new (begin_course names t) (Ok before) → HasBegun names new.seen t before
has-begun old new names t before r =
    let p = parted-of old.me new.seen (counts old.seen) (topic_state_course names t.key)
    (λ state. and_then (init_course names t.src t.init state) (λ init.
    bind_course names t.key (binding_for t init))) r.accesses (Ok before) (counts new.seen)
    r.followed in
    let q = parted-of old.me new.seen p.mid (init_course names t.src t.init p.answer)
    (λ init. bind_course names t.key (binding_for t init)) p.last (Ok before) (counts new.seen)
    p.went_on in
    record {
      init = q.answer;
      begun = begun-of old.me new.seen q.mid names t.key (binding_for t q.answer) before q.last
          (counts new.seen) q.went_on;
    }

-- it stays so as more is seen
pub begun-later : (names : List NameShards) (seen later : List Log) (key : TopicKey) (b : Binding)
    (before : List ℕ) → Grows seen later → IsBegun names seen key b before
    → IsBegun names later key b before
begun-later names seen later key b before g begun =
    let n = cells_in names in
    let more = grows_at seen later g n in
    let is : (histories_in names later).book
    ≡ (histories_in names seen).book ++ book_in more.0 =
    ap book_in more.1 ∙ book-append (get_or seen n []) more.0 in
    record {
      kept = begun.kept;
      bound = ap (binding_of key) is
          ∙ binding-stays key begun.kept (histories_in names seen).book (book_in more.0)
          begun.bound;
      alike = begun.alike;
      above = λ shard.
          let low = begun.above shard in
          let up = checkpoint-append key (histories_in names seen).book (book_in more.0) shard in
          subst (λ x. slice_index before shard ≤ checkpoint key x shard) (sym is)
          (omega (arith, low, up));
    }

-- the part shows entries of the source's shard, from the first on, that were seen
pub record IsSeenPart (names : List NameShards) (seen : List Log) (src : ByteList) (shard : ℕ)
    (p : CutPart) : Type 0 where
  pub upto : ℕ
  pub within : upto ≤ length (get_or seen (cell_of names src shard) [])
  pub is : p ≡ part_of src shard
      (history_in (take upto (get_or seen (cell_of names src shard) [])))

-- so do these parts of its shards, from this one on
abbrev pub AreSeenParts : List NameShards → List Log → ByteList → ℕ → List CutPart → Type 0
AreSeenParts names seen src shard [] = Unit {0}
AreSeenParts names seen src shard (p ∷ ps) =
    IsSeenPart names seen src shard p × AreSeenParts names seen src (shard + 1) ps

-- the cut has a part for each shard of the source
pub record IsSeenCut (names : List NameShards) (seen : List Log) (src : ByteList)
    (cut : List CutPart) : Type 0 where
  pub counted : length cut ≡ shards_of names src
  pub parts : AreSeenParts names seen src 0 cut

-- what is behind a cut after looks at so many shards
record AreCut (names : List NameShards) (seen : List Log) (src : ByteList) (shard left : ℕ)
    (cut result : List CutPart) : Type 0 where
  parts : List CutPart
  is : result ≡ cut ++ parts
  counted : length parts ≡ left
  seen_so : AreSeenParts names seen src shard parts

-- after looks at shards, one after another
shards-cut : (me : ℕ) (seen : List Log) (had : List ℕ) (names : List NameShards) (src : ByteList)
    (shard left : ℕ) (cut result : List CutPart) (accesses : List Access) (end : List ℕ)
    → Follows me seen had (cut_shards names src shard left cut) accesses (ends result) end
    → AreCut names seen src shard left cut result
shards-cut me seen had names src shard zero cut result accesses end f = record {
  parts = [];
  is = ended-of me seen had cut accesses result end f ∙ sym (append-nil cut);
  counted = refl;
  seen_so = tt;
}
shards-cut me seen had names src shard (suc left) cut result accesses end f =
    let cell = cell_of names src shard in
    let see : Log → Course (List CutPart) = λ log.
    cut_shards names src (shard + 1) left
    (cut ++ part_of src shard (history_in log) ∷ []) in
    let l = looked-of me seen had cell see accesses result end f in
    let part = part_of src shard (history_in (at_mark seen l.mark)) in
    let rest = shards-cut me seen (set had l.mark.cell l.mark.upto) names src (shard + 1) left
    (cut ++ part ∷ []) result l.later end l.went_on in
    record {
      parts = part ∷ rest.parts;
      is = rest.is ∙ append_assoc cut (part ∷ []) rest.parts;
      counted = ap suc rest.counted;
      seen_so = (
        record {
          upto = l.mark.upto;
          within = l.look.within;
          is = ap (λ c. part_of src shard (history_in (take l.mark.upto (get_or seen c []))))
              l.look.cell_is;
        },
        rest.seen_so,
      );
    }

-- after a cut of the source
pub cut-of : (old new : Writer) (names : List NameShards) (src : ByteList) (cut : List CutPart)
    → Answers old new (source_course names src) cut → IsSeenCut names new.seen src cut
cut-of old new names src cut r =
    let n = shards_of names src in
    let p = parted-of old.me new.seen (counts old.seen) (cut_shards names src 0 n [])
    (λ cut. cut_course names cut []) r.accesses cut (counts new.seen) r.followed in
    let all = shards-cut old.me new.seen (counts old.seen) names src 0 n [] p.answer p.first p.mid
    p.began in
    let same : cut ≡ p.answer =
    ended-of old.me new.seen p.mid p.answer p.last cut (counts new.seen) p.went_on in
    let is : cut ≡ all.parts = same ∙ all.is in
    record {
      counted = ap length is ∙ all.counted;
      parts = subst (AreSeenParts names new.seen src 0) (sym is) all.seen_so;
    }

-- parts stay so as more is seen
parts-later : (names : List NameShards) (seen later : List Log) (src : ByteList) (shard : ℕ)
    (ps : List CutPart) → Grows seen later → AreSeenParts names seen src shard ps
    → AreSeenParts names later src shard ps
parts-later names seen later src shard [] g a = tt
parts-later names seen later src shard (p ∷ ps) g a =
    let cell = cell_of names src shard in
    let more = grows_at seen later g cell in
    let still = take_still (get_or seen cell []) (get_or later cell []) a.0.upto more
    a.0.within in (
      record {
        upto = a.0.upto;
        within = length_still (get_or seen cell []) (get_or later cell []) a.0.upto more
            a.0.within;
        is = a.0.is ∙ ap (λ l. part_of src shard (history_in l)) (sym still);
      },
      parts-later names seen later src (shard + 1) ps g a.1,
    )

pub cut-later : (names : List NameShards) (seen later : List Log) (src : ByteList)
    (cut : List CutPart) → Grows seen later → IsSeenCut names seen src cut
    → IsSeenCut names later src cut
cut-later names seen later src cut g c = record {
  counted = c.counted;
  parts = parts-later names seen later src 0 cut g c.parts;
}

-- the first entries of a shard's cell are the front of its history
pub history-front : (names : List NameShards) (seen : List Log) (src : ByteList) (shard upto : ℕ)
    → shard < shards_of names src
    → shard_history names (histories_in names seen) src shard
    ≡ history_in (take upto (get_or seen (cell_of names src shard) []))
    ++ history_in (drop upto (get_or seen (cell_of names src shard) []))
history-front names seen src shard upto lt =
    let cell = cell_of names src shard in
    let log = get_or seen cell [] in
    shard-at (cells_in names) seen cell (cell_of-within names src shard lt)
    ∙ (ap history_in (sym (take-append-drop upto log))
    ∙ history-append (take upto log) (drop upto log))

-- the tops of the parts are at most those of the shards
tops-reached : (names : List NameShards) (seen : List Log) (src : ByteList) (first k : ℕ)
    (ps : List CutPart) → AreSeenParts names seen src first ps
    → first + length ps ≤ shards_of names src → k < length ps
    → slice_index (tops_of ps) k
    ≤ top (shard_history names (histories_in names seen) src (first + k))
tops-reached names seen src first k [] a le lt = absurd (omega arith)
tops-reached names seen src first zero (p ∷ ps) a le lt =
    let here : first < shards_of names src = omega arith in
    let log = get_or seen (cell_of names src first) [] in
    let front = history_in (take a.0.upto log) in
    let more = history_in (drop a.0.upto log) in
    let whole = history-front names seen src first a.0.upto here in
    let up = top-grows front more (versioned (front ++ more)) in
    let shown : p.snapshot.top ≡ top front = ap (λ (x : CutPart). x.snapshot.top) a.0.is in
    let e : first + 0 ≡ first = omega arith in
    subst (λ s. p.snapshot.top ≤ top (shard_history names (histories_in names seen) src s)) (sym e)
    (subst (λ h. p.snapshot.top ≤ top h) (sym whole) (omega (arith, shown, up)))
tops-reached names seen src first (suc k) (p ∷ ps) a le lt =
    let e : (first + 1) + k ≡ first + suc k = omega arith in
    subst (λ s. slice_index (tops_of ps) k
    ≤ top (shard_history names (histories_in names seen) src s)) e
    (tops-reached names seen src (first + 1) k ps a.1 (omega arith) (omega arith))

pub cut-reached : (names : List NameShards) (seen : List Log) (src : ByteList)
    (cut : List CutPart) → IsSeenCut names seen src cut
    → AreReached names (histories_in names seen) src (tops_of cut)
cut-reached names seen src cut c shard lt =
    let e : 0 + shard ≡ shard = omega arith in
    subst (λ s. slice_index (tops_of cut) shard
    ≤ top (shard_history names (histories_in names seen) src s)) e
    (tops-reached names seen src 0 shard cut c.parts (omega (arith, c.counted))
    (omega (arith, c.counted, lt)))

-- the tops of a cut are as many as its source has shards
pub tops-counted : (names : List NameShards) (seen : List Log) (src : ByteList)
    (cut : List CutPart) → IsSeenCut names seen src cut
    → length (tops_of cut) ≡ shards_of names src
tops-counted names seen src cut c =
    let e : length (tops_of cut) ≡ length cut = simp length-map in e ∙ c.counted

-- of a topic that delivers nowhere they may be stored
pub may-store-nowhere : (names : List NameShards) (seen : List Log) (key : TopicKey) (b : Binding)
    (before : List ℕ) (cut : List CutPart) → b.dest ≡ None → IsBegun names seen key b before
    → IsSeenCut names seen b.src cut
    → MayStore names (histories_in names seen) key (tops_of cut)
may-store-nowhere names seen key b before cut nowhere begun c =
    let there = subst (λ s. IsSeenCut names seen s cut) (sym begun.alike.src) c in
    record {
      binding = begun.kept;
      bound = begun.bound;
      counted = tops-counted names seen begun.kept.src cut there;
      reached = cut-reached names seen begun.kept.src cut there;
      sent = λ dest to.
          absurd (let none : None ≡ Some dest = sym (begun.alike.dest ∙ nowhere) ∙ to in cc);
    }
