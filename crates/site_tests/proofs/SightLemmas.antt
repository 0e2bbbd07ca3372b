-- What a pass has seen of a topic, and of a cut of its source.
use Rattle.std.proofs.Common.{◌≡◌, ℕ, List, [], ◌∷◌, ◌++◌, get_or, ap, ◌∙◌, subst, Option, Some, None, Result, Ok, Err}
use Rattle.std.specs.Prelude.{◌<◌, IfSome, IsSome}
use Rattle.std.specs.List.{AllByRecursion}
use Rattle.tuple_values.specs.Document.{ByteList}
use Rattle.tuple_values.specs.declared.names.NameShards.{NameShards}
use Rattle.shard_versions.specs.declared.cut.CutPart.{CutPart}
use Rattle.topic_book.specs.Books.{binding_of}
use Rattle.topic_book.specs.Cells.{cells_in}
use Rattle.topic_book.specs.Fitness.{shards_of}
use Rattle.topic_book.specs.declared.topic.Binding.{Binding}
use Rattle.topic_book.specs.declared.topic.TopicKey.{TopicKey}
use Rattle.topic_book.proofs.BookLemmas.{binding-stays}
use Rattle.exchange_rules.specs.Bindings.{bind_course}
use Rattle.exchange_rules.specs.Calls.{Answered, Completed}
use Rattle.exchange_rules.specs.Cells.{Log, book_in}
use Rattle.exchange_rules.specs.Courses.{Course}
use Rattle.exchange_rules.specs.Following.{Answers, Grows, Writer, counts}
use Rattle.exchange_rules.specs.Deliveries.{send_course}
use Rattle.exchange_rules.specs.Rows.{Layout, cut_course}
use Rattle.exchange_rules.specs.declared.batch.BatchItem.{BatchItem}
use Rattle.exchange_rules.specs.declared.batch.Sent.{Sent}
use Rattle.exchange_rules.specs.declared.fault.SiteFault.{SiteFault}
use Rattle.exchange_rules.specs.declared.fault.SiteFault.TheVariants.{ShardFull, TopicBound, BookFull, LogFault, CellClosed, OutOfMemory}
use Rattle.exchange_rules.proofs.GrowthLemmas.{grows_at, grows_join, grows_same}
use Rattle.site_laws.specs.SiteCells.{histories_in}
use Rattle.site_laws.proofs.CellLemmas.{book-append}
use Rattle.update_sink.proofs.BeginLemmas.{IsSeenCut, begun-of, cut-later, cut-of}
use Rattle.update_sink.specs.Given.{IsThereNow}
use Rattle.update_sink.proofs.DeliverLemmas.{sent-there}
use Rattle.site_tests.specs.Sights.{IsCutOf, IsTopic}

-- whatever a call answers, what was seen grew
pub answered-grown : {A : Type 0} (old new : Writer) (course : Course (Result A SiteFault))
    (r : Result A SiteFault) → Answered old new course r → Grows old.seen new.seen
answered-grown old new course (Ok a) h = h.grown
answered-grown old new course (Err (ShardFull collection shard stand)) h = h.grown
answered-grown old new course (Err (TopicBound kept)) h = h.grown
answered-grown old new course (Err (BookFull topics)) h = h.grown
answered-grown old new course (Err (LogFault cell stand)) h = h.0.stood.reached.grown
answered-grown old new course (Err (CellClosed cell stand)) h = h.0.stood.reached.grown
answered-grown old new course (Err (OutOfMemory stand)) h = h.stood.reached.grown

-- so it did in a call that only looks
pub completed-grown : {A : Type 0} (old new : Writer) (course : Course A)
    (r : Result A SiteFault) → Completed old new course r → Grows old.seen new.seen
completed-grown old new course (Ok a) h = h.reached.grown
completed-grown old new course (Err (ShardFull collection shard stand)) h = absurd h
completed-grown old new course (Err (TopicBound kept)) h = absurd h
completed-grown old new course (Err (BookFull topics)) h = absurd h
completed-grown old new course (Err (LogFault cell stand)) h = absurd h
completed-grown old new course (Err (CellClosed cell stand)) h = h.0.stood.reached.grown
completed-grown old new course (Err (OutOfMemory stand)) h = h.stood.reached.grown

-- a topic that was bound has the source and the destination of its binding
pub topic-bound : (old new : Writer) (names : List NameShards) (key : TopicKey) (b : Binding)
    (before : List ℕ) (src dest : ByteList)
    → Answers old new (bind_course names key b) (Ok before) → b.src ≡ src → b.dest ≡ Some dest
    → IsTopic names new.seen key src dest
topic-bound old new names key b before src dest a from to =
    let begun = begun-of old.me new.seen (counts old.seen) names key b before a.accesses
    (counts new.seen) a.followed in
    record {
      binding = begun.kept;
      bound = begun.bound;
      from = begun.alike.src ∙ from;
      to = begun.alike.dest ∙ to;
    }

-- it keeps them as more is seen
pub topic-later : (names : List NameShards) (seen later : List Log) (key : TopicKey)
    (src dest : ByteList) → Grows seen later → IsTopic names seen key src dest
    → IsTopic names later key src dest
topic-later names seen later key src dest g t =
    let n = cells_in names in
    let more = grows_at seen later g n in
    let is : (histories_in names later).book
    ≡ (histories_in names seen).book ++ book_in more.0 =
    ap book_in more.1 ∙ book-append (get_or seen n []) more.0 in
    record {
      binding = t.binding;
      bound = ap (binding_of key) is
          ∙ binding-stays key t.binding (histories_in names seen).book (book_in more.0) t.bound;
      from = t.from;
      to = t.to;
    }

-- the items of a batch that was sent are there
pub items-sent : (old new : Writer) (l : Layout) (dest src : ByteList) (batch : List BatchItem)
    (sent : Sent) → 0 < shards_of l.names dest
    → Answers old new (send_course l dest src batch) (Ok sent)
    → AllByRecursion (IsThereNow l.names new.seen dest src) batch
items-sent old new l dest src batch sent some a =
    sent-there old.me new.seen (counts old.seen) l dest src batch a.accesses sent
    (counts new.seen) some a.followed

-- a cut that was taken of a collection
pub cut-taken : (old new : Writer) (names : List NameShards) (src : ByteList)
    (collections : List ByteList) (cut : List CutPart) → collections ≡ src ∷ []
    → Completed old new (cut_course names [] collections) (Ok cut)
    → IsCutOf names new.seen src cut
cut-taken old new names src collections cut one c =
    let only = subst (λ cs. Completed old new (cut_course names [] cs) (Ok cut)) one c in
    record {
      before = old;
      after = new;
      taken = only.reached;
      since = grows_same new.seen;
    }

-- a cut stays one as more is seen
pub cut-since : (names : List NameShards) (seen later : List Log) (src : ByteList)
    (cut : List CutPart) → Grows seen later → IsCutOf names seen src cut
    → IsCutOf names later src cut
cut-since names seen later src cut g c = record {
  before = c.before;
  after = c.after;
  taken = c.taken;
  since = grows_join c.after.seen seen later c.since g;
}

-- its parts show the shards of the source, in order
pub seen-cut : (names : List NameShards) (seen : List Log) (src : ByteList) (cut : List CutPart)
    → IsCutOf names seen src cut → IsSeenCut names seen src cut
seen-cut names seen src cut c =
    cut-later names c.after.seen seen src cut c.since
    (cut-of c.before c.after names src cut c.taken)

-- what is so wherever something is there is so where it is
pub where-some : {A : Type 0} (P : Type 0) (o : Option A) → IfSome o (λ _. P) → IsSome o → P
where-some P None p s = absurd (cc)
where-some P (Some a) p s = p
