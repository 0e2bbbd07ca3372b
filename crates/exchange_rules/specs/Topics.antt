-- The course of a topic, with what is done of its cut as a parameter, and the delivery of batches
-- (Solr Reference Guide, "Stream Source Reference", topic).
use Rattle.std.specs.Prelude.{ℕ, ◌+◌, List, [], ◌∷◌, length, map, replicate, Option, Some, None, Result, Ok, Err}
use Rattle.tuple_values.specs.Document.{ByteList}
use Rattle.tuple_values.specs.declared.names.NameShards.{NameShards}
use Rattle.shard_versions.specs.declared.cut.CutPart.{CutPart}
use Rattle.topic_book.specs.Fitness.{shards_of}
use Rattle.topic_book.specs.declared.topic.TopicKey.{TopicKey}
use Rattle.topic_book.specs.declared.topic.Binding.{Binding}
use Rattle.exchange_rules.specs.Batches.{Sunk, none_sunk, with_batch, told_sunk, stand_in}
use Rattle.exchange_rules.specs.Bindings.{bind_course, store_course, topic_state_course}
use Rattle.exchange_rules.specs.Courses.{Course, ends, and_then, and_ok}
use Rattle.exchange_rules.specs.Deliveries.{send_course}
use Rattle.exchange_rules.specs.Rows.{Layout, cut_course}
use Rattle.exchange_rules.specs.declared.batch.BatchItem.{BatchItem}
use Rattle.exchange_rules.specs.declared.batch.Sent.{Sent}
use Rattle.exchange_rules.specs.declared.fault.SiteFault.{SiteFault}
use Rattle.exchange_rules.specs.declared.run.TopicFault.{TopicFault}

-- what a topic asks for: its key, its source, the text of its query, its fields, perhaps a
-- destination, and perhaps the number above which it begins
pub record Asked : Type 0 where
  pub key : TopicKey
  pub src : ByteList
  pub q : ByteList
  pub fields : List ByteList
  pub dest : Option ByteList
  pub init : Option ℕ

-- its binding, from these versions on
abbrev pub binding_for : Asked → List ℕ → Binding
binding_for t init = record {
  src = t.src;
  q = t.q;
  fields = t.fields;
  dest = t.dest;
  init = init;
}

-- the tops of the parts of a cut
abbrev pub tops_of : List CutPart → List ℕ
tops_of cut = map (λ p. p.snapshot.top) cut

-- one look at each shard of a collection
abbrev pub source_course : List NameShards → ByteList → Course (List CutPart)
source_course names src = cut_course names [] (src ∷ [])

-- above which versions a topic begins that was seen in this state: the number that is given, for
-- each shard; the tops of a cut, where none is given and it isn't bound; and no matter which where
-- it is bound
abbrev pub init_course : List NameShards → ByteList → Option ℕ → Option (List ℕ)
    → Course (List ℕ)
init_course names src (Some n) state = ends (replicate (shards_of names src) n)
init_course names src None (Some upto) = ends (replicate (shards_of names src) 0)
init_course names src None None = and_then (source_course names src) (λ cut. ends (tops_of cut))

-- what is done of a topic's checkpoint and cut: something, the store of the tops, and the answer
abbrev pub cut_then_store : {A B E : Type 0} → List NameShards → Asked
    → (List ℕ → List CutPart → Course (Result A E)) → (List ℕ → List CutPart → A → B)
    → List ℕ → List CutPart → Course (Result B E)
cut_then_store names t deliver answer before cut =
    and_ok (deliver before cut) (λ a.
    and_ok (store_course names t.key (tops_of cut)) (λ _.
    ends (Ok (answer before cut a))))

-- the same once the topic is bound, or refused
abbrev pub bound_then : {B E : Type 0} → List NameShards → Asked → (SiteFault → E)
    → (List ℕ → List CutPart → Course (Result B E)) → Result (List ℕ) SiteFault
    → Course (Result B E)
bound_then names t told follow (Err fault) = ends (Err (told fault))
bound_then names t told follow (Ok before) =
    and_then (source_course names t.src) (λ cut. follow before cut)

-- a topic begins: one look at the book, a cut of the source where that has to say where it begins,
-- one look at the book and a Bind; the answer is its checkpoint
abbrev pub begin_course : List NameShards → Asked → Course (Result (List ℕ) SiteFault)
begin_course names t =
    and_then (topic_state_course names t.key) (λ state.
    and_then (init_course names t.src t.init state) (λ init.
    bind_course names t.key (binding_for t init)))

-- a topic begins, and then what is done above its checkpoint
abbrev pub topic_course : {B E : Type 0} → List NameShards → Asked → (SiteFault → E)
    → (List ℕ → List CutPart → Course (Result B E)) → Course (Result B E)
topic_course names t told follow =
    and_then (begin_course names t) (bound_then names t told follow)

-- a topic that gives its tuples: they are made, and then the tops are stored
abbrev pub read_course : {B : Type 0} → List NameShards → Asked
    → (List ℕ → List CutPart → B) → Course (Result B SiteFault)
read_course names t answer =
    topic_course names t (λ fault. fault)
    (cut_then_store names t (λ before cut. ends (Ok (answer before cut))) (λ before cut a. a))

-- why a topic's run stops, when so many writes of the batch at hand stand
abbrev pub stopped_by : Sunk → SiteFault → TopicFault
stopped_by s fault =
    record { summaries = s.summaries; stand = s.stand + stand_in fault; fault = fault }

-- what is done when a batch of so many items was delivered, or refused
abbrev pub after_send : ℕ → Sunk → (Sunk → Course (Result Sunk TopicFault))
    → Result Sent SiteFault → Course (Result Sunk TopicFault)
after_send items s next (Ok sent) = next (with_batch s items sent.admitted)
after_send items s next (Err fault) = ends (Err (stopped_by s fault))

-- the batches that are left, each delivered in order; the answer is what was done
abbrev pub sends_course : Layout → (dest src : ByteList) → Sunk → List (List BatchItem)
    → Course (Result Sunk TopicFault)
sends_course l dest src s [] = ends (Ok (told_sunk s))
sends_course l dest src s (b ∷ batches) =
    and_then (send_course l dest src b)
    (after_send (length b) s (λ s. sends_course l dest src s batches))

-- a topic that is delivered: the batches of the items above its checkpoint, and then the store
abbrev pub run_course : {B : Type 0} → Layout → Asked → ByteList
    → (List ℕ → List CutPart → List (List BatchItem))
    → (List ℕ → List CutPart → Sunk → B) → Course (Result B TopicFault)
run_course l t dest batches answer =
    topic_course l.names t (stopped_by none_sunk)
    (cut_then_store l.names t
    (λ before cut. sends_course l dest t.src none_sunk (batches before cut)) answer)
