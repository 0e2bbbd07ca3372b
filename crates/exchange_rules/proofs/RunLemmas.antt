-- Updates, commits and topics look first.
use Rattle.std.proofs.Common.{◌≡◌, ℕ, zero, suc, ◌+◌, Bool, true, List, [], ◌∷◌, length, refl}
use Rattle.std.specs.Prelude.{Option, Some, None, Result, Ok, Err}
use Rattle.tuple_values.specs.Document.{ByteList, Doc}
use Rattle.tuple_values.specs.declared.names.NameShards.{NameShards}
use Rattle.tuple_values.specs.declared.write.Write.{Write}
use Rattle.shard_versions.specs.declared.cut.CutPart.{CutPart}
use Rattle.exchange_rules.specs.Batches.{Sunk, none_sunk, with_batch, batches_of}
use Rattle.topic_book.specs.Books.{raises}
use Rattle.topic_book.specs.declared.topic.TopicKey.{TopicKey}
use Rattle.exchange_rules.specs.Bindings.{bind_course, book_cell, store_course, topic_state_course}
use Rattle.exchange_rules.specs.Cells.{book_in}
use Rattle.exchange_rules.specs.Courses.{Course, ends, and_ok, and_then}
use Rattle.exchange_rules.specs.Deliveries.{send_course}
use Rattle.exchange_rules.specs.Looking.{LooksFirst}
use Rattle.exchange_rules.specs.Puts.{puts_of}
use Rattle.exchange_rules.specs.Rows.{Layout, commit_course, index_course}
use Rattle.exchange_rules.specs.RunLaws.{RunsLookFirst}
use Rattle.exchange_rules.specs.Topics.{Asked, after_send, begin_course, binding_for, bound_then, cut_then_store, init_course, sends_course, source_course, stopped_by, topic_course, tops_of}
use Rattle.exchange_rules.specs.Updates.{after_batch, batch_course, batches_course, commits_before, commits_course}
use Rattle.exchange_rules.specs.declared.batch.BatchItem.{BatchItem}
use Rattle.exchange_rules.specs.declared.batch.Sent.{Sent}
use Rattle.exchange_rules.specs.declared.fault.SiteFault.{SiteFault}
use Rattle.exchange_rules.specs.declared.run.Ran.{Ran}
use Rattle.exchange_rules.specs.declared.run.RunFault.{RunFault}
use Rattle.exchange_rules.specs.declared.run.TopicFault.{TopicFault}
use Rattle.exchange_rules.proofs.LookingLemmas.{cut_first, either, ok_first, then_first}
use Rattle.exchange_rules.proofs.RowLemmas.{rows_first}

-- what follows a batch looks first
after_batch_first : (tuples : ℕ) (s : Sunk) (next : Sunk → Course Ran)
    → ((s : Sunk) → LooksFirst None (next s)) → (r : Result ℕ SiteFault)
    → LooksFirst None (after_batch tuples s next r)
after_batch_first tuples s next h (Ok writes) = h (with_batch s tuples writes)
after_batch_first tuples s next h (Err fault) = tt

-- so does a batch
batch_first : (l : Layout) (dest : ByteList) (tuples : ℕ) (s : Sunk) (next : Sunk → Course Ran)
    → ((s : Sunk) → LooksFirst None (next s)) → (puts : Result (List Write) RunFault)
    → LooksFirst None (batch_course l dest tuples s next puts)
batch_first l dest tuples s next h (Err fault) = tt
batch_first l dest tuples s next h (Ok writes) =
    then_first None (index_course l dest writes true) (after_batch tuples s next)
    (rows_first.index l dest writes true) (after_batch_first tuples s next h)

-- so do all batches
batches_first : (l : Layout) (dest : ByteList) (s : Sunk) (batches : List (List Doc))
    → LooksFirst None (batches_course l dest s batches)
batches_first l dest s [] = tt
batches_first l dest s (b ∷ batches) =
    batch_first l dest (length b) s (λ s. batches_course l dest s batches)
    (λ s. batches_first l dest s batches) (puts_of s.total b)

-- so do commits
commits_first : (l : Layout) (dest : ByteList) (n : ℕ) → LooksFirst None (commits_course l dest n)
commits_first l dest zero = tt
commits_first l dest (suc n) =
    ok_first (commit_course l dest) (λ _. commits_course l dest n) (rows_first.commit l dest)
    (λ _. commits_first l dest n)

-- so does what tells where a topic begins
init_first : (names : List NameShards) (src : ByteList) (given : Option ℕ)
    (state : Option (List ℕ)) → LooksFirst None (init_course names src given state)
init_first names src (Some n) state = tt
init_first names src None (Some upto) = tt
init_first names src None None =
    then_first None (source_course names src) (λ cut. ends (tops_of cut))
    (cut_first names [] (src ∷ [])) (λ _. tt)

-- so does what follows a Bind
bound_first : {B E : Type 0} (names : List NameShards) (t : Asked) (told : SiteFault → E)
    (follow : List ℕ → List CutPart → Course (Result B E))
    → ((before : List ℕ) (cut : List CutPart) → LooksFirst None (follow before cut))
    → (r : Result (List ℕ) SiteFault) → LooksFirst None (bound_then names t told follow r)
bound_first names t told follow h (Err fault) = tt
bound_first names t told follow h (Ok before) =
    then_first None (source_course names t.src) (λ cut. follow before cut)
    (cut_first names [] (t.src ∷ [])) (λ cut. h before cut)

-- so does its beginning
begin_first : (l : Layout) (t : Asked) → LooksFirst None (begin_course l.names t)
begin_first l t =
    let bound : List ℕ → Course (Result (List ℕ) SiteFault) =
    λ init. bind_course l.names t.key (binding_for t init) in
    let begun : Option (List ℕ) → Course (Result (List ℕ) SiteFault) =
    λ state. and_then (init_course l.names t.src t.init state) bound in
    then_first None (topic_state_course l.names t.key) begun (rows_first.state l t.key)
    (λ state. then_first None (init_course l.names t.src t.init state) bound
    (init_first l.names t.src t.init state)
    (λ init. rows_first.bind l t.key (binding_for t init)))

-- so does a topic
topic_first : {B E : Type 0} (l : Layout) (t : Asked) (told : SiteFault → E)
    (follow : List ℕ → List CutPart → Course (Result B E))
    → ((before : List ℕ) (cut : List CutPart) → LooksFirst None (follow before cut))
    → LooksFirst None (topic_course l.names t told follow)
topic_first l t told follow h =
    then_first None (begin_course l.names t) (bound_then l.names t told follow) (begin_first l t)
    (bound_first l.names t told follow h)

-- so does a store, whatever else may be answered
stored_first : (E : Type 0) (names : List NameShards) (key : TopicKey) (upto : List ℕ)
    → LooksFirst None (store_course {E = E} names key upto)
stored_first E names key upto =
    λ log. either (Some (book_cell names)) (raises key (book_in log) upto) _ _ (refl, tt) tt

-- so does the store after what is done of a cut
store_first : {A B E : Type 0} (l : Layout) (t : Asked)
    (deliver : List ℕ → List CutPart → Course (Result A E))
    (answer : List ℕ → List CutPart → A → B)
    → ((before : List ℕ) (cut : List CutPart) → LooksFirst None (deliver before cut))
    → (before : List ℕ) (cut : List CutPart)
    → LooksFirst None (cut_then_store l.names t deliver answer before cut)
store_first {A} {B} {E} l t deliver answer h before cut =
    let stored : A → Unit {0} → Course (Result B E) = λ a _. ends (Ok (answer before cut a)) in
    ok_first (deliver before cut)
    (λ a. and_ok (store_course l.names t.key (tops_of cut)) (stored a)) (h before cut)
    (λ a. ok_first (store_course {E = E} l.names t.key (tops_of cut)) (stored a)
    (stored_first E l.names t.key (tops_of cut)) (λ _. tt))

-- so does what follows the delivery of a batch
after_send_first : (items : ℕ) (s : Sunk) (next : Sunk → Course (Result Sunk TopicFault))
    → ((s : Sunk) → LooksFirst None (next s)) → (r : Result Sent SiteFault)
    → LooksFirst None (after_send items s next r)
after_send_first items s next h (Ok sent) = h (with_batch s items sent.admitted)
after_send_first items s next h (Err fault) = tt

-- so do all deliveries
sends_first : (l : Layout) (dest src : ByteList) (s : Sunk) (batches : List (List BatchItem))
    → LooksFirst None (sends_course l dest src s batches)
sends_first l dest src s [] = tt
sends_first l dest src s (b ∷ batches) =
    then_first None (send_course l dest src b)
    (after_send (length b) s (λ s. sends_course l dest src s batches))
    (rows_first.send l dest src b)
    (after_send_first (length b) s (λ s. sends_course l dest src s batches)
    (λ s. sends_first l dest src s batches))

-- updates, commits and topics look first
pub runs_first : {B : Type 0} → RunsLookFirst B
runs_first = record {
  tuples = λ l dest size docs. batches_first l dest none_sunk (batches_of size docs);
  commits = λ l dest size summaries docs.
      commits_first l dest (suc (commits_before size 0 summaries docs));
  read = λ l t answer.
      topic_first l t (λ fault. fault) _
      (store_first l t (λ before cut. ends (Ok (answer before cut))) (λ before cut a. a)
      (λ before cut. tt));
  run = λ l t dest batches answer.
      topic_first l t (stopped_by none_sunk) _
      (store_first l t
      (λ before cut. sends_course l dest t.src none_sunk (batches before cut)) answer
      (λ before cut. sends_first l dest t.src none_sunk (batches before cut)));
}
