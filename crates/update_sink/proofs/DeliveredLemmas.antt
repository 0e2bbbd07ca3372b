-- What the run of a topic delivers: what it gives of the cut that was read, above the checkpoint.
use Rattle.std.proofs.Common.{◌≡◌, ℕ, zero, suc, List, [], ◌∷◌, length, map, take, drop, refl, sym, subst, arith, Some, Result, Ok, Err}
use Rattle.std.specs.Prelude.{Contains, IfOk}
use Rattle.std.specs.List.{AllByRecursion}
use Rattle.std.proofs.lemmas.List.{take-append-drop}
use Rattle.std.proofs.lemmas.List.Elements.{Contains-append_right}
use Rattle.shard_versions.specs.declared.cut.CutPart.{CutPart}
use Rattle.shard_versions.proofs.ListLemmas.{each_left, each_right, each_two, each_weaker}
use Rattle.exchange_rules.specs.Accesses.{at_owns, own_of}
use Rattle.exchange_rules.specs.Batches.{Sunk, batches_up_to, none_sunk}
use Rattle.exchange_rules.specs.Bindings.{store_course}
use Rattle.exchange_rules.specs.Courses.{Course, ends, and_ok, unless_refused}
use Rattle.exchange_rules.specs.Deliveries.{sent_kind}
use Rattle.exchange_rules.specs.Following.{Writer, counts}
use Rattle.exchange_rules.specs.Rows.{Layout}
use Rattle.exchange_rules.specs.Topics.{Asked, begin_course, bound_then, cut_then_store, run_course, sends_course, source_course, stopped_by, tops_of}
use Rattle.exchange_rules.specs.declared.fault.SiteFault.{SiteFault}
use Rattle.exchange_rules.specs.declared.log_entry.LogEntry.{LogEntry}
use Rattle.exchange_rules.specs.declared.run.TopicFault.{TopicFault}
use Rattle.exchange_rules.specs.declared.run.TopicRun.{TopicRun}
use Rattle.source_streams.specs.Batches.{topic_items}
use Rattle.update_sink.specs.Promises.{HasDelivered, IsAbove, IsRunEntry}
use Rattle.update_sink.specs.Runs.{IsRun}
use Rattle.update_sink.specs.Topics.{Sink, asked_of, batches_over, run_of, sent_item}
use Rattle.update_sink.proofs.EachLemmas.{AreEach, EndsIn, Fits, Leads, each-begin, each-leads, each-ok, each-sends, each-source, each-store, ended-in, ends-then, leads-end, leads-then}
use Rattle.update_sink.proofs.ItemLemmas.{each-made}
use Rattle.update_sink.proofs.PromiseLemmas.{gained-of, topic-above}

-- each element of a list is in it
all-inside : {X : Type 0} (xs : List X) → AllByRecursion (Contains xs) xs
all-inside [] = tt
all-inside (x ∷ xs) = (
  (0, omega arith, refl),
  each_weaker (Contains xs) (Contains (x ∷ xs)) (λ y c. Contains-append_right (x ∷ []) xs y c) xs
      (all-inside xs),
)

-- what holds of each element holds of each of each batch
each-batch : {X : Type 0} (P : X → Type 0) (most size : ℕ) (xs : List X) → AllByRecursion P xs
    → AllByRecursion (AllByRecursion P) (batches_up_to most size xs)
each-batch P zero size xs a = tt
each-batch P (suc most) size [] a = tt
each-batch P (suc most) size (x ∷ xs) a =
    let all = subst (AllByRecursion P) (sym (take-append-drop size (x ∷ xs))) a in (
      each_left P (take size (x ∷ xs)) (drop size (x ∷ xs)) all,
      each-batch P most size (drop size (x ∷ xs))
          (each_right P (take size (x ∷ xs)) (drop size (x ∷ xs)) all),
    )

module _ (s : Sink) (before : List ℕ) (cut : List CutPart) where
  -- an entry as a run over them appends
  abbrev Is : LogEntry → Type 0
  Is = IsRunEntry s.topic.collection before (topic_items s.topic cut before)

  -- each item of each batch is delivered so
  batches-fit : AllByRecursion (AllByRecursion (λ i. Fits Is (sent_kind s.topic.collection i)))
      (batches_over s before cut)
  batches-fit =
      let given = topic_items s.topic cut before in
      let from = s.topic.collection in
      let made = map (sent_item from) given in
      each-batch (λ i. Fits Is (sent_kind from i)) (length made) s.size made
      (each-made (λ i. Fits Is (sent_kind from i)) (sent_item from) given
      (each_two (Contains given) (IsAbove before)
      (λ i. Fits Is (sent_kind from (sent_item from i)))
      (λ i c a me. record { item = i; given = c; above = a; is = refl }) given (all-inside given)
      (topic-above s.topic cut before)))

  module _ (l : Layout) (t : Asked) (from : t.src ≡ s.topic.collection) where
    -- what follows a cut
    abbrev Follow : Course (Result TopicRun TopicFault)
    Follow =
        cut_then_store l.names t
        (λ before cut. sends_course l s.dest t.src none_sunk (batches_over s before cut)) run_of
        before cut

    -- each entry of it is so
    follow-each : AreEach Is Follow
    follow-each =
        each-ok Is (sends_course l s.dest t.src none_sunk (batches_over s before cut)) (λ a.
        and_ok (store_course l.names t.key (tops_of cut)) (λ _.
        ends (Ok (run_of before cut a))))
        (each-sends Is (λ me. tt) l s.dest t.src none_sunk (batches_over s before cut)
        (subst (λ x. AllByRecursion (AllByRecursion (λ i. Fits Is (sent_kind x i)))
        (batches_over s before cut)) (sym from) batches-fit)) (λ a.
        each-ok Is (store_course l.names t.key (tops_of cut)) (λ _. ends (Ok (run_of before cut a)))
        (each-store Is TopicFault l.names t.key (tops_of cut) (λ me. (tt, tt))) (λ _. tt))

    -- and it tells this checkpoint and this cut
    abbrev Tells : Result TopicRun TopicFault → Type 0
    Tells r = IfOk r (λ run. (run.before ≡ before) × (run.cut ≡ cut))

    follow-ends : EndsIn Tells Follow
    follow-ends =
        ends-then Tells (sends_course l s.dest t.src none_sunk (batches_over s before cut))
        (unless_refused (λ a. and_ok (store_course l.names t.key (tops_of cut)) (λ _.
        ends (Ok (run_of before cut a))))) sent
      where
        stored : (a : Sunk) (r : Result (Unit {0}) TopicFault)
            → EndsIn Tells (unless_refused (λ _. ends (Ok (run_of before cut a))) r)
        stored a (Ok u) = (refl, refl)
        stored a (Err e) = tt

        sent : (r : Result Sunk TopicFault) → EndsIn Tells
            (unless_refused (λ a. and_ok (store_course l.names t.key (tops_of cut)) (λ _.
            ends (Ok (run_of before cut a)))) r)
        sent (Ok a) =
            ends-then Tells (store_course l.names t.key (tops_of cut))
            (unless_refused (λ _. ends (Ok (run_of before cut a)))) (stored a)
        sent (Err e) = tt

-- whoever follows a run to what it tells delivers only that
pub run-delivered : (old new : Writer) (l : Layout) (s : Sink) (run : TopicRun)
    → IsRun old new
    (run_course l (asked_of s.topic (Some s.dest)) s.dest (batches_over s) run_of) (Ok run)
    → HasDelivered old new s run
run-delivered old new l s run r = record {
  gained = gained-of old new course (ends (Ok run)) r;
  only = leads-then Told (Ok run) (begin_course l.names t)
      (bound_then l.names t (stopped_by none_sunk) follow)
      (each-begin Told l.names t (λ b me. (tt, tt))) bound old.me new.seen (counts old.seen)
      r.accesses (counts new.seen) r.followed;
}
  where
    t : Asked
    t = asked_of s.topic (Some s.dest)

    course : Course (Result TopicRun TopicFault)
    course = run_course l t s.dest (batches_over s) run_of

    follow : List ℕ → List CutPart → Course (Result TopicRun TopicFault)
    follow before cut = Follow s before cut l t refl

    Told : LogEntry → Type 0
    Told = Is s run.before run.cut

    led : (before : List ℕ) (cut : List CutPart) → Leads Told (Ok run) (follow before cut)
    led before cut me seen had accesses end f =
        let told = ended-in (Tells s before cut l t refl) me seen had (follow before cut) accesses
        (Ok run) end (follow-ends s before cut l t refl) f in
        let all = each-leads (Is s before cut) (Ok run) (follow before cut)
        (follow-each s before cut l t refl) me seen had accesses end f in
        subst (λ b. AllByRecursion (Is s b run.cut) (at_owns seen (own_of accesses))) (sym told.0)
        (subst (λ c. AllByRecursion (Is s before c) (at_owns seen (own_of accesses))) (sym told.1)
        all)

    bound : (b : Result (List ℕ) SiteFault)
        → Leads Told (Ok run) (bound_then l.names t (stopped_by none_sunk) follow b)
    bound (Err fault) = leads-end Told (Ok run) (Err (stopped_by none_sunk fault))
    bound (Ok before) =
        leads-then Told (Ok run) (source_course l.names t.src) (λ cut. follow before cut)
        (each-source Told l.names t.src) (λ cut. led before cut)

-- whatever the run answers
pub if-delivered : (old new : Writer) (l : Layout) (s : Sink) (r : Result TopicRun TopicFault)
    → IsRun old new
    (run_course l (asked_of s.topic (Some s.dest)) s.dest (batches_over s) run_of) r
    → IfOk r (HasDelivered old new s)
if-delivered old new l s (Ok run) r = run-delivered old new l s run r
if-delivered old new l s (Err stop) r = tt
