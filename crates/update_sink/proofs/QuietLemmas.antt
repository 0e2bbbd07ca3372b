-- Courses that append no write, as those of topics at their book, and what stands of them.
use Rattle.std.proofs.Common.{◌≡◌, ℕ, zero, suc, ◌+◌, Bool, true, false, List, [], ◌∷◌, ◌++◌, refl, sym, ap, ◌∙◌, subst, arith, Option, Some, None, Result, Ok, Err}
use Rattle.std.specs.Prelude.{count_by, nat_lt, if◌then◌else◌}
use Rattle.tuple_values.specs.Document.{ByteList}
use Rattle.tuple_values.specs.declared.names.NameShards.{NameShards}
use Rattle.shard_versions.specs.declared.cut.CutPart.{CutPart}
use Rattle.topic_book.specs.Alike.{is_alike}
use Rattle.topic_book.specs.Books.{binding_of, raises, topics_in}
use Rattle.topic_book.specs.Fitness.{shards_of}
use Rattle.topic_book.specs.declared.topic.Binding.{Binding}
use Rattle.topic_book.specs.declared.topic.TopicKey.{TopicKey}
use Rattle.exchange_rules.specs.Accesses.{Access, a_look, a_step, at_mark, at_own, at_owns, had_after, own_of}
use Rattle.exchange_rules.specs.Bindings.{bind_course, bind_seen, book_cell, bound_checkpoint, checkpoint_in, store_course, topic_state_course}
use Rattle.exchange_rules.specs.Calls.{Answered, HasAppended, IsStopped, Refused, Stopped, is_write}
use Rattle.exchange_rules.specs.Cells.{Log, bind, book_in, history_in, signed, store}
use Rattle.exchange_rules.specs.Courses.{Course, ends, looks, makes, and_then, and_ok, unless_refused}
use Rattle.exchange_rules.specs.Following.{Follows, Reaches, Answers, Writer, counts}
use Rattle.exchange_rules.specs.Rows.{cut_course, cut_shards, part_of}
use Rattle.exchange_rules.specs.Topics.{Asked, begin_course, binding_for, bound_then, cut_then_store, init_course, read_course, source_course, tops_of}
use Rattle.exchange_rules.specs.declared.fault.SiteFault.{SiteFault}
use Rattle.exchange_rules.specs.declared.fault.SiteFault.TheVariants.{ShardFull, TopicBound, BookFull, LogFault, CellClosed, OutOfMemory}
use Rattle.exchange_rules.proofs.AppendedLemmas.{broken_on, barred_on}
use Rattle.exchange_rules.proofs.ReachLemmas.{count_by-append, reaches_none, reaches_join, reaches_then}

-- none of its steps has a write
abbrev pub IsQuiet : {A : Type 0} → Course A → Type 0
IsQuiet (ends a) = Unit {0}
IsQuiet (looks cell see) = (log : Log) → IsQuiet (see log)
IsQuiet (makes cell step rest) =
    ((me : ℕ) → count_by is_write (signed me step) ≡ 0) × IsQuiet rest

-- whoever follows it appends no write
quiet-none : {A : Type 0} (me : ℕ) (seen : List Log) (had : List ℕ) (p : Course A)
    (accesses : List Access) (q : Course A) (end : List ℕ) → IsQuiet p
    → Follows me seen had p accesses q end
    → count_by is_write (at_owns seen (own_of accesses)) ≡ 0
quiet-none me seen had p [] q end k f = refl
quiet-none me seen had (ends a) (access ∷ accesses) q end k f = absurd f.0
quiet-none me seen had (looks c see) (a_step o ∷ accesses) q end k f = absurd f.0
quiet-none me seen had (makes c step p) (a_look m ∷ accesses) q end k f = absurd f.0
quiet-none me seen had (looks c see) (a_look m ∷ accesses) q end k f =
    quiet-none me seen (had_after had (a_look m)) (see (at_mark seen m)) accesses q end
    (k (at_mark seen m)) f.1
quiet-none me seen had (makes c step p) (a_step o ∷ accesses) q end k f =
    let rest = at_owns seen (own_of accesses) in
    let here : count_by is_write (at_own seen o) ≡ 0 =
    ap (count_by is_write) f.0.appended ∙ k.0 me in
    let later = quiet-none me seen (had_after had (a_step o)) p accesses q end k.1 f.1 in
    let both = count_by-append is_write (at_own seen o) rest in
    omega (arith, both, here, later)

-- a course that is quiet, and then others that are
quiet-then : {A B : Type 0} (p : Course A) (next : A → Course B) → IsQuiet p
    → ((a : A) → IsQuiet (next a)) → IsQuiet (and_then p next)
quiet-then (ends a) next k n = n a
quiet-then (looks cell see) next k n = λ log. quiet-then (see log) next (k log) n
quiet-then (makes cell step rest) next k n = (k.0, quiet-then rest next k.1 n)

-- unless the first is refused
quiet-ok : {A B E : Type 0} (p : Course (Result A E)) (next : A → Course (Result B E)) → IsQuiet p
    → ((a : A) → IsQuiet (next a)) → IsQuiet (and_ok p next)
quiet-ok {A} {B} {E} p next k n = quiet-then p (unless_refused next) k go
  where
    go : (r : Result A E) → IsQuiet (unless_refused next r)
    go (Ok a) = n a
    go (Err e) = tt

-- one of two
quiet-either : {A : Type 0} (b : Bool) (p q : Course A) → IsQuiet p → IsQuiet q
    → IsQuiet (if b then p else q)
quiet-either true p q k n = k
quiet-either false p q k n = n

-- a cut of shards
quiet-shards : (names : List NameShards) (c : ByteList) (shard left : ℕ) (cut : List CutPart)
    → IsQuiet (cut_shards names c shard left cut)
quiet-shards names c shard zero cut = tt
quiet-shards names c shard (suc left) cut = λ log.
    quiet-shards names c (shard + 1) left (cut ++ part_of c shard (history_in log) ∷ [])

-- a cut of a collection
pub quiet-source : (names : List NameShards) (src : ByteList) → IsQuiet (source_course names src)
quiet-source names src =
    quiet-then (cut_shards names src 0 (shards_of names src) []) (λ cut. cut_course names cut [])
    (quiet-shards names src 0 (shards_of names src) []) (λ cut. tt)

-- where a topic begins
pub quiet-init : (names : List NameShards) (src : ByteList) (init : Option ℕ)
    (state : Option (List ℕ)) → IsQuiet (init_course names src init state)
quiet-init names src (Some n) state = tt
quiet-init names src None (Some upto) = tt
quiet-init names src None None =
    quiet-then (source_course names src) (λ cut. ends (tops_of cut)) (quiet-source names src)
    (λ cut. tt)

-- a Bind
pub quiet-bind : (names : List NameShards) (key : TopicKey) (b : Binding)
    → IsQuiet (bind_course names key b)
quiet-bind names key b log = go (binding_of key (book_in log))
  where
    go : (o : Option Binding) → IsQuiet (bind_seen names key b (book_in log) o)
    go None =
        quiet-either (nat_lt (topics_in (book_in log)) 1000)
        (makes (book_cell names) (bind key b ∷ [])
        (ends (Ok (bound_checkpoint key (book_in log) b))))
        (ends (Err (BookFull (topics_in (book_in log))))) (λ me. refl, tt) tt
    go (Some kept) =
        quiet-either (is_alike kept b) (ends (Ok (checkpoint_in key (book_in log))))
        (ends (Err (TopicBound kept))) tt tt

-- a Store
pub quiet-store : (E : Type 0) (names : List NameShards) (key : TopicKey) (upto : List ℕ)
    → IsQuiet (store_course {E = E} names key upto)
quiet-store E names key upto log =
    quiet-either (raises key (book_in log) upto)
    (makes (book_cell names) (store key upto ∷ []) (ends (Ok tt))) (ends (Ok tt))
    (λ me. refl, tt) tt

-- a topic that begins
pub quiet-begin : (names : List NameShards) (t : Asked) → IsQuiet (begin_course names t)
quiet-begin names t =
    quiet-then (topic_state_course names t.key)
    (λ state. and_then (init_course names t.src t.init state) (λ init.
    bind_course names t.key (binding_for t init)))
    (λ log. tt) (λ state.
    quiet-then (init_course names t.src t.init state)
    (λ init. bind_course names t.key (binding_for t init))
    (quiet-init names t.src t.init state) (λ init.
    quiet-bind names t.key (binding_for t init)))

-- a topic that is read
pub quiet-read : {B : Type 0} (names : List NameShards) (t : Asked)
    (answer : List ℕ → List CutPart → B) → IsQuiet (read_course names t answer)
quiet-read {B} names t answer =
    quiet-then (begin_course names t)
    (bound_then names t (λ fault. fault) (cut_then_store names t given (λ before cut a. a)))
    (quiet-begin names t) go
  where
    given : List ℕ → List CutPart → Course (Result B SiteFault)
    given before cut = ends (Ok (answer before cut))

    go : (r : Result (List ℕ) SiteFault) → IsQuiet (bound_then names t (λ fault. fault)
        (cut_then_store names t given (λ before cut a. a)) r)
    go (Err fault) = tt
    go (Ok before) =
        quiet-then (source_course names t.src)
        (λ cut. cut_then_store names t given (λ before cut a. a) before cut)
        (quiet-source names t.src) (λ cut.
        quiet-ok (store_course names t.key (tops_of cut))
        (λ done. ends (Ok (answer before cut)))
        (quiet-store SiteFault names t.key (tops_of cut)) (λ done. tt))

-- no write stands where a quiet course was followed
pub quiet-appended : {A : Type 0} (old new : Writer) (p rest : Course A) → IsQuiet p
    → Reaches old new p rest → HasAppended old new p rest 0
quiet-appended old new p rest k r = record {
  reached = r;
  counted = sym (quiet-none old.me new.seen (counts old.seen) p r.accesses rest
      (counts new.seen) k r.followed);
}

-- nor where memory was wanting in one
pub stopped-quiet : {A : Type 0} (old new : Writer) (p rest : Course A) → IsQuiet p
    → Reaches old new p rest → IsStopped 0 old new p 0
stopped-quiet old new p rest k r =
    record { rest = rest; writes = 0; stood = quiet-appended old new p rest k r; counted = refl }

-- and none is told
stand-quiet : {A : Type 0} (old new : Writer) (p : Course A) (stand : ℕ) → IsQuiet p
    → IsStopped 0 old new p stand → stand ≡ 0
stand-quiet old new p stand k s =
    let none = quiet-none old.me new.seen (counts old.seen) p s.stood.reached.accesses s.rest
    (counts new.seen) k s.stood.reached.followed in
    omega (arith, none, s.counted, s.stood.counted)

-- a part of a course led to what follows its answer
pub went_on : {A B : Type 0} (start old new : Writer) (p : Course B) (q : Course A)
    (next : A → Course B) (a : A) → Reaches start old p (and_then q next) → Answers old new q a
    → Reaches start new p (next a)
went_on start old new p q next a r s =
    reaches_join start old new p (and_then q next) (next a) r
    (reaches_then old new q (ends a) next s)

-- a part of a quiet course stopped
part-quiet : {A C : Type 0} (start old new : Writer) (p : Course C) (q : Course A)
    (next : A → Course C) (stand : ℕ) → IsQuiet p → IsQuiet q
    → Reaches start old p (and_then q next) → IsStopped 0 old new q stand
    → IsStopped 0 start new p stand
part-quiet start old new p q next stand kp kq r a =
    let none = stand-quiet old new q stand kq a in
    subst (IsStopped 0 start new p) (sym none)
    (stopped-quiet start new p (and_then a.rest next) kp
    (reaches_join start old new p (and_then q next) (and_then a.rest next) r
    (reaches_then old new q a.rest next a.stood.reached)))

-- a part of a quiet course was refused, or stopped
pub part_refused : {A B : Type 0} (start old new : Writer) (p : Course (Result B SiteFault))
    (q : Course (Result A SiteFault)) (next : Result A SiteFault → Course (Result B SiteFault))
    (fault : SiteFault) → IsQuiet p → IsQuiet q
    → ((f : SiteFault) → next (Err f) ≡ ends (Err f))
    → Reaches start old p (and_then q next) → Refused 0 old new q fault
    → Refused 0 start new p fault
part_refused start old new p q next (ShardFull c s n) kp kq ends_so r a =
    subst (Reaches start new p) (ends_so (ShardFull c s n))
    (went_on start old new p q next (Err (ShardFull c s n)) r a)
part_refused start old new p q next (TopicBound kept) kp kq ends_so r a =
    subst (Reaches start new p) (ends_so (TopicBound kept))
    (went_on start old new p q next (Err (TopicBound kept)) r a)
part_refused start old new p q next (BookFull topics) kp kq ends_so r a =
    subst (Reaches start new p) (ends_so (BookFull topics))
    (went_on start old new p q next (Err (BookFull topics)) r a)
part_refused start old new p q next (LogFault cell stand) kp kq ends_so r a =
    (part-quiet start old new p q next stand kp kq r a.0, broken_on start old new p (and_then q next) cell r a.1)
part_refused start old new p q next (CellClosed cell stand) kp kq ends_so r a =
    (part-quiet start old new p q next stand kp kq r a.0, barred_on start old new p (and_then q next) cell r a.1)
part_refused start old new p q next (OutOfMemory stand) kp kq ends_so r a =
    part-quiet start old new p q next stand kp kq r a

-- a part that only looks stopped
pub part_stopped : {A B : Type 0} (start old new : Writer) (p : Course (Result B SiteFault))
    (q : Course A) (next : A → Course (Result B SiteFault)) (fault : SiteFault) → IsQuiet p
    → IsQuiet q → Reaches start old p (and_then q next) → Stopped old new q fault
    → Refused 0 start new p fault
part_stopped start old new p q next (ShardFull c s n) kp kq r a = absurd a
part_stopped start old new p q next (TopicBound kept) kp kq r a = absurd a
part_stopped start old new p q next (BookFull topics) kp kq r a = absurd a
part_stopped start old new p q next (LogFault cell stand) kp kq r a = absurd a
part_stopped start old new p q next (CellClosed cell stand) kp kq r a =
    (part-quiet start old new p q next stand kp kq r a.0, barred_on start old new p (and_then q next) cell r a.1)
part_stopped start old new p q next (OutOfMemory stand) kp kq r a =
    part-quiet start old new p q next stand kp kq r a

-- so did its last part
last-quiet : {A : Type 0} (start old new : Writer) (p q : Course A) (stand : ℕ) → IsQuiet p
    → IsQuiet q → Reaches start old p q → IsStopped 0 old new q stand
    → IsStopped 0 start new p stand
last-quiet start old new p q stand kp kq r a =
    let none = stand-quiet old new q stand kq a in
    subst (IsStopped 0 start new p) (sym none)
    (stopped-quiet start new p a.rest kp (reaches_join start old new p q a.rest r a.stood.reached))

-- the last part of a quiet course is answered as the course
pub answered_on : {A : Type 0} (start old new : Writer) (p q : Course (Result A SiteFault))
    (r : Result A SiteFault) → IsQuiet p → IsQuiet q → Reaches start old p q
    → Answered old new q r → Answered start new p r
answered_on start old new p q (Ok a) kp kq r s = reaches_join start old new p q (ends (Ok a)) r s
answered_on start old new p q (Err (ShardFull c s n)) kp kq r a =
    reaches_join start old new p q (ends (Err (ShardFull c s n))) r a
answered_on start old new p q (Err (TopicBound kept)) kp kq r a =
    reaches_join start old new p q (ends (Err (TopicBound kept))) r a
answered_on start old new p q (Err (BookFull topics)) kp kq r a =
    reaches_join start old new p q (ends (Err (BookFull topics))) r a
answered_on start old new p q (Err (LogFault cell stand)) kp kq r a =
    (last-quiet start old new p q stand kp kq r a.0, broken_on start old new p q cell r a.1)
answered_on start old new p q (Err (CellClosed cell stand)) kp kq r a =
    (last-quiet start old new p q stand kp kq r a.0, barred_on start old new p q cell r a.1)
answered_on start old new p q (Err (OutOfMemory stand)) kp kq r a =
    last-quiet start old new p q stand kp kq r a

module _ (start w1 w2 new : Writer) (names : List NameShards) (t : Asked) where
  abbrev begin : Course (Result (List ℕ) SiteFault)
  begin = begin_course names t

  -- what follows where a topic begins
  abbrev bound : List ℕ → Course (Result (List ℕ) SiteFault)
  bound init = bind_course names t.key (binding_for t init)

  -- and what follows its state
  abbrev stated : Option (List ℕ) → Course (Result (List ℕ) SiteFault)
  stated state = and_then (init_course names t.src t.init state) bound

  -- the topic's state couldn't be read
  pub begin-unstated : (fault : SiteFault) → Stopped start new (topic_state_course names t.key) fault
      → Answered start new begin (Err fault)
  begin-unstated fault s =
      part_stopped start start new begin (topic_state_course names t.key) stated fault
      (quiet-begin names t) (λ log. tt) (reaches_none start begin) s

  module _ (state : Option (List ℕ))
      (a : HasAppended start w1 (topic_state_course names t.key) (ends state) 0) where
    -- its state was read
    stated-on : Reaches start w1 begin (stated state)
    stated-on = reaches_then start w1 (topic_state_course names t.key) (ends state) stated a.reached

    -- it isn't known where it begins
    pub begin-uninit : (there : List NameShards) (fault : SiteFault) → there ≡ names
        → Stopped w1 new (init_course there t.src t.init state) fault
        → Answered start new begin (Err fault)
    begin-uninit there fault same s =
        part_stopped start w1 new begin (init_course names t.src t.init state) bound fault
        (quiet-begin names t) (quiet-init names t.src t.init state) stated-on
        (subst (λ ns. Stopped w1 new (init_course ns t.src t.init state) fault) same s)

    module _ (init : List ℕ)
        (b : HasAppended w1 w2 (init_course names t.src t.init state) (ends init) 0) where
      -- it is known where it begins
      init-on : Reaches start w2 begin (bound init)
      init-on =
          went_on start w1 w2 begin (init_course names t.src t.init state) bound init stated-on
          b.reached

      -- memory was wanting then
      pub begin-wanting : Answered start w2 begin (Err (OutOfMemory 0))
      begin-wanting = stopped-quiet start w2 begin (bound init) (quiet-begin names t) init-on

      -- it is bound, or is refused
      pub begin-bound : (b : Binding) (r : Result (List ℕ) SiteFault) → b ≡ binding_for t init
          → Answered w2 new (bind_course names t.key b) r → Answered start new begin r
      begin-bound b r is x =
          answered_on start w2 new begin (bound init) r (quiet-begin names t)
          (quiet-bind names t.key (binding_for t init)) init-on
          (subst (λ c. Answered w2 new (bind_course names t.key c) r) is x)
