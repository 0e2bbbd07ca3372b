-- How the course of an update goes on, batch by batch.
use Rattle.std.proofs.Common.{◌≡◌, ℕ, ◌<◌, List, length, take, drop, sym, subst, true, Option, Some, None, Result, Ok, Err}
use Rattle.std.specs.Prelude.{IfOk}
use Rattle.tuple_values.specs.Document.{ByteList, Doc}
use Rattle.tuple_values.specs.declared.memory.Memory.{Memory}
use Rattle.tuple_values.specs.declared.write.Write.{Write}
use Rattle.exchange_rules.specs.Batches.{Sunk, batches_of, stand_in, with_batch}
use Rattle.exchange_rules.specs.Calls.{Answered, Carried, IsStopped}
use Rattle.exchange_rules.specs.Courses.{Course, ends, and_then}
use Rattle.exchange_rules.specs.Following.{Writer, Reaches, Answers, Begins}
use Rattle.exchange_rules.specs.Puts.{puts_of}
use Rattle.exchange_rules.specs.Rows.{Layout, index_course}
use Rattle.exchange_rules.specs.Updates.{after_batch, batches_course}
use Rattle.exchange_rules.specs.declared.fault.SiteFault.{SiteFault}
use Rattle.exchange_rules.specs.declared.fault.SiteFault.TheVariants.{ShardFull, TopicBound, BookFull, LogFault, CellClosed, OutOfMemory}
use Rattle.exchange_rules.specs.declared.run.Ran.{Ran}
use Rattle.exchange_rules.specs.declared.run.RunFault.{RunFault}
use Rattle.exchange_rules.specs.declared.run.RunFault.TheVariants.{Site}
use Rattle.exchange_rules.specs.declared.run.RunFault.TheVariants.{Site}
use Rattle.exchange_rules.proofs.ReachLemmas.{reaches_none, reaches_join, reaches_then}
use Rattle.update_sink.specs.Steps.{IsTaken, batch_of, halt_of, halted}
use Rattle.update_sink.specs.declared.update.Halt.{Halt}
use Rattle.update_sink.proofs.BatchLemmas.{batches_of-next}

module _ (old new : Writer) (l : Layout) (dest : ByteList) (tuples : ℕ) (s : Sunk)
    (writes : List Write) where
  -- the course goes on after its update
  after : (r : Result ℕ SiteFault) → Answers old new (index_course l dest writes true) r
      → (next : Sunk → Course Ran)
      → Reaches old new (batch_of l dest tuples s (Ok writes) next) (after_batch tuples s next r)
  after r a next =
      reaches_then old new (index_course l dest writes true) (ends r) (after_batch tuples s next) a

  -- a batch was written
  pub written : (count : ℕ) (now : Sunk) → now ≡ with_batch s tuples count
      → Answers old new (index_course l dest writes true) (Ok count)
      → IsTaken old new (batch_of l dest tuples s (Ok writes)) now (Ok None)
  written count now is a next =
      subst (λ (x : Sunk). Reaches old new (batch_of l dest tuples s (Ok writes) next) (next x))
      (sym is) (after (Ok count) a next)

  -- a batch was written, and memory was wanting then
  pub written_begun : (count : ℕ) (now : Sunk) (fault : Memory)
      → Answers old new (index_course l dest writes true) (Ok count)
      → IsTaken old new (batch_of l dest tuples s (Ok writes)) now (Err fault)
  written_begun count now fault a next = (next (with_batch s tuples count), after (Ok count) a next)

  -- a batch was refused as its course says
  halts : (fault : SiteFault) (h : Halt) → record { stand = stand_in fault; fault = Site fault } ≡ h
      → Answers old new (index_course l dest writes true) (Err fault)
      → IsTaken old new (batch_of l dest tuples s (Ok writes)) s (Ok (Some h))
  halts fault h is a next =
      subst (λ (x : Halt).
      Answers old new (batch_of l dest tuples s (Ok writes) next) (halted s x)) is
      (after (Err fault) a next)

  -- a batch was refused
  pub refused_halt : (fault : SiteFault) (h : Halt) → Some h ≡ halt_of fault
      → Answered old new (index_course l dest writes true) (Err fault)
      → IsTaken old new (batch_of l dest tuples s (Ok writes)) s (Ok (Some h))
  refused_halt (ShardFull collection shard stand) h is a =
      halts (ShardFull collection shard stand) h (cc) a
  refused_halt (TopicBound kept) h is a = halts (TopicBound kept) h (cc) a
  refused_halt (BookFull topics) h is a = halts (BookFull topics) h (cc) a
  refused_halt (LogFault cell stand) h is a = absurd (cc)
  refused_halt (CellClosed cell stand) h is a = absurd (cc)
  refused_halt (OutOfMemory stand) h is a = absurd (cc)

  -- a batch stopped
  stopped_begun : (stand : ℕ) → IsStopped 0 old new (index_course l dest writes true) stand
      → (next : Sunk → Course Ran)
      → Begins old new (batch_of l dest tuples s (Ok writes) next)
  stopped_begun stand a next = (
    and_then a.rest (after_batch tuples s next),
    reaches_then old new (index_course l dest writes true) a.rest (after_batch tuples s next)
        a.stood.reached,
  )

  -- memory was wanting in a batch, or a log failed
  pub refused_begun : (fault : SiteFault) (now : Sunk) (want : Memory) → None ≡ halt_of fault
      → Answered old new (index_course l dest writes true) (Err fault)
      → IsTaken old new (batch_of l dest tuples s (Ok writes)) now (Err want)
  refused_begun (ShardFull collection shard stand) now want is a next = absurd (cc)
  refused_begun (TopicBound kept) now want is a next = absurd (cc)
  refused_begun (BookFull topics) now want is a next = absurd (cc)
  refused_begun (LogFault cell stand) now want is a next = stopped_begun stand a.0 next
  refused_begun (CellClosed cell stand) now want is a next = stopped_begun stand a.0 next
  refused_begun (OutOfMemory stand) now want is a next = stopped_begun stand a next

-- a tuple of a batch asks for no write
pub faulty : (w : Writer) (l : Layout) (dest : ByteList) (tuples : ℕ) (s : Sunk)
    (puts : Result (List Write) RunFault) (fault : RunFault) → Err fault ≡ puts
    → IsTaken w w (batch_of l dest tuples s puts) s
    (Ok (Some (record { stand = 0; fault = fault })))
faulty w l dest tuples s puts fault is next =
    subst (λ (p : Result (List Write) RunFault).
    Answers w w (batch_of l dest tuples s p next) (halted s (record { stand = 0; fault = fault })))
    is (reaches_none w (ends (halted s (record { stand = 0; fault = fault }))))

-- memory was wanting before a batch was begun
pub not_begun : (w : Writer) (l : Layout) (dest : ByteList) (tuples : ℕ) (s now : Sunk)
    (puts : Result (List Write) RunFault) (want : Memory)
    → IsTaken w w (batch_of l dest tuples s puts) now (Err want)
not_begun w l dest tuples s now puts want next =
    (batch_of l dest tuples s puts next, reaches_none w (batch_of l dest tuples s puts next))

module _ (start old new : Writer) (course : Course Ran) (here there : Layout) (dest : ByteList)
    (size : ℕ) (s : Sunk) (rest : List Doc) (same : there ≡ here) (pos : 0 < size)
    (filled : 0 < length rest) where
  -- the update goes on behind its next batch
  abbrev next : Sunk → Course Ran
  next s = batches_course here dest s (batches_of size (drop size rest))

  -- the next batch
  abbrev batch : (Sunk → Course Ran) → Course Ran
  batch = batch_of here dest (length (take size rest)) s (puts_of s.total (take size rest))

  -- what is left of the update begins with it
  begins : Reaches start old course (batches_course here dest s (batches_of size rest))
      → Reaches start old course (batch next)
  begins r =
      subst (λ (b : List (List Doc)). Reaches start old course (batches_course here dest s b))
      (batches_of-next size rest pos filled) r

  -- the batch, by what was read of it
  taken : (front : List Doc) (now : Sunk) (result : Result (Option Halt) Memory)
      → front ≡ take size rest
      → IsTaken old new (batch_of there dest (length front) s (puts_of s.total front)) now result
      → IsTaken old new batch now result
  taken front now result is t =
      subst (λ (b : List Doc). IsTaken old new
      (batch_of here dest (length b) s (puts_of s.total b)) now result) is
      (subst (λ (l : Layout). IsTaken old new
      (batch_of l dest (length front) s (puts_of s.total front)) now result) same t)

  -- a batch was taken
  pub batch_on : (front behind : List Doc) (now : Sunk) → front ≡ take size rest
      → behind ≡ drop size rest
      → Reaches start old course (batches_course here dest s (batches_of size rest))
      → IsTaken old new (batch_of there dest (length front) s (puts_of s.total front)) now (Ok None)
      → Reaches start new course (batches_course here dest now (batches_of size behind))
  batch_on front behind now is left r t =
      subst (λ (b : List Doc). Reaches start new course
      (batches_course here dest now (batches_of size b))) (sym left)
      (reaches_join start old new course (batch next) (next now) (begins r)
      (taken front now (Ok None) is t next))

  -- the update stopped in a batch
  pub batch_halts : (front : List Doc) (now : Sunk) (h : Halt) → front ≡ take size rest
      → Reaches start old course (batches_course here dest s (batches_of size rest))
      → IsTaken old new (batch_of there dest (length front) s (puts_of s.total front)) now
      (Ok (Some h))
      → Answers start new course (halted now h)
  batch_halts front now h is r t =
      reaches_join start old new course (batch next) (ends (halted now h)) (begins r)
      (taken front now (Ok (Some h)) is t next)

  -- memory was wanting in a batch
  pub batch_begun : (front : List Doc) (now : Sunk) (want : Memory) → front ≡ take size rest
      → Reaches start old course (batches_course here dest s (batches_of size rest))
      → IsTaken old new (batch_of there dest (length front) s (puts_of s.total front)) now
      (Err want)
      → Begins start new course
  batch_begun front now want is r t =
      let b = taken front now (Err want) is t next in
      (b.0, reaches_join start old new course (batch next) b.0 (begins r) b.1)

-- a course that was begun is carried so far, where memory was wanting
pub carried_so_far : {A : Type 0} (old new : Writer) (p : Course A) (r : Result A Memory)
    (fault : Memory) → r ≡ Err fault → Begins old new p → Carried old new p r
carried_so_far old new p r fault e b = subst (Carried old new p) (sym e) b

-- so is a batch
pub taken_so_far : (old new : Writer) (batch : (Sunk → Course Ran) → Course Ran) (after : Sunk)
    (r : Result (Option Halt) Memory) (fault : Memory) → r ≡ Err fault
    → IsTaken old new batch after (Err fault) → IsTaken old new batch after r
taken_so_far old new batch after r fault e t = subst (IsTaken old new batch after) (sym e) t

-- what an update did that stopped, where it can be counted
pub halted_carried : (start new : Writer) (course : Course Ran) (ran : Ran)
    (r : Result Ran Memory) → IfOk r (λ x. x ≡ ran) → Answers start new course ran
    → Carried start new course r
halted_carried start new course ran (Ok x) e a =
    subst (λ y. Answers start new course y) (sym e) a
halted_carried start new course ran (Err fault) e a = (ends ran, a)
