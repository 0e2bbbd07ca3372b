-- How what is carried out in parts is carried out whole.
use Rattle.std.proofs.Common.{◌≡◌, ℕ, sym, ap, subst, ◌∙◌}
use Rattle.std.specs.Prelude.{Result, Ok, Err, IfOk}
use Rattle.exchange_rules.specs.Calls.{Answered, Carried, Ended, IsStopped, Stopped}
use Rattle.exchange_rules.specs.Courses.{Course, ends, and_then}
use Rattle.exchange_rules.specs.Following.{Writer, Reaches, Answers, Begins}
use Rattle.exchange_rules.specs.declared.fault.SiteFault.{SiteFault}
use Rattle.exchange_rules.specs.declared.fault.SiteFault.TheVariants.{ShardFull, TopicBound, BookFull, LogFault, CellClosed, OutOfMemory}
use Rattle.exchange_rules.specs.declared.run.TopicFault.{TopicFault}
use Rattle.tuple_values.specs.declared.memory.Memory.{Memory}
use Rattle.update_sink.specs.Runs.{IsStoppedBy}
use Rattle.root_runs.specs.Texts.{Told}
use Rattle.exchange_rules.proofs.ReachLemmas.{reaches_none, reaches_then, reaches_join}

-- a writer that did nothing followed a beginning of any course
pub nothing_done : {A : Type 0} (w : Writer) (p : Course A) → Begins w w p
nothing_done w p = (p, reaches_none w p)

-- and the whole of one that only ends
pub nothing_asked : {A : Type 0} (w : Writer) (a : A) → Answers w w (ends a) a
nothing_asked w a = reaches_none w (ends a)

-- a first part that stopped before its end is a beginning
first_halted : {A B : Type 0} (before : ℕ) (old new : Writer) (p : Course A)
    (next : A → Course B) (stand : ℕ) → IsStopped before old new p stand
    → Begins old new (and_then p next)
first_halted before old new p next stand s =
    (and_then s.rest next, reaches_then old new p s.rest next s.stood.reached)

-- so is one that was refused for that
pub first_stopped : {A B : Type 0} (old new : Writer) (p : Course A) (next : A → Course B)
    (fault : SiteFault) → Stopped old new p fault → Begins old new (and_then p next)
first_stopped old new p next (ShardFull collection shard stand) s = absurd s
first_stopped old new p next (TopicBound kept) s = absurd s
first_stopped old new p next (BookFull topics) s = absurd s
first_stopped old new p next (LogFault cell stand) s = absurd s
first_stopped old new p next (CellClosed cell stand) s = first_halted 0 old new p next stand s.0
first_stopped old new p next (OutOfMemory stand) s = first_halted 0 old new p next stand s

-- so is a beginning of a first part
pub first_begun : {A B : Type 0} (old new : Writer) (p : Course A) (next : A → Course B)
    → Begins old new p → Begins old new (and_then p next)
first_begun old new p next b = (and_then b.0 next, reaches_then old new p b.0 next b.1)

-- and a first part that led to what follows it
pub first_done : {A B : Type 0} (old new : Writer) (p : Course A) (next : A → Course B) (a : A)
    → Answers old new p a → Begins old new (and_then p next)
first_done old new p next a s = (next a, reaches_then old new p (ends a) next s)

-- it is all where the rest only ends
pub first_answered : {A B : Type 0} (old new : Writer) (p : Course A) (next : A → Course B)
    (a : A) (b : B) → next a ≡ ends b → Answers old new p a → Answers old new (and_then p next) b
first_answered old new p next a b e s =
    subst (λ q. Reaches old new (and_then p next) q) e (reaches_then old new p (ends a) next s)

-- want of memory may come wherever a beginning was followed
pub begun : {A E : Type 0} (old new : Writer) (p : Course A) (r : Result A E)
    (fault : E) → r ≡ Err fault → Begins old new p → Carried old new p r
begun old new p r fault e b = subst (Carried old new p) (sym e) b

-- an answer, or want of memory behind it
pub answered_as : {A E : Type 0} (old new : Writer) (p : Course A) (a : A) (r : Result A E)
    → Answers old new p a → IfOk r (λ b. b ≡ a) → Carried old new p r
answered_as old new p a (Ok b) s is = subst (λ x. Answers old new p x) (sym is) s
answered_as old new p a (Err fault) s is = (ends a, s)

-- a part that was carried out, and then the rest
pub carried_on : {A B E : Type 0} (old mid new : Writer) (p : Course A) (next : A → Course B) (a : A)
    (r : Result B E) → Answers old mid p a → Carried mid new (next a) r
    → Carried old new (and_then p next) r
carried_on old mid new p next a (Ok b) s c =
    reaches_join old mid new (and_then p next) (next a) (ends b)
    (reaches_then old mid p (ends a) next s) c
carried_on old mid new p next a (Err fault) s c = (
  c.0,
  reaches_join old mid new (and_then p next) (next a) c.0
      (reaches_then old mid p (ends a) next s) c.1,
)

-- an answer without a look or a step
pub ends_with : {A E : Type 0} (w : Writer) (p : Course A) (a : A) (r : Result A E) → p ≡ ends a
    → IfOk r (λ b. b ≡ a) → Carried w w p r
ends_with w p a (Ok b) e is =
    subst (λ q. Answers w w q b) (sym e)
    (subst (λ x. Answers w w (ends x) b) is (nothing_asked w b))
ends_with w p a (Err fault) e is = nothing_done w p

-- a first part that was answered, and an answer that is made of it
pub answered_with : {A B E : Type 0} (old new : Writer) (p : Course A) (next : A → Course B) (a : A)
    (b : B) (r : Result B E) → Answers old new p a → next a ≡ ends b → IfOk r (λ x. x ≡ b)
    → Carried old new (and_then p next) r
answered_with old new p next a b (Ok x) s e is =
    first_answered old new p next a x (e ∙ ap ends (sym is)) s
answered_with old new p next a b (Err fault) s e is = first_done old new p next a s

-- what was carried out of one course was of another that is the same
pub of_same : {A E : Type 0} (old new : Writer) (p q : Course A) (r : Result A E) → q ≡ p
    → Carried old new p r → Carried old new q r
of_same old new p q r e c = subst (λ x. Carried old new x r) (sym e) c

-- a fault that isn't want of memory stays one
pub told_of : {P Q : Type 0} (fault : SiteFault) → (P → Q) → Told fault P → Told fault Q
told_of (ShardFull collection shard stand) f p = f p
told_of (TopicBound kept) f p = f p
told_of (BookFull topics) f p = f p
told_of (LogFault cell stand) f p = absurd p
told_of (CellClosed cell stand) f p = absurd p
told_of (OutOfMemory stand) f p = absurd p

-- what is told of one
pub told_is : {A : Type 0} (fault : SiteFault) (a b : A) → Told fault (a ≡ b) → a ≡ b
told_is (ShardFull collection shard stand) a b is = is
told_is (TopicBound kept) a b is = is
told_is (BookFull topics) a b is = is
told_is (LogFault cell stand) a b is = absurd is
told_is (CellClosed cell stand) a b is = absurd is
told_is (OutOfMemory stand) a b is = absurd is

-- a call of a site that was refused, and what is told of that
pub refused_with : {A B : Type 0} (old new : Writer) (p : Course (Result A SiteFault))
    (next : Result A SiteFault → Course B) (b : B) (fault : SiteFault) (r : Result B Memory)
    → Answered old new p (Err fault) → next (Err fault) ≡ ends b
    → IfOk r (λ x. Told fault (x ≡ b)) → Carried old new (and_then p next) r
refused_with old new p next b (ShardFull collection shard stand) (Ok x) s e is =
    first_answered old new p next (Err (ShardFull collection shard stand)) x (e ∙ ap ends (sym is)) s
refused_with old new p next b (ShardFull collection shard stand) (Err memory) s e is =
    first_done old new p next (Err (ShardFull collection shard stand)) s
refused_with old new p next b (TopicBound kept) (Ok x) s e is =
    first_answered old new p next (Err (TopicBound kept)) x (e ∙ ap ends (sym is)) s
refused_with old new p next b (TopicBound kept) (Err memory) s e is =
    first_done old new p next (Err (TopicBound kept)) s
refused_with old new p next b (BookFull topics) (Ok x) s e is =
    first_answered old new p next (Err (BookFull topics)) x (e ∙ ap ends (sym is)) s
refused_with old new p next b (BookFull topics) (Err memory) s e is =
    first_done old new p next (Err (BookFull topics)) s
refused_with old new p next b (LogFault cell stand) (Ok x) s e is = absurd is
refused_with old new p next b (LogFault cell stand) (Err memory) s e is =
    first_halted 0 old new p next stand s.0
refused_with old new p next b (CellClosed cell stand) (Ok x) s e is = absurd is
refused_with old new p next b (CellClosed cell stand) (Err memory) s e is =
    first_halted 0 old new p next stand s.0
refused_with old new p next b (OutOfMemory stand) (Ok x) s e is = absurd is
refused_with old new p next b (OutOfMemory stand) (Err memory) s e is =
    first_halted 0 old new p next stand s

-- the same of a call of several others
pub ended_with : {A B : Type 0} (old new : Writer) (p : Course (Result A SiteFault))
    (next : Result A SiteFault → Course B) (b : B) (fault : SiteFault) (r : Result B Memory)
    → Ended old new p (Err fault) → next (Err fault) ≡ ends b
    → IfOk r (λ x. Told fault (x ≡ b)) → Carried old new (and_then p next) r
ended_with old new p next b (ShardFull collection shard stand) (Ok x) s e is =
    first_answered old new p next (Err (ShardFull collection shard stand)) x (e ∙ ap ends (sym is)) s
ended_with old new p next b (ShardFull collection shard stand) (Err memory) s e is =
    first_done old new p next (Err (ShardFull collection shard stand)) s
ended_with old new p next b (TopicBound kept) (Ok x) s e is =
    first_answered old new p next (Err (TopicBound kept)) x (e ∙ ap ends (sym is)) s
ended_with old new p next b (TopicBound kept) (Err memory) s e is =
    first_done old new p next (Err (TopicBound kept)) s
ended_with old new p next b (BookFull topics) (Ok x) s e is =
    first_answered old new p next (Err (BookFull topics)) x (e ∙ ap ends (sym is)) s
ended_with old new p next b (BookFull topics) (Err memory) s e is =
    first_done old new p next (Err (BookFull topics)) s
ended_with old new p next b (LogFault cell stand) (Ok x) s e is = absurd is
ended_with old new p next b (LogFault cell stand) (Err memory) s e is =
    first_begun old new p next s.0
ended_with old new p next b (CellClosed cell stand) (Ok x) s e is = absurd is
ended_with old new p next b (CellClosed cell stand) (Err memory) s e is =
    first_begun old new p next s.0
ended_with old new p next b (OutOfMemory stand) (Ok x) s e is = absurd is
ended_with old new p next b (OutOfMemory stand) (Err memory) s e is =
    first_begun old new p next s

-- and of the run of a topic
pub stopped_with : {A B : Type 0} (old new : Writer) (p : Course (Result A TopicFault))
    (next : Result A TopicFault → Course B) (b : B) (stop : TopicFault) (fault : SiteFault)
    (r : Result B Memory) → IsStoppedBy old new p stop fault → next (Err stop) ≡ ends b
    → IfOk r (λ x. Told fault (x ≡ b)) → Carried old new (and_then p next) r
stopped_with old new p next b stop (ShardFull collection shard stand) (Ok x) s e is =
    first_answered old new p next (Err stop) x (e ∙ ap ends (sym is)) s
stopped_with old new p next b stop (ShardFull collection shard stand) (Err memory) s e is =
    first_done old new p next (Err stop) s
stopped_with old new p next b stop (TopicBound kept) (Ok x) s e is =
    first_answered old new p next (Err stop) x (e ∙ ap ends (sym is)) s
stopped_with old new p next b stop (TopicBound kept) (Err memory) s e is =
    first_done old new p next (Err stop) s
stopped_with old new p next b stop (BookFull topics) (Ok x) s e is =
    first_answered old new p next (Err stop) x (e ∙ ap ends (sym is)) s
stopped_with old new p next b stop (BookFull topics) (Err memory) s e is =
    first_done old new p next (Err stop) s
stopped_with old new p next b stop (LogFault cell stand) (Ok x) s e is = absurd is
stopped_with old new p next b stop (LogFault cell stand) (Err memory) s e is =
    first_halted 0 old new p next stop.stand s.0
stopped_with old new p next b stop (CellClosed cell stand) (Ok x) s e is = absurd is
stopped_with old new p next b stop (CellClosed cell stand) (Err memory) s e is =
    first_halted 0 old new p next stop.stand s.0
stopped_with old new p next b stop (OutOfMemory stand) (Ok x) s e is = absurd is
stopped_with old new p next b stop (OutOfMemory stand) (Err memory) s e is =
    first_halted 0 old new p next stop.stand s
