-- A pass keeps its number, whatever is done with it.
use Rattle.std.proofs.Common.{◌≡◌, ◌∙◌, ℕ, List, ap, inl, inr}
use Rattle.std.specs.Prelude.{Option, Some, None, Result, Ok, Err, IfErr, IfOk}
use Rattle.tuple_values.specs.declared.memory.Memory.{Memory}
use Rattle.exchange_rules.specs.Calls.{Carried, Ended, IsEnded}
use Rattle.exchange_rules.specs.Courses.{Course}
use Rattle.exchange_rules.specs.Following.{Begins, Writer, cleared}
use Rattle.exchange_rules.specs.Rows.{Layout}
use Rattle.exchange_rules.specs.declared.fault.SiteFault.{SiteFault}
use Rattle.exchange_rules.specs.declared.fault.SiteFault.TheVariants.{ShardFull, TopicBound}
use Rattle.exchange_rules.specs.declared.fault.SiteFault.TheVariants.{BookFull, CellClosed, LogFault, OutOfMemory}
use Rattle.exchange_rules.specs.declared.run.TopicFault.{TopicFault}
use Rattle.daemon_steps.specs.Runs.{IsFollowed}
use Rattle.daemon_steps.specs.declared.once.Once.{Once}
use Rattle.expr_types.specs.ExprTree.{ExprTree}
use Rattle.form_request.specs.declared.request.Request.{Request}
use Rattle.update_sink.specs.Runs.{IsRun, IsStoppedBy}
use Rattle.root_runs.specs.Rooted.{IsRun as IsRooted}
use Rattle.root_runs.specs.Runs.{root_course}
use Rattle.root_runs.specs.declared.running.RootRun.{RootRun}
use Rattle.stream_handler.specs.Boards.{BoardState}
use Rattle.stream_handler.specs.Exchanges.{Answer, IsAnswered, IsBroken}
use Rattle.stream_handler.specs.Sessions.{Wire, EndsBy, IsConnection, IsOneEnd, IsOneOver}
use Rattle.stream_handler.specs.declared.ending.End.{End}
use Rattle.stream_handler.specs.declared.ending.OneEnd.{OneEnd}
use Rattle.stream_handler.specs.declared.ending.OneEnd.TheVariants.{Served, Last, Over}
use Rattle.stream_handler.specs.declared.ending.SessionEnd.{SessionEnd}
use Rattle.stream_handler.specs.declared.exchange.Answered.{Answered}
use Rattle.stream_handler.specs.declared.exchange.Exchange.{Exchange}

-- a call that carried its course out, or a beginning of it
pub carried-same : {A E : Type 0} (old new : Writer) (p : Course A) (r : Result A E)
    → Carried old new p r → new.me ≡ old.me
carried-same old new p (Ok a) d = d.same
carried-same old new p (Err f) d = d.1.same

ended-same-at : {A : Type 0} (old new : Writer) (p : Course (Result A SiteFault)) (f : SiteFault)
    → IsEnded old new p f → new.me ≡ old.me
ended-same-at old new p (ShardFull collection shard stand) d = d.same
ended-same-at old new p (TopicBound kept) d = d.same
ended-same-at old new p (BookFull topics) d = d.same
ended-same-at old new p (LogFault cell stand) d = d.0.1.same
ended-same-at old new p (CellClosed cell stand) d = d.0.1.same
ended-same-at old new p (OutOfMemory stand) d = d.1.same

-- a call of several others
pub ended-same : {A : Type 0} (old new : Writer) (p : Course (Result A SiteFault))
    (r : Result A SiteFault) → Ended old new p r → new.me ≡ old.me
ended-same old new p (Ok a) d = d.same
ended-same old new p (Err f) d = ended-same-at old new p f d

stopped-same : {A : Type 0} (old new : Writer) (p : Course (Result A TopicFault))
    (stopped : TopicFault) (f : SiteFault) → IsStoppedBy old new p stopped f → new.me ≡ old.me
stopped-same old new p stopped (ShardFull collection shard stand) d = d.same
stopped-same old new p stopped (TopicBound kept) d = d.same
stopped-same old new p stopped (BookFull topics) d = d.same
stopped-same old new p stopped (LogFault cell stand) d = d.0.stood.reached.same
stopped-same old new p stopped (CellClosed cell stand) d = d.0.stood.reached.same
stopped-same old new p stopped (OutOfMemory stand) d = d.stood.reached.same

-- the run of a topic
pub run-same : {A : Type 0} (old new : Writer) (p : Course (Result A TopicFault))
    (r : Result A TopicFault) → IsRun old new p r → new.me ≡ old.me
run-same old new p (Ok a) d = d.same
run-same old new p (Err stopped) d = stopped-same old new p stopped stopped.fault d

-- the run of an expression
pub rooted-same : (l : Layout) (old new : Writer) (e : ExprTree) (r : Result RootRun Memory)
    → IfOk r (IsRooted l old new e)
    → IfErr r (λ _. Begins (cleared old) new (root_course l e)) → new.me ≡ old.me
rooted-same l old new e (Ok run) ok err = ap (λ (w : Writer). w.me) ok.rest ∙ ok.carried.same
rooted-same l old new e (Err f) ok err = err.1.same

-- one run of a daemon's expression
pub once-same : (old new : Writer) (p : Course Once) (r : Result Once Memory)
    → IfOk r (IsFollowed old new p) → IfErr r (λ _. Begins (cleared old) new p) → new.me ≡ old.me
once-same old new p (Ok run) ok err = ap (λ (w : Writer). w.me) ok.rest ∙ ok.carried.same
once-same old new p (Err f) ok err = err.1.same

-- the answer to a request
pub answered-same : (tells : ℕ → Type 0) (l : Layout) (old new : Writer) (before after : BoardState)
    (request : Request) (r : Result Answered Memory)
    → IfOk r (IsAnswered tells l old new before after request)
    → IfErr r (λ _. IsBroken l old new before after request) → new.me ≡ old.me
answered-same tells l old new before after request (Ok a) ok err =
    ap (λ (w : Writer). w.me) ok.rest ∙ ok.carried.same
answered-same tells l old new before after request (Err f) ok err = err.begun.1.same

module _ (tells : ℕ → Type 0) (l : Layout) (before after : Wire) (old new : Writer) where
  ends-same : (answers : List Answer) (rest : _) (e : End)
      → EndsBy tells l before after old new answers rest e → new.me ≡ old.me
  ends-same answers rest e (inl settled) = settled.exchanged.same
  ends-same answers rest e (inr begun) = begun.1.same ∙ begun.1.exchanged.same

  over-same : (unfinished : Option Exchange) (e : End)
      → IsOneOver tells l before after old new unfinished e → new.me ≡ old.me
  over-same None e o = ends-same _ _ e o.over.ends
  over-same (Some x) e o = o.exchanged.same

  -- the serving of a message
  pub one-same : (r : OneEnd) → IsOneEnd tells l before after old new r → new.me ≡ old.me
  one-same (Served x) o = o.served.exchanged.same
  one-same (Last x) o = o.served.exchanged.same
  one-same (Over e unfinished) o = over-same unfinished e o

-- the serving of a connection
pub connection-same : (tells : ℕ → Type 0) (l : Layout) (before : Wire) (left : Option (List ℕ))
    (reads : ℕ) (written : Option (List ℕ)) (writes : ℕ) (board : BoardState) (old new : Writer)
    (s : SessionEnd) → IsConnection tells l before left reads written writes board old new s
    → new.me ≡ old.me
connection-same tells l before left reads written writes board old new s c =
    ends-same tells l before _ old new _ _ s.end c.1.session.over.ends
