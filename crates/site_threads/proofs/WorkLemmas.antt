-- What follows of calls that were made one after another.
use Rattle.std.proofs.Common.{List, [], ◌∷◌, ◌++◌, refl, subst, Result, Ok, Err}
use Rattle.shard_versions.proofs.ListLemmas.{each_append, each_weaker}
use Rattle.exchange_rules.specs.Calls.{Answered}
use Rattle.exchange_rules.specs.Courses.{Course, ends}
use Rattle.exchange_rules.specs.Following.{Writer, Begins}
use Rattle.exchange_rules.specs.Rows.{Layout}
use Rattle.exchange_rules.specs.declared.fault.SiteFault.{SiteFault}
use Rattle.exchange_rules.specs.declared.run.TopicFault.{TopicFault}
use Rattle.update_sink.specs.Runs as runs
use Rattle.update_sink.proofs.KeptLemmas.{refused-reached}
use Rattle.update_sink.proofs.PromiseLemmas.{run-reached}
use Rattle.site_threads.specs.Work.{AreMade, Call, HasWorked, Makes}

-- no call was made
pub work-none : (l : Layout) (P : Call → Type 0) (w : Writer) → HasWorked l P w w
work-none l P w = record { calls = []; each = tt; made = refl }

-- one call was made
pub work-one : (l : Layout) (P : Call → Type 0) (old new : Writer) (call : Call) → P call
    → Makes l old new call → HasWorked l P old new
work-one l P old new call p m = record {
  calls = call ∷ [];
  each = (p, tt);
  made = (new, (m, refl));
}

-- calls, and then others
calls-join : (l : Layout) (old mid new : Writer) (first later : List Call)
    → AreMade l old mid first → AreMade l mid new later → AreMade l old new (first ++ later)
calls-join l old mid new [] later a b = subst (λ w. AreMade l w new later) a b
calls-join l old mid new (call ∷ first) later a b =
    (a.0, (a.1.0, calls-join l a.0 mid new first later a.1.1 b))

pub work-join : (l : Layout) (P : Call → Type 0) (old mid new : Writer) → HasWorked l P old mid
    → HasWorked l P mid new → HasWorked l P old new
work-join l P old mid new a b = record {
  calls = a.calls ++ b.calls;
  each = each_append P a.calls b.calls a.each b.each;
  made = calls-join l old mid new a.calls b.calls a.made b.made;
}

-- calls of a kind are of each wider kind
pub work-wider : (l : Layout) (P Q : Call → Type 0) (old new : Writer)
    → ((call : Call) → P call → Q call) → HasWorked l P old new → HasWorked l Q old new
work-wider l P Q old new f a = record {
  calls = a.calls;
  each = each_weaker P Q f a.calls a.each;
  made = a.made;
}

-- whatever a call answers, it followed a beginning of its course
pub answered-begins : {A : Type 0} (old new : Writer) (course : Course (Result A SiteFault))
    (r : Result A SiteFault) → Answered old new course r → Begins old new course
answered-begins old new course (Ok a) h = (ends (Ok a), h)
answered-begins old new course (Err fault) h =
    let there = refused-reached old new course fault h in (there.rest, there.reached)

-- and so did a run
pub run-begins : {A : Type 0} (old new : Writer) (course : Course (Result A TopicFault))
    (r : Result A TopicFault) → runs.IsRun old new course r → Begins old new course
run-begins old new course r h =
    let there = run-reached old new course r h in (there.rest, there.reached)
