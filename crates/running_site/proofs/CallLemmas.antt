-- Calls of a site, by those over a writer.
use Rattle.std.proofs.Common.{◌≡◌, ℕ, sym, subst}
use Rattle.std.specs.Prelude.{Result, Ok, Err}
use Rattle.exchange_rules.specs.Calls.{Answered, Completed, Refused}
use Rattle.exchange_rules.specs.Courses.{Course}
use Rattle.exchange_rules.specs.declared.fault.SiteFault.{SiteFault}
use Rattle.exchange_rules.specs.declared.fault.SiteFault.TheVariants.{ShardFull, TopicBound, BookFull, LogFault, CellClosed, OutOfMemory}
use Rattle.exchange_rules.specs.Following.{Writer}
use Rattle.exchange_rules.specs.Rows.{Layout}

-- what a call did by a writer that came to the site and went
pub at-site : (P : Writer → Writer → Layout → Type 0) (old here there new : Writer)
    (l m : Layout) → here ≡ old → new ≡ there → m ≡ l → P here there m → P old new l
at-site P old here there new l m come go same p =
    subst (λ x. P old new x) same
    (subst (λ w. P old w m) (sym go) (subst (λ w. P w there m) come p))

-- what a call asks of a writer that came to the site
pub from-site : (P : Writer → Layout → Type 0) (old here : Writer) (l m : Layout) → here ≡ old
    → m ≡ l → P old l → P here m
from-site P old here l m come same p =
    subst (λ w. P w m) (sym come) (subst (P old) (sym same) p)

-- a refused call kept its writer's number
refused-same : {A : Type 0} (before : ℕ) (old new : Writer) (p : Course (Result A SiteFault))
    (f : SiteFault) → Refused before old new p f → new.me ≡ old.me
refused-same before old new p (ShardFull collection shard stand) r = r.same
refused-same before old new p (TopicBound kept) r = r.same
refused-same before old new p (BookFull topics) r = r.same
refused-same before old new p (LogFault cell stand) r = r.0.stood.reached.same
refused-same before old new p (CellClosed cell stand) r = r.0.stood.reached.same
refused-same before old new p (OutOfMemory stand) r = r.stood.reached.same

-- a call keeps its writer's number
pub answered-same : {A : Type 0} (old new : Writer) (p : Course (Result A SiteFault))
    (r : Result A SiteFault) → Answered old new p r → new.me ≡ old.me
answered-same old new p (Ok a) d = d.same
answered-same old new p (Err f) d = refused-same 0 old new p f d

-- and so does one that only looks
pub completed-same : {A : Type 0} (old new : Writer) (p : Course A) (r : Result A SiteFault)
    → Completed old new p r → new.me ≡ old.me
completed-same old new p (Ok a) d = d.reached.same
completed-same old new p (Err (ShardFull collection shard stand)) d = absurd d
completed-same old new p (Err (TopicBound kept)) d = absurd d
completed-same old new p (Err (BookFull topics)) d = absurd d
completed-same old new p (Err (LogFault cell stand)) d = absurd d
completed-same old new p (Err (CellClosed cell stand)) d = d.0.stood.reached.same
completed-same old new p (Err (OutOfMemory stand)) d = d.stood.reached.same
