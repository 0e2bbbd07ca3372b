-- Whoever takes a cut only reads.
use Rattle.std.proofs.Common.{◌≡◌, ℕ, zero, suc, ◌+◌, List, [], ◌∷◌, ◌++◌, refl, ap, Result, Ok, Err}
use Rattle.tuple_values.specs.Document.{ByteList}
use Rattle.tuple_values.specs.declared.names.NameShards.{NameShards}
use Rattle.shard_versions.specs.declared.cut.CutPart.{CutPart}
use Rattle.topic_book.specs.Fitness.{shards_of}
use Rattle.exchange_rules.specs.Accesses.{Access, a_look, a_step, at_mark, had_after, own_of}
use Rattle.exchange_rules.specs.Calls.{Completed}
use Rattle.exchange_rules.specs.Cells.{Log, history_in}
use Rattle.exchange_rules.specs.Courses.{Course, ends, looks, makes, and_then}
use Rattle.exchange_rules.specs.Following.{Follows, Reaches, Writer, counts}
use Rattle.exchange_rules.specs.Own.{steps_at}
use Rattle.exchange_rules.specs.Rows.{cut_course, cut_shards, part_of}
use Rattle.exchange_rules.specs.declared.fault.SiteFault.{SiteFault}
use Rattle.exchange_rules.specs.declared.fault.SiteFault.TheVariants.{ShardFull, TopicBound, BookFull, LogFault, CellClosed, OutOfMemory}
use Rattle.load_rules.specs.Worked.{HasRead}
use Rattle.load_mix.proofs.AddLemmas.{added_as, added_reached}

-- the course makes no step
abbrev pub IsLooking : {A : Type 0} → Course A → Type 0
IsLooking (ends a) = Unit {0}
IsLooking (looks cell see) = (log : Log) → IsLooking (see log)
IsLooking (makes cell step rest) = ⊥

-- whoever follows it makes none
looking_none : {A : Type 0} (me : ℕ) (seen : List Log) (had : List ℕ) (p : Course A)
    (accesses : List Access) (q : Course A) (end : List ℕ) → IsLooking p
    → Follows me seen had p accesses q end → own_of accesses ≡ []
looking_none me seen had p [] q end k f = refl
looking_none me seen had (ends a) (access ∷ accesses) q end k f = absurd f.0
looking_none me seen had (looks c see) (a_step o ∷ accesses) q end k f = absurd f.0
looking_none me seen had (makes c step p) (access ∷ accesses) q end k f = absurd k
looking_none me seen had (looks c see) (a_look m ∷ accesses) q end k f =
    looking_none me seen (had_after had (a_look m)) (see (at_mark seen m)) accesses q end
    (k (at_mark seen m)) f.1

-- and so has only read
pub read_reached : {A : Type 0} (old new : Writer) (p q : Course A) → IsLooking p
    → Reaches old new p q → HasRead old new
read_reached old new p q k r =
    let none = looking_none old.me new.seen (counts old.seen) p r.accesses q (counts new.seen) k
    r.followed in
    added_as (λ c. steps_at c new.seen (own_of r.accesses)) (λ c. []) old new
    (λ c. ap (steps_at c new.seen) none) (added_reached old new p q r)

-- also where it stopped
pub read_completed : {A : Type 0} (old new : Writer) (p : Course A) (r : Result A SiteFault)
    → IsLooking p → Completed old new p r → HasRead old new
read_completed old new p (Ok a) k c = read_reached old new p (ends a) k c.reached
read_completed old new p (Err (ShardFull collection shard stand)) k c = absurd c
read_completed old new p (Err (TopicBound kept)) k c = absurd c
read_completed old new p (Err (BookFull topics)) k c = absurd c
read_completed old new p (Err (LogFault cell stand)) k c = absurd c
read_completed old new p (Err (CellClosed cell stand)) k c =
    read_reached old new p c.0.rest k c.0.stood.reached
read_completed old new p (Err (OutOfMemory stand)) k c =
    read_reached old new p c.rest k c.stood.reached

-- a course that makes none, and then others
looking_then : {A B : Type 0} (p : Course A) (next : A → Course B) → IsLooking p
    → ((a : A) → IsLooking (next a)) → IsLooking (and_then p next)
looking_then (ends a) next k n = n a
looking_then (looks cell see) next k n = λ log. looking_then (see log) next (k log) n
looking_then (makes cell step rest) next k n = absurd k

-- a cut of shards
looking_shards : (names : List NameShards) (c : ByteList) (shard left : ℕ) (cut : List CutPart)
    → IsLooking (cut_shards names c shard left cut)
looking_shards names c shard zero cut = tt
looking_shards names c shard (suc left) cut = λ log.
    looking_shards names c (shard + 1) left (cut ++ part_of c shard (history_in log) ∷ [])

-- a cut
pub looking_cut : (names : List NameShards) (cut : List CutPart) (collections : List ByteList)
    → IsLooking (cut_course names cut collections)
looking_cut names cut [] = tt
looking_cut names cut (c ∷ collections) =
    looking_then (cut_shards names c 0 (shards_of names c) cut)
    (λ more. cut_course names more collections)
    (looking_shards names c 0 (shards_of names c) cut) (λ more. looking_cut names more collections)
