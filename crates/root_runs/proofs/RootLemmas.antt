-- What expressions do looks first, and what is done where collections are there.
use Rattle.std.proofs.Common.{◌≡◌, ℕ, List, [], length, true, false, refl, sym, ap, subst}
use Rattle.std.specs.Prelude.{Bool, Option, Some, None, is_some, Result, Ok, Err, IfOk, nat_lt, if◌then◌else◌}
use Rattle.tuple_values.specs.Document.{ByteList, Doc}
use Rattle.tuple_values.specs.declared.memory.Memory.{Memory}
use Rattle.tuple_values.specs.declared.names.NameShards.{NameShards}
use Rattle.shard_versions.specs.declared.cut.CutPart.{CutPart}
use Rattle.topic_book.specs.Fitness.{shards_of}
use Rattle.exchange_rules.specs.Calls.{Carried, Ended}
use Rattle.exchange_rules.specs.Courses.{Course, ends, and_then}
use Rattle.exchange_rules.specs.Following.{Writer, Answers, Begins}
use Rattle.exchange_rules.specs.Looking.{LooksFirst}
use Rattle.exchange_rules.specs.Rows.{Layout, cut_course}
use Rattle.exchange_rules.specs.Topics.{read_course, run_course}
use Rattle.exchange_rules.specs.Updates.{tuples_course, commit_round_course}
use Rattle.exchange_rules.specs.declared.fault.SiteFault.{SiteFault}
use Rattle.exchange_rules.specs.declared.run.Ran.{Ran}
use Rattle.exchange_rules.specs.declared.run.TopicRead.{TopicRead}
use Rattle.exchange_rules.specs.declared.run.TopicRun.{TopicRun}
use Rattle.exchange_rules.proofs.LookingLemmas.{cut_first, either, then_first}
use Rattle.exchange_rules.proofs.RunLemmas.{runs_first}
use Rattle.expr_types.specs.ExprTree.{ExprTree, TopicParts, operator_in}
use Rattle.expr_types.specs.Plain.{is_plain}
use Rattle.expr_check.specs.Parts.{input_of}
use Rattle.expr_check.specs.Walk.{collections_of}
use Rattle.update_sink.specs.Topics.{Sink, asked_of, batches_over, read_of, run_of}
use Rattle.root_runs.specs.Deeds.{Deed, deed_of, reads, follows, writes, commits, repeats, gives_summaries}
use Rattle.root_runs.specs.Dones.{given, passed, unknown, misplaced, ran_over, committed}
use Rattle.root_runs.specs.Texts.{Told}
use Rattle.root_runs.specs.Lists.{list_over}
use Rattle.root_runs.proofs.CarriedLemmas.{answered_with, carried_on, ended_with, first_answered, first_begun, nothing_asked, of_same}
use Rattle.root_runs.specs.Laws.{RootsLookFirst}
use Rattle.root_runs.specs.Runs.{list_course, reads_then, put_course, where_there, where_both, follow_course, deliver_course, update_by, update_with, update_over, inner_by, commits_round, then_commits, commit_over, root_by}
use Rattle.root_runs.specs.declared.done.Done.{Done}

-- where the collection is there it is done
pub there_done : (names : List NameShards) (c : ByteList) (p : Course Done)
    → nat_lt 0 (shards_of names c) ≡ true → where_there names c p ≡ p
there_done names c p e = ap (λ b. if b then p else ends (unknown c)) e

-- and else it is told
pub there_told : (names : List NameShards) (c : ByteList) (p : Course Done)
    → nat_lt 0 (shards_of names c) ≡ false → where_there names c p ≡ ends (unknown c)
there_told names c p e = ap (λ b. if b then p else ends (unknown c)) e

-- what only reads is followed by what comes then
pub reads_plain : (l : Layout) (e : ExprTree) (next : List Doc → Course Done) → is_plain e ≡ true
    → reads_then l e next ≡ and_then (list_course l e) next
reads_plain l e next is =
    ap (λ b. if b then and_then (list_course l e) next else ends (misplaced e)) is

-- the tuples of a cut
pub list_carried : (old new : Writer) (l : Layout) (e : ExprTree) (cut : List CutPart)
    (r : Result (List Doc) Memory) → Answers old new (cut_course l.names [] (collections_of e)) cut
    → IfOk r (λ docs. docs ≡ list_over e cut) → Carried old new (list_course l e) r
list_carried old new l e cut r a is =
    answered_with old new (cut_course l.names [] (collections_of e))
    (λ cut. ends (list_over e cut)) cut (list_over e cut) r a refl is

-- what was done with them
pub reads_on : (old mid new : Writer) (l : Layout) (e : ExprTree) (next : List Doc → Course Done)
    (docs : List Doc) (r : Result Done Memory) → is_plain e ≡ true
    → Answers old mid (list_course l e) docs → Carried mid new (next docs) r
    → Carried old new (reads_then l e next) r
reads_on old mid new l e next docs r plain a c =
    of_same old new (and_then (list_course l e) next) (reads_then l e next) r
    (reads_plain l e next plain) (carried_on old mid new (list_course l e) next docs r a c)

-- a beginning of them
pub reads_begun : (old new : Writer) (l : Layout) (e : ExprTree) (next : List Doc → Course Done)
    → is_plain e ≡ true → Begins old new (list_course l e) → Begins old new (reads_then l e next)
reads_begun old new l e next plain b =
    subst (λ p. Begins old new p) (sym (reads_plain l e next plain))
    (first_begun old new (list_course l e) next b)

-- an answer that is made of them
pub reads_given : (old new : Writer) (l : Layout) (e : ExprTree) (next : List Doc → Course Done)
    (docs : List Doc) (done : Done) → is_plain e ≡ true → next docs ≡ ends done
    → Answers old new (list_course l e) docs → Answers old new (reads_then l e next) done
reads_given old new l e next docs done plain is a =
    subst (λ p. Answers old new p done) (sym (reads_plain l e next plain))
    (first_answered old new (list_course l e) next docs done is a)

-- a fault goes through commits as it is
pub round_faulty : (w : Writer) (l : Layout) (dest : ByteList) (size : Option ℕ) (summaries : Bool)
    (done : Done) (fault : Option ByteList) → is_some fault ≡ true
    → Answers w w (commits_round l dest size summaries done fault) done
round_faulty w l dest size summaries done None is = absurd (cc)
round_faulty w l dest size summaries done (Some text) is = nothing_asked w done

-- what was done without one is committed
pub round_done : (old new : Writer) (l : Layout) (dest : ByteList) (size : Option ℕ)
    (summaries : Bool) (done : Done) (fault : Option ByteList) (unit : Unit {0})
    → is_some fault ≡ false
    → Answers old new (commit_round_course l dest size summaries done.docs) (Ok unit)
    → Answers old new (commits_round l dest size summaries done fault) done
round_done old new l dest size summaries done None unit is a =
    first_answered old new (commit_round_course l dest size summaries done.docs)
    (λ r. ends (committed summaries done r)) (Ok unit) done refl a
round_done old new l dest size summaries done (Some text) unit is a = absurd (cc)

-- or that is refused
pub round_refused : (old new : Writer) (l : Layout) (dest : ByteList) (size : Option ℕ)
    (summaries : Bool) (done : Done) (given : Option ByteList) (fault : SiteFault)
    (r : Result Done Memory) → is_some given ≡ false
    → Ended old new (commit_round_course l dest size summaries done.docs) (Err fault)
    → IfOk r (λ left. Told fault (left ≡ committed summaries done (Err fault)))
    → Carried old new (commits_round l dest size summaries done given) r
round_refused old new l dest size summaries done None fault r is a told =
    ended_with old new (commit_round_course l dest size summaries done.docs)
    (λ r. ends (committed summaries done r)) (committed summaries done (Err fault)) fault r a refl
    told
round_refused old new l dest size summaries done (Some text) fault r is a told = absurd (cc)

-- an update of tuples
pub put_carried : (old new : Writer) (l : Layout) (dest : ByteList) (size n : ℕ) (docs : List Doc)
    (ran : Ran) (r : Result Done Memory) → Answers old new (tuples_course l dest size docs) ran
    → n ≡ length docs → IfOk r (λ done. done ≡ ran_over n ran)
    → Carried old new (put_course l dest size docs) r
put_carried old new l dest size n docs ran r a counted is =
    answered_with old new (tuples_course l dest size docs) (λ ran. ends (ran_over (length docs) ran))
    ran (ran_over n ran) r a (ap (λ k. ends (ran_over k ran)) (sym counted)) is

-- a list looks first
list_first : (l : Layout) (e : ExprTree) → LooksFirst None (list_course l e)
list_first l e =
    then_first None (cut_course l.names [] (collections_of e)) _
    (cut_first l.names [] (collections_of e)) (λ cut. tt)

-- so does what comes then
reads_first : (l : Layout) (e : ExprTree) (next : List Doc → Course Done)
    → ((docs : List Doc) → LooksFirst None (next docs)) → LooksFirst None (reads_then l e next)
reads_first l e next first =
    either None (is_plain e) (and_then (list_course l e) next) (ends (misplaced e))
    (then_first None (list_course l e) next (list_first l e) first) tt

-- so does an update of tuples
put_first : (l : Layout) (dest : ByteList) (size : ℕ) (docs : List Doc)
    → LooksFirst None (put_course l dest size docs)
put_first l dest size docs =
    then_first None (tuples_course l dest size docs) _
    ((runs_first {B = Done}).tuples l dest size docs) (λ ran. tt)

-- so does what is done where a collection is there
there_first : (names : List NameShards) (c : ByteList) (p : Course Done) → LooksFirst None p
    → LooksFirst None (where_there names c p)
there_first names c p first =
    either None (nat_lt 0 (shards_of names c)) p (ends (unknown c)) first tt

-- so does what is done where two are
both_first : (names : List NameShards) (a b : ByteList) (p : Course Done) → LooksFirst None p
    → LooksFirst None (where_both names a b p)
both_first names a b p first =
    there_first names a (where_there names b p) (there_first names b p first)

-- so does a topic that gives its tuples
follow_first : (l : Layout) (p : TopicParts) → LooksFirst None (follow_course l p)
follow_first l p =
    then_first None (read_course l.names (asked_of p None) (read_of p)) _
    ((runs_first {B = TopicRead}).read l (asked_of p None) (read_of p)) (λ r. tt)

-- so does a topic that is delivered
deliver_first : (l : Layout) (s : Sink) → LooksFirst None (deliver_course l s)
deliver_first l s =
    then_first None (run_course l (asked_of s.topic (Some s.dest)) s.dest (batches_over s) run_of) _
    ((runs_first {B = TopicRun}).run l (asked_of s.topic (Some s.dest)) s.dest (batches_over s)
    run_of) (λ r. tt)

-- so does an update, by what its input does
update_by_first : (l : Layout) (dest : ByteList) (size : ℕ) (e : ExprTree) (d : Deed)
    → LooksFirst None (update_by l dest size e d)
update_by_first l dest size e reads =
    reads_first l e (put_course l dest size) (put_first l dest size)
update_by_first l dest size e (follows p) =
    both_first l.names p.checkpoints p.collection _
    (deliver_first l (record { topic = p; dest = dest; size = size }))
update_by_first l dest size e (writes to most) = tt
update_by_first l dest size e (commits to most) = tt
update_by_first l dest size e repeats = tt

-- so does an update with this input
update_with_first : (l : Layout) (dest : ByteList) (size : ℕ) (input : Option ExprTree)
    → LooksFirst None (update_with l dest size input)
update_with_first l dest size None = tt
update_with_first l dest size (Some e) = update_by_first l dest size e (deed_of (operator_in e))

-- so does an update
update_first : (l : Layout) (dest : ByteList) (size : ℕ) (input : Option ExprTree)
    → LooksFirst None (update_over l dest size input)
update_first l dest size input =
    there_first l.names dest (update_with l dest size input) (update_with_first l dest size input)

-- so does what a commit has round it
inner_first : (l : Layout) (e : ExprTree) (d : Deed) → LooksFirst None (inner_by l e d)
inner_first l e reads = reads_first l e (λ docs. ends (passed docs)) (λ docs. tt)
inner_first l e (follows p) = tt
inner_first l e (writes dest size) = update_first l dest size (input_of e)
inner_first l e (commits dest size) = tt
inner_first l e repeats = tt

-- so do the commits
round_first : (l : Layout) (dest : ByteList) (size : Option ℕ) (summaries : Bool) (done : Done)
    (fault : Option ByteList) → LooksFirst None (commits_round l dest size summaries done fault)
round_first l dest size summaries done (Some text) = tt
round_first l dest size summaries done None =
    then_first None (commit_round_course l dest size summaries done.docs) _
    ((runs_first {B = Done}).commits l dest size summaries done.docs) (λ r. tt)

-- so does a commit
commit_first : (l : Layout) (dest : ByteList) (size : Option ℕ) (input : Option ExprTree)
    → LooksFirst None (commit_over l dest size input)
commit_first l dest size None = tt
commit_first l dest size (Some e) =
    then_first None (inner_by l e (deed_of (operator_in e)))
    (then_commits l dest size (gives_summaries (deed_of (operator_in e))))
    (inner_first l e (deed_of (operator_in e)))
    (λ done. round_first l dest size (gives_summaries (deed_of (operator_in e))) done done.exception)

-- so does an expression, by what its root does
root_by_first : (l : Layout) (e : ExprTree) (d : Deed) → LooksFirst None (root_by l e d)
root_by_first l e reads = reads_first l e (λ docs. ends (given docs)) (λ docs. tt)
root_by_first l e (follows p) =
    both_first l.names p.checkpoints p.collection _ (follow_first l p)
root_by_first l e (writes dest size) = update_first l dest size (input_of e)
root_by_first l e (commits dest size) = commit_first l dest size (input_of e)
root_by_first l e repeats = tt

-- so does each expression
pub roots_first : RootsLookFirst
roots_first =
    record { list = list_first; root = λ l e. root_by_first l e (deed_of (operator_in e)) }
