-- The turn of one daemon: what it does on the board, and the course that it follows.
use Rattle.std.proofs.Common.{◌≡◌, ℕ, ◌<◌, ◌==◌, Bool, true, false, List, [], ◌∷◌, Option, Some, None, refl, sym, ap, subst, ◌∙◌, true≢false}
use Rattle.std.proofs.lemmas.Bool.{and_parts, eq-eqb, ltb-true}
use Rattle.std.specs.Prelude.{◌&&◌, nat_lt, option_map, if◌then◌else◌, Result, Err, OnErr}
use Rattle.std.specs.Option.{is_none, is_some}
use Rattle.exchange_rules.specs.Courses.{ends, and_then}
use Rattle.exchange_rules.specs.Following.{Writer, Reaches, Answers, Begins, cleared}
use Rattle.exchange_rules.specs.Rows.{Layout}
use Rattle.exchange_rules.proofs.ReachLemmas.{reaches_none, reaches_then}
use Rattle.expr_types.specs.ExprTree.{ExprTree, expr_tree}
use Rattle.expr_types.specs.declared.expr.Expr.{Expr}
use Rattle.expr_check.specs.Parts.{input_of}
use Rattle.daemon_board.specs.Calls.{Claims, Finishes, IsClaimOf, IsOf}
use Rattle.daemon_board.specs.Daemons.{Entry, Shown, change_first, claimed, finished, first_such, is_away, is_running, may_run, may_run_after, with_daemons}
use Rattle.daemon_board.specs.Rising.{IsResting, Rest}
use Rattle.daemon_board.specs.Tickets.{ticket_of}
use Rattle.daemon_board.specs.declared.claim.Claim.{Claim}
use Rattle.daemon_board.specs.declared.daemon.Daemon.{Daemon}
use Rattle.root_runs.specs.Rooted.{IsRun}
use Rattle.root_runs.specs.Runs.{root_course}
use Rattle.root_runs.specs.declared.running.RootRun.{RootRun}
use Rattle.root_runs.proofs.CarriedLemmas.{first_begun}
use Rattle.daemon_steps.specs.Runs.{HasNone, IsFollowed, IsRunOut, IsTurn, IsTurnCut, run_out}
use Rattle.daemon_steps.specs.Steps.{once_course, ran, run_of, step_course, turn_course, unknown_run}
use Rattle.daemon_steps.specs.declared.once.Once.{Once}

-- the value of an option that is the other's
pub some_is : {X : Type 0} {x y : X} → Some x ≡ Some y → x ≡ y
some_is {X} {x} e = ap (λ (o : Option X). elim o as (λ _. X) [ None ↦ x | Some z ↦ z ]) e

-- nothing isn't something
pub none_is_no_some : {X : Type 0} {x : X} → None ≡ Some x → ⊥
none_is_no_some {X} e =
    subst (λ (o : Option X). elim o as (λ _. Type 0) [ None ↦ Unit {0} | Some x ↦ ⊥ ]) e tt

-- a daemon that is at rest isn't out
not_away : (number : ℕ) (e : Entry) → is_some e.daemon.checked ≡ true → is_away number e ≡ false
not_away number e h = by e.daemon.checked refl
  where
    by : (o : Option Expr) → e.daemon.checked ≡ o → is_away number e ≡ false
    by None is = absurd (true≢false (sym h ∙ ap is_some is))
    by (Some x) is = ap (λ (o : Option Expr). is_none o && e.daemon.number == number) is

-- a claim and the end of its run change the daemon that was claimed
ran_out : (after : ℕ) (entry : Entry) (e : Expr) (run : Once) (es : List Entry) → Rest es
    → first_such (may_run_after after) es ≡ Some entry
    → change_first (is_away entry.daemon.number) (finished e run.read run.fault 0)
    (change_first (may_run_after after) claimed es)
    ≡ change_first (may_run_after after) (run_out e run) es
ran_out after entry e run [] rest first = refl
ran_out after entry e run (x ∷ es) rest first =
    by (may_run_after after x) first (ran_out after entry e run es rest.1)
  where
    by : (b : Bool)
        → (if b then Some x else first_such (may_run_after after) es) ≡ Some entry
        → (first_such (may_run_after after) es ≡ Some entry
        → change_first (is_away entry.daemon.number) (finished e run.read run.fault 0)
        (change_first (may_run_after after) claimed es)
        ≡ change_first (may_run_after after) (run_out e run) es)
        → change_first (is_away entry.daemon.number) (finished e run.read run.fault 0)
        (if b then record x { daemon = claimed x.daemon } ∷ es
        else x ∷ change_first (may_run_after after) claimed es)
        ≡ (if b then record x { daemon = run_out e run x.daemon } ∷ es
        else x ∷ change_first (may_run_after after) (run_out e run) es)
    by true first_is others =
        let same : x.daemon.number ≡ entry.daemon.number =
        ap (λ (y : Entry). y.daemon.number) (some_is first_is) in
        ap (λ b. if b then record x { daemon = run_out e run x.daemon } ∷ es
        else record x { daemon = claimed x.daemon } ∷ change_first (is_away entry.daemon.number)
        (finished e run.read run.fault 0) es) (eq-eqb x.daemon.number entry.daemon.number same)
    by false first_is others =
        ap (λ b. if b then record x { daemon = finished e run.read run.fault 0 x.daemon }
        ∷ change_first (may_run_after after) claimed es
        else x ∷ change_first (is_away entry.daemon.number) (finished e run.read run.fault 0)
        (change_first (may_run_after after) claimed es)) (not_away entry.daemon.number x rest.0)
        ∙ ap (λ others. x ∷ others) (others first_is)

-- the first daemon, from its claim
claim_of : (first : Option Entry) (claim : Claim) → IsClaimOf first (Some claim)
    → (entry : Entry) × (first ≡ Some entry) × IsOf entry claim
claim_of None claim h = absurd (none_is_no_some (sym h))
claim_of (Some entry) claim h = (entry, refl, subst (IsOf entry) (sym (some_is h.1)) h.2)

-- the turn of the daemon that was claimed, when its run is over
pub turned : (after : ℕ) (old middle new : Shown) (claim : Claim) (run : Once) → IsResting old
    → (b : Shown) × (Some middle ≡ Some b) × Claims (may_run_after after) (Some claim) old b
    → (b : Shown) × (Some new ≡ Some b) × Finishes claim run.read run.fault 0 middle b
    → (entry : Entry) × (claim.number ≡ entry.daemon.number)
    × IsRunOut old new after entry claim.checked run
turned after old middle new claim run resting a b = (
  entry.0,
  entry.2.number,
  record {
    first = entry.1;
    whole = entry.2.whole;
    left = some_is b.1 ∙ b.2
        ∙ ap (λ (m : Shown). with_daemons m (change_first (is_away claim.number)
        (finished claim.checked run.read run.fault 0) m.daemons)) (some_is a.1 ∙ a.2.left)
        ∙ ap (with_daemons old)
        (ap (λ n. change_first (is_away n) (finished claim.checked run.read run.fault 0)
        (change_first (may_run_after after) claimed old.daemons)) entry.2.number
        ∙ ran_out after entry.0 claim.checked run old.daemons resting entry.1);
  },
)
  where
    entry : (entry : Entry) × (first_such (may_run_after after) old.daemons ≡ Some entry)
        × IsOf entry claim
    entry = claim_of (first_such (may_run_after after) old.daemons) claim a.2.claim

-- no daemon is claimed exactly where none may run
unclaimed_first : (first : Option Entry) → IsClaimOf first None → first ≡ None
unclaimed_first None h = refl
unclaimed_first (Some entry) h = absurd (none_is_no_some h.1)

none_changed : (test : Entry → Bool) (change : Daemon → Daemon) (es : List Entry)
    → first_such test es ≡ None → change_first test change es ≡ es
none_changed test change [] none = refl
none_changed test change (e ∷ es) none = by (test e) none (none_changed test change es)
  where
    by : (b : Bool) → (if b then Some e else first_such test es) ≡ None
        → (first_such test es ≡ None → change_first test change es ≡ es)
        → (if b then record e { daemon = change e.daemon } ∷ es
        else e ∷ change_first test change es)
        ≡ e ∷ es
    by true none_is others = absurd (none_is_no_some (sym none_is))
    by false none_is others = ap (λ rest. e ∷ rest) (others none_is)

pub unclaimed : (w : Writer) (after : ℕ) (old new : Shown)
    → (b : Shown) × (Some new ≡ Some b) × Claims (may_run_after after) None old b
    → HasNone w w old new after
unclaimed w after old new a = record {
  none = none;
  same = some_is a.1 ∙ a.2.left
      ∙ ap (with_daemons old) (none_changed (may_run_after after) claimed old.daemons none);
  still = refl;
}
  where
    none : first_such (may_run_after after) old.daemons ≡ None
    none = unclaimed_first (first_such (may_run_after after) old.daemons) a.2.claim

-- a daemon that runs, with its expression, follows this course
pub step-runs : (l : Layout) (entry : Entry) (e : Expr)
    → is_running entry.daemon.state ≡ true → Some e ≡ entry.daemon.checked
    → step_course l (ticket_of entry)
    ≡ and_then (once_course l (input_of (expr_tree e))) (λ run. ends (ran (ticket_of entry) run))
step-runs l entry e runs whole =
    ap (λ b. if b then turn_course l (ticket_of entry) (ticket_of entry).tree
    else ends (ticket_of entry)) runs
    ∙ ap (λ o. turn_course l (ticket_of entry) (option_map expr_tree o)) (sym whole)

-- one that doesn't run does nothing
pub step-idle : (l : Layout) (entry : Entry) → is_running entry.daemon.state ≡ false
    → step_course l (ticket_of entry) ≡ ends (ticket_of entry)
step-idle l entry idle =
    ap (λ b. if b then turn_course l (ticket_of entry) (ticket_of entry).tree
    else ends (ticket_of entry)) idle

-- its ticket after the run
pub ticket-ran : (entry : Entry) (e : Expr) (run : Once) → Some e ≡ entry.daemon.checked
    → ticket_of (record entry { daemon = run_out e run entry.daemon }) ≡ ran (ticket_of entry) run
ticket-ran entry e run whole =
    ap (λ o. record (ran (ticket_of entry) run) { tree = option_map expr_tree o }) whole

-- the first daemon that passes does
pub first-passes : (test : Entry → Bool) (es : List Entry) (e : Entry)
    → first_such test es ≡ Some e → test e ≡ true
first-passes test [] e first = absurd (none_is_no_some first)
first-passes test (x ∷ es) e first = by (test x) refl first (first-passes test es e)
  where
    by : (b : Bool) → test x ≡ b → (if b then Some x else first_such test es) ≡ Some e
        → (first_such test es ≡ Some e → test e ≡ true) → test e ≡ true
    by true is first_is others = subst (λ y. test y ≡ true) (some_is first_is) is
    by false is first_is others = others first_is

-- a run of its input is a step
pub stepped : (l : Layout) (old new : Writer) (entry : Entry) (e : Expr) (run : Once)
    → is_running entry.daemon.state ≡ true → Some e ≡ entry.daemon.checked
    → Answers old new (once_course l (input_of (expr_tree e))) run
    → Answers old new (step_course l (ticket_of entry))
    (ticket_of (record entry { daemon = run_out e run entry.daemon }))
stepped l old new entry e run runs whole h =
    subst (λ p. Reaches old new p
    (ends (ticket_of (record entry { daemon = run_out e run entry.daemon }))))
    (sym (step-runs l entry e runs whole))
    (subst (λ t. Reaches old new
    (and_then (once_course l (input_of (expr_tree e))) (λ run. ends (ran (ticket_of entry) run)))
    (ends t)) (sym (ticket-ran entry e run whole))
    (reaches_then old new (once_course l (input_of (expr_tree e))) (ends run)
    (λ run. ends (ran (ticket_of entry) run)) h))

pub step_begun : (l : Layout) (old new : Writer) (entry : Entry) (e : Expr)
    → is_running entry.daemon.state ≡ true → Some e ≡ entry.daemon.checked
    → Begins old new (once_course l (input_of (expr_tree e)))
    → Begins old new (step_course l (ticket_of entry))
step_begun l old new entry e runs whole b =
    subst (Begins old new) (sym (step-runs l entry e runs whole))
    (first_begun old new (once_course l (input_of (expr_tree e)))
    (λ run. ends (ran (ticket_of entry) run)) b)

-- the turn of a daemon that was claimed, when its run is over
pub turn_is : (l : Layout) (w v : Writer) (after : ℕ) (old middle new : Shown) (claim : Claim)
    (run : Once) → IsResting old
    → (b : Shown) × (Some middle ≡ Some b) × Claims (may_run_after after) (Some claim) old b
    → (b : Shown) × (Some new ≡ Some b) × Finishes claim run.read run.fault 0 middle b
    → IsFollowed w v (once_course l (input_of (expr_tree claim.checked))) run
    → IsTurn l w v old new after claim.number
turn_is l w v after old middle new claim run resting a b followed =
    let turn = turned after old middle new claim run resting a b in record {
      entry = turn.0;
      e = claim.checked;
      run = run;
      numbered = turn.1;
      ran_out = turn.2;
      followed = followed;
    }

pub turn_cut : (l : Layout) (w v : Writer) (after : ℕ) (old middle new : Shown) (claim : Claim)
    → IsResting old
    → (b : Shown) × (Some middle ≡ Some b) × Claims (may_run_after after) (Some claim) old b
    → (b : Shown) × (Some new ≡ Some b) × Finishes claim 1 None 0 middle b
    → Begins (cleared w) v (once_course l (input_of (expr_tree claim.checked)))
    → IsTurnCut l w v old new after
turn_cut l w v after old middle new claim resting a b begun =
    let turn = turned after old middle new claim unknown_run resting a b in record {
      entry = turn.0;
      e = claim.checked;
      ran_out = turn.2;
      begun = begun;
    }

-- each turn is that of a daemon behind the last
pub turn_later : (l : Layout) (w v : Writer) (old new : Shown) (after number : ℕ)
    → IsTurn l w v old new after number → after < number
turn_later l w v old new after number turn =
    subst (λ n. after < n) (sym turn.numbered)
    (ltb-true after turn.entry.daemon.number (and_parts (may_run turn.entry.daemon)
    (nat_lt after turn.entry.daemon.number)
    (first-passes (may_run_after after) old.daemons turn.entry turn.ran_out.first)).1)

-- an expression without an input does nothing
pub once_nothing : (l : Layout) (w v : Writer) (input : Option ExprTree) → None ≡ input
    → v ≡ cleared w → IsFollowed w v (once_course l input) unknown_run
once_nothing l w v input none rest = record {
  end = cleared w;
  carried = subst (λ i. Answers (cleared w) (cleared w) (once_course l i) unknown_run) none
      (reaches_none (cleared w) (ends unknown_run));
  rest = rest;
}

-- one with an input runs it
pub once_done : (l : Layout) (w v : Writer) (input : Option ExprTree) (e : ExprTree) (run : RootRun)
    → Some e ≡ input → IsRun l w v e run
    → IsFollowed w v (once_course l input) (record { read = run.read; fault = run.exception })
once_done l w v input e run some r = record {
  end = r.end;
  carried = subst (λ i. Answers (cleared w) r.end (once_course l i)
      (record { read = run.read; fault = run.exception })) some
      (subst (λ (o : Once). Answers (cleared w) r.end (once_course l (Some e)) o)
      (λ i. record { read = sym r.read i; fault = sym r.exception i })
      (reaches_then (cleared w) r.end (root_course l e) (ends r.done) (λ done. ends (run_of done))
      r.carried));
  rest = r.rest;
}

pub once_cut : (l : Layout) (w v : Writer) (input : Option ExprTree) (e : ExprTree) → Some e ≡ input
    → Begins (cleared w) v (root_course l e) → Begins (cleared w) v (once_course l input)
once_cut l w v input e some b =
    subst (λ i. Begins (cleared w) v (once_course l i)) some
    (first_begun (cleared w) v (root_course l e) (λ done. ends (run_of done)) b)

-- what holds where a call wanted memory
pub at_err : {A E : Type 0} (r : Result A E) (fault : E) (P : Type 0) → r ≡ Err fault → P
    → OnErr r P
at_err r fault P is p = subst (λ x. OnErr x P) (sym is) p
