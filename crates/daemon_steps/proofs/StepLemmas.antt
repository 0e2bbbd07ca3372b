-- How far the daemons of a board were run, one after another.
use Rattle.std.proofs.Common.{◌≡◌, ℕ, ◌-◌, ◌<◌, ◌≤◌, Bool, true, false, List, [], ◌∷◌, ◌++◌, map, Option, Some, None, refl, sym, ap, subst, ◌∙◌, arith, append_assoc, append-nil, true≢false}
use Rattle.std.proofs.lemmas.Bool.{and_parts, le-ltb, lt-ltb}
use Rattle.std.proofs.lemmas.List.{map-append}
use Rattle.std.specs.Prelude.{◌&&◌, nat_lt, if◌then◌else◌}
use Rattle.std.specs.List.{AllByRecursion}
use Rattle.std.specs.Option.{is_some}
use Rattle.exchange_rules.specs.Courses.{Course, ends}
use Rattle.exchange_rules.specs.Following.{Writer, Reaches, Answers, Begins, cleared}
use Rattle.exchange_rules.specs.Rows.{Layout}
use Rattle.exchange_rules.proofs.ReachLemmas.{reaches_none}
use Rattle.expr_types.specs.ExprTree.{expr_tree}
use Rattle.expr_types.specs.declared.expr.Expr.{Expr}
use Rattle.expr_check.specs.Parts.{input_of}
use Rattle.daemon_board.specs.Daemons.{Entry, Shown, change_first, first_such, is_running, may_run, may_run_after}
use Rattle.daemon_board.specs.Rising.{IsKept, IsResting, IsRising, Rest, RiseWithin}
use Rattle.daemon_board.specs.Tickets.{ticket_of, tickets_of}
use Rattle.daemon_board.specs.declared.daemon.Daemon.{Daemon}
use Rattle.daemon_board.proofs.RisingLemmas.{change_first-rests, change_first-rises, rise-join, rise-le}
use Rattle.daemon_steps.specs.Runs.{HasNone, IsFollowed, IsRunOut, IsTurn, IsTurnCut, run_out}
use Rattle.daemon_steps.specs.Stepped.{IsCutShort, IsStepped}
use Rattle.daemon_steps.specs.Steps.{once_course, ran, step_course, steps_course, unknown_run}
use Rattle.daemon_steps.specs.declared.once.Once.{Once}
use Rattle.daemon_steps.proofs.CourseLemmas.{begun_behind, carried_behind, reaches_on, with_record}
use Rattle.daemon_steps.proofs.TurnLemmas.{first-passes, none_is_no_some, some_is, step-idle, step_begun, stepped, ticket-ran}

-- the daemons up to a number were run, and those behind them weren't: the writer followed the
-- courses of the former, and its record is empty
pub record HasCome (l : Layout) (old now : Writer) (from b : Shown) (after : ℕ) : Type 0 where
  pub front : List Entry
  pub back : List Entry
  pub done : List Entry
  pub end : Writer
  pub split : from.daemons ≡ front ++ back
  pub come : b.daemons ≡ done ++ back
  pub risen : RiseWithin 0 after done
  pub rising : RiseWithin after from.put back
  pub carried : Answers (cleared old) end (steps_course l (map ticket_of front))
      (map ticket_of done)
  pub rest : now ≡ cleared end
  pub resting : Rest b.daemons
  pub put : b.put ≡ from.put

-- no daemon was run yet
pub come_none : (l : Layout) (old now : Writer) (b : Shown) → IsKept b → now ≡ cleared old
    → HasCome l old now b b 0
come_none l old now b kept rest = record {
  front = [];
  back = b.daemons;
  done = [];
  end = cleared old;
  split = refl;
  come = refl;
  risen = omega arith;
  rising = kept.rising;
  carried = reaches_none (cleared old) (ends []);
  rest = rest;
  resting = kept.resting;
  put = refl;
}

-- the board is kept
pub come_kept : (l : Layout) (old now : Writer) (from b : Shown) (after : ℕ)
    → HasCome l old now from b after → IsKept b
come_kept l old now from b after h = record {
  rising = subst (λ es. RiseWithin 0 b.put es) (sym h.come)
      (subst (λ n. RiseWithin 0 n (h.done ++ h.back)) (sym h.put)
      (rise-join 0 after from.put h.done h.back h.risen h.rising));
  resting = h.resting;
}

-- each number is nearer to the greatest
pub come_nearer : (l : Layout) (old now next : Writer) (from b new : Shown) (after number : ℕ)
    → HasCome l old now from b after → HasCome l old next from new number → after < number
    → new.put - number < b.put - after
come_nearer l old now next from b new after number h k later =
    let within = rise-le number from.put k.back k.rising in
    let put : b.put ≡ from.put = h.put in
    let put_new : new.put ≡ from.put = k.put in
    omega arith

-- a board on which nothing was done is kept
pub none_kept : (w v : Writer) (b new : Shown) (after : ℕ) → HasNone w v b new after → IsKept b
    → IsKept new
none_kept w v b new after none kept = subst IsKept (sym none.same) kept

-- a test fails that needs a greater number
fails-and : (a b : Bool) → b ≡ false → (a && b) ≡ false
fails-and true b is = is
fails-and false b is = refl

-- no daemon up to a number is behind it
risen_fail : (low after : ℕ) (es : List Entry) → RiseWithin low after es
    → AllByRecursion (λ e. may_run_after after e ≡ false) es
risen_fail low after [] h = tt
risen_fail low after (e ∷ es) h = (
  fails-and (may_run e.daemon) (nat_lt after e.daemon.number)
      (le-ltb after e.daemon.number (rise-le e.daemon.number after es h.1)),
  risen_fail e.daemon.number after es h.1,
)

-- what fails in front doesn't count
first_behind : (test : Entry → Bool) (front back : List Entry)
    → AllByRecursion (λ e. test e ≡ false) front
    → first_such test (front ++ back) ≡ first_such test back
first_behind test [] back fail = refl
first_behind test (e ∷ front) back fail =
    ap (λ b. if b then Some e else first_such test (front ++ back)) fail.0
    ∙ first_behind test front back fail.1

change_behind : (test : Entry → Bool) (change : Daemon → Daemon) (front back : List Entry)
    → AllByRecursion (λ e. test e ≡ false) front
    → change_first test change (front ++ back) ≡ front ++ change_first test change back
change_behind test change [] back fail = refl
change_behind test change (e ∷ front) back fail =
    ap (λ b. if b then record e { daemon = change e.daemon } ∷ (front ++ back)
    else e ∷ change_first test change (front ++ back)) fail.0
    ∙ ap (λ es. e ∷ es) (change_behind test change front back fail.1)

-- the daemons in front were run, where some of them may not run; the turn of those behind comes
record IsAt (l : Layout) (old end : Writer) (from now : List Entry) (after most low : ℕ)
    (back : List Entry) : Type 0 where
  front : List Entry
  done : List Entry
  split : from ≡ front ++ back
  goes : (change : Daemon → Daemon) → change_first (may_run_after after) change now
      ≡ done ++ change_first (may_run_after after) change back
  come : now ≡ done ++ back
  risen : RiseWithin 0 low done
  rising : RiseWithin low most back
  carried : Answers old end (steps_course l (map ticket_of front)) (map ticket_of done)

-- one more element behind a list
behind-one : {X : Type 0} (front back : List X) (x : X)
    → front ++ x ∷ back ≡ (front ++ x ∷ []) ++ back
behind-one front back x = sym (append_assoc front (x ∷ []) back)

-- one more daemon is done
one_more : (l : Layout) (old middle new : Writer) (front done : List Entry) (e d : Entry)
    → Answers old middle (steps_course l (map ticket_of front)) (map ticket_of done)
    → Answers middle new (step_course l (ticket_of e)) (ticket_of d)
    → Answers old new (steps_course l (map ticket_of (front ++ e ∷ [])))
    (map ticket_of (done ++ d ∷ []))
one_more l old middle new front done e d carried step =
    subst (λ ts. Answers old new (steps_course l ts) (map ticket_of (done ++ d ∷ [])))
    (sym (map-append ticket_of front (e ∷ [])))
    (subst (λ us. Answers old new (steps_course l (map ticket_of front ++ ticket_of e ∷ [])) us)
    (sym (map-append ticket_of done (d ∷ [])))
    (carried_behind l old middle new (map ticket_of front) (map ticket_of done) (ticket_of e)
    (ticket_of d) carried step))

-- a daemon that is at rest and behind a number runs, where it may run
idle_there : (after : ℕ) (e : Entry) → after < e.daemon.number → is_some e.daemon.checked ≡ true
    → may_run_after after e ≡ false → is_running e.daemon.state ≡ false
idle_there after e more whole fails = by (is_running e.daemon.state) refl
  where
    by : (b : Bool) → is_running e.daemon.state ≡ b → is_running e.daemon.state ≡ false
    by true is =
        absurd (true≢false (sym (ap (λ b. (b && is_some e.daemon.checked)
        && nat_lt after e.daemon.number) is
        ∙ ap (λ b. b && nat_lt after e.daemon.number) whole
        ∙ lt-ltb after e.daemon.number more) ∙ fails))
    by false is = is

module _ (l : Layout) (old end : Writer) (from now : List Entry) (after most : ℕ) where
  -- a daemon that doesn't run is passed over
  passed : (low : ℕ) (e : Entry) (back : List Entry) → after ≤ low
      → is_some e.daemon.checked ≡ true → may_run_after after e ≡ false
      → IsAt l old end from now after most low (e ∷ back)
      → IsAt l old end from now after most e.daemon.number back
  passed low e back le whole fails h = record {
    front = h.front ++ e ∷ [];
    done = h.done ++ e ∷ [];
    split = h.split ∙ behind-one h.front back e;
    goes = λ change. h.goes change
        ∙ ap (λ b. h.done ++ (if b then record e { daemon = change e.daemon } ∷ back
        else e ∷ change_first (may_run_after after) change back)) fails
        ∙ behind-one h.done (change_first (may_run_after after) change back) e;
    come = h.come ∙ behind-one h.done back e;
    risen = rise-join 0 low e.daemon.number h.done (e ∷ []) h.risen
        (h.rising.0, omega arith);
    rising = h.rising.1;
    carried = one_more l old end end h.front h.done e e h.carried
        (subst (λ p. Reaches end end p (ends (ticket_of e)))
        (sym (step-idle l e (idle_there after e (omega (arith, le, h.rising.0)) whole fails)))
        (reaches_none end (ends (ticket_of e))));
  }

  -- the turn of a daemon comes
  record Comes (e : Entry) : Type 0 where
    low : ℕ
    back : List Entry
    at : IsAt l old end from now after most low (e ∷ back)

  comes_to : (e : Entry) (low : ℕ) (back : List Entry) → after ≤ low → Rest back
      → first_such (may_run_after after) back ≡ Some e
      → IsAt l old end from now after most low back → Comes e
  comes_to e low [] le rest first h = absurd (none_is_no_some first)
  comes_to e low (x ∷ back) le rest first h =
      by (may_run_after after x) refl first
      (comes_to e x.daemon.number back (omega (arith, le, h.rising.0)) rest.1)
    where
      by : (b : Bool) → may_run_after after x ≡ b
          → (if b then Some x else first_such (may_run_after after) back) ≡ Some e
          → (first_such (may_run_after after) back ≡ Some e
          → IsAt l old end from now after most x.daemon.number back → Comes e) → Comes e
      by true is first_is others =
          subst Comes (some_is first_is) (record { low = low; back = back; at = h })
      by false is first_is others =
          others first_is (passed low x back le rest.0 is h)

  -- no daemon's turn comes any more
  comes_to_none : (low : ℕ) (back : List Entry) → after ≤ low → Rest back
      → first_such (may_run_after after) back ≡ None
      → IsAt l old end from now after most low back
      → (most_low : ℕ) × IsAt l old end from now after most most_low []
  comes_to_none low [] le rest first h = (low, h)
  comes_to_none low (x ∷ back) le rest first h =
      by (may_run_after after x) refl first
      (comes_to_none x.daemon.number back (omega (arith, le, h.rising.0)) rest.1)
    where
      by : (b : Bool) → may_run_after after x ≡ b
          → (if b then Some x else first_such (may_run_after after) back) ≡ None
          → (first_such (may_run_after after) back ≡ None
          → IsAt l old end from now after most x.daemon.number back
          → (most_low : ℕ) × IsAt l old end from now after most most_low [])
          → (most_low : ℕ) × IsAt l old end from now after most most_low []
      by true is first_is others = absurd (none_is_no_some (sym first_is))
      by false is first_is others =
          others first_is (passed low x back le rest.0 is h)

-- those behind others are at rest, too
rest_behind : (front back : List Entry) → Rest (front ++ back) → Rest back
rest_behind [] back rest = rest
rest_behind (e ∷ front) back rest = rest_behind front back rest.1

module _ (l : Layout) (old now : Writer) (from b : Shown) (after : ℕ)
    (h : HasCome l old now from b after) where
  come_at : IsAt l (cleared old) h.end from.daemons b.daemons after from.put after h.back
  come_at = record {
    front = h.front;
    done = h.done;
    split = h.split;
    goes = λ change. ap (change_first (may_run_after after) change) h.come
        ∙ change_behind (may_run_after after) change h.done h.back
        (risen_fail 0 after h.done h.risen);
    come = h.come;
    risen = h.risen;
    rising = h.rising;
    carried = h.carried;
  }

  back_rests : Rest h.back
  back_rests = rest_behind h.done h.back (subst Rest h.come h.resting)

  back_first : (found : Option Entry) → first_such (may_run_after after) b.daemons ≡ found
      → first_such (may_run_after after) h.back ≡ found
  back_first found first =
      sym (ap (first_such (may_run_after after)) h.come
      ∙ first_behind (may_run_after after) h.done h.back (risen_fail 0 after h.done h.risen))
      ∙ first

  -- where no daemon may run any more, all were run
  pub come_all : (next : Writer) (new : Shown) → HasNone now next b new after
      → IsStepped l old next (tickets_of from) (tickets_of new)
  come_all next new none =
      let end = comes_to_none l (cleared old) h.end from.daemons b.daemons after from.put after
      h.back (omega arith) back_rests (back_first None none.none) come_at in
      record {
        end = h.end;
        carried = subst (λ (s : Shown). Answers (cleared old) h.end
            (steps_course l (map ticket_of from.daemons)) (map ticket_of s.daemons)) (sym none.same)
            (subst (λ es. Answers (cleared old) h.end
            (steps_course l (map ticket_of from.daemons)) (map ticket_of es))
            (sym (end.1.come ∙ append-nil end.1.done))
            (subst (λ es. Answers (cleared old) h.end (steps_course l (map ticket_of es))
            (map ticket_of end.1.done)) (sym (end.1.split ∙ append-nil end.1.front))
            end.1.carried));
        rest = none.still ∙ h.rest;
        put = ap (λ (s : Shown). s.put) none.same ∙ h.put;
      }

  -- what was done with the record that the daemons before had left
  on_record : {A : Type 0} (new : Writer) (p q : Course A) → Reaches (cleared now) new p q
      → Reaches h.end (with_record h.end new) p q
  on_record new p q r =
      reaches_on h.end new p q
      (subst (λ w. Reaches w new p q) (ap cleared h.rest) r)

  module _ (entry : Entry) (e : Expr) (run : Once) (new : Shown)
      (out : IsRunOut b new after entry e run) where
    -- the daemon after its run
    abbrev then_is : Entry
    then_is = record entry { daemon = run_out e run entry.daemon }

    there : Comes l (cleared old) h.end from.daemons b.daemons after from.put entry
    there =
        comes_to l (cleared old) h.end from.daemons b.daemons after from.put entry after h.back
        (omega arith) back_rests (back_first (Some entry) out.first) come_at

    passes : may_run_after after entry ≡ true
    passes = first-passes (may_run_after after) b.daemons entry out.first

    runs : is_running entry.daemon.state ≡ true
    runs =
        (and_parts (is_running entry.daemon.state) (is_some entry.daemon.checked)
        (and_parts (may_run entry.daemon) (nat_lt after entry.daemon.number) passes).0).0

    -- it alone changed
    left_is : new.daemons ≡ there.at.done ++ then_is ∷ there.back
    left_is =
        ap (λ (s : Shown). s.daemons) out.left ∙ there.at.goes (run_out e run)
        ∙ ap (λ c. there.at.done ++ (if c then then_is ∷ there.back
        else entry ∷ change_first (may_run_after after) (run_out e run) there.back)) passes

    -- the board is kept
    pub out_kept : IsKept new
    out_kept =
        let kept = come_kept l old now from b after h in record {
          rising = subst IsRising (sym out.left) (change_first-rises (may_run_after after)
              (run_out e run) (λ d. refl) 0 b.put b.daemons kept.rising);
          resting = subst IsResting (sym out.left) (change_first-rests (may_run_after after)
              (run_out e run) (λ d whole. refl) b.daemons h.resting);
        }

    -- the next daemon was run
    out_come : (next : Writer)
        → IsFollowed now next (once_course l (input_of (expr_tree e))) run
        → HasCome l old next from new entry.daemon.number
    out_come next followed = record {
      front = there.at.front ++ entry ∷ [];
      back = there.back;
      done = there.at.done ++ then_is ∷ [];
      end = with_record h.end followed.end;
      split = there.at.split ∙ behind-one there.at.front there.back entry;
      come = left_is ∙ behind-one there.at.done there.back then_is;
      risen = rise-join 0 there.low entry.daemon.number there.at.done (then_is ∷ []) there.at.risen
          (there.at.rising.0, omega arith);
      rising = there.at.rising.1;
      carried = one_more l (cleared old) h.end (with_record h.end followed.end) there.at.front
          there.at.done entry then_is there.at.carried
          (stepped l h.end (with_record h.end followed.end) entry e run runs out.whole
          (on_record followed.end (once_course l (input_of (expr_tree e))) (ends run)
          followed.carried));
      rest = followed.rest;
      resting = out_kept.resting;
      put = ap (λ (s : Shown). s.put) out.left ∙ h.put;
    }

  -- the turn of the next daemon
  pub come_on : (l_now : Layout) (next : Writer) (new : Shown) (number : ℕ) → l_now ≡ l
      → IsTurn l_now now next b new after number → HasCome l old next from new number
  come_on l_now next new number same turn =
      subst (HasCome l old next from new) (sym turn.numbered)
      (out_come turn.entry turn.e turn.run new turn.ran_out next
      (subst (λ m. IsFollowed now next (once_course m (input_of (expr_tree turn.e))) turn.run) same
      turn.followed))

  module _ (next : Writer) (new : Shown) (turn : IsTurnCut l now next b new after) where
    -- the daemon whose turn memory was wanting for
    abbrev cut_there : Comes l (cleared old) h.end from.daemons b.daemons after from.put turn.entry
    cut_there = there turn.entry turn.e unknown_run new turn.ran_out

    abbrev cut_end : Writer
    cut_end = with_record h.end next

    -- a beginning of its run was done, with an empty record
    cut_begun : Begins (cleared h.end) next (step_course l (ticket_of turn.entry))
    cut_begun =
        step_begun l (cleared h.end) next turn.entry turn.e
        (runs turn.entry turn.e unknown_run new turn.ran_out) turn.ran_out.whole
        (subst (λ w. Begins w next (once_course l (input_of (expr_tree turn.e))))
        (ap cleared h.rest) turn.begun)

    -- its place among the tickets
    cut_split : map ticket_of from.daemons
        ≡ map ticket_of cut_there.at.front ++ ticket_of turn.entry ∷ map ticket_of cut_there.back
    cut_split =
        ap (map ticket_of) cut_there.at.split
        ∙ map-append ticket_of cut_there.at.front (turn.entry ∷ cut_there.back)

    cut_left : map ticket_of new.daemons
        ≡ map ticket_of cut_there.at.done
        ++ ran (ticket_of turn.entry) unknown_run ∷ map ticket_of cut_there.back
    cut_left =
        ap (map ticket_of) (left_is turn.entry turn.e unknown_run new turn.ran_out)
        ∙ map-append ticket_of cut_there.at.done
        (then_is turn.entry turn.e unknown_run new turn.ran_out ∷ cut_there.back)
        ∙ ap (λ t. map ticket_of cut_there.at.done ++ t ∷ map ticket_of cut_there.back)
        (ticket-ran turn.entry turn.e unknown_run turn.ran_out.whole)

    cut_short : IsCutShort l old next (tickets_of from) (tickets_of new)
    cut_short = record {
      end = cut_end;
      begun = subst (λ ts. Begins (cleared old) cut_end (steps_course l ts)) (sym cut_split)
          (begun_behind l (map ticket_of cut_there.back) (map ticket_of cut_there.at.done)
          (cleared old) h.end cut_end (map ticket_of cut_there.at.front) (ticket_of turn.entry)
          cut_there.at.carried (
            cut_begun.0,
            reaches_on h.end next (step_course l (ticket_of turn.entry)) cut_begun.0
                cut_begun.1,
          ));
      rest = refl;
      cut = record {
        front = map ticket_of cut_there.at.front;
        back = map ticket_of cut_there.back;
        done = map ticket_of cut_there.at.done;
        cut = ticket_of turn.entry;
        middle = h.end;
        split = cut_split;
        carried = cut_there.at.carried;
        begun = cut_begun;
        left = cut_left;
      };
      put = ap (λ (s : Shown). s.put) turn.ran_out.left ∙ h.put;
    }

  -- memory was wanting in a turn
  pub come_cut : (l_now : Layout) (next : Writer) (new : Shown) → l_now ≡ l
      → IsTurnCut l_now now next b new after
      → IsCutShort l old next (tickets_of from) (tickets_of new)
  come_cut l_now next new same turn =
      cut_short next new (subst (λ m. IsTurnCut m now next b new after) same turn)

  pub come_cut_kept : (l_now : Layout) (next : Writer) (new : Shown)
      → IsTurnCut l_now now next b new after → IsKept new
  come_cut_kept l_now next new turn =
      out_kept turn.entry turn.e unknown_run new turn.ran_out
