-- A board that is asked at 0 says just what it answers as a function of its tickets.
use Rattle.std.proofs.Common.{◌≡◌, ℕ, ◌++◌, Bool, true, false, List, Option, Some, None, refl, sym, ap, subst, ◌∙◌}
use Rattle.std.specs.Prelude.{Result, Ok, Err, bytes_eq, codes, nat_lt, unwrap_or, if◌then◌else◌}
use Rattle.tuple_values.specs.Document.{ByteList, Doc}
use Rattle.tuple_values.specs.declared.memory.Memory.{Memory}
use Rattle.topic_book.specs.Fitness.{shards_of}
use Rattle.exchange_rules.specs.Courses.{ends}
use Rattle.exchange_rules.specs.Rows.{Layout}
use Rattle.expr_types.specs.ExprTree.{ExprTree, expr_tree, operator_in}
use Rattle.expr_types.specs.declared.expr.Expr.{Expr}
use Rattle.expr_check.specs.declared.roots.Roots.TheVariants.{All}
use Rattle.expr_text.specs.Reading.{expression_of}
use Rattle.form_request.specs.Params.{first_value}
use Rattle.form_request.specs.declared.request.Handler.{Handler}
use Rattle.form_request.specs.declared.request.Handler.TheVariants.{Stream, Update}
use Rattle.form_request.specs.declared.request.Param.{Param}
use Rattle.form_request.specs.declared.request.Request.{Request}
use Rattle.daemon_board.specs.Boards.{Told}
use Rattle.daemon_board.specs.Calls.{Lists, MakesOf, Starts, WhereTold}
use Rattle.daemon_board.specs.Daemons.{Entry, Shown, change_first, fresh, has_id, is_full, is_there, resumed, stopped, with_daemons, without_first}
use Rattle.daemon_board.specs.Rising.{IsKept}
use Rattle.daemon_board.specs.Tickets.{Tickets, drop_ticket, put_ticket, resume_ticket, stop_ticket, ticket_is_there, tickets_of}
use Rattle.daemon_board.specs.declared.fault.BoardFault.{BoardFault}
use Rattle.daemon_board.specs.declared.fault.BoardFault.TheVariants.{DaemonTaken, UnknownDaemon, BoardFull, OutOfMemory}
use Rattle.daemon_board.proofs.RisingLemmas.{kills-kept, lists-kept, resumes-kept, starts-kept, stops-kept}
use Rattle.daemon_board.proofs.TicketLemmas.{is_full_of-tickets_of, listed_tickets-tickets_of, ticket_is_there-tickets_of, tickets_of-put_on, tickets_of-removed, tickets_of-resumed, tickets_of-stopped}
use Rattle.stream_handler.specs.Asks.{acted_ask, ask_in, ask_of, change_of, change_read, daemon_of, expression_ask, handled_ask, root_ask, stream_ask}
use Rattle.stream_handler.specs.Boards.{Ask, BoardState, IsStartTold, Makes, Says, change_told, change_word, nothing, lists, stops, resumes, kills, starts, op_done}
use Rattle.stream_handler.specs.Outcomes.{exception}
use Rattle.stream_handler.specs.Refusals.{refusal}
use Rattle.stream_handler.specs.Requests.{acted_course, action_course, expression_course, handled, request_course, root_or_told, stream_course}
use Rattle.stream_handler.specs.declared.action.Change.{Change}
use Rattle.stream_handler.specs.declared.action.Change.TheVariants.{Stop, Start, Kill}
use Rattle.stream_handler.specs.declared.outcome.Outcome.{Outcome}
use Rattle.stream_handler.specs.declared.outcome.Outcome.TheVariants.{ResultSet}
use Rattle.stream_handler.specs.declared.starting.NewDaemon.{NewDaemon}
use Rattle.stream_commands.specs.Boards.{board_alone, changed_alone, started_alone}
use Rattle.stream_commands.specs.Serving.{state_of}

-- the first outcome is the second, where a board is asked something
abbrev pub IsTold : Ask → Outcome → Outcome → Type 0
IsTold nothing o p = Unit {0}
IsTold lists o p = o ≡ p
IsTold (stops id) o p = o ≡ p
IsTold (resumes id) o p = o ≡ p
IsTold (kills id) o p = o ≡ p
IsTold (starts id e interval terminate) o p = o ≡ p

-- the board's tickets and the outcome are those that it gives as a function of its tickets
pub record IsSaidAlone (ask : Ask) (a b : Shown) (o : Outcome) : Type 0 where
  pub tickets : tickets_of b ≡ (board_alone ask (tickets_of a)).0
  pub told : IsTold ask o (board_alone ask (tickets_of a)).1

-- what holds where a board tells what it holds
where_told : (a b : Shown) (P : Shown → Shown → Type 0) → WhereTold (Some a) (Some b) P → P a b
where_told a b P w = subst (P a) (sym (ap (λ (s : Option Shown). unwrap_or s a) w.1)) w.2

-- a board and an outcome
abbrev both : Tickets → Outcome → Tickets × Outcome
both b o = (b, o)

same_both : (a b : Tickets) (o p : Outcome) → a ≡ b → o ≡ p → both a o ≡ both b p
same_both a b o p left right =
    ap (λ (t : Tickets). both t o) left ∙ ap (λ (q : Outcome). both b q) right

-- a change of the daemon with an id, made or refused
change_said : (change : Change) (id : ByteList) (entries : List Entry) (changed : Tickets)
    (a b : Shown) (answer : Result (Unit {0}) BoardFault) (o : Outcome)
    → tickets_of (with_daemons a entries) ≡ changed → MakesOf id entries answer a b
    → o ≡ change_told change id answer
    → both (tickets_of b) o ≡ changed_alone change id changed (tickets_of a)
change_said change id entries changed a b (Ok u) o is h told =
    let there : ticket_is_there id (tickets_of a) ≡ true = ticket_is_there-tickets_of id a ∙ h.0 in
    same_both (tickets_of b) changed o (op_done (change_word change) id)
    (ap tickets_of h.1 ∙ is) told
    ∙ ap (λ (t : Bool). if t then both changed (op_done (change_word change) id)
    else both (tickets_of a) (exception (codes "UnknownDaemon " ++ id))) (sym there)
change_said change id entries changed a b (Err fault) o is h told =
    let there : ticket_is_there id (tickets_of a) ≡ false = ticket_is_there-tickets_of id a ∙ h.1 in
    same_both (tickets_of b) (tickets_of a) o (exception (codes "UnknownDaemon " ++ id))
    (ap tickets_of h.2) told
    ∙ ap (λ (t : Bool). if t then both changed (op_done (change_word change) id)
    else both (tickets_of a) (exception (codes "UnknownDaemon " ++ id))) (sym there)

module _ (id : ByteList) (expr : Expr) (interval : ℕ) (terminate : Bool) (a b : Shown) where
  abbrev answers : Bool → Bool → Tickets × Outcome
  answers there full =
      if there then both (tickets_of a) (exception (codes "DaemonTaken " ++ id))
      else if full then both (tickets_of a) (exception (codes "BoardFull"))
      else both (put_ticket id terminate (expr_tree expr) (tickets_of a))
      (op_done (codes "started ") id)

  -- whether the id is there and whether the board is full
  answers_at : (there full : Bool) → is_there id a ≡ there → is_full a ≡ full
      → answers there full ≡ started_alone id (expr_tree expr) terminate (tickets_of a)
  answers_at there full is fills =
      ap (λ (t : Bool). answers t full) (sym (ticket_is_there-tickets_of id a ∙ is))
      ∙ ap (λ (f : Bool). answers (ticket_is_there id (tickets_of a)) f)
      (sym (is_full_of-tickets_of a ∙ fills))

  -- a daemon that was put on the board, or refused
  start_said : (answer : Result (Unit {0}) BoardFault) (o : Outcome)
      → Starts id (fresh a expr interval terminate 0) answer a b → IsStartTold id answer o
      → both (tickets_of b) o ≡ started_alone id (expr_tree expr) terminate (tickets_of a)
  start_said (Ok u) o h told =
      same_both (tickets_of b) (put_ticket id terminate (expr_tree expr) (tickets_of a)) o
      (op_done (codes "started ") id)
      (ap tickets_of h.2 ∙ tickets_of-put_on a id expr interval terminate 0) told
      ∙ answers_at false false h.0 h.1
  start_said (Err (DaemonTaken taken)) o h told =
      same_both (tickets_of b) (tickets_of a) o (exception (codes "DaemonTaken " ++ id))
      (ap tickets_of h.2) told
      ∙ answers_at true (is_full a) h.1 refl
  start_said (Err UnknownDaemon) o h told = absurd h
  start_said (Err BoardFull) o h told =
      same_both (tickets_of b) (tickets_of a) o (exception (codes "BoardFull"))
      (ap tickets_of h.2) told
      ∙ answers_at false true h.0 h.1
  start_said (Err OutOfMemory) o h told = absurd told

-- both parts, where they are the same
said_both : (ask : Ask) (a b : Shown) (o : Outcome)
    → both (tickets_of b) o ≡ board_alone ask (tickets_of a)
    → IsTold ask o (board_alone ask (tickets_of a)).1 → IsSaidAlone ask a b o
said_both ask a b o e told =
    record { tickets = ap (λ (x : Tickets × Outcome). x.0) e; told = told }

-- the outcome of both
outcome_is : (b : Tickets) (o : Outcome) (r : Tickets × Outcome) → both b o ≡ r → o ≡ r.1
outcome_is b o r e = ap (λ (x : Tickets × Outcome). x.1) e

-- what a board said
pub said_alone : (a b : Told) (o : Outcome) (ask : Ask)
    → Says 0 ask (state_of a) (state_of b) o → IsSaidAlone ask a.shown b.shown o
said_alone a b o nothing s =
    let same : b.shown ≡ a.shown = ap (λ (x : BoardState). unwrap_or x.shown a.shown) s in
    record { tickets = ap tickets_of same; told = tt }
said_alone a b o lists s =
    let w = where_told a.shown b.shown (Lists {E = Memory} (Ok s.docs)) s.told in
    record {
      tickets = ap tickets_of w.1;
      told = s.outcome
          ∙ ap (λ (docs : List Doc). ResultSet docs None)
          (w.0 ∙ sym (listed_tickets-tickets_of a.shown));
    }
said_alone a b o (stops id) s =
    let w = where_told a.shown b.shown (Makes 0 Stop id s.answer) s.told in
    let e = change_said Stop id (change_first (has_id id) stopped a.shown.daemons)
    (stop_ticket id (tickets_of a.shown)) a.shown b.shown s.answer o
    (tickets_of-stopped id a.shown) w s.outcome in
    said_both (stops id) a.shown b.shown o e
    (outcome_is (tickets_of b.shown) o (board_alone (stops id) (tickets_of a.shown)) e)
said_alone a b o (resumes id) s =
    let w = where_told a.shown b.shown (Makes 0 Start id s.answer) s.told in
    let e = change_said Start id (change_first (has_id id) (resumed 0) a.shown.daemons)
    (resume_ticket id (tickets_of a.shown)) a.shown b.shown s.answer o
    (tickets_of-resumed id 0 a.shown) w s.outcome in
    said_both (resumes id) a.shown b.shown o e
    (outcome_is (tickets_of b.shown) o (board_alone (resumes id) (tickets_of a.shown)) e)
said_alone a b o (kills id) s =
    let w = where_told a.shown b.shown (Makes 0 Kill id s.answer) s.told in
    let e = change_said Kill id (without_first (has_id id) a.shown.daemons)
    (drop_ticket id (tickets_of a.shown)) a.shown b.shown s.answer o
    (tickets_of-removed id a.shown) w s.outcome in
    said_both (kills id) a.shown b.shown o e
    (outcome_is (tickets_of b.shown) o (board_alone (kills id) (tickets_of a.shown)) e)
said_alone a b o (starts id t interval terminate) s =
    let w = where_told a.shown b.shown
    (λ x y. Starts id (fresh x s.expr interval terminate 0) s.answer x y) s.told in
    let e : both (tickets_of b.shown) o ≡ started_alone id t terminate (tickets_of a.shown) =
    start_said id s.expr interval terminate a.shown b.shown s.answer o w s.outcome
    ∙ ap (λ (x : ExprTree). started_alone id x terminate (tickets_of a.shown)) s.tree in
    said_both (starts id t interval terminate) a.shown b.shown o
    e (outcome_is (tickets_of b.shown) o
    (board_alone (starts id t interval terminate) (tickets_of a.shown)) e)

-- what every board keeps of its daemons, it keeps whatever it says
pub said_kept : (a b : Told) (o : Outcome) (ask : Ask) → IsKept a.shown
    → Says 0 ask (state_of a) (state_of b) o → IsKept b.shown
said_kept a b o nothing kept s =
    subst IsKept (sym (ap (λ (x : BoardState). unwrap_or x.shown a.shown) s)) kept
said_kept a b o lists kept s = lists-kept (Ok s.docs) a.shown b.shown s.told kept
said_kept a b o (stops id) kept s = stops-kept id s.answer a.shown b.shown s.told kept
said_kept a b o (resumes id) kept s = resumes-kept id 0 s.answer a.shown b.shown s.told kept
said_kept a b o (kills id) kept s = kills-kept id s.answer a.shown b.shown s.told kept
said_kept a b o (starts id t interval terminate) kept s =
    starts-kept id s.expr interval terminate 0 s.answer a.shown b.shown s.told kept

module _ (l : Layout) (o p : Outcome) where
  -- an action
  action_told : (action : Option Change) (id : Option ByteList)
      → IsTold (ask_in (change_read action id)) o p
      → action_course o (change_read action id) ≡ action_course p (change_read action id)
  action_told None id t = refl
  action_told (Some change) None t = refl
  action_told (Some Stop) (Some id) t = ap ends t
  action_told (Some Start) (Some id) t = ap ends t
  action_told (Some Kill) (Some id) t = ap ends t

  -- a list, or another action
  listed_told : (list : Bool) (action : Option Change) (id : Option ByteList)
      → IsTold (ask_in (if list then Ok lists else change_read action id)) o p
      → action_course o (if list then Ok lists else change_read action id)
      ≡ action_course p (if list then Ok lists else change_read action id)
  listed_told true action id t = ap ends t
  listed_told false action id t = action_told action id t

  -- an expression
  root_told : (e : ExprTree) (d : Option NewDaemon) → IsTold (root_ask e d) o p
      → root_or_told l o e d ≡ root_or_told l p e d
  root_told e None t = refl
  root_told e (Some d) t = ap ends t

  read_told : (read : Result ExprTree ByteList) → IsTold (expression_ask read) o p
      → expression_course l o read ≡ expression_course l p read
  read_told (Err text) t = refl
  read_told (Ok e) t = root_told e (daemon_of (operator_in e)) t

  stream_told : (given : Option ByteList) → IsTold (stream_ask l.names given) o p
      → stream_course l o given ≡ stream_course l p given
  stream_told None t = refl
  stream_told (Some bytes) t = read_told (expression_of All l.names bytes) t

  acted_told : (params : List Param) (action : Option ByteList)
      → IsTold (acted_ask l.names params action) o p
      → acted_course l o params action ≡ acted_course l p params action
  acted_told params (Some action) t =
      listed_told (bytes_eq action (codes "list")) (change_of action)
      (first_value (codes "id") params) t
  acted_told params None t = stream_told (first_value (codes "expr") params) t

  handled_told : (r : Request) (handler : Handler) → IsTold (handled_ask l.names r handler) o p
      → handled l o r handler ≡ handled l p r handler
  handled_told r Stream t = acted_told r.params (first_value (codes "action") r.params) t
  handled_told r Update t = refl

  there_told : (r : Request) (there : Bool)
      → IsTold (if there then handled_ask l.names r r.handler else nothing) o p
      → (if there then handled l o r r.handler else ends (refusal 404))
      ≡ (if there then handled l p r r.handler else ends (refusal 404))
  there_told r true t = handled_told r r.handler t
  there_told r false t = refl

  -- a request does the same, whatever the board tells where it is asked nothing
  pub course_told : (r : Request) → IsTold (ask_of l.names r) o p
      → request_course l o r ≡ request_course l p r
  course_told r t = there_told r (nat_lt 0 (shards_of l.names r.collection)) t
