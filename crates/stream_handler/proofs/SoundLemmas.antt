-- What makes an exchange sound, and what sound exchanges tell of the writer's own steps.
use Rattle.std.proofs.Common.{◌≡◌, ℕ, Bool, List, [], ◌∷◌, length, ap, sym, ◌∙◌, subst}
use Rattle.std.specs.Prelude.{◌||◌, Option, Some, None, Result, Ok, Err, IfErr, codes, nat_lt}
use Rattle.tuple_values.specs.Document.{ByteList}
use Rattle.tuple_values.specs.declared.memory.Memory.{Memory}
use Rattle.json_text.specs.declared.fault.JsonFault.{JsonFault}
use Rattle.json_text.specs.declared.update.Update as body
use Rattle.shard_versions.specs.declared.cut.CutMark.{CutMark}
use Rattle.shard_versions.specs.declared.cut.OwnMark.{OwnMark}
use Rattle.exchange_rules.specs.Accesses.{Access, marks_of, own_of}
use Rattle.exchange_rules.specs.Cells.{Log}
use Rattle.exchange_rules.specs.Courses.{ends}
use Rattle.exchange_rules.specs.Following.{Follows, Writer, Answers, Begins, cleared, counts}
use Rattle.exchange_rules.specs.Looking.{LooksFirst}
use Rattle.exchange_rules.specs.Rows.{Layout, finish_course, index_course, shares_of, writes_course}
use Rattle.exchange_rules.specs.Recorded.{AreRecorded, AreLookedAt}
use Rattle.exchange_rules.proofs.CountLemmas.{IsCounted, follows_counted}
use Rattle.exchange_rules.proofs.LookingLemmas.{either, finish_first, ok_first, then_first, writes_first}
use Rattle.exchange_rules.proofs.RecordedLemmas.{counted_join, counted_none, follows_looked, follows_recorded}
use Rattle.form_request.specs.Params.{first_value}
use Rattle.form_request.specs.declared.request.Handler.{Handler}
use Rattle.form_request.specs.declared.request.Handler.TheVariants.{Stream, Update}
use Rattle.form_request.specs.declared.request.Param.{Param}
use Rattle.form_request.specs.declared.request.Request.{Request}
use Rattle.json_text.specs.Updates.{update_in}
use Rattle.expr_types.specs.ExprTree.{ExprTree, operator_in}
use Rattle.topic_book.specs.Fitness.{shards_of}
use Rattle.server_edge.specs.Clocks.{Took}
use Rattle.stream_handler.specs.Asks.{action_read, ask_of, daemon_of}
use Rattle.stream_handler.specs.Boards.{Ask, BoardState, Says}
use Rattle.stream_handler.specs.Exchanges.{Answer, AreSound, IsAnswered, IsBroken, IsSound, IsTimed, exchanges_of, owns_of}
use Rattle.expr_check.specs.declared.roots.Roots.TheVariants.{All}
use Rattle.expr_text.specs.Reading.{expression_of}
use Rattle.root_runs.specs.Runs.{list_course, root_course}
use Rattle.root_runs.proofs.RootLemmas.{roots_first}
use Rattle.stream_handler.specs.Outcomes.{due_for, framing_of}
use Rattle.stream_handler.specs.Refusals.{refusal}
use Rattle.stream_handler.specs.Replies.{due}
use Rattle.stream_handler.specs.Requests.{RequestsLookFirst, acted_course, action_course, deed_course, handled, is_true, expression_course, outcome_of, plain_course, request_course, root_or_told, stream_course, update_course}
use Rattle.stream_handler.specs.declared.exchange.Answered.{Answered}
use Rattle.stream_handler.specs.declared.exchange.Exchange.{Exchange}
use Rattle.stream_handler.specs.declared.outcome.Outcome.{Outcome}
use Rattle.stream_handler.specs.declared.outcome.Outcome.TheVariants.{ResultSet}
use Rattle.stream_handler.specs.declared.reply.Reply.{Reply}
use Rattle.stream_handler.specs.declared.starting.NewDaemon.{NewDaemon}

-- an expression that only reads looks first
plain_first : (l : Layout) (read : Result ExprTree ByteList) → LooksFirst None (plain_course l read)
plain_first l (Err text) = tt
plain_first l (Ok e) =
    then_first None (list_course l e) (λ docs. ends (ResultSet docs None)) (roots_first.list l e)
    (λ docs. tt)

-- so does each expression that is carried out at the site
deed_first : (l : Layout) (e : ExprTree) → LooksFirst None (deed_course l e)
deed_first l e =
    then_first None (root_course l e) (λ done. ends (outcome_of done)) (roots_first.root l e)
    (λ done. tt)

-- and one that is put on a board, which looks at nothing
root_first : (l : Layout) (told : Outcome) (e : ExprTree) (d : Option NewDaemon)
    → LooksFirst None (root_or_told l told e d)
root_first l told e None = deed_first l e
root_first l told e (Some d) = tt

-- so does each expression
expression_first : (l : Layout) (told : Outcome) (read : Result ExprTree ByteList)
    → LooksFirst None (expression_course l told read)
expression_first l told (Err text) = tt
expression_first l told (Ok e) = root_first l told e (daemon_of (operator_in e))

-- so does one in a parameter
stream_first : (l : Layout) (told : Outcome) (given : Option ByteList)
    → LooksFirst None (stream_course l told given)
stream_first l told None = tt
stream_first l told (Some bytes) = expression_first l told (expression_of All l.names bytes)

-- an action looks at nothing
action_first : (told : Outcome) (read : Result Ask ByteList)
    → LooksFirst None (action_course told read)
action_first told (Ok ask) = tt
action_first told (Err text) = tt

-- so do the parameters of `/stream`
acted_first : (l : Layout) (told : Outcome) (params : List Param) (action : Option ByteList)
    → LooksFirst None (acted_course l told params action)
acted_first l told params (Some action) =
    action_first told (action_read action (first_value (codes "id") params))
acted_first l told params None = stream_first l told (first_value (codes "expr") params)

-- so does an update
update_first : (l : Layout) (collection : ByteList) (commit : Bool)
    (read : Result body.Update JsonFault) → LooksFirst None (update_course l collection commit read)
update_first l collection commit (Err fault) = tt
update_first l collection commit (Ok update) =
    let all = update.commit || commit in
    let share = shares_of l collection update.writes in
    let first : LooksFirst None (index_course l collection update.writes all) =
    ok_first (writes_course l collection share all) _ (writes_first l collection share all)
    (λ _. ok_first (finish_course l collection share (length update.writes) all) _
    (finish_first l collection share (length update.writes) all) (λ _. tt)) in
    then_first None (index_course l collection update.writes all) _ first (λ r. tt)

-- so does each handler
handled_first : (l : Layout) (told : Outcome) (r : Request) (h : Handler)
    → LooksFirst None (handled l told r h)
handled_first l told r Stream =
    acted_first l told r.params (first_value (codes "action") r.params)
handled_first l told r Update =
    update_first l r.collection (is_true (first_value (codes "commit") r.params)) (update_in r.body)

-- so does each request
pub request_first : (l : Layout) (told : Outcome) (r : Request)
    → LooksFirst None (request_course l told r)
request_first l told r =
    either None (nat_lt 0 (shards_of l.names r.collection)) (handled l told r r.handler)
    (ends (refusal 404)) (handled_first l told r r.handler) tt

-- and each expression
pub requests_first : RequestsLookFirst
requests_first =
    record { request = request_first; plain = plain_first; expression = expression_first }

-- accesses that follow the whole course of a request make its exchange sound
pub sound_of : (tells : ℕ → Type 0) (now : ℕ) (l : Layout) (me : ℕ) (seen : List Log)
    (had : List ℕ) (r : Request) (x : Exchange) (o : Outcome) (end : List ℕ)
    (accesses : List Access)
    → x.marks ≡ marks_of accesses → x.own ≡ own_of accesses
    → tells now → Took tells now x.millis
    → Follows me seen had (request_course l o r) accesses (ends o) end
    → IsSound tells now me seen had (request_course l o r) x o end
sound_of tells now l me seen had r x o end accesses marks own began lasted f =
    let p = request_course l o r in
    let looked : AreLookedAt (marks_of accesses) (own_of accesses) =
    (follows_looked me seen had p accesses (ends o) end (request_first l o r) f).1 in
    record {
      accesses = accesses;
      marks = marks;
      own = own;
      followed = f;
      recorded = subst (AreRecorded me seen had end) (sym own)
          (follows_recorded me seen had p accesses (ends o) end f);
      looked_at = subst (λ (m : List CutMark). AreLookedAt m x.own) (sym marks)
          (subst (AreLookedAt (marks_of accesses)) (sym own) looked);
      began = began;
      lasted = lasted;
    }

-- what the writer appended in sound exchanges is just their own steps
pub sound_counted : (tells : ℕ → Type 0) (l : Layout) (me : ℕ) (seen : List Log) (had end : List ℕ)
    (answers : List Answer) (c : ℕ) → AreSound tells l me seen had answers end
    → IsCounted me seen had end (owns_of (exchanges_of answers)) c
sound_counted tells l me seen had end [] c i =
    subst (λ (e : List ℕ). IsCounted me seen had e [] c) (sym i) (counted_none me seen had c)
sound_counted tells l me seen had end (a ∷ answers) c i =
    let p = request_course l a.outcome a.message.request in
    let one : IsCounted me seen had i.0 a.exchange.own c =
    subst (λ (own : List OwnMark). IsCounted me seen had i.0 own c) (sym i.1.own)
    (follows_counted me seen had p i.1.accesses (ends a.outcome) i.0 c i.1.followed) in
    counted_join me seen had i.0 end a.exchange.own (owns_of (exchanges_of answers)) c one
    (sound_counted tells l me seen i.0 end answers c i.2)

-- a request that was carried out with a record that began empty is answered, and its exchange is
-- sound
pub answered_of : (tells : ℕ → Type 0) {l m : Layout} {w u end new : Writer}
    {before after : BoardState} {r : Request} {a : Answered} (reply : Reply) (millis : ℕ)
    → u ≡ cleared w → m ≡ l → (t : IsTimed tells m u end before after r reply millis)
    → new ≡ cleared end → a.exchange.marks ≡ end.marks → a.exchange.own ≡ end.own
    → a.reply ≡ reply → a.exchange.millis ≡ millis
    → IsAnswered tells l w new before after r a
answered_of tells {l} {m} {w} {u} {end} {new} {before} {after} {r} {a} reply millis fresh same t
    rest marks own is time =
    let o = t.outcome in
    let lasted : Took tells t.now a.exchange.millis =
    subst (Took tells t.now) (sym time) t.lasted in
    let k : Answers (cleared w) end (request_course l o r) o =
    subst (λ (x : Layout). Answers (cleared w) end (request_course x o r) o) same
    (subst (λ (x : Writer). Answers x end (request_course m o r) o) fresh t.carried) in
    record {
      outcome = o;
      now = t.now;
      began = t.began;
      end = end;
      carried = k;
      board = subst (λ (x : Layout). Says t.now (ask_of x.names r) before after o) same t.board;
      rest = rest;
      marks = marks;
      own = own;
      reply = ap due is ∙ t.reply ∙ ap (λ (n : ℕ). due_for (framing_of r) n o) (sym time);
      lasted = lasted;
      sound = sound_of tells t.now l w.me end.seen (counts w.seen) r a.exchange o (counts end.seen)
          k.accesses (marks ∙ k.marks) (own ∙ k.own) t.began lasted k.followed;
    }

-- a request that stopped for want of memory is broken
pub broken_of : {l m : Layout} {w u new : Writer} {before after : BoardState} {r : Request}
    (told : Outcome)
    → u ≡ cleared w → m ≡ l → Begins u new (request_course m told r) → after ≡ before
    → IsBroken l w new before after r
broken_of {l} {m} {w} {u} {new} {before} {after} {r} told fresh same begun board = record {
  told = told;
  begun = subst (λ (x : Layout). Begins (cleared w) new (request_course x told r)) same
      (subst (λ (x : Writer). Begins x new (request_course m told r)) fresh begun);
  board = board;
}

-- an answer that lacked memory leaves the request broken
pub is_broken : {P : Type 0} (r : Result Answered Memory) → P → IfErr r (λ _. P)
is_broken (Ok a) p = tt
is_broken (Err memory) p = p
