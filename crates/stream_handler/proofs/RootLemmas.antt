-- How expressions and actions are carried out at the site, and what they ask of the board, from what
-- their parts did.
use Rattle.std.proofs.Common.{◌≡◌, ◌<◌, true, refl, sym, ap, subst, ◌∙◌, rules, tests}
use Rattle.std.specs.Prelude.{List, Option, Some, None, Result, Ok, Err, IfOk, codes, nat_lt}
use Rattle.tuple_values.specs.Document.{ByteList}
use Rattle.tuple_values.specs.declared.memory.Memory.{Memory}
use Rattle.tuple_values.specs.declared.names.NameShards.{NameShards}
use Rattle.topic_book.specs.Fitness.{shards_of}
use Rattle.exchange_rules.specs.Courses.{ends}
use Rattle.exchange_rules.specs.Following.{Writer, Answers, Begins}
use Rattle.exchange_rules.specs.Rows.{Layout}
use Rattle.expr_types.specs.ExprTree.{ExprTree, operator_in}
use Rattle.expr_check.specs.declared.roots.Roots.TheVariants.{All}
use Rattle.expr_text.specs.Reading.{expression_of}
use Rattle.form_request.specs.Params.{first_value}
use Rattle.form_request.specs.declared.request.Param.{Param}
use Rattle.form_request.specs.declared.request.Request.{Request}
use Rattle.stream_handler.specs.Asks.{action_read, acted_ask, ask_in, ask_of, daemon_of, expression_ask, handled_ask, root_ask, stream_ask}
use Rattle.stream_handler.specs.Outcomes.{exception}
use Rattle.stream_handler.specs.Questions.{Asks, CarriedTo, IsActionOf}
use Rattle.stream_handler.specs.Requests.{acted_course, action_course, deed_course, expression_course, handled, request_course, root_or_told, stream_course}
use Rattle.stream_handler.specs.declared.outcome.Outcome.{Outcome}
use Rattle.stream_handler.specs.declared.outcome.Outcome.TheVariants.{Indexed}
use Rattle.stream_handler.specs.declared.question.Question.{Question}
use Rattle.stream_handler.specs.declared.question.Question.TheVariants as question
use Rattle.stream_handler.specs.declared.starting.NewDaemon.{NewDaemon}
use Rattle.stream_handler.proofs.BoardLemmas.{action_asks, same_ask}
use Rattle.stream_handler.proofs.CarriedLemmas.{action_carried, board_carried, known_told, same_course, site_done, site_stopped}

module _ (l : Layout) (e : ExprTree) (d : Option NewDaemon) where
  -- a daemon is to be put on the board
  pub root_told : (w : Writer) (daemon : NewDaemon) (q : Question) → d ≡ Some daemon
      → CarriedTo w w (λ told. root_or_told l told e d) (Ok q)
  root_told w daemon q is =
      same_course w w (λ told. ends told) (λ told. root_or_told l told e d) (Ok q)
      (λ told. ap (root_or_told l told e) is) (board_carried w q)

  -- what is no daemon was carried out at the site
  pub root_done : (old new : Writer) (o : Outcome) → d ≡ None
      → Answers old new (deed_course l e) o
      → CarriedTo old new (λ told. root_or_told l told e d) (Ok (question.Nothing o))
  root_done old new o is c =
      same_course old new (λ told. deed_course l e) (λ told. root_or_told l told e d)
      (Ok (question.Nothing o)) (λ told. ap (root_or_told l told e) is)
      (site_done old new (deed_course l e) o c)

  -- or stopped there
  pub root_stopped : (old new : Writer) (r : Result Question Memory) (memory : Memory) → d ≡ None
      → r ≡ Err memory → Begins old new (deed_course l e)
      → CarriedTo old new (λ told. root_or_told l told e d) r
  root_stopped old new r memory is stops b =
      same_course old new (λ told. deed_course l e) (λ told. root_or_told l told e d) r
      (λ told. ap (root_or_told l told e) is)
      (site_stopped old new (λ told. deed_course l e) Indexed r memory stops b)

module _ (l : Layout) (names : List NameShards) (bytes : ByteList) (same : names ≡ l.names) where
  -- what the bytes say over the names of the layout
  read_is : (read : Result ExprTree ByteList) → expression_of All names bytes ≡ read
      → expression_of All l.names bytes ≡ read
  read_is read e = subst (λ n. expression_of All n bytes ≡ read) same e

  -- an expression that was read, carried out
  pub read_carried : (old new : Writer) (e : ExprTree) (r : Result Question Memory)
      → expression_of All names bytes ≡ Ok e
      → CarriedTo old new (λ told. root_or_told l told e (daemon_of (operator_in e))) r
      → CarriedTo old new
      (λ told. expression_course l told (expression_of All l.names bytes)) r
  read_carried old new e r is c =
      same_course old new (λ told. root_or_told l told e (daemon_of (operator_in e)))
      (λ told. expression_course l told (expression_of All l.names bytes)) r
      (λ told. ap (expression_course l told) (read_is (Ok e) is)) c

  pub read_asked : (e : ExprTree) (r : Result Question Memory)
      → expression_of All names bytes ≡ Ok e
      → IfOk r (Asks (root_ask e (daemon_of (operator_in e))))
      → IfOk r (Asks (expression_ask (expression_of All l.names bytes)))
  read_asked e r is asked =
      same_ask (expression_ask (expression_of All l.names bytes)) (expression_ask (Ok e)) r
      (ap expression_ask (read_is (Ok e) is)) asked

  -- a text that says none is answered with its fault
  pub unread_told : (w : Writer) (text : ByteList) → expression_of All names bytes ≡ Err text
      → CarriedTo w w (λ told. expression_course l told (expression_of All l.names bytes))
      (Ok (question.Nothing (exception text)))
  unread_told w text is =
      known_told w (λ told. expression_course l told (expression_of All l.names bytes))
      (exception text) (λ told. ap (expression_course l told) (read_is (Err text) is))

  -- and asks nothing
  pub unread_asked : (text : ByteList) → expression_of All names bytes ≡ Err text
      → Asks (expression_ask (expression_of All l.names bytes)) (question.Nothing (exception text))
  unread_asked text is = sym (ap expression_ask (read_is (Err text) is))

module _ (l : Layout) (given : Option ByteList) (bytes : ByteList) (is : given ≡ Some bytes) where
  -- an expression in a parameter
  pub given_carried : (old new : Writer) (r : Result Question Memory)
      → CarriedTo old new
      (λ told. expression_course l told (expression_of All l.names bytes)) r
      → CarriedTo old new (λ told. stream_course l told given) r
  given_carried old new r c =
      same_course old new (λ told. expression_course l told (expression_of All l.names bytes))
      (λ told. stream_course l told given) r (λ told. ap (stream_course l told) is) c

  pub given_asked : (r : Result Question Memory)
      → IfOk r (Asks (expression_ask (expression_of All l.names bytes)))
      → IfOk r (Asks (stream_ask l.names given))
  given_asked r asked =
      same_ask (stream_ask l.names given) (stream_ask l.names (Some bytes)) r
      (ap (stream_ask l.names) is) asked

-- a parameter that isn't there is answered so
pub missing_told : (w : Writer) (l : Layout) (given : Option ByteList) (o : Outcome) → given ≡ None
    → o ≡ exception (codes "MissingParam stream expr")
    → CarriedTo w w (λ told. stream_course l told given) (Ok (question.Nothing o))
missing_told w l given o none said =
    known_told w (λ told. stream_course l told given) o
    (λ told. ap (stream_course l told) none ∙ ap ends (sym said))

-- and asks nothing
pub missing_asked : (l : Layout) (given : Option ByteList) (o : Outcome) → given ≡ None
    → Asks (stream_ask l.names given) (question.Nothing o)
missing_asked l given o none = sym (ap (stream_ask l.names) none)

module _ (l : Layout) (params : List Param) (given : Option ByteList) where
  -- an action in the parameters
  pub action_done : (w : Writer) (action : ByteList) (id : Option ByteList)
      (r : Result Question Memory) → given ≡ Some action → id ≡ first_value (codes "id") params
      → IfOk r (IsActionOf (action_read action id))
      → CarriedTo w w (λ told. acted_course l told params given) r
  action_done w action id r is read said =
      same_course w w (λ told. action_course told (action_read action id))
      (λ told. acted_course l told params given) r
      (λ told. ap (acted_course l told params) is
      ∙ ap (λ i. action_course told (action_read action i)) (sym read))
      (action_carried w (action_read action id) r said)

  pub action_asked : (action : ByteList) (id : Option ByteList) (r : Result Question Memory)
      → given ≡ Some action → id ≡ first_value (codes "id") params
      → IfOk r (IsActionOf (action_read action id))
      → IfOk r (Asks (acted_ask l.names params given))
  action_asked action id r is read said =
      same_ask (acted_ask l.names params given) (ask_in (action_read action id)) r
      (ap (acted_ask l.names params) is ∙ ap (λ i. ask_in (action_read action i)) (sym read))
      (action_asks (action_read action id) r said)

  -- and none, so an expression
  pub stream_done : (old new : Writer) (expr : Option ByteList) (r : Result Question Memory)
      → given ≡ None → expr ≡ first_value (codes "expr") params
      → CarriedTo old new (λ told. stream_course l told expr) r
      → CarriedTo old new (λ told. acted_course l told params given) r
  stream_done old new expr r is read c =
      same_course old new (λ told. stream_course l told expr)
      (λ told. acted_course l told params given) r
      (λ told. ap (acted_course l told params) is ∙ ap (stream_course l told) (sym read)) c

  pub stream_asked : (expr : Option ByteList) (r : Result Question Memory)
      → given ≡ None → expr ≡ first_value (codes "expr") params
      → IfOk r (Asks (stream_ask l.names expr))
      → IfOk r (Asks (acted_ask l.names params given))
  stream_asked expr r is read asked =
      same_ask (acted_ask l.names params given) (stream_ask l.names expr) r
      (ap (acted_ask l.names params) is ∙ ap (stream_ask l.names) (sym read)) asked

module _ (l : Layout) (r : Request) (known : 0 < shards_of l.names r.collection) where
  is_known : nat_lt 0 (shards_of l.names r.collection) ≡ true
  is_known = search (rules, tests)

  -- a request of a collection that is there
  pub known_carried : (old new : Writer) (res : Result Question Memory)
      → CarriedTo old new (λ told. handled l told r r.handler) res
      → CarriedTo old new (λ told. request_course l told r) res
  known_carried old new res c =
      same_course old new (λ told. handled l told r r.handler) (λ told. request_course l told r) res
      (λ told. rw is_known refl) c

  pub known_asked : (res : Result Question Memory)
      → IfOk res (Asks (handled_ask l.names r r.handler)) → IfOk res (Asks (ask_of l.names r))
  known_asked res asked =
      same_ask (ask_of l.names r) (handled_ask l.names r r.handler) res (rw is_known refl)
      asked

-- one of a collection that isn't there asks nothing
pub unknown_asked : (l : Layout) (r : Request) (o : Outcome) → shards_of l.names r.collection ≡ 0
    → Asks (ask_of l.names r) (question.Nothing o)
unknown_asked l r o none = rw none refl
