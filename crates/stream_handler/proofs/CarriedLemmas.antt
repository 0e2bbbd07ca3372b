-- How a request is carried out, from what its parts did.
use Rattle.std.proofs.Common.{◌≡◌, ◌≢◌, refl, sym, ap, ◌∙◌, subst}
use Rattle.std.proofs.lemmas.Option.{same_Some}
use Rattle.std.specs.Prelude.{ℕ, Bool, Some, Result, Ok, Err, IfOk}
use Rattle.tuple_values.specs.Document.{ByteList}
use Rattle.tuple_values.specs.declared.memory.Memory.{Memory}
use Rattle.json_text.specs.declared.fault.JsonFault.{JsonFault}
use Rattle.json_text.specs.declared.fault.JsonFault.TheVariants as bad
use Rattle.json_text.specs.declared.update.Update as body
use Rattle.exchange_rules.specs.Courses.{Course, ends, and_then}
use Rattle.exchange_rules.specs.Following.{Writer, Answers, Begins}
use Rattle.exchange_rules.specs.Calls.{Answered, Carried}
use Rattle.exchange_rules.specs.Rows.{Layout}
use Rattle.exchange_rules.specs.declared.fault.SiteFault.{SiteFault}
use Rattle.exchange_rules.specs.declared.fault.SiteFault.TheVariants.{ShardFull, TopicBound, BookFull, LogFault, CellClosed, OutOfMemory}
use Rattle.expr_types.specs.ExprTree.{ExprTree}
use Rattle.stream_handler.specs.Outcomes.{exception}
use Rattle.topic_book.specs.Fitness.{shards_of}
use Rattle.form_request.specs.declared.request.Request.{Request}
use Rattle.stream_handler.specs.Refusals.{refusal}
use Rattle.root_runs.specs.Texts.{full_text}
use Rattle.root_runs.proofs.CarriedLemmas.{first_answered, first_done, first_stopped, nothing_asked, nothing_done}
use Rattle.stream_handler.specs.Boards.{Ask, BoardState}
use Rattle.stream_handler.specs.Choices.{IsAnswerTo}
use Rattle.stream_handler.specs.Questions.{CarriedTo, IsActionOf}
use Rattle.stream_handler.specs.Requests.{CarriedWith, IsBadBody, IsRefusal, action_course, full_shard, indexed, plain_course, request_course, update_course}
use Rattle.stream_handler.specs.declared.outcome.Outcome.{Outcome}
use Rattle.stream_handler.specs.declared.outcome.Outcome.TheVariants.{Indexed, Refused}
use Rattle.stream_handler.specs.declared.question.Question.{Question}
use Rattle.stream_handler.specs.declared.question.Question.TheVariants as question
use Rattle.stream_handler.specs.declared.update.FullShard.{FullShard}

-- what the site alone did, of which the board is asked nothing
pub site_done : (old new : Writer) (p : Course Outcome) (o : Outcome) → Answers old new p o
    → CarriedTo old new (λ told. p) (Ok (question.Nothing o))
site_done old new p o c = λ told may. subst (λ x. Answers old new p x) (sym may) c

-- it stopped for want of memory
pub site_stopped : (old new : Writer) (p : Outcome → Course Outcome) (told : Outcome)
    (r : Result Question Memory) (memory : Memory) → r ≡ Err memory → Begins old new (p told)
    → CarriedTo old new p r
site_stopped old new p told r memory e b =
    subst (λ x. CarriedTo old new p x) (sym e) (told, b)

-- courses that are the same, whatever the board told
pub same_course : (old new : Writer) (p q : Outcome → Course Outcome) (r : Result Question Memory)
    → ((told : Outcome) → q told ≡ p told) → CarriedTo old new p r → CarriedTo old new q r
same_course old new p q (Ok x) e c =
    λ told may. subst (λ k. Answers old new k told) (sym (e told)) (c told may)
same_course old new p q (Err memory) e c =
    (c.0, subst (λ k. Begins old new k) (sym (e c.0)) c.1)

-- a writer that did nothing, and leaves the answer to the board
pub board_carried : (w : Writer) (q : Question) → CarriedTo w w (λ told. ends told) (Ok q)
board_carried w q = λ told may. nothing_asked w told

-- an action asks the board, or has a fault
pub action_carried : (w : Writer) (read : Result Ask ByteList) (r : Result Question Memory)
    → IfOk r (IsActionOf read) → CarriedTo w w (λ told. action_course told read) r
action_carried w (Ok ask) (Ok q) is = board_carried w q
action_carried w (Err text) (Ok q) is =
    subst (λ x. CarriedTo w w (λ told. ends (exception text)) (Ok x)) (sym is)
    (site_done w w (ends (exception text)) (exception text) (nothing_asked w (exception text)))
action_carried w read (Err memory) is =
    (Indexed, nothing_done w (action_course Indexed read))

-- want of memory before anything was done
pub nothing_carried : (w : Writer) (p : Outcome → Course Outcome) (r : Result Question Memory)
    (memory : Memory) → r ≡ Err memory → CarriedTo w w p r
nothing_carried w p r memory e = site_stopped w w p Indexed r memory e (nothing_done w (p Indexed))

-- the answer is known, whatever the board is
pub known_told : (w : Writer) (p : Outcome → Course Outcome) (o : Outcome)
    → ((told : Outcome) → p told ≡ ends o) → CarriedTo w w p (Ok (question.Nothing o))
known_told w p o e =
    same_course w w (λ told. ends o) p (Ok (question.Nothing o)) e
    (site_done w w (ends o) o (nothing_asked w o))

-- what was carried out as far as a question is a beginning
pub question_begun : (old new : Writer) (p : Outcome → Course Outcome) (q : Question)
    → CarriedTo old new p (Ok q) → (told : Outcome) × Begins old new (p told)
question_begun old new p (question.Nothing o) c = (o, (ends o, c o refl))
question_begun old new p question.List c = (Indexed, (ends Indexed, c Indexed tt))
question_begun old new p (question.Change what id) c = (Indexed, (ends Indexed, c Indexed tt))
question_begun old new p (question.Start d checked) c = (Indexed, (ends Indexed, c Indexed tt))

-- want of memory before a question was there
pub carried_before : (old new : Writer) (p : Outcome → Course Outcome) (r : Result Outcome Memory)
    (memory : Memory) → r ≡ Err memory → (told : Outcome) × Begins old new (p told)
    → CarriedWith old new p r
carried_before old new p r memory e b = subst (λ x. CarriedWith old new p x) (sym e) b

-- an answer to a question, by what the writer did and the board said
pub told_answer : (now : ℕ) (old new : Writer) (p : Outcome → Course Outcome) (q : Question)
    (b c : BoardState) (r : Result Outcome Memory) → CarriedTo old new p (Ok q)
    → IsAnswerTo now q b c r → CarriedWith old new p r
told_answer now old new p q b c (Ok o) carried said = carried o said.0
told_answer now old new p q b c (Err memory) carried same = question_begun old new p q carried

-- so is one that says none that only reads
pub plain_told : (w : Writer) (l : Layout) (read : Result ExprTree ByteList) (text : ByteList)
    → read ≡ Err text → Answers w w (plain_course l read) (exception text)
plain_told w l read text e =
    subst (λ r. Answers w w (plain_course l r) (exception text)) (sym e)
    (nothing_asked w (exception text))

-- a body that says no update is refused
pub body_refused : (w : Writer) (l : Layout) (collection : ByteList) (commit : Bool)
    (read : Result body.Update JsonFault) (fault : JsonFault) (r : Result Outcome Memory)
    → (fault ≢ bad.OutOfMemory → read ≡ Err fault) → IfOk r (IsBadBody fault)
    → Carried w w (update_course l collection commit read) r
body_refused w l collection commit read fault (Ok o) e said =
    subst (λ x. Answers w w (update_course l collection commit x) o) (sym (e said.told))
    (subst (λ x. Answers w w (ends x) o) said.refused (nothing_asked w o))
body_refused w l collection commit read fault (Err memory) e said =
    nothing_done w (update_course l collection commit read)

-- an update that was carried out
pub index_done : (old new : Writer) (p : Course (Result ℕ SiteFault)) (writes : ℕ)
    → Answers old new p (Ok writes)
    → Answers old new (and_then p (λ r. ends (indexed r))) Indexed
index_done old new p writes s =
    first_answered old new p (λ r. ends (indexed r)) (Ok writes) Indexed refl s

-- an update that was refused, or stopped
pub index_refused : (old new : Writer) (p : Course (Result ℕ SiteFault)) (fault : SiteFault)
    (r : Result Outcome Memory) → Answered old new p (Err fault) → IfOk r (IsRefusal fault)
    → Carried old new (and_then p (λ r. ends (indexed r))) r
index_refused old new p (ShardFull collection shard stand) (Ok o) s e =
    first_answered old new p (λ r. ends (indexed r)) (Err (ShardFull collection shard stand)) o
    (ap ends (sym e)) s
index_refused old new p (ShardFull collection shard stand) (Err memory) s e =
    first_done old new p (λ r. ends (indexed r)) (Err (ShardFull collection shard stand)) s
index_refused old new p (TopicBound kept) (Ok o) s e =
    first_answered old new p (λ r. ends (indexed r)) (Err (TopicBound kept)) o (ap ends (sym e)) s
index_refused old new p (TopicBound kept) (Err memory) s e =
    first_done old new p (λ r. ends (indexed r)) (Err (TopicBound kept)) s
index_refused old new p (BookFull topics) (Ok o) s e =
    first_answered old new p (λ r. ends (indexed r)) (Err (BookFull topics)) o (ap ends (sym e)) s
index_refused old new p (BookFull topics) (Err memory) s e =
    first_done old new p (λ r. ends (indexed r)) (Err (BookFull topics)) s
index_refused old new p (LogFault cell stand) (Ok o) s e = absurd e
index_refused old new p (LogFault cell stand) (Err memory) s e =
    first_stopped old new p (λ r. ends (indexed r)) (OutOfMemory stand) s.0
index_refused old new p (CellClosed cell stand) (Ok o) s e = absurd e
index_refused old new p (CellClosed cell stand) (Err memory) s e =
    first_stopped old new p (λ r. ends (indexed r)) (OutOfMemory stand) s.0
index_refused old new p (OutOfMemory stand) (Ok o) s e = absurd e
index_refused old new p (OutOfMemory stand) (Err memory) s e =
    first_stopped old new p (λ r. ends (indexed r)) (OutOfMemory stand) s

-- a full shard is told as what it is
pub full_told : (fault : SiteFault) (full : FullShard) (text : ByteList)
    → full_shard fault ≡ Some full → text ≡ full_text full.collection full.shard full.stand
    → IsRefusal fault (Refused 507 text)
full_told (ShardFull collection shard stand) full text is told =
    ap (Refused 507)
    (told ∙ ap (λ (f : FullShard). full_text f.collection f.shard f.stand)
    (sym (same_Some _ full is)))
full_told (TopicBound kept) full text is told = absurd (cc)
full_told (BookFull topics) full text is told = absurd (cc)
full_told (LogFault cell stand) full text is told = absurd (cc)
full_told (CellClosed cell stand) full text is told = absurd (cc)
full_told (OutOfMemory stand) full text is told = absurd (cc)

-- a collection that isn't there is told so
pub unknown_told : (w : Writer) (l : Layout) (r : Request) (o : Outcome)
    → shards_of l.names r.collection ≡ 0 → o ≡ refusal 404
    → CarriedTo w w (λ told. request_course l told r) (Ok (question.Nothing o))
unknown_told w l r o none said =
    known_told w (λ told. request_course l told r) o (λ told. rw (none, said) refl)
