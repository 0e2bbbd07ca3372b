-- How a request is responded to, when all responses are made before the board is asked.
use Rattle.std.proofs.Common.{◌≡◌, ℕ, refl, sym, subst}
use Rattle.std.specs.Prelude.{Result, Ok, Err}
use Rattle.tuple_values.specs.declared.memory.Memory.{Memory}
use Rattle.exchange_rules.specs.Following.{Writer, Begins}
use Rattle.exchange_rules.specs.Rows.{Layout}
use Rattle.form_request.specs.declared.request.Request.{Request}
use Rattle.server_edge.specs.Clocks.{Took}
use Rattle.stream_handler.specs.Asks.{ask_of}
use Rattle.stream_handler.specs.Boards.{BoardState, Says}
use Rattle.stream_handler.specs.Choices.{Chooses, IsPrepared, each_told}
use Rattle.stream_handler.specs.Exchanges.{IsResponded, IsTimed}
use Rattle.stream_handler.specs.Outcomes.{due_for, framing_of}
use Rattle.stream_handler.specs.Questions.{Asks, CarriedTo}
use Rattle.stream_handler.specs.Replies.{due}
use Rattle.stream_handler.specs.Requests.{request_course}
use Rattle.stream_handler.specs.declared.framing.Framing.{Framing}
use Rattle.stream_handler.specs.declared.outcome.Outcome.{Outcome}
use Rattle.stream_handler.specs.declared.prepared.Prepared.{Prepared}
use Rattle.stream_handler.specs.declared.question.Question.{Question}
use Rattle.stream_handler.specs.declared.reply.Reply.{Reply}
use Rattle.stream_handler.proofs.BoardLemmas.{chosen_reply, chosen_said}
use Rattle.stream_handler.proofs.CarriedLemmas.{question_begun}

module _ (tells : ℕ → Type 0) (l : Layout) (w v : Writer) (b : BoardState) where
  -- a board that is as it was, where memory was wanting after a beginning
  broken : (c : BoardState) (r : Request) (x : Result (Reply × ℕ) Memory) (memory : Memory)
      → x ≡ Err memory → (told : Outcome) × Begins w v (request_course l told r) → c ≡ b
      → IsResponded tells l w v b c r x
  broken c r x memory e begun same =
      subst (λ y. IsResponded tells l w v b c r y) (sym e) (begun, same)

  -- memory was wanting before there was a question
  pub unquestioned : (r : Request) (x : Result (Reply × ℕ) Memory) (memory : Memory)
      → x ≡ Err memory → (told : Outcome) × Begins w v (request_course l told r)
      → IsResponded tells l w v b b r x
  unquestioned r x memory e begun = broken b r x memory e begun refl

  module _ (c : BoardState) (r : Request) (q : Question)
      (carried : CarriedTo w v (λ told. request_course l told r) (Ok q)) where
    -- or when its responses were made, or the board was asked
    pub unprepared : (x : Result (Reply × ℕ) Memory) (memory : Memory) → x ≡ Err memory → c ≡ b
        → IsResponded tells l w v b c r x
    unprepared x memory e same =
        broken c r x memory e
        (question_begun w v (λ told. request_course l told r) q carried) same

    -- the response that was picked
    pub picked_response : (mid : BoardState) (p : Prepared Outcome) (replies : Prepared Reply)
        (reply : Reply) (now millis : ℕ) → tells now → Took tells now millis
        → Asks (ask_of l.names r) q → IsPrepared q b p → mid ≡ b → (framing : Framing)
        → framing ≡ framing_of r
        → each_told due replies ≡ each_told (due_for framing millis) p
        → Chooses now replies mid c reply → IsTimed tells l w v b c r reply millis
    picked_response mid p replies reply now millis began lasted asks is same framing framed made
        chosen =
        let made' = subst (λ f. each_told due replies ≡ each_told (due_for f millis) p)
        framed made in
        let found = chosen_reply now (framing_of r) millis p replies mid c reply made' chosen in
        let kept = subst (λ y. Chooses now p y c found.0) same found.1 in
        let said = chosen_said now q b c p found.0 is kept in
        record {
          outcome = found.0;
          now = now;
          began = began;
          carried = carried found.0 said.0;
          board = subst (λ a. Says now a b c found.0) asks said.1;
          reply = found.2;
          lasted = lasted;
        }
