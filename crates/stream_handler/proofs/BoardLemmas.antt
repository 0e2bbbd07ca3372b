-- What a board says to what it is asked, from what its calls say.
use Rattle.std.proofs.Common.{◌≡◌, ℕ, ◌++◌, Option, Some, None, refl, sym, ap, subst, ◌∙◌}
use Rattle.std.specs.Prelude.{Result, Ok, Err, IfOk, codes}
use Rattle.tuple_values.specs.Document.{ByteList}
use Rattle.tuple_values.specs.declared.memory.Memory.{Memory}
use Rattle.expr_check.specs.declared.checked.Checked.{Checked}
use Rattle.daemon_board.specs.Answers.{after_start}
use Rattle.daemon_board.specs.Calls.{Lists, Starts, WhereTold}
use Rattle.daemon_board.specs.Daemons.{Shown, fresh}
use Rattle.daemon_board.specs.declared.answers.Answers.{Answers}
use Rattle.daemon_board.specs.declared.fault.BoardFault.{BoardFault}
use Rattle.daemon_board.specs.declared.fault.BoardFault.TheVariants.{DaemonTaken, UnknownDaemon, BoardFull, OutOfMemory}
use Rattle.stream_handler.specs.Asks.{ask_in, change_ask}
use Rattle.stream_handler.specs.Boards.{Ask, BoardState, IsAsked, IsListed, IsListing, IsStartTold, Makes, Says, after_change, board_state, change_told, change_word, op_done}
use Rattle.stream_handler.specs.Choices.{Chooses, IsAnswerTo, IsChangeChosen, IsChosen, IsPrepared, IsStartAsked, IsStartChosen, IsStartPicked, Picks, picked, start_told, each_start, each_told}
use Rattle.stream_handler.specs.Outcomes.{due_for, exception}
use Rattle.stream_handler.specs.Questions.{Asks, IsActionOf, MayTell, question_ask}
use Rattle.stream_handler.specs.Replies.{due}
use Rattle.stream_handler.specs.declared.action.Change.{Change}
use Rattle.stream_handler.specs.declared.action.Change.TheVariants.{Stop, Start, Kill}
use Rattle.stream_handler.specs.declared.framing.Framing.{Framing}
use Rattle.stream_handler.specs.declared.outcome.Outcome.{Outcome}
use Rattle.stream_handler.specs.declared.prepared.Prepared.{Prepared}
use Rattle.stream_handler.specs.declared.prepared.Prepared.TheVariants as prepared
use Rattle.stream_handler.specs.declared.prepared.StartTold.{StartTold}
use Rattle.stream_handler.specs.declared.question.Question.{Question}
use Rattle.stream_handler.specs.declared.question.Question.TheVariants as question
use Rattle.stream_handler.specs.declared.reply.Reply.{Reply}
use Rattle.stream_handler.specs.declared.starting.NewDaemon.{NewDaemon}

-- a board is known by what it tells and by its counts
board_same : (old new : BoardState) → new.shown ≡ old.shown → new.answers ≡ old.answers → new ≡ old
board_same old new shown answers =
    ap (λ (s : Option Shown). board_state s new.answers) shown
    ∙ ap (λ (a : Answers). board_state old.shown a) answers

-- a call that leaves what a board holds leaves what it tells
told_same : (a b : Option Shown) (P : Shown → Shown → Type 0) → ((x y : Shown) → P x y → y ≡ x)
    → WhereTold a b P → b ≡ a
told_same None b P same w = w
told_same (Some x) b P same w = w.1 ∙ ap Some (same x w.0 w.2)

-- what is asked is the same by another name
pub same_ask : (ask known : Ask) (r : Result Question Memory) → ask ≡ known → IfOk r (Asks known)
    → IfOk r (Asks ask)
same_ask ask known (Ok q) e asks = asks ∙ sym e
same_ask ask known (Err memory) e asks = tt

-- an action asks so
pub action_asks : (read : Result Ask ByteList) (r : Result Question Memory)
    → IfOk r (IsActionOf read) → IfOk r (Asks (ask_in read))
action_asks (Ok ask) (Ok q) is = is
action_asks (Err text) (Ok q) is = ap question_ask is
action_asks read (Err memory) is = tt

-- a board that was listed is as it was
pub listed_same : (old new : BoardState) (r : Result Outcome Memory) → IsListing old new r
    → new ≡ old
listed_same old new (Ok o) l =
    board_same old new
    (told_same old.shown new.shown (Lists {E = Memory} (Ok l.docs)) (λ x y p. p.1) l.told) l.counted
listed_same old new (Err memory) same = same

-- a list that lacked memory
pub list_broken : (old new : BoardState) (memory : Memory) (r : Result Outcome Memory)
    → r ≡ Err memory → WhereTold old.shown new.shown (λ x y. y ≡ x) → new.answers ≡ old.answers
    → IsListing old new r
list_broken old new memory r e told counted =
    let same = board_same old new
    (told_same old.shown new.shown (λ x y. y ≡ x) (λ x y q. q) told) counted in
    subst (λ x. IsListing old new x) (sym e) same

-- a list that was made
pub list_prepared : (old new : BoardState) (o : Outcome) → IsListed old new o
    → IsPrepared question.List old (prepared.Told o)
list_prepared old new o l =
    let same = listed_same old new (Ok o) l in
    (o, subst (λ x. IsListed old x o) same l, refl)

-- a start that wasn't told for want of memory left the board
pub untold_same : {A : Type 0} (now : ℕ) (d : NewDaemon) (checked : Checked) (told : StartTold A)
    (old new : BoardState) (answer : Result (Unit {0}) BoardFault) (r : Result A Memory)
    → IsStartPicked told answer r
    → WhereTold old.shown new.shown
    (λ b c. Starts d.id (fresh b checked d.interval d.terminate now) answer b c)
    → new.answers ≡ after_start answer old.answers → IsStartAsked now d checked told old new r
untold_same now d checked told old new answer (Ok x) picks said counted =
    record { answer = answer; picks = picks; said = said; counted = counted }
untold_same now d checked told old new (Ok u) (Err memory) picks said counted = absurd picks
untold_same now d checked told old new (Err (DaemonTaken taken)) (Err memory) picks said counted =
    absurd picks
untold_same now d checked told old new (Err UnknownDaemon) (Err memory) picks said counted =
    board_same old new (told_same old.shown new.shown
    (λ b c. Starts d.id (fresh b checked d.interval d.terminate now) (Err UnknownDaemon) b c)
    (λ x y q. absurd q) said) counted
untold_same now d checked told old new (Err BoardFull) (Err memory) picks said counted =
    absurd picks
untold_same now d checked told old new (Err OutOfMemory) (Err memory) picks said counted =
    board_same old new (told_same old.shown new.shown
    (λ b c. Starts d.id (fresh b checked d.interval d.terminate now) (Err OutOfMemory) b c)
    (λ x y q. q) said) counted

-- a change that was asked for is told so
change_said : (now : ℕ) (what : Change) (id : ByteList) (before after : BoardState) (o : Outcome)
    → IsChangeChosen now what id (op_done (change_word what) id)
    (exception (codes "UnknownDaemon " ++ id)) before after o
    → Says now (change_ask what id) before after o
change_said now what id before after o c = by_change what c.answer c.picks c.told c.counted
  where
    is_told : (what : Change) (answer : Result (Unit {0}) BoardFault)
        → o ≡ picked (op_done (change_word what) id)
        (exception (codes "UnknownDaemon " ++ id)) answer
        → o ≡ change_told what id answer
    is_told what (Ok u) is = is
    is_told what (Err fault) is = is

    by_change : (what : Change) (answer : Result (Unit {0}) BoardFault)
        → o ≡ picked (op_done (change_word what) id)
        (exception (codes "UnknownDaemon " ++ id)) answer
        → WhereTold before.shown after.shown (Makes now what id answer)
        → after.answers ≡ after_change what answer before.answers
        → Says now (change_ask what id) before after o
    by_change Stop answer is told counted =
        record { answer = answer; outcome = is_told Stop answer is; told = told; counted = counted }
    by_change Start answer is told counted =
        record { answer = answer; outcome = is_told Start answer is; told = told; counted = counted }
    by_change Kill answer is told counted =
        record { answer = answer; outcome = is_told Kill answer is; told = told; counted = counted }

-- a start that was asked for is told so
start_said : (now : ℕ) (d : NewDaemon) (checked : Checked) (before after : BoardState) (o : Outcome)
    → IsStartChosen now d checked (start_told d.id) before after o
    → Says now (question_ask (question.Start d checked)) before after o
start_said now d checked before after o c = record {
  expr = checked;
  tree = refl;
  answer = c.answer;
  outcome = is_told c.answer c.picks;
  told = c.said;
  counted = c.counted;
}
  where
    is_told : (answer : Result (Unit {0}) BoardFault) → Picks (start_told d.id) answer o
        → IsStartTold d.id answer o
    is_told (Ok u) is = is
    is_told (Err (DaemonTaken taken)) is = is
    is_told (Err UnknownDaemon) is = is
    is_told (Err BoardFull) is = is
    is_told (Err OutOfMemory) is = is

-- what was picked of all that a question may be answered is what the board said to it
pub chosen_said : (now : ℕ) (q : Question) (before after : BoardState) (p : Prepared Outcome)
    (o : Outcome)
    → IsPrepared q before p → Chooses now p before after o
    → MayTell q o × Says now (question_ask q) before after o
chosen_said now (question.Nothing a) before after p o is c =
    let said = subst (λ x. Chooses now x before after o) is c in (said.1, said.0)
chosen_said now question.List before after p o is c =
    let said = subst (λ x. Chooses now x before after o) is.2 c in (
      tt,
      subst (λ x. IsListed before after x) (sym said.1)
          (subst (λ x. IsListed before x is.0) (sym said.0) is.1),
    )
chosen_said now (question.Change what id) before after p o is c =
    (tt, change_said now what id before after o (subst (λ x. Chooses now x before after o) is c))
chosen_said now (question.Start d checked) before after p o is c =
    (tt, start_said now d checked before after o (subst (λ x. Chooses now x before after o) is c))

-- what is picked of things goes with what they are told as
chosen_as : {A B : Type 0} (f : A → B) (now : ℕ) (p : Prepared A) (before after : BoardState) (x : A)
    → Chooses now p before after x → Chooses now (each_told f p) before after (f x)
chosen_as f now (prepared.Told a) before after x c = (c.0, ap f c.1)
chosen_as f now (prepared.Change what id made unknown) before after x c =
    record { answer = c.answer; picks = by_answer c.answer c.picks; told = c.told; counted = c.counted }
  where
    by_answer : (answer : Result (Unit {0}) BoardFault) → x ≡ picked made unknown answer
        → f x ≡ picked (f made) (f unknown) answer
    by_answer (Ok u) is = ap f is
    by_answer (Err fault) is = ap f is
chosen_as f now (prepared.Start d checked told) before after x c =
    record { answer = c.answer; picks = by_answer c.answer c.picks; said = c.said; counted = c.counted }
  where
    by_answer : (answer : Result (Unit {0}) BoardFault) → Picks told answer x
        → Picks (each_start f told) answer (f x)
    by_answer (Ok u) is = ap f is
    by_answer (Err (DaemonTaken taken)) is = ap f is
    by_answer (Err UnknownDaemon) is = absurd is
    by_answer (Err BoardFull) is = ap f is
    by_answer (Err OutOfMemory) is = absurd is

-- what was picked of what things are told as is what one that would have been picked is told as
chosen_of : {A B : Type 0} (f : A → B) (now : ℕ) (p : Prepared A) (before after : BoardState) (y : B)
    → Chooses now (each_told f p) before after y
    → (x : A) × Chooses now p before after x × (y ≡ f x)
chosen_of f now (prepared.Told a) before after y c = (a, (c.0, refl), c.1)
chosen_of {A} f now (prepared.Change what id made unknown) before after y c =
    by_answer c.answer c.picks c.told c.counted
  where
    by_answer : (answer : Result (Unit {0}) BoardFault)
        → y ≡ picked (f made) (f unknown) answer
        → WhereTold before.shown after.shown (Makes now what id answer)
        → after.answers ≡ after_change what answer before.answers
        → (x : A) × Chooses now (prepared.Change what id made unknown) before after x × (y ≡ f x)
    by_answer (Ok u) is told counted =
        (made, record { answer = Ok u; picks = refl; told = told; counted = counted }, is)
    by_answer (Err fault) is told counted =
        (unknown, record { answer = Err fault; picks = refl; told = told; counted = counted }, is)
chosen_of {A} f now (prepared.Start d checked told) before after y c =
    by_answer c.answer c.picks c.said c.counted
  where
    by_answer : (answer : Result (Unit {0}) BoardFault)
        → Picks (each_start f told) answer y
        → WhereTold before.shown after.shown
        (λ b c. Starts d.id (fresh b checked d.interval d.terminate now) answer b c)
        → after.answers ≡ after_start answer before.answers
        → (x : A) × Chooses now (prepared.Start d checked told) before after x × (y ≡ f x)
    by_answer (Ok u) is said counted =
        (told.started, record { answer = Ok u; picks = refl; said = said; counted = counted }, is)
    by_answer (Err (DaemonTaken taken)) is said counted =
        let answer = Err (DaemonTaken taken) in
        (told.taken, record { answer = answer; picks = refl; said = said; counted = counted }, is)
    by_answer (Err UnknownDaemon) is said counted = absurd is
    by_answer (Err BoardFull) is said counted =
        let answer = Err BoardFull in
        (told.full, record { answer = answer; picks = refl; said = said; counted = counted }, is)
    by_answer (Err OutOfMemory) is said counted = absurd is

-- the response that was picked is that to an outcome that would have been picked
pub chosen_reply : (now : ℕ) (framing : Framing) (millis : ℕ) (p : Prepared Outcome)
    (replies : Prepared Reply) (before after : BoardState) (reply : Reply)
    → each_told due replies ≡ each_told (due_for framing millis) p
    → Chooses now replies before after reply
    → (o : Outcome) × Chooses now p before after o × (due reply ≡ due_for framing millis o)
chosen_reply now framing millis p replies before after reply same c =
    chosen_of (due_for framing millis) now p before after (due reply)
    (subst (λ x. Chooses now x before after (due reply)) same
    (chosen_as due now replies before after reply c))

-- the answer that was picked from the board as it was
pub answer_picked : (now : ℕ) (q : Question) (old mid new : BoardState) (p : Prepared Outcome)
    (r : Result Outcome Memory) → IsPrepared q old p → mid ≡ old → IsChosen now p mid new r
    → IsAnswerTo now q old new r
answer_picked now q old mid new p (Ok o) is same c =
    chosen_said now q old new p o is (subst (λ x. Chooses now p x new o) same c)
answer_picked now q old mid new p (Err memory) is same c = c ∙ same

-- want of memory when the answers were made
pub unprepared : (now : ℕ) (q : Question) (old new : BoardState) (r : Result Outcome Memory)
    (memory : Memory) → r ≡ Err memory → new ≡ old → IsAnswerTo now q old new r
unprepared now q old new r memory e same = subst (λ x. IsAnswerTo now q old new x) (sym e) same

-- what was answered to a question is what was asked
pub asked_by : (now : ℕ) (ask : Ask) (q : Question) (old new : BoardState)
    (r : Result Outcome Memory) → Asks ask q → IsAnswerTo now q old new r
    → IsAsked now ask old new r
asked_by now ask q old new (Ok o) asks said = subst (λ a. Says now a old new o) asks said.1
asked_by now ask q old new (Err memory) asks same = same

-- want of memory before the board was asked
pub unasked : (now : ℕ) (ask : Ask) (b : BoardState) (r : Result Outcome Memory) (memory : Memory)
    → r ≡ Err memory → IsAsked now ask b b r
unasked now ask b r memory e = subst (λ x. IsAsked now ask b b x) (sym e) refl
