-- What a question may be answered, all of which is made before the board is asked (own).
use Rattle.std.specs.Prelude.{ℕ, ◌≡◌, ◌++◌, Result, Ok, Err, codes}
use Rattle.tuple_values.specs.Document.{ByteList}
use Rattle.tuple_values.specs.declared.memory.Memory.{Memory}
use Rattle.expr_check.specs.declared.checked.Checked.{Checked}
use Rattle.daemon_board.specs.Answers.{after_start}
use Rattle.daemon_board.specs.Calls.{Starts, WhereTold}
use Rattle.daemon_board.specs.Daemons.{fresh}
use Rattle.daemon_board.specs.declared.fault.BoardFault.{BoardFault}
use Rattle.daemon_board.specs.declared.fault.BoardFault.TheVariants.{DaemonTaken, UnknownDaemon, BoardFull, OutOfMemory}
use Rattle.stream_handler.specs.Boards.{BoardState, IsListed, Makes, Says, after_change, change_word, op_done}
use Rattle.stream_handler.specs.Outcomes.{exception}
use Rattle.stream_handler.specs.Questions.{MayTell, question_ask}
use Rattle.stream_handler.specs.declared.action.Change.{Change}
use Rattle.stream_handler.specs.declared.outcome.Outcome.{Outcome}
use Rattle.stream_handler.specs.declared.prepared.Prepared.{Prepared}
use Rattle.stream_handler.specs.declared.prepared.Prepared.TheVariants as prepared
use Rattle.stream_handler.specs.declared.prepared.StartTold.{StartTold}
use Rattle.stream_handler.specs.declared.question.Question.{Question}
use Rattle.stream_handler.specs.declared.question.Question.TheVariants as question
use Rattle.stream_handler.specs.declared.starting.NewDaemon.{NewDaemon}

-- a change that was made is told so, and a daemon that isn't there
abbrev pub prepared_change : Change → ByteList → Prepared Outcome
prepared_change what id =
    prepared.Change what id (op_done (change_word what) id)
    (exception (codes "UnknownDaemon " ++ id))

-- what a start may be told
abbrev pub start_told : ByteList → StartTold Outcome
start_told id =
    record {
      started = op_done (codes "started ") id;
      taken = exception (codes "DaemonTaken " ++ id);
      full = exception (codes "BoardFull");
    }

abbrev pub prepared_start : NewDaemon → Checked → Prepared Outcome
prepared_start d checked = prepared.Start d checked (start_told d.id)

-- all that a question may be answered; a board that is only listed is listed already, and as it was
abbrev pub IsPrepared : Question → BoardState → Prepared Outcome → Type 0
IsPrepared (question.Nothing o) b p = p ≡ prepared.Told o
IsPrepared question.List b p = (o : Outcome) × IsListed b b o × (p ≡ prepared.Told o)
IsPrepared (question.Change what id) b p = p ≡ prepared_change what id
IsPrepared (question.Start d checked) b p = p ≡ prepared_start d checked

-- the same of each thing that a start may be told
abbrev pub each_start : {A B : Type 0} → (A → B) → StartTold A → StartTold B
each_start f told =
    record { started = f told.started; taken = f told.taken; full = f told.full }

-- the same of each thing that may be told
abbrev pub each_told : {A B : Type 0} → (A → B) → Prepared A → Prepared B
each_told f (prepared.Told a) = prepared.Told (f a)
each_told f (prepared.Change what id made unknown) =
    prepared.Change what id (f made) (f unknown)
each_told f (prepared.Start d checked told) = prepared.Start d checked (each_start f told)

-- what is told of the answer to a change
abbrev pub picked : {A : Type 0} → A → A → Result (Unit {0}) BoardFault → A
picked made unknown (Ok u) = made
picked made unknown (Err fault) = unknown

-- the board was asked for a change at this time, and this was picked by its answer
pub record IsChangeChosen {A : Type 0} (now : ℕ) (what : Change) (id : ByteList) (made unknown : A)
    (before after : BoardState) (x : A) : Type 0 where
  pub answer : Result (Unit {0}) BoardFault
  pub picks : x ≡ picked made unknown answer
  pub told : WhereTold before.shown after.shown (Makes now what id answer)
  pub counted : after.answers ≡ after_change what answer before.answers

-- what is told of the answer to a start, which isn't want of memory
abbrev pub Picks : {A : Type 0} → StartTold A → Result (Unit {0}) BoardFault → A → Type 0
Picks told (Ok u) x = x ≡ told.started
Picks told (Err (DaemonTaken taken)) x = x ≡ told.taken
Picks told (Err UnknownDaemon) x = ⊥
Picks told (Err BoardFull) x = x ≡ told.full
Picks told (Err OutOfMemory) x = ⊥

-- an answer that puts nothing on a board and isn't told
abbrev pub IsUntold : Result (Unit {0}) BoardFault → Type 0
IsUntold (Ok u) = ⊥
IsUntold (Err (DaemonTaken taken)) = ⊥
IsUntold (Err UnknownDaemon) = Unit {0}
IsUntold (Err BoardFull) = ⊥
IsUntold (Err OutOfMemory) = Unit {0}

-- what is told of the answer to a start, unless memory was wanting
abbrev pub IsStartPicked : {A : Type 0} → StartTold A → Result (Unit {0}) BoardFault
    → Result A Memory → Type 0
IsStartPicked told answer (Ok x) = Picks told answer x
IsStartPicked told answer (Err memory) = IsUntold answer

-- the board was asked for a start at this time, and this was picked by its answer
pub record IsStartChosen {A : Type 0} (now : ℕ) (d : NewDaemon) (checked : Checked)
    (told : StartTold A) (before after : BoardState) (x : A) : Type 0 where
  pub answer : Result (Unit {0}) BoardFault
  pub picks : Picks told answer x
  pub said : WhereTold before.shown after.shown
      (λ b c. Starts d.id (fresh b checked d.interval d.terminate now) answer b c)
  pub counted : after.answers ≡ after_start answer before.answers

-- the same, unless memory was wanting: then the board is as it was
abbrev pub IsStartAsked : {A : Type 0} → ℕ → NewDaemon → Checked → StartTold A → BoardState
    → BoardState → Result A Memory → Type 0
IsStartAsked now d checked told before after (Ok x) =
    IsStartChosen now d checked told before after x
IsStartAsked now d checked told before after (Err memory) = after ≡ before

-- the board was asked at this time, and this was picked by its answer
abbrev pub Chooses : {A : Type 0} → ℕ → Prepared A → BoardState → BoardState → A → Type 0
Chooses now (prepared.Told a) before after x = (after ≡ before) × (x ≡ a)
Chooses now (prepared.Change what id made unknown) before after x =
    IsChangeChosen now what id made unknown before after x
Chooses now (prepared.Start d checked told) before after x =
    IsStartChosen now d checked told before after x

-- the same, unless memory was wanting: then the board is as it was
abbrev pub IsChosen : {A : Type 0} → ℕ → Prepared A → BoardState → BoardState → Result A Memory
    → Type 0
IsChosen now p before after (Ok x) = Chooses now p before after x
IsChosen now p before after (Err memory) = after ≡ before

-- the board was asked a question at this time and told this, unless memory was wanting: then it is
-- as it was
abbrev pub IsAnswerTo : ℕ → Question → BoardState → BoardState → Result Outcome Memory → Type 0
IsAnswerTo now q before after (Ok o) = MayTell q o × Says now (question_ask q) before after o
IsAnswerTo now q before after (Err memory) = after ≡ before
