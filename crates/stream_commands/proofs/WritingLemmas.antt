-- What `eval` has written, by what the bytes mean.
use Rattle.std.proofs.Common.{◌≡◌, ℕ, List, [], take, refl, sym, ap, ◌∙◌, subst, inl, inr}
use Rattle.std.specs.Prelude.{Option, Some, None, Result, Ok, Err, IsOk, IsErr, IfSome}
use Rattle.std.proofs.lemmas.List.{append-nil}
use Rattle.tuple_values.specs.Document.{ByteList, Doc}
use Rattle.tuple_values.specs.declared.names.NameShards.{NameShards}
use Rattle.io_edge.specs.Edge.{Appends, AppendsPrefix}
use Rattle.command_words.specs.declared.command.Command.{Command}
use Rattle.command_words.specs.declared.command.Command.TheVariants.{Eval, Script, Serve, Load}
use Rattle.load_rules.specs.Summary.{load_text}
use Rattle.stream_handler.specs.Outcomes.{body_of}
use Rattle.stream_handler.specs.declared.outcome.Outcome.{Outcome}
use Rattle.stream_commands.specs.Inputs.{limit, IsInput, IsReadOut}
use Rattle.stream_commands.specs.Replies.{meaning, reply, reply_of, outcome_of}
use Rattle.stream_commands.specs.Commands.{IsAnswered, IsRefused, IsBegun, IsBroken, IsCut, IsInPart}
use Rattle.stream_commands.specs.Commands.{IsServed, IsShort, IsStarved, IsStopped, IsUntouched}
use Rattle.stream_commands.specs.Evaluations.{ending_of}
use Rattle.stream_commands.specs.Endings.{EndsFor, WritesFor, Writes}
use Rattle.stream_commands.specs.Lines.{status_of}
use Rattle.stream_commands.specs.declared.ending.Ending.{Ending}
use Rattle.stream_commands.specs.declared.ending.Ending.TheVariants.{Done, Shown, InputFailed, OutputFailed, DoorsFailed, WordsRefused, WordsTold, Faulty, OutOfMemory, InputCut, MessageRefused}
use Rattle.form_request.specs.declared.reading.After.TheVariants.{Refusal, Rest}
use Rattle.stream_handler.proofs.WireLemmas.{appends_none, appends_still}
use Rattle.stream_commands.proofs.BegunLemmas.{script_read, script_run}

-- the reply to an outcome tells its meaning
body_of-outcome_of : (m : Result (List Doc) ByteList) → body_of (outcome_of m) 0 ≡ reply_of m
body_of-outcome_of (Ok docs) = refl
body_of-outcome_of (Err text) = refl

-- the reply that tells this meaning is written
told : (names : List NameShards) (all : List ℕ) (m : Result (List Doc) ByteList)
    (left old new : Option (List ℕ)) → meaning names (take limit all) ≡ m → IsReadOut all left
    → Appends old new (reply_of m)
    → WritesFor (ending_of (outcome_of m)) (Some (Eval names)) all left old new
told names all (Ok docs) left old new is out app =
    subst (λ (m : Result (List Doc) ByteList).
    IsOk m × IsReadOut all left × Appends old new (reply_of m)) (sym is) (refl, out, app)
told names all (Err text) left old new is out app =
    subst (λ (m : Result (List Doc) ByteList).
    IsErr m × IsReadOut all left × Appends old new (reply_of m)) (sym is) (refl, out, app)

-- the reply to an outcome is written, and the run ends so
pub reply_written : (names : List NameShards) (had left : Option (List ℕ)) (bytes read : ByteList)
    (o : Outcome) (end : Ending) (piece : ByteList) (old new : Option (List ℕ))
    → IsInput had left bytes → read ≡ bytes → o ≡ outcome_of (meaning names read)
    → end ≡ ending_of o → piece ≡ body_of o 0 → Appends old new piece
    → Writes end (Some (Eval names)) had left old new
reply_written names None left bytes read o end piece old new input same means ends writes app = tt
reply_written names (Some all) left bytes read o end piece old new input same means ends writes app =
    let m = meaning names (take limit all) in
    let outcome_is : o ≡ outcome_of m =
    subst (λ (b : ByteList). o ≡ outcome_of (meaning names b)) (same ∙ input.0) means in
    let written : Appends old new (reply_of m) =
    subst (λ (b : ByteList). Appends old new b)
    (writes ∙ (ap (λ (x : Outcome). body_of x 0) outcome_is ∙ body_of-outcome_of m)) app in
    subst (λ (e : Ending). WritesFor e (Some (Eval names)) all left old new)
    (sym (ends ∙ ap ending_of outcome_is)) (told names all m left old new refl input.1 written)

-- a first part of it is
pub reply_begun : (names : List NameShards) (had left : Option (List ℕ)) (bytes read : ByteList)
    (o : Outcome) (piece : ByteList) (old new : Option (List ℕ))
    → IsInput had left bytes → read ≡ bytes → o ≡ outcome_of (meaning names read)
    → piece ≡ body_of o 0 → AppendsPrefix old new piece
    → Writes OutputFailed (Some (Eval names)) had left old new
reply_begun names None left bytes read o piece old new input same means writes app = tt
reply_begun names (Some all) left bytes read o piece old new input same means writes app =
    let m = meaning names (take limit all) in
    let outcome_is : o ≡ outcome_of m =
    subst (λ (b : ByteList). o ≡ outcome_of (meaning names b)) (same ∙ input.0) means in (
      input.1,
      subst (λ (b : ByteList). AppendsPrefix old new b)
          (writes ∙ (ap (λ (x : Outcome). body_of x 0) outcome_is ∙ body_of-outcome_of m)) app,
    )

-- where nothing is written, a first part of any text is
pub nothing_begun : (old new : Option (List ℕ)) (text : ByteList) → new ≡ old
    → AppendsPrefix old new text
nothing_begun old new text is = ([], text, refl, appends_still old old new [] (appends_none old) is)

-- the whole of a text is a first part of it
pub whole_begun : (old new : Option (List ℕ)) (bytes : ByteList) → Appends old new bytes
    → AppendsPrefix old new bytes
whole_begun old new bytes app = (bytes, [], sym (append-nil bytes), app)

-- where memory was wanting, a first part of what is to be written is
starved_begun : (words : List ByteList) (command : Option Command) (all : List ℕ)
    (left old new : Option (List ℕ)) → EndsFor words command OutOfMemory
    → IsStarved command all left old new → IsBegun command all left old new
starved_begun words None all left old new ends is = absurd ends
starved_begun words (Some (Eval names)) all left old new ends is = inl is
starved_begun words (Some (Script names)) all left old new ends is = is
starved_begun words (Some (Serve settings names)) all left old new ends is = is
starved_begun words (Some (Load n)) all left old new ends is =
    (is.0, nothing_begun old new (load_text n) is.1)

-- and where output failed
part_begun : (command : Option Command) (all : List ℕ) (left old new : Option (List ℕ))
    → IsInPart command all left old new → IsBegun command all left old new
part_begun None all left old new is = is
part_begun (Some (Eval names)) all left old new is = inr is
part_begun (Some (Script names)) all left old new is = is.0
part_begun (Some (Serve settings names)) all left old new is = absurd is
part_begun (Some (Load n)) all left old new is = is

-- and where a door failed
served_begun : (command : Option Command) (all : List ℕ) (left old new : Option (List ℕ))
    → IsServed command all left old new → IsBegun command all left old new
served_begun None all left old new is = absurd is
served_begun (Some (Eval names)) all left old new is = absurd is
served_begun (Some (Script names)) all left old new is = absurd is
served_begun (Some (Serve settings names)) all left old new is = is
served_begun (Some (Load n)) all left old new is = absurd is

-- and where input failed
broken_begun : (command : Option Command) (all : List ℕ) (left old new : Option (List ℕ))
    → IsBroken command all left old new → IsBegun command all left old new
broken_begun None all left old new is = absurd is
broken_begun (Some (Eval names)) all left old new is = inl is
broken_begun (Some (Script names)) all left old new is = script_read names all left old new is
broken_begun (Some (Serve settings names)) all left old new is = absurd is
broken_begun (Some (Load n)) all left old new is = absurd is

-- what is answered was begun
answered_begun : (command : Option Command) (all : List ℕ) (left old new : Option (List ℕ))
    → IsAnswered command all left old new → IsBegun command all left old new
answered_begun None all left old new is =
    (is.0, (is.1.0, whole_begun old new is.1.0 is.1.1))
answered_begun (Some (Eval names)) all left old new is =
    inr (is.1, whole_begun old new (reply names (take limit all)) is.2)
answered_begun (Some (Script names)) all left old new is =
    script_run names all left (Rest 0 is.0) old new is.1
answered_begun (Some (Serve settings names)) all left old new is = is
answered_begun (Some (Load n)) all left old new is =
    (is.0, whole_begun old new (load_text n) is.1)

-- so is what is refused
refused_begun : (command : Option Command) (all : List ℕ) (left old new : Option (List ℕ))
    → IsRefused command all left old new → IsBegun command all left old new
refused_begun None all left old new is = absurd is
refused_begun (Some (Eval names)) all left old new is =
    inr (is.1, whole_begun old new (reply names (take limit all)) is.2)
refused_begun (Some (Script names)) all left old new is = absurd is
refused_begun (Some (Serve settings names)) all left old new is = absurd is
refused_begun (Some (Load n)) all left old new is = absurd is

-- and what ends inside a message, or at one that is refused
cut_begun : (command : Option Command) (all : List ℕ) (left old new : Option (List ℕ))
    → IsCut command all left old new → IsBegun command all left old new
cut_begun None all left old new is = absurd is
cut_begun (Some (Eval names)) all left old new is = absurd is
cut_begun (Some (Script names)) all left old new is =
    script_run names all left (Rest is.0 is.1) old new is.3
cut_begun (Some (Serve settings names)) all left old new is = absurd is
cut_begun (Some (Load n)) all left old new is = absurd is

stopped_begun : (command : Option Command) (status : ℕ) (all : List ℕ)
    (left old new : Option (List ℕ)) → IsStopped command status all left old new
    → IsBegun command all left old new
stopped_begun None status all left old new is = absurd is
stopped_begun (Some (Eval names)) status all left old new is = absurd is
stopped_begun (Some (Script names)) status all left old new is =
    script_run names all left (Refusal status) old new is
stopped_begun (Some (Serve settings names)) status all left old new is = absurd is
stopped_begun (Some (Load n)) status all left old new is = absurd is

-- words are refused where there is no command, and then nothing is written
refused_words : (words : List ByteList) (command : Option Command) (all : List ℕ)
    (left old new : Option (List ℕ)) → EndsFor words command WordsRefused
    → IsUntouched all left old new → IsBegun command all left old new
refused_words words None all left old new ends is = (is.0, ([], nothing_begun old new [] is.1))
refused_words words (Some command) all left old new ends is = absurd ends

-- so it is where they are told why they are
told_words : (words : List ByteList) (text : ByteList) (command : Option Command) (all : List ℕ)
    (left old new : Option (List ℕ)) → EndsFor words command (WordsTold text)
    → IsUntouched all left old new → IsBegun command all left old new
told_words words text None all left old new ends is =
    (is.0, ([], nothing_begun old new [] is.1))
told_words words text (Some command) all left old new ends is = absurd ends

-- at each ending a first part of what the command is to write is written
begun_for : (words : List ByteList) (end : Ending) (command : Option Command) (all : List ℕ)
    (left old new : Option (List ℕ)) → EndsFor words command end
    → WritesFor end command all left old new → IsBegun command all left old new
begun_for words Done command all left old new ends w = answered_begun command all left old new w
begun_for words Shown command all left old new ends w = answered_begun command all left old new w
begun_for words InputFailed command all left old new ends w =
    broken_begun command all left old new w
begun_for words OutputFailed command all left old new ends w =
    part_begun command all left old new w
begun_for words DoorsFailed command all left old new ends w =
    served_begun command all left old new w
begun_for words WordsRefused command all left old new ends w =
    refused_words words command all left old new ends w
begun_for words (WordsTold text) command all left old new ends w =
    told_words words text command all left old new ends w
begun_for words Faulty command all left old new ends w = refused_begun command all left old new w
begun_for words OutOfMemory command all left old new ends w =
    starved_begun words command all left old new ends w
begun_for words InputCut command all left old new ends w = cut_begun command all left old new w
begun_for words (MessageRefused status) command all left old new ends w =
    stopped_begun command status all left old new w

-- the same, where the input tells its bytes
pub begun_told : (words : List ByteList) (end : Ending) (command : Option Command)
    (had left old new : Option (List ℕ)) → EndsFor words command end
    → Writes end command had left old new → IfSome had (λ all. IsBegun command all left old new)
begun_told words end command None left old new ends w = tt
begun_told words end command (Some all) left old new ends w =
    begun_for words end command all left old new ends w

-- at 5 a script is cut short or stopped
short_at : (end : Ending) (command : Option Command) (all : List ℕ)
    (left old new : Option (List ℕ)) → status_of end ≡ 5 → WritesFor end command all left old new
    → IsShort command all left old new
short_at Done command all left old new five w = absurd (cc)
short_at Shown command all left old new five w = absurd (cc)
short_at InputFailed command all left old new five w = absurd (cc)
short_at OutputFailed command all left old new five w = absurd (cc)
short_at DoorsFailed command all left old new five w = absurd (cc)
short_at WordsRefused command all left old new five w = absurd (cc)
short_at (WordsTold text) command all left old new five w = absurd (cc)
short_at Faulty command all left old new five w = absurd (cc)
short_at OutOfMemory command all left old new five w = absurd (cc)
short_at InputCut command all left old new five w = inl w
short_at (MessageRefused status) command all left old new five w = inr (status, w)

pub short_for : (end : Ending) (command : Option Command) (had left old new : Option (List ℕ))
    → status_of end ≡ 5 → Writes end command had left old new
    → IfSome had (λ all. IsShort command all left old new)
short_for end command None left old new five w = tt
short_for end command (Some all) left old new five w =
    short_at end command all left old new five w
