-- What is left to ask of a board when a request is carried out at the site (own).
use Rattle.std.specs.Prelude.{◌≡◌, Result, Ok, Err}
use Rattle.tuple_values.specs.Document.{ByteList}
use Rattle.tuple_values.specs.declared.memory.Memory.{Memory}
use Rattle.exchange_rules.specs.Courses.{Course}
use Rattle.exchange_rules.specs.Following.{Writer, Answers, Begins}
use Rattle.expr_check.specs.Views.{tree_of}
use Rattle.stream_handler.specs.Asks.{change_ask}
use Rattle.stream_handler.specs.Boards.{Ask, nothing, lists, starts}
use Rattle.stream_handler.specs.Outcomes.{exception}
use Rattle.stream_handler.specs.declared.outcome.Outcome.{Outcome}
use Rattle.stream_handler.specs.declared.question.Question.{Question}
use Rattle.stream_handler.specs.declared.question.Question.TheVariants as question

-- what it asks
abbrev pub question_ask : Question → Ask
question_ask (question.Nothing o) = nothing
question_ask question.List = lists
question_ask (question.Change what id) = change_ask what id
question_ask (question.Start d checked) = starts d.id (tree_of checked) d.interval d.terminate

-- this is the question that asks so much
abbrev pub Asks : Ask → Question → Type 0
Asks ask q = question_ask q ≡ ask

-- this may be the answer: where nothing is asked it is known
abbrev pub MayTell : Question → Outcome → Type 0
MayTell (question.Nothing o) told = told ≡ o
MayTell question.List told = Unit {0}
MayTell (question.Change what id) told = Unit {0}
MayTell (question.Start d checked) told = Unit {0}

-- what an action asks, or where it has a fault the answer
abbrev pub IsActionOf : Result Ask ByteList → Question → Type 0
IsActionOf (Ok ask) q = Asks ask q
IsActionOf (Err text) q = q ≡ question.Nothing (exception text)

-- the writer followed the course to each answer that there may be; or a beginning of it, whatever
-- the board told, where memory was wanting
abbrev pub CarriedTo : Writer → Writer → (Outcome → Course Outcome) → Result Question Memory
    → Type 0
CarriedTo old new course (Ok q) =
    (told : Outcome) → MayTell q told → Answers old new (course told) told
CarriedTo old new course (Err memory) = (told : Outcome) × Begins old new (course told)
