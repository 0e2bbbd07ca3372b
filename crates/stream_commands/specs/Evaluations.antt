-- What `eval` leaves on output (own).
use Rattle.std.specs.Prelude.{◌≡◌, ◌⊎◌, ℕ, List, take, Option, Some, None, IsOk, IsErr}
use Rattle.tuple_values.specs.declared.names.NameShards.{NameShards}
use Rattle.stream_handler.specs.declared.outcome.Outcome.{Outcome}
use Rattle.stream_handler.specs.declared.outcome.Outcome.TheVariants.{Indexed, Refused, ResultSet}
use Rattle.io_edge.specs.Edge.{Appends, AppendsPrefix}
use Rattle.stream_commands.specs.Inputs.{limit, IsReadOut, IsReadWithin}
use Rattle.stream_commands.specs.Replies.{meaning, reply}
use Rattle.stream_commands.specs.declared.ending.Ending.{Ending}
use Rattle.stream_commands.specs.declared.ending.Ending.TheVariants.{Done, Faulty}

-- the expression of an input, which was told to have these bytes, has a meaning, and its reply is
-- written
abbrev pub IsEvaluated : List NameShards → List ℕ → Option (List ℕ) → Option (List ℕ)
    → Option (List ℕ) → Type 0
IsEvaluated names all left old new =
    IsOk (meaning names (take limit all)) × IsReadOut all left
    × Appends old new (reply names (take limit all))

-- the expression of such an input has a fault, and the reply that tells the first is written
abbrev pub IsFaultTold : List NameShards → List ℕ → Option (List ℕ) → Option (List ℕ)
    → Option (List ℕ) → Type 0
IsFaultTold names all left old new =
    IsErr (meaning names (take limit all)) × IsReadOut all left
    × Appends old new (reply names (take limit all))

-- a first part of the reply to the expression of such an input is written, once the input is read
abbrev pub IsReplyBegun : List NameShards → List ℕ → Option (List ℕ) → Option (List ℕ)
    → Option (List ℕ) → Type 0
IsReplyBegun names all left old new =
    IsReadOut all left × AppendsPrefix old new (reply names (take limit all))

-- nothing is written yet of the reply to such an input
abbrev pub IsUnanswered : List ℕ → Option (List ℕ) → Option (List ℕ) → Option (List ℕ) → Type 0
IsUnanswered all left old new = IsReadWithin all left × (new ≡ old)

-- nothing is written yet, or a first part of the reply
abbrev pub IsReplyWithin : List NameShards → List ℕ → Option (List ℕ) → Option (List ℕ)
    → Option (List ℕ) → Type 0
IsReplyWithin names all left old new =
    IsUnanswered all left old new ⊎ IsReplyBegun names all left old new

-- how a run ends that has written the reply to this outcome: an exception is a fault
abbrev pub ending_of : Outcome → Ending
ending_of (ResultSet docs (Some text)) = Faulty
ending_of (ResultSet docs None) = Done
ending_of Indexed = Done
ending_of (Refused code msg) = Done
