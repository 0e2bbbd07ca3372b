-- What is written of a response (own).
use Rattle.std.specs.Prelude.{◌≡◌, ◌++◌, ℕ, Bool, false, List, [], ◌∷◌, Option, Some, None}
use Rattle.std.specs.List.{concat}
use Rattle.tuple_values.specs.Document.{ByteList}
use Rattle.io_edge.specs.Edge.{Appends, AppendsPrefix}
use Rattle.stream_handler.specs.declared.ending.End.{End}
use Rattle.stream_handler.specs.declared.ending.End.TheVariants as end
use Rattle.stream_handler.specs.declared.reply.Reply.{Reply}
use Rattle.stream_handler.specs.declared.reply.Reply.TheVariants.{Whole, Docs}

-- what goes of it, one after another, and whether memory was wanting
abbrev pub due : Reply → List ByteList × Bool
due (Whole bytes) = (bytes ∷ [], false)
due (Docs docs) = docs

-- its bytes
abbrev pub reply_text : Reply → ByteList
reply_text reply = concat (due reply).0

-- these bytes are written whole; or a part of them, where the sink failed or memory was wanting
abbrev pub WritesReply : ByteList → Option (List ℕ) → Option (List ℕ) → Option End → Type 0
WritesReply bytes old new None = Appends old new bytes
WritesReply bytes old new (Some end.Ended) = ⊥
WritesReply bytes old new (Some end.Closed) = ⊥
WritesReply bytes old new (Some (end.Cut held)) = ⊥
WritesReply bytes old new (Some (end.Refused status)) = ⊥
WritesReply bytes old new (Some end.ReadFault) = ⊥
WritesReply bytes old new (Some end.WriteFault) = AppendsPrefix old new bytes
WritesReply bytes old new (Some end.OutOfMemory) = AppendsPrefix old new bytes

-- these bytes are written whole; or a part of them, where the sink failed
abbrev pub Puts : ByteList → Option (List ℕ) → Option (List ℕ) → Option End → Type 0
Puts bytes old new None = Appends old new bytes
Puts bytes old new (Some e) = (e ≡ end.WriteFault) × AppendsPrefix old new bytes

-- the first of these bytes are written, and the rest is kept; or a part of them, where the sink failed
abbrev pub WritesSome : ByteList → ByteList → Option (List ℕ) → Option (List ℕ) → Option End → Type 0
WritesSome before after old new None =
    (front : ByteList) × (before ≡ front ++ after) × Appends old new front
WritesSome before after old new (Some e) = (e ≡ end.WriteFault) × AppendsPrefix old new before

-- of all bytes a first part is written, these are made, and those are to come
abbrev pub IsPartWritten : ByteList → Option (List ℕ) → Option (List ℕ) → ByteList → ByteList
    → Type 0
IsPartWritten all old new made left =
    (front : ByteList) × (all ≡ front ++ (made ++ left)) × Appends old new front
