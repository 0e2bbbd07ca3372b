-- How the front of an entry is spelled, which every kind of entry has (own).
use Rattle.std.specs.Prelude.{◌∷◌}
use Rattle.tuple_values.specs.Document.{ByteList}
use Rattle.log_codec.specs.Codes.{spelled_number, IsNumber}
use Rattle.log_codec.specs.declared.head.Head.{Head}

-- the byte of the kind, and the number of the writer
abbrev pub spelled_head : Head → ByteList
spelled_head head = head.kind ∷ spelled_number head.by

-- the writer's number is a number
abbrev pub IsHead : Head → Type 0
IsHead head = IsNumber head.by
