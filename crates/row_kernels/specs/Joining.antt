-- Texts joined one by one, as the code goes over them (own).
use Rattle.std.specs.Prelude.{◌++◌, Option, Some, None}
use Rattle.tuple_values.specs.Document.{ByteList}

-- what was joined, if anything was, and a text behind it
abbrev pub joined_on : ByteList → Option ByteList → ByteList → ByteList
joined_on delim None bytes = bytes
joined_on delim (Some before) bytes = before ++ delim ++ bytes

-- the same where there may be no text
abbrev pub joined_maybe : ByteList → Option ByteList → Option ByteList → Option ByteList
joined_maybe delim before None = before
joined_maybe delim before (Some bytes) = Some (joined_on delim before bytes)
