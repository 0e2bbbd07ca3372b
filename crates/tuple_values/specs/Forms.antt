-- The bytes of a text, wherever they are (own).
use Rattle.std.specs.Prelude.{string_bytes}
use Rattle.std.specs.Arc.{arc_str_bytes}
use Rattle.tuple_values.specs.Document.{ByteList}
use Rattle.tuple_values.specs.declared.text.Form.{Form}
use Rattle.tuple_values.specs.declared.text.Form.TheVariants.{Short, Owned, Shared}

-- the bytes
abbrev pub form_bytes : Form → ByteList
form_bytes (Short text) = text.bytes
form_bytes (Owned text) = string_bytes text
form_bytes (Shared text) = arc_str_bytes text
