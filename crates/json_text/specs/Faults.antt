-- The texts of refused bodies (own rule).
use Rattle.std.specs.Prelude.{◌++◌, codes, decimal}
use Rattle.tuple_values.specs.Document.{ByteList}
use Rattle.json_text.specs.declared.fault.JsonFault.{JsonFault}
use Rattle.json_text.specs.declared.fault.JsonFault.TheVariants.{NotJson, NotADocument, NotWhole}
use Rattle.json_text.specs.declared.fault.JsonFault.TheVariants.{NoId, DocTooLarge, OutOfMemory}

-- the fault's name, and then its place and its field, where it has them
abbrev pub fault_text : JsonFault → ByteList
fault_text NotJson = codes "NotJson"
fault_text (NotADocument at) = codes "NotADocument " ++ decimal at
fault_text (NotWhole at field) = codes "NotWhole " ++ decimal at ++ codes " " ++ field
fault_text (NoId at) = codes "NoId " ++ decimal at
fault_text (DocTooLarge at) = codes "DocTooLarge " ++ decimal at
fault_text OutOfMemory = codes "out of memory"
