-- The documents of a cut (own).
use Rattle.std.specs.Prelude.{List, [], ◌∷◌, ◌++◌, map, bytes_eq, if◌then◌else◌}
use Rattle.tuple_values.specs.Document.{ByteList, Doc}
use Rattle.shard_versions.specs.declared.cut.CutPart.{CutPart}

-- the documents of a part, by version, where it is of the collection
abbrev pub documents_in : ByteList → CutPart → List Doc
documents_in collection part =
    if bytes_eq part.collection collection then map (λ d. d.1) part.snapshot.documents else []

-- the current documents of a collection, by the parts of a cut in their order
abbrev pub documents_of : ByteList → List CutPart → List Doc
documents_of collection [] = []
documents_of collection (part ∷ parts) =
    documents_in collection part ++ documents_of collection parts
