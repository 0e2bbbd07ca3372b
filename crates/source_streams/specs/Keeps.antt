-- The documents that a search keeps, and those that it gives (own).
use Rattle.tuple_values.specs.Document.{Doc}
use Rattle.source_streams.specs.declared.kept.Given.{Given}
use Rattle.source_streams.specs.declared.kept.Kept.{Kept}

-- the document that is kept
abbrev pub doc_of : Kept → Doc
doc_of kept = kept.document.now

-- the document that is given
abbrev pub given_doc : Given → Doc
given_doc given = given.document
