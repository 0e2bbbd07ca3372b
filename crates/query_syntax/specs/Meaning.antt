-- What the text of a query means (own).
use Rattle.std.specs.Prelude.{List, Bool, false, Option, Some, None}
use Rattle.tuple_values.specs.Document.{ByteList, Doc}
use Rattle.query_syntax.specs.Tree.{ClauseTree}
use Rattle.query_syntax.specs.Grammar.{IsQuery}
use Rattle.query_syntax.specs.Reading.{query_of}
use Rattle.query_syntax.specs.Matching.{matches}

-- some query is what the text says
unfoldable pub IsReadable : ByteList → Type 0
IsReadable text = (clauses : List ClauseTree) × IsQuery text clauses

-- whether there are clauses and they match the document
abbrev pub may_match : Option (List ClauseTree) → Doc → Bool
may_match None doc = false
may_match (Some clauses) doc = matches clauses doc

-- whether the text is a query and it matches the document
unfoldable pub text_matches : ByteList → Doc → Bool
text_matches text doc = may_match (query_of text) doc
