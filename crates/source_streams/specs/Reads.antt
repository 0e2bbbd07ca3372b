-- What a source gives (own).
use Rattle.std.specs.Prelude.{◌≡◌, List, [], ◌∷◌, Option, Some, None}
use Rattle.std.specs.Option.{option_map_or}
use Rattle.tuple_values.specs.Document.{Doc}
use Rattle.shard_versions.specs.declared.cut.CutPart.{CutPart}
use Rattle.expr_types.specs.ExprTree.{SearchParts}
use Rattle.expr_types.specs.Sources.{search_list}
use Rattle.expr_types.specs.Parts.{search_parts, tuple_fields}
use Rattle.expr_types.specs.declared.expr.Expr.{Expr}
use Rattle.source_streams.specs.Cuts.{documents_of}
use Rattle.source_streams.specs.Parts.{part_of, keys_of}
use Rattle.source_streams.specs.declared.part.Part.{Part}

-- the next tuple is the first of the list that is left; there is none exactly at the end
abbrev pub IsNext : List Doc → Option Doc → List Doc → Type 0
IsNext before None after = (before ≡ []) × (after ≡ [])
IsNext before (Some tuple) after = before ≡ tuple ∷ after

-- a part's tuples of what a search gives over a cut
abbrev pub found_in : SearchParts → List CutPart → Part → List Doc
found_in p cut part =
    part_of part.index part.of (keys_of p.partition_keys)
    (search_list p (documents_of p.collection cut))

-- the same of an expression, which is a search
abbrev pub searched : Expr → List CutPart → Part → List Doc
searched e cut part = option_map_or (λ p. found_in p cut part) (search_parts e) []

-- the one tuple of an expression, which is of one tuple
abbrev pub told : Expr → List Doc
told e = option_map_or (λ fields. fields ∷ []) (tuple_fields e) []
