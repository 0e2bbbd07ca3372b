-- What a search gives, as its expression says.
use Rattle.std.proofs.Common.{◌≡◌, [], Option, Some, None, refl, ◌∙◌, IsSome, List}
use Rattle.std.specs.Option.{option_map_or}
use Rattle.tuple_values.specs.Document.{Doc}
use Rattle.expr_types.specs.ExprTree.{Operator, search, tuple, select, having, sort, top, unique}
use Rattle.expr_types.specs.ExprTree.{merge, reduce, rollup, inner_join, left_outer_join, intersect}
use Rattle.expr_types.specs.ExprTree.{complement, hash_join, outer_hash_join, in_parallel, topic}
use Rattle.expr_types.specs.ExprTree.{update, commit, daemon, SearchParts, operator_in}
use Rattle.expr_types.specs.ExprTree.{expr_tree}
use Rattle.expr_types.specs.Parts.{search_parts, parts_of}
use Rattle.expr_types.specs.declared.expr.Expr.{Expr}
use Rattle.shard_versions.specs.declared.cut.CutPart.{CutPart}
use Rattle.source_streams.specs.Cuts.{documents_of}
use Rattle.source_streams.specs.Reads.{searched, found_in}
use Rattle.source_streams.specs.declared.part.Part.{Part}
use Rattle.part_laws.specs.Parted.{given_in_part}

-- what is found by the parts of an operator that is a search is its list in the part
found_in_part : (cut : List CutPart) (part : Part) (op : Operator) (lists : List (List Doc))
    → option_map_or (λ p. found_in p cut part) (parts_of op)
    (given_in_part (λ c. documents_of c cut) part.index part.of op lists)
    ≡ given_in_part (λ c. documents_of c cut) part.index part.of op lists
found_in_part cut part (search p) lists = refl
found_in_part cut part (tuple fields) lists = refl
found_in_part cut part (select items) lists = refl
found_in_part cut part (having condition) lists = refl
found_in_part cut part (sort by) lists = refl
found_in_part cut part (top n by) lists = refl
found_in_part cut part (unique over) lists = refl
found_in_part cut part (merge on) lists = refl
found_in_part cut part (reduce by op) lists = refl
found_in_part cut part (rollup over metrics) lists = refl
found_in_part cut part (inner_join on) lists = refl
found_in_part cut part (left_outer_join on) lists = refl
found_in_part cut part (intersect on) lists = refl
found_in_part cut part (complement on) lists = refl
found_in_part cut part (hash_join on) lists = refl
found_in_part cut part (outer_hash_join on) lists = refl
found_in_part cut part (in_parallel collection workers by) lists = refl
found_in_part cut part (topic p) lists = refl
found_in_part cut part (update dest size) lists = refl
found_in_part cut part (commit dest size) lists = refl
found_in_part cut part (daemon id interval terminate) lists = refl

-- where there are parts nothing stands for them
found_by : (cut : List CutPart) (part : Part) (found : Option SearchParts) (other : List Doc)
    → IsSome found
    → option_map_or (λ p. found_in p cut part) found []
    ≡ option_map_or (λ p. found_in p cut part) found other
found_by cut part None other some = absurd (cc)
found_by cut part (Some p) other some = refl

-- what an expression finds, which is a search, is its operator's list in the part
pub searched_in_part : (e : Expr) (cut : List CutPart) (part : Part) (lists : List (List Doc))
    → IsSome (search_parts e)
    → searched e cut part
    ≡ given_in_part (λ c. documents_of c cut) part.index part.of (operator_in (expr_tree e)) lists
searched_in_part e cut part lists some =
    found_by cut part (search_parts e)
    (given_in_part (λ c. documents_of c cut) part.index part.of (operator_in (expr_tree e)) lists) some
    ∙ found_in_part cut part (operator_in (expr_tree e)) lists
