-- What an expression gives where each of its searches gives one part of what it finds (own).
use Rattle.std.specs.Prelude.{◌≡◌, ◌⊎◌, ℕ, List, [], ◌∷◌, map, IsSome}
use Rattle.std.specs.List.{range_with_len}
use Rattle.tuple_values.specs.Document.{ByteList, Doc}
use Rattle.expr_types.specs.ExprTree.{Operator, ExprTree, node, ExprTrees, no_exprs, an_expr}
use Rattle.expr_types.specs.Rules.{Collections, Source, searched, literal, followed, no_source}
use Rattle.expr_types.specs.Rules.{given, rule_of}
use Rattle.expr_check.specs.Walk as walk
use Rattle.source_streams.specs.Parts.{part_of, keys_of}

-- one part of what an operator gives: of a search the tuples of the part, by its own partition keys
abbrev pub part_from : (index parts : ℕ) → Source → List Doc → List Doc
part_from index parts (searched p) docs = part_of index parts (keys_of p.partition_keys) docs
part_from index parts (literal fields) docs = docs
part_from index parts (followed p) docs = docs
part_from index parts no_source docs = docs

-- the list of an operator over inputs, where it gives one part
abbrev pub given_in_part : Collections → (index parts : ℕ) → Operator → List (List Doc) → List Doc
given_in_part docs index parts op lists =
    part_from index parts (rule_of op).source (given docs op lists)

-- the list of an expression, where each of its searches gives one part
abbrev mutual
  pub list_in_part : Collections → (index parts : ℕ) → ExprTree → List Doc
  list_in_part docs index parts (node op inputs) =
      given_in_part docs index parts op (lists_in_part docs index parts inputs)

  -- the lists of inputs
  pub lists_in_part : Collections → (index parts : ℕ) → ExprTrees → List (List Doc)
  lists_in_part docs index parts no_exprs = []
  lists_in_part docs index parts (an_expr e exprs) =
      list_in_part docs index parts e ∷ lists_in_part docs index parts exprs

-- there is one part, or the expression has partition keys
abbrev pub MayBeParted : (parts : ℕ) → ExprTree → Type 0
MayBeParted parts t = (parts ≡ 1) ⊎ IsSome (walk.keys_of t)

-- so each of several
abbrev pub MayAllBeParted : (parts : ℕ) → ExprTrees → Type 0
MayAllBeParted parts no_exprs = Unit {0}
MayAllBeParted parts (an_expr e exprs) = MayBeParted parts e × MayAllBeParted parts exprs

-- all parts of a list, in order
abbrev pub all_parts : (parts : ℕ) → List ByteList → List Doc → List (List Doc)
all_parts parts keys docs = map (λ index. part_of index parts keys docs) (range_with_len 0 parts)
