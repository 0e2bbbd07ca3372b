-- The topic of a load, as its text is read (own).
use Rattle.std.specs.Prelude.{ℕ, true, List, [], ◌∷◌, codes, Some}
use Rattle.query_syntax.specs.Tree.{ClauseTree, on_field}
use Rattle.query_syntax.specs.declared.query.Role.TheVariants.{Optional}
use Rattle.query_syntax.specs.declared.query.Test.TheVariants.{Range}
use Rattle.expr_types.specs.ExprTree.{ExprTree, TopicParts, node, no_exprs, an_expr, topic, update}
use Rattle.load_rules.specs.Topic.{ck_name, dest_name, load_fields, load_query, src_name}

-- what its query asks for: amounts from 0 to 499
abbrev pub load_clauses : List ClauseTree
load_clauses =
    record {
      role = Optional;
      what = on_field (codes "a_i") (Range (Some (codes "0")) true (Some (codes "499")) true);
    } ∷ []

-- its parts
abbrev pub load_parts : TopicParts
load_parts = record {
  checkpoints = ck_name;
  collection = src_name;
  id = codes "load";
  q = load_clauses;
  q_text = load_query;
  fl = load_fields;
  init = Some 0;
}

-- how many documents are delivered in a batch
abbrev pub load_size : ℕ
load_size = 250

-- the expression: an update of the destination by it
abbrev pub load_tree : ExprTree
load_tree = node (update dest_name load_size) (an_expr (node (topic load_parts) no_exprs) no_exprs)
