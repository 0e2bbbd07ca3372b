-- What an expression takes from elsewhere than its inputs: the parts of a search, the fields of a tuple,
-- the parts of a topic (own).
use Rattle.std.specs.Prelude.{Option, Some, None}
use Rattle.tuple_values.specs.Document.{Doc}
use Rattle.expr_types.specs.ExprTree.{Operator, SearchParts, TopicParts, operator_in, expr_tree}
use Rattle.expr_types.specs.Rules.{Source, searched, literal, followed, no_source, rule_of}
use Rattle.expr_types.specs.declared.expr.Expr.{Expr}

-- the parts of a search
abbrev pub search_in : Source → Option SearchParts
search_in (searched p) = Some p
search_in (literal fields) = None
search_in (followed p) = None
search_in no_source = None

-- the fields of a tuple
abbrev pub tuple_in : Source → Option Doc
tuple_in (searched p) = None
tuple_in (literal fields) = Some fields
tuple_in (followed p) = None
tuple_in no_source = None

-- the parts of a topic
abbrev pub topic_in : Source → Option TopicParts
topic_in (searched p) = None
topic_in (literal fields) = None
topic_in (followed p) = Some p
topic_in no_source = None

-- the parts of an operator that is a search
abbrev pub parts_of : Operator → Option SearchParts
parts_of op = search_in (rule_of op).source

-- the parts of an expression that is a search
abbrev pub search_parts : Expr → Option SearchParts
search_parts e = parts_of (operator_in (expr_tree e))

-- the fields of an expression that is a tuple
abbrev pub tuple_fields : Expr → Option Doc
tuple_fields e = tuple_in (rule_of (operator_in (expr_tree e))).source

-- the parts of an expression that is a topic
abbrev pub topic_parts : Expr → Option TopicParts
topic_parts e = topic_in (rule_of (operator_in (expr_tree e))).source
