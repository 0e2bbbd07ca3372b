-- What a `group` among the arguments of `reduce` says (Solr Reference Guide, "Stream Decorator
-- Reference", reduce; the limits of `n` are own).
use Rattle.std.specs.Prelude.{ℕ, ◌==◌, List, length, Option, Some, None, codes, if◌then◌else◌}
use Rattle.tuple_values.specs.Whole.{whole_of}
use Rattle.sort_spec.specs.Reading.{Reading, said, sort_of}
use Rattle.sort_spec.specs.declared.term.SortTerm.{SortTerm}
use Rattle.expr_reader.specs.Tree.{CallTree, call, ArgTree}
use Rattle.expr_reader.specs.declared.call.Word.{Word}
use Rattle.expr_plan.specs.Literals.{within}
use Rattle.expr_plan.specs.Words.{arg_list, word_under}
use Rattle.expr_types.specs.Limits.{count_limit}
use Rattle.expr_types.specs.declared.item.GroupOp.{GroupOp}

-- a group of a sort and a number that were read
abbrev pub group_by : Reading (List SortTerm) → Option ℕ → Option GroupOp
group_by (said terms) (Some n) = Some (record { sort = terms; n = n })
group_by _ _ = None

-- a group of a sort and a number, given by words
abbrev pub grouped : Option Word → Option Word → Option GroupOp
grouped (Some by) (Some n) = group_by (sort_of by.text) (within 1 count_limit (whole_of n.text))
grouped _ _ = None

-- the group of two arguments, one under each of its keys
abbrev pub group_called : List ArgTree → Option GroupOp
group_called args =
    if length args == 2
    then grouped (word_under (codes "sort") args) (word_under (codes "n") args) else None

-- the group that a call is
abbrev pub group_of_call : CallTree → Option GroupOp
group_of_call (call name args) = group_called (arg_list args)
