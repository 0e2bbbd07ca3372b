-- The rows that the program's rows stand for (own).
use Rattle.std.specs.Prelude.{map}
use Rattle.expr_plan.specs.Table.{KeyShape, FunctionRow}
use Rattle.expr_plan.specs.declared.row.Key.{Key}
use Rattle.expr_plan.specs.declared.row.Row.{Row}

-- what the program's key is
abbrev pub key_shape : Key → KeyShape
key_shape k = (k.0.now, k.1)

-- what the program's row is
abbrev pub function_row : Row → FunctionRow
function_row r = record {
  name = r.name.now;
  inputs = r.inputs;
  operands = map (λ name. name.now) r.operands.now;
  helpers = r.helpers;
  mandatory = map key_shape r.mandatory.now;
  optional = map key_shape r.optional.now;
  others = r.others;
}
