use Rattle.std.proofs.Common.{sym}
use Rattle.tuple_values.proofs.FieldLemmas.{got}
use Rattle.tuple_values.proofs.DocumentLemmas.{value_absent}
use Rattle.tuple_values.proofs.tuple.searched.Goals as goal

pub returns-in-Ok : goal.returns-in-Ok
returns-in-Ok c = sym (got c.args.name.now _ _ _ c.in-Ok.ensures.found)

pub returns-in-Err : goal.returns-in-Err
returns-in-Err c = sym (value_absent c.args.name.now _ _ c.in-Err.ensures.absent)
