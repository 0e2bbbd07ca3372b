use Rattle.std.proofs.Common.{◌+◌, ◌*◌}
use Rattle.expr_reader.specs.Tree.{arg_depth, call_depth}
use Rattle.expr_reader.specs.Views.{arg_tree, call_tree}
use Rattle.reader_tests.proofs.shown_calls.+showing.Given as goal

abbrev pub decreases-push_arg : goal.decreases-push_arg
decreases-push_arg l = 2 * arg_depth (arg_tree l.arg.now) + 1

abbrev pub decreases-push_call : goal.decreases-push_call
decreases-push_call l = 2 * call_depth (call_tree l.call.now)
