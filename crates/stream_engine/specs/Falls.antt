-- Each input is less deep than its kernel's stream (own).
use Rattle.std.specs.Prelude.{◌≤◌, max}
use Rattle.std.proofs.Common.{arith}
use Rattle.stream_engine.specs.Views.{depth_in}
use Rattle.stream_engine.specs.declared.stream.Node.{Node}
use Rattle.stream_engine.specs.declared.stream.Node.TheVariants.{Search, Once, Fed, Kernel}
use Rattle.stream_engine.specs.declared.stream.Stream.TheDeep.{deep-Node}

pub node_falls : (n : Node) → max (deep-Node n) 0 ≤ depth_in n
node_falls (Search cursor) = omega arith
node_falls (Once once) = omega arith
node_falls (Fed fed) = omega arith
node_falls (Kernel kernel inputs) = omega arith
