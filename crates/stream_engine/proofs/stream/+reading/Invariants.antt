use Rattle.std.proofs.Common.{◌≡◌, length, ◌+◌, ◌*◌}
use Rattle.stream_engine.specs.Flows.{rests_of, to_come, unended}
use Rattle.stream_engine.specs.Views.{deepest, depth_in}
use Rattle.stream_engine.specs.Kernels.{any_out, any_ready, any_ended}
use Rattle.stream_engine.proofs.stream.+reading.Given as goal

-- the kernel is ready for what its inputs still give, and its output and the depth are as before
abbrev pub invariant-pull-asks : goal.invariant-pull-asks
invariant-pull-asks l = record {
  ready : any_ready l.kernel (rests_of l.inputs.items);
  inputs : length (any_ended l.kernel) ≡ length l.inputs.items;
  out :
      any_out l.kernel (rests_of l.inputs.items)
      ≡ any_out l.initial.kernel (rests_of l.initial.inputs.items);
  depth : deepest l.inputs.items ≡ deepest l.initial.inputs.items;
}

-- a tuple is taken off an input or an input ends
abbrev pub decreases-pull-asks : goal.decreases-pull-asks
decreases-pull-asks l = to_come l.inputs.items + unended (any_ended l.kernel)

-- an input is less deep than its kernel's stream
abbrev pub decreases-Stream::read : goal.decreases-Stream::read
decreases-Stream::read l = l.self.now.1 * 4 + 3

abbrev pub decreases-step : goal.decreases-step
decreases-step l = depth_in l.node.now * 4 + 2

abbrev pub decreases-pull : goal.decreases-pull
decreases-pull l = deepest l.inputs.now.items * 4 + 1

abbrev pub decreases-supply : goal.decreases-supply
decreases-supply l = deepest l.inputs.now.items * 4
