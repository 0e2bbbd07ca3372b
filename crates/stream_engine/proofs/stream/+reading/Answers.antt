use Rattle.std.proofs.Common.{arith, sym, ◌∙◌, ap, subst, length-set, ◌<◌, length}
use Rattle.std.specs.Prelude.{slice_index_or}
use Rattle.source_streams.specs.Reads.{IsNext}
use Rattle.stream_engine.specs.Flows.{Flow}
use Rattle.stream_engine.specs.Kernels.{any_out, any_ready, any_ended}
use Rattle.stream_engine.proofs.Inputs.{fed_kept, fed_falls, fed_width, deepest_set, flag_within}
use Rattle.stream_engine.proofs.stream.+reading.Goals as goal

-- with the tuple that was read fed, the kernel's output and the depth are as before, and a tuple fewer
-- is to come of the inputs, or one input more has ended
pub supply-returns : goal.supply-returns
supply-returns t c =
    let i = c.args.i in
    let inputs = c.args.inputs.now.items in
    let kernel = c.args.kernel.now in
    let fed_kernel = c.feed.new.self in
    let ended = any_ended kernel in
    let within : i < length inputs =
    omega (arith, flag_within ended i c.requires.open, c.requires.inputs) in
    let tuple = c.in_ok-tuple.tuple in
    let read = c.read.new.self in
    let next : IsNext (slice_index_or inputs i c.index_mut-input.result.now).0 tuple read.0 =
    subst (λ (f : Flow). IsNext f.0 tuple read.0) c.index_mut-input.ensures.value
    c.in_ok-tuple.ensures.next in
    let fed = c.in_ok-feed.ensures in
    let kept =
    fed_kept (any_ready kernel) (any_ready fed_kernel) (any_out kernel) (any_out fed_kernel) inputs
    i read c.index_mut-input.result.now tuple within next fed.out fed.ready fed.out_at_end
    fed.ready_at_end c.requires.ready in
    record {
      ready = kept.stays;
      out = kept.same;
      inputs =
          fed_width tuple i ended (any_ended fed_kernel) fed.open fed.ended
          ∙ c.requires.inputs ∙ sym (length-set inputs i read);
      depth =
          deepest_set inputs i read c.index_mut-input.result.now
          (c.in_ok-tuple.ensures.depth ∙ ap (λ (f : Flow). f.1) c.index_mut-input.ensures.value);
      falls =
          fed_falls inputs i read c.index_mut-input.result.now tuple ended (any_ended fed_kernel)
          within next c.requires.open fed.open fed.ended;
    }
