use Rattle.std.proofs.Common.{◌∙◌}
use Rattle.load_mix.specs.Workers.{IsWorked}
use Rattle.load_mix.proofs.WorkerLemmas.{written, zip-now}
use Rattle.load_mix.proofs.load.carry_out_of.Goals as goal

pub returns : goal.returns
returns g c =
    zip-now (IsWorked c.args.plan.now.n c.args.site.now) c.as_mut_slice-workers.result.now
    c.carry_all_out.new.workers c.args.workers.now.items _ c.as_mut_slice-workers.ensures.value
    (written c.args.workers.now.len c.carry_all_out.new.workers _
    (c.carry_all_out.ensures.count ∙ c.as_mut_slice-workers.ensures.len))
    c.carry_all_out.ensures.count c.carry_all_out.ensures.each
