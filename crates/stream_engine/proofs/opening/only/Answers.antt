use Rattle.stream_engine.proofs.Openings.{first_rest}
use Rattle.stream_engine.proofs.opening.only.Goals as goal

pub returns : goal.returns
returns c = first_rest c.args.inputs.items c.remove.result c.requires c.remove.ensures.value
