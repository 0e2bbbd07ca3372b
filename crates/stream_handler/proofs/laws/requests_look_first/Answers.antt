use Rattle.stream_handler.proofs.SoundLemmas.{requests_first}
use Rattle.stream_handler.proofs.laws.requests_look_first.Goals as goal

pub returns : goal.returns
returns c = requests_first
