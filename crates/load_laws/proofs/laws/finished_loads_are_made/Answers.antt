use Rattle.load_laws.proofs.MadeLemmas.{finished-made}
use Rattle.load_laws.proofs.laws.finished_loads_are_made.Goals as goal

pub returns : goal.returns
returns c = finished-made
