use Rattle.log_codec.specs.BookEntries.{spelled_destination, spelled_versions, AreSpellableVersions, IsSpellableDestination}
use Rattle.log_codec.proofs.BindingLemmas.{destination-one}
use Rattle.log_codec.proofs.PairLemmas.{pair-no_second}
use Rattle.log_codec.proofs.bindings.read_ends.Goals as goal

pub returns-in-None-2-clause-none : goal.returns-in-None-2-clause-none
returns-in-None-2-clause-none c =
    let none = rw c.in-None-2.is at c.in_ok-init-in-Some.ensures.none in
    pair-no_second IsSpellableDestination AreSpellableVersions spelled_destination spelled_versions destination-one _ _ _ c.in-Some.ensures.some none
