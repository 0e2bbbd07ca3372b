-- Summaries that are worked by hand.
use Rattle.std.proofs.Common.{◌≡◌, refl, codes}
use Rattle.load_rules.specs.Documents.{below}
use Rattle.load_rules.specs.Summary.{load_text}
use Rattle.std.specs.Fmt.{digits}

-- a load of eight documents
pub eight : load_text 8 ≡ codes "src docs=8 writes=12\ndest docs=4 sum_a=821 sum_rev=3\n"
unfolding load_text below digits
eight = refl
