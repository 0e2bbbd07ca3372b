-- The summary of a load's histories.
use Rattle.std.proofs.Common.{◌≡◌, ℕ, ◌≤◌, ◌^◌, refl, arith}
use Rattle.load_rules.specs.Loaded.{LoadsAreTold}
use Rattle.load_rules.specs.Summary.{load_text, summary, summary_of}
use Rattle.load_laws.proofs.DestTally.{dest-tally}
use Rattle.load_laws.proofs.SourceLemmas.{source-few}
use Rattle.load_laws.proofs.SourceTally.{source-tally-few}

-- the same numbers have the same summary
summary-same : (a b c d e v w x y z : ℕ) → a ≡ v → b ≡ w → c ≡ x → d ≡ y → e ≡ z
    → summary a b c d e ≡ summary v w x y z
summary-same a b c d e v w x y z p q r s t = rw (p, q, r, s, t) refl

-- it is that of its documents
pub told : LoadsAreTold
unfolding summary_of load_text
told n hs load =
    let few : n ≤ 10 ^ 64 = omega (arith, load.few) in
    let src = source-tally-few n hs few load in
    let dest = dest-tally n hs load (source-few n hs few load) in
    summary-same _ _ _ _ _ _ _ _ _ _ src.0 src.1 dest.0 dest.1 dest.2
