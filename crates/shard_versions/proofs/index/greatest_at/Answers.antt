use Rattle.std.proofs.Common.{rules, arith}
use Rattle.shard_versions.proofs.SentLemmas.{greatest-none, greatest-some}
use Rattle.shard_versions.proofs.index.greatest_at.Goals as goal

pub returns-then-at-eq0 : goal.returns-then-at-eq0
returns-then-at-eq0 c = λ src id h gs at. greatest-none src id h c.args.at at (search rules)

pub returns : goal.returns
returns c = λ src id h gs at. greatest-some src id h c.args.at at c.args.greatests.now gs (omega arith)
