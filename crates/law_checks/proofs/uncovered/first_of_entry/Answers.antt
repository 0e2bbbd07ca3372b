use Rattle.law_checks.proofs.UncoveredLemmas.{entry-store, entry-right}
use Rattle.law_checks.proofs.uncovered.first_of_entry.Goals as goal

pub returns-in-None : goal.returns-in-None
returns-in-None c = λ hs same are.
    entry-right c.args.against.names.now hs c.args.entry.now c.in-Bind.by c.in-Bind.key c.in-Bind.binding c.in-Bind.is
    (rw c.in-None.is at (c.in_ok-shard-in-Bind.ensures hs same are))

pub returns-in-Store : goal.returns-in-Store
returns-in-Store c = λ hs same are.
    entry-store c.args.against.names.now hs c.args.entry.now c.in-Store.by c.in-Store.key c.in-Store.upto c.in-Store.is
