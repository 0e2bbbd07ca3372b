use Rattle.std.proofs.Common.{ap}
use Rattle.std.specs.Prelude.{option_to_list}
use Rattle.shard_versions.specs.declared.entry.Entry.{Entry}
use Rattle.shard_versions.specs.declared.entry.Kind.{Kind}
use Rattle.shard_versions.proofs.LogLemmas.{made-right}
use Rattle.shard_versions.proofs.log.made_of.Goals as goal

pub returns-clause-entry : goal.returns-clause-entry
returns-clause-entry c =
    let entry : Kind → Entry = λ k. record { by = c.args.entry.now.by; kind = k } in
    ap entry
    (made-right c.args.version c.args.entry.now.kind c.in_ok-act.act (option_to_list c.in_ok-slot.slot)
    c.in_ok-act.ensures c.in_ok-slot.ensures c.requires.storable)
