use Rattle.std.proofs.Common.{◌&&◌, Bool, refl, sym, ap, ◌∙◌}
use Rattle.shard_versions.specs.Documents.{id_of}
use Rattle.shard_versions.specs.Deliveries.{admits}
use Rattle.once_core.proofs.WrittenLemmas.{admits_named, admits_two}
use Rattle.once_core.proofs.writes.is_admitted.Goals as goal

pub returns-then-admits : goal.returns-then-admits
returns-then-admits c =
    ap (λ x. x && c.admits-then-admits.result) (sym c.if-admits.true)
    ∙ admits_two c.args.history.now c.args.kept.now c.in-Sent.src c.in-Sent.version c.in-Sent.document c.args.kind.now
    c.admits.result c.admits-then-admits.result c.in-Sent.is
    (admits_named c.args.history.now c.in-Sent.src c.as_str.result.now (id_of c.in-Sent.document) c.id_of-id.result.now
    c.in-Sent.version c.admits.result c.as_str.ensures c.id_of-id.ensures c.admits.ensures)
    (admits_named c.args.kept.now c.in-Sent.src c.as_str-then-admits.result.now (id_of c.in-Sent.document) c.id_of-id.result.now
    c.in-Sent.version c.admits-then-admits.result c.as_str-then-admits.ensures c.id_of-id.ensures c.admits-then-admits.ensures)

pub returns-else-admits : goal.returns-else-admits
returns-else-admits c =
    let second : Bool = admits c.args.kept.now c.in-Sent.src (id_of c.in-Sent.document) c.in-Sent.version in
    c.if-admits.false ∙ ap (λ x. x && second) (sym c.if-admits.false)
    ∙ admits_two c.args.history.now c.args.kept.now c.in-Sent.src c.in-Sent.version c.in-Sent.document c.args.kind.now
    c.admits.result second c.in-Sent.is
    (admits_named c.args.history.now c.in-Sent.src c.as_str.result.now (id_of c.in-Sent.document) c.id_of-id.result.now
    c.in-Sent.version c.admits.result c.as_str.ensures c.id_of-id.ensures c.admits.ensures)
    refl
