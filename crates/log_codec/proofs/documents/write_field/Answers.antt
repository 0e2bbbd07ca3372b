use Rattle.std.proofs.Common.{◌∙◌, ap, pos, []}
use Rattle.tuple_values.specs.Document.{long}
use Rattle.shard_versions.specs.Documents.{is_group}
use Rattle.log_codec.proofs.RiseLemmas.{no_group-at}
use Rattle.log_codec.proofs.documents.write_field.Goals as goal

pub write_value-requires : goal.write_value-requires
write_value-requires c =
    ap is_group (c.value.ensures.value ([], long (pos 0))) ∙ no_group-at c.args.document.now c.args.k ([], long (pos 0)) c.requires.no_group c.requires.within
