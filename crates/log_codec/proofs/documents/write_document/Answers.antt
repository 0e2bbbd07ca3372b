use Rattle.std.proofs.Common.{[], arith}
use Rattle.tuple_values.specs.Document.{text}
use Rattle.log_codec.specs.Documents.{spelled_field, IsSpellableField}
use Rattle.log_codec.proofs.WriteLemmas.{written-next}
use Rattle.log_codec.proofs.documents.write_document.Goals as goal

pub loop-k-preserved : goal.loop-k-preserved
loop-k-preserved c =
    written-next IsSpellableField spelled_field _ _ _ c.args.document.now c.loop-k.k ([], text []) c.loop-k.invariant (omega arith)
    (c.in_ok-write_field.ensures.ok ([], text [])) (c.in_ok-write_field.ensures.fits ([], text []))
