use Rattle.std.proofs.Common.{◌∙◌, pos, ap, w64}
use Rattle.std.proofs.lemmas.Int.{to_z_pos}
use Rattle.tuple_values.specs.Document.{text, long}
use Rattle.shard_versions.specs.Documents.{source_name, source_version_name}
use Rattle.case_items.proofs.FieldLemmas.{delivered-is, put-is}
use Rattle.case_items.proofs.items.delivered.Goals as goal

pub returns-clause-from : goal.returns-clause-from
returns-clause-from c doc e =
    let source = put-is c.remove.new.self c.put.new.self source_name c.in_ok-of.field-0
    (text c.args.src.now) (text c.in_ok-of-2.field-0) c.in_ok-put.ensures.ok c.in_ok-of.ensures
    (ap text (c.in_ok-of-2.ensures ∙ c.as_str.ensures)) in
    let version = put-is c.put.new.self c.put-2.new.self source_version_name
    c.in_ok-of-3.field-0 (long (pos c.args.version)) _ c.in_ok-put-2.ensures.ok
    c.in_ok-of-3.ensures (ap long (to_z_pos w64 c.args.version c.requires)) in
    delivered-is c.args.src.now c.args.version c.args.shown.now c.in_ok-document.document
    c.remove.new.self c.put.new.self c.put-2.new.self doc c.count-fields.ensures.rises e
    c.in_ok-document.ensures c.remove.ensures.rest source version
