use Rattle.std.proofs.Common.{◌≡◌, List, drop, ap, arith}
use Rattle.std.proofs.lemmas.List.{drop_all}
use Rattle.tuple_values.specs.Sizes.{doc_bytes}
use Rattle.tuple_values.specs.Views.{doc_of}
use Rattle.tuple_values.specs.declared.value.Field.{Field}
use Rattle.tuple_values.proofs.sizes.size_of_fields.Goals as goal

pub returns : goal.returns
returns c =
    let i = c.loop-field.invariant in
    let ended : doc_bytes (doc_of (drop c.loop-field.field-index c.args.fields.now)) ≡ 0 =
    ap (λ (fs : List Field). doc_bytes (doc_of fs)) (drop_all c.loop-field.field-index c.args.fields.now c.loop-field-test.false) in
    omega (arith, i.fits, i.counted, ended)
