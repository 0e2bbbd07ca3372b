use Rattle.std.proofs.Common.{◌∙◌, ◌<◌, length, arith}
use Rattle.tuple_values.specs.Document.{ByteList, Datum}
use Rattle.tuple_values.specs.Views.{datum_of}
use Rattle.shard_versions.specs.Documents.{IsCarried}
use Rattle.once_core.proofs.StepLemmas.{each-fails, each-goes}
use Rattle.once_core.proofs.DispatchLemmas.{pair-at}
use Rattle.law_checks.proofs.origin.are_carried.Goals as goal

pub returns-then-not-is_carried : goal.returns-then-not-is_carried
returns-then-not-is_carried c =
    let doc = c.args.delivered.now in
    let name : ByteList = c.as_str.result.now in
    let value : Datum = datum_of c.value.result.now in
    let inside : c.loop-k.k < length doc = omega (arith, c.count-k-end.ensures.count) in
    each-fails (IsCarried c.args.source.now) doc c.loop-k.k (name, value) c.is_carried.result inside
    (pair-at doc c.loop-k.k name value (λ d. c.as_str.ensures ∙ c.name.ensures d) (λ d. c.value.ensures.value d))
    c.is_carried.ensures c.if-not-is_carried.true

pub loop-k-preserved : goal.loop-k-preserved
loop-k-preserved c =
    let doc = c.args.delivered.now in
    let name : ByteList = c.as_str.result.now in
    let value : Datum = datum_of c.value.result.now in
    let inside : c.loop-k.k < length doc = omega (arith, c.count-k-end.ensures.count) in
    each-goes (IsCarried c.args.source.now) doc c.loop-k.k (name, value) c.is_carried.result inside
    (pair-at doc c.loop-k.k name value (λ d. c.as_str.ensures ∙ c.name.ensures d) (λ d. c.value.ensures.value d))
    c.is_carried.ensures c.if-not-is_carried.false c.loop-k.invariant
