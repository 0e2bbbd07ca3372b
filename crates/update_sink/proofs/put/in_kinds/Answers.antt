use Rattle.std.proofs.Common.{◌<◌, ◌+◌, [], length, get_or, ap, sym, subst, ◌∙◌, arith}
use Rattle.std.specs.Prelude.{None, Some, option_map}
use Rattle.std.proofs.lemmas.List.{at_drop_more}
use Rattle.tuple_values.specs.Document.{ByteList, Datum, text, put}
use Rattle.tuple_values.specs.Views.{datum_of}
use Rattle.update_sink.proofs.PutLemmas.{IsMade, bad_told, kind_by, made_bad, made_less, made_more, reserved_by}
use Rattle.update_sink.proofs.put.in_kinds.Goals as goal

pub loop-k-preserved-then-is_reserved : goal.loop-k-preserved-then-is_reserved
loop-k-preserved-then-is_reserved c =
    let tuple = c.args.tuple.now in
    let k = c.loop-k.k in
    let lt : k < length tuple = omega arith in
    let d : ByteList × Datum = ([], text []) in
    let f = get_or tuple k d in
    made_less tuple c.loop-k.made k f.0 f.1 (at_drop_more (λ rest. rest) tuple k d lt)
    c.loop-k.invariant
    (reserved_by c.as_str.result.now c.name-name.result.now f.0 c.is_reserved.result _
    c.is_reserved.ensures c.as_str.ensures (c.name-name.ensures d) c.if-is_reserved.true)

pub returns-in-None : goal.returns-in-None
returns-in-None c =
    let tuple = c.args.tuple.now in
    let k = c.loop-k.k in
    let lt : k < length tuple = omega arith in
    let d : ByteList × Datum = ([], text []) in
    let f = get_or tuple k d in
    bad_told _ c.in_ok-copy-in-None.field-0 f.0
    (c.in_ok-copy-in-None.ensures ∙ c.name-name.ensures d)
    (made_bad tuple c.loop-k.made k f.0 f.1 (at_drop_more (λ rest. rest) tuple k d lt)
    c.loop-k.invariant
    (reserved_by c.as_str.result.now c.name-name.result.now f.0 c.is_reserved.result _
    c.is_reserved.ensures c.as_str.ensures (c.name-name.ensures d) c.if-is_reserved.false)
    (kind_by c.as_str-in-loop-k.result.now c.name-name.result.now f.0
    (datum_of c.in_ok-copy.field-0) (datum_of c.value.result.now) f.1
    (option_map datum_of c.in_ok-value.field-0) None c.in_ok-value.ensures
    c.as_str-in-loop-k.ensures (c.name-name.ensures d) (ap datum_of c.in_ok-copy.ensures)
    (c.value.ensures.value d) (ap (option_map datum_of) c.in-None.is)))

pub loop-k-preserved : goal.loop-k-preserved
loop-k-preserved c =
    let tuple = c.args.tuple.now in
    let k = c.loop-k.k in
    let lt : k < length tuple = omega arith in
    let d : ByteList × Datum = ([], text []) in
    let f = get_or tuple k d in
    let new = datum_of c.in-Some.value in
    subst (λ made. IsMade tuple made (k + 1))
    (sym (c.in_ok-put_like-in-Some.ensures.ok
    ∙ ap (λ n. put n new c.loop-k.made) (c.as_str-in-Some.ensures ∙ c.name-name.ensures d)))
    (made_more tuple c.loop-k.made k f.0 f.1 (at_drop_more (λ rest. rest) tuple k d lt)
    c.loop-k.invariant new
    (reserved_by c.as_str.result.now c.name-name.result.now f.0 c.is_reserved.result _
    c.is_reserved.ensures c.as_str.ensures (c.name-name.ensures d) c.if-is_reserved.false)
    (kind_by c.as_str-in-loop-k.result.now c.name-name.result.now f.0
    (datum_of c.in_ok-copy.field-0) (datum_of c.value.result.now) f.1
    (option_map datum_of c.in_ok-value.field-0) (Some new) c.in_ok-value.ensures
    c.as_str-in-loop-k.ensures (c.name-name.ensures d) (ap datum_of c.in_ok-copy.ensures)
    (c.value.ensures.value d) (ap (option_map datum_of) c.in-Some.is)))
