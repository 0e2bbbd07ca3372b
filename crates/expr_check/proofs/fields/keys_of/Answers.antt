use Rattle.std.proofs.Common.{◌<◌, ◌++◌, ◌∷◌, [], ◌∙◌, ap, sym, take, length, arith}
use Rattle.std.proofs.lemmas.List.{map_more}
use Rattle.std.specs.Prelude.{pos}
use Rattle.tuple_values.specs.Document.{ByteList, Datum, long}
use Rattle.expr_check.specs.Fields.{keys_of}
use Rattle.expr_check.proofs.fields.keys_of.Goals as goal

pub loop-k-preserved : goal.loop-k-preserved
loop-k-preserved c =
    let tuple = c.args.tuple.now in
    let lt : c.loop-k.k < length tuple = omega arith in
    let other : ByteList × Datum = (c.name.result.now, long (pos 0)) in
    c.in_ok-push.ensures.ok
    ∙ ap (λ l. l ++ c.in_ok-name.name ∷ []) c.loop-k.invariant
    ∙ ap (λ (n : ByteList). keys_of (take c.loop-k.k tuple) ++ n ∷ [])
    (c.in_ok-name.ensures ∙ c.name.ensures other)
    ∙ sym (map_more (λ (f : ByteList × Datum). f.0) tuple c.loop-k.k other lt)
