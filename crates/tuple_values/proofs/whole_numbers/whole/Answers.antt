use Rattle.std.proofs.Common.{◌≡◌, false, Some, eqb, ◌∙◌}
use Rattle.std.specs.Option.{option_eq}
use Rattle.std.specs.List.{slice_get}
use Rattle.tuple_values.proofs.WholeLemmas.{whole_is, no_plus}
use Rattle.tuple_values.proofs.whole_numbers.whole.Goals as goal

pub returns : goal.returns
returns c =
    let first : c.copied.result ≡ slice_get c.args.s.now 0 = cc in
    let plain : false ≡ option_eq eqb (slice_get c.args.s.now 0) (Some 43) = rw first at c.if-eq.ensures in
    c.ok.ensures.value ∙ whole_is c.args.s.now c.parse.result c.parse.ensures.value.0 (no_plus c.args.s.now plain)
