use Rattle.std.proofs.Common.{ap, sym, ◌∙◌}
use Rattle.std.specs.Prelude.{None, Some, option_map}
use Rattle.tuple_values.specs.Views.{datum_of}
use Rattle.update_sink.proofs.PutLemmas.{has_id_by, id_made, id_none}
use Rattle.update_sink.proofs.put.has_id.Goals as goal

pub returns-in_default : goal.returns-in_default
returns-in_default c =
    has_id_by c.args.tuple.now None (id_none c.args.tuple.now c.in_default.ensures)

pub returns-in-Some-2 : goal.returns-in-Some-2
returns-in-Some-2 c =
    c.is_filled.ensures
    ∙ has_id_by c.args.tuple.now (Some (datum_of c.in-Some-2.id))
    (id_made c.args.tuple.now (datum_of c.in-Some.id.now) (datum_of c.in_ok-copy.field-0)
    (Some (datum_of c.in-Some-2.id)) c.in-Some.ensures (ap datum_of c.in_ok-copy.ensures)
    (sym (ap (option_map datum_of) c.in-Some-2.is) ∙ c.in_ok-id.ensures))

pub returns-in-None : goal.returns-in-None
returns-in-None c =
    has_id_by c.args.tuple.now None
    (id_made c.args.tuple.now (datum_of c.in-Some.id.now) (datum_of c.in_ok-copy.field-0)
    None c.in-Some.ensures (ap datum_of c.in_ok-copy.ensures)
    (sym (ap (option_map datum_of) c.in-None.is) ∙ c.in_ok-id.ensures))
