use Rattle.std.proofs.Common.{sym}
use Rattle.json.specs.Reads.{token_of}
use Rattle.tuple_values.specs.Views.{datum_of}
use Rattle.json_text.proofs.FlatLemmas.{token_read}
use Rattle.json_text.proofs.flat.read_value.Goals as goal

pub returns-in-Some-2 : goal.returns-in-Some-2
returns-in-Some-2 c =
    token_read c.coerce.result c.args.name.now (token_of c.in-Some.token)
    (datum_of c.in-Some-2.value) c.args.reader.now _ c.in-Some.ensures.value
    (sym c.if-is_reserved.ensures) (rw c.in-Some-2.is at c.in_ok-value.ensures) c.coerce.ensures
