use Rattle.std.proofs.Common.{◌∙◌, ap}
use Rattle.json.specs.Lex.{tokens}
use Rattle.json_text.proofs.FlatLemmas.{read_update}
use Rattle.json_text.proofs.flat.read_flat.Goals as goal

pub returns : goal.returns
returns c =
    read_update c.read_list.result c.args.bytes.now _ c.in-Ok.ensures.cases.1
    (c.in_ok-reader.ensures.ok ∙ ap tokens c.in-Ok.ensures.cases.0) c.read_list.ensures
