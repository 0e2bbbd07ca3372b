use Rattle.std.proofs.lemmas.Result.{IfOk-equal}
use Rattle.serde_json.proofs.FreeTexts.{text_of_str}
use Rattle.json_text.proofs.pieces.push_escaped.Goals as goal

pub returns : goal.returns
returns c =
    let events = c.in-Ok.ensures.events in
    let written = text_of_str c.args.text.now _ _ events.1 events.2 in
    IfOk-equal _ _ _ _ c.extend.ensures.ok (rw (c.deref.ensures.value, written))
