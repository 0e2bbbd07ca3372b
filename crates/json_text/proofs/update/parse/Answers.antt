use Rattle.std.proofs.lemmas.Bool.{false≢true}
use Rattle.json_text.proofs.UpdatesLemmas.{json_in-text, json_in-none}
use Rattle.json_text.proofs.update.parse.Goals as goal

pub returns-in-Ok-clause-ok : goal.returns-in-Ok-clause-ok
returns-in-Ok-clause-ok c = json_in-text _ _ c.in-Ok.ensures.ok.0 c.in-Ok.ensures.ok.1

pub returns-else-is_memory-clause-not_json : goal.returns-else-is_memory-clause-not_json
returns-else-is_memory-clause-not_json c =
    λ _. json_in-none _ (c.in-Err.ensures.err (λ is. false≢true (c.if-is_memory.ensures.1 is)))
