use Rattle.std.proofs.Common.{◌∙◌}
use Rattle.json_text.proofs.MembersLemmas.{is_some-lookup}
use Rattle.json_text.proofs.members.has.Goals as goal

pub returns : goal.returns
returns c = c.contains_key.ensures ∙ is_some-lookup c.args.name.now c.args.members.now.entries
