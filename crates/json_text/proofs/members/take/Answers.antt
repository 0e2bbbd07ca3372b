use Rattle.std.proofs.Common.{◌∙◌, ap, option_map}
use Rattle.serde_json.specs.View.{view}
use Rattle.serde_json.proofs.Views.{view-lookup}
use Rattle.json_text.proofs.MembersLemmas.{get_member-remove_entry}
use Rattle.json_text.proofs.members.take.Goals as goal

pub returns-clause-value : goal.returns-clause-value
returns-clause-value c =
    ap (option_map view) c.remove.ensures.value
    ∙ view-lookup c.args.name.now c.args.members.now.entries

pub returns-clause-others : goal.returns-clause-others
returns-clause-others c = λ other differ.
    rw c.remove.ensures.entries
    (get_member-remove_entry c.args.name.now other c.args.members.now.entries differ)
