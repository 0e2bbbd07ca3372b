use Rattle.std.proofs.Common.{◌≡◌}
use Rattle.std.specs.List.{list_all}
use Rattle.serde_json.specs.View.{members_view}
use Rattle.json_text.specs.Documents.{member_list}
use Rattle.json_text.specs.Writes.{is_add_key}
use Rattle.json_text.proofs.members.are_add_keys.Given as goal

-- the members that are left decide
abbrev pub invariant-loop-name : goal.invariant-loop-name
invariant-loop-name l =
    list_all (λ m. is_add_key m.0) (member_list (members_view l.name-iterator))
    ≡ list_all (λ m. is_add_key m.0) (member_list (members_view l.members.entries))
