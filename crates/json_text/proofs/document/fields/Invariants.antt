use Rattle.std.proofs.Common.{◌≡◌, find, filter_map}
use Rattle.serde_json.specs.View.{members_view}
use Rattle.tuple_values.specs.Document.{over}
use Rattle.json_text.specs.Documents.{member_list, is_unfit, field_of, fields_in}
use Rattle.json_text.proofs.document.fields.Given as goal

-- the members that are left have the first unfit one, and complete the document
abbrev pub invariant-loop-name : goal.invariant-loop-name
invariant-loop-name l = record {
  unfit : find is_unfit (member_list (members_view l.name-iterator))
      ≡ find is_unfit (member_list (members_view l.fn.members.entries));
  whole : over l.doc (filter_map field_of (member_list (members_view l.name-iterator)))
      ≡ fields_in (member_list (members_view l.fn.members.entries));
}
