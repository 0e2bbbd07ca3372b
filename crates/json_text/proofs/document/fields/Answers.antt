use Rattle.std.proofs.Common.{◌∙◌, string_bytes}
use Rattle.serde_json.specs.View.{view, members_view}
use Rattle.json_text.specs.Documents.{Member, member_list}
use Rattle.json_text.proofs.DocumentsLemmas.{find-fit, over-fields}
use Rattle.json_text.proofs.document.fields.Goals as goal

pub loop-name-preserved : goal.loop-name-preserved
loop-name-preserved c =
    let split = c.in-Some.ensures.steps in
    let done = c.in_ok-put_member.ensures in
    let first : Member = (string_bytes c.in-Some.name, view c.in-Some.json) in
    let others = member_list (members_view c.next.new.self) in
    record {
      unfit = find-fit first others done.fit ∙ (rw split at c.loop-name.invariant.unfit);
      whole = over-fields c.loop-name.doc _ first others done.ok
          ∙ (rw split at c.loop-name.invariant.whole);
    }
