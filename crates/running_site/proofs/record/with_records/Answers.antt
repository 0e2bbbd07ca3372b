use Rattle.std.proofs.Common.{map, ap, ◌∙◌}
use Rattle.running_site.specs.Records.{content}
use Rattle.running_site.proofs.RecordLemmas.{content-push}
use Rattle.running_site.proofs.record.with_records.Goals as goal

pub loop-pass-preserved : goal.loop-pass-preserved
loop-pass-preserved g c =
    ap (map content) c.in_ok-push.ensures.ok
    ∙ content-push c.loop-pass.made c.loop-pass.yielded c.with_record.result c.in-Some.pass
    c.loop-pass.invariant c.with_record.ensures
