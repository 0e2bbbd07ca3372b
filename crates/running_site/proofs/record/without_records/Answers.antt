use Rattle.std.proofs.Common.{◌∙◌}
use Rattle.running_site.proofs.RecordLemmas.{passes-push}
use Rattle.running_site.proofs.record.without_records.Goals as goal

pub loop-one-preserved : goal.loop-one-preserved
loop-one-preserved g c =
    c.in_ok-keep.ensures
    ∙ passes-push c.loop-one.made c.loop-one.yielded c.in-Some.one c.loop-one.invariant
