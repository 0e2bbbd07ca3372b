use Rattle.running_site.specs.Sites.{IsPassAt}
use Rattle.site_cases.proofs.case.fill.Given as goal

-- the pass is the site's
abbrev pub invariant-loop-count : goal.invariant-loop-count
invariant-loop-count g l = IsPassAt l.fixture.site l.fixture.pass
