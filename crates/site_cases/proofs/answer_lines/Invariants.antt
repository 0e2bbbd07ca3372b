use Rattle.running_site.specs.Sites.{IsPassAt}
use Rattle.site_cases.proofs.answer_lines.Given as goal

-- the pass is the site's
abbrev pub invariant-loop-line : goal.invariant-loop-line
invariant-loop-line g l = IsPassAt l.fixture.site l.fixture.pass
