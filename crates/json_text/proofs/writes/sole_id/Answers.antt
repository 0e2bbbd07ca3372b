use Rattle.std.proofs.Common.{sym, ◌∙◌}
use Rattle.json_text.proofs.MembersLemmas.{one_member, not_one_member, option_map-listed}
use Rattle.json_text.proofs.writes.sole_id.Goals as goal

pub returns-then-len-eq1 : goal.returns-then-len-eq1
returns-then-len-eq1 c =
    rw (one_member c.args.members.entries (sym c.len.ensures.len ∙ c.if-len-eq1.true))
    (option_map-listed c.take.result _ c.take.ensures.value)

pub returns : goal.returns
returns c =
    rw (not_one_member c.args.members.entries
    (λ one. c.if-len-eq1.false (c.len.ensures.len ∙ one)))
