use Rattle.std.proofs.Common.{sym, ◌∙◌}
use Rattle.merge_join.proofs.RunLemmas.{past_right, whole_at}
use Rattle.merge_join.proofs.join.gather.Goals as goal

pub returns-in-Less-clause-whole : goal.returns-in-Less-clause-whole
returns-in-Less-clause-whole c = λ _ lefts rights over midway.
    whole_at c.args.terms.now c.args.left.now.held c.args.place c.in-Some.tuple lefts
    c.args.run.now.items c.args.right.now.held c.in-Some-take.first rights c.in-Some.is
    (sym c.in-Some-take.ensures.value) (sym c.compare_by.ensures ∙ c.in-Less.is) midway

pub returns-in-Greater-clause-out : goal.returns-in-Greater-clause-out
returns-in-Greater-clause-out c = λ outer lefts rights midway.
    past_right outer c.args.terms.now c.args.place c.args.left.now.held c.in-Some.tuple lefts
    c.args.run.now.items c.args.right.now.held c.take.new.self c.in-Some-take.first rights
    c.in-Some.is (sym c.in-Some-take.ensures.value) c.take.ensures.after
    (sym c.compare_by.ensures ∙ c.in-Greater.is) midway
