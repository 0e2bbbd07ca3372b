use Rattle.std.proofs.Common.{◌≡◌, drop}
use Rattle.expr_plan.specs.Words.{word_under}
use Rattle.expr_plan.proofs.words.word_under.Given as goal

-- the word is among the arguments to come
abbrev pub invariant-loop-k : goal.invariant-loop-k
invariant-loop-k l = word_under l.key l.args ≡ word_under l.key (drop l.k l.args)
