use Rattle.std.proofs.Common.{rules, ◌==◌, not}
use Rattle.std.proofs.lemmas.Fn.{filter_same}
use Rattle.once_core.specs.declared.world.Known.{Known}
use Rattle.once_core.proofs.turn.forget_actor.Goals as goal

pub returns : goal.returns
returns c = filter_same _ (λ (k : Known). not (k.actor == c.args.actor)) _ (λ x b f' k. search rules) _ _ c.retain.ensures.filtered
