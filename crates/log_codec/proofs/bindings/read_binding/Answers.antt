use Rattle.log_codec.proofs.BindingLemmas.{binding-no_tail, binding-no_texts}
use Rattle.log_codec.proofs.bindings.read_binding.Goals as goal

pub returns-in-None-2-clause-none : goal.returns-in-None-2-clause-none
returns-in-None-2-clause-none c =
    let none = rw c.in-None-2.is at c.in_ok-binding-in-Some.ensures.none in
    binding-no_tail _ _ _ c.in-Some.ensures.some none

pub returns-in-None-clause-none : goal.returns-in-None-clause-none
returns-in-None-clause-none c = binding-no_texts _ c.in-None.ensures.none
