use Rattle.std.proofs.Common.{◌≡◌, ◌∙◌, ap, sym, subst}
use Rattle.topic_book.specs.Books.{raises, binding_of}
use Rattle.topic_book.specs.Fitness.{IsOfTopic}
use Rattle.topic_book.specs.Raises.{exceeds, topic_of}
use Rattle.topic_book.specs.States.{Kept}
use Rattle.topic_book.proofs.StateLemmas.{raises-right}
use Rattle.topic_book.proofs.book.BookState.is_raised.Goals as goal

pub returns-in-Some : goal.returns-in-Some
returns-in-Some c =
    let there = c.in-Some.ensures ∙ ap (topic_of c.args.key.now) c.deref.ensures.value in
    let of = subst (λ (k : Kept). IsOfTopic (binding_of c.args.key.now k.entries) c.args.upto.now) (sym c.self.view_is) c.requires in
    let right = raises-right c.self.inside.topics.items c.self.inside.entries.items c.args.key.now c.in-Some.topic.now c.args.upto.now c.self.invariant.topics there of in
    c.exceeds.ensures
    ∙ (ap (λ n. exceeds n c.as_slice-in-Some.result.now) c.as_slice.ensures
    ∙ (ap (exceeds c.in-Some.topic.now.upto) c.as_slice-in-Some.ensures
    ∙ (right ∙ ap (λ (k : Kept). raises c.args.key.now k.entries c.args.upto.now) c.self.view_is)))
