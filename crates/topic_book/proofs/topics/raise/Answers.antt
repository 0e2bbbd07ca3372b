use Rattle.std.proofs.Common.{◌≡◌, ◌<◌, ◌≤◌, length, arith, ◌∙◌, ap, List}
use Rattle.topic_book.specs.declared.topics.Topic.{Topic}
use Rattle.topic_book.specs.Raises.{raised, place_of}
use Rattle.topic_book.proofs.RaiseLemmas.{raise-there, raised_in-none}
use Rattle.topic_book.proofs.topics.raise.Goals as goal

pub returns-then-place-len-clause-items : goal.returns-then-place-len-clause-items
returns-then-place-len-clause-items c =
    let ts : List Topic = c.args.topics.now.items in
    let at : c.place_of-place.result ≡ place_of c.args.key.now ts =
    c.place_of-place.ensures ∙ ap (place_of c.args.key.now) c.deref.ensures.value in
    let lt : c.place_of-place.result < length ts = omega (arith, c.args.topics.now.ok.0) in
    let up = c.raised.ensures ∙ (ap (λ n. raised n c.as_slice.result.now) c.replace-numbers.ensures.value
    ∙ ap (raised c.index_mut-topic.result.now.upto) c.as_slice.ensures) in
    raise-there c.args.key.now c.args.upto.now c.raised.result ts c.place_of-place.result c.index_mut-topic.result.now at lt c.index_mut-topic.ensures.value up

pub returns-else-place-len-clause-items : goal.returns-else-place-len-clause-items
returns-else-place-len-clause-items c =
    let ts : List Topic = c.args.topics.now.items in
    let at : c.place_of-place.result ≡ place_of c.args.key.now ts =
    c.place_of-place.ensures ∙ ap (place_of c.args.key.now) c.deref.ensures.value in
    raised_in-none c.args.key.now c.args.upto.now ts (omega (arith, at, c.args.topics.now.ok.0))
