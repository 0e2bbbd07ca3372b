use Rattle.std.proofs.Common.{◌≡◌, ◌<◌, ◌∙◌, ap, arith}
use Rattle.topic_book.specs.declared.topic.TopicKey.{TopicKey}
use Rattle.topic_book.specs.Books.{binding_of}
use Rattle.topic_book.specs.Raises.{binding_in}
use Rattle.topic_book.specs.States.{Kept}
use Rattle.topic_book.proofs.StateLemmas.{bound-same, room-ready}
use Rattle.topic_book.proofs.book.BookState.reserve.Goals as goal

pub returns-clause-room : goal.returns-clause-room
returns-clause-room c = λ follows.
    room-ready (λ key. binding_in key c.deref.result.now) c.args.self.now.entries c.args.entry.now _
    (λ key. ap (binding_in key) c.deref.ensures.value
    ∙ (bound-same c.self.inside.topics.items c.self.inside.entries.items c.self.invariant.topics key
    ∙ ap (λ (k : Kept). binding_of key k.entries) c.self.view_is))
    c.in_ok-ready.ensures.ready (omega arith) follows
