use Rattle.std.proofs.Common.{◌≡◌, ◌+◌, ◌<◌, ◌≤◌, ◌++◌, ◌∷◌, [], List, length, arith, sym, ap, subst, ◌∙◌, length-append}
use Rattle.topic_book.specs.declared.topic.BookEntry.{BookEntry}
use Rattle.topic_book.specs.declared.topics.Topic.{Topic}
use Rattle.topic_book.specs.Books.{Book, topics_in}
use Rattle.topic_book.specs.Fitness.{MayFollow, IsOrdered}
use Rattle.topic_book.specs.Raises.{topics_with}
use Rattle.topic_book.specs.States.{Kept, HasRoom}
use Rattle.topic_book.specs.Topics.{AreTopics, kept_in}
use Rattle.topic_book.proofs.BookLemmas.{ordered-push}
use Rattle.topic_book.proofs.StateLemmas.{topics-follow, topics-counted, room-some}
use Rattle.topic_book.proofs.book.BookState.append.Goals as goal

pub note-requires : goal.note-requires
note-requires c =
    omega (arith, room-some c.args.self.now c.args.entry c.requires.room, ap (λ (k : Kept). k.room) c.self.view_is, c.self.invariant.room_topics)

pub overflow_sub-self : goal.overflow_sub-self
overflow_sub-self c = omega (arith, room-some c.args.self.now c.args.entry c.requires.room, ap (λ (k : Kept). k.room) c.self.view_is)

pub push_reserved-requires : goal.push_reserved-requires
push_reserved-requires c =
    omega (arith, room-some c.args.self.now c.args.entry c.requires.room, ap (λ (k : Kept). k.room) c.self.view_is, c.self.invariant.room_entries)

pub invariant_of-self : goal.invariant_of-self
invariant_of-self c =
    let book : Book = c.self.inside.entries.items in
    let ts : List Topic = c.self.inside.topics.items in
    let e : BookEntry = c.args.entry in
    let items : c.push_reserved.new.self.items ≡ book ++ e ∷ [] = c.push_reserved.ensures.items in
    let room : HasRoom (kept_in c.self.inside) e = subst (λ k. HasRoom k e) (sym c.self.view_is) c.requires.room in
    let follows : MayFollow book e = subst (λ (k : Kept). MayFollow k.entries e) (sym c.self.view_is) c.requires.follows in
    let new : c.note.new.topics.items ≡ topics_with ts c.self.inside.ready e =
    c.note.ensures.items ∙ ap (λ r. topics_with ts r e) c.take-ready.ensures.value in
    let some : 0 < c.self.inside.room = room-some (kept_in c.self.inside) e room in
    let longer : length c.push_reserved.new.self.items ≡ length book + 1 = ap length items ∙ length-append book (e ∷ []) in
    record {
      ordered = subst (IsOrdered []) (sym items) (ordered-push [] book e c.self.invariant.ordered follows);
      topics = subst (AreTopics c.note.new.topics.items) (sym items)
          (topics-follow ts book (kept_in c.self.inside) e c.note.new.topics.items c.self.invariant.topics c.self.invariant.ordered room follows new);
      counted = topics-counted ts book (kept_in c.self.inside) e c.note.new.topics.items c.self.invariant.counted room new
          ∙ ap topics_in (sym items);
      small = omega (arith, longer, c.self.invariant.small, some);
      room_entries = omega (arith, c.self.invariant.room_entries, some);
      room_topics = omega (arith, c.self.invariant.room_topics, some);
    }
