use Rattle.std.proofs.Common.{◌≡◌, drop}
use Rattle.topic_book.specs.Books.{binding_of}
use Rattle.once_core.proofs.bind.binding_of.Given as goal

-- the binding is to come
abbrev pub invariant-loop-entry : goal.invariant-loop-entry
invariant-loop-entry l = binding_of l.key l.book ≡ binding_of l.key (drop l.entry-index l.book)
