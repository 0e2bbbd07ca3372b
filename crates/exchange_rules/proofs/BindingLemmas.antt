-- What is done at the book by what a look showed of it.
use Rattle.std.proofs.Common.{◌≡◌, ℕ, zero, suc, ◌+◌, ◌<◌, ◌≤◌, max, Bool, true, false, List, [], ◌∷◌, ◌++◌, length, refl, sym, ap, ◌∙◌, subst, arith, if◌then◌else◌}
use Rattle.std.specs.Prelude.{nat_lt, unwrap_or, Option, Some, None, option_map, Result, Ok, Err}
use Rattle.tuple_values.specs.declared.names.NameShards.{NameShards}
use Rattle.topic_book.specs.Alike.{is_alike}
use Rattle.topic_book.specs.Books.{Book, binding_of, checkpoint, checkpoints, checkpoints_at, raises, same_key, topics_in, values_from}
use Rattle.topic_book.specs.declared.topic.TopicKey.{TopicKey}
use Rattle.topic_book.specs.declared.topic.Binding.{Binding}
use Rattle.topic_book.specs.declared.topic.BookEntry.TheVariants.{Bind, Store}
use Rattle.topic_book.proofs.BookLemmas.{checkpoint-append}
use Rattle.exchange_rules.specs.Bindings.{book_cell, checkpoint_in, bound_checkpoint, bind_new, bind_again, bind_seen, store_seen}
use Rattle.exchange_rules.specs.Calls.{HasAppended}
use Rattle.exchange_rules.specs.Cells.{bind, store}
use Rattle.exchange_rules.specs.Courses.{Course, ends, makes}
use Rattle.exchange_rules.specs.Following.{Writer}
use Rattle.exchange_rules.specs.Primitives.{made}
use Rattle.exchange_rules.specs.declared.fault.SiteFault.{SiteFault}
use Rattle.exchange_rules.specs.declared.fault.SiteFault.TheVariants.{TopicBound, BookFull}
use Rattle.exchange_rules.proofs.PrimitiveLemmas.{entry_from}
use Rattle.exchange_rules.proofs.AppendedLemmas.{appended_none, appended_same}

-- values of functions that agree
values-same : (f g : ℕ → ℕ) (first count : ℕ) → ((s : ℕ) → f s ≡ g s)
    → values_from f first count ≡ values_from g first count
values-same f g first zero e = refl
values-same f g first (suc count) e =
    ap (λ x. x ∷ values_from f (first + 1) count) (e first)
    ∙ ap (λ x. g first ∷ x) (values-same f g (first + 1) count e)

-- a topic's checkpoint, whoever binds a topic at the end
checkpoint-by : (me you : ℕ) (key other : TopicKey) (b : Binding) (book : Book) (s : ℕ)
    → checkpoint key (book ++ Bind me other b ∷ []) s
    ≡ checkpoint key (book ++ Bind you other b ∷ []) s
unfolding checkpoint
checkpoint-by me you key other b book s =
    checkpoint-append key book (Bind me other b ∷ []) s
    ∙ sym (checkpoint-append key book (Bind you other b ∷ []) s)

-- what it is bound to
binding-by : (me you : ℕ) (key other : TopicKey) (b : Binding) (book : Book)
    → binding_of key (book ++ Bind me other b ∷ []) ≡ binding_of key (book ++ Bind you other b ∷ [])
unfolding binding_of
binding-by me you key other b [] = refl
binding-by me you key other b (Bind by k c ∷ book) =
    ap (λ x. if same_key key k then Some c else x) (binding-by me you key other b book)
binding-by me you key other b (Store by k u ∷ book) = binding-by me you key other b book

-- the checkpoint after a Bind, whoever makes it
pub bound_by : (me : ℕ) (key : TopicKey) (b : Binding) (book : Book)
    → checkpoint_in key (book ++ Bind me key b ∷ []) ≡ bound_checkpoint key book b
unfolding checkpoints checkpoints_at
bound_by me key b book =
    let mine = book ++ Bind me key b ∷ [] in
    let other = book ++ Bind 0 key b ∷ [] in
    let same = λ (c : Binding). values-same (checkpoint key mine) (checkpoint key other) 0
    (length c.init) (checkpoint-by me 0 key key b book) in
    ap (λ o. unwrap_or (option_map (checkpoints_at key mine) o) []) (binding-by me 0 key key b book)
    ∙ at_either (binding_of key other) same
  where
    at_either : (o : Option Binding)
        → ((c : Binding) → checkpoints_at key (book ++ Bind me key b ∷ []) c
        ≡ checkpoints_at key (book ++ Bind 0 key b ∷ []) c)
        → unwrap_or (option_map (checkpoints_at key (book ++ Bind me key b ∷ [])) o) []
        ≡ unwrap_or (option_map (checkpoints_at key (book ++ Bind 0 key b ∷ [])) o) []
    at_either None same = refl
    at_either (Some c) same = same c

-- a topic that wasn't bound is bound
pub bind_appended : (old new : Writer) (names : List NameShards) (key : TopicKey) (b : Binding)
    (book : Book) → binding_of key book ≡ None → topics_in book < 1000
    → book_cell names < length old.seen → new ≡ made old (book_cell names) (bind key b ∷ [])
    → HasAppended old new (bind_seen names key b book (binding_of key book))
    (ends (Ok (bound_checkpoint key book b))) 0
bind_appended old new names key b book none few lt e =
    let answer : Course (Result (List ℕ) SiteFault) = ends (Ok (bound_checkpoint key book b)) in
    let course : bind_seen names key b book (binding_of key book)
    ≡ makes (book_cell names) (bind key b ∷ []) answer =
    ap (bind_seen names key b book) none
    ∙ ap (λ t. if t then makes (book_cell names) (bind key b ∷ []) answer
    else ends (Err (BookFull (topics_in book)))) (few_is (topics_in book) few) in
    subst (λ p. HasAppended old new p answer 0) (sym course)
    (entry_from old new (book_cell names) (bind key b) answer lt refl e)
  where
    few_is : (n : ℕ) → n < 1000 → nat_lt n 1000 ≡ true
    few_is n lt = grind arith

-- or isn't, since there are too many
pub bind_full : (w new : Writer) (names : List NameShards) (key : TopicKey) (b : Binding)
    (book : Book) → binding_of key book ≡ None → 1000 ≤ topics_in book → new ≡ w
    → HasAppended w new (bind_seen names key b book (binding_of key book))
    (ends (Err (BookFull (topics_in book)))) 0
bind_full w new names key b book none many e =
    let answer : Course (Result (List ℕ) SiteFault) = ends (Err (BookFull (topics_in book))) in
    let course : bind_seen names key b book (binding_of key book) ≡ answer =
    ap (bind_seen names key b book) none
    ∙ ap (λ t. if t then makes (book_cell names) (bind key b ∷ [])
    (ends (Ok (bound_checkpoint key book b))) else answer) (many_is (topics_in book) many) in
    subst (λ p. HasAppended w new p answer 0) (sym course) (appended_same w new answer e)
  where
    many_is : (n : ℕ) → 1000 ≤ n → nat_lt n 1000 ≡ false
    many_is n le = grind arith

-- a topic that is bound is bound alike
pub bind_alike : (w : Writer) (names : List NameShards) (key : TopicKey) (b kept : Binding)
    (book : Book) → binding_of key book ≡ Some kept → is_alike kept b ≡ true
    → HasAppended w w (bind_seen names key b book (binding_of key book))
    (ends (Ok (checkpoint_in key book))) 0
bind_alike w names key b kept book is same =
    let answer : Course (Result (List ℕ) SiteFault) = ends (Ok (checkpoint_in key book)) in
    let course : bind_seen names key b book (binding_of key book) ≡ answer =
    ap (bind_seen names key b book) is
    ∙ ap (λ t. if t then answer else ends (Err (TopicBound kept))) same in
    subst (λ p. HasAppended w w p answer 0) (sym course) (appended_none w answer)

-- or stays bound to other values
pub bind_taken : (w : Writer) (names : List NameShards) (key : TopicKey) (b kept : Binding)
    (book : Book) → binding_of key book ≡ Some kept → is_alike kept b ≡ false
    → HasAppended w w (bind_seen names key b book (binding_of key book))
    (ends (Err (TopicBound kept))) 0
bind_taken w names key b kept book is differs =
    let answer : Course (Result (List ℕ) SiteFault) = ends (Err (TopicBound kept)) in
    let course : bind_seen names key b book (binding_of key book) ≡ answer =
    ap (bind_seen names key b book) is
    ∙ ap (λ t. if t then ends (Ok (checkpoint_in key book)) else answer) differs in
    subst (λ p. HasAppended w w p answer 0) (sym course) (appended_none w answer)

-- a checkpoint that raises something is stored
pub store_appended : (old new : Writer) (names : List NameShards) (key : TopicKey) (upto : List ℕ)
    (book : Book) → raises key book upto ≡ true → book_cell names < length old.seen
    → new ≡ made old (book_cell names) (store key upto ∷ [])
    → HasAppended old new (store_seen {E = SiteFault} names key upto book) (ends (Ok tt)) 0
store_appended old new names key upto book up lt e =
    let stored : Course (Result (Unit {0}) SiteFault) = ends (Ok tt) in
    let course : store_seen names key upto book
    ≡ makes (book_cell names) (store key upto ∷ []) stored =
    ap (λ t. if t then makes (book_cell names) (store key upto ∷ []) stored else stored) up in
    subst (λ p. HasAppended old new p stored 0) (sym course)
    (entry_from old new (book_cell names) (store key upto) stored lt refl e)

-- and one that raises nothing isn't
pub store_nothing : (w : Writer) (names : List NameShards) (key : TopicKey) (upto : List ℕ)
    (book : Book) → raises key book upto ≡ false
    → HasAppended w w (store_seen {E = SiteFault} names key upto book) (ends (Ok tt)) 0
store_nothing w names key upto book up =
    let stored : Course (Result (Unit {0}) SiteFault) = ends (Ok tt) in
    let course : store_seen names key upto book ≡ stored =
    ap (λ t. if t then makes (book_cell names) (store key upto ∷ []) stored else stored) up in
    subst (λ p. HasAppended w w p stored 0) (sym course) (appended_none w stored)
