-- Topics of a site, and what is done at its book.
use Rattle.std.proofs.Common.{◌≡◌, ℕ, ◌<◌, true, false, List, [], ◌∷◌, ◌++◌, length, get_or, refl, sym, ap, ◌∙◌, subst, if◌then◌else◌}
use Rattle.std.proofs.lemmas.List.{get_or-set_same}
use Rattle.std.specs.Prelude.{Option, None, Result, Ok, Err}
use Rattle.query_syntax.specs.Meaning.{IsReadable}
use Rattle.tuple_values.specs.declared.names.NameShards.{NameShards}
use Rattle.topic_book.specs.Alike.{is_alike}
use Rattle.topic_book.specs.Books.{Book, binding_of, checkpoints, raises, topics_in}
use Rattle.topic_book.specs.Fitness.{IsFitEntry, IsOnCollections}
use Rattle.topic_book.specs.States.{IsCauseOf, IsOpen, IsOpenTo}
use Rattle.topic_book.specs.declared.fault.BookFault.{BookFault}
use Rattle.topic_book.specs.declared.fault.BookFault.TheVariants as fault
use Rattle.topic_book.specs.declared.topic.TopicKey.{TopicKey}
use Rattle.topic_book.specs.declared.topic.Binding.{Binding}
use Rattle.topic_book.specs.declared.topic.BookEntry.{BookEntry}
use Rattle.topic_book.specs.declared.topic.BookEntry.TheVariants as book
use Rattle.once_core.specs.Allowed.{MayStore}
use Rattle.exchange_rules.specs.Bindings.{bind_again, bind_new, bind_seen, book_cell, book_seen, bound_checkpoint, checkpoint_in, store_seen, topic_state_course}
use Rattle.exchange_rules.specs.Calls.{Answered, IsStopped, Passed, Refused, HasAppended}
use Rattle.exchange_rules.specs.Cells.{Log, bind, book_in, payload_of, signed, store}
use Rattle.exchange_rules.specs.Courses.{Course, ends, looks}
use Rattle.exchange_rules.specs.Following.{Writer}
use Rattle.exchange_rules.specs.Primitives.{LooksAt, made}
use Rattle.exchange_rules.specs.Rows.{Layout}
use Rattle.exchange_rules.specs.declared.fault.SiteFault.{SiteFault}
use Rattle.exchange_rules.specs.declared.fault.SiteFault.TheVariants.{TopicBound, BookFull}
use Rattle.exchange_rules.specs.declared.log_entry.LogEntry.TheVariants as logged
use Rattle.exchange_rules.proofs.BindingLemmas.{bind_full, bind_appended, bound_by, store_appended}
use Rattle.exchange_rules.proofs.PrimitiveLemmas.{looks_from}
use Rattle.exchange_rules.proofs.AppendedLemmas.{answered_of, appended_none, stopped_at}
use Rattle.exchange_rules.proofs.StepLemmas.{look_begun, look_passed, nothing_done}
use Rattle.site_laws.specs.Duties.{MayAppendEntry}
use Rattle.site_laws.specs.SiteCells.{histories_in}
use Rattle.site_laws.proofs.CellLemmas.{book-append}
use Rattle.site_laws.proofs.DutyLemmas.{store-looked}
use Rattle.stream_site.specs.Topics.{fault_of}
use Rattle.stream_site.proofs.MayLemmas.{cell_after}

-- an entry that may be added to the book is on known collections
pub entry_fit : (names : List NameShards) (seen : List Log) (me : ℕ) (e : BookEntry)
    → MayAppendEntry names me seen e → IsFitEntry names e
entry_fit names seen me (book.Bind by key c) may = may.1.fit
entry_fit names seen me (book.Store by key upto) may = tt

-- why a Bind of a topic that isn't bound was refused
pub bind_new_refused : (w new : Writer) (names : List NameShards) (by : ℕ) (key : TopicKey)
    (b : Binding) (seen : Book) (f : BookFault) → binding_of key seen ≡ None → new ≡ w
    → IsCauseOf seen (book.Bind by key b) f
    → Refused 0 w new (bind_new names key b seen) (fault_of f)
bind_new_refused w new names by key b seen (fault.TopicBound kept) none e cause =
    absurd (let taken = cause.is_kept in cc)
bind_new_refused w new names by key b seen (fault.BookFull topics) none e cause =
    let full = bind_full w new names key b seen none cause.many e in
    let here = subst (λ o. HasAppended w new (bind_seen names key b seen o)
    (ends (Err (BookFull (topics_in seen)))) 0) none full in
    (subst (λ n. HasAppended w new (bind_new names key b seen) (ends (Err (BookFull n))) 0)
    (sym cause.counted) here).reached
bind_new_refused w new names by key b seen fault.OutOfMemory none e cause =
    nothing_done 0 w new (bind_new names key b seen) e

-- a topic that is bound alike is answered with its checkpoint
pub again_alike : (w : Writer) (key : TopicKey) (b kept : Binding) (seen : Book) (upto : List ℕ)
    → is_alike kept b ≡ true → upto ≡ checkpoint_in key seen
    → HasAppended w w (bind_again key b seen kept) (ends (Ok upto)) 0
again_alike w key b kept seen upto same e =
    let answer : Course (Result (List ℕ) SiteFault) = ends (Ok upto) in
    let course : bind_again key b seen kept ≡ answer =
    ap (λ t. if t then ends (Ok (checkpoint_in key seen)) else ends (Err (TopicBound kept))) same
    ∙ ap (λ u. ends (Ok u)) (sym e) in
    subst (λ p. HasAppended w w p answer 0) (sym course) (appended_none w answer)

-- and one that is bound to others with those
pub again_taken : (w : Writer) (key : TopicKey) (b kept told : Binding) (seen : Book)
    → is_alike kept b ≡ false → told ≡ kept
    → Refused 0 w w (bind_again key b seen kept) (TopicBound told)
again_taken w key b kept told seen differs e =
    let answer : Course (Result (List ℕ) SiteFault) = ends (Err (TopicBound told)) in
    let course : bind_again key b seen kept ≡ answer =
    ap (λ t. if t then ends (Ok (checkpoint_in key seen)) else ends (Err (TopicBound kept))) differs
    ∙ ap (λ k. ends (Err (TopicBound k))) (sym e) in
    (subst (λ p. HasAppended w w p answer 0) (sym course) (appended_none w answer)).reached

-- the book after a Bind
book_after : (l : Layout) (w : Writer) (key : TopicKey) (b : Binding)
    → book_cell l.names < length w.seen
    → book_seen l (made w (book_cell l.names) (bind key b ∷ []))
    ≡ book_seen l w ++ book.Bind w.me key b ∷ []
book_after l w key b lt =
    let n = book_cell l.names in
    ap book_in (get_or-set_same w.seen n _ [] lt)
    ∙ book-append (get_or w.seen n []) (signed w.me (bind key b ∷ []))

-- a topic that wasn't bound is bound, and answered with its checkpoint
pub bound_appended : (old new : Writer) (l m : Layout) (by : ℕ) (key copy : TopicKey) (b : Binding)
    (upto : List ℕ) → m ≡ l → book_cell l.names < length old.seen → copy ≡ key
    → binding_of key (book_seen l old) ≡ None
    → new ≡ made old (book_cell l.names) (payload_of (book.Bind by copy b) ∷ [])
    → IsOpenTo (book_seen l old) (book.Bind by copy b)
    → upto ≡ checkpoint_in key (book_seen m new)
    → HasAppended old new (bind_new l.names key b (book_seen l old)) (ends (Ok upto)) 0
bound_appended old new l m by key copy b upto e lt same none done few u =
    let seen = book_seen l old in
    let done' : new ≡ made old (book_cell l.names) (bind key b ∷ []) =
    done ∙ ap (λ k. made old (book_cell l.names) (bind k b ∷ [])) same in
    let free : topics_in seen < 1000 =
    subst (λ o. IsOpen o (topics_in seen) b) (ap (λ k. binding_of k seen) same ∙ none) few in
    let after : book_seen m new ≡ seen ++ book.Bind old.me key b ∷ [] =
    ap (λ (x : Layout). book_seen x new) e
    ∙ (ap (book_seen l) done' ∙ book_after l old key b lt) in
    let answer : upto ≡ bound_checkpoint key seen b =
    u ∙ (ap (checkpoint_in key) after ∙ bound_by old.me key b seen) in
    let all = bind_appended old new l.names key b seen none free lt done' in
    subst (λ x. HasAppended old new (bind_new l.names key b seen) (ends (Ok x)) 0) (sym answer)
    (subst (λ o. HasAppended old new (bind_seen l.names key b seen o)
    (ends (Ok (bound_checkpoint key seen b))) 0) none all)

-- or is bound, and memory is wanting for the answer
pub bound_stopped : (old new : Writer) (l : Layout) (by : ℕ) (key copy : TopicKey) (b : Binding)
    → book_cell l.names < length old.seen → copy ≡ key
    → binding_of key (book_seen l old) ≡ None
    → new ≡ made old (book_cell l.names) (payload_of (book.Bind by copy b) ∷ [])
    → IsOpenTo (book_seen l old) (book.Bind by copy b)
    → IsStopped 0 old new (bind_new l.names key b (book_seen l old)) 0
bound_stopped old new l by key copy b lt same none done few =
    stopped_at 0 old new (bind_new l.names key b (book_seen l old)) _
    (bound_appended old new l l by key copy b
    (checkpoint_in key (book_seen l new)) refl lt same none
    done few refl)

-- a Bind of the key's copy was refused
pub bound_refused : (w new : Writer) (names : List NameShards) (by : ℕ) (key copy : TopicKey)
    (b : Binding) (seen : Book) (f : BookFault) (told : SiteFault) → copy ≡ key
    → binding_of key seen ≡ None → new ≡ w → IsCauseOf seen (book.Bind by copy b) f
    → told ≡ fault_of f → Refused 0 w new (bind_new names key b seen) told
bound_refused w new names by key copy b seen f told same none e cause is =
    subst (Refused 0 w new (bind_new names key b seen)) (sym is)
    (bind_new_refused w new names by key b seen f none e
    (subst (λ k. IsCauseOf seen (book.Bind by k b) f) same cause))

-- a Bind may be added where the topic isn't bound
pub may_bind : (names : List NameShards) (me by : ℕ) (seen : List Log) (key copy : TopicKey)
    (b : Binding) → by ≡ me → copy ≡ key
    → binding_of key (book_in (get_or seen (book_cell names) [])) ≡ None
    → IsOnCollections names key b → IsReadable b.q
    → MayAppendEntry names me seen (book.Bind by copy b)
may_bind names me by seen key copy b own same none on readable =
    subst (λ k. MayAppendEntry names me seen (book.Bind by k b)) (sym same)
    (own, record { follows = none; fit = on; readable = readable })

-- a Store may be added where it raises something
pub may_store : (names : List NameShards) (me by : ℕ) (seen : List Log) (key copy : TopicKey)
    (upto : List ℕ) → by ≡ me → copy ≡ key → MayStore names (histories_in names seen) key upto
    → raises key (book_in (get_or seen (book_cell names) [])) upto ≡ true
    → MayAppendEntry names me seen (book.Store by copy upto)
may_store names me by seen key copy upto own same m up =
    subst (λ k. MayAppendEntry names me seen (book.Store by k upto)) (sym same) (own, (m, up))

-- a checkpoint that may be stored may be after a look at the book
pub store_after_look : (l k m : Layout) (start old mid : Writer) (cell : ℕ) (key : TopicKey)
    (upto : List ℕ) → old ≡ start → k ≡ l → m ≡ k → cell ≡ book_cell k.names
    → cell < length old.seen → LooksAt old mid cell
    → MayStore l.names (histories_in l.names start.seen) key upto
    → MayStore m.names (histories_in m.names mid.seen) key upto
store_after_look l k m start old mid cell key upto s d e at lt look may =
    let first = subst (λ (w : Writer). MayStore l.names (histories_in l.names w.seen) key upto)
    (sym s) may in
    let known = subst (λ (x : Layout). MayStore x.names (histories_in x.names old.seen) key upto)
    (sym d) first in
    let looked = subst (LooksAt old mid) at look in
    let here = subst (λ c. c < length old.seen) at lt in
    subst (λ (x : Layout). MayStore x.names (histories_in x.names mid.seen) key upto) (sym e)
    (subst (λ (w : Writer). MayStore k.names (histories_in k.names w.seen) key upto)
    (sym looked.is) (store-looked k.names old.seen looked.more key upto here known))

-- the book's cell is there after a look at it
pub book_in_range : (k m : Layout) (old mid : Writer) (cell : ℕ) → m ≡ k
    → cell ≡ book_cell k.names → cell < length old.seen → LooksAt old mid cell
    → book_cell m.names < length mid.seen
book_in_range k m old mid cell e at lt look =
    subst (λ (x : Layout). book_cell x.names < length mid.seen) (sym e)
    (subst (λ c. c < length mid.seen) at (cell_after old mid cell lt look))

-- what was done at the book after a look there, to which a call came with its writer as it was
pub book_looked : {A : Type 0} (start old mid new : Writer) (l k m : Layout) (cell : ℕ)
    (see : Book → Course (Result A SiteFault)) (r : Result A SiteFault) → old ≡ start → k ≡ l
    → m ≡ k → cell ≡ book_cell k.names → cell < length old.seen → LooksAt old mid cell
    → Passed 0 mid new (see (book_seen m mid)) 0 r
    → Answered start new (looks (book_cell l.names) (λ log. see (book_in log))) r
book_looked start old mid new l k m cell see r s d e at lt look p =
    let see' = λ (log : Log). see (book_in log) in
    let n = book_cell l.names in
    let at' : cell ≡ n = at ∙ ap (λ (x : Layout). book_cell x.names) d in
    let p' = subst (λ (x : Layout). Passed 0 mid new (see (book_seen x mid)) 0 r) (e ∙ d) p in
    let here = subst (λ c. c < length old.seen) at' lt in
    let looked = subst (LooksAt old mid) at' look in
    subst (λ (w : Writer). Answered w new (looks n see') r) s
    (answered_of old new (looks n see') 0 r (look_passed 0 old mid new n see' 0 r here looked p'))

-- the state of a topic is what the look showed
pub state_looked : (start old mid : Writer) (l k m : Layout) (cell : ℕ) (key : TopicKey)
    (state : Option (List ℕ)) → old ≡ start → k ≡ l → m ≡ k → cell ≡ book_cell k.names
    → cell < length old.seen → LooksAt old mid cell → state ≡ checkpoints key (book_seen m mid)
    → HasAppended start mid (topic_state_course l.names key) (ends state) 0
state_looked start old mid l k m cell key state s d e at lt look is =
    let n = book_cell l.names in
    let see : Log → Course (Option (List ℕ)) = λ log. ends (checkpoints key (book_in log)) in
    let at' : cell ≡ n = at ∙ ap (λ (x : Layout). book_cell x.names) d in
    let here = subst (λ c. c < length old.seen) at' lt in
    let looked = subst (LooksAt old mid) at' look in
    let is' : state ≡ checkpoints key (book_seen l mid) =
    is ∙ ap (λ (x : Layout). checkpoints key (book_seen x mid)) (e ∙ d) in
    subst (λ (w : Writer). HasAppended w mid (topic_state_course l.names key) (ends state) 0) s
    (subst (λ x. HasAppended old mid (topic_state_course l.names key) (ends x) 0) (sym is')
    (looks_from old mid n see here looked))

-- or memory is wanting to tell it
pub state_begun : (start old mid : Writer) (l k : Layout) (cell : ℕ) (key : TopicKey)
    → old ≡ start → k ≡ l → cell ≡ book_cell k.names → cell < length old.seen
    → LooksAt old mid cell → IsStopped 0 start mid (topic_state_course l.names key) 0
state_begun start old mid l k cell key s d at lt look =
    let n = book_cell l.names in
    let see : Log → Course (Option (List ℕ)) = λ log. ends (checkpoints key (book_in log)) in
    let at' : cell ≡ n = at ∙ ap (λ (x : Layout). book_cell x.names) d in
    let here = subst (λ c. c < length old.seen) at' lt in
    let looked = subst (LooksAt old mid) at' look in
    subst (λ (w : Writer). IsStopped 0 w mid (topic_state_course l.names key) 0) s
    (look_begun old mid n see here looked)

-- a checkpoint was stored
pub stored_appended : (old new : Writer) (names : List NameShards) (by : ℕ) (key copy : TopicKey)
    (upto : List ℕ) (seen : Book) → raises key seen upto ≡ true
    → book_cell names < length old.seen → copy ≡ key
    → new ≡ made old (book_cell names) (payload_of (book.Store by copy upto) ∷ [])
    → HasAppended old new (store_seen {E = SiteFault} names key upto seen) (ends (Ok tt)) 0
stored_appended old new names by key copy upto seen up lt same done =
    store_appended old new names key upto seen up lt
    (done ∙ ap (λ k. made old (book_cell names) (store k upto ∷ [])) same)
