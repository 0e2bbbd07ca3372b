-- Calls on topics at which the log of the book failed.
use Rattle.std.proofs.Common.{◌≡◌, ℕ, ◌<◌, true, List, [], ◌∷◌, length, refl, sym, ap, ◌∙◌, subst}
use Rattle.std.specs.Prelude.{None}
use Rattle.topic_book.specs.Books.{Book, binding_of, raises}
use Rattle.topic_book.specs.States.{IsOpenTo}
use Rattle.topic_book.specs.declared.topic.TopicKey.{TopicKey}
use Rattle.topic_book.specs.declared.topic.Binding.{Binding}
use Rattle.topic_book.specs.declared.topic.BookEntry.TheVariants as book
use Rattle.exchange_rules.specs.Bindings.{bind_new, book_cell, book_seen, checkpoint_in, store_seen}
use Rattle.exchange_rules.specs.Calls.{Refused}
use Rattle.exchange_rules.specs.Cells.{payload_of}
use Rattle.exchange_rules.specs.Following.{Writer}
use Rattle.exchange_rules.specs.Primitives.{made, IsBroken}
use Rattle.exchange_rules.specs.Rows.{Layout}
use Rattle.exchange_rules.specs.declared.fault.SiteFault.{SiteFault}
use Rattle.exchange_rules.specs.declared.fault.SiteFault.TheVariants.{LogFault}
use Rattle.exchange_rules.proofs.StepLemmas.{nothing_done}
use Rattle.stream_site.specs.Refusals.{IsUnadded, unadded}
use Rattle.stream_site.specs.Topics.{HasStoredNone, fault_of}
use Rattle.stream_site.specs.declared.refusal.EntryRefusal.{EntryRefusal}
use Rattle.stream_site.specs.declared.refusal.EntryRefusal.TheVariants as entry
use Rattle.stream_site.proofs.RefusalLemmas.{entry_broken}
use Rattle.stream_site.proofs.TopicLemmas.{bound_appended, bound_refused, stored_appended}

-- the book's log failed as a topic was bound
bound_broken : (old new : Writer) (l : Layout) (by : ℕ) (key copy : TopicKey) (b : Binding)
    (f : SiteFault) → book_cell l.names < length old.seen → copy ≡ key
    → binding_of key (book_seen l old) ≡ None → IsOpenTo (book_seen l old) (book.Bind by copy b)
    → IsBroken old (made old (book_cell l.names) (payload_of (book.Bind by copy b) ∷ []))
    (book_cell l.names) 0 0 new
    → f ≡ LogFault (book_cell l.names) 0
    → Refused 0 old new (bind_new l.names key b (book_seen l old)) f
bound_broken old new l by key copy b f lt same none few broken is =
    let after = made old (book_cell l.names) (payload_of (book.Bind by copy b) ∷ []) in
    let upto = checkpoint_in key (book_seen l after) in
    entry_broken old after new (bind_new l.names key b (book_seen l old)) upto (book_cell l.names) f
    (bound_appended old after l l by key copy b upto refl lt same none refl few refl) broken is

-- a Bind of a topic that isn't bound was refused
pub bind_unadded : (old new : Writer) (l m : Layout) (by : ℕ) (key copy : TopicKey) (b : Binding)
    (r : EntryRefusal) (f : SiteFault) → m ≡ l → book_cell l.names < length old.seen → copy ≡ key
    → binding_of key (book_seen l old) ≡ None
    → IsUnadded (IsOpenTo (book_seen l old) (book.Bind by copy b)) (book_seen l old)
    (book.Bind by copy b) old (made old (book_cell l.names) (payload_of (book.Bind by copy b) ∷ []))
    (book_cell l.names) new r
    → f ≡ unadded (book_cell m.names) r
    → Refused 0 old new (bind_new l.names key b (book_seen l old)) f
bind_unadded old new l m by key copy b (entry.Book g) f e lt same none u is =
    bound_refused old new l.names by key copy b (book_seen l old) g f same none u.1 u.0 is
bind_unadded old new l m by key copy b entry.Broken f e lt same none u is =
    bound_broken old new l by key copy b f lt same none u.0 u.1
    (is ∙ ap (λ (x : Layout). LogFault (book_cell x.names) 0) e)

-- the book's log failed as a checkpoint was stored
stored_broken : (old new : Writer) (l : Layout) (by : ℕ) (key copy : TopicKey) (upto : List ℕ)
    (f : SiteFault) → raises key (book_seen l old) upto ≡ true → book_cell l.names < length old.seen
    → copy ≡ key
    → IsBroken old (made old (book_cell l.names) (payload_of (book.Store by copy upto) ∷ []))
    (book_cell l.names) 0 0 new
    → f ≡ LogFault (book_cell l.names) 0
    → Refused 0 old new (store_seen l.names key upto (book_seen l old)) f
stored_broken old new l by key copy upto f up lt same broken is =
    let after = made old (book_cell l.names) (payload_of (book.Store by copy upto) ∷ []) in
    entry_broken old after new (store_seen l.names key upto (book_seen l old)) tt
    (book_cell l.names) f
    (stored_appended old after l.names by key copy upto (book_seen l old) up lt same refl)
    broken is

-- a Store was refused: the book refuses none but for want of memory
pub store_unadded : (old new : Writer) (l m : Layout) (by : ℕ) (key copy : TopicKey)
    (upto : List ℕ) (r : EntryRefusal) (f : SiteFault) → raises key (book_seen l old) upto ≡ true
    → m ≡ l → book_cell l.names < length old.seen → copy ≡ key
    → IsUnadded (IsOpenTo (book_seen l old) (book.Store by copy upto)) (book_seen l old)
    (book.Store by copy upto) old
    (made old (book_cell l.names) (payload_of (book.Store by copy upto) ∷ []))
    (book_cell l.names) new r
    → f ≡ unadded (book_cell m.names) r
    → Refused 0 old new (store_seen l.names key upto (book_seen l old)) f
store_unadded old new l m by key copy upto (entry.Book g) f up e lt same u is =
    let course = store_seen l.names key upto (book_seen l old) in
    subst (Refused 0 old new course) (sym (is ∙ ap fault_of u.0)) (nothing_done 0 old new course u.1)
store_unadded old new l m by key copy upto entry.Broken f up e lt same u is =
    stored_broken old new l by key copy upto f up lt same u.1
    (is ∙ ap (λ (x : Layout). LogFault (book_cell x.names) 0) e)

-- and nothing was stored, unless the log failed
pub stored_none : (old new after : Writer) (seen : Book) (by : ℕ) (key : TopicKey) (upto : List ℕ)
    (Fits : Type 0) (l m : Layout) (at : ℕ) (r : EntryRefusal) (f : SiteFault) → m ≡ l
    → at ≡ book_cell m.names
    → IsUnadded Fits seen (book.Store by key upto) old after (book_cell l.names) new r
    → f ≡ unadded at r → HasStoredNone (book_cell l.names) old new f
stored_none old new after seen by key upto Fits l m at (entry.Book g) f e here u is =
    subst (HasStoredNone (book_cell l.names) old new) (sym (is ∙ ap fault_of u.0))
    (ap (λ (w : Writer). w.own) u.1)
stored_none old new after seen by key upto Fits l m at entry.Broken f e here u is =
    subst (HasStoredNone (book_cell l.names) old new) (sym is)
    (here ∙ ap (λ (x : Layout). book_cell x.names) e)
