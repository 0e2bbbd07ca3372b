-- Deliveries: who makes them doesn't matter for what is admitted, and one shard after another.
use Rattle.std.proofs.Common.{◌≡◌, ℕ, zero, suc, ◌+◌, ◌-◌, ◌<◌, ◌≤◌, Bool, true, false, not, cond, List, [], ◌∷◌, ◌++◌, length, get_or, map, refl, sym, ap, ◌∙◌, subst, arith, if◌then◌else◌}
use Rattle.std.specs.Prelude.{Result, Ok, Err}
use Rattle.std.proofs.lemmas.List.{length-map, map-append}
use Rattle.std.proofs.lemmas.List.Sums.{sum_by-cons}
use Rattle.tuple_values.specs.Document.{ByteList}
use Rattle.shard_versions.specs.Deliveries.{admits, admits_kind, admitted, sents, sent_version, are_below}
use Rattle.shard_versions.specs.Documents.{id_of}
use Rattle.shard_versions.specs.Histories.{History, is_mark}
use Rattle.shard_versions.specs.declared.entry.Entry.{Entry}
use Rattle.shard_versions.specs.declared.entry.Kind.{Kind}
use Rattle.shard_versions.specs.declared.entry.Kind.TheVariants.{Put, Del, Sent, Mark}
use Rattle.exchange_rules.specs.Calls.{HasAppended, Refused, Passed, IsFaultFor}
use Rattle.exchange_rules.specs.Cells.{Log, history_in, write}
use Rattle.exchange_rules.specs.Courses.{Course, ends, looks, and_ok}
use Rattle.exchange_rules.specs.Deliveries.{admitted_kinds, send_admitted, deliver_course, send_step, send_at, send_shards}
use Rattle.exchange_rules.specs.Following.{Writer}
use Rattle.exchange_rules.specs.Primitives.{LooksAt, delivered}
use Rattle.exchange_rules.specs.Rows.{Layout, length_below}
use Rattle.exchange_rules.specs.Steps.{closed, entries_by, fitting, is_over, kinds_of, writes_in}
use Rattle.exchange_rules.specs.declared.fault.SiteFault.{SiteFault}
use Rattle.exchange_rules.proofs.RoutingLemmas.{writes_in-closed}
use Rattle.exchange_rules.proofs.AppendedLemmas.{appended_join, appended_ok, appended_same, refused_on, refused_then}
use Rattle.exchange_rules.proofs.StepLemmas.{fitting_appended, kinds_of-entries_by, look_passed, refused_for}

-- two lists of kinds that are the same begin with the same kind, and go on in the same way
record Alike (x y : Entry) (xs ys : List Entry) : Type 0 where
  first : x.kind ≡ y.kind
  rest : kinds_of xs ≡ kinds_of ys

-- by what they are made of
alike : (x y : Entry) (xs ys : List Entry) → kinds_of (x ∷ xs) ≡ kinds_of (y ∷ ys)
    → Alike x y xs ys
alike x y xs ys e = record { first = cc; rest = cc }

-- histories of the same kinds deliver the same
sents-same : (src id : ByteList) (h k : History) → kinds_of h ≡ kinds_of k
    → sents src id h ≡ sents src id k
unfolding sents
sents-same src id [] [] e = refl
sents-same src id [] (y ∷ k) e = absurd (cc)
sents-same src id (x ∷ h) [] e = absurd (cc)
sents-same src id (x ∷ h) (y ∷ k) e =
    let a = alike x y h k e in
    ap (λ z. sent_version src id z ++ sents src id h) a.first
    ∙ ap (λ z. sent_version src id y.kind ++ z) (sents-same src id h k a.rest)

-- and admit the same
admits_kind-same : (h k : History) (kind : Kind) → kinds_of h ≡ kinds_of k
    → admits_kind h kind ≡ admits_kind k kind
unfolding admits
admits_kind-same h k (Put doc) e = refl
admits_kind-same h k (Del id) e = refl
admits_kind-same h k (Sent src version doc) e =
    ap (are_below version) (sents-same src (id_of doc) h k e)
admits_kind-same h k Mark e = refl

-- kinds of two lists that were chosen by the same test
chosen-same : (s t : Bool) (a b c d : List Entry) → s ≡ t → kinds_of a ≡ kinds_of b
    → kinds_of c ≡ kinds_of d
    → kinds_of (if s then a else c) ≡ kinds_of (if t then b else d)
chosen-same true true a b c d e f g = f
chosen-same true false a b c d e f g = absurd (cc)
chosen-same false true a b c d e f g = absurd (cc)
chosen-same false false a b c d e f g = g

-- what is admitted of entries of the same kinds
admitted-same : (h k : History) (a b : List Entry) → kinds_of h ≡ kinds_of k
    → kinds_of a ≡ kinds_of b → kinds_of (admitted h a) ≡ kinds_of (admitted k b)
unfolding admitted
admitted-same h k [] [] e f = refl
admitted-same h k [] (y ∷ b) e f = absurd (cc)
admitted-same h k (x ∷ a) [] e f = absurd (cc)
admitted-same h k (x ∷ a) (y ∷ b) e f =
    let l = alike x y a b f in
    let longer : kinds_of (h ++ x ∷ []) ≡ kinds_of (k ++ y ∷ []) =
    map-append _ h (x ∷ [])
    ∙ (ap (λ z. z ++ x.kind ∷ []) e
    ∙ (ap (λ z. kinds_of k ++ z ∷ []) l.first ∙ sym (map-append _ k (y ∷ [])))) in
    let kept = admitted-same (h ++ x ∷ []) (k ++ y ∷ []) a b longer l.rest in
    let test = admits_kind-same h k x.kind e ∙ ap (admits_kind k) l.first in
    chosen-same (admits_kind h x.kind) (admits_kind k y.kind) (x ∷ admitted (h ++ x ∷ []) a)
    (y ∷ admitted (k ++ y ∷ []) b) (admitted h a) (admitted k b) test
    (ap (λ z. z ∷ kinds_of (admitted (h ++ x ∷ []) a)) l.first ∙ ap (λ z. y.kind ∷ z) kept)
    (admitted-same h k a b e l.rest)

-- what is admitted of a step, as kinds
pub admitted_kinds-step : (h : History) (step : List Entry)
    → admitted_kinds h (kinds_of step) ≡ kinds_of (admitted h step)
admitted_kinds-step h step =
    admitted-same h h (entries_by 0 (kinds_of step)) step refl
    (kinds_of-entries_by 0 (kinds_of step))

-- an entry that is admitted is a write
admitted_write : (h : History) (k : Kind) → admits_kind h k ≡ true → is_mark k ≡ false
admitted_write h (Put doc) e = refl
admitted_write h (Del id) e = refl
admitted_write h (Sent src version doc) e = refl
admitted_write h Mark e = absurd (cc)

-- one more write, where it is chosen
chosen_writes : (t : Bool) (x : Entry) (a c : List Entry) → (t ≡ true → is_mark x.kind ≡ false)
    → writes_in (kinds_of a) ≡ length a → writes_in (kinds_of c) ≡ length c
    → writes_in (kinds_of (if t then x ∷ a else c)) ≡ length (if t then x ∷ a else c)
chosen_writes true x a c w f g =
    sum_by-cons (λ k. cond (not (is_mark k)) 1 0) x.kind (kinds_of a)
    ∙ (ap (λ b. cond (not b) 1 0 + writes_in (kinds_of a)) (w refl) ∙ omega (arith, f))
chosen_writes false x a c w f g = g

-- each entry that is admitted is one
admitted_writes : (h : History) (a : List Entry)
    → writes_in (kinds_of (admitted h a)) ≡ length (admitted h a)
unfolding admitted
admitted_writes h [] = refl
admitted_writes h (x ∷ a) =
    chosen_writes (admits_kind h x.kind) x (admitted (h ++ x ∷ []) a) (admitted h a)
    (admitted_write h x.kind) (admitted_writes (h ++ x ∷ []) a) (admitted_writes h a)

-- the same of kinds
pub admitted_kinds-writes : (h : History) (ks : List Kind)
    → writes_in (admitted_kinds h ks) ≡ length (admitted_kinds h ks)
admitted_kinds-writes h ks =
    let es = admitted h (entries_by 0 ks) in
    let size : length (kinds_of es) ≡ length es = simp length-map in
    admitted_writes h (entries_by 0 ks) ∙ sym size

-- no more are admitted than there are
chosen_few : (t : Bool) (x : Entry) (a c : List Entry) (n : ℕ) → length a ≤ n → length c ≤ n
    → length (if t then x ∷ a else c) ≤ suc n
chosen_few true x a c n f g = omega (arith, f)
chosen_few false x a c n f g = omega (arith, g)

-- by one entry after another
admitted_few : (h : History) (a : List Entry) → length (admitted h a) ≤ length a
unfolding admitted
admitted_few h [] = omega arith
admitted_few h (x ∷ a) =
    chosen_few (admits_kind h x.kind) x (admitted (h ++ x ∷ []) a) (admitted h a) (length a)
    (admitted_few (h ++ x ∷ []) a) (admitted_few h a)

-- the same of kinds
pub admitted_kinds-few : (h : History) (ks : List Kind)
    → length (admitted_kinds h ks) ≤ length ks
admitted_kinds-few h ks =
    let es = admitted h (entries_by 0 ks) in
    let size : length (kinds_of es) ≡ length es = simp length-map in
    let long : length (entries_by 0 ks) ≡ length ks = simp length-map in
    let few = admitted_few h (entries_by 0 ks) in
    omega (arith, size, long, few)

-- what was admitted stands
pub deliver_appended : (old new : Writer) (limit c : ℕ) (refusal : SiteFault) (h : History)
    (ks : List Kind) → c < length old.seen → is_over limit h ks ≡ false
    → writes_in ks ≡ length ks → new ≡ delivered old c ks
    → HasAppended old new (send_admitted limit c refusal h ks) (ends (Ok (length ks))) (length ks)
deliver_appended old new limit c refusal h [] lt fits writes e =
    appended_same old new (ends (Ok 0)) e
deliver_appended old new limit c refusal h (k ∷ ks) lt fits writes e =
    let step = closed true (k ∷ ks) in
    let next : Unit {0} → Course (Result ℕ SiteFault) = λ _. ends (Ok (length (k ∷ ks))) in
    let all = writes_in-closed true (k ∷ ks) ∙ writes in
    subst (HasAppended old new (send_admitted limit c refusal h (k ∷ ks))
    (ends (Ok (length (k ∷ ks))))) all
    (appended_ok old new (fitting limit c step refusal h) tt next (writes_in step)
    (fitting_appended old new limit c step refusal h lt fits e))

-- or was refused for its size
pub deliver_refused : (before : ℕ) (old new : Writer) (limit c : ℕ) (refusal : SiteFault)
    (h : History) (ks : List Kind) (fault : SiteFault) → is_over limit h ks ≡ true → new ≡ old
    → IsFaultFor refusal before fault
    → Refused before old new (send_admitted limit c refusal h ks) fault
deliver_refused before old new limit c refusal h [] fault full e t = absurd (cc)
deliver_refused before old new limit c refusal h (k ∷ ks) fault full e t =
    let step = closed true (k ∷ ks) in
    let next : Unit {0} → Course (Result ℕ SiteFault) = λ _. ends (Ok (length (k ∷ ks))) in
    refused_then before old new (fitting limit c step refusal h) next fault
    (refused_for before old new limit c step refusal h fault full e t)

-- nothing is delivered where there is nothing
pub send_none : (limit c : ℕ) (refusal : SiteFault) (ks : List Kind) → length ks ≡ 0
    → send_step limit c refusal ks ≡ ends (Ok 0)
send_none limit c refusal [] e = refl
send_none limit c refusal (k ∷ ks) e = absurd (omega arith)

-- and something where there is something
pub send_some : (limit c : ℕ) (refusal : SiteFault) (ks : List Kind) → 0 < length ks
    → send_step limit c refusal ks ≡ deliver_course limit c refusal ks
send_some limit c refusal [] lt = absurd (omega arith)
send_some limit c refusal (k ∷ ks) lt = refl

-- what is left, and one more that is done
one_less : (n s : ℕ) → s < n → n - s ≡ suc (n - (s + 1))
one_less n s lt = omega arith

-- what is left begins with the next shard
sends_next : (l : Layout) (dest : ByteList) (share : ℕ → List Kind) (sent n s : ℕ) → s < n
    → send_shards l dest share sent s (n - s)
    ≡ and_ok (send_at l dest share sent s) (λ more.
    send_shards l dest share (sent + more) (s + 1) (n - (s + 1)))
sends_next l dest share sent n s lt = ap (send_shards l dest share sent s) (one_less n s lt)

-- one more shard has its share
pub sends_appended : (old mid new : Writer) (p : Course (Result ℕ SiteFault)) (l : Layout)
    (dest : ByteList) (share : ℕ → List Kind) (n s sent more : ℕ) → s < n
    → HasAppended old mid p (send_shards l dest share sent s (n - s)) sent
    → Passed sent mid new (send_at l dest share sent s) more (Ok more)
    → HasAppended old new p (send_shards l dest share (sent + more) (s + 1) (n - (s + 1)))
    (sent + more)
sends_appended old mid new p l dest share n s sent more lt a b =
    let at = send_at l dest share sent s in
    let next = λ (k : ℕ). send_shards l dest share (sent + k) (s + 1) (n - (s + 1)) in
    let a' = subst (λ q. HasAppended old mid p q sent) (sends_next l dest share sent n s lt) a in
    appended_join old mid new p (and_ok at next) (next more) sent more a'
    (appended_ok mid new at more next more b)

-- or is refused
pub sends_refused : (old mid new : Writer) (p : Course (Result ℕ SiteFault)) (l : Layout)
    (dest : ByteList) (share : ℕ → List Kind) (n s sent : ℕ) (fault : SiteFault) → s < n
    → HasAppended old mid p (send_shards l dest share sent s (n - s)) sent
    → Refused sent mid new (send_at l dest share sent s) fault → Refused 0 old new p fault
sends_refused old mid new p l dest share n s sent fault lt a b =
    let at = send_at l dest share sent s in
    let next = λ (k : ℕ). send_shards l dest share (sent + k) (s + 1) (n - (s + 1)) in
    let e : sent ≡ 0 + sent = omega arith in
    let a' = subst (λ q. HasAppended old mid p q sent) (sends_next l dest share sent n s lt) a in
    refused_on 0 old mid new p (and_ok at next) sent fault a'
    (subst (λ k. Refused k mid new (and_ok at next) fault) e
    (refused_then sent mid new at next fault b))

-- all shards have their shares
pub sends_end : (old new : Writer) (p : Course (Result ℕ SiteFault)) (l : Layout)
    (dest : ByteList) (share : ℕ → List Kind) (n s sent : ℕ) → n ≤ s
    → HasAppended old new p (send_shards l dest share sent s (n - s)) sent
    → HasAppended old new p (ends (Ok sent)) sent
sends_end old new p l dest share n s sent le a =
    let e : n - s ≡ 0 = omega arith in
    subst (λ x. HasAppended old new p (send_shards l dest share sent s x) sent) e a
