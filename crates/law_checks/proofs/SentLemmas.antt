-- What was sent before an entry, and whether a Mark follows it.
use Rattle.std.proofs.Common.{◌≡◌, ℕ, zero, suc, ◌<◌, ◌&&◌, ◌||◌, not, Bool, true, false, cond, ltb, List, [], ◌∷◌, ◌++◌, length, drop, Option, Some, None, refl, sym, ap, subst, ◌∙◌, arith, bytes_eq, Decides, inl, inr, Result, Ok, Err, OnOk}
use Rattle.std.specs.List.{AllByRecursion}
use Rattle.std.proofs.lemmas.Bool.{false≢true, lt-ltb}
use Rattle.std.proofs.lemmas.Bool.Decides.{nat_tests}
use Rattle.std.proofs.lemmas.Cmp.{nat_list_eq_equiv}
use Rattle.std.proofs.lemmas.List.{append-nil}
use Rattle.tuple_values.specs.Document.{ByteList, Doc}
use Rattle.tuple_values.specs.declared.names.NameShards.{NameShards}
use Rattle.shard_versions.specs.Documents.{id_of}
use Rattle.shard_versions.specs.declared.entry.Kind.{Kind}
use Rattle.shard_versions.specs.declared.entry.Kind.TheVariants.{Sent}
use Rattle.shard_versions.specs.declared.entry.Entry.{Entry}
use Rattle.shard_versions.specs.Histories.{History, is_mark, has_mark, settled}
use Rattle.shard_versions.specs.Deliveries.{sent_version, sents, are_below, is_plain, admits}
use Rattle.shard_versions.specs.Indexes.{greater, greatest}
use Rattle.shard_versions.proofs.IndexLemmas.{greatest-push, passes, are_below-greatest}
use Rattle.shard_versions.proofs.DeliveryLemmas.{sents-append, sent_version-plain, are_below-each}
use Rattle.once_core.specs.Law.{IsDelivery}
use Rattle.once_core.specs.declared.world.Histories.{Histories}
use Rattle.law_checks.specs.Sents.{IsBadSent}
use Rattle.law_checks.specs.Numbers.{number_at, same_place}
use Rattle.law_checks.specs.Judged.{IsSentJudged, IsKindJudged, AreSentUpTo, is_over}
use Rattle.law_checks.specs.declared.greatest.Greatest.{Greatest}

-- where there is no Mark nothing is settled
settled-none : (h : History) → has_mark h ≡ false → settled h ≡ []
unfolding settled
settled-none [] e = refl
settled-none (x ∷ h) e = ap (λ b. cond b (x ∷ settled h) []) e

-- there is a Mark behind a place where more is settled
pub mark-behind : (k : ℕ) (h : History) → has_mark (drop k h) ≡ ltb k (length (settled h))
unfolding settled
mark-behind zero [] = grind (arith, nat_tests)
mark-behind (suc k) [] = grind (arith, nat_tests)
mark-behind zero (x ∷ h) = go (has_mark (x ∷ h))
  where
    go : (b : Bool) → b ≡ ltb 0 (length (cond b (x ∷ settled h) []))
    go true = grind (arith, nat_tests)
    go false = grind (arith, nat_tests)
mark-behind (suc k) (x ∷ h) = mark-behind k h ∙ go (is_mark x.kind) (has_mark h) refl
  where
    less : (n : ℕ) → ltb k n ≡ ltb (suc k) (suc n)
    less n = grind (arith, nat_tests)

    none : has_mark h ≡ false → ltb k (length (settled h)) ≡ ltb (suc k) 0
    none e =
        let z : length (settled h) ≡ 0 = ap length (settled-none h e) in
        ap (ltb k) z ∙ (let f : ltb k 0 ≡ ltb (suc k) 0 = grind (arith, nat_tests) in f)

    go : (a b : Bool) → has_mark h ≡ b → ltb k (length (settled h)) ≡ ltb (suc k) (length (cond (a || b) (x ∷ settled h) []))
    go true b e = less (length (settled h))
    go false true e = less (length (settled h))
    go false false e = none e

-- what was sent with one more entry
sents-push : (src id : ByteList) (h : History) (e : Entry) → sents src id (h ++ e ∷ []) ≡ sents src id h ++ sent_version src id e.kind
unfolding sents
sents-push src id h e =
    sents-append src id h (e ∷ []) ∙ ap (λ vs. sents src id h ++ vs) (append-nil (sent_version src id e.kind))

-- a Sent was told
pub told-sent : (g new : Greatest) (from i : ByteList) (v : ℕ) (doc : Doc) → i ≡ id_of doc
    → ((a b : ByteList) (n : ℕ) → number_at new a b n
    ≡ cond (same_place from i 0 a b n) (greater v (number_at g a b n)) (number_at g a b n))
    → (h : History) (e : Entry) → e.kind ≡ Sent from v doc → AreSentUpTo g h → AreSentUpTo new (h ++ e ∷ [])
told-sent g new from i v doc named up h e is sent = λ src id.
    let test : same_place from i 0 src id 0 ≡ (bytes_eq src from && bytes_eq id (id_of doc)) = tested src id in
    let pick : Bool → Option ℕ → Option ℕ = λ b o. cond b (greater v o) o in
    up src id 0
    ∙ (ap (λ b. cond b (greater v (number_at g src id 0)) (number_at g src id 0)) test
    ∙ (ap (λ o. cond (bytes_eq src from && bytes_eq id (id_of doc)) (greater v o) o) (sent src id)
    ∙ (pushed (bytes_eq src from && bytes_eq id (id_of doc)) (sents src id h)
    ∙ ap greatest (sym (sents-push src id h e ∙ ap (λ k. sents src id h ++ sent_version src id k) is)))))
  where
    and_true : (b : Bool) → (b && true) ≡ b
    and_true true = refl
    and_true false = refl

    tested : (src id : ByteList) → same_place from i 0 src id 0 ≡ (bytes_eq src from && bytes_eq id (id_of doc))
    tested src id =
        and_true (bytes_eq from src && bytes_eq i id)
        ∙ (ap (λ b. b && bytes_eq i id) (nat_list_eq_equiv.symm from src)
        ∙ ap (λ b. bytes_eq src from && b) (nat_list_eq_equiv.symm i id ∙ ap (bytes_eq id) named))

    pushed : (b : Bool) (ss : List ℕ) → cond b (greater v (greatest ss)) (greatest ss) ≡ greatest (ss ++ cond b (v ∷ []) [])
    pushed true ss = sym (greatest-push ss v)
    pushed false ss = ap greatest (sym (append-nil ss))

-- another entry tells nothing
pub told-plain : (g : Greatest) (k : Kind) → is_plain k ≡ true → (h : History) (e : Entry) → e.kind ≡ k
    → AreSentUpTo g h → AreSentUpTo g (h ++ e ∷ [])
told-plain g k plain h e is sent = λ src id.
    sent src id
    ∙ ap greatest (sym (sents-push src id h e ∙ (ap (λ x. sents src id h ++ sent_version src id x) is
    ∙ (ap (λ vs. sents src id h ++ vs) (sent_version-plain k src id plain) ∙ append-nil (sents src id h)))))

-- nothing was sent before the first entry
pub told-none : (g : Greatest) → ((a b : ByteList) (n : ℕ) → number_at g a b n ≡ None) → AreSentUpTo g []
unfolding sents
told-none g none = λ src id. none src id 0

-- versions below a number are each below it
pub below-from : (v : ℕ) (ws : List ℕ) → AllByRecursion (λ w. w < v) ws → are_below v ws ≡ true
below-from v [] a = refl
below-from v (w ∷ ws) a = go (ltb w v) (lt-ltb w v a.0) (are_below v ws) (below-from v ws a.1)
  where
    go : (b : Bool) → b ≡ true → (c : Bool) → c ≡ true → (b && c) ≡ true
    go b p c q = rw (p, q) refl

-- whether a version is above those that were sent
pub over-decides : (g : Greatest) (src id i : ByteList) (v : ℕ) (before : History) (r : Bool) → i ≡ id → AreSentUpTo g before
    → r ≡ is_over v (number_at g src i 0) → Decides r (AllByRecursion (λ w. w < v) (sents src id before))
over-decides g src id i v before r named sent is =
    let same : r ≡ are_below v (sents src id before) =
    is ∙ (ap (λ x. is_over v (number_at g src x 0)) named ∙ (ap (is_over v) (sent src id)
    ∙ (passed (greatest (sents src id before)) ∙ sym (are_below-greatest v (sents src id before))))) in (
      λ t. are_below-each v (sents src id before) (sym same ∙ t),
      λ a. same ∙ below-from v (sents src id before) a,
    )
  where
    passed : (o : Option ℕ) → is_over v o ≡ passes v o
    passed None = refl
    passed (Some w) = refl

-- a fact behind a result
pub on_ok : {T E : Type 0} (P Q : Type 0) → (P → Q) → (r : Result T E) → OnOk r P → OnOk r Q
on_ok P Q f (Ok x) p = f p
on_ok P Q f (Err e) p = tt

module _ (names : List NameShards) (hs : Histories) (cell : ℕ) (before : History) (src : ByteList) (version : ℕ) (doc : Doc)
    (later : History) where
  -- one whose version isn't above those that were sent
  pub judged-low : (r : Bool) → Decides r (AllByRecursion (λ v. v < version) (sents src (id_of doc) before)) → r ≡ false
      → IsBadSent names hs cell before src version doc later
  judged-low r d e = inr (inr (λ a. false≢true (sym e ∙ d.1 a)))

  -- one that is or isn't a delivery
  pub judged-last : (settled low r : Bool) → settled ≡ has_mark later → settled ≡ true
      → Decides low (AllByRecursion (λ v. v < version) (sents src (id_of doc) before)) → low ≡ true
      → Decides r (IsDelivery names hs cell src version doc)
      → IsSentJudged (not r) names hs cell before src version doc later
  judged-last settled low true is e l low-is d = record { settled = sym is ∙ e; delivery = d.0 refl; above = l.0 low-is }
  judged-last settled low false is e l low-is d = inr (inl (λ x. false≢true (d.1 x)))

-- an entry that is such a Sent is judged so
pub judged-kind : (names : List NameShards) (hs : Histories) (cell : ℕ) (before : History) (src s : ByteList) (version : ℕ) (doc : Doc)
    (later : History) (kind : Kind) (r : Bool) → kind ≡ Sent src version doc → s ≡ src
    → IsSentJudged r names hs cell before s version doc later → IsKindJudged r names hs cell before kind later
judged-kind names hs cell before src s version doc later kind true is same j =
    subst (λ k. IsKindJudged true names hs cell before k later) (sym is)
    (subst (λ x. IsSentJudged true names hs cell before x version doc later) same j)
judged-kind names hs cell before src s version doc later kind false is same j =
    subst (λ k. IsKindJudged false names hs cell before k later) (sym is)
    (subst (λ x. IsSentJudged false names hs cell before x version doc later) same j)

-- whether a version is admitted behind what was sent
pub over-admits : (g : Greatest) (h now : History) (src id : ByteList) (v : ℕ) (r : Bool) → AreSentUpTo g h → h ≡ now
    → r ≡ is_over v (number_at g src id 0) → r ≡ admits now src id v
unfolding admits
over-admits g h now src id v r sent same is =
    is ∙ (ap (is_over v) (sent src id) ∙ (passed (greatest (sents src id h)) ∙ (sym (are_below-greatest v (sents src id h))
    ∙ ap (λ x. are_below v (sents src id x)) same)))
  where
    passed : (o : Option ℕ) → is_over v o ≡ passes v o
    passed None = refl
    passed (Some w) = refl
