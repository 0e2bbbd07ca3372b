-- Bytes are read in one way.
use Rattle.std.proofs.Common.{◌≡◌, ℕ, ◌<◌, ◌≤◌, Bool, true, false, List, [], ◌∷◌, length, drop, Option, Some, None, refl, sym, ap, subst, ◌∙◌, arith}
use Rattle.std.specs.Bool.{MatchBool}
use Rattle.httparse.specs.Grammar.{RequestHead, ReadsRequest}
use Rattle.httparse.proofs.GrammarLemmas.{request_unique}
use Rattle.tuple_values.specs.declared.names.NameShards.{NameShards}
use Rattle.form_request.specs.Ends.{line_count}
use Rattle.form_request.specs.Heads.{Verdict, unfinished, overlong, overfull, unreadable, readable, VerdictIs, FrontIs, front_is, front_by, head_at}
use Rattle.form_request.specs.Judging.{judgement, parts_of}
use Rattle.form_request.specs.Readings.{Reads, FrontEnds, FrontGives, nothing, HasOneReading}
use Rattle.form_request.specs.declared.heads.Front.{Front}
use Rattle.form_request.specs.declared.heads.Front.TheVariants.{Unfinished, Refused, Taken}
use Rattle.form_request.specs.declared.reading.Message.{Message}
use Rattle.form_request.specs.declared.reading.After.{After}

-- an option isn't none and some
none_some : (o : Option ℕ) (n : ℕ) → o ≡ None → o ≡ Some n → ⊥
none_some o n none some = cc

-- it is one number
same_place : (o : Option ℕ) (m n : ℕ) → o ≡ Some m → o ≡ Some n → m ≡ n
same_place o m n first second = cc

-- a head has too many lines, or not
lines_clash : (bytes : List ℕ) (p q : ℕ) → p ≡ q → 66 < line_count (head_at bytes p)
    → line_count (head_at bytes q) ≤ 66 → ⊥
lines_clash bytes p q same many few =
    omega (arith, many, few, ap (λ n. line_count (head_at bytes n)) same)

-- bytes are a head, or not
head_clash : (bytes : List ℕ) (p q : ℕ) (h : RequestHead) → p ≡ q
    → ((k : RequestHead) → ReadsRequest (head_at bytes p) k [] → ⊥) → ReadsRequest (head_at bytes q) h [] → ⊥
head_clash bytes p q h same none reads =
    let P : ℕ → Type 0 = λ n. ReadsRequest (head_at bytes n) h [] in
    none h (subst P (sym same) reads)

-- what stands at the front is one thing
front_unique : (names : List NameShards) (bytes : List ℕ) (v w : Verdict) → VerdictIs bytes v → VerdictIs bytes w
    → front_is names bytes v ≡ front_is names bytes w
front_unique names bytes unfinished unfinished x y = refl
front_unique names bytes unfinished overlong x y = absurd (omega (arith, x.1, y.1))
front_unique names bytes unfinished overfull x y = absurd (none_some _ _ x.0 y.1)
front_unique names bytes unfinished unreadable x y = absurd (none_some _ _ x.0 y.1)
front_unique names bytes unfinished (readable k q) x y = absurd (none_some _ _ x.0 y.0)
front_unique names bytes overlong unfinished x y = absurd (omega (arith, x.1, y.1))
front_unique names bytes overlong overlong x y = refl
front_unique names bytes overlong overfull x y = refl
front_unique names bytes overlong unreadable x y = absurd (none_some _ _ x.0 y.1)
front_unique names bytes overlong (readable k q) x y = absurd (none_some _ _ x.0 y.0)
front_unique names bytes overfull unfinished x y = absurd (none_some _ _ y.0 x.1)
front_unique names bytes overfull overlong x y = refl
front_unique names bytes overfull overfull x y = refl
front_unique names bytes overfull unreadable x y =
    absurd (lines_clash bytes x.0 y.0 (same_place _ x.0 y.0 x.1 y.1) x.2 y.2)
front_unique names bytes overfull (readable k q) x y =
    absurd (lines_clash bytes x.0 q (same_place _ x.0 q x.1 y.0) x.2 y.1)
front_unique names bytes unreadable unfinished x y = absurd (none_some _ _ y.0 x.1)
front_unique names bytes unreadable overlong x y = absurd (none_some _ _ y.0 x.1)
front_unique names bytes unreadable overfull x y =
    absurd (lines_clash bytes y.0 x.0 (same_place _ y.0 x.0 y.1 x.1) y.2 x.2)
front_unique names bytes unreadable unreadable x y = refl
front_unique names bytes unreadable (readable k q) x y =
    absurd (head_clash bytes x.0 q k (same_place _ x.0 q x.1 y.0) x.3 y.2)
front_unique names bytes (readable h p) unfinished x y = absurd (none_some _ _ y.0 x.0)
front_unique names bytes (readable h p) overlong x y = absurd (none_some _ _ y.0 x.0)
front_unique names bytes (readable h p) overfull x y =
    absurd (lines_clash bytes y.0 p (same_place _ y.0 p y.1 x.0) y.2 x.1)
front_unique names bytes (readable h p) unreadable x y =
    absurd (head_clash bytes y.0 p h (same_place _ y.0 p y.1 x.0) y.3 x.2)
front_unique names bytes (readable h p) (readable k q) x y =
    let same = same_place _ p q x.0 y.0 in
    let P : ℕ → Type 0 = λ n. ReadsRequest (head_at bytes n) k [] in
    let heads = (request_unique (head_at bytes p) h k [] [] x.2 (subst P (sym same) y.2)).0 in
    ap (λ n. front_by (judgement names (parts_of h) (length (head_at bytes n))) n) same
    ∙ ap (λ (head : RequestHead). front_by (judgement names (parts_of head) (length (head_at bytes q))) q) heads

pub FrontIs-unique : (names : List NameShards) (bytes : List ℕ) (f g : Front)
    → FrontIs names bytes f → FrontIs names bytes g → f ≡ g
FrontIs-unique names bytes f g x y = x.2 ∙ front_unique names bytes x.0 y.0 x.1 y.1 ∙ sym y.2

ends_unique : (front : Front) (bytes : List ℕ) (a b : After)
    → FrontEnds front bytes a → FrontEnds front bytes b → a ≡ b
ends_unique Unfinished bytes a b x y = x ∙ sym y
ends_unique (Refused status) bytes a b x y = x ∙ sym y
ends_unique (Taken plan place) bytes a b x y = x.1 ∙ sym y.1

ends_or_gives : (front : Front) (bytes : List ℕ) (a b : After) (m : Message) (ms : List Message)
    (Behind : List ℕ → Type 0) → FrontEnds front bytes a → FrontGives front bytes m ms b Behind → ⊥
ends_or_gives Unfinished bytes a b m ms Behind x y = y
ends_or_gives (Refused status) bytes a b m ms Behind x y = y
ends_or_gives (Taken plan place) bytes a b m ms Behind x y = omega (arith, x.0, y.0)

gives_unique : (front : Front) (bytes : List ℕ) (m n : Message) (ms ns : List Message) (a b : After)
    (First Second : List ℕ → Type 0)
    → ((rest : List ℕ) → First rest → Second rest → (ms ≡ ns) × (a ≡ b))
    → FrontGives front bytes m ms a First → FrontGives front bytes n ns b Second
    → ((m ∷ ms) ≡ (n ∷ ns)) × (a ≡ b)
gives_unique Unfinished bytes m n ms ns a b First Second behind x y = absurd x
gives_unique (Refused status) bytes m n ms ns a b First Second behind x y = absurd x
gives_unique (Taken plan place) bytes m n ms ns a b First Second behind x y =
    let rest = drop plan.length (drop place bytes) in
    let later = by_closes plan.closes (First rest) (Second rest) (behind rest) x.2 y.2 in
    let message : m ≡ n = x.1 ∙ sym y.1 in
    (cc (message, later.0), later.1)
  where
    by_closes : (c : Bool) (P Q : Type 0) → (P → Q → (ms ≡ ns) × (a ≡ b))
        → MatchBool c ((ms ≡ []) × (a ≡ nothing)) P → MatchBool c ((ns ≡ []) × (b ≡ nothing)) Q
        → (ms ≡ ns) × (a ≡ b)
    by_closes true P Q both x y = (x.0 ∙ sym y.0, x.1 ∙ sym y.1)
    by_closes false P Q both x y = both x y

pub one_reading : HasOneReading
one_reading names bytes [] [] a b x y =
    let P : Front → Type 0 = λ f. FrontEnds f bytes b in
    (refl, ends_unique x.0 bytes a b x.2 (subst P (FrontIs-unique names bytes y.0 x.0 y.1 x.1) y.2))
one_reading names bytes [] (n ∷ ns) a b x y =
    let P : Front → Type 0 = λ f. FrontEnds f bytes a in
    absurd (ends_or_gives y.0 bytes a b n ns (λ rest. Reads names rest ns b)
    (subst P (FrontIs-unique names bytes x.0 y.0 x.1 y.1) x.2) y.2)
one_reading names bytes (m ∷ ms) [] a b x y =
    let P : Front → Type 0 = λ f. FrontEnds f bytes b in
    absurd (ends_or_gives x.0 bytes b a m ms (λ rest. Reads names rest ms a)
    (subst P (FrontIs-unique names bytes y.0 x.0 y.1 x.1) y.2) x.2)
one_reading names bytes (m ∷ ms) (n ∷ ns) a b x y =
    let P : Front → Type 0 = λ f. FrontGives f bytes n ns b (λ rest. Reads names rest ns b) in
    gives_unique x.0 bytes m n ms ns a b (λ rest. Reads names rest ms a) (λ rest. Reads names rest ns b)
    (λ rest p q. one_reading names rest ms ns a b p q) x.2
    (subst P (FrontIs-unique names bytes y.0 x.0 y.1 x.1) y.2)
