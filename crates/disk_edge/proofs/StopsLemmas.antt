-- What is left of the calls since the last sync is something that a stop may leave.
use Rattle.std.proofs.Common.{◌≡◌, ◌⊎◌, inl, inr, ⊎_elim, ℕ, zero, suc, ◌+◌, ◌-◌, ◌≤◌, ◌<◌, Bool, true, false, cond, eqb, ◌||◌, List, [], ◌∷◌, ◌++◌, length, get_or, min, Some, Result, Ok, Err, IfOk, take, drop, refl, sym, ◌∙◌, ap, subst, arith}
use Rattle.std.specs.List.{list_any, slice_get}
use Rattle.std.proofs.lemmas.Bool.{cases_lt}
use Rattle.std.proofs.lemmas.List.{drop-drop, drop_all, length-take, length-take-le, take-append-drop, take_all, take_more}
use Rattle.std.proofs.lemmas.List.Folds.{list_any-append}
use Rattle.disk_edge.specs.Disk.{Short, Torn, written}
use Rattle.disk_edge.specs.Calls.{after, content, excess, leaves_after, reach, Leaves, MayLeave}
use Rattle.disk_edge.specs.Memory.{content_of, DiskState}
use Rattle.disk_edge.specs.Moments.{stays-all}
use Rattle.disk_edge.specs.Stops.{begun, is_sync, left_after, synced_count}
use Rattle.disk_edge.specs.declared.change.Change.{Change}
use Rattle.disk_edge.specs.declared.change.Change.TheVariants.{Wrote, WriteFailed, Shortened, CutFailed, Synced}
use Rattle.disk_edge.proofs.CallsLemmas.{content-push}
use Rattle.disk_edge.proofs.DiskLemmas.{short-self, short-written, torn-self, torn-written}

-- what a stop may leave after some calls and then others
leaves-append : (calls more : List Change) (old : List ℕ) (P : List ℕ → Type 0) (c : List ℕ)
    → Leaves (content old calls) (Leaves old P calls) more c → Leaves old P (calls ++ more) c
leaves-append [] more old P c left = left
leaves-append (call ∷ calls) more old P c left = leaves-append calls more (after call old)
    (leaves_after call old P) c left

excess-append : (calls more : List Change) (old : List ℕ) → excess old (calls ++ more) ≡ 0
    → excess (content old calls) more ≡ 0
excess-append [] more old none = none
excess-append (call ∷ calls) more old none = excess-append calls more (after call old) (omega (arith, none))

or-left : (a b : Bool) → (a || b) ≡ false → a ≡ false
or-left true b h = h
or-left false b h = refl

or-right : (a b : Bool) → (a || b) ≡ false → b ≡ false
or-right true b h = cc
or-right false b h = h

-- no sync is behind the last
unsynced-drop : (n : ℕ) (calls : List Change) → list_any is_sync calls ≡ false
    → list_any is_sync (drop n calls) ≡ false
unsynced-drop zero calls none = none
unsynced-drop (suc n) [] none = none
unsynced-drop (suc n) (call ∷ calls) none = unsynced-drop n calls
    (or-right (is_sync call) (list_any is_sync calls) none)

unsynced-cases : (call : Change) (calls : List Change) (n : ℕ)
    → list_any is_sync (drop (synced_count calls + n) calls) ≡ false → (b : Bool)
    → list_any is_sync (call ∷ calls) ≡ b → list_any is_sync
    (drop (cond b (synced_count calls + 1) 0 + n) (call ∷ calls)) ≡ false
unsynced-cases call calls n rest true some =
    let one : suc (synced_count calls + n) ≡ synced_count calls + 1 + n = omega arith in
    subst (λ (m : ℕ). list_any is_sync (drop m (call ∷ calls)) ≡ false) one rest
unsynced-cases call calls n rest false none = unsynced-drop (0 + n) (call ∷ calls) none

unsynced : (calls : List Change) (n : ℕ) → list_any is_sync (drop (synced_count calls + n) calls) ≡ false
unsynced [] n = unsynced-drop (0 + n) [] refl
unsynced (call ∷ calls) n =
    unsynced-cases call calls n (unsynced calls n) (list_any is_sync (call ∷ calls)) refl

-- a call that isn't a sync may leave what might have been left before
keeps-one : (call : Change) (old : List ℕ) (P : List ℕ → Type 0) (c : List ℕ) → is_sync call ≡ false
    → P c → leaves_after call old P c
keeps-one (Wrote from piece) old P c no_sync here = inr (c, here, torn-self from piece c)
keeps-one (WriteFailed from piece) old P c no_sync here = inr (c, here, torn-self from piece c)
keeps-one (Shortened size) old P c no_sync here = inr (c, here, short-self size c)
keeps-one (CutFailed size) old P c no_sync here = inr (c, here, short-self size c)
keeps-one Synced old P c no_sync here = cc

keeps-all : (calls : List Change) (old : List ℕ) (P : List ℕ → Type 0) (c : List ℕ)
    → list_any is_sync calls ≡ false → P c → Leaves old P calls c
keeps-all [] old P c no_sync here = here
keeps-all (call ∷ calls) old P c no_sync here =
    keeps-all calls (after call old) (leaves_after call old P) c
    (or-right (is_sync call) (list_any is_sync calls) no_sync)
    (keeps-one call old P c (or-left (is_sync call) (list_any is_sync calls) no_sync) here)

-- a write of the first bytes of a piece is a torn write of it
torn-begun : (from bytes : ℕ) (piece c : List ℕ) → from ≤ length c
    → Torn from piece c (written c from (take bytes piece))
torn-begun from bytes piece c fits = record {
  before = whole.before;
  after = sym (drop-further new) ∙ ap (drop (length piece - length front)) whole.after ∙ drop-further c;
  no_shorter = whole.no_shorter;
  no_longer = omega (arith, whole.no_longer, short);
  one = λ single low. first bytes single;
}
  where
    front : List ℕ
    front = take bytes piece

    new : List ℕ
    new = written c from front

    short : length front ≤ length piece
    short = omega (arith, length-take bytes piece)

    whole : Torn from front c new
    whole = torn-written from front c fits

    drop-further : (xs : List ℕ) → drop (length piece - length front)
        (drop (from + length front) xs) ≡ drop (from + length piece) xs
    drop-further xs =
        let sum : from + length front + (length piece - length front) ≡ from + length piece = omega
        (arith, short) in
        drop-drop (length piece - length front) (from + length front) xs ∙ ap (λ (n : ℕ). drop n xs) sum

    first : (n : ℕ) → length piece ≡ 1 → (written c from (take n piece) ≡ c) ⊎
        (written c from (take n piece) ≡ written c from piece)
    first zero single = inl (ap (λ (n : ℕ). take from c ++ drop n c) (omega arith) ∙ take-append-drop from c)
    first (suc n) single = inr (ap (written c from) (take_all (suc n) piece (omega (arith, single))))

short-begun : (size bytes : ℕ) (c : List ℕ) → size ≤ length c
    → Short size c (cond (eqb bytes 0) c (take size c))
short-begun size bytes c fits =
    elim (eqb bytes 0) as (λ b. Short size c (cond b c (take size c))) [ true ↦ short-self size c | false ↦ short-written size c fits ]

-- the first of these calls, which isn't a sync, may be begun
begun-one : (call : Change) (calls : List Change) (bytes : ℕ) (c : List ℕ) (P : List ℕ → Type 0)
    → is_sync call ≡ false → reach call ≤ length c → P c
    → leaves_after call c P (begun bytes (call ∷ calls) c)
begun-one (Wrote from piece) calls bytes c P no_sync fits here = inr
    (c, here, torn-begun from bytes piece c fits)
begun-one (WriteFailed from piece) calls bytes c P no_sync fits here = inr
    (c, here, torn-begun from bytes piece c fits)
begun-one (Shortened size) calls bytes c P no_sync fits here = inr (c, here, short-begun size bytes c fits)
begun-one (CutFailed size) calls bytes c P no_sync fits here = inr (c, here, short-begun size bytes c fits)
begun-one Synced calls bytes c P no_sync fits here = refl

begun-all : (calls : List Change) (bytes : ℕ) (c : List ℕ) (P : List ℕ → Type 0)
    → list_any is_sync calls ≡ false → excess c calls ≡ 0 → P c → Leaves c P calls (begun bytes calls c)
begun-all [] bytes c P no_sync fits here = here
begun-all (call ∷ calls) bytes c P no_sync fits here =
    keeps-all calls (after call c) (leaves_after call c P) (begun bytes (call ∷ calls) c)
    (or-right (is_sync call) (list_any is_sync calls) no_sync)
    (begun-one call calls bytes c P (or-left (is_sync call) (list_any is_sync calls) no_sync)
    (omega (arith, fits)) here)

-- what is left is something that a stop may leave
pub left-may_leave : (s : DiskState) (calls bytes : ℕ) → excess s.first s.since ≡ 0
    → MayLeave s.first s.since (left_after s calls bytes)
left-may_leave s calls bytes none =
    let made = synced_count s.since + calls in
    let front = take made s.since in
    let back = drop made s.since in
    let joined : front ++ back ≡ s.since = take-append-drop made s.since in
    let fits : excess (content s.first front) back ≡ 0 = excess-append front back s.first
    (ap (excess s.first) joined ∙ none) in
    let here : MayLeave s.first front (content s.first front) = stays-all front s.first
    (λ d. d ≡ s.first) refl in
    subst (λ (l : List Change). MayLeave s.first l (left_after s calls bytes)) joined (
    leaves-append front back s.first (λ d. d ≡ s.first) (left_after s calls bytes)
    (begun-all back bytes (content s.first front) (MayLeave s.first front)
    (unsynced s.since calls) fits here)
    )

-- with all calls it is what a read gives
pub left-whole : (s : DiskState) (calls bytes : ℕ) → length s.since ≤ synced_count s.since + calls
    → left_after s calls bytes ≡ content_of s
left-whole s calls bytes le =
    let made = synced_count s.since + calls in
    ap (λ (l : List Change). begun bytes l (content s.first (take made s.since)))
    (drop_all made s.since le) ∙ ap (content s.first) (take_all made s.since le)

-- the content after one call more of those that are made
pub content-more : (first : List ℕ) (calls : List Change) (i : ℕ) (call : Change) → i < length calls
    → call ≡ get_or calls i call → content first (take (i + 1) calls) ≡ after call
    (content first (take i calls))
content-more first calls i call low is =
    ap (content first) (take_more calls i call low ∙ ap (λ x. take i calls ++ x ∷ []) (sym is))
    ∙ content-push (take i calls) first call

list_any-one : (x : Change) (calls : List Change)
    → list_any is_sync (calls ++ x ∷ []) ≡ (list_any is_sync calls || is_sync x)
list_any-one x calls = list_any-append is_sync calls (x ∷ [])
    ∙ ap (λ b. list_any is_sync calls || b) (or-false (is_sync x))
  where
    or-false : (b : Bool) → (b || false) ≡ b
    or-false true = refl
    or-false false = refl

-- how many are on the disk after one more call
pub synced_count-push : (calls : List Change) (x : Change)
    → synced_count (calls ++ x ∷ []) ≡ cond (is_sync x) (length calls + 1) (synced_count calls)
synced_count-push [] x = one (is_sync x)
  where
    one : (b : Bool) → ◌≡◌ {A = ℕ} (cond (b || false) 1 0) (cond b 1 0)
    one true = refl
    one false = refl
synced_count-push (call ∷ calls) x =
    ap (λ b. cond (is_sync call || b) (synced_count (calls ++ x ∷ []) + 1) 0) (list_any-one x calls)
    ∙ ap (λ (n : ℕ). cond (is_sync call || (list_any is_sync calls || is_sync x)) (n + 1) 0)
    (synced_count-push calls x)
    ∙ both (is_sync call) (list_any is_sync calls) (is_sync x) (length calls) (synced_count calls)
  where
    both : (a b s : Bool) (long n : ℕ) → cond (a || (b || s)) (cond s (long + 1) n + 1) 0 ≡ cond s
        (suc long + 1) (cond (a || b) (n + 1) 0)
    both true b true long n = omega arith
    both false true true long n = omega arith
    both false false true long n = omega arith
    both true b false long n = refl
    both false true false long n = refl
    both false false false long n = refl

-- no more of the calls are on the disk than there are
pub synced_count-le : (calls : List Change) → synced_count calls ≤ length calls
synced_count-le [] = omega arith
synced_count-le (call ∷ calls) =
    fits (list_any is_sync (call ∷ calls)) (synced_count calls) (length calls) (synced_count-le calls)
  where
    fits : (b : Bool) (n long : ℕ) → n ≤ long → cond b (n + 1) 0 ≤ suc long
    fits true n long le = omega arith
    fits false n long le = omega arith

-- the step of a loop that looks for the last sync
pub synced_count-more : (calls : List Change) (i : ℕ) (call : Change) → i < length calls
    → call ≡ get_or calls i call → synced_count (take (i + 1) calls) ≡ cond (is_sync call) (i + 1)
    (synced_count (take i calls))
synced_count-more calls i call low is =
    ap synced_count (take_more calls i call low ∙ ap (λ x. take i calls ++ x ∷ []) (sym is))
    ∙ synced_count-push (take i calls) call
    ∙ ap (λ (n : ℕ). cond (is_sync call) (n + 1) (synced_count (take i calls)))
    (length-take-le i calls (omega arith))

-- only the first of these calls is begun
pub begun-first : (bytes : ℕ) (calls : List Change) (call : Change) (c : List ℕ)
    → slice_get calls 0 ≡ Some call → begun bytes calls c ≡ begun bytes (call ∷ []) c
begun-first bytes [] call c at = cc
begun-first bytes (x ∷ calls) call c at = same x ∙ ap (λ y. begun bytes (y ∷ []) c) (some-is at)
  where
    same : (y : Change) → begun bytes (y ∷ calls) c ≡ begun bytes (y ∷ []) c
    same (Wrote from piece) = refl
    same (WriteFailed from piece) = refl
    same (Shortened size) = refl
    same (CutFailed size) = refl
    same Synced = refl

    some-is : Some x ≡ Some call → x ≡ call
    some-is h = cc

-- calls past the last are none
pub left-at : (s : DiskState) (calls bytes made : ℕ)
    → made ≡ min (synced_count s.since + calls) (length s.since)
    → begun bytes (drop made s.since) (content s.first (take made s.since)) ≡ left_after s calls bytes
left-at s calls bytes made is =
    ap (λ (n : ℕ). begun bytes (drop n s.since) (content s.first (take n s.since))) is
    ∙ ap (λ (l : List Change). begun bytes l (content s.first (take (min (synced_count s.since + calls) (length s.since)) s.since))) (drop-min (synced_count s.since + calls) s.since)
    ∙ ap (λ (l : List Change). begun bytes (drop (synced_count s.since + calls) s.since)
    (content s.first l)) (take-min (synced_count s.since + calls) s.since)
  where
    take-min : (n : ℕ) (l : List Change) → take (min n (length l)) l ≡ take n l
    take-min n l =
        ⊎_elim (λ low. ap (λ (m : ℕ). take m l) (omega (arith, low)))
        (λ high. take_all (min n (length l)) l (omega (arith, high))
        ∙ sym (take_all n l (omega (arith, high)))) (cases_lt n (length l))

    drop-min : (n : ℕ) (l : List Change) → drop (min n (length l)) l ≡ drop n l
    drop-min n l =
        ⊎_elim (λ low. ap (λ (m : ℕ). drop m l) (omega (arith, low)))
        (λ high. drop_all (min n (length l)) l (omega (arith, high))
        ∙ sym (drop_all n l (omega (arith, high)))) (cases_lt n (length l))

-- a fact of a value is one of an answer that gives it
pub if-ok : {E : Type 0} (r : Result (List ℕ) E) (x : List ℕ) (P : List ℕ → Type 0)
    → IfOk r (λ v. v ≡ x) → P x → IfOk r P
if-ok (Ok v) x P is here = subst P (sym is) here
if-ok (Err e) x P is here = tt
