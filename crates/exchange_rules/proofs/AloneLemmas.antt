-- A writer that is alone sees whole logs, so what it leaves and answers is a function.
use Rattle.std.proofs.Common.{◌≡◌, ◌≢◌, ℕ, zero, suc, ◌+◌, ◌-◌, ◌<◌, ◌≤◌, List, [], ◌∷◌, ◌++◌, length, get_or, set, take, drop, refl, sym, ap, ◌∙◌, subst, arith, length-drop, ◌⊎◌, inl, inr, zero-add}
use Rattle.std.proofs.lemmas.List.{take-append-le, set-get_or, drop-take, take_all}
use Rattle.std.proofs.Math.Seq.{take-add}
use Rattle.std.specs.List.{AllByRecursion}
use Rattle.shard_versions.specs.declared.cut.CutMark.{CutMark}
use Rattle.exchange_rules.specs.Cells.{Log, author_of, signed}
use Rattle.exchange_rules.specs.declared.log_entry.LogEntry.{LogEntry}
use Rattle.exchange_rules.specs.Courses.{Course, ends, looks, makes, run_alone}
use Rattle.exchange_rules.specs.Accesses.{Access, a_look, a_step, at_mark, IsLook, had_after}
use Rattle.exchange_rules.specs.Following.{IsNext, rest_after, Follows, Grows, Writer, counts, Answers}
use Rattle.exchange_rules.specs.Own.{IsAlone}

-- the first so many entries of each cell
abbrev pub shown : List ℕ → List Log → List Log
shown [] logs = []
shown (n ∷ ns) [] = []
shown (n ∷ ns) (log ∷ logs) = take n log ∷ shown ns logs

-- no entries of no log
take_none : (n : ℕ) → take n (let e : Log = [] in e) ≡ []
take_none zero = refl
take_none (suc n) = refl

-- what is shown of one cell
shown_at : (had : List ℕ) (seen : List Log) (c : ℕ)
    → get_or (shown had seen) c [] ≡ take (get_or had c 0) (get_or seen c [])
shown_at [] logs c = refl
shown_at (n ∷ ns) [] c = sym (take_none (get_or (n ∷ ns) c 0))
shown_at (n ∷ ns) (h ∷ hs) zero = refl
shown_at (n ∷ ns) (h ∷ hs) (suc c) = shown_at ns hs c

-- more of one cell is shown
shown_set : (had : List ℕ) (seen : List Log) (c u : ℕ)
    → shown (set had c u) seen ≡ set (shown had seen) c (take u (get_or seen c []))
shown_set [] logs c u = refl
shown_set (n ∷ ns) [] zero u = refl
shown_set (n ∷ ns) [] (suc c) u = refl
shown_set (n ∷ ns) (h ∷ hs) zero u = refl
shown_set (n ∷ ns) (h ∷ hs) (suc c) u = ap (λ x. take n h ∷ x) (shown_set ns hs c u)

-- nothing is left of no log
drop_none : (n : ℕ) → drop n (let e : Log = [] in e) ≡ []
drop_none zero = refl
drop_none (suc n) = refl

-- the writer's own entries have no beginning of others'
no_others : (me : ℕ) (d : Log) (k : ℕ) → AllByRecursion (λ n. author_of n ≡ me) d
    → AllByRecursion (λ n. author_of n ≢ me) (take k d) → k ≤ length d → k ≡ 0
no_others me d zero a b le = refl
no_others me [] (suc k) a b le = absurd (omega arith)
no_others me (e ∷ d) (suc k) a b le = absurd (b.0 a.0)

-- a part of a log, counted from its beginning
pub drop_take : (h : Log) (a u : ℕ) → a ≤ u → drop a (take u h) ≡ take (u - a) (drop a h)
drop_take h a u le =
    let e : u ≡ a + (u - a) = omega arith in
    ap (λ n. drop a (take n h)) e ∙ drop-take a (u - a) h

-- a look of a writer that is alone shows what it knew
whole_look : (me : ℕ) (seen : List Log) (had : List ℕ) (c : ℕ) (m : CutMark)
    → IsAlone me had seen → IsLook me seen had c m → m.upto ≡ get_or had c 0
whole_look me seen had c m alone l =
    let a = get_or had c 0 in
    let h = get_or seen c [] in
    let others = subst (λ (x : Log). AllByRecursion (λ n. author_of n ≢ me) x)
    (drop_take h a m.upto l.since) l.others in
    let d = length-drop a h in
    let fits : m.upto - a ≤ length (drop a h) = omega (arith, l.within, l.since, d) in
    let none : m.upto - a ≡ 0 =
    no_others me (drop a h) (m.upto - a) (alone c) others fits in
    omega (arith, l.since, none)

-- what holds of each entry holds of those behind a place
pub all_drop : (P : LogEntry → Type 0) (k : ℕ) (d : Log) → AllByRecursion P d
    → AllByRecursion P (drop k d)
all_drop P zero d a = a
all_drop P (suc k) [] a = tt
all_drop P (suc k) (e ∷ d) a = all_drop P k d a.1

-- entries behind a place behind another
pub drop_more : (a k : ℕ) (h : Log) → drop (a + k) h ≡ drop k (drop a h)
drop_more zero k h = ap (λ n. drop n h) (zero-add k)
drop_more (suc a) k [] =
    let e : suc a + k ≡ suc (a + k) = omega arith in
    ap (λ n. drop n (let x : Log = [] in x)) e ∙ sym (drop_none k)
drop_more (suc a) k (x ∷ h) =
    let e : suc a + k ≡ suc (a + k) = omega arith in
    ap (λ n. drop n (x ∷ h)) e ∙ drop_more a k h

-- a count that was set, and the others
get_set : (had : List ℕ) (c d n : ℕ) → c < length had
    → ((c ≡ d) × (get_or (set had c n) d 0 ≡ n)) ⊎ (get_or (set had c n) d 0 ≡ get_or had d 0)
get_set [] c d n lt = absurd (omega arith)
get_set (x ∷ had) zero zero n lt = inl (refl, refl)
get_set (x ∷ had) zero (suc d) n lt = inr refl
get_set (x ∷ had) (suc c) zero n lt = inr refl
get_set (x ∷ had) (suc c) (suc d) n lt =
    elim (get_set had c d n (omega arith)) [ inl w ↦ inl (ap suc w.0, w.1) | inr e ↦ inr e ]

-- a writer that is alone still is after a step of its own
alone_own : (me : ℕ) (seen : List Log) (had : List ℕ) (c k : ℕ) → c < length had
    → IsAlone me had seen → IsAlone me (set had c (get_or had c 0 + k)) seen
alone_own me seen had c k lt alone d =
    let h = get_or seen d [] in
    let a = get_or had d 0 in
    let P : ℕ → Type 0 = λ n. AllByRecursion (λ e. author_of e ≡ me) (drop n h) in
    elim (get_set had c d (get_or had c 0 + k) lt) [
      | inl w ↦
          let here : P (a + k) =
          subst (λ (x : Log). AllByRecursion (λ e. author_of e ≡ me) x) (sym (drop_more a k h))
          (all_drop (λ e. author_of e ≡ me) k (drop a h) (alone d)) in
          subst P (sym (w.1 ∙ ap (λ x. get_or had x 0 + k) w.0)) here
      | inr e ↦ subst P (sym e) (alone d)
    ]

-- what an access of a writer that is alone leaves to be done, and to be seen
record Stepped {A : Type 0} (me : ℕ) (seen : List Log) (had : List ℕ) (p : Course A)
    (access : Access)
    : Type 0 where
  still : IsAlone me (had_after had access) seen
  run : run_alone me (shown had seen) p
      ≡ run_alone me (shown (had_after had access) seen) (rest_after seen p access)

-- by cases of the course and the access
stepped : {A : Type 0} (me : ℕ) (seen : List Log) (had : List ℕ) (p : Course A) (access : Access)
    → IsAlone me had seen → IsNext me seen had p access → Stepped me seen had p access
stepped me seen had (ends a) access alone n = absurd n
stepped me seen had (looks c f) (a_step o) alone n = absurd n
stepped me seen had (makes c s p) (a_look m) alone n = absurd n
stepped me seen had (looks c f) (a_look m) alone n =
    let whole = whole_look me seen had c m alone n in
    let same : set had m.cell m.upto ≡ had =
    ap (λ x. set had x m.upto) n.cell_is ∙ (ap (λ x. set had c x) whole ∙ set-get_or had c 0) in
    let at : get_or (shown had seen) c [] ≡ at_mark seen m =
    shown_at had seen c ∙ (ap (λ x. take x (get_or seen c [])) (sym whole)
    ∙ ap (λ x. take m.upto (get_or seen x [])) (sym n.cell_is)) in
    record {
      still = subst (λ x. IsAlone me x seen) (sym same) alone;
      run = ap (λ h. run_alone me (shown had seen) (f h)) at
          ∙ ap (λ x. run_alone me (shown x seen) (f (at_mark seen m))) (sym same);
    }
stepped me seen had (makes c s p) (a_step o) alone n =
    let a = get_or had c 0 in
    let h = get_or seen c [] in
    let after : set had o.cell (o.from + o.count) ≡ set had c (a + length s) =
    ap (λ x. set had x (o.from + o.count)) n.cell_is
    ∙ (ap (λ x. set had c (x + o.count)) n.from ∙ ap (λ x. set had c (a + x)) n.count) in
    let there : take (length s) (drop a h) ≡ signed me s =
    ap (λ x. take x (drop a h)) (sym n.count)
    ∙ (ap (λ x. take o.count (drop x h)) (sym n.from)
    ∙ (ap (λ x. take o.count (drop o.from (get_or seen x []))) (sym n.cell_is) ∙ n.appended)) in
    let at : get_or (shown had seen) c [] ++ signed me s ≡ take (a + length s) h =
    ap (λ x. x ++ signed me s) (shown_at had seen c)
    ∙ (ap (λ x. take a h ++ x) (sym there) ∙ sym (take-add a (length s) h)) in
    record {
      still = subst (λ x. IsAlone me x seen) (sym after)
          (alone_own me seen had c (length s) n.known alone);
      run = ap (λ x. run_alone me (set (shown had seen) c x) p) at
          ∙ (ap (λ x. run_alone me x p) (sym (shown_set had seen c (a + length s)))
          ∙ ap (λ x. run_alone me (shown x seen) p) (sym after));
    }

-- accesses of a writer that is alone go on as the course runs over what it has seen
pub follows_alone : {A : Type 0} (me : ℕ) (seen : List Log) (had : List ℕ) (p : Course A)
    (accesses : List Access) (q : Course A) (end : List ℕ) → IsAlone me had seen
    → Follows me seen had p accesses q end
    → run_alone me (shown had seen) p ≡ run_alone me (shown end seen) q
follows_alone me seen had p [] q end alone f =
    ap (λ x. run_alone me (shown had seen) x) (sym f.0)
    ∙ ap (λ x. run_alone me (shown x seen) q) (sym f.1)
follows_alone me seen had p (access ∷ accesses) q end alone f =
    let s = stepped me seen had p access alone f.0 in
    s.run
    ∙ follows_alone me seen (had_after had access)
    (rest_after seen p access) accesses q end s.still f.1

-- and it is alone after them
pub alone_after : {A : Type 0} (me : ℕ) (seen : List Log) (had : List ℕ) (p : Course A)
    (accesses : List Access) (q : Course A) (end : List ℕ) → IsAlone me had seen
    → Follows me seen had p accesses q end → IsAlone me end seen
alone_after me seen had p [] q end alone f = subst (λ h. IsAlone me h seen) (sym f.1) alone
alone_after me seen had p (access ∷ accesses) q end alone f =
    let s = stepped me seen had p access alone f.0 in
    alone_after me seen (had_after had access) (rest_after seen p access) accesses q end s.still f.1

-- all entries of each cell are the logs
shown_all : (seen : List Log) → shown (counts seen) seen ≡ seen
shown_all [] = refl
shown_all (h ∷ hs) =
    ap (λ x. x ∷ shown (counts hs) hs) (take_all (length h) h (omega arith))
    ∙ ap (λ x. h ∷ x) (shown_all hs)

-- as many as there were are the logs that there were
pub shown_old : (old new : List Log) → Grows old new → shown (counts old) new ≡ old
shown_old [] [] g = refl
shown_old [] (k ∷ ks) g = absurd g
shown_old (h ∷ hs) [] g = absurd g
shown_old (h ∷ hs) (k ∷ ks) g =
    let e : take (length h) k ≡ h =
    ap (take (length h)) g.0.1
    ∙ (take-append-le (length h) h g.0.0 (omega arith) ∙ take_all (length h) h (omega arith)) in
    ap (λ x. x ∷ shown (counts hs) ks) e ∙ ap (λ x. h ∷ x) (shown_old hs ks g.1)

-- what a writer that is alone leaves and answers is a function of what it began with
pub answers_alone : {A : Type 0} (old new : Writer) (p : Course A) (a : A)
    → IsAlone old.me (counts old.seen) new.seen → Answers old new p a
    → run_alone old.me old.seen p ≡ (new.seen, a)
answers_alone old new p a alone r =
    let e = follows_alone old.me new.seen (counts old.seen) p r.accesses (ends a) (counts new.seen)
    alone r.followed in
    ap (λ x. run_alone old.me x p) (sym (shown_old old.seen new.seen r.grown))
    ∙ (e ∙ ap (λ x. (x, a)) (shown_all new.seen))
