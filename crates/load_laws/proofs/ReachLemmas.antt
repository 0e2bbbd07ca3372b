-- A history in which a Mark of each indexer follows its writes is settled, and a first part of it
-- that has all entries of the last write's author has all writes.
use Rattle.std.proofs.Common.{◌≡◌, ◌≢◌, ℕ, zero, suc, ◌<◌, ◌==◌, ◌||◌, ◌&&◌, Bool, true, false, cond, not, [], ◌∷◌, ◌++◌, length, take, drop, filter, refl, sym, ap, subst, ◌∙◌, arith, eq-eqb, ne_eqb, ltb-false}
use Rattle.std.specs.List.{AllByRecursion}
use Rattle.std.proofs.lemmas.List.{take_all}
use Rattle.shard_versions.specs.declared.entry.Kind.{Kind}
use Rattle.shard_versions.specs.declared.entry.Kind.TheVariants.{Put, Del, Sent, Mark}
use Rattle.shard_versions.specs.declared.entry.Entry.{Entry}
use Rattle.shard_versions.specs.Histories.{History, committed, current, has_mark, is_mark, is_pending, last_version, latest, settled, slot_of, slots, slots_after, top, version_after}
use Rattle.shard_versions.proofs.SettledLemmas.{pending-short, settled-take}
use Rattle.load_rules.specs.Loaded.{IsIndexerEntry, by_author}

-- neither of two tests holds
neither : (a b : Bool) → (a || b) ≡ false → (a ≡ false) × (b ≡ false)
neither true b h = absurd (cc)
neither false b h = (refl, h)

-- a write that is not pending is followed by a Mark
followed : (a b : Bool) → a ≡ false → (not a && not b) ≡ false → b ≡ true
followed true b write h = absurd (cc)
followed false true write h = refl
followed false false write h = absurd (cc)

-- without the first entry nothing is pending either
pending-rest : (p : Entry → Bool) (e : Entry) (h : History)
    → is_pending (filter p (e ∷ h)) ≡ false → is_pending (filter p h) ≡ false
unfolding is_pending
pending-rest p e h none = go (p e) none
  where
    go : (b : Bool) → is_pending (cond b (e ∷ filter p h) (filter p h)) ≡ false
        → is_pending (filter p h) ≡ false
    go true n =
        (neither (not (is_mark e.kind) && not (has_mark (filter p h)))
        (is_pending (filter p h)) n).1
    go false n = n

-- a Mark that a filter takes is one of the history
mark-filter : (p : Entry → Bool) (h : History) → has_mark (filter p h) ≡ true → has_mark h ≡ true
mark-filter p [] m = m
mark-filter p (e ∷ h) m = go (p e) m (mark-filter p h)
  where
    right : (a b : Bool) → b ≡ true → (a || b) ≡ true
    right true b is = refl
    right false b is = is

    both : (a b c : Bool) → (b ≡ true → c ≡ true) → (a || b) ≡ true → (a || c) ≡ true
    both true b c f is = refl
    both false b c f is = f is

    go : (b : Bool) → has_mark (cond b (e ∷ filter p h) (filter p h)) ≡ true
        → (has_mark (filter p h) ≡ true → has_mark h ≡ true)
        → (is_mark e.kind || has_mark h) ≡ true
    go true n f = both (is_mark e.kind) (has_mark (filter p h)) (has_mark h) f n
    go false n f = right (is_mark e.kind) (has_mark h) (f n)

-- a writer's Mark follows its first entry, where that is a write and nothing of its is pending
mark-follows : (a : ℕ) (e : Entry) (h : History) → e.by ≡ a → is_mark e.kind ≡ false
    → is_pending (by_author a (e ∷ h)) ≡ false → has_mark (by_author a h) ≡ true
unfolding is_pending
mark-follows a e h by write none =
    followed (is_mark e.kind) (has_mark (by_author a h)) write
    (neither (not (is_mark e.kind) && not (has_mark (by_author a h))) (is_pending (by_author a h))
    (subst (λ b. is_pending (cond b (e ∷ by_author a h) (by_author a h)) ≡ false)
    (eq-eqb e.by a by) none)).0

-- nothing is pending where nothing of the indexers is, and each write is one's
pub pending-none : (h : History) → AllByRecursion IsIndexerEntry h
    → ((k : ℕ) → k < 4 → is_pending (by_author (suc k) h) ≡ false) → is_pending h ≡ false
unfolding is_pending
pending-none [] a closed = refl
pending-none (e ∷ h) a closed =
    go (is_mark e.kind) refl
    (pending-none h a.1 (λ k lt. pending-rest (λ x. x.by == suc k) e h (closed k lt)))
  where
    marked : (k : ℕ) → k < 4 → e.by ≡ suc k → is_mark e.kind ≡ false → has_mark h ≡ true
    marked k lt by write =
        mark-filter (λ x. x.by == suc k) h (mark-follows (suc k) e h by write (closed k lt))

    join : (b c d : Bool) → b ≡ false → c ≡ true → d ≡ false
        → (not b && not c || d) ≡ false
    join b c d p q r = rw (p, q, r) refl

    free : (b c d : Bool) → b ≡ true → d ≡ false → (not b && not c || d) ≡ false
    free b c d p r = rw (p, r) refl

    go : (b : Bool) → is_mark e.kind ≡ b → is_pending h ≡ false
        → (not (is_mark e.kind) && not (has_mark h) || is_pending h) ≡ false
    go true is rest = free (is_mark e.kind) (has_mark h) (is_pending h) is rest
    go false is rest =
        let i = a.0 is in
        join (is_mark e.kind) (has_mark h) (is_pending h) is (marked i.0 i.1 i.2 is) rest

-- a history in which nothing is pending is settled
pub settled-whole : (h : History) → is_pending h ≡ false → settled h ≡ h
settled-whole h none =
    sym (settled-take h)
    ∙ take_all (length (settled h)) h
    (ltb-false (length (settled h)) (length h) (pending-short h ∙ none))

-- so what is current in it is the latest of all its writes
pub current-whole : (h : History) → is_pending h ≡ false → current h ≡ latest (slots h)
unfolding current committed
current-whole h none = ap (λ g. latest (slots g)) (settled-whole h none)

-- whether one of the entries is a write
abbrev pub has_write : History → Bool
has_write [] = false
has_write (e ∷ h) = not (is_mark e.kind) || has_write h

-- the last write, where there is one, is by this author
abbrev pub IsLastBy : ℕ → History → Type 0
IsLastBy a [] = Unit {0}
IsLastBy a (e ∷ h) =
    (is_mark e.kind ≡ false → has_write h ≡ false → e.by ≡ a) × IsLastBy a h

-- no write is not the last one's of anybody else
none-last : (a : ℕ) (h : History) → has_write h ≡ false → IsLastBy a h
none-last a [] none = tt
none-last a (e ∷ h) none =
    let both = neither (not (is_mark e.kind)) (has_write h) none in
    (λ write rest. absurd (clash (is_mark e.kind) write both.0), none-last a h both.1)
  where
    clash : (b : Bool) → b ≡ false → not b ≡ false → ⊥
    clash true p q = cc
    clash false p q = cc

-- it is one of the indexers', where each write is
pub some-last : (h : History) → AllByRecursion IsIndexerEntry h
    → (k : ℕ) × (k < 4) × IsLastBy (suc k) h
some-last [] a = (0, omega arith, tt)
some-last (e ∷ h) a = go (has_write h) (is_mark e.kind) refl refl (some-last h a.1)
  where
    clash : (b : Bool) → b ≡ true → b ≡ false → ⊥
    clash true p q = cc
    clash false p q = cc

    go : (b m : Bool) → has_write h ≡ b → is_mark e.kind ≡ m
        → (k : ℕ) × (k < 4) × IsLastBy (suc k) h → (k : ℕ) × (k < 4) × IsLastBy (suc k) (e ∷ h)
    go true m is mark r =
        (r.0, r.1, (λ write none. absurd (clash (has_write h) is none), r.2))
    go false true is mark r =
        (r.0, r.1, (λ write none. absurd (clash (is_mark e.kind) mark write), r.2))
    go false false is mark r =
        let i = a.0 mark in (i.0, i.1, (λ write none. i.2, none-last (suc i.0) h is))

-- there is no write where none of the entries is by the last one's author
absent-none : (a : ℕ) (h : History) → IsLastBy a h → AllByRecursion (λ e. e.by ≢ a) h
    → has_write h ≡ false
absent-none a [] last absent = refl
absent-none a (e ∷ h) last absent =
    go (is_mark e.kind) refl (absent-none a h last.1 absent.1)
  where
    go : (b : Bool) → is_mark e.kind ≡ b → has_write h ≡ false
        → (not b || has_write h) ≡ false
    go true is none = none
    go false is none = absurd (absent.0 (last.0 is none))

-- entries that are no writes have no slots
no-slots : (last : ℕ) (h : History) → has_write h ≡ false → slots_after last h ≡ []
unfolding slots_after
no-slots last [] none = refl
no-slots last (e ∷ h) none = go e.kind none (λ v. no-slots v h)
  where
    go : (k : Kind) → (not (is_mark k) || has_write h) ≡ false
        → ((v : ℕ) → has_write h ≡ false → slots_after v h ≡ [])
        → slot_of (version_after last k) k ++ slots_after (version_after last k) h ≡ []
    go (Put d) n f = absurd (cc)
    go (Del i) n f = absurd (cc)
    go (Sent s v d) n f = absurd (cc)
    go Mark n f = f last n

-- an author without entries has no Mark
unmarked : (a : ℕ) (h : History) → AllByRecursion (λ e. e.by ≢ a) h
    → has_mark (by_author a h) ≡ false
unmarked a [] absent = refl
unmarked a (e ∷ h) absent = go (e.by == a) (ne_eqb e.by a absent.0) (unmarked a h absent.1)
  where
    go : (b : Bool) → b ≡ false → has_mark (by_author a h) ≡ false
        → has_mark (cond b (e ∷ by_author a h) (by_author a h)) ≡ false
    go true is later = absurd (cc)
    go false is later = later

-- either of two tests holds where the second does
or-right : (a b : Bool) → b ≡ true → (a || b) ≡ true
or-right true b is = refl
or-right false b is = is

-- the author's Mark is in the first part
mark-before : (a : ℕ) (h : History) (upto : ℕ) → has_mark (by_author a h) ≡ true
    → AllByRecursion (λ e. e.by ≢ a) (drop upto h) → has_mark (take upto h) ≡ true
mark-before a h zero m behind =
    absurd (let clash : true ≡ false = sym m ∙ unmarked a h behind in cc)
mark-before a [] (suc upto) m behind = absurd (cc)
mark-before a (e ∷ h) (suc upto) m behind =
    go (e.by == a) m (λ n. mark-before a h upto n behind)
  where
    both : (p q r : Bool) → (q ≡ true → r ≡ true) → (p || q) ≡ true → (p || r) ≡ true
    both true q r f is = refl
    both false q r f is = f is

    go : (b : Bool) → has_mark (cond b (e ∷ by_author a h) (by_author a h)) ≡ true
        → (has_mark (by_author a h) ≡ true → has_mark (take upto h) ≡ true)
        → (is_mark e.kind || has_mark (take upto h)) ≡ true
    go true n f = both (is_mark e.kind) (has_mark (by_author a h)) (has_mark (take upto h)) f n
    go false n f = or-right (is_mark e.kind) (has_mark (take upto h)) (f n)

-- so there is one where there is a write, and the last one is the author's
mark-there : (a : ℕ) (h : History) (upto : ℕ) → IsLastBy a h
    → is_pending (by_author a h) ≡ false → AllByRecursion (λ e. e.by ≢ a) (drop upto h)
    → has_write h ≡ true → has_mark (take upto h) ≡ true
mark-there a h zero last closed behind some =
    absurd (let clash : true ≡ false = sym some ∙ absent-none a h last behind in cc)
mark-there a [] (suc upto) last closed behind some = absurd (cc)
mark-there a (e ∷ h) (suc upto) last closed behind some =
    or-right (is_mark e.kind) (has_mark (take upto h))
    (go (has_write h) (is_mark e.kind) refl refl some
    (λ w. mark-there a h upto last.1 (pending-rest (λ x. x.by == a) e h closed) behind w))
  where
    go : (b m : Bool) → has_write h ≡ b → is_mark e.kind ≡ m → (not m || b) ≡ true
        → (has_write h ≡ true → has_mark (take upto h) ≡ true) → has_mark (take upto h) ≡ true
    go true m is mark n f = f is
    go false true is mark n f = absurd (cc)
    go false false is mark n f =
        mark-before a h upto (mark-follows a e h (last.0 mark is) mark closed) behind

-- all writes are settled in the first part
settled-upto : (a version : ℕ) (h : History) (upto : ℕ) → IsLastBy a h
    → is_pending (by_author a h) ≡ false → AllByRecursion (λ e. e.by ≢ a) (drop upto h)
    → slots_after version (settled (take upto h)) ≡ slots_after version h
unfolding settled slots_after
settled-upto a version h zero last closed behind =
    sym (no-slots version h (absent-none a h last behind))
settled-upto a version [] (suc upto) last closed behind = refl
settled-upto a version (e ∷ h) (suc upto) last closed behind =
    go (is_mark e.kind || has_mark (take upto h)) (has_write (e ∷ h)) refl refl
    (settled-upto a (version_after version e.kind) h upto last.1
    (pending-rest (λ x. x.by == a) e h closed) behind)
  where
    now : ℕ
    now = version_after version e.kind

    go : (b w : Bool) → (is_mark e.kind || has_mark (take upto h)) ≡ b → has_write (e ∷ h) ≡ w
        → slots_after now (settled (take upto h)) ≡ slots_after now h
        → slots_after version (cond b (e ∷ settled (take upto h)) [])
        ≡ slot_of now e.kind ++ slots_after now h
    go true w is write later = ap (λ r. slot_of now e.kind ++ r) later
    go false true is write later =
        absurd (let clash : true ≡ false =
        sym (mark-there a (e ∷ h) (suc upto) last closed behind write) ∙ is in cc)
    go false false is write later = sym (no-slots version (e ∷ h) write)

-- so its top is the version of the last write
pub top-upto : (a : ℕ) (h : History) (upto : ℕ) → IsLastBy a h
    → is_pending (by_author a h) ≡ false → AllByRecursion (λ e. e.by ≢ a) (drop upto h)
    → top (take upto h) ≡ last_version 0 (slots h)
unfolding top committed slots
top-upto a h upto last closed behind =
    ap (last_version 0) (settled-upto a 0 h upto last closed behind)
