-- What a shard keeps beside its entries, with one more entry and at each place.
use Rattle.std.proofs.Common.{◌≡◌, ℕ, zero, suc, ◌+◌, ◌<◌, max, ◌&&◌, Bool, true, false, cond, List, [], ◌∷◌, ◌++◌, length, get_or, set, take, drop, Option, Some, None, refl, sym, ap, subst, ◌∙◌, arith, append_assoc, bytes_eq}
use Rattle.std.specs.Prelude.{unwrap_or, nat_lt}
use Rattle.std.proofs.lemmas.List.{append-nil}
use Rattle.std.proofs.lemmas.Bool.Decides.{nat_tests}
use Rattle.std.proofs.lemmas.Slice.Eq.{bytes_eq-Decides}
use Rattle.tuple_values.specs.Document.{ByteList}
use Rattle.shard_versions.specs.Documents.{id_of}
use Rattle.shard_versions.specs.declared.entry.Kind.{Kind}
use Rattle.shard_versions.specs.declared.entry.Kind.TheVariants.{Put, Del, Sent, Mark}
use Rattle.shard_versions.specs.declared.entry.Entry.{Entry}
use Rattle.shard_versions.specs.Histories.{History}
use Rattle.shard_versions.specs.Deliveries.{sent_version, sents, are_below}
use Rattle.shard_versions.specs.Places.{placed, last_where}
use Rattle.shard_versions.specs.Indexes.{written_id, is_id, is_write_of, is_delivery, first_place, next_of, nexts_of, before_of, relinked, greater, greatest, so_far, greatests_after}

-- an entry that does nothing
abbrev pub no_entry : Entry
no_entry = record { by = 0; kind = Mark }

-- two tests that both hold
pub and-both : (a b : Bool) → (a && b) ≡ true → (a ≡ true) × (b ≡ true)
and-both true b h = (refl, h)
and-both false b h = absurd (cc)

-- the first place with one more entry, whose place is given
abbrev first_after : ℕ → Bool → ℕ → ℕ
first_after zero writes place = cond writes place 0
first_after (suc n) writes place = suc n

pub first_place-push : (id : ByteList) (at : ℕ) (h : History) (e : Entry)
    → first_place id at (h ++ e ∷ []) ≡ first_after (first_place id at h) (is_write_of id e.kind) (suc (at + length h))
unfolding first_place
first_place-push id at [] e = go (is_write_of id e.kind)
  where
    go : (b : Bool) → cond b (suc at) 0 ≡ cond b (suc (at + 0)) 0
    go true = omega arith
    go false = refl
first_place-push id at (x ∷ h) e = go (is_write_of id x.kind) (first_place-push id (suc at) h e)
  where
    go : (b : Bool)
        → first_place id (suc at) (h ++ e ∷ []) ≡ first_after (first_place id (suc at) h) (is_write_of id e.kind) (suc (suc at + length h))
        → cond b (suc at) (first_place id (suc at) (h ++ e ∷ []))
        ≡ first_after (cond b (suc at) (first_place id (suc at) h)) (is_write_of id e.kind) (suc (at + suc (length h)))
    go true r = refl
    go false r =
        r ∙ ap (first_after (first_place id (suc at) h) (is_write_of id e.kind))
        (let s : suc (suc at + length h) ≡ suc (at + suc (length h)) = omega arith in s)

-- where there is no write of the id there is no first one
pub first_place-none : (id : ByteList) (at : ℕ) (h : History)
    → last_where (λ e. is_write_of id e.kind) h ≡ 0 → first_place id at h ≡ 0
unfolding first_place last_where
first_place-none id at [] z = refl
first_place-none id at (x ∷ h) z =
    go (last_where (λ e. is_write_of id e.kind) h) (is_write_of id x.kind) z (first_place-none id (suc at) h)
  where
    go : (n : ℕ) (b : Bool) → placed n b ≡ 0 → (n ≡ 0 → first_place id (suc at) h ≡ 0)
        → cond b (suc at) (first_place id (suc at) h) ≡ 0
    go zero true z f = absurd (omega arith)
    go zero false z f = f refl
    go (suc n) b z f = absurd (omega arith)

-- where there is one, there is a first one
pub first_place-some : (id : ByteList) (at : ℕ) (h : History) (m : ℕ)
    → last_where (λ e. is_write_of id e.kind) h ≡ suc m → (k : ℕ) × (first_place id at h ≡ suc k)
unfolding first_place last_where
first_place-some id at [] m z = absurd (omega arith)
first_place-some id at (x ∷ h) m z =
    go (last_where (λ e. is_write_of id e.kind) h) (is_write_of id x.kind) z (first_place-some id (suc at) h)
  where
    go : (n : ℕ) (b : Bool) → placed n b ≡ suc m
        → ((m : ℕ) → n ≡ suc m → (k : ℕ) × (first_place id (suc at) h ≡ suc k))
        → (k : ℕ) × (cond b (suc at) (first_place id (suc at) h) ≡ suc k)
    go n true z f = (at, refl)
    go zero false z f = absurd (omega arith)
    go (suc n) false z f = f n refl

-- byte lists that aren't equal aren't equal the other way round
pub bytes_eq-flipped : (a b : ByteList) → bytes_eq a b ≡ false → bytes_eq b a ≡ false
bytes_eq-flipped a b h = go (bytes_eq b a) refl
  where
    go : (c : Bool) → bytes_eq b a ≡ c → bytes_eq b a ≡ false
    go true e = absurd (let f = (bytes_eq-Decides a b).1 (sym ((bytes_eq-Decides b a).0 e)) in cc)
    go false e = e

-- the places of next writes with one more entry
pub nexts_of-push : (at : ℕ) (h : History) (e : Entry)
    → nexts_of at (h ++ e ∷ [])
    ≡ relinked (before_of (written_id e.kind) h) (suc (at + length h)) (nexts_of at h) ++ 0 ∷ []
unfolding nexts_of first_place last_where
nexts_of-push at [] e = go (written_id e.kind)
  where
    go : (w : Option ByteList) → next_of w (suc at) [] ∷ [] ≡ relinked (before_of w []) (suc (at + 0)) [] ++ 0 ∷ []
    go None = refl
    go (Some id) = refl
nexts_of-push at (x ∷ h) e = go (written_id e.kind) refl (nexts_of-push (suc at) h e)
  where
    place : ℕ
    place = suc (at + suc (length h))

    Tail : Option ByteList → Type 0
    Tail w = nexts_of (suc at) (h ++ e ∷ []) ≡ relinked (before_of w h) (suc (suc at + length h)) (nexts_of (suc at) h) ++ 0 ∷ []

    -- an entry that writes another id leaves the head
    same : (id : ByteList) → is_write_of id e.kind ≡ false → first_place id (suc at) (h ++ e ∷ []) ≡ first_place id (suc at) h
    same id not_it =
        first_place-push id (suc at) h e
        ∙ (ap (λ b. first_after (first_place id (suc at) h) b (suc (suc at + length h))) not_it ∙ out (first_place id (suc at) h))
      where
        out : (n : ℕ) → first_after n false (suc (suc at + length h)) ≡ n
        out zero = refl
        out (suc n) = refl

    -- a later write leaves the head where an earlier one stands
    found : (id : ByteList) (m : ℕ) → last_where (λ y. is_write_of id y.kind) h ≡ suc m
        → first_place id (suc at) (h ++ e ∷ []) ≡ first_place id (suc at) h
    found id m l =
        let f = first_place-some id (suc at) h m l in
        first_place-push id (suc at) h e
        ∙ (ap (λ n. first_after n (is_write_of id e.kind) (suc (suc at + length h))) f.1 ∙ sym f.1)

    -- the head where the entry is the first later write of its id
    here : (id : ByteList) → is_write_of id e.kind ≡ true → last_where (λ y. is_write_of id y.kind) h ≡ 0
        → first_place id (suc at) (h ++ e ∷ []) ≡ place
    here id it l =
        first_place-push id (suc at) h e
        ∙ (ap (λ n. first_after n (is_write_of id e.kind) (suc (suc at + length h))) (first_place-none id (suc at) h l)
        ∙ (ap (λ b. cond b (suc (suc at + length h)) 0) it
        ∙ (let s : suc (suc at + length h) ≡ place = omega arith in s)))

    plain : (w : Option ByteList) → written_id e.kind ≡ None → next_of w (suc at) (h ++ e ∷ []) ≡ next_of w (suc at) h
    plain None none = refl
    plain (Some id) none = same id (ap (is_id id) none)

    tail_none : Tail None → (w : Option ByteList) → next_of w (suc at) (h ++ e ∷ []) ≡ next_of w (suc at) h
        → next_of w (suc at) (h ++ e ∷ []) ∷ nexts_of (suc at) (h ++ e ∷ [])
        ≡ (next_of w (suc at) h ∷ nexts_of (suc at) h) ++ 0 ∷ []
    tail_none t w s = rw (s, t) refl

    go : (w : Option ByteList) → written_id e.kind ≡ w → Tail w
        → next_of (written_id x.kind) (suc at) (h ++ e ∷ []) ∷ nexts_of (suc at) (h ++ e ∷ [])
        ≡ relinked (before_of w (x ∷ h)) place (next_of (written_id x.kind) (suc at) h ∷ nexts_of (suc at) h) ++ 0 ∷ []
    go None is t = tail_none t (written_id x.kind) (plain (written_id x.kind) is)
    go (Some id) is t =
        split (written_id x.kind) (last_where (λ y. is_write_of id y.kind) h) refl t
      where
        it : is_write_of id e.kind ≡ true
        it = ap (is_id id) is ∙ (bytes_eq-Decides id id).1 refl

        other : (j : ByteList) → bytes_eq id j ≡ false → is_write_of j e.kind ≡ false
        other j d = ap (is_id j) is ∙ bytes_eq-flipped id j d

        further : suc (suc at + length h) ≡ place
        further = omega arith

        Goal : Option ByteList → ℕ → Bool → Type 0
        Goal w n b =
            next_of w (suc at) (h ++ e ∷ []) ∷ nexts_of (suc at) (h ++ e ∷ [])
            ≡ relinked (placed n b) place (next_of w (suc at) h ∷ nexts_of (suc at) h) ++ 0 ∷ []

        -- the head stays, and the tail is relinked
        stays : (w : Option ByteList) (m : ℕ) → next_of w (suc at) (h ++ e ∷ []) ≡ next_of w (suc at) h
            → nexts_of (suc at) (h ++ e ∷ []) ≡ set (nexts_of (suc at) h) m (suc (suc at + length h)) ++ 0 ∷ []
            → (b : Bool) → Goal w (suc m) b
        stays w m s t b = rw (s, t, further) refl

        unlinked : (w : Option ByteList) → next_of w (suc at) (h ++ e ∷ []) ≡ next_of w (suc at) h
            → nexts_of (suc at) (h ++ e ∷ []) ≡ nexts_of (suc at) h ++ 0 ∷ [] → Goal w 0 false
        unlinked w s t = rw (s, t) refl

        linked : (w : Option ByteList) → next_of w (suc at) (h ++ e ∷ []) ≡ place
            → nexts_of (suc at) (h ++ e ∷ []) ≡ nexts_of (suc at) h ++ 0 ∷ [] → Goal w 0 true
        linked w s t = rw (s, t) refl

        split : (w : Option ByteList) (n : ℕ) → last_where (λ y. is_write_of id y.kind) h ≡ n
            → nexts_of (suc at) (h ++ e ∷ []) ≡ relinked n (suc (suc at + length h)) (nexts_of (suc at) h) ++ 0 ∷ []
            → Goal w n (is_id id w)
        split None zero l t = unlinked None refl t
        split None (suc m) l t = stays None m refl t false
        split (Some j) n l t = by (bytes_eq id j) refl n l t
          where
            by : (b : Bool) → bytes_eq id j ≡ b → (n : ℕ) → last_where (λ y. is_write_of id y.kind) h ≡ n
                → nexts_of (suc at) (h ++ e ∷ []) ≡ relinked n (suc (suc at + length h)) (nexts_of (suc at) h) ++ 0 ∷ []
                → Goal (Some j) n b
            by true d zero l t =
                let s : id ≡ j = (bytes_eq-Decides id j).0 d in
                linked (Some j) (subst (λ i. first_place i (suc at) (h ++ e ∷ []) ≡ place) s (here id it l)) t
            by true d (suc m) l t =
                let s : id ≡ j = (bytes_eq-Decides id j).0 d in
                stays (Some j) m (subst (λ i. first_place i (suc at) (h ++ e ∷ []) ≡ first_place i (suc at) h) s (found id m l)) t true
            by false d zero l t = unlinked (Some j) (same j (other j d)) t
            by false d (suc m) l t = stays (Some j) m (same j (other j d)) t false

-- there are as many as entries
pub nexts_of-length : (at : ℕ) (h : History) → length (nexts_of at h) ≡ length h
unfolding nexts_of
nexts_of-length at [] = refl
nexts_of-length at (x ∷ h) = ap suc (nexts_of-length (suc at) h)

-- the place of the next write at a place
pub nexts_of-at : (at : ℕ) (h : History) (k n : ℕ) (d : Entry) → k < length h
    → get_or (nexts_of at h) k n ≡ next_of (written_id (get_or h k d).kind) (suc (at + k)) (drop (suc k) h)
unfolding nexts_of
nexts_of-at at [] k n d lt = absurd (omega arith)
nexts_of-at at (x ∷ h) zero n d lt = ap (λ m. next_of (written_id x.kind) (suc m) h) (let e : at ≡ at + 0 = omega arith in e)
nexts_of-at at (x ∷ h) (suc k) n d lt =
    nexts_of-at (suc at) h k n d (omega arith)
    ∙ ap (λ m. next_of (written_id (get_or h k d).kind) (suc m) (drop (suc k) h)) (let e : suc at + k ≡ at + suc k = omega arith in e)

-- the greatest of versions with one more
pub greatest-push : (ws : List ℕ) (v : ℕ) → greatest (ws ++ v ∷ []) ≡ greater v (greatest ws)
greatest-push [] v = refl
greatest-push (w ∷ ws) v = ap (greater w) (greatest-push ws v) ∙ swapped (greatest ws)
  where
    swapped : (g : Option ℕ) → greater w (greater v g) ≡ greater v (greater w g)
    swapped None = ap (λ k. Some k) (let e : max w v ≡ max v w = omega arith in e)
    swapped (Some u) = ap (λ k. Some k) (let e : max w (max v u) ≡ max v (max w u) = omega arith in e)

-- whether a version is above the greatest
abbrev pub passes : ℕ → Option ℕ → Bool
passes v None = true
passes v (Some w) = nat_lt w v

-- versions are below a number where the greatest is
pub are_below-greatest : (v : ℕ) (ws : List ℕ) → are_below v ws ≡ passes v (greatest ws)
are_below-greatest v [] = refl
are_below-greatest v (w ∷ ws) = go (greatest ws) (are_below v ws) (are_below-greatest v ws)
  where
    and_true : (a b : Bool) → b ≡ true → (a && b) ≡ a
    and_true true b e = e
    and_true false b e = refl

    both : (u w v : ℕ) → (nat_lt w v && nat_lt u v) ≡ nat_lt (max w u) v
    both u w v = grind (arith, nat_tests)

    go : (g : Option ℕ) (b : Bool) → b ≡ passes v g → (nat_lt w v && b) ≡ passes v (greater w g)
    go None b e = and_true (nat_lt w v) b e
    go (Some u) b e = rw e (both u w v)

-- an entry that is no delivery sends no version
pub sent_version-silent : (src id : ByteList) (k : Kind) → is_delivery src id k ≡ false → sent_version src id k ≡ []
sent_version-silent src id (Put d) h = refl
sent_version-silent src id (Del i) h = refl
sent_version-silent src id (Sent s v d) h = ap (λ b. cond b (v ∷ []) []) h
sent_version-silent src id Mark h = refl

-- all deliveries stand up to the last one
pub sents-last : (src id : ByteList) (h : History)
    → sents src id h ≡ sents src id (take (last_where (λ e. is_delivery src id e.kind) h) h)
unfolding sents last_where
sents-last src id [] = refl
sents-last src id (x ∷ h) =
    go (last_where (λ e. is_delivery src id e.kind) h) (is_delivery src id x.kind) refl (sents-last src id h)
  where
    go : (n : ℕ) (b : Bool) → is_delivery src id x.kind ≡ b → sents src id h ≡ sents src id (take n h)
        → sent_version src id x.kind ++ sents src id h ≡ sents src id (take (placed n b) (x ∷ h))
    go zero true is e = ap (λ r. sent_version src id x.kind ++ r) e
    go zero false is e = rw (sent_version-silent src id x.kind is) e
    go (suc n) b is e = ap (λ r. sent_version src id x.kind ++ r) e

-- the greatest version so far, at a delivery of the source and id
pub so_far-greatest : (src id : ByteList) (h : History) (k : Kind) → is_delivery src id k ≡ true
    → Some (so_far h k) ≡ greatest (sents src id h ++ sent_version src id k)
so_far-greatest src id h (Put d) t = absurd (cc)
so_far-greatest src id h (Del i) t = absurd (cc)
so_far-greatest src id h Mark t = absurd (cc)
so_far-greatest src id h (Sent s v d) t =
    let b = and-both (bytes_eq src s) (bytes_eq id (id_of d)) t in
    let e : src ≡ s = (bytes_eq-Decides src s).0 b.0 in
    let f : id ≡ id_of d = (bytes_eq-Decides id (id_of d)).0 b.1 in
    let one : sents src id h ++ cond (bytes_eq src s && bytes_eq id (id_of d)) (v ∷ []) [] ≡ sents src id h ++ v ∷ [] =
    ap (λ c. sents src id h ++ cond c (v ∷ []) []) t in
    let same : greatest (sents s (id_of d) h) ≡ greatest (sents src id h) = rw (e, f) refl in
    ap (λ g. Some (max v (unwrap_or g 0))) same
    ∙ (go (greatest (sents src id h)) ∙ sym (ap greatest one ∙ greatest-push (sents src id h) v))
  where
    go : (g : Option ℕ) → Some (max v (unwrap_or g 0)) ≡ greater v g
    go None = ap (λ n. Some n) (let e : max v 0 ≡ v = omega arith in e)
    go (Some w) = refl

-- the greatest versions with one more entry
pub greatests_after-push : (before h : History) (e : Entry)
    → greatests_after before (h ++ e ∷ []) ≡ greatests_after before h ++ so_far (before ++ h) e.kind ∷ []
unfolding greatests_after
greatests_after-push before [] e = ap (λ b. so_far b e.kind ∷ []) (sym (append-nil before))
greatests_after-push before (x ∷ h) e =
    ap (λ r. so_far before x.kind ∷ r)
    (greatests_after-push (before ++ x ∷ []) h e
    ∙ ap (λ b. greatests_after (before ++ x ∷ []) h ++ so_far b e.kind ∷ []) (append_assoc before (x ∷ []) h))

-- there are as many as entries
pub greatests_after-length : (before h : History) → length (greatests_after before h) ≡ length h
unfolding greatests_after
greatests_after-length before [] = refl
greatests_after-length before (x ∷ h) = ap suc (greatests_after-length (before ++ x ∷ []) h)

-- the greatest version at a place
pub greatests_after-at : (before h : History) (k n : ℕ) (d : Entry) → k < length h
    → get_or (greatests_after before h) k n ≡ so_far (before ++ take k h) (get_or h k d).kind
unfolding greatests_after
greatests_after-at before [] k n d lt = absurd (omega arith)
greatests_after-at before (x ∷ h) zero n d lt = ap (λ b. so_far b x.kind) (sym (append-nil before))
greatests_after-at before (x ∷ h) (suc k) n d lt =
    greatests_after-at (before ++ x ∷ []) h k n d (omega arith)
    ∙ ap (λ b. so_far b (get_or h k d).kind) (append_assoc before (x ∷ []) (take k h))

-- what a test of a delivery needs
pub ruleset admits_tests = (are_below-greatest)
