-- A log with one more entry, and its entries at each place.
use Rattle.std.proofs.Common.{◌≡◌, ℕ, zero, suc, ◌+◌, ◌-◌, ◌<◌, ◌≤◌, Bool, true, false, List, [], ◌∷◌, ◌++◌, length, get_or, take, drop, map, Some, None, refl, sym, ap, subst, ◌∙◌, arith, append_assoc, length-append, drop-cons, add-one}
use Rattle.std.specs.Prelude.{unwrap_or, option_to_list, not, ◌&&◌}
use Rattle.std.specs.Option.{is_some}
use Rattle.std.specs.declared.cmp.Ordering.{Ordering}
use Rattle.std.specs.declared.cmp.Ordering.TheVariants.{Less, Equal, Greater}
use Rattle.std.proofs.lemmas.List.{append-nil, take_more, take-append-drop, get_or-append_right, get_or-map, map-append, length-map, length-drop}
use Rattle.tuple_values.specs.Document.{ByteList, Datum, Doc, bytes_cmp, value_at, put, put_by, without}
use Rattle.tuple_values.proofs.BytesLemmas.{itself, bytes_by}
use Rattle.tuple_values.proofs.MapLemmas.{value_without_other}
use Rattle.shard_segments.specs.declared.slot.Slot as segments
use Rattle.shard_versions.specs.Documents.{id_name, version_name, id_of, with_version, is_storable, text_of, is_empty, has_group}
use Rattle.shard_versions.specs.declared.entry.Kind.{Kind}
use Rattle.shard_versions.specs.declared.entry.Kind.TheVariants.{Put, Del, Sent, Mark}
use Rattle.shard_versions.specs.declared.entry.Entry.{Entry}
use Rattle.shard_versions.specs.declared.log.Act.{Act}
use Rattle.shard_versions.specs.declared.log.Act.TheVariants.{Puts, Deletes, Delivers, Marks}
use Rattle.shard_versions.specs.declared.log.Note.{Note}
use Rattle.shard_versions.specs.declared.log.Made.{Made}
use Rattle.shard_versions.specs.Histories.{History, Slot, slots, slots_after, slot_of, last_version, version_after}
use Rattle.shard_versions.specs.Fitness.{is_storable_kind}
use Rattle.shard_versions.specs.Stored.{kept_slot, no_slot, last_stored}
use Rattle.shard_versions.specs.Logs.{bare_at, kind_in, entry_in, entries_in, width, widths_before, bare_kind, act_kind, made_entry, IsMade, AreMade}
use Rattle.shard_versions.proofs.VersionLemmas.{slots_after-append, last_version-append}

-- how many writes there are among entries
abbrev pub writes : History → ℕ
writes [] = 0
writes (e ∷ h) = width e.kind + writes h

-- an entry has as many slots as it is wide
pub slot_of-length : (v : ℕ) (k : Kind) → length (slot_of v k) ≡ width k
slot_of-length v (Put d) = refl
slot_of-length v (Del i) = refl
slot_of-length v (Sent s w d) = refl
slot_of-length v Mark = refl

-- there are as many slots as writes
pub slots_after-length : (v : ℕ) (h : History) → length (slots_after v h) ≡ writes h
unfolding slots_after
slots_after-length v [] = refl
slots_after-length v (e ∷ h) =
    length-append (slot_of (version_after v e.kind) e.kind) (slots_after (version_after v e.kind) h)
    ∙ omega (arith, slot_of-length (version_after v e.kind) e.kind, slots_after-length (version_after v e.kind) h)

pub slots-length : (h : History) → length (slots h) ≡ writes h
unfolding slots
slots-length h = slots_after-length 0 h

-- writes of more entries
pub writes-append : (h g : History) → writes (h ++ g) ≡ writes h + writes g
writes-append [] g = omega arith
writes-append (e ∷ h) g = omega (arith, writes-append h g)

-- the first entries have no more writes
pub writes-take : (n : ℕ) (h : History) → writes (take n h) ≤ writes h
writes-take n h = omega (arith, writes-append (take n h) (drop n h), ap writes (take-append-drop n h))

-- writes up to one entry more
pub writes-more : (h : History) (p : ℕ) (d : Entry) → p < length h
    → writes (take (p + 1) h) ≡ writes (take p h) + width (get_or h p d).kind
writes-more h p d lt =
    ap writes (take_more h p d lt) ∙ omega (arith, writes-append (take p h) (get_or h p d ∷ []))

-- how many writes stand before an entry
pub widths_before-at : (before : ℕ) (h : History) (p d : ℕ) → p < length h
    → get_or (widths_before before h) p d ≡ before + writes (take p h)
unfolding widths_before
widths_before-at before [] p d lt = absurd (omega arith)
widths_before-at before (e ∷ h) zero d lt = omega arith
widths_before-at before (e ∷ h) (suc p) d lt =
    widths_before-at (before + width e.kind) h p d (omega arith)
    ∙ (let s : before + width e.kind + writes (take p h) ≡ before + (width e.kind + writes (take p h)) = omega arith in s)

-- the same of one entry more
pub widths_before-push : (before : ℕ) (h : History) (e : Entry)
    → widths_before before (h ++ e ∷ []) ≡ widths_before before h ++ (before + writes h) ∷ []
unfolding widths_before
widths_before-push before [] e = ap (λ n. n ∷ []) (let s : before ≡ before + 0 = omega arith in s)
widths_before-push before (x ∷ h) e =
    ap (λ r. before ∷ r)
    (widths_before-push (before + width x.kind) h e
    ∙ ap (λ n. widths_before (before + width x.kind) h ++ n ∷ [])
    (let s : before + width x.kind + writes h ≡ before + (width x.kind + writes h) = omega arith in s))

-- the version of the last slot
pub last_stored-at : (v n : ℕ) (ss : List segments.Slot) (d : segments.Slot) → length ss ≡ suc n
    → last_stored v ss ≡ (get_or ss n d).version
last_stored-at v n [] d e = absurd (omega arith)
last_stored-at v zero (s ∷ []) d e = refl
last_stored-at v zero (s ∷ t ∷ ss) d e = absurd (omega arith)
last_stored-at v (suc n) (s ∷ []) d e = absurd (omega arith)
last_stored-at v (suc n) (s ∷ t ∷ ss) d e = last_stored-at s.version n (t ∷ ss) d (omega arith)

pub last_stored-none : (v : ℕ) (ss : List segments.Slot) → length ss ≡ 0 → last_stored v ss ≡ v
last_stored-none v [] e = refl
last_stored-none v (s ∷ ss) e = absurd (omega arith)

-- it is that of the last write
pub last_stored-kept : (v : ℕ) (ss : List Slot) → last_stored v (map kept_slot ss) ≡ last_version v ss
last_stored-kept v [] = refl
last_stored-kept v (s ∷ ss) = last_stored-kept s.version ss

-- the version of the last of these writes is at most their number behind the one before
pub last_version-few : (v : ℕ) (h : History) → last_version v (slots_after v h) ≤ v + length h
unfolding slots_after
last_version-few v [] = omega arith
last_version-few v (e ∷ h) = go e.kind (λ w. last_version-few w h)
  where
    go : (k : Kind) → ((w : ℕ) → last_version w (slots_after w h) ≤ w + length h)
        → last_version v (slot_of (version_after v k) k ++ slots_after (version_after v k) h) ≤ v + suc (length h)
    go (Put d) f = omega (arith, f (v + 1))
    go (Del i) f = omega (arith, f (v + 1))
    go (Sent s w d) f = omega (arith, f (v + 1))
    go Mark f = omega (arith, f v)

pub last-few : (h : History) → last_version 0 (slots h) ≤ length h
unfolding slots
last-few h = omega (arith, last_version-few 0 h)

-- the id stays where the version is taken out
pub id_of-without : (d : Doc) → id_of (without version_name d) ≡ id_of d
unfolding id_of
id_of-without d = ap text_of (value_without_other id_name version_name d (λ e. cc))

-- a document with its version put in and taken out again, where it had none
pub without-put : (n : ByteList) (v : Datum) (d : Doc) → is_some (value_at n d) ≡ false → without n (put n v d) ≡ d
without-put n v [] absent = ap (λ o. put_by o ((n, v) ∷ []) [] ((n, v) ∷ [])) (itself n)
without-put n v (f ∷ d) absent = go (bytes_cmp f.0 n) refl (without-put n v d)
  where
    go : (o : Ordering) → bytes_cmp f.0 n ≡ o → (is_some (value_at n d) ≡ false → without n (put n v d) ≡ d)
        → without n (put_by o (f ∷ put n v d) ((n, v) ∷ d) ((n, v) ∷ f ∷ d)) ≡ f ∷ d
    go Less e r =
        ap (λ o. put_by o (f ∷ without n (put n v d)) (put n v d) (f ∷ without n (put n v d))) e
        ∙ ap (λ x. f ∷ x) (r (rw (bytes_by f.0 n Less e) at absent))
    go Equal e r = absurd (let h = rw (bytes_by f.0 n Equal e) at absent in cc)
    go Greater e r =
        ap (λ o. put_by o ((n, v) ∷ without n (f ∷ d)) (f ∷ d) ((n, v) ∷ without n (f ∷ d))) (itself n)

-- a document that can be kept is itself again
pub without-with_version : (v : ℕ) (d : Doc) → is_storable d ≡ true → without version_name (with_version v d) ≡ d
unfolding is_storable with_version
without-with_version v d storable =
    without-put version_name _ d (absent (not (is_empty (id_of d))) (not (has_group d)) (is_some (value_at version_name d)) storable)
  where
    absent : (a b c : Bool) → (a && b && not c) ≡ true → c ≡ false
    absent a b false h = refl
    absent true true true h = absurd (cc)
    absent true false true h = absurd (cc)
    absent false b true h = absurd (cc)

-- one slot in front, its document without its version
pub bare_at-one : (s : segments.Slot) (ss : List segments.Slot) (d : Doc) → s.document ≡ Some d
    → bare_at (s ∷ ss) 0 ≡ without version_name d
bare_at-one s ss d e = ap (λ o. without version_name (unwrap_or o [])) e

-- what is made ready of an entry that can be kept is that entry
pub made-right : (v : ℕ) (k : Kind) (a : Act) (ts : List segments.Slot) → act_kind a ≡ bare_kind k
    → ts ≡ map kept_slot (slot_of v k) → is_storable_kind k ≡ true → kind_in ts 0 a ≡ k
made-right v (Put d) Puts ts e t s =
    ap (λ x. Put (bare_at x 0)) t ∙ ap Put (without-with_version v d s)
made-right v (Put d) (Deletes i) ts e t s = absurd (cc)
made-right v (Put d) (Delivers o) ts e t s = absurd (cc)
made-right v (Put d) Marks ts e t s = absurd (cc)
made-right v (Del j) Puts ts e t s = absurd (cc)
made-right v (Del j) (Deletes i) ts e t s = e
made-right v (Del j) (Delivers o) ts e t s = absurd (cc)
made-right v (Del j) Marks ts e t s = absurd (cc)
made-right v (Sent r w d) Puts ts e t s = absurd (cc)
made-right v (Sent r w d) (Deletes i) ts e t s = absurd (cc)
made-right v (Sent r w d) (Delivers o) ts e t s =
    let src : o.value.src ≡ r = cc in
    let version : o.value.version ≡ w = cc in
    ap (λ x. Sent o.value.src o.value.version (bare_at x 0)) t
    ∙ (ap (λ x. Sent o.value.src o.value.version x) (without-with_version v d s)
    ∙ (ap (λ x. Sent x o.value.version d) src ∙ ap (λ x. Sent r x d) version))
made-right v (Sent r w d) Marks ts e t s = absurd (cc)
made-right v Mark Puts ts e t s = absurd (cc)
made-right v Mark (Deletes i) ts e t s = absurd (cc)
made-right v Mark (Delivers o) ts e t s = absurd (cc)
made-right v Mark Marks ts e t s = refl

-- the version that is reached behind what is made ready
abbrev pub reached : ℕ → List Made → ℕ
reached last [] = last
reached last (m ∷ ms) = reached (version_after last (made_entry m).kind) ms

-- one more made ready
pub AreMade-push : (last : ℕ) (ms : List Made) (m : Made) → AreMade last ms → IsMade (reached last ms) m
    → AreMade last (ms ++ m ∷ [])
AreMade-push last [] m a b = (b, tt)
AreMade-push last (x ∷ ms) m a b = (a.0, AreMade-push (version_after last (made_entry x).kind) ms m a.1 b)

pub reached-push : (last : ℕ) (ms : List Made) (m : Made)
    → reached last (ms ++ m ∷ []) ≡ version_after (reached last ms) (made_entry m).kind
reached-push last [] m = refl
reached-push last (x ∷ ms) m = reached-push (version_after last (made_entry x).kind) ms m

-- nothing is made ready of no entry
pub AreMade-none : (last : ℕ) (ms : List Made) → map made_entry ms ≡ [] → AreMade last ms
AreMade-none last [] e = tt
AreMade-none last (m ∷ ms) e = absurd (cc)

-- the version of the last write with one more entry
pub last-push : (h : History) (e : Entry)
    → last_version 0 (slots (h ++ e ∷ [])) ≡ version_after (last_version 0 (slots h)) e.kind
unfolding slots slots_after
last-push h e =
    ap (last_version 0) (slots_after-append 0 h (e ∷ []))
    ∙ (last_version-append 0 (slots_after 0 h) (slots_after (last_version 0 (slots_after 0 h)) (e ∷ []))
    ∙ go e.kind (last_version 0 (slots_after 0 h)))
  where
    go : (k : Kind) (v : ℕ) → last_version v (slot_of (version_after v k) k ++ []) ≡ version_after v k
    go (Put d) v = refl
    go (Del i) v = refl
    go (Sent s w d) v = refl
    go Mark v = refl

-- the slots with one more entry, whose slot is given
pub kept-push : (h : History) (e : Entry) (ss ts : List segments.Slot) → ss ≡ map kept_slot (slots h)
    → ts ≡ map kept_slot (slot_of (version_after (last_version 0 (slots h)) e.kind) e.kind)
    → ss ++ ts ≡ map kept_slot (slots (h ++ e ∷ []))
unfolding slots slots_after
kept-push h e ss ts kept made =
    ap (λ r. r ++ ts) kept
    ∙ (ap (λ r. map kept_slot (slots_after 0 h) ++ r)
    (made ∙ ap (map kept_slot) (sym (append-nil (slot_of (version_after (last_version 0 (slots_after 0 h)) e.kind) e.kind))))
    ∙ (sym (map-append kept_slot (slots_after 0 h) (slots_after (last_version 0 (slots_after 0 h)) (e ∷ [])))
    ∙ ap (map kept_slot) (sym (slots_after-append 0 h (e ∷ [])))))

-- a document at the first place behind slots
document-behind : (ss ts : List segments.Slot) → get_or (ss ++ ts) (length ss) no_slot ≡ get_or ts 0 no_slot
document-behind ss ts =
    get_or-append_right ss ts (length ss) (length ss) no_slot refl (omega arith)
    ∙ ap (λ n. get_or ts n no_slot) (let z : length ss - length ss ≡ 0 = omega arith in z)

-- what an entry does whose slot stands behind others
pub kind_in-behind : (ss ts : List segments.Slot) (a : Act) → kind_in (ss ++ ts) (length ss) a ≡ kind_in ts 0 a
kind_in-behind ss ts Puts = ap (λ s. Put (without version_name (unwrap_or s.document []))) (document-behind ss ts)
kind_in-behind ss ts (Deletes i) = refl
kind_in-behind ss ts (Delivers o) =
    ap (λ s. Sent o.value.src o.value.version (without version_name (unwrap_or s.document []))) (document-behind ss ts)
kind_in-behind ss ts Marks = refl

-- more slots behind those of an entry change nothing of it
kind_in-more : (v : ℕ) (ts more : List segments.Slot) (a : Act) (k : Kind) → kind_in ts 0 a ≡ k
    → ts ≡ map kept_slot (slot_of v k) → kind_in (ts ++ more) 0 a ≡ kind_in ts 0 a
kind_in-more v [] more Puts k e t = absurd (let f : [] ≡ map kept_slot (slot_of v (Put (bare_at [] 0))) = t ∙ ap (λ x. map kept_slot (slot_of v x)) (sym e) in cc)
kind_in-more v (s ∷ ts) more Puts k e t = refl
kind_in-more v ts more (Deletes i) k e t = refl
kind_in-more v [] more (Delivers o) k e t =
    absurd (let f : [] ≡ map kept_slot (slot_of v (Sent o.value.src o.value.version (bare_at [] 0))) = t ∙ ap (λ x. map kept_slot (slot_of v x)) (sym e) in cc)
kind_in-more v (s ∷ ts) more (Delivers o) k e t = refl
kind_in-more v ts more Marks k e t = refl

-- the entries with one more note
pub entries_in-push : (ss ts : List segments.Slot) (notes : List Note) (n : Note) → n.at ≡ length ss
    → entries_in (ss ++ ts) notes ≡ entries_in ss notes
    → entries_in (ss ++ ts) (notes ++ n ∷ []) ≡ entries_in ss notes ++ record { by = n.by; kind = kind_in ts 0 n.act } ∷ []
entries_in-push ss ts notes n at stable =
    map-append (entry_in (ss ++ ts)) notes (n ∷ [])
    ∙ (ap (λ r. r ++ entry_in (ss ++ ts) n ∷ []) stable
    ∙ ap (λ k. entries_in ss notes ++ record { by = n.by; kind = k } ∷ [])
    (ap (λ p. kind_in (ss ++ ts) p n.act) at ∙ kind_in-behind ss ts n.act))

-- they stay with more slots
pub entries_in-stable : (v : ℕ) (ss ts more : List segments.Slot) (notes : List Note) (n : Note) → n.at ≡ length ss
    → ((more : List segments.Slot) → entries_in (ss ++ more) notes ≡ entries_in ss notes)
    → ts ≡ map kept_slot (slot_of v (kind_in ts 0 n.act))
    → entries_in ((ss ++ ts) ++ more) (notes ++ n ∷ []) ≡ entries_in (ss ++ ts) (notes ++ n ∷ [])
entries_in-stable v ss ts more notes n at stable made =
    ap (λ r. entries_in r (notes ++ n ∷ [])) (append_assoc ss ts more)
    ∙ (entries_in-push ss (ts ++ more) notes n at (stable (ts ++ more))
    ∙ (ap (λ k. entries_in ss notes ++ record { by = n.by; kind = k } ∷ [])
    (kind_in-more v ts more n.act (kind_in ts 0 n.act) refl made)
    ∙ sym (entries_in-push ss ts notes n at (stable ts))))

-- a note has the number of writes before it
pub log-at : (ss : List segments.Slot) (notes : List Note) (p : ℕ) (d : Note)
    → map (λ (n : Note). n.at) notes ≡ widths_before 0 (entries_in ss notes) → p < length notes
    → (get_or notes p d).at ≡ writes (take p (entries_in ss notes))
log-at ss notes p d places lt =
    let h : History = entries_in ss notes in
    let many : length h ≡ length notes = length-map notes (entry_in ss) in
    sym (get_or-map (λ (n : Note). n.at) notes p d 0 lt)
    ∙ (ap (λ r. get_or r p 0) places
    ∙ (widths_before-at 0 h p 0 (omega arith) ∙ omega arith))

-- the slot of a write at a place is there
pub log-within : (ss : List segments.Slot) (notes : List Note) (p : ℕ) (d : Note)
    → ss ≡ map kept_slot (slots (entries_in ss notes))
    → map (λ (n : Note). n.at) notes ≡ widths_before 0 (entries_in ss notes) → p < length notes
    → width (entry_in ss (get_or notes p d)).kind ≡ 1 → (get_or notes p d).at < length ss
log-within ss notes p d kept places lt wide =
    let h : History = entries_in ss notes in
    let many : length h ≡ length notes = length-map notes (entry_in ss) in
    let at : (get_or notes p d).at ≡ writes (take p h) = log-at ss notes p d places lt in
    let here : get_or h p (entry_in ss d) ≡ entry_in ss (get_or notes p d) = get_or-map (entry_in ss) notes p d (entry_in ss d) lt in
    let more = writes-more h p (entry_in ss d) (omega arith) in
    let w : width (get_or h p (entry_in ss d)).kind ≡ 1 = ap (λ (e : Entry). width e.kind) here ∙ wide in
    let size : length ss ≡ writes h = ap length kept ∙ (length-map (slots h) kept_slot ∙ slots-length h) in
    omega (arith, at, more, w, size, writes-take (p + 1) h)

-- the same in the words of a read note, whose entry is a write
pub log-held : (ss : List segments.Slot) (notes : List Note) (p : ℕ) (x : Note) → x ≡ get_or notes p x
    → ss ≡ map kept_slot (slots (entries_in ss notes))
    → map (λ (n : Note). n.at) notes ≡ widths_before 0 (entries_in ss notes) → p < length (entries_in ss notes)
    → width (kind_in ss x.at x.act) ≡ 1 → x.at < length ss
log-held ss notes p x is kept places lt wide =
    let within : p < length notes = omega (arith, length-map notes (entry_in ss)) in
    subst (λ (n : Note). n.at < length ss) (sym is)
    (log-within ss notes p x kept places within (ap (λ (n : Note). width (kind_in ss n.at n.act)) (sym is) ∙ wide))

-- the id of a slot's document, and none where it has no document
pub id_of-bare : (ss : List segments.Slot) (at : ℕ) (x : segments.Slot) (d : Doc) → x ≡ get_or ss at no_slot
    → x.document ≡ Some d → id_of d ≡ id_of (bare_at ss at)
id_of-bare ss at x d is e =
    let o : (get_or ss at no_slot).document ≡ Some d = ap (λ (s : segments.Slot). s.document) (sym is) ∙ e in
    sym (ap (λ p. id_of (without version_name (unwrap_or p []))) o ∙ id_of-without d)

pub id_of-none : (ss : List segments.Slot) (at : ℕ) (x : segments.Slot) → x ≡ get_or ss at no_slot
    → x.document ≡ None → [] ≡ id_of (bare_at ss at)
unfolding id_of
id_of-none ss at x is e =
    let o : (get_or ss at no_slot).document ≡ None = ap (λ (s : segments.Slot). s.document) (sym is) ∙ e in
    sym (ap (λ p. text_of (value_at id_name (without version_name (unwrap_or p [])))) o)

-- what is made ready follows the version that was reached
pub made-follows : (last : ℕ) (ms : List Made) (m : Made) (e : Entry) (old v : ℕ) → made_entry m ≡ e
    → option_to_list m.slot ≡ map kept_slot (slot_of v e.kind) → v ≡ version_after old e.kind → old ≡ reached last ms
    → IsMade (reached last ms) m
made-follows last ms m e old v is slot after so =
    let k : e.kind ≡ (made_entry m).kind = ap (λ (x : Entry). x.kind) (sym is) in
    slot
    ∙ (ap (λ w. map kept_slot (slot_of w e.kind)) (after ∙ ap (λ w. version_after w e.kind) so)
    ∙ ap (λ x. map kept_slot (slot_of (version_after (reached last ms) x) x)) k)

-- a log with one more entry is right
pub log-push : (ss new : List segments.Slot) (notes more : List Note) (m : Made) (at : ℕ)
    → ss ≡ map kept_slot (slots (entries_in ss notes))
    → map (λ (n : Note). n.at) notes ≡ widths_before 0 (entries_in ss notes)
    → ((rest : List segments.Slot) → entries_in (ss ++ rest) notes ≡ entries_in ss notes)
    → IsMade (last_version 0 (slots (entries_in ss notes))) m → at ≡ length ss
    → new ≡ ss ++ option_to_list m.slot → more ≡ notes ++ record { by = m.by; at = at; act = m.act } ∷ []
    → record {
      kept : new ≡ map kept_slot (slots (entries_in new more));
      places : map (λ (n : Note). n.at) more ≡ widths_before 0 (entries_in new more);
      stable : (rest : List segments.Slot) → entries_in (new ++ rest) more ≡ entries_in new more;
      whole : entries_in new more ≡ entries_in ss notes ++ made_entry m ∷ [];
    }
log-push ss new notes more m at kept places stable made behind s n =
    let h : History = entries_in ss notes in
    let ts : List segments.Slot = option_to_list m.slot in
    let note : Note = record { by = m.by; at = at; act = m.act } in
    let v : ℕ = version_after (last_version 0 (slots h)) (made_entry m).kind in
    let now : entries_in new more ≡ entries_in (ss ++ ts) (notes ++ note ∷ []) =
    ap (λ x. entries_in x more) s ∙ ap (entries_in (ss ++ ts)) n in
    let whole : entries_in new more ≡ h ++ made_entry m ∷ [] =
    now ∙ entries_in-push ss ts notes note behind (stable ts) in
    let count : at ≡ 0 + writes h =
    omega (arith, behind, ap length kept, length-map (slots h) kept_slot, slots-length h) in
    record {
      kept = s ∙ (kept-push h (made_entry m) ss ts kept made ∙ ap (λ x. map kept_slot (slots x)) (sym whole));
      places = ap (map (λ (x : Note). x.at)) n
          ∙ (map-append (λ (x : Note). x.at) notes (note ∷ [])
          ∙ (ap (λ r. r ++ at ∷ []) places
          ∙ (ap (λ k. widths_before 0 h ++ k ∷ []) count
          ∙ (sym (widths_before-push 0 h (made_entry m)) ∙ ap (widths_before 0) (sym whole)))));
      stable = λ rest.
          ap (λ x. entries_in (x ++ rest) more) s
          ∙ (ap (entries_in ((ss ++ ts) ++ rest)) n
          ∙ (entries_in-stable v ss ts rest notes note behind stable made ∙ sym now));
      whole = whole;
    }

-- the first that is made ready, and the rest
pub made-first : (v i : ℕ) (ms rest : List Made) (m : Made) (step : List Entry) (x : Entry) → ms ≡ m ∷ rest
    → map made_entry ms ≡ drop i step → i < length step → x ≡ get_or step i x → AreMade v ms
    → record {
      entry : made_entry m ≡ x;
      entries : map made_entry rest ≡ drop (i + 1) step;
      made : IsMade v m;
      others : AreMade (version_after v (made_entry m).kind) rest;
    }
made-first v i ms rest m step x e so lt is made =
    let all : made_entry m ∷ map made_entry rest ≡ x ∷ drop (i + 1) step =
    ap (map made_entry) (sym e)
    ∙ (so ∙ (drop-cons step i x lt ∙ (ap (λ y. y ∷ drop (suc i) step) (sym is) ∙ ap (λ n. x ∷ drop n step) (sym (add-one i))))) in
    let both : AreMade v (m ∷ rest) = subst (AreMade v) e made in
    record { entry = cc; entries = cc; made = both.0; others = both.1 }

-- something is made ready as long as entries are to come
pub made-some : (i : ℕ) (ms : List Made) (step : List Entry) → length ms ≡ 0 → map made_entry ms ≡ drop i step → i < length step → ⊥
made-some i ms step e so lt = omega (arith, e, length-map ms made_entry, ap length so, length-drop i step)
