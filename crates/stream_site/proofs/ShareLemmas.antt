-- The steps of an update and of a delivery, as its writes or items come one by one.
use Rattle.std.proofs.Common.{◌≡◌, ◌≢◌, ℕ, ◌<◌, ◌==◌, Bool, List, [], ◌∷◌, ◌++◌, length, get_or, set, map, sym, ap, ◌∙◌, subst, append-nil, length-set, inl, inr, if◌then◌else◌, replicate}
use Rattle.std.specs.Prelude.{filter}
use Rattle.std.proofs.lemmas.List.{get_or-set_same, get_or-set_other, get_or-replicate, length-replicate, get_or-map, map-append, length-map}
use Rattle.std.proofs.lemmas.List.Elements.{filter-append}
use Rattle.std.proofs.lemmas.Bool.Decides.{eqb_tells}
use Rattle.tuple_values.specs.Document.{ByteList}
use Rattle.tuple_values.specs.Keys.{shard_of}
use Rattle.tuple_values.specs.declared.write.Write.{Write}
use Rattle.shard_versions.specs.Documents.{id_of}
use Rattle.shard_versions.specs.Fitness.{is_routed}
use Rattle.shard_versions.specs.declared.entry.Entry.{Entry}
use Rattle.shard_versions.specs.declared.entry.Kind.{Kind}
use Rattle.exchange_rules.specs.Deliveries.{sent_kind, sent_kinds}
use Rattle.exchange_rules.specs.Steps.{kind_of, written_id, routed, entries_by}
use Rattle.exchange_rules.specs.declared.batch.BatchItem.{BatchItem}
use Rattle.exchange_rules.proofs.RoutingLemmas.{routed_is}
use Rattle.stream_site.specs.Shares.{AreRouted, AreShares, AreCounts}

-- one kind, by a test that is known
keep_if : (b c : Bool) (k : Kind) → b ≡ c
    → (if b then k ∷ [] else []) ≡ (if c then k ∷ [] else [])
keep_if b c k e = ap (λ x. if x then k ∷ [] else []) e

-- one more kind behind the others, which belongs to this shard
filter-push : (n s h : ℕ) (ks : List Kind) (k : Kind) → is_routed n s k ≡ (h == s)
    → filter (is_routed n s) (ks ++ k ∷ [])
    ≡ filter (is_routed n s) ks ++ (if h == s then k ∷ [] else [])
filter-push n s h ks k e =
    filter-append (is_routed n s) ks (k ∷ [])
    ∙ ap (λ x. filter (is_routed n s) ks ++ x) (keep_if (is_routed n s k) (h == s) k e)

-- is one more entry in its shard's step
pub routed_push : (me n : ℕ) (ks : List Kind) (k : Kind) (steps : List (List Entry)) (h : ℕ)
    (e : Entry) → AreRouted me n ks steps → ((s : ℕ) → is_routed n s k ≡ (h == s)) → h < n
    → e ≡ record { by = me; kind = k }
    → AreRouted me n (ks ++ k ∷ []) (set steps h (get_or steps h [] ++ e ∷ []))
routed_push me n ks k steps h e a at lt is = record {
  counted = length-set steps h (get_or steps h [] ++ e ∷ []) ∙ a.counted;
  shares = λ s below.
      let more : List Entry = get_or steps h [] ++ e ∷ [] in
      let share = filter (is_routed n s) ks in
      let pushed = filter-push n s h ks k (at s) in
      elim (eqb_tells h s) [
        | inl t ↦
            let here : h ≡ s = t.1 in
            let now : get_or (set steps h more) s [] ≡ more =
            ap (λ x. get_or (set steps h more) x []) (sym here)
            ∙ get_or-set_same steps h more [] (subst (λ x. h < x) (sym a.counted) lt) in
            let old : get_or steps h [] ≡ entries_by me share =
            ap (λ x. get_or steps x []) here ∙ a.shares s below in
            let one : entries_by me (filter (is_routed n s) (ks ++ k ∷ []))
            ≡ entries_by me share ++ record { by = me; kind = k } ∷ [] =
            ap (entries_by me) (pushed ∙ ap (λ b. share ++ (if b then k ∷ [] else [])) t.0)
            ∙ map-append _ share (k ∷ []) in
            now ∙ (ap (λ x. x ++ e ∷ []) old
            ∙ (ap (λ x. entries_by me share ++ x ∷ []) is ∙ sym one))
        | inr t ↦
            let other : s ≢ h = λ q. t.1 (sym q) in
            let one : entries_by me (filter (is_routed n s) (ks ++ k ∷ [])) ≡ entries_by me share =
            ap (entries_by me)
            (pushed ∙ (ap (λ b. share ++ (if b then k ∷ [] else [])) t.0 ∙ append-nil share)) in
            get_or-set_other steps h s more [] other ∙ (a.shares s below ∙ sym one)
      ];
}

-- the same of a write
pub shares_push : (me n : ℕ) (ws : List Write) (w : Write) (steps : List (List Entry)) (h : ℕ)
    (e : Entry) → AreShares me n ws steps → h ≡ shard_of n (written_id w) → h < n
    → e ≡ record { by = me; kind = kind_of w }
    → AreShares me n (ws ++ w ∷ []) (set steps h (get_or steps h [] ++ e ∷ []))
shares_push me n ws w steps h e a at lt is =
    subst (λ ks. AreRouted me n ks (set steps h (get_or steps h [] ++ e ∷ [])))
    (sym (map-append kind_of ws (w ∷ [])))
    (routed_push me n (map kind_of ws) (kind_of w) steps h e a
    (λ s. routed_is n s w ∙ ap (λ x. x == s) (sym at)) lt is)

-- and of an item
pub items_push : (me n : ℕ) (src : ByteList) (batch : List BatchItem) (i : BatchItem)
    (steps : List (List Entry)) (h : ℕ) (e : Entry) → AreRouted me n (sent_kinds src batch) steps
    → h ≡ shard_of n (id_of i.document) → h < n → e ≡ record { by = me; kind = sent_kind src i }
    → AreRouted me n (sent_kinds src (batch ++ i ∷ []))
    (set steps h (get_or steps h [] ++ e ∷ []))
items_push me n src batch i steps h e a at lt is =
    subst (λ ks. AreRouted me n ks (set steps h (get_or steps h [] ++ e ∷ [])))
    (sym (map-append (sent_kind src) batch (i ∷ [])))
    (routed_push me n (sent_kinds src batch) (sent_kind src i) steps h e a
    (λ s. ap (λ x. x == s) (sym at)) lt is)

-- nothing is in empty steps
pub routed_none : (me n : ℕ) → AreRouted me n [] (replicate n [])
routed_none me n = record {
  counted = length-replicate n [];
  shares = λ s lt. get_or-replicate n s [] [] lt;
}

-- the steps' lengths are the counts
pub shares_counts : (me n : ℕ) (ws : List Write) (steps : List (List Entry))
    → AreShares me n ws steps → AreCounts n ws (map length steps)
shares_counts me n ws steps a s lt =
    get_or-map length steps s [] 0 (subst (λ x. s < x) (sym a.counted) lt)
    ∙ (ap length (a.shares s lt) ∙ length-map (routed n s ws) _)

-- the entry of an item, whose source was copied
pub sent_is : (me : ℕ) (src copy : ByteList) (i : BatchItem) (e : Entry) → copy ≡ src
    → e ≡ record { by = me; kind = sent_kind copy i } → e ≡ record { by = me; kind = sent_kind src i }
sent_is me src copy i e same is = is ∙ ap (λ s. record { by = me; kind = sent_kind s i }) same
