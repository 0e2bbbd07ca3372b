-- The greatest version that was delivered from a source under an id, by the last place of one.
use Rattle.std.proofs.Common.{◌≡◌, ℕ, suc, ◌-◌, ◌<◌, Bool, true, List, [], ◌∷◌, ◌++◌, length, get_or, take, Some, None, sym, ap, ◌∙◌, arith, add-one}
use Rattle.std.proofs.lemmas.List.{append-nil, take_more}
use Rattle.tuple_values.specs.Document.{ByteList}
use Rattle.shard_versions.specs.declared.entry.Kind.TheVariants.{Mark}
use Rattle.shard_versions.specs.declared.entry.Entry.{Entry}
use Rattle.shard_versions.specs.Histories.{History}
use Rattle.shard_versions.specs.Deliveries.{sent_version, sents}
use Rattle.shard_versions.specs.Places.{last_where}
use Rattle.shard_versions.specs.Indexes.{is_delivery, greatest, so_far, greatests_after}
use Rattle.shard_versions.proofs.DeliveryLemmas.{sents-append}
use Rattle.shard_versions.proofs.PlaceLemmas.{last_where-bound, last_where-found}
use Rattle.shard_versions.proofs.IndexLemmas.{sents-last, so_far-greatest, greatests_after-length, greatests_after-at}

module _ (src id : ByteList) (h : History) (at : ℕ)
    (is : at ≡ last_where (λ e. is_delivery src id e.kind) h) where
  -- the place before it is in the list of the greatest versions
  pub greatest-bound : (gs : List ℕ) → gs ≡ greatests_after [] h → 0 < at → at - 1 < length gs
  greatest-bound gs e some =
      omega (arith, is, last_where-bound (λ (x : Entry). is_delivery src id x.kind) h, ap length e, greatests_after-length [] h)

  -- where there is no place, nothing was delivered
  pub greatest-none : at ≡ 0 → None ≡ greatest (sents src id h)
  unfolding sents
  greatest-none z =
      sym (ap greatest (sents-last src id h ∙ ap (λ n. sents src id (take n h)) (sym is ∙ z)))

  -- else the greatest version is the one that stands there
  pub greatest-some : (gs : List ℕ) → gs ≡ greatests_after [] h → 0 < at
      → Some (get_or gs (at - 1) 0) ≡ greatest (sents src id h)
  unfolding sents
  greatest-some gs e some =
      let p : Entry → Bool = λ x. is_delivery src id x.kind in
      let k : ℕ = at - 1 in
      let d : Entry = record { by = 0; kind = Mark } in
      let s : at ≡ suc k = omega arith in
      let lt : k < length h = omega (arith, is, last_where-bound p h) in
      let yes_it : is_delivery src id (get_or h k d).kind ≡ true = last_where-found p h k d (sym is ∙ s) in
      let there : get_or gs k 0 ≡ so_far (take k h) (get_or h k d).kind =
      ap (λ ns. get_or ns k 0) e ∙ greatests_after-at [] h k 0 d lt in
      let all : sents src id h ≡ sents src id (take k h) ++ sent_version src id (get_or h k d).kind =
      sents-last src id h
      ∙ (ap (λ n. sents src id (take n h)) (sym is ∙ (s ∙ sym (add-one k)))
      ∙ (ap (sents src id) (take_more h k d lt)
      ∙ (sents-append src id (take k h) (get_or h k d ∷ [])
      ∙ ap (λ vs. sents src id (take k h) ++ vs) (append-nil (sent_version src id (get_or h k d).kind))))) in
      ap (λ n. Some n) there
      ∙ (so_far-greatest src id (take k h) (get_or h k d).kind yes_it ∙ sym (ap greatest all))
