-- The writes of an update may be appended at their shards.
use Rattle.std.proofs.Common.{◌≡◌, ℕ, ◌+◌, ◌-◌, ◌<◌, ◌≤◌, ◌&&◌, Bool, true, false, cond, ltb, List, [], ◌∷◌, ◌++◌, Option, Some, None, length, get_or, map, refl, sym, ap, subst, ◌∙◌, arith, inl, inr}
use Rattle.std.specs.Prelude.{filter, nat_lt}
use Rattle.std.proofs.lemmas.Bool.{cases_lt, lt-ltb}
use Rattle.std.proofs.lemmas.Bool.Decides.{nat_tests}
use Rattle.std.specs.List.{AllByRecursion}
use Rattle.tuple_values.specs.Document.{ByteList}
use Rattle.tuple_values.specs.declared.names.NameShards.{NameShards}
use Rattle.tuple_values.specs.declared.write.Write.{Write}
use Rattle.tuple_values.specs.declared.write.Write.TheVariants as write
use Rattle.shard_versions.specs.Deliveries.{mark_by, is_plain, ArePlain}
use Rattle.shard_versions.specs.Fitness.{is_fit, is_routed, is_storable_kind, AreStorable, IsFit}
use Rattle.shard_versions.specs.declared.entry.Entry.{Entry}
use Rattle.shard_versions.specs.declared.entry.Kind.{Kind}
use Rattle.shard_versions.proofs.ListLemmas.{each_append, each_weaker}
use Rattle.topic_book.specs.Cells.{Place, place_in, place_of, cells_in, cell_of}
use Rattle.topic_book.specs.Fitness.{shards_of}
use Rattle.once_core.specs.Law.{IsFitAt, IsFitCell}
use Rattle.once_core.proofs.KeepingLemmas.{fit_append}
use Rattle.once_core.proofs.PlaceLemmas.{place-cell}
use Rattle.exchange_rules.specs.Cells.{Log}
use Rattle.exchange_rules.specs.Steps.{kind_of, routed, entries_by, AreBy, AreStorableWrites}
use Rattle.site_laws.specs.Duties.{IsFitStep, MayWrite}
use Rattle.site_laws.proofs.CellLemmas.{shard-below}

-- two tests that pass
pub both-true : (a b : Bool) → a ≡ true → b ≡ true → (a && b) ≡ true
both-true a b e f = ap (λ x. x && b) e ∙ f

-- the write of an update is plain
kind-plain : (w : Write) → is_plain (kind_of w) ≡ true
kind-plain (write.Put doc) = refl
kind-plain (write.Del id) = refl

-- a shard's share of the writes is fit for it
routed-each : (me shards shard : ℕ) (ws : List Write) → AreStorableWrites ws
    → AllByRecursion (λ (e : Entry). is_fit shards shard e.kind ≡ true)
    (entries_by me (routed shards shard ws))
routed-each me shards shard [] s = tt
routed-each me shards shard (w ∷ ws) s =
    go (is_routed shards shard (kind_of w)) refl (routed-each me shards shard ws s.1)
  where
    rest : List Kind
    rest = filter (is_routed shards shard) (map kind_of ws)

    go : (b : Bool) → is_routed shards shard (kind_of w) ≡ b
        → AllByRecursion (λ (e : Entry). is_fit shards shard e.kind ≡ true) (entries_by me rest)
        → AllByRecursion (λ (e : Entry). is_fit shards shard e.kind ≡ true)
        (entries_by me (cond b (kind_of w ∷ rest) rest))
    go true e more =
        (both-true (is_storable_kind (kind_of w)) (is_routed shards shard (kind_of w)) s.0 e, more)
    go false e more = more

-- and delivers nothing
plain-each : (me shards shard : ℕ) (ws : List Write)
    → AllByRecursion (λ (e : Entry). is_plain e.kind ≡ true)
    (entries_by me (routed shards shard ws))
plain-each me shards shard [] = tt
plain-each me shards shard (w ∷ ws) =
    go (is_routed shards shard (kind_of w)) (plain-each me shards shard ws)
  where
    rest : List Kind
    rest = filter (is_routed shards shard) (map kind_of ws)

    go : (b : Bool)
        → AllByRecursion (λ (e : Entry). is_plain e.kind ≡ true) (entries_by me rest)
        → AllByRecursion (λ (e : Entry). is_plain e.kind ≡ true)
        (entries_by me (cond b (kind_of w ∷ rest) rest))
    go true more = (kind-plain w, more)
    go false more = more

-- a shard's share of the writes may stand in its cell
pub routed-fit : (names : List NameShards) (me : ℕ) (collection : ByteList) (shard : ℕ)
    (ws : List Write) → shard < shards_of names collection → AreStorableWrites ws
    → IsFitStep names (cell_of names collection shard)
    (entries_by me (routed (shards_of names collection) shard ws))
unfolding IsFitCell IsFit ArePlain
routed-fit names me collection shard ws lt s =
    let p = place-cell names collection shard lt in
    let n = shards_of names collection in
    record {
      fit = subst (λ o. IsFitAt o (entries_by me (routed n shard ws))) (sym p.1)
          (routed-each me n shard ws s);
      plain = plain-each me n shard ws;
    }

-- each cell but the book's is a shard's
pub place-within : (names : List NameShards) (cell : ℕ) → cell < cells_in names
    → (p : Place) × (place_of names cell ≡ Some p)
unfolding place_of cells_in
place-within [] cell lt = absurd (omega arith)
place-within (n ∷ names) cell lt =
    elim (cases_lt cell n.shards) [
      | inl l ↦ (
        place_in n cell,
        ap (λ b. cond b (Some (place_in n cell)) (place_of names (cell - n.shards)))
            (lt-ltb cell n.shards l),
      )
      | inr g ↦
          let past : ltb cell n.shards ≡ false = grind (arith, nat_tests) in
          let more = place-within names (cell - n.shards) (omega (arith, lt, g)) in (
            more.0,
            ap (λ b. cond b (Some (place_in n cell)) (place_of names (cell - n.shards))) past
                ∙ more.1,
          )
    ]

-- a Mark may stand in each shard's cell
pub mark-fit : (names : List NameShards) (me cell : ℕ) → cell < cells_in names
    → IsFitStep names cell (mark_by me ∷ [])
unfolding IsFitCell IsFit ArePlain
mark-fit names me cell lt =
    let p = place-within names cell lt in
    record {
      fit = subst (λ o. IsFitAt o (mark_by me ∷ [])) (sym p.1) (refl, tt);
      plain = (refl, tt);
    }

-- a step with a Mark behind it may stand where it may
pub closed-fit : (names : List NameShards) (me cell : ℕ) (step : List Entry)
    → cell < cells_in names → IsFitStep names cell step
    → IsFitStep names cell (step ++ mark_by me ∷ [])
unfolding IsFitCell ArePlain
closed-fit names me cell step lt s =
    let mark = mark-fit names me cell lt in
    record {
      fit = fit_append (place_of names cell) step (mark_by me ∷ []) s.fit mark.fit;
      plain = each_append (λ (e : Entry). is_plain e.kind ≡ true) step (mark_by me ∷ []) s.plain
          mark.plain;
    }

-- a step that isn't empty may be written where it may stand, whatever was seen
pub may-write : (names : List NameShards) (me : ℕ) (seen : List Log) (c : ℕ) (step : List Entry)
    → c < cells_in names → c < length seen → 0 < length step → AreBy me step
    → IsFitStep names c step → MayWrite names me seen c step
may-write names me seen c step lt within filled own s = record {
  step_is = record {
    filled = filled;
    in_range = shard-below (cells_in names) seen c lt within;
    fit = s.fit;
    own = own;
  };
  plain = s.plain;
}

-- the first of two tests that pass
first-true : (a b : Bool) → (a && b) ≡ true → a ≡ true
first-true true b e = refl
first-true false b e = absurd (cc)

-- what may stand in a cell can be kept
pub fit-storable : (names : List NameShards) (c : ℕ) (step : List Entry) → c < cells_in names
    → IsFitCell names c step → AreStorable step
unfolding IsFitCell IsFit AreStorable
fit-storable names c step lt fit =
    let p = place-within names c lt in
    let here = subst (λ o. IsFitAt o step) p.1 fit in
    each_weaker (λ (e : Entry). is_fit p.0.shards p.0.shard e.kind ≡ true)
    (λ (e : Entry). is_storable_kind e.kind ≡ true)
    (λ e f. first-true (is_storable_kind e.kind) (is_routed p.0.shards p.0.shard e.kind) f) step
    here
