-- Parts of a cut, one after another, as a call takes them.
use Rattle.std.proofs.Common.{◌≡◌, ℕ, ◌+◌, ◌<◌, ◌≤◌, List, [], ◌∷◌, ◌++◌, length, get_or, drop, sym, ap, ◌∙◌, subst}
use Rattle.std.proofs.lemmas.List.{drop_all}
use Rattle.std.specs.Prelude.{Result}
use Rattle.tuple_values.specs.Document.{ByteList}
use Rattle.tuple_values.specs.declared.names.NameShards.{NameShards}
use Rattle.shard_versions.specs.Shards.{Shown}
use Rattle.shard_versions.specs.declared.cut.CutPart.{CutPart}
use Rattle.topic_book.specs.Cells.{cell_of}
use Rattle.topic_book.specs.Fitness.{shards_of}
use Rattle.exchange_rules.specs.Cells.{history_in}
use Rattle.exchange_rules.specs.Courses.{Course, ends, looks}
use Rattle.exchange_rules.specs.Following.{Writer}
use Rattle.exchange_rules.specs.Primitives.{LooksAt}
use Rattle.exchange_rules.specs.Calls.{HasAppended, Completed}
use Rattle.exchange_rules.specs.Rows.{Layout, shown_of, part_of, cut_shards, cut_course}
use Rattle.exchange_rules.specs.declared.fault.SiteFault.{SiteFault}
use Rattle.exchange_rules.proofs.PrimitiveLemmas.{looks_from}
use Rattle.stream_site.specs.Spots.{IsSpot}
use Rattle.stream_site.specs.declared.spot.Spot.{Spot}
use Rattle.stream_site.proofs.PlaceLemmas.{from_item}

-- the part that a look shows
pub part_looked : (old mid : Writer) (c : ByteList) (shard cell : ℕ) (cut cut' : List CutPart)
    (s : Shown) → cell < length old.seen → LooksAt old mid cell
    → s ≡ shown_of (history_in (get_or mid.seen cell []))
    → cut' ≡ cut ++ record { collection = c; shard = shard; snapshot = s } ∷ []
    → HasAppended old mid (looks cell (λ log. ends (cut ++ part_of c shard (history_in log) ∷ [])))
    (ends cut') 0
part_looked old mid c shard cell cut cut' s lt l e f =
    let look = looks cell (λ log. ends (cut ++ part_of c shard (history_in log) ∷ [])) in
    let same : cut' ≡ cut ++ part_of c shard (history_in (get_or mid.seen cell [])) ∷ [] =
    f ∙ ap (λ (x : Shown). cut ++ record { collection = c; shard = shard; snapshot = x } ∷ []) e in
    subst (λ x. HasAppended old mid look (ends x) 0) (sym same)
    (looks_from old mid cell (λ log. ends (cut ++ part_of c shard (history_in log) ∷ [])) lt l)

-- what was done where a call stands is the course's look at its shard
pub part_here : (old new : Writer) (l m : Layout) (c : ByteList) (s stand : ℕ) (at : Spot)
    (cut : List CutPart) (r : Result (List CutPart) SiteFault) → m ≡ l
    → IsSpot m.names c s stand at
    → Completed old new (looks at.cell (λ log. ends
    (cut ++ part_of at.collection.now at.shard (history_in log) ∷ []))) r
    → Completed old new
    (looks (cell_of l.names c s) (λ log. ends (cut ++ part_of c s (history_in log) ∷ []))) r
part_here old new l m c s stand at cut r e i p =
    let P : ℕ → ByteList → ℕ → Type 0 = λ cell of n. Completed old new
    (looks cell (λ log. ends (cut ++ part_of of n (history_in log) ∷ []))) r in
    let a = subst (λ x. P x at.collection.now at.shard) i.cell_is p in
    let b = subst (λ x. P (cell_of m.names c s) x at.shard) i.collection_is a in
    let d = subst (P (cell_of m.names c s) c) i.shard_is b in
    subst (λ (x : Layout). P (cell_of x.names c s) c s) e d

-- a collection's part, as the writer finds it now
pub collection_here : (old new : Writer) (l m : Layout) (c : ByteList) (cut : List CutPart)
    (r : Result (List CutPart) SiteFault) → m ≡ l
    → Completed old new (cut_shards m.names c 0 (shards_of m.names c) cut) r
    → Completed old new (cut_shards l.names c 0 (shards_of l.names c) cut) r
collection_here old new l m c cut r e p =
    subst (λ (x : Layout). Completed old new (cut_shards x.names c 0 (shards_of x.names c) cut) r)
    e p

-- the collections from one on
pub next_collection : (old new : Writer) (p : Course (List CutPart)) (names : List NameShards)
    (cut : List CutPart) (collections : List ByteList) (i : ℕ) (c : ByteList)
    → i < length collections → c ≡ get_or collections i c
    → HasAppended old new p (cut_course names cut (drop i collections)) 0
    → HasAppended old new p (cut_course names cut (c ∷ drop (i + 1) collections)) 0
next_collection old new p names cut collections i c lt e s =
    subst (λ x. HasAppended old new p (cut_course names cut x) 0) (from_item collections i c lt e) s

-- none is left
pub no_collection : (old new : Writer) (p : Course (List CutPart)) (names : List NameShards)
    (cut : List CutPart) (collections : List ByteList) (i : ℕ) → length collections ≤ i
    → HasAppended old new p (cut_course names cut (drop i collections)) 0
    → HasAppended old new p (ends cut) 0
no_collection old new p names cut collections i le s =
    subst (λ x. HasAppended old new p (cut_course names cut x) 0) (drop_all i collections le) s
