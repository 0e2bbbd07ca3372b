-- Items of documents and of parts, one after another.
use Rattle.std.proofs.Common.{◌≡◌, ℕ, zero, suc, ◌+◌, ◌<◌, List, [], ◌∷◌, ◌++◌, get_or, length, map, take, refl, sym, ap, subst, ◌∙◌, arith, append_assoc, append-nil}
use Rattle.std.specs.List.{AllByRecursion}
use Rattle.std.proofs.Math.Seq.{take-suc}
use Rattle.tuple_values.specs.Document.{ByteList, Doc}
use Rattle.tuple_values.specs.declared.names.NameShards.{NameShards}
use Rattle.shard_versions.specs.declared.cut.CutPart.{CutPart}
use Rattle.shard_versions.proofs.ListLemmas.{each_left, each_right}
use Rattle.exchange_rules.specs.Cells.{Log}
use Rattle.exchange_rules.specs.declared.batch.BatchItem.{BatchItem}
use Rattle.case_items.specs.Items.{made_item, made_items, AreShown, IsShownPart}

-- the first elements, one more
take-next : {X : Type 0} (xs : List X) (i : ℕ) (x : X) → i < length xs → x ≡ get_or xs i x
    → take (i + 1) xs ≡ take i xs ++ x ∷ []
take-next xs i x lt e =
    let next : i + 1 ≡ suc i = omega arith in
    ap (λ n. take n xs) next
    ∙ (take-suc xs i x lt ∙ ap (λ y. take i xs ++ y ∷ []) (sym e))

-- what a function makes of one more
map-next : {X Y : Type 0} (f : X → Y) (xs : List X) (x : X)
    → map f (xs ++ x ∷ []) ≡ map f xs ++ f x ∷ []
map-next f [] x = refl
map-next f (y ∷ xs) x = ap (λ l. f y ∷ l) (map-next f xs x)

-- one more document's item
pub next-made : (src : ByteList) (documents : List (ℕ × Doc)) (k : ℕ)
    (old batch new : List BatchItem) (item : BatchItem) → k < length documents
    → batch ≡ old ++ map (made_item src) (take k documents)
    → ((d : ℕ × Doc) → item ≡ made_item src (get_or documents k d)) → new ≡ batch ++ item ∷ []
    → new ≡ old ++ map (made_item src) (take (k + 1) documents)
next-made src documents k old batch new item lt so_far is added =
    let none : ℕ × Doc = (0, []) in
    let d = get_or documents k none in
    let next : k + 1 ≡ suc k = omega arith in
    let more : take (k + 1) documents ≡ take k documents ++ d ∷ [] =
    ap (λ n. take n documents) next ∙ take-suc documents k none lt in
    added
    ∙ (ap (λ l. l ++ item ∷ []) so_far
    ∙ (append_assoc old (map (made_item src) (take k documents)) (item ∷ [])
    ∙ ap (λ l. old ++ l)
    (ap (λ x. map (made_item src) (take k documents) ++ x ∷ []) (is none)
    ∙ (sym (map-next (made_item src) (take k documents) d)
    ∙ ap (map (made_item src)) (sym more)))))

-- the items of one more part
made-more : (src : ByteList) (ps : List CutPart) (p : CutPart)
    → made_items src (ps ++ p ∷ [])
    ≡ made_items src ps ++ map (made_item src) p.snapshot.documents
made-more src [] p = append-nil (map (made_item src) p.snapshot.documents)
made-more src (q ∷ ps) p =
    let front = map (made_item src) q.snapshot.documents in
    ap (λ l. front ++ l) (made-more src ps p)
    ∙ sym (append_assoc front (made_items src ps) (map (made_item src) p.snapshot.documents))

-- one more part's items
pub part-made : (src : ByteList) (ps : List CutPart) (i : ℕ) (p : CutPart)
    (batch new : List BatchItem) → i < length ps → p ≡ get_or ps i p
    → batch ≡ made_items src (take i ps)
    → new ≡ batch ++ map (made_item src) p.snapshot.documents
    → new ≡ made_items src (take (i + 1) ps)
part-made src ps i p batch new lt at so_far added =
    added
    ∙ (ap (λ l. l ++ map (made_item src) p.snapshot.documents) so_far
    ∙ (sym (made-more src (take i ps) p)
    ∙ ap (made_items src) (sym (take-next ps i p lt at))))

-- one more part shows what was seen, and so do those before
pub part-shown : (names : List NameShards) (seen : List Log) (src : ByteList) (ps : List CutPart)
    (i : ℕ) (p : CutPart) → i < length ps → p ≡ get_or ps i p
    → AreShown names seen src (take (i + 1) ps)
    → AreShown names seen src (take i ps) × IsShownPart names seen src p
part-shown names seen src ps i p lt at a =
    let all = subst (AllByRecursion (IsShownPart names seen src)) (take-next ps i p lt at) a in (
      each_left (IsShownPart names seen src) (take i ps) (p ∷ []) all,
      (each_right (IsShownPart names seen src) (take i ps) (p ∷ []) all).0,
    )

-- what holds of all holds of the first ones
pub each-first : {X : Type 0} (P : X → Type 0) (n : ℕ) (xs : List X) → AllByRecursion P xs
    → AllByRecursion P (take n xs)
each-first P zero xs a = tt
each-first P (suc n) [] a = tt
each-first P (suc n) (x ∷ xs) a = (a.0, each-first P n xs a.1)
