-- What a topic gives of the documents to come, and its parts.
use Rattle.std.proofs.Common.{◌≡◌, ℕ, ◌+◌, ◌<◌, List, [], ◌∷◌, ◌++◌, Bool, true, false, length}
use Rattle.std.proofs.Common.{get_or, drop, map, filter, refl, ap, sym, ◌∙◌, append_assoc, Option}
use Rattle.std.proofs.Common.{◌&&◌, cond}
use Rattle.std.specs.Prelude.{nat_lt}
use Rattle.std.specs.Cmp.{IsTotalOrder, then_total, on_total, nat_cmp_total}
use Rattle.std.specs.Option.{option_map_or}
use Rattle.std.proofs.lemmas.List.{at_drop_more}
use Rattle.tuple_values.specs.Document.{ByteList, Doc}
use Rattle.query_syntax.specs.Matching.{matches}
use Rattle.query_syntax.specs.Tree.{ClauseTree}
use Rattle.query_syntax.specs.declared.query.Query.{Query}
use Rattle.shard_versions.specs.declared.cut.CutPart.{CutPart}
use Rattle.expr_types.specs.ExprTree.{ExprTree, operator_in, expr_tree, expr_step}
use Rattle.expr_types.specs.Parts.{topic_in}
use Rattle.expr_types.specs.Rules.{rule_of}
use Rattle.expr_types.specs.declared.expr.Expr.TheVariants as expr
use Rattle.expr_types.specs.declared.expr.Expr.TheFolds.{fold-roll-Expr}
use Rattle.expr_types.specs.declared.expr.Expr.TheOpen.{Expr-F}
use Rattle.source_streams.specs.Batches.{batch_over, cut_item, item_cmp, item_of, new_items}
use Rattle.source_streams.specs.Batches.{topic_items}
use Rattle.source_streams.specs.Founds.{item_found}
use Rattle.source_streams.specs.declared.batch.Found.{Found}
use Rattle.source_streams.specs.declared.batch.TopicItem.{TopicItem}

-- a document with its version, by what was read at a place
pub pair_is : (docs : List (ℕ × Doc)) (k version : ℕ) (doc : Doc)
    → ((d : ℕ × Doc) → version ≡ (get_or docs k d).0)
    → ((d : ℕ × Doc) → doc ≡ (get_or docs k d).1)
    → (version, doc) ≡ get_or docs k (version, doc)
pair_is docs k version doc a b =
    let left = a (version, doc) in
    let right = b (version, doc) in
    λ i. (left i, right i)

-- what passes and is made of an element stands behind what was made before
pub made_more : {X Y : Type 0} (test : X → Bool) (f : X → Y) (made : List Y) (xs : List X) (k : ℕ)
    (x : X) → k < length xs → x ≡ get_or xs k x → test x ≡ true
    → made ++ map f (filter test (drop k xs))
    ≡ (made ++ f x ∷ []) ++ map f (filter test (drop (k + 1) xs))
made_more test f made xs k x lt is passes =
    ap (λ rest. made ++ rest)
    (at_drop_more (λ rest. map f (filter test rest)) xs k x lt ∙ rw (← is, passes) refl)
    ∙ sym (append_assoc made (f x ∷ []) (map f (filter test (drop (k + 1) xs))))

-- an element that doesn't pass leaves what is to come
pub made_less : {X Y : Type 0} (test : X → Bool) (f : X → Y) (made : List Y) (xs : List X) (k : ℕ)
    (x : X) → k < length xs → x ≡ get_or xs k x → test x ≡ false
    → made ++ map f (filter test (drop k xs)) ≡ made ++ map f (filter test (drop (k + 1) xs))
made_less test f made xs k x lt is fails =
    ap (λ rest. made ++ rest)
    (at_drop_more (λ rest. map f (filter test rest)) xs k x lt ∙ rw (← is, fails) refl)

-- what passes both of two tests is what passes the second of what passes the first
filter-both : {X : Type 0} (p q : X → Bool) (xs : List X)
    → filter (λ x. p x && q x) xs ≡ filter q (filter p xs)
filter-both p q [] = refl
filter-both p q (x ∷ xs) = go (p x) (filter-both p q xs)
  where
    go : (b : Bool) → filter (λ y. p y && q y) xs ≡ filter q (filter p xs)
        → cond (b && q x) (x ∷ filter (λ y. p y && q y) xs) (filter (λ y. p y && q y) xs)
        ≡ filter q (cond b (x ∷ filter p xs) (filter p xs))
    go true e = ap (λ r. cond (q x) (x ∷ r) r) e
    go false e = e

-- what passes a test passes it again
filter-twice : {X : Type 0} (p : X → Bool) (xs : List X) → filter p (filter p xs) ≡ filter p xs
filter-twice p [] = refl
filter-twice p (x ∷ xs) = go (p x) refl (filter-twice p xs)
  where
    go : (b : Bool) → p x ≡ b → filter p (filter p xs) ≡ filter p xs
        → filter p (cond b (x ∷ filter p xs) (filter p xs)) ≡ cond b (x ∷ filter p xs) (filter p xs)
    go true is e =
        ap (λ c. cond c (x ∷ filter p (filter p xs)) (filter p (filter p xs))) is
        ∙ ap (λ r. x ∷ r) e
    go false is e = e

-- what is new of the documents from a place on is what is new, where just those are above the number
pub new_from : (q : List ClauseTree) (low shard n : ℕ) (docs : List (ℕ × Doc))
    → filter (λ (d : ℕ × Doc). nat_lt low d.0) docs ≡ drop n docs
    → new_items q low shard (drop n docs) ≡ new_items q low shard docs
new_from q low shard n docs above =
    let is_above : ℕ × Doc → Bool = λ d. nat_lt low d.0 in
    let is_taken : ℕ × Doc → Bool = λ d. matches q d.1 in
    ap (map (item_of shard))
    (filter-both is_above is_taken (drop n docs)
    ∙ ap (λ r. filter is_taken (filter is_above r)) (sym above)
    ∙ ap (filter is_taken) (filter-twice is_above docs)
    ∙ sym (filter-both is_above is_taken docs))

-- an item that is cut stands behind those before it
pub cut_more : (names : List ByteList) (made : List TopicItem) (found : List Found) (k : ℕ)
    (f : Found) → k < length found → f ≡ get_or found k f
    → made ++ map (cut_item names) (map item_found (drop k found))
    ≡ (made ++ cut_item names (item_found f) ∷ [])
    ++ map (cut_item names) (map item_found (drop (k + 1) found))
cut_more names made found k f lt is =
    ap (λ rest. made ++ rest)
    (at_drop_more (λ rest. map (cut_item names) (map item_found rest)) found k f lt
    ∙ ap (λ g. cut_item names (item_found g)
    ∷ map (cut_item names) (map item_found (drop (k + 1) found))) (sym is))
    ∙ sym (append_assoc made (cut_item names (item_found f) ∷ [])
    (map (cut_item names) (map item_found (drop (k + 1) found))))

-- items are in a total order
pub item_cmp_total : IsTotalOrder item_cmp
item_cmp_total =
    then_total (on_total (λ (i : TopicItem). i.version) nat_cmp_total)
    (on_total (λ (i : TopicItem). i.shard) nat_cmp_total)

-- what a topic gives is by its parts
pub batch_over-parts : (checkpoints collection id : ByteList) (q : Query) (q_text : ByteList)
    (fl : List ByteList) (init : Option ℕ) (cut : List CutPart) (above : List ℕ)
    → batch_over (expr.Topic checkpoints collection id q q_text fl init) cut above
    ≡ topic_items (record {
      checkpoints = checkpoints;
      collection = collection;
      id = id;
      q = q.clauses;
      q_text = q_text;
      fl = fl;
      init = init;
    }) cut above
batch_over-parts checkpoints collection id q q_text fl init cut above =
    ap (λ (t : ExprTree). option_map_or (λ p. topic_items p cut above)
    (topic_in (rule_of (operator_in t)).source) [])
    (ap expr_tree (sym (expr.rolls-Topic checkpoints collection id q q_text fl init))
    ∙ fold-roll-Expr ExprTree expr_step (Expr-F.Topic checkpoints collection id q q_text fl init))
