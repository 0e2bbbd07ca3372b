-- The trees of a shard as they change: their nodes, and what they find.
use Rattle.std.proofs.Common.{◌≡◌, ◌⊎◌, ℕ, zero, suc, ◌+◌, ◌<◌, ◌≤◌, Bool, true, false, cond, eqb, List, [], ◌∷◌, ◌++◌, length, get_or, set, Option, Some, None, refl, sym, ap, subst, ◌∙◌, arith, inl, inr, add-one, length-append, bytes_eq}
use Rattle.std.proofs.lemmas.Bool.{cases_lt, eqb-true, eqb-false, eq-eqb}
use Rattle.std.proofs.lemmas.List.{get_or_append_left, get_or-set_same, get_or-set_other, get_or_past, length-set}
use Rattle.std.proofs.lemmas.Slice.Eq.{bytes_eq-Decides}
use Rattle.std.proofs.Math.Seq.{get_or-append_seam}
use Rattle.tuple_values.specs.Document.{ByteList}
use Rattle.shard_versions.specs.Documents.{id_of}
use Rattle.shard_versions.specs.declared.entry.Kind.{Kind}
use Rattle.shard_versions.specs.declared.entry.Kind.TheVariants.{Put, Del, Sent, Mark}
use Rattle.shard_versions.specs.declared.entry.Entry.{Entry}
use Rattle.shard_versions.specs.declared.tree.Node.{Node}
use Rattle.shard_versions.specs.declared.tree.Tree.{Tree}
use Rattle.shard_versions.specs.Histories.{History}
use Rattle.shard_versions.specs.Places.{last_where}
use Rattle.shard_versions.specs.Indexes.{written_id, is_id}
use Rattle.shard_versions.specs.Trees.{is_at, tag_of, goes, place_at, below, on_side, passes, Leads, IsIndex, Comes, Stops, Finds, first_of, leaf, no_node, joined, linked, relocated, moved}
use Rattle.shard_versions.proofs.IndexLemmas.{and-both}
use Rattle.shard_versions.proofs.TreeLemmas.{walk-begins, walk-goes, walk-stops, walk-here, walk-found, walk-missed, no-first}
use Rattle.shard_versions.proofs.GrowthLemmas.{Alike, index-skips, index-moves, index-joins, leads-planted, leads-attached}

-- what a change of one node leaves of it, it leaves of each
set-keeps : {A : Type 0} (of : Node → A) (f : Node → Node) → ((n : Node) → of (f n) ≡ of n)
    → (nodes : List Node) (j k : ℕ)
    → of (get_or (set nodes j (f (get_or nodes j no_node))) k no_node) ≡ of (get_or nodes k no_node)
set-keeps of f same [] j k = refl
set-keeps of f same (x ∷ xs) zero zero = same x
set-keeps of f same (x ∷ xs) zero (suc k) = refl
set-keeps of f same (x ∷ xs) (suc j) zero = refl
set-keeps of f same (x ∷ xs) (suc j) (suc k) = set-keeps of f same xs j k

-- a number below a node is that which was put there, or what it was
set-below : (right r : Bool) (n : ℕ) (nodes : List Node) (j k : ℕ)
    → (below (set nodes j (joined right n (get_or nodes j no_node))) r (suc k) ≡ below nodes r (suc k))
    ⊎ ((below (set nodes j (joined right n (get_or nodes j no_node))) r (suc k) ≡ n) × ((k ≡ j) × (r ≡ right)))
set-below right r n [] j k = inl refl
set-below true true n (x ∷ xs) zero zero = inr (refl, (refl, refl))
set-below true false n (x ∷ xs) zero zero = inl refl
set-below false true n (x ∷ xs) zero zero = inl refl
set-below false false n (x ∷ xs) zero zero = inr (refl, (refl, refl))
set-below right r n (x ∷ xs) zero (suc k) = inl refl
set-below right r n (x ∷ xs) (suc j) zero = inl refl
set-below right r n (x ∷ xs) (suc j) (suc k) = elim (set-below right r n xs j k) [
  | inl e ↦ inl e
  | inr e ↦ inr (e.0, (ap suc e.1.0, e.1.1))
]

-- it is there
set-link : (right : Bool) (n : ℕ) (nodes : List Node) (j : ℕ) → j < length nodes
    → below (set nodes j (joined right n (get_or nodes j no_node))) right (suc j) ≡ n
set-link right n nodes j lt =
    ap (on_side right) (get_or-set_same nodes j (joined right n (get_or nodes j no_node)) no_node lt)
    ∙ out right (get_or nodes j no_node)
  where
    out : (r : Bool) (x : Node) → on_side r (joined r n x) ≡ n
    out true x = refl
    out false x = refl

-- the nodes after a number is put below one: how many, their places, and what is below them
linked-length : (at : ℕ) (right : Bool) (n : ℕ) (nodes : List Node) → length (linked at right n nodes) ≡ length nodes
linked-length zero right n nodes = refl
linked-length (suc j) right n nodes = length-set nodes j (joined right n (get_or nodes j no_node))

linked-place : (at : ℕ) (right : Bool) (n : ℕ) (nodes : List Node) (k : ℕ)
    → place_at (linked at right n nodes) (suc k) ≡ place_at nodes (suc k)
linked-place zero right n nodes k = refl
linked-place (suc j) right n nodes k =
    set-keeps (λ x. x.place) (joined right n) (λ x. same right x) nodes j k
  where
    same : (r : Bool) (x : Node) → (joined r n x).place ≡ x.place
    same true x = refl
    same false x = refl

linked-below : (at : ℕ) (right r : Bool) (n : ℕ) (nodes : List Node) (k : ℕ)
    → (below (linked at right n nodes) r (suc k) ≡ below nodes r (suc k))
    ⊎ ((below (linked at right n nodes) r (suc k) ≡ n) × ((suc k ≡ at) × (r ≡ right)))
linked-below zero right r n nodes k = inl refl
linked-below (suc j) right r n nodes k = elim (set-below right r n nodes j k) [
  | inl e ↦ inl e
  | inr e ↦ inr (e.0, (ap suc e.1.0, e.1.1))
]

-- nothing is below what is no node
below-past : (nodes : List Node) (r : Bool) (k : ℕ) → 0 < below nodes r (suc k) → k < length nodes
below-past nodes r k some = elim (cases_lt k (length nodes)) [
  | inl lt ↦ lt
  | inr ge ↦ absurd (omega (arith, some, ap (on_side r) (get_or_past nodes k no_node ge) ∙ none r))
]
  where
    none : (r : Bool) → on_side r no_node ≡ 0
    none true = refl
    none false = refl

module _ (nodes : List Node) (at : ℕ) (right : Bool) (place : ℕ) (free : below nodes right at ≡ 0) (few : at ≤ length nodes) where
  -- the nodes with one more, which is put below one
  abbrev grown : List Node
  grown = linked at right (length nodes + 1) nodes ++ leaf place ∷ []

  linked-few : length (linked at right (length nodes + 1) nodes) ≡ length nodes
  linked-few = linked-length at right (length nodes + 1) nodes

  -- there is one more
  grown-length : length grown ≡ length nodes + 1
  grown-length =
      length-append (linked at right (length nodes + 1) nodes) (leaf place ∷ []) ∙ ap (λ n. n + 1) linked-few

  -- an old one is that before the new one
  grown-old : (k : ℕ) → k < length nodes
      → get_or grown k no_node ≡ get_or (linked at right (length nodes + 1) nodes) k no_node
  grown-old k lt =
      get_or_append_left (linked at right (length nodes + 1) nodes) (leaf place ∷ []) no_node k (omega (arith, lt, linked-few))

  -- and that one is behind them
  grown-new : (k : ℕ) → k ≡ length nodes → get_or grown k no_node ≡ leaf place
  grown-new k is =
      ap (λ n. get_or grown n no_node) (is ∙ sym linked-few)
      ∙ get_or-append_seam (linked at right (length nodes + 1) nodes) (leaf place) [] no_node

  grown-kept : (r : Bool) (a : ℕ) → 0 < below nodes r a → below grown r a ≡ below nodes r a
  grown-kept r zero some = absurd (omega (arith, some))
  grown-kept r (suc k) some =
      ap (on_side r) (grown-old k (below-past nodes r k some))
      ∙ elim (linked-below at right r (length nodes + 1) nodes k) [
        | inl e ↦ e
        | inr e ↦ absurd (omega (arith, some, ap (λ b. below nodes b (suc k)) e.1.1 ∙ (ap (below nodes right) e.1.0 ∙ free)))
      ]

  grown-places : (a : ℕ) → a ≤ length nodes → place_at grown a ≡ place_at nodes a
  grown-places zero le = refl
  grown-places (suc k) le =
      ap (λ (x : Node). x.place) (grown-old k (omega arith)) ∙ linked-place at right (length nodes + 1) nodes k

  grown-place : place_at grown (length nodes + 1) ≡ place
  grown-place =
      ap (place_at grown) (add-one (length nodes)) ∙ ap (λ (x : Node). x.place) (grown-new (length nodes) refl)

  grown-rises : ((r : Bool) (k : ℕ) → k < length nodes → 0 < below nodes r (suc k)
      → (suc k < below nodes r (suc k)) × (below nodes r (suc k) ≤ length nodes))
      → (r : Bool) (k : ℕ) → k < length grown → 0 < below grown r (suc k)
      → (suc k < below grown r (suc k)) × (below grown r (suc k) ≤ length grown)
  grown-rises rises r k lt some = elim (cases_lt k (length nodes)) [
    | inl old ↦ elim (linked-below at right r (length nodes + 1) nodes k) [
      | inl e ↦
          let b : below grown r (suc k) ≡ below nodes r (suc k) = ap (on_side r) (grown-old k old) ∙ e in
          let q = rises r k old (omega (arith, some, b)) in
          (omega (arith, b, q.0), omega (arith, b, q.1, grown-length))
      | inr e ↦
          let b : below grown r (suc k) ≡ length nodes + 1 = ap (on_side r) (grown-old k old) ∙ e.0 in
          (omega (arith, b, old), omega (arith, b, grown-length))
    ]
    | inr misses ↦ absurd (omega (arith, some, ap (on_side r) (grown-new k (omega (arith, lt, misses, grown-length))) ∙ none r))
  ]
    where
      none : (r : Bool) → on_side r (leaf place) ≡ 0
      none true = refl
      none false = refl

-- a key passes at an entry of its own alone
pub keys-alike : (sent : Bool) (x y : ByteList × ByteList) (k : Kind)
    → is_at sent x.0 x.1 k ≡ true → is_at sent y.0 y.1 k ≡ true
    → Alike {X = ByteList × ByteList} (λ x. is_at sent x.0 x.1) (λ x. goes sent x.0 x.1) (λ x. tag_of sent x.0 x.1) x y
keys-alike true x y (Put d) t u = absurd (cc)
keys-alike true x y (Del i) t u = absurd (cc)
keys-alike true x y Mark t u = absurd (cc)
keys-alike true x y (Sent s v d) t u =
    let b = and-both (bytes_eq x.0 s) (bytes_eq x.1 (id_of d)) t in
    let c = and-both (bytes_eq y.0 s) (bytes_eq y.1 (id_of d)) u in
    let e : x.0 ≡ y.0 = (bytes_eq-Decides x.0 s).0 b.0 ∙ sym ((bytes_eq-Decides y.0 s).0 c.0) in
    let f : x.1 ≡ y.1 = (bytes_eq-Decides x.1 (id_of d)).0 b.1 ∙ sym ((bytes_eq-Decides y.1 (id_of d)).0 c.1) in
    record {
      tags = ap (λ a. tag_of true a x.1) e ∙ ap (tag_of true y.0) f;
      sides = λ n. ap (λ a. goes true a x.1 n) e ∙ ap (λ a. goes true y.0 a n) f;
      tests = λ j. ap (λ a. is_at true a x.1 j) e ∙ ap (λ a. is_at true y.0 a j) f;
    }
keys-alike false x y k t u = go (written_id k) t u
  where
    go : (w : Option ByteList) → is_id x.1 w ≡ true → is_id y.1 w ≡ true
        → Alike {X = ByteList × ByteList} (λ x. is_at false x.0 x.1) (λ x. goes false x.0 x.1) (λ x. tag_of false x.0 x.1) x y
    go None t u = absurd (cc)
    go (Some i) t u =
        let f : x.1 ≡ y.1 = (bytes_eq-Decides x.1 i).0 t ∙ sym ((bytes_eq-Decides y.1 i).0 u) in
        record {
          tags = ap (tag_of false []) f;
          sides = λ n. ap (λ a. goes false [] a n) f;
          tests = λ j. ap (λ a. is_at false [] a j) f;
        }

-- an empty tree finds nothing of no entry
pub finds-empty : (sent : Bool) (tree : Tree) → tree.nodes.items ≡ [] → ((t : ℕ) → first_of tree t ≡ 0)
    → Finds sent tree []
unfolding last_where
finds-empty sent tree is none = record {
  placed = λ k lt. absurd (omega (arith, lt, ap length is));
  begins = λ t. omega (arith, none t);
  rises = λ r k lt some. absurd (omega (arith, lt, ap length is));
  leads = λ x m e. absurd (omega (arith, e));
}

-- a walk in a tree, from its beginning to where it stops
module _ (sent : Bool) (tree : Tree) (h : History) (f : Finds sent tree h) (src id : ByteList) where
  pub finds-begins : (first : ℕ) → first ≡ first_of tree (tag_of sent src id) → 0 < first
      → Comes (goes sent src id) (is_at sent src id) tree.nodes.items h (first_of tree (tag_of sent src id)) first 0
  finds-begins first is some =
      subst (λ n. Comes (goes sent src id) (is_at sent src id) tree.nodes.items h (first_of tree (tag_of sent src id)) n 0) (sym is)
      (walk-begins {X = ByteList × ByteList} (λ x. is_at sent x.0 x.1) (λ x. goes sent x.0 x.1) (λ x. tag_of sent x.0 x.1)
      (first_of tree) tree.nodes.items h f (src, id) (omega (arith, is, some)))

  pub finds-goes : (at depth place lower : ℕ) (right : Bool)
      → Comes (goes sent src id) (is_at sent src id) tree.nodes.items h (first_of tree (tag_of sent src id)) at depth
      → place ≡ place_at tree.nodes.items at → right ≡ goes sent src id depth → lower ≡ below tree.nodes.items right at
      → passes (is_at sent src id) h place ≡ false → 0 < lower
      → Comes (goes sent src id) (is_at sent src id) tree.nodes.items h (first_of tree (tag_of sent src id)) lower (depth + 1)
  finds-goes at depth place lower right w is side leads misses some =
      walk-goes {X = ByteList × ByteList} (λ x. is_at sent x.0 x.1) (λ x. goes sent x.0 x.1) (λ x. tag_of sent x.0 x.1)
      (first_of tree) tree.nodes.items h f (src, id) at depth place lower right w is side leads misses some

  pub finds-stops : (at depth place lower : ℕ) (right : Bool)
      → Comes (goes sent src id) (is_at sent src id) tree.nodes.items h (first_of tree (tag_of sent src id)) at depth
      → place ≡ place_at tree.nodes.items at → right ≡ goes sent src id depth → lower ≡ below tree.nodes.items right at
      → lower ≡ 0
      → Stops (goes sent src id) (is_at sent src id) tree.nodes.items h (first_of tree (tag_of sent src id)) at right
  finds-stops at depth place lower right w is side leads z =
      walk-stops {X = ByteList × ByteList} (λ x. is_at sent x.0 x.1) (λ x. goes sent x.0 x.1) (λ x. tag_of sent x.0 x.1)
      (first_of tree) tree.nodes.items h f (src, id) at depth place lower right w is side leads z

  pub finds-here : (at depth place : ℕ) (right : Bool)
      → Comes (goes sent src id) (is_at sent src id) tree.nodes.items h (first_of tree (tag_of sent src id)) at depth
      → place ≡ place_at tree.nodes.items at → passes (is_at sent src id) h place ≡ true
      → Stops (goes sent src id) (is_at sent src id) tree.nodes.items h (first_of tree (tag_of sent src id)) at right
  finds-here at depth place right w is t =
      walk-here {X = ByteList × ByteList} (λ x. is_at sent x.0 x.1) (λ x. goes sent x.0 x.1) (λ x. tag_of sent x.0 x.1)
      (first_of tree) tree.nodes.items h f (src, id) at depth place right w is t

  -- the place of a node is that of an entry
  pub finds-place : (at : ℕ) → 0 < at → at ≤ length tree.nodes.items
      → (0 < place_at tree.nodes.items at) × (place_at tree.nodes.items at ≤ length h)
  finds-place zero some few = absurd (omega (arith, some))
  finds-place (suc k) some few = f.placed k (omega arith)

module _ (sent : Bool) (old new : Tree) (h : History) (f : Finds sent old h) where
  -- a tree with the same nodes and first ones finds the same
  pub finds-same : new.nodes.items ≡ old.nodes.items → ((t : ℕ) → first_of new t ≡ first_of old t) → Finds sent new h
  finds-same items same =
      subst (λ ns. IsIndex {X = ByteList × ByteList} (λ x. is_at sent x.0 x.1) (λ x. goes sent x.0 x.1) (λ x. tag_of sent x.0 x.1) (first_of new) ns h)
      (sym items)
      (record {
        placed = f.placed;
        begins = λ t. omega (arith, same t, f.begins t);
        rises = f.rises;
        leads = λ x m is.
            subst (λ n. Leads (goes sent x.0 x.1) (is_at sent x.0 x.1) old.nodes.items h n (suc m))
            (sym (same (tag_of sent x.0 x.1))) (f.leads x m is);
      })

  -- an entry of no key leaves it
  pub finds-skips : (e : Entry) → ((src id : ByteList) → is_at sent src id e.kind ≡ false) → Finds sent old (h ++ e ∷ [])
  finds-skips e none =
      index-skips {X = ByteList × ByteList} (λ x. is_at sent x.0 x.1) (λ x. goes sent x.0 x.1) (λ x. tag_of sent x.0 x.1)
      (keys-alike sent) (first_of old) old.nodes.items h f e (λ x. none x.0 x.1)

  module _ (src id : ByteList) where
    -- a tag without a node has no last place
    pub finds-none : first_of old (tag_of sent src id) ≡ 0 → 0 ≡ last_where (λ e. is_at sent src id e.kind) h
    finds-none z =
        no-first {X = ByteList × ByteList} (λ x. is_at sent x.0 x.1) (λ x. goes sent x.0 x.1) (λ x. tag_of sent x.0 x.1)
        (first_of old) old.nodes.items h f (src, id) z

    module _ (at : ℕ) (right : Bool)
        (s : Stops (goes sent src id) (is_at sent src id) old.nodes.items h (first_of old (tag_of sent src id)) at right) where
      -- the place where a walk stops is the last one where it passes
      pub finds-last : passes (is_at sent src id) h (place_at old.nodes.items at) ≡ true
          → place_at old.nodes.items at ≡ last_where (λ e. is_at sent src id e.kind) h
      finds-last t =
          walk-found {X = ByteList × ByteList} (λ x. is_at sent x.0 x.1) (λ x. goes sent x.0 x.1) (λ x. tag_of sent x.0 x.1)
          (first_of old) old.nodes.items h f (src, id) at right s t

      -- else there is none
      pub finds-missed : passes (is_at sent src id) h (place_at old.nodes.items at) ≡ false
          → 0 ≡ last_where (λ e. is_at sent src id e.kind) h
      finds-missed n =
          walk-missed {X = ByteList × ByteList} (λ x. is_at sent x.0 x.1) (λ x. goes sent x.0 x.1) (λ x. tag_of sent x.0 x.1)
          (first_of old) old.nodes.items h f (src, id) at right s n

      -- with the place of its node moved, it finds the entry that is put behind the others
      pub finds-moved : passes (is_at sent src id) h (place_at old.nodes.items at) ≡ true
          → (place : ℕ) → place ≡ length h + 1 → new.nodes.items ≡ moved at place old.nodes.items
          → ((t : ℕ) → first_of new t ≡ first_of old t)
          → (e : Entry) → is_at sent src id e.kind ≡ true → Finds sent new (h ++ e ∷ [])
      finds-moved here place is items same e t =
          subst (λ ns. IsIndex {X = ByteList × ByteList} (λ x. is_at sent x.0 x.1) (λ x. goes sent x.0 x.1) (λ x. tag_of sent x.0 x.1) (first_of new) ns (h ++ e ∷ []))
          (sym items)
          (by at s.comes.some s.comes.few refl)
        where
          by : (a : ℕ) → 0 < a → a ≤ length old.nodes.items → a ≡ at
              → IsIndex {X = ByteList × ByteList} (λ x. is_at sent x.0 x.1) (λ x. goes sent x.0 x.1) (λ x. tag_of sent x.0 x.1)
              (first_of new) (moved at place old.nodes.items) (h ++ e ∷ [])
          by zero some few i = absurd (omega (arith, some))
          by (suc j) some few i =
              index-moves {X = ByteList × ByteList} (λ x. is_at sent x.0 x.1) (λ x. goes sent x.0 x.1) (λ x. tag_of sent x.0 x.1)
              (keys-alike sent) (first_of old) old.nodes.items h f e (src, id) t (first_of new) (moved at place old.nodes.items)
              at right s here same
              (subst (λ a. length (moved a place old.nodes.items) ≡ length old.nodes.items) i
              (length-set old.nodes.items j (relocated place (get_or old.nodes.items j no_node))))
              (subst (λ a. (r : Bool) (b : ℕ) → below (moved a place old.nodes.items) r b ≡ below old.nodes.items r b) i kept)
              (subst (λ a. place_at (moved a place old.nodes.items) a ≡ length h + 1) i
              (ap (λ (x : Node). x.place) (get_or-set_same old.nodes.items j (relocated place (get_or old.nodes.items j no_node)) no_node (omega arith)) ∙ is))
              (subst (λ a. (b : ℕ) → eqb b a ≡ false → place_at (moved a place old.nodes.items) b ≡ place_at old.nodes.items b) i others)
            where
              kept : (r : Bool) (b : ℕ) → below (moved (suc j) place old.nodes.items) r b ≡ below old.nodes.items r b
              kept r zero = refl
              kept r (suc k) = set-keeps (on_side r) (relocated place) (λ x. side r x) old.nodes.items j k
                where
                  side : (r : Bool) (x : Node) → on_side r (relocated place x) ≡ on_side r x
                  side true x = refl
                  side false x = refl

              others : (b : ℕ) → eqb b (suc j) ≡ false → place_at (moved (suc j) place old.nodes.items) b ≡ place_at old.nodes.items b
              others zero misses = refl
              others (suc k) misses =
                  ap (λ (x : Node). x.place)
                  (get_or-set_other old.nodes.items j k (relocated place (get_or old.nodes.items j no_node)) no_node
                  (λ q. eqb-false (suc k) (suc j) misses (ap suc q)))

      -- so it does with a node below the one where the walk stops
      pub finds-attached : passes (is_at sent src id) h (place_at old.nodes.items at) ≡ false
          → (place : ℕ) → place ≡ length h + 1
          → new.nodes.items ≡ linked at right (length old.nodes.items + 1) old.nodes.items ++ leaf place ∷ []
          → ((t : ℕ) → first_of new t ≡ first_of old t)
          → (e : Entry) → is_at sent src id e.kind ≡ true → Finds sent new (h ++ e ∷ [])
      finds-attached misses place is items same e t =
          let ns : List Node = old.nodes.items in
          let free : below ns right at ≡ 0 = (s.ends misses).1 in
          let g : List Node = grown ns at right place free s.comes.few in
          let longer : length g ≡ length ns + 1 = grown-length ns at right place free s.comes.few in
          subst (λ xs. IsIndex {X = ByteList × ByteList} (λ x. is_at sent x.0 x.1) (λ x. goes sent x.0 x.1) (λ x. tag_of sent x.0 x.1) (first_of new) xs (h ++ e ∷ []))
          (sym items)
          (index-joins {X = ByteList × ByteList} (λ x. is_at sent x.0 x.1) (λ x. goes sent x.0 x.1) (λ x. tag_of sent x.0 x.1)
          (keys-alike sent) (first_of old) ns h f e (src, id) t (first_of new) g longer
          (λ n. omega (arith, same n, f.begins n, longer)) (λ n some. same n)
          (grown-kept ns at right place free s.comes.few) (grown-places ns at right place free s.comes.few)
          (grown-place ns at right place free s.comes.few ∙ is)
          (grown-rises ns at right place free s.comes.few f.rises)
          (leads-attached {X = ByteList × ByteList} (λ x. is_at sent x.0 x.1) (λ x. goes sent x.0 x.1) (λ x. tag_of sent x.0 x.1)
          (keys-alike sent) (first_of old) ns h f e (src, id) t (first_of new) g longer
          (λ n. omega (arith, same n, f.begins n, longer)) (λ n some. same n)
          (grown-kept ns at right place free s.comes.few) (grown-places ns at right place free s.comes.few)
          (grown-place ns at right place free s.comes.few ∙ is)
          (grown-rises ns at right place free s.comes.few f.rises)
          at right s misses (link at s.comes.some s.comes.few refl)))
        where
          link : (a : ℕ) → 0 < a → a ≤ length old.nodes.items → a ≡ at
              → below (grown old.nodes.items at right place (s.ends misses).1 s.comes.few) right at ≡ length old.nodes.items + 1
          link zero some few i = absurd (omega (arith, some))
          link (suc j) some few i =
              ap (below (grown old.nodes.items at right place (s.ends misses).1 s.comes.few) right) (sym i)
              ∙ (ap (on_side right) (grown-old old.nodes.items at right place (s.ends misses).1 s.comes.few j (omega arith))
              ∙ subst (λ a. below (linked a right (length old.nodes.items + 1) old.nodes.items) right (suc j) ≡ length old.nodes.items + 1) i
              (set-link right (length old.nodes.items + 1) old.nodes.items j (omega arith)))

    -- and with a first node of its tag
    pub finds-planted : first_of old (tag_of sent src id) ≡ 0
        → (place : ℕ) → place ≡ length h + 1 → new.nodes.items ≡ old.nodes.items ++ leaf place ∷ []
        → ((t : ℕ) → first_of new t
        ≡ cond (eqb (tag_of sent src id) t) (length old.nodes.items + 1) (first_of old t))
        → (e : Entry) → is_at sent src id e.kind ≡ true → Finds sent new (h ++ e ∷ [])
    finds-planted z place is items firsts e t =
        let ns : List Node = old.nodes.items in
        let g : List Node = grown ns 0 true place refl (omega arith) in
        let longer : length g ≡ length ns + 1 = grown-length ns 0 true place refl (omega arith) in
        subst (λ xs. IsIndex {X = ByteList × ByteList} (λ x. is_at sent x.0 x.1) (λ x. goes sent x.0 x.1) (λ x. tag_of sent x.0 x.1) (first_of new) xs (h ++ e ∷ []))
        (sym items)
        (index-joins {X = ByteList × ByteList} (λ x. is_at sent x.0 x.1) (λ x. goes sent x.0 x.1) (λ x. tag_of sent x.0 x.1)
        (keys-alike sent) (first_of old) ns h f e (src, id) t (first_of new) g longer
        (begins longer) same
        (grown-kept ns 0 true place refl (omega arith)) (grown-places ns 0 true place refl (omega arith))
        (grown-place ns 0 true place refl (omega arith) ∙ is)
        (grown-rises ns 0 true place refl (omega arith) f.rises)
        (leads-planted {X = ByteList × ByteList} (λ x. is_at sent x.0 x.1) (λ x. goes sent x.0 x.1) (λ x. tag_of sent x.0 x.1)
        (keys-alike sent) (first_of old) ns h f e (src, id) t (first_of new) g longer
        (begins longer) same
        (grown-kept ns 0 true place refl (omega arith)) (grown-places ns 0 true place refl (omega arith))
        (grown-place ns 0 true place refl (omega arith) ∙ is)
        (grown-rises ns 0 true place refl (omega arith) f.rises)
        (firsts (tag_of sent src id)
        ∙ ap (λ b. cond b (length old.nodes.items + 1) (first_of old (tag_of sent src id))) (eq-eqb (tag_of sent src id) (tag_of sent src id) refl))))
      where
        begins : length (old.nodes.items ++ leaf place ∷ []) ≡ length old.nodes.items + 1
            → (n : ℕ) → first_of new n ≤ length (old.nodes.items ++ leaf place ∷ [])
        begins longer n = by (eqb (tag_of sent src id) n) refl
          where
            by : (b : Bool) → eqb (tag_of sent src id) n ≡ b → first_of new n ≤ length (old.nodes.items ++ leaf place ∷ [])
            by true it =
                let w = firsts n ∙ ap (λ b. cond b (length old.nodes.items + 1) (first_of old n)) it in
                omega (arith, w, longer)
            by false it =
                let w = firsts n ∙ ap (λ b. cond b (length old.nodes.items + 1) (first_of old n)) it in
                omega (arith, w, longer, f.begins n)

        same : (n : ℕ) → 0 < first_of old n → first_of new n ≡ first_of old n
        same n some = by (eqb (tag_of sent src id) n) refl
          where
            by : (b : Bool) → eqb (tag_of sent src id) n ≡ b → first_of new n ≡ first_of old n
            by true it =
                let q : first_of old n ≡ 0 = ap (first_of old) (sym (eqb-true (tag_of sent src id) n it)) ∙ z in
                absurd (omega (arith, some, q))
            by false it = firsts n ∙ ap (λ b. cond b (length old.nodes.items + 1) (first_of old n)) it

-- what a shard needs that begins or makes room
pub ruleset finds_steps = (finds-empty, finds-same)
