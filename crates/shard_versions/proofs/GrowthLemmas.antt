-- A tree as the index of one more entry.
use Rattle.std.proofs.Common.{◌≡◌, ◌⊎◌, ℕ, zero, suc, ◌+◌, ◌<◌, ◌≤◌, Bool, true, false, cond, eqb, List, [], ◌∷◌, ◌++◌, length, get_or, refl, sym, ap, subst, ◌∙◌, arith, inl, inr, length-append}
use Rattle.std.proofs.lemmas.Bool.{cases_lt, eqb-true}
use Rattle.shard_versions.specs.declared.entry.Kind.{Kind}
use Rattle.shard_versions.specs.declared.entry.Entry.{Entry}
use Rattle.shard_versions.specs.declared.tree.Node.{Node}
use Rattle.shard_versions.specs.Histories.{History}
use Rattle.shard_versions.specs.Trees.{place_at, below, way, idle, passes, Leads, IsIndex, Stops}
use Rattle.shard_versions.proofs.PlaceLemmas.{last_where-push}
use Rattle.shard_versions.proofs.TreeLemmas.{way-some, way-grows, way-same, way-alike, passes-append, passes-last, last_of, last-passes, place-few, ways}

-- two keys that no entry and no way tells apart
pub record Alike {X : Type 0} (test : X → Kind → Bool) (side : X → ℕ → Bool) (tag : X → ℕ) (x y : X) : Type 0 where
  pub tags : tag x ≡ tag y
  pub sides : (d : ℕ) → side x d ≡ side y d
  pub tests : (k : Kind) → test x k ≡ test y k

-- one key passes where the other does
passes-alike : (one other : Kind → Bool) → ((k : Kind) → one k ≡ other k) → (h : History) (p : ℕ)
    → passes one h p ≡ passes other h p
passes-alike one other same h zero = refl
passes-alike one other same h (suc k) = same (get_or h k idle).kind

-- the last place with one more entry that passes, or doesn't
last-new : (test : Kind → Bool) (h : History) (e : Entry) → test e.kind ≡ true → last_of test (h ++ e ∷ []) ≡ length h + 1
last-new test h e t =
    last_where-push (λ (x : Entry). test x.kind) h e ∙ ap (λ b. cond b (length h + 1) (last_of test h)) t

last-old : (test : Kind → Bool) (h : History) (e : Entry) → test e.kind ≡ false → last_of test (h ++ e ∷ []) ≡ last_of test h
last-old test h e f =
    last_where-push (λ (x : Entry). test x.kind) h e ∙ ap (λ b. cond b (length h + 1) (last_of test h)) f

-- both of two keys pass at a place
passes-both : {X : Type 0} (test : X → Kind → Bool) (side : X → ℕ → Bool) (tag : X → ℕ)
    → ((x y : X) (k : Kind) → test x k ≡ true → test y k ≡ true → Alike test side tag x y)
    → (x y : X) (h : History) (p : ℕ) → passes (test x) h p ≡ true → passes (test y) h p ≡ true
    → Alike test side tag x y
passes-both test side tag alike x y h zero t u = absurd (cc)
passes-both test side tag alike x y h (suc k) t u = alike x y (get_or h k idle).kind t u

module _ {X : Type 0} (test : X → Kind → Bool) (side : X → ℕ → Bool) (tag : X → ℕ)
    (alike : (x y : X) (k : Kind) → test x k ≡ true → test y k ≡ true → Alike test side tag x y) where
  -- a way that leads to the last place of a key does so for one that is alike
  leads-alike : (nodes : List Node) (h : History) (first : ℕ → ℕ) (x y : X) (m : ℕ) → Alike test side tag x y
      → Leads (side x) (test x) nodes h (first (tag x)) m → Leads (side y) (test y) nodes h (first (tag y)) m
  leads-alike nodes h first x y m a l =
      let same : (d : ℕ) → way (side y) nodes (first (tag y)) d ≡ way (side x) nodes (first (tag x)) d =
      λ d. sym (way-alike (side x) (side y) a.sides nodes (first (tag x)) d ∙ ap (λ t. way (side y) nodes (first t) d) a.tags) in
      record {
        depth = l.depth;
        there = ap (place_at nodes) (same l.depth) ∙ l.there;
        before = λ d lt. ap (λ w. passes (test y) h (place_at nodes w)) (same d)
            ∙ (sym (passes-alike (test x) (test y) a.tests h (place_at nodes (way (side x) nodes (first (tag x)) d))) ∙ l.before d lt);
      }

  module _ (first : ℕ → ℕ) (nodes : List Node) (h : History) (index : IsIndex test side tag first nodes h) (e : Entry) where
    -- the place of a node on a way
    on_way : (x : X) (d : ℕ) → place_at nodes (way (side x) nodes (first (tag x)) d) ≤ length h
    on_way x d = place-few test side tag first nodes h index (way (side x) nodes (first (tag x)) d)
        (ways test side tag first nodes h index x d)

    longer : length (h ++ e ∷ []) ≡ length h + 1
    longer = length-append h (e ∷ [])

    -- an entry of no key leaves the index
    pub index-skips : ((x : X) → test x e.kind ≡ false) → IsIndex test side tag first nodes (h ++ e ∷ [])
    index-skips none = record {
      placed = λ k lt. ((index.placed k lt).0, omega (arith, (index.placed k lt).1, longer));
      begins = index.begins;
      rises = index.rises;
      leads = λ x m is.
          let l = index.leads x m (sym (last-old (test x) h e (none x)) ∙ is) in
          record {
            depth = l.depth;
            there = l.there;
            before = λ d lt. passes-append (test x) h e (place_at nodes (way (side x) nodes (first (tag x)) d)) (on_way x d) ∙ l.before d lt;
          };
    }

    module _ (x : X) (t : test x e.kind ≡ true) (other : ℕ → ℕ) (new : List Node) where
      module _ (at : ℕ) (right : Bool) (s : Stops (side x) (test x) nodes h (first (tag x)) at right)
          (here : passes (test x) h (place_at nodes at) ≡ true)
          (same : (t : ℕ) → other t ≡ first t) (few : length new ≡ length nodes)
          (kept : (right : Bool) (a : ℕ) → below new right a ≡ below nodes right a)
          (there : place_at new at ≡ length h + 1)
          (others : (a : ℕ) → eqb a at ≡ false → place_at new a ≡ place_at nodes a) where
        -- the place of the node itself
        moved_there : (a : ℕ) → eqb a at ≡ true → place_at new a ≡ length h + 1
        moved_there a it = ap (place_at new) (eqb-true a at it) ∙ there

        -- the way of the entry's key leads to it
        leads_here : Leads (side x) (test x) new (h ++ e ∷ []) (other (tag x)) (length h + 1)
        leads_here =
            let to : (d : ℕ) → way (side x) new (other (tag x)) d ≡ way (side x) nodes (first (tag x)) d =
            λ d. way-same nodes new kept (side x) (first (tag x)) (other (tag x)) (same (tag x)) d in
            record {
              depth = s.depth;
              there = ap (place_at new) (to s.depth ∙ s.comes.here) ∙ there;
              before = λ d lt. ap (λ w. passes (test x) (h ++ e ∷ []) (place_at new w)) (to d)
                  ∙ by d lt (eqb (way (side x) nodes (first (tag x)) d) at) refl;
            }
          where
            by : (d : ℕ) → d < s.depth → (b : Bool) → eqb (way (side x) nodes (first (tag x)) d) at ≡ b
                → passes (test x) (h ++ e ∷ []) (place_at new (way (side x) nodes (first (tag x)) d)) ≡ false
            by d lt true is =
                let it = eqb-true (way (side x) nodes (first (tag x)) d) at is in
                absurd (let f = ap (λ a. passes (test x) h (place_at nodes a)) (sym it) ∙ s.comes.before d lt in cc)
            by d lt false is =
                ap (passes (test x) (h ++ e ∷ [])) (others (way (side x) nodes (first (tag x)) d) is)
                ∙ (passes-append (test x) h e (place_at nodes (way (side x) nodes (first (tag x)) d)) (on_way x d) ∙ s.comes.before d lt)

        -- the way of a key that the entry isn't of leads where it led
        leads_still : (y : X) (m : ℕ) → test y e.kind ≡ false → last_of (test y) h ≡ suc m
            → Leads (side y) (test y) new (h ++ e ∷ []) (other (tag y)) (suc m)
        leads_still y m f is =
            let l = index.leads y m is in
            let to : (d : ℕ) → way (side y) new (other (tag y)) d ≡ way (side y) nodes (first (tag y)) d =
            λ d. way-same nodes new kept (side y) (first (tag y)) (other (tag y)) (same (tag y)) d in
            record {
              depth = l.depth;
              there = ap (place_at new) (to l.depth) ∙ end (eqb (way (side y) nodes (first (tag y)) l.depth) at) refl;
              before = λ d lt. ap (λ w. passes (test y) (h ++ e ∷ []) (place_at new w)) (to d)
                  ∙ by d lt (eqb (way (side y) nodes (first (tag y)) d) at) refl;
            }
          where
            l : Leads (side y) (test y) nodes h (first (tag y)) (suc m)
            l = index.leads y m is

            end : (b : Bool) → eqb (way (side y) nodes (first (tag y)) l.depth) at ≡ b
                → place_at new (way (side y) nodes (first (tag y)) l.depth) ≡ suc m
            end true it =
                let a = eqb-true (way (side y) nodes (first (tag y)) l.depth) at it in
                let p : place_at nodes at ≡ suc m = ap (place_at nodes) (sym a) ∙ l.there in
                let u : passes (test y) h (place_at nodes at) ≡ true =
                ap (passes (test y) h) p ∙ last-passes (test y) h m is in
                let both_keys = passes-both test side tag alike x y h (place_at nodes at) here u in
                absurd (let g = both_keys.tests e.kind in cc)
            end false it =
                others (way (side y) nodes (first (tag y)) l.depth) it ∙ l.there

            by : (d : ℕ) → d < l.depth → (b : Bool) → eqb (way (side y) nodes (first (tag y)) d) at ≡ b
                → passes (test y) (h ++ e ∷ []) (place_at new (way (side y) nodes (first (tag y)) d)) ≡ false
            by d lt true it =
                passes-last (test y) h e (place_at new (way (side y) nodes (first (tag y)) d))
                (moved_there (way (side y) nodes (first (tag y)) d) it) ∙ f
            by d lt false it =
                ap (passes (test y) (h ++ e ∷ [])) (others (way (side y) nodes (first (tag y)) d) it)
                ∙ (passes-append (test y) h e (place_at nodes (way (side y) nodes (first (tag y)) d)) (on_way y d) ∙ l.before d lt)

        -- the index with the entry, at whose key's node its place is put
        pub index-moves : IsIndex test side tag other new (h ++ e ∷ [])
        index-moves = record {
          placed = λ k lt. put k lt (eqb (suc k) at) refl;
          begins = λ t. omega (arith, same t, index.begins t, few);
          rises = λ right k lt some.
              let old = index.rises right k (omega (arith, lt, few)) (omega (arith, kept right (suc k), some)) in
              (omega (arith, old.0, kept right (suc k)), omega (arith, old.1, kept right (suc k), few));
          leads = λ y m is. led y m is (test y e.kind) refl;
        }
          where
            put : (k : ℕ) → k < length new → (b : Bool) → eqb (suc k) at ≡ b
                → (0 < place_at new (suc k)) × (place_at new (suc k) ≤ length (h ++ e ∷ []))
            put k lt true is =
                let p = moved_there (suc k) is in
                (omega (arith, p), omega (arith, p, longer))
            put k lt false is =
                let p = others (suc k) is in
                let old = index.placed k (omega (arith, lt, few)) in
                (omega (arith, p, old.0), omega (arith, p, old.1, longer))

            led : (y : X) (m : ℕ) → last_of (test y) (h ++ e ∷ []) ≡ suc m → (b : Bool) → test y e.kind ≡ b
                → Leads (side y) (test y) new (h ++ e ∷ []) (other (tag y)) (suc m)
            led y m is true u =
                subst (Leads (side y) (test y) new (h ++ e ∷ []) (other (tag y))) (sym (last-new (test y) h e u) ∙ is)
                (leads-alike new (h ++ e ∷ []) other x y (length h + 1) (alike x y e.kind t u) leads_here)
            led y m is false f = leads_still y m f (sym (last-old (test y) h e f) ∙ is)

      module _ (few : length new ≡ length nodes + 1)
          (begins : (t : ℕ) → other t ≤ length new)
          (same : (t : ℕ) → 0 < first t → other t ≡ first t)
          (kept : (right : Bool) (a : ℕ) → 0 < below nodes right a → below new right a ≡ below nodes right a)
          (places : (a : ℕ) → a ≤ length nodes → place_at new a ≡ place_at nodes a)
          (place : place_at new (length nodes + 1) ≡ length h + 1)
          (rises : (right : Bool) (k : ℕ) → k < length new → 0 < below new right (suc k)
          → (suc k < below new right (suc k)) × (below new right (suc k) ≤ length new)) where
        -- a node of an old way
        old_way : (y : X) (d : ℕ) → 0 < way (side y) nodes (first (tag y)) d
            → way (side y) new (other (tag y)) d ≡ way (side y) nodes (first (tag y)) d
        old_way y d some = way-grows nodes new kept (side y) (first (tag y)) (other (tag y)) (same (tag y)) d some

        -- what passes there passed before
        old_test : (y : X) (d : ℕ) → 0 < way (side y) nodes (first (tag y)) d
            → passes (test y) (h ++ e ∷ []) (place_at new (way (side y) new (other (tag y)) d))
            ≡ passes (test y) h (place_at nodes (way (side y) nodes (first (tag y)) d))
        old_test y d some =
            ap (passes (test y) (h ++ e ∷ []))
            (ap (place_at new) (old_way y d some) ∙ places (way (side y) nodes (first (tag y)) d) (ways test side tag first nodes h index y d))
            ∙ passes-append (test y) h e (place_at nodes (way (side y) nodes (first (tag y)) d)) (on_way y d)

        -- a way that leads to a place leads to a node
        some_node : (y : X) (d m : ℕ) → place_at nodes (way (side y) nodes (first (tag y)) d) ≡ suc m
            → 0 < way (side y) nodes (first (tag y)) d
        some_node y d m is = go (way (side y) nodes (first (tag y)) d) is
          where
            go : (w : ℕ) → place_at nodes w ≡ suc m → 0 < w
            go zero z = absurd (omega arith)
            go (suc w) z = omega arith

        -- the index with the entry, to whose place the way of its key leads
        pub index-joins : Leads (side x) (test x) new (h ++ e ∷ []) (other (tag x)) (length h + 1)
            → IsIndex test side tag other new (h ++ e ∷ [])
        index-joins here = record {
          placed = λ k lt. put k lt (cases_lt k (length nodes));
          begins = begins;
          rises = rises;
          leads = λ y m is. led y m is (test y e.kind) refl;
        }
          where
            put : (k : ℕ) → k < length new → (k < length nodes) ⊎ (length nodes ≤ k)
                → (0 < place_at new (suc k)) × (place_at new (suc k) ≤ length (h ++ e ∷ []))
            put k lt (inl old) =
                let p = places (suc k) (omega arith) in
                let q = index.placed k old in
                (omega (arith, p, q.0), omega (arith, p, q.1, longer))
            put k lt (inr misses) =
                let p : place_at new (suc k) ≡ length h + 1 =
                ap (place_at new) (let s : suc k ≡ length nodes + 1 = omega (arith, lt, few, misses) in s) ∙ place in
                (omega (arith, p), omega (arith, p, longer))

            led : (y : X) (m : ℕ) → last_of (test y) (h ++ e ∷ []) ≡ suc m → (b : Bool) → test y e.kind ≡ b
                → Leads (side y) (test y) new (h ++ e ∷ []) (other (tag y)) (suc m)
            led y m is true u =
                subst (Leads (side y) (test y) new (h ++ e ∷ []) (other (tag y))) (sym (last-new (test y) h e u) ∙ is)
                (leads-alike new (h ++ e ∷ []) other x y (length h + 1) (alike x y e.kind t u) here)
            led y m is false f =
                let l = index.leads y m (sym (last-old (test y) h e f) ∙ is) in
                let some : 0 < way (side y) nodes (first (tag y)) l.depth = some_node y l.depth m l.there in
                record {
                  depth = l.depth;
                  there = ap (place_at new) (old_way y l.depth some)
                      ∙ (places (way (side y) nodes (first (tag y)) l.depth) (ways test side tag first nodes h index y l.depth) ∙ l.there);
                  before = λ d lt. old_test y d (way-some (side y) nodes (first (tag y)) d l.depth (omega arith) some) ∙ l.before d lt;
                }

        -- the way of a key that begins with the new node
        pub leads-planted : other (tag x) ≡ length nodes + 1
            → Leads (side x) (test x) new (h ++ e ∷ []) (other (tag x)) (length h + 1)
        unfolding way
        leads-planted is = record {
          depth = 0;
          there = ap (place_at new) is ∙ place;
          before = λ d lt. absurd (omega (arith, lt));
        }

        -- the way of a key that goes on to the new node from where a walk stopped
        pub leads-attached : (at : ℕ) (right : Bool) → Stops (side x) (test x) nodes h (first (tag x)) at right
            → passes (test x) h (place_at nodes at) ≡ false → below new right at ≡ length nodes + 1
            → Leads (side x) (test x) new (h ++ e ∷ []) (other (tag x)) (length h + 1)
        unfolding way
        leads-attached at right s f link =
            let some : 0 < way (side x) nodes (first (tag x)) s.depth = omega (arith, s.comes.here, s.comes.some) in
            let to : way (side x) new (other (tag x)) (suc s.depth) ≡ length nodes + 1 =
            ap (below new (side x s.depth)) (old_way x s.depth some ∙ s.comes.here)
            ∙ (ap (λ b. below new b at) (sym (s.ends f).0) ∙ link) in
            record {
              depth = suc s.depth;
              there = ap (place_at new) to ∙ place;
              before = λ d lt. old_test x d (way-some (side x) nodes (first (tag x)) d s.depth (omega arith) some)
                  ∙ by d lt (cases_lt d s.depth);
            }
          where
            by : (d : ℕ) → d < suc s.depth → (d < s.depth) ⊎ (s.depth ≤ d)
                → passes (test x) h (place_at nodes (way (side x) nodes (first (tag x)) d)) ≡ false
            by d lt (inl earlier) = s.comes.before d earlier
            by d lt (inr last) =
                ap (λ n. passes (test x) h (place_at nodes (way (side x) nodes (first (tag x)) n))) (let q : d ≡ s.depth = omega arith in q)
                ∙ (ap (λ a. passes (test x) h (place_at nodes a)) s.comes.here ∙ f)
