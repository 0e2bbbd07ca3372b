-- Ways in a tree, and where a walk ends.
use Rattle.std.proofs.Common.{◌≡◌, ℕ, zero, suc, ◌+◌, ◌<◌, ◌≤◌, Bool, true, false, cond, eqb, List, [], ◌∷◌, ◌++◌, length, get_or, refl, sym, ap, ◌∙◌, arith, inl, inr, add-one}
use Rattle.std.specs.Prelude.{unwrap_or, nat_eq, Some, Result, Ok, Err, OnOk, is_ok}
use Rattle.std.specs.HashMap.{HashMap, get, Updates}
use Rattle.std.proofs.lemmas.Bool.{cases_lt}
use Rattle.std.proofs.lemmas.List.{get_or_append_left}
use Rattle.std.proofs.Math.Seq.{get_or-append_seam}
use Rattle.shard_versions.specs.declared.entry.Kind.{Kind}
use Rattle.shard_versions.specs.declared.entry.Entry.{Entry}
use Rattle.shard_versions.specs.declared.tree.Node.{Node}
use Rattle.shard_versions.specs.Histories.{History}
use Rattle.shard_versions.specs.Places.{placed, last_where}
use Rattle.shard_versions.specs.Trees.{place_at, below, way, idle, passes, Leads, IsIndex, Comes, Stops}
use Rattle.shard_versions.proofs.PlaceLemmas.{last_where-found}

-- a way that has ended goes no further
pub way-ends : (side : ℕ → Bool) (nodes : List Node) (first d e : ℕ) → d ≤ e
    → way side nodes first d ≡ 0 → way side nodes first e ≡ 0
unfolding way
way-ends side nodes first d zero le z =
    ap (way side nodes first) (let s : 0 ≡ d = omega arith in s) ∙ z
way-ends side nodes first d (suc e) le z = elim (cases_lt d (suc e)) [
  | inl h ↦ ap (below nodes (side e)) (way-ends side nodes first d e (omega arith) z)
  | inr h ↦ ap (way side nodes first) (let s : suc e ≡ d = omega arith in s) ∙ z
]

-- before a node of a way there are nodes
pub way-some : (side : ℕ → Bool) (nodes : List Node) (first d e : ℕ) → d ≤ e
    → 0 < way side nodes first e → 0 < way side nodes first d
way-some side nodes first d e le some = go (way side nodes first d) refl
  where
    go : (n : ℕ) → way side nodes first d ≡ n → 0 < way side nodes first d
    go zero is = absurd (omega (arith, some, way-ends side nodes first d e le is))
    go (suc n) is = omega (arith, is)

-- a way stays among the nodes
pub way-few : (side : ℕ → Bool) (nodes : List Node) (first : ℕ) → first ≤ length nodes
    → ((right : Bool) (k : ℕ) → k < length nodes → 0 < below nodes right (suc k)
    → (suc k < below nodes right (suc k)) × (below nodes right (suc k) ≤ length nodes))
    → (d : ℕ) → way side nodes first d ≤ length nodes
unfolding way
way-few side nodes first few rises zero = few
way-few side nodes first few rises (suc d) =
    go (way side nodes first d) (way-few side nodes first few rises d)
  where
    go : (w : ℕ) → w ≤ length nodes → below nodes (side d) w ≤ length nodes
    go zero le = omega arith
    go (suc k) le = out (below nodes (side d) (suc k)) refl
      where
        out : (b : ℕ) → below nodes (side d) (suc k) ≡ b → below nodes (side d) (suc k) ≤ length nodes
        out zero is = omega (arith, is)
        out (suc b) is = (rises (side d) k (omega arith) (omega (arith, is))).1

-- a way leads to the same nodes where others come below them
pub way-grows : (old new : List Node)
    → ((right : Bool) (a : ℕ) → 0 < below old right a → below new right a ≡ below old right a)
    → (side : ℕ → Bool) (first other : ℕ) → (0 < first → other ≡ first)
    → (d : ℕ) → 0 < way side old first d → way side new other d ≡ way side old first d
unfolding way
way-grows old new kept side first other same zero some = same some
way-grows old new kept side first other same (suc d) some =
    let earlier : 0 < way side old first d = way-some side old first d (suc d) (omega arith) some in
    ap (below new (side d)) (way-grows old new kept side first other same d earlier)
    ∙ kept (side d) (way side old first d) some

-- and where places alone differ
pub way-same : (old new : List Node) → ((right : Bool) (a : ℕ) → below new right a ≡ below old right a)
    → (side : ℕ → Bool) (first other : ℕ) → other ≡ first
    → (d : ℕ) → way side new other d ≡ way side old first d
unfolding way
way-same old new kept side first other same zero = same
way-same old new kept side first other same (suc d) =
    ap (below new (side d)) (way-same old new kept side first other same d)
    ∙ kept (side d) (way side old first d)

-- and on the same sides
pub way-alike : (one other : ℕ → Bool) → ((d : ℕ) → one d ≡ other d) → (nodes : List Node) (first d : ℕ)
    → way one nodes first d ≡ way other nodes first d
unfolding way
way-alike one other same nodes first zero = refl
way-alike one other same nodes first (suc d) =
    ap (λ b. below nodes b (way one nodes first d)) (same d)
    ∙ ap (below nodes (other d)) (way-alike one other same nodes first d)

-- the entries before one more are as they were
pub passes-append : (test : Kind → Bool) (h : History) (e : Entry) (p : ℕ) → p ≤ length h
    → passes test (h ++ e ∷ []) p ≡ passes test h p
passes-append test h e zero le = refl
passes-append test h e (suc k) le =
    ap (λ (x : Entry). test x.kind) (get_or_append_left h (e ∷ []) idle k (omega arith))

-- and that one is behind them
pub passes-last : (test : Kind → Bool) (h : History) (e : Entry) (p : ℕ) → p ≡ length h + 1
    → passes test (h ++ e ∷ []) p ≡ test e.kind
passes-last test h e zero is = absurd (omega arith)
passes-last test h e (suc k) is =
    ap (λ (x : Entry). test x.kind)
    (ap (λ n. get_or (h ++ e ∷ []) n idle) (let s : k ≡ length h = omega arith in s)
    ∙ get_or-append_seam h e [] idle)

-- an item that passes stands at the last place of one or before it
some-last : {X : Type 0} (p : X → Bool) (xs : List X) (k : ℕ) (d : X) → k < length xs
    → p (get_or xs k d) ≡ true → 0 < last_where p xs
unfolding last_where
some-last p [] k d lt t = absurd (omega arith)
some-last p (x ∷ xs) zero d lt t = go (last_where p xs) (p x) t
  where
    go : (n : ℕ) (b : Bool) → b ≡ true → 0 < placed n b
    go zero true t = omega arith
    go zero false t = absurd (cc)
    go (suc n) b t = omega arith
some-last p (x ∷ xs) (suc k) d lt t = go (last_where p xs) (some-last p xs k d (omega arith) t)
  where
    go : (n : ℕ) → 0 < n → 0 < placed n (p x)
    go zero some = absurd (omega arith)
    go (suc n) some = omega arith

-- the last place of an entry that passes, as a number
abbrev pub last_of : (Kind → Bool) → History → ℕ
last_of test h = last_where (λ (e : Entry). test e.kind) h

-- there is a last place where the entry at a place passes
pub passes-some : (test : Kind → Bool) (h : History) (p : ℕ) → p ≤ length h
    → passes test h p ≡ true → 0 < last_of test h
passes-some test h zero le t = absurd (cc)
passes-some test h (suc k) le t =
    some-last (λ (e : Entry). test e.kind) h k idle (omega arith) t

-- the entry there passes
pub last-passes : (test : Kind → Bool) (h : History) (m : ℕ) → last_of test h ≡ suc m
    → passes test h (suc m) ≡ true
last-passes test h m is = last_where-found (λ (e : Entry). test e.kind) h m idle is

-- what an Ok gives, of a result that is tested to be Ok
pub on_ok-tested : {T E P : Type 0} (r : Result T E) → OnOk r P → is_ok r ≡ true → P
on_ok-tested (Ok x) p e = p
on_ok-tested (Err x) p e = absurd (cc)

-- the first numbers with one more
pub first-planted : {S : Type 0} (old new : HashMap ℕ ℕ S) (tag n t : ℕ) → Updates nat_eq old new tag (Some n)
    → unwrap_or (get nat_eq new t) 0 ≡ cond (eqb tag t) n (unwrap_or (get nat_eq old t) 0)
first-planted old new tag n t u = ap (λ o. unwrap_or o 0) (u.0 t) ∙ head (eqb tag t)
  where
    head : (b : Bool)
        → unwrap_or (cond b (Some n) (get nat_eq old t)) 0 ≡ cond b n (unwrap_or (get nat_eq old t) 0)
    head true = refl
    head false = refl

-- a fact that is false and true
pub both : (b c : Bool) → b ≡ c → b ≡ true → c ≡ false → (n m : ℕ) → n ≡ m
both b c e t f n m = absurd (cc)

module _ {X : Type 0} (test : X → Kind → Bool) (side : X → ℕ → Bool) (tag : X → ℕ)
    (first : ℕ → ℕ) (nodes : List Node) (h : History) (index : IsIndex test side tag first nodes h) where
  -- the place of a node is that of an entry
  pub place-few : (a : ℕ) → a ≤ length nodes → place_at nodes a ≤ length h
  place-few zero le = omega arith
  place-few (suc k) le = (index.placed k (omega arith)).1

  -- ways stay among the nodes
  pub ways : (x : X) (d : ℕ) → way (side x) nodes (first (tag x)) d ≤ length nodes
  ways x d = way-few (side x) nodes (first (tag x)) (index.begins (tag x)) index.rises d

  module _ (x : X) where
    -- a walk begins at the first node
    pub walk-begins : 0 < first (tag x) → Comes (side x) (test x) nodes h (first (tag x)) (first (tag x)) 0
    unfolding way
    walk-begins some = record {
      here = refl;
      some = some;
      few = index.begins (tag x);
      deep = some;
      before = λ d lt. absurd (omega (arith, lt));
    }

    module _ (at depth place lower : ℕ) (right : Bool) (w : Comes (side x) (test x) nodes h (first (tag x)) at depth)
        (is : place ≡ place_at nodes at) (goes : right ≡ side x depth) (leads : lower ≡ below nodes right at) where
      -- it goes on to the node below, where the place doesn't pass
      pub walk-goes : passes (test x) h place ≡ false → 0 < lower
          → Comes (side x) (test x) nodes h (first (tag x)) lower (depth + 1)
      unfolding way
      walk-goes f some =
          let rise = step at w.some w.few (omega (arith, leads, some)) in
          record {
            here = ap (way (side x) nodes (first (tag x))) (add-one depth)
                ∙ (ap (below nodes (side x depth)) w.here ∙ (ap (λ b. below nodes b at) (sym goes) ∙ sym leads));
            some = some;
            few = omega (arith, leads, rise.1);
            deep = omega (arith, w.deep, leads, rise.0);
            before = λ d lt. elim (cases_lt d depth) [
              | inl earlier ↦ w.before d earlier
              | inr last ↦
                  ap (λ n. passes (test x) h (place_at nodes (way (side x) nodes (first (tag x)) n))) (let q : d ≡ depth = omega (arith, lt, last) in q)
                  ∙ (ap (λ a. passes (test x) h (place_at nodes a)) w.here ∙ (ap (passes (test x) h) (sym is) ∙ f))
            ];
          }
        where
          step : (a : ℕ) → 0 < a → a ≤ length nodes → 0 < below nodes right a
              → (a < below nodes right a) × (below nodes right a ≤ length nodes)
          step zero z few b = absurd (omega (arith, z))
          step (suc k) z few b = index.rises right k (omega arith) b

      -- it stops where there is none
      pub walk-stops : lower ≡ 0 → Stops (side x) (test x) nodes h (first (tag x)) at right
      walk-stops z = record { depth = depth; comes = w; ends = λ f. (goes, sym leads ∙ z) }

    -- and where the place passes
    pub walk-here : (at depth place : ℕ) (right : Bool) → Comes (side x) (test x) nodes h (first (tag x)) at depth
        → place ≡ place_at nodes at → passes (test x) h place ≡ true
        → Stops (side x) (test x) nodes h (first (tag x)) at right
    walk-here at depth place right w is t = record {
      depth = depth;
      comes = w;
      ends = λ f. absurd (let g = ap (passes (test x) h) is in cc);
    }

  module _ (x : X) (at : ℕ) (right : Bool) (s : Stops (side x) (test x) nodes h (first (tag x)) at right) where
    -- the way of the key leads to its last place no sooner than a walk stops
    later : (m : ℕ) → last_of (test x) h ≡ suc m
        → (l : Leads (side x) (test x) nodes h (first (tag x)) (suc m)) → s.depth ≤ l.depth
    later m is l = elim (cases_lt l.depth s.depth) [
      | inl lt ↦ omega (
        arith,
        both (passes (test x) h (suc m)) (passes (test x) h (place_at nodes (way (side x) nodes (first (tag x)) l.depth)))
            (ap (passes (test x) h) (sym l.there)) (last-passes (test x) h m is) (s.comes.before l.depth lt) s.depth l.depth,
      )
      | inr ge ↦ ge
    ]

    -- a walk that stops at a place that passes has found the last one
    pub walk-found : passes (test x) h (place_at nodes at) ≡ true → place_at nodes at ≡ last_of (test x) h
    walk-found t = go (last_of (test x) h) refl
      where
        go : (n : ℕ) → last_of (test x) h ≡ n → place_at nodes at ≡ last_of (test x) h
        go zero is = absurd (omega (arith, is, passes-some (test x) h (place_at nodes at) (place-few at s.comes.few) t))
        go (suc m) is =
            let l = index.leads x m is in
            elim (cases_lt s.depth l.depth) [
              | inl lt ↦ both (passes (test x) h (place_at nodes at)) (passes (test x) h (place_at nodes (way (side x) nodes (first (tag x)) s.depth)))
                  (ap (λ a. passes (test x) h (place_at nodes a)) (sym s.comes.here)) t (l.before s.depth lt) (place_at nodes at) (last_of (test x) h)
              | inr ge ↦
                  let e : s.depth ≡ l.depth = omega (arith, ge, later m is l) in
                  ap (place_at nodes) (sym s.comes.here ∙ ap (way (side x) nodes (first (tag x))) e) ∙ (l.there ∙ sym is)
            ]

    -- else there is none
    pub walk-missed : passes (test x) h (place_at nodes at) ≡ false → 0 ≡ last_of (test x) h
    unfolding way
    walk-missed f = go (last_of (test x) h) refl
      where
        go : (n : ℕ) → last_of (test x) h ≡ n → 0 ≡ last_of (test x) h
        go zero is = sym is
        go (suc m) is =
            let l = index.leads x m is in
            elim (cases_lt s.depth l.depth) [
              | inl lt ↦
                  let ends = s.ends f in
                  let z : way (side x) nodes (first (tag x)) (suc s.depth) ≡ 0 =
                  ap (below nodes (side x s.depth)) s.comes.here ∙ (ap (λ b. below nodes b at) (sym ends.0) ∙ ends.1) in
                  let none : way (side x) nodes (first (tag x)) l.depth ≡ 0 =
                  way-ends (side x) nodes (first (tag x)) (suc s.depth) l.depth (omega arith) z in
                  absurd (omega (arith, sym l.there ∙ ap (place_at nodes) none))
              | inr ge ↦
                  let e : s.depth ≡ l.depth = omega (arith, ge, later m is l) in
                  let there : suc m ≡ place_at nodes at =
                  sym l.there ∙ ap (place_at nodes) (ap (way (side x) nodes (first (tag x))) (sym e) ∙ s.comes.here) in
                  both (passes (test x) h (suc m)) (passes (test x) h (place_at nodes at)) (ap (passes (test x) h) there)
                  (last-passes (test x) h m is) f 0 (last_of (test x) h)
            ]

  -- nor is there one where the tag has no node
  pub no-first : (x : X) → first (tag x) ≡ 0 → 0 ≡ last_of (test x) h
  unfolding way
  no-first x z = go (last_of (test x) h) refl
    where
      go : (n : ℕ) → last_of (test x) h ≡ n → 0 ≡ last_of (test x) h
      go zero is = sym is
      go (suc m) is =
          let l = index.leads x m is in
          let none : way (side x) nodes (first (tag x)) l.depth ≡ 0 =
          way-ends (side x) nodes (first (tag x)) 0 l.depth (omega arith) z in
          absurd (omega (arith, sym l.there ∙ ap (place_at nodes) none))
