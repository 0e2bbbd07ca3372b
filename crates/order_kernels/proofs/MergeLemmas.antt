-- What a merge takes off the front, over lists of what is held and of rests.
use Rattle.std.proofs.Common.{◌≡◌, ℕ, zero, suc, List, [], ◌∷◌, ◌++◌, Bool, true, false}
use Rattle.std.proofs.Common.{Option, Some, None, refl, sym, ◌∙◌, ap, subst}
use Rattle.std.proofs.Common.{append_assoc, arith, length, ◌<◌}
use Rattle.std.specs.Prelude.{slice_index_or, slice_set}
use Rattle.std.specs.List.{AllByRecursion}
use Rattle.std.specs.Cmp.{IsStrictWeakOrder}
use Rattle.tuple_values.specs.Document.{Doc}
use Rattle.sort_spec.specs.Sorting.{ins_sort, IsAscending}
use Rattle.sort_spec.proofs.SortLemmas.{first_least, each_append, each_weaker}
use Rattle.sort_spec.proofs.StableLemmas.{below}
use Rattle.kernel_laws.specs.Rests.{Rests, rest_at, put_front}
use Rattle.order_kernels.specs.Slots.{flow, joined, IsOver, AreFlows, IsKnown, AreKnown}
use Rattle.order_kernels.specs.Slots.{IfHeld, IsLeast}

-- a whole list, and what is left of it without one document, which is the first of the least
pub record Splits (lt : Doc → Doc → Bool) (doc : Doc) (whole left : List Doc) : Type 0 where
  pub before : List Doc
  pub after : List Doc
  pub whole_is : whole ≡ before ++ doc ∷ after
  pub left_is : left ≡ before ++ after
  pub above : AllByRecursion (λ x. lt doc x ≡ true) before
  pub beside : AllByRecursion (λ x. lt x doc ≡ false) after

-- a fact of every document is one of what is held where nothing is
pub none_held : (P : Doc → Type 0) (hs : List (Option Doc)) → AllByRecursion (λ h. h ≡ None) hs
    → AllByRecursion (IfHeld P) hs
none_held P [] n = tt
none_held P (None ∷ hs) n = (tt, none_held P hs n.1)
none_held P (Some doc ∷ hs) n = let e = n.0 in absurd (cc)

module _ (lt : Doc → Doc → Bool) where
  -- the least is held at its place
  pub least_held : (doc : Doc) (place : ℕ) (hs : List (Option Doc)) → IsLeast lt doc place hs
      → slice_index_or hs place None ≡ Some doc
  least_held doc place [] l = absurd l
  least_held doc zero (h ∷ hs) l = l.0
  least_held doc (suc place) (h ∷ hs) l = least_held doc place hs l.1

  -- so not all hold nothing
  pub least_not_none : (doc : Doc) (place : ℕ) (hs : List (Option Doc))
      → IsLeast lt doc place hs → AllByRecursion (λ h. h ≡ None) hs → ⊥
  least_not_none doc place [] l n = l
  least_not_none doc zero (h ∷ hs) l n = let e = l.0 in let f = n.0 in cc
  least_not_none doc (suc place) (h ∷ hs) l n = least_not_none doc place hs l.1 n.1

  -- it stays the least before one more that isn't below it
  pub least-append : (doc : Doc) (place : ℕ) (hs : List (Option Doc)) (h : Option Doc)
      → IsLeast lt doc place hs → IfHeld (λ u. lt u doc ≡ false) h
      → IsLeast lt doc place (hs ++ h ∷ [])
  least-append doc place [] h l p = absurd l
  least-append doc zero (g ∷ hs) h l p =
      (l.0, each_append (IfHeld (λ u. lt u doc ≡ false)) hs (h ∷ []) l.1 (p, tt))
  least-append doc (suc place) (g ∷ hs) h l p = (l.0, least-append doc place hs h l.1 p)

  -- one more that is below all is the least
  pub least_last : (doc : Doc) (hs : List (Option Doc))
      → AllByRecursion (IfHeld (λ u. lt doc u ≡ true)) hs
      → IsLeast lt doc (length hs) (hs ++ Some doc ∷ [])
  least_last doc [] a = (refl, tt)
  least_last doc (h ∷ hs) a = (a.0, least_last doc hs a.1)

  -- its place is one of the list
  pub least_within : (doc : Doc) (place : ℕ) (hs : List (Option Doc))
      → IsLeast lt doc place hs → place < length hs
  least_within doc place [] l = absurd l
  least_within doc zero (h ∷ hs) l = omega arith
  least_within doc (suc place) (h ∷ hs) l =
      let e = least_within doc place hs l.1 in omega arith

  -- a fact that goes up with the order holds of all that an input still gives
  flow_each : (P : Doc → Type 0) → ((u y : Doc) → P u → lt y u ≡ false → P y)
      → (h : Option Doc) (e : Bool) (rest : List Doc)
      → IfHeld P h → IsKnown h e → IsOver e rest → IsAscending lt (flow h rest)
      → AllByRecursion P (flow h rest)
  flow_each P up None true rest p k v a = subst (λ l. AllByRecursion P l) (sym v) tt
  flow_each P up None false rest p k v a = absurd (cc)
  flow_each P up (Some u) e rest p k v a =
      (p, each_weaker (λ y. lt y u ≡ false) P rest (λ y q. up u y p q) a.0)

  -- and of all that the inputs still give
  joined_each : (P : Doc → Type 0) → ((u y : Doc) → P u → lt y u ≡ false → P y)
      → (hs : List (Option Doc)) (es : List Bool) (rests : Rests)
      → AllByRecursion (IfHeld P) hs → AreKnown hs es → AreFlows lt hs es rests
      → AllByRecursion P (joined hs rests)
  joined_each P up [] es rests p k f = tt
  joined_each P up (h ∷ hs) es [] p k f = tt
  joined_each P up (h ∷ hs) [] (rest ∷ rests) p k f = absurd f
  joined_each P up (h ∷ hs) (e ∷ es) (rest ∷ rests) p k f =
      each_append P (flow h rest) (joined hs rests)
      (flow_each P up h e rest p.0 k.0 f.1 f.0)
      (joined_each P up hs es rests p.1 k.1 f.2)

  -- nothing is left where nothing is held and all is known
  pub none_joined : (hs : List (Option Doc)) (es : List Bool) (rests : Rests)
      → AllByRecursion (λ h. h ≡ None) hs → AreKnown hs es → AreFlows lt hs es rests
      → joined hs rests ≡ []
  none_joined [] es rests n k f = refl
  none_joined (h ∷ hs) es [] n k f = refl
  none_joined (h ∷ hs) [] (rest ∷ rests) n k f = absurd f
  none_joined (Some doc ∷ hs) (e ∷ es) (rest ∷ rests) n k f = let m = n.0 in absurd (cc)
  none_joined (None ∷ hs) (true ∷ es) (rest ∷ rests) n k f =
      let v = f.1 in rw v (none_joined hs es rests n.1 k.1 f.2)
  none_joined (None ∷ hs) (false ∷ es) (rest ∷ rests) n k f = let m = k.0 in absurd (cc)

  -- what follows the document that is held is in order
  flow_ascends : (h : Option Doc) (rest : List Doc) → IsAscending lt (flow h rest)
      → IsAscending lt rest
  flow_ascends None rest a = a
  flow_ascends (Some doc) rest a = a.1

  -- so the inputs stay in order where one is taken
  pub taken_flows : (i : ℕ) (hs : List (Option Doc)) (es : List Bool) (rests : Rests)
      → AreFlows lt hs es rests → AreFlows lt (slice_set hs i None) es rests
  taken_flows i [] es rests f = f
  taken_flows i (h ∷ hs) [] rests f = absurd f
  taken_flows i (h ∷ hs) (e ∷ es) [] f = absurd f
  taken_flows zero (h ∷ hs) (e ∷ es) (rest ∷ rests) f = (flow_ascends h rest f.0, f.1, f.2)
  taken_flows (suc i) (h ∷ hs) (e ∷ es) (rest ∷ rests) f =
      (f.0, f.1, taken_flows i hs es rests f.2)

  -- where a document was to come the input hasn't ended
  over_before : (e : Bool) (doc : Doc) (rest : List Doc) → IsOver e (doc ∷ rest)
      → IsOver e rest
  over_before true doc rest v = absurd (cc)
  over_before false doc rest v = tt

  -- the inputs are in order with a document held as with it in front of its rest
  pub fed_flows : (i : ℕ) (doc : Doc) (hs : List (Option Doc)) (es : List Bool) (rests : Rests)
      → slice_index_or hs i None ≡ None → AreFlows lt hs es (put_front i doc rests)
      → AreFlows lt (slice_set hs i (Some doc)) es rests
  fed_flows i doc [] es [] n f = f
  fed_flows zero doc [] [] (rest ∷ rests) n f = absurd f
  fed_flows zero doc [] (e ∷ es) (rest ∷ rests) n f = absurd f
  fed_flows (suc i) doc [] [] (rest ∷ rests) n f = absurd f
  fed_flows (suc i) doc [] (e ∷ es) (rest ∷ rests) n f = absurd f
  fed_flows i doc (h ∷ hs) [] rests n f = absurd f
  fed_flows i doc (h ∷ hs) (e ∷ es) [] n f = absurd f
  fed_flows zero doc (None ∷ hs) (e ∷ es) (rest ∷ rests) n f =
      (f.0, over_before e doc rest f.1, f.2)
  fed_flows zero doc (Some u ∷ hs) (e ∷ es) (rest ∷ rests) n f = absurd (cc)
  fed_flows (suc i) doc (h ∷ hs) (e ∷ es) (rest ∷ rests) n f =
      (f.0, f.1, fed_flows i doc hs es rests n f.2)

  -- and stay so where one has ended that gives nothing more
  pub ended_flows : (i : ℕ) (hs : List (Option Doc)) (es : List Bool) (rests : Rests)
      → rest_at i rests ≡ [] → AreFlows lt hs es rests
      → AreFlows lt hs (slice_set es i true) rests
  ended_flows i hs [] rests n f = f
  ended_flows i [] (e ∷ es) rests n f = absurd f
  ended_flows i (h ∷ hs) (e ∷ es) [] n f = absurd f
  ended_flows zero (h ∷ hs) (e ∷ es) (rest ∷ rests) n f = (f.0, n, f.2)
  ended_flows (suc i) (h ∷ hs) (e ∷ es) (rest ∷ rests) n f =
      (f.0, f.1, ended_flows i hs es rests n f.2)

-- a document that is held stands in front of its rest
pub fed_joined : (i : ℕ) (doc : Doc) (hs : List (Option Doc)) (rests : Rests)
    → slice_index_or hs i None ≡ None
    → joined (slice_set hs i (Some doc)) rests ≡ joined hs (put_front i doc rests)
fed_joined i doc [] rests n = refl
fed_joined zero doc (h ∷ hs) [] n = refl
fed_joined (suc i) doc (h ∷ hs) [] n = refl
fed_joined zero doc (None ∷ hs) (rest ∷ rests) n = refl
fed_joined zero doc (Some u ∷ hs) (rest ∷ rests) n = absurd (cc)
fed_joined (suc i) doc (h ∷ hs) (rest ∷ rests) n =
    ap (λ w. flow h rest ++ w) (fed_joined i doc hs rests n)

module _ (lt : Doc → Doc → Bool) (o : IsStrictWeakOrder lt) where
  -- nothing that is held by the first inputs is below what is below their least
  held_above : (doc u : Doc) → lt doc u ≡ true → (h : Option Doc)
      → IfHeld (λ w. lt w u ≡ false) h → IfHeld (λ w. lt doc w ≡ true) h
  held_above doc u e None p = tt
  held_above doc u e (Some w) p = below lt o doc u w e p

  -- what the least is below, a document below the least is below too
  held_far : (doc u : Doc) → lt doc u ≡ true → (h : Option Doc)
      → IfHeld (λ w. lt u w ≡ true) h → IfHeld (λ w. lt doc w ≡ true) h
  held_far doc u e None p = tt
  held_far doc u e (Some w) p = below lt o doc u w e (o.one_way u w p)

  -- so it is below all
  pub least_above : (doc u : Doc) (place : ℕ) (hs : List (Option Doc)) → lt doc u ≡ true
      → IsLeast lt u place hs → AllByRecursion (IfHeld (λ w. lt doc w ≡ true)) hs
  least_above doc u place [] e l = absurd l
  least_above doc u zero (None ∷ hs) e l = let n = l.0 in absurd (cc)
  least_above doc u zero (Some v ∷ hs) e l =
      let same : v ≡ u = let n = l.0 in cc in (
        rw same e,
        each_weaker (IfHeld (λ w. lt w u ≡ false)) (IfHeld (λ w. lt doc w ≡ true)) hs
            (λ h p. held_above doc u e h p) l.1,
      )
  least_above doc u (suc place) (h ∷ hs) e l =
      (held_far doc u e h l.0, least_above doc u place hs e l.1)

  -- it splits what the inputs still give
  splits : (doc : Doc) (i : ℕ) (hs : List (Option Doc)) (es : List Bool) (rests : Rests)
      → IsLeast lt doc i hs → AreKnown hs es → AreFlows lt hs es rests
      → Splits lt doc (joined hs rests) (joined (slice_set hs i None) rests)
  splits doc i [] es rests l k f = absurd l
  splits doc i (h ∷ hs) [] rests l k f = absurd f
  splits doc i (h ∷ hs) (e ∷ es) [] l k f = absurd f
  splits doc zero (None ∷ hs) (e ∷ es) (rest ∷ rests) l k f = let n = l.0 in absurd (cc)
  splits doc zero (Some u ∷ hs) (e ∷ es) (rest ∷ rests) l k f =
      let same : u ≡ doc = let n = l.0 in cc in
      record {
        before = [];
        after = rest ++ joined hs rests;
        whole_is = ap (λ w. w ∷ (rest ++ joined hs rests)) same;
        left_is = refl;
        above = tt;
        beside =
            each_append (λ x. lt x doc ≡ false) rest (joined hs rests)
            (subst (λ w. AllByRecursion (λ y. lt y w ≡ false) rest) same f.0.0)
            (joined_each lt (λ x. lt x doc ≡ false) (λ v y p q. o.chain y v doc q p) hs es rests
            l.1 k.1 f.2);
      }
  splits doc (suc i) (h ∷ hs) (e ∷ es) (rest ∷ rests) l k f =
      let s = splits doc i hs es rests l.1 k.1 f.2 in
      record {
        before = flow h rest ++ s.before;
        after = s.after;
        whole_is =
            ap (λ w. flow h rest ++ w) s.whole_is
            ∙ sym (append_assoc (flow h rest) s.before (doc ∷ s.after));
        left_is =
            ap (λ w. flow h rest ++ w) s.left_is
            ∙ sym (append_assoc (flow h rest) s.before s.after);
        above =
            each_append (λ x. lt doc x ≡ true) (flow h rest) s.before
            (flow_each lt (λ x. lt doc x ≡ true) (λ v y p q. below lt o doc v y p q) h e rest
            l.0 k.0 f.1 f.0)
            s.above;
        beside = s.beside;
      }

  -- so it comes off the front of the sorted whole
  pub least_first : (doc : Doc) (i : ℕ) (hs : List (Option Doc)) (es : List Bool) (rests : Rests)
      → IsLeast lt doc i hs → AreKnown hs es → AreFlows lt hs es rests
      → ins_sort lt (joined hs rests) ≡ doc ∷ ins_sort lt (joined (slice_set hs i None) rests)
  least_first doc i hs es rests l k f =
      let s = splits doc i hs es rests l k f in
      ap (λ w. ins_sort lt w) s.whole_is
      ∙ first_least lt s.before doc s.after s.above s.beside
      ∙ ap (λ w. doc ∷ ins_sort lt w) (sym s.left_is)
