-- Merging over the kernel's slots.
use Rattle.std.proofs.Common.{◌≡◌, ℕ, zero, suc, ◌<◌, List, [], ◌∷◌, ◌++◌, length}
use Rattle.std.proofs.Common.{Bool, true, false, subst, take, ◌+◌, add-one}
use Rattle.std.proofs.Common.{Option, Some, None, refl, sym, ◌∙◌, ap, arith}
use Rattle.std.specs.Prelude.{slice_index_or, slice_set, option_to_list}
use Rattle.std.specs.Cmp.{IsStrictWeakOrder}
use Rattle.std.specs.List.{AllByRecursion, flat_map}
use Rattle.std.proofs.lemmas.List.{map-set, get_or-map, map-append, length-map, length-take-le}
use Rattle.std.proofs.lemmas.List.{take_more}
use Rattle.tuple_values.specs.Document.{Doc}
use Rattle.sort_spec.specs.Sorting.{ins_sort, IsAscending}
use Rattle.sort_spec.proofs.SortLemmas.{each_append}
use Rattle.kernel_laws.specs.Rests.{Rests, rest_at, put_front}
use Rattle.order_kernels.specs.Slots.{held, flags, joined, AreFlows, IsKnown, AreKnown, IsFresh}
use Rattle.order_kernels.specs.Slots.{IsLeast, IsForemost}
use Rattle.order_kernels.proofs.MergeLemmas.{least_first, least_held, least_within, least-append}
use Rattle.order_kernels.proofs.MergeLemmas.{least_last, least_above, none_held}
use Rattle.order_kernels.proofs.MergeLemmas.{taken_flows, fed_joined, fed_flows, ended_flows}
use Rattle.order_kernels.specs.declared.merge_state.Slot.{Slot}

-- what is held where one slot is set
pub held_set : (slots : List Slot) (i : ℕ) (s : Slot)
    → held (slice_set slots i s) ≡ slice_set (held slots) i s.held
held_set slots i s = map-set (λ s. s.held) slots i s

-- which have ended where one slot is set
pub flags_set : (slots : List Slot) (i : ℕ) (s : Slot)
    → flags (slice_set slots i s) ≡ slice_set (flags slots) i s.ended
flags_set slots i s = map-set (λ s. s.ended) slots i s

-- which have ended where what is held of one changes
pub flags_same : (slots : List Slot) (i : ℕ) (d : Slot) (h : Option Doc)
    → flags (slice_set slots i (record { held = h; ended = (slice_index_or slots i d).ended }))
    ≡ flags slots
flags_same [] i d h = refl
flags_same (s ∷ slots) zero d h = refl
flags_same (s ∷ slots) (suc i) d h = ap (λ w. s.ended ∷ w) (flags_same slots i d h)

-- what is held where one ends
pub held_same : (slots : List Slot) (i : ℕ) (d : Slot) (e : Bool)
    → held (slice_set slots i (record { held = (slice_index_or slots i d).held; ended = e }))
    ≡ held slots
held_same [] i d e = refl
held_same (s ∷ slots) zero d e = refl
held_same (s ∷ slots) (suc i) d e = ap (λ w. s.held ∷ w) (held_same slots i d e)

-- what is held at a place
pub slot_held : (slots : List Slot) (i : ℕ) (d : Slot) → i < length slots
    → slice_index_or (held slots) i None ≡ (slice_index_or slots i d).held
slot_held slots i d h = get_or-map (λ (s : Slot). s.held) slots i d None h

-- what is held up to a place, and of the slot there
held-take : (slots : List Slot) (i : ℕ) (d : Slot) → i < length slots
    → held (take (i + 1) slots) ≡ held (take i slots) ++ (slice_index_or slots i d).held ∷ []
held-take slots i d h =
    ap held (take_more slots i d h)
    ∙ map-append (λ s. s.held) (take i slots) (slice_index_or slots i d ∷ [])

-- how many that are
length-held : (slots : List Slot) (i : ℕ) → i < length slots → length (held (take i slots)) ≡ i
length-held slots i h =
    length-map (take i slots) (λ s. s.held) ∙ length-take-le i slots (omega arith)

-- what is held at an earlier place
taken_held : (slots : List Slot) (i place : ℕ) (d : Slot) → place < i → i < length slots
    → slice_index_or (held (take i slots)) place None ≡ (slice_index_or slots place d).held
taken_held [] i place d p h = absurd (omega arith)
taken_held (s ∷ slots) zero place d p h = absurd (omega arith)
taken_held (s ∷ slots) (suc i) zero d p h = refl
taken_held (s ∷ slots) (suc i) (suc place) d p h =
    taken_held slots i place d (omega arith) (omega arith)

-- what is known up to a place, and of the slot there
known_by : (slots : List Slot) (i : ℕ) (d : Slot) → i < length slots
    → AreKnown (held (take i slots)) (flags (take i slots))
    → IsKnown (slice_index_or slots i d).held (slice_index_or slots i d).ended
    → AreKnown (held (take (suc i) slots)) (flags (take (suc i) slots))
known_by [] i d h k e = tt
known_by (s ∷ slots) zero d h k e = (e, tt)
known_by (s ∷ slots) (suc i) d h k e = (k.0, known_by slots i d (omega arith) k.1 e)

pub known_on_place : (slots : List Slot) (i : ℕ) (d : Slot) → i < length slots
    → AreKnown (held (take i slots)) (flags (take i slots))
    → IsKnown (slice_index_or slots i d).held (slice_index_or slots i d).ended
    → AreKnown (held (take (i + 1) slots)) (flags (take (i + 1) slots))
known_on_place slots i d h k e = rw add-one (known_by slots i d h k e)

-- which input hasn't ended
pub flag_at : (slots : List Slot) (i : ℕ) (d : Slot) → i < length slots
    → slice_index_or (flags slots) i true ≡ (slice_index_or slots i d).ended
flag_at slots i d h = get_or-map (λ (s : Slot). s.ended) slots i d true h

-- a place at which an input hasn't ended is one of the slots
pub slot_within : (slots : List Slot) (i : ℕ) → slice_index_or (flags slots) i true ≡ false
    → i < length slots
slot_within [] i e = absurd (cc)
slot_within (s ∷ slots) zero e = omega arith
slot_within (s ∷ slots) (suc i) e = let h = slot_within slots i e in omega arith

-- where nothing is held and all is known, each input has ended
pub known_over : (slots : List Slot) → AllByRecursion (λ h. h ≡ None) (held slots)
    → AreKnown (held slots) (flags slots) → AllByRecursion (λ e. e ≡ true) (flags slots)
known_over [] n k = tt
known_over (s ∷ slots) n k = (let h = n.0 in rw h at k.0, known_over slots n.1 k.1)

module _ (lt : Doc → Doc → Bool) where
  -- the place of the least of the first slots is one of all
  pub foremost_within : (slots : List Slot) (i place : ℕ) → i < length slots
      → IsForemost lt (held (take i slots)) (Some place) → place < i
  foremost_within slots i place h f =
      let e = least_within lt f.0 place (held (take i slots)) f.1 in
      let n = length-held slots i h in omega arith

  -- and its document is held there
  pub foremost_held : (slots : List Slot) (i place : ℕ) (d : Slot) (h : i < length slots)
      → (f : IsForemost lt (held (take i slots)) (Some place))
      → (slice_index_or slots place d).held ≡ Some f.0
  foremost_held slots i place d h f =
      sym (taken_held slots i place d (foremost_within slots i place h f) h)
      ∙ least_held lt f.0 place (held (take i slots)) f.1

  -- one more slot that holds nothing leaves the foremost
  pub foremost_empty : (slots : List Slot) (i : ℕ) (d : Slot) (best : Option ℕ)
      → i < length slots → (slice_index_or slots i d).held ≡ None
      → IsForemost lt (held (take i slots)) best → IsForemost lt (held (take (i + 1) slots)) best
  foremost_empty slots i d None h e f =
      rw (held-take slots i d h, e)
      (each_append (λ k. k ≡ None) (held (take i slots)) (None ∷ []) f (refl, tt))
  foremost_empty slots i d (Some place) h e f =
      rw (held-take slots i d h, e)
      (f.0, least-append lt f.0 place (held (take i slots)) None f.1 tt)

  -- the first document that is held is the foremost
  pub foremost_first : (slots : List Slot) (i : ℕ) (d : Slot) (doc : Doc)
      → i < length slots → (slice_index_or slots i d).held ≡ Some doc
      → IsForemost lt (held (take i slots)) None
      → IsForemost lt (held (take (i + 1) slots)) (Some i)
  foremost_first slots i d doc h e f =
      let hs = held (take i slots) in
      rw (held-take slots i d h, e) (
        doc,
        subst (λ (n : ℕ). IsLeast lt doc n (hs ++ Some doc ∷ [])) (length-held slots i h)
            (least_last lt doc hs (none_held (λ u. lt doc u ≡ true) hs f)),
      )

  -- a document that isn't less leaves it
  pub foremost_stays : (slots : List Slot) (i place : ℕ) (d e : Slot) (doc first : Doc)
      → i < length slots → (slice_index_or slots i d).held ≡ Some doc
      → (slice_index_or slots place e).held ≡ Some first → lt doc first ≡ false
      → IsForemost lt (held (take i slots)) (Some place)
      → IsForemost lt (held (take (i + 1) slots)) (Some place)
  foremost_stays slots i place d e doc first h p g n f =
      let same : first ≡ f.0 = let k = foremost_held slots i place e h f in cc in
      let below : lt doc f.0 ≡ false = rw (← same) n in
      rw (held-take slots i d h, p)
      (f.0, least-append lt f.0 place (held (take i slots)) (Some doc) f.1 below)

  -- one that is less is the foremost
  pub foremost_less : IsStrictWeakOrder lt → (slots : List Slot) (i place : ℕ) (d e : Slot)
      (doc first : Doc) → i < length slots → (slice_index_or slots i d).held ≡ Some doc
      → (slice_index_or slots place e).held ≡ Some first → lt doc first ≡ true
      → IsForemost lt (held (take i slots)) (Some place)
      → IsForemost lt (held (take (i + 1) slots)) (Some i)
  foremost_less o slots i place d e doc first h p g n f =
      let hs = held (take i slots) in
      let same : first ≡ f.0 = let k = foremost_held slots i place e h f in cc in
      let below : lt doc f.0 ≡ true = rw (← same) n in
      rw (held-take slots i d h, p) (
        doc,
        subst (λ (n : ℕ). IsLeast lt doc n (hs ++ Some doc ∷ [])) (length-held slots i h)
            (least_last lt doc hs (least_above lt o doc f.0 place hs below f.1)),
      )

  -- what is taken at the place of the least is the least
  pub taken_some : (slots : List Slot) (i : ℕ) (doc : Doc) (d : Slot) (taken : Option Doc)
      → IsLeast lt doc i (held slots) → i < length slots
      → taken ≡ (slice_index_or slots i d).held → taken ≡ Some doc
  taken_some slots i doc d taken l h f =
      f ∙ sym (slot_held slots i d h) ∙ least_held lt doc i (held slots) l

  -- what is held then
  held_taken : (slots : List Slot) (i : ℕ) (d : Slot) (left : Option Doc) → left ≡ None
      → held (slice_set slots i (record { held = left; ended = (slice_index_or slots i d).ended }))
      ≡ slice_set (held slots) i None
  held_taken slots i d left n =
      held_set slots i (record { held = left; ended = (slice_index_or slots i d).ended })
      ∙ ap (λ w. slice_set (held slots) i w) n

  -- it comes off the front
  pub taken_out : IsStrictWeakOrder lt → (slots : List Slot) (i : ℕ) (doc : Doc) (d : Slot)
      (taken left : Option Doc) → IsLeast lt doc i (held slots) → i < length slots
      → taken ≡ (slice_index_or slots i d).held → left ≡ None
      → AreKnown (held slots) (flags slots) → (rests : Rests)
      → AreFlows lt (held slots) (flags slots) rests
      → ins_sort lt (joined (held slots) rests)
      ≡ option_to_list taken
      ++ ins_sort lt (joined (held (slice_set slots i (record {
        held = left;
        ended = (slice_index_or slots i d).ended;
      }))) rests)
  taken_out o slots i doc d taken left l h f n k rests a =
      let now : taken ≡ Some doc = taken_some slots i doc d taken l h f in
      rw (now, held_taken slots i d left n)
      (least_first lt o doc i (held slots) (flags slots) rests l k a)

  -- and the inputs stay in order
  pub taken_flow : (slots : List Slot) (i : ℕ) (d : Slot) (left : Option Doc) → left ≡ None
      → (rests : Rests) → AreFlows lt (held slots) (flags slots) rests
      → AreFlows lt
      (held (slice_set slots i (record { held = left; ended = (slice_index_or slots i d).ended })))
      (flags (slice_set slots i (record { held = left; ended = (slice_index_or slots i d).ended })))
      rests
  taken_flow slots i d left n rests a =
      rw (held_taken slots i d left n, flags_same slots i d left)
      (taken_flows lt i (held slots) (flags slots) rests a)

  -- the output is what it was with a document that is held in front of its rest
  pub fed_out : (i : ℕ) (doc : Doc) (hs ks : List (Option Doc))
      → slice_index_or hs i None ≡ None → ks ≡ slice_set hs i (Some doc) → (rests : Rests)
      → ins_sort lt (joined ks rests) ≡ ins_sort lt (joined hs (put_front i doc rests))
  fed_out i doc hs ks n e rests = rw e (ap (λ w. ins_sort lt w) (fed_joined i doc hs rests n))

  -- and the inputs are in order
  pub fed_ready : (i : ℕ) (doc : Doc) (hs ks : List (Option Doc)) (es fs : List Bool)
      → slice_index_or hs i None ≡ None → ks ≡ slice_set hs i (Some doc) → fs ≡ es
      → (rests : Rests) → AreFlows lt hs es (put_front i doc rests) → AreFlows lt ks fs rests
  fed_ready i doc hs ks es fs n e f rests a = rw (e, f) (fed_flows lt i doc hs es rests n a)

  -- also where one has ended
  pub ended_ready : (i : ℕ) (hs ks : List (Option Doc)) (es fs : List Bool) → ks ≡ hs
      → fs ≡ slice_set es i true → (rests : Rests) → rest_at i rests ≡ []
      → AreFlows lt hs es rests → AreFlows lt ks fs rests
  ended_ready i hs ks es fs e f rests n a = rw (e, f) (ended_flows lt i hs es rests n a)

-- there is a flag for each slot
pub length-flags : (slots : List Slot) → length (flags slots) ≡ length slots
length-flags [] = refl
length-flags (s ∷ slots) = let e = length-flags slots in omega arith

-- at the start the inputs still give their rests
fresh_joined : (slots : List Slot) (rests : Rests) → AllByRecursion IsFresh slots
    → length rests ≡ length slots → joined (held slots) rests ≡ flat_map (λ docs. docs) rests
fresh_joined [] [] f e = refl
fresh_joined [] (rest ∷ rests) f e = absurd (omega arith)
fresh_joined (s ∷ slots) [] f e = refl
fresh_joined (s ∷ slots) (rest ∷ rests) f e =
    let h = f.0.0 in
    rw h (ap (λ w. rest ++ w) (fresh_joined slots rests f.1 (omega arith)))

-- so their merge is to come
pub fresh_out : (lt : Doc → Doc → Bool) (slots : List Slot) (rests : Rests)
    → AllByRecursion IsFresh slots → length rests ≡ length slots
    → ins_sort lt (joined (held slots) rests) ≡ ins_sort lt (flat_map (λ docs. docs) rests)
fresh_out lt slots rests f e = ap (λ w. ins_sort lt w) (fresh_joined slots rests f e)

-- and the kernel is ready for rests in order
pub fresh_ready : (lt : Doc → Doc → Bool) (slots : List Slot) (rests : Rests)
    → AllByRecursion IsFresh slots → length rests ≡ length slots
    → AllByRecursion (IsAscending lt) rests → AreFlows lt (held slots) (flags slots) rests
fresh_ready lt [] [] f e a = tt
fresh_ready lt [] (rest ∷ rests) f e a = absurd (omega arith)
fresh_ready lt (s ∷ slots) [] f e a = absurd (omega arith)
fresh_ready lt (s ∷ slots) (rest ∷ rests) f e a =
    let h = f.0.0 in
    let g = f.0.1 in
    rw (h, g) (a.0, tt, fresh_ready lt slots rests f.1 (omega arith) a.1)

-- slots of which nothing is known, and one more
pub fresh_push : (xs ys : List Slot) → AllByRecursion IsFresh xs → AllByRecursion IsFresh ys
    → AllByRecursion IsFresh (xs ++ ys)
fresh_push xs ys a b = each_append IsFresh xs ys a b

-- what the start of a merge needs
pub ruleset fresh_steps = (fresh_ready, fresh_out, length-flags)

-- what feeding it needs
pub ruleset feed_steps = (slot_within, fed_out, fed_ready, ended_ready)
