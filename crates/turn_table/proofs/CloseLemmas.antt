-- What a closed table gives.
use Rattle.std.proofs.Common.{ℕ, zero, suc, ◌+◌, ◌*◌, ◌≡◌, ◌≢◌, ◌<◌, Bool, List, [], ◌∷◌, ◌++◌, length, get_or, map, sym, refl, ap, ◌∙◌, subst, ⊎_elim, arith, Option, Some, None}
use Rattle.std.specs.Prelude.{All, Contains, slice_get}
use Rattle.std.proofs.lemmas.List.{map-append}
use Rattle.std.proofs.lemmas.List.Elements.{All-cons, All-map, All-pop, All-push, All-same, Contains-append_right, Contains-push_cases}
use mathlib.Core.Option.{some, some-injective}
use lib.ListN.{get_elem?, length-map}
use Rattle.atomic_table.specs.Table.{Final, Seen}
use Rattle.atomic_table.proofs.Lists.{at_map}
use Rattle.turn_table.specs.declared.knowledge.Known.{Known}
use Rattle.turn_table.specs.declared.knowledge.View.{View}
use Rattle.turn_table.specs.Histories.{at, GrewBy}
use Rattle.turn_table.specs.Knowledge.{hand, passes_of, IsFree}
use Rattle.turn_table.specs.Rule.{IsClosed, IsHeld, IsOpen, Kept}
use Rattle.turn_table.proofs.ListLemmas.{at_place, each_at, some_is}

-- the histories that a closed table leaves, and what is true of them
pub record Ended {C A E : Type 0} (about : C → A) (history : C → List E) (writer : E → ℕ)
    (law : List A → List (List E) → Type 0) (abouts : List A) (start : List (List E))
    (numbers : List ℕ) (passes : List (Known A E)) (items : List (Option C)) : Type 0 where
  pub histories : List (List E)
  pub lawful : law abouts histories
  pub grown : GrewBy (λ entry. Contains numbers (writer entry)) start histories
  pub seen : (i : ℕ) (k : Known A E) → get_elem? passes i ≡ some k
      → GrewBy (λ entry. writer entry ≢ k.number) k.seen histories
  pub counted : length start ≡ length histories
  pub long : length items ≡ length histories
  pub values : (c : ℕ) → c < length histories → (y : C) × (get_elem? items c ≡ some (Some y))
      × (slice_get abouts c ≡ Some (about y)) × (history y ≡ at histories c)

-- a number of a list of passes has its pass there
pub pass_with : {A E : Type 0} (ks : List (Known A E)) (m : ℕ)
    → Contains (map (λ (k : Known A E). k.number) ks) m
    → (i : ℕ) × (k : Known A E) × (get_elem? ks i ≡ some k) × (k.number ≡ m)
pass_with [] m (i, low, is) = absurd (omega arith)
pass_with (k ∷ ks) m (zero, low, is) = (0, k, refl, is)
pass_with (k ∷ ks) m (suc i, low, is) =
    let t = pass_with ks m (i, omega arith, is) in (suc t.0, t.1, t.2, t.3)

module _ {C A E : Type 0} (about : C → A) (history : C → List E) (writer : E → ℕ)
    (law : List A → List (List E) → Type 0)
    (tells : List A → ℕ → List (List E) → List (List E) → Type 0) (settled : C → Type 0)
    (is_shut : C → Bool) (fault_count : C → ℕ)
    (abouts : List A) (start : List (List E)) (numbers : List ℕ) where
  -- the seat that has all passes, none of which holds a turn, closes the table
  pub ends : (id : ℕ) (v : View A E) (words : List ℕ) (items : List (Option C))
      → All (Contains (map (λ (k : Known A E). k.number) (passes_of v))) numbers
      → All IsFree (passes_of v)
      → Final (Seen (Kept about history writer law tells settled is_shut fault_count abouts start
      numbers) id v) words items
      → Ended about history writer law abouts start numbers (passes_of v) items
  ends id v words items all free (s, (r, at_id), same_words, long, homes) = record {
    histories = r.histories;
    lawful = r.lawful;
    grown = r.grown;
    seen = λ i k e. (r.each_pass id i v k at_id e).seen;
    counted = r.counted;
    long = sym long ∙ r.deep;
    values = λ c l. ⊎_elim
        (λ (t : (get_or s.words (3 * c + 1) 0 ≡ 0)
        × IsOpen about history settled is_shut fault_count abouts s.homes (at r.histories c)
        (get_or s.words (3 * c + 3) 0) c).
        let h = t.1.0 in (h.0, homes c (Some h.0) h.1, h.2, h.3))
        (⊎_elim
        (λ (t : (get_or s.words (3 * c + 1) 0 ≡ 1) × IsHeld s.views c).
        let h = t.1 in
        let ok = r.each_pass h.seat h.place h.view h.pass h.seated h.placed in
        let listed = ok.listed in
        let found = subst (Contains (map (λ (k : Known A E). k.number) (passes_of v)))
        listed.2 (all listed.0 h.pass.number listed.1) in
        let f = pass_with (passes_of v) h.pass.number found in
        let seat : h.seat ≡ id = sym ok.mine ∙ (ap r.owner (sym f.3)
        ∙ (r.each_pass id f.0 v f.1 at_id f.2).mine) in
        let same : h.view ≡ v = some-injective h.view v (sym h.seated
        ∙ (ap (get_elem? s.views) seat ∙ at_id)) in
        let here : get_elem? (passes_of v) h.place ≡ some h.pass =
        subst (λ (l : View A E). get_elem? (passes_of l) h.place ≡ some h.pass) same
        h.placed in
        let idle : hand h.pass c ≡ None =
        each_at IsFree (passes_of v) h.place h.pass free here c in
        let held = h.holds in absurd (cc))
        (λ (t : (get_or s.words (3 * c + 1) 0 ≡ 2)
        × IsClosed about history settled is_shut fault_count abouts s.homes (at r.histories c)
        (get_or s.words (3 * c + 3) 0) c).
        let h = t.1.0 in (h.0, homes c (Some h.0) h.1, h.2, h.3)))
        (r.each_cell c l).turn;
  }

module _ {C A E : Type 0} (about : C → A) (history : C → List E) where
  -- values with these histories have the list of them
  pub histories_are : (values : List C) (histories : List (List E))
      → length values ≡ length histories
      → ((c : ℕ) → c < length histories → (y : C) × (get_elem? (map Some values) c ≡ some (Some y))
      × (history y ≡ at histories c)) → map history values ≡ histories
  histories_are [] [] long each = refl
  histories_are [] (h ∷ hs) long each = absurd (omega arith)
  histories_are (x ∷ xs) [] long each = absurd (omega arith)
  histories_are (x ∷ xs) (h ∷ hs) long each =
      let t = each 0 (omega arith) in
      let same : x ≡ t.0 = some_is x t.0 (some-injective (Some x) (Some t.0) t.1) in
      let first : history x ≡ h = ap history same ∙ t.2 in
      let others = histories_are xs hs (omega arith) (λ c l. each (suc c) (omega arith)) in
      λ i. first i ∷ others i

  -- and what is fixed of them
  pub abouts_are : (values : List C) (abouts : List A) → length values ≡ length abouts
      → ((c : ℕ) → c < length abouts → (y : C) × (get_elem? (map Some values) c ≡ some (Some y))
      × (slice_get abouts c ≡ Some (about y))) → map about values ≡ abouts
  abouts_are [] [] long each = refl
  abouts_are [] (h ∷ hs) long each = absurd (omega arith)
  abouts_are (x ∷ xs) [] long each = absurd (omega arith)
  abouts_are (x ∷ xs) (h ∷ hs) long each =
      let t = each 0 (omega arith) in
      let same : x ≡ t.0 = some_is x t.0 (some-injective (Some x) (Some t.0) t.1) in
      let first : about x ≡ h = ap about same ∙ sym (some_is h (about t.0) t.2) in
      let others = abouts_are xs hs (omega arith) (λ c l. each (suc c) (omega arith)) in
      λ i. first i ∷ others i

module _ {C A E : Type 0} (about : C → A) (history : C → List E) (writer : E → ℕ)
    (law : List A → List (List E) → Type 0) (abouts : List A) (start : List (List E))
    (numbers : List ℕ) (passes : List (Known A E)) (items : List (Option C))
    (e : Ended about history writer law abouts start numbers passes items) (values : List C)
    (loaded : map Some values ≡ items) where
  counted : length values ≡ length e.histories
  counted = sym (length-map values (λ (x : C). Some x)) ∙ (ap length loaded ∙ e.long)

  -- the values that were in the slots have the histories
  pub closed_histories : map history values ≡ e.histories
  closed_histories = histories_are about history values e.histories counted
      (λ c l. let t = e.values c l in
      (t.0, ap (λ l. get_elem? l c) loaded ∙ t.1, t.3))

  -- and what is fixed of the cells is as at the start
  pub closed_abouts : length abouts ≡ length start → map about values ≡ abouts
  closed_abouts long = abouts_are about history values abouts
      (counted ∙ (sym e.counted ∙ sym long))
      (λ c l. let t = e.values c (subst (λ (n : ℕ). c < n) (long ∙ e.counted) l) in
      (t.0, ap (λ l. get_elem? l c) loaded ∙ t.1, t.2))

-- the passes of a table, and those that the seat of the last has taken in
module _ {P A E : Type 0} (known : P → Known A E) (passes front : List P) (first : P)
    (split : passes ≡ front ++ first ∷ []) (ks : List (Known A E))
    (taken : ks ≡ known first ∷ map known front) where
  abbrev number : P → ℕ
  number p = (known p).number

  map-known : (l : List P) → map (λ (k : Known A E). k.number) (map known l) ≡ map number l
  map-known [] = refl
  map-known (p ∷ ps) = ap (λ l. number p ∷ l) (map-known ps)

  -- each number of a pass is one of the seat's
  pub numbers_there : (m : ℕ) → Contains (map number passes) m
      → Contains (map (λ (k : Known A E). k.number) ks) m
  numbers_there m found = subst (λ l. Contains l m)
      (sym (ap (map (λ (k : Known A E). k.number)) taken
      ∙ ap (λ l. number first ∷ l) (map-known front)))
      (⊎_elim
      (λ (t : Contains (map number front) m).
      Contains-append_right (number first ∷ []) (map number front) m t)
      (λ (t : number first ≡ m). (0, omega arith, t))
      (Contains-push_cases (map number front) (number first) m
      (subst (λ l. Contains l m)
      (ap (map number) split ∙ map-append number front (first ∷ [])) found)))

  -- where no pass holds a turn, none of the seat's does
  pub free_there : All (λ p. IsFree (known p)) passes → All IsFree ks
  free_there free =
      let two = All-pop (λ p. IsFree (known p)) passes front (Some first) split free in
      subst (All IsFree) (sym taken) (All-cons IsFree (known first) (map known front) two.1
      (All-map IsFree known front two.0))

  -- what is true of each of the seat's passes is true of each pass
  pub each_pass : (Q : Known A E → Type 0)
      → ((i : ℕ) (k : Known A E) → get_elem? ks i ≡ some k → Q k)
      → All (λ p. Q (known p)) passes
  each_pass Q each = All-same (λ p. Q (known p)) passes (front ++ first ∷ []) split
      (All-push (λ p. Q (known p)) front first
      (λ i d low. each (suc i) (known (get_or front i d))
      (ap (λ l. get_elem? l (suc i)) taken
      ∙ at_map known front i (get_or front i d) (at_place front i d low)))
      (each 0 (known first) (ap (λ l. get_elem? l 0) taken)))
