-- The rule holds at the start.
use Rattle.std.proofs.Common.{ℕ, zero, suc, ◌+◌, ◌*◌, ◌≡◌, ◌≢◌, ◌<◌, Bool, false, List, [], ◌∷◌, ◌++◌, map, length, get_or, replicate, sym, refl, ap, ◌∙◌, subst, inl, arith, Option, Some, None, append_assoc}
use Rattle.std.specs.Prelude.{All, AllPairs, Contains, slice_get}
use Rattle.std.proofs.lemmas.List.Elements.{All-head, All-nil, All-tail, All-weaker}
use mathlib.Core.Option.{some, some-ne-none, some-injective}
use mathlib.Core.List.{map-append}
use lib.ListN.{get_elem?, length-replicate, length-map}
use Rattle.atomic_table.specs.Table.{opening}
use Rattle.atomic_table.proofs.Lists.{at_map}
use Rattle.turn_table.specs.declared.knowledge.Known.{Known}
use Rattle.turn_table.specs.declared.knowledge.View.{View}
use Rattle.turn_table.specs.Histories.{at, words_of, GrewBy}
use Rattle.turn_table.specs.Knowledge.{dealt, fresh, hand, passes_of, IsWide}
use Rattle.turn_table.specs.Rule.{IsOpen, IsPass, Kept}
use Rattle.turn_table.proofs.CarriedLemmas.{get_or-replicate}
use Rattle.turn_table.proofs.HistoryLemmas.{grown-self}
use Rattle.turn_table.proofs.KnowledgeLemmas.{of_dealt, passes_of-dealt}
use Rattle.turn_table.proofs.ListLemmas.{found_at, inside, only, place_of, read_at}

module _ {C E : Type 0} (history : C → List E) (fault_count : C → ℕ) where
  words_of-push : (cells : List C) (cell : C) → words_of history fault_count (cells ++ cell ∷ [])
      ≡ words_of history fault_count cells ++ 0 ∷ length (history cell) ∷ fault_count cell ∷ []
  words_of-push [] cell = refl
  words_of-push (x ∷ xs) cell =
      ap (λ l. 0 ∷ length (history x) ∷ fault_count x ∷ l) (words_of-push xs cell)

  pub length-words_of : (cells : List C)
      → length (words_of history fault_count cells) ≡ 3 * length cells
  length-words_of [] = refl
  length-words_of (x ∷ xs) = let t = length-words_of xs in omega arith

  -- the words of one more cell
  pub laid : (cells : List C) (cell : C) (ws ws' ws'' all : List ℕ) (n m : ℕ)
      → ws ≡ 0 ∷ words_of history fault_count cells → ws' ≡ ws ++ 0 ∷ []
      → n ≡ length (history cell) → ws'' ≡ ws' ++ n ∷ []
      → m ≡ fault_count cell → all ≡ ws'' ++ m ∷ []
      → all ≡ 0 ∷ words_of history fault_count (cells ++ cell ∷ [])
  laid cells cell ws ws' ws'' all n m e e' en e'' em e₃ =
      let old = words_of history fault_count cells in
      e₃ ∙ (ap (λ l. l ++ m ∷ []) (e'' ∙ (ap (λ l. l ++ n ∷ []) e'
      ∙ append_assoc ws (0 ∷ []) (n ∷ [])))
      ∙ (append_assoc ws (0 ∷ n ∷ []) (m ∷ [])
      ∙ (ap (λ l. l ++ 0 ∷ n ∷ m ∷ []) e
      ∙ ((λ i. 0 ∷ (old ++ 0 ∷ en i ∷ em i ∷ []))
      ∙ ap (λ l. 0 ∷ l) (sym (words_of-push cells cell))))))

-- the slots of one more cell
pub slots_laid : {C : Type 0} (ys : List C) (y : C) (ss ss' : List (Option C))
    → ss ≡ map Some ys → ss' ≡ ss ++ Some y ∷ [] → ss' ≡ map Some (ys ++ y ∷ [])
slots_laid ys y ss ss' e e' =
    e' ∙ (ap (λ l. l ++ Some y ∷ []) e ∙ sym (map-append Some ys (y ∷ [])))

module _ {C E : Type 0} (history : C → List E) (fault_count : C → ℕ) where
  abbrev W : List C → List ℕ
  W cells = 0 ∷ words_of history fault_count cells

  -- the words of the cells behind the first
  next_word : (x : C) (xs : List C) (c n : ℕ) → 0 < n
      → get_or (W (x ∷ xs)) (3 * suc c + n) 0 ≡ get_or (W xs) (3 * c + n) 0
  next_word x xs c zero some_word = absurd (omega arith)
  next_word x xs c (suc n) some_word =
      let up : 3 * suc c + suc n ≡ suc (suc (suc (suc (3 * c + n)))) = omega arith in
      let down : suc (3 * c + n) ≡ 3 * c + suc n = omega arith in
      ap (λ m. get_or (W (x ∷ xs)) m 0) up ∙ ap (λ m. get_or (W xs) m 0) down

  turn_word : (cells : List C) (c : ℕ) → get_or (W cells) (3 * c + 1) 0 ≡ 0
  turn_word [] c =
      let e : 3 * c + 1 ≡ suc (3 * c) = omega arith in ap (λ m. get_or (W []) m 0) e
  turn_word (x ∷ xs) zero = refl
  turn_word (x ∷ xs) (suc c) = next_word x xs c 1 (omega arith) ∙ turn_word xs c

  length_word : (cells : List C) (c : ℕ) → c < length cells
      → get_or (W cells) (3 * c + 2) 0 ≡ length (at (map history cells) c)
  length_word [] c h = absurd (omega arith)
  length_word (x ∷ xs) zero h = refl
  length_word (x ∷ xs) (suc c) h =
      next_word x xs c 2 (omega arith) ∙ length_word xs c (omega arith)

-- numbers that differ stand at one place each
same_place : (xs : List ℕ) → AllPairs (λ m n. m ≢ n) xs → (i j m : ℕ)
    → get_elem? xs i ≡ some m → get_elem? xs j ≡ some m → i ≡ j
same_place [] differ i j m a b = absurd (some-ne-none m (sym a))
same_place (x ∷ xs) differ zero zero m a b = refl
same_place (x ∷ xs) differ zero (suc j) m a b =
    let low = inside xs j m b in
    absurd (differ 0 (suc j) m (omega arith) (omega arith)
    (some-injective x m a ∙ sym (read_at xs j m m b)))
same_place (x ∷ xs) differ (suc i) zero m a b =
    let low = inside xs i m a in
    absurd (differ 0 (suc i) m (omega arith) (omega arith)
    (some-injective x m b ∙ sym (read_at xs i m m a)))
same_place (x ∷ xs) differ (suc i) (suc j) m a b = ap suc (same_place xs
    (λ p q d l h. differ (suc p) (suc q) d (omega arith) (omega arith)) i j m a b)

module _ {C A E : Type 0} (about : C → A) (history : C → List E) (writer : E → ℕ)
    (law : List A → List (List E) → Type 0)
    (tells : List A → ℕ → List (List E) → List (List E) → Type 0) (settled : C → Type 0)
    (is_shut : C → Bool) (fault_count : C → ℕ) where
  abbrev K : Type 0
  K = Known A E

  abbrev IsSound : C → Type 0
  IsSound cell = settled cell × (is_shut cell ≡ false)

  at_home : (cells : List C) (c : ℕ) → c < length cells → All IsSound cells
      → IsOpen about history settled is_shut fault_count (map about cells)
      (map some (map Some cells)) (at (map history cells) c)
      (get_or (0 ∷ words_of history fault_count cells) (3 * c + 3) 0) c
  at_home [] c h sound = absurd (omega arith)
  at_home (x ∷ xs) zero h sound =
      let first = All-head IsSound x xs sound in
      ((x, refl, refl, refl, refl), first.0, first.1)
  at_home (x ∷ xs) (suc c) h sound =
      let t = at_home xs c (omega arith) (All-tail IsSound x xs sound) in
      let home = t.0 in (
        (
          home.0,
          home.1,
          home.2,
          home.3,
          home.4 ∙ sym (next_word history fault_count x xs c 3 (omega arith)),
        ),
        t.1,
        t.2,
      )

  numbered : (made : ℕ → K) (numbers : List ℕ) (i : ℕ) (k : K)
      → get_elem? (map made numbers) i ≡ some k
      → (m : ℕ) × (get_elem? numbers i ≡ some m) × (made m ≡ k)
  numbered made [] i k e = absurd (some-ne-none k (sym e))
  numbered made (x ∷ xs) zero k e = (x, refl, some-injective (made x) k e)
  numbered made (x ∷ xs) (suc i) k e = numbered made xs i k e

  each_entry : (P : E → Type 0) (cells : List C) (c : ℕ)
      → All (λ cell. All P (history cell)) cells → All P (at (map history cells) c)
  each_entry P [] c each = All-nil P
  each_entry P (x ∷ xs) zero each = All-head (λ cell. All P (history cell)) x xs each
  each_entry P (x ∷ xs) (suc c) each =
      each_entry P xs c (All-tail (λ cell. All P (history cell)) x xs each)

  none_looked : (n c : ℕ) → 0 < get_or (replicate n 0) c 0 → ⊥
  none_looked n c pos = let z : ℕ = 0 in let e = get_or-replicate n c z in omega (arith, e, pos)

  module _ (cells : List C) (numbers : List ℕ)
      (lawful : law (map about cells) (map history cells))
      (differ : AllPairs (λ m n. m ≢ n) numbers)
      (new : All (λ cell. All (λ entry. ¬ Contains numbers (writer entry)) (history cell)) cells)
      (sound : All (λ cell. settled cell × (is_shut cell ≡ false)) cells) where
    abbrev abouts : List A
    abouts = map about cells

    abbrev histories : List (List E)
    histories = map history cells

    abbrev count : ℕ
    count = length cells

    abbrev new_pass : ℕ → K
    new_pass = fresh abouts histories numbers count

    abbrev first : View A E
    first = dealt (map new_pass numbers)

    fresh_seen : (m : ℕ) → Contains numbers m
        → GrewBy (λ entry. writer entry ≢ m) (replicate count []) histories
    fresh_seen m listed c = (
      at histories c,
      ap (λ l. l ++ at histories c) (sym (get_or-replicate count c [])),
      All-weaker (λ entry. ¬ Contains numbers (writer entry)) (λ entry. writer entry ≢ m)
          (λ entry other same. other (subst (Contains numbers) (sym same) listed))
          (at histories c) (each_entry (λ entry. ¬ Contains numbers (writer entry)) cells c new),
    )

    wide : length histories ≡ count
    wide = length-map cells history

    fresh_wide : (m : ℕ) → IsWide (new_pass m) (length histories)
    fresh_wide m = record {
      seen = length-replicate count [] ∙ sym wide;
      hand = length-replicate count None ∙ sym wide;
      met = length-replicate count 0 ∙ sym wide;
      looks = length-replicate count 0 ∙ sym wide;
      asof = length-replicate count [] ∙ sym wide;
      barred = length-replicate count 0 ∙ sym wide;
      broke = length-replicate count 0 ∙ sym wide;
    }

    abbrev words : List ℕ
    words = 0 ∷ words_of history fault_count cells

    -- a new pass holds no turn
    none_held : (m c : ℕ) (h : List E) → hand (new_pass m) c ≡ Some h → ⊥
    none_held m c h z = let none : hand (new_pass m) c ≡ None =
        get_or-replicate count c None in absurd (cc (none, z))

    fresh_pass : (g : List ℕ) (i m : ℕ) → get_elem? numbers i ≡ some m
        → IsPass writer tells abouts histories numbers histories (λ _. 0) (λ _. 0) words g 0
        (new_pass m)
    fresh_pass g i m e = record {
      about_is = refl;
      start_is = refl;
      numbers_are = refl;
      listed = found_at numbers i m e;
      mine = refl;
      seen = fresh_seen m (found_at numbers i m e);
      hands = λ c h z. absurd (none_held m c h z);
      noted = λ c h z. absurd (none_held m c h z);
      told = λ c pos. absurd (none_looked count c pos);
      since = λ c pos. absurd (none_looked count c pos);
      wide = fresh_wide m;
    }

    -- a pass of the first seat
    of_first : (j i : ℕ) (w : View A E) (k : K) → get_elem? (first ∷ []) j ≡ some w
        → get_elem? (passes_of w) i ≡ some k
        → (j ≡ 0) × (m : ℕ) × (get_elem? numbers i ≡ some m) × (new_pass m ≡ k)
    of_first j i w k at_j at_i =
        let o = only first w j at_j in
        let n = numbered new_pass numbers i k
        (of_dealt (map new_pass numbers) w i k o.1 at_i) in
        (o.0, n.0, n.1, n.2)

    pub opens : Kept about history writer law tells settled is_shut fault_count abouts histories
        numbers
        (opening words (map Some cells) first)
    opens = record {
      histories = histories;
      owner = λ _. 0;
      holder = λ _. 0;
      lawful = lawful;
      wide = (let t = length-words_of history fault_count cells in let n = wide in omega arith);
      deep = length-map (map Some cells) (λ (x : Option C). some x)
          ∙ (length-map cells (λ (x : C). Some x) ∙ sym wide);
      each_cell = λ c l. record {
        long = length_word history fault_count cells c (subst (λ (m : ℕ). c < m) wide l);
        turn = inl (
          turn_word history fault_count cells c,
          at_home cells c (subst (λ (m : ℕ). c < m) wide l) sound,
        );
      };
      each_pass = λ j i w k at_j at_i. let f = of_first j i w k at_j at_i in
          subst (λ (z : ℕ × K). IsPass writer tells abouts histories numbers histories (λ _. 0)
          (λ _. 0) words w.faults z.0 z.1) (λ m. (sym f.0 m, f.3 m))
          (fresh_pass w.faults i f.1 f.2);
      apart = λ j i i' w k k' at_j at_i at_i' e.
          let f = of_first j i w k at_j at_i in let f' = of_first j i' w k' at_j at_i' in
          let same : f.1 ≡ f'.1 = ap (λ (z : K). z.number) f.3
          ∙ (e ∙ ap (λ (z : K). z.number) (sym f'.3)) in
          same_place numbers differ i i' f.1 f.2 (f'.2 ∙ ap some (sym same));
      all_found = λ m listed. let p = place_of numbers m listed in record {
        view = first;
        place = p.0;
        pass = new_pass m;
        seated = refl;
        placed = subst (λ (l : List K). get_elem? l p.0 ≡ some (new_pass m))
            (sym (passes_of-dealt (map new_pass numbers)))
            (at_map new_pass numbers p.0 m p.1);
        named = refl;
      };
      counted = refl;
      grown = grown-self (λ entry. Contains numbers (writer entry)) histories;
    }
