-- The cells whose turns a pass holds, as they change.
use Rattle.std.proofs.Common.{ℕ, zero, suc, ◌+◌, ◌≡◌, ◌≢◌, ◌<◌, ◌≤◌, List, [], ◌∷◌, ◌++◌, cond, length, get_or, set, drop, take, replicate, sym, refl, ap, ◌∙◌, subst, arith, Option, Some, None, get_or-set_other, get_or-set_same, eq-eqb, ne_eqb, length-append}
use Rattle.std.specs.Prelude.{◌==◌, count_by, is_some, sum_by}
use Rattle.std.proofs.lemmas.List.{map-append}
use Rattle.std.proofs.lemmas.List.Sums.{sum_by-append, sum_by-cons, sum_by-set}
use mathlib.Core.Logic.{dite}
use native.Mathlib.Decide.{ℕ_discrete}
use Rattle.atomic_table.specs.Table.{turned}
use Rattle.turn_table.specs.Carried.{emptied, times, AreHeld}

-- 1 where there is a value
abbrev pub flag : {H : Type 0} → Option H → ℕ
flag o = cond (is_some o) 1 0

abbrev test : ℕ → ℕ → ℕ
test cell other = cond (other == cell) 1 0

pub times-cons_same : (cell : ℕ) (cells : List ℕ)
    → times cell (cell ∷ cells) ≡ suc (times cell cells)
times-cons_same cell cells =
    let sums = sum_by-cons (test cell) cell cells in
    let one : test cell cell ≡ 1 = ap (λ b. cond b 1 0) (eq-eqb cell cell refl) in omega arith

pub times-cons_other : (cell other : ℕ) (cells : List ℕ) → other ≢ cell
    → times cell (other ∷ cells) ≡ times cell cells
times-cons_other cell other cells apart =
    let sums = sum_by-cons (test cell) other cells in
    let none : test cell other ≡ 0 = ap (λ b. cond b 1 0) (ne_eqb other cell apart) in
    omega arith

pub times-turned : (cell : ℕ) (cells : List ℕ)
    → times cell (drop 1 cells ++ take 1 cells) ≡ times cell cells
times-turned cell [] = refl
times-turned cell (x ∷ xs) =
    let one = sum_by-append (test cell) xs (x ∷ []) in
    let two = sum_by-cons (test cell) x xs in
    let three = sum_by-cons (test cell) x [] in
    omega arith

pub emptied-turned : {C : Type 0} (cells : List ℕ)
    → turned (emptied {C = C} cells) ≡ emptied (drop 1 cells ++ take 1 cells)
emptied-turned [] = refl
emptied-turned {C} (x ∷ xs) =
    let out : ℕ → ℕ × Option C = λ cell. (cell, None) in sym (map-append out xs (x ∷ []))

-- how many stand before the first of this cell
abbrev pub before : ℕ → List ℕ → ℕ
before cell [] = 0
before cell (x ∷ xs) = cond (x == cell) 0 (suc (before cell xs))

before-push : (cell x : ℕ) (xs : List ℕ) → 0 < times cell xs
    → before cell (xs ++ x ∷ []) ≡ before cell xs
before-push cell x [] held = absurd (omega arith)
before-push cell x (y ∷ ys) held = dite (ℕ_discrete y cell)
    (λ same. let t = eq-eqb y cell same in
    ap (λ b. cond b 0 (suc (before cell (ys ++ x ∷ [])))) t
    ∙ sym (ap (λ b. cond b 0 (suc (before cell ys))) t))
    (λ apart. let t = ne_eqb y cell apart in
    let fewer = times-cons_other cell y ys apart in
    ap (λ b. cond b 0 (suc (before cell (ys ++ x ∷ [])))) t
    ∙ (ap suc (before-push cell x ys (omega arith))
    ∙ sym (ap (λ b. cond b 0 (suc (before cell ys))) t)))

-- a turn of the list that doesn't begin with the cell brings it nearer
pub before-turned : (cell first : ℕ) (cells : List ℕ) → 0 < times cell cells
    → first ≡ get_or cells 0 first → first ≢ cell
    → before cell (drop 1 cells ++ take 1 cells) < before cell cells
before-turned cell first [] held is apart = absurd (omega arith)
before-turned cell first (x ∷ xs) held is apart =
    let apart' : x ≢ cell = λ e. apart (is ∙ e) in
    let fewer = times-cons_other cell x xs apart' in
    let now = before-push cell x xs (omega arith) in
    let was : before cell (x ∷ xs) ≡ suc (before cell xs) =
    ap (λ b. cond b 0 (suc (before cell xs))) (ne_eqb x cell apart') in
    omega arith

-- a list that begins with the cell
pub begins_with : (cell first : ℕ) (cells : List ℕ) → 0 < times cell cells
    → first ≡ get_or cells 0 first → first ≡ cell
    → (others : List ℕ) × (cells ≡ cell ∷ others)
begins_with cell first [] held is same = absurd (omega arith)
begins_with cell first (x ∷ xs) held is same =
    (xs, ap (λ (y : ℕ). y ∷ xs) (sym is ∙ same))

-- a place of a list of one value
pub get_or-replicate : {X : Type 0} (count place : ℕ) (x : X)
    → get_or (replicate count x) place x ≡ x
get_or-replicate zero place x = refl
get_or-replicate (suc count) zero x = refl
get_or-replicate (suc count) (suc place) x = get_or-replicate count place x

module _ {H : Type 0} where
  -- a history in hand is one of a cell
  pub in_range : (hands : List (Option H)) (cell : ℕ) (h : H) → get_or hands cell None ≡ Some h
      → cell < length hands
  in_range [] cell h e = absurd (cc)
  in_range (x ∷ xs) zero h e = omega arith
  in_range (x ∷ xs) (suc cell) h e = let t = in_range xs cell h e in omega arith

  -- the cell of a turn that is held stands in the list
  pub is_held : (cells : List ℕ) (hands : List (Option H)) (cell : ℕ) (h : H)
      → AreHeld cells hands → get_or hands cell None ≡ Some h → 0 < times cell cells
  is_held cells hands cell h are e =
      let one : times cell cells ≡ 1 = are.each cell ∙ ap flag e in omega arith

  -- not all turns are held while one isn't
  pub room_left : (hands : List (Option H)) (cell : ℕ) → cell < length hands
      → get_or hands cell None ≡ None → count_by is_some hands < length hands
  room_left [] cell low e = absurd (omega arith)
  room_left (None ∷ xs) zero low e =
      let t = at_most xs in let s = sum_by-cons flag None xs in omega arith
    where
      at_most : (ys : List (Option H)) → count_by is_some ys ≤ length ys
      at_most [] = omega arith
      at_most (None ∷ ys) =
          let t = at_most ys in let s = sum_by-cons flag None ys in omega arith
      at_most (Some y ∷ ys) =
          let t = at_most ys in let s = sum_by-cons flag (Some y) ys in omega arith
  room_left (Some x ∷ xs) zero low e = absurd (cc)
  room_left (None ∷ xs) (suc cell) low e =
      let t = room_left xs cell (omega arith) e in
      let s = sum_by-cons flag None xs in omega arith
  room_left (Some x ∷ xs) (suc cell) low e =
      let t = room_left xs cell (omega arith) e in
      let s = sum_by-cons flag (Some x) xs in omega arith

  -- one more turn is held
  pub held-take : (cells : List ℕ) (hands : List (Option H)) (cell : ℕ) (h : H)
      → AreHeld cells hands → cell < length hands → get_or hands cell None ≡ None
      → AreHeld (cell ∷ cells) (set hands cell (Some h))
  held-take cells hands cell h are low none = record {
    each = λ d. dite (ℕ_discrete d cell)
        (λ same. subst (λ (c : ℕ). times c (cell ∷ cells)
        ≡ flag (get_or (set hands cell (Some h)) c None)) (sym same)
        (times-cons_same cell cells ∙ (ap suc (are.each cell ∙ ap flag none)
        ∙ sym (ap flag (get_or-set_same hands cell (Some h) None low)))))
        (λ apart. times-cons_other d cell cells (λ e. apart (sym e)) ∙ (are.each d
        ∙ ap flag (sym (get_or-set_other hands cell d (Some h) None apart))));
    all =
        let sums : sum_by flag (set hands cell (Some h)) + flag (get_or hands cell None)
        ≡ sum_by flag hands + 1 = sum_by-set flag hands cell (Some h) None low in
        let was : flag (get_or hands cell None) ≡ 0 = ap flag none in
        let long = are.all in omega arith;
  }

  -- the turn that stands first is given back
  pub held-give : (cells : List ℕ) (hands : List (Option H)) (cell : ℕ) (h : H)
      → AreHeld (cell ∷ cells) hands → get_or hands cell None ≡ Some h
      → AreHeld cells (set hands cell None)
  held-give cells hands cell h are some_h =
      let low = in_range hands cell h some_h in record {
        each = λ d. dite (ℕ_discrete d cell)
            (λ same. subst (λ (c : ℕ). times c cells
            ≡ flag (get_or (set hands cell None) c None)) (sym same)
            (let one : suc (times cell cells) ≡ 1 = sym (times-cons_same cell cells)
            ∙ (are.each cell ∙ ap flag some_h) in
            let now : flag (get_or (set hands cell None) cell None) ≡ 0 =
            ap flag (get_or-set_same hands cell None None low) in
            omega arith))
            (λ apart. sym (times-cons_other d cell cells (λ e. apart (sym e))) ∙ (are.each d
            ∙ ap flag (sym (get_or-set_other hands cell d None None apart))));
        all =
            let sums : sum_by flag (set hands cell None) + flag (get_or hands cell None)
            ≡ sum_by flag hands + 0 = sum_by-set flag hands cell None None low in
            let was : flag (get_or hands cell None) ≡ 1 = ap flag some_h in
            let long : suc (length cells) ≡ sum_by flag hands = are.all in omega arith;
      }

  -- the history of a turn that is held changes
  pub held-seal : (cells : List ℕ) (hands : List (Option H)) (cell : ℕ) (h h' : H)
      → AreHeld cells hands → get_or hands cell None ≡ Some h
      → AreHeld cells (set hands cell (Some h'))
  held-seal cells hands cell h h' are some_h =
      let low = in_range hands cell h some_h in record {
        each = λ d. dite (ℕ_discrete d cell)
            (λ same. subst (λ (c : ℕ). times c cells
            ≡ flag (get_or (set hands cell (Some h')) c None)) (sym same)
            (are.each cell ∙ (ap flag some_h
            ∙ sym (ap flag (get_or-set_same hands cell (Some h') None low)))))
            (λ apart. are.each d
            ∙ ap flag (sym (get_or-set_other hands cell d (Some h') None apart)));
        all =
            let sums : sum_by flag (set hands cell (Some h')) + flag (get_or hands cell None)
            ≡ sum_by flag hands + 1 = sum_by-set flag hands cell (Some h') None low in
            let was : flag (get_or hands cell None) ≡ 1 = ap flag some_h in
            let long = are.all in omega arith;
      }

  -- the list is turned
  pub held-turned : (cells : List ℕ) (hands : List (Option H)) → AreHeld cells hands
      → AreHeld (drop 1 cells ++ take 1 cells) hands
  held-turned cells hands are = record {
    each = λ d. times-turned d cells ∙ are.each d;
    all = turned_length cells ∙ are.all;
  }
    where
      turned_length : (xs : List ℕ) → length (drop 1 xs ++ take 1 xs) ≡ length xs
      turned_length [] = refl
      turned_length (x ∷ xs) = let t = length-append xs (x ∷ []) in omega arith

  none_counted : (hands : List (Option H)) → ((cell : ℕ) → get_or hands cell None ≡ None)
      → count_by is_some hands ≡ 0
  none_counted [] none = refl
  none_counted (None ∷ xs) none =
      let sums = sum_by-cons flag None xs in
      let others = none_counted xs (λ c. none (suc c)) in omega arith
  none_counted (Some x ∷ xs) none = let n = none 0 in absurd (cc)

  -- a pass with no turn has no cell in its list
  pub none_held : (cells : List ℕ) (hands : List (Option H)) → AreHeld cells hands
      → ((cell : ℕ) → get_or hands cell None ≡ None) → cells ≡ []
  none_held [] hands are none = refl
  none_held (x ∷ xs) hands are none =
      let z = none_counted hands none in
      let long : suc (length xs) ≡ count_by is_some hands = are.all in absurd (omega arith)

  -- a pass that was just made holds no turn
  pub held-fresh : (count : ℕ) → AreHeld {H = H} [] (replicate count None)
  held-fresh count = record {
    each = λ d. sym (ap flag (get_or-replicate count d None));
    all = sym (none_counted (replicate count None) (λ c. get_or-replicate count c None));
  }
