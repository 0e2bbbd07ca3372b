-- What seats and passes know.
use Rattle.std.proofs.Common.{ℕ, ◌+◌, ◌^◌, ◌≡◌, ◌≢◌, ◌<◌, ◌≤◌, ◌||◌, Bool, true, false, cond, List, [], ◌∷◌, get_or, length, set, sym, refl, ap, ◌∙◌, subst, ⊎_elim, arith, length-set, get_or-set_other, get_or-set_same, nat_le, nat_lt, ltb-false, le-leb, Some, None}
use mathlib.Core.Option.{some}
use lib.ListN.{get_elem?}
use Rattle.turn_table.specs.declared.knowledge.Known.{Known}
use Rattle.turn_table.specs.declared.knowledge.View.{View}
use Rattle.atomic_table.specs.Seated.{TableId}
use Rattle.io_edge.specs.Edge.{Rose}
use Rattle.turn_table.specs.Carried.{AreHeld}
use Rattle.turn_table.specs.Histories.{at}
use Rattle.turn_table.specs.Knowledge.{barred, dealt, gave, hand, has_risen, lone, looked, missed, noted, passes_of, sealed, took, IsFree, IsWide}

module _ {A E : Type 0} where
  -- the pass of a seat that has one
  pub pass_of : (v : View A E) (f : List ℕ) (k : Known A E) → v ≡ lone f k → v.pass ≡ k
  pass_of v f k e = ap (λ (w : View A E). w.pass) e

  -- and the fault words that it knows
  pub faults_of : (v : View A E) (f : List ℕ) (k : Known A E) → v ≡ lone f k → v.faults ≡ f
  faults_of v f k e = ap (λ (w : View A E). w.faults) e

  -- a seat with one pass has just that one
  pub alone_of : (v : View A E) (f : List ℕ) (k : Known A E) → v ≡ lone f k
      → v ≡ lone v.faults v.pass
  alone_of v f k e = e ∙ (λ i. lone (sym (faults_of v f k e) i) (sym (pass_of v f k e) i))

  -- two seats with one pass each, and the same view
  pub same_pass : (f g : List ℕ) (k l : Known A E) → lone f k ≡ lone g l → k ≡ l
  same_pass f g k l e = ap (λ (v : View A E). v.pass) e

  pub same_faults : (f g : List ℕ) (k l : Known A E) → lone f k ≡ lone g l → f ≡ g
  same_faults f g k l e = ap (λ (v : View A E). v.faults) e

  -- a pass that holds no turn holds none of this cell
  pub idle : (k : Known A E) → IsFree k → (cell : ℕ) (entries : List E)
      → hand k cell ≡ Some entries → ⊥
  idle k free cell entries held = let none = free cell in absurd (cc (none, held))

  -- a seat has the passes that it was dealt
  pub passes_of-dealt : (ks : List (Known A E)) → passes_of (dealt ks) ≡ ks
  passes_of-dealt [] = refl
  passes_of-dealt (k ∷ ks) = refl

  -- a pass of a seat is one of those that it was dealt
  pub of_dealt : (ks : List (Known A E)) (v : View A E) (i : ℕ) (k : Known A E) → dealt ks ≡ v
      → get_elem? (passes_of v) i ≡ some k → get_elem? ks i ≡ some k
  of_dealt ks v i k e found = subst (λ (l : List (Known A E)). get_elem? l i ≡ some k)
      (ap passes_of (sym e) ∙ passes_of-dealt ks) found

  -- and each of those is a pass of the seat
  pub in_dealt : (ks : List (Known A E)) (i : ℕ) (k : Known A E) → get_elem? ks i ≡ some k
      → get_elem? (passes_of (dealt ks)) i ≡ some k
  in_dealt ks i k found =
      subst (λ (l : List (Known A E)). get_elem? l i ≡ some k) (sym (passes_of-dealt ks)) found

  module _ (k : Known A E) (cell count : ℕ) (wide : IsWide k count) where
    pub wide-took : (entries : List E) → IsWide (took cell entries k) count
    wide-took entries = record {
      seen = wide.seen;
      hand = length-set k.hand cell (Some entries) ∙ wide.hand;
      met = wide.met;
      looks = wide.looks;
      asof = wide.asof;
      barred = wide.barred;
      broke = wide.broke;
    }

    pub wide-missed : IsWide (missed cell k) count
    wide-missed = record {
      seen = wide.seen;
      hand = wide.hand;
      met = length-set k.met cell (get_or k.met cell 0 + 1) ∙ wide.met;
      looks = wide.looks;
      asof = wide.asof;
      barred = wide.barred;
      broke = wide.broke;
    }

    pub wide-barred : IsWide (barred cell k) count
    wide-barred = record {
      seen = wide.seen;
      hand = wide.hand;
      met = wide.met;
      looks = wide.looks;
      asof = wide.asof;
      barred = length-set k.barred cell (get_or k.barred cell 0 + 1) ∙ wide.barred;
      broke = wide.broke;
    }

    pub wide-noted : (word faults : ℕ) → IsWide (noted cell word faults k) count
    wide-noted word faults = record {
      seen = wide.seen;
      hand = wide.hand;
      met = wide.met;
      looks = wide.looks;
      asof = wide.asof;
      barred = wide.barred;
      broke = length-set k.broke cell
          (get_or k.broke cell 0 + cond (has_risen word faults) 1 0) ∙ wide.broke;
    }

    pub wide-looked : (entries : List E) → IsWide (looked cell entries k) count
    wide-looked entries = record {
      seen = length-set k.seen cell entries ∙ wide.seen;
      hand = wide.hand;
      met = wide.met;
      looks = length-set k.looks cell (get_or k.looks cell 0 + 1) ∙ wide.looks;
      asof = length-set k.asof cell (set k.seen cell entries) ∙ wide.asof;
      barred = wide.barred;
      broke = wide.broke;
    }

    pub wide-sealed : (entries : List E) → IsWide (sealed cell entries k) count
    wide-sealed entries = record {
      seen = length-set k.seen cell entries ∙ wide.seen;
      hand = length-set k.hand cell (Some entries) ∙ wide.hand;
      met = wide.met;
      looks = wide.looks;
      asof = wide.asof;
      barred = wide.barred;
      broke = wide.broke;
    }

    pub wide-gave : IsWide (gave cell k) count
    wide-gave = record {
      seen = wide.seen;
      hand = length-set k.hand cell None ∙ wide.hand;
      met = wide.met;
      looks = wide.looks;
      asof = wide.asof;
      barred = wide.barred;
      broke = wide.broke;
    }

    module _ (low : cell < count) where
      -- the history in hand after a turn was taken, and after a seal
      pub hand-took : (entries : List E) → hand (took cell entries k) cell ≡ Some entries
      hand-took entries = let w = wide.hand in
          get_or-set_same k.hand cell (Some entries) None (omega arith)

      -- and none after the turn was given back
      pub hand-gave : hand (gave cell k) cell ≡ None
      hand-gave = let w = wide.hand in get_or-set_same k.hand cell None None (omega arith)

      -- what was seen of a cell after a look, and after a seal
      pub seen-looked : (entries : List E) → at (looked cell entries k).seen cell ≡ entries
      seen-looked entries = let w = wide.seen in
          get_or-set_same k.seen cell entries [] (omega arith)

  -- a turn of another cell stays in hand
  pub hand-took_other : (k : Known A E) (cell other : ℕ) (entries : List E) → other ≢ cell
      → hand (took cell entries k) other ≡ hand k other
  hand-took_other k cell other entries apart =
      get_or-set_other k.hand cell other (Some entries) None apart

  pub hand-gave_other : (k : Known A E) (cell other : ℕ) → other ≢ cell
      → hand (gave cell k) other ≡ hand k other
  hand-gave_other k cell other apart = get_or-set_other k.hand cell other None None apart

  -- the same view at the same table has as many places
  pub wide_same : (v v' : View A E) (t t' : TableId) → v' ≡ v → t' ≡ t
      → IsWide v.pass t.slots → IsWide v'.pass t'.slots
  wide_same v v' t t' view table wide =
      subst (λ (z : View A E × TableId). IsWide z.0.pass z.1.slots)
      (λ i. (sym view i, sym table i)) wide

  -- and holds the same turns
  pub held_same : (v v' : View A E) (cells cells' : List ℕ) → v' ≡ v → cells' ≡ cells
      → AreHeld cells v.pass.hand → AreHeld cells' v'.pass.hand
  held_same v v' cells cells' view items held =
      subst (λ (z : View A E × List ℕ). AreHeld z.1 z.0.pass.hand)
      (λ i. (sym view i, sym items i)) held

  -- the same view at the same table knows as many fault words
  pub faults_long : (v v' : View A E) (t t' : TableId) → v' ≡ v → t' ≡ t
      → length v.faults ≡ t.slots → length v'.faults ≡ t'.slots
  faults_long v v' t t' view table long =
      subst (λ (z : View A E × TableId). length z.0.faults ≡ z.1.slots)
      (λ i. (sym view i, sym table i)) long

pub has_risen-rose : (word faults : ℕ) → Rose word faults → has_risen word faults ≡ true
has_risen-rose word faults rose = tested (nat_lt word faults) refl
  where
    or_true : (b : Bool) → b || true ≡ true
    or_true true = refl
    or_true false = refl

    tested : (b : Bool) → nat_lt word faults ≡ b → has_risen word faults ≡ true
    tested true e = ap (λ t. t || nat_le (2 ^ 64) (word + 1)) e
    tested false e =
        let below : faults ≤ word = ltb-false word faults e in
        let last : 2 ^ 64 ≤ word + 1 = ⊎_elim (λ (more : word < faults). absurd (omega arith))
        (λ (end : 2 ^ 64 ≤ faults + 1). omega arith) rose in
        ap (λ t. nat_lt word faults || t) (le-leb (2 ^ 64) (word + 1) last)
        ∙ or_true (nat_lt word faults)

-- a note of a count of faults that rose over the fault word is counted
pub broke-noted : {A E : Type 0} (k : Known A E) (cell word faults count : ℕ) → IsWide k count
    → cell < count → Rose word faults
    → get_or (noted cell word faults k).broke cell 0 ≡ get_or k.broke cell 0 + 1
broke-noted k cell word faults count wide low rose =
    let w = wide.broke in
    get_or-set_same k.broke cell (get_or k.broke cell 0 + cond (has_risen word faults) 1 0) 0
    (omega arith)
    ∙ ap (λ b. get_or k.broke cell 0 + cond b 1 0) (has_risen-rose word faults rose)
