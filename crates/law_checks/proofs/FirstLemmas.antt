-- The first entry of a history that breaks the law.
use Rattle.std.proofs.Common.{◌≡◌, ℕ, zero, suc, ◌+◌, ◌<◌, ◌≤◌, Bool, true, false, ltb, List, [], ◌∷◌, ◌++◌, length, get_or, take, drop, Option, Some, None, refl, sym, ap, subst, ◌∙◌, arith, below_more, inl, inr}
use Rattle.std.specs.List.{slice_get}
use Rattle.std.proofs.lemmas.Bool.{false≢true, ltb-true}
use Rattle.std.proofs.lemmas.Bool.Decides.{nat_tests}
use Rattle.std.proofs.lemmas.List.{take_more, get_or_past}
use Rattle.tuple_values.specs.declared.names.NameShards.{NameShards}
use Rattle.shard_versions.specs.declared.entry.Kind.{Kind}
use Rattle.shard_versions.specs.declared.entry.Kind.TheVariants.{Put, Del, Sent, Mark}
use Rattle.shard_versions.specs.declared.entry.Entry.{Entry}
use Rattle.shard_versions.specs.Histories.{History}
use Rattle.once_core.specs.declared.world.Histories.{Histories}
use Rattle.once_core.specs.Cells.{history_at}
use Rattle.law_checks.specs.Sents.{IsFirstBad, IsBadKind, IsBadEntry}
use Rattle.law_checks.specs.Judged.{IsGoodKind, IsGoodEntry, AreGoodBelow, IsKindJudged, IsFirstIn, AreSentUpTo}
use Rattle.law_checks.specs.declared.greatest.Greatest.{Greatest}
use Rattle.law_checks.proofs.GotLemmas.{got-at, got-past}

module _ (names : List NameShards) (hs : Histories) (cell : ℕ) (h : History) (at : ℕ) where
  module _ (e : Entry) (lt : at < length h) (is : e ≡ get_or h at e) where
    -- the entry here is the first one
    pub first-here : IsKindJudged true names hs cell (take at h) e.kind (drop (at + 1) h)
        → AreGoodBelow names hs cell h at → IsFirstIn names hs cell h (Some at)
    first-here bad good = (subst (λ o. IsBadEntry names hs cell h at o) (got-at h at e lt is) bad, good)

    -- it keeps the law, as those before
    pub first-on : IsKindJudged false names hs cell (take at h) e.kind (drop (at + 1) h)
        → AreGoodBelow names hs cell h at → AreGoodBelow names hs cell h (at + 1)
    first-on fine good =
        below_more (λ p. IsGoodEntry names hs cell h p (slice_get h p)) at good
        (subst (λ o. IsGoodEntry names hs cell h at o) (got-at h at e lt is) fine)

  -- at the end all keep it
  pub first-end : length h ≤ at → AreGoodBelow names hs cell h at → IsFirstIn names hs cell h None
  first-end le good = λ place. go place (ltb place at) refl
    where
      past : (place : ℕ) → ltb place at ≡ false → length h ≤ place
      past place e = grind (arith, nat_tests)

      go : (place : ℕ) (b : Bool) → ltb place at ≡ b → IsGoodEntry names hs cell h place (slice_get h place)
      go place true e = good place (ltb-true place at e)
      go place false e = subst (λ o. IsGoodEntry names hs cell h place o) (got-past h place (past place e)) tt

-- an entry that keeps the law doesn't break it
good-kind : (names : List NameShards) (hs : Histories) (cell : ℕ) (before : History) (k : Kind) (later : History)
    → IsGoodKind names hs cell before k later → IsBadKind names hs cell before k later → ⊥
good-kind names hs cell before (Put d) later g b = b
good-kind names hs cell before (Del i) later g b = b
good-kind names hs cell before (Sent s v d) later g b =
    elim b [ inl open_ ↦ false≢true (sym open_ ∙ g.settled) | inr more ↦ elim more [ inl not_sent ↦ not_sent g.delivery | inr low ↦ low g.above ] ]
good-kind names hs cell before Mark later g b = b

pub good-entry : (names : List NameShards) (hs : Histories) (cell : ℕ) (h : History) (place : ℕ) (o : Option Entry)
    → IsGoodEntry names hs cell h place o → IsBadEntry names hs cell h place o → ⊥
good-entry names hs cell h place None g b = b
good-entry names hs cell h place (Some e) g b = good-kind names hs cell (take place h) e.kind (drop (place + 1) h) g b

-- what was sent before the next entry
pub sent-more : (g : Greatest) (h : History) (at : ℕ) (e : Entry) → at < length h → e ≡ get_or h at e
    → AreSentUpTo g (take at h ++ e ∷ []) → AreSentUpTo g (take (at + 1) h)
sent-more g h at e lt is sent =
    subst (AreSentUpTo g) (sym (take_more h at e lt ∙ ap (λ x. take at h ++ x ∷ []) (sym is))) sent

-- the history at a place among all is the cell's
pub cell-history : (hs : Histories) (ss : List History) (cell : ℕ) (x h : History) → ss ≡ hs.shards → cell < length ss
    → x ≡ get_or ss cell x → h ≡ x → h ≡ history_at hs cell
cell-history hs ss cell x h same lt is there =
    there ∙ (is ∙ (any ss cell lt x [] ∙ ap (λ s. get_or s cell []) same))
  where
    any : (ss : List History) (cell : ℕ) → cell < length ss → (d e : History) → get_or ss cell d ≡ get_or ss cell e
    any [] cell lt d e = absurd (omega arith)
    any (s ∷ ss) zero lt d e = refl
    any (s ∷ ss) (suc cell) lt d e = any ss cell (omega arith) d e

-- what is found in a history is found in the cell
pub found-moved : (names known : List NameShards) (hs : Histories) (cell : ℕ) (h : History) (o : Option ℕ) → names ≡ known
    → h ≡ history_at hs cell → IsFirstIn names hs cell h o → IsFirstIn known hs cell (history_at hs cell) o
found-moved names known hs cell h o n e f =
    subst (λ ns. IsFirstIn ns hs cell (history_at hs cell) o) n (subst (λ x. IsFirstIn names hs cell x o) e f)

module _ (names : List NameShards) (hs : Histories) where
  -- the first entry of a cell that breaks the law, where none of the cells before does
  pub first-cell : (cell entry : ℕ) → IsFirstIn names hs cell (history_at hs cell) (Some entry)
      → ((other : ℕ) → other < cell → IsFirstIn names hs other (history_at hs other) None) → IsFirstBad names hs cell entry
  first-cell cell entry found before = record {
    bad = found.0;
    cells = λ other at lt bad.
        good-entry names hs other (history_at hs other) at (slice_get (history_at hs other) at) (before other lt at) bad;
    places = λ at lt bad. good-entry names hs cell (history_at hs cell) at (slice_get (history_at hs cell) at) (found.1 at lt) bad;
  }

  -- no cell behind those of shards has an entry
  pub cells-end : (i : ℕ) → length hs.shards ≤ i → ((cell : ℕ) → cell < i → IsFirstIn names hs cell (history_at hs cell) None)
      → (cell : ℕ) → IsFirstIn names hs cell (history_at hs cell) None
  cells-end i le before cell = go (ltb cell i) refl
    where
      past : ltb cell i ≡ false → length hs.shards ≤ cell
      past e = grind (arith, nat_tests)

      go : (b : Bool) → ltb cell i ≡ b → IsFirstIn names hs cell (history_at hs cell) None
      go true e = before cell (ltb-true cell i e)
      go false e =
          subst (λ h. IsFirstIn names hs cell h None) (sym (get_or_past hs.shards cell [] (past e))) (λ place. tt)
