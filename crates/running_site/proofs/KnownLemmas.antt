-- What passes of a site know, and lists of that.
use Rattle.std.proofs.Common.{◌≡◌, ℕ, zero, suc, ◌+◌, ◌<◌, List, [], ◌∷◌, ◌++◌, length, get_or, set, drop, take, replicate, slice_index, refl, sym, ap, ◌∙◌, subst, arith, inl, inr, append_assoc}
use Rattle.std.specs.Prelude.{All, Some, slice_get}
use Rattle.std.specs.List.{AllByRecursion}
use Rattle.std.proofs.lemmas.Bool.{cases_eq}
use Rattle.std.proofs.lemmas.List.{get_or-set_same, get_or-set_other, take-append-drop, take_at}
use Rattle.tuple_values.specs.declared.names.NameShards.{NameShards}
use Rattle.atomic_table.specs.Seated.{TableId}
use Rattle.topic_book.specs.Cells.{cells_in}
use Rattle.exchange_rules.specs.Accesses.{one_more}
use Rattle.exchange_rules.specs.Cells.{Log}
use Rattle.exchange_rules.specs.declared.log_entry.LogEntry.{LogEntry}
use Rattle.site_laws.specs.Sealings.{names_told}
use Rattle.site_laws.specs.SiteCells.{AreSeenOf}
use Rattle.site_laws.specs.declared.cell_about.CellAbout.{CellAbout}
use Rattle.turn_table.specs.Knowledge.{IsWide}
use Rattle.turn_table.specs.declared.knowledge.Known.{Known}
use Rattle.site_cells.specs.Cells.{abouts_of}
use Rattle.site_cells.specs.Values.{about_book, about_shard}
use Rattle.running_site.specs.Passes.{WereSeen}

-- what holds of each item holds of all
pub each_of : {X : Type 0} (P : X → Type 0) (xs : List X) → All P xs → AllByRecursion P xs
each_of P [] f = tt
each_of P (x ∷ xs) f =
    (f 0 x (omega arith), each_of P xs (λ k d lt. f (suc k) d (omega (arith, lt))))

-- one more is counted where there is a count
pub one_more_is : (c : ℕ) (ns : List ℕ) → c < length ns
    → set ns c (slice_index ns c + 1) ≡ one_more c ns
one_more_is c [] lt = absurd (omega arith)
one_more_is zero (n ∷ ns) lt = refl
one_more_is (suc c) (n ∷ ns) lt = ap (λ (l : List ℕ). n ∷ l) (one_more_is c ns (omega arith))

-- the collections that the cells are told
pub names_of : (names : List NameShards) (limit : ℕ) → names_told (abouts_of names limit) ≡ names
names_of names limit = go (cells_in names)
  where
    go : (n : ℕ)
        → names_told (replicate n (about_shard names limit) ++ about_book names ∷ []) ≡ names
    go zero = refl
    go (suc n) = refl

-- what is fixed of a shard's cell
pub about-shard : (n : ℕ) (a b : CellAbout) (c : ℕ) → c < n
    → slice_get (replicate n a ++ b ∷ []) c ≡ Some a
about-shard zero a b c lt = absurd (omega arith)
about-shard (suc n) a b zero lt = refl
about-shard (suc n) a b (suc c) lt = about-shard n a b c (omega arith)

-- and of the book's
pub about-book : (n : ℕ) (a b : CellAbout) → slice_get (replicate n a ++ b ∷ []) n ≡ Some b
about-book zero a b = refl
about-book (suc n) a b = about-book n a b

-- a pass at the site's table has a place for each cell
pub wide-at : (k : Known CellAbout LogEntry) (here there : TableId) (cells count : ℕ)
    → IsWide k here.slots → here ≡ there → there.slots ≡ cells → cells ≡ count → IsWide k count
wide-at k here there cells count wide same slots sized =
    subst (IsWide k) (ap (λ (t : TableId). t.slots) same ∙ (slots ∙ sized)) wide

-- logs that were seen are seen where more was seen of a cell
pub seen-more : (early seen : List Log) (cell : ℕ) (more : Log) → cell < length seen
    → AreSeenOf early seen → AreSeenOf early (set seen cell (get_or seen cell [] ++ more))
seen-more early seen cell more lt was c = elim (cases_eq c cell) [
  | inl same ↦
      let e : get_or (set seen cell (get_or seen cell [] ++ more)) c []
      ≡ get_or seen cell [] ++ more =
      ap (λ x. get_or (set seen cell (get_or seen cell [] ++ more)) x []) same
      ∙ get_or-set_same seen cell (get_or seen cell [] ++ more) [] lt in (
        (was c).0 ++ more,
        e ∙ (ap (λ x. get_or seen x [] ++ more) (sym same)
            ∙ (ap (λ l. l ++ more) (was c).1
            ∙ append_assoc (get_or early c []) (was c).0 more)),
      )
  | inr apart ↦ (
    (was c).0,
    get_or-set_other seen cell c (get_or seen cell [] ++ more) [] apart ∙ (was c).1,
  )
]

-- logs that were seen, in two ways
pub were-are : (early late : List Log) → WereSeen early late → AreSeenOf early late
were-are early late w c =
    let e = get_or early c [] in
    let l = get_or late c [] in (
      drop (length e) l,
      sym (take-append-drop (length e) l) ∙ ap (λ x. x ++ drop (length e) l) (w c),
    )

pub are-were : (early late : List Log) → AreSeenOf early late → WereSeen early late
are-were early late a c =
    let e = get_or early c [] in
    let s = a c in ap (take (length e)) s.1 ∙ take_at e s.0 (length e) refl
