-- Whether a checkpoint stands for no more than was sent.
use Rattle.std.proofs.Common.{◌≡◌, ℕ, ◌<◌, ◌≤◌, max, not, Bool, true, false, leb, List, [], ◌∷◌, get_or, Some, refl, sym, ap, subst, ◌∙◌, arith, Decides, slice_index, Result, Ok, Err, IfOk}
use Rattle.std.specs.List.{AllByRecursion}
use Rattle.std.proofs.lemmas.Bool.{false≢true}
use Rattle.std.proofs.lemmas.Bool.Decides.{nat_tests}
use Rattle.tuple_values.specs.Document.{ByteList, Doc}
use Rattle.tuple_values.specs.declared.names.NameShards.{NameShards}
use Rattle.query_syntax.specs.Meaning.{text_matches}
use Rattle.shard_versions.specs.Documents.{id_of, with_version}
use Rattle.shard_versions.specs.Histories.{History, top, current, committed, settled, slots, slots_after, latest}
use Rattle.shard_versions.specs.Deliveries.{sents, admits, Reaches}
use Rattle.topic_book.specs.declared.topic.Binding.{Binding}
use Rattle.once_core.specs.Cells.{cell_of, shard_history, home_history}
use Rattle.once_core.specs.Law.{takes, IsSent, IsSentIfTaken, AreSent, IsCovered}
use Rattle.once_core.specs.declared.world.Histories.{Histories}
use Rattle.once_core.proofs.CurrentLemmas.{id_with_version}
use Rattle.once_core.proofs.StoreLemmas.{sent-decides}
use Rattle.law_checks.specs.Walks.{read_of, turned}
use Rattle.law_checks.specs.declared.walk.Shown.{Shown}

-- the history of a shard among all
pub at-shard : (names : List NameShards) (hs : Histories) (all : List History) (collection c : ByteList) (shard n : ℕ) (h : History)
    → all ≡ hs.shards → c ≡ collection → n ≡ shard → h ≡ get_or all (cell_of names c n) [] → h ≡ shard_history names hs collection shard
at-shard names hs all collection c shard n h same named counted is =
    is ∙ (ap (λ x. get_or all (cell_of names x n) []) named ∙ (ap (λ x. get_or all (cell_of names collection x) []) counted
    ∙ ap (λ (s : List History). get_or s (cell_of names collection shard) []) same))

-- a document that is current was sent, by its id where it stands
pub shown-sent : (names : List NameShards) (hs : Histories) (b : Binding) (dest src id : ByteList) (s : Shown) (home : History) (r : Bool)
    → id ≡ id_of s.document.now → src ≡ b.src → home ≡ home_history names hs dest id → r ≡ admits home src id s.version
    → Decides (not r) (IsSent names hs b dest (read_of s))
shown-sent names hs b dest src id s home r named from at is =
    sent-decides names hs b dest s.version (with_version s.version s.document.now) home src id r
    (named ∙ sym (id_with_version s.version s.document.now)) from at is

-- nothing was sent where there is no history
pub nowhere-sent : (names : List NameShards) (hs : Histories) (b : Binding) (dest id : ByteList) (s : Shown)
    → id ≡ id_of s.document.now → [] ≡ home_history names hs dest id → Decides false (IsSent names hs b dest (read_of s))
unfolding sents
nowhere-sent names hs b dest id s named at =
    let there : home_history names hs dest (id_of (read_of s).1) ≡ [] =
    ap (home_history names hs dest) (id_with_version s.version s.document.now ∙ sym named) ∙ sym at in
    (λ e. absurd (false≢true e), λ sent. absurd (gone (home_history names hs dest (id_of (read_of s).1)) there sent))
  where
    gone : (h : History) → h ≡ [] → Reaches s.version (sents b.src (id_of (read_of s).1) h) → ⊥
    gone [] e r = r
    gone (x ∷ h) e r = absurd (cc)

module _ (names : List NameShards) (hs : Histories) (b : Binding) (dest : ByteList) (low high : ℕ) (s : Shown) where
  -- nor one that isn't taken
  pub span-spared : (r : Bool) → text_matches b.q (read_of s).1 ≡ r → r ≡ false
      → Decides true (IsSentIfTaken names hs b dest low high (read_of s))
  unfolding takes
  span-spared r is spared = (λ e t l h. absurd (false≢true (sym spared ∙ (sym is ∙ t))), λ f. refl)

  -- else it is to be sent
  pub span-sent : (r fine : Bool) → text_matches b.q (read_of s).1 ≡ r → r ≡ true → low < s.version → s.version ≤ high
      → Decides fine (IsSent names hs b dest (read_of s)) → Decides fine (IsSentIfTaken names hs b dest low high (read_of s))
  unfolding takes
  span-sent r fine is taken above within d = (λ e t l h. d.0 e, λ f. d.1 (f (is ∙ taken) above within))

-- what holds of each document that is shown holds of each current one, and the other way round
turned-all : (P : ℕ × Doc → Type 0) (ss : List Shown) (ps : List (ℕ × Doc)) → AllByRecursion (λ s. P (read_of s)) ss → AllByRecursion P ps
    → AllByRecursion P (turned ss ps)
turned-all P [] ps a b = b
turned-all P (s ∷ ss) ps a b = turned-all P ss (read_of s ∷ ps) a.1 (a.0, b)

turned-each : (P : ℕ × Doc → Type 0) (ss : List Shown) (ps : List (ℕ × Doc)) → AllByRecursion P (turned ss ps)
    → AllByRecursion (λ s. P (read_of s)) ss × AllByRecursion P ps
turned-each P [] ps a = (tt, a)
turned-each P (s ∷ ss) ps a = let r = turned-each P ss (read_of s ∷ ps) a in ((r.1.0, r.0), r.1.1)

module _ (names : List NameShards) (hs : Histories) (b : Binding) (shard : ℕ) (h : History) (upto : ℕ) where
  -- a checkpoint that is within its bounds is right where what is current was sent
  pub covered-some : (t low m : ℕ) (dest d : ByteList) (shown : List Shown) (r : Bool) → t ≡ top h → low ≡ slice_index b.init shard
      → m ≡ max t low → upto ≤ m → b.dest ≡ Some dest → d ≡ dest → turned shown [] ≡ current h
      → Decides r (AllByRecursion (λ s. IsSentIfTaken names hs b d low upto (read_of s)) shown)
      → Decides r (IsCovered names hs b shard h upto)
  unfolding AreSent
  covered-some t low m dest d shown r is from most le some same all dec = (
    λ e. record {
      bounded = omega (arith, is, from);
      sent = λ other o.
          let to : d ≡ other = same ∙ (let two : Some dest ≡ Some other = sym some ∙ o in cc) in
          subst (λ ps. AllByRecursion (IsSentIfTaken names hs b other (slice_index b.init shard) upto) ps) all
          (turned-all (IsSentIfTaken names hs b other (slice_index b.init shard) upto) shown []
          (subst (λ l. AllByRecursion (λ s. IsSentIfTaken names hs b other l upto (read_of s)) shown) from
          (subst (λ x. AllByRecursion (λ s. IsSentIfTaken names hs b x low upto (read_of s)) shown) to (dec.0 e))) tt);
    },
    λ c. dec.1
        (subst (λ x. AllByRecursion (λ s. IsSentIfTaken names hs b x low upto (read_of s)) shown) (sym same)
        (subst (λ l. AllByRecursion (λ s. IsSentIfTaken names hs b dest l upto (read_of s)) shown) (sym from)
        (turned-each (IsSentIfTaken names hs b dest (slice_index b.init shard) upto) shown []
        (subst (λ ps. AllByRecursion (IsSentIfTaken names hs b dest (slice_index b.init shard) upto) ps) (sym all) (c.sent dest some))).0)),
  )

-- where there is no history only the beginning is right
pub covered-nowhere : (names : List NameShards) (hs : Histories) (b : Binding) (shard upto low : ℕ) (h : History) → [] ≡ h
    → low ≡ slice_index b.init shard → Decides (leb upto low) (IsCovered names hs b shard h upto)
unfolding AreSent top current committed settled slots slots_after latest
covered-nowhere names hs b shard upto low h empty from =
    subst (λ x. Decides (leb upto low) (IsCovered names hs b shard x upto)) empty (
      λ e. record { bounded = omega (arith, within e, from); sent = λ dest some. tt },
      λ c. back (omega (arith, c.bounded, from)),
    )
  where
    within : leb upto low ≡ true → upto ≤ low
    within e = grind (arith, nat_tests)

    back : upto ≤ low → leb upto low ≡ true
    back le = grind (arith, nat_tests)

-- a fact of what a result holds
pub if_ok : {T E : Type 0} (P Q : T → Type 0) → ((x : T) → P x → Q x) → (r : Result T E) → IfOk r P → IfOk r Q
if_ok P Q f (Ok x) p = f x p
if_ok P Q f (Err e) p = tt
