-- A topic that is read, part by part, and the text of its query.
use Rattle.std.proofs.Common.{◌≡◌, ℕ, List, refl, sym, ap, subst, ◌∙◌, Some, None, Result, Ok, Err}
use Rattle.std.specs.Prelude.{map}
use Rattle.tuple_values.specs.Document.{Doc}
use Rattle.tuple_values.specs.declared.names.NameShards.{NameShards}
use Rattle.query_syntax.specs.Meaning.{IsReadable}
use Rattle.query_syntax.specs.Reading.{query_of}
use Rattle.query_syntax.specs.Reading as reading_of
use Rattle.query_syntax.proofs.AgreementLemmas.{read_of-agrees}
use Rattle.query_syntax.proofs.CompleteLemmas.{complete}
use Rattle.shard_versions.specs.declared.cut.CutPart.{CutPart}
use Rattle.topic_book.specs.declared.topic.TopicKey.{TopicKey}
use Rattle.exchange_rules.specs.Bindings.{store_course}
use Rattle.exchange_rules.specs.Calls.{Answered, HasAppended, Stopped}
use Rattle.exchange_rules.specs.Courses.{Course, ends, and_then, unless_refused}
use Rattle.exchange_rules.specs.Following.{Writer, Reaches, Answers}
use Rattle.once_core.specs.Allowed.{MayStore}
use Rattle.site_laws.specs.SiteCells.{histories_in}
use Rattle.source_streams.specs.Batches.{topic_items}
use Rattle.source_streams.specs.declared.batch.TopicItem.{TopicItem}
use Rattle.exchange_rules.specs.declared.run.TopicRead.{TopicRead}
use Rattle.exchange_rules.specs.Topics.{Asked, begin_course, binding_for, bound_then, cut_then_store, read_course, source_course, topic_course, tops_of}
use Rattle.exchange_rules.specs.declared.fault.SiteFault.{SiteFault}
use Rattle.exchange_rules.specs.declared.fault.SiteFault.TheVariants.{OutOfMemory}
use Rattle.exchange_rules.proofs.ReachLemmas.{reaches_none, reaches_then}
use Rattle.expr_types.specs.ExprTree.{ExprTree, TopicParts, node, no_exprs, topic}
use Rattle.expr_types.specs.Planned.{IsPlanned}
use Rattle.update_sink.specs.Topics.{asked_by, asked_of, key_of, read_of}
use Rattle.update_sink.proofs.BeginLemmas.{begun-later, cut-of, has-begun, may-store-nowhere}
use Rattle.update_sink.proofs.QuietLemmas.{part_refused, part_stopped, quiet-begin, quiet-read, quiet-source, quiet-store, stopped-quiet, went_on}

module _ {B E : Type 0} (names : List NameShards) (t : Asked) (told : SiteFault → E)
    (follow : List ℕ → List CutPart → Course (Result B E)) where
  -- a topic that began goes on with a cut of its source
  pub begun-on : (old new : Writer) (before : List ℕ)
      → Answers old new (begin_course names t) (Ok before)
      → Reaches old new (topic_course names t told follow)
      (and_then (source_course names t.src) (λ cut. follow before cut))
  begun-on old new before a =
      reaches_then old new (begin_course names t) (ends (Ok before))
      (bound_then names t told follow) a

  -- and then with what is done of it
  pub cut-on : (old mid new : Writer) (before : List ℕ) (cut : List CutPart)
      → Answers old mid (begin_course names t) (Ok before)
      → Answers mid new (source_course names t.src) cut
      → Reaches old new (topic_course names t told follow) (follow before cut)
  cut-on old mid new before cut a c =
      went_on old mid new (topic_course names t told follow) (source_course names t.src)
      (λ cut. follow before cut) cut (begun-on old mid before a) c

-- what is answered once the tops are stored
abbrev pub once_stored : {B : Type 0} → Result (Unit {0}) SiteFault → B → Result B SiteFault
once_stored (Ok done) b = Ok b
once_stored (Err fault) b = Err fault

module _ {B : Type 0} (old mid late new : Writer) (names : List NameShards) (t : Asked)
    (answer : List ℕ → List CutPart → B) where
  abbrev whole : Course (Result B SiteFault)
  whole = read_course names t answer

  -- what is done of the cut
  abbrev follow : List ℕ → List CutPart → Course (Result B SiteFault)
  follow = cut_then_store names t (λ before cut. ends (Ok (answer before cut)))
      (λ before cut a. a)

  -- what follows the beginning
  abbrev behind : Result (List ℕ) SiteFault → Course (Result B SiteFault)
  behind = bound_then names t (λ fault. fault) follow

  -- and the store
  abbrev stored : List ℕ → List CutPart → Result (Unit {0}) SiteFault
      → Course (Result B SiteFault)
  stored before cut = unless_refused (λ done. ends (Ok (answer before cut)))

  -- a topic that is read and didn't begin
  pub read-unbegun : (fault : SiteFault)
      → Answered old new (begin_course names t) (Err fault) → Answered old new whole (Err fault)
  read-unbegun fault a =
      part_refused old old new whole (begin_course names t) behind fault
      (quiet-read names t answer) (quiet-begin names t) (λ f. refl) (reaches_none old whole) a

  -- memory was wanting once it began
  pub read-wanting : (rest : Course (Result B SiteFault)) → Reaches old new whole rest
      → Answered old new whole (Err (OutOfMemory 0))
  read-wanting rest r = stopped-quiet old new whole rest (quiet-read names t answer) r

  -- its source couldn't be read
  pub read-uncut : (before : List ℕ) (fault : SiteFault)
      → Answers old mid (begin_course names t) (Ok before)
      → Stopped mid new (source_course names t.src) fault → Answered old new whole (Err fault)
  read-uncut before fault a b =
      part_stopped old mid new whole (source_course names t.src) (λ cut. follow before cut) fault
      (quiet-read names t answer) (quiet-source names t.src)
      (begun-on names t (λ f. f) follow old mid before a) b

  -- its tops were stored, or memory was wanting
  pub read-stored : (before : List ℕ) (cut : List CutPart) (r : Result (Unit {0}) SiteFault)
      → Answers old mid (begin_course names t) (Ok before)
      → Answers mid late (source_course names t.src) cut
      → Answered late new (store_course names t.key (tops_of cut)) r
      → Answered old new whole (once_stored r (answer before cut))
  read-stored before cut (Ok done) a c s =
      went_on old late new whole (store_course names t.key (tops_of cut)) (stored before cut)
      (Ok done) (cut-on names t (λ f. f) follow old mid late before cut a c) s
  read-stored before cut (Err fault) a c s =
      part_refused old late new whole (store_course names t.key (tops_of cut))
      (stored before cut) fault (quiet-read names t answer)
      (quiet-store SiteFault names t.key (tops_of cut)) (λ f. refl)
      (cut-on names t (λ f. f) follow old mid late before cut a c) s

-- the query of a planned topic is what its text is read as
planned-read : (t : ExprTree) (p : TopicParts) → t ≡ node (topic p) no_exprs → IsPlanned t
    → reading_of.read_of p.q_text ≡ Ok p.q
planned-read t p is w =
    let planned : IsPlanned (node (topic p) no_exprs) = subst IsPlanned is w in planned.0.1.0

-- so it is what its text says
pub text-says : (t : ExprTree) (p : TopicParts) → t ≡ node (topic p) no_exprs → IsPlanned t
    → query_of p.q_text ≡ Some p.q
text-says t p is w =
    complete p.q_text p.q ((read_of-agrees.clauses p.q_text p.q).0 (planned-read t p is w))

-- and can be read
pub text-readable : (t : ExprTree) (p : TopicParts) → t ≡ node (topic p) no_exprs → IsPlanned t
    → IsReadable p.q_text
unfolding IsReadable
text-readable t p is w =
    (p.q, (read_of-agrees.clauses p.q_text p.q).0 (planned-read t p is w))

-- what is told of a topic that is read
pub read-told : (p : TopicParts) (before tops : List ℕ) (cut : List CutPart) (tuples : List Doc)
    (items : List TopicItem) → tops ≡ tops_of cut
    → tuples ≡ map (λ (i : TopicItem). i.document) items → items ≡ topic_items p cut before
    → read_of p before cut
    ≡ record { cut = cut; before = before; stored = tops; tuples = tuples }
read-told p before tops cut tuples items e f is =
    let tops_is = sym e in
    let tuples_is = sym (f ∙ ap (map (λ (i : TopicItem). i.document)) is) in
    λ i. record { cut = cut; before = before; stored = tops_is i; tuples = tuples_is i }

module _ (w w1 : Writer) (names : List NameShards) (p : TopicParts) (key : TopicKey)
    (own : key ≡ key_of p) where
  -- what a topic that is read asks for
  abbrev asked : Asked
  asked = asked_of p None

  -- its course
  abbrev reading : Course (Result TopicRead SiteFault)
  reading = read_course names asked (read_of p)

  -- how it begins under a key
  abbrev begin : TopicKey → Course (Result (List ℕ) SiteFault)
  begin k = begin_course names (asked_by k p None)

  -- where it didn't begin
  pub unbegun : (fault : SiteFault) → Answered w w1 (begin key) (Err fault)
      → Answered w w1 reading (Err fault)
  unbegun fault a =
      read-unbegun w w w w1 names asked (read_of p) fault
      (subst (λ k. Answered w w1 (begin k) (Err fault)) own a)

  module _ (w2 : Writer) (others : List NameShards) (same : others ≡ names) (before : List ℕ)
      (a : Answers w w1 (begin key) (Ok before)) where
    -- it began
    began : Answers w w1 (begin_course names asked) (Ok before)
    began = subst (λ k. Answers w w1 (begin k) (Ok before)) own a

    -- where its source couldn't be read
    pub uncut : (fault : SiteFault) → Stopped w1 w2 (source_course others p.collection) fault
        → Answered w w2 reading (Err fault)
    uncut fault s =
        read-uncut w w1 w1 w2 names asked (read_of p) before fault began
        (subst (λ ns. Stopped w1 w2 (source_course ns p.collection) fault) same s)

    module _ (cut : List CutPart)
        (c : HasAppended w1 w2 (source_course others p.collection) (ends cut) 0) where
      -- its source was read
      source-read : Answers w1 w2 (source_course names p.collection) cut
      source-read =
          subst (λ ns. Answers w1 w2 (source_course ns p.collection) cut) same c.reached

      -- memory was wanting then
      pub unread : Answered w w2 reading (Err (OutOfMemory 0))
      unread =
          read-wanting w w1 w1 w2 names asked (read_of p) _
          (cut-on names asked (λ f. f)
          (cut_then_store names asked (λ before cut. ends (Ok (read_of p before cut)))
          (λ before cut a. a)) w w1 w2 before cut began source-read)

      module _ (w3 : Writer) (more : List NameShards) (still : more ≡ others) (upto : List ℕ)
          (tops : upto ≡ tops_of cut) where
        -- its tops may be stored
        pub may-read : MayStore more (histories_in more w2.seen) key upto
        may-read =
            let begun = has-begun w w1 names asked before began in
            let later = begun-later names w1.seen w2.seen asked.key (binding_for asked begun.init)
            before c.reached.grown begun.begun in
            let may = may-store-nowhere names w2.seen asked.key (binding_for asked begun.init)
            before cut refl later (cut-of w1 w2 names p.collection cut source-read) in
            subst (λ ns. MayStore ns (histories_in ns w2.seen) key upto) (sym (still ∙ same))
            (subst (λ k. MayStore names (histories_in names w2.seen) k upto) (sym own)
            (subst (MayStore names (histories_in names w2.seen) asked.key) (sym tops) may))

        -- they were, or memory was wanting
        pub read-done : (r : Result (Unit {0}) SiteFault)
            → Answered w2 w3 (store_course more key upto) r
            → Answered w w3 reading (once_stored r (read_of p before cut))
        read-done r s =
            let s1 = subst (λ ns. Answered w2 w3 (store_course ns key upto) r) (still ∙ same) s in
            let s2 = subst (λ k. Answered w2 w3 (store_course names k upto) r) own s1 in
            read-stored w w1 w2 w3 names asked (read_of p) before cut r began source-read
            (subst (λ u. Answered w2 w3 (store_course names asked.key u) r) tops s2)
