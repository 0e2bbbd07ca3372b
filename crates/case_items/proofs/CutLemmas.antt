-- What a cut of one collection shows, by the course that was followed.
use Rattle.std.proofs.Common.{◌≡◌, ◌≢◌, ℕ, zero, suc, ◌+◌, ◌<◌, ◌≤◌, List, [], ◌∷◌, ◌++◌, length, get_or, set, take, drop, refl, sym, ap, ◌∙◌, subst, arith, append_assoc, append-nil, length-append, zero-add, Ok, Some}
use Rattle.std.specs.Prelude.{slice_get}
use Rattle.std.proofs.lemmas.List.{get_or-set_other, get_or-set_same, take_all, take-append-drop}
use Rattle.tuple_values.specs.Document.{ByteList}
use Rattle.tuple_values.specs.declared.names.NameShards.{NameShards}
use Rattle.shard_versions.specs.declared.cut.CutMark.{CutMark}
use Rattle.shard_versions.specs.declared.cut.CutPart.{CutPart}
use Rattle.shard_versions.proofs.ListLemmas.{each_append}
use Rattle.topic_book.specs.Cells.{cells_in, cell_of}
use Rattle.topic_book.specs.Fitness.{shards_of}
use Rattle.exchange_rules.specs.Accesses.{Access, a_look, a_step, at_mark, IsLook, had_after}
use Rattle.exchange_rules.specs.Calls.{Completed}
use Rattle.exchange_rules.specs.Cells.{Log, history_in}
use Rattle.exchange_rules.specs.Courses.{Course, ends, looks, and_then}
use Rattle.exchange_rules.specs.Following.{Follows, Writer, counts}
use Rattle.exchange_rules.specs.Rows.{cut_course, cut_shards, part_of, shown_of}
use Rattle.exchange_rules.proofs.CellLemmas.{cell_of-from, cell_of-within}
use Rattle.exchange_rules.proofs.GrowthLemmas.{count_at, grows_at}
use Rattle.site_laws.proofs.CellLemmas.{history-append, shard-at}
use Rattle.case_items.specs.Items.{AreShown, IsShownPart}
use Rattle.case_items.specs.Stores.{ShowsAll}

module _ (names : List NameShards) (seen : List Log) (src : ByteList) where
  -- what a look at a shard of the source showed is a front of what was seen of it
  look-shown : (shard : ℕ) (m : CutMark) → shard < shards_of names src
      → m.cell ≡ cell_of names src shard
      → IsShownPart names seen src (part_of src shard (history_in (at_mark seen m)))
  look-shown shard m lt at =
      let cell = cell_of names src shard in
      let log = get_or seen cell [] in
      record {
        there = lt;
        shown = record {
          front = history_in (take m.upto log);
          more = history_in (drop m.upto log);
          begins = shard-at (cells_in names) seen cell (cell_of-within names src shard lt)
              ∙ (ap history_in (sym (take-append-drop m.upto log))
              ∙ history-append (take m.upto log) (drop m.upto log));
          is = ap (λ c. shown_of (history_in (take m.upto (get_or seen c [])))) at;
        };
      }

  -- so are those of looks at so many shards, one after another, behind parts that are
  looks-shown : (me : ℕ) (had : List ℕ) (shard left : ℕ) (cut result : List CutPart)
      (accesses : List Access) (end : List ℕ) → shard + left ≤ shards_of names src
      → AreShown names seen src cut
      → Follows me seen had
      (and_then (cut_shards names src shard left cut) (λ parts. cut_course names parts []))
      accesses (ends result) end
      → AreShown names seen src result
  looks-shown me had shard zero cut result [] end le a f =
      let same : ends result ≡ ends cut = f.0 in
      let is : cut ≡ result = cc in
      subst (AreShown names seen src) is a
  looks-shown me had shard zero cut result (access ∷ accesses) end le a f = absurd f.0
  looks-shown me had shard (suc left) cut result [] end le a f =
      absurd (let bad : ends result ≡ looks (cell_of names src shard) (λ log.
      and_then (cut_shards names src (shard + 1) left
      (cut ++ part_of src shard (history_in log) ∷ [])) (λ parts. cut_course names parts [])) =
      f.0 in cc)
  looks-shown me had shard (suc left) cut result (a_step o ∷ accesses) end le a f = absurd f.0
  looks-shown me had shard (suc left) cut result (a_look m ∷ accesses) end le a f =
      let part = part_of src shard (history_in (at_mark seen m)) in
      looks-shown me (had_after had (a_look m)) (shard + 1) left (cut ++ part ∷ []) result
      accesses end (omega arith)
      (each_append (IsShownPart names seen src) cut (part ∷ []) a
      (look-shown shard m (omega arith) f.0.cell_is, tt))
      f.1

  -- the looks at so many shards from this one on, behind these parts
  abbrev looks_on : ℕ → ℕ → List CutPart → Course (List CutPart)
  looks_on shard left cut =
      and_then (cut_shards names src shard left cut) (λ parts. cut_course names parts [])

  -- such looks leave how much was seen of any other cell
  others-stay : (me : ℕ) (had : List ℕ) (shard left cell : ℕ) (cut result : List CutPart)
      (accesses : List Access) (end : List ℕ)
      → ((s : ℕ) → shard ≤ s → s < shard + left → cell ≢ cell_of names src s)
      → Follows me seen had (looks_on shard left cut) accesses (ends result) end
      → get_or end cell 0 ≡ get_or had cell 0
  others-stay me had shard zero cell cut result [] end other f = ap (λ x. get_or x cell 0) f.1
  others-stay me had shard zero cell cut result (access ∷ accesses) end other f = absurd f.0
  others-stay me had shard (suc left) cell cut result [] end other f =
      absurd (let bad : ends result ≡ looks (cell_of names src shard) (λ log.
      looks_on (shard + 1) left (cut ++ part_of src shard (history_in log) ∷ [])) = f.0 in cc)
  others-stay me had shard (suc left) cell cut result (a_step o ∷ accesses) end other f =
      absurd f.0
  others-stay me had shard (suc left) cell cut result (a_look m ∷ accesses) end other f =
      let part = part_of src shard (history_in (at_mark seen m)) in
      others-stay me (had_after had (a_look m)) (shard + 1) left cell (cut ++ part ∷ []) result
      accesses end (λ s a b. other s (omega arith) (omega arith)) f.1
      ∙ get_or-set_other had m.cell cell m.upto 0
      (λ e. other shard (omega arith) (omega arith) (e ∙ f.0.cell_is))

  -- the part of a shard that shows all that was seen of it
  abbrev whole_part : ℕ → CutPart
  whole_part shard = part_of src shard (history_in (get_or seen (cell_of names src shard) []))

  -- those of so many shards from this one on
  abbrev whole_parts : ℕ → ℕ → List CutPart
  whole_parts shard zero = []
  whole_parts shard (suc left) = whole_part shard ∷ whole_parts (shard + 1) left

  -- each at its place
  whole-at : (shard left k : ℕ) → k < left
      → slice_get (whole_parts shard left) k ≡ Some (whole_part (shard + k))
  whole-at shard zero k lt = absurd (omega arith)
  whole-at shard (suc left) zero lt =
      let e : shard ≡ shard + 0 = omega arith in ap (λ s. Some (whole_part s)) e
  whole-at shard (suc left) (suc k) lt =
      let e : (shard + 1) + k ≡ shard + suc k = omega arith in
      whole-at (shard + 1) left k (omega arith) ∙ ap (λ s. Some (whole_part s)) e

  -- a look showed all that was seen of its cell in the end, where no later look is there
  look-whole : (me : ℕ) (had end : List ℕ) (cell : ℕ) (m : CutMark) → IsLook me seen had cell m
      → get_or end cell 0 ≡ get_or (had_after had (a_look m)) cell 0 → end ≡ counts seen
      → at_mark seen m ≡ get_or seen cell []
  look-whole me had end cell m l stays is =
      let lt = subst (λ c. c < length had) (sym l.cell_is) l.known in
      let upto : m.upto ≡ length (get_or seen cell []) =
      sym (get_or-set_same had m.cell m.upto 0 lt)
      ∙ (ap (λ c. get_or (set had m.cell m.upto) c 0) l.cell_is
      ∙ (sym stays ∙ (ap (λ x. get_or x cell 0) is ∙ count_at seen cell))) in
      ap (λ c. take m.upto (get_or seen c [])) l.cell_is
      ∙ take_all m.upto (get_or seen cell []) (omega arith)

  -- the shards of a collection have cells of their own
  own-cell : (shard s : ℕ) → shard + 1 ≤ s → cell_of names src shard ≢ cell_of names src s
  own-cell shard s le e =
      let here = cell_of-from names src shard in
      let there = cell_of-from names src s in
      omega (arith, here, there, e)

  -- the looks show all that was seen of their shards
  looks-whole : (me : ℕ) (had : List ℕ) (shard left : ℕ) (cut result : List CutPart)
      (accesses : List Access)
      → Follows me seen had (looks_on shard left cut) accesses (ends result) (counts seen)
      → result ≡ cut ++ whole_parts shard left
  looks-whole me had shard zero cut result [] f =
      let same : ends result ≡ ends cut = f.0 in
      let is : result ≡ cut = cc in
      is ∙ sym (append-nil cut)
  looks-whole me had shard zero cut result (access ∷ accesses) f = absurd f.0
  looks-whole me had shard (suc left) cut result [] f =
      absurd (let bad : ends result ≡ looks (cell_of names src shard) (λ log.
      looks_on (shard + 1) left (cut ++ part_of src shard (history_in log) ∷ [])) = f.0 in cc)
  looks-whole me had shard (suc left) cut result (a_step o ∷ accesses) f = absurd f.0
  looks-whole me had shard (suc left) cut result (a_look m ∷ accesses) f =
      let part = part_of src shard (history_in (at_mark seen m)) in
      let after = had_after had (a_look m) in
      let cell = cell_of names src shard in
      let rest = whole_parts (shard + 1) left in
      let all = look-whole me had (counts seen) cell m f.0
      (others-stay me after (shard + 1) left cell (cut ++ part ∷ []) result accesses (counts seen)
      (λ s a b. own-cell shard s a) f.1) refl in
      looks-whole me after (shard + 1) left (cut ++ part ∷ []) result accesses f.1
      ∙ (append_assoc cut (part ∷ []) rest
      ∙ ap (λ log. cut ++ part_of src shard (history_in log) ∷ rest) all)

-- the parts of a cut of one collection show what was seen of it
pub cut-shown : (old new : Writer) (names : List NameShards) (src : ByteList)
    (collections : List ByteList) (cut : List CutPart) → collections ≡ src ∷ []
    → Completed old new (cut_course names [] collections) (Ok cut)
    → AreShown names new.seen src cut
cut-shown old new names src collections cut one c =
    let only = subst (λ cs. Completed old new (cut_course names [] cs) (Ok cut)) one c in
    looks-shown names new.seen src old.me (counts old.seen) 0 (shards_of names src) [] cut
    only.reached.accesses (counts new.seen) (omega arith) tt only.reached.followed

-- they show all that was seen of each shard
pub cut-whole : (old new : Writer) (names : List NameShards) (src : ByteList)
    (collections : List ByteList) (cut : List CutPart) → collections ≡ src ∷ []
    → Completed old new (cut_course names [] collections) (Ok cut)
    → ShowsAll names new.seen src cut
cut-whole old new names src collections cut one c shard lt =
    let only = subst (λ cs. Completed old new (cut_course names [] cs) (Ok cut)) one c in
    let n = shards_of names src in
    let is : cut ≡ whole_parts names new.seen src 0 n =
    looks-whole names new.seen src old.me (counts old.seen) 0 n [] cut only.reached.accesses
    only.reached.followed in
    ap (λ l. slice_get l shard) is
    ∙ (whole-at names new.seen src 0 n shard lt
    ∙ (ap (λ s. Some (whole_part names new.seen src s)) (zero-add shard)
    ∙ ap (λ h. Some (part_of src shard h)) (sym (shard-at (cells_in names) new.seen
    (cell_of names src shard) (cell_of-within names src shard lt)))))

-- a log that goes on from another and is no longer is the same
no-longer : (old new more : Log) → new ≡ old ++ more → length new ≡ length old → new ≡ old
no-longer old new [] is same = is ∙ append-nil old
no-longer old new (e ∷ more) is same =
    let long = ap length is ∙ length-append old (e ∷ more) in
    absurd (omega (arith, long, same))

-- nothing more is seen of the cell behind those of all shards
pub cut-past : (old new : Writer) (names : List NameShards) (src : ByteList)
    (collections : List ByteList) (cut : List CutPart) → collections ≡ src ∷ []
    → Completed old new (cut_course names [] collections) (Ok cut)
    → get_or new.seen (cells_in names) [] ≡ get_or old.seen (cells_in names) []
cut-past old new names src collections cut one c =
    let only = subst (λ cs. Completed old new (cut_course names [] cs) (Ok cut)) one c in
    let n = cells_in names in
    let stays = others-stay names new.seen src old.me (counts old.seen) 0 (shards_of names src) n
    [] cut only.reached.accesses (counts new.seen)
    (λ s a b e. let lt = cell_of-within names src s (omega arith) in omega (arith, lt, e))
    only.reached.followed in
    let more = grows_at old.seen new.seen only.reached.grown n in
    no-longer (get_or old.seen n []) (get_or new.seen n []) more.0 more.1
    (sym (count_at new.seen n) ∙ (stays ∙ count_at old.seen n))
