-- What the bytes of a head say of its fields, and when bytes are no head.
use Rattle.std.proofs.Common.{◌≡◌, ℕ, ◌+◌, ◌<◌, ◌≤◌, cond, List, [], ◌∷◌, ◌++◌, length, take, drop, Some, None, refl, sym, ap, subst, ◌∙◌, arith, append-nil, length-drop, length-take, inl, inr, take_all, slice_range}
use Rattle.std.specs.Prelude.{◌==◌}
use Rattle.std.proofs.lemmas.List.Sums.{sum_by-append}
use Rattle.httparse.specs.Ascii.{line_feed}
use Rattle.std.specs.List.{flat_map}
use Rattle.std.proofs.lemmas.List.{drop_all}
use Rattle.httparse.specs.Grammar.{LineEnd, crlf, lf, print_end, print_blank, print_field, print_section, print_version, print_request, Field, RequestHead, ReadsRequest}
use Rattle.httparse.specs.Spans.{IsRequestAt, RequestOverflows}
use Rattle.httparse.specs.declared.spans.HeaderSpan.{HeaderSpan}
use Rattle.httparse.specs.declared.spans.RequestSpans.{RequestSpans}
use Rattle.httparse.proofs.GrammarLemmas.{request_unique}
use Rattle.std.specs.Prelude.{if◌then◌else◌}
use Rattle.std.proofs.lemmas.List.{take-append-drop}
use Rattle.form_request.specs.Searches.{IsSearched}
use Rattle.form_request.specs.declared.search.Search.{Search}
use Rattle.form_request.proofs.SearchLemmas.{blank_len-searched}
use Rattle.form_request.specs.Ends.{line_count, head_length, blank_len}
use Rattle.form_request.specs.Heads.{HasNoHead, HeadGives, FrontIs, IsFrontWithin, front_of, head_at, head_limit, unfinished, overlong, overfull, unreadable, readable}
use Rattle.form_request.specs.declared.heads.Front.{Front}
use Rattle.form_request.specs.declared.heads.Front.TheVariants.{Unfinished, Refused, Taken}
use Rattle.tuple_values.specs.declared.names.NameShards.{NameShards}
use Rattle.form_request.specs.Judging.{parts_at, parts_of}

-- lines are counted part by part
pub line_count-append : (a b : List ℕ) → line_count (a ++ b) ≡ line_count a + line_count b
line_count-append a b = sum_by-append (λ x. cond (x == line_feed) 1 0) a b

-- a line end ends one line
line_count-end : (end : LineEnd) → line_count (print_end end) ≡ 1
line_count-end crlf = refl
line_count-end lf = refl

-- a section has a line for each of its fields, and the empty one
line_count-section : (fields : List Field) (last : LineEnd)
    → length fields + 1 ≤ line_count (print_section fields last)
line_count-section [] last = omega (arith, line_count-end last)
line_count-section (f ∷ fields) last =
    let text = f.name ++ 58 ∷ f.raw in
    let first = print_field f in
    let rest = flat_map print_field fields in
    let later = line_count-section fields last in
    let a = line_count-append (first ++ rest) (print_end last) in
    let b = line_count-append first rest in
    let d = line_count-append rest (print_end last) in
    let e = line_count-append text (print_end f.end) in
    omega (arith, later, a, b, d, e, line_count-end f.end, line_count-end last)

-- a head has two lines more than fields
pub line_count-request : (h : RequestHead) → length h.fields + 2 ≤ line_count (print_request h)
unfolding print_request
line_count-request h =
    let start = print_blank h.blank ++ h.method ++ 32 ∷ h.target ++ 32 ∷ print_version h.minor in
    let line = start ++ print_end h.line_end in
    let a = line_count-append line (print_section h.fields h.last) in
    let b = line_count-append start (print_end h.line_end) in
    omega (arith, a, b, line_count-end h.line_end, line_count-section h.fields h.last)

-- bytes that a parser can't take for want of room have too many lines
pub HasNoHead-overflow : (head : List ℕ) → line_count head ≤ 66 → RequestOverflows 64 head → HasNoHead head
HasNoHead-overflow head few overflows h reads =
    let P : List ℕ → Type 0 = λ bytes. ReadsRequest bytes h [] in
    let many = overflows [] h [] (subst P (sym (append-nil head)) reads) in
    let count : line_count head ≡ line_count (print_request h) =
    ap line_count (reads.1 ∙ append-nil (print_request h)) in
    omega (arith, many, count, line_count-request h, few)

-- bytes whose front is a head that ends before them are no head
pub HasNoHead-longer : (head : List ℕ) (spans : List HeaderSpan) (line : RequestSpans) (h : RequestHead)
    → IsRequestAt head spans line h → line.len ≤ length head → (line.len ≡ length head → ⊥) → HasNoHead head
HasNoHead-longer head spans line h at fits other k reads =
    let rest = (request_unique head h k (drop line.len head) [] at.reads reads).1 in
    other (omega (arith, ap length rest, length-drop line.len head))

-- the spans of a whole head give its parts
pub parts-found : (head : List ℕ) (spans : List HeaderSpan) (line : RequestSpans) (h : RequestHead)
    → IsRequestAt head spans line h → line.len ≡ length head
    → ReadsRequest head h [] × (parts_at head spans line ≡ parts_of h)
parts-found head spans line h at whole =
    let P : List ℕ → Type 0 = λ rest. ReadsRequest head h rest in (
      subst P (drop_all line.len head (omega arith)) at.reads,
      cc (at.method, at.path, at.version, at.fields),
    )

-- where a head ends, its bytes say what stands at the front
pub FrontIs-at : (names : List NameShards) (bytes : List ℕ) (place : ℕ) (front : Front)
    → head_length (front_of bytes) ≡ Some place → HeadGives names (head_at bytes place) place front
    → IsFrontWithin (length bytes) front → FrontIs names bytes front
FrontIs-at names bytes place front ends gives within =
    elim gives [
      | inl many ↦ (overfull, (place, ends, many.0), many.1, within)
      | inr other ↦ elim other [
        | inl none ↦ (unreadable, (place, ends, none.0, none.1), none.2, within)
        | inr found ↦ (readable found.1 place, (ends, found.0, found.2), found.3, within)
      ]
    ]

-- a place within a front is within what the front is of
pub IsFrontWithin-more : (a b : ℕ) (front : Front) → a ≤ b → IsFrontWithin a front → IsFrontWithin b front
IsFrontWithin-more a b Unfinished le within = within
IsFrontWithin-more a b (Refused status) le within = within
IsFrontWithin-more a b (Taken plan place) le within = (within.0, omega (arith, within.1))

-- the bytes in which a head is looked for, as it is cut
pub front_of-short : (bytes : List ℕ) → length bytes ≤ 16384 → bytes ≡ front_of bytes
unfolding head_limit
front_of-short bytes few = sym (take_all 16384 bytes few)

pub front_of-long : (bytes : List ℕ) → take 16384 bytes ≡ front_of bytes
unfolding head_limit
front_of-long bytes = refl

-- no end is found in fewer bytes, or in as many
pub FrontIs-fewer : (names : List NameShards) (bytes : List ℕ) → None ≡ head_length (front_of bytes)
    → length bytes < 16384 → FrontIs names bytes Unfinished
unfolding head_limit
FrontIs-fewer names bytes none few = (unfinished, (sym none, few), refl, tt)

pub FrontIs-overlong : (names : List NameShards) (bytes : List ℕ) → None ≡ head_length (front_of bytes)
    → 16384 ≤ length bytes → FrontIs names bytes (Refused 431)
unfolding head_limit
FrontIs-overlong names bytes none many = (overlong, (sym none, many), refl, tt)

-- nor is it longer than the bytes
pub length-front_of-le : (bytes : List ℕ) → length (front_of bytes) ≤ length bytes
unfolding head_limit
length-front_of-le bytes = omega (arith, length-take 16384 bytes)

-- a head is looked for in 16,384 bytes at most
pub length-front_of : (bytes : List ℕ) → length (front_of bytes) ≤ 16384
unfolding head_limit
length-front_of bytes = omega (arith, length-take 16384 bytes)

-- a part of bytes is no longer than they are
pub length-slice : (bytes : List ℕ) (start count : ℕ) → length (take count (drop start bytes)) ≤ length bytes
length-slice bytes start count =
    omega (arith, length-take count (drop start bytes), length-drop start bytes)

-- what a head gives, by the bytes in which it was found
pub FrontIs-found : (names : List NameShards) (bytes front : List ℕ) (blank place : ℕ) (found : Front)
    → front ≡ front_of bytes → head_length front ≡ Some place → blank_len front ≡ blank
    → HeadGives names (slice_range front blank place) place found
    → IsFrontWithin (length bytes) found → FrontIs names bytes found
FrontIs-found names bytes front blank place found same ends skipped gives within =
    let P : List ℕ → Type 0 = λ head. HeadGives names head place found in
    FrontIs-at names bytes place found (ap head_length (sym same) ∙ ends)
    (subst P (ap (λ b. slice_range front b place) (sym skipped)
    ∙ ap (λ f. slice_range f (blank_len f) place) same) gives) within

-- a search of the front has seen the empty lines of all bytes
pub front_searched : (bytes : List ℕ) (at : Search) → IsSearched (front_of bytes) at
    → blank_len bytes ≡ (if at.begun then at.blank else at.seen + blank_len (drop at.seen bytes))
unfolding head_limit
front_searched bytes at searched =
    blank_len-searched bytes (front_of bytes) (drop 16384 bytes) at (sym (take-append-drop 16384 bytes)) searched
