-- Bytes are a head of the grammar, or not.
use Rattle.std.proofs.Common.{◌≡◌, ℕ, zero, suc, ◌<◌, ◌≤◌, ◌⊎◌, Bool, true, List, [], ◌∷◌, ◌++◌, length, refl, sym, ap, subst, ◌∙◌, arith, append_assoc, length-append, inl, inr}
use Rattle.std.specs.Prelude.{IsUtf8}
use Rattle.std.specs.Str.{is_utf8}
use Rattle.std.specs.List.{flat_map}
use Rattle.std.proofs.lemmas.Bool.{cases_eq, cases_Bool}
use Rattle.std.proofs.lemmas.List.Elements.{All-nil, All-cons, All-head, All-tail}
use Rattle.std.proofs.lemmas.Str.{IsUtf8-from_is_utf8, is_utf8-from_IsUtf8}
use Rattle.httparse.specs.Grammar.{is_token_byte, is_uri_byte, is_value_byte, AllPass, LineEnd, crlf, lf, print_end, print_blank, print_version, Field, print_field, IsField, RequestHead, ReadsRequest}
use Rattle.httparse.specs.Pieces.{Piece, Begins, Then, Stops, is_newline, Bytes, Newline, Blank, Word, Method, Target, Version, Text, FieldLine, Section, RequestStart}
use Rattle.httparse.proofs.PieceLemmas.{IsDeterministic, Newline_deterministic, Blank_deterministic, Word_deterministic, Method_deterministic, Target_deterministic, Version_deterministic, Name_deterministic, FieldLine_deterministic, RequestStart_deterministic, newline_not_stopped, FieldLine_parts, print_field-append}
use Rattle.httparse.proofs.ReadLemmas.{FieldLine_done}
use Rattle.httparse.proofs.GrammarLemmas.{request_tree, request_head, request_pieces, request_from_pieces, request_unique}
use Rattle.form_request.specs.Heads.{HasNoHead}

-- the text begins with the piece, or not
abbrev Decided : {A : Type 0} → Piece A → List ℕ → Type 0
Decided G text = Begins G text ⊎ (Begins G text → ⊥)

-- one piece and then another
decide_then : {A B : Type 0} (G : Piece A) (H : Piece B) → IsDeterministic G
    → ((text : List ℕ) → Decided G text) → ((text : List ℕ) → Decided H text)
    → (text : List ℕ) → Decided (Then G H) text
decide_then G H det g h text =
    elim (g text) [
      | inl first ↦ elim (h first.1) [
        | inl next ↦ inl ((first.0, next.0), next.1, (first.1, first.2, next.2))
        | inr none ↦ inr (λ both.
            let same = det.unique both.0.0 first.0 text both.2.0 first.1 both.2.1 first.2 in
            let P : List ℕ → Type 0 = λ middle. H both.0.1 middle both.1 in
            none (both.0.1, both.1, subst P same.1 both.2.2))
      ]
      | inr none ↦ inr (λ both. none (both.0.0, both.2.0, both.2.1))
    ]

-- given bytes
decide_bytes : (bytes text : List ℕ) → Decided (Bytes bytes) text
decide_bytes [] text = inl (tt, text, refl)
decide_bytes (x ∷ bytes) [] = inr (λ at. let is = at.2 in cc)
decide_bytes (x ∷ bytes) (b ∷ text) =
    elim (cases_eq b x) [
      | inl same ↦ elim (decide_bytes bytes text) [
        | inl at ↦ inl (tt, at.1, let is = at.2 in cc)
        | inr none ↦ inr (λ at. none (tt, at.1, let is = at.2 in cc))
      ]
      | inr other ↦ inr (λ at. other (let is = at.2 in cc))
    ]

-- a line end
newline_first : (end : LineEnd) (b : ℕ) (text rest : List ℕ) → (b ∷ text) ≡ print_end end ++ rest
    → (b ≡ 10) ⊎ ((b ≡ 13) × (text ≡ 10 ∷ rest))
newline_first crlf b text rest is = inr (cc, cc)
newline_first lf b text rest is = inl (cc)

newline_none : (end : LineEnd) (rest : List ℕ) → [] ≡ print_end end ++ rest → ⊥
newline_none crlf rest is = cc
newline_none lf rest is = cc

newline_shorter : (end : LineEnd) (text rest : List ℕ) → text ≡ print_end end ++ rest
    → length rest < length text
newline_shorter crlf text rest is = omega (arith, ap length is)
newline_shorter lf text rest is = omega (arith, ap length is)

decide_newline : (text : List ℕ) → Decided Newline text
decide_newline [] = inr (λ at. newline_none at.0 at.1 at.2)
decide_newline (b ∷ text) =
    elim (cases_eq b 10) [
      | inl feed ↦ inl (lf, text, ap (λ x. x ∷ text) feed)
      | inr other ↦ elim (cases_eq b 13) [
        | inl return ↦ elim (decide_bytes (10 ∷ []) text) [
          | inl at ↦ inl (crlf, at.1, let is = at.2 in cc)
          | inr none ↦ inr (λ at. elim (newline_first at.0 b text at.1 at.2) [
            | inl feed ↦ other feed
            | inr pair ↦ none (tt, at.1, pair.1)
          ])
        ]
        | inr neither ↦ inr (λ at. elim (newline_first at.0 b text at.1 at.2) [
          | inl feed ↦ other feed
          | inr pair ↦ neither pair.0
        ])
      ]
    ]

-- a first byte that fails the test
decide_stops : (test : ℕ → Bool) (text : List ℕ) → Stops test text ⊎ (Stops test text → ⊥)
decide_stops test [] = inr (λ stops. stops)
decide_stops test (b ∷ text) =
    elim (cases_Bool (test b)) [
      | inl passes ↦ inr (λ stops. cc)
      | inr fails ↦ inl fails
    ]

-- the empty lines at the front
blank_parts : (ends : List LineEnd) (text rest : List ℕ) → Blank ends text rest
    → Stops is_newline text ⊎ ((end : LineEnd) × (middle : List ℕ) × Newline end text middle × Begins Blank middle)
blank_parts [] text rest blank = inl (subst (Stops is_newline) (sym blank.0) blank.1)
blank_parts (end ∷ ends) text rest blank = inr (
  end,
  print_blank ends ++ rest,
  blank.0 ∙ append_assoc (print_end end) (print_blank ends) rest,
  (ends, rest, (refl, blank.1)),
)

blank_step : (text : List ℕ) → ((middle : List ℕ) → length middle < length text → Decided Blank middle)
    → Decided Blank text
blank_step text shorter =
    elim (decide_newline text) [
      | inl at ↦ elim (shorter at.1 (newline_shorter at.0 text at.1 at.2)) [
        | inl more ↦ inl (
          at.0 ∷ more.0,
          more.1,
          (
            at.2 ∙ ap (λ (t : List ℕ). print_end at.0 ++ t) more.2.0
                ∙ sym (append_assoc (print_end at.0) (print_blank more.0) more.1),
            more.2.1,
          ),
        )
        | inr none ↦ inr (λ blank. elim (blank_parts blank.0 text blank.1 blank.2) [
          | inl stops ↦ newline_not_stopped at.0 at.1 text (sym at.2) stops
          | inr parts ↦
              let same = Newline_deterministic.unique parts.0 at.0 text parts.1 at.1 parts.2 at.2 in
              let P : List ℕ → Type 0 = λ middle. Begins Blank middle in
              none (subst P same.1 parts.3)
        ])
      ]
      | inr absent ↦ elim (decide_stops is_newline text) [
        | inl stops ↦ inl ([], text, (refl, stops))
        | inr passes ↦ inr (λ blank. elim (blank_parts blank.0 text blank.1 blank.2) [
          | inl stops ↦ passes stops
          | inr parts ↦ absent (parts.0, parts.1, parts.2)
        ])
      ]
    ]

blank_within : (n : ℕ) (text : List ℕ) → length text ≤ n → Decided Blank text
blank_within zero text few = blank_step text (λ middle less. absurd (omega (arith, few, less)))
blank_within (suc n) text few =
    blank_step text (λ middle less. blank_within n middle (omega (arith, few, less)))

decide_blank : (text : List ℕ) → Decided Blank text
decide_blank text = blank_within (length text) text (omega arith)

-- some bytes that pass the test, and then a piece
abbrev Many : (ℕ → Bool) → Piece (List ℕ)
Many test word text rest = AllPass test word × (text ≡ word ++ rest)

module _ {A : Type 0} (test : ℕ → Bool) (G : Piece A) where
  many_none : (word : List ℕ) (a : A) (middle rest : List ℕ) → [] ≡ word ++ middle → G a middle rest
      → Begins G []
  many_none [] a middle rest is last =
      let P : List ℕ → Type 0 = λ text. G a text rest in (a, rest, subst P (sym is) last)
  many_none (x ∷ word) a middle rest is last = absurd (cc)

  many_first : (b : ℕ) (text word : List ℕ) (a : A) (middle rest : List ℕ) → AllPass test word
      → (b ∷ text) ≡ word ++ middle → G a middle rest
      → Begins G (b ∷ text) ⊎ ((test b ≡ true) × Begins (Then (Many test) G) text)
  many_first b text [] a middle rest pass is last =
      let P : List ℕ → Type 0 = λ text. G a text rest in inl (a, rest, subst P (sym is) last)
  many_first b text (x ∷ word) a middle rest pass is last =
      let passes = All-head (λ v. test v ≡ true) x word pass in
      inr (
        cc,
        ((word, a), rest, (middle, (All-tail (λ v. test v ≡ true) x word pass, cc), last)),
      )

  decide_many : ((text : List ℕ) → Decided G text) → (text : List ℕ) → Decided (Then (Many test) G) text
  decide_many g [] =
      elim (g []) [
        | inl at ↦ inl (([], at.0), at.1, ([], (All-nil (λ v. test v ≡ true), refl), at.2))
        | inr none ↦ inr (λ at.
            none (many_none at.0.0 at.0.1 at.2.0 at.1 at.2.1.1 at.2.2))
      ]
  decide_many g (b ∷ text) =
      elim (g (b ∷ text)) [
        | inl at ↦ inl (([], at.0), at.1, (b ∷ text, (All-nil (λ v. test v ≡ true), refl), at.2))
        | inr absent ↦ elim (cases_Bool (test b)) [
          | inl passes ↦ elim (decide_many g text) [
            | inl at ↦ inl (
              (b ∷ at.0.0, at.0.1),
              at.1,
              (
                at.2.0,
                (
                  All-cons (λ v. test v ≡ true) b at.0.0 passes at.2.1.0,
                  ap (λ (t : List ℕ). b ∷ t) at.2.1.1,
                ),
                at.2.2,
              ),
            )
            | inr none ↦ inr (λ at.
                elim (many_first b text at.0.0 at.0.1 at.2.0 at.1 at.2.1.0 at.2.1.1 at.2.2) [
                  | inl here ↦ absent here
                  | inr later ↦ none later.1
                ])
          ]
          | inr fails ↦ inr (λ at.
              elim (many_first b text at.0.0 at.0.1 at.2.0 at.1 at.2.1.0 at.2.1.1 at.2.2) [
                | inl here ↦ absent here
                | inr later ↦ let passes = later.0 in cc
              ])
        ]
      ]

-- a word and the byte behind it
word_first : (test : ℕ → Bool) (stop b : ℕ) (text word rest : List ℕ) → Word test stop word (b ∷ text) rest
    → (test b ≡ true) × Begins (Then (Many test) (Bytes (stop ∷ []))) text
word_first test stop b text [] rest at = absurd (omega (arith, at.0))
word_first test stop b text (x ∷ word) rest at =
    let passes = All-head (λ v. test v ≡ true) x word at.1 in
    let is = at.2 in (
      cc,
      ((word, tt), rest, (stop ∷ rest, (All-tail (λ v. test v ≡ true) x word at.1, cc), refl)),
    )

word_none : (test : ℕ → Bool) (stop : ℕ) (word rest : List ℕ) → Word test stop word [] rest → ⊥
word_none test stop [] rest at = omega (arith, at.0)
word_none test stop (x ∷ word) rest at = let is = at.2 in cc

decide_word : (test : ℕ → Bool) (stop : ℕ) (text : List ℕ) → Decided (Word test stop) text
decide_word test stop [] = inr (λ at. word_none test stop at.0 at.1 at.2)
decide_word test stop (b ∷ text) =
    elim (cases_Bool (test b)) [
      | inl passes ↦ elim (decide_many test (Bytes (stop ∷ [])) (decide_bytes (stop ∷ [])) text) [
        | inl at ↦ inl (
          b ∷ at.0.0,
          at.1,
          (
            omega arith,
            All-cons (λ v. test v ≡ true) b at.0.0 passes at.2.1.0,
            ap (λ (t : List ℕ). b ∷ t) (at.2.1.1 ∙ ap (λ (t : List ℕ). at.0.0 ++ t) at.2.2),
          ),
        )
        | inr none ↦ inr (λ at. none (word_first test stop b text at.0 at.1 at.2).1)
      ]
      | inr fails ↦ inr (λ at. let passes = (word_first test stop b text at.0 at.1 at.2).0 in cc)
    ]

-- a target
decide_target : (text : List ℕ) → Decided Target text
decide_target text =
    elim (decide_word is_uri_byte 32 text) [
      | inl word ↦ elim (cases_Bool (is_utf8 word.0)) [
        | inl valid ↦ inl (word.0, word.1, (word.2, IsUtf8-from_is_utf8 word.0 valid))
        | inr invalid ↦ inr (λ at.
            let same = (Word_deterministic is_uri_byte 32 refl).unique at.0 word.0 text at.1 word.1 at.2.0 word.2 in
            let valid = is_utf8-from_IsUtf8 word.0 (subst IsUtf8 same.0 at.2.1) in
            cc)
      ]
      | inr none ↦ inr (λ at. none (at.0, at.1, at.2.0))
    ]

-- a version
decide_version : (text : List ℕ) → Decided Version text
decide_version text =
    elim (decide_bytes (print_version 0) text) [
      | inl at ↦ inl (0, at.1, (omega arith, at.2))
      | inr absent ↦ elim (decide_bytes (print_version 1) text) [
        | inl at ↦ inl (1, at.1, (omega arith, at.2))
        | inr none ↦ inr (λ at.
            let P : ℕ → Type 0 = λ minor. text ≡ print_version minor ++ at.1 in
            elim (cases_eq at.0 0) [
              | inl zeroth ↦ absent (tt, at.1, subst P zeroth at.2.1)
              | inr other ↦ none (tt, at.1, subst P (let first : at.0 ≡ 1 = omega (arith, at.2.0, other) in first) at.2.1)
            ])
      ]
    ]

-- a field line
decide_text : (text : List ℕ) → Decided Text text
decide_text text =
    elim (decide_many is_value_byte Newline decide_newline text) [
      | inl at ↦ inl (at.0, at.1, (at.2.1.0, at.2.1.1 ∙ ap (λ (t : List ℕ). at.0.0 ++ t) at.2.2))
      | inr none ↦ inr (λ at.
          none (at.0, at.1, (print_end at.0.1 ++ at.1, (at.2.0, at.2.1), refl)))
    ]

decide_field : (text : List ℕ) → Decided FieldLine text
decide_field text =
    elim (decide_then (Word is_token_byte 58) Text Name_deterministic (decide_word is_token_byte 58) decide_text text) [
      | inl at ↦ inl (
        record { name = at.0.0; raw = at.0.1.0; end = at.0.1.1 },
        at.1,
        FieldLine_done at.0.0 at.0.1.0 at.0.1.1 text at.2.0 at.1 at.2.1 at.2.2,
      )
      | inr none ↦ inr (λ at.
          none ((at.0.name, (at.0.raw, at.0.end)), at.1, FieldLine_parts at.0 text at.1 at.2))
    ]

field_shorter : (field : Field) (text rest : List ℕ) → FieldLine field text rest → length rest < length text
field_shorter field text rest at =
    let end = print_end field.end ++ rest in
    omega (
      arith,
      ap length (at.1 ∙ print_field-append field rest),
      length-append field.name (58 ∷ (field.raw ++ end)),
      length-append field.raw end,
      length-append (print_end field.end) rest,
    )

-- a section
print_more : (field : Field) (fields : List Field) (last : LineEnd) (rest : List ℕ)
    → (flat_map print_field (field ∷ fields) ++ print_end last) ++ rest
    ≡ print_field field ++ ((flat_map print_field fields ++ print_end last) ++ rest)
print_more field fields last rest =
    ap (λ (t : List ℕ). t ++ rest) (append_assoc (print_field field) (flat_map print_field fields) (print_end last))
    ∙ append_assoc (print_field field) (flat_map print_field fields ++ print_end last) rest

section_parts : (fields : List Field) (last : LineEnd) (text rest : List ℕ) → Section (fields, last) text rest
    → Begins Newline text ⊎ ((field : Field) × (middle : List ℕ) × FieldLine field text middle × Begins Section middle)
section_parts [] last text rest at = inl (last, rest, at.1)
section_parts (field ∷ fields) last text rest at = inr (
  field,
  (flat_map print_field fields ++ print_end last) ++ rest,
  (All-head IsField field fields at.0, at.1 ∙ print_more field fields last rest),
  ((fields, last), rest, (All-tail IsField field fields at.0, refl)),
)

section_step : (text : List ℕ) → ((middle : List ℕ) → length middle < length text → Decided Section middle)
    → Decided Section text
section_step text shorter =
    elim (decide_newline text) [
      | inl at ↦ inl (([], at.0), at.1, (All-nil IsField, at.2))
      | inr absent ↦ elim (decide_field text) [
        | inl at ↦ elim (shorter at.1 (field_shorter at.0 text at.1 at.2)) [
          | inl more ↦ inl (
            (at.0 ∷ more.0.0, more.0.1),
            more.1,
            (
              All-cons IsField at.0 more.0.0 at.2.0 more.2.0,
              at.2.1 ∙ ap (λ (t : List ℕ). print_field at.0 ++ t) more.2.1
                  ∙ sym (print_more at.0 more.0.0 more.0.1 more.1),
            ),
          )
          | inr none ↦ inr (λ section. elim (section_parts section.0.0 section.0.1 text section.1 section.2) [
            | inl here ↦ absent here
            | inr parts ↦
                let same = FieldLine_deterministic.unique parts.0 at.0 text parts.1 at.1 parts.2 at.2 in
                let P : List ℕ → Type 0 = λ middle. Begins Section middle in
                none (subst P same.1 parts.3)
          ])
        ]
        | inr none ↦ inr (λ section. elim (section_parts section.0.0 section.0.1 text section.1 section.2) [
          | inl here ↦ absent here
          | inr parts ↦ none (parts.0, parts.1, parts.2)
        ])
      ]
    ]

section_within : (n : ℕ) (text : List ℕ) → length text ≤ n → Decided Section text
section_within zero text few = section_step text (λ middle less. absurd (omega (arith, few, less)))
section_within (suc n) text few =
    section_step text (λ middle less. section_within n middle (omega (arith, few, less)))

decide_section : (text : List ℕ) → Decided Section text
decide_section text = section_within (length text) text (omega arith)

-- a request
decide_request : (text : List ℕ) → Decided (Then RequestStart Section) text
decide_request =
    decide_then RequestStart Section RequestStart_deterministic
    (decide_then Blank (Then Method (Then Target (Then Version Newline))) Blank_deterministic decide_blank
    (decide_then Method (Then Target (Then Version Newline)) Method_deterministic (decide_word is_token_byte 32)
    (decide_then Target (Then Version Newline) Target_deterministic decide_target
    (decide_then Version Newline Version_deterministic decide_version decide_newline))))
    decide_section

-- nothing stands behind the request, or else the bytes are no head
head_by_rest : (head : List ℕ) (h : RequestHead) (rest : List ℕ) → ReadsRequest head h rest
    → ((k : RequestHead) × ReadsRequest head k []) ⊎ HasNoHead head
head_by_rest head h [] reads = inl (h, reads)
head_by_rest head h (b ∷ rest) reads = inr (λ k whole.
    let same = (request_unique head h k (b ∷ rest) [] reads whole).1 in
    cc)

pub decide_head : (head : List ℕ) → ((h : RequestHead) × ReadsRequest head h []) ⊎ HasNoHead head
decide_head head =
    elim (decide_request head) [
      | inl at ↦ head_by_rest head (request_head at.0) at.1 (request_from_pieces head at.0 at.1 at.2)
      | inr none ↦ inr (λ h reads. none (request_tree h, [], request_pieces head h [] reads))
    ]
