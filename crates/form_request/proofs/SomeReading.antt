-- Bytes can be read.
use Rattle.std.proofs.Common.{◌≡◌, ℕ, zero, suc, ◌+◌, ◌-◌, ◌<◌, ◌≤◌, Bool, true, false, cond, nat_eq, List, [], ◌∷◌, length, take, drop, Option, Some, None, refl, sym, arith, length-drop, inl, inr}
use Rattle.std.specs.Prelude.{◌&&◌, ◌||◌, min}
use Rattle.std.proofs.lemmas.Bool.{cases_lt, cases_Bool}
use Rattle.tuple_values.specs.declared.names.NameShards.{NameShards}
use Rattle.form_request.specs.Ends.{head_length, lines_len, blank_len, empty_len, behind_line, shift, line_count}
use Rattle.form_request.specs.Heads.{FrontIs, IsFrontWithin, front_of, head_at, front_by}
use Rattle.form_request.specs.Judging.{judgement, parts_of}
use Rattle.form_request.specs.Readers.{HeldReads}
use Rattle.form_request.specs.Readings.{Reads, BodyReads, StageReads, nothing, HasReading}
use Rattle.form_request.specs.Streams.{Held, request_of}
use Rattle.form_request.specs.declared.heads.Front.{Front}
use Rattle.form_request.specs.declared.heads.Front.TheVariants.{Unfinished, Refused, Taken}
use Rattle.form_request.specs.declared.plan.Judged.{Judged}
use Rattle.form_request.specs.declared.plan.Judged.TheVariants.{Refuses, Takes}
use Rattle.form_request.specs.declared.plan.Plan.{Plan}
use Rattle.form_request.specs.declared.plan.Stage.{Stage}
use Rattle.form_request.specs.declared.plan.Stage.TheVariants.{Head, Body, Stopped, Closed}
use Rattle.form_request.specs.declared.reading.Message.{Message}
use Rattle.form_request.specs.declared.reading.After.{After}
use Rattle.form_request.specs.declared.reading.After.TheVariants.{Refusal, Rest}
use Rattle.form_request.proofs.EndLemmas.{head_end}
use Rattle.form_request.proofs.HeadLemmas.{FrontIs-at, FrontIs-fewer, FrontIs-overlong, length-front_of-le}
use Rattle.form_request.proofs.SomeHead.{decide_head}

-- a head takes bytes
shift_le : (k : ℕ) (later : Option ℕ) (place : ℕ) → shift k later ≡ Some place → k ≤ place
shift_le k None place is = absurd (cc)
shift_le k (Some n) place is = let sum : k + n ≡ place = cc in omega (arith, sum)

lines_some : (bytes : List ℕ) (place : ℕ) → lines_len bytes ≡ Some place → 0 < place
lines_some [] place is = absurd (cc)
lines_some (b ∷ bytes) place is = by_feed (nat_eq b 10) (empty_len bytes) (lines_len bytes) is
  where
    by_feed : (feed : Bool) (empty : ℕ) (later : Option ℕ)
        → cond feed (behind_line empty later) (shift 1 later) ≡ Some place → 0 < place
    by_feed true zero later is = omega (arith, shift_le 1 later place is)
    by_feed true (suc empty) later is = let two : 2 + empty ≡ place = cc in omega (arith, two)
    by_feed false empty later is = omega (arith, shift_le 1 later place is)

head_some : (bytes : List ℕ) (place : ℕ) → head_length bytes ≡ Some place → 0 < place
head_some [] place is = absurd (cc)
head_some (b ∷ []) place is = absurd (cc)
head_some (b ∷ c ∷ bytes) place is =
    by_feed (nat_eq b 10) (nat_eq b 13 && nat_eq c 10) (head_length (c ∷ bytes)) (head_length bytes) is
  where
    by_feed : (feed return : Bool) (next later : Option ℕ)
        → cond feed (shift 1 next) (cond return (shift 2 later) (lines_len (b ∷ c ∷ bytes))) ≡ Some place
        → 0 < place
    by_feed true return next later is = omega (arith, shift_le 1 next place is)
    by_feed false true next later is = omega (arith, shift_le 2 later place is)
    by_feed false false next later is = lines_some (b ∷ c ∷ bytes) place is

within_by : (judged : Judged) (count place : ℕ) → 0 < place → place ≤ count
    → IsFrontWithin count (front_by judged place)
within_by (Refuses status) count place some fits = tt
within_by (Takes plan) count place some fits = (some, fits)

-- something stands at the front
some_front : (names : List NameShards) (bytes : List ℕ) → (front : Front) × FrontIs names bytes front
some_front names bytes = by_end (head_length (front_of bytes)) refl
  where
    by_end : (end : Option ℕ) → head_length (front_of bytes) ≡ end → (front : Front) × FrontIs names bytes front
    by_end None none =
        elim (cases_lt (length bytes) 16384) [
          | inl few ↦ (Unfinished, FrontIs-fewer names bytes (sym none) few)
          | inr many ↦ (Refused 431, FrontIs-overlong names bytes (sym none) many)
        ]
    by_end (Some place) ends =
        elim (cases_lt 66 (line_count (head_at bytes place))) [
          | inl many ↦ (Refused 431, FrontIs-at names bytes place (Refused 431) ends (inl (many, refl)) tt)
          | inr few ↦ elim (decide_head (head_at bytes place)) [
            | inl found ↦
                let judged = judgement names (parts_of found.0) (length (head_at bytes place)) in
                let fits = (head_end (front_of bytes) place ends).fits in (
                  front_by judged place,
                  FrontIs-at names bytes place (front_by judged place) ends (inr (inr (few, found.0, found.1, refl)))
                      (within_by judged (length bytes) place (head_some (front_of bytes) place ends)
                      (omega (arith, fits, length-front_of-le bytes))),
                )
            | inr none ↦
                (Refused 400, FrontIs-at names bytes place (Refused 400) ends (inr (inl (few, none, refl))) tt)
          ]
        ]

-- behind a head there is a body, and what is read behind it
some_body : (asks : Bool) (plan : Plan) (names : List NameShards) (bytes : List ℕ)
    → ((rest : List ℕ) → length rest ≤ length bytes
    → (messages : List Message) × (after : After) × Reads names rest messages after)
    → (messages : List Message) × (after : After) × BodyReads asks plan names bytes messages after
some_body asks plan names bytes behind =
    elim (cases_lt (length bytes) plan.length) [
      | inl lacks ↦ ([], Rest (plan.size + min plan.length (length bytes)) asks, (lacks, refl))
      | inr fits ↦
          let message : Message = record { asks = asks; request = request_of plan (take plan.length bytes) } in
          elim (cases_Bool plan.closes) [
            | inl closes ↦ (message ∷ [], nothing, (fits, refl, rw closes (refl, refl)))
            | inr goes_on ↦
                let later = behind (drop plan.length bytes) (omega (arith, length-drop plan.length bytes)) in
                (message ∷ later.0, later.1, (fits, refl, rw goes_on later.2))
          ]
    ]

-- what the body reads as is what the bytes read as
by_body : (names : List NameShards) (bytes : List ℕ) (plan : Plan) (place : ℕ)
    → FrontIs names bytes (Taken plan place) → (messages : List Message) (after : After)
    → BodyReads plan.asks plan names (drop place bytes) messages after → Reads names bytes messages after
by_body names bytes plan place is [] after reads = (Taken plan place, is, reads)
by_body names bytes plan place is (message ∷ messages) after reads = (Taken plan place, is, reads)

reading_step : (names : List NameShards) (bytes : List ℕ)
    → ((rest : List ℕ) → length rest < length bytes
    → (messages : List Message) × (after : After) × Reads names rest messages after)
    → (messages : List Message) × (after : After) × Reads names bytes messages after
reading_step names bytes shorter = let found = some_front names bytes in by_front found.0 found.1
  where
    by_front : (front : Front) → FrontIs names bytes front
        → (messages : List Message) × (after : After) × Reads names bytes messages after
    by_front Unfinished is = ([], Rest (length bytes - blank_len bytes) false, (Unfinished, is, refl))
    by_front (Refused status) is = ([], Refusal status, (Refused status, is, refl))
    by_front (Taken plan place) is =
        let body = some_body plan.asks plan names (drop place bytes)
        (λ rest less. shorter rest (omega (arith, less, length-drop place bytes, is.3.0, is.3.1))) in
        (body.0, body.1, by_body names bytes plan place is body.0 body.1 body.2)

reading_within : (n : ℕ) (names : List NameShards) (bytes : List ℕ) → length bytes ≤ n
    → (messages : List Message) × (after : After) × Reads names bytes messages after
reading_within zero names bytes few = reading_step names bytes (λ rest less. absurd (omega (arith, few, less)))
reading_within (suc n) names bytes few =
    reading_step names bytes (λ rest less. reading_within n names rest (omega (arith, few, less)))

pub some_reading : HasReading
some_reading names bytes = reading_within (length bytes) names bytes (omega arith)

-- so does a stream, wherever it stands
pub each_held_reads : (names : List NameShards) (told : Bool) (held : Held)
    → (messages : List Message) × (after : After) × HeldReads names told held messages after
each_held_reads names told held = by_stage held.stage held.bytes
  where
    by_stage : (stage : Stage) (bytes : List ℕ)
        → (messages : List Message) × (after : After) × StageReads names told stage bytes messages after
    by_stage Head bytes = some_reading names bytes
    by_stage (Body plan) bytes =
        some_body (told || plan.asks) plan names bytes (λ rest less. some_reading names rest)
    by_stage (Stopped status) bytes = ([], Refusal status, (refl, refl))
    by_stage Closed bytes = ([], nothing, (refl, refl))
