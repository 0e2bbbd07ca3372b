-- What stands at the front of a stream: no whole head yet, no head, or a head of the grammar (RFC
-- 9112, section 2; the limits are own).
use Rattle.std.specs.Prelude.{◌≡◌, ℕ, ◌<◌, ◌≤◌, ◌⊎◌, List, [], length, take, slice_range, None, Some}
use Rattle.httparse.specs.Grammar.{RequestHead, ReadsRequest}
use Rattle.tuple_values.specs.declared.names.NameShards.{NameShards}
use Rattle.form_request.specs.Ends.{head_length, blank_len, line_count}
use Rattle.form_request.specs.Judging.{judgement, parts_of}
use Rattle.form_request.specs.declared.plan.Judged.{Judged}
use Rattle.form_request.specs.declared.plan.Judged.TheVariants.{Refuses, Takes}
use Rattle.form_request.specs.declared.heads.Front.{Front}
use Rattle.form_request.specs.declared.heads.Front.TheVariants.{Unfinished, Refused, Taken}

-- the greatest number of bytes of a head, with the empty lines before it
unfoldable pub head_limit : ℕ
head_limit = 16384

-- the bytes in which a head is looked for
abbrev pub front_of : List ℕ → List ℕ
front_of bytes = take head_limit bytes

-- the head that ends at the place, without the empty lines before it
abbrev pub head_at : List ℕ → ℕ → List ℕ
head_at bytes place = slice_range (front_of bytes) (blank_len (front_of bytes)) place

-- the bytes are no head
abbrev pub HasNoHead : List ℕ → Type 0
HasNoHead head = (h : RequestHead) → ReadsRequest head h [] → ⊥

-- what the first bytes of a stream are
pub data Verdict : Type 0 where
  unfinished : Verdict
  overlong : Verdict
  overfull : Verdict
  unreadable : Verdict
  readable : RequestHead → ℕ → Verdict

-- no head ends in the first 16,384 bytes, and there are fewer or not; it has more than 64 lines
-- between its first and its empty one; it is no head of the grammar; or it is one, and ends there
abbrev pub VerdictIs : List ℕ → Verdict → Type 0
VerdictIs bytes unfinished = (head_length (front_of bytes) ≡ None) × (length bytes < head_limit)
VerdictIs bytes overlong = (head_length (front_of bytes) ≡ None) × (head_limit ≤ length bytes)
VerdictIs bytes overfull =
    (place : ℕ) × (head_length (front_of bytes) ≡ Some place) × (66 < line_count (head_at bytes place))
VerdictIs bytes unreadable =
    (place : ℕ) × (head_length (front_of bytes) ≡ Some place)
    × (line_count (head_at bytes place) ≤ 66) × HasNoHead (head_at bytes place)
VerdictIs bytes (readable head place) =
    (head_length (front_of bytes) ≡ Some place)
    × (line_count (head_at bytes place) ≤ 66) × ReadsRequest (head_at bytes place) head []

-- what a judgement makes of the message whose head ends at the place
abbrev pub front_by : Judged → ℕ → Front
front_by (Refuses status) place = Refused status
front_by (Takes plan) place = Taken plan place

-- what the front of a stream is, by its head
abbrev pub front_is : List NameShards → List ℕ → Verdict → Front
front_is names bytes unfinished = Unfinished
front_is names bytes overlong = Refused 431
front_is names bytes overfull = Refused 431
front_is names bytes unreadable = Refused 400
front_is names bytes (readable head place) =
    front_by (judgement names (parts_of head) (length (head_at bytes place))) place

-- a head ends behind its first byte and within so many
abbrev pub IsFrontWithin : ℕ → Front → Type 0
IsFrontWithin count Unfinished = Unit {0}
IsFrontWithin count (Refused status) = Unit {0}
IsFrontWithin count (Taken plan place) = (0 < place) × (place ≤ count)

-- what the front of a stream is
abbrev pub FrontIs : List NameShards → List ℕ → Front → Type 0
FrontIs names bytes front =
    (verdict : Verdict) × VerdictIs bytes verdict × (front ≡ front_is names bytes verdict)
    × IsFrontWithin (length bytes) front

-- what a message is by the bytes of its head, which ends at the place
abbrev pub HeadGives : List NameShards → List ℕ → ℕ → Front → Type 0
HeadGives names head place front =
    ((66 < line_count head) × (front ≡ Refused 431))
    ⊎ ((line_count head ≤ 66) × HasNoHead head × (front ≡ Refused 400))
    ⊎ ((line_count head ≤ 66) × (h : RequestHead) × ReadsRequest head h []
    × (front ≡ front_by (judgement names (parts_of h) (length head)) place))
