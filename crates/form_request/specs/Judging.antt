-- What becomes of a message by its head: its refusal, or how it is read on (RFC 9112, sections 3.2,
-- 6.1, 6.3, 7.1 and 9.6; RFC 9110, section 10.1.1; the limits and the order of refusals are own).
use Rattle.std.specs.Prelude.{ℕ, ◌&&◌, ◌||◌, ◌==◌, not, nat_lt, Bool, true, false, List, [], ◌∷◌, map, take, Option, None, Some, is_some, bytes_eq, codes, if◌then◌else◌}
use Rattle.httparse.specs.Grammar.{RequestHead}
use Rattle.httparse.specs.Spans.{name_and_value, span_bytes}
use Rattle.httparse.specs.declared.spans.HeaderSpan.{HeaderSpan}
use Rattle.httparse.specs.declared.spans.RequestSpans.{RequestSpans}
use Rattle.form_urlencoded.specs.Form.{split_once}
use Rattle.tuple_values.specs.declared.names.NameShards.{NameShards}
use Rattle.form_request.specs.Fields.{FieldList, fields_at, has, length_of}
use Rattle.form_request.specs.Params.{params_of}
use Rattle.form_request.specs.Routes.{route}
use Rattle.form_request.specs.declared.fields.Want.TheVariants.{Anything, Continue, Close}
use Rattle.form_request.specs.declared.fields.Length.{Length}
use Rattle.form_request.specs.declared.fields.Length.TheVariants.{Absent, Unclear, Given}
use Rattle.form_request.specs.declared.request.Handler.{Handler}
use Rattle.form_request.specs.declared.request.Handler.TheVariants.{Stream, Update}
use Rattle.form_request.specs.declared.plan.Plan.{Plan}
use Rattle.form_request.specs.declared.plan.Judged.{Judged}
use Rattle.form_request.specs.declared.plan.Judged.TheVariants.{Refuses, Takes}

-- the parts of a head: the minor version is 0 or 1
pub record Parts : Type 0 where
  pub method : List ℕ
  pub target : List ℕ
  pub minor : ℕ
  pub fields : FieldList

-- the parts of a head of the grammar
abbrev pub parts_of : RequestHead → Parts
parts_of h = record {
  method = h.method;
  target = h.target;
  minor = h.minor;
  fields = map name_and_value h.fields;
}

-- the parts that spans cover
abbrev pub parts_at : List ℕ → List HeaderSpan → RequestSpans → Parts
parts_at head spans line = record {
  method = span_bytes head line.method;
  target = span_bytes head line.path;
  minor = line.version;
  fields = fields_at head (take line.headers spans);
}

-- the greatest number of bytes of a body
abbrev pub body_limit : ℕ
body_limit = 8388608

-- the number of bytes of the body, where the fields tell it; 0 where they don't
abbrev pub length_value : Length → ℕ
length_value Absent = 0
length_value Unclear = 0
length_value (Given n) = n

abbrev pub is_unclear : Length → Bool
is_unclear Absent = false
is_unclear Unclear = true
is_unclear (Given n) = false

abbrev pub is_absent : Length → Bool
is_absent Absent = true
is_absent Unclear = false
is_absent (Given n) = false

abbrev pub is_get : List ℕ → Bool
is_get method = bytes_eq method (codes "GET")

abbrev pub is_post : List ℕ → Bool
is_post method = bytes_eq method (codes "POST")

-- the refusals in their order, each with whether it applies
abbrev pub refusals : Bool → Length → Bool → List ℕ → List (Bool × ℕ)
refusals encoded body routed method =
    (encoded, 501)
    ∷ (is_unclear body, 400)
    ∷ (nat_lt body_limit (length_value body), 413)
    ∷ (not routed, 404)
    ∷ (not (is_get method || is_post method), 405)
    ∷ (is_post method && is_absent body, 411)
    ∷ []

-- the first that applies
abbrev pub first_refusal : List (Bool × ℕ) → Option ℕ
first_refusal [] = None
first_refusal (r ∷ rest) = if r.0 then Some r.1 else first_refusal rest

-- the path and the query of a target, which a question mark parts
abbrev pub path_of : List ℕ → List ℕ
path_of target = (split_once 63 target).0

abbrev pub query_of : List ℕ → List ℕ
query_of target = (split_once 63 target).1

-- the message is answered by the expressions' handler
abbrev pub is_stream : Handler → Bool
is_stream Stream = true
is_stream Update = false

-- how a message is read on, behind a head of so many bytes
abbrev pub plan_of : Handler → List ℕ → Parts → ℕ → Plan
plan_of handler collection parts size =
    let body = length_value (length_of parts.fields) in
    record {
      handler = handler;
      collection = collection;
      params = params_of (query_of parts.target);
      length = body;
      size = size;
      closes = (parts.minor == 0) || has (codes "connection") Close parts.fields;
      chunks = parts.minor == 1;
      asks = (parts.minor == 1) && nat_lt 0 body && has (codes "expect") Continue parts.fields;
      is_form = is_post parts.method && is_stream handler;
    }

-- the refusal of a message with this head, if there is one
abbrev pub refusal_of : List NameShards → Parts → Option ℕ
refusal_of names parts =
    first_refusal (refusals (has (codes "transfer-encoding") Anything parts.fields)
    (length_of parts.fields) (is_some (route names (path_of parts.target))) parts.method)

-- a message that isn't refused is taken; without a path that is known it is refused
abbrev pub taken_by : Option (Handler × List ℕ) → Parts → ℕ → Judged
taken_by None parts size = Refuses 404
taken_by (Some found) parts size = Takes (plan_of found.0 found.1 parts size)

abbrev pub unless_refused : Option ℕ → Judged → Judged
unless_refused None judged = judged
unless_refused (Some status) judged = Refuses status

-- what becomes of a message with this head
abbrev pub judgement : List NameShards → Parts → ℕ → Judged
judgement names parts size =
    unless_refused (refusal_of names parts) (taken_by (route names (path_of parts.target)) parts size)
