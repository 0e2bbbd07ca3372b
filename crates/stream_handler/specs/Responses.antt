-- The bytes of an HTTP response (RFC 9112, sections 4, 6 and 7.1; which fields stand in it is own).
use Rattle.std.specs.Prelude.{ℕ, ◌++◌, [], Bool, true, false, ◌||◌, nat_le, nat_lt, length}
use Rattle.std.specs.Prelude.{unwrap_or, codes, if◌then◌else◌}
use Rattle.std.specs.Fmt.{decimal}
use Rattle.http.specs.StatusCode.{reason_phrase}
use Rattle.tuple_values.specs.Document.{ByteList}

-- the phrase of a status, and none where the number is no status
abbrev pub reason_of : ℕ → ByteList
reason_of status =
    if nat_lt status 100 || nat_le 1000 status then [] else unwrap_or (reason_phrase status) []

-- the status line
abbrev pub status_line : ℕ → ByteList
status_line status =
    codes "HTTP/1.1 " ++ decimal status ++ codes " " ++ reason_of status ++ codes "\r\n"

-- the field that says that the connection closes, where it does
abbrev pub closing : Bool → ByteList
closing true = codes "Connection: close\r\n"
closing false = []

-- the fields and the empty line, before a body of so many bytes
abbrev pub fields : ℕ → Bool → ByteList
fields size closes =
    codes "Content-Type: application/json\r\nContent-Length: " ++ decimal size ++ codes "\r\n"
    ++ closing closes ++ codes "\r\n"

-- a response with this status and body; the connection may close with it
abbrev pub response : ℕ → Bool → ByteList → ByteList
response status closes body = status_line status ++ fields (length body) closes ++ body

-- the same before a body that goes in chunks
abbrev pub chunked_fields : Bool → ByteList
chunked_fields closes =
    codes "Content-Type: application/json\r\nTransfer-Encoding: chunked\r\n" ++ closing closes
    ++ codes "\r\n"

-- the head of a response whose body goes in chunks
abbrev pub chunked_head : Bool → ByteList
chunked_head closes = status_line 200 ++ chunked_fields closes
