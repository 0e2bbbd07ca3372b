-- Which handler and which collection a path names (Solr Reference Guide, "Streaming Expressions"
-- and "Indexing with Update Handlers"; that a path is compared byte by byte is own).
use Rattle.std.specs.Prelude.{ℕ, ◌||◌, List, drop, Option, None, Some, option_map, bytes_eq, nat_eq, codes, if◌then◌else◌}
use Rattle.std.specs.List.{starts_with}
use Rattle.form_urlencoded.specs.Form.{split_once}
use Rattle.tuple_values.specs.Collections.{is_known}
use Rattle.tuple_values.specs.declared.names.NameShards.{NameShards}
use Rattle.form_request.specs.declared.request.Handler.{Handler}
use Rattle.form_request.specs.declared.request.Handler.TheVariants.{Stream, Update}

-- the handler that the end of a path names
abbrev pub handler_of : List ℕ → Option Handler
handler_of tail =
    if bytes_eq tail (codes "stream") then Some Stream
    else (if bytes_eq tail (codes "update") || bytes_eq tail (codes "update/json")
    || bytes_eq tail (codes "update/json/docs") then Some Update else None)

-- the handler and the collection that the end of a path names: the collection goes up to the
-- first slash, and the handler stands behind it
abbrev pub route_of : List NameShards → List ℕ → Option (Handler × List ℕ)
route_of names parts =
    let split = split_once 47 parts in
    if is_known split.0 names then option_map (λ handler. (handler, split.0)) (handler_of split.1)
    else None

-- what a path names: `/solr/`, a collection that is known, a slash and the name of a handler
abbrev pub route : List NameShards → List ℕ → Option (Handler × List ℕ)
route names path =
    if starts_with nat_eq path (codes "/solr/") then route_of names (drop 6 path) else None
