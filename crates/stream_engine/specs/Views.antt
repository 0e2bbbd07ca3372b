-- The stream that a node stands for (own).
use Rattle.std.specs.Prelude.{ℕ, ◌≡◌, ◌+◌, List, length}
use denote.Param.Weighed.{most}
use Rattle.tuple_values.specs.Document.{Doc}
use Rattle.stream_engine.specs.Flows.{Flow, rests_of}
use Rattle.stream_engine.specs.declared.stream.Node.{Node}
use Rattle.stream_engine.specs.declared.stream.Node.TheVariants.{Search, Once, Fed, Kernel}
use Rattle.stream_engine.specs.Kernels.{any_out, any_ready, any_ended}

-- deeper than each input
abbrev pub deepest : List Flow → ℕ
deepest flows = most (λ f. f.1 + 1) flows

-- the list that is still to come
abbrev pub list_in : Node → List Doc
list_in (Search cursor) = cursor
list_in (Once once) = once
list_in (Fed fed) = fed
list_in (Kernel kernel inputs) = any_out kernel (rests_of inputs.items)

-- how deep it nests
abbrev pub depth_in : Node → ℕ
depth_in (Search cursor) = 0
depth_in (Once once) = 0
depth_in (Fed fed) = 0
depth_in (Kernel kernel inputs) = deepest inputs.items

-- a kernel goes on with what its inputs still give, and there are as many as it has
abbrev pub IsSound : Node → Type 0
IsSound (Search cursor) = Unit {0}
IsSound (Once once) = Unit {0}
IsSound (Fed fed) = Unit {0}
IsSound (Kernel kernel inputs) =
    any_ready kernel (rests_of inputs.items)
    × (length (any_ended kernel) ≡ length inputs.items)
