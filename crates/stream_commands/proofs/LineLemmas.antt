-- A line that is written in pieces.
use Rattle.std.proofs.Common.{◌≡◌, ◌≤◌, ℕ, List, ◌++◌, refl, sym, subst, inl, inr}
use Rattle.std.specs.Prelude.{Option}
use Rattle.io_edge.specs.Edge.{Appends, AppendsPrefix, PutGives, PutHasCause, Rose}
use Rattle.io_edge.specs.declared.sink.Put.{Put}
use Rattle.io_edge.specs.declared.sink.Put.TheVariants as put
use Rattle.stream_handler.proofs.WireLemmas.{appends_join, appends_part, part_longer, rose_since}
use Rattle.stream_commands.specs.Lines.{SaysLine}

-- a piece fails behind others
pub said_part : (old mid new : Option (List ℕ)) (f0 f1 f2 : ℕ) (x y z line : List ℕ)
    → line ≡ (x ++ y) ++ z → f0 ≤ f1 → Appends old mid x → Rose f1 f2 → AppendsPrefix mid new y
    → SaysLine old new f0 f2 line
said_part old mid new f0 f1 f2 x y z line e le before rose part =
    inr (
      rose_since f0 f1 f2 le rose,
      part_longer old new (x ++ y) z line e (appends_part old mid new x y before part),
    )

-- the last piece is tried
pub said_last : (old mid new : Option (List ℕ)) (f0 f1 f2 : ℕ) (x y line : List ℕ) (r : Put)
    → line ≡ x ++ y → f0 ≤ f1 → Appends old mid x → PutGives mid new y r → PutHasCause f1 f2 r
    → SaysLine old new f0 f2 line
said_last old mid new f0 f1 f2 x y line put.All e le before gives cause =
    inl (subst (λ t. Appends old new t) (sym e) (appends_join old mid new x y before gives))
said_last old mid new f0 f1 f2 x y line put.Failed e le before gives cause =
    inr (
      rose_since f0 f1 f2 le (cause.1 refl),
      subst (λ t. AppendsPrefix old new t) (sym e) (appends_part old mid new x y before gives),
    )
