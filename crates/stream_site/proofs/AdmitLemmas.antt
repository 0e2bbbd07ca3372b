-- What is admitted of a step, as its entries come one by one.
use Rattle.std.proofs.Common.{◌≡◌, ℕ, ◌<◌, ◌&&◌, Bool, true, false, List, [], ◌∷◌, ◌++◌, length, map, refl, sym, ap, ◌∙◌, arith, append_assoc, append-nil, if◌then◌else◌}
use Rattle.std.proofs.lemmas.List.{length-map}
use Rattle.tuple_values.specs.Document.{ByteList}
use Rattle.shard_versions.specs.Deliveries.{admits, admits_kind, admitted}
use Rattle.shard_versions.specs.Histories.{History}
use Rattle.shard_versions.specs.declared.entry.Entry.{Entry}
use Rattle.shard_versions.specs.declared.entry.Kind.{Kind}
use Rattle.once_core.proofs.WrittenLemmas.{admits-append}
use Rattle.exchange_rules.specs.Cells.{write}
use Rattle.exchange_rules.specs.Deliveries.{admitted_kinds}
use Rattle.exchange_rules.specs.Following.{Writer}
use Rattle.exchange_rules.specs.Primitives.{delivered, made}
use Rattle.exchange_rules.specs.Steps.{closed, is_full, is_over, kinds_of}
use Rattle.exchange_rules.proofs.DeliveryLemmas.{admitted_kinds-step}

-- entries that were kept, with one more where it is admitted behind them
abbrev pub kept_with : History → List Entry → Entry → List Entry
kept_with h kept x = if admits_kind (h ++ kept) x.kind then kept ++ x ∷ [] else kept

-- one more that is admitted in front
kept_front : (t : Bool) (y : Entry) (kept : List Entry) (x : Entry)
    → y ∷ (if t then kept ++ x ∷ [] else kept)
    ≡ (if t then (y ∷ kept) ++ x ∷ [] else y ∷ kept)
kept_front true y kept x = refl
kept_front false y kept x = refl

-- what is admitted of a step with one entry more
pub admitted-push : (h : History) (xs : List Entry) (x : Entry)
    → admitted h (xs ++ x ∷ []) ≡ kept_with h (admitted h xs) x
unfolding admitted
admitted-push h [] x = ap (λ k. if admits_kind k x.kind then x ∷ [] else []) (sym (append-nil h))
admitted-push h (y ∷ xs) x =
    go (admits_kind h y.kind) (admitted-push (h ++ y ∷ []) xs x) (admitted-push h xs x)
  where
    longer : List Entry
    longer = admitted (h ++ y ∷ []) xs

    one : kept_with (h ++ y ∷ []) longer x
        ≡ (if admits_kind (h ++ (y ∷ longer)) x.kind then longer ++ x ∷ [] else longer)
    one = ap (λ k. if admits_kind k x.kind then longer ++ x ∷ [] else longer)
        (append_assoc h (y ∷ []) longer)

    go : (t : Bool)
        → admitted (h ++ y ∷ []) (xs ++ x ∷ []) ≡ kept_with (h ++ y ∷ []) longer x
        → admitted h (xs ++ x ∷ []) ≡ kept_with h (admitted h xs) x
        → (if t then y ∷ admitted (h ++ y ∷ []) (xs ++ x ∷ []) else admitted h (xs ++ x ∷ []))
        ≡ kept_with h (if t then y ∷ longer else admitted h xs) x
    go true kept skipped = ap (λ l. y ∷ l) (kept ∙ one)
        ∙ kept_front (admits_kind (h ++ (y ∷ longer)) x.kind) y longer x
    go false kept skipped = skipped

-- an entry that is admitted is kept
pub kept_more : (h : History) (kept xs : List Entry) (x : Entry) → kept ≡ admitted h xs
    → admits_kind (h ++ kept) x.kind ≡ true → kept ++ x ∷ [] ≡ admitted h (xs ++ x ∷ [])
kept_more h kept xs x e t =
    sym (ap (λ b. if b then kept ++ x ∷ [] else kept) t)
    ∙ (ap (λ k. kept_with h k x) e ∙ sym (admitted-push h xs x))

-- and one that isn't is not
pub kept_same : (h : History) (kept xs : List Entry) (x : Entry) → kept ≡ admitted h xs
    → admits_kind (h ++ kept) x.kind ≡ false → kept ≡ admitted h (xs ++ x ∷ [])
kept_same h kept xs x e t =
    sym (ap (λ b. if b then kept ++ x ∷ [] else kept) t)
    ∙ (ap (λ k. kept_with h k x) e ∙ sym (admitted-push h xs x))

-- what is admitted of a step, as a delivery to the cell has it
pub record IsKept (h : History) (ks : List Kind) (kept : List Entry) : Type 0 where
  pub kinds : admitted_kinds h ks ≡ kinds_of kept
  pub long : length (admitted_kinds h ks) ≡ length kept

-- by the shard's history
pub is_kept : (h shard : History) (step kept : List Entry) → h ≡ shard
    → kept ≡ admitted shard step → IsKept h (kinds_of step) kept
is_kept h shard step kept e is =
    let kinds : admitted_kinds h (kinds_of step) ≡ kinds_of kept =
    admitted_kinds-step h step
    ∙ (ap (λ k. kinds_of (admitted k step)) e ∙ ap kinds_of (sym is)) in
    let size : length (kinds_of kept) ≡ length kept = simp length-map in
    record { kinds = kinds; long = ap length kinds ∙ size }

-- nothing is appended where nothing is admitted
pub delivered_none : (w : Writer) (c limit : ℕ) (h : History) (ks : List Kind) → length ks ≡ 0
    → (w ≡ delivered w c ks) × (is_over limit h ks ≡ false)
delivered_none w c limit h [] e = (refl, refl)
delivered_none w c limit h (k ∷ ks) e = absurd (omega arith)

-- and else it and a Mark
pub delivered_some : (w : Writer) (c limit : ℕ) (h : History) (ks : List Kind) → 0 < length ks
    → (made w c (map write (closed true ks)) ≡ delivered w c ks)
    × (is_over limit h ks ≡ is_full limit h (closed true ks))
delivered_some w c limit h [] lt = absurd (omega arith)
delivered_some w c limit h (k ∷ ks) lt = (refl, refl)

-- nothing is admitted of no step
pub admitted_none : (h : History) → [] ≡ admitted h []
unfolding admitted
admitted_none h = refl

-- a test of an entry, by what it compared
pub admits_as : (h : History) (kept now : List Entry) (x : Entry) (r b : Bool) → now ≡ kept
    → r ≡ admits_kind (h ++ now) x.kind → r ≡ b → admits_kind (h ++ kept) x.kind ≡ b
admits_as h kept now x r b e f g =
    ap (λ k. admits_kind (h ++ k) x.kind) (sym e) ∙ (sym f ∙ g)

-- what the shard admits is admitted where those kept behind it admit it
pub new_seen_by : (h k : History) (src text id name : ByteList) (v : ℕ) (a b : Bool)
    → a ≡ admits h src id v → a ≡ true → text ≡ src → name ≡ id → b ≡ admits k text name v
    → b ≡ admits (h ++ k) src id v
new_seen_by h k src text id name v a b e t f g is =
    let rest = admits k src id v in
    is
    ∙ (ap (λ (s : ByteList). admits k s name v) f
    ∙ (ap (λ (i : ByteList). admits k src i v) g
    ∙ (ap (λ x. x && rest) (sym (sym e ∙ t)) ∙ sym (admits-append h k src id v))))

-- and what the shard doesn't admit isn't
pub old_seen_by : (h k : History) (src id : ByteList) (v : ℕ) (a : Bool) → a ≡ admits h src id v
    → a ≡ false → a ≡ admits (h ++ k) src id v
old_seen_by h k src id v a e t =
    t ∙ (ap (λ x. x && admits k src id v) (sym (sym e ∙ t)) ∙ sym (admits-append h k src id v))
