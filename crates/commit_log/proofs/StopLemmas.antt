-- How a run of device calls goes on (own).
use Rattle.std.proofs.Common.{◌≡◌, ◌⊎◌, inl, inr, ⊎_elim, ℕ, ◌+◌, List, [], ◌∷◌, ◌++◌, take, drop, Result, Ok, Err, Option, Some, None, refl, sym, ◌∙◌, ap, subst, arith}
use Rattle.std.proofs.lemmas.Option.{none-some, same_Some}
use Rattle.disk_edge.specs.Disk.{Elapses, Follows, IfTold, LeavesOnly, NoMore, Only, Short, Tells, Torn, written}
use Rattle.std.specs.Prelude.{OnErr}
use Rattle.commit_log.specs.Frames.{at_rest, closed, end_of, staged}
use Rattle.commit_log.specs.Disks.{AddsOnly, IsClosed, IsGated, IsLeft}
use Rattle.commit_log.proofs.FileLemmas.{cut-closed, drop-front, drop-open, short-closed, torn-behind, torn-gate, written-behind, written-gate}

module _ {D : Type 0} (moment : D → ℕ) (left_since : D → ℕ → List ℕ → Type 0) where
  -- one call, after which a stop leaves what has P
  pub adds-one : (old new : D) (P leaves : List ℕ → Type 0)
      → Elapses (moment old) (moment new) (left_since old) (left_since new) leaves
      → ((c : List ℕ) → leaves c → P c)
      → AddsOnly moment left_since old new P
  adds-one old new P leaves time here = record {
    later = time.later;
    before = λ t c le left. ⊎_elim inl (λ now. inr (here c now)) (time.nothing_else t c le left);
  }

  -- two runs, one after the other
  pub adds-more : (old mid new : D) (P : List ℕ → Type 0) → AddsOnly moment left_since old mid P
      → AddsOnly moment left_since mid new P → AddsOnly moment left_since old new P
  adds-more old mid new P first second = record {
    later = omega (arith, first.later, second.later);
    before = λ t c le left. ⊎_elim (first.before t c le) inr
        (second.before t c (omega (arith, le, first.later)) left);
  }

  pub adds-weaker : (old new : D) (P Q : List ℕ → Type 0) → AddsOnly moment left_since old new P
      → ((c : List ℕ) → P c → Q c) → AddsOnly moment left_since old new Q
  adds-weaker old new P Q run weaker = record {
    later = run.later;
    before = λ t c le left. ⊎_elim inl (λ is. inr (weaker c is)) (run.before t c le left);
  }

  -- a run, where what a stop might have left as it began has P too
  pub leaves-only : (old new : D) (P : List ℕ → Type 0) → AddsOnly moment left_since old new P
      → ((c : List ℕ) → left_since old (moment old) c → P c)
      → LeavesOnly moment left_since old new P
  leaves-only old new P run here = record {
    later = run.later;
    each = λ c left. ⊎_elim (here c) (λ is. is) (run.before (moment old) c (omega arith) left);
    before = run.before;
  }

module _ {D : Type 0} (seen : D → Option (List ℕ)) (may_leave : D → List ℕ → Type 0) (moment : D → ℕ)
    (left_since : D → ℕ → List ℕ → Type 0) where
  -- one call that writes nothing
  pub left-one : (old new : D) → seen new ≡ seen old → NoMore (may_leave old) (may_leave new)
      → Elapses (moment old) (moment new) (left_since old) (left_since new) (may_leave new)
      → IsLeft seen may_leave moment left_since old new
  left-one old new told now time = record { told = told; now = now; any_moment = adds-one moment left_since old new (may_leave old) (may_leave new) time now }

  -- two runs that write nothing
  pub left-more : (old mid new : D) → IsLeft seen may_leave moment left_since old mid
      → IsLeft seen may_leave moment left_since mid new → IsLeft seen may_leave moment left_since old new
  left-more old mid new first second = record {
    told = second.told ∙ first.told;
    now = λ c left. first.now c (second.now c left);
    any_moment = adds-more moment left_since old mid new (may_leave old) first.any_moment
        (adds-weaker moment left_since mid new (may_leave mid) (may_leave old) second.any_moment first.now);
  }

pub if-told : (o : Option (List ℕ)) (P : List ℕ → Type 0) (c : List ℕ) → IfTold o P → o ≡ Some c → P c
if-told None P c all is = absurd (none-some c is)
if-told (Some d) P c all is = subst P (same_Some d c is) all

pub if-all : (o : Option (List ℕ)) (P Q : List ℕ → Type 0) → IfTold o P → ((c : List ℕ) → P c → Q c)
    → IfTold o Q
if-all None P Q all gives = tt
if-all (Some d) P Q all gives = gives d all

pub if-same : (o n : Option (List ℕ)) (P : List ℕ → Type 0) → n ≡ o → IfTold o P → IfTold n P
if-same o n P is all = subst (λ (x : Option (List ℕ)). IfTold x P) (sym is) all

pub told-on : (o n : Option (List ℕ)) (P : List ℕ → List ℕ → Type 0) (c : List ℕ) → Tells o n P
    → o ≡ Some c → (d : List ℕ) × (n ≡ Some d) × P c d
told-on None n P c tells is = absurd (none-some c is)
told-on (Some b) n P c tells is = (
  tells.0,
  tells.1,
  subst (λ (x : List ℕ). P x tells.0)
      (same_Some b c is) tells.2,
)

-- what is told after a call, from what was told before it
pub told-all : (o n : Option (List ℕ)) (P : List ℕ → List ℕ → Type 0) (Q R : List ℕ → Type 0)
    → Tells o n P → IfTold o Q → ((c d : List ℕ) → Q c → P c d → R d) → IfTold n R
told-all None n P Q R tells all gives = subst (λ (x : Option (List ℕ)). IfTold x R) (sym tells) tt
told-all (Some b) n P Q R tells all gives = subst (λ (x : Option (List ℕ)). IfTold x R) (sym tells.1)
    (gives b tells.0 all tells.2)

pub on-err : {T E : Type 0} (r : Result T E) (P : Type 0) → P → OnErr r P
on-err (Ok x) P p = tt
on-err (Err e) P p = p

-- what a stop leaves of a write behind the byte that ends the steps
pub behind-stop : (bodies : List (List ℕ)) (end : ℕ) (piece : List ℕ) (old new : List ℕ → Type 0)
    → end ≡ end_of bodies → Only (at_rest bodies) old → Follows (Torn (end + 1) piece) old new
    → (c : List ℕ) → new c → IsClosed bodies c
behind-stop bodies end piece old new e only follows c left =
    let from = follows c left in
    torn-behind bodies piece c (subst (λ (f : List ℕ). Torn (end_of bodies + 1) piece f c)
    (only from.0 from.1) (subst (λ (n : ℕ). Torn (n + 1) piece from.0 c) e from.2))

-- and what a read gives where it failed
pub behind-failed : (bodies : List (List ℕ)) (end : ℕ) (piece : List ℕ) (o n : Option (List ℕ))
    → end ≡ end_of bodies → Tells o n (Torn (end + 1) piece) → o ≡ Some (at_rest bodies)
    → (d : List ℕ) × (n ≡ Some d) × IsClosed bodies d
behind-failed bodies end piece o n e tells is =
    let on = told-on o n (Torn (end + 1) piece) (at_rest bodies) tells is in (
      on.0,
      on.1,
      torn-behind bodies piece on.0
          (subst (λ (k : ℕ). Torn (k + 1) piece (at_rest bodies) on.0) e on.2),
    )

pub behind-done : (bodies : List (List ℕ)) (end : ℕ) (piece : List ℕ) (o n : Option (List ℕ))
    → end ≡ end_of bodies → Tells o n (λ c d. d ≡ written c (end + 1) piece) → o ≡ Some (at_rest bodies)
    → n ≡ Some (closed bodies piece)
behind-done bodies end piece o n e tells is =
    let on = told-on o n (λ c d. d ≡ written c (end + 1) piece) (at_rest bodies) tells is in
    on.1 ∙ ap Some (on.2 ∙ ap (λ (k : ℕ). written (at_rest bodies) (k + 1) piece) e
    ∙ written-behind bodies piece)

-- what a stop leaves of the write of the byte
pub gate-stop : (bodies : List (List ℕ)) (body : List ℕ) (end : ℕ) (old new : List ℕ → Type 0)
    → end ≡ end_of bodies → Only (staged bodies body) old → Follows (Torn end (1 ∷ [])) old new
    → (c : List ℕ) → new c → IsGated bodies body c
gate-stop bodies body end old new e only follows c left =
    let from = follows c left in
    torn-gate bodies body c (subst (λ (f : List ℕ). Torn (end_of bodies) (1 ∷ []) f c)
    (only from.0 from.1) (subst (λ (n : ℕ). Torn n (1 ∷ []) from.0 c) e from.2))

pub gate-failed : (bodies : List (List ℕ)) (body : List ℕ) (end : ℕ) (o n : Option (List ℕ))
    → end ≡ end_of bodies → Tells o n (Torn end (1 ∷ [])) → o ≡ Some (staged bodies body)
    → (d : List ℕ) × (n ≡ Some d) × IsGated bodies body d
gate-failed bodies body end o n e tells is =
    let on = told-on o n (Torn end (1 ∷ [])) (staged bodies body) tells is in (
      on.0,
      on.1,
      torn-gate bodies body on.0 (subst
          (λ (k : ℕ). Torn k (1 ∷ []) (staged bodies body) on.0) e on.2),
    )

pub gate-done : (bodies : List (List ℕ)) (body : List ℕ) (end : ℕ) (o n : Option (List ℕ))
    → end ≡ end_of bodies → Tells o n (λ c d. d ≡ written c end (1 ∷ []))
    → o ≡ Some (staged bodies body) → n ≡ Some (at_rest (bodies ++ body ∷ []))
gate-done bodies body end o n e tells is =
    let on = told-on o n (λ c d. d ≡ written c end (1 ∷ [])) (staged bodies body) tells is in
    on.1 ∙ ap Some (on.2 ∙ ap (λ (k : ℕ). written (staged bodies body) k (1 ∷ [])) e
    ∙ written-gate bodies body)

-- what a stop leaves of a cut behind the byte
pub cut-stop : (bodies : List (List ℕ)) (end : ℕ) (old new : List ℕ → Type 0) → end ≡ end_of bodies
    → ((c : List ℕ) → old c → IsClosed bodies c) → Follows (Short (end + 1)) old new → (c : List ℕ)
    → new c → IsClosed bodies c
cut-stop bodies end old new e all follows c left =
    let from = follows c left in
    let was = all from.0 from.1 in
    short-closed bodies was.0 c (subst (λ (f : List ℕ). Short (end_of bodies + 1) f c) was.1
    (subst (λ (n : ℕ). Short (n + 1) from.0 c) e from.2))

pub cut-done : (bodies : List (List ℕ)) (end : ℕ) (file : List ℕ) (o n : Option (List ℕ))
    → end ≡ end_of bodies → Tells o n (λ c d. d ≡ take (end + 1) c) → o ≡ Some file
    → IsClosed bodies file → n ≡ Some (at_rest bodies)
cut-done bodies end file o n e tells is was =
    let on = told-on o n (λ c d. d ≡ take (end + 1) c) file tells is in
    on.1 ∙ ap Some (on.2 ∙ ap (λ (k : ℕ). take (k + 1) file) e
    ∙ ap (λ (l : List ℕ). take (end_of bodies + 1) l) was.1 ∙ cut-closed bodies was.0)

pub cut-failed : (bodies : List (List ℕ)) (end : ℕ) (file : List ℕ) (o n : Option (List ℕ))
    → end ≡ end_of bodies → Tells o n (λ c d. (d ≡ c) ⊎ (d ≡ take (end + 1) c)) → o ≡ Some file
    → IsClosed bodies file → (d : List ℕ) × (n ≡ Some d) × IsClosed bodies d
cut-failed bodies end file o n e tells is was =
    let on = told-on o n (λ c d. (d ≡ c) ⊎ (d ≡ take (end + 1) c)) file tells is in (
      on.0,
      on.1,
      ⊎_elim (λ same. (was.0, same ∙ was.1))
          (λ short. (
            [],
            short ∙ ap (λ (k : ℕ). take (k + 1) file) e
                ∙ ap (λ (l : List ℕ). take (end_of bodies + 1) l) was.1 ∙ cut-closed bodies was.0,
          )) on.2,
    )

-- what the byte is
pub gate-byte : (bodies : List (List ℕ)) (body file room : List ℕ) (end : ℕ) → end ≡ end_of bodies
    → room ≡ take 1 (drop end file) → IsGated bodies body file
    → ((room ≡ 0 ∷ []) × IsClosed bodies file) ⊎ ((room ≡ 1 ∷ []) × (file ≡ at_rest (bodies ++ body ∷ [])))
gate-byte bodies body file room end e is (inl was) =
    inl (
      is ∙ ap (λ (k : ℕ). take 1 (drop k file)) e
          ∙ ap (λ (l : List ℕ). take 1 (drop (end_of bodies) l)) was.1
          ∙ ap (λ (l : List ℕ). take 1 l) (drop-front bodies was.0),
      was,
    )
gate-byte bodies body file room end e is (inr was) =
    inr (
      is ∙ ap (λ (k : ℕ). take 1 (drop k file)) e
          ∙ ap (λ (l : List ℕ). take 1 (drop (end_of bodies) l)) was
          ∙ ap (λ (l : List ℕ). take 1 l) (drop-open bodies body),
      was,
    )

pub untold : (o n : Option (List ℕ)) (P : List ℕ → List ℕ → Type 0) → Tells o n P → o ≡ None → n ≡ None
untold None n P tells is = tells
untold (Some c) n P tells is = absurd (none-some c (sym is))

-- what a disk tells after some calls, from what it told before them
pub after-told : (o n : Option (List ℕ)) (P R : List ℕ → Type 0) → IfTold o P → (o ≡ None → n ≡ None)
    → ((file : List ℕ) → o ≡ Some file → P file → (d : List ℕ) × (n ≡ Some d) × R d) → IfTold n R
after-told None n P R all still gives = subst (λ (x : Option (List ℕ)). IfTold x R) (sym (still refl)) tt
after-told (Some file) n P R all still gives =
    let now = gives file refl all in
    subst (λ (x : Option (List ℕ)). IfTold x R) (sym now.1) now.2
