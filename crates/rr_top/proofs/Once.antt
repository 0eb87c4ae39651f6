-- What a told shelf decides for a command that has one outcome, it decides once.
use Rattle.std.proofs.Common.{◌≡◌, ◌∙◌, ◌⊎◌, inl, inr, ℕ, List, refl, sym, ap, subst, Some}
use Rattle.rr_edge.specs.Held.{Held}
use Rattle.rr_run.specs.declared.fault.Fault.TheVariants as fault
use Rattle.rr_run.specs.Refusals.{Refusal as RunRefusal, At}
use Rattle.rr_run.specs.Runs.{IsSameRefusal as IsSameRunRefusal}
use Rattle.rr_endings.specs.Found.{Answer}
use Rattle.rr_endings.specs.Refusals.{Refusal, TooManyBytes, Input, Flawed}
use Rattle.rr_effects.specs.Reads.{Given, RefusesReads}
use Rattle.rr_top.specs.Outcomes.{Outcome}
use Rattle.rr_top.specs.Commands.{Command, HasOneOutcome, IsSameRefusal}
use Rattle.rr_top.specs.Expected.{Expected, absent, refused, unparsed, done, IsPlaced, Judges}
use Rattle.rr_top.specs.Execution.{MayStayOpen}
use Rattle.rr_top.proofs.Readings.{Reading, missing, long, given, IsReading, one_reading}

-- ---- what a refusal lets expect
abbrev IsOf : Refusal → Expected → Type 0
IsOf r v = (IsPlaced r × (v ≡ refused r)) ⊎ ((offset : ℕ) × ((r ≡ Input (At fault.Syntax offset)) × (v ≡ unparsed)))

-- a refusal whose place is not decided is not one whose place is
placed_not : {X : Type 0} (r : Refusal) (offset : ℕ) → r ≡ Input (At fault.Syntax offset) → IsPlaced r → X
placed_not r offset is placed =
    let moved : IsPlaced (Input (At fault.Syntax offset)) = subst IsPlaced is placed in
    absurd (moved (offset, refl))

one_same : (r s : Refusal) (v w : Expected) → r ≡ s → IsOf r v → IsOf s w → v ≡ w
one_same r s v w is (inl p) (inl q) = p.1 ∙ ap (λ (x : Refusal). refused x) is ∙ sym q.1
one_same r s v w is (inl p) (inr (n, q)) = placed_not r n (is ∙ q.0) p.0
one_same r s v w is (inr (n, p)) (inl q) = placed_not s n (sym is ∙ p.0) q.0
one_same r s v w is (inr (n, p)) (inr (m, q)) = p.1 ∙ sym q.1

-- the two runs' refusals are told of a text without a tree
one_unplaced : (r s : Refusal) (i j : ℕ) (v w : Expected) → r ≡ Input (At fault.Syntax i) → s ≡ Input (At fault.Syntax j) → IsOf r v → IsOf s w → v ≡ w
one_unplaced r s i j v w is_r is_s (inl p) q = placed_not r i is_r p.0
one_unplaced r s i j v w is_r is_s (inr p) (inl q) = placed_not s j is_s q.0
one_unplaced r s i j v w is_r is_s (inr (n, p)) (inr (m, q)) = p.1 ∙ sym q.1

one_alike : (r s : Refusal) (x y : RunRefusal) (v w : Expected) → r ≡ Input x → s ≡ Input y → IsSameRunRefusal x y → IsOf r v → IsOf s w → v ≡ w
one_alike r s x y v w is_r is_s (inl is) p q = one_same r s v w (is_r ∙ ap (λ (z : RunRefusal). Input z) is ∙ sym is_s) p q
one_alike r s x y v w is_r is_s (inr (i, (j, is))) p q =
    one_unplaced r s i j v w (is_r ∙ ap (λ (z : RunRefusal). Input z) is.0) (is_s ∙ ap (λ (z : RunRefusal). Input z) is.1) p q

one_of : (r s : Refusal) (v w : Expected) → IsSameRefusal r s → IsOf r v → IsOf s w → v ≡ w
one_of r s v w (inl is) p q = one_same r s v w is p q
one_of r s v w (inr (x, (y, (is_r, (is_s, is))))) p q = one_alike r s x y v w is_r is_s is p q

module _ (command : Command) (one : HasOneOutcome command) where
  -- ---- what files decide
  data On (files : List (List ℕ)) (v : Expected) : Type 0 where
    on_refusal : (r : Refusal) → command.refuses files r → IsOf r v → On files v
    on_done : (outcome : Outcome) → command.comes_to files outcome → v ≡ done outcome → On files v

  one_on : (files : List (List ℕ)) (v w : Expected) → On files v → On files w → v ≡ w
  one_on files v w (on_refusal r p e) (on_refusal s q f) = one_of r s v w (one.one_refusal files r s p q) e f
  one_on files v w (on_refusal r p e) (on_done x q f) = absurd (one.done_or_refused files x r q p)
  one_on files v w (on_done x p e) (on_refusal s q f) = absurd (one.done_or_refused files x s p q)
  one_on files v w (on_done x p e) (on_done y q f) = e ∙ ap (λ (z : Outcome). done z) (one.one_outcome files x y p q) ∙ sym f

  -- ---- what a told shelf decides
  module _ (held : Held) where
    abbrev OnReading : Reading → Expected → Type 0
    OnReading (missing name) v = v ≡ absent name
    OnReading (long count) v = v ≡ refused (TooManyBytes count)
    OnReading (given files) v = On files v

    record IsDecided (v : Expected) : Type 0 where
      reading : Reading
      is : IsReading held command.reads reading
      on : OnReading reading v

    one_on_reading : (r : Reading) (v w : Expected) → OnReading r v → OnReading r w → v ≡ w
    one_on_reading (missing name) v w x y = x ∙ sym y
    one_on_reading (long count) v w x y = x ∙ sym y
    one_on_reading (given files) v w x y = one_on files v w x y

    on_files : (files : List (List ℕ)) → Given (Some held) command.reads files → (v : Expected) → On files v → IsDecided v
    on_files files gave v on = record { reading = given files; is = gave; on = on }

    by_reads : (r : Refusal) → RefusesReads (Some held) command.reads r → IsDecided (refused r)
    by_reads (TooManyBytes count) is = record { reading = long count; is = is; on = refl }
    by_reads (Input r) is = absurd is
    by_reads (Flawed f n) is = absurd is

    is_decided : (v : Expected) → Judges command held v → IsDecided v
    is_decided (absent name) j = record { reading = missing name; is = j; on = refl }
    is_decided (refused r) (placed, inl reads) = by_reads r reads
    is_decided (refused r) (placed, inr read) = on_files read.files read.given (refused r) (on_refusal r read.refused (inl (placed, refl)))
    is_decided unparsed (offset, inl reads) = absurd reads
    is_decided unparsed (offset, inr read) = on_files read.files read.given unparsed (on_refusal (Input (At fault.Syntax offset)) read.refused (inr (offset, (refl, refl))))
    is_decided (done outcome) j = on_files j.files j.given (done outcome) (on_done outcome j.comes_to refl)

    one_decided : (v w : Expected) → IsDecided v → IsDecided w → v ≡ w
    one_decided v w x y = one_on_reading x.reading v w x.on (subst (λ (r : Reading). OnReading r w) (one_reading held command.reads y.reading x.reading y.is x.is) y.on)

    pub one_outcome : (v w : Expected) → Judges command held v → Judges command held w → v ≡ w
    one_outcome v w x y = one_decided v w (is_decided v x) (is_decided w y)

    -- an answer that leaves open what the command comes to, where something is expected
    on_open : (files : List (List ℕ)) (answer : Answer) → command.leaves_open files answer → (v : Expected) → On files v → MayStayOpen v
    on_open files answer left v (on_refusal r p e) = absurd (one.open_or_refused files answer r left p)
    on_open files answer left v (on_done x p e) = subst MayStayOpen (sym e) (one.open_outcome files answer x left p)

    pub open_expected : (files : List (List ℕ)) (answer : Answer) → Given (Some held) command.reads files → command.leaves_open files answer → (v : Expected) → Judges command held v → MayStayOpen v
    open_expected files answer gave left v j =
        let d = is_decided v j in
        on_open files answer left v (subst (λ (r : Reading). OnReading r v) (one_reading held command.reads d.reading (given files) d.is gave) d.on)
