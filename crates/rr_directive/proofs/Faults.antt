-- A file has one expansion or one first fault.
use Rattle.std.proofs.Common.{ℕ, ◌≡◌, List, [], ◌∷◌, ◌++◌, length, Option, refl, ap, ◌∙◌, sym, subst, arith}
use Rattle.std.specs.List.{All}
use Rattle.std.proofs.lemmas.List.{length-append, get_or_at}
use Rattle.rr_directive.specs.declared.fault.Wrong.{Wrong}
use Rattle.rr_directive.specs.declared.fault.Wrong.TheVariants as wrong
use Rattle.rr_directive.specs.declared.fault.DirectiveFault.TheVariants as fault
use Rattle.rr_directive.specs.declared.origin.Origin.{Origin}
use Rattle.rr_directive.specs.Pieces.{TextUnit, units_of}
use Rattle.rr_directive.specs.Expand.{State, bytes_of, first_unclosed, IsFault, IsNot, IsOver, IsTaken, IsTooMany, IsWrong, origins_of, Reaches, ReadsAll, start}
use Rattle.rr_directive.specs.Laws.{NotBoth, OneExpansion, OneFault}
use Rattle.rr_directive.proofs.Unique.{not_over, not_wrong, one_wrong, passes, Read, same_all, wrong_or_over}

data Where (f g : List TextUnit) (u v : TextUnit) : Type 0 where
  same : f ≡ g → u ≡ v → Where f g u v
  earlier : (m : List TextUnit) → g ≡ f ++ (u ∷ m) → Where f g u v
  later : (m : List TextUnit) → f ≡ g ++ (v ∷ m) → Where f g u v

places : (f g : List TextUnit) (u v : TextUnit) (b d : List TextUnit) → f ++ (u ∷ b) ≡ g ++ (v ∷ d) → Where f g u v
places [] [] u v b d e = let k : u ≡ v = cc in same refl k
places [] (x ∷ g) u v b d e = let k : x ≡ u = cc in earlier g (ap (λ (y : TextUnit). y ∷ g) k)
places (x ∷ f) [] u v b d e = let k : x ≡ v = cc in later f (ap (λ (y : TextUnit). y ∷ f) k)
places (x ∷ f) (y ∷ g) u v b d e =
    let h : x ≡ y = cc in
    let t : f ++ (u ∷ b) ≡ g ++ (v ∷ d) = cc in
    elim (places f g u v b d t) [
      | same p q ↦ same (ap (λ (z : TextUnit). z ∷ f) h ∙ ap (λ (l : List TextUnit). y ∷ l) p) q
      | earlier m p ↦ earlier m (ap (λ (l : List TextUnit). y ∷ l) p ∙ ap (λ (z : TextUnit). z ∷ (f ++ (u ∷ m))) (sym h))
      | later m p ↦ later m (ap (λ (l : List TextUnit). x ∷ l) p ∙ ap (λ (z : TextUnit). z ∷ (g ++ (v ∷ m))) h)
    ]

passed_one : (o : Option ℕ) (f m : List TextUnit) (u : TextUnit) → All (IsNot o) (f ++ (u ∷ m)) → IsNot o u
passed_one o f m u a = subst (IsNot o) (get_or_at f u m u (length f) refl) (a (length f) u (omega (arith, length-append f (u ∷ m))))

-- a unit before one that reading comes to
before : (bytes : List ℕ) (u v : TextUnit) (s t : State) (n k : ℕ) (r : Reaches bytes u s n) (q : Reaches bytes v t k) (m : List TextUnit) → q.front ≡ r.front ++ (u ∷ m) → Read s u n × IsNot (first_unclosed (units_of bytes)) u
before bytes u v s t n k r q m e = (
  passes bytes t s u n q.events r m (subst (λ (us : List TextUnit). ReadsAll start us q.events t) e q.reads) (omega (arith, q.counted, q.few)),
  passed_one (first_unclosed (units_of bytes)) r.front m u (subst (λ (us : List TextUnit). All (IsNot (first_unclosed (units_of bytes))) us) e q.passed),
)

record Same (u v : TextUnit) (s t : State) (n k : ℕ) : Type 0 where
  unit : u ≡ v
  state : s ≡ t
  met : n ≡ k

alike : (bytes : List ℕ) (u v : TextUnit) (s t : State) (n k : ℕ) (r : Reaches bytes u s n) (q : Reaches bytes v t k) → r.front ≡ q.front → u ≡ v → Same u v s t n k
alike bytes u v s t n k r q e f =
    let z = same_all start s t q.front r.events q.events (subst (λ (us : List TextUnit). ReadsAll start us r.events s) e r.reads) q.reads in
    record { unit = f; state = z.1; met = r.counted ∙ (ap length z.0 ∙ sym q.counted) }

wrong_alike : (bytes : List ℕ) (u v : TextUnit) (s t : State) (n k : ℕ) (w : Wrong) → Same u v s t n k → IsWrong bytes v t k w → IsWrong bytes u s n w
wrong_alike bytes u v s t n k w z h =
    subst (λ (x : TextUnit). IsWrong bytes x s n w) (sym z.unit) (subst (λ (x : State). IsWrong bytes v x n w) (sym z.state) (subst (λ (x : ℕ). IsWrong bytes v t x w) (sym z.met) h))

over_alike : (u v : TextUnit) (s t : State) (n k : ℕ) → Same u v s t n k → IsOver v t k → IsOver u s n
over_alike u v s t n k z h = subst (λ (x : TextUnit). IsOver x s n) (sym z.unit) (subst (λ (x : State). IsOver v x n) (sym z.state) (subst (λ (x : ℕ). IsOver v t x) (sym z.met) h))

faults_alike : (bytes : List ℕ) (v w : Wrong) (a b : ℕ) → IsFault bytes v a → IsFault bytes w b → (v ≡ w) × (a ≡ b)
faults_alike bytes v w a b f g = elim (places f.reaches.front g.reaches.front f.unit g.unit f.reaches.behind g.reaches.behind (sym f.reaches.there ∙ g.reaches.there)) [
  | same p q ↦
      let z = alike bytes f.unit g.unit f.state g.state f.met g.met f.reaches g.reaches p q in
      (one_wrong bytes f.unit f.state f.met v w f.wrong (wrong_alike bytes f.unit g.unit f.state g.state f.met g.met w z g.wrong), f.place ∙ (ap (λ (u : TextUnit). u.at) q ∙ sym g.place))
  | earlier m p ↦ let k = before bytes f.unit g.unit f.state g.state f.met g.met f.reaches g.reaches m p in absurd (not_wrong bytes f.unit f.state f.met v f.wrong k.0 k.1)
  | later m p ↦ let k = before bytes g.unit f.unit g.state f.state g.met f.met g.reaches f.reaches m p in absurd (not_wrong bytes g.unit g.state g.met w g.wrong k.0 k.1)
]

fault_or_many : (bytes : List ℕ) (v : Wrong) (a n : ℕ) → IsFault bytes v a → IsTooMany bytes n → ⊥
fault_or_many bytes v a n f g = elim (places f.reaches.front g.reaches.front f.unit g.unit f.reaches.behind g.reaches.behind (sym f.reaches.there ∙ g.reaches.there)) [
  | same p q ↦
      let z = alike bytes f.unit g.unit f.state g.state f.met g.met f.reaches g.reaches p q in
      wrong_or_over bytes f.unit f.state f.met v f.wrong (over_alike f.unit g.unit f.state g.state f.met g.met z g.over)
  | earlier m p ↦ let k = before bytes f.unit g.unit f.state g.state f.met g.met f.reaches g.reaches m p in not_wrong bytes f.unit f.state f.met v f.wrong k.0 k.1
  | later m p ↦ let k = before bytes g.unit f.unit g.state f.state g.met f.met g.reaches f.reaches m p in not_over g.unit g.state g.met g.over k.0
]

-- ---- the laws

pub one_expansion : OneExpansion
one_expansion bytes text other origins others e f =
    let z = same_all start e.end f.end (units_of bytes) e.events f.events e.reads f.reads in
    (e.text_is ∙ (ap bytes_of z.0 ∙ sym f.text_is), e.origins_are ∙ (ap origins_of z.0 ∙ sym f.origins_are))

pub one_fault : OneFault
one_fault bytes (fault.UnknownMacro a) (fault.UnknownMacro b) f g n m = ap fault.UnknownMacro (faults_alike bytes wrong.Unknown wrong.Unknown a b f g).1
one_fault bytes (fault.UnknownMacro a) (fault.BadDirective b) f g n m = let z = (faults_alike bytes wrong.Unknown wrong.Bad a b f g).0 in absurd (cc)
one_fault bytes (fault.UnknownMacro a) (fault.MacroLoop b) f g n m = let z = (faults_alike bytes wrong.Unknown wrong.Loop a b f g).0 in absurd (cc)
one_fault bytes (fault.UnknownMacro a) (fault.TooMany b) f g n m = absurd (fault_or_many bytes wrong.Unknown a b f g)
one_fault bytes (fault.BadDirective a) (fault.UnknownMacro b) f g n m = let z = (faults_alike bytes wrong.Bad wrong.Unknown a b f g).0 in absurd (cc)
one_fault bytes (fault.BadDirective a) (fault.BadDirective b) f g n m = ap fault.BadDirective (faults_alike bytes wrong.Bad wrong.Bad a b f g).1
one_fault bytes (fault.BadDirective a) (fault.MacroLoop b) f g n m = let z = (faults_alike bytes wrong.Bad wrong.Loop a b f g).0 in absurd (cc)
one_fault bytes (fault.BadDirective a) (fault.TooMany b) f g n m = absurd (fault_or_many bytes wrong.Bad a b f g)
one_fault bytes (fault.MacroLoop a) (fault.UnknownMacro b) f g n m = let z = (faults_alike bytes wrong.Loop wrong.Unknown a b f g).0 in absurd (cc)
one_fault bytes (fault.MacroLoop a) (fault.BadDirective b) f g n m = let z = (faults_alike bytes wrong.Loop wrong.Bad a b f g).0 in absurd (cc)
one_fault bytes (fault.MacroLoop a) (fault.MacroLoop b) f g n m = ap fault.MacroLoop (faults_alike bytes wrong.Loop wrong.Loop a b f g).1
one_fault bytes (fault.MacroLoop a) (fault.TooMany b) f g n m = absurd (fault_or_many bytes wrong.Loop a b f g)
one_fault bytes (fault.TooMany a) (fault.UnknownMacro b) f g n m = absurd (fault_or_many bytes wrong.Unknown b a g f)
one_fault bytes (fault.TooMany a) (fault.BadDirective b) f g n m = absurd (fault_or_many bytes wrong.Bad b a g f)
one_fault bytes (fault.TooMany a) (fault.MacroLoop b) f g n m = absurd (fault_or_many bytes wrong.Loop b a g f)
one_fault bytes (fault.TooMany a) (fault.TooMany b) f g n m = ap fault.TooMany (f.told ∙ sym g.told)
one_fault bytes e fault.Memory f g n m = absurd (m refl)
one_fault bytes fault.Memory f g h n m = absurd (n refl)

read_through : (bytes text : List ℕ) (origins : List Origin) (u : TextUnit) (s : State) (n : ℕ) (x : IsTaken bytes text origins) (r : Reaches bytes u s n) → Read s u n × IsNot (first_unclosed (units_of bytes)) u
read_through bytes text origins u s n x r = (
  passes bytes x.expansion.end s u n x.expansion.events r r.behind (subst (λ (us : List TextUnit). ReadsAll start us x.expansion.events x.expansion.end) r.there x.expansion.reads) x.few,
  subst (λ (o : Option ℕ). IsNot o u) (sym x.expansion.closed) tt,
)

no_fault : (bytes text : List ℕ) (origins : List Origin) (w : Wrong) (a : ℕ) → IsTaken bytes text origins → IsFault bytes w a → ⊥
no_fault bytes text origins w a x f = let k = read_through bytes text origins f.unit f.state f.met x f.reaches in not_wrong bytes f.unit f.state f.met w f.wrong k.0 k.1

not_many : (bytes text : List ℕ) (origins : List Origin) (n : ℕ) → IsTaken bytes text origins → IsTooMany bytes n → ⊥
not_many bytes text origins n x f = let k = read_through bytes text origins f.unit f.state f.met x f.reaches in not_over f.unit f.state f.met f.over k.0

pub not_both : NotBoth
not_both bytes text origins (fault.UnknownMacro a) x f = absurd (no_fault bytes text origins wrong.Unknown a x f)
not_both bytes text origins (fault.BadDirective a) x f = absurd (no_fault bytes text origins wrong.Bad a x f)
not_both bytes text origins (fault.MacroLoop a) x f = absurd (no_fault bytes text origins wrong.Loop a x f)
not_both bytes text origins (fault.TooMany n) x f = absurd (not_many bytes text origins n x f)
not_both bytes text origins fault.Memory x f = refl
