-- Names that are declared with words, and what a new declaration is.
use Rattle.std.proofs.Common.{◌≡◌, ◌∙◌, sym, ap, ℕ, ◌+◌, ◌-◌, ◌≤◌, Bool, true, false, not, ◌&&◌, if◌then◌else◌, List, [], ◌∷◌, ◌++◌, Option, Some, None, Result, Ok, Err, refl, arith, subst, is_some, is_none, nat_lt}
use Rattle.std.proofs.lemmas.Bool.{and_parts, both_ways}
use Rattle.rr_syntax.specs.declared.tree.Dir.{Dir}
use Rattle.rr_syntax.specs.declared.tree.Dir.TheVariants as dir
use Rattle.rr_syntax.specs.Tree.{DeclaredName, Range}
use Rattle.rr_expr.specs.Faults.{first}
use Rattle.rr_expr.specs.Scopes.{Names, range_width}
use Rattle.rr_flat.specs.declared.fault.FlatFault.{FlatFault}
use Rattle.rr_flat.specs.declared.fault.FlatFault.TheVariants.{TooMany}
use Rattle.rr_flat.specs.declared.fault.Limit.TheVariants.{FlatBits}
use Rattle.rr_flat.specs.declared.signal.Port.{Port}
use Rattle.rr_flat.specs.declared.signal.Port.TheVariants.{Inner, Input, Output}
use Rattle.rr_flat.specs.Faults.{fault_if, fault_or, faults_in, first_of, first_fault_or, and_then}
use Rattle.rr_flat.specs.Signals.{Signal}
use Rattle.rr_declarations.specs.Declarations.{Declared, Declarations, is_port, port_of, starting, start_or, declared_bits, with_signal, counted, integer_declaration, indices, words_in, declared_words, words_faults, new_faults, declare_new}
use Rattle.rr_declarations.specs.Values.{constant, bound_or_zero, bound_faults, range_in}
use Rattle.rr_flatten.proofs.HeadOf.{first_ok}
use Rattle.rr_flat_laws.proofs.Answers.{settled}

-- what a declaration says of its names; its crate exports no name of that type
abbrev type_of : {A : Type 0} → A → Type 0
type_of {A} a = A

abbrev pub Declaration : Type 0
Declaration = type_of integer_declaration

-- words are one or more, of a variable that is no port
abbrev pub WordsFit : Signal → Option (ℕ × ℕ) → Type 0
WordsFit s None = Unit {0}
WordsFit s (Some w) = (1 ≤ w.1) × (s.variable ≡ true) × (s.port ≡ Inner)

abbrev pub IsWorded : Declared → Type 0
IsWorded x = (x.signal.word ≡ None) × WordsFit x.signal x.words

inner_is : (p : Port) → is_port p ≡ false → p ≡ Inner
inner_is Inner h = refl
inner_is Input h = absurd (both_ways true h refl)
inner_is Output h = absurd (both_ways true h refl)

not_of : (b : Bool) → not b ≡ true → b ≡ false
not_of true h = absurd (both_ways false refl h)
not_of false h = refl

pub none_is : {X : Type 0} (o : Option X) → is_none o ≡ true → o ≡ None
none_is None h = refl
none_is (Some x) h = absurd (both_ways false refl h)

no_faults : (f : FlatFault) → f ∷ [] ≡ [] → ⊥
no_faults f h = cc

wide : (range : ℕ × ℕ) → 1 ≤ range_width (Some range)
wide range = omega arith

pub no_range : (seen : Names) → range_in seen None ≡ Ok None
unfolding range_in
no_range seen = refl

-- bounds without a fault
pub range_words : (seen : Names) (o : Option Range) → faults_in (range_in seen o) ≡ [] → is_some (words_in (range_in seen o)) ≡ is_some o
unfolding range_in
range_words seen None h = refl
range_words seen (Some r) h = by (first_of (bound_faults (first r.left - 1) left ++ bound_faults (first r.left - 1) right)) h
  where
    left : Result (List Bool × Bool) FlatFault
    left = constant seen r.left

    right : Result (List Bool × Bool) FlatFault
    right = constant seen r.right

    bounds : Option (ℕ × ℕ)
    bounds = Some (bound_or_zero left, bound_or_zero right)

    by : (f : Option FlatFault) → faults_in (fault_or f bounds) ≡ [] → is_some (words_in (fault_or f bounds)) ≡ true
    by None h = refl
    by (Some f) h = absurd (no_faults f h)

pub port_is : (way : Dir) → is_port (port_of way) ≡ true
port_is dir.Input = refl
port_is dir.InputWire = refl
port_is dir.Output = refl
port_is dir.OutputWire = refl
port_is dir.OutputReg = refl

-- of a port, or of a name without words
pub port_indices : (k : Declaration) (own : DeclaredName) → is_port k.port ≡ true → indices k own ≡ None
port_indices k own h = by k.variable (is_port k.port) h
  where
    by : (v b : Bool) → b ≡ true → (if v && not b then own.words else None) ≡ None
    by true true h = refl
    by false true h = refl
    by v false h = absurd (both_ways false refl h)

pub no_indices : (k : Declaration) (own : DeclaredName) → own.words ≡ None → indices k own ≡ None
no_indices k own h = by (k.variable && not (is_port k.port))
  where
    by : (b : Bool) → (if b then own.words else None) ≡ None
    by true = h
    by false = refl

pub no_words : (seen : Names) (k : Declaration) (own : DeclaredName) → indices k own ≡ None → declared_words seen k own ≡ None
no_words seen k own h = ap (λ (o : Option Range). words_in (range_in seen o)) h ∙ ap words_in (no_range seen)

-- the words of a new name fit
pub words_fit : (seen : Names) (k : Declaration) (own : DeclaredName) (s : Signal) → s.variable ≡ k.variable → s.port ≡ k.port → WordsFit s (declared_words seen k own)
words_fit seen k own s v p = by (k.variable && not (is_port k.port)) refl
  where
    some : (answer : Result (Option (ℕ × ℕ)) FlatFault) → k.variable ≡ true → is_port k.port ≡ false → WordsFit s (words_in answer)
    some (Ok None) a b = tt
    some (Ok (Some r)) a b = (wide r, v ∙ a, p ∙ inner_is k.port b)
    some (Err f) a b = tt

    by : (b : Bool) → (k.variable && not (is_port k.port)) ≡ b → WordsFit s (words_in (range_in seen (if b then own.words else None)))
    by true h = let q = and_parts k.variable (not (is_port k.port)) h in some (range_in seen own.words) q.0 (not_of (is_port k.port) q.1)
    by false h = subst (λ (answer : Result (Option (ℕ × ℕ)) FlatFault). WordsFit s (words_in answer)) (sym (no_range seen)) tt

-- one that may be declared once more has none
pub again_single : (seen : Names) (k : Declaration) (own : DeclaredName) → (is_port k.port && not k.variable) ≡ true → declared_words seen k own ≡ None
again_single seen k own h = no_words seen k own (port_indices k own (and_parts (is_port k.port) (not k.variable) h).0)

-- what a new declaration is, where it has no fault
pub record New (bracketed seen : Names) (k : Declaration) (own : DeclaredName) (d t : Declarations) : Type 0 where
  pub faults : new_faults bracketed seen k own d ≡ []
  pub words : words_faults (declared_words seen k own) ≡ []
  pub is : with_signal k own (declared_words seen k own) (start_or seen (range_width k.range) 0 (starting k own)) d ≡ t

pub new_is : (bracketed seen : Names) (k : Declaration) (own : DeclaredName) (d t : Declarations) → declare_new bracketed seen k own d ≡ Ok t → New bracketed seen k own d t
unfolding declare_new
new_is bracketed seen k own d t e =
    let words = declared_words seen k own in
    let start : ℕ = start_or seen (range_width k.range) 0 (starting k own) in
    let r = first_ok (first_fault_or (new_faults bracketed seen k own d) d) (λ (z : Declarations). and_then (first_fault_or (words_faults words) z) (counted k own words start)) t e in
    let s = settled (new_faults bracketed seen k own d) d r.0 r.1.0 in
    let q = first_ok (first_fault_or (words_faults words) r.0) (counted k own words start) t r.1.1 in
    let u = settled (words_faults words) r.0 q.0 q.1.0 in
    let bits : ℕ = q.0.bits + declared_bits k words in
    let v = settled (fault_if (nat_lt 65536 bits) (TooMany FlatBits bits)) (with_signal k own words start q.0) t q.1.1 in
    record { faults = s.0; words = u.0; is = ap (with_signal k own words start) (s.1 ∙ u.1) ∙ v.1 }
