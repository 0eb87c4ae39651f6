-- Each signal or word that a name of an instance stands for, an integer too, has at most 128 bits.
use Rattle.std.proofs.Common.{◌≡◌, ◌∙◌, subst, ℕ, ◌+◌, ◌<◌, Bool, false, List, [], ◌∷◌, length, Option, Some, None, Ok, nat_lt}
use Rattle.std.specs.Prelude.{slice_index_or}
use Rattle.std.specs.List.{AllByRecursion}
use Rattle.rr_syntax.specs.Tree.{ModuleDeclaration, SourceText}
use Rattle.rr_expr.specs.Scopes.{Names, meant, range_width}
use Rattle.rr_expr.specs.declared.types.Entity.{Entity}
use Rattle.rr_expr.specs.declared.types.Entity.TheVariants as entity
use Rattle.rr_flat.specs.declared.fault.FlatFault.TheVariants.{TooMany}
use Rattle.rr_flat.specs.declared.fault.Limit.TheVariants.{FlatBits}
use Rattle.rr_declarations.specs.Declarations.{Declared, Declarations, known, brackets, declarations}
use Rattle.rr_memory_words.specs.Words.{word_count, words_entity}
use Rattle.rr_declarations.specs.Heads.{Head, head, declared, declared_in_order, entity_of, joined, with_signals, numbered}
use Rattle.rr_declarations.specs.Parameters.{parameters}
use Rattle.rr_flat.specs.Faults.{fault_if, first_of, and_then}
use Rattle.rr_flat.specs.Plain.{Flat}
use Rattle.rr_flat.specs.Signals.{Text, Signal, with_name}
use Rattle.rr_flat.specs.Writers.{scope_at}
use Rattle.rr_flatten.specs.Walk.{flat_of, module_at}
use Rattle.rr_flatten.proofs.HeadOf.{first_ok, settled_is, all_weaker, NoSignal, constants}
use Rattle.rr_declared_ranges.proofs.Declared.{all_declared}
use Rattle.rr_declared_ranges.proofs.Once.{Each, each_with, found, entity_found}
use Rattle.rr_declared_ranges.proofs.Scalars.{all_in_order, all_by_index, nothing_right}
use Rattle.rr_declared_ranges.proofs.Tops.{Headed, heads}

-- a signal or a memory with a range of no more
abbrev IsNarrow : Entity → Type 0
IsNarrow (entity.Constant bits signed) = Unit {0}
IsNarrow (entity.Signal id range signed) = nat_lt 128 (range_width range) ≡ false
IsNarrow (entity.Memory first low words range signed) = nat_lt 128 (range_width range) ≡ false
IsNarrow entity.Instance = Unit {0}

none_narrow : (e : Entity) → NoSignal e → IsNarrow e
none_narrow (entity.Constant bits signed) h = tt
none_narrow (entity.Signal id range signed) h = absurd h
none_narrow (entity.Memory first low words range signed) h = absurd h
none_narrow entity.Instance h = tt

one_narrow : (k : ℕ) (s : Signal) (words : Option (ℕ × ℕ)) → nat_lt 128 (range_width s.range) ≡ false → IsNarrow (words_entity k s words)
one_narrow k s None h = h
one_narrow k s (Some w) h = h

abbrev HasNarrow : Declared → Type 0
HasNarrow x = nat_lt 128 (range_width x.signal.range) ≡ false

all_narrow : (k : ℕ) (xs : List Declared) (names : Names) → AllByRecursion HasNarrow xs → Each (λ name e. IsNarrow e) names → Each (λ name e. IsNarrow e) (with_signals k xs names)
unfolding with_signals
all_narrow k [] names h q = q
all_narrow k (x ∷ xs) names h q =
    all_narrow (k + word_count x.words) xs (with_name names x.signal.name (entity_of k x)) h.1 (each_with (λ name e. IsNarrow e) names x.signal.name (entity_of k x) q (one_narrow k x.signal x.words h.0))

head_narrow : (i base bits : ℕ) (given : Names) (m : ModuleDeclaration) (h : Head) → head i base bits given m ≡ Ok h → Each (λ name e. IsNarrow e) h.scope
unfolding head numbered declared
head_narrow i base bits given m h e =
    let r = first_ok (parameters given m) (λ names. and_then (declared i bits m names) (λ d. numbered i base d.bits (declared_in_order m d) names)) h e in
    let s = first_ok (declared i bits m r.0) (λ d. numbered i base d.bits (declared_in_order m d) r.0) h r.1.1 in
    let d = s.0 in
    let first : Declarations = record { instance = i; names = r.0; list = []; bits = bits } in
    let b = first_ok (brackets m) (λ bracketed. declarations bracketed (known m r.0) m first) d s.1.0 in
    let c = constants given m r.0 r.1.0 in
    let a = all_declared b.0 r.0 (known m r.0) m first d (nothing_right b.0 r.0 c) b.1.1 in
    let right = a.0 in
    let list = declared_in_order m d in
    let signals = joined list in
    let made : Head = record { instance = i; base = base; bits = d.bits; signals = signals; scope = with_signals base list r.0 } in
    let is : made ≡ h = settled_is (first_of (fault_if (nat_lt 65536 (base + length signals)) (TooMany FlatBits (base + length signals)))) made h s.1.1 in
    subst (λ (h : Head). Each (λ name e. IsNarrow e) h.scope) is
    (all_narrow base list r.0 (all_in_order d HasNarrow (all_by_index HasNarrow d.list (λ q l. right.narrow q l)) m) (all_weaker (λ e. NoSignal e.1) (λ e. IsNarrow e.1) r.0 (λ e k. none_narrow e.1 k) c))

narrow_named : (ms : List ModuleDeclaration) (flat : Flat) → Headed ms flat.scopes flat.owners flat.signals → (i : ℕ) → i < length flat.scopes → (name : Text) (e : Entity) → meant (scope_at flat i) name ≡ e → (e ≡ entity.Instance → ⊥) → IsNarrow e
narrow_named ms flat h i l name e m other =
    let f = h.each i l in
    found (λ name e. IsNarrow e) f.top.scope name e (head_narrow i f.base f.bits f.given (module_at ms (slice_index_or flat.owners i 0)) f.top f.is) (entity_found f.top.scope name e (f.alike name ∙ m) other)

pub narrow_of_source : (source : SourceText) (top : Option Text) (flat : Flat) → flat_of source top ≡ Ok flat → (i : ℕ) → i < length flat.scopes → (name : Text) (id : ℕ) (range : Option (ℕ × ℕ)) (signed : Bool) →
    meant (scope_at flat i) name ≡ entity.Signal id range signed → nat_lt 128 (range_width range) ≡ false
narrow_of_source source top flat e i l name id range signed m = narrow_named source.modules flat (heads source top flat e) i l name (entity.Signal id range signed) m (λ h. cc)

-- and so each word of a memory
pub narrow_words_of_source : (source : SourceText) (top : Option Text) (flat : Flat) → flat_of source top ≡ Ok flat → (i : ℕ) → i < length flat.scopes → (name : Text) (first low words : ℕ) (range : Option (ℕ × ℕ)) (signed : Bool) →
    meant (scope_at flat i) name ≡ entity.Memory first low words range signed → nat_lt 128 (range_width range) ≡ false
narrow_words_of_source source top flat e i l name first low words range signed m = narrow_named source.modules flat (heads source top flat e) i l name (entity.Memory first low words range signed) m (λ h. cc)
