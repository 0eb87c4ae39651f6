-- A variable or net is a signal of its name in one instance, of a memory the first word.
use Rattle.std.proofs.Common.{◌≡◌, ◌∙◌, ℕ, ◌+◌, ◌<◌, ◌≤◌, List, [], ◌∷◌, length, map, Option, Some, None, Ok, refl, subst, arith, Bool}
use Rattle.std.specs.Prelude.{nat_lt, slice_index_or}
use Rattle.std.specs.List.{Contains, AllByRecursion}
use Rattle.rr_syntax.specs.Tree.{PortDeclaration, ModuleItem, ModuleDeclaration}
use Rattle.rr_expr.specs.declared.types.Entity.{Entity}
use Rattle.rr_expr.specs.declared.types.Entity.TheVariants as entity
use Rattle.rr_expr.specs.Scopes.{Names, meant}
use Rattle.rr_flat.specs.declared.fault.FlatFault.TheVariants.{TooMany}
use Rattle.rr_flat.specs.declared.fault.Limit.TheVariants.{FlatBits}
use Rattle.rr_flat.specs.Faults.{fault_if, first_of, and_then, each}
use Rattle.rr_flat.specs.Plain.{Flat}
use Rattle.rr_flat.specs.Signals.{Text, Signal, with_name}
use Rattle.rr_flat.specs.Targets.{variable_of}
use Rattle.rr_flat.specs.Writers.{scope_at}
use Rattle.rr_memory_words.specs.Words.{word_count, words_entity}
use Rattle.rr_declarations.specs.Declarations.{Declared, Declarations, known, brackets, declared_at, declare_ports, declare_item, declarations}
use Rattle.rr_declarations.specs.Heads.{Head, head, declared, declared_in_order, entity_of, joined, with_signals, numbered}
use Rattle.rr_declarations.specs.Parameters.{parameters}
use Rattle.rr_flatten.specs.Walk.{module_at}
use Rattle.rr_flatten.proofs.HeadOf.{first_ok, settled_is, all_weaker, NoSignal, Entries, constants}
use Rattle.rr_flat_laws.specs.Declared.{ports_by, single, sorts_by}
use Rattle.rr_flat_laws.specs.Names.{IsSignalOf}
use Rattle.rr_flat_laws.proofs.Declaring.{Lists, each_done, item_ports, ways_by, item_ways, done_ports, done_item}
use Rattle.rr_flat_laws.proofs.Texts.{some_is, none_some, found_entry}
use Rattle.rr_flat_laws.proofs.Words.{WordsFit, IsWorded}
use Rattle.rr_declared_ranges.proofs.Once.{Each, each_with, found, memory_found, located, words_located}
use Rattle.rr_declared_ranges.proofs.Scalars.{all_in_order, all_by_index}
use Rattle.rr_declared_ranges.proofs.Tops.{Headed}
use Rattle.rr_sites_ordered.proofs.Members.{all_every}

-- Each memory has one word or more

abbrev HasWords : Entity → Type 0
HasWords (entity.Constant bits signed) = Unit {0}
HasWords (entity.Signal id range signed) = Unit {0}
HasWords (entity.Memory first low words range signed) = 1 ≤ words
HasWords entity.Instance = Unit {0}

none_worded : (e : Entity) → NoSignal e → HasWords e
none_worded (entity.Constant bits signed) h = tt
none_worded (entity.Signal id range signed) h = absurd h
none_worded (entity.Memory first low words range signed) h = absurd h
none_worded entity.Instance h = tt

one_worded : (k : ℕ) (s : Signal) (words : Option (ℕ × ℕ)) → WordsFit s words → HasWords (words_entity k s words)
one_worded k s None h = tt
one_worded k s (Some w) h = h.0

all_worded : (k : ℕ) (xs : List Declared) (names : Names) → AllByRecursion IsWorded xs → Each (λ name e. HasWords e) names → Each (λ name e. HasWords e) (with_signals k xs names)
unfolding with_signals
all_worded k [] names h q = q
all_worded k (x ∷ xs) names h q =
    all_worded (k + word_count x.words) xs (with_name names x.signal.name (entity_of k x)) h.1 (each_with (λ name e. HasWords e) names x.signal.name (entity_of k x) q (one_worded k x.signal x.words h.0.1))

abbrev IsAny : Text × Bool → Type 0
IsAny z = Unit {0}

nothing_listed : (bracketed params : Names) (i bits : ℕ) → Entries NoSignal params → Lists bracketed params IsAny (record { instance = i; names = params; list = []; bits = bits })
nothing_listed bracketed params i bits h = record {
  kept = λ n x e. e;
  placed = λ p l. absurd (omega (arith, l));
  named = λ n id range signed e. absurd (found_entry NoSignal params n (entity.Signal id range signed) h e);
  true_of = λ p l. tt;
  ported = λ p l. absurd (omega (arith, l));
  single = λ p l. absurd (omega (arith, l));
  worded = λ p l. absurd (omega (arith, l));
}

-- declarations after none
declared_worded : (bracketed params : Names) (i bits : ℕ) (m : ModuleDeclaration) (d : Declarations) → Entries NoSignal params → declarations bracketed (known m params) m (record { instance = i; names = params; list = []; bits = bits }) ≡ Ok d →
    (p : ℕ) → p < length d.list → IsWorded (declared_at d.list p)
unfolding declarations
declared_worded bracketed params i bits m d h e =
    let start : Declarations = record { instance = i; names = params; list = []; bits = bits } in
    let seen : Names = known m params in
    let g = first_ok (each (declare_ports bracketed seen) m.groups start) (each (declare_item bracketed seen) m.items) d e in
    let x = each_done bracketed params IsAny (λ (p : PortDeclaration). map single p.names) ports_by ways_by (declare_ports bracketed seen) (done_ports bracketed params IsAny seen) m.groups start g.0 (nothing_listed bracketed params i bits h)
    (all_every (λ (p : PortDeclaration). (z : Text × Bool) → Contains (map single p.names) z → IsAny z) m.groups (λ p z c. tt)) g.1.0 in
    let y = each_done bracketed params IsAny sorts_by item_ports item_ways (declare_item bracketed seen) (done_item bracketed params IsAny seen) m.items g.0 d x.lists
    (all_every (λ (x : ModuleItem). (z : Text × Bool) → Contains (sorts_by x) z → IsAny z) m.items (λ x z c. tt)) g.1.1 in
    y.lists.worded

head_worded : (i base bits : ℕ) (given : Names) (m : ModuleDeclaration) (h : Head) → head i base bits given m ≡ Ok h → Each (λ name e. HasWords e) h.scope
unfolding head numbered declared
head_worded i base bits given m h e =
    let r = first_ok (parameters given m) (λ names. and_then (declared i bits m names) (λ d. numbered i base d.bits (declared_in_order m d) names)) h e in
    let s = first_ok (declared i bits m r.0) (λ d. numbered i base d.bits (declared_in_order m d) r.0) h r.1.1 in
    let d = s.0 in
    let first : Declarations = record { instance = i; names = r.0; list = []; bits = bits } in
    let b = first_ok (brackets m) (λ bracketed. declarations bracketed (known m r.0) m first) d s.1.0 in
    let c = constants given m r.0 r.1.0 in
    let list = declared_in_order m d in
    let signals = joined list in
    let made : Head = record { instance = i; base = base; bits = d.bits; signals = signals; scope = with_signals base list r.0 } in
    let is : made ≡ h = settled_is (first_of (fault_if (nat_lt 65536 (base + length signals)) (TooMany FlatBits (base + length signals)))) made h s.1.1 in
    subst (λ (h : Head). Each (λ name e. HasWords e) h.scope) is
    (all_worded base list r.0 (all_in_order d IsWorded (all_by_index IsWorded d.list (declared_worded b.0 r.0 i bits m d c b.1.1)) m) (all_weaker (λ e. NoSignal e.1) (λ e. HasWords e.1) r.0 (λ e k. none_worded e.1 k) c))

-- Names

module _ (ms : List ModuleDeclaration) (flat : Flat) (h : Headed ms flat.scopes flat.owners flat.signals) (i : ℕ) (l : i < length flat.scopes) (name : Text) where
  words_there : (first low words : ℕ) (range : Option (ℕ × ℕ)) (signed : Bool) → meant (scope_at flat i) name ≡ entity.Memory first low words range signed → 1 ≤ words
  words_there first low words range signed e =
      let f = h.each i l in
      found (λ name e. HasWords e) f.top.scope name (entity.Memory first low words range signed) (head_worded i f.base f.bits f.given (module_at ms (slice_index_or flat.owners i 0)) f.top f.is)
      (memory_found f.top.scope name first low words range signed (f.alike name ∙ e))

  signal_located : (id : ℕ) (range : Option (ℕ × ℕ)) (signed : Bool) → meant (scope_at flat i) name ≡ entity.Signal id range signed → IsSignalOf flat i name id
  signal_located id range signed e = let s = located ms flat h i l name id range signed e in record { there = s.there; instance = s.instance; named = s.named }

  memory_located : (first low words : ℕ) (range : Option (ℕ × ℕ)) (signed : Bool) → meant (scope_at flat i) name ≡ entity.Memory first low words range signed → IsSignalOf flat i name first
  memory_located first low words range signed e =
      let some = words_there first low words range signed e in
      let s = (words_located ms flat h i l name first low words range signed e 0 (omega (arith, some))).0 in
      let z : first + 0 ≡ first = omega arith in
      subst (IsSignalOf flat i name) z (record { there = s.there; instance = s.instance; named = s.named })

  pub variable_located : (id : ℕ) → variable_of (meant (scope_at flat i) name) ≡ Some id → IsSignalOf flat i name id
  variable_located id e = by (meant (scope_at flat i) name) refl e
    where
      by : (x : Entity) → meant (scope_at flat i) name ≡ x → variable_of x ≡ Some id → IsSignalOf flat i name id
      by (entity.Constant bits signed) m q = absurd (none_some id q)
      by (entity.Signal k range signed) m q = subst (IsSignalOf flat i name) (some_is k id q) (signal_located k range signed m)
      by (entity.Memory first low words range signed) m q = subst (IsSignalOf flat i name) (some_is first id q) (memory_located first low words range signed m)
      by entity.Instance m q = absurd (none_some id q)
