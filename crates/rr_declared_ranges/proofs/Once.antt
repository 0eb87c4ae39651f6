-- A signal of a flat design has one name, in one instance.
use Rattle.std.proofs.Common.{◌≡◌, ℕ, suc, ◌+◌, ◌-◌, ◌<◌, ◌≤◌, Bool, true, false, cond, if◌then◌else◌, is_some, List, [], ◌∷◌, ◌++◌, length, Option, Some, None, Ok, refl, sym, subst, ap, ◌∙◌, arith, length-append}
use Rattle.std.specs.List.{AllByRecursion}
use Rattle.std.specs.Str.{bytes_eq}
use Rattle.std.proofs.lemmas.List.{get_or_append_left, get_or-append_right}
use Rattle.std.proofs.lemmas.Slice.Eq.{bytes_eq-Decides}
use Rattle.rr_syntax.specs.Tree.{ModuleDeclaration}
use Rattle.rr_expr.specs.Scopes.{Names, lookup, meant, or_instance}
use Rattle.rr_expr.specs.declared.types.Entity.{Entity}
use Rattle.rr_expr.specs.declared.types.Entity.TheVariants as entity
use Rattle.rr_flat.specs.Faults.{and_then, first_of, fault_if}
use Rattle.rr_flat.specs.declared.fault.FlatFault.TheVariants.{TooMany}
use Rattle.rr_flat.specs.declared.fault.Limit.TheVariants.{FlatBits}
use Rattle.std.specs.Prelude.{nat_lt, slice_index_or}
use Rattle.rr_memory_words.specs.Words.{indexed_word, word_count, words_entity}
use Rattle.rr_memory_words.proofs.Named.{words_long}
use Rattle.rr_declarations.specs.Declarations.{Declared}
use Rattle.rr_declarations.specs.Heads.{Head, head, declared, declared_in_order, joined, signals_of, entity_of, numbered, with_signals}
use Rattle.rr_flat.specs.Signals.{with_name, Text, Signal, signal_at, no_signal}
use Rattle.rr_declarations.specs.Parameters.{parameters}
use Rattle.rr_flat.specs.Plain.{Flat}
use Rattle.rr_flat.specs.Writers.{scope_at}
use Rattle.rr_flatten.proofs.HeadOf.{first_ok, settled_is, all_append, all_weaker, NoSignal, head_of, constants}
use Rattle.rr_flat.proofs.Lists.{all_index}
use Rattle.rr_flat_laws.proofs.Windows.{placed_word, words_at}
use Rattle.rr_declared_ranges.specs.Laws.{IsLocated, NamesAreLocated, WordsAreLocated}
use Rattle.rr_declared_ranges.proofs.Tops.{Headed, heads}

-- a name with what it stands for
abbrev pub Each : (Text → Entity → Type 0) → Names → Type 0
Each P names = AllByRecursion (λ n. P n.0 n.1) names

none_some : {X : Type 0} (a : X) → None ≡ Some a → ⊥
none_some a e = cc

some_is : {X : Type 0} (a b : X) → Some a ≡ Some b → a ≡ b
some_is a b e = cc

pub found : (P : Text → Entity → Type 0) (names : Names) (name : Text) (x : Entity) → Each P names → lookup name names ≡ Some x → P name x
unfolding lookup
found P [] name x h q = absurd (none_some x q)
found P (n ∷ ns) name x h q = go (bytes_eq name n.0) refl q (λ r. found P ns name x h.1 r)
  where
    go : (b : Bool) → bytes_eq name n.0 ≡ b → cond b (Some n.1) (lookup name ns) ≡ Some x → (lookup name ns ≡ Some x → P name x) → P name x
    go true e q rec = subst (λ t. P t x) (sym ((bytes_eq-Decides name n.0).0 e)) (subst (P n.0) (some_is n.1 x q) h.0)
    go false e q rec = rec q

pub each_with : (P : Text → Entity → Type 0) (names : Names) (name : Text) (e : Entity) → Each P names → P name e → Each P (with_name names name e)
each_with P names name e p q = by (is_some (lookup name names))
  where
    by : (b : Bool) → Each P (if b then names else names ++ (name, e) ∷ [])
    by true = p
    by false = all_append (λ x. P x.0 x.1) names ((name, e) ∷ []) p (q, tt)

-- it stands for a constant, for the signal of that name among these, of which the first has number base, or for such words
abbrev pub IsItsName : ℕ → List Signal → Text → Entity → Type 0
IsItsName base all name (entity.Constant bits signed) = Unit {0}
IsItsName base all name (entity.Signal id range signed) = (base ≤ id) × (id < base + length all) × ((signal_at all (id - base)).name ≡ name) × ((signal_at all (id - base)).range ≡ range)
IsItsName base all name (entity.Memory first low words range signed) =
    (base ≤ first) × (first + words ≤ base + length all)
    × ((k : ℕ) → k < words → ((signal_at all (first + k - base)).name ≡ name) × ((signal_at all (first + k - base)).range ≡ range) × ((signal_at all (first + k - base)).word ≡ Some (low + k)))
IsItsName base all name entity.Instance = Unit {0}

none_named : (base : ℕ) (all : List Signal) (name : Text) (e : Entity) → NoSignal e → IsItsName base all name e
none_named base all name (entity.Constant bits signed) h = tt
none_named base all name (entity.Signal id range signed) h = absurd h
none_named base all name (entity.Memory first low words range signed) h = absurd h
none_named base all name entity.Instance h = tt

-- a declaration, of which the first signal has number k
one_named : (base k : ℕ) (all : List Signal) (s : Signal) (words : Option (ℕ × ℕ)) → base ≤ k → k - base + word_count words ≤ length all → ((t : ℕ) → t < word_count words → signal_at all (k - base + t) ≡ placed_word s words t) →
    IsItsName base all s.name (words_entity k s words)
one_named base k all s None l m same =
    let z : k - base + 0 ≡ k - base = omega arith in
    let at : signal_at all (k - base) ≡ s = ap (λ (n : ℕ). signal_at all n) (sym z) ∙ same 0 (omega arith) in
    (l, omega (arith, m, l), ap (λ (x : Signal). x.name) at, ap (λ (x : Signal). x.range) at)
one_named base k all s (Some w) l m same = (
  l,
  omega (arith, m, l),
  λ t n.
      let z : k + t - base ≡ k - base + t = omega (arith, l) in
      let at : signal_at all (k + t - base) ≡ indexed_word s w.0 t = ap (λ (i : ℕ). signal_at all i) z ∙ same t n in
      (ap (λ (x : Signal). x.name) at, ap (λ (x : Signal). x.range) at, ap (λ (x : Signal). x.word) at),
)

-- from number k on these are the rest of all
all_named : (base k : ℕ) (all : List Signal) (xs : List Declared) (names : Names) → base ≤ k → (k - base) + length (joined xs) ≡ length all → ((j : ℕ) → j < length (joined xs) → signal_at all (k - base + j) ≡ signal_at (joined xs) j) →
    Each (IsItsName base all) names → Each (IsItsName base all) (with_signals k xs names)
unfolding with_signals joined
all_named base k all [] names l m same h = h
all_named base k all (x ∷ xs) names l m same h =
    let long = words_long x.signal x.words in
    let both = length-append (signals_of x) (joined xs) in
    all_named base (k + word_count x.words) all xs (with_name names x.signal.name (entity_of k x)) (omega (arith, l)) (omega (arith, m, l, long, both))
    (λ j n.
    let y : k + word_count x.words - base + j ≡ k - base + (word_count x.words + j) = omega (arith, l) in
    let z : word_count x.words + j - length (signals_of x) ≡ j = omega (arith, long) in
    ap (λ (i : ℕ). signal_at all i) y
    ∙ (same (word_count x.words + j) (omega (arith, n, long, both))
    ∙ (get_or-append_right (signals_of x) (joined xs) (length (signals_of x)) (word_count x.words + j) no_signal refl (omega (arith, long)) ∙ ap (λ (i : ℕ). signal_at (joined xs) i) z)))
    (each_with (IsItsName base all) names x.signal.name (entity_of k x) h
    (one_named base k all x.signal x.words l (omega (arith, m, long, both))
    (λ t n. same t (omega (arith, n, long, both)) ∙ (get_or_append_left (signals_of x) (joined xs) no_signal t (omega (arith, n, long)) ∙ words_at x.signal x.words t n))))

pub head_names : (i base bits : ℕ) (given : Names) (m : ModuleDeclaration) (h : Head) → head i base bits given m ≡ Ok h → Each (IsItsName base h.signals) h.scope
unfolding head numbered
head_names i base bits given m h e =
    let r = first_ok (parameters given m) (λ names. and_then (declared i bits m names) (λ d. numbered i base d.bits (declared_in_order m d) names)) h e in
    let s = first_ok (declared i bits m r.0) (λ d. numbered i base d.bits (declared_in_order m d) r.0) h r.1.1 in
    let list = declared_in_order m s.0 in
    let signals = joined list in
    let made : Head = record { instance = i; base = base; bits = s.0.bits; signals = signals; scope = with_signals base list r.0 } in
    subst (λ (h : Head). Each (IsItsName base h.signals) h.scope) (settled_is (first_of (fault_if (nat_lt 65536 (base + length signals)) (TooMany FlatBits (base + length signals)))) made h s.1.1)
    (all_named base base signals list r.0 (omega arith) (omega arith) (λ j l. let z : base - base + j ≡ j = omega arith in ap (λ (n : ℕ). signal_at signals n) z)
    (all_weaker (λ e. NoSignal e.1) (λ n. IsItsName base signals n.0 n.1) r.0 (λ n k. none_named base signals n.0 n.1 k) (constants given m r.0 r.1.0)))

-- a name that means something else than an instance is there
pub entity_found : (names : Names) (name : Text) (x : Entity) → meant names name ≡ x → (x ≡ entity.Instance → ⊥) → lookup name names ≡ Some x
unfolding meant
entity_found names name x e n = by (lookup name names) e
  where
    by : (o : Option Entity) → or_instance o ≡ x → o ≡ Some x
    by None e = absurd (n (sym e))
    by (Some y) e = ap Some e

pub meant_found : (names : Names) (name : Text) (id : ℕ) (range : Option (ℕ × ℕ)) (signed : Bool) → meant names name ≡ entity.Signal id range signed → lookup name names ≡ Some (entity.Signal id range signed)
meant_found names name id range signed e = entity_found names name (entity.Signal id range signed) e (λ h. cc)

pub memory_found : (names : Names) (name : Text) (first low words : ℕ) (range : Option (ℕ × ℕ)) (signed : Bool) → meant names name ≡ entity.Memory first low words range signed → lookup name names ≡ Some (entity.Memory first low words range signed)
memory_found names name first low words range signed e = entity_found names name (entity.Memory first low words range signed) e (λ h. cc)

pub located : (ms : List ModuleDeclaration) (flat : Flat) → Headed ms flat.scopes flat.owners flat.signals → (i : ℕ) → i < length flat.scopes → (name : Text) (id : ℕ) (range : Option (ℕ × ℕ)) (signed : Bool) →
    meant (scope_at flat i) name ≡ entity.Signal id range signed → IsLocated flat i id name range
located ms flat h i l name id range signed e =
    let f = h.each i l in
    let own = head_of i f.base f.bits f.given (slice_index_or ms (slice_index_or flat.owners i 0) _) f.top f.is in
    let n = found (IsItsName f.base f.top.signals) f.top.scope name (entity.Signal id range signed) (head_names i f.base f.bits f.given _ f.top f.is) (meant_found f.top.scope name id range signed (f.alike name ∙ e)) in
    let low = n.0 in
    let high = n.1 in
    let room = f.room in
    let inside : id - f.base < length f.top.signals = omega (arith, low, high) in
    let y : f.base + (id - f.base) ≡ id = omega (arith, low) in
    let same : signal_at flat.signals id ≡ signal_at f.top.signals (id - f.base) = ap (λ (n : ℕ). signal_at flat.signals n) (sym y) ∙ f.same (id - f.base) inside in
    record {
      there = omega (arith, low, high, room);
      instance = ap (λ (s : Signal). s.instance) same ∙ all_index (λ (s : Signal). s.instance ≡ i) f.top.signals (id - f.base) no_signal own.signals inside;
      named = ap (λ (s : Signal). s.name) same ∙ n.2;
      ranged = ap (λ (s : Signal). s.range) same ∙ n.3;
    }

-- the same of a word
pub words_located : (ms : List ModuleDeclaration) (flat : Flat) → Headed ms flat.scopes flat.owners flat.signals → (i : ℕ) → i < length flat.scopes → (name : Text) (first low words : ℕ) (range : Option (ℕ × ℕ)) (signed : Bool) →
    meant (scope_at flat i) name ≡ entity.Memory first low words range signed → (k : ℕ) → k < words → IsLocated flat i (first + k) name range × ((signal_at flat.signals (first + k)).word ≡ Some (low + k))
words_located ms flat h i l name first low words range signed e k there =
    let f = h.each i l in
    let own = head_of i f.base f.bits f.given (slice_index_or ms (slice_index_or flat.owners i 0) _) f.top f.is in
    let n = found (IsItsName f.base f.top.signals) f.top.scope name (entity.Memory first low words range signed) (head_names i f.base f.bits f.given _ f.top f.is) (memory_found f.top.scope name first low words range signed (f.alike name ∙ e)) in
    let begins = n.0 in
    let ends = n.1 in
    let is = n.2 k there in
    let room = f.room in
    let inside : first + k - f.base < length f.top.signals = omega (arith, begins, ends, there) in
    let y : f.base + (first + k - f.base) ≡ first + k = omega (arith, begins) in
    let same : signal_at flat.signals (first + k) ≡ signal_at f.top.signals (first + k - f.base) = ap (λ (n : ℕ). signal_at flat.signals n) (sym y) ∙ f.same (first + k - f.base) inside in (
      record {
        there = omega (arith, ends, room, there);
        instance = ap (λ (s : Signal). s.instance) same ∙ all_index (λ (s : Signal). s.instance ≡ i) f.top.signals (first + k - f.base) no_signal own.signals inside;
        named = ap (λ (s : Signal). s.name) same ∙ is.0;
        ranged = ap (λ (s : Signal). s.range) same ∙ is.1;
      },
      ap (λ (s : Signal). s.word) same ∙ is.2,
    )

pub located_of_source : NamesAreLocated
located_of_source source top flat e i l name id range signed m = located source.modules flat (heads source top flat e) i l name id range signed m

pub words_of_source : WordsAreLocated
words_of_source source top flat e i l name first low words range signed m k there = words_located source.modules flat (heads source top flat e) i l name first low words range signed m k there
