-- The names of an instance stand for variables and nets that have no bit in common.
use Rattle.std.proofs.Common.{◌≡◌, ℕ, ◌+◌, ◌<◌, ◌≤◌, List, [], ◌∷◌, ◌++◌, length, Bool, true, false, cond, Option, Some, None, Ok, refl, sym, arith, subst, if◌then◌else◌}
use Rattle.std.specs.Prelude.{is_some, nat_lt, slice_index_or}
use Rattle.std.specs.List.{AllByRecursion}
use Rattle.std.specs.Str.{bytes_eq}
use Rattle.std.proofs.lemmas.List.{get_or_past}
use Rattle.rr_syntax.specs.Tree.{ModuleDeclaration}
use Rattle.rr_expr.specs.declared.types.Bit.{Bit}
use Rattle.rr_expr.specs.declared.types.Entity.{Entity}
use Rattle.rr_expr.specs.declared.types.Entity.TheVariants as entity
use Rattle.rr_expr.specs.Reading.{IsBitOf}
use Rattle.rr_expr.specs.Scopes.{Names, lookup, meant, or_instance}
use Rattle.rr_flat.specs.declared.fault.FlatFault.TheVariants.{TooMany}
use Rattle.rr_flat.specs.declared.fault.Limit.TheVariants.{FlatBits}
use Rattle.rr_flat.specs.Faults.{fault_if, first_of, and_then}
use Rattle.rr_flat.specs.Signals.{Text, Signal, with_name}
use Rattle.rr_flat.specs.Targets.{variable_of}
use Rattle.rr_declarations.specs.Declarations.{Declared}
use Rattle.rr_declarations.specs.Heads.{Head, declared_in_order, joined, entity_of, with_signals, numbered, declared, head}
use Rattle.rr_declarations.specs.Parameters.{parameters}
use Rattle.rr_memory_words.specs.Words.{word_count, words_entity}
use Rattle.rr_flatten.proofs.HeadOf.{settled_is, first_ok, all_append, all_weaker, Entries, entries_with, NoSignal, constants, Between}

-- a bit of both is one of one variable or net
abbrev pub IsOne : Entity → Entity → Type 0
IsOne e f = (b : Bit) → IsBitOf e b → IsBitOf f b → variable_of e ≡ variable_of f

abbrev pub Apart : Names → Type 0
Apart names = Entries (λ e. Entries (IsOne e) names) names

turned : (e f : Entity) → IsOne e f → IsOne f e
turned e f h b i j = sym (h b j i)

all_of : {X : Type 0} (P : X → Type 0) → ((x : X) → P x) → (xs : List X) → AllByRecursion P xs
all_of P h [] = tt
all_of P h (x ∷ xs) = (h x, all_of P h xs)

all_both : {X : Type 0} (P Q R : X → Type 0) → ((x : X) → P x → Q x → R x) → (xs : List X) → AllByRecursion P xs → AllByRecursion Q xs → AllByRecursion R xs
all_both P Q R h [] p q = tt
all_both P Q R h (x ∷ xs) p q = (h x p.0 q.0, all_both P Q R h xs p.1 q.1)

-- a name that has no bit in common with the others may be added
pub apart_with : (names : Names) (name : Text) (e : Entity) → Apart names → Entries (IsOne e) names → Apart (with_name names name e)
apart_with names name e h n = by (is_some (lookup name names))
  where
    last : Names
    last = (name, e) ∷ []

    by : (b : Bool) → Apart (if b then names else names ++ (name, e) ∷ [])
    by true = h
    by false =
        all_append (λ x. Entries (IsOne x.1) (names ++ last)) names last
        (all_both (λ x. Entries (IsOne x.1) names) (λ x. IsOne e x.1) (λ x. Entries (IsOne x.1) (names ++ last)) (λ x p q. all_append (λ y. IsOne x.1 y.1) names last p (turned e x.1 q, tt)) names h n)
        (all_append (λ y. IsOne e y.1) names last n ((λ b i j. refl), tt), tt)

-- what has no bit has none in common

no_bit : (e : Entity) (b : Bit) → NoSignal e → IsBitOf e b → ⊥
no_bit (entity.Constant bits signed) b h i = i
no_bit (entity.Signal id range signed) b h i = h
no_bit (entity.Memory first low words range signed) b h i = h
no_bit entity.Instance b h i = i

pub alone : (e : Entity) (names : Names) → NoSignal e → Entries (IsOne e) names
alone e names h = all_of (λ (x : Text × Entity). IsOne e x.1) (λ x b i j. absurd (no_bit e b h i)) names

constants_apart : (names : Names) → Entries NoSignal names → Apart names
constants_apart names h = all_weaker (λ (x : Text × Entity). NoSignal x.1) (λ (x : Text × Entity). Entries (IsOne x.1) names) names (λ x n. alone x.1 names n) h

-- signals and words are numbered one after the other

below : (base k : ℕ) (e : Entity) (b : Bit) → Between base k e → IsBitOf e b → b.signal < k
below base k (entity.Constant bits signed) b h i = absurd i
below base k (entity.Signal id range signed) b h i = omega (arith, h.1, i.0)
below base k (entity.Memory first low words range signed) b h i = omega (arith, h.1, i.1)
below base k entity.Instance b h i = absurd i

from : (k : ℕ) (s : Signal) (words : Option (ℕ × ℕ)) (b : Bit) → IsBitOf (words_entity k s words) b → k ≤ b.signal
from k s None b i = omega (arith, i.0)
from k s (Some w) b i = i.0

wider : (base k m : ℕ) (e : Entity) → k ≤ m → Between base k e → Between base m e
wider base k m (entity.Constant bits signed) l h = tt
wider base k m (entity.Signal id range signed) l h = (h.0, omega (arith, h.1))
wider base k m (entity.Memory first low words range signed) l h = (h.0, omega (arith, h.1))
wider base k m entity.Instance l h = tt

own_between : (base k : ℕ) (s : Signal) (words : Option (ℕ × ℕ)) → base ≤ k → Between base (k + word_count words) (words_entity k s words)
own_between base k s None l = (l, omega arith)
own_between base k s (Some w) l = (l, omega arith)

all_apart : (base k : ℕ) (list : List Declared) (names : Names) → base ≤ k → Entries (Between base k) names → Apart names → Apart (with_signals k list names)
unfolding with_signals
all_apart base k [] names l h a = a
all_apart base k (x ∷ xs) names l h a =
    let e = entity_of k x in
    let m = k + word_count x.words in
    all_apart base m xs (with_name names x.signal.name e) (omega (arith, l))
    (entries_with (Between base m) names x.signal.name e (all_weaker (λ (y : Text × Entity). Between base k y.1) (λ (y : Text × Entity). Between base m y.1) names (λ y p. wider base k m y.1 (omega arith) p) h) (own_between base k x.signal x.words l))
    (apart_with names x.signal.name e a
    (all_weaker (λ (y : Text × Entity). Between base k y.1) (λ (y : Text × Entity). IsOne e y.1) names (λ y p b i j. absurd (apart_here y.1 p b i j)) h))
  where
    apart_here : (f : Entity) → Between base k f → (b : Bit) → IsBitOf (words_entity k x.signal x.words) b → IsBitOf f b → ⊥
    apart_here f p b i j = omega (arith, below base k f b p j, from k x.signal x.words b i)

none_between : (base end : ℕ) (e : Entity) → NoSignal e → Between base end e
none_between base end (entity.Constant bits signed) h = tt
none_between base end (entity.Signal id range signed) h = absurd h
none_between base end (entity.Memory first low words range signed) h = absurd h
none_between base end entity.Instance h = tt

pub head_apart : (i base bits : ℕ) (given : Names) (m : ModuleDeclaration) (h : Head) → head i base bits given m ≡ Ok h → Apart h.scope
unfolding head numbered
head_apart i base bits given m h e =
    let r = first_ok (parameters given m) (λ names. and_then (declared i bits m names) (λ d. numbered i base d.bits (declared_in_order m d) names)) h e in
    let s = first_ok (declared i bits m r.0) (λ d. numbered i base d.bits (declared_in_order m d) r.0) h r.1.1 in
    let list = declared_in_order m s.0 in
    let made : Head = record { instance = i; base = base; bits = s.0.bits; signals = joined list; scope = with_signals base list r.0 } in
    let none = constants given m r.0 r.1.0 in
    subst (λ (x : Head). Apart x.scope) (settled_is (first_of (fault_if (nat_lt 65536 (base + length (joined list))) (TooMany FlatBits (base + length (joined list))))) made h s.1.1)
    (all_apart base base list r.0 (omega arith) (all_weaker (λ (x : Text × Entity). NoSignal x.1) (λ (x : Text × Entity). Between base base x.1) r.0 (λ x k. none_between base base x.1 k) none) (constants_apart r.0 none))

-- names of scopes

pub found_meant : (P : Entity → Type 0) (name : Text) (names : Names) → Entries P names → P entity.Instance → P (meant names name)
unfolding meant lookup
found_meant P name [] h p = p
found_meant P name (n ∷ ns) h p = go (bytes_eq name n.0) (found_meant P name ns h.1 p)
  where
    go : (b : Bool) → P (or_instance (lookup name ns)) → P (or_instance (cond b (Some n.1) (lookup name ns)))
    go true rec = h.0
    go false rec = rec

pub both_meant : (names : Names) (x y : Text) → Apart names → IsOne (meant names x) (meant names y)
both_meant names x y h =
    let one : Entries (IsOne (meant names x)) names = found_meant (λ e. Entries (IsOne e) names) x names h (alone entity.Instance names tt) in
    found_meant (IsOne (meant names x)) y names one (λ b i j. absurd j)

-- no name stands for a bit in an instance that is not there
pub none_meant : (scopes : List Names) (i : ℕ) (x : Text) (b : Bit) → length scopes ≤ i → IsBitOf (meant (slice_index_or scopes i []) x) b → ⊥
unfolding meant lookup
none_meant scopes i x b l h = subst (λ (s : Names). IsBitOf (meant s x) b) (get_or_past scopes i [] l) h
