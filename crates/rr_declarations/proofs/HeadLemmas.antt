-- Heads of instances.
use Rattle.std.proofs.Common.{◌≡◌, ◌∙◌, sym, ap, ℕ, ◌+◌, ◌<◌, true, false, Bool, cond, List, [], ◌∷◌, ◌++◌, length, get_or, Result, Ok, Err, refl, arith, is_some, inl, inr, nat_lt}
use Rattle.std.proofs.lemmas.Bool.Decides.{nat_tests}
use Rattle.std.proofs.lemmas.List.Elements.{All-push, All-weaker}
use Rattle.rr_syntax.specs.Tree.{ModuleDeclaration}
use Rattle.rr_expr.specs.Scopes.{Names, lookup}
use Rattle.rr_expr.specs.declared.types.Entity.{Entity}
use Rattle.rr_expr.specs.declared.types.Entity.TheVariants as entity
use Rattle.rr_flat.specs.Faults.{Refuses, and_then, each, sooner}
use Rattle.rr_flat.specs.Signals.{with_name}
use Rattle.rr_declarations.specs.Parameters.{parameters}
use Rattle.rr_declarations.specs.Declarations.{brackets, known, declarations, declare_ports, declare_item}
use Rattle.rr_declarations.specs.Heads.{entity_of, joined, declared, numbered}
use Rattle.rr_declarations.specs.View.{plain_declared, plain_list}
use Rattle.rr_declarations.specs.declared.declare.Declared.{Declared}
use Rattle.rr_declarations.proofs.JoinedSignals.{before, named_at}
use Rattle.rr_flat.specs.Signals as plain
use Rattle.rr_declarations.specs.Sound.{HasWords, IsPlace, ArePlaces}
use Rattle.rr_flat.specs.Sound.{IsNamed, AreNamed}
use Rattle.rr_flat.specs.declared.fault.FlatFault.{FlatFault}
use Rattle.rr_flat.specs.declared.fault.FlatFault.TheVariants.{TooMany}
use Rattle.rr_flat.specs.declared.fault.Limit.TheVariants.{FlatBits}

-- a step that refuses ends what follows
pub ends : {A B : Type 0} (a : Result A FlatFault) (next : A → Result B FlatFault) (f : FlatFault) → Refuses a f → Refuses (and_then a next) f
ends a next f (inl memory) = inl memory
ends a next f (inr e) = inr (rw e refl)

named_with : (base : ℕ) (signals : List plain.Signal) (names : Names) (n : List ℕ) (e : Entity) → AreNamed base signals names → IsNamed base signals e → AreNamed base signals (with_name names n e)
named_with base signals names n e h here = go (is_some (lookup n names))
  where
    go : (b : Bool) → AreNamed base signals (cond b names (names ++ (n, e) ∷ []))
    go true = h
    go false = All-push (λ x. IsNamed base signals x.1) names (n, e) h here

pub named_next : (base : ℕ) (list : List Declared) (i : ℕ) (d : Declared) (k : ℕ) (names : Names) → i < length list → HasWords (get_or list i d) → k ≡ base + before list i → AreNamed base (joined (plain_list list)) names
    → AreNamed base (joined (plain_list list)) (with_name names (get_or list i d).signal.name.now (entity_of k (plain_declared (get_or list i d))))
named_next base list i d k names lt w e h = named_with base (joined (plain_list list)) names (get_or list i d).signal.name.now _ h (named_at base list i d k lt w e)

place_named : (base : ℕ) (signals : List plain.Signal) (e : Entity) → IsPlace 0 e → IsNamed base signals e
place_named base signals (entity.Constant bits signed) h = tt
place_named base signals (entity.Signal id range signed) h = absurd (omega arith)
place_named base signals (entity.Memory first low words range signed) h = absurd h
place_named base signals entity.Instance h = tt

-- constants name no signal
pub constants_named : (base : ℕ) (signals : List plain.Signal) (names : Names) → ArePlaces 0 names → AreNamed base signals names
constants_named base signals names h = All-weaker (λ x. IsPlace 0 x.1) (λ x. IsNamed base signals x.1) (λ x. place_named base signals x.1) names h

-- the declarations of a module whose parameters and brackets are known
pub declared_is : (i bits : ℕ) (given : Names) (m : ModuleDeclaration) (names first all bracketed : Names) → parameters given m ≡ Ok names → parameters given m ≡ Ok first → brackets m ≡ Ok bracketed → all ≡ known m first
    → and_then (parameters given m) (declared i bits m) ≡ and_then (each (declare_ports bracketed all) m.groups (record { instance = i; names = names; list = []; bits = bits })) (each (declare_item bracketed all) m.items)
unfolding declared declarations
declared_is i bits given m names first all bracketed p q b k =
    let same : first ≡ names = cc in
    let here : known m names ≡ all = sym (k ∙ ap (known m) same) in
    rw (p, b, here) refl

-- more signals than numbers
pub numbered_full : (i base bits : ℕ) (list : List Declared) (names : Names) (n : ℕ) → n ≡ base + length (joined (plain_list list)) → 65536 < n → numbered i base bits (plain_list list) names ≡ Err (TooMany FlatBits n)
unfolding numbered sooner
numbered_full i base bits list names n e lt =
    let b : nat_lt 65536 n ≡ true = grind (arith, nat_tests) in
    rw (sym e, b) refl
