-- what the names of a flat design stand for
use Rattle.std.proofs.Common.{◌≡◌, ◌∙◌, sym, ap, subst, ℕ, zero, suc, ◌+◌, ◌-◌, ◌<◌, ◌≤◌, Bool, true, false, cond, List, [], ◌∷◌, length, map, get_or, Option, None, Some, refl, arith}
use Rattle.std.specs.List.{All, AllByRecursion}
use Rattle.std.specs.Str.{bytes_eq}
use Rattle.std.proofs.lemmas.List.Elements.{recursion_from_All}
use Rattle.std.proofs.lemmas.List.{get_or-map, get_or_read, length-map}
use Rattle.rr_syntax.specs.Tree.{Tree}
use Rattle.rr_expr.specs.declared.types.Bit.{Bit}
use Rattle.rr_expr.specs.declared.types.Entity.{Entity}
use Rattle.rr_expr.specs.declared.types.Entity.TheVariants as entity
use Rattle.rr_expr.specs.Faults.{fault}
use Rattle.rr_expr.specs.Reading.{IsBitOf}
use Rattle.rr_expr.specs.Scopes.{Names, lookup, meant, or_instance, range_width}
use Rattle.rr_flat.specs.declared.signal.Signal.{Signal}
use Rattle.rr_flat.specs.Signals.{no_signal, signal_at}
use Rattle.rr_flat.specs.Signals as plain
use Rattle.rr_flat.specs.Sound.{IsNamed}
use Rattle.rr_flat.specs.View.{plain_signal}
use Rattle.rr_flat.specs.declared.design.Block.{Block}
use Rattle.rr_flat.specs.Plain.{Whole}
use Rattle.rr_flat.specs.Sound.{IsBlock, IsFlat, IsScope, IsSignal}
use Rattle.rr_flat.specs.View.{Design, plain_flat}
use Rattle.rr_flat.specs.Shapes.{shape, shape_faults}
use Rattle.rr_flat.specs.Writers.{scope_at}
use Rattle.rr_cycle.specs.Cycles.{side_shape}
use Rattle.rr_exec.specs.Work.{Holds}
use Rattle.rr_named_bits.proofs.Runs.{bit_of}
use Rattle.rr_exec.proofs.Fitting.{Named}

abbrev pub IsSound : Design → Type 0
IsSound d = IsFlat d.signals d.scopes d.drivers d.clocked d.combinational d.walk d.inputs d.outputs d.owners d.starts d.initials

-- what holds of each entry, and of a name that is not there, holds of what each name stands for
pub entry_of : (P : Entity → Type 0) (s : Names) (name : List ℕ) → AllByRecursion (λ x. P x.1) s → P entity.Instance → P (meant s name)
unfolding meant lookup
entry_of P [] name a i = i
entry_of P (x ∷ xs) name a i = go (bytes_eq name x.0) (entry_of P xs name a.1 i)
  where
    go : (b : Bool) → P (or_instance (lookup name xs)) → P (or_instance (cond b (Some x.1) (lookup name xs)))
    go true r = a.0
    go false r = r

-- the width of a signal is that of its range
pub record IsWide (signals : List Signal) (id : ℕ) : Type 0 where
  pub range : (signal_at (map plain_signal signals) id).width ≡ range_width (signal_at (map plain_signal signals) id).range
  pub low : 1 ≤ (signal_at (map plain_signal signals) id).width
  pub high : (signal_at (map plain_signal signals) id).width ≤ 128

wide_at : (n : ℕ) (signals : List Signal) (id : ℕ) → id < length signals → AllByRecursion (IsSignal n) signals → IsWide signals id
wide_at n [] id l a = absurd (omega arith)
wide_at n (x ∷ xs) zero l a = record { range = a.0.width; low = a.0.low; high = a.0.high }
wide_at n (x ∷ xs) (suc id) l a = let r = wide_at n xs id (omega arith) a.1 in record { range = r.range; low = r.low; high = r.high }

pub wide : (d : Design) (id : ℕ) → IsSound d → id < length d.signals → IsWide d.signals id
wide d id f l = wide_at (length d.scopes) d.signals id l (recursion_from_All (IsSignal (length d.scopes)) d.signals f.signals_in)

-- a name of a signal has the number of one, and its range
pub record IsNumber (signals : List Signal) (id : ℕ) (range : Option (ℕ × ℕ)) : Type 0 where
  pub inside : id < length signals
  pub range_is : (signal_at (map plain_signal signals) id).range ≡ range

pub number_of : (signals : List Signal) (s : Names) (name : List ℕ) (id : ℕ) (range : Option (ℕ × ℕ)) (signed : Bool) → IsScope signals s → meant s name ≡ entity.Signal id range signed → IsNumber signals id range
number_of signals s name id range signed h q =
    let k = subst (IsNamed 0 (map plain_signal signals)) q (entry_of (IsNamed 0 (map plain_signal signals)) s name (recursion_from_All (λ x. IsNamed 0 (map plain_signal signals) x.1) s h) tt) in
    let z : id - 0 ≡ id = omega arith in
    record {
      inside = omega (arith, k.1, length-map signals plain_signal);
      range_is = ap (λ (n : ℕ). (signal_at (map plain_signal signals) n).range) (sym z) ∙ k.2;
    }

-- a bit of a name is one of a signal
abbrev pub IsThere : Design → Bit → Type 0
IsThere d b = (b.signal < length d.signals) × (b.place < (signal_at (map plain_signal d.signals) b.signal).width)

-- a signal that is there, with this range, has a bit at each place of that
place_there : (d : Design) (id : ℕ) (range : Option (ℕ × ℕ)) (b : Bit) → IsSound d → IsNumber d.signals id range → id ≡ b.signal → b.place < range_width range → IsThere d b
place_there d id range b f n u v =
    let w = wide d id f n.inside in
    let l : b.place < (signal_at (map plain_signal d.signals) id).width = omega (arith, v, w.range, ap range_width n.range_is) in
    (omega (arith, u, n.inside), subst (λ (k : ℕ). b.place < (signal_at (map plain_signal d.signals) k).width) u l)

-- so has a word of a memory
pub word_of : (signals : List Signal) (s : Names) (name : List ℕ) (first low words : ℕ) (range : Option (ℕ × ℕ)) (signed : Bool) (k : ℕ) → IsScope signals s → meant s name ≡ entity.Memory first low words range signed → k < words →
    IsNumber signals (first + k) range
word_of signals s name first low words range signed k h q l =
    let m = subst (IsNamed 0 (map plain_signal signals)) q (entry_of (IsNamed 0 (map plain_signal signals)) s name (recursion_from_All (λ x. IsNamed 0 (map plain_signal signals) x.1) s h) tt) in
    let z : first + k - 0 ≡ first + k = omega arith in
    record {
      inside = omega (arith, m.1, l, length-map signals plain_signal);
      range_is = ap (λ (n : ℕ). (signal_at (map plain_signal signals) n).range) (sym z) ∙ (m.3 k l).range;
    }

bit_there : (d : Design) (s : Names) (name : List ℕ) (b : Bit) → IsSound d → IsScope d.signals s → IsBitOf (meant s name) b → IsThere d b
bit_there d s name b f h i = go (meant s name) refl i
  where
    go : (e : Entity) → meant s name ≡ e → IsBitOf e b → IsThere d b
    go (entity.Constant bits signed) q i = absurd i
    go (entity.Signal id range signed) q i = place_there d id range b f (number_of d.signals s name id range signed h q) (sym i.0) i.1
    go (entity.Memory first low words range signed) q i =
        let at : first + (b.signal - first) ≡ b.signal = omega (arith, i.0) in
        place_there d (first + (b.signal - first)) range b f (word_of d.signals s name first low words range signed (b.signal - first) h q (omega (arith, i.0, i.1))) at i.2
    go entity.Instance q i = absurd i

pub scope_holds : (d : Design) (s : Names) → IsSound d → IsScope d.signals s → Holds s (length d.signals)
scope_holds d s f h name b i =
    let t = bit_there d s name b f h i in
    let w = wide d b.signal f t.0 in
    (t.0, omega (arith, t.1, w.high))

pub named_there : (d : Design) (s : Names) (b : Bit) → IsSound d → IsScope d.signals s → Named s b → IsThere d b
named_there d s b f h r = bit_there d s r.0 b f h (bit_of (meant s r.0) b r.1)

-- an expression without a fault
pub no_faults : (s : Names) (t : Tree) → fault s t false ≡ None → shape_faults s t ≡ []
unfolding shape
no_faults s t h = rw h refl

-- what is read of the lists of a design

pub signal_read : (signals : List Signal) (id : ℕ) (x d : Signal) → id < length signals → x ≡ get_or signals id d → plain_signal x ≡ signal_at (map plain_signal signals) id
signal_read signals id x d l q = ap plain_signal q ∙ sym (get_or-map plain_signal signals id d no_signal l)

pub width_read : (d : Design) (id : ℕ) (x : Signal) → id < length d.signals → x ≡ get_or d.signals id x → x.width ≡ (signal_at (map plain_signal d.signals) id).width
width_read d id x l q = ap (λ (s : plain.Signal). s.width) (signal_read d.signals id x x l q)

pub shape_read : (d : Design) (id : ℕ) (x : Signal) → id < length d.signals → x ≡ get_or d.signals id x → record { width = x.width; signed = x.signed } ≡ side_shape (plain_flat d) (Whole id)
unfolding side_shape
shape_read d id x l q = ap (λ (s : plain.Signal). record { width = s.width; signed = s.signed }) (signal_read d.signals id x x l q)

pub scope_read : (d : Design) (i : ℕ) (s : Names) (ss : List Names) → i < length d.scopes → s ≡ get_or ss i s → ss ≡ d.scopes → s ≡ scope_at (plain_flat d) i
scope_read d i s ss l q e = get_or_read d.scopes i s l (q ∙ ap (λ (zs : List Names). get_or zs i s) e) []

pub scope_is : (d : Design) (i : ℕ) (s : Names) → IsSound d → i < length d.scopes → s ≡ scope_at (plain_flat d) i → IsScope d.signals s
scope_is d i s f l q = subst (IsScope d.signals) (sym q) (f.scopes_in i [] l)

-- of the blocks of a list

pub block_scope : (d : Design) (bs : List Block) (i : ℕ) (y : Block) (s : Names) (ss : List Names) → All (IsBlock d.scopes) bs → i < length bs → s ≡ get_or ss (get_or bs i y).scope s → ss ≡ d.scopes → s ≡ scope_at (plain_flat d) (get_or bs i y).scope
block_scope d bs i y s ss a l q e = scope_read d (get_or bs i y).scope s ss (a i y l).there q e

pub block_holds : (d : Design) (bs : List Block) (i : ℕ) (y : Block) (s : Names) (ss : List Names) → IsSound d → All (IsBlock d.scopes) bs → i < length bs → s ≡ get_or ss (get_or bs i y).scope s → ss ≡ d.scopes → Holds s (length d.signals)
block_holds d bs i y s ss f a l q e = scope_holds d s f (scope_is d (get_or bs i y).scope s f (a i y l).there (block_scope d bs i y s ss a l q e))
