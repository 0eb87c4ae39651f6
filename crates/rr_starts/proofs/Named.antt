-- The signals that names stand for.
use Rattle.std.proofs.Common.{◌≡◌, ◌∙◌, sym, ap, subst, ℕ, zero, suc, ◌-◌, ◌<◌, ◌≤◌, ◌+◌, Bool, true, false, cond, List, ◌∷◌, [], length, map, get_or, Option, Some, refl, arith, IsTrue}
use Rattle.std.specs.List.{All, AllByRecursion}
use Rattle.std.specs.Str.{bytes_eq}
use Rattle.std.proofs.lemmas.List.{get_or_read, length-map}
use Rattle.std.proofs.lemmas.List.Elements.{recursion_from_All, All-get_or}
use Rattle.std.proofs.lemmas.Bool.Decides.{nat_tests}
use Rattle.rr_expr.specs.declared.types.Entity.{Entity}
use Rattle.rr_expr.specs.declared.types.Entity.TheVariants as entity
use Rattle.rr_expr.specs.Faults.{is_width}
use Rattle.rr_expr.specs.Scopes.{Names, lookup, meant, or_instance, range_width, entity_shape}
use Rattle.rr_flat.specs.declared.signal.Signal.{Signal}
use Rattle.rr_flat.specs.Signals.{signal_at}
use Rattle.rr_flat.specs.View.{plain_signal}
use Rattle.rr_flat.specs.Sound.{IsNamed, IsScope, IsSignal}

-- what holds of each entry, and of a name that is not there, holds of what each name stands for
entry_of : (P : Entity → Type 0) (s : Names) (name : List ℕ) → AllByRecursion (λ x. P x.1) s → P entity.Instance → P (meant s name)
unfolding meant lookup
entry_of P [] name a i = i
entry_of P (x ∷ xs) name a i = go (bytes_eq name x.0) (entry_of P xs name a.1 i)
  where
    go : (b : Bool) → P (or_instance (lookup name xs)) → P (or_instance (cond b (Some x.1) (lookup name xs)))
    go true r = a.0
    go false r = r

-- a signal's width is that of its range, 1 to 128
record IsWide (signals : List Signal) (id : ℕ) : Type 0 where
  range : (signal_at (map plain_signal signals) id).width ≡ range_width (signal_at (map plain_signal signals) id).range
  low : 1 ≤ (signal_at (map plain_signal signals) id).width
  high : (signal_at (map plain_signal signals) id).width ≤ 128

wide_at : (n : ℕ) (signals : List Signal) (id : ℕ) → id < length signals → AllByRecursion (IsSignal n) signals → IsWide signals id
wide_at n [] id l a = absurd (omega arith)
wide_at n (x ∷ xs) zero l a = record { range = a.0.width; low = a.0.low; high = a.0.high }
wide_at n (x ∷ xs) (suc id) l a = let r = wide_at n xs id (omega arith) a.1 in record { range = r.range; low = r.low; high = r.high }

-- a name of a signal has the number of one, and its width
pub record IsNumber (signals : List Signal) (id w : ℕ) : Type 0 where
  pub inside : id < length signals
  pub width : w ≡ (signal_at (map plain_signal signals) id).width
  pub low : 1 ≤ w
  pub high : w ≤ 128

pub number_of : (n : ℕ) (signals : List Signal) (s : Names) (name : List ℕ) (id : ℕ) (range : Option (ℕ × ℕ)) (signed : Bool) → All (IsSignal n) signals → IsScope signals s
    → meant s name ≡ entity.Signal id range signed → IsNumber signals id (range_width range)
number_of n signals s name id range signed f h q =
    let k = subst (IsNamed 0 (map plain_signal signals)) q (entry_of (IsNamed 0 (map plain_signal signals)) s name (recursion_from_All (λ x. IsNamed 0 (map plain_signal signals) x.1) s h) tt) in
    let z : id - 0 ≡ id = omega arith in
    let lt : id < length signals = omega (arith, k.1, length-map signals plain_signal) in
    let r : (signal_at (map plain_signal signals) id).range ≡ range = ap (λ (m : ℕ). (signal_at (map plain_signal signals) m).range) (sym z) ∙ k.2 in
    let w = wide_at n signals id lt (recursion_from_All (IsSignal n) signals f) in
    let e : range_width range ≡ (signal_at (map plain_signal signals) id).width = sym (w.range ∙ ap range_width r) in
    record { inside = lt; width = e; low = omega (arith, e, w.low); high = omega (arith, e, w.high) }

-- a word of a memory has the number of a signal, and its width
pub word_number_of : (n : ℕ) (signals : List Signal) (s : Names) (name : List ℕ) (first low words k : ℕ) (range : Option (ℕ × ℕ)) (signed : Bool) → All (IsSignal n) signals → IsScope signals s
    → meant s name ≡ entity.Memory first low words range signed → k < words → IsNumber signals (first + k) (range_width range)
word_number_of n signals s name first low words k range signed f h q l =
    let m = subst (IsNamed 0 (map plain_signal signals)) q (entry_of (IsNamed 0 (map plain_signal signals)) s name (recursion_from_All (λ x. IsNamed 0 (map plain_signal signals) x.1) s h) tt) in
    let z : (first + k) - 0 ≡ first + k = omega arith in
    let lt : first + k < length signals = omega (arith, m.1, l, length-map signals plain_signal) in
    let r : (signal_at (map plain_signal signals) (first + k)).range ≡ range = ap (λ (j : ℕ). (signal_at (map plain_signal signals) j).range) (sym z) ∙ (m.3 k l).range in
    let w = wide_at n signals (first + k) lt (recursion_from_All (IsSignal n) signals f) in
    let e : range_width range ≡ (signal_at (map plain_signal signals) (first + k)).width = sym (w.range ∙ ap range_width r) in
    record { inside = lt; width = e; low = omega (arith, e, w.low); high = omega (arith, e, w.high) }

pub width_fits : (w : ℕ) → 1 ≤ w → w ≤ 128 → IsTrue (is_width w)
width_fits w l h = grind (arith, nat_tests)

-- the same of the names of a scope of a design, where a call has read them
pub number_in : (n : ℕ) (signals : List Signal) (scopes : List Names) (i : ℕ) (s : Names) (name : List ℕ) (id : ℕ) (range : Option (ℕ × ℕ)) (signed : Bool) → All (IsSignal n) signals → All (IsScope signals) scopes → i < length scopes
    → s ≡ get_or scopes i s → meant s name ≡ entity.Signal id range signed → IsNumber signals id (range_width range)
number_in n signals scopes i s name id range signed f h lt is q =
    let at : s ≡ get_or scopes i [] = get_or_read scopes i s lt is [] in
    number_of n signals s name id range signed f (subst (IsScope signals) (sym at) (All-get_or (IsScope signals) scopes i [] lt h)) q

pub word_number_in : (n : ℕ) (signals : List Signal) (scopes : List Names) (i : ℕ) (s : Names) (name : List ℕ) (first low words k : ℕ) (range : Option (ℕ × ℕ)) (signed : Bool) → All (IsSignal n) signals → All (IsScope signals) scopes → i < length scopes
    → s ≡ get_or scopes i s → meant s name ≡ entity.Memory first low words range signed → k < words → IsNumber signals (first + k) (range_width range)
word_number_in n signals scopes i s name first low words k range signed f h lt is q l =
    let at : s ≡ get_or scopes i [] = get_or_read scopes i s lt is [] in
    word_number_of n signals s name first low words k range signed f (subst (IsScope signals) (sym at) (All-get_or (IsScope signals) scopes i [] lt h)) q l
