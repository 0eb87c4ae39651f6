-- targets whose bits have wires
use Rattle.std.proofs.Common.{◌≡◌, ◌∙◌, ◌⊎◌, inl, inr, sym, ap, refl, ℕ, zero, suc, ◌+◌, ◌-◌, ◌<◌, ◌≤◌, ◌&&◌, Bool, true, false, not, List, [], ◌∷◌, ◌++◌, length, get_or, drop, Option, None, nat_eq, nat_lt, arith, length-append}
use Rattle.std.specs.List.{All, AllByRecursion}
use Rattle.std.proofs.lemmas.Bool.{and_parts, both_ways, cases_lt, eqb-true, lt-ltb, ltb-true}
use Rattle.std.proofs.lemmas.List.Elements.{All-from_recursion}
use Rattle.rr_syntax.specs.Tree.{Tree, Trees, Name, Literal, Bit as BitSelect, Part, Indexed, Unary, Binary, Cond, Concat, Repeat, Cast, Paren, End, More}
use Rattle.rr_expr.specs.declared.types.Bit.{Bit}
use Rattle.rr_expr.specs.declared.types.Entity.{Entity}
use Rattle.rr_expr.specs.declared.types.Entity.TheVariants.{Constant, Signal, Memory, Instance}
use Rattle.rr_expr.specs.Faults.{constant_count, fault}
use Rattle.rr_expr.specs.Scopes.{Names, env_of, meant, entity_range, range_width}
use Rattle.rr_expr.specs.Selects.{lowest_place, integer_with}
use Rattle.rr_expr.specs.Values.{form, value, nowhere}
use Rattle.rr_flat.specs.Targets.{has_bit, is_bit_of, target_bits, targets_bits}
use Rattle.rr_flat.proofs.Bits.{has_append, index_length, or_left, or_right}
use Rattle.rr_named_bits.specs.declared.piece.Piece.{Piece}
use Rattle.rr_named_bits.specs.Pieces.{all_bits, bits_of}
use Rattle.rr_named_bits.proofs.Nodes.{shaped_small}
use Rattle.rr_named_bits.proofs.Runs.{covers_in}
use Rattle.rr_cycle.specs.Exec.{Environment}
use Rattle.rr_cycle.proofs.Settling.{target_size}
use Rattle.rr_cycle.proofs.Wiring.{length_there}
use Rattle.rr_exec.proofs.Fitting.{no_pieces, target_named}
use Rattle.rr_signal_wires.specs.Words.{Fits, Holds, IsThere}

not_less : (a b : ℕ) → not (nat_lt a b) ≡ true → b ≤ a
not_less a b h = by (cases_lt a b)
  where
    by : ((a < b) ⊎ (b ≤ a)) → b ≤ a
    by (inl l) = absurd (both_ways (not (nat_lt a b)) (ap not (lt-ltb a b l)) h)
    by (inr l) = l

pub name_there : (s : Names) (widths : List ℕ) (name : List ℕ) (b : Bit) → Holds s widths → is_bit_of (meant s name) b ≡ true → IsThere widths b
name_there s widths name b h i = go (meant s name) refl i
  where
    go : (e : Entity) → meant s name ≡ e → is_bit_of e b ≡ true → IsThere widths b
    go (Constant bits signed) q i = absurd (both_ways false refl i)
    go (Signal id range signed) q i =
        let p = and_parts (nat_eq id b.signal) (nat_lt b.place (range_width range)) i in
        let l = h.signals name id range signed q in
        let u : id ≡ b.signal = eqb-true id b.signal p.0 in
        (omega (arith, u, l.0), omega (arith, ltb-true b.place (range_width range) p.1, ap (λ (k : ℕ). get_or widths k 0) u, l.1))
    go (Memory first low words range signed) q i =
        let p = and_parts (not (nat_lt b.signal first)) (nat_lt b.signal (first + words) && nat_lt b.place (range_width range)) i in
        let r = and_parts (nat_lt b.signal (first + words)) (nat_lt b.place (range_width range)) p.1 in
        let m : first ≤ b.signal = not_less b.signal first p.0 in
        let n : b.signal < first + words = ltb-true b.signal (first + words) r.0 in
        let l = h.memories name first low words range signed q (b.signal - first) (omega (arith, m, n)) in
        let u : first + (b.signal - first) ≡ b.signal = omega (arith, m) in
        (omega (arith, u, l.0), omega (arith, ltb-true b.place (range_width range) r.1, ap (λ (k : ℕ). get_or widths k 0) u, l.1))
    go Instance q i = absurd (both_ways false refl i)

pieces_there : (widths : List ℕ) (ps : List Piece) → ((b : Bit) → has_bit (all_bits ps) b ≡ true → IsThere widths b) → AllByRecursion (Fits widths) ps
unfolding all_bits
pieces_there widths [] h = tt
pieces_there widths (p ∷ ps) h = (
  (λ b c. h b (has_append (all_bits ps) (bits_of p) b ∙ or_right (has_bit (all_bits ps) b) (has_bit (bits_of p) b) (sym (covers_in p b) ∙ c))),
  pieces_there widths ps (λ b c. h b (has_append (all_bits ps) (bits_of p) b ∙ or_left (has_bit (all_bits ps) b) (has_bit (bits_of p) b) c)),
)

pub target_fits : (s : Names) (widths : List ℕ) (e : Environment) (t : Tree) (ps : List Piece) → Holds s widths → all_bits ps ≡ target_bits s e t → All (Fits widths) ps
target_fits s widths e t ps h q = All-from_recursion (Fits widths) ps (pieces_there widths ps (λ b i. let r = target_named s e t b (ap (λ (bs : List (Option Bit)). has_bit bs b) (sym q) ∙ i) in name_there s widths r.0 b h r.1))

-- a target has as many bits in each environment
mutual
  unfolding target_bits

  pub same_size : (s : Names) (e f : Environment) (t : Tree) → length (target_bits s e t) ≡ length (target_bits s f t)
  same_size s e f (Name token name) = refl
  same_size s e f (Literal token n) = refl
  same_size s e f (BitSelect token name i) =
      index_length (meant s name) (integer_with (form s i) (value s i e)) ∙ sym (index_length (meant s name) (integer_with (form s i) (value s i f)))
  same_size s e f (Part token name l r) = refl
  same_size s e f (Indexed token name x n up) =
      length_there (meant s name) (lowest_place (entity_range (meant s name)) up (integer_with (form s x) (value s x e)) (constant_count s n)) (constant_count s n)
      ∙ sym (length_there (meant s name) (lowest_place (entity_range (meant s name)) up (integer_with (form s x) (value s x f)) (constant_count s n)) (constant_count s n))
  same_size s e f (Unary op t) = refl
  same_size s e f (Binary op l r) = refl
  same_size s e f (Cond a b c) = refl
  same_size s e f (Concat ts) = same_sizes s e f ts
  same_size s e f (Repeat n ts) = refl
  same_size s e f (Cast signed t) = refl
  same_size s e f (Paren t) = refl

  pub same_sizes : (s : Names) (e f : Environment) (ts : Trees) → length (targets_bits s e ts) ≡ length (targets_bits s f ts)
  same_sizes s e f End = refl
  same_sizes s e f (More t ts) =
      omega (arith, length-append (targets_bits s e ts) (target_bits s e t), length-append (targets_bits s f ts) (target_bits s f t), same_size s e f t, same_sizes s e f ts)

pub few_bits : (s : Names) (e : Environment) (t : Tree) → fault s t false ≡ None → length (target_bits s e t) ≤ 128
few_bits s e t h = omega (arith, target_size s e t, shaped_small s t h)

drop_nil : (k : ℕ) → drop {A = Bool} k [] ≡ []
drop_nil zero = refl
drop_nil (suc k) = refl

pub drop_drop : (m n : ℕ) (vs : List Bool) → drop (m + n) vs ≡ drop n (drop m vs)
drop_drop zero n vs = let e : zero + n ≡ n = omega arith in ap (λ (k : ℕ). drop k vs) e
drop_drop (suc m) n [] = drop_nil (suc m + n) ∙ sym (drop_nil n)
drop_drop (suc m) n (v ∷ vs) = let e : suc m + n ≡ suc (m + n) = omega arith in ap (λ (k : ℕ). drop k (v ∷ vs)) e ∙ drop_drop m n vs

-- an environment without values is none
pub none_bits : (s : Names) (t : Tree) (values : List ℕ) (ps : List Piece) (bits : List (Option Bit)) → values ≡ [] → ps ≡ [] → bits ≡ target_bits s (env_of values) t ++ all_bits ps → bits ≡ target_bits s nowhere t
none_bits s t values ps bits e q h = h ∙ no_pieces (target_bits s (env_of values) t) ps q ∙ ap (λ (vs : List ℕ). target_bits s (env_of vs) t) e
