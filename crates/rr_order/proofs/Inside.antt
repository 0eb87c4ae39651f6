-- The bits that a design writes and names are there.
use Rattle.std.proofs.Common.{◌≡◌, ℕ, zero, suc, ◌+◌, ◌-◌, ◌<◌, ◌≤◌, List, [], ◌∷◌, length, get_or, map, Bool, true, false, cond, not, ◌&&◌, nat_eq, nat_lt, Option, None, is_none, refl, ap, ◌∙◌, sym, subst, arith, inl, inr, ℤ, pos}
use Rattle.std.proofs.lemmas.Bool.{cases_Bool, cases_lt, and_parts, eqb-true, both_ways, or_cases, lt-ltb, ltb-true}
use Rattle.std.proofs.lemmas.List.{get_or-map, length-map}
use Rattle.std.proofs.lemmas.List.Elements.{All-get_or}
use Rattle.std.specs.Prelude.{bytes_eq}
use Rattle.rr_syntax.specs.Tree.{Tree, Trees, Name, Literal, Bit as BitSelect, Part, Indexed, Unary, Binary, Cond, Concat, Repeat, Cast, Paren, End, More, Statement, Statements, Arm, Arms, Null, Block as Sequence, If, IfElse, Case, Assign, For, Done, Then, CaseItem, NoArms, MoreArms}
use Rattle.rr_expr.specs.declared.types.Bit.{Bit}
use Rattle.rr_expr.specs.declared.types.Entity.{Entity}
use Rattle.rr_expr.specs.declared.types.Entity.TheVariants.{Constant, Signal, Memory, Instance}
use Rattle.rr_expr.specs.Faults.{fault, constant_count, constant_span}
use Rattle.rr_expr.specs.Reading.{NamesAt, NamesBit, NamesBits}
use Rattle.rr_expr.specs.Scopes.{Names, meant, lookup, or_instance, range_width, entity_shape, entity_range}
use Rattle.rr_expr.specs.Selects.{place, lowest_place, integer_with}
use Rattle.rr_expr.specs.Values.{form, value, nowhere}
use Rattle.rr_flat.specs.Signals.{signal_at, no_signal}
use Rattle.rr_flat.specs.Sound.{IsNamed}
use Rattle.rr_flat.specs.Plain.{Flat}
use Rattle.rr_flat.specs.Reads.{TargetReads, TargetsRead, StatementReads, StatementsRead, ArmReads, ArmsRead, writes, write_any, arm_writes, arms_write}
use Rattle.rr_flat.specs.Targets.{has_bit, is_bit_of, bits_there, target_bits, targets_bits, is_fixed, part_name, target_parts, may_write}
use Rattle.rr_flat.specs.Writers.{scope_at, signal_bits, entity_of_signal, taken, all_taken, nothing}
use Rattle.rr_order.specs.Nodes.{IsBit, IsClosed, widths}
use Rattle.rr_expr.proofs.MemoryWords.{index_among}
use Rattle.rr_flat.proofs.Bits.{has_append, bits_of_name, index_of_name}
use Rattle.rr_named_bits.proofs.Runs.{of_is}

-- a bit of what some name stands for
abbrev pub Of : Names → Bit → Type 0
Of s b = (name : List ℕ) × (is_bit_of (meant s name) b ≡ true)

at_of : (k : Bool) (s : Names) (name : List ℕ) (from : ℤ) (n : ℕ) (index : Type 0) (b : Bit) → (index → Of s b) → NamesAt k (meant s name) from n index b → Of s b
at_of true s name from n index b f h = (name, of_is (meant s name) b h.0)
at_of false s name from n index b f (inl h) = (name, of_is (meant s name) b h)
at_of false s name from n index b f (inr h) = f h

mutual
  unfolding NamesBit

  pub named_of : (s : Names) (t : Tree) (b : Bit) → NamesBit s t b → Of s b
  named_of s (Name token name) b h = (name, of_is (meant s name) b h)
  named_of s (Literal token n) b h = absurd h
  named_of s (BitSelect token name i) b h =
      elim (index_among (is_none (fault s i true)) (meant s name) (integer_with (form s i) (value s i nowhere)) (NamesBit s i b) b h) [ inl x ↦ (name, of_is (meant s name) b x) | inr x ↦ named_of s i b x ]
  named_of s (Part token name l r) b h = (name, of_is (meant s name) b h.0)
  named_of s (Indexed token name f n up) b h =
      at_of (is_none (fault s f true)) s name (lowest_place (entity_range (meant s name)) up (integer_with (form s f) (value s f nowhere)) (constant_count s n)) (constant_count s n) (NamesBit s f b) b (λ m. named_of s f b m) h
  named_of s (Unary op t) b h = named_of s t b h
  named_of s (Binary op l r) b h = elim h [ inl x ↦ named_of s l b x | inr x ↦ named_of s r b x ]
  named_of s (Cond a c d) b h = elim h [ inl x ↦ named_of s a b x | inr x ↦ elim x [ inl y ↦ named_of s c b y | inr y ↦ named_of s d b y ] ]
  named_of s (Concat ts) b h = all_named_of s ts b h
  named_of s (Repeat n ts) b h = all_named_of s ts b h
  named_of s (Cast signed t) b h = named_of s t b h
  named_of s (Paren t) b h = named_of s t b h

  pub all_named_of : (s : Names) (ts : Trees) (b : Bit) → NamesBits s ts b → Of s b
  all_named_of s End b h = absurd h
  all_named_of s (More t ts) b h = elim h [ inl x ↦ named_of s t b x | inr x ↦ all_named_of s ts b x ]

has_none : (b : Bit) → has_bit [] b ≡ true → ⊥
unfolding has_bit
has_none b h = both_ways false refl h

mutual
  unfolding target_bits

  pub target_of : (s : Names) (env : Bit → Bool) (t : Tree) (b : Bit) → has_bit (target_bits s env t) b ≡ true → Of s b
  target_of s env (Name token name) b h = (name, bits_of_name (meant s name) (pos 0) (entity_shape (meant s name)).width b h)
  target_of s env (Literal token n) b h = absurd (has_none b h)
  target_of s env (BitSelect token name i) b h = (name, index_of_name (meant s name) (integer_with (form s i) (value s i env)) b h)
  target_of s env (Part token name l r) b h = (name, bits_of_name (meant s name) (place (entity_range (meant s name)) (integer_with (form s r) (value s r nowhere))) (constant_span s l r) b h)
  target_of s env (Indexed token name f n up) b h =
      (name, bits_of_name (meant s name) (lowest_place (entity_range (meant s name)) up (integer_with (form s f) (value s f env)) (constant_count s n)) (constant_count s n) b h)
  target_of s env (Unary op t) b h = absurd (has_none b h)
  target_of s env (Binary op l r) b h = absurd (has_none b h)
  target_of s env (Cond a c d) b h = absurd (has_none b h)
  target_of s env (Concat ts) b h = targets_of s env ts b h
  target_of s env (Repeat n ts) b h = absurd (has_none b h)
  target_of s env (Cast signed t) b h = absurd (has_none b h)
  target_of s env (Paren t) b h = absurd (has_none b h)

  targets_of : (s : Names) (env : Bit → Bool) (ts : Trees) (b : Bit) → has_bit (targets_bits s env ts) b ≡ true → Of s b
  targets_of s env End b h = absurd (has_none b h)
  targets_of s env (More t ts) b h = elim (or_cases (has_bit (targets_bits s env ts) b) (has_bit (target_bits s env t) b) (sym (has_append (targets_bits s env ts) (target_bits s env t) b) ∙ h)) [
    | inl x ↦ targets_of s env ts b x
    | inr x ↦ target_of s env t b x
  ]

no_bits : (xs : List (Option Bit)) (b : Bit) → has_bit (map (λ i. None) xs) b ≡ true → ⊥
unfolding has_bit
no_bits [] b h = both_ways false refl h
no_bits (x ∷ xs) b h = no_bits xs b h

nothing_has : (n : ℕ) (b : Bit) → has_bit (nothing n) b ≡ true → ⊥
unfolding nothing
nothing_has n b h = no_bits (bits_there Instance (pos 0) n) b h

mutual
  unfolding taken

  pub taken_of : (s : Names) (t : Tree) (b : Bit) → has_bit (taken s t) b ≡ true → Of s b
  taken_of s (Name token name) b h = target_of s nowhere (Name token name) b h
  taken_of s (Literal token n) b h = absurd (nothing_has n.width b h)
  taken_of s (BitSelect token name i) b h = target_of s nowhere (BitSelect token name i) b h
  taken_of s (Part token name l r) b h = target_of s nowhere (Part token name l r) b h
  taken_of s (Indexed token name f n up) b h = target_of s nowhere (Indexed token name f n up) b h
  taken_of s (Unary op t) b h = absurd (has_none b h)
  taken_of s (Binary op l r) b h = absurd (has_none b h)
  taken_of s (Cond a c d) b h = absurd (has_none b h)
  taken_of s (Concat ts) b h = all_taken_of s ts b h
  taken_of s (Repeat n ts) b h = absurd (has_none b h)
  taken_of s (Cast signed t) b h = absurd (has_none b h)
  taken_of s (Paren t) b h = absurd (has_none b h)

  all_taken_of : (s : Names) (ts : Trees) (b : Bit) → has_bit (all_taken s ts) b ≡ true → Of s b
  all_taken_of s End b h = absurd (has_none b h)
  all_taken_of s (More t ts) b h = elim (or_cases (has_bit (all_taken s ts) b) (has_bit (taken s t) b) (sym (has_append (all_taken s ts) (taken s t) b) ∙ h)) [
    | inl x ↦ all_taken_of s ts b x
    | inr x ↦ taken_of s t b x
  ]

mutual
  unfolding TargetReads

  indices_of : (s : Names) (t : Tree) (b : Bit) → TargetReads s t b → Of s b
  indices_of s (Name token name) b h = absurd h
  indices_of s (Literal token n) b h = absurd h
  indices_of s (BitSelect token name i) b h = named_of s i b h
  indices_of s (Part token name l r) b h = absurd h
  indices_of s (Indexed token name f n up) b h = named_of s f b h
  indices_of s (Unary op t) b h = absurd h
  indices_of s (Binary op l r) b h = absurd h
  indices_of s (Cond a c d) b h = absurd h
  indices_of s (Concat ts) b h = all_indices_of s ts b h
  indices_of s (Repeat n ts) b h = absurd h
  indices_of s (Cast signed t) b h = absurd h
  indices_of s (Paren t) b h = absurd h

  all_indices_of : (s : Names) (ts : Trees) (b : Bit) → TargetsRead s ts b → Of s b
  all_indices_of s End b h = absurd h
  all_indices_of s (More t ts) b h = elim h [ inl x ↦ indices_of s t b x | inr x ↦ all_indices_of s ts b x ]

mutual
  unfolding StatementReads

  pub read_of : (s : Names) (t : Statement) (b : Bit) → StatementReads s t b → Of s b
  read_of s Null b h = absurd h
  read_of s (Sequence label ss) b h = all_read_of s ss b h
  read_of s (If c t) b h = elim h [ inl x ↦ named_of s c b x | inr x ↦ read_of s t b x ]
  read_of s (IfElse c t u) b h = elim h [ inl x ↦ named_of s c b x | inr x ↦ elim x [ inl y ↦ read_of s t b y | inr y ↦ read_of s u b y ] ]
  read_of s (Case kind on arms) b h = elim h [ inl x ↦ named_of s on b x | inr x ↦ arms_read_of s arms b x ]
  read_of s (Assign t now e) b h = elim h [ inl x ↦ indices_of s t b x | inr x ↦ named_of s e b x ]
  read_of s (For head t) b h = absurd h

  all_read_of : (s : Names) (ts : Statements) (b : Bit) → StatementsRead s ts b → Of s b
  all_read_of s Done b h = absurd h
  all_read_of s (Then t ts) b h = elim h [ inl x ↦ read_of s t b x | inr x ↦ all_read_of s ts b x ]

  arm_read_of : (s : Names) (a : Arm) (b : Bit) → ArmReads s a b → Of s b
  arm_read_of s (CaseItem labels colon body) b h = elim h [ inl x ↦ all_named_of s labels b x | inr x ↦ read_of s body b x ]

  arms_read_of : (s : Names) (arms : Arms) (b : Bit) → ArmsRead s arms b → Of s b
  arms_read_of s NoArms b h = absurd h
  arms_read_of s (MoreArms a rest) b h = elim h [ inl x ↦ arm_read_of s a b x | inr x ↦ arms_read_of s rest b x ]

may_of : (s : Names) (ts : List Tree) (b : Bit) → may_write s ts b ≡ true → Of s b
unfolding may_write
may_of s [] b h = absurd (both_ways false refl h)
may_of s (t ∷ ts) b h = elim (or_cases (cond (is_fixed s t) (has_bit (target_bits s nowhere t) b) (is_bit_of (meant s (part_name t)) b)) (may_write s ts b) h) [
  | inl x ↦ elim (cases_Bool (is_fixed s t)) [
    | inl k ↦ target_of s nowhere t b (rw k at x)
    | inr k ↦ (part_name t, rw k at x)
  ]
  | inr x ↦ may_of s ts b x
]

mutual
  unfolding writes

  pub write_of : (now : Bool) (s : Names) (t : Statement) (b : Bit) → writes now s t b ≡ true → Of s b
  write_of now s Null b h = absurd (both_ways false refl h)
  write_of now s (Sequence label ss) b h = all_write_of now s ss b h
  write_of now s (If c t) b h = write_of now s t b h
  write_of now s (IfElse c t u) b h = elim (or_cases (writes now s t b) (writes now s u b) h) [ inl x ↦ write_of now s t b x | inr x ↦ write_of now s u b x ]
  write_of now s (Case kind on arms) b h = arms_write_of now s arms b h
  write_of now s (For head t) b h = absurd (both_ways false refl h)
  write_of true s (Assign t true e) b h = may_of s (target_parts t) b h
  write_of true s (Assign t false e) b h = absurd (both_ways false refl h)
  write_of false s (Assign t true e) b h = absurd (both_ways false refl h)
  write_of false s (Assign t false e) b h = may_of s (target_parts t) b h

  all_write_of : (now : Bool) (s : Names) (ts : Statements) (b : Bit) → write_any now s ts b ≡ true → Of s b
  all_write_of now s Done b h = absurd (both_ways false refl h)
  all_write_of now s (Then t ts) b h = elim (or_cases (writes now s t b) (write_any now s ts b) h) [ inl x ↦ write_of now s t b x | inr x ↦ all_write_of now s ts b x ]

  arm_write_of : (now : Bool) (s : Names) (a : Arm) (b : Bit) → arm_writes now s a b ≡ true → Of s b
  arm_write_of now s (CaseItem labels colon body) b h = write_of now s body b h

  arms_write_of : (now : Bool) (s : Names) (arms : Arms) (b : Bit) → arms_write now s arms b ≡ true → Of s b
  arms_write_of now s NoArms b h = absurd (both_ways false refl h)
  arms_write_of now s (MoreArms a rest) b h = elim (or_cases (arm_writes now s a b) (arms_write now s rest b) h) [ inl x ↦ arm_write_of now s a b x | inr x ↦ arms_write_of now s rest b x ]

meant_all : (P : Entity → Type 0) → P Instance → (s : Names) → ((i : ℕ) → i < length s → P (get_or s i ([], Instance)).1) → (name : List ℕ) → P (or_instance (lookup name s))
unfolding lookup
meant_all P n [] h name = n
meant_all P n (e ∷ es) h name = elim (cases_Bool (bytes_eq name e.0)) [
  | inl t ↦ rw t (h 0 (omega arith))
  | inr t ↦ rw t (meant_all P n es (λ i l. h (suc i) (omega arith)) name)
]

pub same_get : {A : Type 0} → (xs : List A) (k : ℕ) (x d : A) → k < length xs → get_or xs k x ≡ get_or xs k d
same_get [] k y d l = absurd (omega arith)
same_get (x ∷ xs) zero y d l = refl
same_get (x ∷ xs) (suc k) y d l = same_get xs k y d (omega arith)

pub width_is : (flat : Flat) (id : ℕ) → id < length flat.signals → get_or (widths flat) id 0 ≡ (signal_at flat.signals id).width
width_is flat id l = get_or-map (λ s. s.width) flat.signals id (signal_at flat.signals id) 0 l ∙ ap (λ s. s.width) (same_get flat.signals id (signal_at flat.signals id) no_signal l)

pub signal_there : (flat : Flat) (id : ℕ) (b : Bit) → IsClosed flat → id < length flat.signals → id ≡ b.signal → b.place < (signal_at flat.signals id).width → IsBit (widths flat) b
signal_there flat id b i l e p =
    let w = width_is flat id l in
    (omega (arith, length-map flat.signals (λ s. s.width)), let z : b.place < get_or (widths flat) id 0 = omega (arith, w, p) in subst (λ (n : ℕ). b.place < get_or (widths flat) n 0) e z)

entity_there : (flat : Flat) (e : Entity) (b : Bit) → IsClosed flat → IsNamed 0 flat.signals e → is_bit_of e b ≡ true → IsBit (widths flat) b
entity_there flat (Constant bits signed) b i n h = absurd (both_ways false refl h)
entity_there flat (Signal id range signed) b i (low, high, r, q) h =
    let p = and_parts (nat_eq id b.signal) (nat_lt b.place (range_width range)) h in
    let e : id ≡ b.signal = eqb-true id b.signal p.0 in
    let l : b.place < range_width range = ltb-true b.place (range_width range) p.1 in
    let w = i.signals id (omega arith) in
    let z0 : id - 0 ≡ id = omega arith in
    let q2 : (signal_at flat.signals id).range ≡ range = rw z0 at r in
    signal_there flat id b i (omega arith) e (omega (arith, w, ap range_width q2, l))
entity_there flat (Memory first low words range signed) b i (start, end, some, each) h =
    let p = and_parts (not (nat_lt b.signal first)) (nat_lt b.signal (first + words) && nat_lt b.place (range_width range)) h in
    let q = and_parts (nat_lt b.signal (first + words)) (nat_lt b.place (range_width range)) p.1 in
    let l : first ≤ b.signal = not_below b.signal first p.0 in
    let m : b.signal < first + words = ltb-true b.signal (first + words) q.0 in
    let w = each (b.signal - first) (omega arith) in
    let z : first + (b.signal - first) - 0 ≡ b.signal = omega arith in
    let r : (signal_at flat.signals b.signal).range ≡ range = rw z at w.range in
    let t : b.signal < length flat.signals = omega (arith, end) in
    signal_there flat b.signal b i t refl (omega (arith, i.signals b.signal t, ap range_width r, ltb-true b.place (range_width range) q.1))
  where
    not_below : (x y : ℕ) → not (nat_lt x y) ≡ true → y ≤ x
    not_below x y k = elim (cases_lt x y) [
      | inl g ↦ absurd (both_ways (not (nat_lt x y)) (ap not (lt-ltb x y g)) k)
      | inr g ↦ g
    ]
entity_there flat Instance b i n h = absurd (both_ways false refl h)

pub of_there : (flat : Flat) (k : ℕ) (b : Bit) → IsClosed flat → Of (scope_at flat k) b → IsBit (widths flat) b
unfolding meant
of_there flat k b i (name, h) =
    let n : IsNamed 0 flat.signals (meant (scope_at flat k) name) =
    meant_all (IsNamed 0 flat.signals) tt (scope_at flat k) (λ j l. All-get_or (λ e. IsNamed 0 flat.signals e.1) (scope_at flat k) j ([], Instance) l (i.scopes k)) name in
    entity_there flat (meant (scope_at flat k) name) b i n h

pub signal_bit : (flat : Flat) (id : ℕ) (b : Bit) → IsClosed flat → id < length flat.signals → has_bit (signal_bits flat id) b ≡ true → IsBit (widths flat) b
signal_bit flat id b i l h =
    let e : Entity = entity_of_signal flat id in
    let r : Option (ℕ × ℕ) = (signal_at flat.signals id).range in
    let o : is_bit_of (entity_of_signal flat id) b ≡ true = bits_of_name (entity_of_signal flat id) (pos 0) (signal_at flat.signals id).width b h in
    let p = and_parts (nat_eq id b.signal) (nat_lt b.place (range_width r)) o in
    let q : b.place < range_width r = ltb-true b.place (range_width r) p.1 in
    signal_there flat id b i l (eqb-true id b.signal p.0) (rw (i.signals id l) q)
