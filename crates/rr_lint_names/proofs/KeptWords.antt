-- The lowest kept bits in the words of memories, signal by signal and target by target.
use Rattle.std.proofs.Common.{◌≡◌, ◌∙◌, sym, ap, subst, refl, ℕ, zero, suc, ◌+◌, ◌-◌, ◌<◌, ◌≤◌, inl, inr, Bool, true, false, not, ◌&&◌, nat_eq, nat_lt, List, [], ◌∷◌, length, map, take, get_or, Option, None, Some, Result, Ok, Err, IfNone, IfOk, IfSome, arith}
use Rattle.std.specs.List.{list_any}
use Rattle.std.specs.Str.{bytes_eq}
use Rattle.std.proofs.lemmas.Bool.{and_parts, both_ways, cases_lt, eqb-true, eq-eqb, false_from_ne_true, le-ltb, lt-ltb, ltb-false, ltb-true}
use Rattle.std.proofs.lemmas.List.{get_or_default}
use Rattle.std.proofs.lemmas.Slice.Eq.{bytes_eq-Decides}
use Rattle.rr_syntax.specs.Tree.{Statement}
use Rattle.rr_text_names.specs.declared.lists.Target.{Target}
use Rattle.rr_text_names.specs.View.{plain_target}
use Rattle.rr_expr.specs.declared.types.Bit.{Bit}
use Rattle.rr_expr.specs.declared.types.Entity.{Entity}
use Rattle.rr_expr.specs.declared.types.Entity.TheVariants.{Constant, Signal, Memory, Instance}
use Rattle.rr_expr.specs.Scopes.{Names, meant, range_width}
use Rattle.rr_flat.specs.Reads.{Assigned, assigned_by}
use Rattle.rr_flat.specs.Targets.{is_bit_of, is_memory, part_name, same_bit}
use Rattle.rr_latch.specs.Immediate.{immediate}
use Rattle.rr_latch.specs.Paths.{listed}
use Rattle.rr_latch.specs.Unassigned.{KeepsBit}
use Rattle.rr_lint_laws.specs.Mended.{Marks}
use Rattle.rr_lint_names.specs.Latched.{is_below, is_target, HasNoKeptWord, HasNoLowWord, HaveNoLowWord, IsKeptWord, IsLowFrom, IsLowTarget, IsLowWord, NotesKept}
use Rattle.rr_lint_names.proofs.Latching.{AreLows, and_both, and_left, and_right, listed_any, or_cases, or_left, or_right, same_bits}
use Rattle.rr_lint_names.proofs.Lists.{any_map, any_map_full, any_map_next, find, Found}

not_true : (b : Bool) → not b ≡ true → b ≡ false
not_true true h = absurd (let bad : false ≡ true = h in cc)
not_true false h = refl

-- Signal by signal

abbrev pub NoneTo : (ℕ → Option ℕ) → ℕ → ℕ → ℕ → Type 0
NoneTo lows first width n = (k : ℕ) → k < n → is_below width (lows (first + k)) ≡ false

pub none_start : (lows : ℕ → Option ℕ) (first width : ℕ) → NoneTo lows first width 0
none_start lows first width k l = absurd (omega (arith, l))

pub none_more : (lows : ℕ → Option ℕ) (first width n signal : ℕ) → NoneTo lows first width n → signal ≡ first + n → is_below width (lows signal) ≡ false → NoneTo lows first width (n + 1)
none_more lows first width n signal r e h k l = elim (cases_lt k n) [
  | inl u ↦ r k u
  | inr u ↦ (let q : signal ≡ first + k = omega (arith, l, u, e) in subst (λ (id : ℕ). is_below width (lows id) ≡ false) q h)
]

pub none_all : (lows : ℕ → Option ℕ) (first width words n : ℕ) → words ≤ n → NoneTo lows first width n → NoneTo lows first width words
none_all lows first width words n l r k m = r k (omega (arith, l, m))

pub low_here : (lows : ℕ → Option ℕ) (first width words n signal place : ℕ) → signal ≡ first + n → n < words → lows signal ≡ Some place → place < width → IsLowFrom lows first words width (record { signal = signal; place = place })
low_here lows first width words n signal place e l h b = record { from = omega (arith, e); to = omega (arith, e, l); below = b; low = h }

-- The words of a name

low_in_words : (lows : ℕ → Option ℕ) (first low words : ℕ) (range : Option (ℕ × ℕ)) (signed : Bool) (bit : Bit) → IsLowFrom lows first words (range_width range) bit → IsLowWord lows (Memory first low words range signed) bit
low_in_words lows first low words range signed bit f = record {
  memory = refl;
  named = rw (le-ltb bit.signal first f.from, lt-ltb bit.signal (first + words) f.to, lt-ltb bit.place (range_width range) f.below) refl;
  low = f.low;
}

no_low_in_words : (lows : ℕ → Option ℕ) (first low words : ℕ) (range : Option (ℕ × ℕ)) (signed : Bool) → NoneTo lows first (range_width range) words → HasNoLowWord lows (Memory first low words range signed)
no_low_in_words lows first low words range signed none bit w =
    let p = and_parts (not (nat_lt bit.signal first)) (nat_lt bit.signal (first + words) && nat_lt bit.place (range_width range)) w.named in
    let q = and_parts (nat_lt bit.signal (first + words)) (nat_lt bit.place (range_width range)) p.1 in
    let from : first ≤ bit.signal = ltb-false bit.signal first (not_true (nat_lt bit.signal first) p.0) in
    let to : bit.signal < first + words = ltb-true bit.signal (first + words) q.0 in
    let is : first + (bit.signal - first) ≡ bit.signal = omega (arith, from) in
    let there : is_below (range_width range) (lows bit.signal) ≡ true = ap (is_below (range_width range)) w.low ∙ q.1 in
    let absent : is_below (range_width range) (lows bit.signal) ≡ false =
    subst (λ (id : ℕ). is_below (range_width range) (lows id) ≡ false) is (none (bit.signal - first) (omega (arith, from, to))) in
    both_ways (is_below (range_width range) (lows bit.signal)) absent there

pub no_memory : (lows : ℕ → Option ℕ) (e : Entity) → is_memory e ≡ false → HasNoLowWord lows e
no_memory lows e m bit w = both_ways (is_memory e) m w.memory

-- an answer for signals one after the other is one for the memory
pub some_word : {E : Type 0} (lows : ℕ → Option ℕ) (e : Entity) (first low words width : ℕ) (range : Option (ℕ × ℕ)) (signed : Bool) (r : Result (Option Bit) E) → e ≡ Memory first low words range signed → width ≡ range_width range
    → IfOk r (λ o. IfSome o (IsLowFrom lows first words width)) → IfOk r (λ o. IfSome o (IsLowWord lows e))
some_word lows e first low words width range signed (Ok None) q w h = tt
some_word lows e first low words width range signed (Ok (Some bit)) q w h =
    subst (λ (x : Entity). IsLowWord lows x bit) (sym q) (low_in_words lows first low words range signed bit (subst (λ (n : ℕ). IsLowFrom lows first words n bit) w h))
some_word lows e first low words width range signed (Err f) q w h = tt

pub none_word : {E : Type 0} (lows : ℕ → Option ℕ) (e : Entity) (first low words width : ℕ) (range : Option (ℕ × ℕ)) (signed : Bool) (r : Result (Option Bit) E) → e ≡ Memory first low words range signed → width ≡ range_width range
    → IfOk r (λ o. IfNone o (NoneTo lows first width words)) → IfOk r (λ o. IfNone o (HasNoLowWord lows e))
none_word lows e first low words width range signed (Ok None) q w h =
    subst (HasNoLowWord lows) (sym q) (no_low_in_words lows first low words range signed (subst (λ (n : ℕ). NoneTo lows first n words) w h))
none_word lows e first low words width range signed (Ok (Some bit)) q w h = tt
none_word lows e first low words width range signed (Err f) q w h = tt

-- Target by target

abbrev has_name : List ℕ → Assigned → Bool
has_name name a = bytes_eq name (part_name a.part)

pub targets_none : (names : Names) (lows : ℕ → Option ℕ) (xs : List Target) → HaveNoLowWord names lows (map plain_target (take 0 xs))
targets_none names lows [] name h = absurd (let bad : false ≡ true = h in cc)
targets_none names lows (x ∷ xs) name h = absurd (let bad : false ≡ true = h in cc)

pub targets_next : (names : Names) (lows : ℕ → Option ℕ) (xs : List Target) (i : ℕ) (d : Target) → i < length xs → HaveNoLowWord names lows (map plain_target (take i xs))
    → HasNoLowWord lows (meant names (part_name (plain_target (get_or xs i d)).part)) → HaveNoLowWord names lows (map plain_target (take (i + 1) xs))
targets_next names lows xs i d l r none name h =
    let x : Target = get_or xs i d in
    let both = any_map_next (has_name name) plain_target xs i x l (get_or_default xs i d x l) in
    elim (or_cases (list_any (has_name name) (map plain_target (take i xs))) (has_name name (plain_target x)) (sym both ∙ h)) [
      | inl old ↦ r name old
      | inr new ↦ subst (λ (text : List ℕ). HasNoLowWord lows (meant names text)) (sym ((bytes_eq-Decides name (part_name (plain_target x).part)).0 new)) none
    ]

pub targets_all : (names : Names) (lows : ℕ → Option ℕ) (xs : List Target) (i : ℕ) → length xs ≤ i → HaveNoLowWord names lows (map plain_target (take i xs)) → HaveNoLowWord names lows (map plain_target xs)
targets_all names lows xs i l r name h = r name (any_map_full (has_name name) plain_target xs i l ∙ h)

any_at : {A : Type 0} (f : A → Bool) (xs : List A) (i : ℕ) (d : A) → i < length xs → f (get_or xs i d) ≡ true → list_any f xs ≡ true
any_at f [] i d l h = absurd (omega (arith, l))
any_at f (x ∷ xs) zero d l h = or_left (f x) (list_any f xs) h
any_at f (x ∷ xs) (suc i) d l h = or_right (f x) (list_any f xs) (any_at f xs i d (omega (arith, l)) h)

pub target_some : (names : Names) (lows : ℕ → Option ℕ) (xs : List Target) (i : ℕ) (d : Target) (bit : Bit) → i < length xs → IsLowWord lows (meant names (part_name (plain_target (get_or xs i d)).part)) bit
    → IsLowTarget names lows (map plain_target xs) bit
target_some names lows xs i d bit l w =
    let name : List ℕ = part_name (plain_target (get_or xs i d)).part in
    record {
      name = name;
      target = any_map (has_name name) plain_target xs ∙ any_at (λ (x : Target). has_name name (plain_target x)) xs i d l ((bytes_eq-Decides name name).1 refl);
      low = w;
    }

-- The bits that a block keeps

-- the lowest place of a signal is that of a bit
low_listed : (lows : ℕ → Option ℕ) (bits : List Bit) → AreLows lows bits → (b : Bit) → lows b.signal ≡ Some b.place → listed bits b ≡ true
low_listed lows bits are b h =
    let up : list_any (within (b.place + 1)) bits ≡ true = sym (are b.signal (b.place + 1)) ∙ (ap (is_below (b.place + 1)) h ∙ lt-ltb b.place (b.place + 1) (omega arith)) in
    let none : list_any (within b.place) bits ≡ false = sym (are b.signal b.place) ∙ (ap (is_below b.place) h ∙ le-ltb b.place b.place (omega arith)) in
    let f : Found (within (b.place + 1)) bits = find (within (b.place + 1)) bits up in
    let same : nat_eq b.signal f.item.signal ≡ true = and_left (nat_eq b.signal f.item.signal) (nat_lt f.item.place (b.place + 1)) f.passes in
    let near : f.item.place < b.place + 1 = ltb-true f.item.place (b.place + 1) (and_right (nat_eq b.signal f.item.signal) (nat_lt f.item.place (b.place + 1)) f.passes) in
    let least : nat_lt f.item.place b.place ≡ false =
    false_from_ne_true (nat_lt f.item.place b.place)
    (λ q. both_ways (list_any (within b.place) bits) none (f.among (within b.place) (and_both (nat_eq b.signal f.item.signal) (nat_lt f.item.place b.place) same q))) in
    let far : b.place ≤ f.item.place = ltb-false f.item.place b.place least in
    let place : f.item.place ≡ b.place = omega (arith, near, far) in
    listed_any bits b
    ∙ f.among (λ c. same_bit c b)
    (and_both (nat_eq f.item.signal b.signal) (nat_eq f.item.place b.place) (eq-eqb f.item.signal b.signal (sym (eqb-true b.signal f.item.signal same))) (eq-eqb f.item.place b.place place))
  where
    within : ℕ → Bit → Bool
    within width c = nat_eq b.signal c.signal && nat_lt c.place width

-- a bit of a memory that is listed has a lowest one in its signal
bit_word : (lows : ℕ → Option ℕ) (bits : List Bit) → AreLows lows bits → (e : Entity) (b : Bit) → is_memory e ≡ true → is_bit_of e b ≡ true → listed bits b ≡ true → HasNoLowWord lows e → ⊥
bit_word lows bits are (Constant word signed) b m n l none = absurd (let bad : false ≡ true = m in cc)
bit_word lows bits are (Signal id range signed) b m n l none = absurd (let bad : false ≡ true = m in cc)
bit_word lows bits are (Memory first low words range signed) b m n l none =
    let p = and_parts (not (nat_lt b.signal first)) (nat_lt b.signal (first + words) && nat_lt b.place (range_width range)) n in
    let q = and_parts (nat_lt b.signal (first + words)) (nat_lt b.place (range_width range)) p.1 in
    let f : Found (λ c. same_bit c b) bits = find (λ c. same_bit c b) bits (sym (listed_any bits b) ∙ l) in
    let here : within b ≡ true = and_both (nat_eq b.signal b.signal) (nat_lt b.place (range_width range)) (eq-eqb b.signal b.signal refl) q.1 in
    let there : is_below (range_width range) (lows b.signal) ≡ true = are b.signal (range_width range) ∙ f.among within (subst (λ (c : Bit). within c ≡ true) (same_bits f.item b f.passes) here) in
    by_low (lows b.signal) refl there p.0 q.0
  where
    within : Bit → Bool
    within c = nat_eq b.signal c.signal && nat_lt c.place (range_width range)

    by_low : (o : Option ℕ) → lows b.signal ≡ o → is_below (range_width range) o ≡ true → not (nat_lt b.signal first) ≡ true → nat_lt b.signal (first + words) ≡ true → ⊥
    by_low None e h from to = absurd (let bad : false ≡ true = h in cc)
    by_low (Some place) e h from to =
        none (record { signal = b.signal; place = place })
        (record {
          memory = refl;
          named = and_both (not (nat_lt b.signal first)) (nat_lt b.signal (first + words) && nat_lt place (range_width range)) from (and_both (nat_lt b.signal (first + words)) (nat_lt place (range_width range)) to h);
          low = e;
        })
bit_word lows bits are Instance b m n l none = absurd (let bad : false ≡ true = m in cc)

module _ (names : Names) (body : Statement) (targets : List Assigned) (are_targets : targets ≡ assigned_by body) where
  -- a target by its name
  name_of : (name : List ℕ) → list_any (bytes_eq name) (map (λ (a : Assigned). part_name a.part) (assigned_by body)) ≡ is_target targets name
  name_of name = any_map (bytes_eq name) (λ (a : Assigned). part_name a.part) (assigned_by body) ∙ sym (ap (λ (xs : List Assigned). is_target xs name) are_targets)

  pub no_kept_word : (lows : ℕ → Option ℕ) (bits : List Bit) → AreLows lows bits → ((b : Bit) → KeepsBit names (immediate body) b → listed bits b ≡ true) → HaveNoLowWord names lows targets → HasNoKeptWord names body
  no_kept_word lows bits are every none bit k =
      bit_word lows bits are (meant names k.name) bit k.memory k.named (every bit k.keeps) (none k.name (sym (name_of k.name) ∙ k.target))

  pub its_kept_word : (lows : ℕ → Option ℕ) (bits : List Bit) → AreLows lows bits → ((b : Bit) → listed bits b ≡ true → KeepsBit names (immediate body) b) → (bit : Bit) → IsLowTarget names lows targets bit → IsKeptWord names body bit
  its_kept_word lows bits are kept bit t = record {
    name = t.name;
    target = name_of t.name ∙ t.target;
    memory = t.low.memory;
    named = t.low.named;
    keeps = kept bit (low_listed lows bits are bit t.low.low);
  }

-- Nothing is kept

module _ (names : Names) (body : Statement) (bits : List Bit) (none : length bits ≡ 0) (every : (b : Bit) → KeepsBit names (immediate body) b → listed bits b ≡ true) where
  unlisted : (xs : List Bit) (b : Bit) → length xs ≡ 0 → listed xs b ≡ true → ⊥
  unfolding listed
  unlisted [] b e h = let bad : false ≡ true = h in cc
  unlisted (x ∷ xs) b e h = absurd (omega (arith, e))

  pub none_noted : (block : ℕ) (marks : Marks) → NotesKept names body block marks marks
  none_noted block marks = record {
    right = λ token name e. inl e;
    all = λ token name e. elim e [ inl h ↦ h | inr k ↦ absurd (unlisted bits k.bit none (every k.bit k.keeps)) ];
  }

  pub none_kept : HasNoKeptWord names body
  none_kept bit k = unlisted bits bit none (every bit k.keeps)
