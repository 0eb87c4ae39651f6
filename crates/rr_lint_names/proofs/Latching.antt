-- Which names are noted for blocks, target by target and block by block.
use Rattle.std.proofs.Common.{◌≡◌, ◌∙◌, sym, ap, ap₂, subst, refl, ℕ, ◌+◌, ◌<◌, ◌≤◌, ◌⊎◌, inl, inr, Bool, true, false, ◌||◌, ◌&&◌, nat_eq, nat_lt, List, [], ◌∷◌, length, Option, arith}
use Rattle.std.specs.List.{list_any}
use Rattle.std.specs.Str.{bytes_eq}
use Rattle.std.proofs.lemmas.Bool.{cases_lt, eqb-true, eq-eqb, false_from_ne_true}
use Rattle.std.proofs.lemmas.Slice.Eq.{bytes_eq-Decides}
use Rattle.rr_syntax.specs.declared.tree.Named.{Named}
use Rattle.rr_syntax.specs.Tree.{Identifier, Statement, Tree}
use Rattle.rr_syntax.specs.View.{plain_identifier}
use Rattle.rr_text_names.specs.Names.{part_identifier}
use Rattle.rr_expr.specs.declared.types.Bit.{Bit}
use Rattle.rr_expr.specs.declared.types.Entity.{Entity}
use Rattle.rr_expr.specs.declared.types.Entity.TheVariants.{Constant, Signal, Memory, Instance}
use Rattle.rr_expr.specs.Scopes.{Names, meant, range_width}
use Rattle.rr_flat.specs.Plain.{Block, Flat}
use Rattle.rr_flat.specs.Reads.{Assigned, assigned_by}
use Rattle.rr_flat.specs.Targets.{is_bit_of, is_memory, part_name, same_bit}
use Rattle.rr_flat.specs.Writers.{block_at, scope_at}
use Rattle.rr_latch.specs.Immediate.{immediate}
use Rattle.rr_latch.specs.Paths.{listed}
use Rattle.rr_latch.specs.Unassigned.{KeepsBit}
use Rattle.rr_lint_laws.specs.Mended.{IsLatched, IsWordLatch, KeepsNoWord, MarkLatched, Marks, NoWordLatches}
use Rattle.rr_lint_names.specs.declared.fault.LintFault.{LintFault}
use Rattle.rr_lint_names.specs.declared.fault.LintFault.TheVariants as fault
use Rattle.rr_lint_names.specs.Faults.{IsBlockFault, IsLintFault}
use Rattle.rr_lint_names.specs.Latched.{is_below, is_low, is_noted, HasNoKeptWord, IsKept, IsKeptWord, NotesKept}
use Rattle.rr_lint_names.proofs.Lists.{any_map, find, Found}

pub and_left : (a b : Bool) → (a && b) ≡ true → a ≡ true
and_left true b h = refl
and_left false b h = h

pub and_right : (a b : Bool) → (a && b) ≡ true → b ≡ true
and_right true b h = h
and_right false b h = absurd (let bad : false ≡ true = h in cc)

pub and_both : (a b : Bool) → a ≡ true → b ≡ true → (a && b) ≡ true
and_both a b h k = ap₂ (λ x y. x && y) h k

pub or_cases : (a b : Bool) → (a || b) ≡ true → (a ≡ true) ⊎ (b ≡ true)
or_cases true b h = inl refl
or_cases false b h = inr h

pub or_left : (a b : Bool) → a ≡ true → (a || b) ≡ true
or_left a b h = ap (λ x. x || b) h

pub or_right : (a b : Bool) → b ≡ true → (a || b) ≡ true
or_right true b h = refl
or_right false b h = h

-- the names of targets are looked up by their text
pub name_text : (n : Named) (t : Tree) → plain_identifier n ≡ part_identifier t → n.name.now ≡ part_name t
unfolding plain_identifier
name_text n t h = ap (λ (i : Identifier). i.text) h

pub noted_here : (names : Names) (lows : ℕ → Option ℕ) (token : ℕ) (a : Assigned) (text : List ℕ) (b old t' : Bool) (t : ℕ) (name : List ℕ) → text ≡ part_name a.part → b ≡ is_low lows (meant names text) → b ≡ true →
    t' ≡ (old || (nat_eq t token && bytes_eq name text)) → t' ≡ (old || is_noted names lows token t name a)
noted_here names lows token a text b old t' t name e h k s = s ∙ ap (λ x. old || x) (with_text (nat_eq t token) (bytes_eq name text) (sym h ∙ k) ∙ ap (λ x. nat_eq t token && (bytes_eq name x && is_low lows (meant names x))) e)
  where
    with_text : (x y : Bool) → is_low lows (meant names text) ≡ true → (x && y) ≡ (x && (y && is_low lows (meant names text)))
    with_text x true q = ap (λ z. x && z) (sym q)
    with_text x false q = refl

pub noted_not : (names : Names) (lows : ℕ → Option ℕ) (token : ℕ) (a : Assigned) (text : List ℕ) (b old : Bool) (t : ℕ) (name : List ℕ) → text ≡ part_name a.part → b ≡ is_low lows (meant names text) → b ≡ false →
    old ≡ (old || is_noted names lows token t name a)
noted_not names lows token a text b old t name e h k = by_low (nat_eq t token) (bytes_eq name (part_name a.part)) (is_low lows (meant names (part_name a.part))) (sym (ap (λ x. is_low lows (meant names x)) e) ∙ sym h ∙ k)
  where
    or_no : (x : Bool) → x ≡ (x || false)
    or_no true = refl
    or_no false = refl

    by_low : (x y z : Bool) → z ≡ false → old ≡ (old || (x && (y && z)))
    by_low x y true q = absurd (let bad : true ≡ false = q in cc)
    by_low true true false q = or_no old
    by_low true false false q = or_no old
    by_low false y false q = or_no old

-- the bits of a list

pub same_self : (b : Bit) → same_bit b b ≡ true
same_self b = and_both (nat_eq b.signal b.signal) (nat_eq b.place b.place) (eq-eqb b.signal b.signal refl) (eq-eqb b.place b.place refl)

pub listed_any : (bits : List Bit) (b : Bit) → listed bits b ≡ list_any (λ c. same_bit c b) bits
unfolding listed
listed_any [] b = refl
listed_any (c ∷ bits) b = ap (λ x. same_bit c b || x) (listed_any bits b)

none_of : (bits : List Bit) → list_any (λ b. false) bits ≡ false
none_of [] = refl
none_of (c ∷ bits) = none_of bits

abbrev pub AreLows : (ℕ → Option ℕ) → List Bit → Type 0
AreLows lows bits = (id width : ℕ) → is_below width (lows id) ≡ list_any (λ b. nat_eq id b.signal && nat_lt b.place width) bits

low_is : (lows : ℕ → Option ℕ) (bits : List Bit) → AreLows lows bits → (e : Entity) → is_memory e ≡ false → is_low lows e ≡ list_any (is_bit_of e) bits
low_is lows bits h (Constant word signed) m = sym (none_of bits)
low_is lows bits h (Signal id range signed) m = h id (range_width range)
low_is lows bits h (Memory first low words range signed) m = absurd (let bad : true ≡ false = m in cc)
low_is lows bits h Instance m = sym (none_of bits)

-- a memory is not noted
low_whole : (lows : ℕ → Option ℕ) (e : Entity) → is_low lows e ≡ true → is_memory e ≡ false
low_whole lows (Constant word signed) l = refl
low_whole lows (Signal id range signed) l = refl
low_whole lows (Memory first low words range signed) l = absurd (let bad : false ≡ true = l in cc)
low_whole lows Instance l = refl

-- one of them is a bit of a name
record BitOf (bits : List Bit) (e : Entity) : Type 0 where
  bit : Bit
  named : is_bit_of e bit ≡ true
  there : listed bits bit ≡ true

low_bit : (lows : ℕ → Option ℕ) (bits : List Bit) → AreLows lows bits → (e : Entity) → is_low lows e ≡ true → BitOf bits e
low_bit lows bits h e l =
    let f : Found (is_bit_of e) bits = find (is_bit_of e) bits (sym (low_is lows bits h e (low_whole lows e l)) ∙ l) in
    record { bit = f.item; named = f.passes; there = listed_any bits f.item ∙ f.among (λ c. same_bit c f.item) (same_self f.item) }

pub same_bits : (c b : Bit) → same_bit c b ≡ true → b ≡ c
same_bits c b h =
    let s : c.signal ≡ b.signal = eqb-true c.signal b.signal (and_left (nat_eq c.signal b.signal) (nat_eq c.place b.place) h) in
    let p : c.place ≡ b.place = eqb-true c.place b.place (and_right (nat_eq c.signal b.signal) (nat_eq c.place b.place) h) in
    ap₂ (λ (x y : ℕ). let z : Bit = record { signal = x; place = y } in z) (sym s) (sym p)

bit_low : (lows : ℕ → Option ℕ) (bits : List Bit) → AreLows lows bits → (e : Entity) (b : Bit) → is_memory e ≡ false → is_bit_of e b ≡ true → listed bits b ≡ true → is_low lows e ≡ true
bit_low lows bits h e b m n l =
    let f : Found (λ c. same_bit c b) bits = find (λ c. same_bit c b) bits (sym (listed_any bits b) ∙ l) in
    low_is lows bits h e m ∙ f.among (is_bit_of e) (subst (λ (c : Bit). is_bit_of e c ≡ true) (same_bits f.item b f.passes) n)

-- the names that a block notes are those of which it keeps a bit
module _ (names : Names) (body : Statement) (lows : ℕ → Option ℕ) (bits : List Bit) (are : AreLows lows bits)
    (kept : (b : Bit) → listed bits b ≡ true → KeepsBit names (immediate body) b) (every : (b : Bit) → KeepsBit names (immediate body) b → listed bits b ≡ true) (none : HasNoKeptWord names body) where
  abbrev tests : ℕ → ℕ → List ℕ → Assigned → Bool
  tests block token name a = is_noted names lows block token name a

  noted_kept : (block token : ℕ) (name : List ℕ) → list_any (tests block token name) (assigned_by body) ≡ true → IsKept names body block token name
  noted_kept block token name h =
      let f : Found (tests block token name) (assigned_by body) = find (tests block token name) (assigned_by body) h in
      let text : List ℕ = part_name f.item.part in
      let rest : (bytes_eq name text && is_low lows (meant names text)) ≡ true = and_right (nat_eq token block) (bytes_eq name text && is_low lows (meant names text)) f.passes in
      let same : bytes_eq name text ≡ true = and_left (bytes_eq name text) (is_low lows (meant names text)) rest in
      let e : name ≡ text = (bytes_eq-Decides name text).0 same in
      let b : BitOf bits (meant names text) = low_bit lows bits are (meant names text) (and_right (bytes_eq name text) (is_low lows (meant names text)) rest) in
      record {
        is = sym (eqb-true token block (and_left (nat_eq token block) (bytes_eq name text && is_low lows (meant names text)) f.passes));
        target = any_map (bytes_eq name) (λ (a : Assigned). part_name a.part) (assigned_by body) ∙ f.among (λ a. bytes_eq name (part_name a.part)) same;
        bit = b.bit;
        named = subst (λ (x : List ℕ). is_bit_of (meant names x) b.bit ≡ true) (sym e) b.named;
        keeps = kept b.bit b.there;
      }

  kept_noted : (block token : ℕ) (name : List ℕ) → IsKept names body block token name → list_any (tests block token name) (assigned_by body) ≡ true
  kept_noted block token name k =
      let among : list_any (λ (a : Assigned). bytes_eq name (part_name a.part)) (assigned_by body) ≡ true = sym (any_map (bytes_eq name) (λ (a : Assigned). part_name a.part) (assigned_by body)) ∙ k.target in
      let f : Found (λ (a : Assigned). bytes_eq name (part_name a.part)) (assigned_by body) = find (λ (a : Assigned). bytes_eq name (part_name a.part)) (assigned_by body) among in
      let text : List ℕ = part_name f.item.part in
      let e : name ≡ text = (bytes_eq-Decides name text).0 f.passes in
      let whole : is_memory (meant names name) ≡ false =
      false_from_ne_true (is_memory (meant names name)) (λ q. none k.bit (record { name = name; target = k.target; memory = q; named = k.named; keeps = k.keeps })) in
      let low : is_low lows (meant names name) ≡ true = bit_low lows bits are (meant names name) k.bit whole k.named (every k.bit k.keeps) in
      f.among (tests block token name)
      (and_both (nat_eq token block) (bytes_eq name text && is_low lows (meant names text)) (eq-eqb token block (sym k.is))
      (and_both (bytes_eq name text) (is_low lows (meant names text)) f.passes (subst (λ (x : List ℕ). is_low lows (meant names x) ≡ true) e low)))

  pub notes_kept : (block : ℕ) (before after : Marks) (targets : List Assigned) → targets ≡ assigned_by body → ((t : ℕ) (name : List ℕ) → after t name ≡ (before t name || list_any (tests block t name) targets)) → NotesKept names body block before after
  notes_kept block before after targets same h = record {
    right = λ token name e. elim (or_cases (before token name) (list_any (tests block token name) targets) (sym (h token name) ∙ e)) [
      | inl b ↦ inl b
      | inr b ↦ inr (noted_kept block token name (sym (ap (list_any (tests block token name)) same) ∙ b))
    ];
    all = λ token name e. h token name ∙ by_case token name e;
  }
    where
      by_case : (token : ℕ) (name : List ℕ) → (before token name ≡ true) ⊎ IsKept names body block token name → (before token name || list_any (tests block token name) targets) ≡ true
      by_case token name (inl b) = or_left (before token name) (list_any (tests block token name) targets) b
      by_case token name (inr k) = or_right (before token name) (list_any (tests block token name) targets) (ap (list_any (tests block token name)) same ∙ kept_noted block token name k)

-- the blocks in turn

abbrev block_of : Flat → ℕ → Block
block_of flat k = block_at flat.combinational k

abbrev names_of : Flat → ℕ → Names
names_of flat k = scope_at flat (block_of flat k).scope

-- the names of the first blocks are noted, which keep no bit of a memory
pub record NotedTo (flat : Flat) (n : ℕ) (marks : Marks) : Type 0 where
  pub right : (token : ℕ) (name : List ℕ) → marks token name ≡ true → IsLatched flat token name
  pub all : (token : ℕ) (name : List ℕ) (k : ℕ) → k < n → IsKept (names_of flat k) (block_of flat k).body (block_of flat k).token token name → marks token name ≡ true
  pub words : (k : ℕ) → k < n → KeepsNoWord flat k

pub noted_start : (flat : Flat) (marks : Marks) → ((token : ℕ) (name : List ℕ) → marks token name ≡ false) → NotedTo flat 0 marks
noted_start flat marks h = record { right = λ token name e. absurd (let bad : true ≡ false = sym e ∙ h token name in cc); all = λ token name k l. absurd (omega (arith, l)); words = λ k l. absurd (omega (arith, l)) }

kept_latched : (flat : Flat) (n : ℕ) → n < length flat.combinational → (token : ℕ) (name : List ℕ) → IsKept (names_of flat n) (block_of flat n).body (block_of flat n).token token name → IsLatched flat token name
kept_latched flat n l token name k = record { block = n; inside = l; is = k.is; target = k.target; bit = k.bit; named = k.named; keeps = k.keeps }

-- what a block keeps of a memory, as a block of the design
kept_of_block : (flat : Flat) (n : ℕ) (bit : Bit) → IsWordLatch flat n bit → IsKeptWord (names_of flat n) (block_of flat n).body bit
kept_of_block flat n bit w = record { name = w.name; target = w.target; memory = w.memory; named = w.named; keeps = w.keeps }

latch_of_block : (flat : Flat) (n : ℕ) (bit : Bit) → IsKeptWord (names_of flat n) (block_of flat n).body bit → IsWordLatch flat n bit
latch_of_block flat n bit k = record { name = k.name; target = k.target; memory = k.memory; named = k.named; keeps = k.keeps }

noted_more : (flat : Flat) (n : ℕ) (before after : Marks) → n < length flat.combinational → NotedTo flat n before → NotesKept (names_of flat n) (block_of flat n).body (block_of flat n).token before after → HasNoKeptWord (names_of flat n) (block_of flat n).body
    → NotedTo flat (n + 1) after
noted_more flat n before after l r w none = record {
  right = λ token name e. elim (w.right token name e) [ inl b ↦ r.right token name b | inr k ↦ kept_latched flat n l token name k ];
  all = λ token name k m kept. w.all token name (by_place token name k m kept);
  words = λ k m. elim (cases_lt k n) [ inl u ↦ r.words k u | inr u ↦ (let e : n ≡ k = omega (arith, m, u) in subst (KeepsNoWord flat) e (λ bit h. none bit (kept_of_block flat n bit h))) ];
}
  where
    by_place : (token : ℕ) (name : List ℕ) (k : ℕ) → k < n + 1 → IsKept (names_of flat k) (block_of flat k).body (block_of flat k).token token name →
        (before token name ≡ true) ⊎ IsKept (names_of flat n) (block_of flat n).body (block_of flat n).token token name
    by_place token name k m kept = elim (cases_lt k n) [
      | inl u ↦ inl (r.all token name k u kept)
      | inr u ↦ (let e : k ≡ n = omega (arith, m, u) in inr (subst (λ (j : ℕ). IsKept (names_of flat j) (block_of flat j).body (block_of flat j).token token name) e kept))
    ]

pub noted_passed : (flat : Flat) (n : ℕ) (block : Block) (s : Names) (before after : Marks) → n < length flat.combinational → block ≡ block_at flat.combinational n → s ≡ scope_at flat block.scope → NotedTo flat n before → NotesKept s block.body block.token before after → HasNoKeptWord s block.body → NotedTo flat (n + 1) after
noted_passed flat n block s before after l e q r h none =
    let P : Names → Type 0 = λ z. NotesKept z block.body block.token before after in
    let Q : Block → Type 0 = λ w. NotesKept (scope_at flat w.scope) w.body w.token before after in
    let R : Names → Type 0 = λ z. HasNoKeptWord z block.body in
    let S : Block → Type 0 = λ w. HasNoKeptWord (scope_at flat w.scope) w.body in
    noted_more flat n before after l r (subst Q e (subst P q h)) (subst S e (subst R q none))

-- the first block that keeps a bit of a memory
pub block_fault : (flat : Flat) (n : ℕ) (block : Block) (s : Names) (marks : Marks) (f : LintFault) → n < length flat.combinational → block ≡ block_at flat.combinational n → s ≡ scope_at flat block.scope → NotedTo flat n marks → IsBlockFault s block.body block.token f → IsLintFault flat f
block_fault flat n block s marks (fault.Latch bit token) l e q r h =
    let P : Names → Type 0 = λ z. IsKeptWord z block.body bit in
    let Q : Block → Type 0 = λ w. IsKeptWord (scope_at flat w.scope) w.body bit in
    record { block = n; inside = l; is = h.0 ∙ ap (λ (w : Block). w.token) e; latch = latch_of_block flat n bit (subst Q e (subst P q h.1)); before = r.words }
block_fault flat n block s marks fault.Memory l e q r h = tt

pub noted_done : (flat : Flat) (n : ℕ) (marks : Marks) → length flat.combinational ≤ n → NotedTo flat n marks → MarkLatched flat marks × NoWordLatches flat
noted_done flat n marks l r = (
  record {
    right = r.right;
    all = λ token name w. r.all token name w.block (let i = w.inside in omega (arith, l, i)) (record { is = w.is; target = w.target; bit = w.bit; named = w.named; keeps = w.keeps });
  },
  λ k m. r.words k (omega (arith, l, m)),
)
