-- clocked blocks may run one after the other: what one writes by `=` no other reads
use Rattle.std.proofs.Common.{◌≡◌, ℕ, zero, suc, ◌+◌, ◌≤◌, ◌<◌, max, List, [], ◌∷◌, ◌++◌, length, get_or, drop, drop-cons, flat_map, refl, ap, ◌∙◌, sym, arith, Bool, true, false, not, cond, ◌&&◌, ◌||◌, nat_eq, nat_lt, Some, is_none, ◌⊎◌, inl, inr, length-append, pos}
use mathlib.Core.Path.{fun_ext}
use Rattle.std.proofs.lemmas.Bool.{cases_eq, both_ways, or_cases, and_parts, eqb-true, ltb-true, ltb-false, not-true}
use Rattle.std.proofs.lemmas.List.{get_or_append_left, get_or-append-add, drop_all}
use Rattle.rr_syntax.specs.Tree.{Tree, Trees, Name, Literal, Bit as BitSelect, Part, Indexed, Unary, Binary, Cond, Concat, Repeat, Cast, Paren, End, More, Identifier, Statement, Statements, Arm, Arms, Null, Block as Sequence, If, IfElse, Case, Assign, For, Done, Then, CaseItem, NoArms, MoreArms}
use Rattle.rr_expr.specs.declared.types.Bit.{Bit}
use Rattle.rr_expr.specs.declared.types.Entity.{Entity}
use Rattle.rr_expr.specs.declared.types.Entity.TheVariants.{Constant, Signal, Memory, Instance}
use Rattle.rr_expr.specs.declared.types.Shape.{Shape}
use Rattle.rr_expr.specs.Reading.{IsBitOf, NamesAt, NamesBit, NamesBits}
use Rattle.rr_expr.specs.Faults.{fault, constant_count, constant_span}
use Rattle.rr_expr.specs.Scopes.{Names, meant, entity_shape, entity_range, range_width}
use Rattle.rr_expr.specs.Selects.{place, lowest_place, integer_with}
use Rattle.rr_expr.specs.Values.{form, value, nowhere}
use Rattle.rr_expr.proofs.MemoryWords.{index_among}
use Rattle.rr_expr.proofs.NamedBits.{value_by_named_bits}
use Rattle.rr_flat.specs.Latches.{is_default}
use Rattle.rr_flat.specs.Elaborated.{OneVariable}
use Rattle.rr_flat.specs.Lawful.{NoRace, OneWriter, AssignedIn}
use Rattle.rr_flat.specs.Plain.{Flat}
use Rattle.rr_flat.specs.Plain as plain
use Rattle.rr_flat.specs.Reads.{Assigned, TargetReads, TargetsRead, StatementReads, StatementsRead, ArmReads, ArmsRead, names_in, names_in_parts, index_names, index_names_in, names_read, names_read_by, names_read_by_arm, names_read_by_arms, assigned_by, assigned_by_all, assigned_by_arm, assigned_by_arms, assigned_parts, writes, write_any, arm_writes, arms_write}
use Rattle.rr_flat.specs.Targets.{has_bit, variable_of, is_bit_of, is_constant, target_bits, target_parts, targets_parts, part_name, is_fixed, may_write}
use Rattle.rr_flat.specs.Writers.{scope_at, block_at, no_block, Writer, Clocked, Writes, writes_now, writes_later}
use Rattle.rr_cycle.specs.Cycles.{after_block, AfterBlocks, updates_of_block, IsNext}
use Rattle.rr_cycle.specs.Exec.{Environment, assigned, is_true, labels_of, case_shape, is_matched, executed, executed_all, executed_arm, executed_case, executed_default, Update, updates, updates_of_all, updates_of_arm, updates_of_case, updates_of_default, applied}
use Rattle.rr_cycle.specs.Performing.{run_blocks, updates_of_blocks}
use Rattle.rr_cycle.proofs.Local.{outside, test_same, match_same}
use Rattle.rr_cycle.proofs.Settling.{search_below, true_or_not}
use Rattle.rr_cycle.proofs.TargetBits.{Agree, target_local}
use Rattle.rr_cycle.proofs.Writes.{write_agree}
use Rattle.rr_flat.proofs.Bits.{or_left, or_right, missed, index_of_name, bits_of_name}

abbrev Within : (Bit → Type 0) → (Bit → Type 0) → Type 0
Within P R = (b : Bit) → P b → R b

named : (R P : Bit → Type 0) (e f : Environment) → Within P R → Agree e f R → Agree e f P
named R P e f r h = λ b n. h b (r b n)

branch_agree : (c d : Bool) (x y u v : Environment) (b : Bit) → c ≡ d → x b ≡ u b → y b ≡ v b → cond c x y b ≡ cond d u v b
branch_agree true d x y u v b q h k = rw (← q) h
branch_agree false d x y u v b q h k = rw (← q) k

-- environments that agree on what a statement reads agree there after it, and wherever else they did
mutual
  unfolding executed StatementReads

  pub agree_after : (s : Names) (R : Bit → Type 0) (t : Statement) (e f : Environment) → Within (StatementReads s t) R → Agree e f R → Agree (executed s t e) (executed s t f) R
  agree_after s R Null e f r h = h
  agree_after s R (Sequence label ss) e f r h = agree_all s R ss e f r h
  agree_after s R (If c t) e f r h = λ b q.
      branch_agree (is_true s c e) (is_true s c f) (executed s t e) e (executed s t f) f b
      (test_same s c e f (named R (NamesBit s c) e f (λ a m. r a (inl m)) h)) (agree_after s R t e f (λ a m. r a (inr m)) h b q) (h b q)
  agree_after s R (IfElse c t u) e f r h = λ b q.
      branch_agree (is_true s c e) (is_true s c f) (executed s t e) (executed s u e) (executed s t f) (executed s u f) b
      (test_same s c e f (named R (NamesBit s c) e f (λ a m. r a (inl m)) h))
      (agree_after s R t e f (λ a m. r a (inr (inl m))) h b q) (agree_after s R u e f (λ a m. r a (inr (inr m))) h b q)
  agree_after s R (Case kind on arms) e f r h = λ b q.
      let a = case_shape s on arms in
      let v : value s on e a.width a.signed ≡ value s on f a.width a.signed = value_by_named_bits s on e f (named R (NamesBit s on) e f (λ a m. r a (inl m)) h) a.width a.signed in
      ap (λ (x : List Bool). executed_case s kind a x arms (executed_default s arms e) e b) v
      ∙ agree_case s R kind a (value s on f a.width a.signed) arms (executed_default s arms e) (executed_default s arms f) e f (λ a m. r a (inr m)) h b q
      (agree_default s R arms e f (λ a m. r a (inr m)) h b q)
  agree_after s R (Assign t true x) e f r h = λ b q.
      let v : assigned s t x e ≡ assigned s t x f = value_by_named_bits s x e f (named R (NamesBit s x) e f (λ a m. r a (inr m)) h) (max (form s t).width (form s x).width) (form s x).signed in
      let p : target_bits s e t ≡ target_bits s f t = target_local s e f t (named R (TargetReads s t) e f (λ a m. r a (inl m)) h) in
      write_agree (target_bits s e t) (assigned s t x e) e f b (inl (h b q)) ∙ rw (p, v) refl
  agree_after s R (Assign t false x) e f r h = h
  agree_after s R (For head t) e f r h = h

  agree_all : (s : Names) (R : Bit → Type 0) (ss : Statements) (e f : Environment) → Within (StatementsRead s ss) R → Agree e f R → Agree (executed_all s ss e) (executed_all s ss f) R
  agree_all s R Done e f r h = h
  agree_all s R (Then t ts) e f r h = agree_all s R ts (executed s t e) (executed s t f) (λ b q. r b (inr q)) (agree_after s R t e f (λ b q. r b (inl q)) h)

  agree_arm : (s : Names) (R : Bit → Type 0) (arm : Arm) (e f : Environment) → Within (ArmReads s arm) R → Agree e f R → Agree (executed_arm s arm e) (executed_arm s arm f) R
  agree_arm s R (CaseItem labels colon body) e f r h = agree_after s R body e f (λ b q. r b (inr q)) h

  labels_same : (s : Names) (R : Bit → Type 0) (kind : ℕ) (a : Shape) (x : List Bool) (arm : Arm) (e f : Environment) → Within (ArmReads s arm) R → Agree e f R →
      is_matched s kind a x (labels_of arm) e ≡ is_matched s kind a x (labels_of arm) f
  labels_same s R kind a x (CaseItem labels colon body) e f r h = match_same s kind a x labels e f (named R (NamesBits s labels) e f (λ b q. r b (inl q)) h)

  agree_case : (s : Names) (R : Bit → Type 0) (kind : ℕ) (a : Shape) (x : List Bool) (arms : Arms) (o p e f : Environment) → Within (ArmsRead s arms) R → Agree e f R →
      (b : Bit) → R b → o b ≡ p b → executed_case s kind a x arms o e b ≡ executed_case s kind a x arms p f b
  agree_case s R kind a x NoArms o p e f r h b q same = same
  agree_case s R kind a x (MoreArms arm rest) o p e f r h b q same =
      branch_agree (is_matched s kind a x (labels_of arm) e) (is_matched s kind a x (labels_of arm) f)
      (executed_arm s arm e) (executed_case s kind a x rest o e) (executed_arm s arm f) (executed_case s kind a x rest p f) b
      (labels_same s R kind a x arm e f (λ b q. r b (inl q)) h)
      (agree_arm s R arm e f (λ b q. r b (inl q)) h b q) (agree_case s R kind a x rest o p e f (λ b q. r b (inr q)) h b q same)

  agree_default : (s : Names) (R : Bit → Type 0) (arms : Arms) (e f : Environment) → Within (ArmsRead s arms) R → Agree e f R → (b : Bit) → R b →
      executed_default s arms e b ≡ executed_default s arms f b
  agree_default s R NoArms e f r h b q = h b q
  agree_default s R (MoreArms arm rest) e f r h b q =
      branch_agree (is_default arm) (is_default arm) (executed_arm s arm e) (executed_default s rest e) (executed_arm s arm f) (executed_default s rest f) b refl
      (agree_arm s R arm e f (λ b q. r b (inl q)) h b q) (agree_default s R rest e f (λ b q. r b (inr q)) h b q)

branch_same : (c d : Bool) (x y u v : List Update) → c ≡ d → x ≡ u → y ≡ v → cond c x y ≡ cond d u v
branch_same true d x y u v q h k = rw (← q) h
branch_same false d x y u v q h k = rw (← q) k

-- and leave the same updates
mutual
  unfolding updates StatementReads

  pub updates_same : (s : Names) (R : Bit → Type 0) (t : Statement) (e f : Environment) → Within (StatementReads s t) R → Agree e f R → updates s t e ≡ updates s t f
  updates_same s R Null e f r h = refl
  updates_same s R (Sequence label ss) e f r h = all_same s R ss e f r h
  updates_same s R (If c t) e f r h =
      branch_same (is_true s c e) (is_true s c f) (updates s t e) [] (updates s t f) []
      (test_same s c e f (named R (NamesBit s c) e f (λ a m. r a (inl m)) h)) (updates_same s R t e f (λ a m. r a (inr m)) h) refl
  updates_same s R (IfElse c t u) e f r h =
      branch_same (is_true s c e) (is_true s c f) (updates s t e) (updates s u e) (updates s t f) (updates s u f)
      (test_same s c e f (named R (NamesBit s c) e f (λ a m. r a (inl m)) h))
      (updates_same s R t e f (λ a m. r a (inr (inl m))) h) (updates_same s R u e f (λ a m. r a (inr (inr m))) h)
  updates_same s R (Case kind on arms) e f r h =
      let a = case_shape s on arms in
      let v : value s on e a.width a.signed ≡ value s on f a.width a.signed = value_by_named_bits s on e f (named R (NamesBit s on) e f (λ a m. r a (inl m)) h) a.width a.signed in
      ap (λ (x : List Bool). updates_of_case s kind a x arms (updates_of_default s arms e) e) v
      ∙ case_same s R kind a (value s on f a.width a.signed) arms (updates_of_default s arms e) (updates_of_default s arms f) e f (λ a m. r a (inr m)) h
      (default_same s R arms e f (λ a m. r a (inr m)) h)
  updates_same s R (Assign t true x) e f r h = refl
  updates_same s R (Assign t false x) e f r h =
      let v : assigned s t x e ≡ assigned s t x f = value_by_named_bits s x e f (named R (NamesBit s x) e f (λ a m. r a (inr m)) h) (max (form s t).width (form s x).width) (form s x).signed in
      let p : target_bits s e t ≡ target_bits s f t = target_local s e f t (named R (TargetReads s t) e f (λ a m. r a (inl m)) h) in
      rw (p, v) refl
  updates_same s R (For head t) e f r h = refl

  all_same : (s : Names) (R : Bit → Type 0) (ss : Statements) (e f : Environment) → Within (StatementsRead s ss) R → Agree e f R → updates_of_all s ss e ≡ updates_of_all s ss f
  all_same s R Done e f r h = refl
  all_same s R (Then t ts) e f r h =
      rw (updates_same s R t e f (λ b q. r b (inl q)) h, all_same s R ts (executed s t e) (executed s t f) (λ b q. r b (inr q)) (agree_after s R t e f (λ b q. r b (inl q)) h)) refl

  arm_same : (s : Names) (R : Bit → Type 0) (arm : Arm) (e f : Environment) → Within (ArmReads s arm) R → Agree e f R → updates_of_arm s arm e ≡ updates_of_arm s arm f
  arm_same s R (CaseItem labels colon body) e f r h = updates_same s R body e f (λ b q. r b (inr q)) h

  case_same : (s : Names) (R : Bit → Type 0) (kind : ℕ) (a : Shape) (x : List Bool) (arms : Arms) (o p : List Update) (e f : Environment) → Within (ArmsRead s arms) R → Agree e f R →
      o ≡ p → updates_of_case s kind a x arms o e ≡ updates_of_case s kind a x arms p f
  case_same s R kind a x NoArms o p e f r h same = same
  case_same s R kind a x (MoreArms arm rest) o p e f r h same =
      branch_same (is_matched s kind a x (labels_of arm) e) (is_matched s kind a x (labels_of arm) f)
      (updates_of_arm s arm e) (updates_of_case s kind a x rest o e) (updates_of_arm s arm f) (updates_of_case s kind a x rest p f)
      (labels_same s R kind a x arm e f (λ b q. r b (inl q)) h)
      (arm_same s R arm e f (λ b q. r b (inl q)) h) (case_same s R kind a x rest o p e f (λ b q. r b (inr q)) h same)

  default_same : (s : Names) (R : Bit → Type 0) (arms : Arms) (e f : Environment) → Within (ArmsRead s arms) R → Agree e f R → updates_of_default s arms e ≡ updates_of_default s arms f
  default_same s R NoArms e f r h = refl
  default_same s R (MoreArms arm rest) e f r h =
      branch_same (is_default arm) (is_default arm) (updates_of_arm s arm e) (updates_of_default s rest e) (updates_of_arm s arm f) (updates_of_default s rest f) refl
      (arm_same s R arm e f (λ b q. r b (inl q)) h) (default_same s R rest e f (λ b q. r b (inr q)) h)

-- Bits that are read and written, and the names of their signals

-- an entry of a list with a property
abbrev pub Among : {X : Type 0} → (X → Type 0) → List X → Type 0
Among {X} P xs = (i : ℕ) × ((x : X) × ((i < length xs) × (get_or xs i x ≡ x) × P x))

here : {X : Type 0} (P : X → Type 0) (x : X) (xs : List X) → P x → Among P (x ∷ xs)
here P x xs p = (0, (x, (omega arith, refl, p)))

to_left : {X : Type 0} (P : X → Type 0) (xs ys : List X) → Among P xs → Among P (xs ++ ys)
to_left P xs ys a = (a.0, (a.1.0, (omega (arith, a.1.1.0, length-append xs ys), get_or_append_left xs ys a.1.0 a.0 a.1.1.0 ∙ a.1.1.1, a.1.1.2)))

to_right : {X : Type 0} (P : X → Type 0) (xs ys : List X) → Among P ys → Among P (xs ++ ys)
to_right P xs ys a = (length xs + a.0, (a.1.0, (omega (arith, a.1.1.0, length-append xs ys), get_or-append-add xs ys a.0 a.1.0 ∙ a.1.1.1, a.1.1.2)))

-- a name of what this bit is one of
abbrev pub Stands : Names → Bit → List ℕ → Type 0
Stands s b text = IsBitOf (meant s text) b

abbrev OfName : Names → Bit → Identifier → Type 0
OfName s b n = Stands s b n.text

at_select : (k : Bool) (e : Entity) (from : _) (n : ℕ) (index : Type 0) (b : Bit) → NamesAt k e from n index b → IsBitOf e b ⊎ index
at_select true e from n index b h = inl h.0
at_select false e from n index b h = h

mutual
  unfolding names_in NamesBit

  bit_named : (s : Names) (t : Tree) (b : Bit) → NamesBit s t b → Among (OfName s b) (names_in t)
  bit_named s (Name token name) b h = here (OfName s b) (record { token = token; text = name }) [] h
  bit_named s (Literal token n) b h = absurd h
  bit_named s (BitSelect token name i) b h = elim (index_among (is_none (fault s i true)) (meant s name) (integer_with (form s i) (value s i nowhere)) (NamesBit s i b) b h) [
    | inl p ↦ here (OfName s b) (record { token = token; text = name }) (names_in i) p
    | inr p ↦ to_right (OfName s b) (record { token = token; text = name } ∷ []) (names_in i) (bit_named s i b p)
  ]
  bit_named s (Part token name l r) b h = here (OfName s b) (record { token = token; text = name }) (names_in l ++ names_in r) h.0
  bit_named s (Indexed token name f n up) b h = elim (at_select _ (meant s name) _ _ (NamesBit s f b) b h) [
    | inl p ↦ here (OfName s b) (record { token = token; text = name }) (names_in f ++ names_in n) p
    | inr p ↦ to_right (OfName s b) (record { token = token; text = name } ∷ []) (names_in f ++ names_in n) (to_left (OfName s b) (names_in f) (names_in n) (bit_named s f b p))
  ]
  bit_named s (Unary op t) b h = bit_named s t b h
  bit_named s (Binary op l r) b (inl h) = to_left (OfName s b) (names_in l) (names_in r) (bit_named s l b h)
  bit_named s (Binary op l r) b (inr h) = to_right (OfName s b) (names_in l) (names_in r) (bit_named s r b h)
  bit_named s (Cond x y z) b (inl h) = to_left (OfName s b) (names_in x) (names_in y ++ names_in z) (bit_named s x b h)
  bit_named s (Cond x y z) b (inr (inl h)) = to_right (OfName s b) (names_in x) (names_in y ++ names_in z) (to_left (OfName s b) (names_in y) (names_in z) (bit_named s y b h))
  bit_named s (Cond x y z) b (inr (inr h)) = to_right (OfName s b) (names_in x) (names_in y ++ names_in z) (to_right (OfName s b) (names_in y) (names_in z) (bit_named s z b h))
  bit_named s (Concat ts) b h = bits_named s ts b h
  bit_named s (Repeat n ts) b h = to_right (OfName s b) (names_in n) (names_in_parts ts) (bits_named s ts b h)
  bit_named s (Cast signed t) b h = bit_named s t b h
  bit_named s (Paren t) b h = bit_named s t b h

  bits_named : (s : Names) (ts : Trees) (b : Bit) → NamesBits s ts b → Among (OfName s b) (names_in_parts ts)
  bits_named s End b h = absurd h
  bits_named s (More t ts) b (inl h) = to_left (OfName s b) (names_in t) (names_in_parts ts) (bit_named s t b h)
  bits_named s (More t ts) b (inr h) = to_right (OfName s b) (names_in t) (names_in_parts ts) (bits_named s ts b h)

mutual
  unfolding index_names TargetReads

  index_named : (s : Names) (t : Tree) (b : Bit) → TargetReads s t b → Among (OfName s b) (index_names t)
  index_named s (Name token name) b h = absurd h
  index_named s (Literal token n) b h = absurd h
  index_named s (BitSelect token name i) b h = bit_named s i b h
  index_named s (Part token name l r) b h = absurd h
  index_named s (Indexed token name f n up) b h = to_left (OfName s b) (names_in f) (names_in n) (bit_named s f b h)
  index_named s (Unary op t) b h = absurd h
  index_named s (Binary op l r) b h = absurd h
  index_named s (Cond x y z) b h = absurd h
  index_named s (Concat ts) b h = indices_named s ts b h
  index_named s (Repeat n ts) b h = absurd h
  index_named s (Cast signed t) b h = absurd h
  index_named s (Paren t) b h = absurd h

  indices_named : (s : Names) (ts : Trees) (b : Bit) → TargetsRead s ts b → Among (OfName s b) (index_names_in ts)
  indices_named s End b h = absurd h
  indices_named s (More t ts) b (inl h) = to_left (OfName s b) (index_names t) (index_names_in ts) (index_named s t b h)
  indices_named s (More t ts) b (inr h) = to_right (OfName s b) (index_names t) (index_names_in ts) (indices_named s ts b h)

mutual
  unfolding names_read StatementReads

  read_named : (s : Names) (t : Statement) (b : Bit) → StatementReads s t b → Among (OfName s b) (names_read t)
  read_named s Null b h = absurd h
  read_named s (Sequence label ss) b h = all_named s ss b h
  read_named s (If c t) b (inl h) = to_left (OfName s b) (names_in c) (names_read t) (bit_named s c b h)
  read_named s (If c t) b (inr h) = to_right (OfName s b) (names_in c) (names_read t) (read_named s t b h)
  read_named s (IfElse c t u) b (inl h) = to_left (OfName s b) (names_in c) (names_read t ++ names_read u) (bit_named s c b h)
  read_named s (IfElse c t u) b (inr (inl h)) = to_right (OfName s b) (names_in c) (names_read t ++ names_read u) (to_left (OfName s b) (names_read t) (names_read u) (read_named s t b h))
  read_named s (IfElse c t u) b (inr (inr h)) = to_right (OfName s b) (names_in c) (names_read t ++ names_read u) (to_right (OfName s b) (names_read t) (names_read u) (read_named s u b h))
  read_named s (Case kind on arms) b (inl h) = to_left (OfName s b) (names_in on) (names_read_by_arms arms) (bit_named s on b h)
  read_named s (Case kind on arms) b (inr h) = to_right (OfName s b) (names_in on) (names_read_by_arms arms) (arms_named s arms b h)
  read_named s (Assign t now e) b (inl h) = to_left (OfName s b) (index_names t) (names_in e) (index_named s t b h)
  read_named s (Assign t now e) b (inr h) = to_right (OfName s b) (index_names t) (names_in e) (bit_named s e b h)
  read_named s (For head t) b h = absurd h

  all_named : (s : Names) (ss : Statements) (b : Bit) → StatementsRead s ss b → Among (OfName s b) (names_read_by ss)
  all_named s Done b h = absurd h
  all_named s (Then t ts) b (inl h) = to_left (OfName s b) (names_read t) (names_read_by ts) (read_named s t b h)
  all_named s (Then t ts) b (inr h) = to_right (OfName s b) (names_read t) (names_read_by ts) (all_named s ts b h)

  arm_named : (s : Names) (arm : Arm) (b : Bit) → ArmReads s arm b → Among (OfName s b) (names_read_by_arm arm)
  arm_named s (CaseItem labels colon body) b (inl h) = to_left (OfName s b) (names_in_parts labels) (names_read body) (bits_named s labels b h)
  arm_named s (CaseItem labels colon body) b (inr h) = to_right (OfName s b) (names_in_parts labels) (names_read body) (read_named s body b h)

  arms_named : (s : Names) (arms : Arms) (b : Bit) → ArmsRead s arms b → Among (OfName s b) (names_read_by_arms arms)
  arms_named s NoArms b h = absurd h
  arms_named s (MoreArms a rest) b (inl h) = to_left (OfName s b) (names_read_by_arm a) (names_read_by_arms rest) (arm_named s a b h)
  arms_named s (MoreArms a rest) b (inr h) = to_right (OfName s b) (names_read_by_arm a) (names_read_by_arms rest) (arms_named s rest b h)

-- an assignment, of a kind, of what this bit is one of
abbrev pub OfKind : Names → Bit → Bool → Assigned → Type 0
OfKind s b now a = (a.now ≡ now) × Stands s b (part_name a.part)

of_test : (e : Entity) (b : Bit) → is_bit_of e b ≡ true → IsBitOf e b
of_test (Constant bits signed) b h = absurd (both_ways false refl h)
of_test (Signal id range signed) b h =
    let p = and_parts (nat_eq id b.signal) (nat_lt b.place (range_width range)) h in
    (sym (eqb-true id b.signal p.0), ltb-true b.place (range_width range) p.1)
of_test (Memory first low words range signed) b h =
    let p = and_parts (not (nat_lt b.signal first)) (nat_lt b.signal (first + words) && nat_lt b.place (range_width range)) h in
    let q = and_parts (nat_lt b.signal (first + words)) (nat_lt b.place (range_width range)) p.1 in
    (ltb-false b.signal first (not-true (nat_lt b.signal first) p.0), ltb-true b.signal (first + words) q.0, ltb-true b.place (range_width range) q.1)
of_test Instance b h = absurd (both_ways false refl h)

abbrev pub OfPart : Names → Bit → Tree → Type 0
OfPart s b p = Stands s b (part_name p)

or_nothing : (x : Bool) → (x || false) ≡ true → x ≡ true
or_nothing true h = refl
or_nothing false h = h

either_way : (k x y : Bool) (P : Type 0) → (x ≡ true → P) → (y ≡ true → P) → cond k x y ≡ true → P
either_way true x y P f g h = f h
either_way false x y P f g h = g h

may_split : (s : Names) (ps qs : List Tree) (b : Bit) → may_write s (ps ++ qs) b ≡ true → (may_write s ps b ≡ true) ⊎ (may_write s qs b ≡ true)
unfolding may_write
may_split s [] qs b h = inr h
may_split s (p ∷ ps) qs b h = elim (or_cases (cond (is_fixed s p) (has_bit (target_bits s nowhere p) b) (is_bit_of (meant s (part_name p)) b)) (may_write s (ps ++ qs) b) h) [
  | inl i ↦ inl (or_left _ (may_write s ps b) i)
  | inr i ↦ elim (may_split s ps qs b i) [ inl j ↦ inl (or_right _ (may_write s ps b) j) | inr j ↦ inr j ]
]

mutual
  unfolding target_parts may_write target_bits

  pub target_named : (s : Names) (t : Tree) (b : Bit) → may_write s (target_parts t) b ≡ true → Among (OfPart s b) (target_parts t)
  target_named s (Name token name) b h =
      here (OfPart s b) (Name token name) [] (of_test (meant s name) b (bits_of_name (meant s name) (pos 0) (entity_shape (meant s name)).width b (or_nothing (has_bit (target_bits s nowhere (Name token name)) b) h)))
  target_named s (Literal token n) b h = absurd (both_ways false refl h)
  target_named s (BitSelect token name i) b h =
      here (OfPart s b) (BitSelect token name i) []
      (of_test (meant s name) b (either_way (is_constant s i) (has_bit (target_bits s nowhere (BitSelect token name i)) b) (is_bit_of (meant s name) b) (is_bit_of (meant s name) b ≡ true)
      (λ x. index_of_name (meant s name) (integer_with (form s i) (value s i nowhere)) b x) (λ x. x)
      (or_nothing (cond (is_constant s i) (has_bit (target_bits s nowhere (BitSelect token name i)) b) (is_bit_of (meant s name) b)) h)))
  target_named s (Part token name l r) b h =
      here (OfPart s b) (Part token name l r) []
      (of_test (meant s name) b (bits_of_name (meant s name) (place (entity_range (meant s name)) (integer_with (form s r) (value s r nowhere))) (constant_span s l r) b (or_nothing (has_bit (target_bits s nowhere (Part token name l r)) b) h)))
  target_named s (Indexed token name f n up) b h =
      here (OfPart s b) (Indexed token name f n up) []
      (of_test (meant s name) b (either_way (is_constant s f) (has_bit (target_bits s nowhere (Indexed token name f n up)) b) (is_bit_of (meant s name) b) (is_bit_of (meant s name) b ≡ true)
      (λ x. bits_of_name (meant s name) (lowest_place (entity_range (meant s name)) up (integer_with (form s f) (value s f nowhere)) (constant_count s n)) (constant_count s n) b x) (λ x. x)
      (or_nothing (cond (is_constant s f) (has_bit (target_bits s nowhere (Indexed token name f n up)) b) (is_bit_of (meant s name) b)) h)))
  target_named s (Unary op t) b h = absurd (both_ways false refl h)
  target_named s (Binary op l r) b h = absurd (both_ways false refl h)
  target_named s (Cond x y z) b h = absurd (both_ways false refl h)
  target_named s (Concat ts) b h = targets_named s ts b h
  target_named s (Repeat n ts) b h = absurd (both_ways false refl h)
  target_named s (Cast signed t) b h = absurd (both_ways false refl h)
  target_named s (Paren t) b h = absurd (both_ways false refl h)

  targets_named : (s : Names) (ts : Trees) (b : Bit) → may_write s (targets_parts ts) b ≡ true → Among (OfPart s b) (targets_parts ts)
  targets_named s End b h = absurd (both_ways false refl h)
  targets_named s (More t ts) b h = elim (may_split s (target_parts t) (targets_parts ts) b h) [
    | inl i ↦ to_left (OfPart s b) (target_parts t) (targets_parts ts) (target_named s t b i)
    | inr i ↦ to_right (OfPart s b) (target_parts t) (targets_parts ts) (targets_named s ts b i)
  ]

part_at : (now : Bool) (ts : List Tree) (i : ℕ) (p : Tree) → i < length ts → get_or ts i p ≡ p → (i < length (assigned_parts now ts)) × (get_or (assigned_parts now ts) i (record { part = p; now = now }) ≡ record { part = p; now = now })
unfolding assigned_parts
part_at now [] i p l h = absurd (omega arith)
part_at now (t ∷ ts) zero p l h = (omega arith, ap (λ (q : Tree). record { part = q; now = now }) h)
part_at now (t ∷ ts) (suc i) p l h = let r = part_at now ts i p (omega arith) h in (omega (arith, r.0), r.1)

parts_assigned : (s : Names) (b : Bit) (now : Bool) (ts : List Tree) → Among (OfPart s b) ts → Among (OfKind s b now) (assigned_parts now ts)
parts_assigned s b now ts a = let r = part_at now ts a.0 a.1.0 a.1.1.0 a.1.1.1 in (a.0, (record { part = a.1.0; now = now }, (r.0, r.1, (refl, a.1.1.2))))

mutual
  unfolding assigned_by writes

  pub write_named : (now : Bool) (s : Names) (t : Statement) (b : Bit) → writes now s t b ≡ true → Among (OfKind s b now) (assigned_by t)
  write_named now s Null b h = absurd (both_ways false refl h)
  write_named now s (Sequence label ss) b h = all_written now s ss b h
  write_named now s (If c t) b h = write_named now s t b h
  write_named now s (IfElse c t u) b h = elim (or_cases (writes now s t b) (writes now s u b) h) [
    | inl i ↦ to_left (OfKind s b now) (assigned_by t) (assigned_by u) (write_named now s t b i)
    | inr i ↦ to_right (OfKind s b now) (assigned_by t) (assigned_by u) (write_named now s u b i)
  ]
  write_named now s (Case kind on arms) b h = arms_written now s arms b h
  write_named now s (For head t) b h = absurd (both_ways false refl h)
  write_named true s (Assign t true e) b h = parts_assigned s b true (target_parts t) (target_named s t b h)
  write_named true s (Assign t false e) b h = absurd (both_ways false refl h)
  write_named false s (Assign t true e) b h = absurd (both_ways false refl h)
  write_named false s (Assign t false e) b h = parts_assigned s b false (target_parts t) (target_named s t b h)

  all_written : (now : Bool) (s : Names) (ss : Statements) (b : Bit) → write_any now s ss b ≡ true → Among (OfKind s b now) (assigned_by_all ss)
  all_written now s Done b h = absurd (both_ways false refl h)
  all_written now s (Then t ts) b h = elim (or_cases (writes now s t b) (write_any now s ts b) h) [
    | inl i ↦ to_left (OfKind s b now) (assigned_by t) (assigned_by_all ts) (write_named now s t b i)
    | inr i ↦ to_right (OfKind s b now) (assigned_by t) (assigned_by_all ts) (all_written now s ts b i)
  ]

  arm_written : (now : Bool) (s : Names) (arm : Arm) (b : Bit) → arm_writes now s arm b ≡ true → Among (OfKind s b now) (assigned_by_arm arm)
  arm_written now s (CaseItem labels colon body) b h = write_named now s body b h

  arms_written : (now : Bool) (s : Names) (arms : Arms) (b : Bit) → arms_write now s arms b ≡ true → Among (OfKind s b now) (assigned_by_arms arms)
  arms_written now s NoArms b h = absurd (both_ways false refl h)
  arms_written now s (MoreArms arm rest) b h = elim (or_cases (arm_writes now s arm b) (arms_write now s rest b) h) [
    | inl i ↦ to_left (OfKind s b now) (assigned_by_arm arm) (assigned_by_arms rest) (arm_written now s arm b i)
    | inr i ↦ to_right (OfKind s b now) (assigned_by_arm arm) (assigned_by_arms rest) (arms_written now s rest b i)
  ]

variable_there : (e : Entity) (b : Bit) → IsBitOf e b → (id : ℕ) × (variable_of e ≡ Some id)
variable_there (Constant bits signed) b h = absurd h
variable_there (Signal id range signed) b h = (id, refl)
variable_there (Memory first low words range signed) b h = (first, refl)
variable_there Instance b h = absurd h

-- what a clocked block writes by `=`, no other reads
no_race_bit : (flat : Flat) → NoRace flat → OneVariable flat → (j k : ℕ) → j < length flat.clocked → k < length flat.clocked → (b : Bit) → writes_now flat (block_at flat.clocked j) b ≡ true →
    StatementReads (scope_at flat (block_at flat.clocked k).scope) (block_at flat.clocked k).body b → j ≡ k
no_race_bit flat race own j k lj lk b w r =
    let x = block_at flat.clocked j in
    let y = block_at flat.clocked k in
    let a = write_named true (scope_at flat x.scope) x.body b w in
    let n = read_named (scope_at flat y.scope) y.body b r in
    let v = variable_there (meant (scope_at flat x.scope) (part_name a.1.0.part)) b a.1.1.2.1 in
    let assigned_there : AssignedIn flat x v.0 true = (a.0, (a.1.0, (a.1.1.0, a.1.1.1, a.1.1.2.0, v.1))) in
    race j k lj lk v.0 assigned_there n.0 n.1.0 n.1.1.0 n.1.1.1 (own y.scope x.scope n.1.0.text (part_name a.1.0.part) b n.1.1.2 a.1.1.2.1 ∙ v.1)

abbrev number_of : Writer → ℕ
number_of (Clocked k) = k
number_of x = 0

module _ (flat : Flat) (one : OneWriter flat) where
  other_writer : (j k : ℕ) → j < length flat.clocked → k < length flat.clocked → (b : Bit) → writes_now flat (block_at flat.clocked j) b ≡ true → writes_now flat (block_at flat.clocked k) b ≡ true → j ≡ k
  unfolding Writes
  other_writer j k lj lk b v w =
      ap number_of
      (one (Clocked j) (Clocked k) b (lj, or_left (writes_now flat (block_at flat.clocked j) b) (writes_later flat (block_at flat.clocked j) b) v)
      (lk, or_left (writes_now flat (block_at flat.clocked k) b) (writes_later flat (block_at flat.clocked k) b) w))

  -- the block that writes a bit by `=`, or none
  abbrev Found : Bit → Type 0
  Found b = ((k : ℕ) × ((k < length flat.clocked) × (writes_now flat (block_at flat.clocked k) b ≡ true))) ⊎ ((k : ℕ) → k < length flat.clocked → writes_now flat (block_at flat.clocked k) b ≡ true → ⊥)

  abbrev found : (b : Bit) → Found b
  found b = search_below (λ k. writes_now flat (block_at flat.clocked k) b ≡ true) (λ k. true_or_not (writes_now flat (block_at flat.clocked k) b)) (length flat.clocked)

  abbrev left : Environment → (b : Bit) → Found b → Bool
  left env b (inl q) = after_block flat (block_at flat.clocked q.0) env b
  left env b (inr q) = env b

  left_by : (env : Environment) (b : Bit) (f : Found b) (k : ℕ) → k < length flat.clocked → writes_now flat (block_at flat.clocked k) b ≡ true → left env b f ≡ after_block flat (block_at flat.clocked k) env b
  left_by env b (inl q) k l w = ap (λ (n : ℕ). after_block flat (block_at flat.clocked n) env b) (other_writer q.0 k q.1.0 l b q.1.1 w)
  left_by env b (inr q) k l w = absurd (q k l w)

  left_else : (env : Environment) (b : Bit) (f : Found b) → ((k : ℕ) → k < length flat.clocked → writes_now flat (block_at flat.clocked k) b ≡ false) → left env b f ≡ env b
  left_else env b (inl q) none = absurd (both_ways (writes_now flat (block_at flat.clocked q.0) b) (none q.0 q.1.0) q.1.1)
  left_else env b (inr q) none = refl

  -- there is a state after the edge
  pub some_next : (env : Environment) → (next : Environment) × IsNext flat env next
  some_next env =
      let mid : Environment = λ b. left env b (found b) in
      let blocks : AfterBlocks flat env mid = record { written = λ k b l w. left_by env b (found b) k l w; others = λ b h. left_else env b (found b) h } in
      (applied (flat_map (updates_of_block flat env) flat.clocked) mid, (mid, (blocks, refl)))

-- The blocks in order

module _ (flat : Flat) (race : NoRace flat) (one : OneWriter flat) (own : OneVariable flat) where
  abbrev block : ℕ → plain.Block
  block k = block_at flat.clocked k

  -- the environment after the first k blocks
  unfoldable after : ℕ → Environment → Environment
  after zero env = env
  after (suc k) env = after_block flat (block k) (after k env)

  -- a bit that none of them writes by `=` stays
  untouched : (k : ℕ) (env : Environment) (b : Bit) → ((j : ℕ) → j < k → writes_now flat (block j) b ≡ false) → after k env b ≡ env b
  unfolding after
  untouched zero env b h = refl
  untouched (suc k) env b h =
      outside (scope_at flat (block k).scope) (block k).body (after k env) b (h k (omega arith)) ∙ untouched k env b (λ j l. h j (omega arith))

  -- each block reads what it would read in the settled environment
  reads_settled : (k : ℕ) → k < length flat.clocked → (env : Environment) → Agree (after k env) env (StatementReads (scope_at flat (block k).scope) (block k).body)
  reads_settled k l env b r =
      untouched k env b (λ j m. missed (writes_now flat (block j) b) (λ t. let q = no_race_bit flat race own j k (omega arith) l b t r in absurd (omega arith)))

  -- a bit that block k writes by `=` has its value in the block's last environment, from there on
  written_after : (i : ℕ) → i ≤ length flat.clocked → (env : Environment) (k : ℕ) (b : Bit) → k < i → writes_now flat (block k) b ≡ true → after i env b ≡ after_block flat (block k) env b
  unfolding after
  written_after zero l env k b m w = absurd (omega arith)
  written_after (suc i) l env k b m w = elim (cases_eq k i) [
    | inl q ↦
        let R : Bit → Type 0 = λ c. StatementReads (scope_at flat (block k).scope) (block k).body c ⊎ (c ≡ b) in
        let there : after k env b ≡ env b = untouched k env b (λ j n. missed (writes_now flat (block j) b) (λ t. let e = other_writer flat one j k (omega arith) (omega arith) b t w in absurd (omega arith))) in
        let same : Agree (after k env) env R = λ c r. elim r [ inl x ↦ reads_settled k (omega arith) env c x | inr x ↦ rw x there ] in
        rw (← q) (agree_after (scope_at flat (block k).scope) R (block k).body (after k env) env (λ c x. inl x) same b (inr refl))
    | inr q ↦
        outside (scope_at flat (block i).scope) (block i).body (after i env) b (missed (writes_now flat (block i) b) (λ t. q (sym (other_writer flat one i k (omega arith) (omega arith) b t w))))
        ∙ written_after i (omega arith) env k b (omega arith) w
  ]

  run_after : (i : ℕ) → i ≤ length flat.clocked → (env : Environment) → run_blocks flat (drop i flat.clocked) (after i env) ≡ run_blocks flat flat.clocked env
  unfolding run_blocks after
  run_after zero l env = refl
  run_after (suc i) l env = rw (drop-cons flat.clocked i no_block l) at (run_after i (omega arith) env)

  run_none : (bs : List plain.Block) (i : ℕ) (e : Environment) → length bs ≤ i → run_blocks flat (drop i bs) e ≡ e
  unfolding run_blocks
  run_none [] zero e l = refl
  run_none [] (suc i) e l = refl
  run_none (x ∷ xs) zero e l = absurd (omega arith)
  run_none (x ∷ xs) (suc i) e l = run_none xs i e (omega arith)

  all_run : (env : Environment) → after (length flat.clocked) env ≡ run_blocks flat flat.clocked env
  all_run env = sym (run_none flat.clocked (length flat.clocked) (after (length flat.clocked) env) (omega arith)) ∙ run_after (length flat.clocked) (omega arith) env

  same_updates : (n i : ℕ) → n + i ≡ length flat.clocked → (env : Environment) → flat_map (updates_of_block flat env) (drop i flat.clocked) ≡ updates_of_blocks flat (drop i flat.clocked) (after i env)
  unfolding updates_of_blocks after
  same_updates zero i l env = rw (drop_all i flat.clocked (omega arith)) refl
  same_updates (suc n) i l env =
      let R = StatementReads (scope_at flat (block i).scope) (block i).body in
      let one_block : updates_of_block flat env (block i) ≡ updates_of_block flat (after i env) (block i) =
      sym (updates_same (scope_at flat (block i).scope) R (block i).body (after i env) env (λ c r. r) (reads_settled i (omega arith) env)) in
      rw (drop-cons flat.clocked i no_block (omega arith)) (rw (one_block, same_updates n (suc i) (omega arith) env) refl)

  -- so the state after the edge is what the blocks leave in order, with their updates
  pub next_in_order : (env : Environment) → IsNext flat env (applied (updates_of_blocks flat flat.clocked env) (run_blocks flat flat.clocked env))
  unfolding after
  next_in_order env = (
    run_blocks flat flat.clocked env,
    (
      record {
        written = λ k b l w. ap (λ (e : Environment). e b) (sym (all_run env)) ∙ written_after (length flat.clocked) (omega arith) env k b l w;
        others = λ b h. ap (λ (e : Environment). e b) (sym (all_run env)) ∙ untouched (length flat.clocked) env b h;
      },
      ap (λ (us : List Update). applied us (run_blocks flat flat.clocked env)) (sym (same_updates (length flat.clocked) 0 (omega arith) env)),
    ),
  )

-- there is one at most
blocks_once : (flat : Flat) (env m n : Environment) → AfterBlocks flat env m → AfterBlocks flat env n → (b : Bit) → m b ≡ n b
blocks_once flat env m n h k b = elim (search_below (λ j. writes_now flat (block_at flat.clocked j) b ≡ true) (λ j. true_or_not (writes_now flat (block_at flat.clocked j) b)) (length flat.clocked)) [
  | inl q ↦ h.written q.0 b q.1.0 q.1.1 ∙ sym (k.written q.0 b q.1.0 q.1.1)
  | inr q ↦
      let none : (j : ℕ) → j < length flat.clocked → writes_now flat (block_at flat.clocked j) b ≡ false = λ j l. missed (writes_now flat (block_at flat.clocked j) b) (q j l) in
      h.others b none ∙ sym (k.others b none)
]

pub only_next : (flat : Flat) (env m n : Environment) → IsNext flat env m → IsNext flat env n → m ≡ n
only_next flat env m n h k =
    let same : h.0 ≡ k.0 = fun_ext (blocks_once flat env h.0 k.0 h.1.0 k.1.0) in
    h.1.1 ∙ ap (applied (flat_map (updates_of_block flat env) flat.clocked)) same ∙ sym k.1.1
