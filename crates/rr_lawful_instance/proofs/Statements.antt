-- What instances of statements keep, as the laws of flat designs read them: targets and the bits that are written stay, and
-- names and bits that are read are those of the statement and those of its guards.
use Rattle.std.proofs.Common.{◌≡◌, inl, inr, ℕ, Bool, true, false, ◌&&◌, ◌||◌, List, ◌++◌, refl, sym, subst, ◌∙◌}
use mathlib.Core.Path.{fun_ext}
use Rattle.std.specs.List.{AllByRecursion}
use Rattle.std.proofs.Math.Logic.{⊎_elim}
use Rattle.std.proofs.lemmas.Bool.{and_parts, and_from}
use Rattle.rr_syntax.specs.Tree.{End, More, Identifier, Statement, Statements, Arm, Arms, Null, Block as Sequence, If, IfElse, Case, Assign, For, Done, Then, CaseItem, NoArms, MoreArms}
use Rattle.rr_expr.specs.declared.types.Bit.{Bit}
use Rattle.rr_expr.specs.Reading.{IsBitOf}
use Rattle.rr_expr.specs.Scopes.{Names, meant}
use Rattle.rr_flat.specs.Signals.{Text}
use Rattle.rr_flat.specs.Latches.{is_default, has_default, known, known_all, known_arm, known_arms, ReadsKnown, AllReadKnown, ArmReadsKnown, ArmsReadKnown}
use Rattle.rr_flat.specs.Lawful.{all_labels_fit, labels_fit, all_fit, arm_fits, arms_fit}
use Rattle.rr_flat.specs.Reads.{StatementReads, StatementsRead, ArmReads, ArmsRead, names_in, names_in_parts, index_names, names_of, names_of_all, names_of_arm, names_of_arms, names_read, names_read_by, names_read_by_arm, names_read_by_arms, assigned_by, assigned_by_all, assigned_by_arm, assigned_by_arms, writes, write_any, arm_writes, arms_write}
use Rattle.rr_flat.specs.Targets.{assigns_target}
use Rattle.rr_flat.proofs.Bits.{or_left, or_right}
use Rattle.rr_choice.specs.declared.pick.Pick.{Pick}
use Rattle.rr_instance.specs.Instances.{instance_tree, instance_parts, instance_test, instance_statement, instance_statements, instance_arm, instance_arms}
use Rattle.rr_choice.specs.Sites.{Site}
use Rattle.rr_instance_laws.specs.Tests.{IsGuardNameOf, IsGuardNameOfAll, IsGuardNameOfArm, IsGuardNameOfArms}
use Rattle.rr_instance_laws.proofs.NameLaws.{has_bits, have_bits, test_has_bits}
use Rattle.rr_lawful_instance.proofs.Lists.{both, parts}
use Rattle.rr_lawful_instance.proofs.Trees.{OfText, names_in_instance, names_in_parts_instance, names_in_test_instance, labels_stay}

module _ (ss : List Site) (ps : List Pick) where
  -- Targets

  mutual
    unfolding assigned_by instance_statement

    pub assigned_same : (t : Statement) → assigned_by (instance_statement ss ps t) ≡ assigned_by t
    assigned_same Null = refl
    assigned_same (Sequence label ts) = assigned_same_all ts
    assigned_same (If c t) = assigned_same t
    assigned_same (IfElse c t u) = λ i. assigned_same t i ++ assigned_same u i
    assigned_same (Case kind on arms) = assigned_same_arms arms
    assigned_same (Assign t now e) = refl
    assigned_same (For head t) = refl

    assigned_same_all : (ts : Statements) → assigned_by_all (instance_statements ss ps ts) ≡ assigned_by_all ts
    assigned_same_all Done = refl
    assigned_same_all (Then t ts) = λ i. assigned_same t i ++ assigned_same_all ts i

    assigned_same_arm : (a : Arm) → assigned_by_arm (instance_arm ss ps a) ≡ assigned_by_arm a
    assigned_same_arm (CaseItem labels colon t) = assigned_same t

    assigned_same_arms : (arms : Arms) → assigned_by_arms (instance_arms ss ps arms) ≡ assigned_by_arms arms
    assigned_same_arms NoArms = refl
    assigned_same_arms (MoreArms a rest) = λ i. assigned_same_arm a i ++ assigned_same_arms rest i

  mutual
    unfolding writes instance_statement

    pub writes_same : (now : Bool) (s : Names) (t : Statement) (b : Bit) → writes now s (instance_statement ss ps t) b ≡ writes now s t b
    writes_same now s Null b = refl
    writes_same now s (Sequence label ts) b = writes_same_all now s ts b
    writes_same now s (If c t) b = writes_same now s t b
    writes_same now s (IfElse c t u) b = λ i. writes_same now s t b i || writes_same now s u b i
    writes_same now s (Case kind on arms) b = writes_same_arms now s arms b
    writes_same true s (Assign t true e) b = refl
    writes_same true s (Assign t false e) b = refl
    writes_same false s (Assign t true e) b = refl
    writes_same false s (Assign t false e) b = refl
    writes_same now s (For head t) b = refl

    writes_same_all : (now : Bool) (s : Names) (ts : Statements) (b : Bit) → write_any now s (instance_statements ss ps ts) b ≡ write_any now s ts b
    writes_same_all now s Done b = refl
    writes_same_all now s (Then t ts) b = λ i. writes_same now s t b i || writes_same_all now s ts b i

    writes_same_arm : (now : Bool) (s : Names) (a : Arm) (b : Bit) → arm_writes now s (instance_arm ss ps a) b ≡ arm_writes now s a b
    writes_same_arm now s (CaseItem labels colon t) b = writes_same now s t b

    writes_same_arms : (now : Bool) (s : Names) (arms : Arms) (b : Bit) → arms_write now s (instance_arms ss ps arms) b ≡ arms_write now s arms b
    writes_same_arms now s NoArms b = refl
    writes_same_arms now s (MoreArms a rest) b = λ i. writes_same_arm now s a b i || writes_same_arms now s rest b i

  -- Labels

  mutual
    unfolding labels_fit instance_statement

    pub fits_stays : (t : Statement) → labels_fit t ≡ true → labels_fit (instance_statement ss ps t) ≡ true
    fits_stays Null h = h
    fits_stays (Sequence label ts) h = fits_stays_all ts h
    fits_stays (If c t) h = fits_stays t h
    fits_stays (IfElse c t u) h =
        let p = and_parts (labels_fit t) (labels_fit u) h in
        and_from (labels_fit (instance_statement ss ps t)) (labels_fit (instance_statement ss ps u)) (fits_stays t p.0) (fits_stays u p.1)
    fits_stays (Case kind on arms) h = fits_stays_arms kind arms h
    fits_stays (Assign t now e) h = h
    fits_stays (For head t) h = h

    fits_stays_all : (ts : Statements) → all_fit ts ≡ true → all_fit (instance_statements ss ps ts) ≡ true
    fits_stays_all Done h = h
    fits_stays_all (Then t ts) h =
        let p = and_parts (labels_fit t) (all_fit ts) h in
        and_from (labels_fit (instance_statement ss ps t)) (all_fit (instance_statements ss ps ts)) (fits_stays t p.0) (fits_stays_all ts p.1)

    fits_stays_arm : (kind : ℕ) (a : Arm) → arm_fits kind a ≡ true → arm_fits kind (instance_arm ss ps a) ≡ true
    fits_stays_arm kind (CaseItem labels colon t) h =
        let p = and_parts (all_labels_fit kind labels) (labels_fit t) h in
        and_from (all_labels_fit kind (instance_parts ss ps labels)) (labels_fit (instance_statement ss ps t)) (labels_stay ss ps kind labels p.0) (fits_stays t p.1)

    fits_stays_arms : (kind : ℕ) (arms : Arms) → arms_fit kind arms ≡ true → arms_fit kind (instance_arms ss ps arms) ≡ true
    fits_stays_arms kind NoArms h = h
    fits_stays_arms kind (MoreArms a rest) h =
        let p = and_parts (arm_fits kind a) (arms_fit kind rest) h in
        and_from (arm_fits kind (instance_arm ss ps a)) (arms_fit kind (instance_arms ss ps rest)) (fits_stays_arm kind a p.0) (fits_stays_arms kind rest p.1)

  -- Names

  module _ (P : Text → Type 0) where
    abbrev AllOf : List Identifier → Type 0
    AllOf names = AllByRecursion (OfText P) names

    abbrev join : (xs ys : List Identifier) → AllOf xs → AllOf ys → AllOf (xs ++ ys)
    join xs ys h k = both (OfText P) xs ys h k

    abbrev split : (xs ys : List Identifier) → AllOf (xs ++ ys) → AllOf xs × AllOf ys
    split xs ys h = parts (OfText P) xs ys h

    mutual
      unfolding names_of instance_statement IsGuardNameOf

      pub names_of_instance : (t : Statement) → ((name : Text) → IsGuardNameOf ss t name → P name) → AllOf (names_of t) → AllOf (names_of (instance_statement ss ps t))
      names_of_instance Null n h = h
      names_of_instance (Sequence label ts) n h = names_of_instances ts n h
      names_of_instance (If c t) n h =
          let p = split (names_in c) (names_of t) h in
          join (names_in (instance_test ss ps c)) (names_of (instance_statement ss ps t))
          (names_in_test_instance P ss ps c (λ x k. n x (inl k)) p.0) (names_of_instance t (λ x k. n x (inr k)) p.1)
      names_of_instance (IfElse c t u) n h =
          let p = split (names_in c) (names_of t ++ names_of u) h in
          let q = split (names_of t) (names_of u) p.1 in
          join (names_in (instance_test ss ps c)) (names_of (instance_statement ss ps t) ++ names_of (instance_statement ss ps u))
          (names_in_test_instance P ss ps c (λ x k. n x (inl k)) p.0)
          (join (names_of (instance_statement ss ps t)) (names_of (instance_statement ss ps u)) (names_of_instance t (λ x k. n x (inr (inl k))) q.0) (names_of_instance u (λ x k. n x (inr (inr k))) q.1))
      names_of_instance (Case kind on arms) n h =
          let p = split (names_in on) (names_of_arms arms) h in
          join (names_in (instance_tree ss ps on)) (names_of_arms (instance_arms ss ps arms))
          (names_in_instance P ss ps on (λ x k. n x (inl k)) p.0) (names_of_instance_arms arms (λ x k. n x (inr k)) p.1)
      names_of_instance (Assign t now e) n h =
          let p = split (names_in t) (names_in e) h in
          join (names_in t) (names_in (instance_tree ss ps e)) p.0 (names_in_instance P ss ps e n p.1)
      names_of_instance (For head t) n h = h

      names_of_instances : (ts : Statements) → ((name : Text) → IsGuardNameOfAll ss ts name → P name) → AllOf (names_of_all ts) → AllOf (names_of_all (instance_statements ss ps ts))
      names_of_instances Done n h = h
      names_of_instances (Then t ts) n h =
          let p = split (names_of t) (names_of_all ts) h in
          join (names_of (instance_statement ss ps t)) (names_of_all (instance_statements ss ps ts)) (names_of_instance t (λ x k. n x (inl k)) p.0) (names_of_instances ts (λ x k. n x (inr k)) p.1)

      names_of_instance_arm : (a : Arm) → ((name : Text) → IsGuardNameOfArm ss a name → P name) → AllOf (names_of_arm a) → AllOf (names_of_arm (instance_arm ss ps a))
      names_of_instance_arm (CaseItem labels colon t) n h =
          let p = split (names_in_parts labels) (names_of t) h in
          join (names_in_parts (instance_parts ss ps labels)) (names_of (instance_statement ss ps t))
          (names_in_parts_instance P ss ps labels (λ x k. n x (inl k)) p.0) (names_of_instance t (λ x k. n x (inr k)) p.1)

      names_of_instance_arms : (arms : Arms) → ((name : Text) → IsGuardNameOfArms ss arms name → P name) → AllOf (names_of_arms arms) → AllOf (names_of_arms (instance_arms ss ps arms))
      names_of_instance_arms NoArms n h = h
      names_of_instance_arms (MoreArms a rest) n h =
          let p = split (names_of_arm a) (names_of_arms rest) h in
          join (names_of_arm (instance_arm ss ps a)) (names_of_arms (instance_arms ss ps rest)) (names_of_instance_arm a (λ x k. n x (inl k)) p.0) (names_of_instance_arms rest (λ x k. n x (inr k)) p.1)

    mutual
      unfolding names_read instance_statement IsGuardNameOf

      pub names_read_instance : (t : Statement) → ((name : Text) → IsGuardNameOf ss t name → P name) → AllOf (names_read t) → AllOf (names_read (instance_statement ss ps t))
      names_read_instance Null n h = h
      names_read_instance (Sequence label ts) n h = names_read_instances ts n h
      names_read_instance (If c t) n h =
          let p = split (names_in c) (names_read t) h in
          join (names_in (instance_test ss ps c)) (names_read (instance_statement ss ps t))
          (names_in_test_instance P ss ps c (λ x k. n x (inl k)) p.0) (names_read_instance t (λ x k. n x (inr k)) p.1)
      names_read_instance (IfElse c t u) n h =
          let p = split (names_in c) (names_read t ++ names_read u) h in
          let q = split (names_read t) (names_read u) p.1 in
          join (names_in (instance_test ss ps c)) (names_read (instance_statement ss ps t) ++ names_read (instance_statement ss ps u))
          (names_in_test_instance P ss ps c (λ x k. n x (inl k)) p.0)
          (join (names_read (instance_statement ss ps t)) (names_read (instance_statement ss ps u)) (names_read_instance t (λ x k. n x (inr (inl k))) q.0) (names_read_instance u (λ x k. n x (inr (inr k))) q.1))
      names_read_instance (Case kind on arms) n h =
          let p = split (names_in on) (names_read_by_arms arms) h in
          join (names_in (instance_tree ss ps on)) (names_read_by_arms (instance_arms ss ps arms))
          (names_in_instance P ss ps on (λ x k. n x (inl k)) p.0) (names_read_instance_arms arms (λ x k. n x (inr k)) p.1)
      names_read_instance (Assign t now e) n h =
          let p = split (index_names t) (names_in e) h in
          join (index_names t) (names_in (instance_tree ss ps e)) p.0 (names_in_instance P ss ps e n p.1)
      names_read_instance (For head t) n h = h

      names_read_instances : (ts : Statements) → ((name : Text) → IsGuardNameOfAll ss ts name → P name) → AllOf (names_read_by ts) → AllOf (names_read_by (instance_statements ss ps ts))
      names_read_instances Done n h = h
      names_read_instances (Then t ts) n h =
          let p = split (names_read t) (names_read_by ts) h in
          join (names_read (instance_statement ss ps t)) (names_read_by (instance_statements ss ps ts)) (names_read_instance t (λ x k. n x (inl k)) p.0) (names_read_instances ts (λ x k. n x (inr k)) p.1)

      names_read_instance_arm : (a : Arm) → ((name : Text) → IsGuardNameOfArm ss a name → P name) → AllOf (names_read_by_arm a) → AllOf (names_read_by_arm (instance_arm ss ps a))
      names_read_instance_arm (CaseItem labels colon t) n h =
          let p = split (names_in_parts labels) (names_read t) h in
          join (names_in_parts (instance_parts ss ps labels)) (names_read (instance_statement ss ps t))
          (names_in_parts_instance P ss ps labels (λ x k. n x (inl k)) p.0) (names_read_instance t (λ x k. n x (inr k)) p.1)

      names_read_instance_arms : (arms : Arms) → ((name : Text) → IsGuardNameOfArms ss arms name → P name) → AllOf (names_read_by_arms arms) → AllOf (names_read_by_arms (instance_arms ss ps arms))
      names_read_instance_arms NoArms n h = h
      names_read_instance_arms (MoreArms a rest) n h =
          let p = split (names_read_by_arm a) (names_read_by_arms rest) h in
          join (names_read_by_arm (instance_arm ss ps a)) (names_read_by_arms (instance_arms ss ps rest)) (names_read_instance_arm a (λ x k. n x (inl k)) p.0) (names_read_instance_arms rest (λ x k. n x (inr k)) p.1)

  -- Bits that are read

  module _ (s : Names) (P : Bit → Type 0) where
    abbrev GuardBits : Text → Type 0
    GuardBits name = (b : Bit) → IsBitOf (meant s name) b → P b

    mutual
      unfolding StatementReads instance_statement IsGuardNameOf

      pub reads_of_instance : (t : Statement) → ((name : Text) → IsGuardNameOf ss t name → GuardBits name) → ((b : Bit) → StatementReads s t b → P b) → (b : Bit) → StatementReads s (instance_statement ss ps t) b → P b
      reads_of_instance Null n h = h
      reads_of_instance (Sequence label ts) n h = reads_of_instances ts n h
      reads_of_instance (If c t) n h = λ b r.
          ⊎_elim (test_has_bits s P ss ps c (λ x k. n x (inl k)) (λ d q. h d (inl q)) b) (reads_of_instance t (λ x k. n x (inr k)) (λ d q. h d (inr q)) b) r
      reads_of_instance (IfElse c t u) n h = λ b r.
          ⊎_elim (test_has_bits s P ss ps c (λ x k. n x (inl k)) (λ d q. h d (inl q)) b)
          (λ o. ⊎_elim (reads_of_instance t (λ x k. n x (inr (inl k))) (λ d q. h d (inr (inl q))) b) (reads_of_instance u (λ x k. n x (inr (inr k))) (λ d q. h d (inr (inr q))) b) o) r
      reads_of_instance (Case kind on arms) n h = λ b r.
          ⊎_elim (has_bits s P ss ps on (λ x k. n x (inl k)) (λ d q. h d (inl q)) b) (reads_of_instance_arms arms (λ x k. n x (inr k)) (λ d q. h d (inr q)) b) r
      reads_of_instance (Assign t now e) n h = λ b r. ⊎_elim (λ q. h b (inl q)) (has_bits s P ss ps e n (λ d q. h d (inr q)) b) r
      reads_of_instance (For head t) n h = h

      reads_of_instances : (ts : Statements) → ((name : Text) → IsGuardNameOfAll ss ts name → GuardBits name) → ((b : Bit) → StatementsRead s ts b → P b) → (b : Bit) → StatementsRead s (instance_statements ss ps ts) b → P b
      reads_of_instances Done n h = h
      reads_of_instances (Then t ts) n h = λ b r. ⊎_elim (reads_of_instance t (λ x k. n x (inl k)) (λ d q. h d (inl q)) b) (reads_of_instances ts (λ x k. n x (inr k)) (λ d q. h d (inr q)) b) r

      reads_of_instance_arm : (a : Arm) → ((name : Text) → IsGuardNameOfArm ss a name → GuardBits name) → ((b : Bit) → ArmReads s a b → P b) → (b : Bit) → ArmReads s (instance_arm ss ps a) b → P b
      reads_of_instance_arm (CaseItem labels colon t) n h = λ b r.
          ⊎_elim (have_bits s P ss ps labels (λ x k. n x (inl k)) (λ d q. h d (inl q)) b) (reads_of_instance t (λ x k. n x (inr k)) (λ d q. h d (inr q)) b) r

      reads_of_instance_arms : (arms : Arms) → ((name : Text) → IsGuardNameOfArms ss arms name → GuardBits name) → ((b : Bit) → ArmsRead s arms b → P b) → (b : Bit) → ArmsRead s (instance_arms ss ps arms) b → P b
      reads_of_instance_arms NoArms n h = h
      reads_of_instance_arms (MoreArms a rest) n h = λ b r. ⊎_elim (reads_of_instance_arm a (λ x k. n x (inl k)) (λ d q. h d (inl q)) b) (reads_of_instance_arms rest (λ x k. n x (inr k)) (λ d q. h d (inr q)) b) r

  -- Bits that are known

  default_same : (a : Arm) → is_default (instance_arm ss ps a) ≡ is_default a
  unfolding instance_statement instance_parts
  default_same (CaseItem End colon t) = refl
  default_same (CaseItem (More l ls) colon t) = refl

  default_same_arms : (arms : Arms) → has_default (instance_arms ss ps arms) ≡ has_default arms
  unfolding has_default instance_statement
  default_same_arms NoArms = refl
  default_same_arms (MoreArms a rest) = λ i. default_same a i || default_same_arms rest i

  mutual
    unfolding known instance_statement

    pub known_same : (s : Names) (before : Bit → Bool) (t : Statement) (b : Bit) → known s before (instance_statement ss ps t) b ≡ known s before t b
    known_same s before Null b = refl
    known_same s before (Sequence label ts) b = known_same_all s before ts b
    known_same s before (If c t) b = λ i. known_same s before t b i && before b
    known_same s before (IfElse c t u) b = λ i. known_same s before t b i && known_same s before u b i
    known_same s before (Case kind on arms) b = λ i. known_same_arms s before arms b i && (default_same_arms arms i || before b)
    known_same s before (Assign t true e) b = refl
    known_same s before (Assign t false e) b = refl
    known_same s before (For head t) b = refl

    known_same_all : (s : Names) (before : Bit → Bool) (ts : Statements) (b : Bit) → known_all s before (instance_statements ss ps ts) b ≡ known_all s before ts b
    known_same_all s before Done b = refl
    known_same_all s before (Then t ts) b =
        known_same_all s (known s before (instance_statement ss ps t)) ts b ∙ (λ i. known_all s (λ c. known_same s before t c i) ts b)

    known_same_arm : (s : Names) (before : Bit → Bool) (a : Arm) (b : Bit) → known_arm s before (instance_arm ss ps a) b ≡ known_arm s before a b
    known_same_arm s before (CaseItem labels colon t) b = known_same s before t b

    known_same_arms : (s : Names) (before : Bit → Bool) (arms : Arms) (b : Bit) → known_arms s before (instance_arms ss ps arms) b ≡ known_arms s before arms b
    known_same_arms s before NoArms b = refl
    known_same_arms s before (MoreArms a rest) b = λ i. known_same_arm s before a b i && known_same_arms s before rest b i

-- a bit that is known stays known
mutual
  unfolding known has_default

  pub known_grows : (s : Names) (before : Bit → Bool) (t : Statement) (b : Bit) → before b ≡ true → known s before t b ≡ true
  known_grows s before Null b h = h
  known_grows s before (Sequence label ts) b h = known_grows_all s before ts b h
  known_grows s before (If c t) b h = and_from (known s before t b) (before b) (known_grows s before t b h) h
  known_grows s before (IfElse c t u) b h = and_from (known s before t b) (known s before u b) (known_grows s before t b h) (known_grows s before u b h)
  known_grows s before (Case kind on arms) b h =
      and_from (known_arms s before arms b) (has_default arms || before b) (known_grows_arms s before arms b h) (or_right (has_default arms) (before b) h)
  known_grows s before (Assign t true e) b h = or_left (before b) (assigns_target s t b) h
  known_grows s before (Assign t false e) b h = h
  known_grows s before (For head t) b h = h

  known_grows_all : (s : Names) (before : Bit → Bool) (ts : Statements) (b : Bit) → before b ≡ true → known_all s before ts b ≡ true
  known_grows_all s before Done b h = h
  known_grows_all s before (Then t ts) b h = known_grows_all s (known s before t) ts b (known_grows s before t b h)

  known_grows_arm : (s : Names) (before : Bit → Bool) (a : Arm) (b : Bit) → before b ≡ true → known_arm s before a b ≡ true
  known_grows_arm s before (CaseItem labels colon t) b h = known_grows s before t b h

  known_grows_arms : (s : Names) (before : Bit → Bool) (arms : Arms) (b : Bit) → before b ≡ true → known_arms s before arms b ≡ true
  known_grows_arms s before NoArms b h = refl
  known_grows_arms s before (MoreArms a rest) b h = and_from (known_arm s before a b) (known_arms s before rest b) (known_grows_arm s before a b h) (known_grows_arms s before rest b h)

-- the bits of `base` are known before, and the guards name such bits alone
module _ (ss : List Site) (ps : List Pick) (s : Names) (base : Bit → Bool) where
  abbrev IsBase : Text → Type 0
  IsBase name = (b : Bit) → IsBitOf (meant s name) b → base b ≡ true

  abbrev Grown : (Bit → Bool) → Type 0
  Grown before = (b : Bit) → base b ≡ true → before b ≡ true

  mutual
    unfolding ReadsKnown instance_statement IsGuardNameOf

    pub reads_stay_known : (before : Bit → Bool) → Grown before → (t : Statement) → ((name : Text) → IsGuardNameOf ss t name → IsBase name) → ReadsKnown s before t → ReadsKnown s before (instance_statement ss ps t)
    reads_stay_known before g Null n h = h
    reads_stay_known before g (Sequence label ts) n h = reads_stay_known_all before g ts n h
    reads_stay_known before g (If c t) n h = (
      test_has_bits s (λ b. before b ≡ true) ss ps c (λ x k b o. g b (n x (inl k) b o)) h.0,
      reads_stay_known before g t (λ x k. n x (inr k)) h.1,
    )
    reads_stay_known before g (IfElse c t u) n h = (
      test_has_bits s (λ b. before b ≡ true) ss ps c (λ x k b o. g b (n x (inl k) b o)) h.0,
      (reads_stay_known before g t (λ x k. n x (inr (inl k))) h.1.0, reads_stay_known before g u (λ x k. n x (inr (inr k))) h.1.1),
    )
    reads_stay_known before g (Case kind on arms) n h = (
      has_bits s (λ b. before b ≡ true) ss ps on (λ x k b o. g b (n x (inl k) b o)) h.0,
      reads_stay_known_arms before g arms (λ x k. n x (inr k)) h.1,
    )
    reads_stay_known before g (Assign t now e) n h = (h.0, has_bits s (λ b. before b ≡ true) ss ps e (λ x k b o. g b (n x k b o)) h.1)
    reads_stay_known before g (For head t) n h = h

    reads_stay_known_all : (before : Bit → Bool) → Grown before → (ts : Statements) → ((name : Text) → IsGuardNameOfAll ss ts name → IsBase name) → AllReadKnown s before ts → AllReadKnown s before (instance_statements ss ps ts)
    reads_stay_known_all before g Done n h = h
    reads_stay_known_all before g (Then t ts) n h = (
      reads_stay_known before g t (λ x k. n x (inl k)) h.0,
      subst (λ k. AllReadKnown s k (instance_statements ss ps ts)) (sym (fun_ext (known_same ss ps s before t)))
          (reads_stay_known_all (known s before t) (λ b q. known_grows s before t b (g b q)) ts (λ x k. n x (inr k)) h.1),
    )

    reads_stay_known_arm : (before : Bit → Bool) → Grown before → (a : Arm) → ((name : Text) → IsGuardNameOfArm ss a name → IsBase name) → ArmReadsKnown s before a → ArmReadsKnown s before (instance_arm ss ps a)
    reads_stay_known_arm before g (CaseItem labels colon t) n h = (
      have_bits s (λ b. before b ≡ true) ss ps labels (λ x k b o. g b (n x (inl k) b o)) h.0,
      reads_stay_known before g t (λ x k. n x (inr k)) h.1,
    )

    reads_stay_known_arms : (before : Bit → Bool) → Grown before → (arms : Arms) → ((name : Text) → IsGuardNameOfArms ss arms name → IsBase name) → ArmsReadKnown s before arms → ArmsReadKnown s before (instance_arms ss ps arms)
    reads_stay_known_arms before g NoArms n h = h
    reads_stay_known_arms before g (MoreArms a rest) n h = (
      reads_stay_known_arm before g a (λ x k. n x (inl k)) h.0,
      reads_stay_known_arms before g rest (λ x k. n x (inr k)) h.1,
    )
