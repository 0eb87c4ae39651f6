-- What instances of the bodies of blocks keep: the statement inside is an instance, and last assignments to variables that
-- stand there as targets follow.
use Rattle.std.proofs.Common.{◌≡◌, inl, inr, ℕ, ◌==◌, Bool, true, false, ◌&&◌, ◌||◌, not, if◌then◌else◌, List, [], ◌∷◌, ◌++◌, refl, sym, subst, ap, ◌∙◌}
use mathlib.Core.Path.{fun_ext}
use Rattle.std.specs.List.{AllByRecursion, Contains}
use Rattle.std.proofs.Math.Logic.{⊎_elim}
use Rattle.std.proofs.lemmas.Bool.{and_from, both_ways}
use Rattle.rr_syntax.specs.declared.token.Number.{Number}
use Rattle.rr_syntax.specs.Tree.{Tree, Trees, Name, Literal, Bit as BitSelect, Part, Indexed, Unary, Binary, Cond, Concat, Repeat, Cast, Paren, End, More, Statement, Statements, Arm, Arms, Null, Block as Sequence, If, IfElse, Case, Assign, For, Done, Then, CaseItem, NoArms, MoreArms}
use Rattle.rr_expr.specs.declared.types.Bit.{Bit}
use Rattle.rr_expr.specs.Reading.{IsBitOf, NamesBit}
use Rattle.rr_expr.specs.Scopes.{Names, meant}
use Rattle.rr_flat.specs.Signals.{Text}
use Rattle.rr_flat.specs.Latches.{known, ReadsKnown, kept, NoLatch}
use Rattle.rr_flat.specs.Lawful.{labels_fit}
use Rattle.rr_flat.specs.Reads.{Assigned, StatementReads, TargetReads, names_in, names_in_parts, index_names, names_of, names_of_all, names_of_arm, names_of_arms, names_read, assigned_parts, assigned_by, assigned_by_all, assigned_by_arm, assigned_by_arms, writes}
use Rattle.rr_flat.specs.Targets.{target_bits, target_parts, targets_parts, part_name, may_write}
use Rattle.rr_choice.specs.declared.pick.Pick.{Pick}
use Rattle.rr_choice.specs.Choices.{picked_form, picked_name}
use Rattle.rr_choice.specs.Places.{is_overwrite_at}
use Rattle.rr_instance.specs.Instances.{fresh, unsigned_number, named, negated, gate, followed, overwritten, new_body, all_overwritten, instance_statement, instance_body}
use Rattle.rr_choice.specs.Sites as sites
use Rattle.rr_choice.specs.Sites.{SiteKind, Site, guard_names}
use Rattle.rr_instance_laws.specs.Tests.{IsNameAt, IsBodyName}
use Rattle.rr_instance_laws.proofs.Rounds.{picked_is_one}
use Rattle.rr_lawful_instance.specs.AreSites.{IsTargetOf, TargetStands}
use Rattle.rr_lawful_instance.proofs.Lists.{both, parts, holds_of}
use Rattle.rr_lawful_instance.proofs.Statements.{assigned_same, writes_same, fits_stays, names_of_instance, names_read_instance, reads_of_instance, known_same, known_grows, reads_stay_known}
use Rattle.rr_lawful_instance.proofs.Trees.{OfText}
use Rattle.rr_lawful_instance.proofs.Written.{targets_write}

-- The condition of a last assignment

gate_has : (R : Tree → Type 0) (P : Text → Type 0) (form : ℕ) (name : Text) → ((form == 0) ≡ false → P name) → R (Literal fresh (unsigned_number 1 1)) → (P name → R (named name)) → (P name → R (negated (named name))) →
    R (gate form name)
gate_has R P form name n always itself other = by_form (form == 0) (form == 1) n
  where
    by_form : (a b : Bool) → (a ≡ false → P name) → R (if a then Literal fresh (unsigned_number 1 1) else if b then named name else negated (named name))
    by_form true b n = always
    by_form false true n = itself (n refl)
    by_form false false n = other (n refl)

-- What holds of a body with its last assignments, where it holds of the body and each of them keeps it

module _ (body : Statement) (P : Text → Type 0) (Q : Statement → Type 0)
    (more : (form : ℕ) (name target : Text) (now : Bool) (value : Number) (t : Statement) → ((form == 0) ≡ false → P name) → IsTargetOf body target now → Q t → Q (followed (gate form name) target now value t)) where
  overwritten_has : (k : SiteKind) (p : Pick) (t : Statement) → ((name : Text) → Contains (guard_names k) name → P name) → TargetStands body k → Q t → Q (overwritten k p t)
  overwritten_has (sites.Literal width signed) p t n d h = h
  overwritten_has (sites.Guard owner extent names) p t n d h = h
  overwritten_has (sites.Overwrite owner target width now names) p t n d h =
      more (picked_form names p.form) (picked_name names p.name) target now (unsigned_number width p.value) t (λ e. n (picked_name names p.name) (picked_is_one names p.form p.name e)) d h

  new_body_has : (token : ℕ) (s : Site) (p : Pick) (t : Statement) → (is_overwrite_at token s ≡ true → (name : Text) → Contains (guard_names s.kind) name → P name) →
      (is_overwrite_at token s ≡ true → TargetStands body s.kind) → Q t → Q (new_body token s p t)
  new_body_has token s p t n d h = by_test (is_overwrite_at token s) p.on n d
    where
      by_test : (at on : Bool) → (at ≡ true → (name : Text) → Contains (guard_names s.kind) name → P name) → (at ≡ true → TargetStands body s.kind) → Q (if at && on then overwritten s.kind p t else t)
      by_test true true n d = overwritten_has s.kind p t (n refl) (d refl) h
      by_test true false n d = h
      by_test false on n d = h

  all_overwritten_has : (token : ℕ) (ss : List Site) (ps : List Pick) (t : Statement) → ((name : Text) → IsNameAt ss (is_overwrite_at token) name → P name) →
      AllByRecursion (λ s. is_overwrite_at token s ≡ true → TargetStands body s.kind) ss → Q t → Q (all_overwritten token ss ps t)
  unfolding all_overwritten IsNameAt
  all_overwritten_has token [] ps t n d h = h
  all_overwritten_has token (s ∷ ss) [] t n d h = h
  all_overwritten_has token (s ∷ ss) (p ∷ ps) t n d h =
      all_overwritten_has token ss ps (new_body token s p t) (λ name k. n name (inr k)) d.1
      (new_body_has token s p t (λ e name c. n name (inl (e, c))) d.0 h)

-- A variable that stands in a statement as a whole target is written by it

target_writes : (now : Bool) (s : Names) (b : Bit) (t : Statement) (name : Text) (k : Bool) (e : Tree) → IsTargetOf t name k → writes now s (Assign (named name) k e) b ≡ true → writes now s t b ≡ true
unfolding writes target_parts may_write target_bits
target_writes now s b t name k e i w = by_kind now k i w
  where
    at : (now k : Bool) → IsTargetOf t name k → k ≡ now → may_write s (Name fresh name ∷ []) b ≡ true → writes now s t b ≡ true
    at now k i = holds_of (λ a. a.now ≡ now → may_write s (a.part ∷ []) b ≡ true → writes now s t b ≡ true) (assigned_by t) (record { part = Name i.0 name; now = k })
        (targets_write now s b (writes now s t b ≡ true) t (λ h. h)) i.1

    by_kind : (now k : Bool) → IsTargetOf t name k → writes now s (Assign (named name) k e) b ≡ true → writes now s t b ≡ true
    by_kind true true i w = at true true i refl w
    by_kind true false i w = absurd (both_ways false refl w)
    by_kind false true i w = absurd (both_ways false refl w)
    by_kind false false i w = at false false i refl w

absorbed : (x w : Bool) → (w ≡ true → x ≡ true) → (x || (w || false)) ≡ x
absorbed true w h = refl
absorbed false true h = sym (h refl)
absorbed false false h = refl

-- a name that stands in a statement as a target stands in it
module _ (P : Text → Type 0) where
  abbrev IsNamed : Tree → Type 0
  IsNamed t = P (part_name t)

  mutual
    unfolding target_parts names_in

    part_named : (t : Tree) → AllByRecursion (OfText P) (names_in t) → AllByRecursion IsNamed (target_parts t)
    part_named (Name token x) h = (h.0, tt)
    part_named (Literal token n) h = tt
    part_named (BitSelect token x i) h = (h.0, tt)
    part_named (Part token x l r) h = (h.0, tt)
    part_named (Indexed token x f n up) h = (h.0, tt)
    part_named (Unary op t) h = tt
    part_named (Binary op l r) h = tt
    part_named (Cond a b c) h = tt
    part_named (Concat ts) h = part_named_all ts h
    part_named (Repeat k ts) h = tt
    part_named (Cast signed t) h = tt
    part_named (Paren t) h = tt

    part_named_all : (ts : Trees) → AllByRecursion (OfText P) (names_in_parts ts) → AllByRecursion IsNamed (targets_parts ts)
    part_named_all End h = tt
    part_named_all (More t ts) h =
        let p = parts (OfText P) (names_in t) (names_in_parts ts) h in
        both IsNamed (target_parts t) (targets_parts ts) (part_named t p.0) (part_named_all ts p.1)

  abbrev IsNamedTarget : Assigned → Type 0
  IsNamedTarget a = P (part_name a.part)

  assigned_named : (now : Bool) (ts : List Tree) → AllByRecursion IsNamed ts → AllByRecursion IsNamedTarget (assigned_parts now ts)
  unfolding assigned_parts
  assigned_named now [] h = tt
  assigned_named now (t ∷ ts) h = (h.0, assigned_named now ts h.1)

  mutual
    unfolding assigned_by names_of

    targets_named : (t : Statement) → AllByRecursion (OfText P) (names_of t) → AllByRecursion IsNamedTarget (assigned_by t)
    targets_named Null h = tt
    targets_named (Sequence label ts) h = targets_named_all ts h
    targets_named (If c t) h = targets_named t (parts (OfText P) (names_in c) (names_of t) h).1
    targets_named (IfElse c t u) h =
        let p = parts (OfText P) (names_of t) (names_of u) (parts (OfText P) (names_in c) (names_of t ++ names_of u) h).1 in
        both IsNamedTarget (assigned_by t) (assigned_by u) (targets_named t p.0) (targets_named u p.1)
    targets_named (Case kind on arms) h = targets_named_arms arms (parts (OfText P) (names_in on) (names_of_arms arms) h).1
    targets_named (Assign t now e) h = assigned_named now (target_parts t) (part_named t (parts (OfText P) (names_in t) (names_in e) h).0)
    targets_named (For head t) h = tt

    targets_named_all : (ts : Statements) → AllByRecursion (OfText P) (names_of_all ts) → AllByRecursion IsNamedTarget (assigned_by_all ts)
    targets_named_all Done h = tt
    targets_named_all (Then t ts) h =
        let p = parts (OfText P) (names_of t) (names_of_all ts) h in
        both IsNamedTarget (assigned_by t) (assigned_by_all ts) (targets_named t p.0) (targets_named_all ts p.1)

    targets_named_arm : (a : Arm) → AllByRecursion (OfText P) (names_of_arm a) → AllByRecursion IsNamedTarget (assigned_by_arm a)
    targets_named_arm (CaseItem labels colon t) h = targets_named t (parts (OfText P) (names_in_parts labels) (names_of t) h).1

    targets_named_arms : (arms : Arms) → AllByRecursion (OfText P) (names_of_arms arms) → AllByRecursion IsNamedTarget (assigned_by_arms arms)
    targets_named_arms NoArms h = tt
    targets_named_arms (MoreArms a rest) h =
        let p = parts (OfText P) (names_of_arm a) (names_of_arms rest) h in
        both IsNamedTarget (assigned_by_arm a) (assigned_by_arms rest) (targets_named_arm a p.0) (targets_named_arms rest p.1)

  target_named : (t : Statement) (name : Text) (now : Bool) → IsTargetOf t name now → AllByRecursion (OfText P) (names_of t) → P name
  target_named t name now i h = holds_of IsNamedTarget (assigned_by t) (record { part = Name i.0 name; now = now }) (targets_named t h) i.1

-- A statement with a last assignment

module _ (test : Tree) (target : Text) (now : Bool) (value : Number) (t : Statement) where
  abbrev longer : Statement
  longer = followed test target now value t

  assigned_more : (R : Text → Bool → Type 0) → R target now → AllByRecursion (λ a. R (part_name a.part) a.now) (assigned_by t) → AllByRecursion (λ a. R (part_name a.part) a.now) (assigned_by longer)
  unfolding assigned_by target_parts assigned_parts
  assigned_more R r h = both (λ a. R (part_name a.part) a.now) (assigned_by t) (record { part = named target; now = now } ∷ []) h (r, tt)

  writes_more : (k : Bool) (s : Names) (b : Bit) → writes k s longer b ≡ (writes k s t b || (writes k s (Assign (named target) now (Literal fresh value)) b || false))
  unfolding writes
  writes_more k s b = refl

  labels_more : labels_fit t ≡ true → labels_fit longer ≡ true
  unfolding labels_fit
  labels_more h = and_from (labels_fit t) true h refl

  names_more : (P : Text → Type 0) → AllByRecursion (OfText P) (names_in test) → P target → AllByRecursion (OfText P) (names_of t) → AllByRecursion (OfText P) (names_of longer)
  unfolding names_of names_in
  names_more P g p h =
      both (OfText P) (names_of t) ((names_in test ++ (record { token = fresh; text = target } ∷ [])) ++ []) h
      (both (OfText P) (names_in test ++ (record { token = fresh; text = target } ∷ [])) [] (both (OfText P) (names_in test) (record { token = fresh; text = target } ∷ []) g (p, tt)) tt)

  names_read_more : (P : Text → Type 0) → AllByRecursion (OfText P) (names_in test) → AllByRecursion (OfText P) (names_read t) → AllByRecursion (OfText P) (names_read longer)
  unfolding names_read index_names names_in
  names_read_more P g h = both (OfText P) (names_read t) ((names_in test ++ []) ++ []) h (both (OfText P) (names_in test ++ []) [] (both (OfText P) (names_in test) [] g tt) tt)

  reads_more : (s : Names) (R : Bit → Type 0) → ((b : Bit) → NamesBit s test b → R b) → ((b : Bit) → StatementReads s t b → R b) → (b : Bit) → StatementReads s longer b → R b
  unfolding StatementReads TargetReads NamesBit
  reads_more s R g h b r = ⊎_elim (h b) (λ q. ⊎_elim (λ i. ⊎_elim (g b) (λ j. ⊎_elim (λ x. absurd x) (λ x. absurd x) j) i) (λ i. absurd i) q) r

  known_reads_more : (s : Names) (before : Bit → Bool) → ((b : Bit) → NamesBit s test b → known s before t b ≡ true) → ReadsKnown s before t → ReadsKnown s before longer
  unfolding ReadsKnown TargetReads NamesBit
  known_reads_more s before g h = (h, ((g, ((λ b x. absurd x), (λ b x. absurd x))), tt))

known_assigned : (s : Names) (before : Bit → Bool) (u : Tree) (now : Bool) (e : Tree) (b : Bit) → before b ≡ true → known s before (Assign u now e) b ≡ true
known_assigned s before u now e b h = known_grows s before (Assign u now e) b h

known_more : (s : Names) (before : Bit → Bool) (test : Tree) (target : Text) (now : Bool) (value : Number) (t : Statement) (b : Bit) → known s before t b ≡ true → known s before (followed test target now value t) b ≡ true
unfolding known
known_more s before test target now value t b h =
    and_from (known s (known s before t) (Assign (named target) now (Literal fresh value)) b) (known s before t b) (known_assigned s (known s before t) (named target) now (Literal fresh value) b h) h

gate_names : (P : Text → Type 0) (form : ℕ) (name : Text) → ((form == 0) ≡ false → P name) → AllByRecursion (OfText P) (names_in (gate form name))
unfolding names_in
gate_names P form name n = gate_has (λ t. AllByRecursion (OfText P) (names_in t)) P form name n tt (λ p. (p, tt)) (λ p. (p, tt))

gate_bits : (s : Names) (R : Bit → Type 0) (P : Text → Type 0) (form : ℕ) (name : Text) → ((form == 0) ≡ false → P name) → ((x : Text) → P x → (b : Bit) → IsBitOf (meant s x) b → R b) → (b : Bit) → NamesBit s (gate form name) b → R b
unfolding NamesBit
gate_bits s R P form name n g = gate_has (λ t. (b : Bit) → NamesBit s t b → R b) P form name n (λ b x. absurd x) (λ p. g name p) (λ p. g name p)

-- The instance of a body, whose guards and last assignments have names that hold P and whose targets stand there

module _ (P : Text → Type 0) (ss : List Site) (ps : List Pick) (token : ℕ) (body : Statement)
    (names : (name : Text) → IsBodyName ss token body name → P name) (targets : AllByRecursion (λ s. is_overwrite_at token s ≡ true → TargetStands body s.kind) ss) where
  abbrev new : Statement
  new = instance_body ss ps token body

  by_steps : (Q : Statement → Type 0) → ((form : ℕ) (name target : Text) (now : Bool) (value : Number) (t : Statement) → ((form == 0) ≡ false → P name) → IsTargetOf body target now → Q t → Q (followed (gate form name) target now value t)) →
      Q (instance_statement ss ps body) → Q new
  by_steps Q more h = all_overwritten_has body P Q more token ss ps (instance_statement ss ps body) (λ name k. names name (inl k)) targets h

  -- targets
  pub body_assigned : (R : Text → Bool → Type 0) → AllByRecursion (λ a. R (part_name a.part) a.now) (assigned_by body) → AllByRecursion (λ a. R (part_name a.part) a.now) (assigned_by new)
  body_assigned R h = by_steps Holds more (subst (AllByRecursion Kept) (sym (assigned_same ss ps body)) h)
    where
      Kept : Assigned → Type 0
      Kept a = R (part_name a.part) a.now

      Holds : Statement → Type 0
      Holds t = AllByRecursion Kept (assigned_by t)

      more : (form : ℕ) (name target : Text) (now : Bool) (value : Number) (t : Statement) → ((form == 0) ≡ false → P name) → IsTargetOf body target now → Holds t → Holds (followed (gate form name) target now value t)
      more form name target now value t n d k = assigned_more (gate form name) target now value t R (holds_of Kept (assigned_by body) (record { part = Name d.0 target; now = now }) h d.1) k

  pub body_writes : (now : Bool) (s : Names) (b : Bit) → writes now s new b ≡ writes now s body b
  body_writes now s b = by_steps (λ t. writes now s t b ≡ writes now s body b) more (writes_same ss ps now s body b)
    where
      more : (form : ℕ) (name target : Text) (k : Bool) (value : Number) (t : Statement) → ((form == 0) ≡ false → P name) → IsTargetOf body target k →
          writes now s t b ≡ writes now s body b → writes now s (followed (gate form name) target k value t) b ≡ writes now s body b
      more form name target k value t n d e =
          writes_more (gate form name) target k value t now s b
          ∙ ap (λ x. x || (writes now s (Assign (named target) k (Literal fresh value)) b || false)) e
          ∙ absorbed (writes now s body b) (writes now s (Assign (named target) k (Literal fresh value)) b) (target_writes now s b body target k (Literal fresh value) d)

  -- labels
  pub body_labels : labels_fit body ≡ true → labels_fit new ≡ true
  body_labels h = by_steps (λ t. labels_fit t ≡ true) (λ form name target now value t n d k. labels_more (gate form name) target now value t k) (fits_stays ss ps body h)

  -- names
  pub body_names : AllByRecursion (OfText P) (names_of body) → AllByRecursion (OfText P) (names_of new)
  body_names h = by_steps (λ t. AllByRecursion (OfText P) (names_of t)) more (names_of_instance ss ps P body (λ name k. names name (inr k)) h)
    where
      more : (form : ℕ) (name target : Text) (now : Bool) (value : Number) (t : Statement) → ((form == 0) ≡ false → P name) → IsTargetOf body target now →
          AllByRecursion (OfText P) (names_of t) → AllByRecursion (OfText P) (names_of (followed (gate form name) target now value t))
      more form name target now value t n d k = names_more (gate form name) target now value t P (gate_names P form name n) (target_named P body target now d h) k

  pub body_names_read : AllByRecursion (OfText P) (names_read body) → AllByRecursion (OfText P) (names_read new)
  body_names_read h =
      by_steps (λ t. AllByRecursion (OfText P) (names_read t)) (λ form name target now value t n d k. names_read_more (gate form name) target now value t P (gate_names P form name n) k)
      (names_read_instance ss ps P body (λ name k. names name (inr k)) h)

  -- bits that are read
  pub body_reads : (s : Names) (R : Bit → Type 0) → ((name : Text) → P name → (b : Bit) → IsBitOf (meant s name) b → R b) → ((b : Bit) → StatementReads s body b → R b) → (b : Bit) → StatementReads s new b → R b
  body_reads s R g h =
      by_steps (λ t. (b : Bit) → StatementReads s t b → R b) (λ form name target now value t n d k. reads_more (gate form name) target now value t s R (gate_bits s R P form name n g) k)
      (reads_of_instance ss ps s R body (λ name k. g name (names name (inr k))) h)

  -- latches
  pub body_latches : (s : Names) → NoLatch s body → ((name : Text) → P name → (b : Bit) → IsBitOf (meant s name) b → kept s body b ≡ true) → NoLatch s new
  body_latches s l g = record {
    reads = subst (λ k. ReadsKnown s k new) (sym same) q.0;
    ends = λ b w. subst (λ k. known s k new b ≡ true) (sym same) (q.1 b (l.ends b (sym (body_writes true s b) ∙ w)));
  }
    where
      before : Bit → Bool
      before = kept s body

      same : kept s new ≡ kept s body
      same = fun_ext (λ b. ap not (body_writes true s b))

      Holds : Statement → Type 0
      Holds t = ReadsKnown s before t × ((b : Bit) → known s before body b ≡ true → known s before t b ≡ true)

      first : Holds (instance_statement ss ps body)
      first = (
        reads_stay_known ss ps s before before (λ b e. e) body (λ name k. g name (names name (inr k))) l.reads,
        λ b e. known_same ss ps s before body b ∙ e,
      )

      more : (form : ℕ) (name target : Text) (now : Bool) (value : Number) (t : Statement) → ((form == 0) ≡ false → P name) → IsTargetOf body target now → Holds t → Holds (followed (gate form name) target now value t)
      more form name target now value t n d h = (
        known_reads_more (gate form name) target now value t s before (gate_bits s (λ b. known s before t b ≡ true) P form name n (λ x p b o. known_grows s before t b (g x p b o))) h.0,
        λ b e. known_more s before (gate form name) target now value t b (h.1 b e),
      )

      q : Holds new
      q = by_steps Holds more first
