-- One element more at the end of a slice, of what is made of it, and of its count.
use Rattle.std.proofs.Common.{◌≡◌, ◌∙◌, sym, ap, ap₂, ℕ, ◌+◌, ◌<◌, ◌≤◌, List, [], ◌∷◌, ◌++◌, length, get_or, take, drop, Option, Result, Ok, Err, inl, inr, refl}
use Rattle.std.proofs.lemmas.List.{take_more, drop_all}
use Rattle.rr_syntax.specs.declared.tree.Arm.{Arm as Branch}
use Rattle.rr_syntax.specs.declared.tree.Stmt.{Stmt}
use Rattle.rr_syntax.specs.Tree.{Statement, Statements, Done, Then, Arm, Arms, CaseItem, NoArms, MoreArms}
use Rattle.rr_syntax.specs.View.{plain_list, plain_statement, plain_statements, plain_arm, plain_arms}
use Rattle.rr_expr.specs.Scopes.{Names}
use Rattle.rr_flat.specs.declared.fault.FlatFault.{FlatFault}
use Rattle.rr_flat.specs.Faults.{and_then, Refuses}
use Rattle.rr_flat.proofs.Lists.{rest}
use Rattle.rr_loop_names.specs.Turns.{Turn, put_parts}
use Rattle.rr_loop_rules.specs.Rules.{LoopNames}
use Rattle.rr_unfold.specs.Unfold.{Count, counted, counted_all, counted_arms, unfold_statement, unfold_statements, unfold_arm, unfold_arms}
use Rattle.rr_unfold.proofs.Openings.{refuses_then}

-- lists that grow at their end

unfoldable pub with_last : Statements → Statement → Statements
with_last Done t = Then t Done
with_last (Then u us) t = Then u (with_last us t)

pub statements_snoc : (xs : List Stmt) (s : Stmt) → plain_statements (xs ++ s ∷ []) ≡ with_last (plain_statements xs) (plain_statement s)
unfolding plain_statements with_last
statements_snoc [] s = refl
statements_snoc (x ∷ xs) s = ap (Then (plain_statement x)) (statements_snoc xs s)

with_last_arm : Arms → Arm → Arms
with_last_arm NoArms a = MoreArms a NoArms
with_last_arm (MoreArms b bs) a = MoreArms b (with_last_arm bs a)

arms_snoc : (xs : List Branch) (a : Branch) → plain_arms (xs ++ a ∷ []) ≡ with_last_arm (plain_arms xs) (plain_arm a)
unfolding plain_arms with_last_arm
arms_snoc [] a = refl
arms_snoc (x ∷ xs) a = ap (MoreArms (plain_arm x)) (arms_snoc xs a)

up_to : {A : Type 0} (xs : List A) (i : ℕ) (x : A) → i < length xs → x ≡ get_or xs i x → take (i + 1) xs ≡ take i xs ++ x ∷ []
up_to xs i x l e = take_more xs i x l ∙ ap (λ y. take i xs ++ y ∷ []) (sym e)

first_is : {A : Type 0} (xs : List A) (i : ℕ) (x : A) → i < length xs → x ≡ get_or xs i x → drop i xs ≡ x ∷ drop (i + 1) xs
first_is xs i x l e = rest xs i x l ∙ ap (λ y. y ∷ drop (i + 1) xs) (sym e)

-- statements without loops

module _ (s : Names) (turn : Turn) where
  made_last : (ts : Statements) (t : Statement) → unfold_statements s turn (with_last ts t) ≡ with_last (unfold_statements s turn ts) (unfold_statement s turn t)
  unfolding unfold_statement with_last
  made_last Done t = refl
  made_last (Then u us) t = ap (Then (unfold_statement s turn u)) (made_last us t)

  pub statements_none : (xs : List Stmt) → xs ≡ [] → plain_statements xs ≡ unfold_statements s turn (plain_statements [])
  unfolding plain_statements unfold_statement
  statements_none xs e = ap plain_statements e

  pub statements_more : (xs zs ys : List Stmt) (i : ℕ) (y new : Stmt) → i < length ys → y ≡ get_or ys i y → plain_statements xs ≡ unfold_statements s turn (plain_statements (take i ys)) → plain_statement new ≡ unfold_statement s turn (plain_statement y) → zs ≡ xs ++ new ∷ []
      → plain_statements zs ≡ unfold_statements s turn (plain_statements (take (i + 1) ys))
  statements_more xs zs ys i y new l is h n z =
      ap plain_statements z ∙ statements_snoc xs new ∙ ap₂ with_last h n ∙ sym (made_last (plain_statements (take i ys)) (plain_statement y)) ∙ ap (unfold_statements s turn) (sym (statements_snoc (take i ys) y) ∙ ap plain_statements (sym (up_to ys i y l is)))

  made_last_arm : (list : Arms) (a : Arm) → unfold_arms s turn (with_last_arm list a) ≡ with_last_arm (unfold_arms s turn list) (unfold_arm s turn a)
  unfolding unfold_statement with_last_arm
  made_last_arm NoArms a = refl
  made_last_arm (MoreArms b bs) a = ap (MoreArms (unfold_arm s turn b)) (made_last_arm bs a)

  pub arms_none : (xs : List Branch) → xs ≡ [] → plain_arms xs ≡ unfold_arms s turn (plain_arms [])
  unfolding plain_arms unfold_statement
  arms_none xs e = ap plain_arms e

  pub arms_more : (xs zs ys : List Branch) (i : ℕ) (y new : Branch) → i < length ys → y ≡ get_or ys i y → plain_arms xs ≡ unfold_arms s turn (plain_arms (take i ys)) → plain_arm new ≡ unfold_arm s turn (plain_arm y) → zs ≡ xs ++ new ∷ []
      → plain_arms zs ≡ unfold_arms s turn (plain_arms (take (i + 1) ys))
  arms_more xs zs ys i y new l is h n z =
      ap plain_arms z ∙ arms_snoc xs new ∙ ap₂ with_last_arm h n ∙ sym (made_last_arm (plain_arms (take i ys)) (plain_arm y)) ∙ ap (unfold_arms s turn) (sym (arms_snoc (take i ys) y) ∙ ap plain_arms (sym (up_to ys i y l is)))

-- an arm without loops
pub arm_made : (s : Names) (turn : Turn) (a : Branch) → unfold_arm s turn (plain_arm a) ≡ CaseItem (put_parts turn (plain_list a.labels.now)) a.colon (unfold_statement s turn (plain_statement a.body.now))
unfolding plain_arm unfold_statement
arm_made s turn a = refl

-- counts

module _ (limit : Option ℕ) (L : LoopNames) (s : Names) (turn : Turn) where
  all_first : (xs : List Stmt) (i : ℕ) (x : Stmt) (c : Count) → i < length xs → x ≡ get_or xs i x
      → counted_all limit L s turn (plain_statements (drop i xs)) c ≡ and_then (counted limit L s turn (plain_statement x) c) (counted_all limit L s turn (plain_statements (drop (i + 1) xs)))
  unfolding counted plain_statements
  all_first xs i x c l e = ap (λ ys. counted_all limit L s turn (plain_statements ys) c) (first_is xs i x l e)

  pub all_next : (xs : List Stmt) (i : ℕ) (x : Stmt) (c d : Count) → i < length xs → x ≡ get_or xs i x → counted limit L s turn (plain_statement x) c ≡ Ok d
      → counted_all limit L s turn (plain_statements (drop (i + 1) xs)) d ≡ counted_all limit L s turn (plain_statements (drop i xs)) c
  all_next xs i x c d l e h = sym (all_first xs i x c l e ∙ ap (λ r. and_then r (counted_all limit L s turn (plain_statements (drop (i + 1) xs)))) h)

  pub all_stops : (xs : List Stmt) (i : ℕ) (x : Stmt) (c : Count) (f : FlatFault) → i < length xs → x ≡ get_or xs i x → Refuses (counted limit L s turn (plain_statement x) c) f
      → Refuses (counted_all limit L s turn (plain_statements (drop i xs)) c) f
  all_stops xs i x c f l e (inl memory) = inl memory
  all_stops xs i x c f l e (inr h) = inr (all_first xs i x c l e ∙ ap (λ r. and_then r (counted_all limit L s turn (plain_statements (drop (i + 1) xs)))) h)

  pub all_done : (xs : List Stmt) (i : ℕ) (c : Count) → length xs ≤ i → counted_all limit L s turn (plain_statements (drop i xs)) c ≡ Ok c
  unfolding counted plain_statements
  all_done xs i c l = ap (λ ys. counted_all limit L s turn (plain_statements ys) c) (drop_all i xs l)

  arms_first : (xs : List Branch) (i : ℕ) (x : Branch) (c : Count) → i < length xs → x ≡ get_or xs i x
      → counted_arms limit L s turn (plain_arms (drop i xs)) c ≡ and_then (counted limit L s turn (plain_statement x.body.now) c) (counted_arms limit L s turn (plain_arms (drop (i + 1) xs)))
  unfolding counted plain_arms plain_arm
  arms_first xs i x c l e = ap (λ ys. counted_arms limit L s turn (plain_arms ys) c) (first_is xs i x l e)

  pub arms_next : (xs : List Branch) (i : ℕ) (x : Branch) (c d : Count) → i < length xs → x ≡ get_or xs i x → counted limit L s turn (plain_statement x.body.now) c ≡ Ok d
      → counted_arms limit L s turn (plain_arms (drop (i + 1) xs)) d ≡ counted_arms limit L s turn (plain_arms (drop i xs)) c
  arms_next xs i x c d l e h = sym (arms_first xs i x c l e ∙ ap (λ r. and_then r (counted_arms limit L s turn (plain_arms (drop (i + 1) xs)))) h)

  pub arms_stop : (xs : List Branch) (i : ℕ) (x : Branch) (c : Count) (f : FlatFault) → i < length xs → x ≡ get_or xs i x → Refuses (counted limit L s turn (plain_statement x.body.now) c) f
      → Refuses (counted_arms limit L s turn (plain_arms (drop i xs)) c) f
  arms_stop xs i x c f l e (inl memory) = inl memory
  arms_stop xs i x c f l e (inr h) = inr (arms_first xs i x c l e ∙ ap (λ r. and_then r (counted_arms limit L s turn (plain_arms (drop (i + 1) xs)))) h)

  pub arms_done : (xs : List Branch) (i : ℕ) (c : Count) → length xs ≤ i → counted_arms limit L s turn (plain_arms (drop i xs)) c ≡ Ok c
  unfolding counted plain_arms
  arms_done xs i c l = ap (λ ys. counted_arms limit L s turn (plain_arms ys) c) (drop_all i xs l)
