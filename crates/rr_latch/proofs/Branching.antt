-- The paths through a block, statement by statement.
use Rattle.std.proofs.Common.{◌≡◌, ◌∙◌, sym, ap, subst, ℕ, zero, suc, ◌+◌, ◌<◌, ◌≤◌, ◌⊎◌, inl, inr, Bool, true, false, not, ◌&&◌, ◌||◌, List, [], ◌∷◌, length, drop, get_or, Option, None, Some, is_none, nat_eq, refl, arith}
use Rattle.std.proofs.lemmas.List.{drop_all}
use Rattle.std.specs.Prelude.{Vec}
use Rattle.std.specs.declared.alloc.Global.{Global}
use Rattle.rr_syntax.specs.declared.token.Keyword.{Keyword}
use Rattle.rr_syntax.specs.declared.tree.Arm.{Arm as Branch}
use Rattle.rr_syntax.specs.declared.tree.Expr.{Expr}
use Rattle.rr_syntax.specs.declared.tree.Named.{Named}
use Rattle.rr_syntax.specs.declared.tree.Head.{Head}
use Rattle.rr_syntax.specs.declared.tree.Stmt.{Stmt}
use Rattle.rr_syntax.specs.declared.tree.Stmt.TheVariants as stmt
use Rattle.rr_syntax.specs.Tree.{Tree, Trees, Identifier, LoopHead, Statement, Statements, Arms, Null, Block as Sequence, If, IfElse, Case, Assign, For, Done, Then, CaseItem, NoArms, MoreArms}
use Rattle.rr_syntax.specs.View.{plain, plain_list, plain_statement, plain_statements, plain_arm, plain_arms, plain_label, plain_loop}
use Rattle.rr_syntax.proofs.Rows.{plain_block, plain_case}
use Rattle.rr_expr.specs.declared.types.Bit.{Bit}
use Rattle.rr_expr.specs.Faults.{fault}
use Rattle.rr_expr.specs.Reading.{NamesBit, NamesBits}
use Rattle.rr_expr.specs.Scopes.{Names}
use Rattle.rr_flat.specs.Latches.{has_default, has_labels, known, known_all, known_arms}
use Rattle.rr_flat.specs.Reads.{TargetReads}
use Rattle.rr_flat.specs.Targets.{assigns_target}
use Rattle.rr_flat.specs.Shapes.{list_faults, statement_faults, statements_faults, arms_faults}
use Rattle.rr_named_bits.specs.declared.writes.Write.{Write}
use Rattle.rr_named_bits.specs.Lists.{must}
use Rattle.rr_named_bits.proofs.Growing.{rest_is}
use Rattle.rr_latch.specs.declared.early.Early.{Early}
use Rattle.rr_latch.specs.Immediate.{immediate}
use Rattle.rr_latch.specs.Notes.{Noted, Unassigned}
use Rattle.rr_latch.specs.Paths.{assigned, counted, counted_all, counted_arms, listed, listed_in, in_all, taken, Logged, Ran, known_by_case}
use Rattle.rr_latch.specs.Unassigned.{ReadEarly, AnyReadEarly, ArmReadEarly, ArmsReadEarly}
use Rattle.rr_latch.proofs.Knowing.{ext, known_kept, known_arms_kept}
use Rattle.rr_latch.proofs.Noting.{NotedBut, but_start, but_next, but_done, noted_none, noted_as, noted_both}
use Rattle.rr_latch.proofs.Logs.{logged_none, logged_both, newly, undone, and_true, or_true}
use Rattle.rr_writers.proofs.Entries.{or_false}
use Rattle.rr_writers.proofs.Statements.{shaped-If, shaped-IfElse, statements_shaped, arms_shaped}
use denote.Ref.{Bor}

abbrev pub RanBy : Names → Statement → (Bit → Bool) → (Bit → Bool) → List Bit → List Bit → Type 0
RanBy s t f g a b = Ran (known s f t) f g a b

-- the same assignments after a statement that is equal, or that assigns the same
pub ran_as : (p q f g : Bit → Bool) (a b : List Bit) → ((x : Bit) → q x ≡ p x) → Ran p f g a b → Ran q f g a b
ran_as p q f g a b e r = record { set = λ x. r.set x ∙ sym (e x); log = r.log }

-- statements as they count

pub counted-Null : (later : Bool) → counted later (plain_statement stmt.Null) ≡ Null
unfolding plain_statement immediate
counted-Null true = refl
counted-Null false = refl

pub counted-Block : (later : Bool) (label : Option Named) (body : Bor (List Stmt)) → counted later (plain_statement (stmt.Block label body)) ≡ Sequence (plain_label label) (counted_all later (plain_statements body.now))
unfolding immediate
counted-Block true label body = ap immediate (plain_block label body)
counted-Block false label body = plain_block label body

pub counted-If : (later : Bool) (test : Bor Expr) (a : Bor Stmt) → counted later (plain_statement (stmt.If test a None)) ≡ If (plain test.now) (counted later (plain_statement a.now))
unfolding plain_statement immediate
counted-If true test a = refl
counted-If false test a = refl

pub counted-IfElse : (later : Bool) (test : Bor Expr) (a b : Bor Stmt)
    → counted later (plain_statement (stmt.If test a (Some b))) ≡ IfElse (plain test.now) (counted later (plain_statement a.now)) (counted later (plain_statement b.now))
unfolding plain_statement immediate
counted-IfElse true test a b = refl
counted-IfElse false test a b = refl

pub counted-Case : (later : Bool) (kind : Keyword) (on : Bor Expr) (arms : Bor (List Branch)) → counted later (plain_statement (stmt.Case kind on arms)) ≡ Case kind.0 (plain on.now) (counted_arms later (plain_arms arms.now))
unfolding immediate
counted-Case true kind on arms = ap immediate (plain_case kind on arms)
counted-Case false kind on arms = plain_case kind on arms

pub counted-Assign : (later : Bool) (target : Bor Expr) (now : Bool) (value : Bor Expr) → counted later (plain_statement (stmt.Assign target now value)) ≡ Assign (plain target.now) (now || later) (plain value.now)
unfolding plain_statement immediate
counted-Assign true target now value = ap (λ z. Assign (plain target.now) z (plain value.now)) (sym (or_true now))
counted-Assign false target now value = ap (λ z. Assign (plain target.now) z (plain value.now)) (sym (or_false now))

pub counted-For : (later : Bool) (head : Head) (a : Bor Stmt) → counted later (plain_statement (stmt.For head a)) ≡ For (plain_loop head) (counted later (plain_statement a.now))
unfolding plain_statement immediate
counted-For true head a = refl
counted-For false head a = refl

counted-Done : (later : Bool) → counted_all later (plain_statements []) ≡ Done
unfolding plain_statements immediate
counted-Done true = refl
counted-Done false = refl

counted-Then : (later : Bool) (x : Stmt) (xs : List Stmt) → counted_all later (plain_statements (x ∷ xs)) ≡ Then (counted later (plain_statement x)) (counted_all later (plain_statements xs))
unfolding plain_statements immediate
counted-Then true x xs = refl
counted-Then false x xs = refl

counted-NoArms : (later : Bool) → counted_arms later (plain_arms []) ≡ NoArms
unfolding plain_arms immediate
counted-NoArms true = refl
counted-NoArms false = refl

counted-MoreArms : (later : Bool) (x : Branch) (xs : List Branch)
    → counted_arms later (plain_arms (x ∷ xs)) ≡ MoreArms (CaseItem (plain_list x.labels.now) x.colon (counted later (plain_statement x.body.now))) (counted_arms later (plain_arms xs))
unfolding plain_arms plain_arm immediate
counted-MoreArms true x xs = refl
counted-MoreArms false x xs = refl

counted_default : (later : Bool) (arms : Arms) → has_default (counted_arms later arms) ≡ has_default arms
unfolding has_default immediate
counted_default false arms = refl
counted_default true NoArms = refl
counted_default true (MoreArms (CaseItem labels colon body) rest) = ap (λ z. not (has_labels labels) || z) (counted_default true rest)

-- the test of an `if`, whose `else` may be there
pub test_shaped : (s : Names) (t : Bor Expr) (y : Bor Stmt) (n : Option (Bor Stmt)) → statement_faults s (plain_statement (stmt.If t y n)) ≡ [] → fault s (plain t.now) false ≡ None
test_shaped s t y None h = (shaped-If s t y h).0
test_shaped s t y (Some n) h = (shaped-IfElse s t y n h).0

-- one statement

pub ran-Null : (s : Names) (f : Bit → Bool) (a : List Bit) → RanBy s Null f f a a
unfolding known
ran-Null s f a = record { set = λ b. refl; log = logged_none a f f (λ b. refl) }

pub noted-Null : (s : Names) (f : Bit → Bool) (e : Early) → Noted (ReadEarly s f Null) e e
unfolding ReadEarly
noted-Null s f e = noted_none (λ b. ⊥) e (λ b r. r)

pub ran-For : (s : Names) (head : LoopHead) (t : Statement) (f : Bit → Bool) (a : List Bit) → RanBy s (For head t) f f a a
unfolding known
ran-For s head t f a = record { set = λ b. refl; log = logged_none a f f (λ b. refl) }

pub noted-For : (s : Names) (head : LoopHead) (t : Statement) (f : Bit → Bool) (e : Early) → Noted (ReadEarly s f (For head t)) e e
unfolding ReadEarly
noted-For s head t f e = noted_none (λ b. ⊥) e (λ b r. r)

pub ran-Block : (s : Names) (label : Option Identifier) (ts : Statements) (f g : Bit → Bool) (a b : List Bit) → Ran (known_all s f ts) f g a b → RanBy s (Sequence label ts) f g a b
unfolding known
ran-Block s label ts f g a b r = record { set = r.set; log = r.log }

pub noted-Block : (s : Names) (label : Option Identifier) (ts : Statements) (f : Bit → Bool) (a b : Early) → Noted (AnyReadEarly s f ts) a b → Noted (ReadEarly s f (Sequence label ts)) a b
unfolding ReadEarly
noted-Block s label ts f a b n = noted_as (AnyReadEarly s f ts) (AnyReadEarly s f ts) a b (λ x r. r) (λ x r. r) n

pub ran-If : (s : Names) (c : Tree) (t : Statement) (f g : Bit → Bool) (a b : List Bit) → Ran (λ x. known s f t x && f x) f g a b → RanBy s (If c t) f g a b
unfolding known
ran-If s c t f g a b r = record { set = r.set; log = r.log }

-- the bits of two parts of a statement, the first of which is an expression
two_noted : (P Q R : Bit → Type 0) (a b c : Early) → ((x : Bit) → R x → P x ⊎ Q x) → ((x : Bit) → P x ⊎ Q x → R x) → Noted P a b → Noted Q b c → Noted R a c
two_noted P Q R a b c f g m n = noted_both P Q R a b c f (λ x p. g x (inl p)) (λ x q. g x (inr q)) m n

pub noted-If : (s : Names) (c : Tree) (t : Statement) (rows : List (List ℕ)) (x y z : Early) → Noted (Unassigned rows (NamesBit s c)) x y → Noted (ReadEarly s (assigned rows) t) y z → Noted (ReadEarly s (assigned rows) (If c t)) x z
unfolding ReadEarly
noted-If s c t rows x y z m n = two_noted (Unassigned rows (NamesBit s c)) (ReadEarly s (assigned rows) t) (ReadEarly s (assigned rows) (If c t)) x y z (λ b r. r) (λ b r. r) m n

pub ran-IfElse : (s : Names) (c : Tree) (t u : Statement) (f g : Bit → Bool) (a b : List Bit) → Ran (λ x. known s f t x && known s f u x) f g a b → RanBy s (IfElse c t u) f g a b
unfolding known
ran-IfElse s c t u f g a b r = record { set = r.set; log = r.log }

pub noted-IfElse : (s : Names) (c : Tree) (t u : Statement) (rows : List (List ℕ)) (x y z : Early) → Noted (Unassigned rows (NamesBit s c)) x y
    → Noted (λ b. ReadEarly s (assigned rows) t b ⊎ ReadEarly s (assigned rows) u b) y z → Noted (ReadEarly s (assigned rows) (IfElse c t u)) x z
unfolding ReadEarly
noted-IfElse s c t u rows x y z m n =
    two_noted (Unassigned rows (NamesBit s c)) (λ b. ReadEarly s (assigned rows) t b ⊎ ReadEarly s (assigned rows) u b) (ReadEarly s (assigned rows) (IfElse c t u)) x y z (λ b r. r) (λ b r. r) m n

pub ran-Case : (s : Names) (kind : ℕ) (on : Tree) (arms : Arms) (f g : Bit → Bool) (a b : List Bit) → Ran (known_by_case s f arms) f g a b → RanBy s (Case kind on arms) f g a b
unfolding known
ran-Case s kind on arms f g a b r = record { set = r.set; log = r.log }

pub noted-Case : (s : Names) (kind : ℕ) (on : Tree) (arms : Arms) (rows : List (List ℕ)) (x y z : Early) → Noted (Unassigned rows (NamesBit s on)) x y → Noted (ArmsReadEarly s (assigned rows) arms) y z
    → Noted (ReadEarly s (assigned rows) (Case kind on arms)) x z
unfolding ReadEarly
noted-Case s kind on arms rows x y z m n =
    two_noted (Unassigned rows (NamesBit s on)) (ArmsReadEarly s (assigned rows) arms) (ReadEarly s (assigned rows) (Case kind on arms)) x y z (λ b r. r) (λ b r. r) m n

pub ran_assign : (s : Names) (t e : Tree) (f g : Bit → Bool) (a b : List Bit) (ws : List Write) → ((x : Bit) → must ws x ≡ (must [] x || assigns_target s t x)) → ((x : Bit) → g x ≡ (f x || must ws x)) → Logged a b f g
    → RanBy s (Assign t true e) f g a b
unfolding known must
ran_assign s t e f g a b ws w h l = record { set = λ x. h x ∙ ap (λ z. f x || z) (w x); log = l }

pub ran_later : (s : Names) (t e : Tree) (f : Bit → Bool) (a : List Bit) → RanBy s (Assign t false e) f f a a
unfolding known
ran_later s t e f a = record { set = λ x. refl; log = logged_none a f f (λ x. refl) }

pub noted_assign : (s : Names) (t : Tree) (now : Bool) (e : Tree) (rows : List (List ℕ)) (x y z : Early) → Noted (Unassigned rows (TargetReads s t)) x y → Noted (Unassigned rows (NamesBit s e)) y z
    → Noted (ReadEarly s (assigned rows) (Assign t now e)) x z
unfolding ReadEarly
noted_assign s t now e rows x y z m n =
    two_noted (Unassigned rows (TargetReads s t)) (Unassigned rows (NamesBit s e)) (ReadEarly s (assigned rows) (Assign t now e)) x y z (λ b r. r) (λ b r. r) m n

-- what a branch assigns, and what it leaves

pub branch_bits : (s : Names) (f g : Bit → Bool) (t : Statement) (common : Option (Vec Bit Global)) (a b : List Bit) (bits : List Bit) → RanBy s t f g a b → ((x : Bit) → listed bits x ≡ taken (drop (length a) b) g common x)
    → (x : Bit) → listed bits x ≡ (in_all f common x && known s f t x)
branch_bits s f g t None a b bits r h x = h x ∙ (newly a b f g r.log x ∙ ap (λ z. not (f x) && z) (r.set x))
branch_bits s f g t (Some c) a b bits r h x = h x ∙ ap (λ z. listed c.items x && z) (r.set x)

pub branch_left : (s : Names) (f g h : Bit → Bool) (t : Statement) (a b : List Bit) → RanBy s t f g a b → ((x : Bit) → h x ≡ (g x && not (listed (drop (length a) b) x))) → (x : Bit) → h x ≡ f x
branch_left s f g h t a b r e x = e x ∙ undone a b f g r.log (λ y k. r.set y ∙ known_kept s f t y k) x

pub if_ran : (s : Names) (t : Statement) (f g : Bit → Bool) (a b : List Bit) → ((x : Bit) → g x ≡ f x) → b ≡ a → Ran (λ x. known s f t x && f x) f g a b
if_ran s t f g a b e l = record { set = λ x. e x ∙ go (f x) (known s f t x) (known_kept s f t x); log = subst (λ z. Logged a z f g) (sym l) (logged_none a f g e) }
  where
    go : (u k : Bool) → (u ≡ true → k ≡ true) → u ≡ (k && u)
    go true k h = rw (h refl) refl
    go false true h = refl
    go false false h = refl

pub if_else_ran : (s : Names) (t u : Statement) (f g h j : Bit → Bool) (a b d : List Bit) (first both : Vec Bit Global) → ((x : Bit) → listed first.items x ≡ (in_all f None x && known s f t x)) → ((x : Bit) → g x ≡ f x)
    → ((x : Bit) → listed both.items x ≡ (in_all g (Some first) x && known s g u x)) → ((x : Bit) → h x ≡ g x) → b ≡ a → ((x : Bit) → j x ≡ (h x || listed both.items x)) → Logged b d h j
    → Ran (λ x. known s f t x && known s f u x) f j a d
if_else_ran s t u f g h j a b d first both p e q k l m v =
    let same : g ≡ f = ext g f e in
    record {
      set = λ x. m x ∙ (ap (λ z. z || listed both.items x) (k x ∙ e x) ∙ (ap (λ z. f x || z) (q x ∙ (ap (λ z. listed first.items x && z) (ap (λ z. known s z u x) same) ∙ ap (λ z. z && known s f u x) (p x)))
          ∙ go (f x) (known s f t x) (known s f u x) (known_kept s f t x) (known_kept s f u x)));
      log =
          let w : h ≡ f = ext h f (λ x. k x ∙ e x) in
          let P : (Bit → Bool) → Type 0 = λ z. Logged a d z j in
          let Q : List Bit → Type 0 = λ z. Logged z d h j in
          subst P w (subst Q l v);
    }
  where
    go : (y p q : Bool) → (y ≡ true → p ≡ true) → (y ≡ true → q ≡ true) → (y || ((not y && p) && q)) ≡ (p && q)
    go true p q h k = rw (h refl, k refl) refl
    go false p q h k = refl

pub if_else_noted : (s : Names) (t u : Statement) (f g : Bit → Bool) (x y z : Early) → ((b : Bit) → g b ≡ f b) → Noted (ReadEarly s f t) x y → Noted (ReadEarly s g u) y z
    → Noted (λ b. ReadEarly s f t b ⊎ ReadEarly s f u b) x z
if_else_noted s t u f g x y z e m n =
    let P : (Bit → Bool) → Type 0 = λ w. Noted (ReadEarly s w u) y z in
    two_noted (ReadEarly s f t) (ReadEarly s f u) (λ b. ReadEarly s f t b ⊎ ReadEarly s f u b) x y z (λ b r. r) (λ b r. r) m (subst P (ext g f e) n)

-- the statements of a block in turn

pub record AllRun (later : Bool) (s : Names) (f : Bit → Bool) (xs : List Stmt) (i : ℕ) (g : Bit → Bool) (start last : List Bit) (old new : Early) : Type 0 where
  pub shaped : statements_faults s (plain_statements (drop i xs)) ≡ []
  pub notes : NotedBut (AnyReadEarly s f (counted_all later (plain_statements xs))) (AnyReadEarly s g (counted_all later (plain_statements (drop i xs)))) old new
  pub set : (b : Bit) → known_all s g (counted_all later (plain_statements (drop i xs))) b ≡ known_all s f (counted_all later (plain_statements xs)) b
  pub keeps : (b : Bit) → f b ≡ true → g b ≡ true
  pub log : Logged start last f g

pub all_start : (later : Bool) (s : Names) (f : Bit → Bool) (xs : List Stmt) (start : List Bit) (e : Early) → statements_faults s (plain_statements xs) ≡ [] → AllRun later s f xs 0 f start start e e
all_start later s f xs start e h = record {
  shaped = h;
  notes = but_start (AnyReadEarly s f (counted_all later (plain_statements xs))) e;
  set = λ b. refl;
  keeps = λ b k. k;
  log = logged_none start f f (λ b. refl);
}

pub all_here : (later : Bool) (s : Names) (f : Bit → Bool) (xs : List Stmt) (i : ℕ) (x : Stmt) (g : Bit → Bool) (start log : List Bit) (old new : Early) → i < length xs → x ≡ get_or xs i x
    → AllRun later s f xs i g start log old new → statement_faults s (plain_statement x) ≡ []
all_here later s f xs i x g start log old new l e r = (statements_shaped s x (drop (i + 1) xs) (sym (ap (λ z. statements_faults s (plain_statements z)) (rest_is xs i x l e)) ∙ r.shaped)).0

rest_counted : (later : Bool) (xs : List Stmt) (i : ℕ) (x : Stmt) → i < length xs → x ≡ get_or xs i x
    → counted_all later (plain_statements (drop i xs)) ≡ Then (counted later (plain_statement x)) (counted_all later (plain_statements (drop (i + 1) xs)))
rest_counted later xs i x l e = ap (λ z. counted_all later (plain_statements z)) (rest_is xs i x l e) ∙ counted-Then later x (drop (i + 1) xs)

pub all_more : (later : Bool) (s : Names) (f : Bit → Bool) (xs : List Stmt) (i : ℕ) (x : Stmt) (g h : Bit → Bool) (start log next : List Bit) (a b c : Early) → i < length xs → x ≡ get_or xs i x
    → AllRun later s f xs i g start log a b → RanBy s (counted later (plain_statement x)) g h log next → Noted (ReadEarly s g (counted later (plain_statement x))) b c → AllRun later s f xs (i + 1) h start next a c
unfolding ReadEarly known
all_more later s f xs i x g h start log next a b c l e r m n =
    let t = counted later (plain_statement x) in
    let rest = counted_all later (plain_statements (drop (i + 1) xs)) in
    let here = rest_counted later xs i x l e in
    let after : known s g t ≡ h = sym (ext h (known s g t) m.set) in
    let at : Bit → Statements → Type 0 = λ y z. AnyReadEarly s g z y in
    let then : Bit → (Bit → Bool) → Type 0 = λ y z. AnyReadEarly s z rest y in
    record {
      shaped = (statements_shaped s x (drop (i + 1) xs) (sym (ap (λ z. statements_faults s (plain_statements z)) (rest_is xs i x l e)) ∙ r.shaped)).1;
      notes = but_next (AnyReadEarly s f (counted_all later (plain_statements xs))) (AnyReadEarly s g (counted_all later (plain_statements (drop i xs)))) (ReadEarly s g t) (AnyReadEarly s h rest) a b c
          (λ y p. elim (subst (at y) here p) [ inl k ↦ inl k | inr k ↦ inr (subst (then y) after k) ])
          (λ y p. subst (at y) (sym here) (inl p)) (λ y p. subst (at y) (sym here) (inr (subst (then y) (sym after) p))) r.notes n;
      set = λ y. ap (λ z. known_all s z rest y) (sym after) ∙ (sym (ap (λ z. known_all s g z y) here) ∙ r.set y);
      keeps = λ y k. m.set y ∙ known_kept s g t y (r.keeps y k);
      log = logged_both start log next f g h r.log m.log r.keeps (λ y k. m.set y ∙ known_kept s g t y k);
    }

none_left : (later : Bool) (xs : List Stmt) (i : ℕ) → length xs ≤ i → counted_all later (plain_statements (drop i xs)) ≡ Done
none_left later xs i l = ap (λ z. counted_all later (plain_statements z)) (drop_all i xs l) ∙ counted-Done later

pub all_ran : (later : Bool) (s : Names) (f : Bit → Bool) (xs : List Stmt) (i : ℕ) (g : Bit → Bool) (start log : List Bit) (a b : Early) → length xs ≤ i → AllRun later s f xs i g start log a b
    → Ran (known_all s f (counted_all later (plain_statements xs))) f g start log
unfolding known
all_ran later s f xs i g start log a b l r = record { set = λ y. sym (ap (λ z. known_all s g z y) (none_left later xs i l)) ∙ r.set y; log = r.log }

pub all_noted : (later : Bool) (s : Names) (f : Bit → Bool) (xs : List Stmt) (i : ℕ) (g : Bit → Bool) (start log : List Bit) (a b : Early) → length xs ≤ i → AllRun later s f xs i g start log a b
    → Noted (AnyReadEarly s f (counted_all later (plain_statements xs))) a b
unfolding ReadEarly
all_noted later s f xs i g start log a b l r =
    but_done (AnyReadEarly s f (counted_all later (plain_statements xs))) (AnyReadEarly s g (counted_all later (plain_statements (drop i xs)))) a b
    (λ y p. let at : Statements → Type 0 = λ z. AnyReadEarly s g z y in absurd (subst at (none_left later xs i l) p)) r.notes

-- the arms of a `case` in turn

pub record ArmsRun (later : Bool) (s : Names) (f : Bit → Bool) (xs : List Branch) (i : ℕ) (common : Option (Vec Bit Global)) (g : Bit → Bool) (start last : List Bit) (old new : Early) : Type 0 where
  pub shaped : arms_faults s (plain_arms (drop i xs)) ≡ []
  pub same : (b : Bit) → g b ≡ f b
  pub log : last ≡ start
  pub notes : NotedBut (ArmsReadEarly s f (counted_arms later (plain_arms xs))) (ArmsReadEarly s f (counted_arms later (plain_arms (drop i xs)))) old new
  pub all : (b : Bit) → (in_all f common b && known_arms s f (counted_arms later (plain_arms (drop i xs))) b) ≡ (not (f b) && known_arms s f (counted_arms later (plain_arms xs)) b)
  pub some : is_none common ≡ true → i ≡ 0

pub arms_start : (later : Bool) (s : Names) (f : Bit → Bool) (xs : List Branch) (start : List Bit) (e : Early) → arms_faults s (plain_arms xs) ≡ [] → ArmsRun later s f xs 0 None f start start e e
arms_start later s f xs start e h = record {
  shaped = h;
  same = λ b. refl;
  log = refl;
  notes = but_start (ArmsReadEarly s f (counted_arms later (plain_arms xs))) e;
  all = λ b. refl;
  some = λ k. refl;
}

pub arms_here : (later : Bool) (s : Names) (f : Bit → Bool) (xs : List Branch) (i : ℕ) (x : Branch) (common : Option (Vec Bit Global)) (g : Bit → Bool) (start log : List Bit) (old new : Early) → i < length xs → x ≡ get_or xs i x
    → ArmsRun later s f xs i common g start log old new
    → (list_faults s (plain_list x.labels.now) ≡ []) × (statement_faults s (plain_statement x.body.now) ≡ []) × (arms_faults s (plain_arms (drop (i + 1) xs)) ≡ [])
arms_here later s f xs i x common g start log old new l e r = arms_shaped s x (drop (i + 1) xs) (sym (ap (λ z. arms_faults s (plain_arms z)) (rest_is xs i x l e)) ∙ r.shaped)

and_assoc : (a b c : Bool) → ((a && b) && c) ≡ (a && (b && c))
and_assoc true b c = refl
and_assoc false b c = refl

-- what is read early by one arm: its labels, then its body
arm_noted : (s : Names) (f : Bit → Bool) (now : List (List ℕ)) (labels : Trees) (colon : Bool) (t : Statement) (x y z : Early) → ((b : Bit) → assigned now b ≡ f b) → Noted (Unassigned now (NamesBits s labels)) x y
    → Noted (ReadEarly s (assigned now) t) y z → Noted (ArmReadEarly s f (CaseItem labels colon t)) x z
unfolding ReadEarly
arm_noted s f now labels colon t x y z e m n =
    let same : assigned now ≡ f = ext (assigned now) f e in
    let P : (Bit → Bool) → Type 0 = λ w. Noted (λ b. NamesBits s labels b × (w b ≡ false)) x y in
    let Q : (Bit → Bool) → Type 0 = λ w. Noted (ReadEarly s w t) y z in
    two_noted (λ b. NamesBits s labels b × (f b ≡ false)) (ReadEarly s f t) (ArmReadEarly s f (CaseItem labels colon t)) x y z (λ b r. r) (λ b r. r) (subst P same m) (subst Q same n)

arms_counted : (later : Bool) (xs : List Branch) (i : ℕ) (x : Branch) → i < length xs → x ≡ get_or xs i x
    → counted_arms later (plain_arms (drop i xs)) ≡ MoreArms (CaseItem (plain_list x.labels.now) x.colon (counted later (plain_statement x.body.now))) (counted_arms later (plain_arms (drop (i + 1) xs)))
arms_counted later xs i x l e = ap (λ z. counted_arms later (plain_arms z)) (rest_is xs i x l e) ∙ counted-MoreArms later x (drop (i + 1) xs)

pub arms_more : (later : Bool) (s : Names) (f : Bit → Bool) (xs : List Branch) (i : ℕ) (x : Branch) (common : Option (Vec Bit Global)) (now : List (List ℕ)) (h : Bit → Bool) (start log next : List Bit) (bits : Vec Bit Global) (a b c d : Early)
    → i < length xs → x ≡ get_or xs i x → ArmsRun later s f xs i common (assigned now) start log a b → Noted (Unassigned now (NamesBits s (plain_list x.labels.now))) b c
    → ((y : Bit) → listed bits.items y ≡ (in_all (assigned now) common y && known s (assigned now) (counted later (plain_statement x.body.now)) y)) → ((y : Bit) → h y ≡ assigned now y) → next ≡ log
    → Noted (ReadEarly s (assigned now) (counted later (plain_statement x.body.now))) c d → ArmsRun later s f xs (i + 1) (Some bits) h start next a d
unfolding ReadEarly known
arms_more later s f xs i x common now h start log next bits a b c d l e r n t k v m =
    let body = counted later (plain_statement x.body.now) in
    let arm = CaseItem (plain_list x.labels.now) x.colon body in
    let rest = counted_arms later (plain_arms (drop (i + 1) xs)) in
    let here = arms_counted later xs i x l e in
    let same : assigned now ≡ f = ext (assigned now) f r.same in
    let at : Bit → Arms → Type 0 = λ y z. ArmsReadEarly s f z y in
    record {
      shaped = (arms_here later s f xs i x common (assigned now) start log a b l e r).2;
      same = λ y. k y ∙ r.same y;
      log = v ∙ r.log;
      notes = but_next (ArmsReadEarly s f (counted_arms later (plain_arms xs))) (ArmsReadEarly s f (counted_arms later (plain_arms (drop i xs)))) (ArmReadEarly s f arm) (ArmsReadEarly s f rest) a b d
          (λ y p. subst (at y) here p) (λ y p. subst (at y) (sym here) (inl p)) (λ y p. subst (at y) (sym here) (inr p)) r.notes
          (arm_noted s f now (plain_list x.labels.now) x.colon body b c d r.same n m);
      all = λ y.
          ap (λ z. z && known_arms s f rest y) (t y ∙ (ap (λ z. in_all z common y && known s z body y) same))
          ∙ (and_assoc (in_all f common y) (known s f body y) (known_arms s f rest y)
          ∙ (sym (ap (λ z. in_all f common y && known_arms s f z y) here) ∙ r.all y));
      some = λ q. cc;
    }

no_arms_left : (later : Bool) (xs : List Branch) (i : ℕ) → length xs ≤ i → counted_arms later (plain_arms (drop i xs)) ≡ NoArms
no_arms_left later xs i l = ap (λ z. counted_arms later (plain_arms z)) (drop_all i xs l) ∙ counted-NoArms later

pub arms_noted : (later : Bool) (s : Names) (f : Bit → Bool) (xs : List Branch) (i : ℕ) (common : Option (Vec Bit Global)) (g : Bit → Bool) (start log : List Bit) (a b : Early) → length xs ≤ i
    → ArmsRun later s f xs i common g start log a b → Noted (ArmsReadEarly s f (counted_arms later (plain_arms xs))) a b
unfolding ReadEarly
arms_noted later s f xs i common g start log a b l r =
    but_done (ArmsReadEarly s f (counted_arms later (plain_arms xs))) (ArmsReadEarly s f (counted_arms later (plain_arms (drop i xs)))) a b
    (λ y p. let at : Arms → Type 0 = λ z. ArmsReadEarly s f z y in absurd (subst at (no_arms_left later xs i l) p)) r.notes

pub arms_ran : (later : Bool) (s : Names) (f : Bit → Bool) (xs : List Branch) (i : ℕ) (common : Option (Vec Bit Global)) (g h : Bit → Bool) (start log next : List Bit) (x y : Early) (default : Bool) → length xs ≤ i
    → ArmsRun later s f xs i common g start log x y → default ≡ has_default (plain_arms xs) → ((b : Bit) → h b ≡ (g b || (default && listed_in common b))) → Logged log next g h
    → Ran (known_by_case s f (counted_arms later (plain_arms xs))) f h start next
unfolding known has_default
arms_ran later s f xs i common g h start log next x y default l r d k v =
    let w : g ≡ f = ext g f r.same in
    let L : (Bit → Bool) → Type 0 = λ z. Logged start next z h in
    let M : List Bit → Type 0 = λ z. Logged z next g h in
    record {
      set = λ b. k b ∙ (ap (λ z. z || (default && listed_in common b)) (r.same b) ∙ set b common refl (known_arms_kept s f (counted_arms later (plain_arms xs)) b));
      log = subst L w (subst M r.log v);
    }
  where
    ended : (b : Bit) → in_all f common b ≡ (not (f b) && known_arms s f (counted_arms later (plain_arms xs)) b)
    ended b = sym (and_true (in_all f common b)) ∙ (sym (ap (λ z. in_all f common b && known_arms s f z b) (no_arms_left later xs i l)) ∙ r.all b)

    given : (y q k : Bool) → (y ≡ true → k ≡ true) → (y || (q && (not y && k))) ≡ (k && (q || y))
    given true true k h = rw (h refl) refl
    given true false k h = rw (h refl) refl
    given false true true h = refl
    given false true false h = refl
    given false false true h = refl
    given false false false h = refl

    empty : (ys : List Branch) → length ys ≤ 0 → ys ≡ []
    empty [] o = refl
    empty (y ∷ ys) o = absurd (omega arith)

    same_default : default ≡ has_default (counted_arms later (plain_arms xs))
    same_default = d ∙ sym (counted_default later (plain_arms xs))

    set : (b : Bit) (c : Option (Vec Bit Global)) → common ≡ c → (f b ≡ true → known_arms s f (counted_arms later (plain_arms xs)) b ≡ true)
        → (f b || (default && listed_in common b)) ≡ known_by_case s f (counted_arms later (plain_arms xs)) b
    set b (Some c) e m =
        let q : listed_in common b ≡ in_all f common b = rw e refl in
        ap (λ z. f b || (default && z)) (q ∙ ended b)
        ∙ (given (f b) default (known_arms s f (counted_arms later (plain_arms xs)) b) m ∙ ap (λ z. known_arms s f (counted_arms later (plain_arms xs)) b && (z || f b)) same_default)
    set b None e m =
        let z : i ≡ 0 = r.some (rw e refl) in
        let n : xs ≡ [] = empty xs (omega arith) in
        let p : counted_arms later (plain_arms xs) ≡ NoArms = ap (λ y. counted_arms later (plain_arms y)) n ∙ counted-NoArms later in
        let q : default ≡ false = same_default ∙ ap has_default p in
        ap (λ y. f b || (y && listed_in common b)) q ∙ (or_false (f b) ∙ sym (ap (λ y. known_by_case s f y b) p))

-- a default among the arms

pub default_here : (xs : List Branch) (i : ℕ) (x : Branch) → i < length xs → x ≡ get_or xs i x → length x.labels.now ≡ 0 → has_default (plain_arms (drop i xs)) ≡ true
unfolding plain_arms plain_arm plain_list has_default
default_here xs i x l e h = ap (λ z. has_default (plain_arms z)) (rest_is xs i x l e) ∙ go x.labels.now h
  where
    go : (ys : List Expr) → length ys ≡ 0 → (not (has_labels (plain_list ys)) || has_default (plain_arms (drop (i + 1) xs))) ≡ true
    go [] q = refl
    go (y ∷ ys) q = absurd (omega arith)

pub positive : (n : ℕ) → nat_eq n 0 ≡ false → 0 < n
positive zero h = cc
positive (suc n) h = omega arith

pub default_later : (xs : List Branch) (i : ℕ) (x : Branch) → i < length xs → x ≡ get_or xs i x → 0 < length x.labels.now → has_default (plain_arms (drop (i + 1) xs)) ≡ has_default (plain_arms (drop i xs))
unfolding plain_arms plain_arm plain_list has_default
default_later xs i x l e h = go x.labels.now h ∙ sym (ap (λ z. has_default (plain_arms z)) (rest_is xs i x l e))
  where
    go : (ys : List Expr) → 0 < length ys → has_default (plain_arms (drop (i + 1) xs)) ≡ (not (has_labels (plain_list ys)) || has_default (plain_arms (drop (i + 1) xs)))
    go [] q = absurd (omega arith)
    go (y ∷ ys) q = refl

pub default_none : (xs : List Branch) (i : ℕ) → length xs ≤ i → has_default (plain_arms (drop i xs)) ≡ false
unfolding plain_arms has_default
default_none xs i l = ap (λ z. has_default (plain_arms z)) (drop_all i xs l)
