-- The trees of mended bodies, items and modules, one element more at a time.
use Rattle.std.proofs.Common.{◌≡◌, ℕ, ◌+◌, ◌<◌, ◌≤◌, Bool, true, false, nat_eq, List, [], ◌∷◌, ◌++◌, length, map, get_or, take, Option, None, if◌then◌else◌, refl, sym, ◌∙◌, ap, ap₂, arith}
use Rattle.std.specs.List.{list_any}
use Rattle.std.proofs.lemmas.List.{get_or_default, length-map, length-take, map-append, take_all, take_more}
use denote.Ref.{Bor}
use Rattle.rr_syntax.specs.declared.tree.Arm.{Arm as Branch}
use Rattle.rr_syntax.specs.declared.tree.Bounds.{Bounds}
use Rattle.rr_syntax.specs.declared.tree.Conns.{Conns}
use Rattle.rr_syntax.specs.declared.tree.Events.{Events}
use Rattle.rr_syntax.specs.declared.tree.Expr.{Expr}
use Rattle.rr_syntax.specs.declared.tree.Expr.TheVariants as expr
use Rattle.rr_syntax.specs.declared.tree.Group.{Group}
use Rattle.rr_syntax.specs.declared.tree.Instance.{Instance}
use Rattle.rr_syntax.specs.declared.tree.Item.{Item}
use Rattle.rr_syntax.specs.declared.tree.Item.TheVariants as item
use Rattle.rr_syntax.specs.declared.tree.Module.{Module}
use Rattle.rr_syntax.specs.declared.tree.Named.{Named}
use Rattle.rr_syntax.specs.declared.tree.Declarator.{Declarator}
use Rattle.rr_syntax.specs.declared.tree.Pair.{Pair}
use Rattle.rr_syntax.specs.declared.tree.Params.{Params}
use Rattle.rr_syntax.specs.declared.tree.Stmt.{Stmt}
use Rattle.rr_syntax.specs.declared.tree.Stmt.TheVariants as stmt
use Rattle.rr_syntax.specs.Tree.{Statement, Assign, Statements, Done, Then, Block, Arm, Arms, CaseItem, NoArms, MoreArms, Always, EventControl, Star, Edges, Levels, ModuleItem, ModuleDeclaration}
use Rattle.rr_syntax.specs.View.{plain, plain_arm, plain_arms, plain_events, plain_item, plain_label, plain_list, plain_module, plain_statement, plain_statements, texts}
use Rattle.rr_lex.specs.Numbers.{digit, is_wild, is_x, is_z, number, one_more, plain_literal}
use Rattle.rr_latch.specs.Immediate.{immediate, immediate_all, immediate_arm, immediate_arms}
use Rattle.rr_body_laws.specs.Bodies.{Bodies, body_with, item_with, module_with, modules_with}
use Rattle.rr_lint_laws.specs.Mended.{all_cleared, cleared, with_defaults}
use Rattle.rr_lint_names.specs.Edges.{waits_for_edges}

up_to : {A : Type 0} (xs : List A) (i : ℕ) (x : A) → i < length xs → x ≡ get_or xs i x → take (i + 1) xs ≡ take i xs ++ x ∷ []
up_to xs i x l e = take_more xs i x l ∙ ap (λ y. take i xs ++ y ∷ []) (sym e)

up_to_at : {A : Type 0} (xs : List A) (i : ℕ) (d : A) → i < length xs → take (i + 1) xs ≡ take i xs ++ get_or xs i d ∷ []
up_to_at xs i d l = up_to xs i (get_or xs i d) l (get_or_default xs i d (get_or xs i d) l)

-- statements

last_statement : Statements → Statement → Statements
last_statement Done t = Then t Done
last_statement (Then u us) t = Then u (last_statement us t)

statements_snoc : (xs : List Stmt) (s : Stmt) → plain_statements (xs ++ s ∷ []) ≡ last_statement (plain_statements xs) (plain_statement s)
unfolding plain_statements last_statement
statements_snoc [] s = refl
statements_snoc (x ∷ xs) s = ap (Then (plain_statement x)) (statements_snoc xs s)

immediate_last : (ts : Statements) (t : Statement) → immediate_all (last_statement ts t) ≡ last_statement (immediate_all ts) (immediate t)
unfolding immediate last_statement
immediate_last Done t = refl
immediate_last (Then u us) t = ap (Then (immediate u)) (immediate_last us t)

pub statements_none : (xs : List Stmt) → xs ≡ [] → plain_statements xs ≡ immediate_all (plain_statements [])
unfolding plain_statements immediate
statements_none xs e = ap plain_statements e

pub statements_more : (xs zs ys : List Stmt) (i : ℕ) (s new : Stmt) → i < length ys → s ≡ get_or ys i s → plain_statements xs ≡ immediate_all (plain_statements (take i ys)) → plain_statement new ≡ immediate (plain_statement s) → zs ≡ xs ++ new ∷ [] →
    plain_statements zs ≡ immediate_all (plain_statements (take (i + 1) ys))
statements_more xs zs ys i s new l is h n z =
    ap plain_statements z ∙ statements_snoc xs new ∙ ap₂ last_statement h n ∙ sym (immediate_last (plain_statements (take i ys)) (plain_statement s))
    ∙ ap immediate_all (sym (statements_snoc (take i ys) s) ∙ ap plain_statements (sym (up_to ys i s l is)))

pub statements_full : (xs ys : List Stmt) (i : ℕ) → length ys ≤ i → plain_statements xs ≡ immediate_all (plain_statements (take i ys)) → plain_statements xs ≡ immediate_all (plain_statements ys)
statements_full xs ys i l h = h ∙ ap (λ (zs : List Stmt). immediate_all (plain_statements zs)) (take_all i ys l)

last_arm : Arms → Arm → Arms
last_arm NoArms a = MoreArms a NoArms
last_arm (MoreArms b bs) a = MoreArms b (last_arm bs a)

arms_snoc : (xs : List Branch) (a : Branch) → plain_arms (xs ++ a ∷ []) ≡ last_arm (plain_arms xs) (plain_arm a)
unfolding plain_arms last_arm
arms_snoc [] a = refl
arms_snoc (x ∷ xs) a = ap (MoreArms (plain_arm x)) (arms_snoc xs a)

arms_last : (list : Arms) (a : Arm) → immediate_arms (last_arm list a) ≡ last_arm (immediate_arms list) (immediate_arm a)
unfolding immediate last_arm
arms_last NoArms a = refl
arms_last (MoreArms b bs) a = ap (MoreArms (immediate_arm b)) (arms_last bs a)

pub arms_none : (xs : List Branch) → xs ≡ [] → plain_arms xs ≡ immediate_arms (plain_arms [])
unfolding plain_arms immediate
arms_none xs e = ap plain_arms e

pub arms_more : (xs zs ys : List Branch) (i : ℕ) (a new : Branch) → i < length ys → a ≡ get_or ys i a → plain_arms xs ≡ immediate_arms (plain_arms (take i ys)) → plain_arm new ≡ immediate_arm (plain_arm a) → zs ≡ xs ++ new ∷ [] →
    plain_arms zs ≡ immediate_arms (plain_arms (take (i + 1) ys))
arms_more xs zs ys i a new l is h n z =
    ap plain_arms z ∙ arms_snoc xs new ∙ ap₂ last_arm h n ∙ sym (arms_last (plain_arms (take i ys)) (plain_arm a)) ∙ ap immediate_arms (sym (arms_snoc (take i ys) a) ∙ ap plain_arms (sym (up_to ys i a l is)))

pub arms_full : (xs ys : List Branch) (i : ℕ) → length ys ≤ i → plain_arms xs ≡ immediate_arms (plain_arms (take i ys)) → plain_arms xs ≡ immediate_arms (plain_arms ys)
arms_full xs ys i l h = h ∙ ap (λ (zs : List Branch). immediate_arms (plain_arms zs)) (take_all i ys l)

pub arm_immediate : (a : Branch) → immediate_arm (plain_arm a) ≡ CaseItem (plain_list a.labels.now) a.colon (immediate (plain_statement a.body.now))
unfolding plain_arm immediate
arm_immediate a = refl

-- a body behind what it clears

pub cleared_is : (t : Bor Expr) (v : Bor Expr) (name : Bor (List ℕ)) → t.now ≡ expr.Name 4294967295 name → v.now ≡ expr.Literal 4294967295 (record { width = 32; signed = true; value = 0; any = 0; unknown = 0 }) →
    plain_statement (stmt.Assign t true v) ≡ cleared name.now
unfolding plain_statement plain plain_literal number one_more digit is_wild is_x is_z
cleared_is t v name a b = ap₂ (λ (x y : Expr). Assign (plain x) true (plain y)) a b

pub cleared_start : (xs : List Stmt) → xs ≡ [] → map plain_statement xs ≡ map cleared (texts [])
cleared_start xs e = ap (map plain_statement) e

pub cleared_more : (xs zs : List Stmt) (names : List (Bor (List ℕ))) (i : ℕ) (d : Bor (List ℕ)) (new : Stmt) → i < length names → map plain_statement xs ≡ map cleared (texts (take i names)) → plain_statement new ≡ cleared (get_or names i d).now → zs ≡ xs ++ new ∷ [] →
    map plain_statement zs ≡ map cleared (texts (take (i + 1) names))
cleared_more xs zs names i d new l h n z =
    ap (map plain_statement) z ∙ map-append plain_statement xs (new ∷ []) ∙ ap₂ (λ (l : List Statement) (b : Statement). l ++ b ∷ []) h n
    ∙ sym (ap (λ (ys : List (Bor (List ℕ))). map cleared (texts ys)) (up_to_at names i d l) ∙ ap (map cleared) (map-append (λ (n : Bor (List ℕ)). n.now) (take i names) (get_or names i d ∷ [])) ∙ map-append cleared (texts (take i names)) ((get_or names i d).now ∷ []))

no_statement : {A : Type 0} (t : Statement) (ts : List Statement) → t ∷ ts ≡ [] → A
no_statement t ts e = absurd (cc e)

all_last : (xs : List Stmt) (names : List (List ℕ)) (b : Stmt) → map plain_statement xs ≡ map cleared names → plain_statements (xs ++ b ∷ []) ≡ all_cleared names (plain_statement b)
unfolding plain_statements all_cleared
all_last [] [] b h = refl
all_last [] (n ∷ names) b h = no_statement (cleared n) (map cleared names) (sym h)
all_last (x ∷ xs) [] b h = no_statement (plain_statement x) (map plain_statement xs) h
all_last (x ∷ xs) (n ∷ names) b h =
    let first : plain_statement x ≡ cleared n = cc h in
    let rest : map plain_statement xs ≡ map cleared names = cc h in
    ap₂ Then first (all_last xs names b rest)

pub no_defaults : (names : List (Bor (List ℕ))) (t : Statement) → length names ≡ 0 → t ≡ with_defaults (texts names) t
no_defaults [] t e = refl
no_defaults (n ∷ names) t e = absurd (omega (arith, e))

pub defaults_are : (xs zs : List Stmt) (names : List (Bor (List ℕ))) (i : ℕ) (b whole : Stmt) → (length names ≡ 0 → ⊥) → length names ≤ i → map plain_statement xs ≡ map cleared (texts (take i names)) → zs ≡ xs ++ b ∷ [] → plain_statement whole ≡ Block (plain_label None) (plain_statements zs) →
    plain_statement whole ≡ with_defaults (texts names) (plain_statement b)
unfolding plain_label
defaults_are xs zs [] i b whole e l h z k = absurd (e refl)
defaults_are xs zs (n ∷ names) i b whole e l h z k =
    k ∙ ap (Block None) (ap plain_statements z ∙ all_last xs (texts (n ∷ names)) b (h ∙ ap (λ (ys : List (Bor (List ℕ))). map cleared (texts ys)) (take_all i (n ∷ names) l)))

-- items and modules

module _ (f : Bodies) where
  abbrev Becomes : Item → Item → Type 0
  Becomes i r = plain_item r ≡ item_with f (plain_item i)

  at_item : (i j r : Item) → i ≡ j → plain_item r ≡ item_with f (plain_item j) → Becomes i r
  at_item i j r q h = h ∙ ap (λ (y : Item). item_with f (plain_item y)) (sym q)

  pub Ports_stays : (i : Item) (g : Group) → i ≡ item.Ports g → Becomes i i
  unfolding item_with plain_item
  Ports_stays i g q = ap plain_item q ∙ at_item i (item.Ports g) (item.Ports g) q refl

  pub Nets_stays : (i : Item) (signed : Bool) (range : Option Bounds) (names : Bor (List Declarator)) → i ≡ item.Nets signed range names → Becomes i i
  unfolding item_with plain_item
  Nets_stays i signed range names q = ap plain_item q ∙ at_item i (item.Nets signed range names) (item.Nets signed range names) q refl

  pub Variables_stays : (i : Item) (signed : Bool) (range : Option Bounds) (names : Bor (List Declarator)) → i ≡ item.Variables signed range names → Becomes i i
  unfolding item_with plain_item
  Variables_stays i signed range names q = ap plain_item q ∙ at_item i (item.Variables signed range names) (item.Variables signed range names) q refl

  pub Integers_stays : (i : Item) (names : Bor (List Named)) → i ≡ item.Integers names → Becomes i i
  unfolding item_with plain_item
  Integers_stays i names q = ap plain_item q ∙ at_item i (item.Integers names) (item.Integers names) q refl

  pub Parameters_stays : (i : Item) (p : Params) → i ≡ item.Parameters p → Becomes i i
  unfolding item_with plain_item
  Parameters_stays i p q = ap plain_item q ∙ at_item i (item.Parameters p) (item.Parameters p) q refl

  pub Assigns_stays : (i : Item) (pairs : Bor (List Pair)) → i ≡ item.Assigns pairs → Becomes i i
  unfolding item_with plain_item
  Assigns_stays i pairs q = ap plain_item q ∙ at_item i (item.Assigns pairs) (item.Assigns pairs) q refl

  pub Initial_stays : (i : Item) (t : Bor Stmt) (token : ℕ) → i ≡ item.Initial t token → Becomes i i
  unfolding item_with plain_item
  Initial_stays i t token q = ap plain_item q ∙ at_item i (item.Initial t token) (item.Initial t token) q refl

  pub Instances_stays : (i : Item) (m : Bor (List ℕ)) (token : ℕ) (u : Option Conns) (list : Bor (List Instance)) → i ≡ item.Instances m token u list → Becomes i i
  unfolding item_with plain_item
  Instances_stays i m token u list q = ap plain_item q ∙ at_item i (item.Instances m token u list) (item.Instances m token u list) q refl

  body_kept : (e : EventControl) (t : Statement) (token : ℕ) → waits_for_edges e ≡ true → t ≡ body_with f e t token
  body_kept (Star brackets) t token h = absurd (let bad : false ≡ true = h in cc)
  body_kept (Edges list commas) t token h = refl
  body_kept (Levels list commas) t token h = absurd (let bad : false ≡ true = h in cc)

  body_new : (e : EventControl) (t : Statement) (token : ℕ) → waits_for_edges e ≡ false → f token t ≡ body_with f e t token
  body_new (Star brackets) t token h = refl
  body_new (Edges list commas) t token h = absurd (let bad : true ≡ false = h in cc)
  body_new (Levels list commas) t token h = refl

  pub Always_stays : (i : Item) (e : Events) (s : Bor Stmt) (token : ℕ) → i ≡ item.Always e s token → waits_for_edges (plain_events e) ≡ true → Becomes i i
  unfolding item_with plain_item
  Always_stays i e s token q h =
      ap plain_item q ∙ at_item i (item.Always e s token) (item.Always e s token) q (ap (λ (t : Statement). Always (plain_events e) t token) (body_kept (plain_events e) (plain_statement s.now) token h))

  pub Always_new : (i : Item) (e : Events) (s r : Bor Stmt) (token : ℕ) → i ≡ item.Always e s token → waits_for_edges (plain_events e) ≡ false → plain_statement r.now ≡ f token (plain_statement s.now) → Becomes i (item.Always e r token)
  unfolding item_with plain_item
  Always_new i e s r token q h n = at_item i (item.Always e s token) (item.Always e r token) q (ap (λ (t : Statement). Always (plain_events e) t token) (n ∙ body_new (plain_events e) (plain_statement s.now) token h))

  pub items_none : (xs : List Item) → xs ≡ [] → map plain_item xs ≡ map (item_with f) (map plain_item [])
  items_none xs e = ap (map plain_item) e

  pub items_more : (xs zs ys : List Item) (i : ℕ) (old new : Item) → i < length ys → old ≡ get_or ys i old → map plain_item xs ≡ map (item_with f) (map plain_item (take i ys)) → Becomes old new → zs ≡ xs ++ new ∷ [] →
      map plain_item zs ≡ map (item_with f) (map plain_item (take (i + 1) ys))
  items_more xs zs ys i old new l is h n z =
      ap (map plain_item) z ∙ map-append plain_item xs (new ∷ []) ∙ ap₂ (λ l b. l ++ b ∷ []) h n
      ∙ sym (ap (λ (ws : List Item). map (item_with f) (map plain_item ws)) (up_to ys i old l is) ∙ ap (map (item_with f)) (map-append plain_item (take i ys) (old ∷ [])) ∙ map-append (item_with f) (map plain_item (take i ys)) (plain_item old ∷ []))

  pub items_full : (xs ys : List Item) (i : ℕ) → length ys ≤ i → map plain_item xs ≡ map (item_with f) (map plain_item (take i ys)) → map plain_item xs ≡ map (item_with f) (map plain_item ys)
  items_full xs ys i l h = h ∙ ap (λ (ws : List Item). map (item_with f) (map plain_item ws)) (take_all i ys l)

  module _ (numbers : List ℕ) where
    abbrev pub one_with : ℕ → ModuleDeclaration → ModuleDeclaration
    one_with k m = if list_any (nat_eq k) numbers then module_with f m else m

    pub module_in : (k : ℕ) (old new : Module) → list_any (nat_eq k) numbers ≡ true → plain_module new ≡ module_with f (plain_module old) → plain_module new ≡ one_with k (plain_module old)
    module_in k old new e h = h ∙ ap (λ (b : Bool). if b then module_with f (plain_module old) else plain_module old) (sym e)

    pub module_out : (k : ℕ) (old : Module) → list_any (nat_eq k) numbers ≡ false → plain_module old ≡ one_with k (plain_module old)
    module_out k old e = ap (λ (b : Bool). if b then module_with f (plain_module old) else plain_module old) (sym e)

    modules_snoc : (k j : ℕ) (ms : List ModuleDeclaration) (m : ModuleDeclaration) → j ≡ k + length ms → modules_with numbers f k (ms ++ m ∷ []) ≡ modules_with numbers f k ms ++ one_with j m ∷ []
    unfolding modules_with
    modules_snoc k j [] m e = ap (λ (i : ℕ). one_with i m ∷ []) (let q : k ≡ j = omega (arith, e) in q)
    modules_snoc k j (x ∷ ms) m e = ap (λ (l : List ModuleDeclaration). one_with k x ∷ l) (modules_snoc (k + 1) j ms m (omega (arith, e)))

    pub modules_none : (xs : List Module) → xs ≡ [] → map plain_module xs ≡ modules_with numbers f 0 (map plain_module [])
    unfolding modules_with
    modules_none xs e = ap (map plain_module) e

    pub modules_more : (xs zs ys : List Module) (i : ℕ) (d new : Module) → i < length ys → map plain_module xs ≡ modules_with numbers f 0 (map plain_module (take i ys)) → plain_module new ≡ one_with i (plain_module (get_or ys i d)) → zs ≡ xs ++ new ∷ [] →
        map plain_module zs ≡ modules_with numbers f 0 (map plain_module (take (i + 1) ys))
    modules_more xs zs ys i d new l h n z =
        let x : Module = get_or ys i d in
        let count : i ≡ 0 + length (map plain_module (take i ys)) = (let p = length-map (take i ys) plain_module in let q = length-take i ys in omega (arith, l, p, q)) in
        ap (map plain_module) z ∙ map-append plain_module xs (new ∷ []) ∙ ap₂ (λ (l : List ModuleDeclaration) (b : ModuleDeclaration). l ++ b ∷ []) h n
        ∙ sym (ap (λ (ws : List Module). modules_with numbers f 0 (map plain_module ws)) (up_to_at ys i d l) ∙ ap (modules_with numbers f 0) (map-append plain_module (take i ys) (x ∷ []))
        ∙ modules_snoc 0 i (map plain_module (take i ys)) (plain_module x) count)

    pub modules_full : (xs ys : List Module) (i : ℕ) → length ys ≤ i → map plain_module xs ≡ modules_with numbers f 0 (map plain_module (take i ys)) → map plain_module xs ≡ modules_with numbers f 0 (map plain_module ys)
    modules_full xs ys i l h = h ∙ ap (λ (ws : List Module). modules_with numbers f 0 (map plain_module ws)) (take_all i ys l)

  pub module_new : (old : Module) (items : Bor (List Item)) → map plain_item items.now ≡ map (item_with f) (map plain_item old.items.now) →
      plain_module (record { name = old.name; token = old.token; params = old.params; header = old.header; groups = old.groups; items = items }) ≡ module_with f (plain_module old)
  unfolding module_with plain_module
  module_new old items h = ap (λ (list : List ModuleItem). let m : ModuleDeclaration = record (plain_module old) { items = list } in m) h
