-- The relation of instances has the tree of the function, and no other but for token numbers.
use Rattle.std.proofs.Common.{◌≡◌, ℕ, ◌==◌, Bool, true, false, ◌&&◌, if◌then◌else◌, List, [], ◌∷◌, map, get_or, Option, Some, None, refl, sym, ◌∙◌, ap, ap₂, subst}
use Rattle.rr_syntax.specs.declared.token.Number.{Number}
use Rattle.rr_syntax.specs.Words.{mark_not, mark_logical_and, mark_logical_or}
use Rattle.rr_syntax.specs.Tree.{Tree, Trees, Name, Literal, Bit, Part, Indexed, Unary, Binary, Cond, Concat, Repeat, Cast, Paren, End, More, Identifier, Statement, Statements, Arm, Arms, Null, Block, If, IfElse, Case, Assign, For, Done, Then, CaseItem, NoArms, MoreArms, Range, PortDeclaration, ParameterDeclaration, EventControl, DeclaredName, NetAssignment, NamedConnection, Connections, Positions, Names, ModuleInstance, ModuleItem, Ports, Nets, Variables, Integers, Parameters, Assigns, Always, Initial, Instances, ModuleDeclaration, SourceText, IsSame, IsSameStatement, IsSameItem, bare, bare_parts, bare_statement, bare_statements, bare_arm, bare_arms, bare_label, bare_value, bare_declarator, bare_pair, bare_connection, bare_connections, bare_instance, bare_item, bare_module, bare_source}
use Rattle.rr_expr.specs.declared.operators.Infix.TheVariants.{Either}
use Rattle.rr_expr.specs.Faults.{takes_constants}
use Rattle.rr_expr.specs.Operators.{infixes}
use Rattle.rr_choice.specs.declared.pick.Pick.{Pick}
use Rattle.rr_instance.specs.Firsts.{first_token}
use Rattle.rr_choice.specs.Sites as sites
use Rattle.rr_choice.specs.Sites.{SiteKind, Site, guard_names}
use Rattle.rr_choice.specs.Choices.{picked_form, picked_name}
use Rattle.rr_choice.specs.Places.{is_literal_at, is_overwrite_at, find_pick}
use Rattle.rr_instance.specs.Instances.{fresh, is_guard_of, number_with, unsigned_number, new_literal, named, negated, guarded, gate, followed, overwritten, new_test, new_body, all_overwritten, instance_tree, instance_parts, instance_test, instance_statement, instance_statements, instance_arm, instance_arms, instance_body, instance_value, instance_net, instance_pair, instance_connection, instance_connections, instance_child, instance_item, instance_module, instance_source}
use Rattle.rr_instance_laws.specs.Relation.{Which, InPairs, IsNumber, IsGuarded, IsTest, Stands, StandIn, StandsTest, StandsStatement, StandInOrder, StandsArm, StandInArms, IsOverwritten, AreOverwritten, StandsBody, StandsValue, StandsNet, StandsPair, StandsConnection, StandConnections, StandsInstance, StandsItem, StandsModule, TreesExist, TreesAgree}

-- Choices between two

choose_true : (A B : Type 0) (b : Bool) → b ≡ true → A → Which b A B
choose_true A B b e h = subst (λ x. Which x A B) (sym e) h

choose_false : (A B : Type 0) (b : Bool) → b ≡ false → B → Which b A B
choose_false A B b e h = subst (λ x. Which x A B) (sym e) h

by_cases : (c : Bool) (P : Tree → Type 0) (t u : Tree) → (c ≡ true → P t) → (c ≡ false → P u) → P (if c then t else u)
by_cases true P t u f g = f refl
by_cases false P t u f g = g refl

which_same : (c : Bool) (A B : Type 0) (v t u : Tree) → Which c A B → (A → v ≡ bare t) → (B → v ≡ bare u) → v ≡ bare (if c then t else u)
which_same true A B v t u h f g = f h
which_same false A B v t u h f g = g h

same_if : (b : Bool) (x y z w : Tree) → bare x ≡ bare y → bare z ≡ bare w → bare (if b then x else z) ≡ bare (if b then y else w)
same_if true x y z w h k = h
same_if false x y z w h k = k

-- There is a tree

number_is : (found : Option (Site × Pick)) (token : ℕ) (n : Number) (P : Tree → Type 0) → ((at : ℕ) (m : Number) → IsNumber found n m → P (Literal at m)) → P (new_literal found token n)
number_is None token n P h = h token n refl
number_is (Some (s, p)) token n P h = by_switch p.on refl
  where
    by_switch : (b : Bool) → p.on ≡ b → P (if b then Literal fresh (number_with n p.value) else Literal token n)
    by_switch true e = h fresh (number_with n p.value) (choose_true (number_with n p.value ≡ number_with n p.value) (number_with n p.value ≡ n) p.on e refl)
    by_switch false e = h token n (choose_false (n ≡ number_with n p.value) (n ≡ n) p.on e refl)

test_is : (found : Option (Site × Pick)) (P : Tree → Type 0) (e : Tree) → P e → IsTest found P (new_test found e)
test_is None P e h = h
test_is (Some (s, p)) P e h = by_switch p.on
  where
    by_switch : (b : Bool) → Which b (IsGuarded (picked_form (guard_names s.kind) p.form) (picked_name (guard_names s.kind) p.name) P (if b then guarded (picked_form (guard_names s.kind) p.form) (picked_name (guard_names s.kind) p.name) e else e))
        (P (if b then guarded (picked_form (guard_names s.kind) p.form) (picked_name (guard_names s.kind) p.name) e else e))
    by_switch true = (e, (h, refl))
    by_switch false = h

module _ (ss : List Site) (ps : List Pick) where
  mutual
    unfolding Stands instance_tree

    tree_exists : (t : Tree) → Stands ss ps t (instance_tree ss ps t)
    tree_exists (Name token x) = refl
    tree_exists (Literal token n) = number_is (find_pick (is_literal_at token) ss ps) token n (Stands ss ps (Literal token n)) (λ at m h. h)
    tree_exists (Bit token x i) = (refl, refl)
    tree_exists (Part token x l r) = (refl, (refl, refl))
    tree_exists (Indexed token x f n up) = (refl, (refl, (refl, refl)))
    tree_exists (Unary op t) = (refl, tree_exists t)
    tree_exists (Binary op l r) =
        by_cases (takes_constants (get_or infixes op Either)) (Stands ss ps (Binary op l r)) (Binary op l r) (Binary op (instance_tree ss ps l) (instance_tree ss ps r))
        (λ e. (refl, choose_true (IsSame l l × IsSame r r) (Stands ss ps l l × Stands ss ps r r) (takes_constants (get_or infixes op Either)) e (refl, refl)))
        (λ e. (refl, choose_false (IsSame (instance_tree ss ps l) l × IsSame (instance_tree ss ps r) r) (Stands ss ps l (instance_tree ss ps l) × Stands ss ps r (instance_tree ss ps r)) (takes_constants (get_or infixes op Either)) e (tree_exists l, tree_exists r)))
    tree_exists (Cond a b c) = (test_is (find_pick (is_guard_of a) ss ps) (Stands ss ps a) (instance_tree ss ps a) (tree_exists a), (tree_exists b, tree_exists c))
    tree_exists (Concat ts) = parts_exist ts
    tree_exists (Repeat n ts) = (refl, parts_exist ts)
    tree_exists (Cast signed t) = (refl, tree_exists t)
    tree_exists (Paren t) = tree_exists t

    parts_exist : (ts : Trees) → StandIn ss ps ts (instance_parts ss ps ts)
    parts_exist End = tt
    parts_exist (More t ts) = (tree_exists t, parts_exist ts)

  test_exists : (t : Tree) → StandsTest ss ps t (instance_test ss ps t)
  test_exists t = test_is (find_pick (is_guard_of t) ss ps) (Stands ss ps t) (instance_tree ss ps t) (tree_exists t)

  mutual
    unfolding StandsStatement instance_statement

    statement_exists : (t : Statement) → StandsStatement ss ps t (instance_statement ss ps t)
    statement_exists Null = tt
    statement_exists (Block label ts) = (refl, statements_exist ts)
    statement_exists (If c t) = (test_exists c, statement_exists t)
    statement_exists (IfElse c t e) = (test_exists c, (statement_exists t, statement_exists e))
    statement_exists (Case kind on arms) = (refl, (tree_exists on, arms_exist arms))
    statement_exists (Assign t now e) = (refl, (refl, tree_exists e))
    statement_exists (For h t) = (refl, statement_exists t)

    statements_exist : (ts : Statements) → StandInOrder ss ps ts (instance_statements ss ps ts)
    statements_exist Done = tt
    statements_exist (Then t ts) = (statement_exists t, statements_exist ts)

    arm_exists : (a : Arm) → StandsArm ss ps a (instance_arm ss ps a)
    arm_exists (CaseItem labels colon t) = (parts_exist labels, (refl, statement_exists t))

    arms_exist : (list : Arms) → StandInArms ss ps list (instance_arms ss ps list)
    arms_exist NoArms = tt
    arms_exist (MoreArms a rest) = (arm_exists a, arms_exist rest)

overwritten_exists : (token : ℕ) (s : Site) (p : Pick) (P : Statement → Type 0) (t : Statement) → P t → IsOverwritten token s p P (new_body token s p t)
overwritten_exists token s p P t h = by_switch (is_overwrite_at token s && p.on)
  where
    by_switch : (b : Bool) → Which b ((v : Statement) × (P v × IsSameStatement (if b then overwritten s.kind p t else t) (overwritten s.kind p v))) (P (if b then overwritten s.kind p t else t))
    by_switch true = (t, (h, refl))
    by_switch false = h

all_exist : (token : ℕ) (ss : List Site) (ps : List Pick) (P : Statement → Type 0) (t : Statement) → P t → AreOverwritten token ss ps P (all_overwritten token ss ps t)
unfolding AreOverwritten all_overwritten
all_exist token [] ps P t h = h
all_exist token (s ∷ ss) [] P t h = h
all_exist token (s ∷ ss) (p ∷ ps) P t h = all_exist token ss ps (IsOverwritten token s p P) (new_body token s p t) (overwritten_exists token s p P t h)

pairs_exist : {A : Type 0} (R : A → A → Type 0) (f : A → A) → ((x : A) → R x (f x)) → (xs : List A) → InPairs R xs (map f xs)
unfolding InPairs
pairs_exist R f h [] = tt
pairs_exist R f h (x ∷ xs) = (h x, pairs_exist R f h xs)

module _ (ss : List Site) (ps : List Pick) where
  value_exists : (v : Option Tree) → StandsValue ss ps v (instance_value ss ps v)
  unfolding StandsValue instance_value
  value_exists None = tt
  value_exists (Some t) = tree_exists ss ps t

  net_exists : (n : DeclaredName) → StandsNet ss ps n (instance_net ss ps n)
  unfolding instance_net
  net_exists n = (refl, refl, value_exists n.value)

  pair_exists : (p : NetAssignment) → StandsPair ss ps p (instance_pair ss ps p)
  unfolding instance_pair
  pair_exists p = (refl, tree_exists ss ps p.value)

  connection_exists : (c : NamedConnection) → StandsConnection ss ps c (instance_connection ss ps c)
  unfolding instance_connection
  connection_exists c = (refl, value_exists c.value)

  connections_exist : (c : Connections) → StandConnections ss ps c (instance_connections ss ps c)
  unfolding StandConnections instance_connections
  connections_exist (Positions ts) = parts_exist ss ps ts
  connections_exist (Names cs) = pairs_exist (StandsConnection ss ps) (instance_connection ss ps) connection_exists cs

  child_exists : (i : ModuleInstance) → StandsInstance ss ps i (instance_child ss ps i)
  unfolding instance_child
  child_exists i = (refl, connections_exist i.connections)

  item_exists : (i : ModuleItem) → StandsItem ss ps i (instance_item ss ps i)
  unfolding StandsItem instance_item
  item_exists (Ports p) = refl
  item_exists (Nets signed range names) = (refl, (refl, pairs_exist (StandsNet ss ps) (instance_net ss ps) net_exists names))
  item_exists (Variables signed range names) = refl
  item_exists (Integers names) = refl
  item_exists (Parameters p) = refl
  item_exists (Assigns pairs) = pairs_exist (StandsPair ss ps) (instance_pair ss ps) pair_exists pairs
  item_exists (Always events body token) = (refl, all_exist (first_token body) ss ps (StandsStatement ss ps body) (instance_statement ss ps body) (statement_exists ss ps body))
  item_exists (Initial s token) = refl
  item_exists (Instances m token overrides list) = (refl, (refl, pairs_exist (StandsInstance ss ps) (instance_child ss ps) child_exists list))

  module_exists : (m : ModuleDeclaration) → StandsModule ss ps m (instance_module ss ps m)
  unfolding instance_module
  module_exists m = record { name = refl; params = refl; header = refl; groups = refl; items = pairs_exist (StandsItem ss ps) (instance_item ss ps) item_exists m.items }

pub trees_exist : TreesExist
unfolding instance_source
trees_exist ss ps s = pairs_exist (StandsModule ss ps) (instance_module ss ps) (module_exists ss ps) s.modules

-- And no other

number_same : (found : Option (Site × Pick)) (token at : ℕ) (n m : Number) → IsNumber found n m → bare (Literal at m) ≡ bare (new_literal found token n)
unfolding bare
number_same None token at n m h = ap (Literal 0) h
number_same (Some (s, p)) token at n m h = by_switch p.on h
  where
    by_switch : (b : Bool) → Which b (m ≡ number_with n p.value) (m ≡ n) → Literal 0 m ≡ bare (if b then Literal fresh (number_with n p.value) else Literal token n)
    by_switch true k = ap (Literal 0) k
    by_switch false k = ap (Literal 0) k

guarded_same : (form : ℕ) (name : List ℕ) (e x : Tree) → bare e ≡ bare x → bare (guarded form name e) ≡ bare (guarded form name x)
unfolding bare
guarded_same form name e x h =
    same_if (form == 0) _ _ _ _ (ap (λ t. Unary mark_not (Paren t)) h)
    (same_if (form == 1) _ _ _ _ (ap (λ t. Binary mark_logical_and (Paren t) (Name 0 name)) h)
    (same_if (form == 2) _ _ _ _ (ap (λ t. Binary mark_logical_and (Paren t) (Unary mark_not (Name 0 name))) h)
    (same_if (form == 3) _ _ _ _ (ap (λ t. Binary mark_logical_or (Paren t) (Name 0 name)) h)
    (ap (λ t. Binary mark_logical_or (Paren t) (Unary mark_not (Name 0 name))) h))))

test_same : (found : Option (Site × Pick)) (P : Tree → Type 0) (u x : Tree) → ((e : Tree) → P e → bare e ≡ bare x) → IsTest found P u → bare u ≡ bare (new_test found x)
test_same None P u x f h = f u h
test_same (Some (s, p)) P u x f h = by_switch p.on h
  where
    by_switch : (b : Bool) → Which b (IsGuarded (picked_form (guard_names s.kind) p.form) (picked_name (guard_names s.kind) p.name) P u) (P u) →
        bare u ≡ bare (if b then guarded (picked_form (guard_names s.kind) p.form) (picked_name (guard_names s.kind) p.name) x else x)
    by_switch true k = k.1.1 ∙ guarded_same (picked_form (guard_names s.kind) p.form) (picked_name (guard_names s.kind) p.name) k.0 x (f k.0 k.1.0)
    by_switch false k = f u k

-- two equations of parts give one of the whole
both : {A B C : Type 0} (f : A → B → C) {a b : A} {c d : B} → a ≡ b → c ≡ d → f a c ≡ f b d
both f h k = ap₂ f h k

three : {A B C D : Type 0} (f : A → B → C → D) {a b : A} {c d : B} {x y : C} → a ≡ b → c ≡ d → x ≡ y → f a c x ≡ f b d y
three f h k l i = f (h i) (k i) (l i)

four : {A B C D E : Type 0} (f : A → B → C → D → E) {a b : A} {c d : B} {x y : C} {z w : D} → a ≡ b → c ≡ d → x ≡ y → z ≡ w → f a c x z ≡ f b d y w
four f h k l m i = f (h i) (k i) (l i) (m i)

module _ (ss : List Site) (ps : List Pick) where
  mutual
    unfolding Stands instance_tree bare

    tree_same : (t u : Tree) → Stands ss ps t u → bare u ≡ bare (instance_tree ss ps t)
    tree_same (Name token x) (Name at y) h = ap (Name 0) h
    tree_same (Literal token n) (Literal at m) h = number_same (find_pick (is_literal_at token) ss ps) token at n m h
    tree_same (Bit token x i) (Bit at y j) h = both (Bit 0) h.0 h.1
    tree_same (Part token x l r) (Part at y m q) h = three (Part 0) h.0 h.1.0 h.1.1
    tree_same (Indexed token x f n up) (Indexed at y g m rises) h = four (Indexed 0) h.0 h.1.0 h.1.1.0 h.1.1.1
    tree_same (Unary op t) (Unary mark u) h = both Unary h.0 (tree_same t u h.1)
    tree_same (Binary op l r) (Binary mark m q) h =
        which_same (takes_constants (get_or infixes op Either)) (IsSame m l × IsSame q r) (Stands ss ps l m × Stands ss ps r q) (Binary mark (bare m) (bare q)) (Binary op l r) (Binary op (instance_tree ss ps l) (instance_tree ss ps r)) h.1
        (λ k. three Binary h.0 k.0 k.1) (λ k. three Binary h.0 (tree_same l m k.0) (tree_same r q k.1))
    tree_same (Cond a b c) (Cond d e f) h =
        three Cond (test_same (find_pick (is_guard_of a) ss ps) (Stands ss ps a) d (instance_tree ss ps a) (λ v k. tree_same a v k) h.0) (tree_same b e h.1.0) (tree_same c f h.1.1)
    tree_same (Concat ts) (Concat us) h = ap Concat (parts_same ts us h)
    tree_same (Repeat n ts) (Repeat m us) h = both Repeat h.0 (parts_same ts us h.1)
    tree_same (Cast signed t) (Cast sign u) h = both Cast h.0 (tree_same t u h.1)
    tree_same (Paren t) (Paren u) h = ap Paren (tree_same t u h)
    tree_same t u h = absurd h

    parts_same : (ts us : Trees) → StandIn ss ps ts us → bare_parts us ≡ bare_parts (instance_parts ss ps ts)
    parts_same End End h = refl
    parts_same (More t ts) (More u us) h = both More (tree_same t u h.0) (parts_same ts us h.1)
    parts_same ts us h = absurd h

  tested_same : (t u : Tree) → StandsTest ss ps t u → bare u ≡ bare (instance_test ss ps t)
  tested_same t u h = test_same (find_pick (is_guard_of t) ss ps) (Stands ss ps t) u (instance_tree ss ps t) (λ v k. tree_same t v k) h

  mutual
    unfolding StandsStatement instance_statement bare_statement

    statement_same : (t u : Statement) → StandsStatement ss ps t u → bare_statement u ≡ bare_statement (instance_statement ss ps t)
    statement_same Null Null h = refl
    statement_same (Block label ts) (Block name us) h = both Block h.0 (statements_same ts us h.1)
    statement_same (If c t) (If d u) h = both If (tested_same c d h.0) (statement_same t u h.1)
    statement_same (IfElse c t e) (IfElse d u f) h = three IfElse (tested_same c d h.0) (statement_same t u h.1.0) (statement_same e f h.1.1)
    statement_same (Case kind on arms) (Case word by list) h = three Case h.0 (tree_same on by h.1.0) (arms_same arms list h.1.1)
    statement_same (Assign t now e) (Assign u blocking f) h = three Assign h.0 h.1.0 (tree_same e f h.1.1)
    statement_same (For head t) (For other u) h = both For h.0 (statement_same t u h.1)
    statement_same t u h = absurd h

    statements_same : (ts us : Statements) → StandInOrder ss ps ts us → bare_statements us ≡ bare_statements (instance_statements ss ps ts)
    statements_same Done Done h = refl
    statements_same (Then t ts) (Then u us) h = both Then (statement_same t u h.0) (statements_same ts us h.1)
    statements_same ts us h = absurd h

    arm_same : (a b : Arm) → StandsArm ss ps a b → bare_arm b ≡ bare_arm (instance_arm ss ps a)
    arm_same (CaseItem labels colon t) (CaseItem list mark u) h = three CaseItem (parts_same labels list h.0) h.1.0 (statement_same t u h.1.1)

    arms_same : (rest more : Arms) → StandInArms ss ps rest more → bare_arms more ≡ bare_arms (instance_arms ss ps rest)
    arms_same NoArms NoArms h = refl
    arms_same (MoreArms a rest) (MoreArms b more) h = both MoreArms (arm_same a b h.0) (arms_same rest more h.1)
    arms_same rest more h = absurd h

overwritten_same : (k : SiteKind) (p : Pick) (v x : Statement) → bare_statement v ≡ bare_statement x → bare_statement (overwritten k p v) ≡ bare_statement (overwritten k p x)
unfolding bare_statement bare_label
overwritten_same (sites.Literal width signed) p v x h = h
overwritten_same (sites.Guard owner extent names) p v x h = h
overwritten_same (sites.Overwrite owner target width now names) p v x h =
    ap (λ t. Block None (Then t (Then (If (bare (gate (picked_form names p.form) (picked_name names p.name))) (Assign (bare (named target)) now (bare (Literal fresh (unsigned_number width p.value))))) Done))) h

new_same : (token : ℕ) (s : Site) (p : Pick) (P : Statement → Type 0) (u x : Statement) → ((v : Statement) → P v → bare_statement v ≡ bare_statement x) → IsOverwritten token s p P u → bare_statement u ≡ bare_statement (new_body token s p x)
new_same token s p P u x f h = by_switch (is_overwrite_at token s && p.on) h
  where
    by_switch : (b : Bool) → Which b ((v : Statement) × (P v × IsSameStatement u (overwritten s.kind p v))) (P u) → bare_statement u ≡ bare_statement (if b then overwritten s.kind p x else x)
    by_switch true k = k.1.1 ∙ overwritten_same s.kind p k.0 x (f k.0 k.1.0)
    by_switch false k = f u k

all_same : (token : ℕ) (ss : List Site) (ps : List Pick) (P : Statement → Type 0) (u x : Statement) → ((v : Statement) → P v → bare_statement v ≡ bare_statement x) → AreOverwritten token ss ps P u → bare_statement u ≡ bare_statement (all_overwritten token ss ps x)
unfolding AreOverwritten all_overwritten
all_same token [] ps P u x f h = f u h
all_same token (s ∷ ss) [] P u x f h = f u h
all_same token (s ∷ ss) (p ∷ ps) P u x f h = all_same token ss ps (IsOverwritten token s p P) u (new_body token s p x) (λ v k. new_same token s p P v x f k) h

pairs_same : {A B : Type 0} (R : A → A → Type 0) (f : A → A) (g : A → B) → ((x y : A) → R x y → g y ≡ g (f x)) → (xs ys : List A) → InPairs R xs ys → map g ys ≡ map g (map f xs)
unfolding InPairs
pairs_same R f g e [] [] h = refl
pairs_same R f g e [] (y ∷ ys) h = absurd h
pairs_same R f g e (x ∷ xs) [] h = absurd h
pairs_same R f g e (x ∷ xs) (y ∷ ys) h = ap₂ (λ b bs. b ∷ bs) (e x y h.0) (pairs_same R f g e xs ys h.1)

module _ (ss : List Site) (ps : List Pick) where
  value_same : (v w : Option Tree) → StandsValue ss ps v w → bare_value w ≡ bare_value (instance_value ss ps v)
  unfolding StandsValue instance_value bare_value
  value_same None None h = refl
  value_same None (Some u) h = absurd h
  value_same (Some t) None h = absurd h
  value_same (Some t) (Some u) h = ap Some (tree_same ss ps t u h)

  net_same : (n m : DeclaredName) → StandsNet ss ps n m → bare_declarator m ≡ bare_declarator (instance_net ss ps n)
  unfolding instance_net bare_declarator
  net_same n m h i = record { token = 0; text = h.0 i; words = h.1 i; value = value_same n.value m.value h.2 i }

  pair_same : (p q : NetAssignment) → StandsPair ss ps p q → bare_pair q ≡ bare_pair (instance_pair ss ps p)
  unfolding instance_pair bare_pair
  pair_same p q h i = record { target = h.0 i; value = tree_same ss ps p.value q.value h.1 i }

  connection_same : (c d : NamedConnection) → StandsConnection ss ps c d → bare_connection d ≡ bare_connection (instance_connection ss ps c)
  unfolding instance_connection bare_connection
  connection_same c d h i = record { token = 0; text = h.0 i; value = value_same c.value d.value h.1 i }

  connections_same : (c d : Connections) → StandConnections ss ps c d → bare_connections d ≡ bare_connections (instance_connections ss ps c)
  unfolding StandConnections instance_connections bare_connections
  connections_same (Positions ts) (Positions us) h = ap Positions (parts_same ss ps ts us h)
  connections_same (Positions ts) (Names ds) h = absurd h
  connections_same (Names cs) (Positions us) h = absurd h
  connections_same (Names cs) (Names ds) h = ap Names (pairs_same (StandsConnection ss ps) (instance_connection ss ps) bare_connection connection_same cs ds h)

  child_same : (x y : ModuleInstance) → StandsInstance ss ps x y → bare_instance y ≡ bare_instance (instance_child ss ps x)
  unfolding instance_child bare_instance
  child_same x y h i = record { token = 0; text = h.0 i; connections = connections_same x.connections y.connections h.1 i }

  item_same : (x y : ModuleItem) → StandsItem ss ps x y → bare_item y ≡ bare_item (instance_item ss ps x)
  unfolding StandsItem instance_item bare_item
  item_same (Ports p) (Ports q) h = ap Ports h
  item_same (Nets signed range names) (Nets sign bounds list) h = three Nets h.0 h.1.0 (pairs_same (StandsNet ss ps) (instance_net ss ps) bare_declarator net_same names list h.1.1)
  item_same (Variables signed range names) (Variables sign bounds list) h = h
  item_same (Integers names) (Integers list) h = h
  item_same (Parameters p) (Parameters q) h = ap Parameters h
  item_same (Assigns pairs) (Assigns list) h = ap Assigns (pairs_same (StandsPair ss ps) (instance_pair ss ps) bare_pair pair_same pairs list h)
  item_same (Always events body token) (Always control inner at) h =
      both (λ e s. Always e s 0) h.0 (all_same (first_token body) ss ps (StandsStatement ss ps body) inner (instance_statement ss ps body) (λ v k. statement_same ss ps body v k) h.1)
  item_same (Initial s token) (Initial t at) h = h
  item_same (Instances m token overrides list) (Instances n at settings more) h =
      three (λ text o is. Instances text 0 o is) h.0 h.1.0 (pairs_same (StandsInstance ss ps) (instance_child ss ps) bare_instance child_same list more h.1.1)
  item_same x y h = absurd h

  module_same : (m n : ModuleDeclaration) → StandsModule ss ps m n → bare_module n ≡ bare_module (instance_module ss ps m)
  unfolding instance_module bare_module
  module_same m n h i = record {
    text = h.name i;
    token = 0;
    params = h.params i;
    header = h.header i;
    groups = h.groups i;
    items = pairs_same (StandsItem ss ps) (instance_item ss ps) bare_item item_same m.items n.items h.items i;
  }

pub trees_agree : TreesAgree
unfolding instance_source bare_source
trees_agree ss ps s t h =
    ap (λ (ms : List ModuleDeclaration). record { modules = ms }) (sym (pairs_same (StandsModule ss ps) (instance_module ss ps) bare_module (module_same ss ps) s.modules t.modules h))

pub ruleset relation_laws = (trees_exist, trees_agree)
