-- A design in its walk, one part more.
use Rattle.std.proofs.Common.{◌≡◌, ◌∙◌, sym, ap, ℕ, zero, suc, ◌+◌, ◌<◌, ◌≤◌, Bool, true, false, cond, List, [], ◌∷◌, ◌++◌, length, length-append, map, get_or, drop, Option, Some, None, refl, subst, arith}
use Rattle.std.specs.Prelude.{IfSome, All}
use Rattle.std.specs.List.{AllByRecursion}
use Rattle.std.specs.Str.{bytes_eq}
use Rattle.std.proofs.Math.ListN.{set}
use Rattle.std.proofs.lemmas.List.{drop_all, get_or_append_left, length-map, map-append, length-set, get_or-set_other}
use Rattle.std.proofs.lemmas.List.Elements.{All-get_or}
use Rattle.rr_syntax.specs.Tree.{Tree, Trees, End, More, ModuleDeclaration}
use Rattle.rr_syntax.specs.View.{plain, plain_list, plain_module, texts}
use Rattle.rr_syntax.specs.declared.tree.Module.{Module}
use Rattle.rr_syntax.specs.declared.tree.Expr.{Expr}
use Rattle.rr_expr.specs.Scopes.{Names, lookup}
use Rattle.rr_expr.specs.declared.types.Entity.{Entity}
use Rattle.rr_expr.specs.declared.types.Entity.TheVariants as entity
use Rattle.rr_flat.specs.Signals.{Text}
use Rattle.rr_declarations.specs.Sound.{IsPlace, ArePlaces}
use Rattle.rr_flat.specs.Sound.{IsNamed}
use Rattle.rr_flat.specs.declared.signal.Signal.{Signal}
use Rattle.rr_flat.specs.View.{plain_signal}
use Rattle.rr_flat.proofs.Lists.{rest}
use Rattle.rr_flat.specs.declared.design.Part.TheVariants as part
use Rattle.rr_flat.specs.declared.design.Driver.{Driver}
use Rattle.rr_flat.specs.declared.design.Block.{Block}
use Rattle.rr_flatten.specs.declared.items.Walked.{Walked as DeclaredWalked}
use Rattle.rr_loop_rules.specs.Rules.{LoopNames}
use Rattle.rr_flatten.specs.Kept.{IsSame, HasLoops, Keeps}
use Rattle.rr_flat.specs.Sound.{IsExpression, AreExpressions, IsScope, names_at}
use Rattle.rr_flatten.specs.Tables.{place_of}
use Rattle.rr_flat.specs.View.{Design, plain_flat, plain_driver, plain_block}
use Rattle.rr_flatten.specs.Walk.{Walked, no_module, module_at, join, join_positions}
use Rattle.rr_flatten.proofs.Positions.{texts_here, texts_past}
use denote.Ref.{Bor}

-- one more part

pub drove : (d : Design) (x : Driver) → plain_flat (record d { drivers = d.drivers ++ x ∷ []; walk = d.walk ++ part.Driver (length d.drivers) ∷ [] })
    ≡ record (plain_flat d) { drivers = (plain_flat d).drivers ++ plain_driver x ∷ []; walk = (plain_flat d).walk ++ part.Driver (length (plain_flat d).drivers) ∷ [] }
drove d x = rw (map-append plain_driver d.drivers (x ∷ []), length-map d.drivers plain_driver) refl

pub clocked_one : (d : Design) (x : Block) → plain_flat (record d { clocked = d.clocked ++ x ∷ []; walk = d.walk ++ part.Clocked (length d.clocked) ∷ [] })
    ≡ record (plain_flat d) { clocked = (plain_flat d).clocked ++ plain_block x ∷ []; walk = (plain_flat d).walk ++ part.Clocked (length (plain_flat d).clocked) ∷ [] }
clocked_one d x = rw (map-append plain_block d.clocked (x ∷ []), length-map d.clocked plain_block) refl

pub combined_one : (d : Design) (x : Block) → plain_flat (record d { combinational = d.combinational ++ x ∷ []; walk = d.walk ++ part.Combinational (length d.combinational) ∷ [] })
    ≡ record (plain_flat d) { combinational = (plain_flat d).combinational ++ plain_block x ∷ []; walk = (plain_flat d).walk ++ part.Combinational (length (plain_flat d).combinational) ∷ [] }
combined_one d x = rw (map-append plain_block d.combinational (x ∷ []), length-map d.combinational plain_block) refl

-- what stays

pub same_twice : (a b c : DeclaredWalked) → IsSame a b → IsSame b c → IsSame a c
same_twice a b c h i = record { scopes = i.scopes ∙ h.scopes; signals = i.signals ∙ h.signals; bits = i.bits ∙ h.bits; loops = i.loops ∙ h.loops }

pub same_loops : (a b : DeclaredWalked) → HasLoops a → IsSame a b → HasLoops b
same_loops a b l h = rw (h.loops, h.scopes) l

pub same_keeps : (n : ℕ) (a b : DeclaredWalked) → a.bits ≤ 65536 → HasLoops a → IsSame a b → Keeps n a b
same_keeps n a b le l h = record { grown = rw h.scopes (omega arith); few = rw h.bits le; loops = same_loops a b l h; same = λ j lt. ap (λ s. names_at s j) h.scopes }

pub keeps_twice : (n : ℕ) (a b c : DeclaredWalked) → Keeps n a b → Keeps n b c → Keeps n a c
keeps_twice n a b c h i = record { grown = omega (arith, h.grown, i.grown); few = i.few; loops = i.loops; same = λ j lt. i.same j lt ∙ h.same j lt }

pub keeps_fewer : (n m : ℕ) (a b : DeclaredWalked) → n ≤ m → Keeps m a b → Keeps n a b
keeps_fewer n m a b le h = record { grown = h.grown; few = h.few; loops = h.loops; same = λ j lt. h.same j (omega (arith, lt, le)) }

pub keeps_named : (n : ℕ) (old new : DeclaredWalked) (x : Names) → n < length old.flat.scopes → old.bits ≤ 65536 → HasLoops old → new.flat.scopes ≡ set old.flat.scopes n x → new.bits ≡ old.bits
    → new.loops.items ≡ old.loops.items → Keeps n old new
keeps_named n old new x lt le l e b k = record {
  grown = rw (e, length-set old.flat.scopes n x) (omega arith);
  few = rw b le;
  loops = rw (k, e, length-set old.flat.scopes n x) l;
  same = λ j below. ap (λ s. names_at s j) e ∙ get_or-set_other old.flat.scopes n j x [] (λ q. absurd (omega (arith, q, below)));
}

pub keeps_itself : (n : ℕ) (a : DeclaredWalked) → a.bits ≤ 65536 → HasLoops a → Keeps n a a
keeps_itself n a le l = record { grown = omega arith; few = le; loops = l; same = λ j lt. refl }

-- one instance more, and the names of its loops
pub keeps_opened : (old new : DeclaredWalked) (x : Names) (y : LoopNames) → HasLoops old → new.flat.scopes ≡ old.flat.scopes ++ x ∷ [] → new.loops.items ≡ old.loops.items ++ y ∷ [] → new.bits ≤ 65536
    → Keeps (length old.flat.scopes) old new
keeps_opened old new x y l e k le = record {
  grown = rw (e, length-append old.flat.scopes (x ∷ [])) (omega arith);
  few = le;
  loops = rw (k, e, length-append old.loops.items (y ∷ []), length-append old.flat.scopes (x ∷ [])) (ap (λ n. n + 1) l);
  same = λ j lt. ap (λ s. names_at s j) e ∙ get_or_append_left old.flat.scopes (x ∷ []) [] j lt;
}

pub keeps_on : (n m : ℕ) (a b c : DeclaredWalked) → n ≡ m → Keeps m a b → Keeps n b c → Keeps m a c
keeps_on n m a b c e h i = keeps_twice m a b c h (subst (λ k. Keeps k b c) e i)

-- an element of a list

pub each_at : {X Y : Type 0} (P : X → Type 0) (f : Y → X) (ys : List Y) (i : ℕ) (d : Y) → AllByRecursion P (map f ys) → i < length ys → P (f (get_or ys i d))
each_at P f [] i d h lt = absurd (omega (arith, lt))
each_at P f (y ∷ ys) zero d h lt = h.0
each_at P f (y ∷ ys) (suc i) d h lt = each_at P f ys i d h.1 (omega (arith, lt))

pub each_here : {X Y : Type 0} (P : X → Type 0) (f : Y → X) (ys : List Y) (i : ℕ) (y : Y) → AllByRecursion P (map f ys) → i < length ys → y ≡ get_or ys i y → P (f y)
each_here P f ys i y h lt is = subst (λ z. P (f z)) (sym is) (each_at P f ys i y h lt)

all_at : {X : Type 0} (P : X → Type 0) (xs : List X) (i : ℕ) (d : X) → AllByRecursion P xs → i < length xs → P (get_or xs i d)
all_at P [] i d h lt = absurd (omega (arith, lt))
all_at P (x ∷ xs) zero d h lt = h.0
all_at P (x ∷ xs) (suc i) d h lt = all_at P xs i d h.1 (omega (arith, lt))

pub module_there : (P : ModuleDeclaration → Type 0) (modules : List Module) (k : ℕ) (m : ModuleDeclaration) → AllByRecursion P (map plain_module modules) → k < length modules → m ≡ module_at (map plain_module modules) k → P m
module_there P modules k m h lt is =
    let n : length (map plain_module modules) ≡ length modules = length-map modules plain_module in
    subst P (sym is) (all_at P (map plain_module modules) k no_module h (omega (arith, lt, n)))

pub expression_at : (names : Names) (xs : List Expr) (i : ℕ) (d : Expr) → AreExpressions names (plain_list xs) → i < length xs → IsExpression names (plain (get_or xs i d))
unfolding AreExpressions plain_list
expression_at names [] i d h lt = absurd (omega (arith, lt))
expression_at names (x ∷ xs) zero d h lt = h.0
expression_at names (x ∷ xs) (suc i) d h lt = expression_at names xs i d h.1 (omega (arith, lt))

pub expression_here : (names : Names) (xs : List Expr) (i : ℕ) (x : Expr) → AreExpressions names (plain_list xs) → i < length xs → x ≡ get_or xs i x → IsExpression names (plain x)
expression_here names xs i x h lt is = rw is (expression_at names xs i x h lt)

-- a place that a table gives

some_is : {X : Type 0} (a b : X) → Some a ≡ Some b → a ≡ b
some_is a b e = cc

abbrev none_of : (X : Type 0) → Option X
none_of X = None

none_some : {X : Type 0} (a : X) → none_of X ≡ Some a → ⊥
none_some a e = cc

place_named : (signals : List Signal) (e : Entity) (id : ℕ) → IsNamed 0 (map plain_signal signals) e → place_of (Some e) ≡ Some id → id < length signals
place_named signals (entity.Constant bits signed) id h e = absurd (none_some id e)
place_named signals (entity.Signal k range signed) id h e = let lt = h.1 in let n : length (map plain_signal signals) ≡ length signals = length-map signals plain_signal in let same = some_is k id e in omega (arith, lt, n, same)
place_named signals (entity.Memory first low words range signed) id h e = absurd (none_some id e)
place_named signals entity.Instance id h e = absurd (none_some id e)

place_in : (n : ℕ) (e : Entity) (id : ℕ) → IsPlace n e → place_of (Some e) ≡ Some id → id < n
place_in n (entity.Constant bits signed) id h e = absurd (none_some id e)
place_in n (entity.Signal k range signed) id h e = let same = some_is k id e in omega (arith, h, same)
place_in n (entity.Memory first low words range signed) id h e = absurd (none_some id e)
place_in n entity.Instance id h e = absurd (none_some id e)

-- a fact of all entries is one of each that is found
found_is : (P : Entity → Type 0) (names : Names) (name : Text) (e : Entity) → AllByRecursion (λ x. P x.1) names → lookup name names ≡ Some e → P e
unfolding lookup
found_is P [] name e h is = absurd (none_some e is)
found_is P (x ∷ xs) name e h is = go (bytes_eq name x.0) is (λ q. found_is P xs name e h.1 q)
  where
    go : (b : Bool) → cond b (Some x.1) (lookup name xs) ≡ Some e → (lookup name xs ≡ Some e → P e) → P e
    go true q rec = subst P (some_is x.1 e q) h.0
    go false q rec = rec q

by_recursion : {X : Type 0} (P : X → Type 0) (xs : List X) (d : X) → ((i : ℕ) → i < length xs → P (get_or xs i d)) → AllByRecursion P xs
by_recursion P [] d h = tt
by_recursion P (x ∷ xs) d h = (h 0 (omega arith), by_recursion P xs d (λ i lt. h (suc i) (omega (arith, lt))))

all_found : (P : Entity → Type 0) (names : Names) (name : Text) (e : Entity) → All (λ x. P x.1) names → lookup name names ≡ Some e → P e
all_found P names name e h is = found_is P names name e (by_recursion (λ x. P x.1) names ([], e) (λ i lt. All-get_or (λ x. P x.1) names i ([], e) lt h)) is

if_found : (P : Entity → Type 0) (Q : ℕ → Type 0) (o : Option Entity) → ((e : Entity) → o ≡ Some e → P e) → ((e : Entity) (id : ℕ) → P e → place_of (Some e) ≡ Some id → Q id) → (id : ℕ) → place_of o ≡ Some id → Q id
if_found P Q None h next id e = absurd (none_some id e)
if_found P Q (Some x) h next id e = next x id (h x refl) e

pub signal_found : (signals : List Signal) (names : Names) (name : Text) (id : ℕ) → IsScope signals names → place_of (lookup name names) ≡ Some id → id < length signals
signal_found signals names name id h e =
    if_found (λ x. IsNamed 0 (map plain_signal signals) x) (λ k. k < length signals) (lookup name names) (λ x is. all_found (λ x. IsNamed 0 (map plain_signal signals) x) names name x h is) (λ x k. place_named signals x k) id e

pub place_found : (n : ℕ) (names : Names) (name : Text) (id : ℕ) → ArePlaces n names → place_of (lookup name names) ≡ Some id → id < n
place_found n names name id h e =
    if_found (λ x. IsPlace n x) (λ k. k < n) (lookup name names) (λ x is. all_found (λ x. IsPlace n x) names name x h is) (λ x k. place_in n x k) id e

pub place_if : (signals : List Signal) (names : Names) (name : Text) (o : Option ℕ) → IsScope signals names → o ≡ place_of (lookup name names) → IfSome o (λ k. k < length signals)
place_if signals names name None h e = tt
place_if signals names name (Some id) h e = signal_found signals names name id h (sym e)

pub table_if : (n : ℕ) (names : Names) (name : Text) (o : Option ℕ) → ArePlaces n names → o ≡ place_of (lookup name names) → IfSome o (λ k. k < n)
table_if n names name None h e = tt
table_if n names name (Some id) h e = place_found n names name id h (sym e)

-- connections by position

none_left : (i k : ℕ) (ts : Trees) (w : Walked) → join_positions i k [] ts w ≡ w
unfolding join_positions
none_left i k End w = refl
none_left i k (More t ts) w = refl

pub position_joined : (i k : ℕ) (ports : List (Bor (List ℕ))) (place : ℕ) (d : Bor (List ℕ)) (t : Tree) (rest : Trees) (old new : Walked) → place < length ports
    → new ≡ join i k (get_or ports place d).now t old
    → join_positions i k (drop (place + 1) (texts ports)) rest new ≡ join_positions i k (drop place (texts ports)) (More t rest) old
unfolding join_positions
position_joined i k ports place d t rest old new lt e = rw (texts_here ports place d lt, e) refl

pub position_left : (i k : ℕ) (ports : List (Bor (List ℕ))) (place : ℕ) (t : Tree) (rest : Trees) (w : Walked) → length ports ≤ place
    → join_positions i k (drop (place + 1) (texts ports)) rest w ≡ join_positions i k (drop place (texts ports)) (More t rest) w
position_left i k ports place t rest w le = rw (texts_past ports place le, texts_past ports (place + 1) (omega arith)) (none_left i k rest w ∙ sym (none_left i k (More t rest) w))

pub positions_done : (i k : ℕ) (left : List Text) (xs : List Expr) (n : ℕ) (w : Walked) → length xs ≤ n → join_positions i k left (plain_list (drop n xs)) w ≡ w
unfolding join_positions plain_list
positions_done i k left xs n w le = rw (drop_all n xs le) (ended left)
  where
    ended : (left : List Text) → join_positions i k left End w ≡ w
    ended [] = refl
    ended (p ∷ ps) = refl

pub list_here : (xs : List Expr) (n : ℕ) (d : Expr) → n < length xs → plain_list (drop n xs) ≡ More (plain (get_or xs n d)) (plain_list (drop (n + 1) xs))
unfolding plain_list
list_here xs n d lt = rw (rest xs n d lt) refl

pub positions_more : (i k : ℕ) (left : List Text) (xs : List Expr) (n : ℕ) (x : Expr) (old new : Walked) → n < length xs → x ≡ get_or xs n x
    → ((rest : Trees) → join_positions i k (drop (n + 1) left) rest new ≡ join_positions i k (drop n left) (More (plain x) rest) old)
    → join_positions i k (drop (n + 1) left) (plain_list (drop (n + 1) xs)) new ≡ join_positions i k (drop n left) (plain_list (drop n xs)) old
positions_more i k left xs n x old new lt is h =
    let here : plain_list (drop n xs) ≡ More (plain x) (plain_list (drop (n + 1) xs)) = rw is (list_here xs n x lt) in
    rw here (h (plain_list (drop (n + 1) xs)))
