-- A choice changes no head of a loop and no declaration, so that an instance has the loops of the source.
use Rattle.std.proofs.Common.{◌≡◌, ℕ, Bool, true, false, ◌&&◌, if◌then◌else◌, List, [], ◌∷◌, ◌++◌, map, fold, refl, ◌∙◌, ap, ap₂}
use Rattle.std.specs.List.{flat_map}
use Rattle.std.proofs.lemmas.List.{append-nil}
use Rattle.rr_syntax.specs.Tree.{Statement, Statements, Arm, Arms, Null, Block, If, IfElse, Case, Assign, For, Done, Then, CaseItem, NoArms, MoreArms, ModuleItem, Ports, Nets, Variables, Integers, Parameters, Assigns, Always, Initial, Instances, ModuleDeclaration}
use Rattle.rr_choice.specs.declared.pick.Pick.{Pick}
use Rattle.rr_choice.specs.Sites as sites
use Rattle.rr_choice.specs.Sites.{SiteKind, Site}
use Rattle.rr_choice.specs.Places.{is_overwrite_at}
use Rattle.rr_instance.specs.Firsts.{first_token}
use Rattle.rr_instance.specs.Instances.{overwritten, new_body, all_overwritten, instance_statement, instance_statements, instance_arm, instance_arms, instance_item, instance_module}
use Rattle.rr_flat.specs.Signals.{Text}
use Rattle.rr_loop_rules.specs.Rules.{loops_in, loops_in_all, loops_in_arm, loops_in_arms, loops_of_item, integers_of_item, with_integer, loop_names}

module _ (ss : List Site) (ps : List Pick) where
  mutual
    unfolding instance_statement loops_in

    statement_loops : (t : Statement) → loops_in (instance_statement ss ps t) ≡ loops_in t
    statement_loops Null = refl
    statement_loops (Block label ts) = statements_loops ts
    statement_loops (If c t) = statement_loops t
    statement_loops (IfElse c t u) = ap₂ (λ (xs ys : List Text). xs ++ ys) (statement_loops t) (statement_loops u)
    statement_loops (Case kind on arms) = arms_loops arms
    statement_loops (Assign t now e) = refl
    statement_loops (For h t) = ap (λ (xs : List Text). h.text ∷ xs) (statement_loops t)

    statements_loops : (ts : Statements) → loops_in_all (instance_statements ss ps ts) ≡ loops_in_all ts
    statements_loops Done = refl
    statements_loops (Then t ts) = ap₂ (λ (xs ys : List Text). xs ++ ys) (statement_loops t) (statements_loops ts)

    arm_loops : (a : Arm) → loops_in_arm (instance_arm ss ps a) ≡ loops_in_arm a
    arm_loops (CaseItem labels colon t) = statement_loops t

    arms_loops : (arms : Arms) → loops_in_arms (instance_arms ss ps arms) ≡ loops_in_arms arms
    arms_loops NoArms = refl
    arms_loops (MoreArms a rest) = ap₂ (λ (xs ys : List Text). xs ++ ys) (arm_loops a) (arms_loops rest)

overwritten_loops : (k : SiteKind) (p : Pick) (body : Statement) → loops_in (overwritten k p body) ≡ loops_in body
unfolding loops_in
overwritten_loops (sites.Literal width signed) p body = refl
overwritten_loops (sites.Guard owner extent list) p body = refl
overwritten_loops (sites.Overwrite owner target width now list) p body = append-nil (loops_in body)

new_body_loops : (token : ℕ) (s : Site) (p : Pick) (body : Statement) → loops_in (new_body token s p body) ≡ loops_in body
new_body_loops token s p body = by_test (is_overwrite_at token s && p.on)
  where
    by_test : (b : Bool) → loops_in (if b then overwritten s.kind p body else body) ≡ loops_in body
    by_test true = overwritten_loops s.kind p body
    by_test false = refl

all_loops : (token : ℕ) (ss : List Site) (ps : List Pick) (body : Statement) → loops_in (all_overwritten token ss ps body) ≡ loops_in body
unfolding all_overwritten
all_loops token [] ps body = refl
all_loops token (s ∷ ss) [] body = refl
all_loops token (s ∷ ss) (p ∷ ps) body = all_loops token ss ps (new_body token s p body) ∙ new_body_loops token s p body

module _ (ss : List Site) (ps : List Pick) where
  item_loops : (i : ModuleItem) → loops_of_item (instance_item ss ps i) ≡ loops_of_item i
  unfolding loops_of_item instance_item
  item_loops (Ports p) = refl
  item_loops (Nets signed range names) = refl
  item_loops (Variables signed range names) = refl
  item_loops (Integers names) = refl
  item_loops (Parameters p) = refl
  item_loops (Assigns pairs) = refl
  item_loops (Always events body token) = all_loops (first_token body) ss ps (instance_statement ss ps body) ∙ statement_loops ss ps body
  item_loops (Initial s token) = refl
  item_loops (Instances m token overrides list) = refl

  item_integers : (i : ModuleItem) → integers_of_item (instance_item ss ps i) ≡ integers_of_item i
  unfolding integers_of_item instance_item
  item_integers (Ports p) = refl
  item_integers (Nets signed range names) = refl
  item_integers (Variables signed range names) = refl
  item_integers (Integers names) = refl
  item_integers (Parameters p) = refl
  item_integers (Assigns pairs) = refl
  item_integers (Always events body token) = refl
  item_integers (Initial s token) = refl
  item_integers (Instances m token overrides list) = refl

-- what each element of a list gives is given by its image
of_images : {A : Type 0} (f : A → List Text) (g : A → A) → ((x : A) → f (g x) ≡ f x) → (xs : List A) → flat_map f (map g xs) ≡ flat_map f xs
of_images f g h [] = refl
of_images f g h (x ∷ xs) = ap₂ (λ (ys zs : List Text). ys ++ zs) (h x) (of_images f g h xs)

pub module_loops : (ss : List Site) (ps : List Pick) (m : ModuleDeclaration) → loop_names (instance_module ss ps m) ≡ loop_names m
unfolding loop_names instance_module
module_loops ss ps m =
    ap₂ (λ (loops integers : List Text). fold (with_integer loops) [] integers) (of_images loops_of_item (instance_item ss ps) (item_loops ss ps) m.items)
    (of_images integers_of_item (instance_item ss ps) (item_integers ss ps) m.items)
