-- instances keep the widths and the signs in which statements evaluate
use Rattle.std.proofs.Common.{◌≡◌, ◌∙◌, sym, ap, ap₂, refl, ℕ, Bool, List, max}
use Rattle.rr_syntax.specs.Tree.{Tree, Trees, End, More, Arms, CaseItem, NoArms, MoreArms}
use Rattle.rr_expr.specs.declared.types.Shape.{Shape}
use Rattle.rr_expr.specs.Operators.{joined}
use Rattle.rr_expr.specs.Scopes.{Names}
use Rattle.rr_expr.specs.Values.{form, value}
use Rattle.rr_choice.specs.declared.pick.Pick.{Pick}
use Rattle.rr_instance.specs.Instances.{instance_arms, instance_parts, instance_statement, instance_tree}
use Rattle.rr_choice.specs.Sites.{Site}
use Rattle.rr_instance_laws.proofs.FormLaws.{form_instance}
use Rattle.rr_cycle.specs.Exec.{Environment, assigned, case_shape, joined_all, joined_labels}

pub joined_same : (s : Names) (ss : List Site) (ps : List Pick) (a : Shape) (ts : Trees) → joined_all s a (instance_parts ss ps ts) ≡ joined_all s a ts
unfolding joined_all instance_tree
joined_same s ss ps a End = refl
joined_same s ss ps a (More t ts) = joined_same s ss ps (joined a (form s (instance_tree ss ps t))) ts ∙ ap (λ (b : Shape). joined_all s (joined a b) ts) (form_instance ss ps s t)

pub labels_same : (s : Names) (ss : List Site) (ps : List Pick) (a : Shape) (arms : Arms) → joined_labels s a (instance_arms ss ps arms) ≡ joined_labels s a arms
unfolding joined_labels instance_statement
labels_same s ss ps a NoArms = refl
labels_same s ss ps a (MoreArms (CaseItem ls colon body) rest) =
    labels_same s ss ps (joined_all s a (instance_parts ss ps ls)) rest ∙ ap (λ (b : Shape). joined_labels s b rest) (joined_same s ss ps a ls)

pub case_shape_same : (s : Names) (ss : List Site) (ps : List Pick) (on : Tree) (arms : Arms) → case_shape s (instance_tree ss ps on) (instance_arms ss ps arms) ≡ case_shape s on arms
case_shape_same s ss ps on arms = labels_same s ss ps (form s (instance_tree ss ps on)) arms ∙ ap (λ (a : Shape). joined_labels s a arms) (form_instance ss ps s on)

pub right_is : (s : Names) (ss : List Site) (ps : List Pick) (t e : Tree) (env : Environment) (m w : ℕ) (own : Shape) (bits : List Bool) → m ≡ max w own.width → w ≡ (form s t).width → own ≡ form s e →
    bits ≡ value s (instance_tree ss ps e) env m own.signed → bits ≡ assigned s t (instance_tree ss ps e) env
right_is s ss ps t e env m w own bits r p q h =
    h ∙ ap (λ (k : ℕ). value s (instance_tree ss ps e) env k own.signed) r ∙ ap₂ (λ (m : ℕ) (a : Shape). value s (instance_tree ss ps e) env (max m a.width) a.signed) p (q ∙ sym (form_instance ss ps s e))
