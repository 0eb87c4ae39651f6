-- Loops and instances: it is the same whether a change is made in a loop's body, which all turns share, or in the unfolded turns.
use Rattle.std.specs.Prelude.{◌≡◌, ℕ, true, false, List, [], None}
use Rattle.std.specs.List.{AllByRecursion}
use Rattle.rr_syntax.specs.Tree.{Tree, Statement, ModuleDeclaration}
use Rattle.rr_expr.specs.Scopes.{Names}
use Rattle.rr_instance.specs.Firsts.{told}
use Rattle.rr_instance.specs.Instances.{instance_tree, instance_body, instance_module}
use Rattle.rr_choice.specs.declared.pick.Pick.{Pick}
use Rattle.rr_choice.specs.Places.{is_overwrite_at}
use Rattle.rr_choice.specs.Sites as sites
use Rattle.rr_choice.specs.Sites.{SiteKind, Site}
use Rattle.rr_instance_laws.specs.Tests.{IsGuardName, IsBodyName}
use Rattle.rr_loop_rules.specs.Rules.{LoopNames, contains, loop_names, strays, loop_faults}
use Rattle.rr_unfold.specs.Unfold.{Count, counted, unfold_statement}
use Rattle.rr_unfold_instance.specs.Apart.{NamesStayOf}

-- no name that a guard or the condition of a last assignment may be is a loop's
abbrev pub NamesAreFree : List Site → LoopNames → ℕ → Statement → Type 0
NamesAreFree ss names token body = (name : List ℕ) → IsBodyName ss token body name → contains names name ≡ false

-- an unfolded body in which a choice is made is the body in which it is made, unfolded
abbrev pub UnfoldedInstances : Type 0
UnfoldedInstances =
    (ss : List Site) (ps : List Pick) (names : LoopNames) (s : Names) (token : ℕ) (body : Statement) → NamesStayOf ss body → NamesAreFree ss names token body → loop_faults names [] body ≡ [] →
    unfold_statement s [] (instance_body ss ps token body) ≡ instance_body ss ps token (unfold_statement s [] body)

-- a choice changes no turn, where the tokens of bodies have no limit
abbrev pub CountedInstances : Type 0
CountedInstances =
    (ss : List Site) (ps : List Pick) (names : LoopNames) (s : Names) (token : ℕ) (body : Statement) (c : Count) →
    counted None names s [] (instance_body ss ps token body) c ≡ counted None names s [] body c

-- what a choice may bring into an unfolded body it may bring into the body
abbrev pub UnfoldedNames : Type 0
UnfoldedNames = (ss : List Site) (s : Names) (token : ℕ) (body : Statement) (name : List ℕ) → IsBodyName ss token (unfold_statement s [] body) name → IsBodyName ss token body name

-- an unfolded body begins where the body begins
abbrev pub UnfoldedFirsts : Type 0
UnfoldedFirsts = (s : Names) (body : Statement) → told (unfold_statement s [] body) ≡ told body

-- The rules on names of loops (refusal 37)

-- a last assignment is made to no name of a loop
abbrev pub IsFreeAim : LoopNames → SiteKind → Type 0
IsFreeAim names (sites.Literal width signed) = Unit {0}
IsFreeAim names (sites.Guard owner extent list) = Unit {0}
IsFreeAim names (sites.Overwrite owner target width now list) = contains names target ≡ false

abbrev pub AimsAreFree : List Site → LoopNames → ℕ → Type 0
AimsAreFree ss names token = AllByRecursion (λ s. is_overwrite_at token s ≡ true → IsFreeAim names s.kind) ss

-- an instance keeps them where it brings no name of a loop
abbrev pub StraysOfInstances : Type 0
StraysOfInstances =
    (ss : List Site) (ps : List Pick) (names : LoopNames) (t : Tree) → ((name : List ℕ) → IsGuardName ss t name → contains names name ≡ false) →
    strays names [] t ≡ [] → strays names [] (instance_tree ss ps t) ≡ []

abbrev pub RulesOfInstances : Type 0
RulesOfInstances =
    (ss : List Site) (ps : List Pick) (names : LoopNames) (token : ℕ) (body : Statement) → NamesAreFree ss names token body → AimsAreFree ss names token →
    loop_faults names [] body ≡ [] → loop_faults names [] (instance_body ss ps token body) ≡ []

-- and has the same loops
abbrev pub LoopsOfInstances : Type 0
LoopsOfInstances = (ss : List Site) (ps : List Pick) (m : ModuleDeclaration) → loop_names (instance_module ss ps m) ≡ loop_names m
