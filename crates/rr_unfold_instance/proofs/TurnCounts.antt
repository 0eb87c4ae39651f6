-- A choice changes no turn: what is counted, where tokens have no limit, are turns, and those come from heads alone.
use Rattle.std.proofs.Common.{◌≡◌, ℕ, zero, suc, Bool, true, false, ◌&&◌, if◌then◌else◌, List, [], ◌∷◌, Option, Some, None, Result, Ok, Err, refl, ◌∙◌, ap}
use Rattle.rr_syntax.specs.declared.token.Number.{Number}
use Rattle.rr_syntax.specs.Tree.{Tree, Literal, LoopHead, Statement, Statements, Arm, Arms, Null, Block, If, IfElse, Case, Assign, For, Done, Then, CaseItem, NoArms, MoreArms}
use Rattle.rr_expr.specs.Scopes.{Names}
use Rattle.rr_choice.specs.declared.pick.Pick.{Pick}
use Rattle.rr_choice.specs.Sites as sites
use Rattle.rr_choice.specs.Sites.{SiteKind, Site}
use Rattle.rr_choice.specs.Choices.{picked_form, picked_name}
use Rattle.rr_choice.specs.Places.{is_overwrite_at}
use Rattle.rr_instance.specs.Instances.{fresh, unsigned_number, named, gate, followed, overwritten, new_body, all_overwritten, instance_statement, instance_statements, instance_arm, instance_arms, instance_body}
use Rattle.rr_flat.specs.declared.fault.FlatFault.{FlatFault}
use Rattle.rr_flat.specs.Faults.{and_then}
use Rattle.rr_loop_names.specs.Turns.{Turn}
use Rattle.rr_loop_rules.specs.Rules.{LoopNames}
use Rattle.rr_unfold.specs.Unfold.{Count, inside, following, opening, one_more, tokens_of, turn_then, turns_from, counted, counted_all, counted_arm, counted_arms}

-- Steps

step_same : {A B : Type 0} (r : Result A FlatFault) (f g : A → Result B FlatFault) → ((a : A) → f a ≡ g a) → and_then r f ≡ and_then r g
step_same (Ok a) f g h = h a
step_same (Err e) f g h = refl

both_same : {A B : Type 0} (r q : Result A FlatFault) (f g : A → Result B FlatFault) → r ≡ q → ((a : A) → f a ≡ g a) → and_then r f ≡ and_then q g
both_same {A} r q f g e h = ap (λ (x : Result A FlatFault). and_then x f) e ∙ step_same q f g h

-- a step that hands on what it is given
ends : {A : Type 0} (r : Result A FlatFault) (f : A → Result A FlatFault) → ((a : A) → f a ≡ Ok a) → and_then r f ≡ r
ends (Ok a) f h = h a
ends (Err e) f h = refl

-- Turns

-- a turn has one count, however many tokens its body has
turn_same : (n m : ℕ) (body other : Count → Result Count FlatFault) (more next : ℕ → Count → Result Count FlatFault) (c : Count) (o : Option ℕ) → ((d : Count) → body d ≡ other d) → ((v : ℕ) (d : Count) → more v d ≡ next v d) →
    turn_then None n body more c o ≡ turn_then None m other next c o
turn_same n m body other more next c None e h = refl
turn_same n m body other more next c (Some v) e h =
    both_same (and_then (one_more None n c) body) (and_then (one_more None m c) other) (more v) (next v) (step_same (one_more None n c) body other e) (h v)

turns_same : (left : ℕ) (s : Names) (turn : Turn) (h : LoopHead) (n m : ℕ) (body other : Turn → Count → Result Count FlatFault) → ((inner : Turn) (d : Count) → body inner d ≡ other inner d) → (v : ℕ) (c : Count) →
    turns_from left None s turn h n body v c ≡ turns_from left None s turn h m other v c
unfolding turns_from
turns_same zero s turn h n m body other e v c = refl
turns_same (suc left) s turn h n m body other e v c =
    step_same (following s (inside h turn v) h)
    (turn_then None n (body (inside h turn v)) (turns_from left None s turn h n body) c)
    (turn_then None m (other (inside h turn v)) (turns_from left None s turn h m other) c)
    (λ o. turn_same n m (body (inside h turn v)) (other (inside h turn v)) (turns_from left None s turn h n body) (turns_from left None s turn h m other) c o
    (e (inside h turn v)) (turns_same left s turn h n m body other e))

-- Statements

module _ (ss : List Site) (ps : List Pick) (names : LoopNames) (s : Names) where
  mutual
    unfolding instance_statement counted

    statement_counts : (t : Statement) (turn : Turn) (c : Count) → counted None names s turn (instance_statement ss ps t) c ≡ counted None names s turn t c
    statement_counts Null turn c = refl
    statement_counts (Block label ts) turn c = statements_count ts turn c
    statement_counts (If test t) turn c = statement_counts t turn c
    statement_counts (IfElse test t u) turn c =
        both_same (counted None names s turn (instance_statement ss ps t) c) (counted None names s turn t c)
        (counted None names s turn (instance_statement ss ps u)) (counted None names s turn u) (statement_counts t turn c) (statement_counts u turn)
    statement_counts (Case kind on arms) turn c = arms_count arms turn c
    statement_counts (Assign t now e) turn c = refl
    statement_counts (For h t) turn c =
        step_same (opening names s turn h)
        (λ (v : ℕ). turns_from 65537 None s turn h (tokens_of (instance_statement ss ps t)) (λ (inner : Turn) (d : Count). counted None names s inner (instance_statement ss ps t) d) v c)
        (λ (v : ℕ). turns_from 65537 None s turn h (tokens_of t) (λ (inner : Turn) (d : Count). counted None names s inner t d) v c)
        (λ v. turns_same 65537 s turn h (tokens_of (instance_statement ss ps t)) (tokens_of t)
        (λ (inner : Turn) (d : Count). counted None names s inner (instance_statement ss ps t) d) (λ (inner : Turn) (d : Count). counted None names s inner t d)
        (λ inner d. statement_counts t inner d) v c)

    statements_count : (ts : Statements) (turn : Turn) (c : Count) → counted_all None names s turn (instance_statements ss ps ts) c ≡ counted_all None names s turn ts c
    statements_count Done turn c = refl
    statements_count (Then t ts) turn c =
        both_same (counted None names s turn (instance_statement ss ps t) c) (counted None names s turn t c)
        (counted_all None names s turn (instance_statements ss ps ts)) (counted_all None names s turn ts) (statement_counts t turn c) (statements_count ts turn)

    arm_counts : (a : Arm) (turn : Turn) (c : Count) → counted_arm None names s turn (instance_arm ss ps a) c ≡ counted_arm None names s turn a c
    arm_counts (CaseItem labels colon t) turn c = statement_counts t turn c

    arms_count : (arms : Arms) (turn : Turn) (c : Count) → counted_arms None names s turn (instance_arms ss ps arms) c ≡ counted_arms None names s turn arms c
    arms_count NoArms turn c = refl
    arms_count (MoreArms a rest) turn c =
        both_same (counted_arm None names s turn (instance_arm ss ps a) c) (counted_arm None names s turn a c)
        (counted_arms None names s turn (instance_arms ss ps rest)) (counted_arms None names s turn rest) (arm_counts a turn c) (arms_count rest turn)

-- Last assignments

module _ (names : LoopNames) (s : Names) where
  followed_counts : (test : Tree) (target : List ℕ) (now : Bool) (n : Number) (body : Statement) (c : Count) → counted None names s [] (followed test target now n body) c ≡ counted None names s [] body c
  unfolding counted
  followed_counts test target now n body c =
      ends (counted None names s [] body c) (counted_all None names s [] (Then (If test (Assign (named target) now (Literal fresh n))) Done)) (λ d. refl)

  overwritten_counts : (k : SiteKind) (p : Pick) (body : Statement) (c : Count) → counted None names s [] (overwritten k p body) c ≡ counted None names s [] body c
  overwritten_counts (sites.Literal width signed) p body c = refl
  overwritten_counts (sites.Guard owner extent list) p body c = refl
  overwritten_counts (sites.Overwrite owner target width now list) p body c =
      followed_counts (gate (picked_form list p.form) (picked_name list p.name)) target now (unsigned_number width p.value) body c

  new_body_counts : (token : ℕ) (x : Site) (p : Pick) (body : Statement) (c : Count) → counted None names s [] (new_body token x p body) c ≡ counted None names s [] body c
  new_body_counts token x p body c = by_test (is_overwrite_at token x && p.on)
    where
      by_test : (b : Bool) → counted None names s [] (if b then overwritten x.kind p body else body) c ≡ counted None names s [] body c
      by_test true = overwritten_counts x.kind p body c
      by_test false = refl

  all_count : (token : ℕ) (ss : List Site) (ps : List Pick) (body : Statement) (c : Count) → counted None names s [] (all_overwritten token ss ps body) c ≡ counted None names s [] body c
  unfolding all_overwritten
  all_count token [] ps body c = refl
  all_count token (x ∷ ss) [] body c = refl
  all_count token (x ∷ ss) (p ∷ ps) body c = all_count token ss ps (new_body token x p body) c ∙ new_body_counts token x p body c

pub body_counts : (ss : List Site) (ps : List Pick) (names : LoopNames) (s : Names) (token : ℕ) (body : Statement) (c : Count) →
    counted None names s [] (instance_body ss ps token body) c ≡ counted None names s [] body c
body_counts ss ps names s token body c = all_count names s token ss ps (instance_statement ss ps body) c ∙ statement_counts ss ps names s body [] c
