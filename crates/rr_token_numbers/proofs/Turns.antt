-- Loops turn by turn without token numbers.
use Rattle.std.proofs.Common.{◌≡◌, ◌∙◌, sym, ap, ap₂, subst, ℕ, zero, suc, min, Bool, true, false, if◌then◌else◌, List, [], ◌∷◌, ◌++◌, length, Option, Some, None, Result, Ok, Err, refl}
use Rattle.rr_syntax.specs.Words.{Word}
use Rattle.rr_syntax.specs.Tree.{Tree, Trees, LoopHead, Statement, Statements, Arm, Arms, Null, Block, If, IfElse, Case, Assign, For, Done, Then, CaseItem, NoArms, MoreArms, bare, bare_parts, bare_label, bare_identifier, bare_loop, bare_statement, bare_statements, bare_arm, bare_arms}
use Rattle.rr_syntax.proofs.BareStatements.{spell_statement-bare}
use Rattle.rr_expr.specs.Scopes.{Names}
use Rattle.rr_flat.specs.declared.fault.FlatFault.{FlatFault}
use Rattle.rr_flat.specs.declared.fault.FlatFault.TheVariants.{TooMany}
use Rattle.rr_flat.specs.declared.fault.Limit.TheVariants.{Turns}
use Rattle.rr_flat.specs.Faults.{among, and_then, faults_in, first_fault_or}
use Rattle.rr_loop_names.specs.Turns.{Turn, put_tree, put_parts, put_target}
use Rattle.rr_loop_names.proofs.Keeping.{put_keeps}
use Rattle.rr_loop_names.proofs.KeepingTargets.{put_keeps_targets}
use Rattle.rr_loop_rules.specs.Rules.{LoopNames, head_faults, inner_faults}
use Rattle.rr_unfold.specs.Unfold.{Count, loop_value, loop_truth, map_ok, ok_or, around, inside, value_in, first_value, goes_on, next_value, following, one_more, opening_faults, opening, tokens_of, turn_then, turns_from, counted, counted_all, counted_arm, counted_arms, values_then, values_from, values_of, each_turn, unfold_statement, unfold_statements, unfold_arm, unfold_arms}
use Rattle.rr_token_numbers.specs.Laws.{CountedByForm, UnfoldByForm}
use Rattle.rr_declarations.specs.Values.{constant}
use Rattle.rr_token_numbers.proofs.Results.{Barely, BothNil, nil_append, nil_in, settle_bare, among_bare, then_bare}
use Rattle.rr_token_numbers.proofs.Heads.{constant_bare}
use Rattle.rr_token_numbers.proofs.Strays.{head_nil, inner_nil}

-- expressions in a turn

put-bare : (turn : Turn) (t : Tree) → put_tree turn (bare t) ≡ bare (put_tree turn t)
put-bare turn t = sym (put_keeps.numbers turn t)

put_parts-bare : (turn : Turn) (ts : Trees) → put_parts turn (bare_parts ts) ≡ bare_parts (put_parts turn ts)
put_parts-bare turn ts = sym (put_keeps.part_numbers turn ts)

put_target-bare : (turn : Turn) (t : Tree) → put_target turn (bare t) ≡ bare (put_target turn t)
put_target-bare turn t = sym (put_keeps_targets.numbers turn t)

value_in_bare : (s : Names) (turn : Turn) (t : Tree) → Barely (λ (v : List Bool × Bool). v) (value_in s turn t) (value_in s turn (bare t))
unfolding value_in
value_in_bare s turn t = subst (λ (x : Tree). Barely (λ (v : List Bool × Bool). v) (constant s (put_tree turn t)) (constant s x)) (put_keeps.numbers turn t) (constant_bare s (put_tree turn t))

map_ok_bare : {A B : Type 0} (f : A → B) (r q : Result A FlatFault) → Barely (λ (a : A). a) r q → Barely (λ (b : B). b) (map_ok f r) (map_ok f q)
map_ok_bare f (Ok a) q h = rw h refl
map_ok_bare f (Err x) q h = rw h.1 (h.0, refl)

ok_or-bare : {A : Type 0} (r q : Result A FlatFault) (other : A) → Barely (λ (a : A). a) r q → ok_or q other ≡ ok_or r other
ok_or-bare (Ok a) q other h = rw h refl
ok_or-bare (Err x) q other h = rw h.1 refl

self_bare : {A : Type 0} (r : Result A FlatFault) → Barely (λ (a : A). a) r r
self_bare (Ok a) = refl
self_bare (Err x) = (x, refl)

-- values of a loop's name

first_value_bare : (s : Names) (turn : Turn) (h : LoopHead) → Barely (λ (v : ℕ). v) (first_value s turn h) (first_value s turn (bare_loop h))
unfolding first_value bare_loop
first_value_bare s turn h = map_ok_bare loop_value (value_in s turn h.start) (value_in s turn (bare h.start)) (value_in_bare s turn h.start)

goes_on_bare : (s : Names) (inner : Turn) (h : LoopHead) → Barely (λ (b : Bool). b) (goes_on s inner h) (goes_on s inner (bare_loop h))
unfolding goes_on bare_loop
goes_on_bare s inner h = map_ok_bare loop_truth (value_in s inner h.test) (value_in s inner (bare h.test)) (value_in_bare s inner h.test)

next_value_bare : (s : Names) (inner : Turn) (h : LoopHead) → Barely (λ (n : ℕ). n) (next_value s inner h) (next_value s inner (bare_loop h))
unfolding next_value bare_loop
next_value_bare s inner h = map_ok_bare loop_value (value_in s inner h.step) (value_in s inner (bare h.step)) (value_in_bare s inner h.step)

following_bare : (s : Names) (inner : Turn) (h : LoopHead) → Barely (λ (n : Option ℕ). n) (following s inner h) (following s inner (bare_loop h))
unfolding following
following_bare s inner h =
    then_bare (λ (more : Bool). more) (λ (n : Option ℕ). n) (goes_on s inner h) (goes_on s inner (bare_loop h))
    (λ (more : Bool). if more then map_ok (λ (next : ℕ). Some next) (next_value s inner h) else Ok None)
    (λ (more : Bool). if more then map_ok (λ (next : ℕ). Some next) (next_value s inner (bare_loop h)) else Ok None)
    (goes_on_bare s inner h) by_more
  where
    by_more : (more : Bool) → Barely (λ (n : Option ℕ). n) (if more then map_ok (λ (next : ℕ). Some next) (next_value s inner h) else Ok None)
        (if more then map_ok (λ (next : ℕ). Some next) (next_value s inner (bare_loop h)) else Ok None)
    by_more true = map_ok_bare (λ (next : ℕ). Some next) (next_value s inner h) (next_value s inner (bare_loop h)) (next_value_bare s inner h)
    by_more false = refl

opening_nil : (L : LoopNames) (s : Names) (inner : Turn) (h : LoopHead) → BothNil (opening_faults L s inner h) (opening_faults L s inner (bare_loop h))
unfolding opening_faults
opening_nil L s inner h =
    nil_append (inner_faults L (around inner) h) (faults_in (goes_on s inner h) ++ faults_in (next_value s inner h))
    (inner_faults L (around inner) (bare_loop h)) (faults_in (goes_on s inner (bare_loop h)) ++ faults_in (next_value s inner (bare_loop h))) (inner_nil L (around inner) h)
    (nil_append (faults_in (goes_on s inner h)) (faults_in (next_value s inner h)) (faults_in (goes_on s inner (bare_loop h))) (faults_in (next_value s inner (bare_loop h)))
    (nil_in (λ (b : Bool). b) (goes_on s inner h) (goes_on s inner (bare_loop h)) (goes_on_bare s inner h))
    (nil_in (λ (n : ℕ). n) (next_value s inner h) (next_value s inner (bare_loop h)) (next_value_bare s inner h)))

opening_bare : (L : LoopNames) (s : Names) (turn : Turn) (h : LoopHead) → Barely (λ (v : ℕ). v) (opening L s turn h) (opening L s turn (bare_loop h))
unfolding opening bare_loop
opening_bare L s turn h =
    then_bare (λ (v : ℕ). v) (λ (v : ℕ). v) (among (head_faults L (around turn) h) (first_value s turn h)) (among (head_faults L (around turn) (bare_loop h)) (first_value s turn (bare_loop h)))
    (λ (v : ℕ). first_fault_or (opening_faults L s (inside h turn v) h) v) (λ (v : ℕ). first_fault_or (opening_faults L s (inside h turn v) (bare_loop h)) v)
    (among_bare (λ (v : ℕ). v) (head_faults L (around turn) h) (head_faults L (around turn) (bare_loop h)) (first_value s turn h) (first_value s turn (bare_loop h)) (head_nil L (around turn) h) (first_value_bare s turn h))
    (λ v. settle_bare (λ (n : ℕ). n) (opening_faults L s (inside h turn v) h) (opening_faults L s (inside h turn v) (bare_loop h)) v v (opening_nil L s (inside h turn v) h) refl)

-- turns

abbrev Body : Type 0
Body = Turn → Count → Result Count FlatFault

abbrev SameBody : Body → Body → Type 0
SameBody body other = (inner : Turn) (c : Count) → Barely (λ (d : Count). d) (body inner c) (other inner c)

then_turn_bare : (limit : Option ℕ) (n : ℕ) (body other : Count → Result Count FlatFault) (more others : ℕ → Count → Result Count FlatFault) → ((c : Count) → Barely (λ (d : Count). d) (body c) (other c))
    → ((v : ℕ) (c : Count) → Barely (λ (d : Count). d) (more v c) (others v c)) → (c : Count) (next : Option ℕ)
    → Barely (λ (d : Count). d) (turn_then limit n body more c next) (turn_then limit n other others c next)
then_turn_bare limit n body other more others same rest c None = refl
then_turn_bare limit n body other more others same rest c (Some v) =
    then_bare (λ (d : Count). d) (λ (d : Count). d) (and_then (one_more limit n c) body) (and_then (one_more limit n c) other) (more v) (others v)
    (then_bare (λ (d : Count). d) (λ (d : Count). d) (one_more limit n c) (one_more limit n c) body other (self_bare (one_more limit n c)) same) (rest v)

turns_from_bare : (left : ℕ) (limit : Option ℕ) (s : Names) (turn : Turn) (h : LoopHead) (n : ℕ) (body other : Body) → SameBody body other → (v : ℕ) (c : Count)
    → Barely (λ (d : Count). d) (turns_from left limit s turn h n body v c) (turns_from left limit s turn (bare_loop h) n other v c)
unfolding turns_from bare_loop
turns_from_bare zero limit s turn h n body other same v c = (TooMany Turns 65537, refl)
turns_from_bare (suc left) limit s turn h n body other same v c =
    then_bare (λ (next : Option ℕ). next) (λ (d : Count). d) (following s (inside h turn v) h) (following s (inside h turn v) (bare_loop h))
    (turn_then limit n (body (inside h turn v)) (turns_from left limit s turn h n body) c) (turn_then limit n (other (inside h turn v)) (turns_from left limit s turn (bare_loop h) n other) c)
    (following_bare s (inside h turn v) h)
    (then_turn_bare limit n (body (inside h turn v)) (other (inside h turn v)) (turns_from left limit s turn h n body) (turns_from left limit s turn (bare_loop h) n other)
    (same (inside h turn v)) (turns_from_bare left limit s turn h n body other same) c)

-- the same where the bodies have equally many tokens
turns_bare : (left : ℕ) (limit : Option ℕ) (s : Names) (turn : Turn) (h : LoopHead) (n m : ℕ) → m ≡ n → (body other : Body) → SameBody body other → (v : ℕ) (c : Count)
    → Barely (λ (d : Count). d) (turns_from left limit s turn h n body v c) (turns_from left limit s turn (bare_loop h) m other v c)
turns_bare left limit s turn h n m e body other same v c =
    subst (λ (k : ℕ). Barely (λ (d : Count). d) (turns_from left limit s turn h n body v c) (turns_from left limit s turn (bare_loop h) k other v c)) (sym e) (turns_from_bare left limit s turn h n body other same v c)

tokens-bare : (t : Statement) → tokens_of (bare_statement t) ≡ tokens_of t
tokens-bare t = ap (λ (ws : List Word). min (length ws) 18446744073709551615) (spell_statement-bare t)

mutual
  unfolding counted bare_statement

  pub counted_bare : (limit : Option ℕ) (L : LoopNames) (s : Names) (turn : Turn) (t : Statement) (c : Count) → Barely (λ (d : Count). d) (counted limit L s turn t c) (counted limit L s turn (bare_statement t) c)
  counted_bare limit L s turn Null c = refl
  counted_bare limit L s turn (Block label ts) c = counted_all_bare limit L s turn ts c
  counted_bare limit L s turn (If test t) c = counted_bare limit L s turn t c
  counted_bare limit L s turn (IfElse test t u) c =
      then_bare (λ (d : Count). d) (λ (d : Count). d) (counted limit L s turn t c) (counted limit L s turn (bare_statement t) c) (counted limit L s turn u) (counted limit L s turn (bare_statement u))
      (counted_bare limit L s turn t c) (counted_bare limit L s turn u)
  counted_bare limit L s turn (Case kind on arms) c = counted_arms_bare limit L s turn arms c
  counted_bare limit L s turn (Assign t now e) c = refl
  counted_bare limit L s turn (For h t) c =
      then_bare (λ (v : ℕ). v) (λ (d : Count). d) (opening L s turn h) (opening L s turn (bare_loop h))
      (λ (v : ℕ). turns_from 65537 limit s turn h (tokens_of t) (λ (inner : Turn) (d : Count). counted limit L s inner t d) v c)
      (λ (v : ℕ). turns_from 65537 limit s turn (bare_loop h) (tokens_of (bare_statement t)) (λ (inner : Turn) (d : Count). counted limit L s inner (bare_statement t) d) v c)
      (opening_bare L s turn h)
      (λ v. turns_bare 65537 limit s turn h (tokens_of t) (tokens_of (bare_statement t)) (tokens-bare t) (λ (inner : Turn) (d : Count). counted limit L s inner t d)
      (λ (inner : Turn) (d : Count). counted limit L s inner (bare_statement t) d) (λ inner d. counted_bare limit L s inner t d) v c)

  counted_all_bare : (limit : Option ℕ) (L : LoopNames) (s : Names) (turn : Turn) (ts : Statements) (c : Count) → Barely (λ (d : Count). d) (counted_all limit L s turn ts c) (counted_all limit L s turn (bare_statements ts) c)
  counted_all_bare limit L s turn Done c = refl
  counted_all_bare limit L s turn (Then t ts) c =
      then_bare (λ (d : Count). d) (λ (d : Count). d) (counted limit L s turn t c) (counted limit L s turn (bare_statement t) c) (counted_all limit L s turn ts) (counted_all limit L s turn (bare_statements ts))
      (counted_bare limit L s turn t c) (counted_all_bare limit L s turn ts)

  counted_arm_bare : (limit : Option ℕ) (L : LoopNames) (s : Names) (turn : Turn) (a : Arm) (c : Count) → Barely (λ (d : Count). d) (counted_arm limit L s turn a c) (counted_arm limit L s turn (bare_arm a) c)
  counted_arm_bare limit L s turn (CaseItem labels colon t) c = counted_bare limit L s turn t c

  counted_arms_bare : (limit : Option ℕ) (L : LoopNames) (s : Names) (turn : Turn) (arms : Arms) (c : Count) → Barely (λ (d : Count). d) (counted_arms limit L s turn arms c) (counted_arms limit L s turn (bare_arms arms) c)
  counted_arms_bare limit L s turn NoArms c = refl
  counted_arms_bare limit L s turn (MoreArms a rest) c =
      then_bare (λ (d : Count). d) (λ (d : Count). d) (counted_arm limit L s turn a c) (counted_arm limit L s turn (bare_arm a) c) (counted_arms limit L s turn rest) (counted_arms limit L s turn (bare_arms rest))
      (counted_arm_bare limit L s turn a c) (counted_arms_bare limit L s turn rest)

-- unfolded statements

values_then-bare : (v : ℕ) (more other : ℕ → List ℕ) → ((n : ℕ) → more n ≡ other n) → (next : Option ℕ) → values_then v more next ≡ values_then v other next
values_then-bare v more other same None = refl
values_then-bare v more other same (Some n) = ap (λ (vs : List ℕ). v ∷ vs) (same n)

values_from-bare : (left : ℕ) (s : Names) (turn : Turn) (h : LoopHead) (v : ℕ) → values_from left s turn (bare_loop h) v ≡ values_from left s turn h v
unfolding values_from bare_loop
values_from-bare zero s turn h v = refl
values_from-bare (suc left) s turn h v =
    ap (λ (next : Option ℕ). values_then v (values_from left s turn (bare_loop h)) next)
    (ok_or-bare (following s (inside h turn v) h) (following s (inside h turn v) (bare_loop h)) None (following_bare s (inside h turn v) h))
    ∙ values_then-bare v (values_from left s turn (bare_loop h)) (values_from left s turn h) (values_from-bare left s turn h) (ok_or (following s (inside h turn v) h) None)

values_of-bare : (s : Names) (turn : Turn) (h : LoopHead) → values_of s turn (bare_loop h) ≡ values_of s turn h
unfolding values_of
values_of-bare s turn h =
    ap (λ (v : ℕ). values_from 65537 s turn (bare_loop h) v) (ok_or-bare (first_value s turn h) (first_value s turn (bare_loop h)) 0 (first_value_bare s turn h))
    ∙ values_from-bare 65537 s turn h (ok_or (first_value s turn h) 0)

each_turn-bare : (body other : ℕ → Statement) → ((v : ℕ) → other v ≡ bare_statement (body v)) → (vs : List ℕ) → each_turn other vs ≡ bare_statements (each_turn body vs)
unfolding each_turn bare_statement
each_turn-bare body other one [] = refl
each_turn-bare body other one (v ∷ vs) = ap₂ (λ (t : Statement) (ts : Statements). Then t ts) (one v) (each_turn-bare body other one vs)

mutual
  unfolding unfold_statement bare_statement bare_label bare_identifier bare_loop

  pub unfold-bare : (s : Names) (turn : Turn) (t : Statement) → unfold_statement s turn (bare_statement t) ≡ bare_statement (unfold_statement s turn t)
  unfold-bare s turn Null = refl
  unfold-bare s turn (Block label ts) = ap (λ (us : Statements). Block (bare_label label) us) (unfold_all-bare s turn ts)
  unfold-bare s turn (If test t) = λ k. If (put-bare turn test k) (unfold-bare s turn t k)
  unfold-bare s turn (IfElse test t u) = λ k. IfElse (put-bare turn test k) (unfold-bare s turn t k) (unfold-bare s turn u k)
  unfold-bare s turn (Case kind on arms) = λ k. Case kind (put-bare turn on k) (unfold_arms-bare s turn arms k)
  unfold-bare s turn (Assign t now e) = λ k. Assign (put_target-bare turn t k) now (put-bare turn e k)
  unfold-bare s turn (For h t) =
      ap (λ (us : Statements). Block (Some (record { token = 0; text = h.text })) us)
      (ap (λ (vs : List ℕ). each_turn (λ (v : ℕ). unfold_statement s (inside h turn v) (bare_statement t)) vs) (values_of-bare s turn h)
      ∙ each_turn-bare (λ (v : ℕ). unfold_statement s (inside h turn v) t) (λ (v : ℕ). unfold_statement s (inside h turn v) (bare_statement t)) (λ v. unfold-bare s (inside h turn v) t) (values_of s turn h))

  unfold_all-bare : (s : Names) (turn : Turn) (ts : Statements) → unfold_statements s turn (bare_statements ts) ≡ bare_statements (unfold_statements s turn ts)
  unfold_all-bare s turn Done = refl
  unfold_all-bare s turn (Then t ts) = λ k. Then (unfold-bare s turn t k) (unfold_all-bare s turn ts k)

  unfold_arm-bare : (s : Names) (turn : Turn) (a : Arm) → unfold_arm s turn (bare_arm a) ≡ bare_arm (unfold_arm s turn a)
  unfold_arm-bare s turn (CaseItem labels colon t) = λ k. CaseItem (put_parts-bare turn labels k) colon (unfold-bare s turn t k)

  unfold_arms-bare : (s : Names) (turn : Turn) (arms : Arms) → unfold_arms s turn (bare_arms arms) ≡ bare_arms (unfold_arms s turn arms)
  unfold_arms-bare s turn NoArms = refl
  unfold_arms-bare s turn (MoreArms a rest) = λ k. MoreArms (unfold_arm-bare s turn a k) (unfold_arms-bare s turn rest k)

-- statements that are equal without token numbers

pub unfolds_by_form : UnfoldByForm
unfolds_by_form s t u same = sym (unfold-bare s [] t) ∙ (ap (λ (x : Statement). unfold_statement s [] x) same ∙ unfold-bare s [] u)

answered : (r q : Result Count FlatFault) (d : Count) → r ≡ Ok d → Barely (λ (c : Count). c) r q → q ≡ Ok d
answered (Ok c) q d e h = h ∙ e
answered (Err x) q d e h = absurd (cc)

back : (r q : Result Count FlatFault) (d : Count) → q ≡ Ok d → Barely (λ (c : Count). c) r q → r ≡ Ok d
back (Ok c) q d e h = sym h ∙ e
back (Err x) q d e h = let k : Ok d ≡ Err h.0 = sym e ∙ h.1 in absurd (cc)

pub counts_by_form : CountedByForm
counts_by_form limit L s t u c d same e =
    let there : counted limit L s [] (bare_statement t) c ≡ Ok d = answered (counted limit L s [] t c) (counted limit L s [] (bare_statement t) c) d e (counted_bare limit L s [] t c) in
    let here : counted limit L s [] (bare_statement u) c ≡ Ok d = ap (λ (x : Statement). counted limit L s [] x c) (sym same) ∙ there in
    back (counted limit L s [] u c) (counted limit L s [] (bare_statement u) c) d here (counted_bare limit L s [] u c)
