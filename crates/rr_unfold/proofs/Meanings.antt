-- Scopes in which each name means the same.
use Rattle.std.proofs.Common.{true, ◌≡◌, ◌∙◌, sym, ap, ap₂, ℕ, zero, suc, Bool, List, [], ◌∷◌, ◌++◌, Option, None, Some, Result, Ok, Err, refl}
use Rattle.rr_syntax.specs.Tree.{Tree, LoopHead, Statement, Statements, Arm, Arms, Null, Block, If, IfElse, Case, Assign, For, Done, Then, CaseItem, NoArms, MoreArms}
use Rattle.rr_expr.specs.Scopes.{Names, meant}
use Rattle.rr_expr.specs.Values.{form, value, nowhere}
use Rattle.rr_expr.specs.Faults.{fault}
use Rattle.rr_expr.proofs.NamesAlone.{shape_by_names, value_by_names, fault_by_names}
use Rattle.rr_flat.specs.declared.fault.FlatFault.{FlatFault}
use Rattle.rr_flat.specs.Faults.{among, and_then, answer_of, first_fault_or}
use Rattle.rr_declarations.specs.Values.{constant}
use Rattle.rr_loop_names.specs.Turns.{Turn, put_tree}
use Rattle.rr_loop_rules.specs.Rules.{LoopNames, head_faults}
use Rattle.rr_unfold.specs.Laws.{UnfoldByMeanings, CountedByMeanings}
use Rattle.rr_unfold.specs.Unfold.{Count, around, inside, ok_or, value_in, first_value, goes_on, next_value, following, opening, opening_faults, one_more, tokens_of, turn_then, turns_from, counted, counted_all, counted_arm, counted_arms, values_then, values_from, values_of, each_turn, loop_label, unfold_statement, unfold_statements, unfold_arm, unfold_arms}

next_step : {A B : Type 0} (r : Result A FlatFault) (f g : A → Result B FlatFault) → ((a : A) → f a ≡ g a) → and_then r f ≡ and_then r g
next_step (Ok a) f g h = h a
next_step (Err x) f g h = refl

then_same : {A B : Type 0} (r u : Result A FlatFault) (f g : A → Result B FlatFault) → r ≡ u → ((a : A) → f a ≡ g a) → and_then r f ≡ and_then u g
then_same r u f g e h = next_step r f g h ∙ ap (λ q. and_then q g) e

values_then_same : (v : ℕ) (more others : ℕ → List ℕ) (o : Option ℕ) → ((w : ℕ) → more w ≡ others w) → values_then v more o ≡ values_then v others o
values_then_same v more others None h = refl
values_then_same v more others (Some next) h = ap (λ vs. v ∷ vs) (h next)

turn_then_same : (limit : Option ℕ) (n : ℕ) (f g : Count → Result Count FlatFault) (more others : ℕ → Count → Result Count FlatFault) (c : Count) (o : Option ℕ)
    → ((d : Count) → f d ≡ g d) → ((w : ℕ) (d : Count) → more w d ≡ others w d) → turn_then limit n f more c o ≡ turn_then limit n g others c o
turn_then_same limit n f g more others c None h k = refl
turn_then_same limit n f g more others c (Some next) h k =
    then_same (and_then (one_more limit n c) f) (and_then (one_more limit n c) g) (more next) (others next) (next_step (one_more limit n c) f g h) (k next)

module _ (r s : Names) (same : (name : List ℕ) → meant r name ≡ meant s name) where
  constant_same : (t : Tree) → constant r t ≡ constant s t
  unfolding constant
  constant_same t =
      let f = fault_by_names r s t (λ name o. same name) true in
      let p = shape_by_names r s t (λ name o. same name) in
      ap (λ o. answer_of o (value r t nowhere (form r t).width (form r t).signed, (form r t).signed)) f
      ∙ (ap (λ q. answer_of (fault s t true) (value r t nowhere q.width q.signed, q.signed)) p
      ∙ ap (λ w. answer_of (fault s t true) (w, (form s t).signed)) (value_by_names r s t (λ name o. same name) nowhere (form s t).width (form s t).signed))

  value_same : (turn : Turn) (t : Tree) → value_in r turn t ≡ value_in s turn t
  unfolding value_in
  value_same turn t = constant_same (put_tree turn t)

  first_same : (turn : Turn) (h : LoopHead) → first_value r turn h ≡ first_value s turn h
  unfolding first_value
  first_same turn h = rw (value_same turn h.start) refl

  goes_same : (inner : Turn) (h : LoopHead) → goes_on r inner h ≡ goes_on s inner h
  unfolding goes_on
  goes_same inner h = rw (value_same inner h.test) refl

  next_same : (inner : Turn) (h : LoopHead) → next_value r inner h ≡ next_value s inner h
  unfolding next_value
  next_same inner h = rw (value_same inner h.step) refl

  following_same : (inner : Turn) (h : LoopHead) → following r inner h ≡ following s inner h
  unfolding following
  following_same inner h = rw (goes_same inner h, next_same inner h) refl

  faults_same : (L : LoopNames) (inner : Turn) (h : LoopHead) → opening_faults L r inner h ≡ opening_faults L s inner h
  unfolding opening_faults
  faults_same L inner h = rw (goes_same inner h, next_same inner h) refl

  opening_same : (L : LoopNames) (turn : Turn) (h : LoopHead) → opening L r turn h ≡ opening L s turn h
  unfolding opening
  opening_same L turn h =
      then_same (among (head_faults L (around turn) h) (first_value r turn h)) (among (head_faults L (around turn) h) (first_value s turn h))
      (λ v. first_fault_or (opening_faults L r (inside h turn v) h) v) (λ v. first_fault_or (opening_faults L s (inside h turn v) h) v)
      (ap (among (head_faults L (around turn) h)) (first_same turn h)) (λ v. ap (λ fs. first_fault_or fs v) (faults_same L (inside h turn v) h))

  -- statements without loops

  values_from_same : (left : ℕ) (turn : Turn) (h : LoopHead) (v : ℕ) → values_from left r turn h v ≡ values_from left s turn h v
  unfolding values_from
  values_from_same zero turn h v = refl
  values_from_same (suc left) turn h v =
      ap (λ o. values_then v (values_from left r turn h) (ok_or o None)) (following_same (inside h turn v) h)
      ∙ values_then_same v (values_from left r turn h) (values_from left s turn h) (ok_or (following s (inside h turn v) h) None) (λ w. values_from_same left turn h w)

  values_same : (turn : Turn) (h : LoopHead) → values_of r turn h ≡ values_of s turn h
  unfolding values_of
  values_same turn h = ap (λ q. values_from 65537 r turn h (ok_or q 0)) (first_same turn h) ∙ values_from_same 65537 turn h (ok_or (first_value s turn h) 0)

  each_same : (f g : ℕ → Statement) (vs : List ℕ) → ((v : ℕ) → f v ≡ g v) → each_turn f vs ≡ each_turn g vs
  unfolding each_turn
  each_same f g [] h = refl
  each_same f g (v ∷ vs) h = rw (h v, each_same f g vs h) refl

  mutual
    unfolding unfold_statement

    made_same : (turn : Turn) (t : Statement) → unfold_statement r turn t ≡ unfold_statement s turn t
    made_same turn Null = refl
    made_same turn (Block label ts) = ap (Block label) (all_made_same turn ts)
    made_same turn (If test t) = ap (If (put_tree turn test)) (made_same turn t)
    made_same turn (IfElse test t u) = ap₂ (IfElse (put_tree turn test)) (made_same turn t) (made_same turn u)
    made_same turn (Case kind on arms) = ap (Case kind (put_tree turn on)) (arms_made_same turn arms)
    made_same turn (Assign t now e) = refl
    made_same turn (For h t) =
        ap (λ vs. Block (loop_label h) (each_turn (λ v. unfold_statement r (inside h turn v) t) vs)) (values_same turn h)
        ∙ ap (Block (loop_label h)) (each_same (λ v. unfold_statement r (inside h turn v) t) (λ v. unfold_statement s (inside h turn v) t) (values_of s turn h) (λ v. made_same (inside h turn v) t))

    all_made_same : (turn : Turn) (ts : Statements) → unfold_statements r turn ts ≡ unfold_statements s turn ts
    all_made_same turn Done = refl
    all_made_same turn (Then t ts) = ap₂ Then (made_same turn t) (all_made_same turn ts)

    arm_made_same : (turn : Turn) (a : Arm) → unfold_arm r turn a ≡ unfold_arm s turn a
    arm_made_same turn (CaseItem labels colon t) = rw (made_same turn t) refl

    arms_made_same : (turn : Turn) (arms : Arms) → unfold_arms r turn arms ≡ unfold_arms s turn arms
    arms_made_same turn NoArms = refl
    arms_made_same turn (MoreArms a rest) = ap₂ MoreArms (arm_made_same turn a) (arms_made_same turn rest)

  -- counts

  module _ (limit : Option ℕ) (L : LoopNames) where
    turns_same : (turn : Turn) (h : LoopHead) (n : ℕ) (f g : Turn → Count → Result Count FlatFault) → ((t : Turn) (c : Count) → f t c ≡ g t c) → (left v : ℕ) (c : Count)
        → turns_from left limit r turn h n f v c ≡ turns_from left limit s turn h n g v c
    unfolding turns_from
    turns_same turn h n f g k zero v c = refl
    turns_same turn h n f g k (suc left) v c =
        then_same (following r (inside h turn v) h) (following s (inside h turn v) h)
        (turn_then limit n (f (inside h turn v)) (turns_from left limit r turn h n f) c) (turn_then limit n (g (inside h turn v)) (turns_from left limit s turn h n g) c) (following_same (inside h turn v) h)
        (λ o. turn_then_same limit n (f (inside h turn v)) (g (inside h turn v)) (turns_from left limit r turn h n f) (turns_from left limit s turn h n g) c o (k (inside h turn v)) (λ w d. turns_same turn h n f g k left w d))

    mutual
      unfolding counted

      counted_same : (turn : Turn) (t : Statement) (c : Count) → counted limit L r turn t c ≡ counted limit L s turn t c
      counted_same turn Null c = refl
      counted_same turn (Block label ts) c = all_counted_same turn ts c
      counted_same turn (If test t) c = counted_same turn t c
      counted_same turn (IfElse test t u) c = then_same (counted limit L r turn t c) (counted limit L s turn t c) (counted limit L r turn u) (counted limit L s turn u) (counted_same turn t c) (λ d. counted_same turn u d)
      counted_same turn (Case kind on arms) c = arms_counted_same turn arms c
      counted_same turn (Assign t now e) c = refl
      counted_same turn (For h t) c =
          then_same (opening L r turn h) (opening L s turn h)
          (λ v. turns_from 65537 limit r turn h (tokens_of t) (λ i d. counted limit L r i t d) v c) (λ v. turns_from 65537 limit s turn h (tokens_of t) (λ i d. counted limit L s i t d) v c) (opening_same L turn h)
          (λ v. turns_same turn h (tokens_of t) (λ i d. counted limit L r i t d) (λ i d. counted limit L s i t d) (λ i d. counted_same i t d) 65537 v c)

      all_counted_same : (turn : Turn) (ts : Statements) (c : Count) → counted_all limit L r turn ts c ≡ counted_all limit L s turn ts c
      all_counted_same turn Done c = refl
      all_counted_same turn (Then t ts) c = then_same (counted limit L r turn t c) (counted limit L s turn t c) (counted_all limit L r turn ts) (counted_all limit L s turn ts) (counted_same turn t c) (λ d. all_counted_same turn ts d)

      arm_counted_same : (turn : Turn) (a : Arm) (c : Count) → counted_arm limit L r turn a c ≡ counted_arm limit L s turn a c
      arm_counted_same turn (CaseItem labels colon t) c = counted_same turn t c

      arms_counted_same : (turn : Turn) (arms : Arms) (c : Count) → counted_arms limit L r turn arms c ≡ counted_arms limit L s turn arms c
      arms_counted_same turn NoArms c = refl
      arms_counted_same turn (MoreArms a rest) c = then_same (counted_arm limit L r turn a c) (counted_arm limit L s turn a c) (counted_arms limit L r turn rest) (counted_arms limit L s turn rest) (arm_counted_same turn a c) (λ d. arms_counted_same turn rest d)

pub unfold_by_meanings : UnfoldByMeanings
unfold_by_meanings r s t same = made_same r s same [] t

pub counted_by_meanings : CountedByMeanings
counted_by_meanings limit L r s t c same = counted_same r s same limit L [] t c

pub ruleset by_meanings = (unfold_by_meanings, counted_by_meanings)
