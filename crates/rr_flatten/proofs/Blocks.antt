-- Items with statements: their turns are counted, their faults are noted, and what they add.
use Rattle.std.proofs.Common.{◌≡◌, ◌∙◌, sym, ap, ℕ, List, [], ◌++◌, Option, Some, None, Ok, Err, IsTrue, refl, inl, inr, subst}
use Rattle.std.specs.Prelude.{option_to_list}
use Rattle.std.proofs.lemmas.List.Sums.{fold-append}
use Rattle.rr_syntax.specs.Tree.{Statement, EventControl}
use Rattle.rr_syntax.specs.Statements.{WellFormedStatement, FitLiteralsStatement, is_initial}
use Rattle.rr_expr.specs.Scopes.{Names}
use Rattle.rr_flat.specs.declared.fault.FlatFault.{FlatFault}
use Rattle.rr_flat.specs.Faults.{sooner, first_of, earliest_of, Refuses}
use Rattle.rr_flat.specs.Shapes.{statement_faults}
use Rattle.rr_flat.specs.Sound.{IsStatement}
use Rattle.rr_starts.specs.Starts.{initial_faults}
use Rattle.rr_declarations.proofs.Firsts.{none_here}
use Rattle.rr_loop_rules.specs.Rules.{LoopNames, loop_faults}
use Rattle.rr_unfold.specs.Unfold.{Count, counted, unfold_statement}
use Rattle.rr_flatten.specs.Walk.{Walked, scope_at, loops_at, noted, event_faults, with_block, always, with_initial, initial}
use Rattle.rr_flatten.proofs.Unfolded.{none_earliest, none_listed, statement_unfolded, item_unfolded}

-- what was noted one list after the other

noted_two : (a b : List FlatFault) (x y : Option FlatFault) → x ≡ noted None a → y ≡ noted x b → first_of (a ++ b) ≡ y
noted_two a b x y p q = fold-append sooner None a b ∙ sym (q ∙ ap (λ o. noted o b) p)

noted_three : (a b c : List FlatFault) (x y z : Option FlatFault) → x ≡ noted None a → y ≡ noted x b → z ≡ noted y c → first_of (a ++ (b ++ c)) ≡ z
noted_three a b c x y z p q r = noted_two a (b ++ c) x z p (r ∙ (ap (λ o. noted o c) q ∙ sym (fold-append sooner x b c)))

-- what was noted of a block, with the names of its scope and of its loops

pub record BlockNotes (loops : LoopNames) (names : Names) (events : EventControl) (s u : Statement) (z : Option FlatFault) : Type 0 where
  pub x : Option FlatFault
  pub y : Option FlatFault
  pub k : Option FlatFault
  pub text : x ≡ noted None (loop_faults loops [] s)
  pub listed : y ≡ noted x (event_faults loops names events)
  pub turns : k ≡ earliest_of (statement_faults names u)
  pub all : z ≡ noted y (option_to_list k)

block_notes : (loops : LoopNames) (names : Names) (events : EventControl) (s u : Statement) (z : Option FlatFault) → BlockNotes loops names events s u z
    → first_of (loop_faults loops [] s ++ (event_faults loops names events ++ option_to_list (earliest_of (statement_faults names u)))) ≡ z
block_notes loops names events s u z n =
    noted_three (loop_faults loops [] s) (event_faults loops names events) (option_to_list (earliest_of (statement_faults names u))) n.x n.y z n.text n.listed (n.all ∙ ap (λ o. noted n.y (option_to_list o)) n.turns)

-- where turns are not counted to the end, that is the fault

pub always_uncounted : (i : ℕ) (events : EventControl) (s : Statement) (at : ℕ) (w : Walked) (fault : FlatFault)
    → Refuses (counted w.limit (loops_at w i) (scope_at w i) [] s w.count) fault → Refuses (always i events s at w) fault
unfolding always
always_uncounted i events s at w fault (inl memory) = inl memory
always_uncounted i events s at w fault (inr e) = inr (rw e refl)

pub initial_uncounted : (i : ℕ) (s : Statement) (at : ℕ) (w : Walked) (fault : FlatFault)
    → Refuses (counted w.limit (loops_at w i) (scope_at w i) [] s w.count) fault → Refuses (initial i s at w) fault
unfolding initial
initial_uncounted i s at w fault (inl memory) = inl memory
initial_uncounted i s at w fault (inr e) = inr (rw e refl)

-- then the first of the others

pub always_refused : (i : ℕ) (events : EventControl) (s u : Statement) (token : ℕ) (w : Walked) (c : Count) (loops : LoopNames) (names : Names) (z : Option FlatFault) (fault : FlatFault)
    → loops ≡ loops_at w i → names ≡ scope_at w i → counted w.limit (loops_at w i) (scope_at w i) [] s w.count ≡ Ok c → u ≡ unfold_statement (scope_at w i) [] s
    → BlockNotes loops names events s u z → z ≡ Some fault → always i events s token w ≡ Err fault
unfolding always
always_refused i events s u token w c loops names z fault l m e is n h =
    let first = rw (l, m, is) at (block_notes loops names events s u z n ∙ h) in
    rw (e, first) refl

pub always_made : (i : ℕ) (events : EventControl) (s u : Statement) (token : ℕ) (w v t : Walked) (c : Count) (loops : LoopNames) (names : Names) (z : Option FlatFault)
    → loops ≡ loops_at w i → names ≡ scope_at w i → counted w.limit (loops_at w i) (scope_at w i) [] s w.count ≡ Ok c → u ≡ unfold_statement (scope_at w i) [] s
    → BlockNotes loops names events s u z → z ≡ None → v ≡ record w { count = c } → t ≡ with_block i events u token v → always i events s token w ≡ Ok t
unfolding always
always_made i events s u token w v t c loops names z l m e is n h rest last =
    let first = rw (l, m, is) at (block_notes loops names events s u z n ∙ h) in
    let made = rw (rest, is) at last in
    rw (e, first, made) refl

pub block_stands : (names own : Names) (loops : LoopNames) (events : EventControl) (s u : Statement) (z : Option FlatFault) → names ≡ own → WellFormedStatement s → FitLiteralsStatement s → u ≡ unfold_statement own [] s
    → BlockNotes loops names events s u z → z ≡ None → IsStatement own u
block_stands names own loops events s u z m w f is n h =
    let none = none_listed n.k (none_here n.y (option_to_list n.k) (sym n.all ∙ h)) in
    statement_unfolded own s u w f is (subst (λ x. statement_faults x u ≡ []) m (none_earliest (statement_faults names u) (sym n.turns ∙ none)))

-- the same of an `initial` item

pub record InitialNotes (loops : LoopNames) (names : Names) (s u : Statement) (z : Option FlatFault) : Type 0 where
  pub x : Option FlatFault
  pub k : Option FlatFault
  pub text : x ≡ noted None (loop_faults loops [] s)
  pub turns : k ≡ earliest_of (initial_faults names u)
  pub all : z ≡ noted x (option_to_list k)

initial_notes : (loops : LoopNames) (names : Names) (s u : Statement) (z : Option FlatFault) → InitialNotes loops names s u z
    → first_of (loop_faults loops [] s ++ option_to_list (earliest_of (initial_faults names u))) ≡ z
initial_notes loops names s u z n =
    noted_two (loop_faults loops [] s) (option_to_list (earliest_of (initial_faults names u))) n.x z n.text (n.all ∙ ap (λ o. noted n.x (option_to_list o)) n.turns)

pub initial_refused : (i : ℕ) (s u : Statement) (token : ℕ) (w : Walked) (c : Count) (loops : LoopNames) (names : Names) (z : Option FlatFault) (fault : FlatFault)
    → loops ≡ loops_at w i → names ≡ scope_at w i → counted w.limit (loops_at w i) (scope_at w i) [] s w.count ≡ Ok c → u ≡ unfold_statement (scope_at w i) [] s
    → InitialNotes loops names s u z → z ≡ Some fault → initial i s token w ≡ Err fault
unfolding initial
initial_refused i s u token w c loops names z fault l m e is n h =
    let first = rw (l, m, is) at (initial_notes loops names s u z n ∙ h) in
    rw (e, first) refl

pub initial_made : (i : ℕ) (s u : Statement) (token : ℕ) (w v t : Walked) (c : Count) (loops : LoopNames) (names : Names) (z : Option FlatFault)
    → loops ≡ loops_at w i → names ≡ scope_at w i → counted w.limit (loops_at w i) (scope_at w i) [] s w.count ≡ Ok c → u ≡ unfold_statement (scope_at w i) [] s
    → InitialNotes loops names s u z → z ≡ None → v ≡ record w { count = c } → t ≡ with_initial i u token v → initial i s token w ≡ Ok t
unfolding initial
initial_made i s u token w v t c loops names z l m e is n h rest last =
    let first = rw (l, m, is) at (initial_notes loops names s u z n ∙ h) in
    let made = rw (rest, is) at last in
    rw (e, first, made) refl

pub initial_empty : (names own : Names) (loops : LoopNames) (s u : Statement) (z : Option FlatFault) → names ≡ own → InitialNotes loops names s u z → z ≡ None → initial_faults own u ≡ []
initial_empty names own loops s u z m n h =
    let none = none_listed n.k (none_here n.x (option_to_list n.k) (sym n.all ∙ h)) in
    subst (λ x. initial_faults x u ≡ []) m (none_earliest (initial_faults names u) (sym n.turns ∙ none))

pub initial_stands : (names own : Names) (loops : LoopNames) (s u : Statement) (z : Option FlatFault) → names ≡ own → IsTrue (is_initial s) → WellFormedStatement s → FitLiteralsStatement s → u ≡ unfold_statement own [] s
    → InitialNotes loops names s u z → z ≡ None → IsStatement own u
initial_stands names own loops s u z m i w f is n h = item_unfolded own s u i w f is (initial_empty names own loops s u z m n h)
