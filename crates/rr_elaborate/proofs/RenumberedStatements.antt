-- A statement has its token numbers from its bare statement and the number of its first token.
use Rattle.std.proofs.Common.{ℕ, ◌≡◌, ◌+◌, length, Option, None, Some, refl, ap, ap₂, sym}
use Rattle.rr_syntax.specs.Tree.{Trees, End, More, Identifier, LoopHead, Statement, Statements, Arm, Arms, Null, Block, If, IfElse, Case, Assign, For, Done, Then, CaseItem, NoArms, MoreArms, bare, bare_parts, bare_identifier, bare_label, bare_loop, bare_statement, bare_statements, bare_arm, bare_arms}
use Rattle.rr_syntax.specs.Expressions.{spell}
use Rattle.rr_syntax.specs.Statements.{spell_label, spell_labels, spell_loop, spell_statement, spell_arm, NumberedLabel, NumberedLabels, NumberedLoop, NumberedStatement, NumberedStatements, NumberedArm, NumberedArms}
use Rattle.rr_syntax.proofs.BareExpressions.{spell-bare}
use Rattle.rr_syntax.proofs.BareStatements.{spell_statement-bare, spell_arm-bare, spell_label-bare, spell_labels-bare, spell_loop-bare}
use Rattle.rr_elaborate.proofs.RenumberedExpressions.{renumbered, renumbered_more, renumbered-bare, renumbered_more-bare}

-- the name of a block, whose colon is number `at`
unfoldable pub renumbered_label : Option Identifier → ℕ → Option Identifier
renumbered_label None at = None
renumbered_label (Some i) at = Some (record { token = at + 1; text = i.text })

unfoldable pub renumbered_labels : Trees → ℕ → Trees
renumbered_labels End at = End
renumbered_labels (More t ts) at = More (renumbered t at) (renumbered_more ts (at + length (spell t)))

-- the head of a loop, whose opening bracket is number `at`
unfoldable pub renumbered_loop : LoopHead → ℕ → LoopHead
renumbered_loop h at = record {
  token = at + 1;
  text = h.text;
  start = renumbered h.start (at + 3);
  test = renumbered h.test (at + 3 + length (spell h.start) + 1);
  step_token = at + 3 + length (spell h.start) + 1 + length (spell h.test) + 1;
  step_text = h.step_text;
  step = renumbered h.step (at + 3 + length (spell h.start) + 1 + length (spell h.test) + 3);
}

-- the same statement with the numbers that it has where its first token is number `at`
unfoldable mutual
  pub renumbered_statement : Statement → ℕ → Statement
  renumbered_statement Null at = Null
  renumbered_statement (Block label ss) at = Block (renumbered_label label (at + 1)) (renumbered_statements ss (at + 1 + length (spell_label label)))
  renumbered_statement (If t s) at = If (renumbered t (at + 2)) (renumbered_statement s (at + 2 + length (spell t) + 1))
  renumbered_statement (IfElse t s u) at =
      IfElse (renumbered t (at + 2)) (renumbered_statement s (at + 2 + length (spell t) + 1))
      (renumbered_statement u (at + 2 + length (spell t) + 1 + length (spell_statement s) + 1))
  renumbered_statement (Case kind t arms) at = Case kind (renumbered t (at + 2)) (renumbered_arms arms (at + 2 + length (spell t) + 1))
  renumbered_statement (Assign t now v) at = Assign (renumbered t at) now (renumbered v (at + length (spell t) + 1))
  renumbered_statement (For h s) at = For (renumbered_loop h (at + 1)) (renumbered_statement s (at + 1 + length (spell_loop h)))

  pub renumbered_statements : Statements → ℕ → Statements
  renumbered_statements Done at = Done
  renumbered_statements (Then s ss) at = Then (renumbered_statement s at) (renumbered_statements ss (at + length (spell_statement s)))

  pub renumbered_arm : Arm → ℕ → Arm
  renumbered_arm (CaseItem labels colon s) at =
      CaseItem (renumbered_labels labels at) colon (renumbered_statement s (at + length (spell_labels labels colon)))

  pub renumbered_arms : Arms → ℕ → Arms
  renumbered_arms NoArms at = NoArms
  renumbered_arms (MoreArms a rest) at = MoreArms (renumbered_arm a at) (renumbered_arms rest (at + length (spell_arm a)))

label-bare : (l : Option Identifier) (at : ℕ) → NumberedLabel l at → renumbered_label (bare_label l) at ≡ l
unfolding renumbered_label bare_label bare_identifier NumberedLabel
label-bare None at h = refl
label-bare (Some i) at h = ap (λ (n : ℕ). Some (record { token = n; text = i.text })) (sym h)

labels-bare : (ts : Trees) (at : ℕ) → NumberedLabels ts at → renumbered_labels (bare_parts ts) at ≡ ts
unfolding renumbered_labels bare NumberedLabels
labels-bare End at h = refl
labels-bare (More t ts) at h = rw (spell-bare t, renumbered-bare t at h.0, renumbered_more-bare ts (at + length (spell t)) h.1) refl

loop-bare : (h : LoopHead) (at : ℕ) → NumberedLoop h at → renumbered_loop (bare_loop h) at ≡ h
unfolding renumbered_loop bare_loop NumberedLoop
loop-bare h at n =
    rw (
      spell-bare h.start,
      spell-bare h.test,
      renumbered-bare h.start (at + 3) n.1,
      renumbered-bare h.test (at + 3 + length (spell h.start) + 1) n.2,
      renumbered-bare h.step (at + 3 + length (spell h.start) + 1 + length (spell h.test) + 3) n.4,
    ) (ap₂ (λ (a b : ℕ). record h { token = a; step_token = b }) (sym n.0) (sym n.3))

mutual
  unfolding renumbered_statement bare_statement NumberedStatement

  pub renumbered_statement-bare : (s : Statement) (at : ℕ) → NumberedStatement s at → renumbered_statement (bare_statement s) at ≡ s
  renumbered_statement-bare Null at h = refl
  renumbered_statement-bare (Block label ss) at h =
      rw (spell_label-bare label, label-bare label (at + 1) h.0, statements-bare ss (at + 1 + length (spell_label label)) h.1) refl
  renumbered_statement-bare (If t s) at h =
      rw (spell-bare t, renumbered-bare t (at + 2) h.0, renumbered_statement-bare s (at + 2 + length (spell t) + 1) h.1) refl
  renumbered_statement-bare (IfElse t s u) at h =
      rw (
        spell-bare t,
        spell_statement-bare s,
        renumbered-bare t (at + 2) h.0,
        renumbered_statement-bare s (at + 2 + length (spell t) + 1) h.1,
        renumbered_statement-bare u (at + 2 + length (spell t) + 1 + length (spell_statement s) + 1) h.2,
      ) refl
  renumbered_statement-bare (Case kind t arms) at h =
      rw (spell-bare t, renumbered-bare t (at + 2) h.0, arms-bare arms (at + 2 + length (spell t) + 1) h.1) refl
  renumbered_statement-bare (Assign t now v) at h = rw (spell-bare t, renumbered-bare t at h.0, renumbered-bare v (at + length (spell t) + 1) h.1) refl
  renumbered_statement-bare (For head s) at h =
      rw (spell_loop-bare head, loop-bare head (at + 1) h.0, renumbered_statement-bare s (at + 1 + length (spell_loop head)) h.1) refl

  statements-bare : (ss : Statements) (at : ℕ) → NumberedStatements ss at → renumbered_statements (bare_statements ss) at ≡ ss
  statements-bare Done at h = refl
  statements-bare (Then s ss) at h =
      rw (spell_statement-bare s, renumbered_statement-bare s at h.0, statements-bare ss (at + length (spell_statement s)) h.1) refl

  arm-bare : (a : Arm) (at : ℕ) → NumberedArm a at → renumbered_arm (bare_arm a) at ≡ a
  arm-bare (CaseItem labels colon s) at h =
      rw (spell_labels-bare labels colon, labels-bare labels at h.0, renumbered_statement-bare s (at + length (spell_labels labels colon)) h.1) refl

  arms-bare : (arms : Arms) (at : ℕ) → NumberedArms arms at → renumbered_arms (bare_arms arms) at ≡ arms
  arms-bare NoArms at h = refl
  arms-bare (MoreArms a rest) at h = rw (spell_arm-bare a, arm-bare a at h.0, arms-bare rest (at + length (spell_arm a)) h.1) refl
