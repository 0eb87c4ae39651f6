use Rattle.std.proofs.Common.{ℕ, nat_eq, ◌∙◌, ap, length, subst, sym}
use Rattle.std.specs.List.{All, list_any}
use Rattle.rr_syntax.specs.View.{plain_source}
use Rattle.rr_flat.specs.View.{Design}
use Rattle.rr_edit.specs.Edits.{InOrder, IsPlaced}
use Rattle.rr_edit.specs.View.{plain_edits}
use Rattle.rr_lex.specs.Tokens.{lexemes}
use Rattle.rr_patch.specs.Changes.{plain_changes}
use Rattle.rr_patch.proofs.Printed.{source_room}
use Rattle.rr_patch.proofs.Stood.{edits_order, edits_placed}
use Rattle.rr_lint_print.specs.Pieces.{lint_edits}
use Rattle.rr_lint_names.specs.Latched.{marks}
use Rattle.rr_lint.proofs.Items.{of_source, made_fit, made_are}
use Rattle.rr_lint.proofs.editing.edits.Goals as goal

pub declarations-requires : goal.declarations-requires
declarations-requires c = record { fits = source_room c.args.bytes.now c.args.tokens.now c.args.source.now c.requires.few c.requires.tokens c.requires.tree }

pub edits_at-requires : goal.edits_at-requires
edits_at-requires c =
    let numbers = c.args.flat.now.reached in
    let h = λ (k : ℕ). c.in_ok-reached.ensures k ∙ ap (list_any (nat_eq k)) (c.as_slice.ensures.value ∙ ap (λ (d : Design). d.reached) c.flat.view_is) in
    let e = ap plain_changes c.deref.ensures.value ∙ of_source (marks c.in_ok-noted.noted) numbers c.args.source.now _ c.new-changes.result.items c.declarations.new.out.items c.requires.tree c.requires.numbered c.new-changes.ensures.items (c.in_ok-declarations.ensures numbers h) in
    record { fit = made_fit (marks c.in_ok-noted.noted) numbers c.args.bytes.now (lexemes c.args.tokens.now) (plain_source c.args.source.now) c.requires.tokens c.requires.tree c.deref.result.now e }

pub returns-clause-made : goal.returns-clause-made
returns-clause-made c =
    let numbers = c.args.flat.now.reached in
    let h = λ (k : ℕ). c.in_ok-reached.ensures k ∙ ap (list_any (nat_eq k)) (c.as_slice.ensures.value ∙ ap (λ (d : Design). d.reached) c.flat.view_is) in
    let e = ap plain_changes c.deref.ensures.value ∙ of_source (marks c.in_ok-noted.noted) numbers c.args.source.now _ c.new-changes.result.items c.declarations.new.out.items c.requires.tree c.requires.numbered c.new-changes.ensures.items (c.in_ok-declarations.ensures numbers h) in
    record {
      marks = marks c.in_ok-noted.noted;
      latched = c.in_ok-noted.ensures.0;
      words = c.in_ok-noted.ensures.1;
      are = made_are (marks c.in_ok-noted.noted) numbers c.args.bytes.now (lexemes c.args.tokens.now) (plain_source c.args.source.now) c.requires.tokens c.requires.tree c.deref.result.now e (plain_edits c.in_ok-out.out.items) c.in_ok-out.ensures;
    }

pub returns-clause-order : goal.returns-clause-order
returns-clause-order c =
    let m = returns-clause-made c in
    subst (InOrder 0 (length c.args.bytes.now)) (sym m.are) (edits_order c.args.bytes.now (lexemes c.args.tokens.now) (lint_edits c.args.flat.now.reached m.marks (plain_source c.args.source.now)) c.requires.tokens)

pub returns-clause-placed : goal.returns-clause-placed
returns-clause-placed c =
    let m = returns-clause-made c in
    subst (All (IsPlaced c.args.bytes.now)) (sym m.are) (edits_placed c.args.bytes.now (lexemes c.args.tokens.now) (lint_edits c.args.flat.now.reached m.marks (plain_source c.args.source.now)) c.requires.tokens)
