use Rattle.std.proofs.Common.{◌∙◌, ap}
use Rattle.rr_syntax.specs.View.{plain_source}
use Rattle.rr_edit.specs.View.{plain_edits}
use Rattle.rr_lex.specs.Tokens.{lexemes}
use Rattle.rr_patch.specs.Changes.{plain_changes}
use Rattle.rr_patch.proofs.Printed.{source_room, of_source, made_fit, made_exact, exact_printed, exact_order, exact_placed}
use Rattle.rr_patch.proofs.editing.edits.Goals as goal

pub declarations-requires : goal.declarations-requires
declarations-requires c = record { fits = source_room c.args.bytes.now c.args.tokens.now c.args.source.now c.requires.few c.requires.tokens c.requires.tree }

pub edits_at-requires : goal.edits_at-requires
edits_at-requires c = record {
  fit =
      made_fit c.args.bytes.now (lexemes c.args.tokens.now) (plain_source c.args.source.now) c.args.list.now c.args.choice.now.picks.items c.requires.tokens c.requires.tree c.deref.result.now c.sites.ensures.kept
      (ap plain_changes c.deref.ensures.value ∙ of_source c.args.list.now c.args.choice.now.picks.items c.args.source.now _ c.new-changes.result.items c.declarations.new.out.items c.requires.tree c.requires.numbered c.new-changes.ensures.items c.in_ok-declarations.ensures);
}

pub returns-clause-exact : goal.returns-clause-exact
returns-clause-exact c =
    made_exact c.args.bytes.now (lexemes c.args.tokens.now) (plain_source c.args.source.now) c.args.list.now c.args.choice.now.picks.items c.requires.tokens c.requires.tree (plain_edits c.in_ok-out.out.items) c.deref.result.now
    (ap plain_changes c.deref.ensures.value ∙ of_source c.args.list.now c.args.choice.now.picks.items c.args.source.now _ c.new-changes.result.items c.declarations.new.out.items c.requires.tree c.requires.numbered c.new-changes.ensures.items c.in_ok-declarations.ensures)
    c.in_ok-out.ensures

pub returns-clause-printed : goal.returns-clause-printed
returns-clause-printed c =
    exact_printed c.args.bytes.now (lexemes c.args.tokens.now) (plain_source c.args.source.now) c.args.list.now c.args.choice.now.picks.items c.requires.tokens c.requires.tree (plain_edits c.in_ok-out.out.items)
    (returns-clause-exact c)

pub returns-clause-order : goal.returns-clause-order
returns-clause-order c =
    exact_order c.args.bytes.now (lexemes c.args.tokens.now) (plain_source c.args.source.now) c.args.list.now c.args.choice.now.picks.items c.requires.tokens c.requires.tree (plain_edits c.in_ok-out.out.items)
    (returns-clause-exact c)

pub returns-clause-placed : goal.returns-clause-placed
returns-clause-placed c =
    exact_placed c.args.bytes.now (lexemes c.args.tokens.now) (plain_source c.args.source.now) c.args.list.now c.args.choice.now.picks.items c.requires.tokens c.requires.tree (plain_edits c.in_ok-out.out.items)
    (returns-clause-exact c)
