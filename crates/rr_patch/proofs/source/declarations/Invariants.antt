use Rattle.rr_syntax.specs.Items.{spell_module}
use Rattle.rr_syntax.specs.View.{plain_module}
use Rattle.rr_respell.specs.Printing.{module_pieces}
use Rattle.rr_patch.specs.Changes.{plain_changes}
use Rattle.rr_patch.specs.Walks.{ModuleAt}
use Rattle.rr_patch.proofs.ListWalks.{AllTo}
use Rattle.rr_patch.proofs.Sizes.{module_size}
use Rattle.rr_patch.proofs.source.declarations.Given as goal

abbrev pub invariant-loop-one : goal.invariant-loop-one
invariant-loop-one l = record {
  done : AllTo (module_pieces l.list l.choice.picks.items) spell_module plain_module (module_size l.list l.choice.picks.items) ModuleAt (plain_changes l.initial.out.items) (plain_changes l.out.items) l.entries l.one-index;
}
