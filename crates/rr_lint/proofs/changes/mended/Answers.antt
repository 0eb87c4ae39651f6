use Rattle.std.proofs.Common.{◌++◌, ◌∙◌, ap}
use Rattle.rr_syntax.specs.View.{plain_statement, texts}
use Rattle.rr_patch.specs.Changes.{changes, plain_changes}
use Rattle.rr_lint_print.specs.Pieces.{defaulted_pieces, immediate_pieces}
use Rattle.rr_lint.proofs.changes.mended.Goals as goal

pub returns : goal.returns
returns c =
    c.in_ok-defaulted.ensures
    ∙ ap (λ names. plain_changes c.args.out.now.items ++ changes c.args.at (defaulted_pieces names (immediate_pieces (plain_statement c.args.body.now)))) (ap texts c.as_slice.ensures.value ∙ c.in_ok-names.ensures)
