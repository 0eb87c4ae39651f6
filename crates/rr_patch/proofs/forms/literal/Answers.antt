use Rattle.std.proofs.Common.{◌++◌, ◌∙◌, ap, sym}
use Rattle.rr_choice.specs.View.{plain_found, plain_site}
use Rattle.rr_respell.specs.Printing.{literal_pieces}
use Rattle.rr_patch.specs.Changes.{changes, plain_changes}
use Rattle.rr_patch.proofs.Walks.{literal_on}
use Rattle.rr_patch.proofs.forms.literal.Goals as goal

pub returns-in_ok-add-in-Some : goal.returns-in_ok-add-in-Some
returns-in_ok-add-in-Some c =
    literal_on c.args.out.now.items c.add.new.out.items c.args.place (plain_site c.in-Some.found.site) c.in-Some.found.pick c.args.number c.cut-value.result c.if-found.true c.cut-value.ensures c.in_ok-add-in-Some.ensures
    ∙ ap (λ f. plain_changes c.args.out.now.items ++ changes c.args.place (literal_pieces (plain_found f) c.args.number)) (sym c.in-Some.is)
