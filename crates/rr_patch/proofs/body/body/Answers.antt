use Rattle.rr_syntax.specs.View.{plain_statement}
use Rattle.rr_patch.specs.Changes.{plain_changes}
use Rattle.rr_patch.proofs.Bodies.{made_body}
use Rattle.rr_patch.proofs.body.body.Goals as goal

pub returns-clause-made : goal.returns-clause-made
returns-clause-made c =
    made_body c.args.list.now c.args.choice.now.picks.items (plain_changes c.args.out.now.items) (plain_changes c.rounds.new.out.items) (plain_changes c.statement.new.out.items) (plain_changes c.rounds-2.new.out.items)
    c.args.at c.in_ok-next.next c.first_token-token.result (plain_statement c.args.stmt.now) c.first_token-token.ensures c.in_ok-rounds.ensures c.in_ok-next.ensures.made c.in_ok-next.ensures.next c.in_ok-rounds-2.ensures
