use Rattle.std.proofs.Common.{ap, nat_eq, ◌∙◌}
use Rattle.indexmap.specs.IndexMap.{get}
use Rattle.rr_syntax.specs.View.{plain}
use Rattle.rr_text_names.specs.View.{plain_target}
use Rattle.rr_lint_names.specs.Latched.{is_low, marks}
use Rattle.rr_lint_names.proofs.Latching.{name_text, noted_here, noted_not}
use Rattle.rr_lint_names.proofs.latched_names.note_target.Goals as goal

pub returns-in_ok-add : goal.returns-in_ok-add
returns-in_ok-add c = λ t name.
    noted_here c.args.names.now (get nat_eq c.args.lows.now) c.args.token (plain_target c.args.target.now) c.identifier_of-named.result.name.now c.is_low.result (marks c.args.noted.now t name) (marks c.add.new.self t name) t name
    (name_text c.identifier_of-named.result (plain c.args.target.now.part.now) c.identifier_of-named.ensures) (c.is_low.ensures ∙ ap (is_low (get nat_eq c.args.lows.now)) c.meaning.ensures) c.if-is_low.true (c.in_ok-add.ensures t name)

pub returns-else-is_low : goal.returns-else-is_low
returns-else-is_low c = λ t name.
    noted_not c.args.names.now (get nat_eq c.args.lows.now) c.args.token (plain_target c.args.target.now) c.identifier_of-named.result.name.now c.is_low.result (marks c.args.noted.now t name) t name
    (name_text c.identifier_of-named.result (plain c.args.target.now.part.now) c.identifier_of-named.ensures) (c.is_low.ensures ∙ ap (is_low (get nat_eq c.args.lows.now)) c.meaning.ensures) c.if-is_low.false
