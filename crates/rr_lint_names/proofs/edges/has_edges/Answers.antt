use Rattle.rr_lint_names.proofs.Waiting.{waits-Edges, waits-Star, waits-Levels}
use Rattle.rr_lint_names.proofs.edges.has_edges.Goals as goal

pub returns-in-Edges : goal.returns-in-Edges
returns-in-Edges c = waits-Edges c.args.events.now c.in-Edges.list c.in-Edges.commas c.in-Edges.is

pub returns-in-Star : goal.returns-in-Star
returns-in-Star c = waits-Star c.args.events.now c.in-Star.brackets c.in-Star.is

pub returns-in-Levels : goal.returns-in-Levels
returns-in-Levels c = waits-Levels c.args.events.now c.in-Levels.list c.in-Levels.commas c.in-Levels.is
