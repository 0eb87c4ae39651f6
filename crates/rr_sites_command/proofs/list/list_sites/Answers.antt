use Rattle.std.proofs.Common.{option_map, refl}
use Rattle.rr_sites_command.proofs.Given.{refuses_design, refuses_many}
use Rattle.rr_sites_command.specs.Lists.{IsSiteText}
use Rattle.rr_sites_command.proofs.list.list_sites.Goals as goal

pub returns-in-Err : goal.returns-in-Err
returns-in-Err c = refuses_design c.args.bytes.now (option_map (λ n. n.now) c.args.top) (option_map (λ w. w.now) c.args.clock) c.in-Err.fault c.in-Err.ensures.answer

pub returns-in-Ok : goal.returns-in-Ok
returns-in-Ok c =
    refuses_many c.args.bytes.now (option_map (λ n. n.now) c.args.top) (option_map (λ w. w.now) c.args.clock) (λ text. IsSiteText c.args.bytes.now (option_map (λ n. n.now) c.args.top) (option_map (λ w. w.now) c.args.clock) text.items) c.list_file.result
    (c.list_file.ensures c.args.bytes.now (option_map (λ n. n.now) c.args.top) (option_map (λ w. w.now) c.args.clock) refl c.in-Ok.ensures.expansion c.in-Ok.ensures.tree c.in-Ok.ensures.ordered)
