use Rattle.std.proofs.Common.{option_map}
use Rattle.rr_lex.specs.Tokens.{lexemes}
use Rattle.rr_flat.specs.View.{plain_flat}
use Rattle.rr_run.proofs.FileRuns.{file_run}
use Rattle.rr_run.proofs.run.run_files.Goals as goal

pub returns-in-Ok : goal.returns-in-Ok
returns-in-Ok c =
    let d = c.in-Ok.ensures.answer in
    let its = c.in-Ok.file.design in
    file_run c.args.kind c.args.design.now c.args.table.now (option_map (λ n. n.now) c.args.top) (option_map (λ w. w.now) c.args.clock) (lexemes its.tokens.now) (plain_flat its.flat) its.order.clock its.order.rising d c.run_on.result
    (c.run_on.ensures d.text (option_map (λ n. n.now) c.args.top) (option_map (λ w. w.now) c.args.clock) d.design)
