use Rattle.std.proofs.Common.{◌∙◌, sym, subst, List, refl}
use Rattle.std.proofs.lemmas.Bool.{ne_eqb}
use Rattle.rr_expr.specs.declared.types.Bit.{Bit}
use Rattle.rr_writers.specs.Tables.{entry}
use Rattle.rr_latch.specs.Paths.{assigned, Logged}
use Rattle.rr_latch.proofs.Logs.{assigned_put, logged_none, logged_one}
use Rattle.rr_latch.proofs.paths.assign.Goals as goal

pub returns-in_ok-push-clause-log : goal.returns-in_ok-push-clause-log
returns-in_ok-push-clause-log c =
    let old = c.args.path.now.unassigned in
    let P : List Bit → Type 0 = λ z. Logged c.args.path.now.log.items z (assigned old) (assigned c.put.new.self) in
    subst P (sym c.in_ok-push.ensures.items)
    (logged_one c.args.path.now.log.items c.args.bit (assigned old) (assigned c.put.new.self)
    (ne_eqb (entry old c.args.bit) 0 (λ e. c.if-get-ne0.true (c.get.ensures ∙ e)))
    (assigned_put old c.put.new.self c.args.bit 0 c.in_ok-put.ensures))

pub returns-else-get-ne0-clause-log : goal.returns-else-get-ne0-clause-log
returns-else-get-ne0-clause-log c = logged_none _ _ _ (λ b. refl)
