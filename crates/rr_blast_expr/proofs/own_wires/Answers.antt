use Rattle.std.proofs.Common.{refl}
use Rattle.rr_syntax.specs.View.{plain}
use Rattle.rr_blast_expr.proofs.Worths.{own_all, HasWires-alone}
use Rattle.rr_blast_expr.proofs.own_wires.Goals as goal

pub own_word-requires-clause-wires : goal.own_word-requires-clause-wires
own_word-requires-clause-wires c = HasWires-alone _ _ c.no_sites-list.ensures refl c.requires.signals

pub returns-clause-value : goal.returns-clause-value
returns-clause-value c = own_all _ _ _ (plain c.args.expr.now) _ c.no_sites-list.ensures refl c.requires.signals c.in_ok-out.ensures.value
