use Rattle.std.proofs.Common.{◌∙◌, sym}
use Rattle.rr_expr.proofs.Names.{same_lookup}
use Rattle.rr_expr.proofs.scope.Scope.find.Goals as goal

pub returns : goal.returns
returns c = let same = same_lookup c.args.name.now c.self.inside.names.entries in rw (← c.self.view_is) (c.copied.ensures ∙ (c.get.ensures.value ∙ sym same))
