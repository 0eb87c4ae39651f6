use Rattle.std.proofs.Common.{ap, refl}
use Rattle.rr_flat.proofs.Flats.{connected_named}
use Rattle.rr_flatten.proofs.Grown.{keeps_named}
use Rattle.rr_flatten.proofs.walk.name_instance.Goals as goal

pub returns-clause-connected : goal.returns-clause-connected
returns-clause-connected c = connected_named _ _ c.args.number c.args.one.now.name.now _ c.requires.there (ap (λ d. d.scopes) c.in_ok-name_instance.ensures) c.requires.connected

pub returns-clause-kept : goal.returns-clause-kept
returns-clause-kept c = keeps_named c.args.number _ _ _ c.requires.there c.requires.few c.requires.loops (ap (λ d. d.scopes) c.in_ok-name_instance.ensures) refl refl
