use Rattle.std.proofs.Common.{◌≡◌, ◌∙◌, ap, false, map}
use Rattle.std.specs.List.{list_any}
use Rattle.std.specs.Str.{bytes_eq}
use Rattle.rr_directive.specs.View.{names_of}
use Rattle.rr_directive.proofs.Names.{named, known_push, key_names, not_among, not_yes}
use Rattle.rr_directive.proofs.definitions.Definitions.number_of.Goals as goal

pub returns-in_ok-push-in-Ok-2-clause-number : goal.returns-in_ok-push-in-Ok-2-clause-number
returns-in_ok-push-in-Ok-2-clause-number c = let s = c.in-Ok.ensures.stored in named _ c.in-Ok.number s.0 c.args.name.now s.1 s.2

pub returns-else-is_new-clause-number : goal.returns-else-is_new-clause-number
returns-else-is_new-clause-number c = let s = c.in-Ok.ensures.stored in named _ c.in-Ok.number s.0 c.args.name.now s.1 s.2

pub returns-in_ok-push-in-Ok-2-clause-knows : goal.returns-in_ok-push-in-Ok-2-clause-knows
returns-in_ok-push-in-Ok-2-clause-knows c = λ ds k.
    let a : list_any (λ j. bytes_eq c.args.name.now j.now) c.args.self.now.names.keys ≡ false = not_yes c.in-Ok.is_new _ c.in-Ok.ensures.added c.if-is_new.true in
    let m = key_names c.args.self.now.names.keys c.args.name a in
    let z = known_push (names_of c.args.self.now) _ c.args.name.now _ _ _ _ ds (ap (λ ks. map (λ k. k.now) ks) c.in-Ok.ensures.keys ∙ m) c.in_ok-push-in-Ok.ensures.items c.in_ok-push-in-Ok-2.ensures.items
    (not_among c.args.self.now.names.keys c.args.name a) k.has k.closed in
    record { has = z.0; closed = z.1 }
