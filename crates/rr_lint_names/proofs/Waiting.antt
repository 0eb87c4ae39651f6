-- Whether an `always` waits for edges, by what it waits for.
use Rattle.std.proofs.Common.{◌≡◌, Bool, true, false, sym, ap}
use Rattle.rr_syntax.specs.declared.tree.Events.{Events}
use Rattle.rr_syntax.specs.declared.tree.Events.TheVariants as events
use Rattle.rr_syntax.specs.View.{plain_events}
use Rattle.rr_lint_names.specs.Edges.{waits_for_edges}

pub waits-Edges : (e : Events) (list : _) (commas : _) → e ≡ events.Edges list commas → true ≡ waits_for_edges (plain_events e)
unfolding plain_events
waits-Edges e list commas q = ap (λ (x : Events). waits_for_edges (plain_events x)) (sym q)

pub waits-Star : (e : Events) (brackets : Bool) → e ≡ events.Star brackets → false ≡ waits_for_edges (plain_events e)
unfolding plain_events
waits-Star e brackets q = ap (λ (x : Events). waits_for_edges (plain_events x)) (sym q)

pub waits-Levels : (e : Events) (list : _) (commas : _) → e ≡ events.Levels list commas → false ≡ waits_for_edges (plain_events e)
unfolding plain_events
waits-Levels e list commas q = ap (λ (x : Events). waits_for_edges (plain_events x)) (sym q)
