use Rattle.std.proofs.Common.{◌≡◌, inr, true, false, get_or, set, sym, ◌∙◌}
use Rattle.std.proofs.lemmas.Bool.{false≢true}
use Rattle.rr_analysis.proofs.Waiting.{place_is}
use Rattle.rr_analysis.proofs.workspace.Workspace.meet.Goals as goal

pub returns-in_ok-push-clause-meets : goal.returns-in_ok-push-clause-meets
returns-in_ok-push-clause-meets c =
    let t = c.args.watch.now.trail in
    let v = c.args.lit.var in
    let read : c.is_marked.result ≡ get_or c.self.inside.marks v false = rw (← c.var-var.ensures.value) c.is_marked.ensures in
    let marks : c.mark.new.self ≡ set c.self.inside.marks v true = rw (← c.var-var.ensures.value) c.mark.ensures in
    rw (← c.self.view_is) (record {
      seen = marks;
      waiting = inr (
        λ m. let z : c.is_marked.result ≡ true = read ∙ m in false≢true (sym c.if-not-is_marked.true ∙ z),
        (c.place.result, (place_is t v c.place.result c.place.ensures, c.in_ok-push.ensures.permutation)),
      );
    })
