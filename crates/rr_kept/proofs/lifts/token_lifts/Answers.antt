use Rattle.std.proofs.Common.{length}
use Rattle.rr_kept.proofs.Spans.{span_order, span_within}
use Rattle.rr_kept.proofs.lifts.token_lifts.Goals as goal

pub lifts-requires-clause-order : goal.lifts-requires-clause-order
lifts-requires-clause-order c = span_order (length c.args.origins.now) c.args.tokens.now _ c.in-Some.token.now c.requires.spans c.in-Some.ensures.lookup.3.0 c.in-Some.ensures.lookup.1

pub lifts-requires-clause-within : goal.lifts-requires-clause-within
lifts-requires-clause-within c = span_within (length c.args.origins.now) c.args.tokens.now _ c.in-Some.token.now c.requires.spans c.in-Some.ensures.lookup.3.0 c.in-Some.ensures.lookup.1
