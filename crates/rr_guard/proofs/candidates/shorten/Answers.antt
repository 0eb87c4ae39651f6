use Rattle.std.proofs.Common.{◌∙◌, sym, ap, subst, map}
use Rattle.std.proofs.lemmas.List.{take-map}
use Rattle.rr_syntax.specs.View.{plain_identifier}
use Rattle.rr_guard.specs.Candidates.{Rising}
use Rattle.rr_guard.specs.Names.{first_names}
use Rattle.rr_guard.proofs.Rising.{first_few}
use Rattle.rr_guard.proofs.candidates.shorten.Goals as goal

pub returns-then-is_rising : goal.returns-then-is_rising
returns-then-is_rising c = λ token.
    ap (λ xs. first_names (map plain_identifier xs) token) c.truncate.ensures.items
    ∙ (ap (λ xs. first_names xs token) (sym (take-map plain_identifier 64 c.args.names.now.items))
    ∙ first_few (map plain_identifier c.args.names.now.items) token (subst (λ xs. Rising 0 (map plain_identifier xs)) c.as_slice.ensures.value (c.is_rising.ensures c.if-is_rising.true)))
