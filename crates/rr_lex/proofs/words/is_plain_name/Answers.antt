use Rattle.std.proofs.Common.{◌∙◌, sym, ap, is_none, Option, ℕ}
use Rattle.rr_lex.specs.Reading.{member}
use Rattle.rr_lex.proofs.Fresh.{plain_yes, none_by}
use Rattle.rr_lex.proofs.words.is_plain_name.Goals as goal

pub returns : goal.returns
unfolding member
returns c = none_by c.keyword_at.result c.is_none.result c.is_none.ensures ∙ ap (λ (o : Option ℕ). is_none o) c.keyword_at.ensures.place
    ∙ plain_yes c.args.name.now c.past.result (sym c.stands.ensures ∙ c.if-not-stands.false) c.past.ensures.place c.if-past-name.false
