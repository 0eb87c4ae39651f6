use Rattle.std.proofs.Common.{◌∙◌, List, ap, nat_eq, subst, ℕ, IfNone, IfOk, IfSome}
use Rattle.indexmap.specs.IndexMap.{get}
use Rattle.rr_syntax.specs.View.{plain}
use Rattle.rr_expr.specs.declared.types.Entity.{Entity}
use Rattle.rr_expr.specs.Scopes.{meant}
use Rattle.rr_lint_names.specs.Latched.{HasNoLowWord, IsLowWord}
use Rattle.rr_lint_names.proofs.Latching.{name_text}
use Rattle.rr_lint_names.proofs.words.word_of_target.Goals as goal

pub returns-clause-some : goal.returns-clause-some
returns-clause-some c =
    subst (λ (e : Entity). IfOk c.low_word.result (λ r. IfSome r (IsLowWord (get nat_eq c.args.lows.now) e)))
    (c.meaning.ensures ∙ ap (λ (text : List ℕ). meant c.args.names.now text) (name_text c.identifier_of-named.result (plain c.args.target.now.part.now) c.identifier_of-named.ensures)) c.low_word.ensures.some

pub returns-clause-none : goal.returns-clause-none
returns-clause-none c =
    subst (λ (e : Entity). IfOk c.low_word.result (λ r. IfNone r (HasNoLowWord (get nat_eq c.args.lows.now) e)))
    (c.meaning.ensures ∙ ap (λ (text : List ℕ). meant c.args.names.now text) (name_text c.identifier_of-named.result (plain c.args.target.now.part.now) c.identifier_of-named.ensures)) c.low_word.ensures.none
