use Rattle.std.proofs.Common.{take, nat_eq, unwrap_or}
use Rattle.indexmap.specs.IndexMap.{get}
use Rattle.rr_lex.specs.Tokens.{lexemes}
use Rattle.rr_kept.proofs.Sublists.{KeptOf}
use Rattle.rr_kept.proofs.keeping.kept_sites.Given as goal

abbrev pub invariant-loop-site : goal.invariant-loop-site
invariant-loop-site l = record { done : KeptOf l.origins (lexemes l.tokens) (λ k. unwrap_or (get nat_eq l.bodies k) 0) (take l.site-index l.list) l.sites.items }
