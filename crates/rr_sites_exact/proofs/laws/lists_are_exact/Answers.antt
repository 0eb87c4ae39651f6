use Rattle.rr_sites_exact.proofs.Exactly.{file_lists_are_exact, lists_are_exact}
use Rattle.rr_sites_exact.proofs.laws.lists_are_exact.Goals as goal

pub returns-clause-text : goal.returns-clause-text
returns-clause-text c = lists_are_exact

pub returns-clause-file : goal.returns-clause-file
returns-clause-file c = file_lists_are_exact
