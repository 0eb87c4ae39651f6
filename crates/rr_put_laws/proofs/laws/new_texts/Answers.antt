use Rattle.rr_put_laws.proofs.Put.{news_are_put}
use Rattle.rr_put_laws.proofs.laws.new_texts.Goals as goal

pub returns : goal.returns
returns c = news_are_put
