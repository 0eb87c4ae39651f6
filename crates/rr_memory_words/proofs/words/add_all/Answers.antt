use Rattle.std.proofs.lemmas.List.Elements.{All-push}
use Rattle.rr_flat.specs.Sound.{IsOwn}
use Rattle.rr_flat.specs.View.{plain_signal}
use Rattle.rr_memory_words.proofs.Named.{words_more}
use Rattle.rr_memory_words.proofs.words.add_all.Goals as goal

pub loop-place-preserved : goal.loop-place-preserved
loop-place-preserved c = record {
  value = words_more (plain_signal c.args.signal.now) c.args.low c.loop-place.place c.args.signals.now.items c.loop-place.signals.items c.push.new.self.items c.indexed.result c.in_ok-push.ensures.items c.loop-place.invariant.value c.indexed.ensures.value;
  sound = λ i own all. rw c.in_ok-push.ensures.items (All-push (IsOwn i) c.loop-place.signals.items c.indexed.result (c.loop-place.invariant.sound i own all) (c.indexed.ensures.sound i own));
}
