use Rattle.std.proofs.Common.{◌≡◌, ◌∙◌, sym, ap, ◌++◌, ◌+◌, map, drop, All, arith}
use Rattle.std.proofs.lemmas.List.Elements.{All-get_or}
use Rattle.rr_flat.specs.Sound.{IsOwn}
use Rattle.rr_flat.specs.View.{plain_signal}
use Rattle.rr_declarations.specs.Heads.{joined}
use Rattle.rr_declarations.specs.Sound.{HasWords}
use Rattle.rr_declarations.specs.View.{plain_list}
use Rattle.rr_declarations.proofs.JoinedSignals.{joined_more, joined_done}
use Rattle.rr_declarations.proofs.head.joined.Goals as goal

pub add_words-requires : goal.add_words-requires
add_words-requires c = c.requires c.loop-declared.declared-index _ c.loop-declared-test.true

pub loop-declared-preserved : goal.loop-declared-preserved
loop-declared-preserved c = record {
  value = ap (λ xs. xs ++ joined (plain_list (drop (c.loop-declared.declared-index + 1) c.args.list.now))) c.in_ok-add_words.ensures.value
      ∙ (joined_more (map plain_signal c.loop-declared.signals.items) c.args.list.now c.loop-declared.declared-index _ c.loop-declared-test.true ∙ c.loop-declared.invariant.value);
  sound = λ i all. c.in_ok-add_words.ensures.sound i (all c.loop-declared.declared-index _ c.loop-declared-test.true).0 (c.loop-declared.invariant.sound i all);
}

pub returns-clause-value : goal.returns-clause-value
returns-clause-value c = sym (joined_done (map plain_signal c.loop-declared.signals.items) c.args.list.now c.loop-declared.declared-index c.loop-declared-test.false) ∙ c.loop-declared.invariant.value
