use Rattle.std.proofs.Common.{◌≡◌, ◌<◌, ◌∙◌, sym, ap, ap₂, subst, arith, List, length, get_or, All}
use Rattle.std.specs.Prelude.{Vec}
use Rattle.std.specs.Global.{Global}
use Rattle.std.proofs.lemmas.List.{get_or-map, get_or_read}
use Rattle.std.proofs.lemmas.List.Elements.{All-nil, All-push}
use Rattle.rr_bits.specs.Words.{word}
use Rattle.rr_circuit.specs.declared.Wire.{Wire}
use Rattle.rr_circuit.specs.Values.{AreWires}
use Rattle.rr_flat.specs.declared.signal.Signal.{Signal}
use Rattle.rr_flat.specs.Sound.{IsSignal}
use Rattle.rr_flat.specs.View.{Design}
use Rattle.rr_meaning.proofs.Scoping.{IsSound}
use Rattle.rr_blast_steps.specs.Designs.{signal_widths}
use Rattle.rr_blast.proofs.PlacedLaws.{starts_carried, starts_more, widths_more, widths_none, words_all, words_before}
use Rattle.rr_blast.proofs.beginning.start_words.Goals as goal

pub start_word-requires-clause-low : goal.start_word-requires-clause-low
start_word-requires-clause-low c =
    let items : c.deref-signal-items.result.now ≡ c.args.flat.now.signals = c.deref-signal-items.ensures.value ∙ ap (λ (d : Design). d.signals) c.flat.view_is in
    let f : IsSound c.args.flat.now = subst IsSound c.flat.view_is c.flat.invariant in
    (subst (All (IsSignal (length c.args.flat.now.scopes))) (sym items) f.signals_in c.loop-at.at _ c.loop-at-test.true).low

pub start_word-requires-clause-high : goal.start_word-requires-clause-high
start_word-requires-clause-high c =
    let items : c.deref-signal-items.result.now ≡ c.args.flat.now.signals = c.deref-signal-items.ensures.value ∙ ap (λ (d : Design). d.signals) c.flat.view_is in
    let f : IsSound c.args.flat.now = subst IsSound c.flat.view_is c.flat.invariant in
    (subst (All (IsSignal (length c.args.flat.now.scopes))) (sym items) f.signals_in c.loop-at.at _ c.loop-at-test.true).high

pub loop-at-init : goal.loop-at-init
loop-at-init c = record {
  words = rw c.new-words.ensures.items (All-nil (λ (w : Vec Wire Global). AreWires c.args.b.now w.items));
  widths = widths_none _ c.new-words.ensures.items;
  values = λ env k l. absurd (omega (arith, l));
}

pub loop-at-preserved : goal.loop-at-preserved
loop-at-preserved c =
    let h = c.loop-at.invariant in
    let items : c.deref-signal-items.result.now ≡ c.args.flat.now.signals = c.deref-signal-items.ensures.value ∙ ap (λ (d : Design). d.signals) c.flat.view_is in
    let l : c.loop-at.at < length c.in_ok-starts.starts.items = omega (arith, c.loop-at-test.true, ap length items, c.in_ok-starts.ensures.count) in
    let first : c.index.result.now ≡ get_or c.in_ok-starts.starts.items c.loop-at.at 0 = get_or_read c.in_ok-starts.starts.items c.loop-at.at _ l c.index.ensures 0 in
    record {
      words = rw c.in_ok-push_word.ensures (All-push (λ (w : Vec Wire Global). AreWires c.args.b.now w.items) c.loop-at.words.items c.in_ok-word.word h.words c.in_ok-word.ensures.wires);
      widths = widths_more c.loop-at.words.items _ c.in_ok-word.word c.deref-signal-items.result.now c.loop-at.at _ c.loop-at-test.true h.widths c.in_ok-word.ensures.size c.in_ok-push_word.ensures;
      values = λ env. starts_more c.args.b.now env c.loop-at.words.items _ c.in_ok-word.word (signal_widths c.deref-signal-items.result.now) c.in_ok-starts.starts.items c.loop-at.at
          (words_before c.loop-at.words.items c.deref-signal-items.result.now c.loop-at.at c.loop-at-test.true h.widths) c.in_ok-push_word.ensures
          (c.in_ok-word.ensures.value env ∙ ap₂ word (sym (get_or-map (λ (s : Signal). s.width) c.deref-signal-items.result.now c.loop-at.at _ 0 c.loop-at-test.true)) first)
          (h.values env);
    }

pub returns-clause-value : goal.returns-clause-value
returns-clause-value c = λ env.
    let items : c.deref-signal-items.result.now ≡ c.args.flat.now.signals = c.deref-signal-items.ensures.value ∙ ap (λ (d : Design). d.signals) c.flat.view_is in
    let f : IsSound c.args.flat.now = subst IsSound c.flat.view_is c.flat.invariant in
    let all : length c.loop-at.words.items ≡ length c.deref-signal-items.result.now = words_all c.loop-at.words.items c.deref-signal-items.result.now c.loop-at.at c.loop-at-test.false c.loop-at.invariant.widths in
    starts_carried c.args.flat.now c.args.b.now env c.loop-at.words.items c.in_ok-starts.starts.items f (all ∙ ap length items) c.in_ok-starts.ensures.count c.in_ok-starts.ensures.env c.in_ok-starts.ensures.above
    (λ k l. c.loop-at.invariant.values env k (omega (arith, l, all, c.loop-at-test.false)) ∙ ap (λ (ss : List Signal). word (get_or (signal_widths ss) k 0) (get_or c.in_ok-starts.starts.items k 0)) items)
