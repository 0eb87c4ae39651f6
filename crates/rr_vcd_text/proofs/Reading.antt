-- Readers of heads and bodies, construct by construct.
use Rattle.std.proofs.Common.{◌≡◌, ◌⊎◌, inl, inr, ℕ, List, [], ◌∷◌, ◌++◌, Option, Some, None, refl, sym, ◌∙◌, ap, subst, append_assoc, append-nil, map}
use Rattle.rr_vcd_text.specs.Words as text
use Rattle.rr_vcd_text.specs.Words.{last_line, words}
use Rattle.rr_vcd_text.specs.Dump as dump
use Rattle.rr_vcd_text.specs.Breaks.{IsBadAt, broken, headless, IsBrokenAt, IsBody, IsRest, AreWhole}
use Rattle.rr_vcd_text.specs.Steps.{Step, Empty, Further, Ended, Found, Broken, Unended, declare, tell, opened_step, opening, begun_step, begin}
use Rattle.rr_vcd_text.specs.View.{plain_declared, plain_variable, left, final, IsHeading, IsHeaded, IsReading, AreRooms, Fails, Refuses, SameReader}
use Rattle.rr_vcd_text.specs.declared.fault.DumpFault.{DumpFault}
use Rattle.rr_vcd_text.specs.declared.fault.DumpFault.TheVariants.{BadVcd, Memory}
use Rattle.rr_vcd_text.specs.declared.head.Head.{Head}
use Rattle.rr_vcd_text.specs.declared.body.Changes.{Changes}
use Rattle.rr_vcd_text.proofs.Bodies as bodies
use Rattle.rr_vcd_text.proofs.Heads as heads
use Rattle.rr_vcd_text.proofs.Declaring.{further_is}

-- a text at its head
pub heading : (bytes : List ℕ) (h : Head) → plain_declared h.declared ≡ dump.nothing → left h.words ≡ words bytes → h.words.last ≡ 1 → IsHeading bytes h
heading bytes h d w l = record {
  final = ap (λ x. last_line x (left h.words)) l ∙ ap (last_line 1) w;
  good = λ e ts x. subst (λ y. dump.IsDumpFrom y (words bytes) e ts) d (subst (λ y. dump.IsDumpFrom (plain_declared h.declared) y e ts) w x);
  bad = λ line x. broken (subst (λ y. IsBrokenAt (AreWhole y) (IsRest y) (words bytes) line) d (subst (λ y. IsBrokenAt (AreWhole (plain_declared h.declared)) (IsRest (plain_declared h.declared)) y line) w x));
  bare = λ e x line same. headless e (subst (λ y. dump.Head y (words bytes) e) d (subst (λ y. dump.Head (plain_declared h.declared) y e) w x)) same;
}

pub next_step : (d : dump.Declared) (ws rest : List text.Word) (w : text.Word) (s : Step) → ws ≡ w ∷ rest → opened_step d (opening w.text) w.line rest ≡ s → declare d ws ≡ s
next_step d ws rest w s e q = ap (declare d) e ∙ q

module _ (bytes : List ℕ) (h : Head) (now : IsHeading bytes h) where
  -- a construct further
  pub head_further : (g : Head) → declare (plain_declared h.declared) (left h.words) ≡ Further (plain_declared g.declared) (left g.words) → final g.words ≡ final h.words → IsHeading bytes g
  head_further g q last =
      let f = further_is (plain_declared h.declared) (left h.words) (plain_declared g.declared) (left g.words) q in
      record {
        final = last ∙ now.final;
        good = λ e ts x. now.good e ts (heads.dump_more (plain_declared h.declared) (plain_declared g.declared) (left h.words) (left g.words) e ts q x);
        bad = λ line x. now.bad line (heads.head_break_more (plain_declared h.declared) (plain_declared g.declared) (left h.words) (left g.words) line q x);
        bare = λ e x line same. now.bare e
            (subst (λ y. dump.Head (plain_declared h.declared) y e) (sym f.are) (dump.further (plain_declared h.declared) (plain_declared g.declared) e f.gone (left g.words) f.declares x)) line same;
      }

  -- the end of the head
  pub head_ended : (g : Head) → declare (plain_declared h.declared) (left h.words) ≡ Ended (left g.words) → plain_declared g.declared ≡ plain_declared h.declared → IsHeaded bytes g
  head_ended g q same = record {
    good = λ ts b. subst (λ y. dump.IsDump bytes y ts) (sym same)
        (now.good (plain_declared h.declared) ts (heads.dump_ended (plain_declared h.declared) (left h.words) (left g.words) ts q (subst (λ y. dump.Body y None (left g.words) ts) same b)));
    bad = λ line b. now.bad line
        (heads.end_break_more (plain_declared h.declared) (left h.words) (left g.words) line q (subst (λ y. IsBrokenAt (IsBody y None) (IsBody y None) (left g.words) line) same b));
  }

  pub head_fails : (e : DumpFault) → Fails (declare (plain_declared h.declared) (left h.words)) e → Refuses bytes e
  head_fails e (inl m) = inl m
  head_fails e (inr (line, (is, s))) = inr (line, (is, now.bad line (heads.head_broken (plain_declared h.declared) (left h.words) line s)))

  pub head_bare : left h.words ≡ [] → (line : ℕ) → line ≡ h.words.last → Refuses bytes (BadVcd line)
  unfolding last_line
  head_bare none line is =
      let last : final h.words ≡ h.words.last = ap (last_line h.words.last) none in
      inr (
        line,
        (
          refl,
          now.bare (plain_declared h.declared)
              (subst (λ y. dump.Head (plain_declared h.declared) y (plain_declared h.declared)) (sym none) (dump.done (plain_declared h.declared))) line (is ∙ (sym last ∙ now.final)),
        ),
      )

-- a reader behind the head
pub reading : (bytes : List ℕ) (h : Head) (c : Changes) → IsHeaded bytes h → left c.words ≡ left h.words → c.last ≡ None → AreRooms (map plain_variable h.declared.variables.items) c
    → IsReading bytes (plain_declared h.declared) [] c
reading bytes h c now w l rooms = record {
  rooms = rooms;
  good = λ ts b. now.good ts (subst (λ y. dump.Body (plain_declared h.declared) y (left h.words) ts) l (subst (λ y. dump.Body (plain_declared h.declared) c.last y ts) w b));
  bad = λ line b. now.bad line (subst (λ y. IsBrokenAt (IsBody (plain_declared h.declared) y) (IsBody (plain_declared h.declared) y) (left h.words) line) l
      (subst (λ y. IsBrokenAt (IsBody (plain_declared h.declared) c.last) (IsBody (plain_declared h.declared) c.last) y line) w b));
}

module _ (bytes : List ℕ) (d : dump.Declared) (told : List dump.Told) (c : Changes) (now : IsReading bytes d told c) where
  pub body_fails : (e : DumpFault) → Fails (tell d.variables c.last (left c.words)) e → Refuses bytes e
  body_fails e (inl m) = inl m
  body_fails e (inr (line, (is, s))) = inr (line, (is, now.bad line (bodies.broken d c.last (left c.words) line s)))

  pub body_done : left c.words ≡ [] → dump.IsDump bytes d told
  body_done none = subst (dump.IsDump bytes d) (append-nil told) (now.good [] (subst (λ y. dump.Body d c.last y []) (sym none) (dump.done c.last)))

  pub body_found : (g : Changes) (t : dump.Told) → tell d.variables c.last (left c.words) ≡ Found t (left g.words) → g.last ≡ dump.time_after c.last t → AreRooms d.variables g
      → IsReading bytes d (told ++ t ∷ []) g
  body_found g t q last rooms = record {
    rooms = rooms;
    good = λ ts b. subst (dump.IsDump bytes d) (sym (append_assoc told (t ∷ []) ts))
        (now.good (t ∷ ts) (bodies.body_more d c.last (left c.words) t (left g.words) ts q (subst (λ y. dump.Body d y (left g.words) ts) last b)));
    bad = λ line b. now.bad line
        (bodies.break_more d c.last (left c.words) t (left g.words) line q (subst (λ y. IsBrokenAt (IsBody d y) (IsBody d y) (left g.words) line) last b));
  }
