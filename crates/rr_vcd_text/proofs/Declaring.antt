-- What a first word of the head opens, in the words of the grammar, and the construct that is found there.
use Rattle.std.proofs.Common.{◌≡◌, ◌⊎◌, inl, inr, ℕ, Bool, true, false, ◌||◌, List, [], ◌∷◌, ◌++◌, length, Option, Some, None, codes, refl, sym, ◌∙◌, ap, subst, append_assoc, append-nil, nat_lt, if◌then◌else◌, cond}
use Rattle.std.specs.Str.{bytes_eq}
use Rattle.rr_vcd_text.specs.Words.{Word, is_word, is_end}
use Rattle.rr_vcd_text.specs.Numbers.{number}
use Rattle.rr_vcd_text.specs.Dump as dump
use Rattle.rr_vcd_text.specs.Dump.{Declared, Told, Declares, Head, Body, EndsHead, IsDumpFrom, UpToEnd, with_scope, without_scope, with_variable}
use Rattle.rr_vcd_text.specs.Breaks.{IsRest, AreWhole}
use Rattle.rr_vcd_text.specs.declared.head.Opening.{Opening}
use Rattle.rr_vcd_text.specs.declared.head.Opening.TheVariants as word
use Rattle.rr_vcd_text.specs.Steps.{Step, Empty, Further, Ended, Found, Broken, Unended, past_end, opening, is_remark, opened_step, declare, further_or, ended_or, closed, scope_step, upscope_step, variable_step, sized_step, named_step}
use Rattle.rr_vcd_text.proofs.Rooming.{same_bytes}
use Rattle.rr_vcd_text.proofs.Endings.{ends_at, past_is}
use Rattle.rr_vcd_text.proofs.Telling.{or_cases}

abbrev pub Opens : Word → Opening → Type 0
Opens w word.Remark = is_remark w.text ≡ true
Opens w word.Scope = is_word (codes "$scope") w ≡ true
Opens w word.Upscope = is_word (codes "$upscope") w ≡ true
Opens w word.Variable = is_word (codes "$var") w ≡ true
Opens w word.End = is_word (codes "$enddefinitions") w ≡ true
Opens w word.Other = Unit {0}

pub opens : (w : Word) → Opens w (opening w.text)
opens w = go (bytes_eq w.text (codes "$var")) (bytes_eq w.text (codes "$scope")) (bytes_eq w.text (codes "$upscope")) (bytes_eq w.text (codes "$enddefinitions")) (is_remark w.text) refl refl refl refl refl
  where
    go : (v s u e r : Bool) → bytes_eq w.text (codes "$var") ≡ v → bytes_eq w.text (codes "$scope") ≡ s → bytes_eq w.text (codes "$upscope") ≡ u → bytes_eq w.text (codes "$enddefinitions") ≡ e
        → is_remark w.text ≡ r
        → Opens w (if v then word.Variable else if s then word.Scope else if u then word.Upscope else if e then word.End else if r then word.Remark else word.Other)
    go true s u e r h1 h2 h3 h4 h5 = h1
    go false true u e r h1 h2 h3 h4 h5 = h2
    go false false true e r h1 h2 h3 h4 h5 = h3
    go false false false true r h1 h2 h3 h4 h5 = h4
    go false false false false true h1 h2 h3 h4 h5 = h5
    go false false false false false h1 h2 h3 h4 h5 = tt

pub opens_remark : (text : List ℕ) → is_remark text ≡ true → opening text ≡ word.Remark
opens_remark text e = elim (or_cases (bytes_eq text (codes "$comment")) _ e) [
  | inl a ↦ rw (same_bytes text (codes "$comment") a) refl
  | inr f ↦ elim (or_cases (bytes_eq text (codes "$date")) _ f) [
    | inl a ↦ rw (same_bytes text (codes "$date") a) refl
    | inr g ↦ elim (or_cases (bytes_eq text (codes "$version")) _ g) [
      | inl a ↦ rw (same_bytes text (codes "$version") a) refl
      | inr a ↦ rw (same_bytes text (codes "$timescale") a) refl
    ]
  ]
]

pub opens_scope : (w : Word) → is_word (codes "$scope") w ≡ true → opening w.text ≡ word.Scope
opens_scope w e = rw (same_bytes w.text (codes "$scope") e) refl

pub opens_upscope : (w : Word) → is_word (codes "$upscope") w ≡ true → opening w.text ≡ word.Upscope
opens_upscope w e = rw (same_bytes w.text (codes "$upscope") e) refl

pub opens_variable : (w : Word) → is_word (codes "$var") w ≡ true → opening w.text ≡ word.Variable
opens_variable w e = rw (same_bytes w.text (codes "$var") e) refl

pub opens_end : (w : Word) → is_word (codes "$enddefinitions") w ≡ true → opening w.text ≡ word.End
opens_end w e = rw (same_bytes w.text (codes "$enddefinitions") e) refl

-- a construct is found at its first words
pub further_at : (d e : Declared) (cs : List Word) → Declares d cs e → (r : List Word) → declare d (cs ++ r) ≡ Further e r
further_at d e cs (dump.remark w ws s u) r = ap (λ o. opened_step d o w.line (ws ++ r)) (opens_remark w.text s) ∙ ap (further_or w.line d) (past_is ws r u)
further_at d e cs (dump.scope w kind name last s t) r =
    ap (λ o. opened_step d o w.line (kind ∷ (name ∷ (last ∷ r)))) (opens_scope w s) ∙ ap (λ b. if b then Further (with_scope d) r else Broken last.line) t
further_at d e cs (dump.upscope w last s o t) r =
    ap (λ x. opened_step d x w.line (last ∷ r)) (opens_upscope w s)
    ∙ (ap (λ b. if b then closed (without_scope d) w.line (last ∷ r) else Broken w.line) o ∙ ap (λ b. if b then Further (without_scope d) r else Broken last.line) t)
further_at d e cs (dump.variable w kind size id name ws n s v u) r =
    ap (λ o. opened_step d o w.line (kind ∷ (size ∷ (id ∷ (name ∷ (ws ++ r)))))) (opens_variable w s)
    ∙ (ap (sized_step d w.line size.line (id ∷ (name ∷ (ws ++ r)))) v ∙ ap (further_or w.line (with_variable d id.text n name.text)) (past_is ws r u))

pub ended_at : (d : Declared) (cs : List Word) → EndsHead cs → (r : List Word) → declare d (cs ++ r) ≡ Ended r
ended_at d cs h r =
    ap (λ x. declare d (x ++ r)) h.are
    ∙ (ap (λ o. opened_step d o h.first.line (h.others ++ r)) (opens_end h.first h.enddefinitions) ∙ ap (ended_or h.first.line) (past_is h.others r h.closed))

-- a head is empty or goes on behind the construct that is found
pub data HeadOpened (d : Declared) (ws : List Word) (f : Declared) : Type 0 where
  empty : ws ≡ [] → d ≡ f → HeadOpened d ws f
  further : (e : Declared) (r : List Word) → declare d ws ≡ Further e r → Head e r f → HeadOpened d ws f

pub head_opened : (d : Declared) (ws : List Word) (f : Declared) → Head d ws f → HeadOpened d ws f
head_opened d ws f (dump.done _) = empty refl refl
head_opened d ws f (dump.further _ e _ cs rest h more) = further e rest (further_at d e cs h rest) more

pub data RestOpened (d : Declared) (ws : List Word) (f : Declared) (told : List Told) : Type 0 where
  rest_goes_on : (e : Declared) (r : List Word) → declare d ws ≡ Further e r → IsDumpFrom e r f told → RestOpened d ws f told
  rest_ends : (r : List Word) → declare d ws ≡ Ended r → d ≡ f → Body f None r told → RestOpened d ws f told

rest_by : (d : Declared) (head : List Word) (f : Declared) → Head d head f → (ws ends body : List Word) (told : List Told) → ws ≡ head ++ (ends ++ body) → EndsHead ends → Body f None body told
    → RestOpened d ws f told
rest_by d head f (dump.done _) ws ends body told e h b = rest_ends body (ap (declare d) e ∙ ended_at d ends h body) refl b
rest_by d head f (dump.further _ x _ cs rest h more) ws ends body told e eh b =
    rest_goes_on x (rest ++ (ends ++ body)) (ap (declare d) (e ∙ append_assoc cs rest (ends ++ body)) ∙ further_at d x cs h (rest ++ (ends ++ body)))
    (record { head = rest; ends = ends; body = body; whole = refl; declares = more; enddefinitions = eh; tells = b })

pub rest_opened : (d : Declared) (ws : List Word) (f : Declared) (told : List Told) → IsDumpFrom d ws f told → RestOpened d ws f told
rest_opened d ws f told x = rest_by d x.head f x.declares ws x.ends x.body told x.whole x.enddefinitions x.tells

-- a construct more in front
pub rest_more : (d e : Declared) (cs r : List Word) (f : Declared) (told : List Told) → Declares d cs e → IsDumpFrom e r f told → IsDumpFrom d (cs ++ r) f told
rest_more d e cs r f told h x = record {
  head = cs ++ x.head;
  ends = x.ends;
  body = x.body;
  whole = ap (λ y. cs ++ y) x.whole ∙ sym (append_assoc cs x.head (x.ends ++ x.body));
  declares = dump.further d e f cs x.head h x.declares;
  enddefinitions = x.enddefinitions;
  tells = x.tells;
}

-- what is found
pub record FurtherIs (d : Declared) (ws : List Word) (e : Declared) (r : List Word) : Type 0 where
  pub gone : List Word
  pub are : ws ≡ gone ++ r
  pub declares : Declares d gone e

remark_is : (d : Declared) (w : Word) (ws : List Word) (e : Declared) (r : List Word) → is_remark w.text ≡ true → (o : Option (List Word)) → past_end ws ≡ o → further_or w.line d o ≡ Further e r
    → FurtherIs d (w ∷ ws) e r
remark_is d w ws e r s None p q = cc
remark_is d w ws e r s (Some rest) p q =
    let same : rest ≡ r = cc in
    let into : d ≡ e = cc in
    let u = ends_at ws rest p in
    record { gone = w ∷ u.gone; are = ap (λ x. w ∷ x) (u.are ∙ ap (λ x. u.gone ++ x) same); declares = subst (Declares d (w ∷ u.gone)) into (dump.remark w u.gone s u.ends) }

scope_is : (d : Declared) (w : Word) (ws : List Word) (e : Declared) (r : List Word) → is_word (codes "$scope") w ≡ true → scope_step d w.line ws ≡ Further e r → FurtherIs d (w ∷ ws) e r
scope_is d w [] e r s q = cc
scope_is d w (k ∷ []) e r s q = cc
scope_is d w (k ∷ (n ∷ [])) e r s q = cc
scope_is d w (k ∷ (n ∷ (l ∷ ws))) e r s q = go (is_end l) refl q
  where
    go : (b : Bool) → is_end l ≡ b → (if b then Further (with_scope d) ws else Broken l.line) ≡ Further e r → FurtherIs d (w ∷ (k ∷ (n ∷ (l ∷ ws)))) e r
    go false h p = cc
    go true h p =
        let same : ws ≡ r = cc in
        let into : with_scope d ≡ e = cc in
        record { gone = w ∷ (k ∷ (n ∷ (l ∷ []))); are = ap (λ x. w ∷ (k ∷ (n ∷ (l ∷ x)))) same; declares = subst (Declares d (w ∷ (k ∷ (n ∷ (l ∷ []))))) into (dump.scope w k n l s h) }

upscope_is : (d : Declared) (w : Word) (ws : List Word) (e : Declared) (r : List Word) → is_word (codes "$upscope") w ≡ true → upscope_step d w.line ws ≡ Further e r → FurtherIs d (w ∷ ws) e r
upscope_is d w ws e r s q = open_ones (nat_lt 0 (length d.opened)) refl q
  where
    last_one : nat_lt 0 (length d.opened) ≡ true → (l : Word) (xs : List Word) (b : Bool) → is_end l ≡ b → (if b then Further (without_scope d) xs else Broken l.line) ≡ Further e r → FurtherIs d (w ∷ (l ∷ xs)) e r
    last_one o l xs false h p = cc
    last_one o l xs true h p =
        let same : xs ≡ r = cc in
        let into : without_scope d ≡ e = cc in
        record { gone = w ∷ (l ∷ []); are = ap (λ x. w ∷ (l ∷ x)) same; declares = subst (Declares d (w ∷ (l ∷ []))) into (dump.upscope w l s o h) }

    closing : nat_lt 0 (length d.opened) ≡ true → (xs : List Word) → closed (without_scope d) w.line xs ≡ Further e r → FurtherIs d (w ∷ xs) e r
    closing o [] p = cc
    closing o (l ∷ xs) p = last_one o l xs (is_end l) refl p

    open_ones : (b : Bool) → nat_lt 0 (length d.opened) ≡ b → (if b then closed (without_scope d) w.line ws else Broken w.line) ≡ Further e r → FurtherIs d (w ∷ ws) e r
    open_ones false o p = cc
    open_ones true o p = closing o ws p

variable_is : (d : Declared) (w : Word) (ws : List Word) (e : Declared) (r : List Word) → is_word (codes "$var") w ≡ true → variable_step d w.line ws ≡ Further e r → FurtherIs d (w ∷ ws) e r
variable_is d w [] e r s q = cc
variable_is d w (k ∷ []) e r s q = cc
variable_is d w (k ∷ (z ∷ ws)) e r s q = sized (number z.text) refl q
  where
    ending : (n : ℕ) → number z.text ≡ Some n → (i m : Word) (xs : List Word) (o : Option (List Word)) → past_end xs ≡ o → further_or w.line (with_variable d i.text n m.text) o ≡ Further e r
        → FurtherIs d (w ∷ (k ∷ (z ∷ (i ∷ (m ∷ xs))))) e r
    ending n h i m xs None p t = cc
    ending n h i m xs (Some rest) p t =
        let same : rest ≡ r = cc in
        let into : with_variable d i.text n m.text ≡ e = cc in
        let u = ends_at xs rest p in
        record {
          gone = w ∷ (k ∷ (z ∷ (i ∷ (m ∷ u.gone))));
          are = ap (λ x. w ∷ (k ∷ (z ∷ (i ∷ (m ∷ x))))) (u.are ∙ ap (λ x. u.gone ++ x) same);
          declares = subst (Declares d (w ∷ (k ∷ (z ∷ (i ∷ (m ∷ u.gone)))))) into (dump.variable w k z i m u.gone n s h u.ends);
        }

    named : (n : ℕ) → number z.text ≡ Some n → (xs : List Word) → named_step d w.line n xs ≡ Further e r → FurtherIs d (w ∷ (k ∷ (z ∷ xs))) e r
    named n h [] t = cc
    named n h (i ∷ []) t = cc
    named n h (i ∷ (m ∷ xs)) t = ending n h i m xs (past_end xs) refl t

    sized : (o : Option ℕ) → number z.text ≡ o → sized_step d w.line z.line ws o ≡ Further e r → FurtherIs d (w ∷ (k ∷ (z ∷ ws))) e r
    sized None h t = cc
    sized (Some n) h t = named n h ws t

end_no_further : (d e : Declared) (r : List Word) (line : ℕ) (o : Option (List Word)) → ended_or line o ≡ Further e r → ⊥
end_no_further d e r line None q = cc
end_no_further d e r line (Some x) q = cc

opened_is : (d : Declared) (w : Word) (ws : List Word) (e : Declared) (r : List Word) (o : Opening) → Opens w o → opened_step d o w.line ws ≡ Further e r → FurtherIs d (w ∷ ws) e r
opened_is d w ws e r word.Remark m q = remark_is d w ws e r m (past_end ws) refl q
opened_is d w ws e r word.Scope m q = scope_is d w ws e r m q
opened_is d w ws e r word.Upscope m q = upscope_is d w ws e r m q
opened_is d w ws e r word.Variable m q = variable_is d w ws e r m q
opened_is d w ws e r word.End m q = absurd (end_no_further d e r w.line (past_end ws) q)
opened_is d w ws e r word.Other m q = cc

pub further_is : (d : Declared) (ws : List Word) (e : Declared) (r : List Word) → declare d ws ≡ Further e r → FurtherIs d ws e r
further_is d [] e r q = cc
further_is d (w ∷ ws) e r q = opened_is d w ws e r (opening w.text) (opens w) q

-- the end of the head
pub record EndedIs (ws r : List Word) : Type 0 where
  pub gone : List Word
  pub are : ws ≡ gone ++ r
  pub ends : EndsHead gone

ending_is : (w : Word) (ws r : List Word) → is_word (codes "$enddefinitions") w ≡ true → (o : Option (List Word)) → past_end ws ≡ o → ended_or w.line o ≡ Ended r → EndedIs (w ∷ ws) r
ending_is w ws r s None p q = cc
ending_is w ws r s (Some rest) p q =
    let same : rest ≡ r = cc in
    let u = ends_at ws rest p in
    record {
      gone = w ∷ u.gone;
      are = ap (λ x. w ∷ x) (u.are ∙ ap (λ x. u.gone ++ x) same);
      ends = record { first = w; others = u.gone; are = refl; enddefinitions = s; closed = u.ends };
    }

closed_no_end : (d : Declared) (line : ℕ) (ws r : List Word) → closed d line ws ≡ Ended r → ⊥
closed_no_end d line [] r q = cc
closed_no_end d line (w ∷ ws) r q = go (is_end w) q
  where
    go : (b : Bool) → (if b then Further d ws else Broken w.line) ≡ Ended r → ⊥
    go true p = cc
    go false p = cc

further_no_end : (d : Declared) (line : ℕ) (o : Option (List Word)) (r : List Word) → further_or line d o ≡ Ended r → ⊥
further_no_end d line None r q = cc
further_no_end d line (Some x) r q = cc

scope_no_end : (d : Declared) (line : ℕ) (ws r : List Word) → scope_step d line ws ≡ Ended r → ⊥
scope_no_end d line [] r q = cc
scope_no_end d line (k ∷ []) r q = cc
scope_no_end d line (k ∷ (n ∷ ws)) r q = closed_no_end (with_scope d) line ws r q

upscope_no_end : (d : Declared) (line : ℕ) (ws r : List Word) (b : Bool) → (if b then closed (without_scope d) line ws else Broken line) ≡ Ended r → ⊥
upscope_no_end d line ws r true q = closed_no_end (without_scope d) line ws r q
upscope_no_end d line ws r false q = cc

named_no_end : (d : Declared) (line n : ℕ) (ws r : List Word) → named_step d line n ws ≡ Ended r → ⊥
named_no_end d line n [] r q = cc
named_no_end d line n (i ∷ []) r q = cc
named_no_end d line n (i ∷ (m ∷ ws)) r q = further_no_end (with_variable d i.text n m.text) line (past_end ws) r q

sized_no_end : (d : Declared) (line at : ℕ) (ws r : List Word) (o : Option ℕ) → sized_step d line at ws o ≡ Ended r → ⊥
sized_no_end d line at ws r None q = cc
sized_no_end d line at ws r (Some n) q = named_no_end d line n ws r q

variable_no_end : (d : Declared) (line : ℕ) (ws r : List Word) → variable_step d line ws ≡ Ended r → ⊥
variable_no_end d line [] r q = cc
variable_no_end d line (k ∷ []) r q = cc
variable_no_end d line (k ∷ (s ∷ ws)) r q = sized_no_end d line s.line ws r (number s.text) q

opened_ended : (d : Declared) (w : Word) (ws r : List Word) (o : Opening) → Opens w o → opened_step d o w.line ws ≡ Ended r → EndedIs (w ∷ ws) r
opened_ended d w ws r word.Remark m q = absurd (further_no_end d w.line (past_end ws) r q)
opened_ended d w ws r word.Scope m q = absurd (scope_no_end d w.line ws r q)
opened_ended d w ws r word.Upscope m q = absurd (upscope_no_end d w.line ws r (nat_lt 0 (length d.opened)) q)
opened_ended d w ws r word.Variable m q = absurd (variable_no_end d w.line ws r q)
opened_ended d w ws r word.End m q = ending_is w ws r m (past_end ws) refl q
opened_ended d w ws r word.Other m q = cc

pub ended_is : (d : Declared) (ws r : List Word) → declare d ws ≡ Ended r → EndedIs ws r
ended_is d [] r q = cc
ended_is d (w ∷ ws) r q = opened_ended d w ws r (opening w.text) (opens w) q
