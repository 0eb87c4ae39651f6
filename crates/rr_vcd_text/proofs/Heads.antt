-- Breaks of the form in the head.
use Rattle.std.proofs.Common.{◌≡◌, ◌⊎◌, inl, inr, ℕ, Bool, true, false, List, [], ◌∷◌, ◌++◌, length, Option, Some, None, codes, refl, sym, ◌∙◌, ap, subst, append_assoc, nat_lt, if◌then◌else◌, cond}
use Rattle.rr_vcd_text.specs.Words.{Word, is_word, is_end}
use Rattle.rr_vcd_text.specs.Numbers.{number, decimal_from}
use Rattle.rr_vcd_text.specs.Dump as dump
use Rattle.rr_vcd_text.specs.Dump.{Declared, Told, Declares, Head, Body, EndsHead, IsDumpFrom, with_scope, without_scope, with_variable}
use Rattle.rr_vcd_text.specs.Breaks.{IsFront, IsBrokenAt, breaks, unended, IsBody, IsRest, AreWhole}
use Rattle.rr_vcd_text.specs.declared.head.Opening.{Opening}
use Rattle.rr_vcd_text.specs.declared.head.Opening.TheVariants as word
use Rattle.rr_vcd_text.specs.Steps.{Step, Empty, Further, Ended, Found, Broken, Unended, past_end, opening, opened_step, declare, further_or, ended_or, closed, scope_step, upscope_step, variable_step, sized_step, named_step}
use Rattle.rr_vcd_text.proofs.Endings.{end_word, ends_at, past_is, closes, none_in_front, lone_end, is_end_word}
use Rattle.rr_vcd_text.proofs.Declaring.{Opens, opens, opens_remark, opens_scope, opens_upscope, opens_variable, opens_end, HeadOpened, empty, further, head_opened, RestOpened, rest_goes_on, rest_ends, rest_opened, rest_more, further_at, ended_at, further_is, ended_is}
use Rattle.rr_vcd_text.proofs.Fronts.{lift}

pub enddefinitions_word : Word
enddefinitions_word = record { text = codes "$enddefinitions"; line = 0 }

one_word : Word
one_word = record { text = codes "1"; line = 0 }

one_is : number one_word.text ≡ Some 1
unfolding one_word decimal_from
one_is = refl

pub finish : List Word
finish = enddefinitions_word ∷ (end_word ∷ [])

pub finishes : (d : Declared) → IsRest d finish
unfolding finish enddefinitions_word
finishes d = (
  d,
  (
    [],
    record {
      head = [];
      ends = enddefinitions_word ∷ (end_word ∷ []);
      body = [];
      whole = refl;
      declares = dump.done d;
      enddefinitions = record { first = enddefinitions_word; others = end_word ∷ []; are = refl; enddefinitions = refl; closed = lone_end };
      tells = dump.done None;
    },
  ),
)

front_of : (d e : Declared) (cs more : List Word) → Declares d (cs ++ more) e → IsFront (IsRest d) cs
front_of d e cs more h =
    let r = finishes e in
    (more ++ finish, subst (IsRest d) (append_assoc cs more finish) (r.0, (r.1.0, rest_more d e (cs ++ more) finish r.0 r.1.0 h r.1.1)))

end_front : (d : Declared) (cs more : List Word) → EndsHead (cs ++ more) → IsFront (IsRest d) cs
end_front d cs more h = (
  more,
  (
    d,
    (
      [],
      record {
        head = [];
        ends = cs ++ more;
        body = [];
        whole = sym (append_nil (cs ++ more));
        declares = dump.done d;
        enddefinitions = h;
        tells = dump.done None;
      },
    ),
  ),
)
  where
    append_nil : (xs : List Word) → xs ++ [] ≡ xs
    append_nil [] = refl
    append_nil (x ∷ xs) = ap (λ y. x ∷ y) (append_nil xs)

front_nil : (d : Declared) → IsFront (IsRest d) []
front_nil d = (finish, finishes d)

whole_nil : (d : Declared) → AreWhole d []
whole_nil d = inl (d, dump.done d)

no_rest : (d : Declared) (ws : List Word) (line : ℕ) → declare d ws ≡ Broken line → IsRest d ws → ⊥
no_rest d ws line e (f, (told, x)) = elim (rest_opened d ws f told x) [
  | rest_goes_on g r p y ↦ cc
  | rest_ends r p q b ↦ cc
]

no_whole : (d : Declared) (ws : List Word) (line : ℕ) → declare d ws ≡ Unended line → AreWhole d ws → ⊥
no_whole d ws line e (inl (f, h)) = elim (head_opened d ws f h) [
  | empty none same ↦ let s : declare d ws ≡ Empty = ap (declare d) none in cc
  | further g r p y ↦ cc
]
no_whole d ws line e (inr (f, (told, x))) = elim (rest_opened d ws f told x) [
  | rest_goes_on g r p y ↦ cc
  | rest_ends r p q b ↦ cc
]

-- words that cannot go on behind a front
break_at : (d : Declared) (front : List Word) (x : Word) (xs : List Word) (line : ℕ) → IsFront (IsRest d) front → ((more : List Word) → declare d ((front ++ x ∷ []) ++ more) ≡ Broken x.line)
    → line ≡ x.line → IsBrokenAt (AreWhole d) (IsRest d) (front ++ x ∷ xs) line
break_at d front x xs line f bad e = breaks front x xs refl f (λ (more, r). no_rest d ((front ++ x ∷ []) ++ more) x.line (bad more) r) e

-- the line of a construct without its end
closed_line : (e : Declared) (line other : ℕ) (ws : List Word) → closed e line ws ≡ Unended other → ws ≡ []
closed_line e line other [] q = refl
closed_line e line other (w ∷ ws) q = go (is_end w) q
  where
    go : (b : Bool) → (if b then Further e ws else Broken w.line) ≡ Unended other → w ∷ ws ≡ []
    go true p = cc
    go false p = cc

closed_front : (e : Declared) (line : ℕ) (more left : List Word) → closed e line (more ++ left) ≡ Unended line → closed e line more ≡ Unended line
closed_front e line [] left q = refl
closed_front e line (w ∷ ws) left q = let none = closed_line e line line (w ∷ (ws ++ left)) q in cc

further_front : (d : Declared) (line : ℕ) (more left : List Word) (o : Option (List Word)) → past_end (more ++ left) ≡ o → further_or line d o ≡ Unended line → further_or line d (past_end more) ≡ Unended line
further_front d line more left None p q = ap (further_or line d) (none_in_front more left p)
further_front d line more left (Some r) p q = cc

ended_front : (line : ℕ) (more left : List Word) (o : Option (List Word)) → past_end (more ++ left) ≡ o → ended_or line o ≡ Unended line → ended_or line (past_end more) ≡ Unended line
ended_front line more left None p q = ap (ended_or line) (none_in_front more left p)
ended_front line more left (Some r) p q = cc

scope_front : (d : Declared) (line : ℕ) (more left : List Word) → scope_step d line (more ++ left) ≡ Unended line → scope_step d line more ≡ Unended line
scope_front d line [] left q = refl
scope_front d line (k ∷ []) left q = refl
scope_front d line (k ∷ (n ∷ ws)) left q = closed_front (with_scope d) line ws left q

upscope_front : (d : Declared) (line : ℕ) (more left : List Word) (b : Bool) → (if b then closed (without_scope d) line (more ++ left) else Broken line) ≡ Unended line
    → (if b then closed (without_scope d) line more else Broken line) ≡ Unended line
upscope_front d line more left true q = closed_front (without_scope d) line more left q
upscope_front d line more left false q = q

named_front : (d : Declared) (line n : ℕ) (more left : List Word) → named_step d line n (more ++ left) ≡ Unended line → named_step d line n more ≡ Unended line
named_front d line n [] left q = refl
named_front d line n (i ∷ []) left q = refl
named_front d line n (i ∷ (m ∷ ws)) left q = further_front (with_variable d i.text n m.text) line ws left (past_end (ws ++ left)) refl q

sized_front : (d : Declared) (line at : ℕ) (more left : List Word) (o : Option ℕ) → sized_step d line at (more ++ left) o ≡ Unended line → sized_step d line at more o ≡ Unended line
sized_front d line at more left None q = q
sized_front d line at more left (Some n) q = named_front d line n more left q

variable_front : (d : Declared) (line : ℕ) (more left : List Word) → variable_step d line (more ++ left) ≡ Unended line → variable_step d line more ≡ Unended line
variable_front d line [] left q = refl
variable_front d line (k ∷ []) left q = refl
variable_front d line (k ∷ (s ∷ ws)) left q = sized_front d line s.line ws left (number s.text) q

step_front : (d : Declared) (o : Opening) (line : ℕ) (more left : List Word) → opened_step d o line (more ++ left) ≡ Unended line → opened_step d o line more ≡ Unended line
step_front d word.Remark line more left q = further_front d line more left (past_end (more ++ left)) refl q
step_front d word.Scope line more left q = scope_front d line more left q
step_front d word.Upscope line more left q = upscope_front d line more left (nat_lt 0 (length d.opened)) q
step_front d word.Variable line more left q = variable_front d line more left q
step_front d word.End line more left q = ended_front line more left (past_end (more ++ left)) refl q
step_front d word.Other line more left q = q

-- a construct without its end can have one, and begins at its line
pub record CanEnd (d : Declared) (w : Word) (ws : List Word) (line : ℕ) : Type 0 where
  pub front : IsFront (IsRest d) (w ∷ ws)
  pub same : line ≡ w.line

remark_ends : (d : Declared) (w : Word) (ws : List Word) (line : ℕ) (o : Option (List Word)) → dump.is_remark w ≡ true → past_end ws ≡ o → further_or w.line d o ≡ Unended line → CanEnd d w ws line
remark_ends d w ws line None s p q = record { front = front_of d d (w ∷ ws) (end_word ∷ []) (dump.remark w (ws ++ end_word ∷ []) s (closes ws p)); same = cc }
remark_ends d w ws line (Some r) s p q = cc

end_ends : (d : Declared) (w : Word) (ws : List Word) (line : ℕ) (o : Option (List Word)) → is_word (codes "$enddefinitions") w ≡ true → past_end ws ≡ o → ended_or w.line o ≡ Unended line → CanEnd d w ws line
end_ends d w ws line None s p q = record {
  front = end_front d (w ∷ ws) (end_word ∷ []) (record { first = w; others = ws ++ end_word ∷ []; are = refl; enddefinitions = s; closed = closes ws p });
  same = cc;
}
end_ends d w ws line (Some r) s p q = cc

scope_ends : (d : Declared) (w : Word) (ws : List Word) (line : ℕ) → is_word (codes "$scope") w ≡ true → scope_step d w.line ws ≡ Unended line → CanEnd d w ws line
scope_ends d w [] line s q = record { front = front_of d (with_scope d) (w ∷ []) (w ∷ (w ∷ (end_word ∷ []))) (dump.scope w w w end_word s is_end_word); same = cc }
scope_ends d w (k ∷ []) line s q = record { front = front_of d (with_scope d) (w ∷ (k ∷ [])) (w ∷ (end_word ∷ [])) (dump.scope w k w end_word s is_end_word); same = cc }
scope_ends d w (k ∷ (n ∷ [])) line s q = record { front = front_of d (with_scope d) (w ∷ (k ∷ (n ∷ []))) (end_word ∷ []) (dump.scope w k n end_word s is_end_word); same = cc }
scope_ends d w (k ∷ (n ∷ (x ∷ xs))) line s q = let none = closed_line (with_scope d) w.line line (x ∷ xs) q in cc

upscope_ends : (d : Declared) (w : Word) (ws : List Word) (line : ℕ) (b : Bool) → is_word (codes "$upscope") w ≡ true → nat_lt 0 (length d.opened) ≡ b
    → (if b then closed (without_scope d) w.line ws else Broken w.line) ≡ Unended line → CanEnd d w ws line
upscope_ends d w ws line false s o q = cc
upscope_ends d w [] line true s o q = record { front = front_of d (without_scope d) (w ∷ []) (end_word ∷ []) (dump.upscope w end_word s o is_end_word); same = cc }
upscope_ends d w (x ∷ xs) line true s o q = let none = closed_line (without_scope d) w.line line (x ∷ xs) q in cc

named_ends : (d : Declared) (w k z : Word) (n : ℕ) (ws : List Word) (line : ℕ) → is_word (codes "$var") w ≡ true → number z.text ≡ Some n → named_step d w.line n ws ≡ Unended line
    → CanEnd d w (k ∷ (z ∷ ws)) line
named_ends d w k z n [] line s h q = record {
  front = front_of d (with_variable d w.text n w.text) (w ∷ (k ∷ (z ∷ []))) (w ∷ (w ∷ (end_word ∷ []))) (dump.variable w k z w w (end_word ∷ []) n s h lone_end);
  same = cc;
}
named_ends d w k z n (i ∷ []) line s h q = record {
  front = front_of d (with_variable d i.text n w.text) (w ∷ (k ∷ (z ∷ (i ∷ [])))) (w ∷ (end_word ∷ [])) (dump.variable w k z i w (end_word ∷ []) n s h lone_end);
  same = cc;
}
named_ends d w k z n (i ∷ (m ∷ ws)) line s h q = go (past_end ws) refl q
  where
    go : (o : Option (List Word)) → past_end ws ≡ o → further_or w.line (with_variable d i.text n m.text) o ≡ Unended line → CanEnd d w (k ∷ (z ∷ (i ∷ (m ∷ ws)))) line
    go (Some r) p e = cc
    go None p e = record {
      front = front_of d (with_variable d i.text n m.text) (w ∷ (k ∷ (z ∷ (i ∷ (m ∷ ws))))) (end_word ∷ []) (dump.variable w k z i m (ws ++ end_word ∷ []) n s h (closes ws p));
      same = cc;
    }

variable_ends : (d : Declared) (w : Word) (ws : List Word) (line : ℕ) → is_word (codes "$var") w ≡ true → variable_step d w.line ws ≡ Unended line → CanEnd d w ws line
variable_ends d w [] line s q = record {
  front = front_of d (with_variable d w.text 1 w.text) (w ∷ []) (w ∷ (one_word ∷ (w ∷ (w ∷ (end_word ∷ []))))) (dump.variable w w one_word w w (end_word ∷ []) 1 s one_is lone_end);
  same = cc;
}
variable_ends d w (k ∷ []) line s q = record {
  front = front_of d (with_variable d w.text 1 w.text) (w ∷ (k ∷ [])) (one_word ∷ (w ∷ (w ∷ (end_word ∷ [])))) (dump.variable w k one_word w w (end_word ∷ []) 1 s one_is lone_end);
  same = cc;
}
variable_ends d w (k ∷ (z ∷ ws)) line s q = go (number z.text) refl q
  where
    go : (o : Option ℕ) → number z.text ≡ o → sized_step d w.line z.line ws o ≡ Unended line → CanEnd d w (k ∷ (z ∷ ws)) line
    go None h e = cc
    go (Some n) h e = named_ends d w k z n ws line s h e

can_end : (d : Declared) (w : Word) (ws : List Word) (line : ℕ) (o : Opening) → Opens w o → opened_step d o w.line ws ≡ Unended line → CanEnd d w ws line
can_end d w ws line word.Remark m q = remark_ends d w ws line (past_end ws) m refl q
can_end d w ws line word.Scope m q = scope_ends d w ws line m q
can_end d w ws line word.Upscope m q = upscope_ends d w ws line (nat_lt 0 (length d.opened)) m refl q
can_end d w ws line word.Variable m q = variable_ends d w ws line m q
can_end d w ws line word.End m q = end_ends d w ws line (past_end ws) m refl q
can_end d w ws line word.Other m q = cc

pub head_unended : (d : Declared) (ws : List Word) (line : ℕ) → declare d ws ≡ Unended line → IsBrokenAt (AreWhole d) (IsRest d) ws line
head_unended d [] line q = cc
head_unended d (w ∷ ws) line q =
    let c = can_end d w ws line (opening w.text) (opens w) q in
    let here : declare d (w ∷ ws) ≡ Unended w.line = q ∙ ap Unended c.same in
    unended [] w ws refl (whole_nil d) c.front
    (λ more left e h. no_whole d (w ∷ more) w.line (step_front d (opening w.text) w.line more left (ap (opened_step d (opening w.text) w.line) (sym e) ∙ here)) h)
    c.same

-- breaks at a word
closed_broken : (d e : Declared) (cs : List Word) (at line : ℕ) (ws : List Word) → ((x : List Word) → declare d (cs ++ x) ≡ closed e at x) → Declares d (cs ++ end_word ∷ []) e → closed e at ws ≡ Broken line
    → IsBrokenAt (AreWhole d) (IsRest d) (cs ++ ws) line
closed_broken d e cs at line [] step h q = cc
closed_broken d e cs at line (x ∷ xs) step h q = go (is_end x) refl q
  where
    go : (b : Bool) → is_end x ≡ b → (if b then Further e xs else Broken x.line) ≡ Broken line → IsBrokenAt (AreWhole d) (IsRest d) (cs ++ x ∷ xs) line
    go true p r = cc
    go false p r =
        let same : line ≡ x.line = cc in
        break_at d cs x xs line (front_of d e cs (end_word ∷ []) h)
        (λ more. ap (declare d) (append_assoc cs (x ∷ []) more) ∙ (step (x ∷ more) ∙ ap (λ b. if b then Further e more else Broken x.line) p)) same

scope_broken : (d : Declared) (w : Word) (ws : List Word) (line : ℕ) → is_word (codes "$scope") w ≡ true → scope_step d w.line ws ≡ Broken line → IsBrokenAt (AreWhole d) (IsRest d) (w ∷ ws) line
scope_broken d w [] line s q = cc
scope_broken d w (k ∷ []) line s q = cc
scope_broken d w (k ∷ (n ∷ ws)) line s q =
    closed_broken d (with_scope d) (w ∷ (k ∷ (n ∷ []))) w.line line ws (λ x. ap (λ o. opened_step d o w.line (k ∷ (n ∷ x))) (opens_scope w s)) (dump.scope w k n end_word s is_end_word) q

upscope_broken : (d : Declared) (w : Word) (ws : List Word) (line : ℕ) (b : Bool) → is_word (codes "$upscope") w ≡ true → nat_lt 0 (length d.opened) ≡ b
    → (if b then closed (without_scope d) w.line ws else Broken w.line) ≡ Broken line → IsBrokenAt (AreWhole d) (IsRest d) (w ∷ ws) line
upscope_broken d w ws line true s o q =
    closed_broken d (without_scope d) (w ∷ []) w.line line ws
    (λ x. ap (λ y. opened_step d y w.line x) (opens_upscope w s) ∙ ap (λ b. if b then closed (without_scope d) w.line x else Broken w.line) o) (dump.upscope w end_word s o is_end_word) q
upscope_broken d w ws line false s o q =
    let same : line ≡ w.line = cc in
    break_at d [] w ws line (front_nil d)
    (λ more. ap (λ y. opened_step d y w.line more) (opens_upscope w s) ∙ ap (λ b. if b then closed (without_scope d) w.line more else Broken w.line) o) same

named_no_break : (d : Declared) (line n other : ℕ) (ws : List Word) → named_step d line n ws ≡ Broken other → ⊥
named_no_break d line n other [] q = cc
named_no_break d line n other (i ∷ []) q = cc
named_no_break d line n other (i ∷ (m ∷ ws)) q = go (past_end ws) q
  where
    go : (o : Option (List Word)) → further_or line (with_variable d i.text n m.text) o ≡ Broken other → ⊥
    go None e = cc
    go (Some r) e = cc

variable_broken : (d : Declared) (w : Word) (ws : List Word) (line : ℕ) → is_word (codes "$var") w ≡ true → variable_step d w.line ws ≡ Broken line → IsBrokenAt (AreWhole d) (IsRest d) (w ∷ ws) line
variable_broken d w [] line s q = cc
variable_broken d w (k ∷ []) line s q = cc
variable_broken d w (k ∷ (z ∷ ws)) line s q = go (number z.text) refl q
  where
    go : (o : Option ℕ) → number z.text ≡ o → sized_step d w.line z.line ws o ≡ Broken line → IsBrokenAt (AreWhole d) (IsRest d) (w ∷ (k ∷ (z ∷ ws))) line
    go (Some n) h e = absurd (named_no_break d w.line n line ws e)
    go None h e =
        let same : line ≡ z.line = cc in
        break_at d (w ∷ (k ∷ [])) z ws line
        (front_of d (with_variable d w.text 1 w.text) (w ∷ (k ∷ [])) (one_word ∷ (w ∷ (w ∷ (end_word ∷ [])))) (dump.variable w k one_word w w (end_word ∷ []) 1 s one_is lone_end))
        (λ more. ap (λ o. opened_step d o w.line (k ∷ (z ∷ more))) (opens_variable w s) ∙ ap (sized_step d w.line z.line more) h) same

further_no_break : (d : Declared) (line other : ℕ) (o : Option (List Word)) → further_or line d o ≡ Broken other → ⊥
further_no_break d line other None e = cc
further_no_break d line other (Some r) e = cc

ended_no_break : (line other : ℕ) (o : Option (List Word)) → ended_or line o ≡ Broken other → ⊥
ended_no_break line other None e = cc
ended_no_break line other (Some r) e = cc

opened_broken : (d : Declared) (w : Word) (ws : List Word) (line : ℕ) (o : Opening) → opening w.text ≡ o → Opens w o → opened_step d o w.line ws ≡ Broken line → IsBrokenAt (AreWhole d) (IsRest d) (w ∷ ws) line
opened_broken d w ws line word.Remark is m q = absurd (further_no_break d w.line line (past_end ws) q)
opened_broken d w ws line word.Scope is m q = scope_broken d w ws line m q
opened_broken d w ws line word.Upscope is m q = upscope_broken d w ws line (nat_lt 0 (length d.opened)) m refl q
opened_broken d w ws line word.Variable is m q = variable_broken d w ws line m q
opened_broken d w ws line word.End is m q = absurd (ended_no_break w.line line (past_end ws) q)
opened_broken d w ws line word.Other is m q =
    let same : line ≡ w.line = cc in
    break_at d [] w ws line (front_nil d) (λ more. ap (λ o. opened_step d o w.line more) is) same

-- a construct that is not whole breaks the head
pub head_broken : (d : Declared) (ws : List Word) (line : ℕ) → (declare d ws ≡ Broken line) ⊎ (declare d ws ≡ Unended line) → IsBrokenAt (AreWhole d) (IsRest d) ws line
head_broken d [] line (inl q) = cc
head_broken d (w ∷ ws) line (inl q) = opened_broken d w ws line (opening w.text) refl (opens w) q
head_broken d ws line (inr q) = head_unended d ws line q

-- the rest of a dump, and breaks of it, behind a construct
rest_behind : (d e : Declared) (ws r : List Word) → declare d ws ≡ Further e r → IsRest d ws → IsRest e r
rest_behind d e ws r q (f, (told, x)) = elim (rest_opened d ws f told x) [
  | rest_goes_on g s p y ↦
      let same : s ≡ r = cc in
      let into : g ≡ e = cc in
      (f, (told, subst (λ z. IsDumpFrom z r f told) into (subst (λ z. IsDumpFrom g z f told) same y)))
  | rest_ends s p u b ↦ cc
]

whole_behind : (d e : Declared) (ws r : List Word) → declare d ws ≡ Further e r → AreWhole d ws → AreWhole e r
whole_behind d e ws r q (inl (f, h)) = elim (head_opened d ws f h) [
  | empty none same ↦ let s : declare d ws ≡ Empty = ap (declare d) none in cc
  | further g s p y ↦
      let same : s ≡ r = cc in
      let into : g ≡ e = cc in
      inl (f, subst (λ z. Head z r f) into (subst (λ z. Head g z f) same y))
]
whole_behind d e ws r q (inr x) = inr (rest_behind d e ws r q x)

pub head_break_more : (d e : Declared) (ws r : List Word) (line : ℕ) → declare d ws ≡ Further e r → IsBrokenAt (AreWhole e) (IsRest e) r line → IsBrokenAt (AreWhole d) (IsRest d) ws line
head_break_more d e ws r line q b =
    let f = further_is d ws e r q in
    let rest_in : (x : List Word) → IsRest e x → IsRest d (f.gone ++ x) = λ x (g, (told, y)). (g, (told, rest_more d e f.gone x g told f.declares y)) in
    let rest_out : (x : List Word) → IsRest d (f.gone ++ x) → IsRest e x = λ x y. rest_behind d e (f.gone ++ x) x (further_at d e f.gone f.declares x) y in
    let whole_in : (x : List Word) → AreWhole e x → AreWhole d (f.gone ++ x) = λ x y. elim y [
      | inl h ↦ inl (h.0, dump.further d e h.0 f.gone x f.declares h.1)
      | inr h ↦ inr (rest_in x h)
    ] in
    let whole_out : (x : List Word) → AreWhole d (f.gone ++ x) → AreWhole e x = λ x y. whole_behind d e (f.gone ++ x) x (further_at d e f.gone f.declares x) y in
    subst (λ x. IsBrokenAt (AreWhole d) (IsRest d) x line) (sym f.are) (lift f.gone whole_in whole_out rest_in rest_out r line b)

-- and behind the head
body_in : (d : Declared) (gone x : List Word) → EndsHead gone → IsBody d None x → IsRest d (gone ++ x)
body_in d gone x h (told, b) = (d, (told, record { head = []; ends = gone; body = x; whole = refl; declares = dump.done d; enddefinitions = h; tells = b }))

body_out : (d : Declared) (ws x : List Word) → declare d ws ≡ Ended x → IsRest d ws → IsBody d None x
body_out d ws x q (f, (told, y)) = elim (rest_opened d ws f told y) [
  | rest_goes_on g s p z ↦ cc
  | rest_ends s p u b ↦
      let same : s ≡ x = cc in
      (told, subst (λ z. Body z None x told) (sym u) (subst (λ z. Body f None z told) same b))
]

whole_body : (d : Declared) (ws x : List Word) → declare d ws ≡ Ended x → AreWhole d ws → IsBody d None x
whole_body d ws x q (inl (f, h)) = elim (head_opened d ws f h) [
  | empty none same ↦ let s : declare d ws ≡ Empty = ap (declare d) none in cc
  | further g s p y ↦ cc
]
whole_body d ws x q (inr y) = body_out d ws x q y

pub end_break_more : (d : Declared) (ws r : List Word) (line : ℕ) → declare d ws ≡ Ended r → IsBrokenAt (IsBody d None) (IsBody d None) r line → IsBrokenAt (AreWhole d) (IsRest d) ws line
end_break_more d ws r line q b =
    let f = ended_is d ws r q in
    subst (λ x. IsBrokenAt (AreWhole d) (IsRest d) x line) (sym f.are)
    (lift f.gone (λ x y. inr (body_in d f.gone x f.ends y)) (λ x y. whole_body d (f.gone ++ x) x (ended_at d f.gone f.ends x) y)
    (λ x y. body_in d f.gone x f.ends y) (λ x y. body_out d (f.gone ++ x) x (ended_at d f.gone f.ends x) y) r line b)

pub dump_more : (d e : Declared) (ws r : List Word) (f : Declared) (told : List Told) → declare d ws ≡ Further e r → IsDumpFrom e r f told → IsDumpFrom d ws f told
dump_more d e ws r f told q x = let g = further_is d ws e r q in subst (λ z. IsDumpFrom d z f told) (sym g.are) (rest_more d e g.gone r f told g.declares x)

pub dump_ended : (d : Declared) (ws r : List Word) (told : List Told) → declare d ws ≡ Ended r → Body d None r told → IsDumpFrom d ws d told
dump_ended d ws r told q b =
    let g = ended_is d ws r q in
    record { head = []; ends = g.gone; body = r; whole = g.are; declares = dump.done d; enddefinitions = g.ends; tells = b }
