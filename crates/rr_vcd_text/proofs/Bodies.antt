-- Constructs of a body: each is told by its first words, whatever stands behind them.
use Rattle.std.proofs.Common.{◌≡◌, ◌⊎◌, inl, inr, ℕ, ◌<◌, Bool, true, false, ◌&&◌, ◌||◌, ◌==◌, List, [], ◌∷◌, ◌++◌, length, Option, Some, None, codes, refl, sym, ◌∙◌, ap, subst, append_assoc, append-nil, if◌then◌else◌, cond}
use Rattle.rr_vcd_text.specs.Words.{Word, is_word, is_end}
use Rattle.rr_vcd_text.specs.Dump as dump
use Rattle.rr_vcd_text.specs.Dump.{Declared, Told, Nothing, Moment, Change, Off, Tells, Body, UpToEnd, time_after, is_section}
use Rattle.rr_vcd_text.specs.Rooms.{is_within, room_of, some_room}
use Rattle.rr_vcd_text.specs.Breaks.{IsFront, IsBrokenAt, breaks, unended, IsBody}
use Rattle.rr_vcd_text.specs.Steps.{Step, Empty, Found, Broken, Unended, Begin, Whole, Remark, Vector, Other, Bad, begin, begun_step, named, found_or, past_end, tell}
use Rattle.rr_vcd_text.proofs.Rooming.{within_room, room_within, none_fit, some_one}
use Rattle.rr_vcd_text.proofs.Endings.{end_word, ends_at, past_is, closes, none_in_front}
use Rattle.rr_vcd_text.proofs.Telling.{Means, means, IsVector, IsOther, begins_section, begins_off, begins_remark, begins_moment, begins_scalar, begins_vector, begins_other}
use Rattle.rr_vcd_text.proofs.Fronts.{lift}

module _ (d : Declared) where
  -- a construct is found at its first words
  pub found : (last : Option ℕ) (cs : List Word) (t : Told) → Tells d last cs t → (r : List Word) → tell d.variables last (cs ++ r) ≡ Found t r
  found last cs t (dump.section w s) r = ap (λ b. begun_step d.variables b w.line r) (begins_section d last w s)
  found last cs t (dump.off w s) r = ap (λ b. begun_step d.variables b w.line r) (begins_off d last w s)
  found last cs t (dump.remark w ws s u) r =
      ap (λ b. begun_step d.variables b w.line (ws ++ r)) (begins_remark d last w s) ∙ ap (found_or w.line) (past_is ws r u)
  found last cs t (dump.moment w digits n e v l) r = ap (λ b. begun_step d.variables b w.line r) (begins_moment d last w digits n e v l)
  found last cs t (dump.scalar w b id e v p q) r = ap (λ x. begun_step d.variables x w.line r) (begins_scalar d last w b id e v p q)
  found last cs t (dump.vector w id b c digits e l v p q) r =
      ap (λ x. begun_step d.variables x w.line (id ∷ r)) (begins_vector d last w b c digits id.text e l v p q)
      ∙ ap (λ x. if x then Found (Change id.text (c ∷ digits)) r else Broken id.line) (room_within d.variables id.text (length (c ∷ digits)) p q)
  found last cs t (dump.other w id b rest e l p) r =
      ap (λ x. begun_step d.variables x w.line (id ∷ r)) (begins_other d last w b rest id.text e l p)
      ∙ ap (λ x. if x then Found Nothing r else Broken id.line) (room_within d.variables id.text 0 p (none_fit d.variables id.text))

  -- a body is empty or goes on behind the construct that is found
  pub data Opened (last : Option ℕ) (ws : List Word) (told : List Told) : Type 0 where
    empty : ws ≡ [] → told ≡ [] → Opened last ws told
    one_more : (t : Told) (r : List Word) (ts : List Told) → tell d.variables last ws ≡ Found t r → told ≡ t ∷ ts → Body d (time_after last t) r ts → Opened last ws told

  pub opened : (last : Option ℕ) (ws : List Word) (told : List Told) → Body d last ws told → Opened last ws told
  opened last ws told (dump.done _) = empty refl refl
  opened last ws told (dump.further _ cs rest t ts tells body) = one_more t rest ts (found last cs t tells rest) refl body

  -- what is found
  pub record FoundIs (last : Option ℕ) (ws : List Word) (t : Told) (r : List Word) : Type 0 where
    pub gone : List Word
    pub are : ws ≡ gone ++ r
    pub tells : Tells d last gone t

  remark_found : (last : Option ℕ) (w : Word) (ws : List Word) (t : Told) (r : List Word) → is_word (codes "$comment") w ≡ true → (o : Option (List Word)) → past_end ws ≡ o
      → found_or w.line o ≡ Found t r → FoundIs last (w ∷ ws) t r
  remark_found last w ws t r s None p e = cc
  remark_found last w ws t r s (Some rest) p e =
      let same : rest ≡ r = cc in
      let tells : Nothing ≡ t = cc in
      let u = ends_at ws rest p in
      record { gone = w ∷ u.gone; are = ap (λ x. w ∷ x) (u.are ∙ ap (λ x. u.gone ++ x) same); tells = subst (Tells d last (w ∷ u.gone)) tells (dump.remark w u.gone s u.ends) }

  vector_found : (last : Option ℕ) (w : Word) (ws : List Word) (t : Told) (r : List Word) (digits : List ℕ) → IsVector d w.text digits
      → named d.variables w.line (length digits) (λ id. Change id digits) ws ≡ Found t r → FoundIs last (w ∷ ws) t r
  vector_found last w [] t r digits v e = cc
  vector_found last w (i ∷ ws) t r digits v e = go (is_within (room_of d.variables i.text) (length digits)) refl e
    where
      go : (b : Bool) → is_within (room_of d.variables i.text) (length digits) ≡ b → (if b then Found (Change i.text digits) ws else Broken i.line) ≡ Found t r → FoundIs last (w ∷ (i ∷ ws)) t r
      go false h q = cc
      go true h q =
          let same : ws ≡ r = cc in
          let tells : Change i.text digits ≡ t = cc in
          let room = within_room d.variables i.text (length (v.second ∷ v.others)) (ap (λ x. is_within (room_of d.variables i.text) (length x)) (sym v.are) ∙ h) in
          record {
            gone = w ∷ (i ∷ []);
            are = ap (λ x. w ∷ (i ∷ x)) same;
            tells = subst (Tells d last (w ∷ (i ∷ []))) (ap (Change i.text) (sym v.are) ∙ tells)
                (dump.vector w i v.first v.second v.others v.text_is v.letter v.values room.declared room.room);
          }

  other_found : (last : Option ℕ) (w : Word) (ws : List Word) (t : Told) (r : List Word) → IsOther d w.text
      → named d.variables w.line 0 (λ id. Nothing) ws ≡ Found t r → FoundIs last (w ∷ ws) t r
  other_found last w [] t r v e = cc
  other_found last w (i ∷ ws) t r v e = go (is_within (room_of d.variables i.text) 0) refl e
    where
      go : (b : Bool) → is_within (room_of d.variables i.text) 0 ≡ b → (if b then Found Nothing ws else Broken i.line) ≡ Found t r → FoundIs last (w ∷ (i ∷ ws)) t r
      go false h q = cc
      go true h q =
          let same : ws ≡ r = cc in
          let tells : Nothing ≡ t = cc in
          let room = within_room d.variables i.text 0 h in
          record {
            gone = w ∷ (i ∷ []);
            are = ap (λ x. w ∷ (i ∷ x)) same;
            tells = subst (Tells d last (w ∷ (i ∷ []))) tells (dump.other w i v.first v.others v.text_is v.letter room.declared);
          }

  begun_found : (last : Option ℕ) (w : Word) (ws : List Word) (t : Told) (r : List Word) (b : Begin) → Means d last w b → begun_step d.variables b w.line ws ≡ Found t r → FoundIs last (w ∷ ws) t r
  begun_found last w ws t r (Whole told) m e =
      let same : ws ≡ r = cc in
      let tells : told ≡ t = cc in
      record { gone = w ∷ []; are = ap (λ x. w ∷ x) same; tells = subst (Tells d last (w ∷ [])) tells m }
  begun_found last w ws t r Remark m e = remark_found last w ws t r m (past_end ws) refl e
  begun_found last w ws t r (Vector digits) m e = vector_found last w ws t r digits m e
  begun_found last w ws t r Other m e = other_found last w ws t r m e
  begun_found last w ws t r Bad m e = cc

  pub found_is : (last : Option ℕ) (ws : List Word) (t : Told) (r : List Word) → tell d.variables last ws ≡ Found t r → FoundIs last ws t r
  found_is last [] t r e = cc
  found_is last (w ∷ ws) t r e = begun_found last w ws t r (begin d.variables last w.text) (means d last w) e

  -- a construct more in front
  pub body_more : (last : Option ℕ) (ws : List Word) (t : Told) (r : List Word) (ts : List Told) → tell d.variables last ws ≡ Found t r → Body d (time_after last t) r ts → Body d last ws (t ∷ ts)
  body_more last ws t r ts e body =
      let f = found_is last ws t r e in
      subst (λ x. Body d last x (t ∷ ts)) (sym f.are) (dump.further last f.gone r t ts f.tells body)

  behind : (last : Option ℕ) (ws : List Word) (t : Told) (r : List Word) → tell d.variables last ws ≡ Found t r → IsBody d last ws → IsBody d (time_after last t) r
  behind last ws t r e (told, body) = elim (opened last ws told body) [
    | empty none told_none ↦ let no_step : tell d.variables last ws ≡ Empty = ap (tell d.variables last) none in cc
    | one_more u s ts f is rest ↦
        let same : s ≡ r = cc in
        let tells : u ≡ t = cc in
        (ts, subst (λ x. Body d (time_after last x) r ts) tells (subst (λ x. Body d (time_after last u) x ts) same rest))
  ]

  pub break_more : (last : Option ℕ) (ws : List Word) (t : Told) (r : List Word) (line : ℕ) → tell d.variables last ws ≡ Found t r
      → IsBrokenAt (IsBody d (time_after last t)) (IsBody d (time_after last t)) r line → IsBrokenAt (IsBody d last) (IsBody d last) ws line
  break_more last ws t r line e b =
      let f = found_is last ws t r e in
      let into : (x : List Word) → IsBody d (time_after last t) x → IsBody d last (f.gone ++ x) = λ x (ts, body). (t ∷ ts, dump.further last f.gone x t ts f.tells body) in
      let out : (x : List Word) → IsBody d last (f.gone ++ x) → IsBody d (time_after last t) x = λ x h. behind last (f.gone ++ x) t x (found last f.gone t f.tells x) h in
      subst (λ x. IsBrokenAt (IsBody d last) (IsBody d last) x line) (sym f.are) (lift f.gone into out into out r line b)

  -- where no construct stands there is no body
  no_body : (last : Option ℕ) (ws : List Word) (s : Step) → tell d.variables last ws ≡ s → (s ≡ Empty → ⊥) → ((t : Told) (r : List Word) → s ≡ Found t r → ⊥) → IsBody d last ws → ⊥
  no_body last ws s e some bad (told, body) = elim (opened last ws told body) [
    | empty none told_none ↦ some (sym e ∙ ap (tell d.variables last) none)
    | one_more t r ts f is rest ↦ bad t r (sym e ∙ f)
  ]

  pub no_broken : (last : Option ℕ) (ws : List Word) (line : ℕ) → tell d.variables last ws ≡ Broken line → IsBody d last ws → ⊥
  no_broken last ws line e h = no_body last ws (Broken line) e (λ q. cc) (λ t r q. cc) h

  pub no_unended : (last : Option ℕ) (ws : List Word) (line : ℕ) → tell d.variables last ws ≡ Unended line → IsBody d last ws → ⊥
  no_unended last ws line e h = no_body last ws (Unended line) e (λ q. cc) (λ t r q. cc) h

  one_construct : (last : Option ℕ) (cs : List Word) (t : Told) → Tells d last cs t → IsBody d last cs
  one_construct last cs t tells = (t ∷ [], subst (λ x. Body d last x (t ∷ [])) (append-nil cs) (dump.further last cs [] t [] tells (dump.done (time_after last t))))

  -- a change can have an identifier
  vector_front : (last : Option ℕ) (w : Word) (digits : List ℕ) → IsVector d w.text digits → IsFront (IsBody d last) (w ∷ [])
  vector_front last w digits v =
      let s = some_one d.variables (length (v.second ∷ v.others)) v.some in
      let i : Word = record { text = s.id; line = 0 } in
      (i ∷ [], one_construct last (w ∷ (i ∷ [])) _ (dump.vector w i v.first v.second v.others v.text_is v.letter v.values s.has.declared s.has.room))

  other_front : (last : Option ℕ) (w : Word) → IsOther d w.text → IsFront (IsBody d last) (w ∷ [])
  other_front last w v =
      let s = some_one d.variables 0 v.some in
      let i : Word = record { text = s.id; line = 0 } in
      (i ∷ [], one_construct last (w ∷ (i ∷ [])) _ (dump.other w i v.first v.others v.text_is v.letter s.has.declared))

  -- breaks at an identifier
  named_broken : (last : Option ℕ) (w : Word) (ws : List Word) (digits line : ℕ) (told : List ℕ → Told) → IsFront (IsBody d last) (w ∷ [])
      → ((x : List Word) → tell d.variables last (w ∷ x) ≡ named d.variables w.line digits told x) → named d.variables w.line digits told ws ≡ Broken line
      → IsBrokenAt (IsBody d last) (IsBody d last) (w ∷ ws) line
  named_broken last w [] digits line told front step e = cc
  named_broken last w (i ∷ ws) digits line told front step e = go (is_within (room_of d.variables i.text) digits) refl e
    where
      go : (b : Bool) → is_within (room_of d.variables i.text) digits ≡ b → (if b then Found (told i.text) ws else Broken i.line) ≡ Broken line → IsBrokenAt (IsBody d last) (IsBody d last) (w ∷ (i ∷ ws)) line
      go true h q = cc
      go false h q =
          let same : line ≡ i.line = cc in
          breaks (w ∷ []) i ws refl front
          (λ (more, body). no_broken last (w ∷ (i ∷ more)) i.line (step (i ∷ more) ∙ ap (λ x. if x then Found (told i.text) more else Broken i.line) h) body) same

  named_unended : (last : Option ℕ) (w : Word) (ws : List Word) (digits line : ℕ) (told : List ℕ → Told) → IsFront (IsBody d last) (w ∷ [])
      → ((x : List Word) → tell d.variables last (w ∷ x) ≡ named d.variables w.line digits told x) → named d.variables w.line digits told ws ≡ Unended line
      → IsBrokenAt (IsBody d last) (IsBody d last) (w ∷ ws) line
  named_unended last w [] digits line told front step e =
      let same : line ≡ w.line = cc in
      unended [] w [] refl ([], dump.done last) front (λ more left q body. alone more left q body) same
    where
      alone : (more left : List Word) → [] ≡ more ++ left → IsBody d last (w ∷ more) → ⊥
      alone [] left q body = no_unended last (w ∷ []) w.line (step []) body
      alone (x ∷ xs) left q body = cc
  named_unended last w (i ∷ ws) digits line told front step e = go (is_within (room_of d.variables i.text) digits) e
    where
      go : (b : Bool) → (if b then Found (told i.text) ws else Broken i.line) ≡ Unended line → IsBrokenAt (IsBody d last) (IsBody d last) (w ∷ (i ∷ ws)) line
      go true q = cc
      go false q = cc

  remark_unended : (last : Option ℕ) (w : Word) (ws : List Word) (line : ℕ) → is_word (codes "$comment") w ≡ true → (o : Option (List Word)) → past_end ws ≡ o → found_or w.line o ≡ Unended line
      → IsBrokenAt (IsBody d last) (IsBody d last) (w ∷ ws) line
  remark_unended last w ws line s (Some rest) p e = cc
  remark_unended last w ws line s None p e =
      let same : line ≡ w.line = cc in
      unended [] w ws refl ([], dump.done last) (end_word ∷ [], one_construct last (w ∷ (ws ++ end_word ∷ [])) Nothing (dump.remark w (ws ++ end_word ∷ []) s (closes ws p)))
      (λ more left q body.
      let none : past_end more ≡ None = none_in_front more left (ap past_end (sym q) ∙ p) in
      no_unended last (w ∷ more) w.line (ap (λ b. begun_step d.variables b w.line more) (begins_remark d last w s) ∙ ap (found_or w.line) none) body)
      same

  remark_broken : (w : Word) (line : ℕ) (o : Option (List Word)) → found_or w.line o ≡ Broken line → ⊥
  remark_broken w line None e = cc
  remark_broken w line (Some rest) e = cc

  begun_broken : (last : Option ℕ) (w : Word) (ws : List Word) (line : ℕ) (b : Begin) → begin d.variables last w.text ≡ b → Means d last w b → begun_step d.variables b w.line ws ≡ Broken line
      → IsBrokenAt (IsBody d last) (IsBody d last) (w ∷ ws) line
  begun_broken last w ws line (Whole t) is m e = cc
  begun_broken last w ws line Remark is m e = absurd (remark_broken w line (past_end ws) e)
  begun_broken last w ws line (Vector digits) is m e =
      named_broken last w ws (length digits) line (λ id. Change id digits) (vector_front last w digits m) (λ x. ap (λ b. begun_step d.variables b w.line x) is) e
  begun_broken last w ws line Other is m e =
      named_broken last w ws 0 line (λ id. Nothing) (other_front last w m) (λ x. ap (λ b. begun_step d.variables b w.line x) is) e
  begun_broken last w ws line Bad is m e =
      let same : line ≡ w.line = cc in
      breaks [] w ws refl ([], ([], dump.done last)) (λ (more, body). no_broken last (w ∷ more) w.line (ap (λ b. begun_step d.variables b w.line more) is) body) same

  begun_unended : (last : Option ℕ) (w : Word) (ws : List Word) (line : ℕ) (b : Begin) → begin d.variables last w.text ≡ b → Means d last w b → begun_step d.variables b w.line ws ≡ Unended line
      → IsBrokenAt (IsBody d last) (IsBody d last) (w ∷ ws) line
  begun_unended last w ws line (Whole t) is m e = cc
  begun_unended last w ws line Remark is m e = remark_unended last w ws line m (past_end ws) refl e
  begun_unended last w ws line (Vector digits) is m e =
      named_unended last w ws (length digits) line (λ id. Change id digits) (vector_front last w digits m) (λ x. ap (λ b. begun_step d.variables b w.line x) is) e
  begun_unended last w ws line Other is m e =
      named_unended last w ws 0 line (λ id. Nothing) (other_front last w m) (λ x. ap (λ b. begun_step d.variables b w.line x) is) e
  begun_unended last w ws line Bad is m e = cc

  -- a construct that is not whole breaks the body
  pub broken : (last : Option ℕ) (ws : List Word) (line : ℕ) → (tell d.variables last ws ≡ Broken line) ⊎ (tell d.variables last ws ≡ Unended line)
      → IsBrokenAt (IsBody d last) (IsBody d last) ws line
  broken last [] line (inl e) = cc
  broken last [] line (inr e) = cc
  broken last (w ∷ ws) line (inl e) = begun_broken last w ws line (begin d.variables last w.text) refl (means d last w) e
  broken last (w ∷ ws) line (inr e) = begun_unended last w ws line (begin d.variables last w.text) refl (means d last w) e

  -- no words have two bodies
  pub one_body : (last : Option ℕ) (ws : List Word) (told again : List Told) → Body d last ws told → Body d last ws again → told ≡ again
  one_body last ws told again (dump.done _) b = elim (opened last [] again b) [
    | empty none told_none ↦ sym told_none
    | one_more t r ts f is rest ↦ cc
  ]
  one_body last ws told again (dump.further _ cs rest t ts tells body) b = elim (opened last (cs ++ rest) again b) [
    | empty none told_none ↦ let f = found last cs t tells rest in let g : tell d.variables last (cs ++ rest) ≡ Empty = ap (tell d.variables last) none in cc
    | one_more u s us f is more ↦
        let g = found last cs t tells rest in
        let same : s ≡ rest = cc in
        let heads : u ≡ t = cc in
        let other : Body d (time_after last t) rest us = subst (λ x. Body d (time_after last x) rest us) heads (subst (λ x. Body d (time_after last u) x us) same more) in
        let tails : ts ≡ us = one_body (time_after last t) rest ts us body other in
        cc
  ]
