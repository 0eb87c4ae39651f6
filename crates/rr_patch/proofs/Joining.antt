-- How far the loop over edits has come.
use Rattle.std.proofs.Common.{◌≡◌, ℕ, ◌+◌, ◌-◌, ◌<◌, ◌≤◌, List, [], ◌∷◌, ◌++◌, take, drop, map, length, get_or, sym, ◌∙◌, ap, ap₂, subst, arith}
use Rattle.std.proofs.lemmas.List.{append_assoc, drop-drop, drop-map, drop_all, take_all, drop_more, length-drop, length-map}
use Rattle.rr_edit.specs.declared.edit.Edit.{Edit as Made}
use Rattle.rr_edit.specs.Edits.{Edit, edited, InOrder}
use Rattle.rr_edit.specs.View.{plain_edit, plain_edits}

pub record Joining (bytes : List ℕ) (es : List Edit) (i at : ℕ) (out : List ℕ) : Type 0 where
  pub space : at ≤ length bytes
  pub order : InOrder at (length bytes) (drop i es)
  pub done : out ++ edited at (drop at bytes) (drop i es) ≡ edited 0 bytes es

pub joining_start : (bytes : List ℕ) (es : List Edit) (out : List ℕ) → InOrder 0 (length bytes) es → out ≡ [] → Joining bytes es 0 0 out
joining_start bytes es out h e = record { space = omega arith; order = h; done = ap (λ (o : List ℕ). o ++ edited 0 bytes es) e }

order_within : (at end : ℕ) (es : List Edit) → InOrder at end es → at ≤ end
unfolding InOrder
order_within at end [] h = h
order_within at end (e ∷ es) h = let r = order_within e.to end es h.1.1 in omega (arith, h.0, h.1.0, r)

-- the place of the next edit
pub record Next (bytes : List ℕ) (at : ℕ) (e : Edit) : Type 0 where
  pub before : at ≤ e.from
  pub order : e.from ≤ e.to
  pub within : e.to ≤ length bytes

next_of : (bytes : List ℕ) (at : ℕ) (e : Edit) (es : List Edit) → InOrder at (length bytes) (e ∷ es) → Next bytes at e × InOrder e.to (length bytes) es
unfolding InOrder
next_of bytes at e es h = (record { before = h.0; order = h.1.0; within = order_within e.to (length bytes) es h.1.1 }, h.1.1)

module _ (bytes : List ℕ) (edits : List Made) (i at : ℕ) (out : List ℕ) (w : Joining bytes (plain_edits edits) i at out) (one : Made) (is : one ≡ get_or edits i one) (l : i < length edits) where
  here : drop i (plain_edits edits) ≡ plain_edit one ∷ drop (i + 1) (plain_edits edits)
  here =
      drop-map plain_edit i edits ∙ ap (map plain_edit) (drop_more edits i one l)
      ∙ ap₂ (λ (e : Made) (es : List Edit). plain_edit e ∷ es) (sym is) (sym (drop-map plain_edit (i + 1) edits))

  both : Next bytes at (plain_edit one) × InOrder one.to (length bytes) (drop (i + 1) (plain_edits edits))
  both = next_of bytes at (plain_edit one) (drop (i + 1) (plain_edits edits)) (subst (InOrder at (length bytes)) here w.order)

  pub next : Next bytes at (plain_edit one)
  next = both.0

  pub next_starts : one.from ≤ length bytes
  next_starts = let n = next in let p = n.order in let q = n.within in omega (arith, p, q)

  pub joining_next : (more : List ℕ) → more ≡ out ++ (take (one.from - at) (drop at bytes) ++ one.text.items) → Joining bytes (plain_edits edits) (i + 1) one.to more
  unfolding edited
  joining_next more e =
      let n = next in
      let stop : at + (one.to - at) ≡ one.to = (let p = n.before in let q = n.order in omega (arith, p, q)) in
      let left : drop (one.to - at) (drop at bytes) ≡ drop one.to bytes = drop-drop (one.to - at) at bytes ∙ ap (λ (k : ℕ). drop k bytes) stop in
      let before : List ℕ = take (one.from - at) (drop at bytes) in
      let rest : List Edit = drop (i + 1) (plain_edits edits) in
      record {
        space = n.within;
        order = both.1;
        done =
            ap (λ (o : List ℕ). o ++ edited one.to (drop one.to bytes) rest) e
            ∙ append_assoc out (before ++ one.text.items) (edited one.to (drop one.to bytes) rest)
            ∙ ap (λ (o : List ℕ). out ++ o)
            (append_assoc before one.text.items (edited one.to (drop one.to bytes) rest) ∙ ap (λ (x : List ℕ). before ++ (one.text.items ++ edited one.to x rest)) (sym left))
            ∙ ap (λ (es : List Edit). out ++ edited at (drop at bytes) es) (sym here)
            ∙ w.done;
      }

pub joining_end : (bytes : List ℕ) (edits : List Made) (i at : ℕ) (out more : List ℕ) → Joining bytes (plain_edits edits) i at out → length edits ≤ i →
    more ≡ out ++ take (length bytes - at) (drop at bytes) → more ≡ edited 0 bytes (plain_edits edits)
unfolding edited
joining_end bytes edits i at out more w l e =
    let m : length (plain_edits edits) ≤ i = (let k = length-map edits plain_edit in omega (arith, k, l)) in
    let all : take (length bytes - at) (drop at bytes) ≡ drop at bytes = take_all (length bytes - at) (drop at bytes) (let k = length-drop at bytes in omega (arith, k)) in
    e ∙ ap (λ (r : List ℕ). out ++ r) all ∙ ap (λ (es : List Edit). out ++ edited at (drop at bytes) es) (sym (drop_all i (plain_edits edits) m)) ∙ w.done
