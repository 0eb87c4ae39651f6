-- The first `$end`.
use Rattle.std.proofs.Common.{◌≡◌, ℕ, Bool, true, false, ◌||◌, List, [], ◌∷◌, ◌++◌, Option, Some, None, codes, refl, sym, ◌∙◌, ap, subst, if◌then◌else◌, cond}
use Rattle.std.specs.List.{list_any}
use Rattle.rr_vcd_text.specs.Words.{Word, is_end}
use Rattle.rr_vcd_text.specs.Dump.{UpToEnd}
use Rattle.rr_vcd_text.specs.Steps.{past_end}

pub end_word : Word
end_word = record { text = codes "$end"; line = 0 }

-- words up to `$end`, and those behind
pub record Ends (ws rest : List Word) : Type 0 where
  pub gone : List Word
  pub are : ws ≡ gone ++ rest
  pub ends : UpToEnd gone

pub ends_at : (ws rest : List Word) → past_end ws ≡ Some rest → Ends ws rest
unfolding past_end
ends_at [] rest e = cc
ends_at (w ∷ ws) rest e = go (is_end w) refl e (ends_at ws rest)
  where
    go : (b : Bool) → is_end w ≡ b → (if b then Some ws else past_end ws) ≡ Some rest → (past_end ws ≡ Some rest → Ends ws rest) → Ends (w ∷ ws) rest
    go true h q rec = let same : ws ≡ rest = cc in record { gone = w ∷ []; are = ap (λ x. w ∷ x) same; ends = record { inner = []; last = w; are = refl; none = refl; end = h } }
    go false h q rec =
        let more = rec q in
        record {
          gone = w ∷ more.gone;
          are = ap (λ x. w ∷ x) more.are;
          ends = record {
            inner = w ∷ more.ends.inner;
            last = more.ends.last;
            are = ap (λ x. w ∷ x) more.ends.are;
            none = rw h more.ends.none;
            end = more.ends.end;
          };
        }

past_inner : (inner rest : List Word) (last : Word) → list_any is_end inner ≡ false → is_end last ≡ true → past_end ((inner ++ last ∷ []) ++ rest) ≡ Some rest
unfolding past_end
past_inner [] rest last none end = rw end refl
past_inner (w ∷ ws) rest last none end = go (is_end w) refl none (λ e. past_inner ws rest last e end)
  where
    go : (b : Bool) → is_end w ≡ b → (b || list_any is_end ws) ≡ false → (list_any is_end ws ≡ false → past_end ((ws ++ last ∷ []) ++ rest) ≡ Some rest) → (if is_end w then Some ((ws ++ last ∷ []) ++ rest) else past_end ((ws ++ last ∷ []) ++ rest)) ≡ Some rest
    go true h q rec = cc
    go false h q rec = rw h (rec q)

pub past_is : (ws rest : List Word) → UpToEnd ws → past_end (ws ++ rest) ≡ Some rest
past_is ws rest u = ap (λ x. past_end (x ++ rest)) u.are ∙ past_inner u.inner rest u.last u.none u.end

-- words without `$end`
pub no_end : (ws : List Word) → past_end ws ≡ None → list_any is_end ws ≡ false
unfolding past_end
no_end [] e = refl
no_end (w ∷ ws) e = go (is_end w) refl e (no_end ws)
  where
    go : (b : Bool) → is_end w ≡ b → (if b then Some ws else past_end ws) ≡ None → (past_end ws ≡ None → list_any is_end ws ≡ false) → (b || list_any is_end ws) ≡ false
    go true h q rec = cc
    go false h q rec = rec q

pub closes : (ws : List Word) → past_end ws ≡ None → UpToEnd (ws ++ end_word ∷ [])
unfolding end_word
closes ws e = record { inner = ws; last = end_word; are = refl; none = no_end ws e; end = refl }

-- no `$end` stands in a front of them
pub none_in_front : (more rest : List Word) → past_end (more ++ rest) ≡ None → past_end more ≡ None
unfolding past_end
none_in_front [] rest e = refl
none_in_front (w ∷ ws) rest e = go (is_end w) refl e (none_in_front ws rest)
  where
    go : (b : Bool) → is_end w ≡ b → (if b then Some (ws ++ rest) else past_end (ws ++ rest)) ≡ None → (past_end (ws ++ rest) ≡ None → past_end ws ≡ None) → (if b then Some ws else past_end ws) ≡ None
    go true h q rec = cc
    go false h q rec = rec q

pub lone_end : UpToEnd (end_word ∷ [])
unfolding end_word
lone_end = record { inner = []; last = end_word; are = refl; none = refl; end = refl }

pub is_end_word : is_end end_word ≡ true
unfolding end_word
is_end_word = refl
