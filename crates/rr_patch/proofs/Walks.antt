-- The changes of pieces, part by part.
use Rattle.std.proofs.Common.{◌≡◌, ℕ, ◌+◌, ◌%◌, ◌^◌, ◌==◌, Bool, true, false, if◌then◌else◌, List, [], ◌∷◌, ◌++◌, ◌<◌, ◌≤◌, length, map, take, get_or, Option, None, Some, refl, sym, ◌∙◌, ap, arith, append-nil}
use Rattle.std.proofs.lemmas.List.{append_assoc, get_or_default, map-append, take_all, take_more}
use Rattle.rr_syntax.specs.declared.token.Number.{Number}
use Rattle.rr_syntax.specs.Words.{Word, Digits, mark_open_parenthesis, mark_close_parenthesis, mark_not, mark_logical_and, mark_logical_or}
use Rattle.rr_lex.specs.Patch.{New, new_literal, new_mark, new_name}
use Rattle.rr_choice.specs.declared.pick.Pick.{Pick}
use Rattle.rr_choice.specs.Sites.{Site, guard_names}
use Rattle.rr_choice.specs.Choices.{picked_form, picked_name}
use Rattle.rr_patch.specs.Walks.{opened, opened_form, closed, closed_form}
use Rattle.rr_patch.specs.declared.change.Change.{Change as Made}
use Rattle.rr_patch.specs.declared.change.Added.{Added}
use Rattle.rr_patch.specs.declared.change.Added.TheVariants as added
use Rattle.rr_respell.specs.Pieces.{Piece, Kept, Replaced, Put, kept, puts, source_words}
use Rattle.rr_respell.specs.Printing.{literal_pieces, bracketed, negated_name, guarded_pieces, test_pieces}
use Rattle.rr_patch.specs.Changes.{Change, changes, plain_added, plain_change, plain_changes}

pub changes_join : (k : ℕ) (xs ys : List Piece) → changes k (xs ++ ys) ≡ changes k xs ++ changes (k + length (source_words xs)) ys
unfolding changes source_words
changes_join k [] ys = ap (λ n. changes n ys) (omega arith)
changes_join k (Kept w ∷ xs) ys = changes_join (k + 1) xs ys ∙ ap (λ n. changes (k + 1) xs ++ changes n ys) (omega arith)
changes_join k (Replaced w n ∷ xs) ys =
    ap (λ (l : List Change). record { place = k; over = true; new = n } ∷ l) (changes_join (k + 1) xs ys ∙ ap (λ n. changes (k + 1) xs ++ changes n ys) (omega arith))
changes_join k (Put n ∷ xs) ys = ap (λ (l : List Change). record { place = k; over = false; new = n } ∷ l) (changes_join k xs ys)

pub kept_none : (k : ℕ) (ws : List Word) → changes k (kept ws) ≡ []
unfolding changes
kept_none k [] = refl
kept_none k (w ∷ ws) = kept_none (k + 1) ws

pub kept_words : (ws : List Word) → source_words (kept ws) ≡ ws
unfolding source_words
kept_words [] = refl
kept_words (w ∷ ws) = ap (λ (l : List Word). w ∷ l) (kept_words ws)

-- one change more
pub one_made : (o o' : List Made) (c : Made) (cs : List Change) → o' ≡ o ++ (c ∷ []) → cs ≡ plain_change c ∷ [] → plain_changes o' ≡ plain_changes o ++ cs
one_made o o' c cs e q = ap plain_changes e ∙ map-append plain_change o (c ∷ []) ∙ ap (λ (l : List Change). plain_changes o ++ l) (sym q)

pub put_more : (o o' : List Made) (place : ℕ) (a : Added) → o' ≡ o ++ (record { place = place; over = false; new = a } ∷ []) → plain_changes o' ≡ plain_changes o ++ changes place (puts (plain_added a ∷ []))
unfolding changes
put_more o o' place a e = one_made o o' (record { place = place; over = false; new = a }) _ e refl

pub literal_none : (o : List Made) (place : ℕ) (n : Number) → plain_changes o ≡ plain_changes o ++ changes place (literal_pieces None n)
unfolding changes
literal_none o place n = sym (append-nil (plain_changes o))

pub literal_off : (o : List Made) (place : ℕ) (s : Site) (p : Pick) (n : Number) → p.on ≡ false → plain_changes o ≡ plain_changes o ++ changes place (literal_pieces (Some (s, p)) n)
unfolding changes
literal_off o place s p n e = sym (append-nil (plain_changes o)) ∙ ap (λ (b : Bool). plain_changes o ++ changes place (if b then Replaced (Digits n) (new_literal n.width n.signed (p.value % 2 ^ n.width)) ∷ [] else Kept (Digits n) ∷ [])) (sym e)

pub literal_on : (o o' : List Made) (place : ℕ) (s : Site) (p : Pick) (n : Number) (v : ℕ) → p.on ≡ true → v ≡ p.value % 2 ^ n.width →
    o' ≡ o ++ (record { place = place; over = true; new = added.Literal n.width n.signed v } ∷ []) →
    plain_changes o' ≡ plain_changes o ++ changes place (literal_pieces (Some (s, p)) n)
unfolding changes
literal_on o o' place s p n v e q h =
    one_made o o' (record { place = place; over = true; new = added.Literal n.width n.signed v }) _ h
    (ap (λ (b : Bool). changes place (if b then Replaced (Digits n) (new_literal n.width n.signed (p.value % 2 ^ n.width)) ∷ [] else Kept (Digits n) ∷ [])) e
    ∙ ap (λ (x : ℕ). record { place = place; over = true; new = new_literal n.width n.signed x } ∷ []) (sym q))

-- new tokens, and then one more
pub puts_next : (o o1 o2 : List Change) (k : ℕ) (ns : List New) (n : New) → o1 ≡ o ++ changes k (puts ns) → o2 ≡ o1 ++ changes k (puts (n ∷ [])) → o2 ≡ o ++ changes k (puts (ns ++ (n ∷ [])))
unfolding changes
puts_next o o1 o2 k ns n a b =
    b ∙ ap (λ (l : List Change). l ++ changes k (puts (n ∷ []))) a ∙ append_assoc o (changes k (puts ns)) (changes k (puts (n ∷ [])))
    ∙ ap (λ (l : List Change). o ++ l) (sym (one_after k ns))
  where
    one_after : (k : ℕ) (ns : List New) → changes k (puts (ns ++ (n ∷ []))) ≡ changes k (puts ns) ++ changes k (puts (n ∷ []))
    one_after k [] = refl
    one_after k (m ∷ ns) = ap (λ (l : List Change). record { place = k; over = false; new = m } ∷ l) (one_after k ns)

-- several new tokens, one after the other
pub puts_start : (o : List Change) (k : ℕ) (ns : List Added) → o ≡ o ++ changes k (puts (map plain_added (take 0 ns)))
unfolding changes
puts_start o k ns = sym (append-nil o)

pub puts_more : (o o1 o2 : List Change) (k : ℕ) (ns : List Added) (i : ℕ) (d : Added) → i < length ns → o1 ≡ o ++ changes k (puts (map plain_added (take i ns))) →
    o2 ≡ o1 ++ changes k (puts (plain_added (get_or ns i d) ∷ [])) → o2 ≡ o ++ changes k (puts (map plain_added (take (i + 1) ns)))
puts_more o o1 o2 k ns i d l a b =
    let n : Added = get_or ns i d in
    let up : take (i + 1) ns ≡ take i ns ++ n ∷ [] = take_more ns i n l ∙ ap (λ (y : Added). take i ns ++ y ∷ []) (sym (get_or_default ns i d n l)) in
    puts_next o o1 o2 k (map plain_added (take i ns)) (plain_added n) a b
    ∙ ap (λ (l : List New). o ++ changes k (puts l)) (sym (ap (map plain_added) up ∙ map-append plain_added (take i ns) (n ∷ [])))

pub puts_full : (o o1 : List Change) (k : ℕ) (ns : List Added) (i : ℕ) → length ns ≤ i → o1 ≡ o ++ changes k (puts (map plain_added (take i ns))) → o1 ≡ o ++ changes k (puts (map plain_added ns))
puts_full o o1 k ns i l a = a ∙ ap (λ (x : List Added). o ++ changes k (puts (map plain_added x))) (take_all i ns l)

-- new tokens before pieces
pub puts_first : (k : ℕ) (ns : List New) (xs : List Piece) → changes k (puts ns ++ xs) ≡ changes k (puts ns) ++ changes k xs
unfolding changes
puts_first k [] xs = refl
puts_first k (n ∷ ns) xs = ap (λ (l : List Change). record { place = k; over = false; new = n } ∷ l) (puts_first k ns xs)

-- new tokens before others
pub puts_join : (k : ℕ) (ns ms : List New) → changes k (puts (ns ++ ms)) ≡ changes k (puts ns) ++ changes k (puts ms)
unfolding changes
puts_join k [] ms = refl
puts_join k (m ∷ ns) ms = ap (λ (l : List Change). record { place = k; over = false; new = m } ∷ l) (puts_join k ns ms)

pub puts_after : (o o1 o2 : List Change) (k : ℕ) (ns ms : List New) → o1 ≡ o ++ changes k (puts ns) → o2 ≡ o1 ++ changes k (puts ms) → o2 ≡ o ++ changes k (puts (ns ++ ms))
puts_after o o1 o2 k ns ms a b =
    b ∙ ap (λ (l : List Change). l ++ changes k (puts ms)) a ∙ append_assoc o (changes k (puts ns)) (changes k (puts ms)) ∙ ap (λ (l : List Change). o ++ l) (sym (puts_join k ns ms))

pub no_puts : (o : List Change) (k : ℕ) → o ≡ o ++ changes k (puts [])
unfolding changes
no_puts o k = sym (append-nil o)

pub open_off : (o : List Change) (k : ℕ) (s : Site) (p : Pick) → p.on ≡ false → o ≡ o ++ changes k (puts (opened (Some (s, p))))
open_off o k s p e = no_puts o k ∙ ap (λ (b : Bool). o ++ changes k (puts (if b then opened_form (picked_form (guard_names s.kind) p.form) else []))) (sym e)

pub open_on : (o o' : List Change) (k : ℕ) (s : Site) (p : Pick) → p.on ≡ true → o' ≡ o ++ changes k (puts (opened_form (picked_form (guard_names s.kind) p.form))) → o' ≡ o ++ changes k (puts (opened (Some (s, p))))
open_on o o' k s p e h = h ∙ ap (λ (b : Bool). o ++ changes k (puts (if b then opened_form (picked_form (guard_names s.kind) p.form) else []))) (sym e)

pub close_off : (o : List Change) (k : ℕ) (s : Site) (p : Pick) → p.on ≡ false → o ≡ o ++ changes k (puts (closed (Some (s, p))))
close_off o k s p e = no_puts o k ∙ ap (λ (b : Bool). o ++ changes k (puts (if b then closed_form (picked_form (guard_names s.kind) p.form) (picked_name (guard_names s.kind) p.name) else []))) (sym e)

pub close_on : (o o' : List Change) (k : ℕ) (s : Site) (p : Pick) → p.on ≡ true → o' ≡ o ++ changes k (puts (closed_form (picked_form (guard_names s.kind) p.form) (picked_name (guard_names s.kind) p.name))) → o' ≡ o ++ changes k (puts (closed (Some (s, p))))
close_on o o' k s p e h = h ∙ ap (λ (b : Bool). o ++ changes k (puts (if b then closed_form (picked_form (guard_names s.kind) p.form) (picked_name (guard_names s.kind) p.name) else []))) (sym e)

pub ruleset open_steps = (no_puts, open_off, open_on, close_off, close_on)

pub ruleset literal_steps = (literal_none, literal_off, literal_on)

-- a condition is its new tokens before it, its own pieces, and its new tokens after it
pub test_split : (found : Option (Site × Pick)) (xs : List Piece) → test_pieces found xs ≡ puts (opened found) ++ (xs ++ puts (closed found))
test_split None xs = sym (append-nil xs)
test_split (Some (s, p)) xs = by_switch p.on
  where
    F : ℕ
    F = picked_form (guard_names s.kind) p.form

    name : List ℕ
    name = picked_name (guard_names s.kind) p.name

    by_form : (a b c d : Bool) →
        (if a then Put (new_mark mark_not) ∷ bracketed xs
        else if b then bracketed xs ++ puts (new_mark mark_logical_and ∷ (new_name name ∷ []))
        else if c then bracketed xs ++ puts (new_mark mark_logical_and ∷ negated_name name)
        else if d then bracketed xs ++ puts (new_mark mark_logical_or ∷ (new_name name ∷ []))
        else bracketed xs ++ puts (new_mark mark_logical_or ∷ negated_name name))
        ≡ puts (if a then new_mark mark_not ∷ (new_mark mark_open_parenthesis ∷ []) else new_mark mark_open_parenthesis ∷ []) ++
        (xs ++ puts (if a then new_mark mark_close_parenthesis ∷ []
        else if b then new_mark mark_close_parenthesis ∷ (new_mark mark_logical_and ∷ (new_name name ∷ []))
        else if c then new_mark mark_close_parenthesis ∷ (new_mark mark_logical_and ∷ negated_name name)
        else if d then new_mark mark_close_parenthesis ∷ (new_mark mark_logical_or ∷ (new_name name ∷ []))
        else new_mark mark_close_parenthesis ∷ (new_mark mark_logical_or ∷ negated_name name)))
    by_form true b c d = refl
    by_form false true c d = ap (λ (l : List Piece). Put (new_mark mark_open_parenthesis) ∷ l) (append_assoc xs (Put (new_mark mark_close_parenthesis) ∷ []) (puts (new_mark mark_logical_and ∷ (new_name name ∷ []))))
    by_form false false true d = ap (λ (l : List Piece). Put (new_mark mark_open_parenthesis) ∷ l) (append_assoc xs (Put (new_mark mark_close_parenthesis) ∷ []) (puts (new_mark mark_logical_and ∷ negated_name name)))
    by_form false false false true = ap (λ (l : List Piece). Put (new_mark mark_open_parenthesis) ∷ l) (append_assoc xs (Put (new_mark mark_close_parenthesis) ∷ []) (puts (new_mark mark_logical_or ∷ (new_name name ∷ []))))
    by_form false false false false = ap (λ (l : List Piece). Put (new_mark mark_open_parenthesis) ∷ l) (append_assoc xs (Put (new_mark mark_close_parenthesis) ∷ []) (puts (new_mark mark_logical_or ∷ negated_name name)))

    by_switch : (on : Bool) → (if on then guarded_pieces F name xs else xs) ≡ puts (if on then opened_form F else []) ++ (xs ++ puts (if on then closed_form F name else []))
    by_switch true = by_form (F == 0) (F == 1) (F == 2) (F == 3)
    by_switch false = sym (append-nil xs)

pub puts_words : (ns : List New) → source_words (puts ns) ≡ []
unfolding source_words
puts_words [] = refl
puts_words (n ∷ ns) = puts_words ns

-- its changes
pub test_changes : (k : ℕ) (found : Option (Site × Pick)) (xs : List Piece) →
    changes k (test_pieces found xs) ≡ changes k (puts (opened found)) ++ (changes k xs ++ changes (k + length (source_words xs)) (puts (closed found)))
test_changes k found xs =
    ap (changes k) (test_split found xs) ∙ changes_join k (puts (opened found)) (xs ++ puts (closed found))
    ∙ ap (λ (l : List Change). changes k (puts (opened found)) ++ l)
    (ap (λ n. changes n (xs ++ puts (closed found))) (let e = ap length (puts_words (opened found)) in omega (arith, e)) ∙ changes_join k xs (puts (closed found)))
