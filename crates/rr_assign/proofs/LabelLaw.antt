-- The labels are right exactly where no literal in them is at fault.
use Rattle.std.proofs.Common.{◌≡◌, ◌∙◌, sym, ap, ℕ, Bool, true, false, not, cond, ◌&&◌, ◌==◌, List, [], ◌∷◌, ◌++◌, refl}
use Rattle.rr_syntax.specs.declared.token.Number.{Number}
use Rattle.rr_syntax.specs.Tree.{Tree, Trees, Name, Literal, Bit as BitSelect, Part, Indexed, Unary, Binary, Cond, Concat, Repeat, Cast, Paren, End, More, Statement, Statements, Arm, Arms, Null, Block as Sequence, If, IfElse, Case, Assign, For, Done, Then, CaseItem, NoArms, MoreArms}
use Rattle.rr_syntax.specs.Words.{keyword_case, keyword_casez}
use Rattle.rr_flat.specs.Lawful.{has_wild, no_wild, label_fits, all_labels_fit, labels_fit, all_fit, arm_fits, arms_fit, RightLabels}
use Rattle.rr_flat.specs.Plain.{Flat}
use Rattle.rr_flat.specs.Reads.{LiteralToken, literals_in}
use Rattle.rr_flat.specs.Writers.{block_at}
use Rattle.rr_assign.specs.Labels.{wild, wild_literal, wild_label, wild_labels, wild_in, wild_in_all, wild_in_arm, wild_in_arms, wild_of_part, all_wild}
use Rattle.rr_text_names.proofs.Covering.{HasWalk, none_at, at_none}

pub is_empty : List ℕ → Bool
is_empty [] = true
is_empty (x ∷ xs) = false

empty_is : (xs : List ℕ) → is_empty xs ≡ true → xs ≡ []
unfolding is_empty
empty_is [] h = refl
empty_is (x ∷ xs) h = cc

is_empty_append : (xs ys : List ℕ) → is_empty (xs ++ ys) ≡ (is_empty xs && is_empty ys)
unfolding is_empty
is_empty_append [] ys = refl
is_empty_append (x ∷ xs) ys = refl

tame : (ls : List LiteralToken) → no_wild ls ≡ is_empty (wild ls)
unfolding no_wild wild is_empty
tame [] = refl
tame (l ∷ ls) = go (has_wild l.number) (tame ls)
  where
    go : (b : Bool) → no_wild ls ≡ is_empty (wild ls) → (not b && no_wild ls) ≡ is_empty (cond b (l.token ∷ wild ls) (wild ls))
    go true h = refl
    go false h = h

tame_literal : (kind token : ℕ) (n : Number) → label_fits kind (Literal token n) ≡ is_empty (wild_literal kind token n)
unfolding label_fits is_empty
tame_literal kind token n = go (kind == keyword_case) (has_wild n) (kind == keyword_casez) (n.unknown == 0)
  where
    go : (a b c d : Bool) → cond a (not b) (cond c d true) ≡ is_empty (cond a (cond b (token ∷ []) []) (cond c (cond d [] (token ∷ [])) []))
    go true true c d = refl
    go true false c d = refl
    go false b true true = refl
    go false b true false = refl
    go false b false d = refl

tame_label : (kind : ℕ) (t : Tree) → label_fits kind t ≡ is_empty (wild_label kind t)
unfolding label_fits wild_label literals_in is_empty
tame_label kind (Name token name) = refl
tame_label kind (Literal token n) = tame_literal kind token n
tame_label kind (BitSelect token name i) = tame (literals_in i)
tame_label kind (Part token name l r) = tame (literals_in (Part token name l r))
tame_label kind (Indexed token name f n up) = tame (literals_in (Indexed token name f n up))
tame_label kind (Unary op t) = tame (literals_in t)
tame_label kind (Binary op l r) = tame (literals_in (Binary op l r))
tame_label kind (Cond a b c) = tame (literals_in (Cond a b c))
tame_label kind (Concat ts) = tame (literals_in (Concat ts))
tame_label kind (Repeat n ts) = tame (literals_in (Repeat n ts))
tame_label kind (Cast signed t) = tame (literals_in t)
tame_label kind (Paren t) = tame_label kind t

both : (a b : Bool) (xs ys : List ℕ) → a ≡ is_empty xs → b ≡ is_empty ys → (a && b) ≡ is_empty (xs ++ ys)
both a b xs ys h k = rw (h, k) (sym (is_empty_append xs ys))

tame_labels : (kind : ℕ) (ts : Trees) → all_labels_fit kind ts ≡ is_empty (wild_labels kind ts)
unfolding all_labels_fit wild_labels is_empty
tame_labels kind End = refl
tame_labels kind (More t ts) = both (label_fits kind t) (all_labels_fit kind ts) (wild_label kind t) (wild_labels kind ts) (tame_label kind t) (tame_labels kind ts)

mutual
  unfolding labels_fit wild_in is_empty

  tame_in : (s : Statement) → labels_fit s ≡ is_empty (wild_in s)
  tame_in Null = refl
  tame_in (Sequence label ss) = tame_in_all ss
  tame_in (If c t) = tame_in t
  tame_in (IfElse c t u) = both (labels_fit t) (labels_fit u) (wild_in t) (wild_in u) (tame_in t) (tame_in u)
  tame_in (Case kind on arms) = tame_in_arms kind arms
  tame_in (Assign t now e) = refl
  tame_in (For h t) = refl

  tame_in_all : (ss : Statements) → all_fit ss ≡ is_empty (wild_in_all ss)
  tame_in_all Done = refl
  tame_in_all (Then t ts) = both (labels_fit t) (all_fit ts) (wild_in t) (wild_in_all ts) (tame_in t) (tame_in_all ts)

  tame_in_arm : (kind : ℕ) (a : Arm) → arm_fits kind a ≡ is_empty (wild_in_arm kind a)
  tame_in_arm kind (CaseItem labels colon body) = both (all_labels_fit kind labels) (labels_fit body) (wild_labels kind labels) (wild_in body) (tame_labels kind labels) (tame_in body)

  tame_in_arms : (kind : ℕ) (arms : Arms) → arms_fit kind arms ≡ is_empty (wild_in_arms kind arms)
  tame_in_arms kind NoArms = refl
  tame_in_arms kind (MoreArms a rest) = both (arm_fits kind a) (arms_fit kind rest) (wild_in_arm kind a) (wild_in_arms kind rest) (tame_in_arm kind a) (tame_in_arms kind rest)

fits_empty : (s : Statement) → labels_fit s ≡ true → wild_in s ≡ []
fits_empty s h = empty_is (wild_in s) (sym (tame_in s) ∙ h)

empty_fits : (s : Statement) → wild_in s ≡ [] → labels_fit s ≡ true
unfolding is_empty
empty_fits s h = tame_in s ∙ ap is_empty h

pub right_labels : (flat : Flat) → HasWalk flat → all_wild flat ≡ [] → RightLabels flat
right_labels flat w h =
    let n = none_at flat (wild_of_part flat) w h in
    record { clocked = λ k l. empty_fits (block_at flat.clocked k).body (n.clocked k l); combinational = λ k l. empty_fits (block_at flat.combinational k).body (n.combinational k l) }

nothing : wild_in Null ≡ []
unfolding wild_in
nothing = refl

pub no_wild_labels : (flat : Flat) → HasWalk flat → RightLabels flat → all_wild flat ≡ []
no_wild_labels flat w r = at_none flat (wild_of_part flat) w (record {
  drivers = λ k l. nothing;
  clocked = λ k l. fits_empty (block_at flat.clocked k).body (r.clocked k l);
  combinational = λ k l. fits_empty (block_at flat.combinational k).body (r.combinational k l);
  initials = λ k l. nothing;
})
