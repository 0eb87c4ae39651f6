-- What a unit of the file does, and what the reader has after it.
use Rattle.std.proofs.lemmas.Bool.Decides.{nat_tests}
use Rattle.std.proofs.Common.{ℕ, suc, ◌≡◌, ◌+◌, ◌-◌, ◌≤◌, ◌<◌, ◌&&◌, List, [], ◌∷◌, ◌++◌, length, map, reverse, take, drop, get_or, nat_le, Bool, true, false, not, Some, None, Result, Ok, Err, if◌then◌else◌, refl, ap, ◌∙◌, sym, subst, arith}
use Rattle.std.specs.Result.{OnOk}
use Rattle.std.proofs.lemmas.List.{append-nil, length-reverse, reverse-append, get_or-reverse, length-take-le, length-drop}
use Rattle.rr_directive.specs.declared.piece.Directive.TheVariants as directive
use Rattle.rr_directive.specs.declared.piece.Kind.TheVariants as kind
use Rattle.rr_directive.specs.declared.output.Stop.{Stop}
use Rattle.rr_directive.specs.declared.output.Stop.TheVariants as stop
use Rattle.rr_directive.specs.declared.definitions.Definitions.{Definitions}
use Rattle.rr_directive.specs.declared.reading.Branch.{Branch as CodeBranch}
use Rattle.rr_directive.specs.declared.reading.Reader.{Reader}
use Rattle.rr_directive.specs.Pieces.{Piece, TextUnit, has_name}
use Rattle.rr_directive.specs.Expand.{Act, Own, Blank, Silent, Expands, Wrongs, Exact, Each, Last, Nowhere, Event, State, Gives, act, act_of, closing, from_use, is_defined, is_exact, is_fit, is_on, nothing, one_blank, opened, opening, over, over_in_use, bad_use, own, own_bytes, shown, stands_for, text_items, turned, turning, where_read, whole_use, with_branches, with_definition}
use Rattle.rr_directive.specs.View.{Answers, Blanks, Gave, HasTexts, Knows, Overflows, Shows, Stands, UseAnswers, exact_from, names_of, plain_branch, plain_branches}

-- ---- acts

pub off : (s : State) (a : Act) → is_on s.branches ≡ false → where_read s a ≡ Silent s
off s a h = rw h refl

pub on : (s : State) (a : Act) → is_on s.branches ≡ true → where_read s a ≡ a
on s a h = rw h refl

pub act_comment : (s : State) (u : TextUnit) → u.piece.kind ≡ kind.Comment → act s u ≡ where_read s (Own Nowhere)
unfolding act_of
act_comment s u e = ap (act_of s u.piece) e

pub act_escaped : (s : State) (u : TextUnit) → u.piece.kind ≡ kind.Escaped → act s u ≡ where_read s (Own Last)
unfolding act_of
act_escaped s u e = ap (act_of s u.piece) e

pub act_plain : (s : State) (u : TextUnit) → u.piece.kind ≡ kind.Plain → act s u ≡ where_read s (Own Each)
unfolding act_of
act_plain s u e = ap (act_of s u.piece) e

pub act_use : (s : State) (u : TextUnit) → u.piece.kind ≡ kind.Use → act s u ≡ where_read s Expands
unfolding act_of
act_use s u e = ap (act_of s u.piece) e

pub act_stays : (s : State) (u : TextUnit) → u.piece.kind ≡ kind.Named directive.Stays → act s u ≡ where_read s (Own Nowhere)
unfolding act_of
act_stays s u e = ap (act_of s u.piece) e

pub act_define : (s : State) (u : TextUnit) → u.piece.kind ≡ kind.Named directive.Define →
    act s u ≡ where_read s (if is_fit u.piece then Blank (with_definition s u.piece.name (Some (text_items u.piece.text))) else Wrongs)
unfolding act_of
act_define s u e = ap (act_of s u.piece) e

pub act_undef : (s : State) (u : TextUnit) → u.piece.kind ≡ kind.Named directive.Undef → act s u ≡ where_read s (if has_name u.piece then Blank (with_definition s u.piece.name None) else Wrongs)
unfolding act_of
act_undef s u e = ap (act_of s u.piece) e

pub act_ifdef : (s : State) (u : TextUnit) → u.piece.kind ≡ kind.Named directive.Ifdef → act s u ≡ opening s u.piece (is_defined u.piece.name s.definitions)
unfolding act_of
act_ifdef s u e = ap (act_of s u.piece) e

pub act_ifndef : (s : State) (u : TextUnit) → u.piece.kind ≡ kind.Named directive.Ifndef → act s u ≡ opening s u.piece (not (is_defined u.piece.name s.definitions))
unfolding act_of
act_ifndef s u e = ap (act_of s u.piece) e

act_else : (s : State) (u : TextUnit) → u.piece.kind ≡ kind.Named directive.Else → act s u ≡ turning s s.branches
unfolding act_of
act_else s u e = ap (act_of s u.piece) e

act_endif : (s : State) (u : TextUnit) → u.piece.kind ≡ kind.Named directive.Endif → act s u ≡ closing s s.branches
unfolding act_of
act_endif s u e = ap (act_of s u.piece) e

pub act_elsif : (s : State) (u : TextUnit) → u.piece.kind ≡ kind.Named directive.Elsif → act s u ≡ Wrongs
unfolding act_of
act_elsif s u e = ap (act_of s u.piece) e

-- ---- branches

pub branches_push : (bs cs : List CodeBranch) (b : CodeBranch) → cs ≡ bs ++ (b ∷ []) → plain_branches cs ≡ plain_branch b ∷ plain_branches bs
branches_push bs cs b e = ap plain_branches e ∙ ap (map plain_branch) (reverse-append bs (b ∷ []))

pub branches_none : (bs : List CodeBranch) → length bs ≡ 0 → plain_branches bs ≡ []
branches_none [] e = refl
branches_none (b ∷ bs) e = absurd (omega arith)

pub on_none : (bs : List CodeBranch) → length bs ≡ 0 → true ≡ is_on (plain_branches bs)
unfolding is_on
on_none bs e = sym (ap is_on (branches_none bs e))

first_on : (rs : List CodeBranch) (b : CodeBranch) → 0 < length rs → is_on (map plain_branch rs) ≡ (get_or rs 0 b).on
unfolding is_on
first_on [] b l = absurd (omega arith)
first_on (r ∷ rs) b l = refl

pub on_last : (bs : List CodeBranch) (b : CodeBranch) → 0 < length bs → b ≡ get_or bs (length bs - 1) b → b.on ≡ is_on (plain_branches bs)
on_last bs b l e =
    let n : length bs - 1 ≡ length bs - 1 - 0 = omega arith in
    let r : 0 < length (reverse bs) = omega (arith, length-reverse bs) in
    let q : b ≡ get_or (reverse bs) 0 b = e ∙ (ap (λ (m : ℕ). get_or bs m b) n ∙ sym (get_or-reverse bs 0 b l)) in
    ap (λ (x : CodeBranch). x.on) q ∙ sym (first_on (reverse bs) b r)

-- ---- answers

pub silent : (s : State) (u : TextUnit) (events : List Event) (r : Reader) → act s u ≡ Silent s → Stands r s events → Gave s u events r
silent s u events r e h = record { more = []; state = s; meets = nothing s e; stands = subst (Stands r s) (sym (append-nil events)) h }

pub shown_answers : (T : Type 0) (res : Result T Stop) (bytes : List ℕ) (s t : State) (u : TextUnit) (events : List Event) (on : Bool) (r : Reader) →
    act s u ≡ shown on t → Blanks on u.at t events r res → Answers bytes s u events r res
shown_answers T (Ok x) bytes s t u events true r e b = record { more = stands_for u.at (Gives 32) ∷ []; state = t; meets = one_blank t e; stands = b }
shown_answers T (Ok x) bytes s t u events false r e b = record { more = []; state = t; meets = nothing t e; stands = b }
shown_answers T (Err (stop.Wrong w)) bytes s t u events on r e b = absurd b
shown_answers T (Err stop.Full) bytes s t u events true r e b = over (stands_for u.at (Gives 32) ∷ []) t (one_blank t e) b
shown_answers T (Err stop.Full) bytes s t u events false r e b = over [] t (nothing t e) b
shown_answers T (Err stop.Memory) bytes s t u events on r e b = tt

own_length : (exact : Exact) (at : ℕ) (bs : List ℕ) → length (own exact at bs) ≡ length bs
unfolding own
own_length exact at [] = refl
own_length exact at (b ∷ bs) = ap (λ (n : ℕ). suc n) (own_length exact (at + 1) bs)

pub own_answers : (T : Type 0) (res : Result T Stop) (bytes : List ℕ) (s : State) (u : TextUnit) (events : List Event) (which : Exact) (n : ℕ) (old new : Reader) → new.definitions ≡ old.definitions → new.branches ≡ old.branches →
    act s u ≡ Own which → length u.bytes ≡ n → Stands old s events → OnOk res ((es : List Event) → Shows old.out es → Shows new.out (es ++ own which u.at u.bytes)) → Overflows old.out.left n res →
    Answers bytes s u events new res
own_answers T (Ok x) bytes s u events which n old new d b e l h g f = record {
  more = own which u.at u.bytes;
  state = s;
  meets = own_bytes which e;
  stands = record {
    knows = subst (λ (x : Definitions). Knows x s.definitions) (sym d) h.knows;
    branches = ap (λ v. plain_branches v.items) b ∙ h.branches;
    shows = g events h.shows;
  };
}
own_answers T (Err (stop.Wrong w)) bytes s u events which n old new d b e l h g f = absurd f
own_answers T (Err stop.Full) bytes s u events which n old new d b e l h g f =
    over (own which u.at u.bytes) s (own_bytes which e) (omega (arith, own_length which u.at u.bytes, h.shows.left))
own_answers T (Err stop.Memory) bytes s u events which n old new d b e l h g f = tt

-- a blank
pub blank_answers : (T : Type 0) (res : Result T Stop) (at : ℕ) (s : State) (events : List Event) (old new : Reader) → new.definitions ≡ old.definitions → new.branches ≡ old.branches → Stands old s events →
    OnOk res ((es : List Event) → Shows old.out es → Shows new.out (es ++ (stands_for at (Gives 32) ∷ []))) → Overflows old.out.left 1 res → Blanks true at s events new res
blank_answers T (Ok x) at s events old new d b h g f = record {
  knows = subst (λ (x : Definitions). Knows x s.definitions) (sym d) h.knows;
  branches = ap (λ v. plain_branches v.items) b ∙ h.branches;
  shows = g events h.shows;
}
blank_answers T (Err (stop.Wrong w)) at s events old new d b h g f = absurd f
blank_answers T (Err stop.Full) at s events old new d b h g f = omega (arith, h.shows.left)
blank_answers T (Err stop.Memory) at s events old new d b h g f = tt

-- a use
pub use_answers : (T : Type 0) (res : Result T Stop) (bytes : List ℕ) (s : State) (u : TextUnit) (events : List Event) (new : Reader) → act s u ≡ Expands →
    HasTexts (names_of new.definitions) new.definitions.texts.items s.definitions → plain_branches new.branches.items ≡ s.branches →
    UseAnswers (names_of new.definitions) s.definitions u.piece.name events u.at new.definitions.flags.items new.out res → Answers bytes s u events new res
use_answers T (Ok x) bytes s u events new e h b a = record {
  more = from_use u.at a.steps;
  state = s;
  meets = whole_use a.steps e a.reads;
  stands = record { knows = record { has = h; closed = a.opens }; branches = b; shows = a.shows };
}
use_answers T (Err (stop.Wrong w)) bytes s u events new e h b a = bad_use a.steps w e a.reads a.few
use_answers T (Err stop.Full) bytes s u events new e h b a = over_in_use a.steps e a.reads a.many
use_answers T (Err stop.Memory) bytes s u events new e h b a = tt

-- ---- conditionals

pub turned_none : (s : State) (u : TextUnit) (bs : List CodeBranch) → u.piece.kind ≡ kind.Named directive.Else → plain_branches bs ≡ s.branches → length bs ≡ 0 → act s u ≡ Wrongs
unfolding turning
turned_none s u bs k e l = act_else s u k ∙ ap (turning s) (sym e ∙ branches_none bs l)

pub turned_last : (s : State) (u : TextUnit) (bs cs : List CodeBranch) (b : CodeBranch) → u.piece.kind ≡ kind.Named directive.Else → plain_branches bs ≡ s.branches → bs ≡ cs ++ (b ∷ []) → b.last ≡ true → act s u ≡ Wrongs
unfolding turning
turned_last s u bs cs b k e p l = act_else s u k ∙ (ap (turning s) (sym e ∙ branches_push cs bs b p) ∙ rw l refl)

pub turns : (s : State) (u : TextUnit) (bs cs : List CodeBranch) (b : CodeBranch) → u.piece.kind ≡ kind.Named directive.Else → plain_branches bs ≡ s.branches → bs ≡ cs ++ (b ∷ []) → b.last ≡ false →
    act s u ≡ shown (is_on (plain_branches cs)) (with_branches s (turned (plain_branch b) ∷ plain_branches cs))
unfolding turning
turns s u bs cs b k e p l = act_else s u k ∙ (ap (turning s) (sym e ∙ branches_push cs bs b p) ∙ rw l refl)

pub closed_none : (s : State) (u : TextUnit) (bs : List CodeBranch) → u.piece.kind ≡ kind.Named directive.Endif → plain_branches bs ≡ s.branches → length bs ≡ 0 → act s u ≡ Wrongs
unfolding closing
closed_none s u bs k e l = act_endif s u k ∙ ap (closing s) (sym e ∙ branches_none bs l)

pub closes : (s : State) (u : TextUnit) (bs cs : List CodeBranch) (b : CodeBranch) → u.piece.kind ≡ kind.Named directive.Endif → plain_branches bs ≡ s.branches → bs ≡ cs ++ (b ∷ []) →
    act s u ≡ shown (is_on (plain_branches cs)) (with_branches s (plain_branches cs))
unfolding closing
closes s u bs cs b k e p = act_endif s u k ∙ ap (closing s) (sym e ∙ branches_push cs bs b p)

-- ---- exact bytes

pub exact_each : (at from : ℕ) (bs : List ℕ) → at ≤ from → exact_from at from bs ≡ own Each from bs
unfolding exact_from own is_exact
exact_each at from [] l = refl
exact_each at from (b ∷ bs) l =
    let t : nat_le at from ≡ true = grind (arith, nat_tests) in
    rw t (ap (λ (es : List Event). record { step = Gives b; origin = record { offset = from; exact = true } } ∷ es) (exact_each at (from + 1) bs (omega arith)))

pub exact_nowhere : (end from : ℕ) (bs : List ℕ) → from + length bs ≤ end → exact_from end from bs ≡ own Nowhere from bs
unfolding exact_from own is_exact
exact_nowhere end from [] l = refl
exact_nowhere end from (b ∷ bs) l =
    let t : nat_le end from ≡ false = grind (arith, nat_tests) in
    rw t (ap (λ (es : List Event). record { step = Gives b; origin = record { offset = from; exact = false } } ∷ es) (exact_nowhere end (from + 1) bs (omega arith)))

pub exact_last : (last from : ℕ) (bs : List ℕ) → from + length bs ≡ last + 1 → exact_from last from bs ≡ own Last from bs
unfolding exact_from own is_exact
exact_last last from [] l = refl
exact_last last from (b ∷ []) l = let t : nat_le last from ≡ true = grind (arith, nat_tests) in rw t refl
exact_last last from (b ∷ (c ∷ bs)) l =
    let t : nat_le last from ≡ false = grind (arith, nat_tests) in
    rw t (ap (λ (es : List Event). record { step = Gives b; origin = record { offset = from; exact = false } } ∷ es) (exact_last last (from + 1) (c ∷ bs) (omega arith)))

pub unit_length : (bs : List ℕ) (at end : ℕ) → at ≤ end → end ≤ length bs → length (take (end - at) (drop at bs)) ≡ end - at
unit_length bs at end l m = let r : end - at ≤ length (drop at bs) = omega (arith, length-drop at bs) in length-take-le (end - at) (drop at bs) r

-- ---- definitions

pub unfit_name : (a b c d : Bool) → (a && (b && c)) ≡ false → (a && (b && (c && d))) ≡ false
unfit_name true true true d h = absurd (cc)
unfit_name true true false d h = refl
unfit_name true false c d h = refl
unfit_name false b c d h = refl

pub unfit_text : (a b c d : Bool) → d ≡ false → (a && (b && (c && d))) ≡ false
unfit_text true true true d h = h
unfit_text true true false d h = refl
unfit_text true false c d h = refl
unfit_text false b c d h = refl

pub fit : (a b c d : Bool) → (a && (b && c)) ≡ true → d ≡ true → (a && (b && (c && d))) ≡ true
fit true true true d h k = k
fit true true false d h k = absurd (cc)
fit true false c d h k = absurd (cc)
fit false b c d h k = absurd (cc)

pub is_on_by : (s : State) (r b : Bool) (bs : List CodeBranch) → r ≡ is_on (plain_branches bs) → plain_branches bs ≡ s.branches → r ≡ b → is_on s.branches ≡ b
is_on_by s r b bs e h k = sym (e ∙ ap is_on h) ∙ k

pub no_name_undef : (s : State) (u : TextUnit) → u.piece.kind ≡ kind.Named directive.Undef → is_on s.branches ≡ true → has_name u.piece ≡ false → act s u ≡ Wrongs
no_name_undef s u k o n = act_undef s u k ∙ (on s _ o ∙ rw n refl)

pub named_undef : (s : State) (u : TextUnit) → u.piece.kind ≡ kind.Named directive.Undef → is_on s.branches ≡ true → has_name u.piece ≡ true → act s u ≡ Blank (with_definition s u.piece.name None)
named_undef s u k o n = act_undef s u k ∙ (on s _ o ∙ rw n refl)

pub unfit_define : (s : State) (u : TextUnit) → u.piece.kind ≡ kind.Named directive.Define → is_on s.branches ≡ true → is_fit u.piece ≡ false → act s u ≡ Wrongs
unfit_define s u k o n = act_define s u k ∙ (on s _ o ∙ rw n refl)

pub fit_define : (s : State) (u : TextUnit) → u.piece.kind ≡ kind.Named directive.Define → is_on s.branches ≡ true → is_fit u.piece ≡ true → act s u ≡ Blank (with_definition s u.piece.name (Some (text_items u.piece.text)))
fit_define s u k o n = act_define s u k ∙ (on s _ o ∙ rw n refl)

pub no_name_opening : (s : State) (p : Piece) (holds : Bool) → has_name p ≡ false → opening s p holds ≡ Wrongs
no_name_opening s p holds n = rw n refl

pub named_opening : (s : State) (p : Piece) (holds : Bool) → has_name p ≡ true → opening s p holds ≡ shown (is_on s.branches) (with_branches s (opened holds s.branches))
named_opening s p holds n = rw n refl
