-- The pieces of a body with last assignments: each `begin`, the body, and the last assignments in the order of their sites.
use Rattle.std.proofs.Common.{◌≡◌, ◌≢◌, ℕ, zero, suc, ◌+◌, ◌<◌, ◌≤◌, ◌%◌, ◌^◌, ◌&&◌, min, nat_lt, Bool, true, false, cond, if◌then◌else◌, List, [], ◌∷◌, ◌++◌, length, take, drop, get_or, refl, sym, ◌∙◌, ap, ap₂, arith, append-nil, add-one, drop-cons}
use Rattle.std.specs.List.{All}
use Rattle.std.proofs.lemmas.Bool.{ne_eqb, eq-eqb, ltb-true, ltb-false}
use Rattle.std.proofs.lemmas.List.{append_assoc, map-append, drop_all, drop-map}
use Rattle.std.proofs.lemmas.List.Elements.{All-head, All-tail}
use denote.Ref.{Bor}
use Rattle.rr_syntax.specs.declared.site.Site.{Site as ArenaSite}
use Rattle.rr_syntax.specs.declared.site.SiteKind.{SiteKind as ArenaKind}
use Rattle.rr_syntax.specs.declared.site.SiteKind.TheVariants as kind
use Rattle.rr_syntax.specs.View.{texts}
use Rattle.rr_syntax.specs.Words.{keyword_if, keyword_end, mark_open_parenthesis, mark_close_parenthesis, mark_semicolon, mark_equals, mark_less_or_equal}
use Rattle.rr_syntax.specs.Tree.{Statement}
use Rattle.rr_syntax.specs.Statements.{spell_statement}
use Rattle.rr_lex.specs.Patch.{New, new_keyword, new_literal, new_mark, new_name}
use Rattle.rr_choice.specs.declared.pick.Pick.{Pick}
use Rattle.rr_instance.specs.Firsts.{first_token}
use Rattle.rr_choice.specs.Sites as sites
use Rattle.rr_choice.specs.Sites.{SiteKind, Site, IsSiteList, IsFirstAt}
use Rattle.rr_choice.specs.Choices.{picked_form, picked_name}
use Rattle.rr_choice.specs.Places.{is_overwrite, is_overwrite_at}
use Rattle.rr_choice.specs.View.{plain_kind, plain_site, plain_sites}
use Rattle.rr_choice.proofs.BitsRead.{sites_here}
use Rattle.rr_choice.proofs.Finds.{all_past}
use Rattle.rr_respell.specs.Pieces.{Piece, Put, puts}
use Rattle.rr_respell.specs.Printing.{gate_words, overwritten_pieces, new_body_pieces, all_overwritten_pieces, body_pieces, statement_pieces}
use Rattle.rr_respell.proofs.SourceParts.{Free, free, statement_makes}
use Rattle.rr_patch.specs.declared.body.Side.{Side}
use Rattle.rr_patch.specs.declared.body.Side.TheVariants.{Before, After}
use Rattle.rr_patch.specs.declared.change.Fixed.{Fixed}
use Rattle.rr_patch.specs.Changes.{Change, changes, plain_fixed}
use Rattle.rr_patch.specs.Walks.{round_of, round_at, rounds}
use Rattle.rr_patch.proofs.StatementWalks.{two}
use Rattle.rr_patch.proofs.Walks.{changes_join, puts_first, puts_join as changes_of_puts, puts_after, no_puts}

-- a site's `begin` and last assignment round pieces
one_round : (k : SiteKind) (p : Pick) (xs : List Piece) → overwritten_pieces k p xs ≡ puts (round_of Before k p) ++ (xs ++ puts (round_of After k p))
one_round (sites.Literal width signed) p xs = sym (append-nil xs)
one_round (sites.Guard owner extent names) p xs = sym (append-nil xs)
one_round (sites.Overwrite owner target width now names) p xs = refl

new_round : (token : ℕ) (s : Site) (p : Pick) (xs : List Piece) → new_body_pieces token s p xs ≡ puts (round_at Before token s p) ++ (xs ++ puts (round_at After token s p))
new_round token s p xs = by_test (is_overwrite_at token s && p.on)
  where
    by_test : (c : Bool) → (if c then overwritten_pieces s.kind p xs else xs) ≡ puts (if c then round_of Before s.kind p else []) ++ (xs ++ puts (if c then round_of After s.kind p else []))
    by_test true = one_round s.kind p xs
    by_test false = sym (append-nil xs)

-- all tokens before a body are the same word, so their order is free
swap_kinds : (j k : SiteKind) (p q : Pick) (ys : List Piece) → puts (round_of Before j p) ++ (puts (round_of Before k q) ++ ys) ≡ puts (round_of Before k q) ++ (puts (round_of Before j p) ++ ys)
swap_kinds (sites.Literal width signed) k p q ys = refl
swap_kinds (sites.Guard owner extent names) k p q ys = refl
swap_kinds (sites.Overwrite owner target width now names) (sites.Literal w signed) p q ys = refl
swap_kinds (sites.Overwrite owner target width now names) (sites.Guard o extent ns) p q ys = refl
swap_kinds (sites.Overwrite owner target width now names) (sites.Overwrite o t w n ns) p q ys = refl

swap_tests : (c d : Bool) (j k : SiteKind) (p q : Pick) (ys : List Piece) →
    puts (if c then round_of Before j p else []) ++ (puts (if d then round_of Before k q else []) ++ ys)
    ≡ puts (if d then round_of Before k q else []) ++ (puts (if c then round_of Before j p else []) ++ ys)
swap_tests true true j k p q ys = swap_kinds j k p q ys
swap_tests true false j k p q ys = refl
swap_tests false d j k p q ys = refl

puts_join : (ns ms : List New) (ys : List Piece) → puts (ns ++ ms) ++ ys ≡ puts ns ++ (puts ms ++ ys)
puts_join ns ms ys = ap (λ (l : List Piece). l ++ ys) (map-append Put ns ms) ∙ append_assoc (puts ns) (puts ms) ys

past_all : (token : ℕ) (s : Site) (p : Pick) (ss : List Site) (ps : List Pick) (ys : List Piece) →
    puts (rounds Before token ss ps) ++ (puts (round_at Before token s p) ++ ys) ≡ puts (round_at Before token s p) ++ (puts (rounds Before token ss ps) ++ ys)
unfolding rounds
past_all token s p [] ps ys = refl
past_all token s p (r ∷ ss) [] ys = refl
past_all token s p (r ∷ ss) (q ∷ ps) ys =
    puts_join (round_at Before token r q) (rounds Before token ss ps) (puts (round_at Before token s p) ++ ys)
    ∙ ap (λ (l : List Piece). puts (round_at Before token r q) ++ l) (past_all token s p ss ps ys)
    ∙ swap_tests (is_overwrite_at token r && q.on) (is_overwrite_at token s && p.on) r.kind s.kind q p (puts (rounds Before token ss ps) ++ ys)
    ∙ ap (λ (l : List Piece). puts (round_at Before token s p) ++ l) (sym (puts_join (round_at Before token r q) (rounds Before token ss ps) ys))

pub all_rounds : (token : ℕ) (ss : List Site) (ps : List Pick) (xs : List Piece) → all_overwritten_pieces token ss ps xs ≡ puts (rounds Before token ss ps) ++ (xs ++ puts (rounds After token ss ps))
unfolding all_overwritten_pieces rounds
all_rounds token [] ps xs = sym (append-nil xs)
all_rounds token (s ∷ ss) [] xs = sym (append-nil xs)
all_rounds token (s ∷ ss) (p ∷ ps) xs =
    let A : List Piece = puts (round_at Before token s p) in
    let Z : List Piece = puts (round_at After token s p) in
    let O : List Piece = puts (rounds Before token ss ps) in
    let C : List Piece = puts (rounds After token ss ps) in
    all_rounds token ss ps (new_body_pieces token s p xs)
    ∙ ap (λ (l : List Piece). O ++ (l ++ C)) (new_round token s p xs)
    ∙ ap (λ (l : List Piece). O ++ l) (append_assoc A (xs ++ Z) C ∙ ap (λ (l : List Piece). A ++ l) (append_assoc xs Z C))
    ∙ past_all token s p ss ps (xs ++ (Z ++ C))
    ∙ ap (λ (l : List Piece). A ++ (O ++ (xs ++ l))) (sym (map-append Put (round_at After token s p) (rounds After token ss ps)))
    ∙ sym (puts_join (round_at Before token s p) (rounds Before token ss ps) (xs ++ puts (round_at After token s p ++ rounds After token ss ps)))

-- the changes of a body
pub made_body : (ss : List Site) (ps : List Pick) (o o1 o2 o' : List Change) (k m token : ℕ) (t : Statement) → token ≡ first_token t → o1 ≡ o ++ changes k (puts (rounds Before token ss ps)) →
    o2 ≡ o1 ++ changes k (statement_pieces ss ps t) → m ≡ k + length (spell_statement t) → o' ≡ o2 ++ changes m (puts (rounds After token ss ps)) → o' ≡ o ++ changes k (body_pieces ss ps (first_token t) t)
made_body ss ps o o1 o2 o' k m token t q a b n c =
    let B : List Piece = puts (rounds Before token ss ps) in
    let X : List Piece = statement_pieces ss ps t in
    let A : List Piece = puts (rounds After token ss ps) in
    let inner : changes k (X ++ A) ≡ changes k X ++ changes m A =
    changes_join k X A ∙ ap (λ (j : ℕ). changes k X ++ changes j A) (ap (λ (j : ℕ). k + j) (ap length (statement_makes Free ss (free ss) ps t).source) ∙ sym n) in
    let outer : changes k (B ++ (X ++ A)) ≡ changes k B ++ changes k (X ++ A) =
    puts_first k (rounds Before token ss ps) (X ++ A) in
    two o o1 o' (changes k B) (changes k (X ++ A)) _ a (two o1 o2 o' (changes k X) (changes m A) (changes k (X ++ A)) b c inner)
    (ap (λ (j : ℕ). changes k (body_pieces ss ps j t)) (sym q) ∙ ap (changes k) (all_rounds token ss ps X) ∙ outer)

-- what stands round a body, site by site
nowhere : (side : Side) (token : ℕ) (s : Site) (p : Pick) → s.token ≢ token → round_at side token s p ≡ []
nowhere side token s p ne = ap (λ b. if (is_overwrite s.kind && b) && p.on then round_of side s.kind p else []) (ne_eqb s.token token ne) ∙ by_kind (is_overwrite s.kind)
  where
    by_kind : (b : Bool) → (if (b && false) && p.on then round_of side s.kind p else []) ≡ []
    by_kind true = refl
    by_kind false = refl

here : (side : Side) (token : ℕ) (s : Site) (p : Pick) → s.token ≡ token → round_at side token s p ≡ (if p.on then round_of side s.kind p else [])
here side token s p e = ap (λ b. if (is_overwrite s.kind && b) && p.on then round_of side s.kind p else []) (eq-eqb s.token token e) ∙ by_kind s.kind p.on
  where
    by_kind : (k : SiteKind) (on : Bool) → (if (is_overwrite k && true) && on then round_of side k p else []) ≡ (if on then round_of side k p else [])
    by_kind (sites.Literal width signed) true = refl
    by_kind (sites.Literal width signed) false = refl
    by_kind (sites.Guard owner extent names) true = refl
    by_kind (sites.Guard owner extent names) false = refl
    by_kind (sites.Overwrite owner target width now names) true = refl
    by_kind (sites.Overwrite owner target width now names) false = refl

no_picks : (side : Side) (token : ℕ) (ss : List Site) → rounds side token ss [] ≡ []
unfolding rounds
no_picks side token [] = refl
no_picks side token (s ∷ ss) = refl

no_sites : (side : Side) (token : ℕ) (ps : List Pick) → rounds side token [] ps ≡ []
unfolding rounds
no_sites side token ps = refl

one_site : (side : Side) (token : ℕ) (s : Site) (ss : List Site) (p : Pick) (ps : List Pick) → rounds side token (s ∷ ss) (p ∷ ps) ≡ round_at side token s p ++ rounds side token ss ps
unfolding rounds
one_site side token s ss p ps = refl

other_site : (side : Side) (token : ℕ) (s : Site) (ss : List Site) (p : Pick) (ps : List Pick) → s.token ≢ token → rounds side token (s ∷ ss) (p ∷ ps) ≡ rounds side token ss ps
other_site side token s ss p ps ne = one_site side token s ss p ps ∙ ap (λ (l : List New). l ++ rounds side token ss ps) (nowhere side token s p ne)

skip : (side : Side) (token k : ℕ) (ss : List Site) (ps : List Pick) → All (λ (s : Site). s.token < token) (take k ss) → rounds side token ss ps ≡ rounds side token (drop k ss) (drop k ps)
skip side token zero ss ps h = refl
skip side token (suc k) [] ps h = no_sites side token ps ∙ sym (no_sites side token (drop (suc k) ps))
skip side token (suc k) (s ∷ ss) [] h = no_picks side token (s ∷ ss) ∙ sym (no_picks side token (drop k ss))
skip side token (suc k) (s ∷ ss) (p ∷ ps) h =
    other_site side token s ss p ps (let b = All-head (λ (x : Site). x.token < token) s (take k ss) h in λ e. omega (arith, b, e))
    ∙ skip side token k ss ps (All-tail (λ (x : Site). x.token < token) s (take k ss) h)

none_past : (side : Side) (token : ℕ) (ss : List Site) (ps : List Pick) → All (λ (s : Site). token < s.token) ss → rounds side token ss ps ≡ []
none_past side token [] ps h = no_sites side token ps
none_past side token (s ∷ ss) [] h = no_picks side token (s ∷ ss)
none_past side token (s ∷ ss) (p ∷ ps) h =
    other_site side token s ss p ps (let b = All-head (λ (x : Site). token < x.token) s ss h in λ e. omega (arith, b, e))
    ∙ none_past side token ss ps (All-tail (λ (x : Site). token < x.token) s ss h)

module _ (side : Side) (token place : ℕ) (list : List ArenaSite) (picks : List Pick) where
  -- the changes of the sites from one on
  abbrev pub left_from : ℕ → List Change
  left_from i = changes place (puts (rounds side token (plain_sites (drop i list)) (drop i picks)))

  pub rounds_start : (o : List Change) (first : ℕ) → IsFirstAt (plain_sites list) token first → o ++ left_from first ≡ o ++ changes place (puts (rounds side token (plain_sites list) picks))
  rounds_start o first f =
      ap (λ (l : List New). o ++ changes place (puts l))
      (sym (skip side token first (plain_sites list) picks f.before ∙ ap (λ (ss : List Site). rounds side token ss (drop first picks)) (drop-map plain_site first list)))

  pub rounds_next : (o o1 : List Change) (i : ℕ) (d : ArenaSite) (e : Pick) → i < length list → i < length picks → (get_or list i d).token ≡ token →
      o1 ≡ o ++ changes place (puts (if (get_or picks i e).on then round_of side (plain_site (get_or list i d)).kind (get_or picks i e) else [])) → o1 ++ left_from (i + 1) ≡ o ++ left_from i
  rounds_next o o1 i d e l m at h =
      let s : Site = plain_site (get_or list i d) in
      let p : Pick = get_or picks i e in
      let R : List New = rounds side token (plain_sites (drop (i + 1) list)) (drop (i + 1) picks) in
      let now : List New = if p.on then round_of side s.kind p else [] in
      let split : rounds side token (plain_sites (drop i list)) (drop i picks) ≡ now ++ R =
      ap₂ (λ (ss : List Site) (ps : List Pick). rounds side token ss ps) (sites_here list i d l) (drop-cons picks i e m ∙ ap (λ k. p ∷ drop k picks) (sym (add-one i)))
      ∙ one_site side token s (plain_sites (drop (i + 1) list)) p (drop (i + 1) picks) ∙ ap (λ (l : List New). l ++ R) (here side token s p at) in
      ap (λ (l : List Change). l ++ left_from (i + 1)) h ∙ append_assoc o (changes place (puts now)) (left_from (i + 1))
      ∙ ap (λ (l : List Change). o ++ l) (sym (changes_of_puts place now R) ∙ ap (λ (l : List New). changes place (puts l)) (sym split))

  no_more : (o : List Change) (i : ℕ) → rounds side token (plain_sites (drop i list)) (drop i picks) ≡ [] → o ≡ o ++ left_from i
  no_more o i e = no_puts o place ∙ ap (λ (l : List New). o ++ changes place (puts l)) (sym e)

  pub rounds_end : (o : List Change) (i : ℕ) → min (length list) (length picks) ≤ i → o ≡ o ++ left_from i
  rounds_end o i h = no_more o i (by_which (nat_lt i (length list)) refl)
    where
      by_which : (b : Bool) → nat_lt i (length list) ≡ b → rounds side token (plain_sites (drop i list)) (drop i picks) ≡ []
      by_which true e =
          let l = ltb-true i (length list) e in
          ap (λ (ps : List Pick). rounds side token (plain_sites (drop i list)) ps) (drop_all i picks (omega (arith, h, l))) ∙ no_picks side token (plain_sites (drop i list))
      by_which false e =
          let l = ltb-false i (length list) e in
          ap (λ (ss : List ArenaSite). rounds side token (plain_sites ss) (drop i picks)) (drop_all i list l) ∙ no_sites side token (drop i picks)

  pub rounds_over : (o : List Change) (first i : ℕ) (d : ArenaSite) → IsSiteList (plain_sites list) → IsFirstAt (plain_sites list) token first → first ≤ i → i < length list → (get_or list i d).token ≢ token → o ≡ o ++ left_from i
  rounds_over o first i d g f le l ne = no_more o i (none_past side token (plain_sites (drop i list)) (drop i picks) (all_past list token first i d g f le l ne))

-- a last assignment, in three parts
pub last_off : (o : List Change) (k : ℕ) → o ≡ o ++ changes k (puts [])
last_off o k = no_puts o k

pub last_parts : (o o1 o2 o3 : List Change) (k : ℕ) (ns ms ks : List New) → o1 ≡ o ++ changes k (puts ns) → o2 ≡ o1 ++ changes k (puts ms) → o3 ≡ o2 ++ changes k (puts ks) → o3 ≡ o ++ changes k (puts (ns ++ (ms ++ ks)))
last_parts o o1 o2 o3 k ns ms ks a b c = puts_after o o1 o3 k ns (ms ++ ks) a (puts_after o1 o2 o3 k ms ks b c)

pub last_made : (o o1 o2 o3 : List Change) (k : ℕ) (side : Side) (kd : ArenaKind) (p : Pick) (owner : ℕ) (target : Bor (List ℕ)) (width : ℕ) (now : Bool) (names : Bor (List (Bor (List ℕ)))) (form : ℕ) (name : List ℕ) (f : Fixed) (v : ℕ) →
    side ≡ After → kd ≡ kind.Overwrite owner target width now names → form ≡ picked_form (texts names.now) p.form → name ≡ picked_name (texts names.now) p.name →
    plain_fixed f ≡ new_mark (cond now mark_equals mark_less_or_equal) → v ≡ p.value % 2 ^ width → o1 ≡ o ++ changes k (puts (new_keyword keyword_if ∷ (new_mark mark_open_parenthesis ∷ []))) →
    o2 ≡ o1 ++ changes k (puts (gate_words form name)) →
    o3 ≡ o2 ++ changes k (puts (new_mark mark_close_parenthesis ∷ (new_name target.now ∷ (plain_fixed f ∷ (new_literal width false v ∷ (new_mark mark_semicolon ∷ (new_keyword keyword_end ∷ []))))))) →
    o3 ≡ o ++ changes k (puts (round_of side (plain_kind kd) p))
last_made o o1 o2 o3 k side kd p owner target width now names form name f v es ek ef en em ev a b c =
    let front : List New = new_keyword keyword_if ∷ (new_mark mark_open_parenthesis ∷ []) in
    let back : New → ℕ → List New = λ m x. new_mark mark_close_parenthesis ∷ (new_name target.now ∷ (m ∷ (new_literal width false x ∷ (new_mark mark_semicolon ∷ (new_keyword keyword_end ∷ []))))) in
    let mark : New = new_mark (cond now mark_equals mark_less_or_equal) in
    let value : ℕ = p.value % 2 ^ width in
    last_parts o o1 o2 o3 k front (gate_words form name) (back (plain_fixed f) v) a b c
    ∙ ap (λ (m : New). o ++ changes k (puts (front ++ (gate_words form name ++ back m v)))) em
    ∙ ap (λ (x : ℕ). o ++ changes k (puts (front ++ (gate_words form name ++ back mark x)))) ev
    ∙ ap (λ (x : ℕ). o ++ changes k (puts (front ++ (gate_words x name ++ back mark value)))) ef
    ∙ ap (λ (x : List ℕ). o ++ changes k (puts (front ++ (gate_words (picked_form (texts names.now) p.form) x ++ back mark value)))) en
    ∙ ap (λ (x : ArenaKind). o ++ changes k (puts (round_of After (plain_kind x) p))) (sym ek)
    ∙ ap (λ (x : Side). o ++ changes k (puts (round_of x (plain_kind kd) p))) (sym es)

pub round_off : (o : List Change) (k : ℕ) (ns : List New) (on : Bool) → on ≡ false → o ≡ o ++ changes k (puts (if on then ns else []))
round_off o k ns on e = no_puts o k ∙ ap (λ (b : Bool). o ++ changes k (puts (if b then ns else []))) (sym e)
