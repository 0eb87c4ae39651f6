-- A name that stands in a body stands in its instance.
use Rattle.std.proofs.Common.{◌≡◌, ◌⊎◌, inl, inr, ℕ, Bool, true, false, ◌&&◌, if◌then◌else◌, List, [], ◌∷◌, ◌++◌, get_or, refl}
use Rattle.std.specs.Str.{bytes_eq}
use Rattle.std.proofs.Math.Logic.{⊎_elim}
use Rattle.std.proofs.lemmas.Bool.{or_cases, both_ways}
use Rattle.rr_syntax.specs.declared.token.Number.{Number}
use Rattle.rr_syntax.specs.Tree.{Tree, Trees, Name, Literal, Bit as BitSelect, Part, Indexed, Unary, Binary, Cond, Concat, Repeat, Cast, Paren, End, More, Identifier, Statement, Statements, Arm, Arms, Null, Block as Sequence, If, IfElse, Case, Assign, For, Done, Then, CaseItem, NoArms, MoreArms}
use Rattle.rr_expr.specs.declared.operators.Infix.TheVariants.{Either}
use Rattle.rr_expr.specs.Faults.{takes_constants}
use Rattle.rr_expr.specs.Operators.{infixes}
use Rattle.rr_flat.specs.Signals.{Text}
use Rattle.rr_flat.specs.Clocks.{is_among}
use Rattle.rr_flat.specs.Reads.{names_in, names_in_parts, names_of, names_of_all, names_of_arm, names_of_arms}
use Rattle.rr_flat.proofs.Bits.{or_left, or_right}
use Rattle.rr_choice.specs.declared.pick.Pick.{Pick}
use Rattle.rr_choice.specs.Choices.{picked_form, picked_name}
use Rattle.rr_choice.specs.Places.{find_pick, is_overwrite_at}
use Rattle.rr_instance.specs.Instances.{fresh, is_guard_of, gate, followed, instance_tree, instance_parts, instance_test, unsigned_number, instance_statement, instance_statements, instance_arm, instance_arms, overwritten, new_body, all_overwritten, instance_body}
use Rattle.rr_choice.specs.Sites as sites
use Rattle.rr_choice.specs.Sites.{SiteKind, Site}
use Rattle.rr_instance_laws.proofs.Rounds.{branch_has, found_names, Rounds, guard_term, test_has}

abbrev Any : Text → Type 0
Any name = Unit {0}

module _ (name : Text) where
  abbrev Among : List Identifier → Type 0
  Among xs = is_among name xs ≡ true

  among_left : (xs ys : List Identifier) → Among xs → Among (xs ++ ys)
  unfolding is_among
  among_left [] ys h = absurd (both_ways false refl h)
  among_left (x ∷ xs) ys h =
      ⊎_elim (λ e. or_left (bytes_eq name x.text) (is_among name (xs ++ ys)) e) (λ e. or_right (bytes_eq name x.text) (is_among name (xs ++ ys)) (among_left xs ys e))
      (or_cases (bytes_eq name x.text) (is_among name xs) h)

  among_right : (xs ys : List Identifier) → Among ys → Among (xs ++ ys)
  unfolding is_among
  among_right [] ys h = h
  among_right (x ∷ xs) ys h = or_right (bytes_eq name x.text) (is_among name (xs ++ ys)) (among_right xs ys h)

  among_parts : (xs ys : List Identifier) → Among (xs ++ ys) → Among xs ⊎ Among ys
  unfolding is_among
  among_parts [] ys h = inr h
  among_parts (x ∷ xs) ys h =
      ⊎_elim (λ e. inl (or_left (bytes_eq name x.text) (is_among name xs) e))
      (λ e. ⊎_elim (λ k. inl (or_right (bytes_eq name x.text) (is_among name xs) k)) (λ k. inr k) (among_parts xs ys e))
      (or_cases (bytes_eq name x.text) (is_among name (xs ++ ys)) h)

  grown : (xs ys us vs : List Identifier) → (Among xs → Among us) → (Among ys → Among vs) → Among (xs ++ ys) → Among (us ++ vs)
  grown xs ys us vs f g h = ⊎_elim (λ k. among_left us vs (f k)) (λ k. among_right us vs (g k)) (among_parts xs ys h)

  in_none : Among [] → ⊥
  unfolding is_among
  in_none h = both_ways false refl h

  abbrev StandsIn : Tree → Type 0
  StandsIn t = Among (names_in t)

  round_stands : (t : Tree) → StandsIn t → Rounds StandsIn Any t
  unfolding names_in
  round_stands t h = record { same = h; denied = h; joined = λ x p both plain. among_left (names_in t) (names_in (guard_term plain x)) h }

  module _ (ss : List Site) (ps : List Pick) where
    mutual
      unfolding names_in instance_tree

      stands : (t : Tree) → StandsIn t → StandsIn (instance_tree ss ps t)
      stands (Name token x) h = h
      stands (Literal token n) h = absurd (in_none h)
      stands (BitSelect token x i) h = h
      stands (Part token x l r) h = h
      stands (Indexed token x f n up) h = h
      stands (Unary op t) h = stands t h
      stands (Binary op l r) h =
          branch_has StandsIn (takes_constants (get_or infixes op Either)) (Binary op l r) (Binary op (instance_tree ss ps l) (instance_tree ss ps r))
          (λ e. h) (λ e. grown (names_in l) (names_in r) (names_in (instance_tree ss ps l)) (names_in (instance_tree ss ps r)) (stands l) (stands r) h)
      stands (Cond a b c) h =
          grown (names_in a) (names_in b ++ names_in c) (names_in (instance_test ss ps a)) (names_in (instance_tree ss ps b) ++ names_in (instance_tree ss ps c))
          (λ k. test_has StandsIn Any (find_pick (is_guard_of a) ss ps) (instance_tree ss ps a) (found_names Any (is_guard_of a) ss ps (λ x q. tt)) (round_stands (instance_tree ss ps a) (stands a k)))
          (grown (names_in b) (names_in c) (names_in (instance_tree ss ps b)) (names_in (instance_tree ss ps c)) (stands b) (stands c)) h
      stands (Concat ts) h = stand ts h
      stands (Repeat k ts) h = grown (names_in k) (names_in_parts ts) (names_in k) (names_in_parts (instance_parts ss ps ts)) (λ q. q) (stand ts) h
      stands (Cast signed t) h = stands t h
      stands (Paren t) h = stands t h

      stand : (ts : Trees) → Among (names_in_parts ts) → Among (names_in_parts (instance_parts ss ps ts))
      stand End h = h
      stand (More t ts) h = grown (names_in t) (names_in_parts ts) (names_in (instance_tree ss ps t)) (names_in_parts (instance_parts ss ps ts)) (stands t) (stand ts) h

    test_stands : (t : Tree) → StandsIn t → StandsIn (instance_test ss ps t)
    test_stands t h = test_has StandsIn Any (find_pick (is_guard_of t) ss ps) (instance_tree ss ps t) (found_names Any (is_guard_of t) ss ps (λ x q. tt)) (round_stands (instance_tree ss ps t) (stands t h))

    mutual
      unfolding names_of instance_statement

      stands_of : (t : Statement) → Among (names_of t) → Among (names_of (instance_statement ss ps t))
      stands_of Null h = h
      stands_of (Sequence label ts) h = stands_of_all ts h
      stands_of (If c t) h = grown (names_in c) (names_of t) (names_in (instance_test ss ps c)) (names_of (instance_statement ss ps t)) (test_stands c) (stands_of t) h
      stands_of (IfElse c t u) h =
          grown (names_in c) (names_of t ++ names_of u) (names_in (instance_test ss ps c)) (names_of (instance_statement ss ps t) ++ names_of (instance_statement ss ps u)) (test_stands c)
          (grown (names_of t) (names_of u) (names_of (instance_statement ss ps t)) (names_of (instance_statement ss ps u)) (stands_of t) (stands_of u)) h
      stands_of (Case kind on arms) h = grown (names_in on) (names_of_arms arms) (names_in (instance_tree ss ps on)) (names_of_arms (instance_arms ss ps arms)) (stands on) (stands_of_arms arms) h
      stands_of (Assign t now e) h = grown (names_in t) (names_in e) (names_in t) (names_in (instance_tree ss ps e)) (λ q. q) (stands e) h
      stands_of (For head t) h = h

      stands_of_all : (ts : Statements) → Among (names_of_all ts) → Among (names_of_all (instance_statements ss ps ts))
      stands_of_all Done h = h
      stands_of_all (Then t ts) h = grown (names_of t) (names_of_all ts) (names_of (instance_statement ss ps t)) (names_of_all (instance_statements ss ps ts)) (stands_of t) (stands_of_all ts) h

      stands_of_arm : (a : Arm) → Among (names_of_arm a) → Among (names_of_arm (instance_arm ss ps a))
      stands_of_arm (CaseItem labels colon t) h = grown (names_in_parts labels) (names_of t) (names_in_parts (instance_parts ss ps labels)) (names_of (instance_statement ss ps t)) (stand labels) (stands_of t) h

      stands_of_arms : (arms : Arms) → Among (names_of_arms arms) → Among (names_of_arms (instance_arms ss ps arms))
      stands_of_arms NoArms h = h
      stands_of_arms (MoreArms a rest) h = grown (names_of_arm a) (names_of_arms rest) (names_of_arm (instance_arm ss ps a)) (names_of_arms (instance_arms ss ps rest)) (stands_of_arm a) (stands_of_arms rest) h

  stands_longer : (test : Tree) (target : Text) (now : Bool) (value : Number) (t : Statement) → Among (names_of t) → Among (names_of (followed test target now value t))
  unfolding names_of
  stands_longer test target now value t h = among_left (names_of t) (names_of_all (Then (If test (Assign (Name fresh target) now (Literal fresh value))) Done)) h

  stands_overwritten : (k : SiteKind) (p : Pick) (t : Statement) → Among (names_of t) → Among (names_of (overwritten k p t))
  stands_overwritten (sites.Literal width signed) p t h = h
  stands_overwritten (sites.Guard owner extent names) p t h = h
  stands_overwritten (sites.Overwrite owner target width now names) p t h =
      stands_longer (gate (picked_form names p.form) (picked_name names p.name)) target now (unsigned_number width p.value) t h

  stands_new : (token : ℕ) (s : Site) (p : Pick) (t : Statement) → Among (names_of t) → Among (names_of (new_body token s p t))
  stands_new token s p t h = by_test (is_overwrite_at token s && p.on)
    where
      by_test : (on : Bool) → Among (names_of (if on then overwritten s.kind p t else t))
      by_test true = stands_overwritten s.kind p t h
      by_test false = h

  stands_in_all : (token : ℕ) (ss : List Site) (ps : List Pick) (t : Statement) → Among (names_of t) → Among (names_of (all_overwritten token ss ps t))
  unfolding all_overwritten
  stands_in_all token [] ps t h = h
  stands_in_all token (s ∷ ss) [] t h = h
  stands_in_all token (s ∷ ss) (p ∷ ps) t h = stands_in_all token ss ps (new_body token s p t) (stands_new token s p t h)

  pub stands_in_body : (ss : List Site) (ps : List Pick) (token : ℕ) (body : Statement) → Among (names_of body) → Among (names_of (instance_body ss ps token body))
  stands_in_body ss ps token body h = stands_in_all token ss ps (instance_statement ss ps body) (stands_of ss ps body h)
