-- A text has one reading.
use Rattle.std.proofs.Common.{◌≡◌, ◌⊎◌, inl, inr, ℕ, List, [], ◌∷◌, ◌++◌, Option, Some, None, refl, sym, ◌∙◌, ap, subst, append_assoc, append-nil}
use Rattle.rr_vcd_text.specs.Words.{Word, words, last_line}
use Rattle.rr_vcd_text.specs.Dump as dump
use Rattle.rr_vcd_text.specs.Dump.{Declared, Told, nothing, Head, Body, EndsHead, IsDumpFrom, IsDump}
use Rattle.rr_vcd_text.specs.Breaks.{IsFront, IsBrokenAt, breaks, unended, IsRest, AreWhole, IsBadAt, broken, headless}
use Rattle.rr_vcd_text.specs.Steps.{Step, Empty, Further, Ended, declare}
use Rattle.rr_vcd_text.proofs.Bodies.{one_body}
use Rattle.rr_vcd_text.proofs.Declaring.{HeadOpened, empty, further, head_opened, RestOpened, rest_goes_on, rest_ends, rest_opened, rest_more, further_at, ended_at}
use Rattle.rr_vcd_text.proofs.Heads.{finish, finishes}

pub record Same (d e : Declared) (told again : List Told) : Type 0 where
  pub declared : d ≡ e
  pub tells : told ≡ again

one_rest : (before d : Declared) (head : List Word) → Head before head d → (ends body : List Word) (told : List Told) → EndsHead ends → Body d None body told → (e : Declared) (again : List Told)
    → IsDumpFrom before (head ++ (ends ++ body)) e again → Same d e told again
one_rest before d head (dump.done _) ends body told h b e again x = elim (rest_opened before (ends ++ body) e again x) [
  | rest_goes_on g s p y ↦ let q = ended_at before ends h body in cc
  | rest_ends s p u c ↦
      let q = ended_at before ends h body in
      let same : s ≡ body = cc in
      let other : Body before None body again = subst (λ z. Body z None body again) (sym u) (subst (λ z. Body e None z again) same c) in
      record { declared = u; tells = one_body before None body told again b other }
]
one_rest before d head (dump.further _ f _ cs more h others) ends body told eh b e again x =
    let assoc = append_assoc cs more (ends ++ body) in
    elim (rest_opened before (cs ++ (more ++ (ends ++ body))) e again (subst (λ z. IsDumpFrom before z e again) assoc x)) [
      | rest_goes_on g s p y ↦
          let q = further_at before f cs h (more ++ (ends ++ body)) in
          let same : s ≡ more ++ (ends ++ body) = cc in
          let into : g ≡ f = cc in
          one_rest f d more others ends body told eh b e again (subst (λ z. IsDumpFrom z (more ++ (ends ++ body)) e again) into (subst (λ z. IsDumpFrom g z e again) same y))
      | rest_ends s p u c ↦ let q = further_at before f cs h (more ++ (ends ++ body)) in cc
    ]

pub one_dump : (bytes : List ℕ) (d e : Declared) (told again : List Told) → IsDump bytes d told → IsDump bytes e again → Same d e told again
one_dump bytes d e told again x y = one_rest nothing d x.head x.declares x.ends x.body told x.enddefinitions x.tells e again (subst (λ z. IsDumpFrom nothing z e again) x.whole y)

-- a front of words that can go on can go on too
front_less : (Is : List Word → Type 0) (ws more : List Word) → IsFront Is (ws ++ more) → IsFront Is ws
front_less Is ws more (rest, is) = (more ++ rest, subst Is (append_assoc ws more rest) is)

head_goes_on : (d e : Declared) (ws : List Word) → Head d ws e → IsRest d (ws ++ finish)
head_goes_on d e ws (dump.done _) = finishes d
head_goes_on d e ws (dump.further _ f _ cs more h others) =
    let r = head_goes_on f e more others in
    (r.0, (r.1.0, subst (λ z. IsDumpFrom d z r.0 r.1.0) (sym (append_assoc cs more finish)) (rest_more d f cs (more ++ finish) r.0 r.1.0 h r.1.1)))

-- words of a whole head are no dump
no_head_and_rest : (d e : Declared) (ws : List Word) → Head d ws e → IsRest d ws → ⊥
no_head_and_rest d e ws (dump.done _) (f, (told, x)) = elim (rest_opened d [] f told x) [
  | rest_goes_on g s p y ↦ cc
  | rest_ends s p u c ↦ cc
]
no_head_and_rest d e ws (dump.further _ g _ cs more h others) (f, (told, x)) = elim (rest_opened d (cs ++ more) f told x) [
  | rest_goes_on k s p y ↦
      let q = further_at d g cs h more in
      let same : s ≡ more = cc in
      let into : k ≡ g = cc in
      no_head_and_rest g e more others (f, (told, subst (λ z. IsDumpFrom z more f told) into (subst (λ z. IsDumpFrom k z f told) same y)))
  | rest_ends s p u c ↦ let q = further_at d g cs h more in cc
]

whole_not_broken : (ws : List Word) (line : ℕ) → AreWhole nothing ws → IsBrokenAt (AreWhole nothing) (IsRest nothing) ws line → ⊥
whole_not_broken ws line whole (breaks front w more e f never l) =
    let all : (front ++ w ∷ []) ++ more ≡ ws = append_assoc front (w ∷ []) more ∙ sym e in
    never (front_less (IsRest nothing) (front ++ w ∷ []) more (subst (IsFront (IsRest nothing)) (sym all) (goes_on whole)))
  where
    goes_on : AreWhole nothing ws → IsFront (IsRest nothing) ws
    goes_on (inl (d, h)) = (finish, head_goes_on nothing d ws h)
    goes_on (inr r) = ([], subst (IsRest nothing) (sym (append-nil ws)) r)
whole_not_broken ws line whole (unended front w more e f g never l) = never more [] (sym (append-nil more)) (subst (AreWhole nothing) e whole)

pub dump_or_line : (bytes : List ℕ) (d : Declared) (told : List Told) (line : ℕ) → IsDump bytes d told → IsBadAt bytes line → ⊥
dump_or_line bytes d told line x (broken b) = whole_not_broken (words bytes) line (inr (d, (told, x))) b
dump_or_line bytes d told line x (headless e h l) = no_head_and_rest nothing e (words bytes) h (d, (told, x))

-- two places in the same words: one is not behind the other
pub data Places (front : List Word) (w : Word) (front' : List Word) (w' : Word) : Type 0 where
  same : front ≡ front' → w ≡ w' → Places front w front' w'
  before : (more : List Word) → front' ≡ front ++ w ∷ more → Places front w front' w'
  behind : (more : List Word) → front ≡ front' ++ w' ∷ more → Places front w front' w'

places : (front : List Word) (w : Word) (rest front' : List Word) (w' : Word) (rest' : List Word) → front ++ w ∷ rest ≡ front' ++ w' ∷ rest' → Places front w front' w'
places [] w rest [] w' rest' e = same refl cc
places [] w rest (x ∷ xs) w' rest' e = let h : w ≡ x = cc in before xs (ap (λ y. y ∷ xs) (sym h))
places (x ∷ xs) w rest [] w' rest' e = let h : x ≡ w' = cc in behind xs (ap (λ y. y ∷ xs) h)
places (x ∷ xs) w rest (y ∷ ys) w' rest' e =
    let heads : x ≡ y = cc in
    let tails : xs ++ w ∷ rest ≡ ys ++ w' ∷ rest' = cc in
    elim (places xs w rest ys w' rest' tails) [
      | same p q ↦ let both : x ∷ xs ≡ y ∷ ys = cc in same both q
      | before more p ↦ before more (ap (λ z. z ∷ ys) (sym heads) ∙ ap (λ z. x ∷ z) p)
      | behind more p ↦ behind more (ap (λ z. z ∷ xs) heads ∙ ap (λ z. y ∷ z) p)
    ]

-- what stands behind a front that ends before
tail_of : (front : List Word) (w : Word) (more rest : List Word) (w' : Word) (rest' : List Word) → front ++ w ∷ rest ≡ (front ++ w ∷ more) ++ w' ∷ rest' → rest ≡ more ++ w' ∷ rest'
tail_of [] w more rest w' rest' e = cc
tail_of (x ∷ xs) w more rest w' rest' e = let tails : xs ++ w ∷ rest ≡ (xs ++ w ∷ more) ++ w' ∷ rest' = cc in tail_of xs w more rest w' rest' tails

one_place : (ws : List Word) (line other : ℕ) → IsBrokenAt (AreWhole nothing) (IsRest nothing) ws line → IsBrokenAt (AreWhole nothing) (IsRest nothing) ws other → line ≡ other
one_place ws line other (breaks front w more e f never l) (breaks front' w' more' e' f' never' l') = elim (places front w more front' w' more' (sym e ∙ e')) [
  | same p q ↦ l ∙ (ap (λ x. x.line) q ∙ sym l')
  | before xs p ↦ absurd (never (front_less (IsRest nothing) (front ++ w ∷ []) xs (subst (IsFront (IsRest nothing)) (p ∙ sym (append_assoc front (w ∷ []) xs)) f')))
  | behind xs p ↦ absurd (never' (front_less (IsRest nothing) (front' ++ w' ∷ []) xs (subst (IsFront (IsRest nothing)) (p ∙ sym (append_assoc front' (w' ∷ []) xs)) f)))
]
one_place ws line other (breaks front w more e f never l) (unended front' w' more' e' whole f' never' l') =
    absurd (never (front_less (IsRest nothing) (front ++ w ∷ []) more (subst (IsFront (IsRest nothing)) (e ∙ sym (append_assoc front (w ∷ []) more)) f')))
one_place ws line other (unended front w more e whole f never l) (breaks front' w' more' e' f' never' l') =
    absurd (never' (front_less (IsRest nothing) (front' ++ w' ∷ []) more' (subst (IsFront (IsRest nothing)) (e' ∙ sym (append_assoc front' (w' ∷ []) more')) f)))
one_place ws line other (unended front w more e whole f never l) (unended front' w' more' e' whole' f' never' l') = elim (places front w more front' w' more' (sym e ∙ e')) [
  | same p q ↦ l ∙ (ap (λ x. x.line) q ∙ sym l')
  | before xs p ↦
      let t = tail_of front w xs more w' more' (sym e ∙ (e' ∙ ap (λ x. x ++ w' ∷ more') p)) in
      absurd (never xs (w' ∷ more') t (subst (AreWhole nothing) p whole'))
  | behind xs p ↦
      let t = tail_of front' w' xs more' w more (sym e' ∙ (e ∙ ap (λ x. x ++ w ∷ more) p)) in
      absurd (never' xs (w ∷ more) t (subst (AreWhole nothing) p whole))
]

pub one_line : (bytes : List ℕ) (line other : ℕ) → IsBadAt bytes line → IsBadAt bytes other → line ≡ other
one_line bytes line other (broken b) (broken c) = one_place (words bytes) line other b c
one_line bytes line other (broken b) (headless e h l) = absurd (whole_not_broken (words bytes) line (inl (e, h)) b)
one_line bytes line other (headless d h l) (broken c) = absurd (whole_not_broken (words bytes) other (inl (d, h)) c)
one_line bytes line other (headless d h l) (headless e g m) = l ∙ sym m
