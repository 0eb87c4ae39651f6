-- The kept sites make a list, one after the other.
use Rattle.std.proofs.Common.{◌≡◌, ℕ, ◌+◌, ◌<◌, ◌≤◌, Bool, true, false, cond, List, [], ◌∷◌, ◌++◌, length, take, get_or, refl, sym, ◌∙◌, ap, subst, append-nil}
use Rattle.std.specs.List.{filter}
use Rattle.std.proofs.lemmas.List.{take_all, take_more, map-append}
use Rattle.std.proofs.lemmas.List.Elements.{All-filter}
use Rattle.std.proofs.lemmas.List.Kept.{IsNonDecreasingBy-filter}
use Rattle.rr_syntax.specs.declared.site.Site.{Site as ArenaSite}
use Rattle.rr_syntax.specs.Tree.{SourceText}
use Rattle.rr_directive.specs.declared.origin.Origin.{Origin}
use Rattle.rr_lex.specs.Tokens.{Lexeme}
use Rattle.rr_choice.specs.Sites.{Site, IsSite, IsSiteList}
use Rattle.rr_choice.specs.View.{plain_site, plain_sites}
use Rattle.rr_kept.specs.Kept.{is_kept, body_length_in}

pub listed_filter : (p : Site → Bool) (ss : List Site) → IsSiteList ss → IsSiteList (filter p ss)
listed_filter p ss g = record { each = All-filter p IsSite ss g.each; rising = IsNonDecreasingBy-filter (λ (s : Site). s.token) p ss g.rising }

filter_last : (p : Site → Bool) (xs : List Site) (x : Site) → filter p (xs ++ (x ∷ [])) ≡ filter p xs ++ cond (p x) (x ∷ []) []
filter_last p [] x = by_test (p x)
  where
    by_test : (c : Bool) → cond c (x ∷ []) [] ≡ [] ++ cond c (x ∷ []) []
    by_test true = refl
    by_test false = refl
filter_last p (y ∷ xs) x = by_test (p y) (filter_last p xs x)
  where
    by_test : (c : Bool) → filter p (xs ++ (x ∷ [])) ≡ filter p xs ++ cond (p x) (x ∷ []) [] → cond c (y ∷ filter p (xs ++ (x ∷ []))) (filter p (xs ++ (x ∷ []))) ≡ cond c (y ∷ filter p xs) (filter p xs) ++ cond (p x) (x ∷ []) []
    by_test true h = ap (λ (l : List Site). y ∷ l) h
    by_test false h = h

module _ (origins : List Origin) (ts : List Lexeme) (size : ℕ → ℕ) where
  -- sites are those of a list that are kept, whatever source has bodies of these sizes
  abbrev pub KeptOf : List ArenaSite → List ArenaSite → Type 0
  KeptOf list sites = (source : SourceText) → ((k : ℕ) → size k ≡ body_length_in source k) → plain_sites sites ≡ filter (is_kept origins ts source) (plain_sites list)

  -- whether a site is
  abbrev pub TellsKept : ArenaSite → Bool → Type 0
  TellsKept s told = (source : SourceText) → ((k : ℕ) → size k ≡ body_length_in source k) → told ≡ is_kept origins ts source (plain_site s)

  pub kept_start : KeptOf [] []
  kept_start source h = refl

  one_more : (p : Site → Bool) (list : List ArenaSite) (i : ℕ) (d : ArenaSite) → i < length list →
      filter p (plain_sites (take (i + 1) list)) ≡ filter p (plain_sites (take i list)) ++ cond (p (plain_site (get_or list i d))) (plain_site (get_or list i d) ∷ []) []
  one_more p list i d l =
      let x : ArenaSite = get_or list i d in
      ap (λ (l : List ArenaSite). filter p (plain_sites l)) (take_more list i d l) ∙ ap (filter p) (map-append plain_site (take i list) (x ∷ [])) ∙ filter_last p (plain_sites (take i list)) (plain_site x)

  pub kept_yes : (list sites : List ArenaSite) (i : ℕ) (d : ArenaSite) → i < length list → KeptOf (take i list) sites → TellsKept (get_or list i d) true → KeptOf (take (i + 1) list) (sites ++ (get_or list i d ∷ []))
  kept_yes list sites i d l h t source b =
      let x : ArenaSite = get_or list i d in
      map-append plain_site sites (x ∷ []) ∙ ap (λ (l : List Site). l ++ (plain_site x ∷ [])) (h source b)
      ∙ sym (one_more (is_kept origins ts source) list i d l
      ∙ ap (λ c. filter (is_kept origins ts source) (plain_sites (take i list)) ++ cond c (plain_site x ∷ []) []) (sym (t source b)))

  pub kept_no : (list sites : List ArenaSite) (i : ℕ) (d : ArenaSite) → i < length list → KeptOf (take i list) sites → TellsKept (get_or list i d) false → KeptOf (take (i + 1) list) sites
  kept_no list sites i d l h t source b =
      let x : ArenaSite = get_or list i d in
      h source b
      ∙ sym (one_more (is_kept origins ts source) list i d l
      ∙ ap (λ c. filter (is_kept origins ts source) (plain_sites (take i list)) ++ cond c (plain_site x ∷ []) []) (sym (t source b))
      ∙ append-nil (filter (is_kept origins ts source) (plain_sites (take i list))))

  pub kept_full : (list sites : List ArenaSite) (i : ℕ) → length list ≤ i → KeptOf (take i list) sites → KeptOf list sites
  kept_full list sites i l h = subst (λ (xs : List ArenaSite). KeptOf xs sites) (take_all i list l) h
