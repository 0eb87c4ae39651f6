-- Formats: how a part of a tree is spelled, and how it is read from words.
use Rattle.std.specs.Prelude.{ℕ, zero, suc, ◌+◌, ◌≤◌, ◌<◌, ◌≡◌, List, [], ◌∷◌, ◌++◌, length, drop, map, Bool, true, false, if◌then◌else◌, ◌==◌, cond, Option, Some, None, ◌⊎◌}
use Rattle.std.specs.List.{AllByRecursion}
use Rattle.rr_syntax.specs.declared.token.Token.{Token}
use Rattle.rr_syntax.specs.Words.{Word, Marked, Reserved, words, mark_comma}
use Rattle.rr_syntax.specs.Items.{spell_all, spell_each, spell_separated, NumberedAll, NumberedEach, NumberedSeparated}
use Rattle.rr_parse_expr.specs.Reading.{Found, mapped, chain, mark, rest, expect}
use Rattle.rr_parse_stmt.specs.Reading.{keyword}

-- a class of parts: the words that spell one, the same without token numbers, the rules of good ones, the numbers of its tokens
-- where the first is number `at`, the words that may stand behind one, and what is read
pub record Format (A : Type 0) : Type 1 where
  pub spell : A → List Word
  pub bare : A → A
  pub Good : A → Type 0
  pub Numbered : A → ℕ → Type 0
  pub Before : List Word → Type 0
  pub read : List Word → Found A

-- reading finds each good part; what it finds is good, has no token numbers, and is spelled by the words that were taken
pub record IsExact {A : Type 0} (F : Format A) : Type 0 where
  pub finds : (a : A) → F.Good a → (left : List Word) → F.Before left → F.read (F.spell a ++ left) ≡ Some (F.bare a, left)
  pub good : (ws : List Word) (p : A × List Word) → F.read ws ≡ Some p → F.Good p.0
  pub bared : (ws : List Word) (p : A × List Word) → F.read ws ≡ Some p → F.bare p.0 ≡ p.0
  pub spelled : (ws : List Word) (p : A × List Word) → F.read ws ≡ Some p → ws ≡ F.spell p.0 ++ p.1

abbrev pub Anything : List Word → Type 0
Anything ws = Unit {0}

-- one part and then another
abbrev pub both : {A B : Type 0} → Format A → Format B → Format (A × B)
both F G = record {
  spell = λ x. F.spell x.0 ++ G.spell x.1;
  bare = λ x. (F.bare x.0, G.bare x.1);
  Good = λ x. F.Good x.0 × G.Good x.1;
  Numbered = λ x at. F.Numbered x.0 at × G.Numbered x.1 (at + length (F.spell x.0));
  Before = G.Before;
  read = λ ws. chain (F.read ws) (λ a left. mapped (λ b. (a, b)) (G.read left));
}

-- a part with this mark before it
abbrev pub after_mark : {A : Type 0} → ℕ → Format A → Format A
after_mark m F = record {
  spell = λ a. Marked m ∷ F.spell a;
  bare = F.bare;
  Good = F.Good;
  Numbered = λ a at. F.Numbered a (at + 1);
  Before = F.Before;
  read = expect m F.read;
}

-- a part with this reserved word before it
abbrev pub after_word : {A : Type 0} → ℕ → Format A → Format A
after_word k F = record {
  spell = λ a. Reserved k ∷ F.spell a;
  bare = F.bare;
  Good = F.Good;
  Numbered = λ a at. F.Numbered a (at + 1);
  Before = F.Before;
  read = λ ws. if keyword ws == k then F.read (rest ws) else None;
}

-- a part with this reserved word behind it
abbrev pub before_word : {A : Type 0} → Format A → ℕ → Format A
before_word F k = record {
  spell = λ a. F.spell a ++ (Reserved k ∷ []);
  bare = F.bare;
  Good = F.Good;
  Numbered = F.Numbered;
  Before = Anything;
  read = λ ws. chain (F.read ws) (λ a left. if keyword left == k then Some (a, rest left) else None);
}

-- the number of a token, which no word spells
abbrev pub position : Format ℕ
position = record {
  spell = λ n. [];
  bare = λ n. 0;
  Good = λ n. Unit {0};
  Numbered = λ n at. n ≡ at;
  Before = Anything;
  read = λ ws. Some (0, ws);
}

-- a part with this mark behind it
abbrev pub before_mark : {A : Type 0} → Format A → ℕ → Format A
before_mark F m = record {
  spell = λ a. F.spell a ++ (Marked m ∷ []);
  bare = F.bare;
  Good = F.Good;
  Numbered = F.Numbered;
  Before = Anything;
  read = λ ws. chain (F.read ws) (λ a left. expect m (λ after. Some (a, after)) left);
}

-- the same parts in another shape
abbrev pub shaped : {A B : Type 0} → Format A → (A → B) → (B → A) → Format B
shaped F g h = record {
  spell = λ b. F.spell (h b);
  bare = λ b. g (F.bare (h b));
  Good = λ b. F.Good (h b);
  Numbered = λ b. F.Numbered (h b);
  Before = F.Before;
  read = λ ws. mapped g (F.read ws);
}

-- the same parts, whose words, form without token numbers and numbers are said otherwise
abbrev pub respelled : {A : Type 0} → Format A → (A → List Word) → (A → A) → (A → ℕ → Type 0) → Format A
respelled F spell bare Numbered = record {
  spell = spell;
  bare = bare;
  Good = F.Good;
  Numbered = Numbered;
  Before = F.Before;
  read = F.read;
}

-- the parts that pass a test
abbrev pub guarded : {A : Type 0} → Format A → (A → Bool) → Format A
guarded F t = record {
  spell = F.spell;
  bare = F.bare;
  Good = λ a. F.Good a × (t a ≡ true);
  Numbered = F.Numbered;
  Before = F.Before;
  read = λ ws. chain (F.read ws) (λ a left. if t a then Some (a, left) else None);
}

-- the same parts before fewer words
abbrev pub narrowed : {A : Type 0} → Format A → (List Word → Type 0) → Format A
narrowed F Before = record {
  spell = F.spell;
  bare = F.bare;
  Good = F.Good;
  Numbered = F.Numbered;
  Before = Before;
  read = F.read;
}

-- goes on with what was found, or else keeps what was there
unfoldable pub or_else : {A B : Type 0} → Found A → Found B → (A → List Word → Found B) → Found B
or_else None old k = old
or_else (Some p) old k = k p.0 p.1

-- the parts behind those that are there, each after a comma
unfoldable pub more : {A : Type 0} → (List Word → Found A) → ℕ → List A → List Word → Found (List A)
more r zero have ws = Some (have, ws)
more r (suc fuel) have ws = or_else (expect mark_comma r ws) (Some (have, ws)) (λ a left. more r fuel (have ++ (a ∷ [])) left)

unfoldable pub some_of : {A : Type 0} → (List Word → Found A) → List Word → Found (List A)
some_of r ws = chain (r ws) (λ a left. more r (suc (length left)) (a ∷ []) left)

-- one part or more, with commas between
abbrev pub list : {A : Type 0} → Format A → Format (List A)
list F = record {
  spell = spell_separated F.spell;
  bare = map F.bare;
  Good = λ xs. (0 < length xs) × AllByRecursion F.Good xs;
  Numbered = NumberedSeparated F.spell F.Numbered;
  Before = λ ws. F.Before ws × (expect mark_comma F.read ws ≡ None);
  read = some_of F.read;
}

-- the parts behind those that are there
unfoldable pub again : {A : Type 0} → (List Word → Found A) → ℕ → List A → List Word → Found (List A)
again r zero have ws = Some (have, ws)
again r (suc fuel) have ws = or_else (r ws) (Some (have, ws)) (λ a left. again r fuel (have ++ (a ∷ [])) left)

unfoldable pub any_of : {A : Type 0} → (List Word → Found A) → List Word → Found (List A)
any_of r ws = again r (suc (length ws)) [] ws

-- any number of parts, with nothing between
abbrev pub repeated : {A : Type 0} → Format A → Format (List A)
repeated F = record {
  spell = spell_all F.spell;
  bare = map F.bare;
  Good = AllByRecursion F.Good;
  Numbered = NumberedAll F.spell F.Numbered;
  Before = λ ws. F.Before ws × (F.read ws ≡ None);
  read = any_of F.read;
}

-- one of two forms, by what stands at the front; both spell a part alike
abbrev pub choose : {A : Type 0} → (List Word → Bool) → Format A → Format A → Format A
choose t F G = record {
  spell = F.spell;
  bare = F.bare;
  Good = λ a. F.Good a ⊎ G.Good a;
  Numbered = F.Numbered;
  Before = λ ws. F.Before ws × G.Before ws;
  read = λ ws. if t ws then F.read ws else G.read ws;
}

-- the numbers of what stands behind a mark, where those of the whole are said from the mark on
abbrev pub behind_mark : {A : Type 0} → (A → ℕ → Type 0) → A → ℕ → Type 0
behind_mark N a next = (at : ℕ) → at + 1 ≡ next → N a at

-- parts of another type, by these words
abbrev pub imaged : {A B : Type 0} → Format A → (A → B) → (B → List Word) → (B → B) → (B → Type 0) → (B → ℕ → Type 0) → Format B
imaged F g spell bare Good Numbered = record {
  spell = spell;
  bare = bare;
  Good = Good;
  Numbered = Numbered;
  Before = F.Before;
  read = λ ws. mapped g (F.read ws);
}

-- what makes it exact: each good part comes from a good one, with its words, and each good one gives a good part
pub record IsImage {A B : Type 0} (F : Format A) (g : A → B) (spell : B → List Word) (bare : B → B) (Good : B → Type 0) : Type 0 where
  pub from : (b : B) → Good b → A
  pub from_good : (b : B) (w : Good b) → F.Good (from b w)
  pub from_is : (b : B) (w : Good b) → g (from b w) ≡ b
  pub good : (a : A) → F.Good a → Good (g a)
  pub spelled : (a : A) → F.Good a → spell (g a) ≡ F.spell a
  pub bared : (a : A) → bare (g a) ≡ g (F.bare a)

-- nothing
abbrev pub nothing_of : {A : Type 0} → A → Format A
nothing_of a = record {
  spell = λ x. [];
  bare = λ x. x;
  Good = λ x. x ≡ a;
  Numbered = λ x at. Unit {0};
  Before = Anything;
  read = λ ws. Some (a, ws);
}

-- the part `a` was read from the token `begin` on, and ends before the token `next`
pub record Finds {A : Type 0} (F : Format A) (tokens : List Token) (begin : ℕ) (a : A) (next : ℕ) : Type 0 where
  pub found_is : F.read (drop begin (words tokens)) ≡ Some (F.bare a, drop next (words tokens))
  pub within : next ≤ length tokens
  pub taken : next ≡ begin + length (F.spell a)
  pub numbered : F.Numbered a begin

-- no part is found at the token `begin`
pub record FindsNone {A : Type 0} (F : Format A) (tokens : List Token) (begin : ℕ) : Type 0 where
  pub none_is : F.read (drop begin (words tokens)) ≡ None
