-- The source text that was read is the one that the tokens spell, and where none was read, none is spelled.
use Rattle.std.proofs.Common.{◌≡◌, ℕ, List, [], length, drop, map, ap, ◌∙◌, sym, arith, Some, None, append-nil, length-drop, subst}
use Rattle.rr_syntax.specs.declared.token.Token.{Token}
use Rattle.rr_syntax.specs.declared.tree.Source.{Source}
use Rattle.rr_syntax.specs.Words.{Word, words}
use Rattle.rr_syntax.specs.Tree.{ModuleDeclaration, SourceText, bare_module, bare_source}
use Rattle.rr_syntax.specs.Items.{spell_module, spell_source, spell_all, WellFormedSource, depth_source, NumberedSource}
use Rattle.rr_syntax.specs.View.{plain_module, plain_source}
use Rattle.rr_syntax.proofs.BareItems.{spell_source-bare, WellFormedSource-bare, depth_source-bare}
use Rattle.rr_parse_expr.proofs.TokenWords.{length_words, words_past}
use Rattle.rr_grammar.specs.Formats.{Finds, FindsNone}
use Rattle.rr_grammar.specs.ModuleForms.{modules}
use Rattle.rr_grammar.proofs.Goods.{modules_good}
use Rattle.rr_grammar.proofs.ModulesExact.{modules_exact, no_module}
use Rattle.rr_grammar.specs.Trees.{SpellsShallow, NoneSpells}
use Rattle.rr_parse.specs.Exact.{IsSpelled, NotSpelled}
use Rattle.rr_parse.proofs.Backs.{modules_back}
use Rattle.rr_parse_expr.specs.declared.expression.ParseFault.{ParseFault}
use Rattle.rr_parse_expr.specs.declared.expression.ParseFault.TheVariants.{Unsupported, Syntax, Memory}
use Rattle.rr_parse.specs.Answer.{Misses}

-- the tokens are read in full
read_in_full : (T : List Token) (ms : List ModuleDeclaration) (next : ℕ) → next ≡ length T → Finds (modules 498 497) T 0 ms next → (modules 498 497).read (words T) ≡ Some (map bare_module ms, [])
read_in_full T ms next e f = f.found_is ∙ ap (λ (us : List Word). Some (map bare_module ms, us)) (words_past T next (omega (arith, e)))

pub spelled_source : (T : List Token) (s : Source) (next : ℕ) → next ≡ length T → Finds (modules 498 497) T 0 (map plain_module s.modules.now) next → IsSpelled T s
unfolding plain_source WellFormedSource depth_source spell_source NumberedSource bare_source
spelled_source T s next e f =
    let ms = map plain_module s.modules.now in
    let t : SourceText = plain_source s in
    let r = read_in_full T ms next e f in
    let x = modules_exact 498 497 in
    let b = modules_back 498 497 499 (omega arith) (omega arith) (map bare_module ms) (x.good (words T) (map bare_module ms, []) r) in
    record {
      tree = record {
        spells = record {
          well = subst (λ (P : Type 0). P) (WellFormedSource-bare t) b.0;
          spelled = sym (x.spelled (words T) (map bare_module ms, []) r ∙ append-nil (spell_all spell_module (map bare_module ms)) ∙ spell_source-bare t);
        };
        shallow = omega (arith, b.1, depth_source-bare t);
      };
      numbered = f.numbered;
    }

-- what the tokens spell is read
spelled_read : (T : List Token) (t : SourceText) → SpellsShallow (words T) t → (modules 498 497).read (words T) ≡ Some (map bare_module t.modules, [])
unfolding WellFormedSource depth_source spell_source
spelled_read T t h =
    let m = modules_good 498 497 t.modules h.spells.well (omega (arith, h.shallow)) (omega (arith, h.shallow)) in
    ap (modules 498 497).read (sym h.spells.spelled ∙ sym (append-nil (spell_all spell_module t.modules))) ∙ (modules_exact 498 497).finds t.modules m [] (tt, no_module 498 497)

-- words are left
pub not_in_full : (T : List Token) (ms : List ModuleDeclaration) (next : ℕ) → (next ≡ length T → ⊥) → Finds (modules 498 497) T 0 ms next → NoneSpells (words T)
not_in_full T ms next h f t s =
    let e : Some (map bare_module ms, drop next (words T)) ≡ Some (map bare_module t.modules, []) = sym f.found_is ∙ spelled_read T t s in
    let q : (map bare_module ms, drop next (words T)) ≡ (map bare_module t.modules, []) = cc e in
    let n : drop next (words T) ≡ [] = ap (λ (x : List ModuleDeclaration × List Word). x.1) q in
    h (omega (arith, f.within, length-drop next (words T), length_words T, ap length n))

pub none_in_full : (T : List Token) → FindsNone (modules 498 497) T 0 → NoneSpells (words T)
none_in_full T n t s = let e : Some (map bare_module t.modules, []) ≡ None = sym (spelled_read T t s) ∙ n.none_is in absurd (cc e)

pub missed_source : (T : List Token) (e : ParseFault) → Misses (modules 498 497) T 0 e → NotSpelled T e
missed_source T (Syntax at) n = none_in_full T n
missed_source T (Unsupported at) n = n
missed_source T Memory n = n
