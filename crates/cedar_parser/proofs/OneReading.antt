-- No text is read in two ways.
use Rattle.std.proofs.Common.{◌≡◌, refl, sym, ap, subst, ◌∙◌, ℕ, ◌<◌, List, [], ◌∷◌, length, Ok, Err, arith}
use Rattle.cedar_ext.specs.declared.language.Language.{Language}
use Rattle.cedar_ext.specs.declared.language.Language.TheVariants.{Cedar4}
use Rattle.cedar_ast.specs.PolicySetTree.{PolicySetTree, no_policies}
use Rattle.cedar_text.specs.Lexeme.{Lexemes}
use Rattle.cedar_text.specs.Tokens.{AreTokens}
use Rattle.cedar_text.specs.Normal.{normal as normal_lexemes}
use Rattle.cedar_parser_tokens.specs.Marks.{Marks, AreMarks, IsMarked, IsNormallyMarked}
use Rattle.cedar_parser_tokens.specs.Reading.{Syntax, TooDeep, Outcome}
use Rattle.cedar_parser_tokens.proofs.MarkLemmas.{OneSpelling, marks_same, all_same}
use Rattle.cedar_parser_statements.specs.Statements.{Statement, Statements, end, next}
use Rattle.cedar_parser_tree.specs.StatementTree.{StatementTree}
use Rattle.cedar_parser_statements.specs.StatementReading as r
use Rattle.cedar_parser_expressions.proofs.Moves.{shorter}
use Rattle.cedar_parser_statements.proofs.StatementMoves.{statement_moves}
use Rattle.cedar_parser_statements.proofs.StatementsComplete.{statement_same, statement_none, statement_too_deep}
use Rattle.cedar_parser_limits.specs.StatementMeaning.{entered_from}
use Rattle.cedar_parser.specs.PolicyText.{ArePolicies, NoPolicies, IsRead, IsPolicyText, written, normal}
use Rattle.cedar_parser.proofs.TextLemmas.{comes_next}
use Rattle.cedar_parser.proofs.Refusals.{nothing_behind}
use Rattle.cedar_parser.proofs.WidestTexts.{policies_in_widest}

statement_one : (ts us vs : Marks) (s t : StatementTree) → Statement 101 ts s us → Statement 101 ts t vs → (s ≡ t) × (us ≡ vs)
statement_one ts us vs s t h g = by (r.statement 101 ts) refl
  where
    by : (o : Outcome StatementTree) → r.statement 101 ts ≡ o → (s ≡ t) × (us ≡ vs)
    by (Ok p) e =
        let a = statement_same 101 101 ts s p.0 us p.1 h e in
        let b = statement_same 101 101 ts t p.0 vs p.1 g e in
        (sym a.0 ∙ b.0, sym a.1 ∙ b.1)
    by (Err Syntax) e = absurd (statement_none 101 101 ts s us h e)
    by (Err TooDeep) e = absurd (statement_too_deep 101 ts s us h e)

statements_one : (ts : Marks) (ss xs : List StatementTree) → Statements 101 ts ss [] → Statements 101 ts xs [] → ss ≡ xs
statements_one ts _ xs end g = sym (nothing_behind 101 [] xs refl g)
statements_one ts _ xs (next {us = us} {s = s} {ss = ss} i h) g =
    let less = shorter (statement_moves 101 _ _ _ i) in
    let some : 0 < length ts = omega arith in
    let c = comes_next 101 ts xs some g in
    let p = statement_one ts us c.rest s c.first i c.reading in
    let same = statements_one us ss c.others h (subst (λ (ms : Marks). Statements 101 ms c.others []) (sym p.1) c.readings) in
    (λ k. p.0 k ∷ same k) ∙ sym c.whole

set_one : (l m : Language) (ts : Marks) (set other : PolicySetTree) → ArePolicies l ts [] set → ArePolicies m ts [] other → set ≡ other
set_one l m ts set other h g = h.meaning ∙ ap (entered_from no_policies 0) (statements_one ts h.statements g.statements h.reading g.reading) ∙ sym g.meaning

-- ---- the tokens

module _ (lists : (source : List ℕ) (ts us : Lexemes) → AreTokens source ts → AreTokens source us → ts ≡ us) (spellings : OneSpelling) where
  marked_one : (source : List ℕ) (ts us : Marks) → IsMarked source ts → IsMarked source us → ts ≡ us
  marked_one source ts us a b = all_same spellings a.0 ts us {source = source} (λ ls t. lists source a.0 ls a.1 t) a.2 b

  pub normal_one : (source : List ℕ) (ts us : Marks) → IsNormallyMarked source ts → IsNormallyMarked source us → ts ≡ us
  normal_one source ts us a b =
      marks_same spellings (normal_lexemes a.0) ts us a.2 (subst (λ (ls : Lexemes). AreMarks (normal_lexemes ls) us) (lists source b.0 a.0 b.1 a.1) b.2)

  -- a text that has policies by its tokens has none by its normal ones
  written_alone : (l : Language) (source : List ℕ) (ts us : Marks) (set : PolicySetTree) → IsMarked source ts → ArePolicies l ts [] set → IsMarked source us → NoPolicies Cedar4 us → ⊥
  written_alone l source ts us set a h b none = none set (policies_in_widest l us [] set (subst (λ (ms : Marks). ArePolicies l ms [] set) (marked_one source ts us a b) h))

  tokens_one : (l m : Language) (source : List ℕ) (ts us : Marks) (set other : PolicySetTree) → IsRead l source ts → ArePolicies l ts [] set → IsRead m source us → ArePolicies m us [] other → ts ≡ us
  tokens_one l m source ts us set other (written a) h (written b) g = marked_one source ts us a b
  tokens_one l m source ts us set other (written a) h (normal e b none n) g = absurd (written_alone l source ts _ set a h b none)
  tokens_one l m source ts us set other (normal e a none n) h (written b) g = absurd (written_alone m source us _ other b g a none)
  tokens_one l m source ts us set other (normal e a none n) h (normal d b lacks o) g = normal_one source ts us n o

  pub one_policy_set_by : (l m : Language) (source : List ℕ) (set other : PolicySetTree) → IsPolicyText l source set → IsPolicyText m source other → set ≡ other
  one_policy_set_by l m source set other h g =
      let same = tokens_one l m source h.tokens g.tokens set other h.are_tokens h.are_policies g.are_tokens g.are_policies in
      set_one l m h.tokens set other h.are_policies (subst (λ (ms : Marks). ArePolicies m ms [] other) (sym same) g.are_policies)
