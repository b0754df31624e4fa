-- No text is that of two uids.
use Rattle.std.proofs.Common.{◌≡◌, sym, ap, subst, ◌∙◌, ℕ, List, []}
use Rattle.cedar_value.specs.declared.uid.Uid.{Uid}
use Rattle.cedar_text.specs.Lexeme.{Lexemes}
use Rattle.cedar_text.specs.Tokens.{AreTokens}
use Rattle.cedar_parser_tokens.specs.Marks.{Marks}
use Rattle.cedar_parser_tokens.specs.Names.{Entity, to_uid}
use Rattle.cedar_parser_tokens.specs.UidText.{IsUidText}
use Rattle.cedar_parser_tokens.proofs.MarkLemmas.{OneSpelling, all_same}
use Rattle.cedar_parser_tokens.proofs.NamesComplete.{entity_yes}
use Rattle.cedar_parser_tokens.proofs.UidLemmas.{uid_only, to_uid_is}

pub one_uid_by : ((source : List ℕ) (ts us : Lexemes) → AreTokens source ts → AreTokens source us → ts ≡ us) → OneSpelling
    → (source : List ℕ) (uid other : Uid) → IsUidText source uid → IsUidText source other → uid ≡ other
one_uid_by lists spellings source uid other h g =
    let a = h.are_tokens in
    let same : h.tokens ≡ g.tokens = all_same spellings a.0 h.tokens g.tokens {source = source} (λ us t. lists source a.0 us a.1 t) a.2 g.are_tokens in
    let there = subst (λ (ms : Marks). Entity ms g.written []) (sym same) g.reading in
    sym (to_uid_is uid h.written h.ty h.id) ∙ ap to_uid (uid_only h.tokens h.written g.written [] there (entity_yes h.reading)) ∙ to_uid_is other g.written g.ty g.id
