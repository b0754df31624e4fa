use Rattle.std.proofs.Common.{◌≡◌, ◌++◌, ◌∙◌, ℕ, List, [], ◌∷◌, ap, subst, sym, true, append_assoc, codes}
use Rattle.std.specs.List.{list_all}
use Rattle.std.specs.Str.{IsUtf8}
use Rattle.cedar_parser_tokens.specs.Private.PlainUid.{is_plain_byte}
use Rattle.cedar_parser_tokens.proofs.plain_uid.plain_parts.Goals as goal

whole : (source before quoted path id : List ℕ) → source ≡ before ++ 34 ∷ quoted → before ≡ path ++ codes "::" → quoted ≡ id ++ 34 ∷ [] → source ≡ path ++ (codes "::" ++ (34 ∷ id ++ 34 ∷ []))
whole source before quoted path id cut colons quote =
    cut ∙ ap (λ (xs : List ℕ). before ++ 34 ∷ xs) quote ∙ ap (λ (xs : List ℕ). xs ++ 34 ∷ (id ++ 34 ∷ [])) colons ∙ append_assoc path (codes "::") (34 ∷ (id ++ 34 ∷ []))

pub returns : goal.returns
returns c = record {
  whole = whole _ _ _ _ _ c.in_ok-before.ensures c.in_ok-path.ensures c.in_ok-id.ensures;
  plain = subst (λ (xs : List ℕ). list_all is_plain_byte xs ≡ true) c.as_bytes.ensures.value (sym c.are_plain_bytes.ensures ∙ c.if-not-are_plain_bytes.false);
  utf8 = subst IsUtf8 c.as_bytes.ensures.value c.as_bytes.ensures.utf8;
}
