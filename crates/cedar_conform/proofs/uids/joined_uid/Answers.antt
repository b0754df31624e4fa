use Rattle.std.proofs.Common.{◌≡◌, ◌∷◌, ◌++◌, ℕ, List, [], ap, subst, ◌∙◌, append_assoc}
use Rattle.std.specs.Prelude.{IfOk, MatchOption}
use Rattle.base_json.specs.Quoted.{with_quoted}
use Rattle.cedar_value.specs.declared.uid.Uid.{Uid as UidTree}
use Rattle.cedar_parser_tokens.specs.UidText.{IsUidText}
use Rattle.cedar_conform.proofs.uids.joined_uid.Goals as goal

pub returns : goal.returns
unfolding lib.Utf8.encode
returns c =
    let before = c.args.before.now in
    let quoted = c.args.quoted.now in
    let whole : c.as_str.result.now ≡ with_quoted before quoted =
    c.as_str.ensures.value ∙ c.in_ok-push-2.ensures.bytes
    ∙ ap (λ (xs : List ℕ). xs ++ 34 ∷ []) (c.in_ok-push_str.ensures.bytes ∙ ap (λ (xs : List ℕ). xs ++ quoted) (c.in_ok-push.ensures.bytes ∙ ap (λ (xs : List ℕ). xs ++ 34 ∷ []) c.in_ok-joined.ensures.ok))
    ∙ append_assoc (before ++ 34 ∷ []) quoted (34 ∷ []) ∙ append_assoc before (34 ∷ []) (quoted ++ 34 ∷ []) in
    subst (λ (xs : List ℕ). IfOk c.uid_of_text.result (λ found. MatchOption found ((u : UidTree) → ¬ IsUidText xs u) (IsUidText xs))) whole c.uid_of_text.ensures
