-- Texts in quotation marks that a uid may be written in.
use Rattle.std.proofs.Common.{◌≡◌, ℕ, true, false, Bool, not, ◌&&◌, ◌==◌, nat_lt, List, [], ◌∷◌, ◌++◌, Option, Some, None, Result, Ok, Err, codes, refl, sym, ap, subst, ◌∙◌, append_assoc}
use Rattle.std.specs.Prelude.{◌↔◌, IfOk, IfSome, IsSome}
use Rattle.std.specs.Str.{IsUtf8}
use Rattle.std.specs.List.{list_all}
use Rattle.std.proofs.lemmas.Bool.{and_parts}
use Rattle.std.specs.declared.alloc.AllocError.{AllocError}
use Rattle.base_json.specs.Quoted.{is_plain, with_quoted}
use Rattle.cedar_value.specs.Names.{IsName}
use Rattle.cedar_value.specs.declared.uid.Uid.{Uid}
use Rattle.cedar_parser_tokens.specs.UidText.{IsUidText}
use Rattle.cedar_parser_tokens.specs.Private.PlainUid.{is_plain_byte}
use Rattle.cedar_parser_tokens.proofs.PlainUids.{plain_text_uid}

both : (a b c : Bool) → (a && (b && c)) ≡ true → (a && b) ≡ true
both true true c h = refl
both true false c h = h
both false b c h = h

joined : (a b : Bool) → a ≡ true → b ≡ true → (a && b) ≡ true
joined true b e f = f
joined false b e f = e

-- what JSON writes as itself has neither a quotation mark nor a backslash
pub plain_bytes : (bs : List ℕ) → list_all is_plain bs ≡ true → list_all is_plain_byte bs ≡ true
plain_bytes [] h = refl
plain_bytes (b ∷ bs) h =
    let p = and_parts (is_plain b) (list_all is_plain bs) h in
    joined (is_plain_byte b) (list_all is_plain_byte bs) (both (not (b == 34)) (not (b == 92)) (not (nat_lt b 32)) p.0) (plain_bytes bs p.1)

-- a path and `::` before an id in quotation marks
pub parts_text : (before path id : List ℕ) → before ≡ path ++ codes "::" → list_all is_plain id ≡ true → IsUtf8 id → IsName path → IsUidText (with_quoted before id) (record { ty = path; id = id })
parts_text before path id is plain utf8 name =
    let whole : with_quoted before id ≡ path ++ (codes "::" ++ (34 ∷ id ++ 34 ∷ [])) =
    ap (λ (xs : List ℕ). xs ++ (34 ∷ id ++ 34 ∷ [])) is ∙ append_assoc path (codes "::") (34 ∷ id ++ 34 ∷ []) in
    plain_text_uid (with_quoted before id) path id name (record { whole = whole; plain = plain_bytes id plain; utf8 = utf8 })

-- the uid of these parts, where there is one
module _ (source path id : List ℕ) (is_text : IsName path → IsUidText source (record { ty = path; id = id })) where
  found_uid : (o : Option Uid) → (IsSome o ↔ IsName path) → IfSome o (λ u. u ≡ record { ty = path; id = id }) → IfSome o (IsUidText source)
  found_uid None given same = tt
  found_uid (Some u) given same = subst (IsUidText source) (sym same) (is_text (given.0 refl))

  pub named_text : (r : Result (Option Uid) AllocError) → IfOk r (λ o. IsSome o ↔ IsName path) → IfOk r (λ o. IfSome o (λ u. u ≡ record { ty = path; id = id })) → IfOk r (λ o. IfSome o (IsUidText source))
  named_text (Ok o) given same = found_uid o given same
  named_text (Err e) given same = tt
