-- Which uid a JSON writes.
use Rattle.std.proofs.Common.{◌≡◌, ℕ, List, Option, None, Some, Err, Result, refl, sym, ◌∙◌, subst}
use Rattle.std.specs.Prelude.{IfOk, MatchOption}
use Rattle.serde_json.specs.Data.{Data}
use Rattle.serde_json.specs.Find.{as_str}
use Rattle.cedar_value.specs.declared.uid.Uid.{Uid}
use Rattle.cedar_parser_tokens.specs.UidText.{IsUidText, AnswersUid}
use Rattle.cedar_parser_tokens.specs.declared.parse_fault.ParseFault.{ParseFault}
use Rattle.cedar_parser_tokens.specs.declared.parse_fault.ParseFault.TheVariants.{OutOfMemory}
use Rattle.cedar_conform_values.specs.WrittenUids.{IsUidObject, WritesUid, WritesOneUid}

-- a refusal but that of memory says that the text is that of no uid
pub refused_text : (fault : ParseFault) (u : Uid) → (fault ≡ OutOfMemory → ⊥) → AnswersUid u (Err fault) → ⊥
refused_text OutOfMemory u other h = other refl
refused_text _ u other h = h

-- what is not a text writes a uid as an object
pub writes_object : {E : Type 0} (d : Data) (result : Result (Option Uid) E) → None ≡ as_str d
    → IfOk result (λ found. MatchOption found ((u : Uid) → IsUidObject d u → ⊥) (IsUidObject d))
    → IfOk result (λ found. MatchOption found ((u : Uid) → WritesUid d u → ⊥) (WritesUid d))
writes_object d result e h =
    subst (λ (x : Option (List ℕ)). IfOk result (λ found. MatchOption found ((u : Uid) → MatchOption x (IsUidObject d u) (λ s. IsUidText s u) → ⊥) (λ u. MatchOption x (IsUidObject d u) (λ s. IsUidText s u)))) e h

-- ---- no JSON writes two uids

some_is : (u v : Uid) → Some u ≡ Some v → u ≡ v
some_is u v e = cc

one_at : ((s : List ℕ) (u v : Uid) → IsUidText s u → IsUidText s v → u ≡ v) → (d : Data) (u v : Uid) (o : Option (List ℕ)) → MatchOption o (IsUidObject d u) (λ s. IsUidText s u) → MatchOption o (IsUidObject d v) (λ s. IsUidText s v) → u ≡ v
one_at one d u v None h k = some_is u v (sym h.0 ∙ k.0)
one_at one d u v (Some s) h k = one s u v h k

pub writes_one : ((s : List ℕ) (u v : Uid) → IsUidText s u → IsUidText s v → u ≡ v) → WritesOneUid
writes_one one d u v h k = one_at one d u v (as_str d) h k
