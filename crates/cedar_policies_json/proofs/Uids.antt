-- Where an object writes no uid.
use Rattle.std.proofs.Common.{◌≡◌, ℕ, List, Bool, true, false, Option, Some, None, cond, refl, sym, ap, ◌∙◌}
use Rattle.std.specs.Prelude.{Decides, option_and_then}
use Rattle.cedar_value.specs.Names.{is_name, IsName}
use Rattle.cedar_value.specs.declared.uid.Uid.{Uid}
use Rattle.cedar_policies_json.specs.Parts.{name_of, uid_written}

no_name : (s : List ℕ) (b : Bool) → is_name s ≡ b → (IsName s → ⊥) → Decides (is_name s) (IsName s) → None ≡ name_of s
no_name s true e h d = absurd (h (d.0 e))
no_name s false e h d = ap (λ b. cond b (Some s) None) (sym e)

pub no_uid : (o : Option Uid) → ((u : Uid) → (o ≡ Some u) × IsName u.ty → ⊥) → ((s : List ℕ) → Decides (is_name s) (IsName s)) → None ≡ option_and_then uid_written o
no_uid None h d = refl
no_uid (Some u) h d = ap (λ n. Rattle.std.specs.Prelude.option_map (λ ty. record { ty = ty; id = Some u.id }) n) (no_name u.ty (is_name u.ty) refl (λ is. h u (refl, is)) (d u.ty))
