-- The members of a request line as they are kept.
use Rattle.std.specs.Prelude.{◌≡◌, ◌⊎◌, codes, true, Option, Some, None, MatchOption, option_map, unwrap_or}
use Rattle.serde_json.specs.Data.{Data, Members, object, no_members}
use Rattle.serde_json.specs.Find.{get_member}
use Rattle.base_json.specs.Members.{lent_view}
use Rattle.base_json.specs.declared.lent_value.LentValue.{LentValue}
use Rattle.base_json.specs.declared.lent_value.LentValue.TheVariants.{Quoted}
use Rattle.base_json.specs.declared.three_quoted.ThreeQuoted.{ThreeQuoted}
use Rattle.cedar_value.specs.declared.uid.Uid.{Uid}
use Rattle.cedar_conform_values.specs.Objects.{are_only}
use Rattle.cedar_conform_values.specs.WrittenUids.{WritesUid}
use Rattle.cedar_conform.specs.declared.fields.Fields.{Fields}
use Rattle.cedar_conform.specs.declared.request.RequestUids.{RequestUids}
use Rattle.cedar_conform.specs.Requests.{is_request_key}

abbrev pub data_in : Option LentValue → Option Data
data_in field = option_map lent_view field

-- the values are those at the keys of the members, and it is known whether there is another key
pub record AreFieldsOf (ms : Members) (f : Fields) : Type 0 where
  pub principal : get_member (codes "principal") ms ≡ data_in f.principal
  pub action : get_member (codes "action") ms ≡ data_in f.action
  pub resource : get_member (codes "resource") ms ≡ data_in f.resource
  pub context : get_member (codes "context") ms ≡ data_in f.context
  pub known : are_only is_request_key ms ≡ f.are_known

-- the values where there are three strings and nothing else
abbrev pub quoted_fields : ThreeQuoted → Fields
quoted_fields v = record { principal = Some (Quoted v.first); action = Some (Quoted v.second); resource = Some (Quoted v.third); context = None; are_known = true }

-- the values of three strings, or none
abbrev pub begun_fields : Option ThreeQuoted → Fields
begun_fields (Some v) = quoted_fields v
begun_fields None = record { principal = None; action = None; resource = None; context = None; are_known = true }

-- there is a value, and it writes the uid
abbrev pub WrittenIn : Option Data → Uid → Type 0
WrittenIn found u = MatchOption found ⊥ (λ d. WritesUid d u)

-- the three values write the three uids
pub record AreWritten (f : Fields) (u : RequestUids) : Type 0 where
  pub principal : WrittenIn (data_in f.principal) u.principal
  pub action : WrittenIn (data_in f.action) u.action
  pub resource : WrittenIn (data_in f.resource) u.resource

abbrev pub LacksIn : Option Data → Type 0
LacksIn found = (u : Uid) → ¬ WrittenIn found u

-- one of the three values writes no uid
abbrev pub LacksOne : Fields → Type 0
LacksOne f = LacksIn (data_in f.principal) ⊎ (LacksIn (data_in f.action) ⊎ LacksIn (data_in f.resource))

-- the value at `context`, and the empty object where there is none
abbrev pub context_in : Option LentValue → Data
context_in field = unwrap_or (data_in field) (object no_members)
