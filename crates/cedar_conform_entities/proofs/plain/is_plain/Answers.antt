use Rattle.std.proofs.Common.{refl, sym, ap, ◌∙◌}
use Rattle.std.specs.List.{list_all}
use Rattle.serde_json.specs.Data.{no_members, object}
use Rattle.base_json.specs.declared.lent_item.ItemMember.{ItemMember}
use Rattle.cedar_conform_entities.specs.Entries.{is_entry_key}
use Rattle.cedar_conform_entities.proofs.PlainLemmas.{are_only-put_values, nothing_there}
use Rattle.cedar_conform_entities.proofs.plain.is_plain.Goals as goal

pub returns : goal.returns
returns c told = record {
  keys = are_only-put_values is_entry_key c.args.item.now.members.items no_members refl
      (ap (list_all (λ (m : ItemMember). is_entry_key m.key.now)) (sym c.deref.ensures.value) ∙ sym c.are_entry_keys.ensures ∙ told);
  attributed = c.has_attributes.ensures c.if-not-has_attributes.false;
  untagged = nothing_there _ c.value.result _ (object no_members) c.value.ensures (sym c.is_some.ensures ∙ c.if-is_some.false);
}
