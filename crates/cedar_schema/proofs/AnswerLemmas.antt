-- What parts of a schema answer, the whole answers.
use Rattle.std.proofs.Common.{◌≡◌, ◌≢◌, ℕ, List, [], ◌++◌, Result, Ok, Err, inl, inr, sym, ap, ◌∙◌, subst}
use Rattle.std.proofs.lemmas.List.Elements.{Contains-append_right}
use Rattle.serde_json.specs.Data.{Members}
use Rattle.cedar_ext.specs.declared.language.Language.{Language}
use Rattle.cedar_value.specs.declared.uid.Uid.{Uid}
use Rattle.cedar_schema_json.specs.declared.schema_fault.SchemaFault.{SchemaFault}
use Rattle.cedar_schema_json.specs.declared.schema_fault.SchemaFault.TheVariants.{OutOfMemory}
use Rattle.cedar_schema_json.specs.Faults.{Told}
use Rattle.cedar_schema_json.specs.Entries.{EntryTree, whole_names, root_faults}
use Rattle.cedar_schema_spec.specs.SchemaTree.{SchemaTree, EntityTypeTree, ActionTree}
use Rattle.cedar_schema.specs.Each.{each_faults, each_onto}
use Rattle.cedar_schema.specs.Schemas.{Setting, Sections, sections_of, setting_of, schema_in, schema_of, setting_faults, sections_faults, written_faults, common_faults, expansion_faults, entity_faults, enumerated_faults, one_action_faults, add_entity, add_enumeration, add_action, forms_of, uids_onto}
use Rattle.cedar_schema.specs.Denotes.{IsThere}
use Rattle.cedar_schema.specs.Private.Answers.{Answers}
use Rattle.cedar_schema_json.proofs.FormLemmas.{told_first, told_then}

abbrev pub Refuses : List SchemaFault → SchemaTree → SchemaFault → Type 0
Refuses faults tree e = e ≢ OutOfMemory → IsThere faults tree e

pub refuses : (fs : List SchemaFault) (tree : SchemaTree) (e : SchemaFault) → Told fs e → Refuses fs tree e
refuses fs tree e h n = inl (h n)

-- without faults before, the rest answers
pub answers_then : (r : Result SchemaTree SchemaFault) (fs gs : List SchemaFault) (tree : SchemaTree) → fs ≡ [] → Answers r gs tree → Answers r (fs ++ gs) tree
answers_then (Ok s) fs gs tree none a = record { fine = ap (λ (l : List SchemaFault). l ++ gs) none ∙ a.fine; acyclic = a.acyclic; is = a.is }
answers_then (Err e) fs gs tree none a = λ n. elim (a n) [ inl h ↦ inl (Contains-append_right fs gs e h) | inr h ↦ inr h ]

-- ---- what entries declare
module _ (s : Setting) (es as' : List EntryTree) where
  pub setting_table : (e : SchemaFault) → Told (each_faults (expansion_faults s.table) s.table) e → Refuses (setting_faults s es as') (schema_in s es as') e
  unfolding setting_faults
  setting_table e h = refuses (setting_faults s es as') (schema_in s es as') e (told_first (each_faults (expansion_faults s.table) s.table) _ e h)

  pub setting_entities : (e : SchemaFault) → Told (each_faults (entity_faults s) es) e → Refuses (setting_faults s es as') (schema_in s es as') e
  unfolding setting_faults
  setting_entities e h = refuses (setting_faults s es as') (schema_in s es as') e (told_then (each_faults (expansion_faults s.table) s.table) _ e (told_first (each_faults (entity_faults s) es) _ e h))

  pub setting_actions : (e : SchemaFault) → Told (each_faults (one_action_faults s) as') e → Refuses (setting_faults s es as') (schema_in s es as') e
  unfolding setting_faults
  setting_actions e h =
      refuses (setting_faults s es as') (schema_in s es as') e
      (told_then (each_faults (expansion_faults s.table) s.table) _ e (told_then (each_faults (entity_faults s) es) _ e (told_then (each_faults enumerated_faults es) _ e h)))

  pub setting_enumerated : (e : SchemaFault) → Told (each_faults enumerated_faults es) e → Refuses (setting_faults s es as') (schema_in s es as') e
  unfolding setting_faults
  setting_enumerated e h =
      refuses (setting_faults s es as') (schema_in s es as') e
      (told_then (each_faults (expansion_faults s.table) s.table) _ e (told_then (each_faults (entity_faults s) es) _ e (told_first (each_faults enumerated_faults es) _ e h)))

  pub setting_all : (r : Result SchemaTree SchemaFault) (en : List (List ℕ × EntityTypeTree)) (ac : List (Uid × ActionTree)) (li : List (List ℕ × List (List ℕ)))
      → each_faults (expansion_faults s.table) s.table ≡ [] → (each_faults (entity_faults s) es ≡ []) × (en ≡ each_onto (add_entity s) [] es)
      → (each_faults enumerated_faults es ≡ []) × (li ≡ each_onto add_enumeration [] es) → (each_faults (one_action_faults s) as' ≡ []) × (ac ≡ each_onto (add_action s) [] as')
      → Answers r [] (record { entities = en; actions = ac; enumerated = li }) → Answers r (setting_faults s es as') (schema_in s es as')
  unfolding setting_faults schema_in
  setting_all r en ac li table entities listed actions a =
      let tree : SchemaTree = record { entities = each_onto (add_entity s) [] es; actions = each_onto (add_action s) [] as'; enumerated = each_onto add_enumeration [] es } in
      let made : Answers r [] tree = subst (λ (t : SchemaTree). Answers r [] t) (λ i. record { entities = entities.1 i; actions = actions.1 i; enumerated = listed.1 i }) a in
      let none : setting_faults s es as' ≡ [] = λ i. table i ++ (entities.0 i ++ (listed.0 i ++ actions.0 i)) in
      subst (λ (fs : List SchemaFault). Answers r fs tree) (sym none) made

pub sections_forms : (language : Language) (x : Sections) (es cs : List (List ℕ)) (e : SchemaFault) → es ≡ whole_names x.entities → cs ≡ whole_names x.commons → Told (each_faults (common_faults language es cs) x.commons) e
    → Refuses (sections_faults language x) (schema_in (setting_of language x) x.entities x.actions) e
unfolding sections_faults
sections_forms language x es cs e p q h =
    refuses (sections_faults language x) (schema_in (setting_of language x) x.entities x.actions) e (told_first _ (setting_faults (setting_of language x) x.entities x.actions) e
    (subst (λ n. Told (each_faults (common_faults language n (whole_names x.commons)) x.commons) e) p (subst (λ n. Told (each_faults (common_faults language es n) x.commons) e) q h)))

pub sections_all : (x : Sections) (s : Setting) (r : Result SchemaTree SchemaFault) → s.entities ≡ whole_names x.entities → s.commons ≡ whole_names x.commons → (each_faults (common_faults s.language s.entities s.commons) x.commons ≡ []) × (s.table ≡ forms_of s.language s.entities s.commons x.commons)
    → s.uids ≡ uids_onto [] x.actions → Answers r (setting_faults s x.entities x.actions) (schema_in s x.entities x.actions) → Answers r (sections_faults s.language x) (schema_in (setting_of s.language x) x.entities x.actions)
unfolding sections_faults
sections_all x s r p q forms u a =
    let table : s.table ≡ forms_of s.language (whole_names x.entities) (whole_names x.commons) x.commons = forms.1 ∙ (λ i. forms_of s.language (p i) (q i) x.commons) in
    let same : s ≡ setting_of s.language x = λ i. record { language = s.language; entities = p i; commons = q i; table = table i; uids = u i } in
    let none : each_faults (common_faults s.language (whole_names x.entities) (whole_names x.commons)) x.commons ≡ [] = sym (λ i. each_faults (common_faults s.language (p i) (q i)) x.commons) ∙ forms.0 in
    answers_then r _ _ _ none (subst (λ (t : Setting). Answers r (setting_faults t x.entities x.actions) (schema_in t x.entities x.actions)) same a)

pub root_spaces : (language : Language) (root : Members) (e : SchemaFault) → Told (root_faults language root) e → Refuses (written_faults language root) (schema_of language root) e
unfolding written_faults
root_spaces language root e h = refuses (written_faults language root) (schema_of language root) e (told_first (root_faults language root) _ e h)

pub root_all : (language : Language) (root : Members) (x : Sections) (r : Result SchemaTree SchemaFault) → root_faults language root ≡ [] → x ≡ sections_of root → Answers r (sections_faults language x) (schema_in (setting_of language x) x.entities x.actions)
    → Answers r (written_faults language root) (schema_of language root)
unfolding written_faults
root_all language root x r none same a =
    answers_then r (root_faults language root) (sections_faults language (sections_of root)) (schema_of language root) none (subst (λ (y : Sections). Answers r (sections_faults language y) (schema_in (setting_of language y) y.entities y.actions)) same a)
