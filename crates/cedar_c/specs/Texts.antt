-- The texts that a call is given, as the files of an engine.
use Rattle.std.specs.Prelude.{ℕ, List, [], ◌∷◌, Option, None, Some}
use Rattle.cedar_files.specs.Roles.{Holdings, by_role}
use Rattle.cedar_c.specs.declared.texts.Texts.{Texts}

-- The links file of a text: none where the text has length 0 (own).
abbrev pub links_file : List ℕ → Option (List ℕ)
links_file [] = None
links_file (b ∷ bs) = Some (b ∷ bs)

-- What the files of these texts hold: the schema, the policies, the links and the entities (own).
abbrev pub held : List ℕ → List ℕ → List ℕ → List ℕ → Holdings
held s p l e role = Some (by_role (Some s) (Some p) (links_file l) (Some e) role)

-- What the texts hold, as files (own).
abbrev pub held_by : Texts → Holdings
held_by t = held t.schema.now t.policies.now t.links.now t.entities.now
