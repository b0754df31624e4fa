-- Types as a schema's JSON writes them: a common type is given as its place among the common types.
use Rattle.std.specs.Prelude.{ℕ, Bool, List}
use Rattle.cedar_ext.specs.declared.extension.ExtensionType.{ExtensionType}

-- A type as it is written, with its names resolved: a common type is given as its place (Cedar documentation, JSON schema
-- format: attribute types).
mutual
  pub data FormTree : Type 0 where
    no_form : FormTree  -- a form that is not a type
    boolean_form long_form string_form : FormTree
    extension_form : ExtensionType → FormTree
    entity_form : List ℕ → FormTree  -- a declared entity type, by its whole name
    set_form : FormTree → FormTree
    record_form : FormRows → FormTree
    common_form : ℕ → FormTree  -- a declared common type, by its place

  -- The attributes of a record as they are written, one after another: for each its name, whether it is required, and its type
  -- (Cedar documentation, JSON schema format: Record).
  pub data FormRows : Type 0 where
    no_form_rows : FormRows
    form_row : List ℕ → Bool → FormTree → FormRows → FormRows
