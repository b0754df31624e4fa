-- What holds of a list element by element.
use Rattle.std.specs.Prelude.{List, [], ◌∷◌, ◌++◌}
use Rattle.cedar_schema_json.specs.declared.schema_fault.SchemaFault.{SchemaFault}

-- The faults of each element, one after another (own).
unfoldable pub each_faults : {A : Type 0} → (A → List SchemaFault) → List A → List SchemaFault
each_faults f [] = []
each_faults f (x ∷ xs) = f x ++ each_faults f xs

-- The list after each element was added to it in turn (own).
unfoldable pub each_onto : {A B : Type 0} → (List B → A → List B) → List B → List A → List B
each_onto add done [] = done
each_onto add done (x ∷ xs) = each_onto add (add done x) xs
