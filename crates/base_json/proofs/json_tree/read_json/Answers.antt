use Rattle.std.proofs.Common.{◌≡◌, true, false, sym}
use Rattle.base_json.proofs.Trees.{json_of-none, json_of-some}
use Rattle.base_json.proofs.json_tree.read_json.Goals as goal

pub returns-in-Ok : goal.returns-in-Ok
returns-in-Ok c = sym (json_of-some _ _ c.in-Ok.ensures.ok.0 c.in-Ok.ensures.ok.1)

pub returns-else-is_memory : goal.returns-else-is_memory
returns-else-is_memory c = sym (json_of-none _ (c.in-Err.ensures.err (λ m. let told : false ≡ true = c.if-is_memory.ensures.1 m in cc)))
