use Rattle.std.proofs.Common.{◌≡◌, take}
use Rattle.cedar_ast.proofs.linking.copy_annotations.Given as goal

abbrev pub invariant-loop-annotation : goal.invariant-loop-annotation
invariant-loop-annotation l = l.copies.items ≡ take l.annotation-index l.annotations
