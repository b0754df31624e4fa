use Rattle.std.proofs.Common.{◌≡◌, map}
use Rattle.cedar_ext.specs.declared.pattern.Element.TheVariants.{Character}
use Rattle.cedar_policies_json.proofs.pattern.characters.Given as goal

abbrev pub invariant-loop-character : goal.invariant-loop-character
invariant-loop-character l = l.found.items ≡ map Character l.yielded
