use Rattle.std.proofs.Common.{IfSome, subst, ◌∙◌}
use Rattle.std.specs.Prelude.{Option}
use Rattle.cedar_store.specs.Private.Ascents.{reaches}
use Rattle.cedar_store.specs.Private.Kept.{AreAncestors}
use Rattle.cedar_store.specs.declared.ascent.Ascent.{Ascent}
use Rattle.cedar_store.proofs.Above.{below-ancestors, chain_told}
use Rattle.cedar_store.proofs.descendant.Descendant.is_below.Goals as goal

pub returns-in-Some : goal.returns-in-Some
returns-in-Some c =
    let w = c.self.inside.store.now in
    let u = c.self.inside.uid.now in
    let above : AreAncestors w u (reaches c.in-Some.ascent) = subst (λ (o : Option Ascent). IfSome o (λ a. AreAncestors w u (reaches a))) c.in-Some.is c.self.invariant in
    rw (← c.self.view_is) (record {
      chain = chain_told w u c.args.high.now (reaches c.in-Some.ascent) c.reaches.result above c.reaches.ensures;
      gives = c.reaches.ensures ∙ below-ancestors w u c.args.high.now (reaches c.in-Some.ascent) above;
    })
