use Rattle.std.proofs.Common.{◌-◌, Bor, Contains, List, drop, subst, sym, take, ap, arith}
use Rattle.base_reach.specs.Private.Lent.{lent}
use Rattle.cedar_value.specs.declared.uid.Uid.{Uid}
use Rattle.cedar_store.proofs.Gathered.{Gathers-had, Gathers-push, taken_among}
use Rattle.cedar_store.proofs.gathering.gather.Goals as goal

pub returns-in_ok-push-clause-gathers : goal.returns-in_ok-push-clause-gathers
returns-in_ok-push-clause-gathers c =
    let begun = c.args.begun in
    let part = ap (λ (l : List (Bor Uid)). take (c.args.end - begun) (drop begun l)) c.deref.ensures.value in
    Gathers-push begun c.args.found.now.items c.push.new.self.items c.args.uid (omega arith)
    (λ m. (let yes = c.is_among.ensures.1 (subst (λ (l : List (Bor Uid)). Contains (lent l) c.args.uid.now) (sym part) (c.requires.apart m)) in
    let no_more = c.if-not-is_among.true in
    cc)) c.in_ok-push.ensures.items

pub returns-else-not-is_among-clause-gathers : goal.returns-else-not-is_among-clause-gathers
returns-else-not-is_among-clause-gathers c =
    let begun = c.args.begun in
    let part = ap (λ (l : List (Bor Uid)). take (c.args.end - begun) (drop begun l)) c.deref.ensures.value in
    let had = subst (λ (l : List (Bor Uid)). Contains (lent l) c.args.uid.now) part (c.is_among.ensures.0 c.if-not-is_among.false) in
    Gathers-had begun c.args.found.now.items c.args.uid.now (taken_among (c.args.end - begun) (drop begun c.args.found.now.items) c.args.uid.now had)
