use Rattle.std.proofs.Common.{◌≡◌, ◌≤◌, length, sym, ap, subst, ◌∙◌, arith, Contains}
use Rattle.std.specs.Map.{keys_of}
use Rattle.std.proofs.lemmas.List.{length-map}
use Rattle.base_reach.specs.Closure.{AreListed}
use Rattle.base_reach.specs.Private.Lent.{lent}
use Rattle.cedar_schema.specs.Private.Kept.{AreRowsAt}
use Rattle.cedar_schema.proofs.Numbered.{AreRows-found, found_rows, lists_long}
use Rattle.cedar_schema.proofs.schema.descents.descents_of.Goals as goal

pub rows_by_key-requires : goal.rows_by_key-requires
rows_by_key-requires g c =
    let keys = c.deref.result.now in
    c.in_ok-rows.ensures.long ∙ sym (lists_long g.K.Ord.cmp (g.G.Links.links c.args.links.now) c.in_ok-numbers.numbers (lent keys) c.in_ok-numbers.graph.lists c.in_ok-numbers.ensures.lists) ∙ length-map keys (λ k. k.now)
    ∙ ap length (c.deref.ensures.value ∙ sym c.deref-2.ensures.value)

pub returns : goal.returns
returns g c =
    let R = g.K.Ord.cmp in
    let up = g.G.Links.links c.args.links.now in
    let numbers = c.in_ok-numbers.numbers in
    let keys = c.deref.result.now in
    let lists = c.in_ok-numbers.graph.lists in
    let places = c.in_ok-numbers.graph.places.items in
    let rows = c.in_ok-rows.rows.items in
    let found = c.in_ok-rows-2.rows in
    let declared : lent keys ≡ keys_of c.args.declared.now.entries = ap lent c.deref.ensures.value ∙ c.in_ok-keys.ensures in
    let listed : AreListed up (lent keys) = subst (λ us. AreListed up us) (sym declared) (subst (λ us. AreListed up us) c.requires (g.met.G.Links.listed c.args.links.now)) in
    let same : lent c.deref-2.result.now ≡ lent keys = ap lent (c.deref-2.ensures.value ∙ sym c.deref.ensures.value) in
    let at : AreRowsAt R (lent keys) rows found = subst (λ us. AreRowsAt R us rows found) same c.in_ok-rows-2.ensures.found in
    let size = length-map keys (λ k. k.now) in
    let long : length (lent keys) ≤ length keys = omega arith in
    AreRows-found R up (record { numbers = numbers; rows = found })
    (found_rows R up numbers (lent keys) lists places (length keys) long listed c.in_ok-numbers.ensures.apart c.in_ok-numbers.ensures.lists c.in_ok-numbers.ensures.places rows found c.in_ok-rows.ensures.rows at)
    (λ u p l. c.in_ok-rows-2.ensures.whole u (subst (λ us. Contains us u) (sym same) (listed u p l)))
