use Rattle.std.proofs.Common.{◌≡◌, ◌-◌, ◌<◌, ℕ, suc, List, length, drop, Some, arith, subst, sym}
use Rattle.std.specs.BTreeMap.{get, Updates}
use Rattle.cedar_value.specs.Order.{text_cmp}
use Rattle.cedar_schema_json.specs.Naming.{place_from}
use Rattle.cedar_schema_json.proofs.PlaceLemmas.{placed_more}
use Rattle.cedar_schema_json.proofs.json.name_table.places_of.Goals as goal

pub back-preserved : goal.back-preserved
back-preserved c =
    let some_left = c.back-test.true in
    let within = c.back.invariant.within in
    let names = c.args.names.now in
    let before : suc (c.back.left - 1) ≡ c.back.left = omega arith in
    let here : c.back.left - 1 < length names = omega arith in
    record {
      placed = placed_more c.back.places c.insert.new.self names (c.back.left - 1) c.index-names-left.result here c.index-names-left.is
          (subst (λ k. Updates text_cmp c.back.places c.insert.new.self k (Some (c.back.left - 1))) c.in_ok-name.ensures c.in_ok-insert.ensures.updates)
          (subst (λ (n : ℕ). (k : List ℕ) → get text_cmp c.back.places k ≡ place_from n k (drop n names)) (sym before) c.back.invariant.placed);
      within = omega arith;
    }
