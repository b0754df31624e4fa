use Rattle.base_json.proofs.tree.tree_after.Goals as goal

pub returns-in-Scalar-clause-ok : goal.returns-in-Scalar-clause-ok
returns-in-Scalar-clause-ok c =
    let scalar = rw c.in-Scalar.is at (c.in_ok-value.ensures.ok c.args.reader.now) in
    scalar c.args.depth

pub returns-in-Nested-clause-ok : goal.returns-in-Nested-clause-ok
returns-in-Nested-clause-ok c =
    let nested = rw c.in-Nested.is at (c.in_ok-value.ensures.ok c.args.reader.now) in
    rw nested c.read_nested.ensures.ok

pub returns-in-Nested-clause-err : goal.returns-in-Nested-clause-err
returns-in-Nested-clause-err c refused =
    let nested = rw c.in-Nested.is at (c.in_ok-value.ensures.ok c.args.reader.now) in
    rw nested (c.read_nested.ensures.err refused)
