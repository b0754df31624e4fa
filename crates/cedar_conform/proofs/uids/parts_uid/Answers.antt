use Rattle.base_json.specs.Quoted.{with_quoted}
use Rattle.cedar_conform.proofs.QuotedUids.{named_text, parts_text}
use Rattle.cedar_conform.proofs.uids.parts_uid.Goals as goal

pub returns-in-Some : goal.returns-in-Some
returns-in-Some c =
    let before = c.args.before.now in
    let id = c.args.id.now in
    let path = c.in-Some.path.now in
    named_text (with_quoted before id) path id (parts_text before path id c.in-Some.ensures c.requires c.utf8.id) c.named_uid.result c.named_uid.ensures.given c.named_uid.ensures.value
