use Rattle.std.proofs.Common.{◌≡◌, List, None, subst}
use Rattle.cedar_ast.specs.declared.link.Link.{Link}
use Rattle.cedar_files.specs.LinksFile.{HaveLinkFault}
use Rattle.cedar_files.specs.Unread.{IfRefused}
use Rattle.cedar_files.proofs.PolicyFiles.{of_json, of_link}
use Rattle.cedar_files.proofs.reading_policies.policies_of_json.Goals as goal

pub returns-in-Err-clause-refused : goal.returns-in-Err-clause-refused
returns-in-Err-clause-refused c =
    of_json c.args.language c.args.bytes.now c.in-Err.fault c.in-Err.ensures.fault c.in-Err.ensures.only c.refusal_of_json.result c.refusal_of_json.ensures.refused

pub returns-clause-refused : goal.returns-clause-refused
returns-clause-refused c =
    of_link c.args.language c.args.bytes.now _ _ c.in-Ok.ensures.found c.in-Err-enter_links_of.unread
    (subst (λ (links : List Link). IfRefused c.in-Err-enter_links_of.unread (λ refusal. HaveLinkFault c.in-Ok.file.policies links refusal.number × (refusal.offset ≡ None))) c.deref.ensures.value c.in-Err-enter_links_of.ensures.refused)
