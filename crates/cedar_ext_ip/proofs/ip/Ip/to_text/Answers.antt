use Rattle.std.proofs.Common.{◌≡◌, ap, ◌+◌, ◌*◌, ◌^◌, subst, ◌∙◌, string_bytes}
use Rattle.std.specs.Net.Text.{hex_groups_text}
use Rattle.cedar_ext_ip.specs.Texts.{IsIp}
use Rattle.cedar_ext_ip.specs.Private.Written.{groups_of, written}
use Rattle.cedar_ext_ip.proofs.WrittenTexts.{weaker, four_is, six_is}
use Rattle.cedar_ext_ip.proofs.ip.Ip.to_text.Goals as goal

pub returns-in-V4 : goal.returns-in-V4
returns-in-V4 c =
    weaker _ _ _ (λ s is. subst (IsIp (string_bytes s)) c.self.view_is (four_is c.self.inside c.self.invariant c.in-V4.is (string_bytes s) is)) c.four_text.ensures

pub returns-in-V6 : goal.returns-in-V6
returns-in-V6 c =
    let halves = ap (λ high. hex_groups_text (groups_of high c.joined-in-V6.result)) c.joined.ensures.number ∙ ap (λ low. hex_groups_text (groups_of (c.self.inside.first * 2 ^ 32 + c.self.inside.second) low)) c.joined-in-V6.ensures.number in
    weaker _ _ _
    (λ s is. subst (IsIp (string_bytes s)) c.self.view_is (six_is c.self.inside c.self.invariant c.in-V6.is (string_bytes s) (is ∙ ap (written 128 c.self.inside.prefix) halves)))
    c.six_text.ensures
