use Rattle.std.proofs.Common.{◌≡◌, sym, ◌∙◌}
use Rattle.cedar_text.specs.Lexeme.{lexeme, lexemes}
use Rattle.cedar_text.proofs.NormalSteps.{last_comma, other_token}
use Rattle.cedar_text.proofs.normal.Walk.pass.Goals as goal

pub returns-then-is_last_comma : goal.returns-then-is_last_comma
returns-then-is_last_comma c ts e =
    let last = sym c.is_last_comma.ensures ∙ c.if-is_last_comma.true in
    last_comma (lexemes c.args.self.now.found.items) c.args.self.now.before c.args.self.now.lists.items (lexeme c.args.token.now) c.args.next ts e (rw (sym c.deref.ensures.value) last)

pub returns : goal.returns
returns c ts e =
    let other = sym c.is_last_comma.ensures ∙ c.if-is_last_comma.false in
    let h = other_token (lexemes c.args.self.now.found.items) c.args.self.now.before c.args.self.now.lists.items (lexeme c.args.token.now) c.args.next ts e (rw (sym c.deref.ensures.value) other) in
    rw (c.in_ok-push_normal.ensures, c.after-self.ensures, c.normal_kind.ensures, c.in_ok-open_with.ensures) h
