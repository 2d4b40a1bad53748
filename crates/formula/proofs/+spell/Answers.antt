use Rattle.std.proofs.Common.{[], ◌∷◌, ◌++◌, refl}
use Rattle.logic.specs.Signs.{'comma', 'close'}
use Rattle.logic.specs.Text.{term_text}
use Rattle.formula.specs.View.{term}
use Rattle.formula.proofs.Sent.{unmoved, then_byte}
use Rattle.formula.proofs.+spell.Goals as goal

pub text::TermSpell::spell-returns-then-is_closed : goal.text::TermSpell::spell-returns-then-is_closed
text::TermSpell::spell-returns-then-is_closed g t c =
    unmoved g.S.Sink.put_gives (term_text (term c.args.self.now)) c.args.sink.now (c.is_closed.ensures c.if-is_closed.true)

pub tree::Term::enclosed-returns : goal.tree::Term::enclosed-returns
tree::Term::enclosed-returns g t c =
    let inner = term_text (term c.args.self.now) in
    (_, c.put.ensures, then_byte g.S.Sink.put_gives inner 'close' [] _ _ _ _ c.spell.ensures c.put-2.ensures refl)

pub tree::Term::paired-returns : goal.tree::Term::paired-returns
tree::Term::paired-returns g t c =
    let gives = g.S.Sink.put_gives in
    let first = term_text (term c.args.self.now) in
    let second = term_text (term c.args.other.now) in
    let rest = then_byte gives second 'close' [] _ _ _ _ c.spell-2.ensures c.put-3.ensures refl in
    (_, c.put.ensures, then_byte gives first 'comma' (second ++ ('close' ∷ [])) _ _ _ _ c.spell.ensures c.put-2.ensures rest)
