use Rattle.std.proofs.Common.{◌≡◌, [], ◌∷◌, ◌++◌, refl, ap, subst}
use Rattle.std.specs.List.{FoldsTo}
use Rattle.logic.specs.Signs.{'open', 'close'}
use Rattle.logic.specs.Text.{text}
use Rattle.formula.specs.View.{formula}
use Rattle.formula.proofs.Sent.{unmoved, then_byte}
use Rattle.formula.proofs.text.FormulaSpell.+spell.Goals as goal

pub returns-then-is_closed : goal.returns-then-is_closed
returns-then-is_closed g t c =
    unmoved g.S.Sink.put_gives (text (formula c.args.self.now)) c.args.sink.now (c.is_closed.ensures c.if-is_closed.true)

pub returns-in-Binary : goal.returns-in-Binary
returns-in-Binary g t c =
    let gives = g.S.Sink.put_gives in
    let a = text (formula c.deref-in-Binary.result.now) in
    let b = text (formula c.deref-in-Binary-2.result.now) in
    let rest = then_byte gives b 'close' [] _ _ _ _ c.spell-in-Binary-2.ensures c.put-in-Binary-3.ensures refl in
    let inner = then_byte gives a c.sign.result (b ++ ('close' ∷ [])) _ _ _ _ c.spell-in-Binary.ensures c.put-in-Binary-2.ensures rest in
    let i = ap formula c.in-Binary.is in
    let k = c.sign.ensures in
    let e : 'open' ∷ (a ++ (c.sign.result ∷ (b ++ ('close' ∷ [])))) ≡ text (formula c.args.self.now) = cc in
    subst (λ bytes. FoldsTo gives c.args.sink.now bytes c.put-in-Binary-3.new.self) e (_, c.put-in-Binary.ensures, inner)
