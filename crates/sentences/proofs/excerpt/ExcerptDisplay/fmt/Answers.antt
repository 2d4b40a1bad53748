use Rattle.std.proofs.Common.{[], ap, ◌∙◌}
use Rattle.std.specs.Fmt.{styled_text}
use Rattle.std.proofs.Output.{has_written_of_eq}
use Rattle.sentences.specs.Shown.{excerpt_at}
use Rattle.sentences.proofs.Excerpts.{blanks, excerpt_lines}
use Rattle.sentences.proofs.excerpt.ExcerptDisplay.fmt.Goals as goal

pub returns-clause-writes : goal.returns-clause-writes
returns-clause-writes g c plain ok =
    let indent = ap (λ s. styled_text s []) c.laid_out.ensures ∙ blanks _ in
    let lines = excerpt_lines c.args.self.now.sentence.now _ _ _ _ _ _ c.around-window.ensures c.mark-before.ensures c.mark-behind.ensures indent in
    has_written_of_eq _ _ _ _ _ (lines ∙ ap (excerpt_at _) c.min-place.ensures) (c.write.ensures.writes plain ok)
