use Rattle.logic.specs.Text.{most_parts, most_levels}
use Rattle.logic.specs.Reading.{read_term}
use Rattle.formula.specs.View.{term}
use Rattle.fault.specs.declared.fault.Source.{Source}
use Rattle.reader.proofs.Told.{term_told}
use Rattle.reader.proofs.Whole.{told_whole}
use Rattle.reader.proofs.read_term.Goals as goal

pub returns : goal.returns
returns c =
    let n = c.new-reader.ensures in
    let all = told_whole term (read_term most_parts most_levels) c.args.bytes.now Source.Term _ _ _ _ n.0 n.1 n.2 n.3 c.term-taken.ensures c.alone.ensures in
    term_told c.args.bytes.now _ all
